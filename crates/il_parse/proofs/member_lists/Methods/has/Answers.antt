use Rattle.std.proofs.Common.{◌∙◌, ap}
use Rattle.std.specs.List.{list_any}
use Rattle.il_parse.specs.SameTypes.{has_signature}
use Rattle.il_parse.proofs.SignatureLemmas.{found_signature}
use Rattle.il_parse.proofs.member_lists.Methods.has.Goals as goal

pub returns : goal.returns
returns c =
    c.contains_key.ensures ∙ found_signature c.args.signature.now c.self.inside.known.entries c.self.invariant
    ∙ ap (list_any (has_signature c.args.signature.now.name c.args.signature.now.vars c.args.signature.now.params c.args.signature.now.result)) c.self.view_is
