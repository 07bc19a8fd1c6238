use Rattle.std.proofs.Common.{◌≡◌, ◌∙◌, [], ◌∷◌, ◌++◌, None, map, sym, ap, subst}
use Rattle.std.specs.List.{list_any}
use Rattle.std.specs.Map.{lookup}
use Rattle.std.proofs.lemmas.List.{map-append}
use Rattle.indexmap.proofs.CallerLemmas.{insert_entry-new}
use Rattle.il_parse.specs.SameTypes.{has_signature}
use Rattle.il_parse.specs.Signatures.{same_signature, method_of, AreCounted}
use Rattle.il_parse.proofs.PlaceLemmas.{none_of}
use Rattle.il_parse.proofs.SignatureLemmas.{found_signature, counted_push}
use Rattle.il_parse.proofs.member_lists.Methods.add.Goals as goal

pub invariant_of-self-2 : goal.invariant_of-self-2
invariant_of-self-2 c =
    let none : lookup (same_signature c.args.signature) c.self.inside.known.entries ≡ None =
    none_of (lookup (same_signature c.args.signature) c.self.inside.known.entries)
    (found_signature c.args.signature c.self.inside.known.entries c.self.invariant
    ∙ ap (list_any (has_signature c.args.signature.name c.args.signature.vars c.args.signature.params c.args.signature.result)) c.self.view_is ∙ c.requires.new) in
    subst AreCounted (sym ((c.in_ok-insert.ensures {u = tt}).entries ∙ insert_entry-new same_signature c.self.inside.known c.args.signature c.args.rest none))
    (counted_push c.self.inside.known.entries (c.args.signature, c.args.rest) c.self.invariant c.requires.counted)

pub returns-clause-ok : goal.returns-clause-ok
returns-clause-ok c =
    let none : lookup (same_signature c.args.signature) c.self.inside.known.entries ≡ None =
    none_of (lookup (same_signature c.args.signature) c.self.inside.known.entries)
    (found_signature c.args.signature c.self.inside.known.entries c.self.invariant
    ∙ ap (list_any (has_signature c.args.signature.name c.args.signature.vars c.args.signature.params c.args.signature.result)) c.self.view_is ∙ c.requires.new) in
    ap (map method_of) ((c.in_ok-insert.ensures {u = tt}).entries ∙ insert_entry-new same_signature c.self.inside.known c.args.signature c.args.rest none)
    ∙ map-append method_of c.self.inside.known.entries ((c.args.signature, c.args.rest) ∷ [])
    ∙ ap (λ ms. ms ++ method_of (c.args.signature, c.args.rest) ∷ []) c.self.view_is
