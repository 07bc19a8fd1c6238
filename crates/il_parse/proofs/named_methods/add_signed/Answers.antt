use Rattle.std.proofs.Common.{◌≡◌, ◌∙◌, Ok, sym, rules, arith}
use Rattle.std.proofs.lemmas.Grind.{common_steps}
use Rattle.il_parse.specs.NamedTypes.{vars_named}
use Rattle.il_parse.proofs.VarLemmas.{vars_length}
use Rattle.il_parse.proofs.named_methods.add_signed.Goals as goal

pub add-requires-clause-counted : goal.add-requires-clause-counted
add-requires-clause-counted c =
    let e : vars_named c.args.scope.now c.args.m.now.vars ≡ Ok c.in_ok-vars.vars = first_of (search rules, grind (arith, common_steps)) in
    c.requires ∙ sym (vars_length c.args.scope.now c.args.m.now.vars c.in_ok-vars.vars e)
