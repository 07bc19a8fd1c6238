use Rattle.std.proofs.Common.{◌≡◌, length, Ok, Err, sym, subst, rules, arith}
use Rattle.std.proofs.lemmas.Grind.{common_steps}
use Rattle.il_model.specs.LookUp.{scope_of}
use Rattle.il_parse.specs.declared.signatures.Signature.{Signature}
use Rattle.il_parse.specs.NamedTypes.{result_named, params_named}
use Rattle.il_parse.specs.Gathering.{LooksInto, added, refused_method, signature_of}
use Rattle.il_parse.proofs.GatheringLemmas.{method_is, method_signed, method_refused, into_err}
use Rattle.il_parse.proofs.named_methods.add_method.Goals as goal

pub returns-in_err-given : goal.returns-in_err-given
returns-in_err-given c =
    let e = method_is c.args.known.now c.args.owner c.args.of_class c.args.methods.now c.args.begun c.args.m.now in
    first_of (search rules, grind (arith, common_steps))

pub returns-in-Ok : goal.returns-in-Ok
returns-in-Ok c =
    let scope : c.scope-scope.result ≡ scope_of c.args.known.now c.args.of_class (length c.args.m.now.vars) = first_of (search rules, grind (arith, common_steps)) in
    let result_is : result_named c.scope-scope.result c.args.m.now.result ≡ Ok c.in_ok-given.given = first_of (search rules, grind (arith, common_steps)) in
    let params_are : params_named c.scope-scope.result c.args.m.now.params ≡ Ok c.in-Ok.params = first_of (search rules, grind (arith, common_steps)) in
    let signature : Signature = record { name = c.in_ok-name-in-Ok.name; vars = c.len-in-Ok.result; params = c.in-Ok.params; result = c.in_ok-given.given } in
    let signed : signature ≡ signature_of c.args.m.now c.in-Ok.params c.in_ok-given.given = first_of (search rules, grind (arith, common_steps)) in
    let e = method_signed c.args.known.now c.args.owner c.args.of_class c.args.methods.now c.args.begun c.args.m.now c.scope-scope.result c.literals-literals.result.now
    c.in_ok-given.given c.in-Ok.params signature scope (first_of (search rules, grind (arith, common_steps))) signed result_is params_are in
    subst (λ look. LooksInto (added c.args.methods.now look) c.add_signed.result c.add_signed.new.methods) (sym e) c.add_signed.ensures

pub returns-in-Err-Fault : goal.returns-in-Err-Fault
returns-in-Err-Fault c =
    let scope : c.scope-scope.result ≡ scope_of c.args.known.now c.args.of_class (length c.args.m.now.vars) = first_of (search rules, grind (arith, common_steps)) in
    let result_is : result_named c.scope-scope.result c.args.m.now.result ≡ Ok c.in_ok-given.given = first_of (search rules, grind (arith, common_steps)) in
    let params_are : params_named c.scope-scope.result c.args.m.now.params ≡ Err c.in-Err-Fault.fault = first_of (search rules, grind (arith, common_steps)) in
    let e = method_refused c.args.known.now c.args.owner c.args.of_class c.args.methods.now c.args.begun c.args.m.now c.scope-scope.result c.in_ok-given.given c.in-Err-Fault.fault scope result_is params_are in
    subst (λ look. LooksInto (added c.args.methods.now look) (Err c.refusal.result) c.args.methods.now) (sym e)
    (into_err c.args.methods.now c.args.methods.now (refused_method c.scope-scope.result c.args.m.now c.in-Err-Fault.fault) c.refusal.result c.refusal.ensures)
