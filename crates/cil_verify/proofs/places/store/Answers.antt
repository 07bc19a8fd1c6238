use Rattle.std.proofs.Common.{◌≡◌, ◌∙◌, sym, ap, reverse, Option, Some}
use Rattle.std.specs.Option.{option_copied}
use Rattle.il_model.specs.declared.method.PType.{PType}
use Rattle.cil_verify.specs.Places.{view_of}
use Rattle.cil_verify.specs.Admits.{store_place}
use Rattle.cil_verify.proofs.places.store.Goals as goal

pub returns : goal.returns
returns c =
    let there : option_copied c.args.place ≡ Some c.in-Some.place.now = ap option_copied c.in-Some.is in
    (c.in_ok-take_for_place.ensures {u = tt}).gives Some
    ∙ ap (λ (o : Option PType). store_place (view_of c.args.program.now c.args.method.now) o (reverse c.args.stack.now)) (sym there)
