use Rattle.std.proofs.Common.{◌≡◌, ◌∙◌, ◌-◌, slice_get, Some, sym, ap}
use Rattle.std.specs.Option.{option_copied}
use Rattle.il_parse.proofs.ScopeLemmas.{arity_library, arity_own}
use Rattle.il_parse.proofs.scope.arity_at.Goals as goal

pub returns-then-number-lt-LIBRARY_CLASSES : goal.returns-then-number-lt-LIBRARY_CLASSES
returns-then-number-lt-LIBRARY_CLASSES c = sym (arity_library c.args.classes.now c.args.number c.if-number-lt-LIBRARY_CLASSES.true)

pub returns-in-Some : goal.returns-in-Some
returns-in-Some c =
    let is : slice_get c.args.classes.now (c.args.number - 13) ≡ Some c.in-Some.class.now = sym c.class_at.ensures ∙ ap option_copied c.in-Some.is in
    c.len.ensures ∙ sym (arity_own c.args.classes.now c.args.number c.in-Some.class.now c.if-number-lt-LIBRARY_CLASSES.false is)
