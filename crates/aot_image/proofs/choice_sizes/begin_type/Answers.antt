use Rattle.std.proofs.Common.{◌≡◌, ◌-◌, ◌&&◌, Bool, true, false, ◌∷◌, List, ℕ, Option, Some, Result, Err, reverse, take, sym, subst, rules, arith}
use Rattle.std.proofs.lemmas.Grind.{common_steps}
use Rattle.aot_image.specs.declared.choice_start.Start.TheVariants as start
use Rattle.aot_image.specs.declared.choice_read_error.ReadError.{ReadError}
use Rattle.aot_image.specs.declared.choice_sizes.Extent.{Extent}
use Rattle.aot_image.proofs.ChoosingTypeLemmas.{handed_on}
use Rattle.aot_image.specs.ChoosingTypes.{Reads, expect, start_of, word_len}
use Rattle.aot_image.specs.ChoosingSizes.{at, extent_with, Goes, Steps}
use Rattle.aot_image.proofs.ChoosingSizesLemmas.{no_type, scalar_step, variable_step, class_step, applied_err, applied_step}
use Rattle.aot_image.proofs.choice_sizes.begin_type.Goals as goal

pub returns-in-NoType : goal.returns-in-NoType
returns-in-NoType c =
    let is : start.NoType ≡ start_of c.args.program.now (take (word_len c.args.cursor.now) c.args.cursor.now) = first_of (search rules, grind (arith, common_steps)) in
    no_type c.args.program.now c.args.cursor.now (reverse c.args.more.now.items) c.args.extent.now is

pub returns-in-Scalar : goal.returns-in-Scalar
returns-in-Scalar c =
    let is : start.Scalar c.in-Scalar.field-0 ≡ start_of c.args.program.now (take (word_len c.args.cursor.now) c.args.cursor.now) = first_of (search rules, grind (arith, common_steps)) in
    subst (λ (e : Extent). Steps c.args.program.now true (at c.args.cursor.now (reverse c.args.more.now.items) c.args.extent.now) false (at c.take_word-word.new.self (reverse c.args.more.now.items) e)) (sym c.with_position.ensures)
    (scalar_step c.args.program.now c.args.cursor.now (reverse c.args.more.now.items) c.args.extent.now c.in-Scalar.field-0 c.take_word-word.new.self c.take_word-word.ensures.rest is)

pub returns-in-Variable : goal.returns-in-Variable
returns-in-Variable c =
    let is : start.Variable ≡ start_of c.args.program.now (take (word_len c.args.cursor.now) c.args.cursor.now) = first_of (search rules, grind (arith, common_steps)) in
    subst (λ (e : Extent). Steps c.args.program.now true (at c.args.cursor.now (reverse c.args.more.now.items) c.args.extent.now) false (at c.take_word-word.new.self (reverse c.args.more.now.items) e)) (sym c.with_position-in-Variable.ensures)
    (variable_step c.args.program.now c.args.cursor.now (reverse c.args.more.now.items) c.args.extent.now c.take_word-word.new.self c.take_word-word.ensures.rest is)

pub returns-then-arity-eq0 : goal.returns-then-arity-eq0
returns-then-arity-eq0 c =
    let is : start.Class c.in-Class.field-0 c.in-Class.arity ≡ start_of c.args.program.now (take (word_len c.args.cursor.now) c.args.cursor.now) = first_of (search rules, grind (arith, common_steps)) in
    subst (λ (e : Extent). Steps c.args.program.now true (at c.args.cursor.now (reverse c.args.more.now.items) c.args.extent.now) false (at c.take_word-word.new.self (reverse c.args.more.now.items) e)) (sym c.with_position-in-Class.ensures)
    (class_step c.args.program.now c.args.cursor.now (reverse c.args.more.now.items) c.args.extent.now c.in-Class.field-0 c.in-Class.arity c.take_word-word.new.self c.if-arity-eq0.true c.take_word-word.ensures.rest is)

pub returns-in_err-expect-in-Class : goal.returns-in_err-expect-in-Class
returns-in_err-expect-in-Class c =
    let is : start.Class c.in-Class.field-0 c.in-Class.arity ≡ start_of c.args.program.now (take (word_len c.args.cursor.now) c.args.cursor.now) = first_of (search rules, grind (arith, common_steps)) in
    let err : c.from_residual.result ≡ Err c.in_err-expect-in-Class.field-0.0 = handed_on c.from_residual.result c.in_err-expect-in-Class.field-0.0 c.from_residual.ensures in
    let reads : Reads (expect 60 c.take_word-word.new.self) (Err c.in_err-expect-in-Class.field-0.0) c.expect.new.self =
    subst (λ (r : Result (Unit {0}) ReadError). Reads (expect 60 c.take_word-word.new.self) r c.expect.new.self) (c.in_err-expect-in-Class.was {u = tt}) c.expect.ensures in
    subst (λ (r : Result (Option Bool) ReadError). Goes c.args.program.now true (at c.args.cursor.now (reverse c.args.more.now.items) c.args.extent.now) r (at c.expect.new.self (reverse c.args.more.now.items) c.with_position-in-Class.result)) (sym err)
    (applied_err c.args.program.now c.args.cursor.now (reverse c.args.more.now.items) c.args.extent.now c.in-Class.field-0 c.in-Class.arity c.take_word-word.new.self c.expect.new.self c.with_position-in-Class.result c.in_err-expect-in-Class.field-0.0
    c.if-arity-eq0.false c.take_word-word.ensures.rest is reads)

pub returns-in_ok-put-in-Class : goal.returns-in_ok-put-in-Class
returns-in_ok-put-in-Class c =
    let is : start.Class c.in-Class.field-0 c.in-Class.arity ≡ start_of c.args.program.now (take (word_len c.args.cursor.now) c.args.cursor.now) = first_of (search rules, grind (arith, common_steps)) in
    let marks : expect 60 c.take_word-word.new.self ≡ Some (tt, c.expect.new.self) = first_of (search rules, grind (arith, common_steps)) in
    let put : reverse c.put.new.more.items ≡ (c.in-Class.arity - 1) ∷ reverse c.args.more.now.items = first_of (search rules, grind (arith, common_steps)) in
    subst (λ (e : Extent). Steps c.args.program.now true (at c.args.cursor.now (reverse c.args.more.now.items) c.args.extent.now) true (at c.expect.new.self (reverse c.put.new.more.items) e)) (sym c.with_position-in-Class.ensures)
    (subst (λ (ks : List ℕ). Steps c.args.program.now true (at c.args.cursor.now (reverse c.args.more.now.items) c.args.extent.now) true (at c.expect.new.self ks (extent_with (c.args.extent.now.room - 1) (c.args.extent.now.closed && true)))) (sym put)
    (applied_step c.args.program.now c.args.cursor.now (reverse c.args.more.now.items) c.args.extent.now c.in-Class.field-0 c.in-Class.arity c.take_word-word.new.self c.expect.new.self c.if-arity-eq0.false c.take_word-word.ensures.rest is marks))
