use Rattle.std.proofs.Common.{◌≡◌, ◌∙◌, ◌-◌, ◌&&◌, [], Bool, true, false, ◌∷◌, List, ℕ, Option, Some, None, Result, Err, is_some, reverse, sym, subst, rules, arith}
use Rattle.std.proofs.lemmas.Grind.{common_steps}
use Rattle.aot_image.specs.declared.choice_read_error.ReadError.{ReadError}
use Rattle.aot_image.specs.declared.choice_sizes.Extent.{Extent}
use Rattle.aot_image.proofs.ChoosingTypeLemmas.{handed_on}
use Rattle.aot_image.specs.ChoosingTypes.{Reads, expect, mark_before, behind_brackets}
use Rattle.aot_image.specs.ChoosingSizes.{at, extent_with, left_at, Goes, Steps}
use Rattle.aot_image.proofs.ChoosingSizesLemmas.{brackets_step, end_step, mark_err, last_step, more_step}
use Rattle.aot_image.proofs.choice_sizes.end_type.Goals as goal

pub returns-then-eat_brackets : goal.returns-then-eat_brackets
returns-then-eat_brackets c = λ program.
    let some : is_some (behind_brackets c.args.cursor.now) ≡ true = sym c.eat_brackets.ensures.found ∙ c.if-eat_brackets.true in
    subst (λ (e : Extent). Steps program false (at c.args.cursor.now (reverse c.args.more.now.items) c.args.extent.now) false (at c.eat_brackets.new.self (reverse c.args.more.now.items) e)) (sym c.with_position.ensures)
    (subst (λ (bytes : List ℕ). Steps program false (at c.args.cursor.now (reverse c.args.more.now.items) c.args.extent.now) false (at bytes (reverse c.args.more.now.items) (extent_with (c.args.extent.now.room - 1) (c.args.extent.now.closed && true)))) (sym c.eat_brackets.ensures.rest)
    (brackets_step program c.args.cursor.now (reverse c.args.more.now.items) c.args.extent.now some))

pub returns-in_err-expect-in-Some : goal.returns-in_err-expect-in-Some
returns-in_err-expect-in-Some c = λ program.
    let none : is_some (behind_brackets c.args.cursor.now) ≡ false = sym c.eat_brackets.ensures.found ∙ c.if-eat_brackets.false in
    let old : reverse c.args.more.now.items ≡ c.in-Some.count ∷ reverse c.take.new.more.items = first_of (search rules, grind (arith, common_steps)) in
    let err : c.from_residual.result ≡ Err c.in_err-expect-in-Some.field-0.0 = handed_on c.from_residual.result c.in_err-expect-in-Some.field-0.0 c.from_residual.ensures in
    let reads : Reads (expect (mark_before c.in-Some.count) c.eat_brackets.new.self) (Err c.in_err-expect-in-Some.field-0.0) c.expect.new.self =
    subst (λ (r : Result (Unit {0}) ReadError). Reads (expect (mark_before c.in-Some.count) c.eat_brackets.new.self) r c.expect.new.self) (c.in_err-expect-in-Some.was {u = tt})
    (subst (λ (m : ℕ). Reads (expect m c.eat_brackets.new.self) c.expect.result c.expect.new.self) c.mark_before.ensures c.expect.ensures) in
    subst (λ (r : Result (Option Bool) ReadError). Goes program false (at c.args.cursor.now (reverse c.args.more.now.items) c.args.extent.now) r (at c.expect.new.self (reverse c.take.new.more.items) c.args.extent.now)) (sym err)
    (subst (λ (ks : List ℕ). Goes program false (at c.args.cursor.now ks c.args.extent.now) (Err c.in_err-expect-in-Some.field-0.0) (at c.expect.new.self (reverse c.take.new.more.items) c.args.extent.now)) (sym old)
    (mark_err program c.args.cursor.now c.eat_brackets.new.self c.args.extent.now none c.eat_brackets.ensures.rest c.in-Some.count (reverse c.take.new.more.items) (at c.expect.new.self (reverse c.take.new.more.items) c.args.extent.now) c.expect.new.self c.in_err-expect-in-Some.field-0.0 reads))

pub returns-then-count-eq0 : goal.returns-then-count-eq0
returns-then-count-eq0 c = λ program.
    let none : is_some (behind_brackets c.args.cursor.now) ≡ false = sym c.eat_brackets.ensures.found ∙ c.if-eat_brackets.false in
    let old : reverse c.args.more.now.items ≡ c.in-Some.count ∷ reverse c.take.new.more.items = first_of (search rules, grind (arith, common_steps)) in
    let marks : expect (mark_before c.in-Some.count) c.eat_brackets.new.self ≡ Some (tt, c.expect.new.self) = first_of (search rules, grind (arith, common_steps)) in
    subst (λ (ks : List ℕ). Steps program false (at c.args.cursor.now ks c.args.extent.now) false (at c.expect.new.self (reverse c.take.new.more.items) c.args.extent.now)) (sym old)
    (last_step program c.args.cursor.now c.eat_brackets.new.self c.args.extent.now none c.eat_brackets.ensures.rest c.in-Some.count (reverse c.take.new.more.items) c.expect.new.self c.if-count-eq0.true marks)

pub returns-in_ok-put-in-Some : goal.returns-in_ok-put-in-Some
returns-in_ok-put-in-Some c = λ program.
    let none : is_some (behind_brackets c.args.cursor.now) ≡ false = sym c.eat_brackets.ensures.found ∙ c.if-eat_brackets.false in
    let old : reverse c.args.more.now.items ≡ c.in-Some.count ∷ reverse c.take.new.more.items = first_of (search rules, grind (arith, common_steps)) in
    let marks : expect (mark_before c.in-Some.count) c.eat_brackets.new.self ≡ Some (tt, c.expect.new.self) = first_of (search rules, grind (arith, common_steps)) in
    let put : reverse c.put.new.more.items ≡ (c.in-Some.count - 1) ∷ reverse c.take.new.more.items = first_of (search rules, grind (arith, common_steps)) in
    subst (λ (ks : List ℕ). Steps program false (at c.args.cursor.now ks c.args.extent.now) true (at c.expect.new.self (reverse c.put.new.more.items) c.args.extent.now)) (sym old)
    (subst (λ (ks : List ℕ). Steps program false (at c.args.cursor.now (c.in-Some.count ∷ reverse c.take.new.more.items) c.args.extent.now) true (at c.expect.new.self ks c.args.extent.now)) (sym put)
    (more_step program c.args.cursor.now c.eat_brackets.new.self c.args.extent.now none c.eat_brackets.ensures.rest c.in-Some.count (reverse c.take.new.more.items) c.expect.new.self c.if-count-eq0.false marks))

pub returns-then-is_at_end : goal.returns-then-is_at_end
returns-then-is_at_end c = λ program most enough.
    let none : is_some (behind_brackets c.args.cursor.now) ≡ false = sym c.eat_brackets.ensures.found ∙ c.if-eat_brackets.false in
    let old : reverse c.args.more.now.items ≡ [] = first_of (search rules, grind (arith, common_steps)) in
    subst (λ (ks : List ℕ). left_at program most false (at c.args.cursor.now ks c.args.extent.now) ≡ Some c.args.extent.now) (sym old)
    (end_step program c.args.cursor.now c.eat_brackets.new.self c.args.extent.now none c.eat_brackets.ensures.rest true (sym c.if-is_at_end.true ∙ c.is_at_end.ensures) most)

pub returns-else-is_at_end : goal.returns-else-is_at_end
returns-else-is_at_end c = λ program most enough.
    let none : is_some (behind_brackets c.args.cursor.now) ≡ false = sym c.eat_brackets.ensures.found ∙ c.if-eat_brackets.false in
    let old : reverse c.args.more.now.items ≡ [] = first_of (search rules, grind (arith, common_steps)) in
    subst (λ (ks : List ℕ). left_at program most false (at c.args.cursor.now ks c.args.extent.now) ≡ None) (sym old)
    (end_step program c.args.cursor.now c.eat_brackets.new.self c.args.extent.now none c.eat_brackets.ensures.rest false (sym c.if-is_at_end.false ∙ c.is_at_end.ensures) most)
