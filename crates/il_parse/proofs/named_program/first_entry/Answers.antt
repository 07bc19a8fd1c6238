use Rattle.std.proofs.Common.{◌≡◌, ◌∙◌, ◌+◌, length, drop, Ok, Err, sym, ap, subst, rules, arith}
use Rattle.std.proofs.lemmas.Grind.{common_steps}
use Rattle.il_model.specs.Bounds.{all_methods, methods_of}
use Rattle.il_model.specs.LookUp.{entries_from}
use Rattle.il_parse.specs.Looking.{Looks}
use Rattle.il_parse.specs.NamedClasses.{first_entry}
use Rattle.il_parse.proofs.EntryLemmas.{class_found, class_passed, classes_over}
use Rattle.il_parse.proofs.named_program.first_entry.Goals as goal

pub returns-in-Some : goal.returns-in-Some
returns-in-Some c =
    let counted : c.loop-class.before + c.in-Some.place ≡ c.in_ok-number.number = first_of (search rules, grind (arith, common_steps)) in
    c.loop-class.invariant
    ∙ class_found c.loop-class.before c.args.classes.now c.loop-class.class-index c.in-Some.place c.class-item.result c.as_slice-members.result.now
    (first_of (search rules, grind (arith, common_steps))) c.loop-class-test.true c.class-item.is (first_of (search rules, grind (arith, common_steps)))
    ∙ ap Ok counted

pub loop-class-preserved : goal.loop-class-preserved
loop-class-preserved c =
    let counted : c.loop-class.before + length (methods_of c.as_slice-members.result.now) ≡ c.in_ok-before.before = first_of (search rules, grind (arith, common_steps)) in
    c.loop-class.invariant
    ∙ ap first_entry (class_passed c.loop-class.before c.args.classes.now c.loop-class.class-index c.class-item.result c.as_slice-members.result.now
    (first_of (search rules, grind (arith, common_steps))) c.loop-class-test.true c.class-item.is (first_of (search rules, grind (arith, common_steps))))
    ∙ ap (λ n. first_entry (entries_from n (all_methods (drop (c.loop-class.class-index + 1) c.args.classes.now)))) counted

pub returns : goal.returns
returns c =
    subst (λ e. Looks (first_entry (entries_from 12 (all_methods c.args.classes.now))) (Err e)) (sym c.no_entry.ensures)
    (c.loop-class.invariant ∙ ap first_entry (classes_over c.loop-class.before c.args.classes.now c.loop-class.class-index c.loop-class-test.false))
