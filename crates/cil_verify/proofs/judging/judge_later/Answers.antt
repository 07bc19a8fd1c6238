use Rattle.std.proofs.Common.{◌≡◌, ◌<◌, ◌≤◌, ℕ, suc, ◌+◌, Some, Ok, Err, Result, length, slice_get, subst, sym, ap, ◌∙◌, arith}
use Rattle.mn_outside.specs.declared.outside.Refused.{Refused}
use Rattle.cil_verify.specs.declared.fault.Where.TheVariants as at
use Rattle.cil_verify.specs.declared.fault.VerifyFault.{VerifyFault}
use Rattle.cil_verify.specs.WellTyped.{HoldAll, later_class_rules}
use Rattle.cil_verify.specs.Judging.{JudgesClasses}
use Rattle.cil_verify.proofs.JudgingLemmas.{each_more, each_all, passes, later_refuses, types_of_first, item_here, handed_on}
use Rattle.cil_verify.proofs.judging.judge_later.Goals as goal

pub later_cause-found-requires-clause-types : goal.later_cause-found-requires-clause-types
later_cause-found-requires-clause-types c = types_of_first c.args.program.now c.requires.first

pub later_cause-found-requires-clause-at : goal.later_cause-found-requires-clause-at
later_cause-found-requires-clause-at c =
    item_here c.args.program.now.classes c.as_slice-classes.result.now c.loop-i.i c.index-classes-i.result c.as_slice-classes.ensures c.loop-i-test.true c.index-classes-i.is

pub loop-i-preserved : goal.loop-i-preserved
loop-i-preserved c =
    let p = c.args.program.now in
    let i = c.loop-i.i in
    let item = c.index-classes-i.result in
    let here : slice_get p.classes i ≡ Some item =
    item_here p.classes c.as_slice-classes.result.now i item c.as_slice-classes.ensures c.loop-i-test.true c.index-classes-i.is in
    let holds : HoldAll later_class_rules p i item =
    passes p i c.later_cause-found.result c.refuse.result later_class_rules item c.in_ok-refuse.field-0 (at.Class i) c.refuse.ensures (c.in_ok-refuse.was {u = tt}) c.later_cause-found.ensures in
    each_more (HoldAll later_class_rules p) p.classes i (i + 1) item (omega arith) here c.loop-i.invariant holds

pub returns-in_err-refuse : goal.returns-in_err-refuse
returns-in_err-refuse c =
    let p = c.args.program.now in
    let i = c.loop-i.i in
    let item = c.index-classes-i.result in
    let here : slice_get p.classes i ≡ Some item =
    item_here p.classes c.as_slice-classes.result.now i item c.as_slice-classes.ensures c.loop-i-test.true c.index-classes-i.is in
    let err : c.from_residual.result ≡ Err c.in_err-refuse.field-0.0 = handed_on c.from_residual.result c.in_err-refuse.field-0.0 c.from_residual.ensures in
    subst (λ (r : Result (Unit {0}) (Refused VerifyFault)). JudgesClasses later_class_rules p r) (sym err)
    (later_refuses p i c.later_cause-found.result c.refuse.result item c.in_err-refuse.field-0.0 here c.requires.first c.loop-i.invariant c.refuse.ensures (c.in_err-refuse.was {u = tt}) c.later_cause-found.ensures)

pub returns : goal.returns
returns c =
    let p = c.args.program.now in
    let over : length p.classes ≤ c.loop-i.i = omega (arith, c.loop-i-test.false, ap length c.as_slice-classes.ensures) in
    each_all (HoldAll later_class_rules p) p.classes c.loop-i.i over c.loop-i.invariant
