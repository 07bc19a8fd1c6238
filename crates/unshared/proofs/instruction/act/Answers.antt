use Rattle.std.proofs.Common.{rules, arith, ℕ, List, [], ◌≡◌, ◌∙◌, Ok, Err, ap, sym, subst}
use Rattle.std.proofs.lemmas.Grind.{common_steps}
use Rattle.il_model.specs.Entries.{entries_of}
use Rattle.cil_meaning.specs.Groups.{group_of}
use Rattle.cil_meaning.specs.Meaning.{meaning}
use Rattle.unshared.specs.declared.frames.Done.{Done}
use Rattle.unshared.specs.Acted.{does}
use Rattle.unshared.specs.Faults.{the_fault}
use Rattle.unshared.specs.Going.{did, the_thrown, Keeps, Goes, Throws, Raises}
use Rattle.unshared.specs.Grouped.{the_group}
use Rattle.unshared.specs.Held.{the_frames}
use Rattle.unshared.specs.Listed.{naming_of}
use Rattle.unshared.specs.Searched.{Tells, searched, raised}
use Rattle.unshared.specs.Settled.{settles_from}
use Rattle.unshared.specs.Talk.{Talks}
use Rattle.unshared.proofs.ActLaws.{handed_end, grown_end, ends_unopened, ends_settling, ends_doing, ends_going, ends_throwing, ends_raising}
use Rattle.unshared.proofs.instruction.act.Goals as goal

pub returns-in_err-definition-clause-acts : goal.returns-in_err-definition-clause-acts
returns-in_err-definition-clause-acts c = λ later ext.
    handed_end (naming_of later) c.args.replies.now c.args.replies.now (meaning c.args.program.now (the_frames c.args.frames.now)) (the_frames c.args.frames.now) c.from_residual.result c.in_err-definition.field-0.0 c.from_residual.ensures
    (ends_unopened later c.args.program.now c.args.frames.now {A = ⊥} (λ e. absurd e) c.args.replies.now c.args.replies.now (the_frames c.args.frames.now) c.in_err-definition.field-0.0 (c.in_err-definition.ensures {u = tt}))

pub returns-in_err-numbers-clause-acts : goal.returns-in_err-numbers-clause-acts
returns-in_err-numbers-clause-acts c = λ later ext.
    let p = c.args.program.now in
    let f = c.args.frames.now in
    let d = c.in_ok-definition.definition.now in
    let o = c.in_ok-definition.op.now in
    let ys = c.args.replies.now in
    let there_is = c.in_ok-definition.ensures {u = tt} in
    let entries_is : c.as_slice.result.now ≡ entries_of c.args.program.now c.in_ok-definition.op.now = first_of (search rules, grind (arith, common_steps)) in
    handed_end (naming_of later) ys c.settle_all.new.replies (meaning p (the_frames f)) (the_frames f) c.from_residual-in_err-numbers.result c.in_err-numbers.field-0.0 c.from_residual-in_err-numbers.ensures
    (ends_settling later p f c.settle_all.new.trees.kinds ext d o there_is ys {A = List ℕ} (λ numbers. numbers) c.settle_all.new.replies c.settle_all.new.replies (the_frames f) c.in_err-numbers.field-0.0
    (subst (λ es. Talks {A = List ℕ} (λ numbers. numbers) (settles_from p later f.top.method es [] ys) (Err c.in_err-numbers.field-0.0) c.settle_all.new.replies) entries_is ((c.in_err-numbers.ensures {u = tt}).settles later ext)))

pub returns-in_err-done-clause-acts : goal.returns-in_err-done-clause-acts
returns-in_err-done-clause-acts c = λ later ext.
    let p = c.args.program.now in
    let f = c.args.frames.now in
    let d = c.in_ok-definition.definition.now in
    let o = c.in_ok-definition.op.now in
    let ys = c.args.replies.now in
    let there_is = c.in_ok-definition.ensures {u = tt} in
    let entries_is : c.as_slice.result.now ≡ entries_of c.args.program.now c.in_ok-definition.op.now = first_of (search rules, grind (arith, common_steps)) in
    let kinds = c.settle_all.new.trees.kinds in
    let mid = c.settle_all.new.replies in
    let numbers = c.in_ok-numbers.numbers.items in
    let numbers_is : c.as_slice-2.result.now ≡ c.in_ok-numbers.numbers.items = first_of (search rules, grind (arith, common_steps)) in
    let group_is : the_group c.group_of.result ≡ group_of c.in_ok-definition.op.now = first_of (search rules, grind (arith, common_steps)) in
    let settled : settles_from p later f.top.method (entries_of p o) [] ys ≡ Ok (numbers, mid) = subst (λ es. settles_from p later f.top.method es [] ys ≡ Ok (numbers, mid)) entries_is ((c.in_ok-numbers.ensures {u = tt}).settles later ext) in
    handed_end (naming_of later) ys c.does.new.replies (meaning p (the_frames f)) (the_frames c.does.new.frames) c.from_residual-in_err-done.result c.in_err-done.field-0.0 c.from_residual-in_err-done.ensures
    (ends_doing later p f kinds ext d o there_is ys numbers mid settled {A = Done} (did c.does.new.frames) c.does.new.replies c.does.new.replies (the_frames c.does.new.frames) c.in_err-done.field-0.0
    (subst (λ ns. Talks {A = Done} (did c.does.new.frames) (does p kinds d ns (group_of o) f mid) (Err c.in_err-done.field-0.0) c.does.new.replies) numbers_is
    (subst (λ g. Talks {A = Done} (did c.does.new.frames) (does p kinds d c.as_slice-2.result.now g f mid) (Err c.in_err-done.field-0.0) c.does.new.replies) group_is ((c.in_err-done.ensures {u = tt}).acts))))

pub returns-in-Goes-clause-acts : goal.returns-in-Goes-clause-acts
returns-in-Goes-clause-acts c = λ later ext.
    let p = c.args.program.now in
    let f = c.args.frames.now in
    let d = c.in_ok-definition.definition.now in
    let o = c.in_ok-definition.op.now in
    let ys = c.args.replies.now in
    let there_is = c.in_ok-definition.ensures {u = tt} in
    let entries_is : c.as_slice.result.now ≡ entries_of c.args.program.now c.in_ok-definition.op.now = first_of (search rules, grind (arith, common_steps)) in
    let kinds = c.settle_all.new.trees.kinds in
    let mid = c.settle_all.new.replies in
    let numbers = c.in_ok-numbers.numbers.items in
    let numbers_is : c.as_slice-2.result.now ≡ c.in_ok-numbers.numbers.items = first_of (search rules, grind (arith, common_steps)) in
    let group_is : the_group c.group_of.result ≡ group_of c.in_ok-definition.op.now = first_of (search rules, grind (arith, common_steps)) in
    let settled : settles_from p later f.top.method (entries_of p o) [] ys ≡ Ok (numbers, mid) = subst (λ es. settles_from p later f.top.method es [] ys ≡ Ok (numbers, mid)) entries_is ((c.in_ok-numbers.ensures {u = tt}).settles later ext) in
    let is : does p kinds d numbers (group_of o) f mid ≡ Ok (Goes (the_frames c.does.new.frames), c.does.new.replies) =
    ap (λ ns. does p kinds d ns (group_of o) f mid) (sym numbers_is) ∙ ap (λ g. does p kinds d c.as_slice-2.result.now g f mid) (sym group_is) ∙ (c.in_ok-done.ensures {u = tt}).acts ∙ ap (λ x. Ok (did c.does.new.frames x, c.does.new.replies)) c.in-Goes.is in
    ends_going later p f kinds ext d o there_is ys numbers mid settled (the_frames c.does.new.frames) c.does.new.replies is

pub returns-in-Throws-clause-acts : goal.returns-in-Throws-clause-acts
returns-in-Throws-clause-acts c = λ later ext.
    let p = c.args.program.now in
    let f = c.args.frames.now in
    let d = c.in_ok-definition.definition.now in
    let o = c.in_ok-definition.op.now in
    let ys = c.args.replies.now in
    let there_is = c.in_ok-definition.ensures {u = tt} in
    let entries_is : c.as_slice.result.now ≡ entries_of c.args.program.now c.in_ok-definition.op.now = first_of (search rules, grind (arith, common_steps)) in
    let kinds = c.settle_all.new.trees.kinds in
    let mid = c.settle_all.new.replies in
    let numbers = c.in_ok-numbers.numbers.items in
    let numbers_is : c.as_slice-2.result.now ≡ c.in_ok-numbers.numbers.items = first_of (search rules, grind (arith, common_steps)) in
    let group_is : the_group c.group_of.result ≡ group_of c.in_ok-definition.op.now = first_of (search rules, grind (arith, common_steps)) in
    let same : c.does.new.frames ≡ f = subst (λ x. Keeps (Ok x) f c.does.new.frames) c.in-Throws.is ((c.in_ok-done.ensures {u = tt}).kept) in
    let is : does p kinds d numbers (group_of o) f mid ≡ Ok (Throws (the_fault c.in-Throws.fault), c.does.new.replies) =
    ap (λ ns. does p kinds d ns (group_of o) f mid) (sym numbers_is) ∙ ap (λ g. does p kinds d c.as_slice-2.result.now g f mid) (sym group_is) ∙ (c.in_ok-done.ensures {u = tt}).acts ∙ ap (λ x. Ok (did c.does.new.frames x, c.does.new.replies)) c.in-Throws.is in
    grown_end later kinds c.throws.new.trees.kinds ys c.throws.new.replies (meaning p (the_frames f)) (the_frames c.throws.new.frames) c.throws.result c.throws.ensures.grows ext (λ before.
    let settled : settles_from p later f.top.method (entries_of p o) [] ys ≡ Ok (numbers, mid) = subst (λ es. settles_from p later f.top.method es [] ys ≡ Ok (numbers, mid)) entries_is ((c.in_ok-numbers.ensures {u = tt}).settles later before) in
    ends_throwing later p f kinds before d o there_is ys numbers mid settled (the_fault c.in-Throws.fault) c.does.new.replies c.throws.new.replies (the_frames c.throws.new.frames) c.throws.result is
    (subst (λ fr. Tells (λ (u : Unit {0}). the_frames c.throws.new.frames) (raised p later (the_fault c.in-Throws.fault) (the_frames fr) c.does.new.replies) c.throws.result c.throws.new.replies) same (c.throws.ensures.tells later ext)))

pub returns-clause-acts : goal.returns-clause-acts
returns-clause-acts c = λ later ext.
    let p = c.args.program.now in
    let f = c.args.frames.now in
    let d = c.in_ok-definition.definition.now in
    let o = c.in_ok-definition.op.now in
    let ys = c.args.replies.now in
    let there_is = c.in_ok-definition.ensures {u = tt} in
    let entries_is : c.as_slice.result.now ≡ entries_of c.args.program.now c.in_ok-definition.op.now = first_of (search rules, grind (arith, common_steps)) in
    let kinds = c.settle_all.new.trees.kinds in
    let mid = c.settle_all.new.replies in
    let numbers = c.in_ok-numbers.numbers.items in
    let numbers_is : c.as_slice-2.result.now ≡ c.in_ok-numbers.numbers.items = first_of (search rules, grind (arith, common_steps)) in
    let group_is : the_group c.group_of.result ≡ group_of c.in_ok-definition.op.now = first_of (search rules, grind (arith, common_steps)) in
    let same : c.does.new.frames ≡ f = subst (λ x. Keeps (Ok x) f c.does.new.frames) c.in-Raises.is ((c.in_ok-done.ensures {u = tt}).kept) in
    let is : does p kinds d numbers (group_of o) f mid ≡ Ok (Raises (the_thrown c.in-Raises.thrown), c.does.new.replies) =
    ap (λ ns. does p kinds d ns (group_of o) f mid) (sym numbers_is) ∙ ap (λ g. does p kinds d c.as_slice-2.result.now g f mid) (sym group_is) ∙ (c.in_ok-done.ensures {u = tt}).acts ∙ ap (λ x. Ok (did c.does.new.frames x, c.does.new.replies)) c.in-Raises.is in
    grown_end later kinds c.searches.new.trees.kinds ys c.searches.new.replies (meaning p (the_frames f)) (the_frames c.searches.new.frames) c.searches.result c.searches.ensures.grows ext (λ before.
    let settled : settles_from p later f.top.method (entries_of p o) [] ys ≡ Ok (numbers, mid) = subst (λ es. settles_from p later f.top.method es [] ys ≡ Ok (numbers, mid)) entries_is ((c.in_ok-numbers.ensures {u = tt}).settles later before) in
    ends_raising later p f kinds before d o there_is ys numbers mid settled (the_thrown c.in-Raises.thrown) c.does.new.replies c.searches.new.replies (the_frames c.searches.new.frames) c.searches.result is
    (subst (λ fr. Tells (λ (u : Unit {0}). the_frames c.searches.new.frames) (searched p later (the_thrown c.in-Raises.thrown) (the_frames fr).frames (the_frames fr).places c.does.new.replies) c.searches.result c.searches.new.replies) same (c.searches.ensures.tells later ext)))
