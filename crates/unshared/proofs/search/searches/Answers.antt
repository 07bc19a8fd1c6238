use Rattle.std.proofs.Common.{length, rules, arith, ◌≡◌, ◌∙◌, ◌+◌, ◌∷◌, Ok, ℕ, List, Option, Some, slice_get, drop, ap, sym, subst}
use Rattle.std.proofs.lemmas.Grind.{common_steps}
use Rattle.type_inst.proofs.OpeningLemmas.{extends_both}
use Rattle.store_object.specs.declared.request.Request.TheVariants as ask
use Rattle.cil_meaning.specs.Frames.{Frame}
use Rattle.cil_meaning.specs.Search.{clauses_of}
use Rattle.unshared.specs.Going.{the_thrown}
use Rattle.unshared.specs.Held.{the_frame, the_frames}
use Rattle.unshared.specs.Searched.{finds, handled, or_else, searched, left_places}
use Rattle.unshared.specs.Talk.{and_then, over, over_with, asks_done}
use Rattle.unshared.proofs.NumberLemmas.{grown_both}
use Rattle.unshared.proofs.SearchSteps.{tell_stops, talk_stops, searched_at, searched_none, drop_at, past_all, halts_so}
use Rattle.unshared.proofs.search.searches.Goals as goal

pub loop-passed-preserved : goal.loop-passed-preserved
loop-passed-preserved c =
    let p = c.args.program.now in
    let x = the_thrown c.args.thrown in
    let i = c.loop-passed.passed in
    let f = the_frame c.in-Some.frame.now in
    let frames = (the_frames c.args.frames.now).frames in
    let places = (the_frames c.args.frames.now).places in
    let found = c.in_ok-found.ensures {u = tt} in
    let there_is : slice_get (the_frames c.args.frames.now).frames c.loop-passed.passed ≡ Some (the_frame c.in-Some.frame.now) =
    subst (λ fr. slice_get (the_frames fr).frames c.loop-passed.passed ≡ Some (the_frame c.in-Some.frame.now)) c.loop-passed.invariant.same ((c.in-Some.ensures {u = tt}).some) in
    record {
      grown = grown_both _ _ _ c.loop-passed.invariant.grown found.grows;
      same = c.loop-passed.invariant.same;
      so = λ later ext.
          searched_at p later x _ i frames places c.loop-passed.replies f (c.loop-passed.invariant.so later (extends_both _ _ _ found.grows.extends ext)) there_is
          ∙ ap (λ r. and_then r (λ o. or_else o (handled x f (drop (i + 1) frames) (left_places i places)) (searched p later x (drop (i + 1) frames) (left_places (i + 1) places)))) (found.tells later ext)
          ∙ ap (λ o. or_else o (handled x f (drop (i + 1) frames) (left_places i places)) (searched p later x (drop (i + 1) frames) (left_places (i + 1) places)) c.handler_in.new.replies) c.in_default-found.is;
    }

pub returns-in_err-found-clause-tells : goal.returns-in_err-found-clause-tells
returns-in_err-found-clause-tells c = λ later ext.
    let p = c.args.program.now in
    let x = the_thrown c.args.thrown in
    let i = c.loop-passed.passed in
    let f = the_frame c.in-Some.frame.now in
    let frames = (the_frames c.args.frames.now).frames in
    let places = (the_frames c.args.frames.now).places in
    let failed = c.in_err-found.ensures {u = tt} in
    let there_is : slice_get (the_frames c.args.frames.now).frames c.loop-passed.passed ≡ Some (the_frame c.in-Some.frame.now) =
    subst (λ fr. slice_get (the_frames fr).frames c.loop-passed.passed ≡ Some (the_frame c.in-Some.frame.now)) c.loop-passed.invariant.same ((c.in-Some.ensures {u = tt}).some) in
    tell_stops {A = Option ℕ} (λ handler. handler) _ (finds p later f.method x.kind f.at (clauses_of p f.method) c.loop-passed.replies) (λ o. or_else o (handled x f (drop (i + 1) frames) (left_places i places)) (searched p later x (drop (i + 1) frames) (left_places (i + 1) places)))
    (searched p later x frames places c.args.replies.now) c.handler_in.new.replies c.handler_in.new.replies c.loop-passed.trees.kinds c.handler_in.new.trees.kinds c.from_residual.result c.in_err-found.field-0.0 c.from_residual.ensures failed.grows
    (λ grown. searched_at p later x _ i frames places c.loop-passed.replies f (c.loop-passed.invariant.so later (extends_both _ _ _ grown.extends ext)) there_is)
    (failed.tells later ext)

pub returns-clause-tells : goal.returns-clause-tells
returns-clause-tells c = λ later ext.
    let count : c.len-innermost.result ≡ length c.args.frames.now.around.items = let e = c.len-innermost.ensures in first_of (search rules, grind (arith, common_steps)) in
    halts_so (λ (nothing : Unit {0}). the_frames c.args.frames.now) _ c.over.result (over_with c.done.new.self) c.done.new.self
    (c.loop-passed.invariant.so later ext
    ∙ searched_none c.args.program.now later (the_thrown c.args.thrown) _ _ c.loop-passed.replies (past_all c.args.frames.now c.loop-passed.passed c.len-innermost.result count c.loop-passed-test.false)
    ∙ ap (λ r. and_then r (λ u. over)) (c.in_ok-done.ensures {u = tt})) c.over.ensures

pub returns-in_err-done-clause-tells : goal.returns-in_err-done-clause-tells
returns-in_err-done-clause-tells c = λ later ext.
    let count : c.len-innermost.result ≡ length c.args.frames.now.around.items = let e = c.len-innermost.ensures in first_of (search rules, grind (arith, common_steps)) in
    talk_stops {A = Unit {0}} (λ u. u) _ (asks_done (ask.Fall c.args.thrown.kind) c.loop-passed.replies) (λ u. over) _ c.done.new.self c.done.new.self c.from_residual-in_err-done.result c.in_err-done.field-0.0 c.from_residual-in_err-done.ensures
    (c.loop-passed.invariant.so later ext
    ∙ searched_none c.args.program.now later (the_thrown c.args.thrown) _ _ c.loop-passed.replies (past_all c.args.frames.now c.loop-passed.passed c.len-innermost.result count c.loop-passed-test.false))
    (c.in_err-done.ensures {u = tt})

pub returns-in-Some-found-clause-tells : goal.returns-in-Some-found-clause-tells
returns-in-Some-found-clause-tells c = λ later ext.
    let p = c.args.program.now in
    let x = the_thrown c.args.thrown in
    let i = c.loop-passed.passed in
    let f = the_frame c.in-Some.frame.now in
    let frames = (the_frames c.args.frames.now).frames in
    let places = (the_frames c.args.frames.now).places in
    let found = c.in_ok-found.ensures {u = tt} in
    let there_is : slice_get (the_frames c.args.frames.now).frames c.loop-passed.passed ≡ Some (the_frame c.in-Some.frame.now) =
    subst (λ fr. slice_get (the_frames fr).frames c.loop-passed.passed ≡ Some (the_frame c.in-Some.frame.now)) c.loop-passed.invariant.same ((c.in-Some.ensures {u = tt}).some) in
    let now : the_frames c.handles.new.self ≡ handled x f (drop (i + 1) frames) (left_places i places) c.in-Some-found.handler =
    subst (λ fr. (g : Frame) (gs : List Frame) → drop i (the_frames fr).frames ≡ g ∷ gs → the_frames c.handles.new.self ≡ handled x g gs (left_places i (the_frames fr).places) c.in-Some-found.handler) c.loop-passed.invariant.same (c.in_ok-handles.ensures {u = tt})
    f (drop (i + 1) frames) (drop_at i frames f there_is) in
    searched_at p later x _ i frames places c.loop-passed.replies f (c.loop-passed.invariant.so later (extends_both _ _ _ found.grows.extends ext)) there_is
    ∙ ap (λ r. and_then r (λ o. or_else o (handled x f (drop (i + 1) frames) (left_places i places)) (searched p later x (drop (i + 1) frames) (left_places (i + 1) places)))) (found.tells later ext)
    ∙ ap (λ o. or_else o (handled x f (drop (i + 1) frames) (left_places i places)) (searched p later x (drop (i + 1) frames) (left_places (i + 1) places)) c.handler_in.new.replies) c.in-Some-found.is
    ∙ ap (λ fr. Ok (fr, c.handler_in.new.replies)) (sym now)
