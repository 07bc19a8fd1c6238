use Rattle.std.proofs.Common.{inl, inr, [], refl, sym, subst}
use Rattle.interaction.specs.Object.{live_threads}
use Rattle.interaction.proofs.Choosing.{chosen_lives}
use Rattle.rgctx_fill.specs.ThreadStates.{image_of}
use Rattle.store_object.specs.Replay.{store, replayed}
use Rattle.thread_core.specs.Reached.{GoesOnOrEnds}
use Rattle.thread_core.specs.Runs.{IsEndOf}
use Rattle.thread_core.specs.SoFar.{IsPlaceOf, IsSoFar, IsOver, StandsBy}
use Rattle.thread_core.proofs.SoFarLemmas.{lives_of, goes_on, comes_over, nobody_over}
use Rattle.thread_core.proofs.stepping.RunSoFar.turn.Goals as goal

pub returns-in_default-clause-turn : goal.returns-in_default-clause-turn
returns-in_default-clause-turn c =
    let r = c.args.self.now.progress in
    let s = replayed r.world.history in
    (subst (IsPlaceOf s c.args.thread) c.in_default.is (c.place_of.ensures s (lives_of (image_of c.args.image.now) r c.args.self.now.ended c.requires.stands)), refl)

pub returns-in-Some-ended-clause-turn : goal.returns-in-Some-ended-clause-turn
returns-in-Some-ended-clause-turn c =
    let r = c.args.self.now.progress in
    let s = replayed r.world.history in
    let place = subst (IsPlaceOf s c.args.thread) c.in-Some.is (c.place_of.ensures s (lives_of (image_of c.args.image.now) r c.args.self.now.ended c.requires.stands)) in
    inr (record { lives = chosen_lives store s c.in-Some.place c.args.thread place; ended = c.in-Some-ended.is; same = refl })

pub step-requires-clause-ready : goal.step-requires-clause-ready
step-requires-clause-ready c =
    let so : IsSoFar (image_of c.args.image.now) c.args.self.now.progress = subst (StandsBy (image_of c.args.image.now) c.args.self.now.progress) c.in_default-ended.is c.requires.stands in
    (so []).ready

pub returns-in-Some-2-clause-turn : goal.returns-in-Some-2-clause-turn
returns-in-Some-2-clause-turn c =
    let im = image_of c.args.image.now in
    let r = c.args.self.now.progress in
    let s = replayed r.world.history in
    let so : IsSoFar im r = subst (StandsBy im r) c.in_default-ended.is c.requires.stands in
    let place = subst (IsPlaceOf s c.args.thread) c.in-Some.is (c.place_of.ensures s (so []).ready.lives) in
    let stepped = c.in_ok-ending.ensures {u = tt} in
    let noted = stepped.noted c.args.thread place in
    inl (record {
      chosen = record { going = c.in_default-ended.is; place = c.in-Some.place; chooses = place; schedule = noted };
      ends = refl;
      over = comes_over im r c.step.new.self so c.in-Some.place noted c.in-Some-2.ending (λ ks made at split. subst (λ o. GoesOnOrEnds im ks made c.step.new.self o) c.in-Some-2.is (stepped.step ks made at split));
    })

pub returns-in-Some-2-clause-stands : goal.returns-in-Some-2-clause-stands
returns-in-Some-2-clause-stands c =
    let im = image_of c.args.image.now in
    let r = c.args.self.now.progress in
    let s = replayed r.world.history in
    let so : IsSoFar im r = subst (StandsBy im r) c.in_default-ended.is c.requires.stands in
    let place = subst (IsPlaceOf s c.args.thread) c.in-Some.is (c.place_of.ensures s (so []).ready.lives) in
    let stepped = c.in_ok-ending.ensures {u = tt} in
    comes_over im r c.step.new.self so c.in-Some.place (stepped.noted c.args.thread place) c.in-Some-2.ending (λ ks made at split. subst (λ o. GoesOnOrEnds im ks made c.step.new.self o) c.in-Some-2.is (stepped.step ks made at split))

pub returns-in-Some-3-clause-turn : goal.returns-in-Some-3-clause-turn
returns-in-Some-3-clause-turn c =
    let im = image_of c.args.image.now in
    let r = c.args.self.now.progress in
    let s = replayed r.world.history in
    let so : IsSoFar im r = subst (StandsBy im r) c.in_default-ended.is c.requires.stands in
    let place = subst (IsPlaceOf s c.args.thread) c.in-Some.is (c.place_of.ensures s (so []).ready.lives) in
    let stepped = c.in_ok-ending.ensures {u = tt} in
    let noted = stepped.noted c.args.thread place in
    let next : IsSoFar im c.step.new.self = goes_on im r c.step.new.self so c.in-Some.place noted (λ ks made at split. subst (λ o. GoesOnOrEnds im ks made c.step.new.self o) c.in_default-2.is (stepped.step ks made at split)) in
    let end = subst (IsEndOf c.step.new.self.world.history (live_threads store (replayed c.step.new.self.world.history))) c.in-Some-3.is ((c.in_ok-ending-2.ensures {u = tt}) (replayed c.step.new.self.world.history) (next []).ready.lives) in
    inl (record {
      chosen = record { going = c.in_default-ended.is; place = c.in-Some.place; chooses = place; schedule = noted };
      ends = refl;
      over = subst (IsOver im c.step.new.self) (sym end.1) (nobody_over im c.step.new.self next end.0);
    })

pub returns-in-Some-3-clause-stands : goal.returns-in-Some-3-clause-stands
returns-in-Some-3-clause-stands c =
    let im = image_of c.args.image.now in
    let r = c.args.self.now.progress in
    let s = replayed r.world.history in
    let so : IsSoFar im r = subst (StandsBy im r) c.in_default-ended.is c.requires.stands in
    let place = subst (IsPlaceOf s c.args.thread) c.in-Some.is (c.place_of.ensures s (so []).ready.lives) in
    let stepped = c.in_ok-ending.ensures {u = tt} in
    let next : IsSoFar im c.step.new.self = goes_on im r c.step.new.self so c.in-Some.place (stepped.noted c.args.thread place) (λ ks made at split. subst (λ o. GoesOnOrEnds im ks made c.step.new.self o) c.in_default-2.is (stepped.step ks made at split)) in
    let end = subst (IsEndOf c.step.new.self.world.history (live_threads store (replayed c.step.new.self.world.history))) c.in-Some-3.is ((c.in_ok-ending-2.ensures {u = tt}) (replayed c.step.new.self.world.history) (next []).ready.lives) in
    subst (IsOver im c.step.new.self) (sym end.1) (nobody_over im c.step.new.self next end.0)

pub returns-clause-turn : goal.returns-clause-turn
returns-clause-turn c =
    let im = image_of c.args.image.now in
    let r = c.args.self.now.progress in
    let s = replayed r.world.history in
    let so : IsSoFar im r = subst (StandsBy im r) c.in_default-ended.is c.requires.stands in
    let place = subst (IsPlaceOf s c.args.thread) c.in-Some.is (c.place_of.ensures s (so []).ready.lives) in
    let stepped = c.in_ok-ending.ensures {u = tt} in
    let noted = stepped.noted c.args.thread place in
    let next : IsSoFar im c.step.new.self = goes_on im r c.step.new.self so c.in-Some.place noted (λ ks made at split. subst (λ o. GoesOnOrEnds im ks made c.step.new.self o) c.in_default-2.is (stepped.step ks made at split)) in
    record {
      chosen = record { going = c.in_default-ended.is; place = c.in-Some.place; chooses = place; schedule = noted };
      goes = c.in_default-ended.is;
      so_far = next;
      lives = subst (IsEndOf c.step.new.self.world.history (live_threads store (replayed c.step.new.self.world.history))) c.in_default-3.is ((c.in_ok-ending-2.ensures {u = tt}) (replayed c.step.new.self.world.history) (next []).ready.lives);
    }

pub returns-clause-stands : goal.returns-clause-stands
returns-clause-stands c =
    let im = image_of c.args.image.now in
    let r = c.args.self.now.progress in
    let s = replayed r.world.history in
    let so : IsSoFar im r = subst (StandsBy im r) c.in_default-ended.is c.requires.stands in
    let place = subst (IsPlaceOf s c.args.thread) c.in-Some.is (c.place_of.ensures s (so []).ready.lives) in
    let stepped = c.in_ok-ending.ensures {u = tt} in
    let next : IsSoFar im c.step.new.self = goes_on im r c.step.new.self so c.in-Some.place (stepped.noted c.args.thread place) (λ ks made at split. subst (λ o. GoesOnOrEnds im ks made c.step.new.self o) c.in_default-2.is (stepped.step ks made at split)) in
    subst (StandsBy im c.step.new.self) (sym c.in_default-ended.is) next
