use Rattle.std.proofs.Common.{arith, ◌≡◌}
use Rattle.unshared.specs.Going.{the_thrown}
use Rattle.unshared.specs.Held.{the_frame, the_frames, frames_around, places_of}
use Rattle.unshared.proofs.SearchSteps.{frames_left, places_left, handled_there}
use Rattle.unshared.proofs.frames.Frames.handles.Goals as goal

pub loop-level-preserved : goal.loop-level-preserved
loop-level-preserved c = record {
  frames = frames_left c.loop-level.level (the_frames c.args.self.now).frames (the_frames c.loop-level.self).frames (the_frames c.leave.new.self).frames c.loop-level.invariant.frames ((c.in_ok-leave.ensures {u = tt}).around);
  places = places_left c.loop-level.level (places_of c.args.self.now) (places_of c.loop-level.self) (places_of c.leave.new.self) c.loop-level.invariant.places ((c.in_ok-leave.ensures {u = tt}).places);
}

pub returns : goal.returns
returns c = λ f fs e.
    let count : c.loop-level.level ≡ c.args.passed = omega (arith, c.loop-level-test.false, c.loop-level.auto.level-end) in
    handled_there c.catches.result (the_thrown c.args.thrown) c.args.handler c.loop-level.level c.args.passed (the_frames c.catches.new.self) (the_frame c.loop-level.self.top) f (frames_around c.loop-level.self) fs (the_frames c.args.self.now).frames
    (places_of c.loop-level.self) (places_of c.args.self.now) count c.catches.ensures c.loop-level.invariant.frames c.loop-level.invariant.places e
