use Rattle.std.proofs.Common.{◌≡◌, drop}
use Rattle.unshared.specs.Held.{the_frames, places_of}
use Rattle.unshared.specs.Searched.{left_places}
use Rattle.unshared.proofs.frames.Frames.handles.Given as goal

abbrev pub invariant-loop-level : goal.invariant-loop-level
invariant-loop-level l = record {
  frames : (the_frames l.self).frames ≡ drop l.level (the_frames l.initial.self).frames;
  places : places_of l.self ≡ left_places l.level (places_of l.initial.self);
}
