use Rattle.std.proofs.Common.{◌≡◌, ◌<◌, ◌≤◌, length, sym, ap, subst, arith}
use Rattle.crossings.specs.Calls.{most_places}
use Rattle.rgctx_words.specs.Frames.{place_offset}
use Rattle.rgctx_words.specs.Stacks.{StackWords}
use Rattle.rgctx_fill.specs.declared.image.FrameCount.{FrameCount}
use Rattle.rgctx_fill.specs.ThreadStates.{image_of}
use Rattle.thread_core.specs.Starts.{first_frame, entry_node}
use Rattle.thread_core.proofs.MainLemmas.{entry_counts}
use Rattle.thread_core.proofs.StartLemmas.{first_place}
use Rattle.thread_core.proofs.starts.started_state.Goals as goal

pub first_frame-requires-clause-places : goal.first_frame-requires-clause-places
first_frame-requires-clause-places c = subst (λ (n : FrameCount). n.places ≤ most_places) (sym c.count_of-count.ensures) (entry_counts (image_of c.args.image.now) c.requires).places

pub first_frame-requires-clause-list : goal.first_frame-requires-clause-list
first_frame-requires-clause-list c = subst (λ (n : FrameCount). n.list ≤ most_places) (sym c.count_of-count.ensures) (entry_counts (image_of c.args.image.now) c.requires).list

pub put-requires : goal.put-requires
put-requires c =
    let e : length c.in_ok-stack.stack.words ≡ length (first_frame entry_node c.count_of-count.result).words = ap (λ (s : StackWords). length s.words) (c.in_ok-stack.ensures {u = tt}) in
    let p : place_offset 0 < length (first_frame entry_node c.count_of-count.result).words = first_place entry_node c.count_of-count.result in
    let o : c.place_offset.result ≡ place_offset 0 = c.place_offset.ensures in
    omega (arith, e, p, o)
