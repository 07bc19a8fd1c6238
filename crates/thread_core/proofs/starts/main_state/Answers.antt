use Rattle.std.proofs.Common.{◌≤◌, [], sym, ap, ◌∙◌, subst}
use Rattle.std.specs.Option.{option_copied}
use Rattle.crossings.specs.Calls.{most_places}
use Rattle.rgctx_fill.specs.declared.image.FrameCount.{FrameCount}
use Rattle.rgctx_fill.specs.ThreadStates.{image_of}
use Rattle.thread_core.proofs.MainLemmas.{main_counts}
use Rattle.thread_core.proofs.RowLemmas.{best_frame}
use Rattle.thread_core.proofs.starts.main_state.Goals as goal

pub in_body-requires : goal.in_body-requires
in_body-requires c = best_frame (image_of c.args.image.now) c.requires c.args.image.now.cat.program.now.main [] c.in-Some.row.now (sym c.main_row.ensures ∙ ap option_copied c.in-Some.is)

pub first_frame-requires-clause-places : goal.first_frame-requires-clause-places
first_frame-requires-clause-places c = subst (λ (n : FrameCount). n.places ≤ most_places) (sym c.count_of-count.ensures) (main_counts (image_of c.args.image.now) c.requires).places

pub first_frame-requires-clause-list : goal.first_frame-requires-clause-list
first_frame-requires-clause-list c = subst (λ (n : FrameCount). n.list ≤ most_places) (sym c.count_of-count.ensures) (main_counts (image_of c.args.image.now) c.requires).list
