use Rattle.std.proofs.Common.{ℕ, ◌==◌, if◌then◌else◌, refl, ap, ◌∙◌}
use Rattle.interaction.specs.declared.turn.What.TheVariants as noted
use Rattle.store_object.specs.declared.place.Place.{Place}
use Rattle.store_object.specs.declared.request.Request.TheVariants as ask
use Rattle.rgctx_words.specs.Stacks.{mem_of, with_word}
use Rattle.rgctx_fill.specs.ThreadStates.{ThreadData, Move, image_of, with_stack}
use Rattle.rgctx_fill.specs.ServiceReplies.{given}
use Rattle.rgctx_fill.specs.StoreServices.{asks, swaps_frame}
use Rattle.rgctx_fill.specs.Moves.{Span, span, Within}
use Rattle.rgctx_fill.specs.declared.thread.Want.TheVariants as answers
use Rattle.rt_service.proofs.storing.compare_exchange.Goals as goal

pub returns-in-Frame-clause-turn : goal.returns-in-Frame-clause-turn
returns-in-Frame-clause-turn g c =
    let s : ThreadData = c.args.state.now in
    let h : Span = span (g.W.Words.alone c.args.words.now) (g.W.Words.held c.args.words.now) (g.W.Words.held c.target_of.new.words) (g.W.Words.claims c.args.words.now) (g.W.Words.claims c.target_of.new.words) in
    let within : Within h (g.W.Words.held c.args.words.now) (g.W.Words.held c.target_of.new.words) = record { later = λ j used. refl; sooner = λ j used. refl } in
    let frame : ℕ → Move = λ i. swaps_frame (image_of c.args.image.now) s i (mem_of s.stack i) (if mem_of s.stack i == c.args.comparand then c.args.word else mem_of s.stack i) in
    let store : Place → Move = λ place. asks (image_of c.args.image.now) s (ask.CompareExchange place c.args.word c.args.comparand) in
    c.in-Frame.ensures.goes c.args.image.now.cat c.requires.met h within (image_of c.args.image.now) frame store (answers.Did noted.Action) c.swap_word.new.state
    (record {
      says = refl;
      state = c.swap_word.ensures ∙ ap (λ (left : ℕ). with_stack (given s c.word-old.result) (with_word s.stack c.in-Frame.index left)) c.left_by-left.ensures
          ∙ ap (λ (old : ℕ). with_stack (given s old) (with_word s.stack c.in-Frame.index (if old == c.args.comparand then c.args.word else old))) (c.word-old.ensures ∙ ap (λ (v : ThreadData). mem_of v.stack c.in-Frame.index) c.state.view_is);
      claims = c.target_of.ensures.claims;
    })

pub returns-in-Store-clause-turn : goal.returns-in-Store-clause-turn
returns-in-Store-clause-turn g c =
    let s : ThreadData = c.args.state.now in
    let h : Span = span (g.W.Words.alone c.args.words.now) (g.W.Words.held c.args.words.now) (g.W.Words.held c.target_of.new.words) (g.W.Words.claims c.args.words.now) (g.W.Words.claims c.target_of.new.words) in
    let within : Within h (g.W.Words.held c.args.words.now) (g.W.Words.held c.target_of.new.words) = record { later = λ j used. refl; sooner = λ j used. refl } in
    let frame : ℕ → Move = λ i. swaps_frame (image_of c.args.image.now) s i (mem_of s.stack i) (if mem_of s.stack i == c.args.comparand then c.args.word else mem_of s.stack i) in
    let store : Place → Move = λ place. asks (image_of c.args.image.now) s (ask.CompareExchange place c.args.word c.args.comparand) in
    c.in-Store.ensures.goes c.args.image.now.cat c.requires.met h within (image_of c.args.image.now) frame store (answers.Ask (ask.CompareExchange c.in-Store.place c.args.word c.args.comparand)) s
    (record { says = refl; state = refl; claims = c.target_of.ensures.claims })

pub returns-in-Unread-clause-turn : goal.returns-in-Unread-clause-turn
returns-in-Unread-clause-turn g c =
    let s : ThreadData = c.args.state.now in
    let h : Span = span (g.W.Words.alone c.args.words.now) (g.W.Words.held c.args.words.now) (g.W.Words.held c.target_of.new.words) (g.W.Words.claims c.args.words.now) (g.W.Words.claims c.target_of.new.words) in
    let within : Within h (g.W.Words.held c.args.words.now) (g.W.Words.held c.target_of.new.words) = record { later = λ j used. refl; sooner = λ j used. refl } in
    let frame : ℕ → Move = λ i. swaps_frame (image_of c.args.image.now) s i (mem_of s.stack i) (if mem_of s.stack i == c.args.comparand then c.args.word else mem_of s.stack i) in
    let store : Place → Move = λ place. asks (image_of c.args.image.now) s (ask.CompareExchange place c.args.word c.args.comparand) in
    c.in-Unread.ensures.goes c.args.image.now.cat c.requires.met h within (image_of c.args.image.now) frame store c.unread.result s
    (record { says = c.unread.ensures; state = refl; claims = c.target_of.ensures.claims })

pub returns-in-Refused-clause-turn : goal.returns-in-Refused-clause-turn
returns-in-Refused-clause-turn g c =
    let s : ThreadData = c.args.state.now in
    let h : Span = span (g.W.Words.alone c.args.words.now) (g.W.Words.held c.args.words.now) (g.W.Words.held c.target_of.new.words) (g.W.Words.claims c.args.words.now) (g.W.Words.claims c.target_of.new.words) in
    let within : Within h (g.W.Words.held c.args.words.now) (g.W.Words.held c.target_of.new.words) = record { later = λ j used. refl; sooner = λ j used. refl } in
    let frame : ℕ → Move = λ i. swaps_frame (image_of c.args.image.now) s i (mem_of s.stack i) (if mem_of s.stack i == c.args.comparand then c.args.word else mem_of s.stack i) in
    let store : Place → Move = λ place. asks (image_of c.args.image.now) s (ask.CompareExchange place c.args.word c.args.comparand) in
    c.in-Refused.ensures.goes c.args.image.now.cat c.requires.met h within (image_of c.args.image.now) frame store c.refuse.result s
    (record { says = c.refuse.ensures; state = refl; claims = c.target_of.ensures.claims })
