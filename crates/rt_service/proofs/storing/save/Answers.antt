use Rattle.std.proofs.Common.{ℕ, refl}
use Rattle.interaction.specs.declared.turn.What.TheVariants as noted
use Rattle.store_object.specs.declared.place.Place.{Place}
use Rattle.store_object.specs.declared.request.Request.TheVariants as ask
use Rattle.rgctx_words.specs.Stacks.{with_word}
use Rattle.rgctx_fill.specs.declared.doing.Doing.TheVariants.{Runs}
use Rattle.rgctx_fill.specs.ThreadStates.{ThreadData, Move, image_of, with_stack, now_doing}
use Rattle.rgctx_fill.specs.ThreadStates as move
use Rattle.rgctx_fill.specs.StoreServices.{asks}
use Rattle.rgctx_fill.specs.Moves.{Span, span, Within}
use Rattle.rgctx_fill.specs.declared.thread.Want.TheVariants as answers
use Rattle.rt_service.proofs.storing.save.Goals as goal

pub returns-in-Frame-clause-turn : goal.returns-in-Frame-clause-turn
returns-in-Frame-clause-turn g c =
    let s : ThreadData = c.args.state.now in
    let h : Span = span (g.W.Words.alone c.args.words.now) (g.W.Words.held c.args.words.now) (g.W.Words.held c.target_of.new.words) (g.W.Words.claims c.args.words.now) (g.W.Words.claims c.target_of.new.words) in
    let within : Within h (g.W.Words.held c.args.words.now) (g.W.Words.held c.target_of.new.words) = record { later = λ j used. refl; sooner = λ j used. refl } in
    let frame : ℕ → Move = λ i. move.Goes noted.Action (with_stack (now_doing s Runs) (with_word s.stack i c.args.word)) in
    let store : Place → Move = λ place. asks (image_of c.args.image.now) s (ask.Save place c.args.word) in
    c.in-Frame.ensures.goes c.args.image.now.cat c.requires.met h within (image_of c.args.image.now) frame store (answers.Did noted.Action) c.leave_word.new.state
    (record { says = refl; state = c.leave_word.ensures; claims = c.target_of.ensures.claims })

pub returns-in-Store-clause-turn : goal.returns-in-Store-clause-turn
returns-in-Store-clause-turn g c =
    let s : ThreadData = c.args.state.now in
    let h : Span = span (g.W.Words.alone c.args.words.now) (g.W.Words.held c.args.words.now) (g.W.Words.held c.target_of.new.words) (g.W.Words.claims c.args.words.now) (g.W.Words.claims c.target_of.new.words) in
    let within : Within h (g.W.Words.held c.args.words.now) (g.W.Words.held c.target_of.new.words) = record { later = λ j used. refl; sooner = λ j used. refl } in
    let frame : ℕ → Move = λ i. move.Goes noted.Action (with_stack (now_doing s Runs) (with_word s.stack i c.args.word)) in
    let store : Place → Move = λ place. asks (image_of c.args.image.now) s (ask.Save place c.args.word) in
    c.in-Store.ensures.goes c.args.image.now.cat c.requires.met h within (image_of c.args.image.now) frame store (answers.Ask (ask.Save c.in-Store.place c.args.word)) s
    (record { says = refl; state = refl; claims = c.target_of.ensures.claims })

pub returns-in-Unread-clause-turn : goal.returns-in-Unread-clause-turn
returns-in-Unread-clause-turn g c =
    let s : ThreadData = c.args.state.now in
    let h : Span = span (g.W.Words.alone c.args.words.now) (g.W.Words.held c.args.words.now) (g.W.Words.held c.target_of.new.words) (g.W.Words.claims c.args.words.now) (g.W.Words.claims c.target_of.new.words) in
    let within : Within h (g.W.Words.held c.args.words.now) (g.W.Words.held c.target_of.new.words) = record { later = λ j used. refl; sooner = λ j used. refl } in
    let frame : ℕ → Move = λ i. move.Goes noted.Action (with_stack (now_doing s Runs) (with_word s.stack i c.args.word)) in
    let store : Place → Move = λ place. asks (image_of c.args.image.now) s (ask.Save place c.args.word) in
    c.in-Unread.ensures.goes c.args.image.now.cat c.requires.met h within (image_of c.args.image.now) frame store c.unread.result s
    (record { says = c.unread.ensures; state = refl; claims = c.target_of.ensures.claims })

pub returns-in-Refused-clause-turn : goal.returns-in-Refused-clause-turn
returns-in-Refused-clause-turn g c =
    let s : ThreadData = c.args.state.now in
    let h : Span = span (g.W.Words.alone c.args.words.now) (g.W.Words.held c.args.words.now) (g.W.Words.held c.target_of.new.words) (g.W.Words.claims c.args.words.now) (g.W.Words.claims c.target_of.new.words) in
    let within : Within h (g.W.Words.held c.args.words.now) (g.W.Words.held c.target_of.new.words) = record { later = λ j used. refl; sooner = λ j used. refl } in
    let frame : ℕ → Move = λ i. move.Goes noted.Action (with_stack (now_doing s Runs) (with_word s.stack i c.args.word)) in
    let store : Place → Move = λ place. asks (image_of c.args.image.now) s (ask.Save place c.args.word) in
    c.in-Refused.ensures.goes c.args.image.now.cat c.requires.met h within (image_of c.args.image.now) frame store c.refuse.result s
    (record { says = c.refuse.ensures; state = refl; claims = c.target_of.ensures.claims })
