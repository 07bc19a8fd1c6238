use Rattle.std.proofs.Common.{◌≡◌, ℕ, if◌then◌else◌, refl, sym, ◌∙◌, subst, arith}
use Rattle.rgctx_template.specs.Catalogue.{data_of}
use Rattle.rgctx_fill.specs.Claims.{Shows}
use Rattle.rgctx_fill.specs.ServiceReplies.{refuses, given}
use Rattle.interaction.specs.declared.turn.What.TheVariants as noted
use Rattle.rgctx_words.specs.NodeWords.{node_read}
use Rattle.rgctx_fill.specs.ThreadStates as move
use Rattle.rgctx_fill.specs.TypeServices.{is_vector_word}
use Rattle.rgctx_fill.specs.Moves.{Span, span}
use Rattle.rt_service.proofs.TreeLemmas.{unread_made}
use Rattle.rt_service.proofs.typing.find_element.Goals as goal

pub returns-then-word-eq0-clause-turn : goal.returns-then-word-eq0-clause-turn
returns-then-word-eq0-clause-turn g c =
    let h : Span = span (g.W.Words.alone c.args.words.now) (g.W.Words.held c.args.words.now) (g.W.Words.held c.load-word.new.self) (g.W.Words.claims c.args.words.now) (g.W.Words.claims c.load-word.new.self) in
    let zero : c.load-word.result ≡ 0 = omega (arith, c.if-word-eq0.true) in
    unread_made (data_of c.args.image.now.cat) h c.args.state.now c.unread.result c.args.state.now c.args.number c.in-Some.node (g.W.Words.held c.args.words.now)
    (λ word. if is_vector_word word then move.Goes noted.Action (given c.args.state.now (node_read word).first) else refuses c.args.state.now)
    (sym c.node_number.ensures ∙ c.in-Some.is) (λ j used. refl)
    (λ shows. c.load-word.ensures.named c.args.image.now.cat c.requires.met (subst (λ (i : ℕ). Shows (data_of c.args.image.now.cat) (g.W.Words.held c.args.words.now) i) (sym c.from.ensures) shows) zero)
    (record { says = c.unread.ensures; state = refl; claims = c.load-word.ensures.claims })
