use Rattle.std.proofs.Common.{◌≡◌, ℕ, if◌then◌else◌, sym, ◌∙◌, subst, arith}
use Rattle.rgctx_template.specs.Catalogue.{data_of}
use Rattle.rgctx_fill.specs.Claims.{Shows}
use Rattle.rgctx_fill.specs.ServiceReplies.{refuses}
use Rattle.rgctx_fill.specs.NodeReadings.{is_type_word}
use Rattle.rt_service.proofs.TreeLemmas.{unread_made}
use Rattle.rt_service.proofs.reading.type_node.Goals as goal

pub returns-then-word-eq0-clause-goes : goal.returns-then-word-eq0-clause-goes
returns-then-word-eq0-clause-goes g c = λ cat meets h within s next said new same.
    let zero : c.load-word.result ≡ 0 = omega (arith, c.if-word-eq0.true) in
    unread_made (data_of cat) h s said new c.args.number c.in-Some.node (g.W.Words.held c.args.words.now) (λ word. if is_type_word word then next else refuses s)
    (sym c.node_number.ensures ∙ c.in-Some.is) within.later
    (λ shows. c.load-word.ensures.named cat meets (subst (λ (i : ℕ). Shows (data_of cat) (g.W.Words.held c.args.words.now) i) (sym c.from.ensures) shows) zero) same
