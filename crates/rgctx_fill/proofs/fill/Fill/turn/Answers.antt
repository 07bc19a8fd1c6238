use Rattle.std.proofs.Common.{sym, subst}
use Rattle.std.specs.Prelude.{slice_index}
use Rattle.rgctx_template.specs.Catalogue.{data_of}
use Rattle.rgctx_fill.specs.Ready.{IsLoaded, IsClaimed, IsTurn, Comes}
use Rattle.rgctx_fill.proofs.TurnLemmas.{may-put, Loaded, Claimed, comes-loaded, comes-claimed, turn-loaded, turn-claimed}
use Rattle.rgctx_fill.proofs.fill.Fill.turn.Goals as goal

pub claim-answer-requires-clause-new : goal.claim-answer-requires-clause-new
claim-answer-requires-clause-new g c =
    let ready = c.requires.ready in
    (may-put (data_of ready.0) (g.W.Words.held c.args.words.now) c.args.self.now ready.2 c.in-Claim.index c.in-Claim.word (sym c.in-Claim.ensures)).used

pub claim-answer-requires-clause-allowed : goal.claim-answer-requires-clause-allowed
claim-answer-requires-clause-allowed g c =
    let ready = c.requires.ready in
    (ready.0, ready.1, (may-put (data_of ready.0) (g.W.Words.held c.args.words.now) c.args.self.now ready.2 c.in-Claim.index c.in-Claim.word (sym c.in-Claim.ensures)).allowed)

pub returns-in-Load-clause-turn : goal.returns-in-Load-clause-turn
returns-in-Load-clause-turn g c =
    let alone = g.W.Words.alone c.args.words.now in
    let before = g.W.Words.held c.args.words.now in
    let after = g.W.Words.held c.load-answer.new.self in
    let listed = g.W.Words.claims c.args.words.now in
    let relisted = g.W.Words.claims c.load-answer.new.self in
    let e = c.load-answer.ensures in
    let loaded : IsLoaded alone before after c.in-Load.index c.load-answer.result = record { again = e.again; held = e.held; only = e.only } in
    subst (IsTurn alone before after listed relisted c.args.self.now c.take.new.self) (sym c.given.ensures)
    (turn-loaded alone before after listed relisted c.args.self.now c.take.new.self c.in-Load.index c.load-answer.result (sym c.in-Load.ensures) c.take.ensures e.claims loaded)

pub returns-in-Load-clause-comes : goal.returns-in-Load-clause-comes
returns-in-Load-clause-comes g c cat meets ready =
    let before = g.W.Words.held c.args.words.now in
    let after = g.W.Words.held c.load-answer.new.self in
    let e = c.load-answer.ensures in
    let s = g.met.W.Words.sound cat c.load-answer.new.self (e.met cat meets) in
    let loaded : Loaded (data_of cat) before after c.in-Load.index c.load-answer.result = record { again = e.again; has = e.held; always = e.always cat meets; named = e.named cat meets } in
    subst (Comes (data_of cat) after c.take.new.self) (sym c.given.ensures)
    (comes-loaded (data_of cat) before after (λ k. slice_index s.words k) c.args.self.now c.take.new.self ready e.grows s.fit.fits s.within c.load-answer.result c.take.ensures
    c.in-Load.index (sym c.in-Load.ensures) loaded)

pub returns-in-Claim-clause-turn : goal.returns-in-Claim-clause-turn
returns-in-Claim-clause-turn g c =
    let alone = g.W.Words.alone c.args.words.now in
    let before = g.W.Words.held c.args.words.now in
    let after = g.W.Words.held c.claim-answer.new.self in
    let listed = g.W.Words.claims c.args.words.now in
    let relisted = g.W.Words.claims c.claim-answer.new.self in
    let e = c.claim-answer.ensures in
    let claimed : IsClaimed alone before after c.in-Claim.index c.in-Claim.word c.claim-answer.result = record { again = e.again; held = e.held; put = e.put; only = e.only } in
    subst (IsTurn alone before after listed relisted c.args.self.now c.take-in-Claim.new.self) (sym c.given-in-Claim.ensures)
    (turn-claimed alone before after listed relisted c.args.self.now c.take-in-Claim.new.self c.in-Claim.index c.in-Claim.word c.claim-answer.result (sym c.in-Claim.ensures) c.take-in-Claim.ensures e.claims claimed)

pub returns-in-Claim-clause-met : goal.returns-in-Claim-clause-met
returns-in-Claim-clause-met g c cat meets ready =
    c.claim-answer.ensures.met cat meets (may-put (data_of cat) (g.W.Words.held c.args.words.now) c.args.self.now ready c.in-Claim.index c.in-Claim.word (sym c.in-Claim.ensures)).allowed

pub returns-in-Claim-clause-comes : goal.returns-in-Claim-clause-comes
returns-in-Claim-clause-comes g c cat meets ready =
    let before = g.W.Words.held c.args.words.now in
    let after = g.W.Words.held c.claim-answer.new.self in
    let e = c.claim-answer.ensures in
    let allowed = (may-put (data_of cat) before c.args.self.now ready c.in-Claim.index c.in-Claim.word (sym c.in-Claim.ensures)).allowed in
    let s = g.met.W.Words.sound cat c.claim-answer.new.self (e.met cat meets allowed) in
    let claimed : Claimed after c.in-Claim.index c.in-Claim.word c.claim-answer.result = record { has = e.held; put = e.put } in
    subst (Comes (data_of cat) after c.take-in-Claim.new.self) (sym c.given-in-Claim.ensures)
    (comes-claimed (data_of cat) before after (λ k. slice_index s.words k) c.args.self.now c.take-in-Claim.new.self ready e.grows s.fit.fits s.within c.claim-answer.result c.take-in-Claim.ensures
    c.in-Claim.index c.in-Claim.word (sym c.in-Claim.ensures) claimed)
