use Rattle.std.proofs.Common.{◌≡◌, true, sym, ap, ◌∙◌, subst}
use Rattle.std.specs.Prelude.{is_some, not}
use Rattle.type_tree.specs.declared.tree.TExpr.{TExpr}
use Rattle.rgctx_template.specs.Catalogue.{CatData, data_of}
use Rattle.rgctx_fill.specs.ThreadStates.{Move}
use Rattle.rgctx_fill.specs.NodeReadings.{numbered, with_type_tree}
use Rattle.rgctx_fill.specs.Moves.{Within}
use Rattle.rt_service.specs.declared.reading.TypeRead.{TypeRead}
use Rattle.rt_service.specs.Numbers.{node_number}
use Rattle.rt_service.specs.Readings.{GoesOnType}
use Rattle.rt_service.proofs.PairLemmas.{numbered_made, first_part, second_part}
use Rattle.rt_service.proofs.typing.two_types.Goals as goal

pub returns-in_ok-pair-in-Spells-clause-goes : goal.returns-in_ok-pair-in-Spells-clause-goes
returns-in_ok-pair-in-Spells-clause-goes g c = λ h within im s next said new made.
    let cat : CatData = data_of c.args.image.now.cat in
    let some : is_some (node_number c.args.number) ≡ true = ap is_some (sym c.node_number.ensures) ∙ c.is_none.ensures ∙ ap not c.if-is_none.false in
    let other : is_some (node_number c.args.other) ≡ true = ap is_some (sym c.node_number-2.ensures) ∙ c.is_none-2.ensures ∙ ap not c.if-is_none-2.false in
    let beside : TExpr → Move = λ t. with_type_tree s c.args.other (next t) in
    let before : Within h (g.W.Words.held c.args.words.now) (g.W.Words.held c.type_at.new.words) = first_part h _ _ _ within c.type_beside.ensures.grows in
    let behind : Within h (g.W.Words.held c.type_at.new.words) (g.W.Words.held c.type_beside.new.words) = second_part h _ _ _ within c.type_at.ensures.grows in
    numbered_made cat h s said new c.args.number (numbered s c.args.other (with_type_tree s c.args.number beside)) some
    (numbered_made cat h s said new c.args.other (with_type_tree s c.args.number beside) other
    (c.in_ok-first.ensures.goes h before s beside said new
    (subst (λ (r : TypeRead). GoesOnType cat h s r beside said new) (sym c.in-Spells.is)
    (c.in_ok-pair-in-Spells.ensures.goes h behind s next said new made))))

pub returns-in-Unread-clause-goes : goal.returns-in-Unread-clause-goes
returns-in-Unread-clause-goes g c = λ h within im s next said new made.
    let cat : CatData = data_of c.args.image.now.cat in
    let some : is_some (node_number c.args.number) ≡ true = ap is_some (sym c.node_number.ensures) ∙ c.is_none.ensures ∙ ap not c.if-is_none.false in
    let other : is_some (node_number c.args.other) ≡ true = ap is_some (sym c.node_number-2.ensures) ∙ c.is_none-2.ensures ∙ ap not c.if-is_none-2.false in
    let beside : TExpr → Move = λ t. with_type_tree s c.args.other (next t) in
    numbered_made cat h s said new c.args.number (numbered s c.args.other (with_type_tree s c.args.number beside)) some
    (numbered_made cat h s said new c.args.other (with_type_tree s c.args.number beside) other
    (c.in_ok-first.ensures.goes h within s beside said new
    (subst (λ (r : TypeRead). GoesOnType cat h s r beside said new) (sym c.in-Unread.is) made)))

pub returns-in-Refused-clause-goes : goal.returns-in-Refused-clause-goes
returns-in-Refused-clause-goes g c = λ h within im s next said new made.
    let cat : CatData = data_of c.args.image.now.cat in
    let some : is_some (node_number c.args.number) ≡ true = ap is_some (sym c.node_number.ensures) ∙ c.is_none.ensures ∙ ap not c.if-is_none.false in
    let other : is_some (node_number c.args.other) ≡ true = ap is_some (sym c.node_number-2.ensures) ∙ c.is_none-2.ensures ∙ ap not c.if-is_none-2.false in
    let beside : TExpr → Move = λ t. with_type_tree s c.args.other (next t) in
    numbered_made cat h s said new c.args.number (numbered s c.args.other (with_type_tree s c.args.number beside)) some
    (numbered_made cat h s said new c.args.other (with_type_tree s c.args.number beside) other
    (c.in_ok-first.ensures.goes h within s beside said new
    (subst (λ (r : TypeRead). GoesOnType cat h s r beside said new) (sym c.in-Refused.is) made)))
