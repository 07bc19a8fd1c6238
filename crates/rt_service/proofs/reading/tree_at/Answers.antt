use Rattle.std.proofs.Common.{◌≡◌, ℕ, refl, sym, subst, ◌∙◌}
use Rattle.interaction.specs.declared.turn.What.TheVariants as noted
use Rattle.rgctx_template.specs.Catalogue.{data_of}
use Rattle.rgctx_fill.specs.declared.spelled.NodeTree.{NodeTree}
use Rattle.rgctx_fill.specs.declared.spelled.NodeTree.TheVariants as tree
use Rattle.rgctx_fill.specs.declared.thread.Want.TheVariants as answers
use Rattle.rgctx_fill.specs.Reading.{IsUnknown, IsNodeTree}
use Rattle.rgctx_fill.specs.Moves.{IsSame}
use Rattle.rt_service.proofs.SpelledLemmas.{read_spelled}
use Rattle.rt_service.proofs.TreeLemmas.{tree_answered, unread_made}
use Rattle.rt_service.proofs.reading.tree_at.Goals as goal

pub returns-in-Kind-clause-goes : goal.returns-in-Kind-clause-goes
returns-in-Kind-clause-goes g c = λ h within s next said new made.
    tree_answered (data_of c.args.cat.now) h s said new c.args.number c.in-Some.node c.in_ok-zero.field-0 (tree.Kind c.in-Kind.kind) (g.W.Words.held c.args.words.now) (g.W.Words.held c.node_tree.new.words) next
    (sym c.node_number.ensures ∙ c.in-Some.is) within.sooner (c.in_ok-zero.ensures.tree c.requires.met) c.in-Kind.is refl made

pub returns-in-Method-clause-goes : goal.returns-in-Method-clause-goes
returns-in-Method-clause-goes g c = λ h within s next said new made.
    tree_answered (data_of c.args.cat.now) h s said new c.args.number c.in-Some.node c.in_ok-zero.field-0 (tree.Method c.in-Method.method) (g.W.Words.held c.args.words.now) (g.W.Words.held c.node_tree.new.words) next
    (sym c.node_number.ensures ∙ c.in-Some.is) within.sooner (c.in_ok-zero.ensures.tree c.requires.met) c.in-Method.is refl made

pub returns-in-Other-clause-goes : goal.returns-in-Other-clause-goes
returns-in-Other-clause-goes g c = λ h within s next said new made.
    tree_answered (data_of c.args.cat.now) h s said new c.args.number c.in-Some.node c.in_ok-zero.field-0 tree.Other (g.W.Words.held c.args.words.now) (g.W.Words.held c.node_tree.new.words) next
    (sym c.node_number.ensures ∙ c.in-Some.is) within.sooner (c.in_ok-zero.ensures.tree c.requires.met) c.in-Other.is refl made

pub returns-in-Zero-clause-goes : goal.returns-in-Zero-clause-goes
returns-in-Zero-clause-goes g c = λ h within s next said new same.
    let before : ℕ → ℕ = g.W.Words.held c.args.words.now in
    let read : (c.in-Zero.zero ≡ c.in-Some.node) × IsUnknown (data_of c.args.cat.now) before c.in-Some.node =
    subst (λ (t : NodeTree). IsNodeTree (data_of c.args.cat.now) before (g.W.Words.held c.node_tree.new.words) c.in-Some.node t) c.in-Zero.is (c.in_ok-zero.ensures.tree c.requires.met) in
    unread_made (data_of c.args.cat.now) h s said new c.args.number c.in-Some.node before _ (sym c.node_number.ensures ∙ c.in-Some.is) within.later read.1
    (subst (λ (i : ℕ). IsSame h s (answers.Did (noted.Load i)) said new) read.0 same)

pub returns-in-Kind-clause-read : goal.returns-in-Kind-clause-read
returns-in-Kind-clause-read g c =
    read_spelled (data_of c.args.cat.now) c.args.number c.in-Some.node c.in_ok-zero.field-0 (tree.Kind c.in-Kind.kind) (g.W.Words.held c.args.words.now) (g.W.Words.held c.node_tree.new.words)
    (sym c.node_number.ensures ∙ c.in-Some.is) (c.in_ok-zero.ensures.tree c.requires.met) c.in-Kind.is refl

pub returns-in-Method-clause-read : goal.returns-in-Method-clause-read
returns-in-Method-clause-read g c =
    read_spelled (data_of c.args.cat.now) c.args.number c.in-Some.node c.in_ok-zero.field-0 (tree.Method c.in-Method.method) (g.W.Words.held c.args.words.now) (g.W.Words.held c.node_tree.new.words)
    (sym c.node_number.ensures ∙ c.in-Some.is) (c.in_ok-zero.ensures.tree c.requires.met) c.in-Method.is refl

pub returns-in-Other-clause-read : goal.returns-in-Other-clause-read
returns-in-Other-clause-read g c =
    read_spelled (data_of c.args.cat.now) c.args.number c.in-Some.node c.in_ok-zero.field-0 (tree.Other) (g.W.Words.held c.args.words.now) (g.W.Words.held c.node_tree.new.words)
    (sym c.node_number.ensures ∙ c.in-Some.is) (c.in_ok-zero.ensures.tree c.requires.met) c.in-Other.is refl
