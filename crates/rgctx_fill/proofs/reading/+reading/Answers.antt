use Rattle.std.proofs.Common.{◌≡◌, ⊎_elim, ◌+◌, ◌<◌, drop, sym, ap, ◌∙◌, subst, arith}
use Rattle.std.specs.Prelude.{slice_index}
use Rattle.il_model.specs.declared.layout.MethodTree.{MethodTree}
use Rattle.rgctx_words.specs.NodeWords.{node_read}
use Rattle.rgctx_template.specs.Catalogue.{data_of}
use Rattle.rgctx_fill.specs.declared.spelled.NodeTree.TheVariants as tree
use Rattle.rgctx_fill.specs.Spelled.{argument_fields}
use Rattle.rgctx_fill.specs.Reading.{IsNodeTree}
use Rattle.rgctx_fill.proofs.ReadingLemmas.{Continues, grows-on, continues-on, continues-more, field-first, field-is_type, argument-no_method, argument-no_other}
use Rattle.rgctx_fill.proofs.reading.+reading.Goals as goal

pub argument_types-returns-then-field-node-clause-types : goal.argument_types-returns-then-field-node-clause-types
argument_types-returns-then-field-node-clause-types g t c meets =
    let inv = c.loop-field.invariant in
    let node = c.args.node in
    let s = g.met.W.Words.sound c.args.cat.now c.loop-field.words (inv.met c.args.cat.now meets) in
    let stays = inv.grows node c.requires.held in
    let type = field-is_type (data_of c.args.cat.now) (λ k. slice_index s.words k) (g.W.Words.held c.loop-field.words) s.fit.fits s.within node c.requires.number.0 c.requires.number.1 (λ z. c.requires.held (sym stays ∙ z))
    c.args.fields.now (c.requires.fields ∙ ap (λ w. argument_fields (node_read w)) (sym stays)) c.loop-field.types c.loop-field.field-index c.loop-field-test.true c.if-field-eq0.false (inv.reads meets) in
    let less : slice_index c.args.fields.now c.loop-field.field-index < node = type.less in
    absurd (omega arith)

pub argument_types-returns-in-Method-clause-types : goal.argument_types-returns-in-Method-clause-types
argument_types-returns-in-Method-clause-types g t c meets =
    let inv = c.loop-field.invariant in
    let node = c.args.node in
    let under = c.args.cat.now in
    let old = g.W.Words.held c.loop-field.words in
    let new = g.W.Words.held c.node_tree.new.words in
    let m = inv.met under meets in
    let s = g.met.W.Words.sound under c.node_tree.new.words (c.node_tree.ensures.met under m) in
    let a = slice_index c.args.fields.now c.loop-field.field-index in
    let grown = grows-on (g.W.Words.held c.args.words.now) old new inv.grows c.node_tree.ensures.grows in
    let stays = grown node c.requires.held in
    let type = field-is_type (data_of under) (λ k. slice_index s.words k) new s.fit.fits s.within node c.requires.number.0 c.requires.number.1 (λ z. c.requires.held (sym stays ∙ z))
    c.args.fields.now (c.requires.fields ∙ ap (λ w. argument_fields (node_read w)) (sym stays)) c.loop-field.types c.loop-field.field-index c.loop-field-test.true c.if-field-eq0.false
    (continues-on old new node c.args.fields.now c.loop-field.types (drop c.loop-field.field-index c.args.fields.now) c.node_tree.ensures.grows (inv.reads meets)) in
    let read = c.in_ok-tree.ensures.tree m in
    ⊎_elim
    (λ (p : (x : MethodTree) × (c.in_ok-tree.field-0 ≡ tree.Method x)). argument-no_method (λ k. slice_index s.words k) new s.within node a type p.0 (subst (IsNodeTree (data_of under) old new a) p.1 read))
    (λ (e : c.in_ok-tree.field-0 ≡ tree.Other). argument-no_other (λ k. slice_index s.words k) new s.within node a type (subst (IsNodeTree (data_of under) old new a) e read))
    c.in-Method.is

pub argument_types-loop-field-preserved : goal.argument_types-loop-field-preserved
argument_types-loop-field-preserved g t c =
    let inv = c.loop-field.invariant in
    let node = c.args.node in
    let old = g.W.Words.held c.loop-field.words in
    let new = g.W.Words.held c.node_tree.new.words in
    let a = slice_index c.args.fields.now c.loop-field.field-index in
    record {
      place = c.node_tree.ensures.place ∙ inv.place;
      alone = c.node_tree.ensures.alone ∙ inv.alone;
      claims = c.node_tree.ensures.claims ∙ inv.claims;
      grows = grows-on (g.W.Words.held c.args.words.now) old new inv.grows c.node_tree.ensures.grows;
      only = λ alone j. c.node_tree.ensures.only (inv.alone ∙ alone) j ∙ inv.only alone j;
      met = λ under met. c.node_tree.ensures.met under (inv.met under met);
      reads = λ meets.
          let read = c.in_ok-tree.ensures.tree (inv.met c.args.cat.now meets) in
          let stays = continues-on old new node c.args.fields.now c.loop-field.types (drop c.loop-field.field-index c.args.fields.now) c.node_tree.ensures.grows (inv.reads meets) in
          subst (λ ts. Continues new node c.args.fields.now ts (drop (c.loop-field.field-index + 1) c.args.fields.now)) (sym (c.in_ok-put-in-Kind.ensures {u = tt}))
          (continues-more new node c.args.fields.now c.loop-field.types a (drop (c.loop-field.field-index + 1) c.args.fields.now) c.in-Kind.tree c.if-field-eq0.false c.if-field-node.false
          (subst (IsNodeTree (data_of c.args.cat.now) old new a) c.in-Kind.is read)
          (subst (Continues new node c.args.fields.now c.loop-field.types) (field-first c.args.fields.now c.loop-field.field-index c.loop-field-test.true) stays));
    }
