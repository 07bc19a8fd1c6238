use Rattle.std.proofs.Common.{◌≡◌, ◌≤◌, length, Some, refl, sym, ap, ◌∙◌, subst, arith, rules}
use Rattle.std.specs.Prelude.{slice_get, slice_index}
use Rattle.std.proofs.lemmas.Option.{slice_get_read}
use Rattle.rgctx_template.specs.Catalogue.{data_of}
use Rattle.rgctx_fill.specs.Templates.{tree_template}
use Rattle.rgctx_fill.specs.Starting.{IsPlanned, IsBegun}
use Rattle.rgctx_fill.proofs.StartLemmas.{opened, own-whole, few-depths, begins, refuses}
use Rattle.rgctx_fill.proofs.WholeImage.{image-fillable}
use Rattle.rgctx_fill.proofs.fill.Fill.start.Goals as goal

pub plan_of-requires-clause-whole : goal.plan_of-requires-clause-whole
plan_of-requires-clause-whole g c =
    let cat = data_of c.args.cat.now in
    let after = g.W.Words.held c.node_tree.new.words in
    let s = g.met.W.Words.sound c.args.cat.now c.node_tree.new.words (c.node_tree.ensures.met c.args.cat.now c.requires.met) in
    let t = c.in_ok-tree.tree in
    let o = opened cat (g.W.Words.held c.args.words.now) after (λ k. slice_index s.words k) c.args.node c.args.entry t s.fit.fits s.within c.node_tree.ensures.grows c.requires.number.0 c.requires.number.1 c.requires.shown c.requires.entry
    (c.in_ok-tree.ensures.tree c.requires.met) in
    let es = c.as_slice.result.now in
    let e = c.in-Some.named.now in
    let listed : es ≡ tree_template cat t = search rules in
    let item : slice_get (tree_template cat t) c.args.entry ≡ Some e =
    ap (λ l. slice_get l c.args.entry) (sym listed) ∙ slice_get_read es (length es) c.args.entry e refl c.in-Some.ensures.lookup.3.0 c.in-Some.ensures.lookup.1 in
    own-whole cat after c.args.node c.args.entry t o (image-fillable cat c.requires.image) e c.in_ok-own-in-Some.own item (c.in_ok-own-in-Some.ensures {u = tt})

pub returns-in-Plan-clause-starts : goal.returns-in-Plan-clause-starts
returns-in-Plan-clause-starts g c =
    let cat = data_of c.args.cat.now in
    let after = g.W.Words.held c.node_tree.new.words in
    let s = g.met.W.Words.sound c.args.cat.now c.node_tree.new.words (c.node_tree.ensures.met c.args.cat.now c.requires.met) in
    let t = c.in_ok-tree.tree in
    let o = opened cat (g.W.Words.held c.args.words.now) after (λ k. slice_index s.words k) c.args.node c.args.entry t s.fit.fits s.within c.node_tree.ensures.grows c.requires.number.0 c.requires.number.1 c.requires.shown c.requires.entry
    (c.in_ok-tree.ensures.tree c.requires.met) in
    let es = c.as_slice.result.now in
    let e = c.in-Some.named.now in
    let listed : es ≡ tree_template cat t = search rules in
    let item : slice_get (tree_template cat t) c.args.entry ≡ Some e =
    ap (λ l. slice_get l c.args.entry) (sym listed) ∙ slice_get_read es (length es) c.args.entry e refl c.in-Some.ensures.lookup.3.0 c.in-Some.ensures.lookup.1 in
    let planned = subst (IsPlanned cat t c.in_ok-own-in-Some.own) c.in-Plan.is (c.in_ok-steps-in-Some.ensures {u = tt}) in
    subst (IsBegun cat after c.args.node c.args.entry) (sym (c.in_ok-fill-in-Plan.ensures {u = tt}))
    (begins cat after c.args.node c.args.entry t o (image-fillable cat c.requires.image) e c.in_ok-own-in-Some.own item (c.in_ok-own-in-Some.ensures {u = tt}) c.in-Plan.steps.items c.in-Plan.base c.requires.number.0 c.requires.number.1 planned)

pub returns-in-Some-clause-starts : goal.returns-in-Some-clause-starts
returns-in-Some-clause-starts g c =
    let cat = data_of c.args.cat.now in
    let after = g.W.Words.held c.node_tree.new.words in
    let s = g.met.W.Words.sound c.args.cat.now c.node_tree.new.words (c.node_tree.ensures.met c.args.cat.now c.requires.met) in
    let t = c.in_ok-tree.tree in
    let o = opened cat (g.W.Words.held c.args.words.now) after (λ k. slice_index s.words k) c.args.node c.args.entry t s.fit.fits s.within c.node_tree.ensures.grows c.requires.number.0 c.requires.number.1 c.requires.shown c.requires.entry
    (c.in_ok-tree.ensures.tree c.requires.met) in
    let es = c.as_slice.result.now in
    let e = c.in-Some.named.now in
    let listed : es ≡ tree_template cat t = search rules in
    let item : slice_get (tree_template cat t) c.args.entry ≡ Some e =
    ap (λ l. slice_get l c.args.entry) (sym listed) ∙ slice_get_read es (length es) c.args.entry e refl c.in-Some.ensures.lookup.3.0 c.in-Some.ensures.lookup.1 in
    refuses cat after c.args.node c.args.entry t o (image-fillable cat c.requires.image) e c.in_ok-own-in-Some.own item (c.in_ok-own-in-Some.ensures {u = tt}) c.in-Refused.limit
    (subst (IsPlanned cat t c.in_ok-own-in-Some.own) c.in-Refused.is (c.in_ok-steps-in-Some.ensures {u = tt}))

pub unreachable-requires : goal.unreachable-requires
unreachable-requires g c =
    let cat = data_of c.args.cat.now in
    let after = g.W.Words.held c.node_tree.new.words in
    let s = g.met.W.Words.sound c.args.cat.now c.node_tree.new.words (c.node_tree.ensures.met c.args.cat.now c.requires.met) in
    let t = c.in_ok-tree.tree in
    let o = opened cat (g.W.Words.held c.args.words.now) after (λ k. slice_index s.words k) c.args.node c.args.entry t s.fit.fits s.within c.node_tree.ensures.grows c.requires.number.0 c.requires.number.1 c.requires.shown c.requires.entry
    (c.in_ok-tree.ensures.tree c.requires.met) in
    let listed : c.as_slice.result.now ≡ tree_template cat t = search rules in
    let past : length c.as_slice.result.now ≤ c.args.entry = c.in-None.ensures.lookup.3 in
    let count : length c.as_slice.result.now ≡ length (tree_template cat t) = ap length listed in
    let there = o.there in
    let no : ⊥ = omega arith in
    no

pub plan_of-requires-clause-fillable : goal.plan_of-requires-clause-fillable
plan_of-requires-clause-fillable g c = image-fillable (data_of c.args.cat.now) c.requires.image

pub begun-requires-clause-depths : goal.begun-requires-clause-depths
begun-requires-clause-depths g c =
    let cat = data_of c.args.cat.now in
    let after = g.W.Words.held c.node_tree.new.words in
    let s = g.met.W.Words.sound c.args.cat.now c.node_tree.new.words (c.node_tree.ensures.met c.args.cat.now c.requires.met) in
    let t = c.in_ok-tree.tree in
    let o = opened cat (g.W.Words.held c.args.words.now) after (λ k. slice_index s.words k) c.args.node c.args.entry t s.fit.fits s.within c.node_tree.ensures.grows c.requires.number.0 c.requires.number.1 c.requires.shown c.requires.entry
    (c.in_ok-tree.ensures.tree c.requires.met) in
    let es = c.as_slice.result.now in
    let e = c.in-Some.named.now in
    let listed : es ≡ tree_template cat t = search rules in
    let item : slice_get (tree_template cat t) c.args.entry ≡ Some e =
    ap (λ l. slice_get l c.args.entry) (sym listed) ∙ slice_get_read es (length es) c.args.entry e refl c.in-Some.ensures.lookup.3.0 c.in-Some.ensures.lookup.1 in
    few-depths cat after c.args.node c.args.entry t o (image-fillable cat c.requires.image) e c.in_ok-own-in-Some.own item (c.in_ok-own-in-Some.ensures {u = tt})
