use Rattle.std.proofs.Common.{◌≡◌, ℕ, ◌≤◌, length, refl, sym, ap, ◌∙◌, subst, arith, rules}
use Rattle.std.specs.Prelude.{slice_index}
use Rattle.interaction.specs.declared.turn.What.TheVariants as noted
use Rattle.store_object.specs.declared.request.Cause.{Cause}
use Rattle.cil_meaning.specs.Mentions.{cause_of}
use Rattle.rgctx_template.specs.Catalogue.{CatData, data_of}
use Rattle.rgctx_fill.specs.declared.doing.Doing.TheVariants.{Fills, Stops}
use Rattle.rgctx_fill.specs.declared.thread.Want.TheVariants as answers
use Rattle.rgctx_fill.specs.Templates.{tree_template}
use Rattle.rgctx_fill.specs.Starting.{IsBegun, Starts}
use Rattle.rgctx_fill.specs.ThreadStates.{ImageData, ThreadData, Move, image_of, now_doing}
use Rattle.rgctx_fill.specs.ThreadStates as move
use Rattle.rgctx_fill.specs.FillServices.{begins_at}
use Rattle.rgctx_fill.specs.Moves.{IsMade}
use Rattle.rgctx_fill.proofs.WholeImage.{image-fillable}
use Rattle.rt_service.specs.Notes.{IsUnderWay}
use Rattle.rt_service.proofs.FillLemmas.{begun_on, same_fill, begins, refused_start, few_entries, shows_read, entry_read, read_later}
use Rattle.rt_service.proofs.filling.fill_entry.Goals as goal

pub tree_template-requires-clause-types : goal.tree_template-requires-clause-types
tree_template-requires-clause-types g c = (image-fillable (data_of c.args.image.now.cat) c.requires.image.catalogue).types

pub tree_template-requires-clause-slots : goal.tree_template-requires-clause-slots
tree_template-requires-clause-slots g c = (image-fillable (data_of c.args.image.now.cat) c.requires.image.catalogue).slots

pub overflow_cast-place : goal.overflow_cast-place
overflow_cast-place g c =
    let cat : CatData = data_of c.args.image.now.cat in
    let s = g.met.W.Words.sound c.args.image.now.cat c.args.words.now c.requires.met in
    let few : length (tree_template cat c.args.tree.now) ≤ 1792 =
    few_entries cat (g.W.Words.held c.args.words.now) (λ k. slice_index s.words k) s.fit.fits s.within c.args.node c.args.tree.now c.requires.spelled (image-fillable cat c.requires.image.catalogue) in
    let listed : c.as_slice.result.now ≡ tree_template cat c.args.tree.now = search rules in
    let count : length c.as_slice.result.now ≡ length (tree_template cat c.args.tree.now) = ap length listed in
    let less = c.if-entry-as_slice.false in
    omega arith

pub start-requires-clause-shown : goal.start-requires-clause-shown
start-requires-clause-shown g c = shows_read (data_of c.args.image.now.cat) (g.W.Words.held c.args.words.now) c.args.node c.args.tree.now c.requires.spelled

pub start-requires-clause-entry : goal.start-requires-clause-entry
start-requires-clause-entry g c =
    let cat : CatData = data_of c.args.image.now.cat in
    let listed : c.as_slice.result.now ≡ tree_template cat c.args.tree.now = search rules in
    let count : length c.as_slice.result.now ≡ length (tree_template cat c.args.tree.now) = ap length listed in
    let less = c.if-entry-as_slice.false in
    entry_read cat (g.W.Words.held c.args.words.now) c.args.node c.args.tree.now c.args.entry c.requires.spelled (omega arith)

pub returns-in-Ready-clause-turn : goal.returns-in-Ready-clause-turn
returns-in-Ready-clause-turn g c = λ h kept.
    let im : ImageData = image_of c.args.image.now in
    let cat : CatData = data_of c.args.image.now.cat in
    let s : ThreadData = c.args.state.now in
    let after : ℕ → ℕ = g.W.Words.held c.start.new.words in
    let begun = subst (Starts cat after c.args.node c.args.entry) c.in-Ready.is (c.in_ok-fill.ensures {u = tt}).starts in
    let same = read_later (g.W.Words.held c.args.words.now) after c.start.ensures.grows c.args.node c.args.tree.now c.requires.spelled in
    let turn : begins_at im s c.args.node c.args.entry c.args.tree.now ≡ move.Goes noted.Action (now_doing s (Fills c.in-Ready.fill)) =
    ap (begins_at im s c.args.node c.args.entry) (sym same) ∙ begins im s after c.args.node c.args.entry c.in-Ready.fill begun in
    subst (λ (m : Move). IsMade cat h s m (answers.Did noted.Action) (record { core = c.state.inside.core; stack = c.state.inside.stack; doing = Fills c.in-Ready.fill })) (sym turn)
    (record { says = refl; state = ap (λ (v : ThreadData). now_doing v (Fills c.in-Ready.fill)) c.state.view_is; claims = kept })

pub returns-clause-turn : goal.returns-clause-turn
returns-clause-turn g c = λ h kept.
    let im : ImageData = image_of c.args.image.now in
    let cat : CatData = data_of c.args.image.now.cat in
    let s : ThreadData = c.args.state.now in
    let after : ℕ → ℕ = g.W.Words.held c.start.new.words in
    let refused = subst (Starts cat after c.args.node c.args.entry) c.in-Refused.is (c.in_ok-fill.ensures {u = tt}).starts in
    let same = read_later (g.W.Words.held c.args.words.now) after c.start.ensures.grows c.args.node c.args.tree.now c.requires.spelled in
    let turn : begins_at im s c.args.node c.args.entry c.args.tree.now ≡ move.Goes noted.Action (now_doing s (Stops (cause_of c.in-Refused.limit))) =
    ap (begins_at im s c.args.node c.args.entry) (sym same) ∙ refused_start im s after c.args.node c.args.entry c.in-Refused.limit refused in
    subst (λ (m : Move). IsMade cat h s m (answers.Did noted.Action) (record { core = c.state.inside.core; stack = c.state.inside.stack; doing = Stops c.cause_of.result })) (sym turn)
    (record {
      says = refl;
      state = ap (λ (w : Cause). record { core = c.state.inside.core; stack = c.state.inside.stack; doing = Stops w }) c.cause_of.ensures ∙ ap (λ (v : ThreadData). now_doing v (Stops (cause_of c.in-Refused.limit))) c.state.view_is;
      claims = kept;
    })

pub returns-in-Ready-clause-ready : goal.returns-in-Ready-clause-ready
returns-in-Ready-clause-ready g c = λ f was is.
    let cat : CatData = data_of c.args.image.now.cat in
    let after : ℕ → ℕ = g.W.Words.held c.start.new.words in
    let begun : IsBegun cat after c.args.node c.args.entry c.in-Ready.fill = subst (Starts cat after c.args.node c.args.entry) c.in-Ready.is (c.in_ok-fill.ensures {u = tt}).starts in
    subst (IsUnderWay cat after) (same_fill c.in-Ready.fill f is) (begun_on c.in-Ready.fill begun.stage, begun.ready)
