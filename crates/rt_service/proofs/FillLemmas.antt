-- The turns of a fill as turns of its thread.
use Rattle.std.proofs.Common.{◌≡◌, ◌≢◌, ℕ, ◌<◌, ◌≤◌, Bool, true, false, List, [], length, if◌then◌else◌, sym, ap, ◌∙◌, subst, arith}
use Rattle.std.specs.Prelude.{nat_lt}
use Rattle.il_model.specs.declared.layout.Limit.{Limit}
use Rattle.il_model.specs.declared.layout.MethodTree.{MethodTree}
use Rattle.interaction.specs.declared.turn.What.TheVariants as noted
use Rattle.cil_meaning.specs.Mentions.{cause_of}
use Rattle.rgctx_words.specs.Held.{Grows}
use Rattle.rgctx_template.specs.Catalogue.{CatData}
use Rattle.rgctx_fill.specs.declared.spelled.NodeTree.{NodeTree}
use Rattle.rgctx_fill.specs.declared.spelled.NodeTree.TheVariants as tree
use Rattle.rgctx_fill.specs.declared.stage.NodeStep.{NodeStep}
use Rattle.rgctx_fill.specs.declared.stage.Stage.{Stage}
use Rattle.rgctx_fill.specs.declared.stage.Stage.TheVariants as stage
use Rattle.rgctx_fill.specs.declared.stage.Region.{Region}
use Rattle.rgctx_fill.specs.declared.stage.FillNext.{FillNext}
use Rattle.rgctx_fill.specs.declared.stage.FillNext.TheVariants as next
use Rattle.rgctx_fill.specs.declared.stage.FillStep.{FillStep}
use Rattle.rgctx_fill.specs.declared.stage.FillStep.TheVariants as step
use Rattle.rgctx_fill.specs.declared.doing.Doing.TheVariants.{Fills, Stops}
use Rattle.rgctx_fill.specs.declared.thread.Want.{Want}
use Rattle.rgctx_fill.specs.declared.thread.Want.TheVariants as answers
use Rattle.rgctx_fill.specs.Spelled.{spelled_below, spelled}
use Rattle.rgctx_fill.specs.SpelledLaws.{is_zero, no_zero_word, spelled-grows}
use Rattle.rgctx_fill.specs.Nodes.{IsAdmittedMethod, MayStand}
use Rattle.rgctx_fill.specs.Fitting.{AreFitting}
use Rattle.rgctx_fill.specs.Claims.{IsSure, Shows}
use Rattle.rgctx_fill.specs.Templates.{tree_template, template_at}
use Rattle.rgctx_fill.specs.Turns.{FillData, next_of, taken, given_at, first_stage, begun}
use Rattle.rgctx_fill.specs.Ready.{IsAnswered, IsAtEnd, claims_after, IsOn}
use Rattle.rgctx_fill.specs.Ready as ready
use Rattle.rgctx_fill.specs.Starting.{IsFillable, steps_named, IsBegun, IsRefused}
use Rattle.rgctx_fill.specs.Bases.{base_named}
use Rattle.rgctx_fill.specs.ThreadStates.{ImageData, ThreadData, Move, now_doing}
use Rattle.rgctx_fill.specs.ThreadStates as move
use Rattle.rgctx_fill.specs.FillServices.{region_of, filled_with, filled, fills_next, fills_on, begins_within, begins_closed, begins_entry, begins_at}
use Rattle.rgctx_fill.specs.Moves.{Span, IsMade}
use Rattle.rt_service.specs.Readings.{IsSpelled}
use Rattle.rt_service.specs.Notes.{noted_as}

-- One turn -------------------------------------------------------------------

module _ (cat : CatData) (h : Span) (s : ThreadData) (f : FillData) where
  answered_made : (n : FillNext) (answer : ℕ) (said : Want) (new : ThreadData) → IsAnswered h.alone h.before h.after n answer → h.relisted ≡ claims_after h.listed n answer
      → said ≡ answers.Did (noted_as n) → new ≡ filled s (taken f answer) → IsMade cat h s (fills_next s f n) said new
  answered_made (next.Load i) answer said new answered claims says is = record { answer = answer; loaded = answered; gone = record { says = says; state = is; claims = claims } }
  answered_made (next.Claim i word) answer said new answered claims says is = record { answer = answer; claimed = answered; says = says; state = is; claims = claims }
  answered_made (next.Full r key) answer said new answered claims says is = absurd answered
  answered_made next.Nothing answer said new answered claims says is = absurd answered

  -- a turn of the fill was made, and it goes on or has answered
  pub turn_made : (g : FillData) (gives : FillStep) (said : Want) (new : ThreadData) → ready.IsMade h.alone h.before h.after h.listed h.relisted f g gives
      → said ≡ answers.Did (noted_as (next_of f)) → new ≡ filled_with s g gives → IsMade cat h s (fills_on s f) said new
  turn_made g gives said new made says is =
      answered_made (next_of f) made.answer said new made.answered made.claims says
      (is ∙ ap (λ (x : FillStep). filled_with s g x) made.leads ∙ ap (filled s) made.takes)

  -- no turn was made, since a list is full
  pub full_made : (g : FillData) (r : Region) (key : ℕ) (said : Want) (new : ThreadData) → IsAtEnd h.before h.after h.listed h.relisted f g r key → s.doing ≡ Fills f
      → said ≡ answers.Full (region_of r) key → new ≡ now_doing s (Fills g) → IsMade cat h s (fills_on s f) said new
  full_made g r key said new ended is says was =
      subst (λ (n : FillNext). IsMade cat h s (fills_next s f n) said new) (sym ended.full)
      (record { says = says; state = was ∙ ap (λ (x : FillData). now_doing s (Fills x)) ended.same ∙ ap (now_doing s) (sym is); claims = ended.claims })

-- The start ------------------------------------------------------------------

abbrev fill_of : ℕ → ℕ → ℕ → List NodeStep → List ℕ → Stage → FillData
fill_of node entry base steps found here = record { node = node; entry = entry; base = base; steps = steps; found = found; stage = here }

begun_is : (node number base : ℕ) (steps : List NodeStep) (f : FillData) → f.node ≡ node → f.entry ≡ number → f.base ≡ base → f.steps ≡ steps → f.found ≡ [] → f.stage ≡ first_stage f.steps 0
    → begun node number steps base ≡ f
begun_is node number base steps f n j b s found here =
    ap (λ (x : ℕ). fill_of x number base steps [] (first_stage steps 0)) (sym n)
    ∙ ap (λ (x : ℕ). fill_of f.node x base steps [] (first_stage steps 0)) (sym j)
    ∙ ap (λ (x : ℕ). fill_of f.node f.entry x steps [] (first_stage steps 0)) (sym b)
    ∙ ap (λ (x : List NodeStep). fill_of f.node f.entry f.base x [] (first_stage x 0)) (sym s)
    ∙ ap (λ (x : List ℕ). fill_of f.node f.entry f.base f.steps x (first_stage f.steps 0)) (sym found)
    ∙ ap (λ (x : Stage). fill_of f.node f.entry f.base f.steps f.found x) (sym here)

module _ (im : ImageData) (s : ThreadData) (held : ℕ → ℕ) (node number : ℕ) where
  abbrev told : NodeTree
  told = spelled held node

  pub begins : (f : FillData) → IsBegun im.cat held node number f → begins_at im s node number told ≡ move.Goes noted.Action (now_doing s (Fills f))
  begins f b =
      let spells : NodeTree = told in
      ap (begins_entry im s node number spells) b.is.is
      ∙ ap (begins_closed im s node number spells) (sym b.is.closed)
      ∙ ap (begins_within im s node number spells b.entry) b.admitted
      ∙ ap (λ (x : FillData). move.Goes noted.Action (now_doing s (Fills x))) (begun_is node number (base_named im.cat told b.entry) (steps_named im.cat.program told b.entry) f b.node_is b.entry_is b.base b.steps b.found b.stage)

  pub refused_start : (limit : Limit) → IsRefused im.cat held node number limit → begins_at im s node number told ≡ move.Goes noted.Action (now_doing s (Stops (cause_of limit)))
  refused_start limit r =
      let spells : NodeTree = told in
      ap (begins_entry im s node number spells) r.is.is
      ∙ ap (begins_closed im s node number spells) (sym r.is.closed)
      ∙ ap (begins_within im s node number spells r.entry) r.passes

-- What is known of a node that was read ------------------------------------------

module _ (cat : CatData) (held at : ℕ → ℕ) (fits : AreFitting cat at) (grows : Grows held at) where
  module _ (number : ℕ) (t : NodeTree) (read : IsSpelled held number t) where
    spelled_there : spelled at number ≡ t
    spelled_there = spelled-grows held at grows number (ap is_zero read.is ∙ read.used) ∙ read.is

    used_there : at number ≢ 0
    used_there = no_zero_word (spelled_below at number) number (at number) (ap is_zero spelled_there ∙ read.used)

    pub stands_there : MayStand cat.program number t
    stands_there = subst (MayStand cat.program number) spelled_there (fits.nodes number (let p = read.low in omega arith) read.high used_there)

    pub few_entries : IsFillable cat → length (tree_template cat t) ≤ 1792
    few_entries fillable = fillable.few number t stands_there

-- what was read of a node shows that it is in use, and what its template has
pub shows_read : (cat : CatData) (held : ℕ → ℕ) (number : ℕ) (t : NodeTree) → IsSpelled held number t → Shows cat held number
shows_read cat held number t read = λ at fits grows. used_there cat held at fits grows number t read

pub entry_read : (cat : CatData) (held : ℕ → ℕ) (number : ℕ) (t : NodeTree) (entry : ℕ) → IsSpelled held number t → entry < length (tree_template cat t)
    → IsSure cat held (λ at. entry < length (template_at cat at number))
entry_read cat held number t entry read less = λ at fits grows. subst (λ (x : NodeTree). entry < length (tree_template cat x)) (sym (spelled_there cat held at fits grows number t read)) less

-- what was read of a node it goes on to spell
pub read_later : (held after : ℕ → ℕ) → Grows held after → (number : ℕ) (t : NodeTree) → IsSpelled held number t → spelled after number ≡ t
read_later held after grows number t read = spelled-grows held after grows number (ap is_zero read.is ∙ read.used) ∙ read.is

-- a method that was read of a node is admitted
pub method_read : (cat : CatData) (held at : ℕ → ℕ) → AreFitting cat at → Grows held at → (number : ℕ) (m : MethodTree) → IsSpelled held number (tree.Method m) → IsAdmittedMethod cat.program m
method_read cat held at fits grows number m read = stands_there cat held at fits grows number (tree.Method m) read

-- A fill is ready for its next turn ------------------------------------------------

first_on : (b : Bool) → IsOn (if b then stage.Node 1 else stage.Link 0 0)
first_on true = tt
first_on false = tt

pub begun_on : (f : FillData) → f.stage ≡ first_stage f.steps 0 → IsOn f.stage
begun_on f is = subst IsOn (sym is) (first_on (nat_lt 0 (length f.steps)))

pub same_fill : (f g : FillData) → Fills f ≡ Fills g → f ≡ g
same_fill f g e = cc

pub on_more : (s : Stage) → step.More ≡ given_at s → IsOn s
on_more (stage.Node place) more = tt
on_more (stage.NodeClaim place) more = tt
on_more (stage.Link depth row) more = tt
on_more (stage.Row depth row place) more = tt
on_more (stage.RowClaim depth row place) more = tt
on_more (stage.Tie depth row found) more = tt
on_more (stage.Entry row) more = tt
on_more (stage.Done value) more = absurd cc
