-- What a turn of a fill may claim, and that the fill is ready again behind it.
use Rattle.std.proofs.Common.{◌≡◌, ◌≢◌, ◌⊎◌, ⊎_elim, inl, inr, ℕ, zero, suc, ◌+◌, ◌-◌, ◌*◌, ◌/◌, ◌%◌, ◌<◌, ◌≤◌, ◌==◌, Bool, true, false, ◌||◌, List, [], ◌∷◌, ◌++◌, length, Option, Some, if◌then◌else◌, refl, sym, ap, ◌∙◌, subst, arith, eq-eqb, eqb-true}
use Rattle.std.specs.Prelude.{slice_get, slice_index, nat_lt, nat_le}
use Rattle.std.proofs.lemmas.Bool.{cases_lt, cases_eq}
use Rattle.std.proofs.lemmas.Bool.Decides.{nat_tests}
use Rattle.std.proofs.lemmas.List.{length-append}
use Rattle.il_model.specs.declared.entry.Entry.{Entry}
use Rattle.rgctx_words.specs.declared.place.ContextPlace.{ContextPlace}
use Rattle.rgctx_words.specs.declared.place.ContextPlace.TheVariants as cell
use Rattle.rgctx_words.specs.declared.directory.DirectoryWord.{DirectoryWord}
use Rattle.rgctx_words.specs.Regions.{word_count, node_count, row_count, rows_address, directory_index, root_index, row_index, row_address, row_at}
use Rattle.rgctx_words.specs.Places.{row_entries, depth_of, slot_of, entry_of, place_of}
use Rattle.rgctx_words.specs.Directory.{directory_word, directory_read}
use Rattle.rgctx_words.specs.Held.{Grows, with_claim}
use Rattle.rgctx_template.specs.Catalogue.{CatData}
use Rattle.rgctx_fill.specs.declared.spelled.NodeTree.{NodeTree}
use Rattle.rgctx_fill.specs.declared.stage.NodeStep.{NodeStep}
use Rattle.rgctx_fill.specs.declared.stage.Stage.{Stage}
use Rattle.rgctx_fill.specs.declared.stage.Stage.TheVariants as stage
use Rattle.rgctx_fill.specs.declared.stage.Region.{Region}
use Rattle.rgctx_fill.specs.declared.stage.Region.TheVariants as region
use Rattle.rgctx_fill.specs.declared.stage.FillNext.TheVariants as next
use Rattle.rgctx_fill.specs.declared.stage.FillStep.TheVariants as step
use Rattle.rgctx_fill.specs.Spelled.{spelled_from, spelled_below, spelled}
use Rattle.rgctx_fill.specs.Leaves.{IsLeaf, last_leaf}
use Rattle.rgctx_fill.specs.Nodes.{MayStand}
use Rattle.rgctx_fill.specs.Templates.{template_at, tree_template}
use Rattle.rgctx_fill.specs.NamedValues.{IsNamed}
use Rattle.rgctx_fill.specs.Fitting.{directory, use_of, IsRow, IsRowOf, IsNext, IsEntry, AreFitting}
use Rattle.rgctx_fill.specs.Claims.{ArePassed, MayNode, MayClaim, Allows, NamesFrom, Shows}
use Rattle.rgctx_fill.specs.SpelledLaws.{spelled-grows}
use Rattle.rgctx_fill.specs.GrowthLaws.{within-used, use-grows, named-grows}
use Rattle.rgctx_fill.specs.PlaceLaws.{node-place, directory-place, root-place, link-place, entry-place}
use Rattle.rgctx_fill.specs.Turns.{FillData, IsAt, IsFill, HasPlace, node_for, word_for, node_key, row_key, link_index, value_of, next_at, next_of, with_stage, with_node, at_row, row_or_first, taken_at, taken, given_at}
use Rattle.rgctx_fill.specs.Plans.{Spells, AreSpelled, IsStep}
use Rattle.rgctx_fill.specs.Ready.{row_for, IsRowAt, IsBefore, AreBelow, IsFilled, HasAll, Knows, IsReady, IsLoaded, IsClaimed, claims_after, IsAnswered, IsMade, IsTurn, HasNoPlace, Comes, IsOn}
use Rattle.rgctx_fill.proofs.NodeLaws.{named-only}
use Rattle.rgctx_fill.proofs.ShownLaws.{sure-grows, shows-named}
use Rattle.rgctx_fill.proofs.EntryLaws.{sure-directory, sure-root, sure-link}
use Rattle.rgctx_fill.proofs.PlanLemmas.{Got, got, index-front, index-end, stands-anywhere, key-used, key-spells, spelled-below, spelled-on, found-used, word-spells}

-- ---- small facts

not_true : {P : Type 0} (b : Bool) → b ≡ true → b ≡ false → P
not_true b e d = let h : true ≡ false = sym e ∙ d in cc

-- numbers of which the test is false differ
pub differ : (m n : ℕ) → (m == n) ≡ false → m ≢ n
differ m n ne e = not_true (m == n) (eq-eqb m n e) ne

loads : (b : Bool) (x i : ℕ) (r : Region) (k : ℕ) → (if b then next.Load x else next.Full r k) ≡ next.Load i → (b ≡ true) × (x ≡ i)
loads true x i r k h = (refl, cc)
loads false x i r k h = cc

no_claims : {P : Type 0} (b : Bool) (x i w : ℕ) (r : Region) (k : ℕ) → (if b then next.Load x else next.Full r k) ≡ next.Claim i w → P
no_claims true x i w r k h = cc
no_claims false x i w r k h = cc

fulls : (b : Bool) (x : ℕ) (r q : Region) (k l : ℕ) → (if b then next.Load x else next.Full r k) ≡ next.Full q l → (b ≡ false) × (r ≡ q) × (k ≡ l)
fulls true x r q k l h = cc
fulls false x r q k l h = (refl, cc, cc)

some_next : {P : Type 0} (b : Bool) (x : ℕ) (r : Region) (k : ℕ) → (if b then next.Load x else next.Full r k) ≡ next.Nothing → P
some_next true x r k h = cc
some_next false x r k h = cc

load_parts : (x i : ℕ) → next.Load x ≡ next.Load i → x ≡ i
load_parts x i h = cc

claim_parts : (x i v w : ℕ) → next.Claim x v ≡ next.Claim i w → (x ≡ i) × (v ≡ w)
claim_parts x i v w h = (cc, cc)

at_most : (m n : ℕ) → (m ≤ n) ⊎ (n < m)
at_most m n = ⊎_elim (λ (l : n < m). inr l) (λ (l : m ≤ n). inl l) (cases_lt n m)

-- the row of a depth that is not the first hangs on a link
link_more : (f : FillData) (depth row : ℕ) → link_index f (suc depth) row ≡ row_index row 0
link_more f depth row = let t : (suc depth == 0) ≡ false = grind (arith, nat_tests) in ap (λ (b : Bool). if b then root_index f.node else row_index row 0) t

-- what a directory word is read as
pub read-row : (node depth : ℕ) → depth < 256 → directory_read (directory_word (record { node = node; depth = depth })) ≡ row_for node depth
read-row node depth low =
    let e : (256 * node + depth) / 256 ≡ node = omega arith in
    let f : (256 * node + depth) % 256 ≡ depth = omega arith in
    λ i. record { node = e i; depth = f i }

pub row-at : (row : ℕ) → row < row_count → row_at (row_address row) ≡ Some row
row-at row low =
    let a : nat_le rows_address (row_address row) ≡ true = grind (arith, nat_tests) in
    let d : (row_address row - rows_address) / 64 ≡ row = omega arith in
    let m : ((row_address row - rows_address) % 64 == 0) ≡ true = eq-eqb ((row_address row - rows_address) % 64) 0 (omega arith) in
    let l : nat_lt row row_count ≡ true = grind (arith, nat_tests) in
    rw (a, d, m, l) refl

-- a row of a node in use is in use
row_used : (at : ℕ → ℕ) (row node depth : ℕ) → 0 < node → use_of at row ≡ row_for node depth → directory at row ≢ 0
row_used at row node depth low is z =
    let e : (directory_read 0).node ≡ node = ap (λ w. (directory_read w).node) (sym z) ∙ ap (λ (u : DirectoryWord). u.node) is in
    let f : 0 ≡ node = e in
    omega arith

entry_back : (entry : ℕ) → entry_of (depth_of entry) (slot_of entry) ≡ entry
entry_back entry = omega arith

-- ---- words that are passed

passed_none : (word : ℕ → ℕ) (first new : ℕ) → ArePassed word first first new
passed_none word first new = record {
  held = λ j low less. absurd (omega arith);
  other = λ j low less. absurd (omega arith);
}

passed_on : (before after : ℕ → ℕ) → Grows before after → (first place new : ℕ) → ArePassed before first place new → ArePassed after first place new
passed_on before after grows first place new p = record {
  held = λ j low less z. p.held j low less (sym (grows j (p.held j low less)) ∙ z);
  other = λ j low less e. p.other j low less (sym (grows j (p.held j low less)) ∙ e);
}

passed_more : (before after : ℕ → ℕ) → Grows before after → (first place new : ℕ) → ArePassed before first place new → after place ≢ 0 → after place ≢ new → ArePassed after first (place + 1) new
passed_more before after grows first place new p used other =
    let q : ArePassed after first place new = passed_on before after grows first place new p in
    record {
      held = λ j low less. ⊎_elim (λ (e : j ≡ place). λ z. used (ap after (sym e) ∙ z)) (λ (ne : j ≢ place). q.held j low (omega arith)) (cases_eq j place);
      other = λ j low less. ⊎_elim (λ (e : j ≡ place). λ d. other (ap after (sym e) ∙ d)) (λ (ne : j ≢ place). q.other j low (omega arith)) (cases_eq j place);
    }

rows_on : (held after : ℕ → ℕ) → Grows held after → Grows (directory held) (directory after)
rows_on held after grows j used = grows (directory_index j) used

-- ---- what is known of the next node

record NextNode (cat : CatData) (held : ℕ → ℕ) (f : FillData) (trees : List NodeTree) : Type 0 where
  s : NodeStep
  s_is : slice_get f.steps (length f.found) ≡ Some s
  t : NodeTree
  t_is : slice_get trees (length f.found) ≡ Some t
  step : IsStep cat.program trees (length f.found) s t
  key : node_key f ≡ word_for f.found (Some s)

-- what may be claimed
pub record MayPut (cat : CatData) (held : ℕ → ℕ) (i word : ℕ) : Type 0 where
  pub low : i < word_count
  pub used : word ≢ 0
  pub allowed : Allows cat held i word

at_place : (cat : CatData) (held : ℕ → ℕ) (i word : ℕ) (p : ContextPlace) → place_of i ≡ p → MayClaim cat held word p → Allows cat held i word
at_place cat held i word p is may = subst (MayClaim cat held word) (sym is) may

module _ (cat : CatData) (held : ℕ → ℕ) (f : FillData) (ready : IsReady cat held f) where
  next_node : length f.found < length f.steps → NextNode cat held f ready.trees
  next_node less =
      let below : length f.found < length ready.trees = let e : length ready.trees ≡ length f.steps = ready.plan.count in omega arith in
      let a : Got f.steps (length f.found) = got f.steps (length f.found) less in
      let b : Got ready.trees (length f.found) = got ready.trees (length f.found) below in
      record {
        s = a.item;
        s_is = a.is;
        t = b.item;
        t_is = b.is;
        step = ready.plan.each (length f.found) a.item b.item a.is b.is;
        key = ap (word_for f.found) a.is;
      }

  key_used : length f.found < length f.steps → node_key f ≢ 0
  key_used less z =
      let n : NextNode cat held f ready.trees = next_node less in
      key-used cat.program ready.trees f.found n.s n.t n.step (spelled held) ready.found (sym n.key ∙ z)

  row_key_used : (depth : ℕ) → row_key f depth ≢ 0
  row_key_used depth z = let low : 0 < f.node = ready.fill.number.0 in let e : 256 * f.node + depth ≡ 0 = z in omega arith

  small_depth : (depth : ℕ) → depth ≤ depth_of f.entry → depth < 256
  small_depth depth low = let small : depth_of f.entry < 256 = ready.fill.depths in omega arith

  row_key_read : (depth : ℕ) → depth ≤ depth_of f.entry → directory_read (row_key f depth) ≡ row_for f.node depth
  row_key_read depth low = read-row f.node depth (small_depth depth low)

  -- ---- claims

  may_node : (place : ℕ) → last_leaf < place → place < node_count → length f.found < length f.steps → ArePassed held 1 place (node_key f) → AreBelow f.found place → MayNode cat held place (node_key f)
  may_node place later high less passed below =
      let n : NextNode cat held f ready.trees = next_node less in
      let e : spelled_from (spelled_below held place) place (node_key f) ≡ n.t =
      ap (spelled_from (spelled_below held place) place) n.key
      ∙ key-spells cat.program ready.trees f.found n.s n.t n.step (spelled_below held place) place (spelled-below held ready.trees f.found place below ready.found) in
      record {
        later = later;
        passed = passed;
        stands = subst (MayStand cat.program place) (sym e) (stands-anywhere cat.program place n.t n.step.stands);
      }

  put_node : (place : ℕ) → last_leaf < place → place < node_count → length f.found < length f.steps → ArePassed held 1 place (node_key f) → AreBelow f.found place → MayPut cat held place (node_key f)
  put_node place later high less passed below = record {
    low = omega arith;
    used = key_used less;
    allowed = at_place cat held place (node_key f) (cell.Node place) (node-place place high) (may_node place later high less passed below);
  }

  rightly : (depth : ℕ) → depth ≤ depth_of f.entry → IsRow cat held (row_for f.node depth)
  rightly depth low = record {
    number = ready.fill.number;
    used = ready.used;
    within = (let w : f.entry < length (template_at cat held f.node) = ready.within in let d : row_entries * (f.entry / row_entries) ≤ f.entry = omega arith in let e : row_entries * depth ≤ row_entries * (f.entry / row_entries) = omega arith in omega arith);
  }

  put_row : (depth place : ℕ) → depth ≤ depth_of f.entry → place < row_count → ArePassed (directory held) 0 place (row_key f depth) → MayPut cat held (directory_index place) (row_key f depth)
  put_row depth place low high passed = record {
    low = omega arith;
    used = row_key_used depth;
    allowed = at_place cat held (directory_index place) (row_key f depth) (cell.Directory place) (directory-place place high)
        (record { passed = passed; rightly = subst (IsRow cat held) (sym (row_key_read depth low)) (rightly depth low) });
  }

  row_of : (depth found : ℕ) → depth ≤ depth_of f.entry → found < row_count → directory held found ≡ row_key f depth → IsRowOf held f.node depth (row_address found)
  row_of depth found low high is = record {
    row = found;
    low = high;
    is = refl;
    used = λ z. row_key_used depth (sym is ∙ z);
    of = ap directory_read is ∙ row_key_read depth low;
  }

  address_used : (row : ℕ) → row_address row ≢ 0
  address_used row z = omega arith

  row_of_later : (at : ℕ → ℕ) → Grows held at → (depth found : ℕ) → depth ≤ depth_of f.entry → found < row_count → directory held found ≡ row_key f depth → IsRowOf at f.node depth (row_address found)
  row_of_later at within depth found low high is =
      let used : directory held found ≢ 0 = λ z. row_key_used depth (sym is ∙ z) in
      record {
        row = found;
        low = high;
        is = refl;
        used = λ z. used (sym (within (directory_index found) used) ∙ z);
        of = use-grows cat held at within found used ∙ ap directory_read is ∙ row_key_read depth low;
      }

  put_tie : (depth row found : ℕ) → depth ≤ depth_of f.entry → row < row_count → found < row_count → IsBefore cat held f.node depth row → directory held found ≡ row_key f depth
      → MayPut cat held (link_index f depth row) (row_address found)
  put_tie zero row found low inside high before is =
      let inside_node : f.node < node_count = ready.fill.number.1 in
      record {
        low = omega arith;
        used = address_used found;
        allowed = at_place cat held (root_index f.node) (row_address found) (cell.Root f.node) (root-place f.node inside_node) (row_of 0 found low high is);
      }
  put_tie (suc depth) row found low inside high before is =
      subst (λ i. MayPut cat held i (row_address found)) (sym (link_more f depth row))
      (record {
        low = omega arith;
        used = address_used found;
        allowed = at_place cat held (row_index row 0) (row_address found) (cell.Link row) (link-place row)
            (λ at fits within.
            let e : use_of at row ≡ row_for f.node depth = before at fits within in
            let more : suc depth ≡ depth + 1 = omega arith in
            record {
              used = row_used at row f.node depth ready.fill.number.0 e;
              next = subst (λ (u : DirectoryWord). IsRowOf at u.node (u.depth + 1) (row_address found)) (sym e)
                  (subst (λ d. IsRowOf at f.node d (row_address found)) more (row_of_later at within (suc depth) found low high is));
            });
      })

  named_at : HasAll f → (at : ℕ → ℕ) → Grows held at → IsNamed cat at f.node f.entry (value_of f)
  named_at all at within = ready.value at f.found within all (spelled-on cat.program f.steps ready.trees ready.plan held at within f.found ready.few ready.found)

  last_low : (k : ℕ) → length f.found ≡ suc k → 0 < node_for f.found (length f.found)
  last_low k e =
      let below : k < length ready.trees = let p : length ready.trees ≡ length f.steps = ready.plan.count in let q : length f.found < suc (length f.steps) = ready.few in omega arith in
      let g : Got ready.trees k = got ready.trees k below in
      let h : Spells (spelled held) (slice_index f.found k) g.item = ready.found k g.item (omega arith) g.is in
      subst (λ n. 0 < node_for f.found n) (sym e) h.low

  value_used : HasAll f → value_of f ≢ 0
  value_used all z = ⊎_elim
      (λ (e : length f.found ≡ 0). let p : 0 < f.base = ready.positive (sym all ∙ e) in omega arith)
      (λ (ne : length f.found ≢ 0). let p : 0 < node_for f.found (length f.found) = last_low (length f.found - 1) (omega arith) in omega arith)
      (cases_eq (length f.found) 0)

  put_entry : (row : ℕ) → row < row_count → HasAll f → IsRowAt cat held f.node (depth_of f.entry) row → MayPut cat held (row_index row (slot_of f.entry)) (value_of f)
  put_entry row low all of = record {
    low = omega arith;
    used = value_used all;
    allowed = at_place cat held (row_index row (slot_of f.entry)) (value_of f) (cell.Entry row (slot_of f.entry)) (entry-place row (slot_of f.entry) (omega arith) (omega arith))
        (λ at fits within.
        let e : use_of at row ≡ row_for f.node (depth_of f.entry) = of at fits within in
        record {
          used = row_used at row f.node (depth_of f.entry) ready.fill.number.0 e;
          named = subst (λ (u : DirectoryWord). IsNamed cat at u.node (entry_of u.depth (slot_of f.entry)) (value_of f)) (sym e)
              (subst (λ n. IsNamed cat at f.node n (value_of f)) (sym (entry_back f.entry)) (named_at all at within));
        });
  }

  moved : (i j v w : ℕ) → (i ≡ j) × (v ≡ w) → MayPut cat held i v → MayPut cat held j w
  moved i j v w e may = subst (λ x. MayPut cat held j x) e.1 (subst (λ x. MayPut cat held x v) e.0 may)

  claims_at : (s : Stage) → Knows cat held f s → IsAt f s → (i word : ℕ) → next_at f s ≡ next.Claim i word → MayPut cat held i word
  claims_at (stage.Node place) knows stands i word is = no_claims (nat_lt place node_count) place i word region.Nodes (node_key f) is
  claims_at (stage.NodeClaim place) knows stands i word is = moved place i (node_key f) word (claim_parts place i (node_key f) word is) (put_node place knows.0 stands.0 stands.1 knows.1 knows.2)
  claims_at (stage.Link depth row) knows stands i word is = cc
  claims_at (stage.Row depth row place) knows stands i word is = no_claims (nat_lt place row_count) (directory_index place) i word region.Rows (row_key f depth) is
  claims_at (stage.RowClaim depth row place) knows stands i word is =
      moved (directory_index place) i (row_key f depth) word (claim_parts (directory_index place) i (row_key f depth) word is) (put_row depth place stands.0 stands.2 knows.2)
  claims_at (stage.Tie depth row found) knows stands i word is =
      moved (link_index f depth row) i (row_address found) word (claim_parts (link_index f depth row) i (row_address found) word is) (put_tie depth row found stands.0 stands.1 stands.2 knows.1 knows.2)
  claims_at (stage.Entry row) knows stands i word is =
      moved (row_index row (slot_of f.entry)) i (value_of f) word (claim_parts (row_index row (slot_of f.entry)) i (value_of f) word is) (put_entry row stands knows.0 knows.1)
  claims_at (stage.Done value) knows stands i word is = cc

  -- each claim is one that the rule allows
  pub may-put : (i word : ℕ) → next_of f ≡ next.Claim i word → MayPut cat held i word
  may-put i word is = claims_at f.stage ready.knows ready.fill.stands i word is

-- ---- answers

-- a load was answered so
pub record Loaded (cat : CatData) (held after : ℕ → ℕ) (i answer : ℕ) : Type 0 where
  pub again : held i ≢ 0 → answer ≡ held i
  pub has : answer ≢ 0 → after i ≡ answer
  pub always : IsLeaf i → answer ≢ 0
  pub named : Shows cat held i → answer ≢ 0

-- a claim was answered so
pub record Claimed (after : ℕ → ℕ) (i word answer : ℕ) : Type 0 where
  pub has : answer ≢ 0 → after i ≡ answer
  pub put : answer ≡ 0 → after i ≡ word

-- what the fill is with one more node, where it stands at this stage
abbrev found_at : FillData → ℕ → Stage → FillData
found_at f number s = record { node = f.node; entry = f.entry; base = f.base; steps = f.steps; found = f.found ++ number ∷ []; stage = s }

module _ (cat : CatData) (held after at : ℕ → ℕ) (f : FillData) (ready : IsReady cat held f) (grows : Grows held after) (fits : AreFitting cat at) (within : Grows after at) where
  grows_on : Grows held at
  grows_on j used = within j (λ z. used (sym (grows j used) ∙ z)) ∙ grows j used

  template_on : template_at cat after f.node ≡ template_at cat held f.node
  template_on = ap (tree_template cat) (spelled-grows held after grows f.node (within-used cat (spelled held f.node) f.entry ready.within))

  found_on : AreSpelled (spelled after) ready.trees f.found
  found_on = spelled-on cat.program f.steps ready.trees ready.plan held after grows f.found ready.few ready.found

  value_on : (later : ℕ → ℕ) (numbers : List ℕ) → Grows after later → length numbers ≡ length f.steps → AreSpelled (spelled later) ready.trees numbers
      → IsNamed cat later f.node f.entry (f.base + node_for numbers (length numbers))
  value_on later numbers more count are = ready.value later numbers (λ j used. more j (λ z. used (sym (grows j used) ∙ z)) ∙ grows j used) count are

  used_on : after f.node ≢ 0
  used_on z = ready.used (sym (grows f.node ready.used) ∙ z)

  within_on : f.entry < length (template_at cat after f.node)
  within_on = subst (λ (es : List Entry). f.entry < length es) (sym template_on) ready.within

  ready_at : (s : Stage) → IsAt (with_stage f s) s → Knows cat after (with_stage f s) s → IsReady cat after (with_stage f s)
  ready_at s stands knows = record {
    fill = record { number = ready.fill.number; depths = ready.fill.depths; small = ready.fill.small; stands = stands };
    used = used_on;
    within = within_on;
    trees = ready.trees;
    plan = ready.plan;
    few = ready.few;
    found = found_on;
    value = value_on;
    positive = ready.positive;
    knows = knows;
  }

  -- ---- a node is found

  module _ (place : ℕ) (less : length f.found < length f.steps) (low : 0 < place) (high : place < node_count) (here : after place ≡ node_key f) where
    n : NextNode cat held f ready.trees
    n = next_node cat held f ready less

    found_spells : Spells (spelled after) place n.t
    found_spells = record {
      low = low;
      high = high;
      is = word-spells cat at after fits within f.steps ready.trees ready.plan f.found less found_on n.s n.s_is n.t n.t_is place low high (here ∙ n.key);
    }

    count_is : length (f.found ++ place ∷ []) ≡ length f.found + 1
    count_is = length-append f.found (place ∷ [])

    same_tree : (t : NodeTree) → Some n.t ≡ Some t → n.t ≡ t
    same_tree t e = cc

    more_found : AreSpelled (spelled after) ready.trees (f.found ++ place ∷ [])
    more_found k t below is = ⊎_elim
        (λ (front : k < length f.found). subst (λ x. Spells (spelled after) x t) (sym (index-front f.found (place ∷ []) k front)) (found_on k t front is))
        (λ (past : length f.found ≤ k).
        let last : k ≡ length f.found = let c : length (f.found ++ place ∷ []) ≡ length f.found + 1 = count_is in omega arith in
        let e : n.t ≡ t = same_tree t (sym n.t_is ∙ ap (slice_get ready.trees) (sym last) ∙ is) in
        let i : slice_index (f.found ++ place ∷ []) k ≡ place = ap (slice_index (f.found ++ place ∷ [])) last ∙ index-end f.found place [] in
        subst (λ x. Spells (spelled after) x t) (sym i) (subst (Spells (spelled after) place) e found_spells))
        (cases_lt k (length f.found))

    found_ready : (s : Stage) → IsAt (found_at f place s) s → Knows cat after (found_at f place s) s → IsReady cat after (found_at f place s)
    found_ready s stands knows = record {
      fill = record { number = ready.fill.number; depths = ready.fill.depths; small = ready.fill.small; stands = stands };
      used = used_on;
      within = within_on;
      trees = ready.trees;
      plan = ready.plan;
      few = (let c : length (f.found ++ place ∷ []) ≡ length f.found + 1 = count_is in omega arith);
      found = more_found;
      value = value_on;
      positive = ready.positive;
      knows = knows;
    }

    first_ready : (b : Bool) → nat_lt (length f.found + 1) (length f.steps) ≡ b → IsReady cat after (found_at f place (if b then stage.Node 1 else stage.Link 0 0))
    first_ready true e =
        let l : length f.found + 1 < length f.steps = grind (arith, nat_tests) in
        let c : length (f.found ++ place ∷ []) ≡ length f.found + 1 = count_is in
        found_ready (stage.Node 1) (omega arith, omega arith) (omega arith, passed_none after 1 (node_key (found_at f place (stage.Node 1))))
    first_ready false e =
        let l : length f.steps ≤ length f.found + 1 = grind (arith, nat_tests) in
        let c : length (f.found ++ place ∷ []) ≡ length f.found + 1 = count_is in
        found_ready (stage.Link 0 0) (omega arith, omega arith) (omega arith, tt)

    node_ready : IsReady cat after (with_node f place)
    node_ready = first_ready (nat_lt (length f.found + 1) (length f.steps)) refl

  -- ---- a row is found

  -- the row of a depth is known
  at_row_ready : (depth row : ℕ) → depth ≤ depth_of f.entry → row < row_count → HasAll f → IsRowAt cat after f.node depth row → (b : Bool) → (depth == depth_of f.entry) ≡ b
      → IsReady cat after (with_stage f (if b then stage.Entry row else stage.Link (depth + 1) row))
  at_row_ready depth row low inside all of true e =
      ready_at (stage.Entry row) inside (all, subst (λ d. IsRowAt cat after f.node d row) (eqb-true depth (depth_of f.entry) e) of)
  at_row_ready depth row low inside all of false e =
      let ne : depth ≢ depth_of f.entry = differ depth (depth_of f.entry) e in
      let more : suc depth ≡ depth + 1 = omega arith in
      ready_at (stage.Link (depth + 1) row) (omega arith, inside) (all, subst (λ d. IsBefore cat after f.node d row) more of)

  row_ready : (depth row : ℕ) → depth ≤ depth_of f.entry → row < row_count → HasAll f → IsRowAt cat after f.node depth row → IsReady cat after (with_stage f (at_row f depth row))
  row_ready depth row low inside all of = at_row_ready depth row low inside all of (depth == depth_of f.entry) refl

  before_on : (depth row : ℕ) → IsBefore cat held f.node depth row → IsBefore cat after f.node depth row
  before_on zero row before = tt
  before_on (suc depth) row before = sure-grows cat held after (λ w. use_of w row ≡ row_for f.node depth) grows before

  record Led (depth answer : ℕ) : Type 0 where
    row : ℕ
    low : row < row_count
    is : answer ≡ row_address row
    of : IsRowAt cat after f.node depth row

  led : (depth row answer : ℕ) → depth ≤ depth_of f.entry → row < row_count → IsBefore cat held f.node depth row → answer ≢ 0 → after (link_index f depth row) ≡ answer → Led depth answer
  led zero row answer low inside before used here =
      let i : ℕ = root_index f.node in
      let e : at i ≡ answer = within i (λ z. used (sym here ∙ z)) ∙ here in
      let r : IsRowOf at f.node 0 (at i) = fits.roots f.node ready.fill.number.1 (λ z. used (sym e ∙ z)) in
      record { row = r.row; low = r.low; is = sym e ∙ r.is; of = sure-root cat after f.node r.row ready.fill.number.1 r.low (here ∙ sym e ∙ r.is) }
  led (suc depth) row answer low inside before used there =
      let i : ℕ = row_index row 0 in
      let here : after i ≡ answer = ap after (sym (link_more f depth row)) ∙ there in
      let e : at i ≡ answer = within i (λ z. used (sym here ∙ z)) ∙ here in
      let r : IsNext at row (at i) = fits.links row inside (λ z. used (sym e ∙ z)) in
      let more : depth + 1 ≡ suc depth = omega arith in
      record {
        row = r.next.row;
        low = r.next.low;
        is = sym e ∙ r.next.is;
        of = subst (λ d. IsRowAt cat after f.node d r.next.row) more
            (sure-link cat after row r.next.row f.node depth inside r.next.low (before_on (suc depth) row before) (here ∙ sym e ∙ r.next.is));
      }

  tie_of : (depth found : ℕ) → depth ≤ depth_of f.entry → directory after found ≡ row_key f depth → IsRowAt cat after f.node depth found
  tie_of depth found low is w wfits wgrows =
      let used : directory after found ≢ 0 = λ z. row_key_used cat held f ready depth (sym is ∙ z) in
      sure-directory cat after found used w wfits wgrows ∙ ap directory_read is ∙ row_key_read cat held f ready depth low

  -- ---- loads

  below_place : (place answer : ℕ) → 0 < place → place < node_count → Loaded cat held after place answer → answer ≡ 0 → AreBelow f.found place
  below_place place answer low high loaded z k below = ⊎_elim
      (λ (lower : slice_index f.found k < place). lower)
      (λ (past : place ≤ slice_index f.found k).
      let used : held (slice_index f.found k) ≢ 0 = found-used cat.program f.steps ready.trees ready.plan held f.found ready.few ready.found k below in
      ⊎_elim
      (λ (e : place ≡ slice_index f.found k). absurd (used (ap held (sym e) ∙ sym (loaded.again (λ h. used (ap held (sym e) ∙ h))) ∙ z)))
      (λ (ne : place ≢ slice_index f.found k). absurd (loaded.named (shown (slice_index f.found k) place used (small_found k below) low (omega arith)) z))
      (cases_eq place (slice_index f.found k)))
      (cases_lt (slice_index f.found k) place)
    where
      small_found : (k : ℕ) → k < length f.found → slice_index f.found k < node_count
      small_found k below =
          let inside : k < length ready.trees = let p : length ready.trees ≡ length f.steps = ready.plan.count in let q : length f.found < suc (length f.steps) = ready.few in omega arith in
          let g : Got ready.trees k = got ready.trees k inside in
          (ready.found k g.item below g.is).high

      shown : (x y : ℕ) → held x ≢ 0 → x < node_count → 0 < y → y < x → Shows cat held y
      shown x y used high low less = shows-named cat held x y (omega arith) used (subst (λ p. NamesFrom p (held x) y) (sym (node-place x high)) (low, less))

  node_loaded : (place answer : ℕ) → 0 < place → place < node_count → length f.found < length f.steps → ArePassed held 1 place (node_key f) → Loaded cat held after place answer
      → (b c : Bool) → (answer == node_key f) ≡ b → (answer == 0) ≡ c
      → IsReady cat after (if b then with_node f place else with_stage f (if c then stage.NodeClaim place else stage.Node (place + 1)))
  node_loaded place answer low high less passed loaded true c e d =
      let is : answer ≡ node_key f = eqb-true answer (node_key f) e in
      node_ready place less low high (loaded.has (λ z. key_used cat held f ready less (sym is ∙ z)) ∙ is)
  node_loaded place answer low high less passed loaded false true e d =
      let z : answer ≡ 0 = eqb-true answer 0 d in
      let later : last_leaf < place = ⊎_elim (λ (l : place ≤ last_leaf). absurd (loaded.always (low, l) z)) (λ (l : last_leaf < place). l) (at_most place last_leaf) in
      ready_at (stage.NodeClaim place) (high, less) (later, passed_on held after grows 1 place (node_key f) passed, below_place place answer low high loaded z)
  node_loaded place answer low high less passed loaded false false e d =
      let used : answer ≢ 0 = differ answer 0 d in
      let here : after place ≡ answer = loaded.has used in
      ready_at (stage.Node (place + 1)) (omega arith, less)
      (omega arith, passed_more held after grows 1 place (node_key f) passed (λ z. used (sym here ∙ z)) (λ z. differ answer (node_key f) e (sym here ∙ z)))

  link_loaded : (depth row answer : ℕ) → depth ≤ depth_of f.entry → row < row_count → HasAll f → IsBefore cat held f.node depth row → Loaded cat held after (link_index f depth row) answer
      → (b : Bool) → (answer == 0) ≡ b → IsReady cat after (with_stage f (if b then stage.Row depth row 0 else at_row f depth (row_or_first (row_at answer))))
  link_loaded depth row answer low inside all before loaded true e =
      ready_at (stage.Row depth row 0) (low, inside, omega arith) (all, before_on depth row before, passed_none (directory after) 0 (row_key f depth))
  link_loaded depth row answer low inside all before loaded false e =
      let used : answer ≢ 0 = differ answer 0 e in
      let l : Led depth answer = led depth row answer low inside before used (loaded.has used) in
      let is : row_or_first (row_at answer) ≡ l.row = ap (λ a. row_or_first (row_at a)) l.is ∙ ap row_or_first (row-at l.row l.low) in
      subst (λ r. IsReady cat after (with_stage f (at_row f depth r))) (sym is) (row_ready depth l.row low l.low all l.of)

  row_loaded : (depth row place answer : ℕ) → depth ≤ depth_of f.entry → row < row_count → place < row_count → HasAll f → IsBefore cat held f.node depth row → ArePassed (directory held) 0 place (row_key f depth)
      → Loaded cat held after (directory_index place) answer → (b c : Bool) → (answer == row_key f depth) ≡ b → (answer == 0) ≡ c
      → IsReady cat after (with_stage f (if b then stage.Tie depth row place else (if c then stage.RowClaim depth row place else stage.Row depth row (place + 1))))
  row_loaded depth row place answer low inside high all before passed loaded true c e d =
      let is : answer ≡ row_key f depth = eqb-true answer (row_key f depth) e in
      ready_at (stage.Tie depth row place) (low, inside, high) (all, before_on depth row before, loaded.has (λ z. row_key_used cat held f ready depth (sym is ∙ z)) ∙ is)
  row_loaded depth row place answer low inside high all before passed loaded false true e d =
      ready_at (stage.RowClaim depth row place) (low, inside, high) (all, before_on depth row before, passed_on (directory held) (directory after) (rows_on held after grows) 0 place (row_key f depth) passed)
  row_loaded depth row place answer low inside high all before passed loaded false false e d =
      let used : answer ≢ 0 = differ answer 0 d in
      let here : directory after place ≡ answer = loaded.has used in
      ready_at (stage.Row depth row (place + 1)) (low, inside, omega arith) (
        all,
        before_on depth row before,
        passed_more (directory held) (directory after) (rows_on held after grows) 0 place (row_key f depth) passed (λ z. used (sym here ∙ z)) (λ z. differ answer (row_key f depth) e (sym here ∙ z)),
      )

  loaded_at : (s : Stage) → Knows cat held f s → IsAt f s → (i answer : ℕ) → next_at f s ≡ next.Load i → Loaded cat held after i answer → IsReady cat after (taken_at f s answer)
  loaded_at (stage.Node place) knows stands i answer is loaded =
      let p : (nat_lt place node_count ≡ true) × (place ≡ i) = loads (nat_lt place node_count) place i region.Nodes (node_key f) is in
      let high : place < node_count = let t : nat_lt place node_count ≡ true = p.0 in grind (arith, nat_tests) in
      node_loaded place answer knows.0 high stands.1 knows.1 (subst (λ x. Loaded cat held after x answer) (sym p.1) loaded) (answer == node_key f) (answer == 0) refl refl
  loaded_at (stage.NodeClaim place) knows stands i answer is loaded = cc
  loaded_at (stage.Link depth row) knows stands i answer is loaded =
      link_loaded depth row answer stands.0 stands.1 knows.0 knows.1 (subst (λ x. Loaded cat held after x answer) (sym (load_parts (link_index f depth row) i is)) loaded) (answer == 0) refl
  loaded_at (stage.Row depth row place) knows stands i answer is loaded =
      let p : (nat_lt place row_count ≡ true) × (directory_index place ≡ i) = loads (nat_lt place row_count) (directory_index place) i region.Rows (row_key f depth) is in
      let high : place < row_count = let t : nat_lt place row_count ≡ true = p.0 in grind (arith, nat_tests) in
      row_loaded depth row place answer stands.0 stands.1 high knows.0 knows.1 knows.2 (subst (λ x. Loaded cat held after x answer) (sym p.1) loaded) (answer == row_key f depth) (answer == 0) refl refl
  loaded_at (stage.RowClaim depth row place) knows stands i answer is loaded = cc
  loaded_at (stage.Tie depth row found) knows stands i answer is loaded = cc
  loaded_at (stage.Entry row) knows stands i answer is loaded = cc
  loaded_at (stage.Done value) knows stands i answer is loaded = cc

  -- behind a load the fill is ready
  pub ready-loaded : (i answer : ℕ) → next_of f ≡ next.Load i → Loaded cat held after i answer → IsReady cat after (taken f answer)
  ready-loaded i answer is loaded = loaded_at f.stage ready.knows ready.fill.stands i answer is loaded

  -- ---- claims

  node_claimed : (place answer : ℕ) → last_leaf < place → place < node_count → length f.found < length f.steps → ArePassed held 1 place (node_key f) → Claimed after place (node_key f) answer
      → (b c : Bool) → (answer == 0) ≡ b → (answer == node_key f) ≡ c → IsReady cat after (if b || c then with_node f place else with_stage f (stage.Node (place + 1)))
  node_claimed place answer low high less passed claimed true c e d = node_ready place less (omega arith) high (claimed.put (eqb-true answer 0 e))
  node_claimed place answer low high less passed claimed false true e d = node_ready place less (omega arith) high (claimed.has (differ answer 0 e) ∙ eqb-true answer (node_key f) d)
  node_claimed place answer low high less passed claimed false false e d =
      let used : answer ≢ 0 = differ answer 0 e in
      let here : after place ≡ answer = claimed.has used in
      ready_at (stage.Node (place + 1)) (omega arith, less)
      (omega arith, passed_more held after grows 1 place (node_key f) passed (λ z. used (sym here ∙ z)) (λ z. differ answer (node_key f) d (sym here ∙ z)))

  row_claimed : (depth row place answer : ℕ) → depth ≤ depth_of f.entry → row < row_count → place < row_count → HasAll f → IsBefore cat held f.node depth row → ArePassed (directory held) 0 place (row_key f depth)
      → Claimed after (directory_index place) (row_key f depth) answer → (b c : Bool) → (answer == 0) ≡ b → (answer == row_key f depth) ≡ c
      → IsReady cat after (with_stage f (if b || c then stage.Tie depth row place else stage.Row depth row (place + 1)))
  row_claimed depth row place answer low inside high all before passed claimed true c e d =
      ready_at (stage.Tie depth row place) (low, inside, high) (all, before_on depth row before, claimed.put (eqb-true answer 0 e))
  row_claimed depth row place answer low inside high all before passed claimed false true e d =
      ready_at (stage.Tie depth row place) (low, inside, high) (all, before_on depth row before, claimed.has (differ answer 0 e) ∙ eqb-true answer (row_key f depth) d)
  row_claimed depth row place answer low inside high all before passed claimed false false e d =
      let used : answer ≢ 0 = differ answer 0 e in
      let here : directory after place ≡ answer = claimed.has used in
      ready_at (stage.Row depth row (place + 1)) (low, inside, omega arith) (
        all,
        before_on depth row before,
        passed_more (directory held) (directory after) (rows_on held after grows) 0 place (row_key f depth) passed (λ z. used (sym here ∙ z)) (λ z. differ answer (row_key f depth) d (sym here ∙ z)),
      )

  named_here : (row answer : ℕ) → row < row_count → HasAll f → IsRowAt cat after f.node (depth_of f.entry) row → answer ≢ 0 → after (row_index row (slot_of f.entry)) ≡ answer → answer ≡ value_of f
  named_here row answer low all of used here =
      let i : ℕ = row_index row (slot_of f.entry) in
      let e : at i ≡ answer = within i (λ z. used (sym here ∙ z)) ∙ here in
      let h : IsEntry cat at row (slot_of f.entry) (at i) = fits.entries row (slot_of f.entry) low (omega arith) (omega arith) (λ z. used (sym e ∙ z)) in
      let a : IsNamed cat at f.node (entry_of (depth_of f.entry) (slot_of f.entry)) (at i) =
      subst (λ (u : DirectoryWord). IsNamed cat at u.node (entry_of u.depth (slot_of f.entry)) (at i)) (of at fits within) h.named in
      let b : IsNamed cat at f.node f.entry (at i) = subst (λ n. IsNamed cat at f.node n (at i)) (entry_back f.entry) a in
      named-only cat at fits f.node f.entry answer (value_of f) (subst (IsNamed cat at f.node f.entry) e b) (named_at cat held f ready all at grows_on)

  entry_claimed : (row answer : ℕ) → row < row_count → HasAll f → IsRowAt cat held f.node (depth_of f.entry) row → Claimed after (row_index row (slot_of f.entry)) (value_of f) answer
      → (b : Bool) → (answer == 0) ≡ b → IsReady cat after (with_stage f (stage.Done (if b then value_of f else answer)))
  entry_claimed row answer low all of claimed true e =
      ready_at (stage.Done (value_of f)) tt
      (record { row = row; low = low; of = sure-grows cat held after (λ w. use_of w row ≡ row_for f.node (depth_of f.entry)) grows of; used = value_used cat held f ready all; holds = claimed.put (eqb-true answer 0 e); named = named_at cat held f ready all after grows })
  entry_claimed row answer low all of claimed false e =
      let used : answer ≢ 0 = differ answer 0 e in
      let here : after (row_index row (slot_of f.entry)) ≡ answer = claimed.has used in
      let now : IsRowAt cat after f.node (depth_of f.entry) row = sure-grows cat held after (λ w. use_of w row ≡ row_for f.node (depth_of f.entry)) grows of in
      let is : answer ≡ value_of f = named_here row answer low all now used here in
      ready_at (stage.Done answer) tt
      (record { row = row; low = low; of = now; used = used; holds = here; named = subst (IsNamed cat after f.node f.entry) (sym is) (named_at cat held f ready all after grows) })

  moved_claim : (i j v w answer : ℕ) → (i ≡ j) × (v ≡ w) → Claimed after j w answer → Claimed after i v answer
  moved_claim i j v w answer e claimed = subst (λ x. Claimed after i x answer) (sym e.1) (subst (λ x. Claimed after x w answer) (sym e.0) claimed)

  claimed_at : (s : Stage) → Knows cat held f s → IsAt f s → (i word answer : ℕ) → next_at f s ≡ next.Claim i word → Claimed after i word answer → IsReady cat after (taken_at f s answer)
  claimed_at (stage.Node place) knows stands i word answer is claimed = no_claims (nat_lt place node_count) place i word region.Nodes (node_key f) is
  claimed_at (stage.NodeClaim place) knows stands i word answer is claimed =
      node_claimed place answer knows.0 stands.0 stands.1 knows.1 (moved_claim place i (node_key f) word answer (claim_parts place i (node_key f) word is) claimed) (answer == 0) (answer == node_key f) refl refl
  claimed_at (stage.Link depth row) knows stands i word answer is claimed = cc
  claimed_at (stage.Row depth row place) knows stands i word answer is claimed = no_claims (nat_lt place row_count) (directory_index place) i word region.Rows (row_key f depth) is
  claimed_at (stage.RowClaim depth row place) knows stands i word answer is claimed =
      row_claimed depth row place answer stands.0 stands.1 stands.2 knows.0 knows.1 knows.2
      (moved_claim (directory_index place) i (row_key f depth) word answer (claim_parts (directory_index place) i (row_key f depth) word is) claimed) (answer == 0) (answer == row_key f depth) refl refl
  claimed_at (stage.Tie depth row found) knows stands i word answer is claimed =
      row_ready depth found stands.0 stands.2 knows.0
      (tie_of depth found stands.0 (grows (directory_index found) (λ z. row_key_used cat held f ready depth (sym knows.2 ∙ z)) ∙ knows.2))
  claimed_at (stage.Entry row) knows stands i word answer is claimed =
      entry_claimed row answer stands knows.0 knows.1
      (moved_claim (row_index row (slot_of f.entry)) i (value_of f) word answer (claim_parts (row_index row (slot_of f.entry)) i (value_of f) word is) claimed) (answer == 0) refl
  claimed_at (stage.Done value) knows stands i word answer is claimed = cc

  -- behind a claim the fill is ready
  pub ready-claimed : (i word answer : ℕ) → next_of f ≡ next.Claim i word → Claimed after i word answer → IsReady cat after (taken f answer)
  ready-claimed i word answer is claimed = claimed_at f.stage ready.knows ready.fill.stands i word answer is claimed

-- ---- more words

module _ (cat : CatData) (held after : ℕ → ℕ) (f : FillData) (ready : IsReady cat held f) (grows : Grows held after) where
  on_row : (depth row : ℕ) → IsRowAt cat held f.node depth row → IsRowAt cat after f.node depth row
  on_row depth row of = sure-grows cat held after (λ w. use_of w row ≡ row_for f.node depth) grows of

  on_before : (depth row : ℕ) → IsBefore cat held f.node depth row → IsBefore cat after f.node depth row
  on_before zero row before = tt
  on_before (suc depth) row before = on_row depth row before

  on_rows : (place depth : ℕ) → ArePassed (directory held) 0 place (row_key f depth) → ArePassed (directory after) 0 place (row_key f depth)
  on_rows place depth passed = passed_on (directory held) (directory after) (rows_on held after grows) 0 place (row_key f depth) passed

  filled_on : (v : ℕ) → IsFilled cat held f.node f.entry v → IsFilled cat after f.node f.entry v
  filled_on v h = record {
    row = h.row;
    low = h.low;
    of = on_row (depth_of f.entry) h.row h.of;
    used = h.used;
    holds = grows (row_index h.row (slot_of f.entry)) (λ z. h.used (sym h.holds ∙ z)) ∙ h.holds;
    named = named-grows cat held after grows f.node f.entry v h.named;
  }

  knows_on : (s : Stage) → Knows cat held f s → Knows cat after f s
  knows_on (stage.Node place) knows = (knows.0, passed_on held after grows 1 place (node_key f) knows.1)
  knows_on (stage.NodeClaim place) knows = (knows.0, passed_on held after grows 1 place (node_key f) knows.1, knows.2)
  knows_on (stage.Link depth row) knows = (knows.0, on_before depth row knows.1)
  knows_on (stage.Row depth row place) knows = (knows.0, on_before depth row knows.1, on_rows place depth knows.2)
  knows_on (stage.RowClaim depth row place) knows = (knows.0, on_before depth row knows.1, on_rows place depth knows.2)
  knows_on (stage.Tie depth row found) knows =
      (knows.0, on_before depth row knows.1, grows (directory_index found) (λ z. row_key_used cat held f ready depth (sym knows.2 ∙ z)) ∙ knows.2)
  knows_on (stage.Entry row) knows = (knows.0, on_row (depth_of f.entry) row knows.1)
  knows_on (stage.Done v) knows = filled_on v knows

  -- a fill under way goes on to be one as more is held
  pub ready-grows : IsReady cat after f
  ready-grows =
      let e : template_at cat after f.node ≡ template_at cat held f.node = ap (tree_template cat) (spelled-grows held after grows f.node (within-used cat (spelled held f.node) f.entry ready.within)) in
      record {
        fill = ready.fill;
        used = λ z. ready.used (sym (grows f.node ready.used) ∙ z);
        within = subst (λ (es : List Entry). f.entry < length es) (sym e) ready.within;
        trees = ready.trees;
        plan = ready.plan;
        few = ready.few;
        found = spelled-on cat.program f.steps ready.trees ready.plan held after grows f.found ready.few ready.found;
        value = λ later numbers more count are. ready.value later numbers (λ j used. more j (λ z. used (sym (grows j used) ∙ z)) ∙ grows j used) count are;
        positive = ready.positive;
        knows = knows_on f.stage ready.knows;
      }

-- ---- what a turn comes to

comes_at : (cat : CatData) (held : ℕ → ℕ) (f : FillData) → IsReady cat held f → (s : Stage) → Knows cat held f s → Comes cat held f (given_at s)
comes_at cat held f ready (stage.Node place) knows = ready
comes_at cat held f ready (stage.NodeClaim place) knows = ready
comes_at cat held f ready (stage.Link depth row) knows = ready
comes_at cat held f ready (stage.Row depth row place) knows = ready
comes_at cat held f ready (stage.RowClaim depth row place) knows = ready
comes_at cat held f ready (stage.Tie depth row found) knows = ready
comes_at cat held f ready (stage.Entry row) knows = ready
comes_at cat held f ready (stage.Done value) knows = (ready, knows)

-- a fill that is ready has come to what its stage gives
pub comes-given : (cat : CatData) (held : ℕ → ℕ) (f : FillData) → IsReady cat held f → Comes cat held f (given_at f.stage)
comes-given cat held f ready = comes_at cat held f ready f.stage ready.knows

full_at : (cat : CatData) (held : ℕ → ℕ) (f : FillData) (s : Stage) → Knows cat held f s → IsAt f s → (r : Region) (key : ℕ) → next_at f s ≡ next.Full r key → HasNoPlace held r key
full_at cat held f (stage.Node place) knows stands r key is =
    let p : (nat_lt place node_count ≡ false) × (region.Nodes ≡ r) × (node_key f ≡ key) = fulls (nat_lt place node_count) place region.Nodes r (node_key f) key is in
    let low : place ≤ node_count = stands.0 in
    let e : place ≡ node_count = let t : nat_lt place node_count ≡ false = p.0 in grind (arith, nat_tests) in
    subst (λ k. HasNoPlace held r k) p.2 (subst (λ q. HasNoPlace held q (node_key f)) p.1 (subst (λ n. ArePassed held 1 n (node_key f)) e knows.1))
full_at cat held f (stage.NodeClaim place) knows stands r key is = cc
full_at cat held f (stage.Link depth row) knows stands r key is = cc
full_at cat held f (stage.Row depth row place) knows stands r key is =
    let p : (nat_lt place row_count ≡ false) × (region.Rows ≡ r) × (row_key f depth ≡ key) = fulls (nat_lt place row_count) (directory_index place) region.Rows r (row_key f depth) key is in
    let low : place ≤ row_count = stands.2 in
    let e : place ≡ row_count = let t : nat_lt place row_count ≡ false = p.0 in grind (arith, nat_tests) in
    subst (λ k. HasNoPlace held r k) p.2 (subst (λ q. HasNoPlace held q (row_key f depth)) p.1 (subst (λ n. ArePassed (directory held) 0 n (row_key f depth)) e knows.2))
full_at cat held f (stage.RowClaim depth row place) knows stands r key is = cc
full_at cat held f (stage.Tie depth row found) knows stands r key is = cc
full_at cat held f (stage.Entry row) knows stands r key is = cc
full_at cat held f (stage.Done value) knows stands r key is = cc

-- a scan that is at the end of its list has no place for its word
pub full-given : (cat : CatData) (held : ℕ → ℕ) (f : FillData) → IsReady cat held f → (r : Region) (key : ℕ) → next_of f ≡ next.Full r key → HasNoPlace held r key
full-given cat held f ready r key is = full_at cat held f f.stage ready.knows ready.fill.stands r key is

-- ---- the next turn has a place

place_loaded : (f : FillData) (s : Stage) (i : ℕ) → next_at f s ≡ next.Load i → HasPlace s
place_loaded f (stage.Node place) i is = let t : nat_lt place node_count ≡ true = (loads (nat_lt place node_count) place i region.Nodes (node_key f) is).0 in grind (arith, nat_tests)
place_loaded f (stage.NodeClaim place) i is = tt
place_loaded f (stage.Link depth row) i is = tt
place_loaded f (stage.Row depth row place) i is = let t : nat_lt place row_count ≡ true = (loads (nat_lt place row_count) (directory_index place) i region.Rows (row_key f depth) is).0 in grind (arith, nat_tests)
place_loaded f (stage.RowClaim depth row place) i is = tt
place_loaded f (stage.Tie depth row found) i is = tt
place_loaded f (stage.Entry row) i is = tt
place_loaded f (stage.Done value) i is = tt

pub has-place-load : (f : FillData) (i : ℕ) → next_of f ≡ next.Load i → HasPlace f.stage
has-place-load f i is = place_loaded f f.stage i is

place_claimed : (f : FillData) (s : Stage) (i word : ℕ) → next_at f s ≡ next.Claim i word → HasPlace s
place_claimed f (stage.Node place) i word is = no_claims (nat_lt place node_count) place i word region.Nodes (node_key f) is
place_claimed f (stage.NodeClaim place) i word is = tt
place_claimed f (stage.Link depth row) i word is = tt
place_claimed f (stage.Row depth row place) i word is = no_claims (nat_lt place row_count) (directory_index place) i word region.Rows (row_key f depth) is
place_claimed f (stage.RowClaim depth row place) i word is = tt
place_claimed f (stage.Tie depth row found) i word is = tt
place_claimed f (stage.Entry row) i word is = tt
place_claimed f (stage.Done value) i word is = tt

pub has-place-claim : (f : FillData) (i word : ℕ) → next_of f ≡ next.Claim i word → HasPlace f.stage
has-place-claim f i word is = place_claimed f f.stage i word is

-- ---- what a turn comes to, by its answer

module _ (cat : CatData) (held after at : ℕ → ℕ) (f new : FillData) (ready : IsReady cat held f) (grows : Grows held after) (fits : AreFitting cat at) (within : Grows after at) (answer : ℕ) (takes : new ≡ taken f answer) where
  comes_so : IsReady cat after (taken f answer) → Comes cat after new (given_at new.stage)
  comes_so on = comes-given cat after new (subst (IsReady cat after) (sym takes) on)

  pub comes-loaded : (i : ℕ) → next_of f ≡ next.Load i → Loaded cat held after i answer → Comes cat after new (given_at new.stage)
  comes-loaded i is loaded = comes_so (ready-loaded cat held after at f ready grows fits within i answer is loaded)

  pub comes-claimed : (i word : ℕ) → next_of f ≡ next.Claim i word → Claimed after i word answer → Comes cat after new (given_at new.stage)
  comes-claimed i word is claimed = comes_so (ready-claimed cat held after at f ready grows fits within i word answer is claimed)

pub comes-full : (cat : CatData) (held : ℕ → ℕ) (f : FillData) → IsReady cat held f → (r : Region) (key : ℕ) → next_of f ≡ next.Full r key → Comes cat held f (step.Full r key)
comes-full cat held f ready r key is = (ready, full-given cat held f ready r key is)

-- ---- where a load stands

low_link : (f : FillData) → f.node < node_count → (depth row : ℕ) → row < row_count → link_index f depth row < word_count
low_link f inside zero row low = omega arith
low_link f inside (suc depth) row low = let l : row_index row 0 < word_count = omega arith in subst (λ i. i < word_count) (sym (link_more f depth row)) l

low_at : (f : FillData) → f.node < node_count → (s : Stage) → IsAt f s → (i : ℕ) → next_at f s ≡ next.Load i → i < word_count
low_at f inside (stage.Node place) stands i is =
    let p : (nat_lt place node_count ≡ true) × (place ≡ i) = loads (nat_lt place node_count) place i region.Nodes (node_key f) is in
    let t : nat_lt place node_count ≡ true = p.0 in
    let e : place ≡ i = p.1 in
    let l : place < node_count = grind (arith, nat_tests) in
    omega arith
low_at f inside (stage.NodeClaim place) stands i is = cc
low_at f inside (stage.Link depth row) stands i is = subst (λ j. j < word_count) (load_parts (link_index f depth row) i is) (low_link f inside depth row stands.1)
low_at f inside (stage.Row depth row place) stands i is =
    let p : (nat_lt place row_count ≡ true) × (directory_index place ≡ i) = loads (nat_lt place row_count) (directory_index place) i region.Rows (row_key f depth) is in
    let t : nat_lt place row_count ≡ true = p.0 in
    let e : directory_index place ≡ i = p.1 in
    let l : place < row_count = grind (arith, nat_tests) in
    omega arith
low_at f inside (stage.RowClaim depth row place) stands i is = cc
low_at f inside (stage.Tie depth row found) stands i is = cc
low_at f inside (stage.Entry row) stands i is = cc
low_at f inside (stage.Done value) stands i is = cc

-- each load is of one of the words
pub load-low : (f : FillData) → IsFill f → (i : ℕ) → next_of f ≡ next.Load i → i < word_count
load-low f fill i is = low_at f fill.number.1 f.stage fill.stands i is

-- a fill that is on does something
on_at : (f : FillData) (s : Stage) → IsOn s → next_at f s ≡ next.Nothing → ⊥
on_at f (stage.Node place) on is = some_next (nat_lt place node_count) place region.Nodes (node_key f) is
on_at f (stage.NodeClaim place) on is = cc
on_at f (stage.Link depth row) on is = cc
on_at f (stage.Row depth row place) on is = some_next (nat_lt place row_count) (directory_index place) region.Rows (row_key f depth) is
on_at f (stage.RowClaim depth row place) on is = cc
on_at f (stage.Tie depth row found) on is = cc
on_at f (stage.Entry row) on is = cc
on_at f (stage.Done value) on is = on

pub on-next : (f : FillData) → IsOn f.stage → next_of f ≡ next.Nothing → ⊥
on-next f on is = on_at f f.stage on is

-- ---- the clause on one turn

module _ (alone : Bool) (before after : ℕ → ℕ) (listed relisted : Option (List (ℕ × ℕ))) (f new : FillData) where
  made_at : (s : Stage) → IsMade alone before after listed relisted f new (given_at s) → IsTurn alone before after listed relisted f new (given_at s)
  made_at (stage.Node place) made = made
  made_at (stage.NodeClaim place) made = made
  made_at (stage.Link depth row) made = made
  made_at (stage.Row depth row place) made = made
  made_at (stage.RowClaim depth row place) made = made
  made_at (stage.Tie depth row found) made = made
  made_at (stage.Entry row) made = made
  made_at (stage.Done value) made = made

  turn_made : (answer : ℕ) → IsAnswered alone before after (next_of f) answer → relisted ≡ claims_after listed (next_of f) answer → new ≡ taken f answer → IsTurn alone before after listed relisted f new (given_at new.stage)
  turn_made answer answered claims is = made_at new.stage (record { answer = answer; answered = answered; claims = claims; takes = is; leads = refl })

  pub turn-loaded : (i answer : ℕ) → next_of f ≡ next.Load i → new ≡ taken f answer → relisted ≡ listed → IsLoaded alone before after i answer → IsTurn alone before after listed relisted f new (given_at new.stage)
  turn-loaded i answer next_is is claims loaded =
      turn_made answer (subst (λ n. IsAnswered alone before after n answer) (sym next_is) loaded) (claims ∙ ap (λ n. claims_after listed n answer) (sym next_is)) is

  claimed_list : (i word answer : ℕ) → (answer ≡ 0 → relisted ≡ with_claim listed i word) × (answer ≢ 0 → relisted ≡ listed) → relisted ≡ claims_after listed (next.Claim i word) answer
  claimed_list i word zero h = h.0 refl
  claimed_list i word (suc n) h = h.1 (λ z. omega arith)

  pub turn-claimed : (i word answer : ℕ) → next_of f ≡ next.Claim i word → new ≡ taken f answer → (answer ≡ 0 → relisted ≡ with_claim listed i word) × (answer ≢ 0 → relisted ≡ listed) → IsClaimed alone before after i word answer
      → IsTurn alone before after listed relisted f new (given_at new.stage)
  turn-claimed i word answer next_is is claims claimed =
      turn_made answer (subst (λ n. IsAnswered alone before after n answer) (sym next_is) claimed)
      (claimed_list i word answer claims ∙ ap (λ n. claims_after listed n answer) (sym next_is)) is
