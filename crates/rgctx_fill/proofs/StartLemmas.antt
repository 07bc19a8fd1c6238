-- What is planned for each kind of entry, and that a fill with such a plan is ready.
use Rattle.std.proofs.Common.{◌≡◌, ◌≢◌, ℕ, suc, ◌+◌, ◌*◌, ◌^◌, ◌<◌, ◌≤◌, Bool, true, false, List, [], ◌∷◌, ◌++◌, length, map, Option, Some, None, if◌then◌else◌, refl, sym, ap, ◌∙◌, subst, arith}
use Rattle.std.specs.Prelude.{slice_get, nat_lt, is_none, option_map, unwrap_or}
use Rattle.std.specs.List.{AllByRecursion}
use Rattle.std.proofs.lemmas.Bool.Decides.{nat_tests}
use Rattle.std.proofs.lemmas.List.Elements.{All-from_recursion, recursion_from_All}
use Rattle.std.proofs.lemmas.Option.{slice_get_within}
use Rattle.type_tree.specs.declared.tree.TExpr.{TExpr}
use Rattle.il_model.specs.declared.entry.Entry.{Entry}
use Rattle.il_model.specs.declared.entry.Entry.TheVariants as entry
use Rattle.il_model.specs.declared.layout.Limit.{Limit}
use Rattle.il_model.specs.declared.layout.Limit.TheVariants as limit
use Rattle.il_model.specs.declared.layout.MethodTree.{MethodTree}
use Rattle.il_model.specs.declared.program.Program.{Program}
use Rattle.il_model.specs.Admission.{most_positions, limit_of}
use Rattle.il_model.specs.Methods.{worse, worst, types_named_by, method_positions, limit_at, limit_of_method}
use Rattle.rgctx_words.specs.Regions.{node_count}
use Rattle.rgctx_words.specs.Places.{depth_of}
use Rattle.rgctx_words.specs.Held.{Grows}
use Rattle.rgctx_template.specs.Catalogue.{CatData}
use Rattle.rgctx_fill.specs.declared.spelled.NodeTree.{NodeTree}
use Rattle.rgctx_fill.specs.declared.spelled.NodeTree.TheVariants as tree
use Rattle.rgctx_fill.specs.declared.stage.NodeStep.{NodeStep}
use Rattle.rgctx_fill.specs.declared.stage.Stage.TheVariants as stage
use Rattle.rgctx_fill.specs.Spelled.{spelled_below, spelled, type_in, naming_of}
use Rattle.rgctx_fill.specs.Nodes.{IsAdmittedType, IsAdmittedMethod, MayStand}
use Rattle.rgctx_fill.specs.Templates.{template_at, tree_template}
use Rattle.rgctx_fill.specs.NamedValues.{IsEntryWord, IsMethodValue, IsSlotValue, IsValue, entry_at, method_in_slot, offset_of, offset_value}
use Rattle.rgctx_fill.specs.Fitting.{AreFitting}
use Rattle.rgctx_fill.specs.Claims.{ArePassed, IsSure, Shows}
use Rattle.rgctx_fill.specs.Reading.{IsNodeTree}
use Rattle.rgctx_fill.specs.SpelledLaws.{is_zero, no_zero_word, spelled-grows}
use Rattle.rgctx_fill.specs.Turns.{IsAt, node_for, node_key, begun}
use Rattle.rgctx_fill.specs.Plans.{Spells, AreSpelled, IsPlan}
use Rattle.rgctx_fill.specs.Ready.{Knows, IsReady}
use Rattle.rgctx_fill.specs.Steps.{type_steps, method_steps}
use Rattle.rgctx_fill.specs.Bases.{slot_base, base_named}
use Rattle.rgctx_fill.proofs.BestLemmas.{entry-word-only}
use Rattle.rgctx_fill.specs.Starting.{IsWholeType, IsWholeMethod, IsWhole, IsNameable, IsFillable, limit_named, steps_of_slot, steps_named, IsPlanOf, IsEntryOf, IsBegun, IsRefused}
use Rattle.rgctx_fill.proofs.PartLemmas.{admitted-limit}
use Rattle.rgctx_fill.proofs.StepLemmas.{Ends, type-plan, method-plan}

-- ---- limits

worse_none : (a b : Option Limit) → worse a b ≡ None → (a ≡ None) × (b ≡ None)
worse_none (Some limit.Positions) b h = cc
worse_none (Some limit.ValueWords) (Some limit.Positions) h = cc
worse_none (Some limit.ValueWords) (Some limit.ValueWords) h = cc
worse_none (Some limit.ValueWords) None h = cc
worse_none None b h = (refl, h)

limited_if : (b : Bool) (rest : Option Limit) → (if b then Some limit.Positions else rest) ≡ None → (b ≡ false) × (rest ≡ None)
limited_if true rest h = cc
limited_if false rest h = (refl, h)

front_none : (program : Program) (xs ys : List TExpr) → worst (map (limit_of program) (xs ++ ys)) ≡ None → AllByRecursion (λ t. limit_of program t ≡ None) xs
front_none program [] ys h = tt
front_none program (x ∷ xs) ys h = let p = worse_none (limit_of program x) (worst (map (limit_of program) (xs ++ ys))) h in (p.0, front_none program xs ys p.1)

is_none_of : (l : Option Limit) → l ≡ None → is_none l ≡ true
is_none_of None h = refl
is_none_of (Some l) h = cc

whole-admitted : (program : Program) (t : TExpr) → IsWholeType program t → limit_of program t ≡ None → IsAdmittedType program t
whole-admitted program t whole none = record { closed = whole.closed; counts = whole.counts; admitted = admitted-limit program t none }

all_admitted : (program : Program) (ts : List TExpr) → AllByRecursion (IsWholeType program) ts → AllByRecursion (λ t. limit_of program t ≡ None) ts → AllByRecursion (IsAdmittedType program) ts
all_admitted program [] whole none = tt
all_admitted program (t ∷ ts) whole none = (whole-admitted program t whole.0 none.0, all_admitted program ts whole.1 none.1)

method-admitted : (program : Program) (m : MethodTree) → IsWholeMethod program m → limit_of_method program m ≡ None → IsAdmittedMethod program m
method-admitted program m whole none =
    let own : limit_at program m.class m.args (Some whole.method) ≡ None = ap (limit_at program m.class m.args) (sym whole.is) ∙ none in
    let split : (nat_lt most_positions (method_positions m.class m.args) ≡ false) × (worst (map (limit_of program) (types_named_by m.class m.args (Some whole.method))) ≡ None) =
    limited_if (nat_lt most_positions (method_positions m.class m.args)) (worst (map (limit_of program) (types_named_by m.class m.args (Some whole.method)))) own in
    let front : AllByRecursion (λ t. limit_of program t ≡ None) (m.class ∷ m.args) = front_none program (m.class ∷ m.args) _ split.1 in
    record {
      method = whole.method;
      is = whole.is;
      owner = whole.owner;
      class = whole-admitted program m.class whole.class front.0;
      count = whole.count;
      args = All-from_recursion (IsAdmittedType program) m.args (all_admitted program m.args (recursion_from_All (IsWholeType program) m.args whole.args) front.1);
      admitted = is_none_of (limit_at program m.class m.args (Some whole.method)) own;
    }

-- ---- plans

-- the last number is that of a node which spells the last tree
last_spells : (told : ℕ → NodeTree) (trees : List NodeTree) (numbers : List ℕ) (steps : List NodeStep) (k : ℕ) (u : NodeTree) → length steps ≡ suc k → slice_get trees k ≡ Some u → length numbers ≡ length steps
    → AreSpelled told trees numbers → Spells told (node_for numbers (length numbers)) u
last_spells told trees numbers steps k u count last same are =
    let e : length numbers ≡ suc k = same ∙ count in
    subst (λ n. Spells told (node_for numbers n) u) (sym e) (are k u (omega arith) last)

naming_is : (at : ℕ → ℕ) (n : ℕ) (t : TExpr) → n < node_count → spelled at n ≡ tree.Kind t → naming_of at n ≡ Some t
naming_is at n t low is = let l : nat_lt n node_count ≡ true = grind (arith, nat_tests) in ap (λ b. if b then type_in (spelled at n) else None) l ∙ ap type_in is

module _ (cat : CatData) (spells : NodeTree) where
  pub kind-plan : (t : TExpr) → IsNameable cat.program → IsWholeType cat.program t → limit_of cat.program t ≡ None → IsPlanOf cat spells (entry.Kind t) (type_steps t 0) 0
  kind-plan t nameable whole none =
      let e : Ends cat.program nameable (type_steps t 0) (tree.Kind t) = type-plan cat.program nameable t (whole-admitted cat.program t whole none) in
      record {
        order = refl;
        base_is = refl;
        trees = e.trees;
        plan = e.plan;
        value = λ at numbers count are.
            let s : Spells (spelled at) (node_for numbers (length numbers)) (tree.Kind t) = last_spells (spelled at) e.trees numbers (type_steps t 0) e.k (tree.Kind t) e.count e.last count are in
            let z : node_for numbers (length numbers) ≡ 0 + node_for numbers (length numbers) = omega arith in
            subst (λ n. naming_of at n ≡ Some t) z (naming_is at (node_for numbers (length numbers)) t s.high s.is);
        positive = λ none. let c : length (type_steps t 0) ≡ suc e.k = e.count in absurd (omega arith);
        small = omega arith;
      }

  method_value : (m : MethodTree) (word : ℕ) → IsEntryWord cat m word → (at : ℕ → ℕ) (n : ℕ) → Spells (spelled at) n (tree.Method m) → IsMethodValue cat at m (65536 * word + n)
  method_value m word serves at n s = record { node = n; low = s.high; spells = s.is; word = word; serves = serves; is = refl }

  pub method-plan-of : (m : MethodTree) (word : ℕ) → IsNameable cat.program → IsWholeMethod cat.program m → limit_of_method cat.program m ≡ None → IsEntryWord cat m word → word < 2 ^ 32
      → IsPlanOf cat spells (entry.Method m.method m.class m.args) (method_steps m) (65536 * word)
  method-plan-of m word nameable whole none serves low =
      let e : Ends cat.program nameable (method_steps m) (tree.Method m) = method-plan cat.program nameable m (method-admitted cat.program m whole none) in
      record {
        order = refl;
        base_is = ap (λ w. 65536 * w) (entry-word-only cat m word serves);
        trees = e.trees;
        plan = e.plan;
        value = λ at numbers count are. method_value m word serves at (node_for numbers (length numbers)) (last_spells (spelled at) e.trees numbers (method_steps m) e.k (tree.Method m) e.count e.last count are);
        positive = λ none. let c : length (method_steps m) ≡ suc e.k = e.count in absurd (omega arith);
        small = omega arith;
      }

  pub slot-plan : (number : ℕ) (m : MethodTree) (word : ℕ) → method_in_slot cat.program spells number ≡ Some m → IsPlanOf cat spells (entry.Method m.method m.class m.args) (method_steps m) (65536 * word)
      → IsPlanOf cat spells (entry.Slot number) (method_steps m) (65536 * word)
  slot-plan number m word is p = record {
    order = p.order ∙ ap steps_of_slot (sym is);
    base_is = p.base_is ∙ ap (slot_base cat) (sym is);
    trees = p.trees;
    plan = p.plan;
    value = λ at numbers count are. subst (λ x. IsSlotValue cat at x (65536 * word + node_for numbers (length numbers))) (sym is) (p.value at numbers count are);
    positive = p.positive;
    small = p.small;
  }

  pub number-plan : (e : Entry) (base : ℕ) → steps_named cat.program spells e ≡ [] → base ≡ base_named cat spells e → 0 < base → base < 2 ^ 63 → ((at : ℕ → ℕ) → IsValue cat at spells e base) → IsPlanOf cat spells e [] base
  number-plan e base none base_is positive small value = record {
    order = sym none;
    base_is = base_is;
    trees = [];
    plan = no_plan;
    value = λ at numbers count are.
        let z : base + 0 ≡ base + node_for numbers (length numbers) = ap (λ n. base + node_for numbers n) (sym count) in
        subst (λ v. IsValue cat at spells e v) (add_none base ∙ z) (value at);
    positive = λ c. positive;
    small = small;
  }
    where
      no_step : {P : Type 0} (k : ℕ) (s : NodeStep) → slice_get [] k ≡ Some s → P
      no_step k s is = cc

      no_plan : IsPlan cat.program [] []
      no_plan = record { count = refl; each = λ k s t s_is t_is. no_step k s s_is }

      add_none : (n : ℕ) → n ≡ n + 0
      add_none n = omega arith

module _ (cat : CatData) (spells : NodeTree) where
  above_none : (o : Option ℕ) (v : ℕ) → option_map (λ n. n + 1) o ≡ Some v → 0 < v
  above_none None v h = cc
  above_none (Some n) v h = let e : n + 1 ≡ v = cc in omega arith

  pub offset-plan : (t : TExpr) (place value : ℕ) → offset_value cat.program t place ≡ Some value → value < 2 ^ 63 → IsPlanOf cat spells (entry.Offset t place) [] value
  offset-plan t place value is small = number-plan cat spells (entry.Offset t place) value refl (sym (ap (λ o. unwrap_or o 0) is)) (above_none (offset_of cat.program t place) value is) small (λ at. is)

-- ---- the start

-- what is read of a node that is shown it spells
pub tree-read : (cat : CatData) (before after : ℕ → ℕ) (node : ℕ) (t : NodeTree) → Shows cat before node → IsNodeTree cat before after node t → (spelled after node ≡ t) × (is_zero t ≡ false)
tree-read cat before after node (tree.Kind k) shown read = (read, refl)
tree-read cat before after node (tree.Method m) shown read = (read, refl)
tree-read cat before after node tree.Other shown read = (read, refl)
tree-read cat before after node (tree.Zero n) shown read = absurd (read.1 shown)

module _ (cat : CatData) (before after at : ℕ → ℕ) (node number : ℕ) (t : NodeTree) (fits : AreFitting cat at) (within : Grows after at) (grows : Grows before after)
    (low : 0 < node) (high : node < node_count) (is : spelled after node ≡ t) (known : is_zero t ≡ false) where
  at_is : spelled at node ≡ t
  at_is = spelled-grows after at within node (ap is_zero is ∙ known) ∙ is

  grown : Grows before at
  grown j used = within j (λ z. used (sym (grows j used) ∙ z)) ∙ grows j used

  -- the tree may have a node
  pub tree-stands : Shows cat before node → MayStand cat.program node t
  tree-stands shown = subst (MayStand cat.program node) at_is (fits.nodes node low high (shown at fits grown))

  -- the template has the entry
  pub entry-there : IsSure cat before (λ w. number < length (template_at cat w node)) → number < length (tree_template cat t)
  entry-there sure = subst (λ s. number < length (tree_template cat s)) at_is (sure at fits grown)

first_stands : (b : Bool) (node number : ℕ) (steps : List NodeStep) (base : ℕ) → nat_lt 0 (length steps) ≡ b → IsAt (begun node number steps base) (if b then stage.Node 1 else stage.Link 0 0)
first_stands true node number steps base e = let l : 0 < length steps = grind (arith, nat_tests) in (omega arith, l)
first_stands false node number steps base e = (omega arith, omega arith)

passed_one : (word : ℕ → ℕ) (new : ℕ) → ArePassed word 1 1 new
passed_one word new = record { held = λ j low less. absurd (omega arith); other = λ j low less. absurd (omega arith) }

first_knows : (cat : CatData) (held : ℕ → ℕ) (b : Bool) (node number : ℕ) (steps : List NodeStep) (base : ℕ) → nat_lt 0 (length steps) ≡ b → Knows cat held (begun node number steps base) (if b then stage.Node 1 else stage.Link 0 0)
first_knows cat held true node number steps base e = (omega arith, passed_one held (node_key (begun node number steps base)))
first_knows cat held false node number steps base e = let l : 0 ≡ length steps = grind (arith, nat_tests) in (l, tt)

-- a fill with a plan is ready
pub begun-ready : (cat : CatData) (held : ℕ → ℕ) (node number : ℕ) (t : NodeTree) (e : Entry) (steps : List NodeStep) (base : ℕ) → 0 < node → node < node_count → held node ≢ 0 → spelled held node ≡ t → is_zero t ≡ false
    → slice_get (tree_template cat t) number ≡ Some e → length (tree_template cat t) ≤ 1792 → IsPlanOf cat t (entry_at t e) steps base → IsReady cat held (begun node number steps base)
begun-ready cat held node number t e steps base low high used is known item few p =
    let within : number < length (tree_template cat t) = slice_get_within (tree_template cat t) number e item in
    record {
      fill = record { number = (low, high); depths = omega arith; small = p.small; stands = first_stands (nat_lt 0 (length steps)) node number steps base refl };
      used = used;
      within = subst (λ s. number < length (tree_template cat s)) (sym is) within;
      trees = p.trees;
      plan = p.plan;
      few = omega arith;
      found = λ k u below u_is. absurd (omega arith);
      value = λ later numbers grows count are.
          let later_is : spelled later node ≡ t = spelled-grows held later grows node (ap is_zero is ∙ known) ∙ is in
          record {
            entry = e;
            is = ap (λ s. slice_get (tree_template cat s) number) later_is ∙ item;
            names = subst (λ s. IsValue cat later s (entry_at s e) (base + node_for numbers (length numbers))) (sym later_is) (p.value later numbers count are);
          };
      positive = p.positive;
      knows = first_knows cat held (nat_lt 0 (length steps)) node number steps base refl;
    }

-- the entry that was planned
pub entry-of : (cat : CatData) (held : ℕ → ℕ) (node number : ℕ) (t : NodeTree) (e : Entry) → spelled held node ≡ t → slice_get (tree_template cat t) number ≡ Some e → IsEntryOf cat held node number (entry_at t e)
entry-of cat held node number t e is item = record {
  entry = e;
  is = ap (λ s. slice_get (tree_template cat s) number) is ∙ item;
  closed = ap (λ s. entry_at s e) (sym is);
}

pub begun-is : (cat : CatData) (held : ℕ → ℕ) (node number : ℕ) (t : NodeTree) (e : Entry) (steps : List NodeStep) (base : ℕ) → spelled held node ≡ t → slice_get (tree_template cat t) number ≡ Some e
    → limit_named cat.program t (entry_at t e) ≡ None → IsPlanOf cat t (entry_at t e) steps base → IsReady cat held (begun node number steps base) → IsBegun cat held node number (begun node number steps base)
begun-is cat held node number t e steps base is item none p ready = record {
  entry = entry_at t e;
  is = entry-of cat held node number t e is item;
  admitted = ap (λ s. limit_named cat.program s (entry_at t e)) is ∙ none;
  node_is = refl;
  entry_is = refl;
  steps = p.order ∙ ap (λ s. steps_named cat.program s (entry_at t e)) (sym is);
  base = p.base_is ∙ ap (λ s. base_named cat s (entry_at t e)) (sym is);
  found = refl;
  stage = refl;
  ready = ready;
}

pub refused-is : (cat : CatData) (held : ℕ → ℕ) (node number : ℕ) (t : NodeTree) (e : Entry) (passed : Limit) → spelled held node ≡ t → slice_get (tree_template cat t) number ≡ Some e
    → limit_named cat.program t (entry_at t e) ≡ Some passed → IsRefused cat held node number passed
refused-is cat held node number t e passed is item passes = record {
  entry = entry_at t e;
  is = entry-of cat held node number t e is item;
  passes = ap (λ s. limit_named cat.program s (entry_at t e)) is ∙ passes;
}

-- ---- what a start comes to

-- what is read of a node that is shown, and of whose template the entry is sure to be
pub record Opened (cat : CatData) (held : ℕ → ℕ) (node number : ℕ) (t : NodeTree) : Type 0 where
  pub is : spelled held node ≡ t
  pub known : is_zero t ≡ false
  pub used : held node ≢ 0
  pub stands : MayStand cat.program node t
  pub there : number < length (tree_template cat t)

pub opened : (cat : CatData) (before after at : ℕ → ℕ) (node number : ℕ) (t : NodeTree) → AreFitting cat at → Grows after at → Grows before after → 0 < node → node < node_count → Shows cat before node
    → IsSure cat before (λ w. number < length (template_at cat w node)) → IsNodeTree cat before after node t → Opened cat after node number t
opened cat before after at node number t fits within grows low high shown sure read =
    let r : (spelled after node ≡ t) × (is_zero t ≡ false) = tree-read cat before after node t shown read in
    record {
      is = r.0;
      known = r.1;
      used = no_zero_word (spelled_below after node) node (after node) (ap is_zero r.0 ∙ r.1);
      stands = tree-stands cat before after at node number t fits within grows low high r.0 r.1 shown;
      there = entry-there cat before after at node number t fits within grows low high r.0 r.1 sure;
    }

module _ (cat : CatData) (held : ℕ → ℕ) (node number : ℕ) (t : NodeTree) (o : Opened cat held node number t) (fillable : IsFillable cat) (e own : Entry) (item : slice_get (tree_template cat t) number ≡ Some e) (closed : own ≡ entry_at t e) where
  pub own-whole : IsWhole cat.program t own
  own-whole = subst (IsWhole cat.program t) (sym closed) (fillable.whole node t number e o.stands item)

  pub few-depths : depth_of number < 256
  few-depths = let few : length (tree_template cat t) ≤ 1792 = fillable.few node t o.stands in let low : number < length (tree_template cat t) = o.there in omega arith

  pub begins : (steps : List NodeStep) (base : ℕ) → 0 < node → node < node_count → (limit_named cat.program t own ≡ None) × IsPlanOf cat t own steps base → IsBegun cat held node number (begun node number steps base)
  begins steps base low high planned =
      let none : limit_named cat.program t (entry_at t e) ≡ None = ap (limit_named cat.program t) (sym closed) ∙ planned.0 in
      let plan : IsPlanOf cat t (entry_at t e) steps base = subst (λ x. IsPlanOf cat t x steps base) closed planned.1 in
      begun-is cat held node number t e steps base o.is item none plan
      (begun-ready cat held node number t e steps base low high o.used o.is o.known item (fillable.few node t o.stands) plan)

  pub refuses : (passed : Limit) → limit_named cat.program t own ≡ Some passed → IsRefused cat held node number passed
  refuses passed passes = refused-is cat held node number t e passed o.is item (ap (limit_named cat.program t) (sym closed) ∙ passes)
