-- The words with which each run begins fit: the leaves alone.
use Rattle.std.proofs.Common.{◌≡◌, ◌≢◌, ⊎_elim, ℕ, zero, suc, ◌+◌, ◌-◌, ◌*◌, ◌/◌, ◌%◌, ◌^◌, ◌<◌, ◌≤◌, ◌==◌, true, false, List, [], ◌∷◌, ◌++◌, length, map, Some, None, Ok, if◌then◌else◌, refl, sym, ap, ◌∙◌, subst, arith}
use Rattle.std.specs.Prelude.{slice_index, slice_get, nat_lt, is_none}
use Rattle.std.proofs.lemmas.Bool.{cases_lt}
use Rattle.std.proofs.lemmas.Bool.Decides.{nat_tests}
use Rattle.std.proofs.lemmas.List.Elements.{All-nil}
use Rattle.std.proofs.lemmas.Option.{slice_get_within}
use Rattle.type_tree.specs.declared.tree.TExpr.{TExpr}
use Rattle.type_tree.specs.declared.tree.Head.TheVariants as head
use Rattle.type_tree.specs.declared.tree.TNode.TheVariants.{Node}
use Rattle.type_tree.specs.Tree.{node, class_var}
use Rattle.type_tree.specs.Substitution.{substituted}
use Rattle.type_tree.proofs.TreeLemmas.{top_of-tree_of}
use Rattle.il_model.specs.declared.class.ClassDef.{ClassDef}
use Rattle.il_model.specs.declared.method.MethodDef.{MethodDef}
use Rattle.il_model.specs.Find.{class_in_top, class_number_of}
use Rattle.il_model.specs.Kinds.{is_struct_kind}
use Rattle.il_model.specs.Entries.{arguments_of}
use Rattle.il_model.specs.LookUp.{numbers_from}
use Rattle.il_model.specs.Library.{plain, library_classes, thread_entry}
use Rattle.il_model.specs.Bases.{own_of_class, own_of}
use Rattle.il_model.specs.declared.layout.Limit.TheVariants as limit
use Rattle.il_model.specs.Admission.{most_positions, limit_of, has_count_in, has_count_top}
use Rattle.il_model.specs.Methods.{worse, worst, types_named_by, limit_at}
use Rattle.rgctx_words.specs.declared.node_word.Definition.TheVariants as def
use Rattle.rgctx_words.specs.Regions.{node_count, row_count, directory_index, root_index, row_index}
use Rattle.rgctx_words.specs.NodeWords.{node_read, definition_of}
use Rattle.rgctx_template.specs.Admitted.{is_admitted, is_admitted_method}
use Rattle.rgctx_template.specs.Catalogue.{CatData, HasMain}
use Rattle.rgctx_fill.specs.declared.spelled.NodeTree.{NodeTree}
use Rattle.rgctx_fill.specs.declared.spelled.NodeTree.TheVariants as tree
use Rattle.rgctx_fill.specs.Spelled.{applied_or_stop, spelled_by, spelled_from, spelled_below, spelled}
use Rattle.rgctx_fill.specs.Leaves.{word_with, word_alone, owner_in, main_class, last_leaf, later_words, leaf_words, opening}
use Rattle.rgctx_fill.specs.Predefined.{HasLeaves}
use Rattle.rgctx_fill.specs.Nodes.{IsAdmittedType, IsAdmittedMethod, MayStand}
use Rattle.rgctx_fill.specs.Fitting.{AreListed, directory, AreFitting}
use Rattle.rgctx_fill.specs.SpelledLaws.{below-is, from-used}
use Rattle.rgctx_fill.specs.LeafLaws.{opening-used}
use Rattle.rgctx_fill.proofs.QuietLemmas.{IsQuiet, root, derived, int32, int64, bool, quiet-limit, quiet-admitted, alone-admitted, alone-positions, alone-substituted}

infixr 5 ◌▸◌
◌▸◌ : {A B : Type 0} → A → B → A × B
x ▸ y = (x, y)

-- ---- lists of words

-- each word of a list has a fact with its number
abbrev Each : (ℕ → ℕ → Type 0) → ℕ → List ℕ → Type 0
Each P first [] = Unit {0}
Each P first (x ∷ xs) = P first x × Each P (suc first) xs

each_at : (P : ℕ → ℕ → Type 0) (first : ℕ) (xs : List ℕ) → Each P first xs → (k : ℕ) → k < length xs → P (first + k) (slice_index xs k)
each_at P first [] all k less = absurd (omega arith)
each_at P first (x ∷ xs) all zero less = subst (λ n. P n x) (let e : first ≡ first + 0 = omega arith in e) all.0
each_at P first (x ∷ xs) all (suc k) less = subst (λ n. P n (slice_index xs k)) (let e : suc first + k ≡ first + suc k = omega arith in e) (each_at P (suc first) xs all.1 k (omega arith))

past_end : (xs : List ℕ) (k : ℕ) → length xs ≤ k → slice_index xs k ≡ 0
past_end [] k less = refl
past_end (x ∷ xs) zero less = absurd (omega arith)
past_end (x ∷ xs) (suc k) less = past_end xs k (omega arith)

-- each word of a list is above the one before it, the first above a number
abbrev AreRising : ℕ → List ℕ → Type 0
AreRising low [] = Unit {0}
AreRising low (x ∷ xs) = (low < x) × AreRising x xs

above : (low : ℕ) (xs : List ℕ) → AreRising low xs → (k : ℕ) → k < length xs → low < slice_index xs k
above low [] rise k less = absurd (omega arith)
above low (x ∷ xs) rise zero less = rise.0
above low (x ∷ xs) rise (suc k) less = let a : low < x = rise.0 in let b : x < slice_index xs k = above x xs rise.1 k (omega arith) in omega arith

rising : (low : ℕ) (xs : List ℕ) → AreRising low xs → (i j : ℕ) → i < j → j < length xs → slice_index xs i < slice_index xs j
rising low [] rise i j less high = absurd (omega arith)
rising low (x ∷ xs) rise i zero less high = absurd (omega arith)
rising low (x ∷ xs) rise zero (suc j) less high = above x xs rise.1 j (omega arith)
rising low (x ∷ xs) rise (suc i) (suc j) less high = rising x xs rise.1 i j (omega arith) (omega arith)

-- ---- the words of classes and methods that are the program's own

record IsRead (word definition first : ℕ) : Type 0 where
  used : word ≢ 0
  is : node_read word ≡ record { definition = definition; first = first; second = 0; third = 0 }

word_read : (d first : ℕ) → 0 < d → first < 2 ^ 16 → IsRead (d * 2 ^ 48 + first * 2 ^ 32 + 0 * 2 ^ 16 + 0) d first
word_read d first low small =
    let w : ℕ = d * 2 ^ 48 + first * 2 ^ 32 + 0 * 2 ^ 16 + 0 in
    let a : w / 2 ^ 48 ≡ d = omega arith in
    let b : w / 2 ^ 32 % 2 ^ 16 ≡ first = omega arith in
    let c : w / 2 ^ 16 % 2 ^ 16 ≡ 0 = omega arith in
    let e : w % 2 ^ 16 ≡ 0 = omega arith in
    record { used = λ z. omega arith; is = λ i. record { definition = a i; first = b i; second = c i; third = e i } }

class_number : (n : ℕ) → 16 + n < 0x8000 → definition_of (16 + n) ≡ Some (def.Class n)
class_number n small =
    let s : nat_lt (16 + n) 16 ≡ false = grind (arith, nat_tests) in
    let t : nat_lt (16 + n) 0x8000 ≡ true = grind (arith, nat_tests) in
    let e : 16 + n - 16 ≡ n = omega arith in
    rw (s, t, e) refl

method_number : (n : ℕ) → definition_of (0x8000 + n) ≡ Some (def.Method n)
method_number n =
    let s : nat_lt (0x8000 + n) 16 ≡ false = grind (arith, nat_tests) in
    let t : nat_lt (0x8000 + n) 0x8000 ≡ false = grind (arith, nat_tests) in
    let e : 0x8000 + n - 0x8000 ≡ n = omega arith in
    rw (s, t, e) refl

class_word : (f : ℕ → NodeTree) (i n : ℕ) → 16 + n < 0x8000 → spelled_from f i (word_alone (def.Class n)) ≡ tree.Kind (plain n)
class_word f i n small =
    let r : IsRead (word_alone (def.Class n)) (16 + n) 0 = word_read (16 + n) 0 (omega arith) (omega arith) in
    from-used f i (word_alone (def.Class n)) r.used
    ∙ ap (spelled_by f) r.is
    ∙ ap (λ d. applied_or_stop d (Ok [])) (class_number n small)

method_word : (f : ℕ → NodeTree) (i n class : ℕ) (t : TExpr) → 0 < class → class < 2 ^ 16 → f class ≡ tree.Kind t → spelled_from f i (word_with (def.Method n) class) ≡ tree.Method (record { method = n; class = t; args = [] })
method_word f i n class t low high is =
    let r : IsRead (word_with (def.Method n) class) (0x8000 + n) class = word_read (0x8000 + n) class (omega arith) high in
    let z : (class == 0) ≡ false = grind (arith, nat_tests) in
    from-used f i (word_with (def.Method n) class) r.used
    ∙ ap (spelled_by f) r.is
    ∙ rw (z, is, method_number n) refl

module _ (cat : CatData) (main : HasMain cat.program) (leaves : HasLeaves cat.program) where
  -- ---- the predefined classes

  class_at : (k : ℕ) (c : ClassDef) → slice_get (library_classes ++ leaves.own_classes) k ≡ Some c → slice_get cat.program.classes k ≡ Some c
  class_at k c is = ap (λ cs. slice_get cs k) leaves.classes ∙ is

  root_at : (k : ℕ) (c : ClassDef) → slice_get (library_classes ++ leaves.own_classes) k ≡ Some c → is_struct_kind c.kind ≡ false → c.interfaces ≡ [] → c.fields ≡ [] → c.base ≡ None → IsQuiet cat.program (head.Class k)
  root_at k c is kind interfaces fields base = root k c (class_at k c is) kind interfaces fields base

  derived_at : (k b : ℕ) (c : ClassDef) → slice_get (library_classes ++ leaves.own_classes) k ≡ Some c → is_struct_kind c.kind ≡ false → c.interfaces ≡ [] → c.fields ≡ [] → c.base ≡ Some (plain b) → IsQuiet cat.program (head.Class b) → IsQuiet cat.program (head.Class k)
  derived_at k b c is kind interfaces fields base q = derived k b c (class_at k c is) kind interfaces fields base q

  object_quiet : IsQuiet cat.program (head.Class 0)
  object_quiet = root_at 0 _ refl refl refl refl refl

  string_quiet : IsQuiet cat.program (head.Class 1)
  string_quiet = derived_at 1 0 _ refl refl refl refl refl object_quiet

  exception_quiet : IsQuiet cat.program (head.Class 2)
  exception_quiet = derived_at 2 0 _ refl refl refl refl refl object_quiet

  system_quiet : IsQuiet cat.program (head.Class 3)
  system_quiet = derived_at 3 2 _ refl refl refl refl refl exception_quiet

  arithmetic_quiet : IsQuiet cat.program (head.Class 4)
  arithmetic_quiet = derived_at 4 3 _ refl refl refl refl refl system_quiet

  run_quiet : IsQuiet cat.program (head.Class 11)
  run_quiet = root_at 11 _ refl refl refl refl refl

  threads_quiet : IsQuiet cat.program (head.Class 12)
  threads_quiet = derived_at 12 0 _ refl refl refl refl refl object_quiet

  predefined : (k : ℕ) (c : ClassDef) → slice_get (library_classes ++ leaves.own_classes) k ≡ Some c → c.vars ≡ [] → IsQuiet cat.program (head.Class k) → IsAdmittedType cat.program (plain k)
  predefined k c is vars q =
      alone-admitted cat.program (head.Class k) (ap (λ d. has_count_in d []) (class_at k c is) ∙ ap (λ vs. 0 == length vs) vars) (quiet-admitted cat.program (head.Class k) q)

  -- ---- the class of the entry point

  main_same : main.main ≡ leaves.main
  main_same = let e : Some main.main ≡ Some leaves.main = sym main.is ∙ leaves.main_is in cc

  owner_is : main_class cat.program ≡ leaves.main.owner
  owner_is = ap owner_in leaves.main_is

  own_is : own_of cat.program leaves.main.owner ≡ plain leaves.main.owner
  own_is = ap (own_of_class leaves.main.owner) leaves.class_is ∙ ap (λ vs. node (head.Class leaves.main.owner) (map class_var (numbers_from 0 vs))) leaves.class_vars

  owner_count : has_count_top cat.program (Node (head.Class leaves.main.owner) []) ≡ true
  owner_count = ap (λ d. has_count_in d []) leaves.class_is ∙ ap (λ vs. 0 == length vs) leaves.class_vars

  owner_admitted : IsAdmittedType cat.program (plain leaves.main.owner)
  owner_admitted =
      alone-admitted cat.program (head.Class leaves.main.owner) owner_count
      (subst (λ t. is_admitted cat.program t ≡ true) (ap (λ (m : MethodDef). own_of cat.program m.owner) main_same ∙ own_is) main.class)

  -- ---- the two methods

  class_of_plain : (k : ℕ) → class_number_of (plain k) ≡ Some k
  class_of_plain k = ap class_in_top (top_of-tree_of (Node (head.Class k) []))

  main_admitted : IsAdmittedMethod cat.program (record { method = cat.program.main; class = plain leaves.main.owner; args = [] })
  main_admitted = record {
    method = leaves.main;
    is = leaves.main_is;
    owner = class_of_plain leaves.main.owner;
    class = owner_admitted;
    count = sym (ap length leaves.main_vars);
    args = All-nil (IsAdmittedType cat.program);
    admitted = subst (λ t. is_admitted_method cat.program t [] leaves.main ≡ true) own_is
        (subst (λ (m : MethodDef). is_admitted_method cat.program (own_of cat.program m.owner) [] m ≡ true) main_same main.method);
  }

  threads_admitted : IsAdmittedType cat.program (plain 12)
  threads_admitted = predefined 12 _ refl refl threads_quiet

  entry_limit : limit_at cat.program (plain 12) [] (Some thread_entry) ≡ None
  entry_limit =
      ap (λ n. if nat_lt most_positions (1 + (0 + n)) then Some limit.Positions else worst (map (limit_of cat.program) (types_named_by (plain 12) [] (Some thread_entry)))) (alone-positions (head.Class 12))
      ∙ ap (λ l. worse l (worse (limit_of cat.program (substituted (arguments_of (plain 12)) [] (plain 11))) None)) (quiet-limit cat.program (head.Class 12) threads_quiet)
      ∙ ap (λ l. worse l None) (ap (limit_of cat.program) (alone-substituted (head.Class 11) (arguments_of (plain 12)) []) ∙ quiet-limit cat.program (head.Class 11) run_quiet)

  entry_admitted : is_admitted_method cat.program (plain 12) [] thread_entry ≡ true
  entry_admitted = ap is_none entry_limit

  start_admitted : IsAdmittedMethod cat.program (record { method = 0; class = plain 12; args = [] })
  start_admitted = record {
    method = thread_entry;
    is = ap (λ ms. slice_get ms 0) leaves.methods;
    owner = class_of_plain 12;
    class = threads_admitted;
    count = refl;
    args = All-nil (IsAdmittedType cat.program);
    admitted = entry_admitted;
  }

  -- ---- each leaf stands

  at : ℕ → ℕ
  at = opening cat.program

  Stands : ℕ → ℕ → Type 0
  Stands i word = MayStand cat.program i (spelled_from (spelled_below (opening cat.program) i) i word)

  owner_small : 16 + main_class cat.program < 0x8000
  owner_small =
      let e : main_class cat.program ≡ leaves.main.owner = owner_is in
      let h : length cat.program.classes ≤ 4096 = leaves.few_classes in
      let g : leaves.main.owner < length cat.program.classes = slice_get_within cat.program.classes leaves.main.owner leaves.class leaves.class_is in
      omega arith

  type_17 : spelled_below (opening cat.program) 19 17 ≡ tree.Kind (plain 12)
  type_17 = below-is (opening cat.program) 19 17 (omega arith)

  type_18 : spelled_below (opening cat.program) 20 18 ≡ tree.Kind (plain leaves.main.owner)
  type_18 =
      below-is (opening cat.program) 20 18 (omega arith)
      ∙ class_word (spelled_below (opening cat.program) 18) 18 (main_class cat.program) owner_small
      ∙ ap (λ n. tree.Kind (plain n)) owner_is

  scalar : (h : _) → has_count_top cat.program (Node h []) ≡ true → IsQuiet cat.program h → IsAdmittedType cat.program (node h [])
  scalar h count q = alone-admitted cat.program h count (quiet-admitted cat.program h q)

  leaves_stand : Each Stands 1 (leaf_words cat.program)
  unfolding Stands
  leaves_stand =
      refl ▸
      scalar head.Int32 refl int32 ▸ scalar head.Int64 refl int64 ▸ scalar head.Bool refl bool ▸
      predefined 0 _ refl refl object_quiet ▸ predefined 1 _ refl refl string_quiet ▸
      predefined 2 _ refl refl exception_quiet ▸ predefined 3 _ refl refl system_quiet ▸ predefined 4 _ refl refl arithmetic_quiet ▸
      predefined 5 _ refl refl (derived_at 5 4 _ refl refl refl refl refl arithmetic_quiet) ▸
      predefined 6 _ refl refl (derived_at 6 4 _ refl refl refl refl refl arithmetic_quiet) ▸
      predefined 7 _ refl refl (derived_at 7 3 _ refl refl refl refl refl system_quiet) ▸
      predefined 8 _ refl refl (derived_at 8 3 _ refl refl refl refl refl system_quiet) ▸
      predefined 9 _ refl refl (derived_at 9 3 _ refl refl refl refl refl system_quiet) ▸
      predefined 10 _ refl refl (derived_at 10 3 _ refl refl refl refl refl system_quiet) ▸
      predefined 11 _ refl refl run_quiet ▸ threads_admitted ▸
      subst (MayStand cat.program 18) (sym (class_word (spelled_below (opening cat.program) 18) 18 (main_class cat.program) owner_small ∙ ap (λ n. tree.Kind (plain n)) owner_is)) owner_admitted ▸
      subst (MayStand cat.program 19) (sym (method_word (spelled_below (opening cat.program) 19) 19 0 17 (plain 12) (omega arith) (omega arith) type_17)) start_admitted ▸
      subst (MayStand cat.program 20) (sym (method_word (spelled_below (opening cat.program) 20) 20 cat.program.main 18 (plain leaves.main.owner) (omega arith) (omega arith) type_18)) main_admitted ▸
      tt

  -- ---- the rest is 0

  leaf_end : (i : ℕ) → last_leaf < i → opening cat.program i ≡ 0
  leaf_end i past = past_end (0 ∷ leaf_words cat.program) i (omega arith)

  no_word : {P : Type 0} (i : ℕ) → last_leaf < i → opening cat.program i ≢ 0 → P
  no_word i past used = absurd (used (leaf_end i past))

  leaf_at : (i : ℕ) → opening cat.program i ≢ 0 → i ≤ last_leaf
  leaf_at i used = ⊎_elim (λ (past : last_leaf < i). no_word i past used) (λ (low : i ≤ last_leaf). low) (cases_lt last_leaf i)

  nodes_stand : (i : ℕ) → 0 < i → i < node_count → opening cat.program i ≢ 0 → MayStand cat.program i (spelled (opening cat.program) i)
  unfolding Stands
  nodes_stand zero low high used = absurd (omega arith)
  nodes_stand (suc k) low high used =
      let inside : suc k ≤ last_leaf = leaf_at (suc k) used in
      subst (λ i. MayStand cat.program i (spelled_from (spelled_below (opening cat.program) i) i (slice_index (leaf_words cat.program) k))) (let e : 1 + k ≡ suc k = omega arith in e)
      (each_at Stands 1 (leaf_words cat.program) leaves_stand k (omega arith))

  main_small : (13 ≤ main_class cat.program) × (16 + main_class cat.program < 0x8000)
  main_small =
      let e : main_class cat.program ≡ leaves.main.owner = owner_is in
      let h : 13 ≤ leaves.main.owner = leaves.class_own in
      let g : 16 + main_class cat.program < 0x8000 = owner_small in
      (omega arith, g)

  -- the words behind that of the image rise
  later_rise : AreRising 0 (later_words cat.program)
  later_rise =
      let low : 13 ≤ main_class cat.program = main_small.0 in
      let high : 16 + main_class cat.program < 0x8000 = main_small.1 in
      omega arith ▸ omega arith ▸ omega arith ▸ omega arith ▸ omega arith ▸
      omega arith ▸ omega arith ▸ omega arith ▸ omega arith ▸ omega arith ▸
      omega arith ▸ omega arith ▸ omega arith ▸ omega arith ▸ omega arith ▸
      omega arith ▸ omega arith ▸ omega arith ▸ omega arith ▸ tt

  no_image : Each (λ i w. w ≢ word_alone def.Image) 0 (later_words cat.program)
  no_image =
      let low : 13 ≤ main_class cat.program = main_small.0 in
      (λ z. omega arith) ▸ (λ z. omega arith) ▸ (λ z. omega arith) ▸ (λ z. omega arith) ▸ (λ z. omega arith) ▸
      (λ z. omega arith) ▸ (λ z. omega arith) ▸ (λ z. omega arith) ▸ (λ z. omega arith) ▸ (λ z. omega arith) ▸
      (λ z. omega arith) ▸ (λ z. omega arith) ▸ (λ z. omega arith) ▸ (λ z. omega arith) ▸ (λ z. omega arith) ▸
      (λ z. omega arith) ▸ (λ z. omega arith) ▸ (λ z. omega arith) ▸ (λ z. omega arith) ▸ tt

  words_differ : (k l : ℕ) → k < l → l < length (leaf_words cat.program) → slice_index (leaf_words cat.program) k ≢ slice_index (leaf_words cat.program) l
  words_differ k zero less high e = absurd (omega arith)
  words_differ zero (suc l) less high e = each_at (λ i w. w ≢ word_alone def.Image) 0 (later_words cat.program) no_image l (omega arith) (sym e)
  words_differ (suc k) (suc l) less high e =
      let r : slice_index (later_words cat.program) k < slice_index (later_words cat.program) l = rising 0 (later_words cat.program) later_rise k l (omega arith) (omega arith) in
      omega arith

  opening_differs : (i j : ℕ) → 1 ≤ i → i < j → j ≤ last_leaf → opening cat.program i ≢ opening cat.program j
  opening_differs zero j low less high = absurd (omega arith)
  opening_differs (suc k) zero low less high = absurd (omega arith)
  opening_differs (suc k) (suc l) low less high = words_differ k l (omega arith) (omega arith)

  nodes_listed : AreListed (opening cat.program) 1 node_count
  nodes_listed = record {
    packed = λ i j low less high used. let last : j ≤ last_leaf = leaf_at j used in opening-used cat.program i (omega arith, omega arith);
    different = λ i j low less high used. opening_differs i j low less (leaf_at j used);
  }

  rows_listed : AreListed (directory (opening cat.program)) 0 row_count
  rows_listed = record {
    packed = λ i j low less high used. no_word (directory_index j) (omega arith) used;
    different = λ i j low less high used. no_word (directory_index j) (omega arith) used;
  }

  -- the leaves alone fit
  pub opening-fits : AreFitting cat (opening cat.program)
  opening-fits = record {
    nodes = nodes_stand;
    leaves = λ i leaf. refl;
    nodes_listed = nodes_listed;
    rows_listed = rows_listed;
    rows = λ row low used. no_word (directory_index row) (omega arith) used;
    roots = λ i low used. no_word (root_index i) (omega arith) used;
    links = λ row low used. no_word (row_index row 0) (omega arith) used;
    entries = λ row slot low first last used. no_word (row_index row slot) (omega arith) used;
    unused = refl;
  }
