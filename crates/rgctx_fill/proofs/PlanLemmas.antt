-- The word of the next node of a fill: what it spells, where it may be claimed, and that a node with this word spells the tree.
use Rattle.std.proofs.Common.{◌≡◌, ◌≢◌, ◌⊎◌, ⊎_elim, inl, inr, ℕ, zero, suc, ◌+◌, ◌*◌, ◌/◌, ◌%◌, ◌<◌, ◌≤◌, ◌==◌, Bool, true, false, List, [], ◌∷◌, ◌++◌, length, Option, Some, None, Result, Ok, Err, if◌then◌else◌, refl, sym, ap, ◌∙◌, subst, arith, eq-eqb}
use Rattle.std.specs.Prelude.{slice_get, slice_index}
use Rattle.std.proofs.lemmas.Bool.{cases_lt}
use Rattle.type_tree.specs.declared.tree.TExpr.{TExpr}
use Rattle.il_model.specs.declared.program.Program.{Program}
use Rattle.rgctx_words.specs.declared.node_word.NodeWord.{NodeWord}
use Rattle.rgctx_words.specs.declared.node_word.Definition.{Definition}
use Rattle.rgctx_words.specs.declared.node_word.Definition.TheVariants as def
use Rattle.rgctx_words.specs.Regions.{node_count}
use Rattle.rgctx_words.specs.NodeWords.{node_word, node_read, definition_of}
use Rattle.rgctx_words.specs.Held.{Grows}
use Rattle.rgctx_template.specs.Catalogue.{CatData}
use Rattle.rgctx_fill.specs.declared.spelled.NodeTree.{NodeTree}
use Rattle.rgctx_fill.specs.declared.spelled.NodeTree.TheVariants as tree
use Rattle.rgctx_fill.specs.declared.stage.NodeStep.{NodeStep}
use Rattle.rgctx_fill.specs.Spelled.{argument_fields, is_packed, type_or_stop, with_type, types_of, applied, applied_or_stop, spelled_by, spelled_from, spelled_below, spelled}
use Rattle.rgctx_fill.specs.Leaves.{word_alone, opening}
use Rattle.rgctx_fill.specs.Nodes.{MayStand}
use Rattle.rgctx_fill.specs.Fitting.{AreFitting}
use Rattle.rgctx_fill.specs.Turns.{node_for, word_for}
use Rattle.rgctx_fill.specs.Plans.{Spells, AreSpelled, IsStep, IsPlan}
use Rattle.rgctx_fill.specs.SpelledLaws.{is_zero, stops_at_zero, below-is, below-past, from-used, no_zero_word, spelled-grows}
use Rattle.rgctx_fill.specs.GrowthLaws.{stands-used}
use Rattle.rgctx_fill.proofs.SpellingLemmas.{is_named, Reads, from-reads, reads-more}
use Rattle.rgctx_fill.proofs.NodeLaws.{type_below}

-- ---- lists

pub record Got {A : Type 0} (xs : List A) (k : ℕ) : Type 0 where
  pub item : A
  pub is : slice_get xs k ≡ Some item

pub got : {A : Type 0} (xs : List A) (k : ℕ) → k < length xs → Got xs k
got [] k less = absurd (omega arith)
got (x ∷ xs) zero less = record { item = x; is = refl }
got (x ∷ xs) (suc k) less = let g = got xs k (omega arith) in record { item = g.item; is = g.is }

pub index-front : (xs ys : List ℕ) (k : ℕ) → k < length xs → slice_index (xs ++ ys) k ≡ slice_index xs k
index-front [] ys k less = absurd (omega arith)
index-front (x ∷ xs) ys zero less = refl
index-front (x ∷ xs) ys (suc k) less = index-front xs ys k (omega arith)

pub index-end : (xs : List ℕ) (y : ℕ) (ys : List ℕ) → slice_index (xs ++ y ∷ ys) (length xs) ≡ y
index-end [] y ys = refl
index-end (x ∷ xs) y ys = index-end xs y ys

pub index-past : (xs : List ℕ) (k : ℕ) → length xs ≤ k → slice_index xs k ≡ 0
index-past [] k past = refl
index-past (x ∷ xs) zero past = absurd (omega arith)
index-past (x ∷ xs) (suc k) past = index-past xs k (omega arith)

-- ---- trees that may have a node

pub stands-anywhere : (program : Program) (i : ℕ) (t : NodeTree) → MayStand program 0 t → MayStand program i t
stands-anywhere program i (tree.Kind t) h = h
stands-anywhere program i (tree.Method m) h = h
stands-anywhere program i tree.Other h = let e : 0 ≡ 1 = h in absurd (omega arith)
stands-anywhere program i (tree.Zero n) h = absurd h

pub no_image : {P : Type 0} (program : Program) (t : NodeTree) → MayStand program 0 t → t ≡ tree.Other → P
no_image program (tree.Kind t) h e = cc
no_image program (tree.Method m) h e = cc
no_image program tree.Other h e = let d : 0 ≡ 1 = h in absurd (omega arith)
no_image program (tree.Zero n) h e = absurd h

-- ---- what is told of the nodes in a word

-- the node found for a place is one of those that are found, or none
pub record IsOneOf (found : List ℕ) (n : ℕ) : Type 0 where
  pub k : ℕ
  pub low : k < length found
  pub is : n ≡ slice_index found k

pub node_for-is : (found : List ℕ) (p : ℕ) → (node_for found p ≡ 0) ⊎ IsOneOf found (node_for found p)
node_for-is found zero = inl refl
node_for-is found (suc k) = ⊎_elim
    (λ (low : k < length found). inr (record { k = k; low = low; is = refl }))
    (λ (past : length found ≤ k). inl (index-past found k past))
    (cases_lt k (length found))

field_small : (found : List ℕ) → ((k : ℕ) → k < length found → slice_index found k < node_count) → (p : ℕ) → node_for found p < node_count
field_small found small p = ⊎_elim
    (λ (z : node_for found p ≡ 0). let s : 0 < node_count = omega arith in subst (λ n. n < node_count) (sym z) s)
    (λ (o : IsOneOf found (node_for found p)). subst (λ n. n < node_count) (sym o.is) (small o.k o.low))
    (node_for-is found p)

-- what a word of small nodes is read as
pub read-word : (d a b c : ℕ) → a < node_count → b < node_count → c < node_count
    → node_read (node_word (record { definition = d; first = a; second = b; third = c })) ≡ record { definition = d; first = a; second = b; third = c }
read-word d a b c low mid high =
    let w : ℕ = d * 281474976710656 + a * 4294967296 + b * 65536 + c in
    let e : w / 281474976710656 ≡ d = omega arith in
    let f : w / 4294967296 % 65536 ≡ a = omega arith in
    let g : w / 65536 % 65536 ≡ b = omega arith in
    let h : w % 65536 ≡ c = omega arith in
    λ i. record { definition = e i; first = f i; second = g i; third = h i }

-- a reading that meets no 0 is none of a 0
step_known : (b : Bool) (t : NodeTree) (rest : Result (List TExpr) NodeTree) → (b ≡ false → is_zero t ≡ false) → stops_at_zero rest ≡ false
    → stops_at_zero (if b then Ok [] else with_type (type_or_stop t) rest) ≡ false
step_known true t rest known more = refl
step_known false (tree.Kind t) (Ok ts) known more = refl
step_known false (tree.Kind t) (Err stop) known more = more
step_known false (tree.Method m) rest known more = refl
step_known false tree.Other rest known more = refl
step_known false (tree.Zero n) rest known more = known refl

applied_known : (d : Option Definition) (ts : List TExpr) → is_zero (applied d ts) ≡ false
applied_known (Some def.Int32) ts = refl
applied_known (Some def.Int64) ts = refl
applied_known (Some def.Bool) ts = refl
applied_known (Some def.Vector) ts = refl
applied_known (Some def.Image) ts = refl
applied_known (Some (def.Class number)) ts = refl
applied_known (Some (def.Method number)) [] = refl
applied_known (Some (def.Method number)) (c ∷ ts) = refl
applied_known None ts = refl

by_step : (b : Bool) (d : Option Definition) (x : Result (List TExpr) NodeTree) → stops_at_zero x ≡ false → is_zero (if b then applied_or_stop d x else tree.Other) ≡ false
by_step true d (Ok ts) known = applied_known d ts
by_step true d (Err stop) known = known
by_step false d x known = refl

pub known-by : (told : ℕ → NodeTree) (n : NodeWord) → ((x : ℕ) → (x ≡ n.first) ⊎ ((x ≡ n.second) ⊎ (x ≡ n.third)) → (x == 0) ≡ false → is_zero (told x) ≡ false) → is_zero (spelled_by told n) ≡ false
known-by told n known =
    by_step (is_packed n) (definition_of n.definition) (types_of told (argument_fields n))
    (step_known (n.first == 0) (told n.first) _ (known n.first (inl refl))
    (step_known (n.second == 0) (told n.second) _ (known n.second (inr (inl refl)))
    (step_known (n.third == 0) (told n.third) _ (known n.third (inr (inr refl))) refl)))

-- ---- a step

reads_by : (told : ℕ → NodeTree) (n : NodeWord) (s : NodeTree) → Reads told n s → spelled_by told n ≡ s
reads_by told n s r =
    ap (λ (b : Bool). if b then applied_or_stop (definition_of n.definition) (types_of told (argument_fields n)) else tree.Other) r.packed
    ∙ ap (applied_or_stop (definition_of n.definition)) r.read ∙ r.is

zero_is_other : (told : ℕ → NodeTree) → spelled_by told (node_read 0) ≡ tree.Other
zero_is_other told = refl

image_is_other : (told : ℕ → NodeTree) → spelled_by told (node_read (word_alone def.Image)) ≡ tree.Other
image_is_other told = refl

module _ (program : Program) (trees : List NodeTree) (found : List ℕ) (s : NodeStep) (t : NodeTree) (is_step : IsStep program trees (length found) s t) where
  key : ℕ
  key = word_for found (Some s)

  -- the word is not 0
  pub key-used : (told : ℕ → NodeTree) → AreSpelled told trees found → word_for found (Some s) ≢ 0
  key-used told are z =
      no_image program t is_step.stands (sym (is_step.spells told found refl are) ∙ ap (λ w. spelled_by told (node_read w)) z ∙ zero_is_other told)

  pub key-spells : (told : ℕ → NodeTree) (place : ℕ) → AreSpelled told trees found → spelled_from told place (word_for found (Some s)) ≡ t
  key-spells told place are = from-used told place (word_for found (Some s)) (key-used told are) ∙ is_step.spells told found refl are

-- nodes are told below a number that none of them reaches
pub spelled-below : (held : ℕ → ℕ) (trees : List NodeTree) (found : List ℕ) (place : ℕ) → ((k : ℕ) → k < length found → slice_index found k < place)
    → AreSpelled (spelled held) trees found → AreSpelled (spelled_below held place) trees found
spelled-below held trees found place below are k t low is =
    let h : Spells (spelled held) (slice_index found k) t = are k t low is in
    record { low = h.low; high = h.high; is = below-is held place (slice_index found k) (below k low) ∙ h.is }

module _ (program : Program) (steps : List NodeStep) (trees : List NodeTree) (plan : IsPlan program steps trees) where
  pub tree-known : (k : ℕ) (t : NodeTree) → slice_get trees k ≡ Some t → k < length steps → is_zero t ≡ false
  tree-known k t is low =
      let g : Got steps k = got steps k low in
      stands-used program 0 t (plan.each k g.item t g.is is).stands

  -- found nodes go on to spell their trees
  pub spelled-on : (held after : ℕ → ℕ) → Grows held after → (found : List ℕ) → length found < suc (length steps) → AreSpelled (spelled held) trees found → AreSpelled (spelled after) trees found
  spelled-on held after grows found few are k t low is =
      let h : Spells (spelled held) (slice_index found k) t = are k t low is in
      let known : is_zero (spelled held (slice_index found k)) ≡ false = ap is_zero h.is ∙ tree-known k t is (omega arith) in
      record { low = h.low; high = h.high; is = spelled-grows held after grows (slice_index found k) known ∙ h.is }

  pub found-used : (held : ℕ → ℕ) (found : List ℕ) → length found < suc (length steps) → AreSpelled (spelled held) trees found → (k : ℕ) → k < length found → held (slice_index found k) ≢ 0
  found-used held found few are k low =
      let below : k < length trees = let e : length trees ≡ length steps = plan.count in omega arith in
      let g : Got trees k = got trees k below in
      let h : Spells (spelled held) (slice_index found k) g.item = are k g.item low g.is in
      no_zero_word (spelled_below held (slice_index found k)) (slice_index found k) (held (slice_index found k)) (ap is_zero h.is ∙ tree-known k g.item g.is (omega arith))

-- ---- a node with the word of a step spells its tree

module _ (cat : CatData) (at held : ℕ → ℕ) (fits : AreFitting cat at) (within : Grows held at) (steps : List NodeStep) (trees : List NodeTree) (plan : IsPlan cat.program steps trees)
    (found : List ℕ) (less : length found < length steps) (are : AreSpelled (spelled held) trees found)
    (s : NodeStep) (s_is : slice_get steps (length found) ≡ Some s) (t : NodeTree) (t_is : slice_get trees (length found) ≡ Some t) (place : ℕ) (low : 0 < place) (high : place < node_count)
    (here : held place ≡ word_for found (Some s)) where
  the_step : IsStep cat.program trees (length found) s t
  the_step = plan.each (length found) s t s_is t_is

  are_at : AreSpelled (spelled at) trees found
  are_at = spelled-on cat.program steps trees plan held at within found (omega arith) are

  used : held place ≢ 0
  used z = key-used cat.program trees found s t the_step (spelled held) are (sym here ∙ z)

  at_here : at place ≡ word_for found (Some s)
  at_here = within place used ∙ here

  small : (k : ℕ) → k < length found → slice_index found k < node_count
  small k low =
      let below : k < length trees = let e : length trees ≡ length steps = plan.count in omega arith in
      let g : Got trees k = got trees k below in
      (are k g.item low g.is).high

  -- no node in the word is read as 0
  told_known : (x : ℕ) → IsOneOf found x → is_zero (spelled_below held place x) ≡ false
  told_known x one =
      let below : one.k < length trees = let e : length trees ≡ length steps = plan.count in let l : one.k < length found = one.low in omega arith in
      let g : Got trees one.k = got trees one.k below in
      let h : Spells (spelled held) (slice_index found one.k) g.item = are one.k g.item one.low g.is in
      ⊎_elim
      (λ (lower : x < place). ap is_zero (below-is held place x lower ∙ ap (spelled held) one.is ∙ h.is)
      ∙ tree-known cat.program steps trees plan one.k g.item g.is (let l : one.k < length found = one.low in omega arith))
      (λ (past : place ≤ x). ap is_zero (below-past held place x past))
      (cases_lt x place)

  no_field : {P : Type 0} (x : ℕ) → (x == 0) ≡ false → x ≡ 0 → P
  no_field x ne z = let h : true ≡ false = sym (eq-eqb x 0 z) ∙ ne in cc

  field_known : (p x : ℕ) → x ≡ node_for found p → (x == 0) ≡ false → is_zero (spelled_below held place x) ≡ false
  field_known p x is ne = ⊎_elim
      (λ (z : node_for found p ≡ 0). no_field x ne (is ∙ z))
      (λ (one : IsOneOf found (node_for found p)). told_known x (record { k = one.k; low = one.low; is = is ∙ one.is }))
      (node_for-is found p)

  word_read : node_read (word_for found (Some s)) ≡ record { definition = s.definition; first = node_for found s.first; second = node_for found s.second; third = node_for found s.third }
  word_read = read-word s.definition (node_for found s.first) (node_for found s.second) (node_for found s.third) (field_small found small s.first) (field_small found small s.second) (field_small found small s.third)

  read_known : is_zero (spelled held place) ≡ false
  read_known =
      let e : spelled held place ≡ spelled_by (spelled_below held place) (record { definition = s.definition; first = node_for found s.first; second = node_for found s.second; third = node_for found s.third }) =
      from-used (spelled_below held place) place (held place) used ∙ ap (λ w. spelled_by (spelled_below held place) (node_read w)) here ∙ ap (spelled_by (spelled_below held place)) word_read in
      ap is_zero e
      ∙ known-by (spelled_below held place) (record { definition = s.definition; first = node_for found s.first; second = node_for found s.second; third = node_for found s.third })
      (λ x which. ⊎_elim
      (λ (e : x ≡ node_for found s.first). field_known s.first x e)
      (λ (more : (x ≡ node_for found s.second) ⊎ (x ≡ node_for found s.third)). ⊎_elim
      (λ (e : x ≡ node_for found s.second). field_known s.second x e)
      (λ (e : x ≡ node_for found s.third). field_known s.third x e)
      more)
      which)

  key_tree : spelled_by (spelled at) (node_read (word_for found (Some s))) ≡ t
  key_tree = the_step.spells (spelled at) found refl are_at

  named_tree : (u : NodeTree) → is_named u ≡ true → spelled at place ≡ u → u ≡ t
  named_tree u named is =
      let r : ((at place == 0) ≡ false) × Reads (spelled_below at place) (node_read (at place)) u = from-reads (spelled_below at place) place (at place) u named is in
      let more : Reads (spelled at) (node_read (at place)) u = reads-more (spelled_below at place) (spelled at) (λ i v h. (type_below at place i v h).1) (node_read (at place)) u r.1 in
      sym (reads_by (spelled at) (node_read (at place)) u more) ∙ ap (λ w. spelled_by (spelled at) (node_read w)) at_here ∙ key_tree

  image_here : {P : Type 0} → place ≡ 1 → P
  image_here one =
      let leaf : at 1 ≡ opening cat.program 1 = fits.leaves 1 (omega arith, omega arith) in
      let w : word_for found (Some s) ≡ word_alone def.Image = sym at_here ∙ ap at one ∙ leaf in
      no_image cat.program t the_step.stands (sym key_tree ∙ ap (λ w. spelled_by (spelled at) (node_read w)) w ∙ image_is_other (spelled at))

  at_tree : (u : NodeTree) → spelled at place ≡ u → MayStand cat.program place u → u ≡ t
  at_tree (tree.Kind k) is may = named_tree (tree.Kind k) refl is
  at_tree (tree.Method m) is may = named_tree (tree.Method m) refl is
  at_tree tree.Other is may = image_here may
  at_tree (tree.Zero n) is may = absurd may

  pub word-spells : spelled held place ≡ t
  word-spells =
      sym (spelled-grows held at within place read_known)
      ∙ at_tree (spelled at place) refl (fits.nodes place low high (λ z. used (sym (within place used) ∙ z)))
