-- Each type of a key that is read has the arguments that its heads want.
use Rattle.std.proofs.Common.{◌≡◌, ◌∙◌, ◌+◌, ◌<◌, ℕ, zero, suc, Bool, true, false, ◌&&◌, List, [], ◌∷◌, ◌++◌, length, take, drop, slice_get, is_some, Option, Some, None, refl, ap, subst, append-nil, arith}
use Rattle.std.specs.Prelude.{◌==◌, if◌then◌else◌, codes, bytes_eq, option_map, option_and_then, ⊤}
use Rattle.std.specs.List.{list_all}
use Rattle.std.proofs.lemmas.Bool.{and_from, eq-eqb}
use Rattle.std.proofs.lemmas.List.{length-append, length-map}
use Rattle.std.proofs.lemmas.List.Concat.{flat_map-append}
use Rattle.std.proofs.lemmas.List.Folds.{list_all-append}
use Rattle.il_text.specs.Spelling.{is_variable}
use Rattle.type_tree.specs.declared.tree.Head.{Head}
use Rattle.type_tree.specs.declared.tree.Head.TheVariants as head
use Rattle.type_tree.specs.declared.tree.TExpr.{TExpr}
use Rattle.type_tree.specs.declared.tree.TNode.{TNode}
use Rattle.type_tree.specs.declared.tree.TNode.TheVariants.{Node, ClassVar}
use Rattle.type_tree.specs.Tree.{node, class_var}
use Rattle.type_tree.proofs.TreeLemmas.{top_of-tree_of}
use Rattle.il_model.specs.declared.class.ClassDef.{ClassDef}
use Rattle.il_model.specs.declared.key.KeyPart.{KeyPart}
use Rattle.il_model.specs.declared.key.KeyPart.TheVariants.{Exact}
use Rattle.il_model.specs.declared.program.Program.{Program}
use Rattle.il_model.specs.Admission.{has_count, has_count_in, has_count_top}
use Rattle.il_model.specs.ClassRules.{has_counts, vars_in}
use Rattle.il_model.specs.Names.{plain_names}
use Rattle.il_model.specs.Spellings.{plain_name}
use Rattle.rgctx_template.specs.BodyRows.{exact_type, exact_types}
use Rattle.cil_verify.proofs.TreesLemmas.{all_opened}
use Rattle.aot_image.specs.declared.choice_start.Start.{Start}
use Rattle.aot_image.specs.declared.choice_start.Start.TheVariants as start
use Rattle.aot_image.specs.ChoosingTypes.{Read, Reader, and_then, ◌>>=◌, ◌>>◌, expect, word_len, class_named, start_of_class, start_of, read_vectors, mark_before, arguments_from, read_class, read_started, read_within, all_read, type_of}
use Rattle.aot_image.specs.ChoosingKeys.{key_of, with_key, keys_of, keys_behind}
use Rattle.aot_image.proofs.ChoosingNameLemmas.{place_within}

-- what is there, or is read, satisfies this
abbrev pub Given : {A : Type 0} → (A → Type 0) → Option A → Type 0
Given P None = ⊤
Given P (Some x) = P x

abbrev Holds : {A : Type 0} → (A → Type 0) → Read A → Type 0
Holds P None = ⊤
Holds P (Some p) = P p.0

pub either : {A : Type 0} (P : A → Type 0) (b : Bool) (x y : A) → P x → P y → P (if b then x else y)
either P true x y h k = h
either P false x y h k = k

bound : {A B : Type 0} (P : A → Type 0) (Q : B → Type 0) (r : Read A) (next : A → Reader B) → Holds P r →
    ((x : A) (rest : List ℕ) → P x → Holds Q (next x rest)) → Holds Q (and_then r next)
bound P Q None next h go = tt
bound P Q (Some p) next h go = go p.0 p.1 h

any_read : {A : Type 0} (r : Read A) → Holds (λ (x : A). ⊤) r
any_read None = tt
any_read (Some p) = tt

some_at : {A : Type 0} (xs : List A) (n : ℕ) → n < length xs → is_some (slice_get xs n) ≡ true
some_at [] n less = absurd omega arith
some_at (x ∷ xs) zero less = refl
some_at (x ∷ xs) (suc n) less = some_at xs n (omega arith)

wants : (o : Option ClassDef) (parts : List TExpr) → is_some o ≡ true → length parts ≡ length (vars_in o) → has_count_in o parts ≡ true
wants None parts some many = absurd cc
wants (Some c) parts some many = eq-eqb (length parts) (length c.vars) many

module _ (program : Program) where
  abbrev IsCounted : TExpr → Type 0
  IsCounted t = has_counts program t ≡ true

  abbrev pub AreCounted : List TExpr → Type 0
  AreCounted ts = list_all (has_counts program) ts ≡ true

  node_counted : (h : Head) (parts : List TExpr) → has_count_top program (Node h parts) ≡ true → AreCounted parts → IsCounted (node h parts)
  node_counted h parts own below =
      all_opened (has_count program) (node h parts) (Node h parts) (top_of-tree_of (Node h parts))
      ∙ ap (λ (top : TNode TExpr). has_count_top program top && list_all (has_counts program) parts) (top_of-tree_of (Node h parts))
      ∙ and_from (has_count_top program (Node h parts)) (list_all (has_counts program) parts) own below

  variable_counted : IsCounted (class_var 0)
  variable_counted =
      all_opened (has_count program) (class_var 0) (ClassVar 0) (top_of-tree_of (ClassVar 0))
      ∙ ap (λ (top : TNode TExpr). has_count_top program top && true) (top_of-tree_of (ClassVar 0))

  vector_counted : (t : TExpr) → IsCounted t → IsCounted (node head.Vector (t ∷ []))
  vector_counted t h = node_counted head.Vector (t ∷ []) refl (and_from (has_counts program t) true h refl)

  vectors_counted : (t : TExpr) → IsCounted t → (bytes : List ℕ) → Holds IsCounted (read_vectors t bytes)
  unfolding read_vectors
  vectors_counted t h [] = h
  vectors_counted t h (a ∷ []) = h
  vectors_counted t h (a ∷ b ∷ rest) =
      either (Holds IsCounted) ((a == 91) && (b == 93)) (read_vectors (node head.Vector (t ∷ [])) rest) (Some (t, a ∷ b ∷ rest))
      (vectors_counted (node head.Vector (t ∷ [])) (vector_counted t h) rest) h

  -- ---- the first word

  abbrev Starts : Start → Type 0
  Starts start.NoType = ⊤
  Starts (start.Scalar h) = has_count_top program (Node h []) ≡ true
  Starts start.Variable = ⊤
  Starts (start.Class number arity) = (parts : List TExpr) → length parts ≡ arity → has_count_top program (Node (head.Class number) parts) ≡ true

  class_starts : (o : Option ℕ) → ((n : ℕ) → o ≡ Some n → n < length program.classes) → Starts (start_of_class program o)
  class_starts None within = tt
  class_starts (Some n) within = λ parts many. wants (slice_get program.classes n) parts (some_at program.classes n (within n refl)) many

  named_within : (name : List ℕ) (n : ℕ) → class_named program name ≡ Some n → n < length program.classes
  named_within name n is =
      subst (λ (k : ℕ). n < k) (length-map program.classes (λ (c : ClassDef). plain_name c.name)) (place_within (plain_names program.classes) (plain_name name) n is)

  starts : (word : List ℕ) → Starts (start_of program word)
  unfolding start_of
  starts word =
      either Starts (bytes_eq (codes "int32") word) _ _ refl
      (either Starts (bytes_eq (codes "int64") word) _ _ refl
      (either Starts (bytes_eq (codes "bool") word) _ _ refl
      (either Starts (is_variable word) _ _ tt
      (class_starts (class_named program word) (named_within word)))))

  -- ---- types

  abbrev AreArguments : ℕ → List TExpr → Type 0
  AreArguments want ts = (list_all (has_counts program) ts ≡ true) × (length ts ≡ want)

  module _ (inner : Reader TExpr) (inner_counted : (bytes : List ℕ) → Holds IsCounted (inner bytes)) where
    arguments_counted : (n : ℕ) (found : List TExpr) (want : ℕ) → AreCounted found → length found + n ≡ want → (bytes : List ℕ) →
        Holds (AreArguments want) (arguments_from inner n found bytes)
    unfolding arguments_from
    arguments_counted zero found want h many bytes = let all : length found ≡ want = omega (arith, many) in (h, all)
    arguments_counted (suc n) found want h many bytes =
        bound IsCounted (AreArguments want) (inner bytes) (λ t. expect (mark_before n) >> arguments_from inner n (found ++ t ∷ [])) (inner_counted bytes)
        (λ t rest counted.
        bound (λ (u : Unit {0}). ⊤) (AreArguments want) (expect (mark_before n) rest) (λ u. arguments_from inner n (found ++ t ∷ [])) (any_read (expect (mark_before n) rest))
        (λ u more h2.
        let longer : length (found ++ t ∷ []) ≡ length found + 1 = length-append found (t ∷ []) ∙ omega arith in
        arguments_counted n (found ++ t ∷ []) want
        (list_all-append (has_counts program) found (t ∷ []) ∙ and_from _ _ h (and_from (has_counts program t) true counted refl))
        (omega (arith, longer, many)) more))

    class_counted : (number arity : ℕ) → Starts (start.Class number arity) → (bytes : List ℕ) → Holds IsCounted (read_class inner number arity bytes)
    unfolding read_class
    class_counted number zero h bytes = vectors_counted (node (head.Class number) []) (node_counted (head.Class number) [] (h [] refl) refl) bytes
    class_counted number (suc n) h bytes =
        bound (λ (u : Unit {0}). ⊤) IsCounted (expect 60 bytes) (λ u. arguments_from inner (suc n) [] >>= (λ args. read_vectors (node (head.Class number) args))) (any_read (expect 60 bytes))
        (λ u rest h1.
        bound (AreArguments (suc n)) IsCounted (arguments_from inner (suc n) [] rest) (λ args. read_vectors (node (head.Class number) args))
        (arguments_counted (suc n) [] (suc n) refl (omega arith) rest)
        (λ args more h2. vectors_counted (node (head.Class number) args) (node_counted (head.Class number) args (h args h2.1) h2.0) more))

    started_counted : (s : Start) → Starts s → (bytes : List ℕ) → Holds IsCounted (read_started inner s bytes)
    started_counted start.NoType h bytes = tt
    started_counted (start.Scalar s) h bytes = vectors_counted (node s []) (node_counted s [] h refl) bytes
    started_counted start.Variable h bytes = vectors_counted (class_var 0) variable_counted bytes
    started_counted (start.Class number arity) h bytes = class_counted number arity h bytes

  within_counted : (n : ℕ) (bytes : List ℕ) → Holds IsCounted (read_within program n bytes)
  unfolding read_within
  within_counted zero bytes = tt
  within_counted (suc n) bytes =
      started_counted (read_within program n) (λ bs. within_counted n bs) (start_of program (take (word_len bytes) bytes)) (starts (take (word_len bytes) bytes)) (drop (word_len bytes) bytes)

  all_counted : (r : Read TExpr) → Holds IsCounted r → Given IsCounted (all_read r)
  all_counted None h = tt
  all_counted (Some p) h = either (Given IsCounted) (length p.1 == 0) (Some p.0) None h tt

  type_counted : (bytes : List ℕ) → Given IsCounted (type_of program bytes)
  unfolding type_of
  type_counted bytes = all_counted (read_within program (length bytes + 1) bytes) (within_counted (length bytes + 1) bytes)

  -- ---- keys

  abbrev IsCountedPart : KeyPart → Type 0
  IsCountedPart p = AreCounted (exact_type p)

  abbrev pub AreCountedParts : List KeyPart → Type 0
  AreCountedParts ps = AreCounted (exact_types ps)

  exact_counted : (o : Option TExpr) → Given IsCounted o → Given IsCountedPart (option_map Exact o)
  exact_counted None h = tt
  exact_counted (Some t) h = and_from (has_counts program t) true h refl

  key_counted : (word : List ℕ) → Given IsCountedPart (key_of program word)
  key_counted word =
      either (Given IsCountedPart) (bytes_eq (codes "ref") word) _ _ refl
      (either (Given IsCountedPart) (bytes_eq (codes "any") word) _ _ refl
      (exact_counted (type_of program word) (type_counted word)))

  part_more : (found : List KeyPart) (p : KeyPart) → AreCountedParts found → IsCountedPart p → AreCountedParts (found ++ p ∷ [])
  part_more found p h one =
      ap (list_all (has_counts program)) (flat_map-append exact_type found (p ∷ []))
      ∙ list_all-append (has_counts program) (exact_types found) (exact_type p ++ [])
      ∙ and_from _ _ h (ap (list_all (has_counts program)) (append-nil (exact_type p)) ∙ one)

  key_more : (found : List KeyPart) (words : List (List ℕ)) (o : Option KeyPart) → AreCountedParts found → Given IsCountedPart o →
      ((more : List KeyPart) → AreCountedParts more → Given AreCountedParts (keys_behind program more words)) →
      Given AreCountedParts (option_and_then (λ more. keys_behind program more words) (with_key found o))
  key_more found words None h one rest = tt
  key_more found words (Some p) h one rest = rest (found ++ p ∷ []) (part_more found p h one)

  keys_more : (words : List (List ℕ)) (found : List KeyPart) → AreCountedParts found → Given AreCountedParts (keys_behind program found words)
  keys_more [] found h = h
  keys_more (word ∷ words) found h = key_more found words (key_of program word) h (key_counted word) (λ more counted. keys_more words more counted)

  pub keys_counted : (words : List (List ℕ)) → Given AreCountedParts (keys_of program words)
  keys_counted words = keys_more words [] refl
