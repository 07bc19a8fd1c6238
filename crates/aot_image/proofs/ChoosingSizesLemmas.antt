-- The extent of a type, read in one pass.
use Rattle.std.proofs.Common.{◌≡◌, ◌∙◌, ℕ, zero, suc, ◌-◌, ◌+◌, ◌<◌, ◌≤◌, Bool, true, false, List, [], ◌∷◌, ◌++◌, length, take, drop, Option, Some, None, is_some, Err, refl, sym, ap, arith}
use Rattle.std.specs.Prelude.{◌==◌, ◌&&◌, if◌then◌else◌, option_map, option_and_then, unwrap_or}
use Rattle.std.specs.List.{list_all}
use Rattle.std.proofs.lemmas.List.Folds.{list_all-append}
use Rattle.std.proofs.lemmas.List.Sums.{sum_by-append}
use Rattle.il_text.specs.Spelling.{after_byte}
use Rattle.type_tree.specs.declared.tree.TExpr.{TExpr}
use Rattle.type_tree.specs.declared.tree.Head.{Head}
use Rattle.type_tree.specs.declared.tree.Head.TheVariants as head
use Rattle.type_tree.specs.Tree.{node, class_var}
use Rattle.type_tree.specs.Positions.{positions_of}
use Rattle.type_tree.proofs.PositionsLemmas.{positions_of-node, positions_of-class_var}
use Rattle.il_model.specs.declared.program.Program.{Program}
use Rattle.aot_image.specs.declared.choice_start.Start.{Start}
use Rattle.aot_image.specs.declared.choice_start.Start.TheVariants as start
use Rattle.aot_image.specs.declared.choice_sizes.Extent.{Extent}
use Rattle.aot_image.specs.declared.choice_read_error.ReadError.{ReadError}
use Rattle.aot_image.specs.declared.choice_read_error.ReadError.TheVariants as error
use Rattle.aot_image.specs.ChoosingTypes.{Read, Reads, Reader, and_then, expect, expected, arguments_from, mark_before, start_of, word_len, behind_brackets, read_vectors, read_class, read_started, read_within, all_read, type_of, ◌>>=◌}
use Rattle.aot_image.specs.ChoosingBounds.{is_closed}
use Rattle.aot_image.specs.ChoosingSizes.{Goes, extent_with, whole_extent, behind_type, extent_of, Then, tallied, marked, vectors_then, arguments_then, behind, At, at, left_at, size_of, Steps}
use Rattle.aot_image.proofs.ChoosingBoundsLemmas.{closed_node, open_class_var}
use Rattle.aot_image.proofs.ChoosingTypeLemmas.{brackets_are, fewer_behind, type_by}

extent_same : (a b : ℕ) (c d : Bool) → a ≡ b → c ≡ d → extent_with a c ≡ extent_with b d
extent_same a b c d e f = λ i. extent_with (e i) (f i)

-- ---- extents

and_same : (a b : Bool) → (a && b) ≡ (a && (b && true))
and_same true true = refl
and_same true false = refl
and_same false b = refl

and_assoc : (a b c : Bool) → ((a && b) && c) ≡ (a && (b && c))
and_assoc true b c = refl
and_assoc false b c = refl

and_true : (a : Bool) → (a && true) ≡ a
and_true true = refl
and_true false = refl

-- a vector is one position more than its elements
vector_extent : (e : Extent) (t : TExpr) → behind_type e (node head.Vector (t ∷ [])) ≡ extent_with ((behind_type e t).room - 1) (behind_type e t).closed
vector_extent e t =
    extent_same _ _ _ _ (let count = positions_of-node head.Vector (t ∷ []) in omega arith)
    (ap (λ b. e.closed && b) (closed_node head.Vector (t ∷ [])) ∙ sym (and_same e.closed (is_closed t)))

-- a type of no other
pub bare_extent : (e : Extent) (h : Head) → behind_type e (node h []) ≡ extent_with (e.room - 1) (e.closed && true)
bare_extent e h =
    extent_same _ _ _ _ (let count = positions_of-node h [] in omega arith) (ap (λ b. e.closed && b) (closed_node h []))

pub variable_extent : (e : Extent) → behind_type e (class_var 0) ≡ extent_with (e.room - 1) (e.closed && false)
variable_extent e =
    extent_same _ _ _ _ (let count = positions_of-class_var 0 in omega arith) (ap (λ b. e.closed && b) (open_class_var 0))

-- a class with one argument more
more_extent : (e : Extent) (h : Head) (found : List TExpr) (t : TExpr) →
    behind_type (behind_type e (node h found)) t ≡ behind_type e (node h (found ++ t ∷ []))
more_extent e h found t =
    extent_same _ _ _ _
    (let old = positions_of-node h found in
    let new = positions_of-node h (found ++ t ∷ []) in
    let sum = sum_by-append positions_of found (t ∷ []) in omega arith)
    (ap (λ b. (e.closed && b) && is_closed t) (closed_node h found)
    ∙ and_assoc e.closed (list_all is_closed found) (is_closed t)
    ∙ ap (λ b. e.closed && b) (ap (λ b. list_all is_closed found && b) (sym (and_true (is_closed t))) ∙ sym (list_all-append is_closed found (t ∷ [])))
    ∙ ap (λ b. e.closed && b) (sym (closed_node h (found ++ t ∷ []))))

-- ---- reading

-- a type with its vectors
pub vectors_tallied : (e : Extent) (next : Then) (t : TExpr) (bytes : List ℕ) →
    tallied e (read_vectors t bytes) next ≡ vectors_then next (behind_type e t) bytes
unfolding read_vectors vectors_then
vectors_tallied e next t [] = refl
vectors_tallied e next t (a ∷ []) = refl
vectors_tallied e next t (a ∷ b ∷ rest) = by ((a == 91) && (b == 93)) (vectors_tallied e next (node head.Vector (t ∷ [])) rest)
  where
    by : (p : Bool) → tallied e (read_vectors (node head.Vector (t ∷ [])) rest) next ≡ vectors_then next (behind_type e (node head.Vector (t ∷ []))) rest →
        tallied e (if p then read_vectors (node head.Vector (t ∷ [])) rest else Some (t, a ∷ b ∷ rest)) next ≡
        (if p then vectors_then next (extent_with ((behind_type e t).room - 1) (behind_type e t).closed) rest else next (behind_type e t) (a ∷ b ∷ rest))
    by true go = go ∙ ap (λ f. vectors_then next f rest) (vector_extent e t)
    by false go = refl

-- the arguments of a class and what follows them
module _ (inner : Reader TExpr) (h : Head) (e : Extent) (next : Then) where
  abbrev vectors_behind : List TExpr → Reader TExpr
  vectors_behind args = read_vectors (node h args)

  -- what is known of the arguments behind one more
  abbrev Again : ℕ → List TExpr → Type 0
  Again n found = (t : TExpr) (rest : List ℕ) →
      tallied e ((arguments_from inner n (found ++ t ∷ []) >>= vectors_behind) rest) next ≡
      arguments_then inner n (vectors_then next) (behind_type e (node h (found ++ t ∷ []))) rest

  mark_tallied : (n : ℕ) (found : List TExpr) (again : Again n found) (t : TExpr) (o : Option (List ℕ)) →
      tallied e (and_then (and_then (expected o) (λ _. arguments_from inner n (found ++ t ∷ []))) vectors_behind) next ≡
      option_and_then (arguments_then inner n (vectors_then next) (behind_type (behind_type e (node h found)) t)) o
  mark_tallied n found again t None = refl
  mark_tallied n found again t (Some rest) =
      again t rest ∙ ap (λ f. arguments_then inner n (vectors_then next) f rest) (sym (more_extent e h found t))

  argument_tallied : (n : ℕ) (found : List TExpr) (again : Again n found) (r : Read TExpr) →
      tallied e (and_then (and_then r (λ t more. and_then (expected (after_byte (mark_before n) more)) (λ _. arguments_from inner n (found ++ t ∷ [])))) vectors_behind) next ≡
      tallied (behind_type e (node h found)) r (λ f rest. marked (mark_before n) rest (arguments_then inner n (vectors_then next) f))
  argument_tallied n found again None = refl
  argument_tallied n found again (Some p) = mark_tallied n found again p.0 (after_byte (mark_before n) p.1)

  pub arguments_tallied : (n : ℕ) (found : List TExpr) (bytes : List ℕ) →
      tallied e ((arguments_from inner n found >>= vectors_behind) bytes) next ≡
      arguments_then inner n (vectors_then next) (behind_type e (node h found)) bytes
  unfolding arguments_from arguments_then expect
  arguments_tallied zero found bytes = vectors_tallied e next (node h found) bytes
  arguments_tallied (suc n) found bytes =
      argument_tallied n found (λ t rest. arguments_tallied n (found ++ t ∷ []) rest) (inner bytes)

-- `[]` before what is left, or not
pub brackets_go : (next : Then) (e : Extent) (bytes : List ℕ) → is_some (behind_brackets bytes) ≡ true →
    vectors_then next e bytes ≡ vectors_then next (extent_with (e.room - 1) (e.closed && true)) (unwrap_or (behind_brackets bytes) bytes)
unfolding vectors_then
brackets_go next e [] some = absurd cc
brackets_go next e (a ∷ []) some = absurd (by (a == 91) some)
  where
    by : (p : Bool) → is_some (option_and_then (after_byte 93) (if p then Some [] else None)) ≡ true → ⊥
    by true e = absurd cc
    by false e = absurd cc
brackets_go next e (a ∷ b ∷ rest) some =
    by ((a == 91) && (b == 93)) (sym (ap is_some (brackets_are a b rest)) ∙ some)
    ∙ ap (λ o. vectors_then next (extent_with (e.room - 1) (e.closed && true)) (unwrap_or o (a ∷ b ∷ rest))) (sym (brackets_are a b rest))
  where
    by : (p : Bool) → is_some (if p then Some rest else None) ≡ true →
        (if p then vectors_then next (extent_with (e.room - 1) e.closed) rest else next e (a ∷ b ∷ rest)) ≡
        vectors_then next (extent_with (e.room - 1) (e.closed && true)) (unwrap_or (if p then Some rest else None) (a ∷ b ∷ rest))
    by true f = ap (λ c. vectors_then next (extent_with (e.room - 1) c) rest) (sym (and_true e.closed))
    by false f = absurd cc

pub brackets_end : (next : Then) (e : Extent) (bytes : List ℕ) → is_some (behind_brackets bytes) ≡ false →
    vectors_then next e bytes ≡ next e (unwrap_or (behind_brackets bytes) bytes)
unfolding vectors_then
brackets_end next e [] none = refl
brackets_end next e (a ∷ []) none = by (a == 91)
  where
    by : (p : Bool) → next e (a ∷ []) ≡ next e (unwrap_or (option_and_then (after_byte 93) (if p then Some [] else None)) (a ∷ []))
    by true = refl
    by false = refl
brackets_end next e (a ∷ b ∷ rest) none =
    by ((a == 91) && (b == 93)) (sym (ap is_some (brackets_are a b rest)) ∙ none)
    ∙ ap (λ o. next e (unwrap_or o (a ∷ b ∷ rest))) (sym (brackets_are a b rest))
  where
    by : (p : Bool) → is_some (if p then Some rest else None) ≡ false →
        (if p then vectors_then next (extent_with (e.room - 1) e.closed) rest else next e (a ∷ b ∷ rest)) ≡
        next e (unwrap_or (if p then Some rest else None) (a ∷ b ∷ rest))
    by true e = absurd cc
    by false e = refl

-- ---- steps

abbrev after_word : List ℕ → List ℕ
after_word bytes = drop (word_len bytes) bytes

pub fewer_marked : (byte : ℕ) (bytes rest : List ℕ) → expect byte bytes ≡ Some (tt, rest) → length bytes ≡ 1 + length rest
unfolding expect
fewer_marked byte [] rest e = absurd cc
fewer_marked byte (b ∷ bs) rest e = by (b == byte) e
  where
    by : (p : Bool) → expected (if p then Some bs else None) ≡ Some (tt, rest) → length (b ∷ bs) ≡ 1 + length rest
    by true f = let same : length bs ≡ length rest = ap (λ r. length (unwrap_or (option_map (λ p. p.1) r) [])) f in omega arith
    by false f = absurd cc

pub marked_is : (byte : ℕ) (bytes rest : List ℕ) (next : List ℕ → Option Extent) → expect byte bytes ≡ Some (tt, rest) → marked byte bytes next ≡ next rest
unfolding expect
marked_is byte bytes rest next e = by (after_byte byte bytes) e
  where
    by : (o : Option (List ℕ)) → expected o ≡ Some (tt, rest) → option_and_then next o ≡ next rest
    by None f = absurd cc
    by (Some x) f = ap next (ap (λ r. unwrap_or (option_map (λ p. p.1) r) x) f)

pub marked_not : (byte : ℕ) (bytes : List ℕ) (next : List ℕ → Option Extent) → expect byte bytes ≡ None → marked byte bytes next ≡ None
unfolding expect
marked_not byte bytes next e = by (after_byte byte bytes) e
  where
    by : (o : Option (List ℕ)) → expected o ≡ None → option_and_then next o ≡ None
    by None f = refl
    by (Some x) f = absurd cc

length_dropped : (n : ℕ) (xs : List ℕ) → length (drop n xs) ≤ length xs
length_dropped zero xs = omega arith
length_dropped (suc n) [] = omega arith
length_dropped (suc n) (x ∷ xs) = let rest = length_dropped n xs in omega arith

pub fewer_after : (bytes : List ℕ) → length (after_word bytes) ≤ length bytes
fewer_after bytes = length_dropped (word_len bytes) bytes

module _ (program : Program) (bytes more : List ℕ) (e : Extent) where
  abbrev here : At
  here = at bytes more e

  -- where a type comes next, by how it begins
  begun : (most : ℕ) → size_of here < most → (s : Start) → s ≡ start_of program (take (word_len bytes) bytes) →
      left_at program most true here ≡
      tallied e (read_started (read_within program (most - length more - 1)) s (after_word bytes)) (behind program most more)
  begun most enough s is =
      ap (λ r. tallied e r (behind program most more))
      (type_by program (most - length more) bytes (λ none. omega (arith, enough, none))
      ∙ ap (λ s. read_started (read_within program (most - length more - 1)) s (after_word bytes)) (sym is))

  pub no_type : start.NoType ≡ start_of program (take (word_len bytes) bytes) → (most : ℕ) → size_of here < most → left_at program most true here ≡ None
  no_type is most enough = begun most enough start.NoType is

  bare_step : (t : TExpr) (f : Extent) (rest : List ℕ) → rest ≡ after_word bytes → behind_type e t ≡ f →
      ((most : ℕ) → size_of here < most → left_at program most true here ≡ tallied e (read_vectors t (after_word bytes)) (behind program most more)) →
      Steps program true here false (at rest more f)
  bare_step t f rest is found begins = record {
    same = λ most enough. begins most enough ∙ vectors_tallied e (behind program most more) t (after_word bytes)
        ∙ (λ i. vectors_then (behind program most more) (found i) (sym is i));
    within = let fewer = fewer_after bytes in let same : length rest ≡ length (after_word bytes) = ap length is in omega arith;
    less = let fewer = fewer_after bytes in let same : length rest ≡ length (after_word bytes) = ap length is in omega arith;
  }

  pub scalar_step : (h : Head) (rest : List ℕ) → rest ≡ after_word bytes → start.Scalar h ≡ start_of program (take (word_len bytes) bytes) →
      Steps program true here false (at rest more (extent_with (e.room - 1) (e.closed && true)))
  scalar_step h rest lies is = bare_step (node h []) _ rest lies (bare_extent e h) (λ most enough. begun most enough (start.Scalar h) is)

  pub variable_step : (rest : List ℕ) → rest ≡ after_word bytes → start.Variable ≡ start_of program (take (word_len bytes) bytes) →
      Steps program true here false (at rest more (extent_with (e.room - 1) (e.closed && false)))
  variable_step rest lies is = bare_step (class_var 0) _ rest lies (variable_extent e) (λ most enough. begun most enough start.Variable is)

  class_begins : (number arity : ℕ) → arity ≡ 0 → start.Class number arity ≡ start_of program (take (word_len bytes) bytes) →
      (most : ℕ) → size_of here < most → left_at program most true here ≡ tallied e (read_vectors (node (head.Class number) []) (after_word bytes)) (behind program most more)
  unfolding read_class
  class_begins number zero none is most enough = begun most enough (start.Class number 0) is
  class_begins number (suc n) none is most enough = absurd omega arith

  pub class_step : (number arity : ℕ) (rest : List ℕ) → arity ≡ 0 → rest ≡ after_word bytes → start.Class number arity ≡ start_of program (take (word_len bytes) bytes) →
      Steps program true here false (at rest more (extent_with (e.room - 1) (e.closed && true)))
  class_step number arity rest none lies is = bare_step (node (head.Class number) []) _ rest lies (bare_extent e (head.Class number)) (class_begins number arity none is)

  applied_begins : (number arity : ℕ) → (arity ≡ 0 → ⊥) → start.Class number arity ≡ start_of program (take (word_len bytes) bytes) →
      (most : ℕ) → size_of here < most →
      left_at program most true here ≡
      tallied e (and_then (expect 60 (after_word bytes)) (λ _. arguments_from (read_within program (most - length more - 1)) arity [] >>= (λ args. read_vectors (node (head.Class number) args)))) (behind program most more)
  unfolding read_class
  applied_begins number zero some is most enough = absurd (some refl)
  applied_begins number (suc n) some is most enough = begun most enough (start.Class number (suc n)) is

  pub applied_in_vain : (number arity : ℕ) (rest : List ℕ) → (arity ≡ 0 → ⊥) → rest ≡ after_word bytes → start.Class number arity ≡ start_of program (take (word_len bytes) bytes) →
      expect 60 rest ≡ None → (most : ℕ) → size_of here < most → left_at program most true here ≡ None
  applied_in_vain number arity rest some lies is none most enough =
      applied_begins number arity some is most enough
      ∙ ap (λ r. tallied e (and_then r (λ _. arguments_from (read_within program (most - length more - 1)) arity [] >>= (λ args. read_vectors (node (head.Class number) args)))) (behind program most more))
      (ap (expect 60) (sym lies) ∙ none)

  pub applied_err : (number arity : ℕ) (rest new : List ℕ) (f : Extent) (x : ReadError) → (arity ≡ 0 → ⊥) → rest ≡ after_word bytes →
      start.Class number arity ≡ start_of program (take (word_len bytes) bytes) → Reads (expect 60 rest) (Err x) new → Goes program true here (Err x) (at new more f)
  applied_err number arity rest new f error.Malformed some lies is none = applied_in_vain number arity rest some lies is none
  applied_err number arity rest new f error.Memory some lies is none = tt

  applied_same : (number arity : ℕ) (rest new : List ℕ) → (arity ≡ 0 → ⊥) → rest ≡ after_word bytes → start.Class number arity ≡ start_of program (take (word_len bytes) bytes) →
      expect 60 rest ≡ Some (tt, new) → (most : ℕ) → size_of here < most →
      left_at program most true here ≡ left_at program most true (at new ((arity - 1) ∷ more) (extent_with (e.room - 1) (e.closed && true)))
  unfolding arguments_then behind
  applied_same number zero rest new some lies is marks most enough = absurd (some refl)
  applied_same number (suc n) rest new some lies is marks most enough =
      let deeper : most - length more - 1 ≡ most - length (n ∷ more) = omega arith in
      let one : n ≡ suc n - 1 = omega arith in
      applied_begins number (suc n) some is most enough
      ∙ ap (λ r. tallied e (and_then r (λ _. arguments_from (read_within program (most - length more - 1)) (suc n) [] >>= (λ args. read_vectors (node (head.Class number) args)))) (behind program most more))
      (ap (expect 60) (sym lies) ∙ marks)
      ∙ arguments_tallied (read_within program (most - length more - 1)) (head.Class number) e (behind program most more) (suc n) [] new
      ∙ ap (λ f. arguments_then (read_within program (most - length more - 1)) (suc n) (vectors_then (behind program most more)) f new) (bare_extent e (head.Class number))
      ∙ ap (λ m. arguments_then (read_within program m) (suc n) (vectors_then (behind program most more)) (extent_with (e.room - 1) (e.closed && true)) new) deeper
      ∙ ap (λ k. left_at program most true (at new (k ∷ more) (extent_with (e.room - 1) (e.closed && true)))) one

  pub applied_step : (number arity : ℕ) (rest new : List ℕ) → (arity ≡ 0 → ⊥) → rest ≡ after_word bytes → start.Class number arity ≡ start_of program (take (word_len bytes) bytes) →
      expect 60 rest ≡ Some (tt, new) → Steps program true here true (at new ((arity - 1) ∷ more) (extent_with (e.room - 1) (e.closed && true)))
  applied_step number arity rest new some lies is marks =
      let fewer = fewer_after bytes in
      let same : length rest ≡ length (after_word bytes) = ap length lies in
      let one = fewer_marked 60 rest new marks in
      record {
        same = applied_same number arity rest new some lies is marks;
        within = omega arith;
        less = omega arith;
      }

  -- behind a type
  pub brackets_step : is_some (behind_brackets bytes) ≡ true →
      Steps program false here false (at (unwrap_or (behind_brackets bytes) bytes) more (extent_with (e.room - 1) (e.closed && true)))
  brackets_step some =
      let fewer = fewer_behind bytes some in
      record {
        same = λ most enough. brackets_go (behind program most more) e bytes some;
        within = omega arith;
        less = omega arith;
      }

module _ (program : Program) (bytes rest : List ℕ) (e : Extent) (none : is_some (behind_brackets bytes) ≡ false) (is : rest ≡ unwrap_or (behind_brackets bytes) bytes) where
  stays : rest ≡ bytes
  stays = is ∙ by (behind_brackets bytes) none
    where
      by : (o : Option (List ℕ)) → is_some o ≡ false → unwrap_or o bytes ≡ bytes
      by None f = refl
      by (Some x) f = absurd cc

  ended : (most : ℕ) (more : List ℕ) → left_at program most false (at bytes more e) ≡ behind program most more e rest
  ended most more = brackets_end (behind program most more) e bytes none ∙ ap (behind program most more e) (sym is)

  pub end_step : (b : Bool) → b ≡ (length rest == 0) → (most : ℕ) → left_at program most false (at bytes [] e) ≡ (if b then Some e else None)
  unfolding behind
  end_step b same most = ended most [] ∙ ap (λ b. if b then Some e else None) (sym same)

  pub mark_in_vain : (k : ℕ) (more : List ℕ) → expect (mark_before k) rest ≡ None → (most : ℕ) → left_at program most false (at bytes (k ∷ more) e) ≡ None
  unfolding behind
  mark_in_vain k more vain most = ended most (k ∷ more) ∙ marked_not (mark_before k) rest _ vain

  pub mark_err : (k : ℕ) (more : List ℕ) (new : At) (after : List ℕ) (x : ReadError) → Reads (expect (mark_before k) rest) (Err x) after →
      Goes program false (at bytes (k ∷ more) e) (Err x) new
  mark_err k more new after error.Malformed vain = λ most enough. mark_in_vain k more vain most
  mark_err k more new after error.Memory vain = tt

  last_same : (k : ℕ) (more new : List ℕ) → k ≡ 0 → expect (mark_before k) rest ≡ Some (tt, new) → (most : ℕ) →
      left_at program most false (at bytes (k ∷ more) e) ≡ left_at program most false (at new more e)
  unfolding behind arguments_then
  last_same zero more new last marks most = ended most (0 ∷ more) ∙ marked_is (mark_before 0) rest new _ marks
  last_same (suc k) more new last marks most = absurd omega arith

  more_same : (k : ℕ) (more new : List ℕ) → (k ≡ 0 → ⊥) → expect (mark_before k) rest ≡ Some (tt, new) → (most : ℕ) →
      left_at program most false (at bytes (k ∷ more) e) ≡ left_at program most true (at new ((k - 1) ∷ more) e)
  unfolding behind arguments_then
  more_same zero more new some marks most = absurd (some refl)
  more_same (suc k) more new some marks most =
      let one : k ≡ suc k - 1 = omega arith in
      ended most (suc k ∷ more) ∙ marked_is (mark_before (suc k)) rest new _ marks ∙ ap (λ n. left_at program most true (at new (n ∷ more) e)) one

  pub last_step : (k : ℕ) (more new : List ℕ) → k ≡ 0 → expect (mark_before k) rest ≡ Some (tt, new) → Steps program false (at bytes (k ∷ more) e) false (at new more e)
  last_step k more new last marks =
      let one = fewer_marked (mark_before k) rest new marks in
      let same : length rest ≡ length bytes = ap length stays in
      record {
        same = λ most enough. last_same k more new last marks most;
        within = omega arith;
        less = omega arith;
      }

  pub more_step : (k : ℕ) (more new : List ℕ) → (k ≡ 0 → ⊥) → expect (mark_before k) rest ≡ Some (tt, new) →
      Steps program false (at bytes (k ∷ more) e) true (at new ((k - 1) ∷ more) e)
  more_step k more new some marks =
      let one = fewer_marked (mark_before k) rest new marks in
      let same : length rest ≡ length bytes = ap length stays in
      record {
        same = λ most enough. more_same k more new some marks most;
        within = omega arith;
        less = omega arith;
      }

-- ---- the whole

-- what is still to be read gives the extent of the type
pub record Measures (program : Program) (bytes : List ℕ) (before : Bool) (s : At) : Type 0 where
  pub same : option_map extent_of (type_of program bytes) ≡ left_at program (length bytes + 1) before s
  pub within : size_of s ≤ length bytes

pub measures_first : (program : Program) (bytes : List ℕ) → Measures program bytes true (at bytes [] whole_extent)
unfolding type_of behind
measures_first program bytes = record { same = by (read_within program (length bytes + 1) bytes) refl; within = omega arith }
  where
    by_end : (t : TExpr) (b : Bool) → option_map extent_of (if b then Some t else None) ≡ (if b then Some (behind_type whole_extent t) else None)
    by_end t true = refl
    by_end t false = refl

    by : (r : Read TExpr) → read_within program (length bytes + 1) bytes ≡ r → option_map extent_of (all_read r) ≡ left_at program (length bytes + 1) true (at bytes [] whole_extent)
    by None is = let none : length bytes + 1 ≡ length bytes + 1 - 0 = omega arith in
        sym (ap (λ n. tallied whole_extent (read_within program n bytes) (behind program (length bytes + 1) [])) (sym none) ∙ ap (λ r. tallied whole_extent r (behind program (length bytes + 1) [])) is)
    by (Some p) is = let none : length bytes + 1 ≡ length bytes + 1 - 0 = omega arith in
        by_end p.0 (length p.1 == 0)
        ∙ sym (ap (λ n. tallied whole_extent (read_within program n bytes) (behind program (length bytes + 1) [])) (sym none) ∙ ap (λ r. tallied whole_extent r (behind program (length bytes + 1) [])) is)

module _ (program : Program) (bytes : List ℕ) (before : Bool) (s : At) (measures : Measures program bytes before s) where
  enough : size_of s < length bytes + 1
  enough = omega (arith, measures.within)

  pub measures_more : (after : Bool) (new : At) → Steps program before s after new → Measures program bytes after new
  measures_more after new steps = record {
    same = measures.same ∙ steps.same (length bytes + 1) enough;
    within = omega (arith, measures.within, steps.within);
  }

  pub measured_none : ((most : ℕ) → size_of s < most → left_at program most before s ≡ None) → option_map extent_of (type_of program bytes) ≡ None
  measured_none none = measures.same ∙ none (length bytes + 1) enough

  pub measured_is : (e : Extent) → ((most : ℕ) → size_of s < most → left_at program most before s ≡ Some e) → option_map extent_of (type_of program bytes) ≡ Some e
  measured_is e ends = measures.same ∙ ends (length bytes + 1) enough

pub nothing_mapped : {A B : Type 0} (f : A → B) (o : Option A) → option_map f o ≡ None → o ≡ None
nothing_mapped f None e = refl
nothing_mapped f (Some x) e = absurd cc
