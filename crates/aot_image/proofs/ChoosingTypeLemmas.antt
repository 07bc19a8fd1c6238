-- Reading types, by cases on what stands there.
use Rattle.std.proofs.Common.{◌≡◌, ◌∙◌, ℕ, zero, suc, ◌-◌, ◌<◌, Bool, true, false, List, [], ◌∷◌, length, take, drop, Option, Some, None, is_some, Result, Ok, Err, IsErr, IsErrAnd, refl, sym, ap, subst, arith}
use Rattle.std.specs.Prelude.{◌==◌, ◌&&◌, if◌then◌else◌, option_map, option_and_then, unwrap_or}
use Rattle.il_text.specs.Spelling.{after_byte, is_led_by}
use Rattle.type_tree.specs.declared.tree.TExpr.{TExpr}
use Rattle.type_tree.specs.declared.tree.Head.{Head}
use Rattle.type_tree.specs.declared.tree.Head.TheVariants as head
use Rattle.type_tree.specs.Tree.{node, class_var}
use Rattle.il_model.specs.declared.program.Program.{Program}
use Rattle.aot_image.specs.declared.choice_start.Start.TheVariants as start
use Rattle.aot_image.specs.ChoosingTypes.{Reader, ◌>>=◌, and_then, expect, expected, arguments_from, start_of, word_len, behind_brackets, read_vectors, read_class, read_started, read_within}

-- an error that is handed on
pub handed_on : {T E : Type 0} (r : Result T E) (x : E) → IsErr r × IsErrAnd r (λ e. e ≡ x) → r ≡ Err x
handed_on (Ok v) x h = absurd h.1
handed_on (Err e) x h = ap Err h.1

-- this byte stands here, or another
pub expects : (byte : ℕ) (bytes rest : List ℕ) → Some rest ≡ after_byte byte bytes → expect byte bytes ≡ Some (tt, rest)
unfolding expect
expects byte bytes rest is = ap expected (sym is)

pub expects_in_vain : (byte : ℕ) (bytes : List ℕ) → None ≡ after_byte byte bytes → expect byte bytes ≡ None
unfolding expect
expects_in_vain byte bytes is = ap expected (sym is)

led_at : (first : ℕ) (test : List ℕ → Bool) (b : Bool) (bs : List ℕ) (r : Option (List ℕ)) → r ≡ (if b then Some bs else None) →
    (b && test bs) ≡ unwrap_or (option_map test r) false
led_at first test true bs r e = rw e refl
led_at first test false bs r e = rw e refl

led_is : (first : ℕ) (test : List ℕ → Bool) (bytes : List ℕ) → is_led_by first test bytes ≡ unwrap_or (option_map test (after_byte first bytes)) false
led_is first test [] = refl
led_is first test (b ∷ bs) = led_at first test (b == first) bs (after_byte first (b ∷ bs)) refl

-- bytes that begin with this one, or don't
pub led_by : (first : ℕ) (test : List ℕ → Bool) (bytes rest : List ℕ) → Some rest ≡ after_byte first bytes → is_led_by first test bytes ≡ test rest
led_by first test bytes rest is = led_is first test bytes ∙ ap (λ o. unwrap_or (option_map test o) false) (sym is)

pub not_led_by : (first : ℕ) (test : List ℕ → Bool) (bytes : List ℕ) → None ≡ after_byte first bytes → is_led_by first test bytes ≡ false
not_led_by first test bytes is = led_is first test bytes ∙ ap (λ o. unwrap_or (option_map test o) false) (sym is)

-- ---- vectors

-- two bytes at the front are `[]`, or aren't
pub brackets_are : (a b : ℕ) (rest : List ℕ) → behind_brackets (a ∷ b ∷ rest) ≡ (if (a == 91) && (b == 93) then Some rest else None)
brackets_are a b rest = by (a == 91) (b == 93)
  where
    by : (p q : Bool) → option_and_then (after_byte 93) (if p then Some (b ∷ rest) else None) ≡ (if p && (b == 93) then Some rest else None)
    by true q = refl
    by false q = refl

no_brackets : (a : ℕ) → behind_brackets (a ∷ []) ≡ None
no_brackets a = by (a == 91)
  where
    by : (p : Bool) → option_and_then (after_byte 93) (if p then Some [] else None) ≡ None
    by true = refl
    by false = refl

-- a type before `[]`
pub vectors_go : (t : TExpr) (bytes : List ℕ) → is_some (behind_brackets bytes) ≡ true →
    read_vectors t bytes ≡ read_vectors (node head.Vector (t ∷ [])) (unwrap_or (behind_brackets bytes) bytes)
unfolding read_vectors
vectors_go t [] some = absurd cc
vectors_go t (a ∷ []) some = absurd (by (a == 91) some)
  where
    by : (p : Bool) → is_some (option_and_then (after_byte 93) (if p then Some [] else None)) ≡ true → ⊥
    by true e = absurd cc
    by false e = absurd cc
vectors_go t (a ∷ b ∷ rest) some =
    by ((a == 91) && (b == 93)) (sym (ap is_some (brackets_are a b rest)) ∙ some)
    ∙ ap (λ o. read_vectors (node head.Vector (t ∷ [])) (unwrap_or o (a ∷ b ∷ rest))) (sym (brackets_are a b rest))
  where
    by : (p : Bool) → is_some (if p then Some rest else None) ≡ true →
        (if p then read_vectors (node head.Vector (t ∷ [])) rest else Some (t, a ∷ b ∷ rest)) ≡
        read_vectors (node head.Vector (t ∷ [])) (unwrap_or (if p then Some rest else None) (a ∷ b ∷ rest))
    by true e = refl
    by false e = absurd cc

-- a type before anything else
pub vectors_end : (t : TExpr) (bytes : List ℕ) → is_some (behind_brackets bytes) ≡ false →
    read_vectors t bytes ≡ Some (t, unwrap_or (behind_brackets bytes) bytes)
unfolding read_vectors
vectors_end t [] none = refl
vectors_end t (a ∷ []) none = ap (λ o. Some (t, unwrap_or o (a ∷ []))) (sym (no_brackets a))
vectors_end t (a ∷ b ∷ rest) none =
    by ((a == 91) && (b == 93)) (sym (ap is_some (brackets_are a b rest)) ∙ none)
    ∙ ap (λ o. Some (t, unwrap_or o (a ∷ b ∷ rest))) (sym (brackets_are a b rest))
  where
    by : (p : Bool) → is_some (if p then Some rest else None) ≡ false →
        (if p then read_vectors (node head.Vector (t ∷ [])) rest else Some (t, a ∷ b ∷ rest)) ≡
        Some (t, unwrap_or (if p then Some rest else None) (a ∷ b ∷ rest))
    by true e = absurd cc
    by false e = refl

-- there are fewer bytes behind `[]`
pub fewer_behind : (bytes : List ℕ) → is_some (behind_brackets bytes) ≡ true → length (unwrap_or (behind_brackets bytes) bytes) < length bytes
fewer_behind [] some = absurd cc
fewer_behind (a ∷ []) some = absurd (by (a == 91) some)
  where
    by : (p : Bool) → is_some (option_and_then (after_byte 93) (if p then Some [] else None)) ≡ true → ⊥
    by true e = absurd cc
    by false e = absurd cc
fewer_behind (a ∷ b ∷ rest) some =
    subst (λ o. length (unwrap_or o (a ∷ b ∷ rest)) < length (a ∷ b ∷ rest)) (sym (brackets_are a b rest))
    (by ((a == 91) && (b == 93)) (sym (ap is_some (brackets_are a b rest)) ∙ some))
  where
    by : (p : Bool) → is_some (if p then Some rest else None) ≡ true → length (unwrap_or (if p then Some rest else None) (a ∷ b ∷ rest)) < length (a ∷ b ∷ rest)
    by true e = omega arith
    by false e = absurd cc

-- ---- types

module _ (program : Program) where
  pub type_flat : (n : ℕ) (bytes : List ℕ) → n ≡ 0 → read_within program n bytes ≡ None
  unfolding read_within
  type_flat zero bytes e = refl
  type_flat (suc n) bytes e = absurd omega arith

  -- a type by how it begins
  pub type_by : (n : ℕ) (bytes : List ℕ) → (n ≡ 0 → ⊥) →
      read_within program n bytes ≡ read_started (read_within program (n - 1)) (start_of program (take (word_len bytes) bytes)) (drop (word_len bytes) bytes)
  unfolding read_within
  type_by zero bytes deep = absurd (deep refl)
  type_by (suc n) bytes deep =
      let less : n ≡ suc n - 1 = omega arith in
      ap (λ m. read_started (read_within program m) (start_of program (take (word_len bytes) bytes)) (drop (word_len bytes) bytes)) less

  pub type_none : (n : ℕ) (bytes : List ℕ) → (n ≡ 0 → ⊥) → start.NoType ≡ start_of program (take (word_len bytes) bytes) → read_within program n bytes ≡ None
  type_none n bytes deep is =
      type_by n bytes deep ∙ ap (λ s. read_started (read_within program (n - 1)) s (drop (word_len bytes) bytes)) (sym is)

  pub type_scalar : (n : ℕ) (h : Head) (bytes : List ℕ) → (n ≡ 0 → ⊥) → start.Scalar h ≡ start_of program (take (word_len bytes) bytes) →
      read_within program n bytes ≡ read_vectors (node h []) (drop (word_len bytes) bytes)
  type_scalar n h bytes deep is =
      type_by n bytes deep ∙ ap (λ s. read_started (read_within program (n - 1)) s (drop (word_len bytes) bytes)) (sym is)

  pub type_variable : (n : ℕ) (bytes : List ℕ) → (n ≡ 0 → ⊥) → start.Variable ≡ start_of program (take (word_len bytes) bytes) →
      read_within program n bytes ≡ read_vectors (class_var 0) (drop (word_len bytes) bytes)
  type_variable n bytes deep is =
      type_by n bytes deep ∙ ap (λ s. read_started (read_within program (n - 1)) s (drop (word_len bytes) bytes)) (sym is)

  pub type_class : (n number arity : ℕ) (bytes : List ℕ) → (n ≡ 0 → ⊥) → start.Class number arity ≡ start_of program (take (word_len bytes) bytes) →
      read_within program n bytes ≡ read_class (read_within program (n - 1)) number arity (drop (word_len bytes) bytes)
  type_class n number arity bytes deep is =
      type_by n bytes deep ∙ ap (λ s. read_started (read_within program (n - 1)) s (drop (word_len bytes) bytes)) (sym is)

-- ---- what follows the name of a class

module _ (r : Reader TExpr) where
  pub class_bare : (number arity : ℕ) (bytes : List ℕ) → arity ≡ 0 → read_class r number arity bytes ≡ read_vectors (node (head.Class number) []) bytes
  unfolding read_class
  class_bare number zero bytes e = refl
  class_bare number (suc n) bytes e = absurd omega arith

  pub class_applied : (number arity : ℕ) (bytes : List ℕ) → (arity ≡ 0 → ⊥) →
      read_class r number arity bytes ≡ and_then (expect 60 bytes) (λ _. arguments_from r arity [] >>= (λ args. read_vectors (node (head.Class number) args)))
  unfolding read_class
  class_applied number zero bytes some = absurd (some refl)
  class_applied number (suc n) bytes some = refl
