-- Arithmetic and comparisons on registers, as the words that the process says.
use Rattle.std.proofs.Common.{◌≡◌, ◌≢◌, ℕ, zero, suc, ◌+◌, ◌-◌, ◌*◌, ◌/◌, ◌%◌, ◌^◌, ◌<◌, ◌≤◌, Bool, true, false, not, ◌==◌, cond, nat_lt, int_lt, List, [], ◌∷◌, ◌++◌, bit_and, bit_or, bit_xor, refl, sym, ap, ap₂, ◌∙◌, subst, arith, eqb-true, eq-eqb, ltb-true, ltb-false}
use Rattle.std.proofs.lemmas.Bool.Decides.{nat_tests}
use Rattle.std.proofs.lemmas.Nat.{and_le_l, or_lt, xor_lt, shr_le, xor_block, pow_pos}
use Rattle.std.proofs.Math.Nat.{pow-suc}
use Rattle.cil_meaning.specs.Words.{int32_word, narrow, low_32, signed}
use Rattle.cil_meaning.specs.Groups.{Wrapping, Sum, Difference, Product, Conjunction, Disjunction, Exclusive, Leftwards, Rightwards, Unary, Negative, Complement, Comparison, Equal, Unequal, Less, LessOrEqual, Greater, GreaterOrEqual}
use Rattle.cil_meaning.specs.Arithmetic.{Width, Narrow, Wide, wrapping_of, turned, shifted_by, is_below, holds, bit_of}
use Rattle.rv_isa.specs.declared.instr.Instr.{Instr}
use Rattle.rv_isa.specs.declared.instr.Instr.TheVariants as rv
use Rattle.rv_machine.specs.declared.effect.Effect.TheVariants.{Sets}
use Rattle.rv_machine.specs.Arithmetic.{extended, difference_of, signed_less_of, less_of}
use Rattle.rv_machine.specs.Registers.{register_of}
use Rattle.rv_machine.specs.Effect.{effect_of}
use Rattle.rgctx_fill.specs.ThreadStates.{ThreadData}
use Rattle.rgctx_fill.specs.Constructed.{IsSized}
use Rattle.rgctx_fill.proofs.MachineLemmas.{run_then, run_pc}
use Rattle.rv_codegen.specs.PlainItems.{wrapping_instr, shift_instr, unary_instr, below_instr, turned_over, comparison_instrs}
use Rattle.std.specs.Int.{w32, w64, cast_signed, cast_unsigned, int_shr}
use Rattle.rv_codegen.proofs.CastLemmas.{same_number, narrow_shift, narrow_shift_small, wide_shift_small}
use Rattle.rv_codegen.proofs.StraightLemmas.{Set, set_by, by_if, small_mod}

abbrev pub is_narrow : Width → Bool
is_narrow Narrow = true
is_narrow Wide = false

pub narrow_small : (n : ℕ) → narrow n < 2 ^ 64
narrow_small n = by_if (λ v. v < 2 ^ 64) (nat_lt (n % 2 ^ 32) (2 ^ 31)) (n % 2 ^ 32) (n % 2 ^ 32 + (2 ^ 64 - 2 ^ 32)) (λ t. omega arith) (λ t. omega arith)

pub mod_small : (n : ℕ) → n % 2 ^ 64 < 2 ^ 64
mod_small n = omega arith

pub bit_small : (b : Bool) → bit_of b < 2 ^ 64
bit_small true = omega arith
bit_small false = omega arith

-- the same register is set once more
pub set_again : {s : ThreadData} {a b : List Instr} {rd v w : ℕ} (x : Set s a rd v) → Set x.t b rd w → Set s (a ++ b) rd w
set_again x y = record {
  t = y.t;
  run = run_then x.run y.run;
  value = y.value;
  others = λ r ne ne7. y.others r ne ne7 ∙ x.others r ne ne7;
  stack = y.stack ∙ x.stack;
  sized = y.sized;
}

module _ (u : ThreadData) (z : IsSized u) (a b : ℕ) (five : register_of u.core 5 ≡ a) (six : register_of u.core 6 ≡ b) where
  -- an operation on both operands
  two : (room : u.core.pc + 4 < 2 ^ 64) (i : Instr) (r : ℕ → ℕ → ℕ) → effect_of i u.core ≡ Sets 5 (r (register_of u.core 5) (register_of u.core 6)) → r a b < 2 ^ 64 → Set u (i ∷ []) 5 (r a b)
  two room i r e small = set_by u z room i 5 (r a b) (e ∙ ap₂ (λ x y. Sets 5 (r x y)) five six) refl (omega arith) small

  sums : (width : Width) → u.core.pc + 4 < 2 ^ 64 → Set u (wrapping_instr Sum (is_narrow width) ∷ []) 5 (wrapping_of Sum width a b)
  sums Narrow room = two room (rv.Addw 5 5 6) (λ x y. narrow (x + y)) refl (narrow_small (a + b))
  sums Wide room = two room (rv.Add 5 5 6) (λ x y. (x + y) % 2 ^ 64) refl (mod_small (a + b))

  differences : (width : Width) → u.core.pc + 4 < 2 ^ 64 → Set u (wrapping_instr Difference (is_narrow width) ∷ []) 5 (wrapping_of Difference width a b)
  differences Narrow room = two room (rv.Subw 5 5 6) (λ x y. narrow (x + (2 ^ 64 - y))) refl (narrow_small (a + (2 ^ 64 - b)))
  differences Wide room = two room (rv.Sub 5 5 6) (λ x y. (x + (2 ^ 64 - y)) % 2 ^ 64) refl (mod_small (a + (2 ^ 64 - b)))

  products : (width : Width) → u.core.pc + 4 < 2 ^ 64 → Set u (wrapping_instr Product (is_narrow width) ∷ []) 5 (wrapping_of Product width a b)
  products Narrow room = two room (rv.Mulw 5 5 6) (λ x y. narrow (x * y)) refl (narrow_small (a * b))
  products Wide room = two room (rv.Mul 5 5 6) (λ x y. x * y % 2 ^ 64) refl (mod_small (a * b))

  small_a : a < 2 ^ 64
  small_a = subst (λ n. n < 2 ^ 64) five (z.register 5)

  small_b : b < 2 ^ 64
  small_b = subst (λ n. n < 2 ^ 64) six (z.register 6)

  conjunctions : (width : Width) → u.core.pc + 4 < 2 ^ 64 → Set u (wrapping_instr Conjunction (is_narrow width) ∷ []) 5 (wrapping_of Conjunction width a b)
  conjunctions Narrow room = two room (rv.And 5 5 6) bit_and refl (let h = and_le_l a b in let k = small_a in omega arith)
  conjunctions Wide room = two room (rv.And 5 5 6) bit_and refl (let h = and_le_l a b in let k = small_a in omega arith)

  disjunctions : (width : Width) → u.core.pc + 4 < 2 ^ 64 → Set u (wrapping_instr Disjunction (is_narrow width) ∷ []) 5 (wrapping_of Disjunction width a b)
  disjunctions Narrow room = two room (rv.Or 5 5 6) bit_or refl (or_lt 64 a b small_a small_b)
  disjunctions Wide room = two room (rv.Or 5 5 6) bit_or refl (or_lt 64 a b small_a small_b)

  exclusives : (width : Width) → u.core.pc + 4 < 2 ^ 64 → Set u (wrapping_instr Exclusive (is_narrow width) ∷ []) 5 (wrapping_of Exclusive width a b)
  exclusives Narrow room = two room (rv.Xor 5 5 6) bit_xor refl (xor_lt 64 a b small_a small_b)
  exclusives Wide room = two room (rv.Xor 5 5 6) bit_xor refl (xor_lt 64 a b small_a small_b)

  -- what arithmetic that wraps gives
  pub wraps : (form : Wrapping) (width : Width) → u.core.pc + 4 < 2 ^ 64 → Set u (wrapping_instr form (is_narrow width) ∷ []) 5 (wrapping_of form width a b)
  wraps Sum width room = sums width room
  wraps Difference width room = differences width room
  wraps Product width room = products width room
  wraps Conjunction width room = conjunctions width room
  wraps Disjunction width room = disjunctions width room
  wraps Exclusive width room = exclusives width room

  -- Comparisons ------------------------------------------------------------

  as_bit : (t : Bool) → cond t 1 0 ≡ bit_of t
  as_bit true = refl
  as_bit false = refl

  pub is_less : (is_signed : Bool) → u.core.pc + 4 < 2 ^ 64 → Set u (below_instr is_signed 5 6 ∷ []) 5 (bit_of (is_below is_signed a b))
  is_less true room = subst (Set u (rv.Slt 5 5 6 ∷ []) 5) (as_bit (int_lt (signed a) (signed b))) (two room (rv.Slt 5 5 6) signed_less_of refl (let e = as_bit (int_lt (signed a) (signed b)) in subst (λ n. n < 2 ^ 64) (sym e) (bit_small (int_lt (signed a) (signed b)))))
  is_less false room = subst (Set u (rv.Sltu 5 5 6 ∷ []) 5) (as_bit (nat_lt a b)) (two room (rv.Sltu 5 5 6) less_of refl (let e = as_bit (nat_lt a b) in subst (λ n. n < 2 ^ 64) (sym e) (bit_small (nat_lt a b))))

  pub is_greater : (is_signed : Bool) → u.core.pc + 4 < 2 ^ 64 → Set u (below_instr is_signed 6 5 ∷ []) 5 (bit_of (is_below is_signed b a))
  is_greater true room = subst (Set u (rv.Slt 5 6 5 ∷ []) 5) (as_bit (int_lt (signed b) (signed a))) (two room (rv.Slt 5 6 5) (λ x y. signed_less_of y x) refl (let e = as_bit (int_lt (signed b) (signed a)) in subst (λ n. n < 2 ^ 64) (sym e) (bit_small (int_lt (signed b) (signed a)))))
  is_greater false room = subst (Set u (rv.Sltu 5 6 5 ∷ []) 5) (as_bit (nat_lt b a)) (two room (rv.Sltu 5 6 5) (λ x y. less_of y x) refl (let e = as_bit (nat_lt b a) in subst (λ n. n < 2 ^ 64) (sym e) (bit_small (nat_lt b a))))

-- a bit turned over
turns_over : (u : ThreadData) → IsSized u → (t : Bool) → register_of u.core 5 ≡ bit_of t → u.core.pc + 4 < 2 ^ 64 → Set u turned_over 5 (bit_of (not t))
turns_over u z t five room = set_by u z room (rv.Xori 5 5 1) 5 (bit_of (not t)) (ap (λ x. Sets 5 (bit_xor x (extended 12 1))) five ∙ ap (Sets 5) (flipped t)) refl (omega arith) (bit_small (not t))
  where
    flipped : (t : Bool) → bit_xor (bit_of t) (extended 12 1) ≡ bit_of (not t)
    flipped true = refl
    flipped false = refl

module _ (u : ThreadData) (z : IsSized u) (a b : ℕ) (five : register_of u.core 5 ≡ a) (six : register_of u.core 6 ≡ b) where
  then_over : {i : Instr} (t : Bool) → u.core.pc + 8 < 2 ^ 64 → Set u (i ∷ []) 5 (bit_of t) → Set u (i ∷ turned_over) 5 (bit_of (not t))
  then_over t room x = let pc = run_pc x.run in set_again x (turns_over x.t x.sized t x.value (omega arith))

  -- the difference is 0 where both are the same
  differs : ℕ
  differs = (a + (2 ^ 64 - b)) % 2 ^ 64

  pub same_is_zero : nat_lt ((a + (2 ^ 64 - b)) % 2 ^ 64) 1 ≡ (a == b)
  same_is_zero = by_test (a == b) refl
    where
      sa : a < 2 ^ 64
      sa = subst (λ n. n < 2 ^ 64) five (z.register 5)

      sb : b < 2 ^ 64
      sb = subst (λ n. n < 2 ^ 64) six (z.register 6)

      by_test : (t : Bool) → (a == b) ≡ t → nat_lt ((a + (2 ^ 64 - b)) % 2 ^ 64) 1 ≡ (a == b)
      by_test true e =
          let q = eqb-true a b e in
          let k = sa in
          let n : (a + (2 ^ 64 - b)) % 2 ^ 64 ≡ 0 = omega arith in
          ap (λ x. nat_lt x 1) n ∙ sym e
      by_test false e =
          let ne : a ≢ b = λ q. cc (eq-eqb a b q, e) in
          let k = sa in
          let l = sb in
          let n : 1 ≤ (a + (2 ^ 64 - b)) % 2 ^ 64 = positive ne k l in
          let t : nat_lt ((a + (2 ^ 64 - b)) % 2 ^ 64) 1 ≡ false = grind (arith, nat_tests) in
          t ∙ sym e
        where
          positive : a ≢ b → a < 2 ^ 64 → b < 2 ^ 64 → 1 ≤ (a + (2 ^ 64 - b)) % 2 ^ 64
          positive ne k l = omega arith

  is_equal : u.core.pc + 8 < 2 ^ 64 → Set u (comparison_instrs Equal) 5 (bit_of (a == b))
  is_equal room = then_test (set_by u z (omega arith) (rv.Sub 5 5 6) 5 ((a + (2 ^ 64 - b)) % 2 ^ 64) (ap₂ (λ x y. Sets 5 (difference_of x y)) five six) refl (omega arith) (mod_small (a + (2 ^ 64 - b))))
    where
      as_bit : (t : Bool) → cond t 1 0 ≡ bit_of t
      as_bit true = refl
      as_bit false = refl

      then_test : Set u (rv.Sub 5 5 6 ∷ []) 5 ((a + (2 ^ 64 - b)) % 2 ^ 64) → Set u (comparison_instrs Equal) 5 (bit_of (a == b))
      then_test x =
          let pc = run_pc x.run in
          set_again x (set_by x.t x.sized (omega arith) (rv.Sltiu 5 5 1) 5 (bit_of (a == b))
          (ap (λ v. Sets 5 (less_of v (extended 12 1))) x.value ∙ ap (Sets 5) (as_bit (nat_lt ((a + (2 ^ 64 - b)) % 2 ^ 64) 1) ∙ ap bit_of same_is_zero)) refl (omega arith) (bit_small (a == b)))

  is_unequal : u.core.pc + 8 < 2 ^ 64 → Set u (comparison_instrs Unequal) 5 (bit_of (not (a == b)))
  is_unequal room = then_test (set_by u z (omega arith) (rv.Sub 5 5 6) 5 ((a + (2 ^ 64 - b)) % 2 ^ 64) (ap₂ (λ x y. Sets 5 (difference_of x y)) five six) refl (omega arith) (mod_small (a + (2 ^ 64 - b))))
    where
      positive_bit : (d : ℕ) (t : Bool) → nat_lt d 1 ≡ t → less_of 0 d ≡ bit_of (not t)
      positive_bit d true e =
          let h = ltb-true d 1 e in
          let n : nat_lt 0 d ≡ false = grind (arith, nat_tests) in
          ap (λ x. cond x 1 0) n
      positive_bit d false e =
          let h = ltb-false d 1 e in
          let n : nat_lt 0 d ≡ true = grind (arith, nat_tests) in
          ap (λ x. cond x 1 0) n

      then_test : Set u (rv.Sub 5 5 6 ∷ []) 5 ((a + (2 ^ 64 - b)) % 2 ^ 64) → Set u (comparison_instrs Unequal) 5 (bit_of (not (a == b)))
      then_test x =
          let pc = run_pc x.run in
          set_again x (set_by x.t x.sized (omega arith) (rv.Sltu 5 0 5) 5 (bit_of (not (a == b)))
          (ap (λ v. Sets 5 (less_of 0 v)) x.value ∙ ap (Sets 5) (positive_bit ((a + (2 ^ 64 - b)) % 2 ^ 64) (a == b) same_is_zero)) refl (omega arith) (bit_small (not (a == b))))

  -- what a comparison says, as a word
  pub compared : (form : Comparison) → u.core.pc + 8 < 2 ^ 64 → Set u (comparison_instrs form) 5 (bit_of (holds form a b))
  compared Equal room = is_equal room
  compared Unequal room = is_unequal room
  compared (Less is_signed) room = is_less u z a b five six is_signed (omega arith)
  compared (LessOrEqual is_signed) room = then_over (is_below is_signed b a) room (is_greater u z a b five six is_signed (omega arith))
  compared (Greater is_signed) room = is_greater u z a b five six is_signed (omega arith)
  compared (GreaterOrEqual is_signed) room = then_over (is_below is_signed a b) room (is_less u z a b five six is_signed (omega arith))

-- all bits turned over
all_ones : (k n : ℕ) → n < 2 ^ k → bit_xor n (2 ^ k - 1) ≡ 2 ^ k - 1 - n
all_ones zero n small = let e : n ≡ 0 = omega arith in ap (λ m. bit_xor m 0) e ∙ sym (ap (λ m. 0 - m) e)
all_ones (suc k) n small =
    let p = pow-suc 2 k in
    let some = pow_pos k in
    let h = all_ones k (n / 2) (omega arith) in
    let block = xor_block 1 (n / 2) (2 ^ k - 1) (n % 2) 1 (omega arith) (omega arith) in
    let low = flipped (n % 2) (omega arith) in
    let first : n / 2 * 2 + n % 2 ≡ n = omega arith in
    let second : (2 ^ k - 1) * 2 + 1 ≡ 2 ^ suc k - 1 = omega arith in
    ap₂ bit_xor (sym first) (sym second) ∙ block ∙ omega arith
  where
    flipped : (m : ℕ) → m < 2 → bit_xor m 1 ≡ 1 - m
    flipped zero lt = refl
    flipped (suc zero) lt = refl
    flipped (suc (suc m)) lt = absurd (omega arith)

-- One operand ---------------------------------------------------------------

module _ (u : ThreadData) (z : IsSized u) (a : ℕ) (five : register_of u.core 5 ≡ a) (room : u.core.pc + 4 < 2 ^ 64) where
  one : (i : Instr) (r : ℕ → ℕ) → effect_of i u.core ≡ Sets 5 (r (register_of u.core 5)) → r a < 2 ^ 64 → Set u (i ∷ []) 5 (r a)
  one i r e small = set_by u z room i 5 (r a) (e ∙ ap (λ x. Sets 5 (r x)) five) refl (omega arith) small

  pub negatives : (width : Width) → Set u (unary_instr Negative (is_narrow width) ∷ []) 5 (turned Negative width a)
  negatives Narrow = one (rv.Subw 5 0 5) (λ x. narrow (2 ^ 64 - x)) (ap (λ n. Sets 5 (narrow n)) (omega arith)) (narrow_small (2 ^ 64 - a))
  negatives Wide = one (rv.Sub 5 0 5) (λ x. (2 ^ 64 - x) % 2 ^ 64) (ap (λ n. Sets 5 (n % 2 ^ 64)) (omega arith)) (mod_small (2 ^ 64 - a))

  pub narrowed : Set u (rv.Addiw 5 5 0 ∷ []) 5 (narrow a)
  narrowed = one (rv.Addiw 5 5 0) (λ x. narrow x) (ap (λ n. Sets 5 (extended 32 n)) (omega arith)) (narrow_small a)

  pub complements : (width : Width) → Set u (unary_instr Complement (is_narrow width) ∷ []) 5 (turned Complement width a)
  complements width = one (rv.Xori 5 5 4095) (λ x. 2 ^ 64 - 1 - x) (ap (Sets 5) (all_ones 64 (register_of u.core 5) (z.register 5))) (omega arith)

  -- what a unary form gives
  pub turns_to : (form : Unary) (width : Width) → Set u (unary_instr form (is_narrow width) ∷ []) 5 (turned form width a)
  turns_to Negative width = negatives width
  turns_to Complement width = complements width

module _ (u : ThreadData) (z : IsSized u) (a : ℕ) (five : register_of u.core 5 ≡ a) (room : u.core.pc + 8 < 2 ^ 64) where
  -- the low 32 bits, with zeros above
  pub low_bits : Set u (rv.Slli 5 5 32 ∷ rv.Srli 5 5 32 ∷ []) 5 (low_32 a)
  low_bits = then_right (one u z a five (omega arith) (rv.Slli 5 5 32) (λ x. x * 4294967296 % 2 ^ 64) refl (mod_small (a * 4294967296)))
    where
      then_right : Set u (rv.Slli 5 5 32 ∷ []) 5 (a * 4294967296 % 2 ^ 64) → Set u (rv.Slli 5 5 32 ∷ rv.Srli 5 5 32 ∷ []) 5 (low_32 a)
      then_right x =
          let pc = run_pc x.run in
          set_again x (set_by x.t x.sized (omega arith) (rv.Srli 5 5 32) 5 (low_32 a) (ap (λ v. Sets 5 (v / 4294967296)) x.value ∙ ap (Sets 5) (omega arith)) refl (omega arith) (omega arith))

module _ (u : ThreadData) (z : IsSized u) (a b : ℕ) (five : register_of u.core 5 ≡ a) (six : register_of u.core 6 ≡ b) (room : u.core.pc + 4 < 2 ^ 64) where
  pub lefts : (width : Width) → Set u (shift_instr Leftwards (is_narrow width) ∷ []) 5 (shifted_by Leftwards width a b)
  lefts Narrow = two u z a b five six room (rv.Sllw 5 5 6) (λ x y. narrow (x * 2 ^ (y % 32))) refl (narrow_small (a * 2 ^ (b % 32)))
  lefts Wide = two u z a b five six room (rv.Sll 5 5 6) (λ x y. x * 2 ^ (y % 64) % 2 ^ 64) refl (mod_small (a * 2 ^ (b % 64)))

  pub rights : (width : Width) → Set u (shift_instr (Rightwards false) (is_narrow width) ∷ []) 5 (shifted_by (Rightwards false) width a b)
  rights Narrow = two u z a b five six room (rv.Srlw 5 5 6) (λ x y. narrow (low_32 x / 2 ^ (y % 32))) refl (narrow_small (low_32 a / 2 ^ (b % 32)))
  rights Wide =
      let sa = small_a u z a b five six in
      let le = shr_le a (b % 64) in
      let e : a / 2 ^ (b % 64) % 2 ^ 64 ≡ a / 2 ^ (b % 64) = small_mod (a / 2 ^ (b % 64)) (omega arith) in
      subst (Set u (rv.Srl 5 5 6 ∷ []) 5) (sym e) (two u z a b five six room (rv.Srl 5 5 6) (λ x y. x / 2 ^ (y % 64)) refl (omega arith))

  pub signed_rights : (width : Width) → (width ≡ Narrow → narrow a ≡ a) → Set u (shift_instr (Rightwards true) (is_narrow width) ∷ []) 5 (shifted_by (Rightwards true) width a b)
  signed_rights Narrow is =
      let sa = small_a u z a b five six in
      let e = narrow_shift a (b % 32) sa (is refl) in
      let n = same_number a sa (is refl) in
      subst (Set u (rv.Sraw 5 5 6 ∷ []) 5) e
      (two u z a b five six room (rv.Sraw 5 5 6) (λ x y. cast_unsigned w64 (int_shr (cast_signed w32 (x % 2 ^ 32)) (y % 32))) refl
      (subst (λ v. v < 2 ^ 64) (ap (λ v. int32_word (int_shr v (b % 32))) (sym n) ∙ sym e) (narrow_shift_small a (b % 32))))
  signed_rights Wide is =
      let sa = small_a u z a b five six in
      two u z a b five six room (rv.Sra 5 5 6) (λ x y. cast_unsigned w64 (int_shr (cast_signed w64 x) (y % 64))) refl (wide_shift_small a (b % 64) sa)
