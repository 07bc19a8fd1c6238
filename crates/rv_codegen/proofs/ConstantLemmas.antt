-- Constants in registers.
use Rattle.std.proofs.Common.{◌≡◌, ℕ, ◌+◌, ◌-◌, ◌*◌, ◌/◌, ◌%◌, ◌^◌, ◌<◌, ◌≤◌, Bool, true, false, ◌==◌, nat_lt, List, [], ◌∷◌, ◌++◌, length, refl, ap, ◌∙◌, subst, arith, eqb-true, ltb-true, ltb-false}
use Rattle.std.proofs.lemmas.List.{length-append}
use Rattle.store_object.specs.Store.{sign_extended}
use Rattle.cil_meaning.specs.Words.{narrow}
use Rattle.rv_isa.specs.declared.instr.Instr.{Instr}
use Rattle.rv_isa.specs.declared.instr.Instr.TheVariants.{Lui, Addiw, Slli, Addi}
use Rattle.rv_machine.specs.declared.effect.Effect.TheVariants.{Sets}
use Rattle.rv_machine.specs.Arithmetic.{extended, sum_of, sum_32_of, left_shift_of}
use Rattle.rgctx_fill.specs.ThreadStates.{ThreadData}
use Rattle.rgctx_fill.specs.Constructed.{IsSized}
use Rattle.rgctx_fill.proofs.MachineLemmas.{run_pc}
use Rattle.rv_codegen.specs.Constants.{sets_narrow, sets_wide, sets_word}
use Rattle.rv_codegen.proofs.StraightLemmas.{Set, set_by, by_if, short_up, short_down}
use Rattle.rv_codegen.proofs.ItemLemmas.{AreRows}
use Rattle.rv_codegen.proofs.CalcLemmas.{narrow_small, mod_small, set_again}

-- the low 32 bits of a number whose bit 31 is extended
low_extended : (n : ℕ) → extended 32 n % 2 ^ 32 ≡ n % 2 ^ 32
low_extended n = by_if (λ v. v % 2 ^ 32 ≡ n % 2 ^ 32) (nat_lt (n % 2 ^ 32) (2 ^ 31)) (n % 2 ^ 32) (n % 2 ^ 32 + (2 ^ 64 - 2 ^ 32)) (λ t. omega arith) (λ t. omega arith)

-- the two parts of 32 bits make them up
parts : (bits : ℕ) → bits < 2 ^ 32 → (extended 32 (4096 * ((bits + 2048) / 4096 % 1048576)) + extended 12 (bits % 4096)) % 2 ^ 32 ≡ bits
parts bits small = by_test (nat_lt (bits % 4096) 2048) refl
  where
    upper : (m v : ℕ) → m < 2 ^ 32 → v % 2 ^ 32 ≡ m % 2 ^ 32 → v % 2 ^ 32 ≡ m
    upper m v lt e = omega arith

    by_test : (t : Bool) → nat_lt (bits % 4096) 2048 ≡ t → (extended 32 (4096 * ((bits + 2048) / 4096 % 1048576)) + extended 12 (bits % 4096)) % 2 ^ 32 ≡ bits
    by_test true e =
        let lt = ltb-true (bits % 4096) 2048 e in
        let u = low_extended (4096 * ((bits + 2048) / 4096 % 1048576)) in
        let l = short_up (bits % 4096) lt in
        ap (λ x. (extended 32 (4096 * ((bits + 2048) / 4096 % 1048576)) + x) % 2 ^ 32) l ∙ added (extended 32 (4096 * ((bits + 2048) / 4096 % 1048576))) u lt
      where
        added : (v : ℕ) → v % 2 ^ 32 ≡ 4096 * ((bits + 2048) / 4096 % 1048576) % 2 ^ 32 → bits % 4096 < 2048 → (v + bits % 4096) % 2 ^ 32 ≡ bits
        added v u lt = omega arith
    by_test false e =
        let le = ltb-false (bits % 4096) 2048 e in
        let u = low_extended (4096 * ((bits + 2048) / 4096 % 1048576)) in
        let l = short_down (bits % 4096) le (omega arith) in
        ap (λ x. (extended 32 (4096 * ((bits + 2048) / 4096 % 1048576)) + x) % 2 ^ 32) l ∙ added (extended 32 (4096 * ((bits + 2048) / 4096 % 1048576))) u le
      where
        added : (v : ℕ) → v % 2 ^ 32 ≡ 4096 * ((bits + 2048) / 4096 % 1048576) % 2 ^ 32 → 2048 ≤ bits % 4096 → (v + (bits % 4096 + (2 ^ 64 - 4096))) % 2 ^ 32 ≡ bits
        added v u le = omega arith

module _ (u : ThreadData) (z : IsSized u) (rd : ℕ) (set : (rd == 0) ≡ false) (lt : rd < 32) where
  pub narrow_set : (bits : ℕ) → bits < 2 ^ 32 → u.core.pc + 8 < 2 ^ 64 → Set u (sets_narrow rd bits) rd (sign_extended bits)
  narrow_set bits small room =
      then_low (set_by u z (omega arith) (Lui rd ((bits + 2048) / 4096 % 1048576)) rd (extended 32 (4096 * ((bits + 2048) / 4096 % 1048576))) refl set lt (narrow_small (4096 * ((bits + 2048) / 4096 % 1048576))))
    where
      then_low : Set u (Lui rd ((bits + 2048) / 4096 % 1048576) ∷ []) rd (extended 32 (4096 * ((bits + 2048) / 4096 % 1048576))) → Set u (sets_narrow rd bits) rd (sign_extended bits)
      then_low x =
          let pc = run_pc x.run in
          let e : sign_extended ((extended 32 (4096 * ((bits + 2048) / 4096 % 1048576)) + extended 12 (bits % 4096)) % 2 ^ 32) ≡ sign_extended bits = ap sign_extended (parts bits small) in
          set_again x (set_by x.t x.sized (omega arith) (Addiw rd rd (bits % 4096)) rd (sign_extended bits)
          (ap (λ v. Sets rd (sum_32_of v (extended 12 (bits % 4096)))) x.value ∙ ap (Sets rd) e) set lt
          (subst (λ v. v < 2 ^ 64) e (narrow_small (extended 32 (4096 * ((bits + 2048) / 4096 % 1048576)) + extended 12 (bits % 4096)))))

pub narrow_rows : (rd bits : ℕ) → rd < 32 → AreRows (sets_narrow rd bits)
narrow_rows rd bits lt = ((omega arith, lt), ((omega arith, lt, lt), tt))

-- 32 bits, 11, 11 and 10 more make up a word
wide_value : (v h a b d : ℕ) → v % 2 ^ 32 ≡ h → h < 2 ^ 32 → a < 2048 → b < 2048 → d < 1024 →
    (((((v * 2048 % 2 ^ 64 + a) % 2 ^ 64) * 2048 % 2 ^ 64 + b) % 2 ^ 64) * 1024 % 2 ^ 64 + d) % 2 ^ 64 ≡ h * 2 ^ 32 + a * 2 ^ 21 + b * 2 ^ 10 + d
wide_value v h a b d e lh la lb ld = omega arith

sign_low : (h : ℕ) → h < 2 ^ 32 → sign_extended h % 2 ^ 32 ≡ h
sign_low h small = by_if (λ v. v % 2 ^ 32 ≡ h) (nat_lt h (2 ^ 31)) h (h + (2 ^ 64 - 2 ^ 32)) (λ t. omega arith) (λ t. omega arith)

module _ (u : ThreadData) (z : IsSized u) (rd : ℕ) (set : (rd == 0) ≡ false) (lt : rd < 32) where
  -- eleven or ten bits more, from below
  more_bits : {is : List Instr} {v : ℕ} (count d : ℕ) → count < 64 → d < 2048 → Set u is rd v → u.core.pc + (4 * length is + 8) < 2 ^ 64 →
      Set u (is ++ Slli rd rd count ∷ [] ++ Addi rd rd d ∷ []) rd ((left_shift_of v count + d) % 2 ^ 64)
  more_bits {is = is} {v = v} count d lc ld x room =
      let pc = run_pc x.run in
      then_add (set_again x (set_by x.t x.sized (omega arith) (Slli rd rd count) rd (left_shift_of v count) (ap (λ y. Sets rd (left_shift_of y count)) x.value) set lt (mod_small (v * 2 ^ (count % 64)))))
    where
      then_add : Set u (is ++ Slli rd rd count ∷ []) rd (left_shift_of v count) → Set u (is ++ Slli rd rd count ∷ [] ++ Addi rd rd d ∷ []) rd ((left_shift_of v count + d) % 2 ^ 64)
      then_add y =
          let pc = run_pc y.run in
          let long = length-append is (Slli rd rd count ∷ []) in
          set_again y (set_by y.t y.sized (omega arith) (Addi rd rd d) rd ((left_shift_of v count + d) % 2 ^ 64)
          (ap (λ a. Sets rd (sum_of a (extended 12 d))) y.value ∙ ap (λ n. Sets rd (sum_of (left_shift_of v count) n)) (short_up d ld)) set lt (mod_small (left_shift_of v count + d)))

  pub wide_set : (word : ℕ) → word < 2 ^ 64 → u.core.pc + 32 < 2 ^ 64 → Set u (sets_wide rd word) rd word
  wide_set word small room =
      subst (Set u (sets_wide rd word) rd) e
      (more_bits 10 (word % 1024) (omega arith) (omega arith)
      (more_bits 11 (word / 2 ^ 10 % 2048) (omega arith) (omega arith)
      (more_bits 11 (word / 2 ^ 21 % 2048) (omega arith) (omega arith)
      (narrow_set u z rd set lt (word / 2 ^ 32) (omega arith) (omega arith)) (omega arith)) (omega arith)) (omega arith))
    where
      e : (left_shift_of ((left_shift_of ((left_shift_of (sign_extended (word / 2 ^ 32)) 11 + word / 2 ^ 21 % 2048) % 2 ^ 64) 11 + word / 2 ^ 10 % 2048) % 2 ^ 64) 10 + word % 1024) % 2 ^ 64 ≡ word
      e = wide_value (sign_extended (word / 2 ^ 32)) (word / 2 ^ 32) (word / 2 ^ 21 % 2048) (word / 2 ^ 10 % 2048) (word % 1024) (sign_low (word / 2 ^ 32) (omega arith)) (omega arith) (omega arith) (omega arith) (omega arith) ∙ omega arith

  -- a constant is in the register
  pub word_set : (word : ℕ) → word < 2 ^ 64 → u.core.pc + 32 < 2 ^ 64 → Set u (sets_word rd word) rd word
  word_set word small room =
      by_if (λ is. Set u is rd word) (narrow word == word) (sets_narrow rd (word % 2 ^ 32)) (sets_wide rd word)
      (λ t. subst (Set u (sets_narrow rd (word % 2 ^ 32)) rd) (eqb-true (narrow word) word t) (narrow_set u z rd set lt (word % 2 ^ 32) (omega arith) (omega arith)))
      (λ t. wide_set word small room)

pub word_rows : (rd word : ℕ) → rd < 32 → word < 2 ^ 64 → AreRows (sets_word rd word)
word_rows rd word lt small =
    by_if AreRows (narrow word == word) (sets_narrow rd (word % 2 ^ 32)) (sets_wide rd word)
    (λ t. narrow_rows rd (word % 2 ^ 32) lt)
    (λ t. ((omega arith, lt), ((omega arith, lt, lt), ((omega arith, lt, lt), ((omega arith, lt, lt), ((omega arith, lt, lt), ((omega arith, lt, lt), ((omega arith, lt, lt), ((omega arith, lt, lt), tt)))))))))

pub word_few : (rd word : ℕ) → length (sets_word rd word) ≤ 8
word_few rd word = by_if (λ is. length is ≤ 8) (narrow word == word) (sets_narrow rd (word % 2 ^ 32)) (sets_wide rd word) (λ t. omega arith) (λ t. omega arith)
