-- The frame that a return goes to.
use Rattle.std.proofs.Common.{◌≡◌, ◌≢◌, ℕ, zero, suc, ◌+◌, ◌-◌, ◌<◌, ◌≤◌, ◌==◌, Bool, true, false, List, [], ◌∷◌, length, take, Option, Some, None, if◌then◌else◌, refl, sym, ap, ◌∙◌, subst, arith, eqb-true, eq-eqb}
use Rattle.std.specs.Prelude.{nat_lt, slice_index, option_map}
use Rattle.std.proofs.lemmas.Bool.Decides.{nat_tests}
use Rattle.std.proofs.lemmas.List.{get_or-take, length-take-le}
use Rattle.rgctx_words.specs.Frames.{frame_address, caller_word, back_word}
use Rattle.rgctx_words.specs.Stacks.{StackWords, base_of, current_address, left_to}
use Rattle.crossings.specs.declared.call.Left.TheVariants.{Machine, Interp, Last}
use Rattle.crossings.specs.Returns.{IsCaller, HasCaller, current_word, left}
use Rattle.interaction.specs.declared.turn.What.TheVariants as noted
use Rattle.rgctx_template.specs.Catalogue.{CatData}
use Rattle.rgctx_fill.specs.declared.thread.Want.{Want}
use Rattle.rgctx_fill.specs.declared.thread.Want.TheVariants as answers
use Rattle.rgctx_fill.specs.declared.doing.Doing.{Doing}
use Rattle.rgctx_fill.specs.declared.doing.Doing.TheVariants.{Runs, Interprets, Finishes}
use Rattle.rgctx_fill.specs.ThreadStates.{ThreadData, Move, with_stack, now_doing}
use Rattle.rgctx_fill.specs.ThreadStates as move
use Rattle.rgctx_fill.specs.CallServices.{level_at, goes_on, returned_to, returns_to, returns}
use Rattle.rgctx_fill.specs.Moves.{Span, IsGone, IsMade}
use Rattle.mn_outside.specs.declared.machine.FaultCause.TheVariants.{Service}
use Rattle.rv_machine.specs.Registers.{register_of}
use Rattle.rt_service.specs.Refusals.{refused}
use Rattle.rt_service.specs.Resuming.{resumed}

-- the first frame that begins at an address, if one does
pub record IsFirst (bases : List ℕ) (address level : ℕ) : Type 0 where
  pub low : level < length bases
  pub is : frame_address (slice_index bases level) ≡ address
  pub first : (l : ℕ) → l < length bases → frame_address (slice_index bases l) ≡ address → level ≤ l

abbrev pub Finds : List ℕ → ℕ → Option ℕ → Type 0
Finds bases address None = (l : ℕ) → l < length bases → frame_address (slice_index bases l) ≢ address
Finds bases address (Some level) = IsFirst bases address level

behind : (base : ℕ) (bases : List ℕ) (address : ℕ) (b : Bool) → (frame_address base == address) ≡ b → (o : Option ℕ) → Finds bases address o →
    Finds (base ∷ bases) address (if b then Some 0 else option_map suc o)
behind base bases address true e o found = record { low = omega arith; is = eqb-true (frame_address base) address e; first = λ l less is. omega arith }
behind base bases address false e None found = none
  where
    none : (l : ℕ) → l < length (base ∷ bases) → frame_address (slice_index (base ∷ bases) l) ≢ address
    none zero less is = let t : (frame_address base == address) ≡ true = eq-eqb (frame_address base) address is in cc
    none (suc l) less is = found l (omega arith) is
behind base bases address false e (Some level) found = record { low = let f = found.low in omega arith; is = found.is; first = first }
  where
    first : (l : ℕ) → l < length (base ∷ bases) → frame_address (slice_index (base ∷ bases) l) ≡ address → suc level ≤ l
    first zero less is = let t : (frame_address base == address) ≡ true = eq-eqb (frame_address base) address is in cc
    first (suc l) less is = let f : level ≤ l = found.first l (omega arith) is in omega arith

pub finds : (bases : List ℕ) (address : ℕ) → Finds bases address (level_at bases address)
finds [] address = λ l less is. absurd (omega arith)
finds (base ∷ bases) address = behind base bases address (frame_address base == address) refl (level_at bases address) (finds bases address)

module _ (cat : CatData) (h : Span) (s : ThreadData) (kept : h.relisted ≡ h.listed) where
  abbrev at : ℕ
  at = current_word s.stack caller_word

  abbrev frames : ℕ
  frames = length s.stack.bases

  -- Refused --------------------------------------------------------------------

  no_level : (o : Option ℕ) → Finds s.stack.bases at o → 1 < frames → ¬ (HasCaller s.stack) → IsMade cat h s (returns_to s o) (refused s) s
  no_level None found many none = record { says = refl; state = refl; claims = kept }
  no_level (Some level) found many none = by_place (nat_lt (level + 1) frames) refl
    where
      by_place : (b : Bool) → nat_lt (level + 1) frames ≡ b → IsMade cat h s (if b then move.Goes noted.Action (returned_to s level) else move.Faults (record { pc = s.core.pc - 4; cause = Service (register_of s.core 17) })) (refused s) s
      by_place true e = absurd (none (record { frames = omega arith; caller = λ m. (level, record { below = grind (arith, nat_tests); is = found.is }) }))
      by_place false e = record { says = refl; state = refl; claims = kept }

  pub refuses_to_return : (n : ℕ) → frames ≡ n → ¬ (HasCaller s.stack) → IsMade cat h s (returns s n) (refused s) s
  refuses_to_return zero e none = record { says = refl; state = refl; claims = kept }
  refuses_to_return (suc zero) e none = absurd (none (record { frames = omega arith; caller = λ many. absurd (omega arith) }))
  refuses_to_return (suc (suc n)) e none = no_level (level_at s.stack.bases at) (finds s.stack.bases at) (omega arith) none

  -- The first frame ------------------------------------------------------------

  pub finishes_first : (n : ℕ) → frames ≡ n → n ≡ 1 → IsMade cat h s (returns s n) (answers.Did noted.Action) (now_doing s Finishes)
  finishes_first zero e one = absurd (omega arith)
  finishes_first (suc zero) e one = record { says = refl; state = refl; claims = kept }
  finishes_first (suc (suc n)) e one = absurd (omega arith)

  -- The caller's ---------------------------------------------------------------

  caller_found : (o : Option ℕ) → Finds s.stack.bases at o → (level : ℕ) → IsCaller s.stack level → (said : Want) (new : ThreadData)
      → ((l : ℕ) → IsCaller s.stack l → IsGone h noted.Action (returned_to s l) said new) → IsMade cat h s (returns_to s o) said new
  caller_found None found level is said new goes = absurd (found level (let b = is.below in omega arith) is.is)
  caller_found (Some l) found level is said new goes =
      let low : l ≤ level = found.first level (let b = is.below in omega arith) is.is in
      let b = is.below in
      let test : nat_lt (l + 1) frames ≡ true = grind (arith, nat_tests) in
      subst (λ (t : Bool). IsMade cat h s (if t then move.Goes noted.Action (returned_to s l) else returns_to s None) said new) (sym test) (goes l (record { below = omega arith; is = found.is }))

  pub returns_to_caller : (n : ℕ) → frames ≡ n → n ≢ 1 → HasCaller s.stack → (said : Want) (new : ThreadData)
      → ((l : ℕ) → IsCaller s.stack l → IsGone h noted.Action (returned_to s l) said new) → IsMade cat h s (returns s n) said new
  returns_to_caller zero e more has said new goes = let f = has.frames in absurd (omega arith)
  returns_to_caller (suc zero) e more has said new goes = absurd (more refl)
  returns_to_caller (suc (suc n)) e more has said new goes =
      let one : (level : ℕ) × IsCaller s.stack level = has.caller (omega arith) in
      caller_found (level_at s.stack.bases at) (finds s.stack.bases at) one.0 one.1 said new goes

-- Who goes on ----------------------------------------------------------------

machine_if : (one zero_back : Bool) (back own pc : ℕ) → (if one then Last else (if zero_back then Interp else Machine back)) ≡ Machine pc
    → ((if zero_back then own else back) ≡ pc) × ((if zero_back then Interprets else Runs) ≡ Runs)
machine_if true z back own pc e = cc
machine_if false true back own pc e = cc
machine_if false false back own pc e = (cc, refl)

interp_if : (one zero_back : Bool) (back own : ℕ) → (if one then Last else (if zero_back then Interp else Machine back)) ≡ Interp
    → ((if zero_back then own else back) ≡ own) × ((if zero_back then Interprets else Runs) ≡ Interprets)
interp_if true z back own e = cc
interp_if false true back own e = (refl, refl)
interp_if false false back own e = cc

last_if : (one zero_back : Bool) (back : ℕ) → (if one then Last else (if zero_back then Interp else Machine back)) ≡ Last → one ≡ true
last_if true z back e = refl
last_if false true back e = cc
last_if false false back e = cc

-- the frame of a level is the current one where those above it are gone
pub current_left : (stack : StackWords) (level : ℕ) → level < length stack.bases → current_address (left_to stack level) ≡ frame_address (base_of stack level)
current_left stack level low =
    let count : length (take (level + 1) stack.bases) ≡ level + 1 = length-take-le (level + 1) stack.bases (omega arith) in
    let some : (length (take (level + 1) stack.bases) == 0) ≡ false = grind (arith, nat_tests) in
    let last : length (take (level + 1) stack.bases) - 1 ≡ level = omega arith in
    let base : slice_index (take (level + 1) stack.bases) level ≡ slice_index stack.bases level = get_or-take (level + 1) stack.bases level 0 (omega arith) in
    ap (λ (b : Bool). if b then 0 else frame_address (slice_index (take (level + 1) stack.bases) (length (take (level + 1) stack.bases) - 1))) some
    ∙ ap (λ (i : ℕ). frame_address (slice_index (take (level + 1) stack.bases) i)) last ∙ ap frame_address base

module _ (s : ThreadData) (stack : StackWords) (level : ℕ) (is : IsCaller s.stack level) (gone : stack ≡ left_to s.stack level) where
  abbrev back : ℕ
  back = current_word s.stack back_word

  address_is : current_address stack ≡ current_word s.stack caller_word
  address_is = let b = is.below in ap current_address gone ∙ current_left s.stack level (omega arith) ∙ is.is

  resumed_at : (address pc : ℕ) (doing : Doing) → address ≡ current_word s.stack caller_word → (if back == 0 then s.core.pc else back) ≡ pc → goes_on back ≡ doing
      → resumed (with_stack s stack) address pc doing ≡ returned_to s level
  resumed_at address pc doing a p d =
      ap (λ (n : ℕ). resumed (with_stack s stack) n pc doing) a
      ∙ ap (λ (n : ℕ). resumed (with_stack s stack) (current_word s.stack caller_word) n doing) (sym p)
      ∙ ap (λ (x : Doing). resumed (with_stack s stack) (current_word s.stack caller_word) (if back == 0 then s.core.pc else back) x) (sym d)
      ∙ ap (λ (x : StackWords). resumed (with_stack s x) (current_word s.stack caller_word) (if back == 0 then s.core.pc else back) (goes_on back)) gone

  pub machine_goes : (pc : ℕ) → left s.stack ≡ Machine pc → resumed (with_stack s stack) (current_address stack) pc Runs ≡ returned_to s level
  machine_goes pc e =
      let two : ((if back == 0 then s.core.pc else back) ≡ pc) × (goes_on back ≡ Runs) = machine_if (length s.stack.bases == 1) (back == 0) back s.core.pc pc e in
      resumed_at (current_address stack) pc Runs address_is two.0 two.1

  pub interpreter_goes : left s.stack ≡ Interp → resumed (with_stack s stack) (current_address stack) s.core.pc Interprets ≡ returned_to s level
  interpreter_goes e =
      let two : ((if back == 0 then s.core.pc else back) ≡ s.core.pc) × (goes_on back ≡ Interprets) = interp_if (length s.stack.bases == 1) (back == 0) back s.core.pc e in
      resumed_at (current_address stack) s.core.pc Interprets address_is two.0 two.1
