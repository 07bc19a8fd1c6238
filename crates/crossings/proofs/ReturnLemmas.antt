-- One frame at most begins at an address.
use Rattle.std.proofs.Common.{◌≡◌, ℕ, suc, ◌+◌, ◌<◌, ◌≤◌, length, inl, inr, arith, sym, ◌∙◌}
use Rattle.std.proofs.lemmas.Bool.Decides.{leb_tells}
use Rattle.rgctx_words.specs.Frames.{frame_address, header_count}
use Rattle.rgctx_words.specs.Stacks.{StackWords, base_of, IsStack}
use Rattle.crossings.specs.Returns.{IsCaller, HasCaller, current_level, current_word}
use Rattle.rgctx_words.specs.Frames.{caller_word}

pub same_level : (s : StackWords) → IsStack s → (l m : ℕ) → l < length s.bases → m < length s.bases → frame_address (base_of s l) ≡ frame_address (base_of s m) → l ≡ m
same_level s shape l m l_in m_in same =
    elim (leb_tells (suc l) m) as (λ _. l ≡ m) [
      | inl lower ↦ (
          let less : l < m = lower.1 in
          let rises : base_of s l + header_count ≤ base_of s m = shape.rising l m less m_in in
          absurd (omega arith))
      | inr other ↦ elim (leb_tells (suc m) l) as (λ _. l ≡ m) [
        | inl higher ↦ (
            let less : m < l = higher.1 in
            let rises : base_of s m + header_count ≤ base_of s l = shape.rising m l less l_in in
            absurd (omega arith))
        | inr neither ↦ (let a : m < suc l = other.1 in let b : l < suc m = neither.1 in omega arith)
      ]
    ]

-- a frame at the address that the current one names is its caller where it stands below
pub has_caller-at : (s : StackWords) (level : ℕ) → 1 < length s.bases → level < current_level s → frame_address (base_of s level) ≡ current_word s caller_word → HasCaller s
has_caller-at s level more below is = record { frames = omega arith; caller = λ _. (level, record { below = below; is = is }) }

pub caller_below : (s : StackWords) → IsStack s → (level : ℕ) → 1 < length s.bases → level < length s.bases → frame_address (base_of s level) ≡ current_word s caller_word → HasCaller s → level < current_level s
caller_below s shape level more inside is has =
    let h : (l : ℕ) × IsCaller s l = has.caller more in
    let below : h.0 < current_level s = h.1.below in
    let same : level ≡ h.0 = same_level s shape level h.0 inside (omega arith) (is ∙ sym h.1.is) in
    omega arith
