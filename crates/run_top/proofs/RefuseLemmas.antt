-- Lemmas on the answers of a command that has no run.
use Rattle.std.proofs.Common.{◌≡◌, ℕ, List, Option, Some, None, inl, inr, sym, subst}
use Rattle.std.specs.Prelude.{◌⊎◌, IfNone}
use Rattle.std.specs.Io.KnownBytes.{Appends}
use Rattle.mn_outside.specs.Causes.{Held, AppendsPrefix, AppendsTwo}
use Rattle.run_top.specs.Headline.{Gives, IsUncut}
use Rattle.run_top.specs.Written.{Answers, no_memory_line}

if_none : {T : Type 0} (o : Option T) (P : Type 0) → P → IfNone o P
if_none None P p = p
if_none (Some x) P p = tt

module _ (words : List (List ℕ)) (held : Option Held) (faults_before faults_now : List ℕ → ℕ) (status : ℕ) (bytes : List ℕ)
    (gives : Gives words held faults_before faults_now status bytes)
    (before now : Option (List ℕ)) (sink_before sink_now answered : ℕ)
    (answers : Answers before now sink_before sink_now bytes status answered) where
  either_cause : {T : Type 0} (kept : Option T) → (answered ≡ status) ⊎ ((answered ≡ 9) ⊎ (answered ≡ 10)) → IsUncut answered
      → IfNone kept ((line : List ℕ) × Gives words held faults_before faults_now answered line × Appends before now line)
  either_cause kept (inl same) uncut =
      if_none kept _ (bytes, subst (λ s. Gives words held faults_before faults_now s bytes) (sym same) gives, answers.all same)
  either_cause kept (inr (inl nine)) uncut = absurd (uncut.put nine)
  either_cause kept (inr (inr ten)) uncut = absurd (uncut.room ten)

  module _ {T : Type 0} (kept : Option T) where
    pub refused_cause : IsUncut answered → IfNone kept ((line : List ℕ) × Gives words held faults_before faults_now answered line × Appends before now line)
    refused_cause uncut = either_cause kept answers.either uncut

    pub refused_front : answered ≡ 9
        → IfNone kept ((s : ℕ) × (line : List ℕ) × Gives words held faults_before faults_now s line × AppendsPrefix before now line)
    refused_front nine = if_none kept _ (status, bytes, gives, answers.front nine)

    pub refused_short : answered ≡ 10
        → IfNone kept (AppendsPrefix before now no_memory_line
        ⊎ ((s : ℕ) × (line : List ℕ) × Gives words held faults_before faults_now s line × AppendsTwo before now line no_memory_line))
    refused_short ten = if_none kept _ (inr (status, bytes, gives, answers.short ten))
