-- Pieces of an instruction that make no request: what they give, or why they halt. Only private contracts cite it. This project's own.
use Rattle.std.specs.Prelude.{◌≡◌, Bool, if◌then◌else◌, Option, Some, None, Result, Ok, Err, ⊤}
use Rattle.unshared.specs.declared.pause.Halt.{Halt}
use Rattle.unshared.specs.declared.pause.Halt.TheVariants as halt
use Rattle.unshared.specs.declared.pause.Pause.{Pause}
use Rattle.unshared.specs.declared.pause.Pause.TheVariants as pause

abbrev pub Silent : Type 0 → Type 0
Silent A = Result A Halt

infixl 10 ◌>>=◌
abbrev pub ◌>>=◌ : {A B : Type 0} → Silent A → (A → Silent B) → Silent B
Ok a >>= next = next a
Err e >>= next = Err e

abbrev pub stuck : {A : Type 0} → Silent A
stuck = Err halt.Stuck

-- what is there, or no rule
abbrev pub there : {A : Type 0} → Option A → Silent A
there None = stuck
there (Some a) = Ok a

-- what is there, or a number that names no type yet
abbrev pub named : {A : Type 0} → Option A → Silent A
named None = Err halt.Unnamed
named (Some a) = Ok a

-- no rule but where it holds
abbrev pub where_so : {A : Type 0} → Bool → Silent A → Silent A
where_so b r = if b then r else stuck

-- what a call gives, as the meaning sees it; want of memory says nothing
abbrev pub Gives : {A B : Type 0} → (A → B) → Silent B → Result A Pause → Type 0
Gives see r (Ok x) = r ≡ Ok (see x)
Gives see r (Err (pause.Halts h)) = r ≡ Err h
Gives see r (Err pause.NoMemory) = ⊤
