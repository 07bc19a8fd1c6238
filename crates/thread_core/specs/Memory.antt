-- What an access of machine code reads and writes, by how many bytes it has. This project's own.
use Rattle.std.specs.Prelude.{◌≡◌, ◌⊎◌, ℕ, ◌==◌, Bool, true, false, if◌then◌else◌, Option, Some, None}
use Rattle.rgctx_words.specs.Regions.{context_index}
use Rattle.rgctx_words.specs.Stacks.{StackWords}
use Rattle.rv_machine.specs.declared.size.Size.{Size}
use Rattle.rv_machine.specs.declared.size.Size.TheVariants.{One, Two, Four, Eight}
use Rattle.rgctx_fill.specs.Accesses.{frame_read, frame_written}
use Rattle.rgctx_fill.specs.Moves.{Span}
use Rattle.rgctx_fill.specs.Ready.{IsLoaded}

-- the size of an access of so many bytes
abbrev pub size_of : ℕ → Size
size_of bytes = if bytes == 8 then Eight else if bytes == 4 then Four else if bytes == 2 then Two else One

-- the bytes of an access to a part of a word
abbrev pub IsPart : ℕ → Type 0
IsPart bytes = (bytes ≡ 1) ⊎ ((bytes ≡ 2) ⊎ (bytes ≡ 4))

-- the context word that a read of so many bytes is the load of
abbrev pub context_read : ℕ → ℕ → Option ℕ
context_read bytes address = if bytes == 8 then context_index address else None

-- a read of the frames
pub record ReadsFrames (h : Span) (size : Size) (address : ℕ) (stack : StackWords) (answer : Option ℕ) : Type 0 where
  pub gives : answer ≡ frame_read size stack address
  pub claims : h.relisted ≡ h.listed

-- the load of a context word
pub record ReadsContext (h : Span) (i : ℕ) (answer : Option ℕ) : Type 0 where
  pub word : ℕ
  pub gives : answer ≡ Some word
  pub loaded : IsLoaded h.alone h.before h.after i word
  pub claims : h.relisted ≡ h.listed

abbrev pub ReadsAt : Span → Size → ℕ → StackWords → Option ℕ → Option ℕ → Type 0
ReadsAt h size address stack None answer = ReadsFrames h size address stack answer
ReadsAt h size address stack (Some i) answer = ReadsContext h i answer

-- what a read answers; it never changes the frames
pub record Reads (h : Span) (bytes address : ℕ) (stack : StackWords) (answer : Option ℕ) (after : StackWords) : Type 0 where
  pub at : ReadsAt h (size_of bytes) address stack (context_read bytes address) answer
  pub kept : after ≡ stack

-- a write that is done leaves other frames, and one that is not changes nothing
abbrev pub WritesTo : StackWords → Option StackWords → Bool → StackWords → Type 0
WritesTo stack None done after = (done ≡ false) × (after ≡ stack)
WritesTo stack (Some written) done after = (done ≡ true) × (after ≡ written)

pub record Writes (h : Span) (bytes address : ℕ) (stack : StackWords) (value : ℕ) (done : Bool) (after : StackWords) : Type 0 where
  pub to : WritesTo stack (frame_written (size_of bytes) stack address value) done after
  pub claims : h.relisted ≡ h.listed
