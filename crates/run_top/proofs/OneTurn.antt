-- Single turns of the machine at a code word.
use Rattle.std.proofs.Common.{◌≡◌, ℕ, ◌+◌, ◌*◌, ◌<◌, List, Some, length, ap, ◌∙◌, arith}
use Rattle.std.specs.Prelude.{slice_get, slice_index, slice_set}
use Rattle.rv_isa.specs.declared.instr.Instr.{Instr}
use Rattle.rv_isa.specs.Row.{IsRow}
use Rattle.rv_isa.specs.Word.{word_of}
use Rattle.rv_isa.proofs.RowLemmas.{decodes}
use Rattle.interaction.specs.declared.turn.What.{What}
use Rattle.interaction.specs.declared.turn.What.TheVariants.{Instr as Executed}
use Rattle.interaction.specs.Thread.{Go}
use Rattle.run_top.specs.declared.machine.Mode.{Mode}
use Rattle.run_top.specs.declared.machine.Mode.TheVariants.{Code, Service}
use Rattle.run_top.specs.declared.machine.Effect.TheVariants.{Sets, Loads, Stores, Calls}
use Rattle.run_top.specs.Machine.{Thread, Wish, with_register, extended_12, sum_64, frame_place, code_place, loaded, stored, effect_of, performed, decoded, fetched, fetch, want}

-- a thread at code word p
abbrev pub at_word : ℕ → List ℕ → List ℕ → Mode → Thread
at_word p x f mode = record { pc = 65536 + 4 * p; x = x; frame = f; mode = mode }

next_pc : (p : ℕ) → p < 1048576 → sum_64 (65536 + 4 * p) 4 ≡ 65536 + 4 * (p + 1)
next_pc p low = omega arith

code_place_at : (p : ℕ) → code_place (65536 + 4 * p) ≡ Some p
code_place_at p = grind arith

-- a stack place's address
pub frame_place_at : (words base k : ℕ) → base ≡ 1073741824 → k < 120 → 8 + k < words → frame_place words (sum_64 base (extended_12 (64 + 8 * k))) ≡ Some (8 + k)
frame_place_at words base k e low within = grind arith

-- what the word's instruction is noted as
abbrev pub executed : ℕ → Instr → What
executed p i = Executed (65536 + 4 * p) (word_of i)

goes : (what : What) (p : ℕ) (x f : List ℕ) (mode : Mode) → p < 1048576 → ◌≡◌ {A = Wish} (Go what (record { pc = sum_64 (65536 + 4 * p) 4; x = x; frame = f; mode = mode })) (Go what (at_word (p + 1) x f mode))
goes what p x f mode low = ap (λ (pc : ℕ). let t : Thread = record { pc = pc; x = x; frame = f; mode = mode } in Go what t) (next_pc p low)

module _ (image : List ℕ) (p : ℕ) (x f : List ℕ) (low : p < 1048576) (i : Instr) (row : IsRow i) (here : slice_get image p ≡ Some (word_of i)) where
  abbrev now : Thread
  now = at_word p x f Code

  performs : want image now ≡ performed (executed p i) now (effect_of i x)
  performs = ap (λ o. fetched now (fetch image o)) (code_place_at p) ∙ ap (fetched now) here ∙ ap (decoded (word_of i) now) (decodes i row)

  pub sets : (rd value : ℕ) → effect_of i x ≡ Sets rd value → want image now ≡ Go (executed p i) (at_word (p + 1) (with_register x rd value) f Code)
  sets rd value e = performs ∙ ap (performed (executed p i) now) e ∙ goes (executed p i) p (with_register x rd value) f Code low

  pub loads : (rd address place : ℕ) → effect_of i x ≡ Loads rd address → frame_place (length f) address ≡ Some place → want image now ≡ Go (executed p i) (at_word (p + 1) (with_register x rd (slice_index f place)) f Code)
  loads rd address place e within = performs ∙ ap (performed (executed p i) now) e ∙ ap (loaded (executed p i) now rd) within ∙ goes (executed p i) p (with_register x rd (slice_index f place)) f Code low

  pub stores : (address value place : ℕ) → effect_of i x ≡ Stores address value → frame_place (length f) address ≡ Some place → want image now ≡ Go (executed p i) (at_word (p + 1) x (slice_set f place value) Code)
  stores address value place e within = performs ∙ ap (performed (executed p i) now) e ∙ ap (stored (executed p i) now value) within ∙ goes (executed p i) p x (slice_set f place value) Code low

  pub calls : effect_of i x ≡ Calls → want image now ≡ Go (executed p i) (at_word (p + 1) x f Service)
  calls e = performs ∙ ap (performed (executed p i) now) e ∙ goes (executed p i) p x f Service low
