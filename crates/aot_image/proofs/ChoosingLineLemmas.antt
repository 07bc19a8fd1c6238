-- Lines that are taken one after another.
use Rattle.std.proofs.Common.{◌≡◌, ◌≤◌, ◌<◌, ◌+◌, ◌∙◌, ℕ, zero, suc, List, [], ◌∷◌, length, take, drop, Ok, Err, Result, refl, ap, sym, subst, arith}
use Rattle.std.specs.List.{position_or_len}
use Rattle.std.specs.Prelude.{◌==◌}
use Rattle.il_model.specs.declared.program.Program.{Program}
use Rattle.aot_image.specs.declared.choice_fault.ChoiceCause.{ChoiceCause}
use Rattle.aot_image.specs.declared.choice_picks.Entry.{Entry}
use Rattle.aot_image.specs.ChoosingParts.{lines_of, parts_behind}
use Rattle.aot_image.specs.ChoosingPicks.{Pick}
use Rattle.aot_image.specs.ChoosingLines.{judged}
use Rattle.mn_outside.specs.declared.outside.Refused.{Refused}
use Rattle.mn_outside.specs.declared.outside.Refused.TheVariants as refused
use Rattle.aot_image.specs.declared.choice_fault.ChoiceFault.{ChoiceFault}
use Rattle.aot_image.specs.Choosing.{Chosen, Chooses, fault_at, after_line, behind_line, left_by}
use Rattle.aot_image.specs.ChoosingRounds.{live_of, IsKept, LeavesLine}
use Rattle.aot_image.proofs.ChoosingPartLemmas.{parts_at_is}

-- what lines still to be taken leave is what all leave
pub record TakesLines (program : Program) (text : List ℕ) (old : List Pick) (line : ℕ) (rest : List ℕ) (rounds : List ℕ) (entries : List Entry) : Type 0 where
  pub left : left_by program 1 old (lines_of text) ≡ left_by program line (live_of rounds entries) (lines_of rest)
  pub kept : IsKept rounds entries
  pub count : length rounds ≡ length program.methods
  pub few : line + length rest ≤ length text + 1

abbrev front_of : List ℕ → List ℕ
front_of bytes = take (position_or_len (λ b. b == 10) bytes) bytes

abbrev back_of : List ℕ → List ℕ
back_of bytes = drop (position_or_len (λ b. b == 10) bytes) bytes

module _ (program : Program) (number : ℕ) (picks : List Pick) where
  -- the first line, and those behind it
  pub line_by_line : (bytes : List ℕ) →
      left_by program number picks (lines_of bytes) ≡
      behind_line number (after_line program picks (judged program (front_of bytes))) (λ more. left_by program (number + 1) more (parts_behind 10 (back_of bytes)))
  unfolding left_by
  line_by_line bytes = ap (left_by program number picks) (parts_at_is 10 bytes)

  pub line_refused : (bytes : List ℕ) (why : ChoiceCause) → after_line program picks (judged program (front_of bytes)) ≡ Err why →
      left_by program number picks (lines_of bytes) ≡ Err (fault_at number why)
  line_refused bytes why e = line_by_line bytes ∙ ap (λ r. behind_line number r (λ more. left_by program (number + 1) more (parts_behind 10 (back_of bytes)))) e

  pub line_taken : (bytes : List ℕ) (new : List Pick) → after_line program picks (judged program (front_of bytes)) ≡ Ok new →
      left_by program number picks (lines_of bytes) ≡ left_by program (number + 1) new (parts_behind 10 (back_of bytes))
  line_taken bytes new e = line_by_line bytes ∙ ap (λ r. behind_line number r (λ more. left_by program (number + 1) more (parts_behind 10 (back_of bytes)))) e

-- behind the last line
pub no_line_left : (program : Program) (number : ℕ) (picks : List Pick) → left_by program number picks (parts_behind 10 []) ≡ Ok picks
unfolding left_by
no_line_left program number picks = refl

-- ---- the lines of a text, one after another

pub lines_first : (program : Program) (text : List ℕ) (rounds : List ℕ) (entries : List Entry) → IsKept rounds entries → length rounds ≡ length program.methods →
    TakesLines program text (live_of rounds entries) 1 text rounds entries
lines_first program text rounds entries kept count = record { left = refl; kept = kept; count = count; few = omega arith }

length_dropped : (n : ℕ) (xs : List ℕ) → length (drop n xs) ≤ length xs
length_dropped zero xs = omega arith
length_dropped (suc n) [] = omega arith
length_dropped (suc n) (x ∷ xs) = let rest = length_dropped n xs in omega arith

module _ (program : Program) (text : List ℕ) (old : List Pick) (line : ℕ) (rest : List ℕ) (rounds : List ℕ) (entries : List Entry)
    (takes : TakesLines program text old line rest rounds entries) (front behind : List ℕ)
    (first : front ≡ take (position_or_len (λ b. b == 10) rest) rest) (second : behind ≡ drop (position_or_len (λ b. b == 10) rest) rest) where
  abbrev after : Result (List Pick) ChoiceCause
  after = after_line program (live_of rounds entries) (judged program front)

  at_front : (r : Result (List Pick) ChoiceCause) → after ≡ r → after_line program (live_of rounds entries) (judged program (front_of rest)) ≡ r
  at_front r is = ap (λ f. after_line program (live_of rounds entries) (judged program f)) (sym first) ∙ is

  pub lines_fault : (why : ChoiceCause) → after ≡ Err why → left_by program 1 old (lines_of text) ≡ Err (fault_at line why)
  lines_fault why is = takes.left ∙ line_refused program line (live_of rounds entries) rest why (at_front (Err why) is)

  lines_after : (new : List Pick) → after ≡ Ok new → left_by program 1 old (lines_of text) ≡ left_by program (line + 1) new (parts_behind 10 behind)
  lines_after new is =
      takes.left ∙ line_taken program line (live_of rounds entries) rest new (at_front (Ok new) is)
      ∙ ap (λ bs. left_by program (line + 1) new (parts_behind 10 bs)) (sym second)

  pub lines_end : (new : List Pick) → after ≡ Ok new → behind ≡ [] → left_by program 1 old (lines_of text) ≡ Ok new
  lines_end new is none =
      lines_after new is ∙ ap (λ bs. left_by program (line + 1) new (parts_behind 10 bs)) none ∙ no_line_left program (line + 1) new

  fewer : length behind ≤ length rest
  fewer = subst (λ (bs : List ℕ). length bs ≤ length rest) (sym second) (length_dropped (position_or_len (λ b. b == 10) rest) rest)

  pub lines_fewer : (b : ℕ) (next : List ℕ) → behind ≡ b ∷ next → length next < length rest
  lines_fewer b next split = let all = fewer in let one : length behind ≡ length (b ∷ next) = ap length split in omega arith

  pub lines_more : (b : ℕ) (next : List ℕ) (new_rounds : List ℕ) (new_entries : List Entry) → after ≡ Ok (live_of new_rounds new_entries) → behind ≡ b ∷ next →
      IsKept new_rounds new_entries → length new_rounds ≡ length program.methods → TakesLines program text old (line + 1) next new_rounds new_entries
  lines_more b next new_rounds new_entries is split kept count = record {
    left = lines_after (live_of new_rounds new_entries) is ∙ ap (λ bs. left_by program (line + 1) (live_of new_rounds new_entries) (parts_behind 10 bs)) split;
    kept = kept;
    count = count;
    few = let less = lines_fewer b next split in omega (arith, takes.few);
  }

-- an answer that is handed on
pub hands_on : (expected : Chosen) (e : Refused ChoiceFault) (new : List Pick) → LeavesLine expected (Err e) new → Chooses expected (Err e)
hands_on expected (refused.Fault f) new leaves = leaves
hands_on expected refused.NoMemory new leaves = tt
