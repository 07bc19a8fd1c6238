-- The bodies that a choice leaves, or its first bad line. This project's own.
use Rattle.std.specs.Prelude.{◌≡◌, ℕ, ◌+◌, List, [], ◌∷◌, Result, Ok, Err, ⊤}
use Rattle.mn_outside.specs.declared.outside.Refused.{Refused}
use Rattle.mn_outside.specs.declared.outside.Refused.TheVariants as refused
use Rattle.il_model.specs.declared.program.Program.{Program}
use Rattle.share_canon.specs.declared.choice.Choice.{Choice}
use Rattle.aot_image.specs.declared.choice_fault.ChoiceCause.{ChoiceCause}
use Rattle.aot_image.specs.declared.choice_fault.ChoiceFault.{ChoiceFault}
use Rattle.aot_image.specs.ChoosingParts.{lines_of}
use Rattle.aot_image.specs.ChoosingPicks.{Pick, picks_after}
use Rattle.aot_image.specs.ChoosingLines.{Judged, judged}

abbrev pub Chosen : Type 0
Chosen = Result (List Pick) ChoiceFault

abbrev pub fault_at : ℕ → ChoiceCause → ChoiceFault
fault_at line why = record { line = line; cause = why }

-- the picks behind a line that was judged
abbrev pub after_line : Program → List Pick → Judged → Result (List Pick) ChoiceCause
after_line program picks (Ok act) = Ok (picks_after program act picks)
after_line program picks (Err why) = Err why

abbrev pub behind_line : ℕ → Result (List Pick) ChoiceCause → (List Pick → Chosen) → Chosen
behind_line number (Ok picks) rest = rest picks
behind_line number (Err why) rest = Err (fault_at number why)

-- the picks that lines leave behind those that there are, where the first line has this number; or the first bad line with its cause
unfoldable pub left_by : Program → ℕ → List Pick → List (List ℕ) → Chosen
left_by program number picks [] = Ok picks
left_by program number picks (line ∷ lines) =
    behind_line number (after_line program picks (judged program line)) (λ more. left_by program (number + 1) more lines)

-- the bodies that a choice leaves for a program, in order; lines are counted from 1
abbrev pub chosen : Program → List ℕ → Chosen
chosen program text = left_by program 1 [] (lines_of text)

-- the answer is the definition's; want of memory says nothing
abbrev pub Chooses : Chosen → Result Choice (Refused ChoiceFault) → Type 0
Chooses expected (Ok choice) = expected ≡ Ok choice.picks
Chooses expected (Err (refused.Fault f)) = expected ≡ Err f
Chooses expected (Err refused.NoMemory) = ⊤
