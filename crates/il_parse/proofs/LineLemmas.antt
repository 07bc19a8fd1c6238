-- Lines of a body, by cases on the lexemes and on what they begin with.
use Rattle.std.proofs.Common.{◌≡◌, ℕ, suc, ◌-◌, ◌==◌, Bool, true, false, not, if◌then◌else◌, List, [], ◌∷◌, ◌++◌, drop, Some, None, Ok, Err, refl}
use Rattle.std.specs.Prelude.{codes, ◌&&◌}
use Rattle.il_model.specs.declared.written.WrittenLine.{WrittenLine}
use Rattle.il_model.specs.declared.written.WrittenLine.TheVariants as line
use Rattle.il_model.specs.declared.written.WrittenInstr.{WrittenInstr}
use Rattle.il_model.specs.Lexemes.{Lexeme}
use Rattle.il_parse.specs.declared.fault.ParseCause.TheVariants as cause
use Rattle.il_parse.specs.Reading.{Read, and_then, stuck_fault, fault_at, sees, place_of_first}
use Rattle.il_parse.specs.Cursor.{is_word_at, bytes_of_first, read_any}
use Rattle.il_parse.specs.Mnemonics.{Mnemonic, mnemonic_of}
use Rattle.il_parse.specs.Operands.{read_instr}
use Rattle.il_parse.specs.Bodies.{LineStart, no_line, labels, instructs, left_out, unknown, start_of_word, line_start, read_line, lines_from}
use Rattle.il_parse.specs.Lines.{start_of_line, label_line, instr_line, line_by, one_line, lines_behind}

pub starts_none : (ws : List Lexeme) → is_word_at ws ≡ false → start_of_line ws ≡ no_line
unfolding line_start
starts_none [] e = refl
starts_none (l ∷ ws) e = rw e refl

no_word : (a : Bool) (x y : LineStart) → (if a && not true then x else y) ≡ y
no_word true x y = refl
no_word false x y = refl

pub starts_try : (ws : List Lexeme) → sees (codes ".try") ws ≡ true → start_of_line ws ≡ no_line
unfolding line_start sees
starts_try [] e = refl
starts_try (l ∷ ws) e = rw e (no_word _ _ _)

pub starts_label : (ws : List Lexeme) → is_word_at ws ≡ true → sees (codes ".try") ws ≡ false → sees (codes ":") (drop 1 ws) ≡ true → start_of_line ws ≡ labels
unfolding line_start sees
starts_label [] e try colon = absurd cc
starts_label (l ∷ ws) e try colon = rw (e, try, colon) refl

pub starts_word : (ws : List Lexeme) → is_word_at ws ≡ true → sees (codes ".try") ws ≡ false → sees (codes ":") (drop 1 ws) ≡ false →
    start_of_line ws ≡ start_of_word (mnemonic_of (bytes_of_first ws)) (bytes_of_first ws)
unfolding line_start sees
starts_word [] e try colon = absurd cc
starts_word (l ∷ ws) e try colon = rw (e, try, colon) refl

pub instr_none : (says : Mnemonic) (ws : List Lexeme) → None ≡ place_of_first ws → instr_line says ws ≡ Err (stuck_fault ws)
unfolding instr_line
instr_none says [] e = refl
instr_none says (l ∷ ws) e = absurd cc

pub instr_some : (says : Mnemonic) (ws : List Lexeme) (at : ℕ) → Some at ≡ place_of_first ws →
    instr_line says ws ≡ and_then (read_instr at says (drop 1 ws)) (λ i back. Ok (Some (line.Instr i), back))
unfolding instr_line
instr_some says [] at e = absurd cc
instr_some says (l ∷ ws) at e = let same : at ≡ l.at = cc in rw same refl

pub label_is : (ws : List Lexeme) → label_line ws ≡ and_then (read_any ws) (λ name back. Ok (Some (line.Label name), drop 1 back))
unfolding label_line read_any
label_is [] = refl
label_is (l ∷ ws) = refl

behind_instr : (n left : ℕ) (found : List WrittenLine) (r : Read WrittenInstr) →
    and_then r (λ i. lines_from n (left - 1) (found ++ line.Instr i ∷ [])) ≡
    and_then (and_then r (λ i back. Ok (Some (line.Instr i), back))) (λ one. lines_behind n left found one)
behind_instr n left found (Ok p) = refl
behind_instr n left found (Err f) = refl

behind_word : (n left : ℕ) (found : List WrittenLine) (none : Bool) (l : Lexeme) (ws : List Lexeme) (says : Mnemonic) →
    (if none then Err (fault_at (l ∷ ws) cause.TooMany) else and_then (read_instr l.at says ws) (λ i. lines_from n (left - 1) (found ++ line.Instr i ∷ []))) ≡
    and_then (if none then Err (fault_at (l ∷ ws) cause.TooMany) else and_then (read_instr l.at says ws) (λ i back. Ok (Some (line.Instr i), back)))
    (λ one. lines_behind n left found one)
behind_word n left found true l ws says = refl
behind_word n left found false l ws says = behind_instr n left found (read_instr l.at says ws)

by_start : (n left : ℕ) (found : List WrittenLine) (s : LineStart) (l : Lexeme) (ws : List Lexeme) →
    read_line (λ more lines. lines_from n more lines) left found s l ws ≡ and_then (line_by left s (l ∷ ws)) (λ one. lines_behind n left found one)
unfolding label_line instr_line
by_start n left found no_line l ws = refl
by_start n left found labels l ws = refl
by_start n left found (instructs says) l ws = behind_word n left found (left == 0) l ws says
by_start n left found left_out l ws = refl
by_start n left found unknown l ws = refl

-- a line and those behind it
pub lines_step : (n left : ℕ) (found : List WrittenLine) (ws : List Lexeme) →
    lines_from (suc n) left found ws ≡ and_then (one_line left ws) (λ one. lines_behind n left found one)
unfolding lines_from one_line
lines_step n left found [] = refl
lines_step n left found (l ∷ ws) = by_start n left found (line_start l ws) l ws

-- where no line may come any more
pub lines_end : (left : ℕ) (found : List WrittenLine) (ws : List Lexeme) → lines_from 0 left found ws ≡ Ok (found, ws)
unfolding lines_from
lines_end left found [] = refl
lines_end left found (l ∷ ws) = refl
