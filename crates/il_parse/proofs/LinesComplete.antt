-- The lines of a body are read as themselves, where no line stands behind them.
use Rattle.std.proofs.Common.{◌≡◌, ℕ, zero, suc, ◌-◌, ◌==◌, ◌≤◌, true, false, not, ◌&&◌, if◌then◌else◌, List, [], ◌∷◌, ◌++◌, length, flat_map, Some, None, Ok, refl, sym, ap, subst, ◌∙◌, codes, append_assoc, append-nil, bytes_eq, arith}
use Rattle.std.proofs.lemmas.Bool.{or_parts, ne_eqb}
use Rattle.std.proofs.lemmas.List.{length-append}
use Rattle.il_text.specs.declared.token.TokenKind.TheVariants as token
use Rattle.il_model.specs.declared.written.WrittenInstr.{WrittenInstr}
use Rattle.il_model.specs.declared.written.WrittenLine.{WrittenLine}
use Rattle.il_model.specs.declared.written.WrittenLine.TheVariants as line
use Rattle.il_model.specs.Lexemes.{Lexeme, Is, is_among, name_at}
use Rattle.il_model.specs.Bounds.{instrs_of}
use Rattle.il_model.specs.Bodies.{AreLines, no_lines, labelled, instruction}
use Rattle.il_parse.specs.Reading.{sees, is_word_kind}
use Rattle.il_parse.specs.Mnemonics.{Mnemonic, form_of_word, mnemonic_of}
use Rattle.il_parse.specs.Operands.{read_instr}
use Rattle.il_parse.specs.Bodies.{no_line, labels, instructs, start_of_word, line_start, read_line, lines_from}
use Rattle.il_parse.proofs.Steps.{AreSpelled, spelled-append, by_step}
use Rattle.il_parse.proofs.ListsSound.{AreSmall}
use Rattle.il_parse.proofs.InstrsSound.{types_of_instr}
use Rattle.il_parse.proofs.TypesComplete.{sees-is}
use Rattle.il_parse.proofs.ListsComplete.{Ends, ends_name, name_first, sees-first, quoted_among, small-split}
use Rattle.il_parse.proofs.InstrsComplete.{InstrFront, instr_front, says_word, says_other}

-- no line begins here
abbrev pub NoLine : List Lexeme → Type 0
NoLine [] = Unit {0}
NoLine (l ∷ ws) = (is_word_kind l.kind && not (bytes_eq (codes ".try") l.bytes)) ≡ false

-- what may stand behind the lines
pub record EndsLines (back : List Lexeme) : Type 0 where
  pub no_line : NoLine back
  pub ends : Ends back
  pub no_colon : sees (codes ":") back ≡ false

lines_end : (n left : ℕ) (found : List WrittenLine) (back : List Lexeme) → NoLine back → lines_from n left found back ≡ Ok (found, back)
unfolding lines_from line_start
lines_end n left found [] none = refl
lines_end zero left found (l ∷ ws) none = refl
lines_end (suc n) left found (l ∷ ws) none =
    ap (λ b. read_line (λ more lines. lines_from n more lines) left found (if b then (if sees (codes ":") ws then labels else start_of_word (mnemonic_of l.bytes) l.bytes) else no_line) l ws) none

-- a word that is neither `.try` nor a label nor the word of an instruction begins no line
word_line : (l : Lexeme) → l.kind ≡ token.Word → bytes_eq (codes ".try") l.bytes ≡ false → (is_word_kind l.kind && not (bytes_eq (codes ".try") l.bytes)) ≡ true
word_line l word other = ap (λ k. is_word_kind k && not (bytes_eq (codes ".try") l.bytes)) word ∙ ap not other

label_start : (l colon : Lexeme) (ws : List Lexeme) → l.kind ≡ token.Word → bytes_eq (codes ".try") l.bytes ≡ false → Is (codes ":") colon → line_start l (colon ∷ ws) ≡ labels
unfolding line_start
label_start l colon ws word other same = rw (word_line l word other, sees-is (codes ":") colon ws same) refl

instr_start : (l : Lexeme) (ws : List Lexeme) (says : Mnemonic) → l.kind ≡ token.Word → bytes_eq (codes ".try") l.bytes ≡ false → sees (codes ":") ws ≡ false →
    mnemonic_of l.bytes ≡ Some says → line_start l ws ≡ instructs says
unfolding line_start
instr_start l ws says word other miss is = rw (word_line l word other, miss) (ap (λ o. start_of_word o l.bytes) is)

no_try : mnemonic_of (codes ".try") ≡ None
unfolding mnemonic_of form_of_word
no_try = refl

-- a line begins with a word
pub lines_first : (quoted : List (List ℕ)) (front : List Lexeme) (lines : List WrittenLine) (back : List Lexeme) → AreLines quoted front lines → AreSmall (flat_map types_of_instr (instrs_of lines)) →
    AreSpelled front → Ends back → sees (codes ":") back ≡ false → Ends (front ++ back) × (sees (codes ":") (front ++ back) ≡ false)
lines_first quoted front lines back (no_lines q) small s ends miss = (ends, miss)
lines_first quoted front lines back (labelled q l colon rest more name same are) small s ends miss =
    (ends_name l (colon ∷ (rest ++ back)) name.word s.0, name_first (codes ":") l (colon ∷ (rest ++ back)) name.word s.0 refl)
lines_first quoted front lines back (instruction q ws first rest i more split is are) small s ends miss =
    let parts = spelled-append first rest (subst AreSpelled split s) in
    let f = instr_front first i is (small-split (types_of_instr i) (flat_map types_of_instr (instrs_of more)) small).0 parts.0 in
    let whole : ws ++ back ≡ f.word ∷ ((f.inner ++ rest) ++ back) = ap (λ z. z ++ back) (split ∙ ap (λ z. z ++ rest) f.split) in
    let s2 = (subst AreSpelled f.split parts.0).0 in
    let word = says_word f.word f.says f.is s2 in (
      subst Ends (sym whole) (ends_name f.word ((f.inner ++ rest) ++ back) word s2),
      ap (sees (codes ":")) whole ∙ name_first (codes ":") f.word ((f.inner ++ rest) ++ back) word s2 refl,
    )

-- nor does a word stand there that is quoted there and is none of an instruction's
pub lines_unquoted : (m : List ℕ) → mnemonic_of m ≡ None → (quoted : List (List ℕ)) → is_among quoted m ≡ true → (front : List Lexeme) (lines : List WrittenLine) (back : List Lexeme) →
    AreLines quoted front lines → AreSmall (flat_map types_of_instr (instrs_of lines)) → AreSpelled front → sees m back ≡ false → sees m (front ++ back) ≡ false
lines_unquoted m none quoted inside front lines back (no_lines q) small s miss = miss
lines_unquoted m none quoted inside front lines back (labelled q l colon rest more name same are) small s miss =
    sees-first m l (colon ∷ (rest ++ back)) (quoted_among m quoted l.bytes inside (or_parts (bytes_eq (codes ".try") l.bytes) (is_among quoted l.bytes) name.free).1)
lines_unquoted m none quoted inside front lines back (instruction q ws first rest i more split is are) small s miss =
    let parts = spelled-append first rest (subst AreSpelled split s) in
    let f = instr_front first i is (small-split (types_of_instr i) (flat_map types_of_instr (instrs_of more)) small).0 parts.0 in
    let whole : ws ++ back ≡ f.word ∷ ((f.inner ++ rest) ++ back) = ap (λ z. z ++ back) (split ∙ ap (λ z. z ++ rest) f.split) in
    ap (sees m) whole ∙ sees-first m f.word ((f.inner ++ rest) ++ back) (says_other m none f.word.bytes f.says f.is)

instr_some : (front : List Lexeme) (i : WrittenInstr) → InstrFront front i → 1 ≤ length front
instr_some front i f = omega (arith, ap length f.split)

-- one instruction and the lines behind it
instr_step : (n left : ℕ) (found : List WrittenLine) (front : List Lexeme) (i : WrittenInstr) (back : List Lexeme) → InstrFront front i → AreSpelled front → Ends back →
    sees (codes ":") back ≡ false → 1 ≤ left → lines_from (suc n) left found (front ++ back) ≡ lines_from n (left - 1) (found ++ line.Instr i ∷ []) back
unfolding lines_from
instr_step n left found front i back f s ends miss room =
    let s2 = (subst AreSpelled f.split s).0 in
    let start = instr_start f.word (f.inner ++ back) f.says (says_word f.word f.says f.is s2) (says_other (codes ".try") no_try f.word.bytes f.says f.is) (f.no_colon back miss) f.is in
    let some : (left == 0) ≡ false = ne_eqb left 0 (λ z. absurd (omega (arith, z, room))) in
    ap (λ z. lines_from (suc n) left found (z ++ back)) f.split
    ∙ ap (λ b. read_line (λ more lines. lines_from n more lines) left found b f.word (f.inner ++ back)) start
    ∙ rw some (by_step (read_instr f.word.at f.says (f.inner ++ back)) _ _ i back (f.read back ends) refl)

pub lines_complete : (n : ℕ) (quoted : List (List ℕ)) (left : ℕ) (found : List WrittenLine) (front : List Lexeme) (lines : List WrittenLine) (back : List Lexeme) →
    AreLines quoted front lines → AreSmall (flat_map types_of_instr (instrs_of lines)) → AreSpelled front → EndsLines back → length (instrs_of lines) ≤ left → length front ≤ n →
    lines_from n left found (front ++ back) ≡ Ok (found ++ lines, back)
unfolding lines_from
lines_complete n quoted left found front lines back (no_lines q) small s f few within = lines_end n left found back f.no_line ∙ ap (λ z. Ok (z, back)) (sym (append-nil found))
lines_complete zero quoted left found front lines back (labelled q l colon rest more name same are) small s f few within = absurd (omega (arith, within))
lines_complete (suc n) quoted left found front lines back (labelled q l colon rest more name same are) small s f few within =
    let other = (or_parts (bytes_eq (codes ".try") l.bytes) (is_among q l.bytes) name.free).0 in
    ap (λ b. read_line (λ left_then those. lines_from n left_then those) left found b l (colon ∷ (rest ++ back))) (label_start l colon (rest ++ back) name.word other same)
    ∙ lines_complete n [] left (found ++ line.Label (name_at l) ∷ []) rest more back are small s.1.1 f few (omega (arith, within))
    ∙ ap (λ z. Ok (z, back)) (append_assoc found (line.Label (name_at l) ∷ []) more)
lines_complete zero quoted left found front lines back (instruction q ws first rest i more split is are) small s f few within =
    let parts = spelled-append first rest (subst AreSpelled split s) in
    let t = instr_front first i is (small-split (types_of_instr i) (flat_map types_of_instr (instrs_of more)) small).0 parts.0 in
    absurd (omega (arith, within, instr_some first i t, ap length split, length-append first rest))
lines_complete (suc n) quoted left found front lines back (instruction q ws first rest i more split is are) small s f few within =
    let parts = spelled-append first rest (subst AreSpelled split s) in
    let smalls = small-split (types_of_instr i) (flat_map types_of_instr (instrs_of more)) small in
    let t = instr_front first i is smalls.0 parts.0 in
    let b = lines_first [] rest more back are smalls.1 parts.1 f.ends f.no_colon in
    ap (lines_from (suc n) left found) (ap (λ z. z ++ back) split ∙ append_assoc first rest back)
    ∙ instr_step n left found first i (rest ++ back) t parts.0 b.0 b.1 (omega (arith, few))
    ∙ lines_complete n [] (left - 1) (found ++ line.Instr i ∷ []) rest more back are smalls.1 parts.1 f (omega (arith, few))
    (omega (arith, within, instr_some first i t, ap length split, length-append first rest))
    ∙ ap (λ z. Ok (z, back)) (append_assoc found (line.Instr i ∷ []) more)
