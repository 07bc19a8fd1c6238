-- What is read as instructions and lines is that of the grammar, within the limits, where calls are.
use Rattle.std.proofs.Common.{◌≡◌, ℕ, zero, suc, ◌-◌, ◌==◌, ◌≤◌, Bool, true, false, not, ◌&&◌, if◌then◌else◌, List, [], ◌∷◌, ◌++◌, drop, length, flat_map, Option, Some, None, Ok, refl, sym, ap, subst, ◌∙◌, codes, append_assoc, append-nil, bytes_eq, inl, inr, arith}
use Rattle.std.proofs.lemmas.Bool.{true≢false, cases_Bool, and_parts, or_from, eqb-false}
use Rattle.il_text.specs.declared.token.TokenKind.{TokenKind}
use Rattle.il_text.specs.declared.token.TokenKind.TheVariants as token
use Rattle.il_model.specs.declared.form.Form.{Form}
use Rattle.il_model.specs.declared.written.WrittenType.{WrittenType}
use Rattle.il_model.specs.declared.written.WrittenOperand.{WrittenOperand}
use Rattle.il_model.specs.declared.written.WrittenInstr.{WrittenInstr}
use Rattle.il_model.specs.declared.written.WrittenLine.{WrittenLine}
use Rattle.il_model.specs.declared.written.WrittenLine.TheVariants as line
use Rattle.il_model.specs.Lexemes.{Lexeme, Is, is_among, name_at}
use Rattle.il_model.specs.Forms.{operand_kind}
use Rattle.il_model.specs.Bounds.{types_of_operand, instrs_of}
use Rattle.il_model.specs.Instructions.{IsInstr, long, short, short_whole}
use Rattle.il_model.specs.Bodies.{AreLines, no_lines, labelled, instruction}
use Rattle.il_parse.specs.declared.fault.ParseCause.TheVariants as cause
use Rattle.il_parse.specs.Reading.{Read, stuck_fault, fault_at, sees, unsupported_words, is_word_kind}
use Rattle.il_parse.specs.Mnemonics.{Mnemonic, calls, takes, holds, mnemonic_of}
use Rattle.il_parse.specs.Operands.{read_operand, read_call, read_meaning, read_instr}
use Rattle.il_parse.specs.Bodies.{LineStart, no_line, labels, instructs, left_out, unknown, start_of_word, line_start, read_line, lines_from}
use Rattle.il_parse.proofs.Steps.{AreSpelled, spelled_rest, Took, refusal, value_of, rest_of, stepped, seen, there, absent, joined}
use Rattle.il_parse.proofs.TypesSound.{FreeOf, no_quoted}
use Rattle.il_parse.proofs.ListsSound.{IsBoth, AreSmall, small-append}
use Rattle.il_parse.proofs.WordsSound.{Meant, meant_call, meant_long, meant_short, meant_whole, mnemonic_sound}
use Rattle.il_parse.proofs.OperandsSound.{operand_sound}

-- behind the word `call` this is an instruction
pub record IsCalled (front : List Lexeme) (found : Form × WrittenOperand) : Type 0 where
  pub is : (l : Lexeme) → Is (codes "call") l → IsInstr (l ∷ front) (record { at = l.at; form = found.0; operand = found.1 })
  pub small : AreSmall (types_of_operand found.1)

abbrev pub types_of_instr : WrittenInstr → List WrittenType
types_of_instr i = types_of_operand i.operand

-- behind this word this is an instruction
pub record IsBehind (l : Lexeme) (front : List Lexeme) (found : Form × WrittenOperand) : Type 0 where
  pub is : IsInstr (l ∷ front) (record { at = l.at; form = found.0; operand = found.1 })
  pub small : AreSmall (types_of_operand found.1)

-- what a line begins with
pub data Started (l : Lexeme) (ws : List Lexeme) : LineStart → Type 0 where
  started_none : Started l ws no_line
  started_label : l.kind ≡ token.Word → bytes_eq (codes ".try") l.bytes ≡ false → sees (codes ":") ws ≡ true → Started l ws labels
  started_instr : (says : Mnemonic) → mnemonic_of l.bytes ≡ Some says → Started l ws (instructs says)
  started_out : Started l ws left_out
  started_unknown : Started l ws unknown

is_word : (k : TokenKind) → is_word_kind k ≡ true → k ≡ token.Word
is_word token.Word e = refl
is_word token.Variable e = absurd (true≢false (sym e))
is_word token.Number e = absurd (true≢false (sym e))
is_word token.Text e = absurd (true≢false (sym e))
is_word token.Mark e = absurd (true≢false (sym e))

flipped : (b : Bool) → not b ≡ true → b ≡ false
flipped true e = absurd (true≢false (sym e))
flipped false e = refl

started_by : (l : Lexeme) (ws : List Lexeme) (b c d : Bool) (o : Option Mnemonic) → (is_word_kind l.kind && not (bytes_eq (codes ".try") l.bytes)) ≡ b →
    sees (codes ":") ws ≡ c → mnemonic_of l.bytes ≡ o → is_among unsupported_words l.bytes ≡ d →
    Started l ws (if b then (if c then labels else start_of_word o l.bytes) else no_line)
started_by l ws false c d o p q m r = started_none
started_by l ws true true d o p q m r =
    let parts = and_parts (is_word_kind l.kind) (not (bytes_eq (codes ".try") l.bytes)) p in
    started_label (is_word l.kind parts.0) (flipped (bytes_eq (codes ".try") l.bytes) parts.1) q
started_by l ws true false d (Some says) p q m r = started_instr says m
started_by l ws true false true None p q m r = subst (λ b. Started l ws (if b then left_out else unknown)) (sym r) started_out
started_by l ws true false false None p q m r = subst (λ b. Started l ws (if b then left_out else unknown)) (sym r) started_unknown

started : (l : Lexeme) (ws : List Lexeme) → Started l ws (line_start l ws)
unfolding line_start
started l ws = started_by l ws (is_word_kind l.kind && not (bytes_eq (codes ".try") l.bytes)) (sees (codes ":") ws) (is_among unsupported_words l.bytes)
    (mnemonic_of l.bytes) refl refl refl refl

-- lines that were read behind those found
pub record LinesRead (quoted : List (List ℕ)) (left : ℕ) (found : List WrittenLine) (ws : List Lexeme) (ys : List WrittenLine) (back : List Lexeme) : Type 0 where
  pub front : List Lexeme
  pub items : List WrittenLine
  pub split : ws ≡ front ++ back
  pub all : ys ≡ found ++ items
  pub are : AreLines quoted front items
  pub small : AreSmall (flat_map types_of_instr (instrs_of items))
  pub few : length (instrs_of items) ≤ left

nothing_read : (quoted : List (List ℕ)) (left : ℕ) (found : List WrittenLine) (ws : List Lexeme) (ys : List WrittenLine) (back : List Lexeme) →
    (let r : Read (List WrittenLine) = Ok (found, ws) in r ≡ Ok (ys, back)) → LinesRead quoted left found ws ys back
nothing_read quoted left found ws ys back e = record {
  front = [];
  items = [];
  split = rest_of found ys ws back e;
  all = sym (value_of found ys ws back e) ∙ sym (append-nil found);
  are = no_lines quoted;
  small = tt;
  few = omega arith;
}

-- what follows `call` in a text is read as a call
abbrev pub CallsAreSound : Type 0
CallsAreSound = (ws : List Lexeme) (found : Form × WrittenOperand) (back : List Lexeme) → AreSpelled ws → read_call ws ≡ Ok (found, back) → Took IsCalled ws found back

module _ (call_sound : CallsAreSound) where
  meaning_sound : (l : Lexeme) (says : Mnemonic) → Meant l.bytes says → (ws : List Lexeme) (found : Form × WrittenOperand) (back : List Lexeme) → AreSpelled ws →
      read_meaning says ws ≡ Ok (found, back) → Took (IsBehind l) ws found back
  unfolding read_meaning
  meaning_sound l calls (meant_call same) ws found back spelled e =
      let c = call_sound ws found back spelled e in
      record { front = c.front; split = c.split; holds = record { is = c.holds.is l (sym same); small = c.holds.small } }
  meaning_sound l (takes g) (meant_long f is free) ws found back spelled e =
      stepped (read_operand (operand_kind f) ws) _ found back e (λ o mid e0 f0.
      let t = operand_sound (operand_kind f) free ws o mid e0 in
      record {
        front = t.front;
        split = t.split ∙ ap (λ z. t.front ++ z) (rest_of (f, o) found mid back f0);
        holds = subst (IsBehind l t.front) (value_of (f, o) found mid back f0) (record { is = long l t.front f o is t.holds.is; small = t.holds.small });
      })
  meaning_sound l (takes g) (meant_short f is free) ws found back spelled e =
      stepped (read_operand (operand_kind f) ws) _ found back e (λ o mid e0 f0.
      let t = operand_sound (operand_kind f) free ws o mid e0 in
      record {
        front = t.front;
        split = t.split ∙ ap (λ z. t.front ++ z) (rest_of (f, o) found mid back f0);
        holds = subst (IsBehind l t.front) (value_of (f, o) found mid back f0) (record { is = short l t.front f o is t.holds.is; small = t.holds.small });
      })
  meaning_sound l (holds g p) (meant_whole row is same small) ws found back spelled e =
      record {
        front = [];
        split = rest_of (row.form, row.operand) found ws back e;
        holds = subst (IsBehind l []) (value_of (row.form, row.operand) found ws back e) (record { is = short_whole l row is (sym same); small = small });
      }

  -- an instruction with its word
  pub instr_sound : (l : Lexeme) (says : Mnemonic) → mnemonic_of l.bytes ≡ Some says → (ws : List Lexeme) (i : WrittenInstr) (back : List Lexeme) → AreSpelled ws →
      read_instr l.at says ws ≡ Ok (i, back) → Took (λ front j. IsBoth IsInstr types_of_instr (l ∷ front) j) ws i back
  unfolding read_instr
  instr_sound l says is ws i back spelled e =
      stepped (read_meaning says ws) _ i back e (λ found mid e0 f0.
      let t = meaning_sound l says (mnemonic_sound l.bytes says is) ws found mid spelled e0 in
      let made : WrittenInstr = record { at = l.at; form = found.0; operand = found.1 } in
      record {
        front = t.front;
        split = t.split ∙ ap (λ z. t.front ++ z) (rest_of made i mid back f0);
        holds = subst (IsBoth IsInstr types_of_instr (l ∷ t.front)) (value_of made i mid back f0) (record { is = t.holds.is; small = t.holds.small });
      })

  -- one line and those behind it
  line_sound : (n : ℕ) → ((left : ℕ) (found : List WrittenLine) (ws : List Lexeme) (ys : List WrittenLine) (back : List Lexeme) →
      AreSpelled ws → lines_from n left found ws ≡ Ok (ys, back) → LinesRead [] left found ws ys back) →
      (quoted : List (List ℕ)) (left : ℕ) (found : List WrittenLine) (l : Lexeme) (ws : List Lexeme) (ys : List WrittenLine) (back : List Lexeme) →
      AreSpelled ws → is_among quoted l.bytes ≡ false → (s : LineStart) → Started l ws s → read_line (λ rest lines. lines_from n rest lines) left found s l ws ≡ Ok (ys, back) →
      LinesRead quoted left found (l ∷ ws) ys back
  line_sound n others quoted left found l ws ys back spelled free no_line started_none e = nothing_read quoted left found (l ∷ ws) ys back e
  line_sound n others quoted left found l ws ys back spelled free labels (started_label word no_try hit) e =
      elim (seen (codes ":") ws) [
        | there colon rest split same hit2 behind ↦
            let behind_colon : drop 1 ws ≡ rest = ap (drop 1) split in
            let m = others left (found ++ line.Label (name_at l) ∷ []) (drop 1 ws) ys back (subst AreSpelled (sym behind_colon) (spelled_rest ws (colon ∷ []) rest split spelled)) e in
            record {
              front = l ∷ colon ∷ m.front;
              items = line.Label (name_at l) ∷ m.items;
              split = ap (λ z. l ∷ z) (split ∙ ap (λ z. colon ∷ z) (sym behind_colon ∙ m.split));
              all = m.all ∙ append_assoc found (line.Label (name_at l) ∷ []) m.items;
              are = labelled quoted l colon m.front m.items
                  (record { word = word; free = or_from (bytes_eq (codes ".try") l.bytes) (is_among quoted l.bytes) no_try free }) same m.are;
              small = m.small;
              few = m.few;
            }
        | absent miss stays ↦ absurd (true≢false (sym hit ∙ miss))
      ]
  line_sound n others quoted left found l ws ys back spelled free (instructs says) (started_instr same is) e =
      elim (cases_Bool (left == 0)) [
        | inl full ↦ refusal (fault_at (l ∷ ws) cause.TooMany) ys back (rw full at e)
        | inr room ↦
            stepped (read_instr l.at says ws) _ ys back (rw room at e) (λ i mid e0 f0.
            let t = instr_sound l says is ws i mid spelled e0 in
            let m = others (left - 1) (found ++ line.Instr i ∷ []) mid ys back (spelled_rest ws t.front mid t.split spelled) f0 in
            record {
              front = l ∷ t.front ++ m.front;
              items = line.Instr i ∷ m.items;
              split = ap (λ z. l ∷ z) (joined ws t.front mid m.front back t.split m.split);
              all = m.all ∙ append_assoc found (line.Instr i ∷ []) m.items;
              are = instruction quoted (l ∷ t.front ++ m.front) (l ∷ t.front) m.front i m.items refl t.holds.is m.are;
              small = small-append (types_of_instr i) (flat_map types_of_instr (instrs_of m.items)) t.holds.small m.small;
              few = omega (arith, m.few, eqb-false left 0 room);
            })
      ]
  line_sound n others quoted left found l ws ys back spelled free left_out started_out e = refusal (stuck_fault (l ∷ ws)) ys back e
  line_sound n others quoted left found l ws ys back spelled free unknown started_unknown e = refusal (stuck_fault ws) ys back e

  pub lines_sound : (n : ℕ) (quoted : List (List ℕ)) (left : ℕ) (found : List WrittenLine) (ws : List Lexeme) (ys : List WrittenLine) (back : List Lexeme) →
      AreSpelled ws → FreeOf quoted ws → lines_from n left found ws ≡ Ok (ys, back) → LinesRead quoted left found ws ys back
  unfolding lines_from
  lines_sound n quoted left found [] ys back spelled free e = nothing_read quoted left found [] ys back e
  lines_sound zero quoted left found (l ∷ ws) ys back spelled free e = nothing_read quoted left found (l ∷ ws) ys back e
  lines_sound (suc n) quoted left found (l ∷ ws) ys back spelled free e =
      line_sound n (λ room before inside lines rest p f. lines_sound n [] room before inside lines rest p (no_quoted inside) f)
      quoted left found l ws ys back spelled.1 free (line_start l ws) (started l ws) e
