-- Labels and instructions of a canonical text.
use Rattle.std.proofs.Common.{◌≡◌, ℕ, ◌+◌, ◌==◌, Bool, true, false, if◌then◌else◌, List, [], ◌∷◌, ◌++◌, map, refl, sym, ap, ◌∙◌, subst, codes, decimal, append_assoc, append-nil}
use Rattle.std.specs.List.{AllByRecursion, list_any}
use Rattle.il_model.specs.declared.op.Op.{Op}
use Rattle.il_model.specs.declared.written.WrittenLine.{WrittenLine}
use Rattle.il_model.specs.declared.written.WrittenLine.TheVariants as line
use Rattle.il_model.specs.Lexemes.{Lexeme, name_at, is_among}
use Rattle.il_model.specs.Instructions.{IsInstr}
use Rattle.il_model.specs.Bodies.{AreLines, no_lines, labelled, instruction}
use Rattle.il_model.specs.Bounds.{instrs_of}
use Rattle.il_model.specs.Names.{Scope, Each, end, both}
use Rattle.il_model.specs.LookUp.{NamesInstr, labels_from}
use Rattle.il_model.specs.Canonical.{Word, Printing, label_text}
use Rattle.il_print.proofs.Keys.{Key, key_of, quoted, label_key, label_line_keys, op_keys, code_keys}
use Rattle.il_print.proofs.AgainKeys.{keys_first, keys_split, keys_none, is_quoted, is_name}
use Rattle.il_print.proofs.AgainLists.{Reads}

-- the labels of a body, each with the place that it stands before

abbrev pub mark_if : Printing → ℕ → Bool → List (List ℕ × ℕ)
mark_if p at has = if has then (label_text p.places at, at) ∷ [] else []

abbrev pub mark_at : Printing → ℕ → List (List ℕ × ℕ)
mark_at p at = mark_if p at (list_any (λ to. to == at) p.places)

abbrev pub marks_from : {A : Type 0} → Printing → ℕ → List A → List (List ℕ × ℕ)
marks_from p at [] = mark_at p at
marks_from p at (x ∷ xs) = mark_at p at ++ marks_from p (at + 1) xs

-- no label is one of these words
abbrev pub NoLabels : List Word → Type 0
NoLabels words = (number : ℕ) → is_among (codes ".try" ∷ words) (codes "L" ++ decimal number) ≡ false

-- lines that spell instructions and these labels
pub record LinesAgain (s : Scope) (literals : List (List ℕ)) (labels : List (List ℕ × ℕ)) (words : List Word) (ls : List Lexeme) (at : ℕ) (ops : List Op)
    (marks : List (List ℕ × ℕ)) : Type 0 where
  pub lines : List WrittenLine
  pub are : AreLines words ls lines
  pub code : Each (NamesInstr s literals labels) (instrs_of lines) ops
  pub marks_are : labels_from at lines ≡ marks

module _ (s : Scope) (p : Printing) (labels : List (List ℕ × ℕ)) where
  abbrev Then : ℕ → List Op → List (List ℕ × ℕ) → List Key → Type 0
  Then at ops marks more = (words : List Word) → NoLabels words → (ls : List Lexeme) → map key_of ls ≡ more → LinesAgain s p.literals labels words ls at ops marks

  abbrev label_if : ℕ → Bool → List Key
  label_if at has = if has then label_key p.places at ∷ quoted (codes ":") ∷ [] else []

  with_label : (at : ℕ) (ops : List Op) (marks : List (List ℕ × ℕ)) (more : List Key) (has : Bool) → Then at ops marks more →
      Then at ops (mark_if p at has ++ marks) (label_if at has ++ more)
  with_label at ops marks more true later words free ls e =
      let l = keys_first ls (label_key p.places at) (quoted (codes ":") ∷ more) e in
      let colon = keys_first l.rest (quoted (codes ":")) more l.are in
      let r = later [] (λ number. refl) colon.rest colon.are in
      record {
        lines = line.Label (name_at l.lexeme) ∷ r.lines;
        are = subst (λ z. AreLines words z (line.Label (name_at l.lexeme) ∷ r.lines)) (sym (l.split ∙ ap (λ z. l.lexeme ∷ z) colon.split))
            (labelled words l.lexeme colon.lexeme colon.rest r.lines (is_name (codes ".try" ∷ words) (label_text p.places at) l.lexeme l.is (free _))
            (is_quoted (codes ":") colon.lexeme colon.is) r.are);
        code = r.code;
        marks_are = ap (λ b. (b, at) ∷ labels_from at r.lines) (ap (λ k. k.bytes) l.is) ∙ ap (λ z. (label_text p.places at, at) ∷ z) r.marks_are;
      }
  with_label at ops marks more false later words free ls e = later words free ls e

  no_more : (at : ℕ) → Then at [] [] []
  no_more at words free ls e =
      record { lines = []; are = subst (λ z. AreLines words z []) (sym (keys_none ls e)) (no_lines words); code = end; marks_are = refl }

  one_more : (at : ℕ) (op : Op) (ops : List Op) (marks : List (List ℕ × ℕ)) (more : List Key) → Reads IsInstr (NamesInstr s p.literals labels) (op_keys p) op →
      Then (at + 1) ops marks more → Then at (op ∷ ops) marks (op_keys p op ++ more)
  one_more at op ops marks more reads later words free ls e =
      let split = keys_split ls (op_keys p op) more e in
      let a = reads split.front split.first in
      let r = later [] (λ number. refl) split.back split.second in
      record {
        lines = line.Instr a.item ∷ r.lines;
        are = instruction words ls split.front split.back a.item r.lines split.split a.is r.are;
        code = both a.item op (instrs_of r.lines) ops a.names r.code;
        marks_are = r.marks_are;
      }

  -- the instructions from this place on are read back, with their labels
  pub code_again : (at : ℕ) (ops : List Op) → AllByRecursion (Reads IsInstr (NamesInstr s p.literals labels) (op_keys p)) ops →
      Then at ops (marks_from p at ops) (code_keys p at ops)
  code_again at [] all words free ls e =
      let r = with_label at [] [] [] (list_any (λ to. to == at) p.places) (no_more at) words free ls (e ∙ sym (append-nil (label_line_keys p at))) in
      record { lines = r.lines; are = r.are; code = r.code; marks_are = r.marks_are ∙ append-nil (mark_at p at) }
  code_again at (op ∷ ops) all words free ls e =
      with_label at (op ∷ ops) (marks_from p (at + 1) ops) (op_keys p op ++ code_keys p (at + 1) ops) (list_any (λ to. to == at) p.places)
      (one_more at op ops (marks_from p (at + 1) ops) (code_keys p (at + 1) ops) all.0 (λ words1 free1 ls1 e1. code_again (at + 1) ops all.1 words1 free1 ls1 e1))
      words free ls (e ∙ append_assoc (label_line_keys p at) (op_keys p op) (code_keys p (at + 1) ops))
