-- What the lines of a body stand for, one line after another.
use Rattle.std.proofs.Common.{◌≡◌, ◌∙◌, ℕ, ◌+◌, ◌≤◌, Bool, true, false, List, [], ◌∷◌, ◌++◌, length, drop, if◌then◌else◌, Ok, refl, ap}
use Rattle.std.proofs.Math.ListN.{drop_of_length-le}
use Rattle.il_model.specs.declared.op.Op.{Op}
use Rattle.il_model.specs.declared.written.WrittenName.{WrittenName}
use Rattle.il_model.specs.declared.written.WrittenInstr.{WrittenInstr}
use Rattle.il_model.specs.declared.written.WrittenLine.{WrittenLine}
use Rattle.il_model.specs.declared.written.WrittenLine.TheVariants as line
use Rattle.il_model.specs.Lexemes.{is_among}
use Rattle.il_model.specs.Names.{Scope}
use Rattle.il_parse.specs.Looking.{Look, ◌>>=◌, once, repeated}
use Rattle.il_parse.specs.NamedBodies.{instr_named, lines_named}

module _ (s : Scope) (literals : List (List ℕ)) (labels : List (List ℕ × ℕ)) (met : List (List ℕ)) (found : List Op) (lines : List WrittenLine) (i : ℕ) where
  abbrev rest : List (List ℕ) → List Op → Look (List Op)
  rest more ops = lines_named s literals labels more ops (drop (i + 1) lines)

  -- behind the last line what was found is all
  pub lines_end : length lines ≤ i → lines_named s literals labels met found (drop i lines) ≡ Ok found
  unfolding lines_named
  lines_end past = ap (lines_named s literals labels met found) (drop_of_length-le lines past)

  -- a label is new, or is refused
  pub label_next : (l : WrittenName) → drop i lines ≡ line.Label l ∷ drop (i + 1) lines →
      lines_named s literals labels met found (drop i lines) ≡ (once (is_among met l.name) l.at >>= (λ _. rest (l.name ∷ met) found))
  unfolding lines_named
  label_next l here = ap (lines_named s literals labels met found) here ∙ by (is_among met l.name)
    where
      by : (b : Bool) → (if b then repeated l.at else rest (l.name ∷ met) found) ≡ (once b l.at >>= (λ _. rest (l.name ∷ met) found))
      by true = refl
      by false = refl

  -- an instruction goes behind those found, or is refused
  pub instr_next : (written : WrittenInstr) → drop i lines ≡ line.Instr written ∷ drop (i + 1) lines →
      lines_named s literals labels met found (drop i lines) ≡ (instr_named s literals labels written >>= (λ op. rest met (found ++ op ∷ [])))
  unfolding lines_named
  instr_next written here = ap (lines_named s literals labels met found) here
