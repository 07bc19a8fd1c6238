-- Bodies as they are written: the rules `body` and `try` of the grammar.
use Rattle.std.specs.Prelude.{◌≡◌, ℕ, List, [], ◌∷◌, ◌++◌, Option, Some, None, codes}
use Rattle.il_model.specs.declared.written.WrittenType.{WrittenType}
use Rattle.il_model.specs.declared.written.WrittenParam.{WrittenParam}
use Rattle.il_model.specs.declared.written.WrittenName.{WrittenName}
use Rattle.il_model.specs.declared.written.WrittenInstr.{WrittenInstr}
use Rattle.il_model.specs.declared.written.WrittenLine.{WrittenLine}
use Rattle.il_model.specs.declared.written.WrittenLine.TheVariants as line
use Rattle.il_model.specs.declared.written.WrittenClause.{WrittenClause}
use Rattle.il_model.specs.declared.written.WrittenBody.{WrittenBody}
use Rattle.il_model.specs.Lexemes.{Lexeme, Is, IsName, name_at, Separated, Many}
use Rattle.il_model.specs.Types.{IsType, IsParam}
use Rattle.il_model.specs.Instructions.{IsLabel, IsInstr}

-- the word `.entrypoint`, if it stands there, with its place
pub data IsEntry : List Lexeme → Option ℕ → Type 0 where
  no_entry : IsEntry [] None
  entry : (l : Lexeme) → Is (codes ".entrypoint") l → IsEntry (l ∷ []) (Some l.at)

-- the locals, if there are any
pub data AreLocals : List Lexeme → List WrittenParam → Type 0 where
  no_locals : AreLocals [] []
  locals : (ws inner : List Lexeme) (word init left right : Lexeme) (p : WrittenParam) (ps : List WrittenParam) →
      ws ≡ word ∷ init ∷ left ∷ inner ++ right ∷ [] → Is (codes ".locals") word → Is (codes "init") init → Is (codes "(") left →
      Separated (codes ",") IsParam inner (p ∷ ps) → Is (codes ")") right → AreLocals ws (p ∷ ps)

-- the words besides `.try` that are quoted where the first line begins: those that may still come before it
abbrev pub quoted_before : Option ℕ → List WrittenParam → List (List ℕ)
quoted_before at (p ∷ ps) = []
quoted_before None [] = codes ".entrypoint" ∷ codes ".locals" ∷ []
quoted_before (Some at) [] = codes ".locals" ∷ []

-- labels and instructions, at a place where the grammar quotes these words besides `.try`. A word before `:` is a label, whatever else it is
pub data AreLines : List (List ℕ) → List Lexeme → List WrittenLine → Type 0 where
  no_lines : (quoted : List (List ℕ)) → AreLines quoted [] []
  labelled : (quoted : List (List ℕ)) (l colon : Lexeme) (rest : List Lexeme) (lines : List WrittenLine) →
      IsName (codes ".try" ∷ quoted) l → Is (codes ":") colon → AreLines [] rest lines →
      AreLines quoted (l ∷ colon ∷ rest) (line.Label (name_at l) ∷ lines)
  instruction : (quoted : List (List ℕ)) (ws front back : List Lexeme) (i : WrittenInstr) (lines : List WrittenLine) →
      ws ≡ front ++ back → IsInstr front i → AreLines [] back lines → AreLines quoted ws (line.Instr i ∷ lines)

-- `label to label`
pub data IsRange : List Lexeme → WrittenName → WrittenName → Type 0 where
  range : (ws first last : List Lexeme) (to : Lexeme) (from end : WrittenName) → ws ≡ first ++ to ∷ last → IsLabel first from →
      Is (codes "to") to → IsLabel last end → IsRange ws from end

-- `try`
pub data IsClause : List Lexeme → WrittenClause → Type 0 where
  clause : (ws tried kind handled : List Lexeme) (word catch handler : Lexeme) (from to start end : WrittenName) (t : WrittenType) →
      ws ≡ word ∷ tried ++ catch ∷ kind ++ handler ∷ handled →
      Is (codes ".try") word → IsRange tried from to →
      Is (codes "catch") catch → IsType [] kind t →
      Is (codes "handler") handler → IsRange handled start end →
      IsClause ws (record { from = from; to = to; catches = t; handler = start; end = end })

-- `body`
pub data IsBody : List Lexeme → WrittenBody → Type 0 where
  body : (ws first second third fourth : List Lexeme) (entry : Option ℕ) (locals : List WrittenParam) (lines : List WrittenLine)
      (clauses : List WrittenClause) →
      ws ≡ first ++ second ++ third ++ fourth →
      IsEntry first entry → AreLocals second locals → AreLines (quoted_before entry locals) third lines → Many IsClause fourth clauses →
      IsBody ws (record { entry = entry; locals = locals; lines = lines; clauses = clauses })
