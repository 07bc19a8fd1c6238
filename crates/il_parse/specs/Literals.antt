-- The literals of a program, as they are added one after another. This project's own.
use Rattle.std.specs.Prelude.{ℕ, if◌then◌else◌, List, [], ◌∷◌, ◌++◌, fold, flat_map}
use Rattle.il_model.specs.declared.written.WrittenLine.{WrittenLine}
use Rattle.il_model.specs.declared.written.WrittenLine.TheVariants as line
use Rattle.il_model.specs.declared.written.WrittenMember.{WrittenMember}
use Rattle.il_model.specs.declared.written.WrittenMember.TheVariants as member
use Rattle.il_model.specs.declared.written.WrittenClass.{WrittenClass}
use Rattle.il_model.specs.Lexemes.{is_among}
use Rattle.il_model.specs.LookUp.{texts_of, texts_of_method}

-- a literal at the end, unless it is there
abbrev pub with_text : List (List ℕ) → List ℕ → List (List ℕ)
with_text met text = if is_among met text then met else met ++ text ∷ []

abbrev pub with_texts : List (List ℕ) → List (List ℕ) → List (List ℕ)
with_texts met texts = fold with_text met texts

abbrev pub texts_of_line : WrittenLine → List (List ℕ)
texts_of_line (line.Label name) = []
texts_of_line (line.Instr i) = texts_of i.operand

abbrev pub texts_of_member : WrittenMember → List (List ℕ)
texts_of_member (member.Field f) = []
texts_of_member (member.Method m) = texts_of_method m

abbrev pub texts_of_class : WrittenClass → List (List ℕ)
texts_of_class c = flat_map texts_of_member c.members
