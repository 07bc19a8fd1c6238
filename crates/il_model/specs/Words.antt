-- The words that the grammar quotes, and what the shortest of them stand for. This project's own, after ILAsm.
use Rattle.std.specs.Prelude.{ℕ, List, [], ◌∷◌, ◌++◌, map, codes}
use Rattle.il_model.specs.declared.class.ClassKind.{ClassKind}
use Rattle.il_model.specs.declared.class.ClassKind.TheVariants as kind
use Rattle.il_model.specs.declared.written.WrittenType.{WrittenType}
use Rattle.il_model.specs.declared.written.WrittenType.TheVariants as w

-- the words that are a type by themselves
abbrev pub type_words : List (List ℕ × WrittenType)
type_words =
    (codes "int32", w.Int32) ∷ (codes "int64", w.Int64) ∷ (codes "bool", w.Bool) ∷ (codes "object", w.Object) ∷
    (codes "string", w.String) ∷ []

abbrev pub type_keywords : List (List ℕ)
type_keywords = map (λ row. row.0) type_words

-- the words that say what a class is; a class without one is plain
abbrev pub kind_words : List (List ℕ × ClassKind)
kind_words = (codes "abstract", kind.Abstract) ∷ (codes "interface", kind.Interface) ∷ (codes "struct", kind.Struct) ∷ []

-- the words that stand where a method's shape is written
abbrev pub shape_words : List (List ℕ)
shape_words = codes "static" ∷ codes "virtual" ∷ codes "newslot" ∷ codes "abstract" ∷ []

-- every quoted word of the grammar; none of them is the name of a class in its head
abbrev pub quoted_words : List (List ℕ)
quoted_words =
    codes ".class" ∷ codes "interface" ∷ codes "struct" ∷ codes "extends" ∷ codes "implements" ∷ codes ".field" ∷
    codes ".method" ∷ codes "void" ∷ codes ".entrypoint" ∷ codes ".locals" ∷ codes "init" ∷ codes ".try" ∷ codes "to" ∷
    codes "catch" ∷ codes "handler" ∷ codes "instance" ∷ shape_words ++ type_keywords
