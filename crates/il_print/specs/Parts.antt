-- Parts of what is printed, as the definitions of the canonical text have them. This project's own.
use Rattle.std.specs.Prelude.{ℕ, List, [], ◌∷◌, ◌++◌, map, flat_map, codes}
use Rattle.il_model.specs.declared.class.ClassDef.{ClassDef}
use Rattle.il_model.specs.declared.method.MethodDef.{MethodDef}
use Rattle.il_model.specs.declared.member.MRef.{MRef}
use Rattle.il_model.specs.Canonical.{Word, Line, line_text, kind_text, vars_words, base_words, interfaces_words, result_word, type_text, angled_words}

-- of a method as it is named: the result, the class, the name and the type arguments
abbrev pub named_method_words : List Word → MRef → List Word
named_method_words names m =
    result_word names m.result ∷ type_text names m.class ∷ codes "::" ∷ m.name ∷ angled_words (map (λ t. type_text names t ∷ []) m.args)

-- of a method as it is defined: the result, the name and the type variables
abbrev pub named_words : List Word → MethodDef → List Word
named_words names m = result_word names m.result ∷ m.name ∷ vars_words names m.vars

-- of a class: the name and the type variables; its head
abbrev pub named_class_words : List Word → ClassDef → List Word
named_class_words names c = c.name ∷ vars_words names c.vars

abbrev pub class_head : List Word → ClassDef → List Word
class_head names c =
    codes ".class" ∷ kind_text c.kind ++ c.name ∷ vars_words names c.vars ++ base_words names c.base ++
    interfaces_words names c.interfaces ++ codes "{" ∷ []

-- the bytes of these lines
abbrev pub lines_text : List Line → List ℕ
lines_text lines = flat_map line_text lines
