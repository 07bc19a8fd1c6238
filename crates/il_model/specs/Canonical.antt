-- The canonical text of a program: one function for each construct of the grammar, in its order. This project's own.
use Rattle.std.specs.Prelude.{ℕ, zero, suc, ◌+◌, ◌*◌, Bool, ◌||◌, ◌==◌, sum_by, List, [], ◌∷◌, ◌++◌, length, map, flat_map, drop, replicate, codes, decimal, slice_get, unwrap_or, Option, Some, None, position, bytes_eq, if◌then◌else◌}
use Rattle.std.specs.List.{list_any}
use Rattle.std.specs.Fmt.{signed_decimal}
use Rattle.type_tree.specs.declared.tree.TExpr.{TExpr}
use Rattle.type_tree.specs.declared.tree.TNode.{TNode}
use Rattle.type_tree.specs.declared.tree.TNode.TheVariants.{Node, ClassVar, MethodVar}
use Rattle.type_tree.specs.Tree.{folded}
use Rattle.type_tree.specs.Printed.{level_printed}
use Rattle.il_model.specs.declared.class.ClassKind.{ClassKind}
use Rattle.il_model.specs.declared.class.ClassKind.TheVariants as kind
use Rattle.il_model.specs.declared.class.VarDef.{VarDef}
use Rattle.il_model.specs.declared.class.FieldDef.{FieldDef}
use Rattle.il_model.specs.declared.class.ClassDef.{ClassDef}
use Rattle.il_model.specs.declared.method.Shape.{Shape}
use Rattle.il_model.specs.declared.method.Shape.TheVariants as shape
use Rattle.il_model.specs.declared.method.PType.{PType}
use Rattle.il_model.specs.declared.method.PType.TheVariants as ptype
use Rattle.il_model.specs.declared.method.Sort.{Sort}
use Rattle.il_model.specs.declared.method.Sort.TheVariants as sort
use Rattle.il_model.specs.declared.method.Clause.{Clause}
use Rattle.il_model.specs.declared.method.Body.{Body}
use Rattle.il_model.specs.declared.method.MethodDef.{MethodDef}
use Rattle.il_model.specs.declared.member.MRef.{MRef}
use Rattle.il_model.specs.declared.member.FRef.{FRef}
use Rattle.il_model.specs.declared.op.Op.{Op}
use Rattle.il_model.specs.declared.program.Program.{Program}
use Rattle.il_model.specs.Forms.{FormWord, word, library_call, no_text, word_of}
use Rattle.il_model.specs.Ops.{Operand, nothing, int32, int64, literal, place, target, targets, type, method, field, constrained, form_of, operand_of}
use Rattle.il_model.specs.Library.{library_classes}

-- what is spelled: the bytes of a token or of a type
abbrev pub Word : Type 0
Word = List ℕ

-- ---- lines

abbrev pub comma : Word
comma = codes ","

-- behind a word: one space and the next one, but no space before a comma
abbrev pub spaced_after : List Word → List ℕ
spaced_after [] = []
spaced_after (w ∷ ws) = (if bytes_eq w comma then w else 32 ∷ w) ++ spaced_after ws

abbrev pub spaced : List Word → List ℕ
spaced [] = []
spaced (w ∷ ws) = w ++ spaced_after ws

-- how many bytes these are
abbrev pub spaced_after_len : List Word → ℕ
spaced_after_len [] = 0
spaced_after_len (w ∷ ws) = (if bytes_eq w comma then length w else 1 + length w) + spaced_after_len ws

abbrev pub spaced_len : List Word → ℕ
spaced_len [] = 0
spaced_len (w ∷ ws) = length w + spaced_after_len ws

-- a line of the text: its level and its words
pub record Line : Type 0 where
  pub level : ℕ
  pub words : List Word

abbrev pub line : ℕ → List Word → List Line
line level ws = record { level = level; words = ws } ∷ []

-- a line's bytes: two spaces for each level, the words, the end of the line
abbrev pub line_text : Line → List ℕ
line_text l = replicate (2 * l.level) 32 ++ spaced l.words ++ 10 ∷ []

abbrev pub line_len : Line → ℕ
line_len l = 2 * l.level + spaced_len l.words + 1

-- the parts with a mark between each two
abbrev pub between : Word → List (List Word) → List Word
between mark [] = []
between mark (part ∷ []) = part
between mark (part ∷ next ∷ parts) = part ++ mark ∷ between mark (next ∷ parts)

-- ---- types, by the names of the classes

-- with arguments, `object` and `string` go by the names that the library has for them
abbrev pub long_names : List Word → List Word
long_names (first ∷ second ∷ names) = codes "System.Object" ∷ codes "System.String" ∷ names
long_names (first ∷ []) = first ∷ []
long_names [] = []

abbrev pub level_text : List Word → TNode Word → Word
level_text names (Node head []) = level_printed names (Node head [])
level_text names (Node head (part ∷ parts)) = level_printed (long_names names) (Node head (part ∷ parts))
level_text names (ClassVar n) = level_printed names (ClassVar n)
level_text names (MethodVar n) = level_printed names (MethodVar n)

abbrev pub type_text : List Word → TExpr → Word
type_text names = folded (level_text names)

-- `var` and `vars`
abbrev pub bound_words : List Word → List TExpr → List Word
bound_words names [] = []
bound_words names (t ∷ ts) = codes ":" ∷ between (codes "&") (map (λ bound. type_text names bound ∷ []) (t ∷ ts))

abbrev pub var_words : List Word → VarDef → List Word
var_words names v = v.name ∷ bound_words names v.bounds

-- the parts between angle brackets, where there are any
abbrev pub angled_words : List (List Word) → List Word
angled_words [] = []
angled_words (part ∷ parts) = codes "<" ∷ between comma (part ∷ parts) ++ codes ">" ∷ []

abbrev pub vars_words : List Word → List VarDef → List Word
vars_words names vs = angled_words (map (var_words names) vs)

-- `ptype`; no text gives a native int
abbrev pub param_words : List Word → PType → List Word
param_words names (ptype.Value t) = type_text names t ∷ []
param_words names (ptype.Pointer t) = type_text names t ∷ codes "&" ∷ []
param_words names ptype.Native = []

abbrev pub params_words : List Word → List PType → List Word
params_words names ps = codes "(" ∷ between comma (map (param_words names) ps) ++ codes ")" ∷ []

abbrev pub result_word : List Word → Option TExpr → Word
result_word names None = codes "void"
result_word names (Some t) = type_text names t

-- ---- members as instructions name them

abbrev pub method_ref_words : List Word → MRef → List Word
method_ref_words names m =
    (if m.instance then codes "instance" ∷ [] else []) ++ result_word names m.result ∷ type_text names m.class ∷ codes "::" ∷ m.name ∷
    angled_words (map (λ t. type_text names t ∷ []) m.args) ++ params_words names m.params

abbrev pub field_ref_words : List Word → FRef → List Word
field_ref_words names f = type_text names f.kind ∷ type_text names f.class ∷ codes "::" ∷ f.name ∷ []

-- ---- instructions

-- a byte of a literal, behind `\` where it needs one
abbrev pub escaped : ℕ → List ℕ
escaped b = if b == 10 then 92 ∷ 110 ∷ [] else (if b == 9 then 92 ∷ 116 ∷ [] else (if (b == 34) || (b == 92) then 92 ∷ b ∷ [] else b ∷ []))

abbrev pub literal_text : List ℕ → Word
literal_text bytes = 34 ∷ flat_map escaped bytes ++ 34 ∷ []

-- the name of the label before an instruction, from the places that have one, in rising order
abbrev pub label_text : List ℕ → ℕ → Word
label_text places to = codes "L" ++ decimal (unwrap_or (position (λ at. at == to) places) 0)

-- what is needed to print a body: the classes' names, the literals, and the places that have a label
pub record Printing : Type 0 where
  pub names : List Word
  pub literals : List (List ℕ)
  pub places : List ℕ

abbrev pub operand_words : Printing → Operand → List Word
operand_words p nothing = []
operand_words p (int32 n) = signed_decimal n ∷ []
operand_words p (int64 n) = signed_decimal n ∷ []
operand_words p (literal number) = literal_text (unwrap_or (slice_get p.literals number) []) ∷ []
operand_words p (place number) = decimal number ∷ []
operand_words p (target to) = label_text p.places to ∷ []
operand_words p (targets to) = codes "(" ∷ between comma (map (λ n. label_text p.places n ∷ []) to) ++ codes ")" ∷ []
operand_words p (type t) = type_text p.names t ∷ []
operand_words p (method m) = method_ref_words p.names m
operand_words p (field f) = field_ref_words p.names f
operand_words p (constrained t m) = type_text p.names t ∷ codes "callvirt" ∷ method_ref_words p.names m

-- the words of an instruction, by how its form is spelled
abbrev pub form_words : FormWord → List Word → List Word
form_words (word w) operand = w ∷ operand
form_words (library_call first last) operand = codes "call" ∷ first ++ operand ++ last
form_words no_text operand = []

abbrev pub op_words : Printing → Op → List Word
op_words p op = form_words (word_of (form_of op)) (operand_words p (operand_of op))

-- ---- bodies

-- the places that an instruction names
abbrev pub targets_of : Operand → List ℕ
targets_of nothing = []
targets_of (int32 n) = []
targets_of (int64 n) = []
targets_of (literal number) = []
targets_of (place number) = []
targets_of (target to) = to ∷ []
targets_of (targets to) = to
targets_of (type t) = []
targets_of (method m) = []
targets_of (field f) = []
targets_of (constrained t m) = []

abbrev pub ends_of : Clause → List ℕ
ends_of c = c.from ∷ c.to ∷ c.handler ∷ c.end ∷ []

-- whether an instruction or a clause of the body names this place
abbrev pub is_named : Body → ℕ → Bool
is_named b at = list_any (λ op. list_any (λ to. to == at) (targets_of (operand_of op))) b.code ||
    list_any (λ c. list_any (λ to. to == at) (ends_of c)) b.clauses

-- so many numbers from this one on that pass the test
abbrev pub passing : (ℕ → Bool) → ℕ → ℕ → List ℕ
passing test zero from = []
passing test (suc count) from = if test from then from ∷ passing test count (from + 1) else passing test count (from + 1)

-- the places that have a label, in rising order: those that are named, from 0 up to the end of the body
abbrev pub places_of : Body → List ℕ
places_of b = passing (is_named b) (length b.code + 1) 0

abbrev pub label_line : Printing → ℕ → List Line
label_line p at = if list_any (λ to. to == at) p.places then line 2 (label_text p.places at ∷ codes ":" ∷ []) else []

-- the instructions from this place on, each behind its label, and the label of the end
abbrev pub code_lines : Printing → ℕ → List Op → List Line
code_lines p at [] = label_line p at
code_lines p at (op ∷ ops) = label_line p at ++ line 2 (op_words p op) ++ code_lines p (at + 1) ops

abbrev pub locals_line : List Word → List PType → List Line
locals_line names [] = []
locals_line names (first ∷ rest) = line 2 (codes ".locals" ∷ codes "init" ∷ params_words names (first ∷ rest))

-- `try`; no text gives a clause that catches nothing
abbrev pub clause_words : Printing → Clause → Sort → List Word
clause_words p c (sort.Catch t) =
    codes ".try" ∷ label_text p.places c.from ∷ codes "to" ∷ label_text p.places c.to ∷ codes "catch" ∷ type_text p.names t ∷
    codes "handler" ∷ label_text p.places c.handler ∷ codes "to" ∷ label_text p.places c.end ∷ []
clause_words p c sort.Finally = []

abbrev pub clause_lines : Printing → List Clause → List Line
clause_lines p [] = []
clause_lines p (c ∷ cs) = line 2 (clause_words p c c.sort) ++ clause_lines p cs

-- `body`, of the method that has the entry point or of another
abbrev pub body_lines : List Word → List (List ℕ) → Bool → Body → List Line
body_lines names literals is_entry b =
    let p : Printing = record { names = names; literals = literals; places = places_of b } in
    (if is_entry then line 2 (codes ".entrypoint" ∷ []) else []) ++ locals_line names b.locals ++ code_lines p 0 b.code ++ clause_lines p b.clauses

-- ---- members and classes

abbrev pub field_line : List Word → FieldDef → List Line
field_line names f = line 1 (codes ".field" ∷ (if f.fixed then codes "static" ∷ [] else []) ++ type_text names f.kind ∷ f.name ∷ [])

abbrev pub shape_text : Shape → List Word
shape_text shape.Fixed = codes "static" ∷ []
shape_text shape.Instance = []
shape_text shape.Virtual = codes "virtual" ∷ []
shape_text shape.NewSlot = codes "newslot" ∷ codes "virtual" ∷ []
shape_text shape.Abstract = codes "abstract" ∷ []

abbrev pub method_head : List Word → MethodDef → List Word
method_head names m =
    codes ".method" ∷ shape_text m.shape ++ result_word names m.result ∷ m.name ∷ vars_words names m.vars ++ params_words names m.params

-- a method, behind whose head stands `;` or its body
abbrev pub bodied_lines : List Word → List (List ℕ) → Bool → List Word → Option Body → List Line
bodied_lines names literals is_entry head None = line 1 (head ++ codes ";" ∷ [])
bodied_lines names literals is_entry head (Some b) =
    line 1 (head ++ codes "{" ∷ []) ++ body_lines names literals is_entry b ++ line 1 (codes "}" ∷ [])

abbrev pub numbered_lines : Program → List Word → ℕ → Option MethodDef → List Line
numbered_lines p names number None = []
numbered_lines p names number (Some m) = bodied_lines names p.literals (number == p.main) (method_head names m) m.body

abbrev pub method_lines : Program → List Word → ℕ → List Line
method_lines p names number = numbered_lines p names number (slice_get p.methods number)

abbrev pub kind_text : ClassKind → List Word
kind_text kind.Plain = []
kind_text kind.Abstract = codes "abstract" ∷ []
kind_text kind.Interface = codes "interface" ∷ []
kind_text kind.Struct = codes "struct" ∷ []
kind_text kind.Delegate = []

-- the base, where it isn't `object`
abbrev pub base_words : List Word → Option TExpr → List Word
base_words names None = []
base_words names (Some t) = if bytes_eq (type_text names t) (codes "object") then [] else codes "extends" ∷ type_text names t ∷ []

abbrev pub interfaces_words : List Word → List TExpr → List Word
interfaces_words names [] = []
interfaces_words names (t ∷ ts) = codes "implements" ∷ between comma (map (λ each. type_text names each ∷ []) (t ∷ ts))

-- a class: its head, its fields, its methods
abbrev pub class_lines : Program → List Word → ClassDef → List Line
class_lines p names c =
    line 0 (codes ".class" ∷ kind_text c.kind ++ c.name ∷ vars_words names c.vars ++ base_words names c.base ++
    interfaces_words names c.interfaces ++ codes "{" ∷ []) ++
    flat_map (field_line names) c.fields ++ flat_map (method_lines p names) c.methods ++ line 0 (codes "}" ∷ [])

-- `program`: the classes behind those of the library
abbrev pub program_lines : Program → List Line
program_lines p = flat_map (class_lines p (map (λ c. c.name) p.classes)) (drop (length library_classes) p.classes)

abbrev pub canonical_text : Program → List ℕ
canonical_text p = flat_map line_text (program_lines p)

-- how many bytes the canonical text has, from the words alone
abbrev pub canonical_len : Program → ℕ
canonical_len p = sum_by line_len (program_lines p)
