-- The keys of a canonical text: each token's kind and bytes, its place left aside. One function for each construct, in the shape of its words.
use Rattle.std.specs.Prelude.{ℕ, ◌+◌, ◌==◌, Bool, List, [], ◌∷◌, ◌++◌, length, map, flat_map, drop, codes, decimal, slice_get, unwrap_or, Option, Some, None, bytes_eq, if◌then◌else◌}
use Rattle.std.specs.List.{list_any}
use Rattle.std.specs.Fmt.{signed_decimal}
use Rattle.type_tree.specs.declared.tree.Head.{Head}
use Rattle.type_tree.specs.declared.tree.Head.TheVariants as head
use Rattle.type_tree.specs.declared.tree.TExpr.{TExpr}
use Rattle.type_tree.specs.declared.tree.TNode.{TNode}
use Rattle.type_tree.specs.declared.tree.TNode.TheVariants.{Node, ClassVar, MethodVar}
use Rattle.type_tree.specs.Tree.{folded}
use Rattle.type_tree.specs.Printed.{class_name}
use Rattle.il_text.specs.declared.token.TokenKind.{TokenKind}
use Rattle.il_text.specs.declared.token.TokenKind.TheVariants as token
use Rattle.il_text.specs.Fronts.{kind_for}
use Rattle.il_model.specs.declared.class.ClassDef.{ClassDef}
use Rattle.il_model.specs.declared.class.FieldDef.{FieldDef}
use Rattle.il_model.specs.declared.class.VarDef.{VarDef}
use Rattle.il_model.specs.declared.method.PType.{PType}
use Rattle.il_model.specs.declared.method.PType.TheVariants as ptype
use Rattle.il_model.specs.declared.method.Sort.{Sort}
use Rattle.il_model.specs.declared.method.Sort.TheVariants as sort
use Rattle.il_model.specs.declared.method.Clause.{Clause}
use Rattle.il_model.specs.declared.method.Body.{Body}
use Rattle.il_model.specs.declared.method.MethodDef.{MethodDef}
use Rattle.il_model.specs.declared.member.MRef.{MRef}
use Rattle.il_model.specs.declared.member.FRef.{FRef}
use Rattle.il_model.specs.declared.op.Op.{Op}
use Rattle.il_model.specs.declared.program.Program.{Program}
use Rattle.il_model.specs.Lexemes.{Lexeme}
use Rattle.il_model.specs.Forms.{FormWord, word, library_call, no_text, word_of}
use Rattle.il_model.specs.Ops.{Operand, nothing, int32, int64, literal, place, target, targets, type, method, field, constrained, form_of, operand_of}
use Rattle.il_model.specs.Library.{library_classes}
use Rattle.il_model.specs.Canonical.{Word, Printing, long_names, type_text, literal_text, label_text, places_of, shape_text, kind_text}

-- a token without its place
pub record Key : Type 0 where
  pub kind : TokenKind
  pub bytes : List ℕ

abbrev pub key_of : Lexeme → Key
key_of l = record { kind = l.kind; bytes = l.bytes }

-- a word or a mark that the grammar quotes
abbrev pub kind_of : Word → TokenKind
kind_of [] = token.Mark
kind_of (b ∷ bs) = kind_for b

abbrev pub quoted : Word → Key
quoted w = record { kind = kind_of w; bytes = w }

abbrev pub all_quoted : List Word → List Key
all_quoted ws = map quoted ws

-- a name, a label, a number, a variable, a literal
abbrev pub name_key : Word → Key
name_key w = record { kind = token.Word; bytes = w }

abbrev pub number_key : Word → Key
number_key w = record { kind = token.Number; bytes = w }

abbrev pub variable_key : Word → Key
variable_key w = record { kind = token.Variable; bytes = w }

abbrev pub literal_key : Word → Key
literal_key w = record { kind = token.Text; bytes = w }

-- the parts with a mark between each two
abbrev pub keys_between : Word → List (List Key) → List Key
keys_between mark [] = []
keys_between mark (part ∷ []) = part
keys_between mark (part ∷ next ∷ parts) = part ++ quoted mark ∷ keys_between mark (next ∷ parts)

-- the parts between angle brackets, where there are any
abbrev pub angled_keys : List (List Key) → List Key
angled_keys [] = []
angled_keys (part ∷ parts) = quoted (codes "<") ∷ keys_between (codes ",") (part ∷ parts) ++ quoted (codes ">") ∷ []

-- ---- types, by the names of the classes

abbrev pub head_keys : List Word → Head → List (List Key) → List Key
head_keys names head.Int32 parts = quoted (codes "int32") ∷ angled_keys parts
head_keys names head.Int64 parts = quoted (codes "int64") ∷ angled_keys parts
head_keys names head.Bool parts = quoted (codes "bool") ∷ angled_keys parts
head_keys names head.Vector parts = keys_between (codes ",") parts ++ quoted (codes "[]") ∷ []
head_keys names (head.Class number) parts = name_key (class_name names number) ∷ angled_keys parts

abbrev pub level_keys : List Word → TNode (List Key) → List Key
level_keys names (Node head []) = head_keys names head []
level_keys names (Node head (part ∷ parts)) = head_keys (long_names names) head (part ∷ parts)
level_keys names (ClassVar n) = variable_key (codes "!" ++ decimal n) ∷ []
level_keys names (MethodVar n) = variable_key (codes "!!" ++ decimal n) ∷ []

abbrev pub type_keys : List Word → TExpr → List Key
type_keys names = folded (level_keys names)

-- `var` and `vars`
abbrev pub bound_keys : List Word → List TExpr → List Key
bound_keys names [] = []
bound_keys names (t ∷ ts) = quoted (codes ":") ∷ keys_between (codes "&") (map (type_keys names) (t ∷ ts))

abbrev pub var_keys : List Word → VarDef → List Key
var_keys names v = name_key v.name ∷ bound_keys names v.bounds

abbrev pub vars_keys : List Word → List VarDef → List Key
vars_keys names vs = angled_keys (map (var_keys names) vs)

-- `ptype`
abbrev pub param_keys : List Word → PType → List Key
param_keys names (ptype.Value t) = type_keys names t
param_keys names (ptype.Pointer t) = type_keys names t ++ quoted (codes "&") ∷ []
param_keys names ptype.Native = []

abbrev pub params_keys : List Word → List PType → List Key
params_keys names ps = quoted (codes "(") ∷ keys_between (codes ",") (map (param_keys names) ps) ++ quoted (codes ")") ∷ []

abbrev pub result_keys : List Word → Option TExpr → List Key
result_keys names None = quoted (codes "void") ∷ []
result_keys names (Some t) = type_keys names t

-- ---- members as instructions name them

abbrev pub method_ref_keys : List Word → MRef → List Key
method_ref_keys names m =
    (if m.instance then quoted (codes "instance") ∷ [] else []) ++ result_keys names m.result ++ type_keys names m.class ++
    quoted (codes "::") ∷ name_key m.name ∷ angled_keys (map (type_keys names) m.args) ++ params_keys names m.params

abbrev pub field_ref_keys : List Word → FRef → List Key
field_ref_keys names f = type_keys names f.kind ++ type_keys names f.class ++ quoted (codes "::") ∷ name_key f.name ∷ []

-- ---- instructions

abbrev pub label_key : List ℕ → ℕ → Key
label_key places to = name_key (label_text places to)

abbrev pub operand_keys : Printing → Operand → List Key
operand_keys p nothing = []
operand_keys p (int32 n) = number_key (signed_decimal n) ∷ []
operand_keys p (int64 n) = number_key (signed_decimal n) ∷ []
operand_keys p (literal number) = literal_key (literal_text (unwrap_or (slice_get p.literals number) [])) ∷ []
operand_keys p (place number) = number_key (decimal number) ∷ []
operand_keys p (target to) = label_key p.places to ∷ []
operand_keys p (targets to) = quoted (codes "(") ∷ keys_between (codes ",") (map (λ n. label_key p.places n ∷ []) to) ++ quoted (codes ")") ∷ []
operand_keys p (type t) = type_keys p.names t
operand_keys p (method m) = method_ref_keys p.names m
operand_keys p (field f) = field_ref_keys p.names f
operand_keys p (constrained t m) = type_keys p.names t ++ quoted (codes "callvirt") ∷ method_ref_keys p.names m

-- an instruction, by how its form is spelled
abbrev pub form_keys : FormWord → List Key → List Key
form_keys (word w) operand = quoted w ∷ operand
form_keys (library_call first last) operand = quoted (codes "call") ∷ all_quoted first ++ operand ++ all_quoted last
form_keys no_text operand = []

abbrev pub op_keys : Printing → Op → List Key
op_keys p op = form_keys (word_of (form_of op)) (operand_keys p (operand_of op))

-- ---- bodies

abbrev pub label_line_keys : Printing → ℕ → List Key
label_line_keys p at = if list_any (λ to. to == at) p.places then label_key p.places at ∷ quoted (codes ":") ∷ [] else []

-- the instructions from this place on, each behind its label, and the label of the end
abbrev pub code_keys : Printing → ℕ → List Op → List Key
code_keys p at [] = label_line_keys p at
code_keys p at (op ∷ ops) = label_line_keys p at ++ op_keys p op ++ code_keys p (at + 1) ops

abbrev pub locals_keys : List Word → List PType → List Key
locals_keys names [] = []
locals_keys names (first ∷ rest) = quoted (codes ".locals") ∷ quoted (codes "init") ∷ params_keys names (first ∷ rest)

-- `try`
abbrev pub clause_keys : Printing → Clause → Sort → List Key
clause_keys p c (sort.Catch t) =
    quoted (codes ".try") ∷ label_key p.places c.from ∷ quoted (codes "to") ∷ label_key p.places c.to ∷ quoted (codes "catch") ∷
    type_keys p.names t ++
    quoted (codes "handler") ∷ label_key p.places c.handler ∷ quoted (codes "to") ∷ label_key p.places c.end ∷ []
clause_keys p c sort.Finally = []

abbrev pub clauses_keys : Printing → List Clause → List Key
clauses_keys p cs = flat_map (λ c. clause_keys p c c.sort) cs

abbrev pub entry_keys : Bool → List Key
entry_keys is_entry = if is_entry then quoted (codes ".entrypoint") ∷ [] else []

-- what a body is printed with
abbrev pub printing_of : List Word → List (List ℕ) → Body → Printing
printing_of names literals b = record { names = names; literals = literals; places = places_of b }

-- `body`, of the method that has the entry point or of another
abbrev pub body_keys : List Word → List (List ℕ) → Bool → Body → List Key
body_keys names literals is_entry b =
    entry_keys is_entry ++ locals_keys names b.locals ++ code_keys (printing_of names literals b) 0 b.code ++
    clauses_keys (printing_of names literals b) b.clauses

-- ---- members and classes

abbrev pub field_keys : List Word → FieldDef → List Key
field_keys names f =
    quoted (codes ".field") ∷ (if f.fixed then quoted (codes "static") ∷ [] else []) ++ type_keys names f.kind ++ name_key f.name ∷ []

abbrev pub method_head_keys : List Word → MethodDef → List Key
method_head_keys names m =
    quoted (codes ".method") ∷ all_quoted (shape_text m.shape) ++ result_keys names m.result ++ name_key m.name ∷ vars_keys names m.vars ++
    params_keys names m.params

-- `;`, or a body in braces
abbrev pub bodied_keys : List Word → List (List ℕ) → Bool → Option Body → List Key
bodied_keys names literals is_entry None = quoted (codes ";") ∷ []
bodied_keys names literals is_entry (Some b) = quoted (codes "{") ∷ body_keys names literals is_entry b ++ quoted (codes "}") ∷ []

-- `method`
abbrev pub method_keys : List Word → List (List ℕ) → Bool → MethodDef → List Key
method_keys names literals is_entry m = method_head_keys names m ++ bodied_keys names literals is_entry m.body

abbrev pub numbered_keys : Program → List Word → ℕ → Option MethodDef → List Key
numbered_keys p names number None = []
numbered_keys p names number (Some m) = method_keys names p.literals (number == p.main) m

abbrev pub methods_keys : Program → List Word → List ℕ → List Key
methods_keys p names numbers = flat_map (λ number. numbered_keys p names number (slice_get p.methods number)) numbers

-- the base, where it isn't `object`
abbrev pub base_keys : List Word → Option TExpr → List Key
base_keys names None = []
base_keys names (Some t) = if bytes_eq (type_text names t) (codes "object") then [] else quoted (codes "extends") ∷ type_keys names t

abbrev pub interfaces_keys : List Word → List TExpr → List Key
interfaces_keys names [] = []
interfaces_keys names (t ∷ ts) = quoted (codes "implements") ∷ keys_between (codes ",") (map (type_keys names) (t ∷ ts))

-- what stands before a class's `{`
abbrev pub class_head_keys : List Word → ClassDef → List Key
class_head_keys names c =
    quoted (codes ".class") ∷ all_quoted (kind_text c.kind) ++ name_key c.name ∷ vars_keys names c.vars ++ base_keys names c.base ++
    interfaces_keys names c.interfaces

-- `class`
abbrev pub class_keys : Program → List Word → ClassDef → List Key
class_keys p names c =
    class_head_keys names c ++ quoted (codes "{") ∷ flat_map (field_keys names) c.fields ++ methods_keys p names c.methods ++
    quoted (codes "}") ∷ []

-- `program`: the classes behind those of the library
abbrev pub program_keys : Program → List Key
program_keys p = flat_map (class_keys p (map (λ c. c.name) p.classes)) (drop (length library_classes) p.classes)
