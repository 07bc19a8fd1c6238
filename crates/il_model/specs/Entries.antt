-- What each instruction, each method and each class fetches from its runtime generic context. This project's own.
use Rattle.std.specs.Prelude.{ℕ, zero, suc, ◌==◌, Bool, true, false, ◌&&◌, if◌then◌else◌, List, [], ◌∷◌, ◌++◌, map, flat_map, Option, Some, None, option_to_list}
use Rattle.std.specs.List.{list_any}
use Rattle.std.specs.Cmp.Lexicographic.{pointwise}
use Rattle.type_tree.specs.declared.tree.TExpr.{TExpr}
use Rattle.type_tree.specs.declared.tree.TNode.{TNode}
use Rattle.type_tree.specs.declared.tree.TNode.TheVariants.{Node, ClassVar, MethodVar}
use Rattle.type_tree.specs.declared.tree.Head.TheVariants as head
use Rattle.type_tree.specs.Tree.{top_of, node}
use Rattle.type_tree.specs.Substitution.{substituted}
use Rattle.type_tree.specs.Same.{is_same}
use Rattle.il_model.specs.declared.method.Shape.{Shape}
use Rattle.il_model.specs.declared.method.Shape.TheVariants as shape
use Rattle.il_model.specs.declared.method.Sort.{Sort}
use Rattle.il_model.specs.declared.method.Sort.TheVariants as sort
use Rattle.il_model.specs.declared.method.Clause.{Clause}
use Rattle.il_model.specs.declared.method.Body.{Body}
use Rattle.il_model.specs.declared.method.MethodDef.{MethodDef}
use Rattle.il_model.specs.declared.member.MRef.{MRef}
use Rattle.il_model.specs.declared.member.FRef.{FRef}
use Rattle.il_model.specs.declared.op.Op.{Op}
use Rattle.il_model.specs.declared.op.Op.TheVariants as op
use Rattle.il_model.specs.declared.entry.Entry.{Entry}
use Rattle.il_model.specs.declared.entry.Entry.TheVariants as entry
use Rattle.il_model.specs.declared.entry.Def.{Def}
use Rattle.il_model.specs.declared.entry.Def.TheVariants as def
use Rattle.il_model.specs.declared.program.Program.{Program}
use Rattle.il_model.specs.Kinds.{is_reference}
use Rattle.il_model.specs.Found.{method_at, method_found, field_found}

abbrev pub arguments_at : TNode TExpr → List TExpr
arguments_at (Node h parts) = parts
arguments_at (ClassVar n) = []
arguments_at (MethodVar n) = []

-- the arguments of a type; a variable has none
abbrev pub arguments_of : TExpr → List TExpr
arguments_of t = arguments_at (top_of t)

-- the vector type with these elements
abbrev pub vector_of : TExpr → TExpr
vector_of t = node head.Vector (t ∷ [])

-- the size of a type's value, which is fetched unless the type is a reference type
abbrev pub size_entries : Program → TExpr → List Entry
size_entries program t = if is_reference program t then [] else (entry.Size t ∷ [])

-- what an instruction on a type fetches
abbrev pub type_entries : Program → TExpr → List Entry
type_entries program t = entry.Kind t ∷ size_entries program t

-- what `newarr` fetches
abbrev pub vector_entries : Program → TExpr → List Entry
vector_entries program t = entry.Kind (vector_of t) ∷ size_entries program t

-- the type of a field as the instruction sees it: the class's arguments put for its variables
abbrev pub field_type : FRef → TExpr
field_type f = substituted (arguments_of f.class) [] f.kind

-- what an instruction on a field fetches, where the field stands at this place of its class
abbrev pub field_entries_at : Program → FRef → Option ℕ → List Entry
field_entries_at program f (Some place) = entry.Kind f.class ∷ entry.Offset f.class place ∷ size_entries program (field_type f)
field_entries_at program f None = []

abbrev pub field_entries : Program → FRef → List Entry
field_entries program f = field_entries_at program f (field_found program f)

-- the method with this number, of the class and at the arguments that are named
abbrev pub method_entry : MRef → ℕ → Entry
method_entry m number = entry.Method number m.class m.args

-- whether a method has a slot
abbrev pub has_slot : Shape → Bool
has_slot shape.Fixed = false
has_slot shape.Instance = false
has_slot shape.Virtual = true
has_slot shape.NewSlot = true
has_slot shape.Abstract = true

abbrev pub has_slot_in : Option MethodDef → Bool
has_slot_in (Some m) = has_slot m.shape
has_slot_in None = false

-- what `call` fetches
abbrev pub call_entries : Program → MRef → List Entry
call_entries program m = map (method_entry m) (option_to_list (method_found program m))

-- what `callvirt` fetches of the method with this number: the type alone where the method has a slot
abbrev pub callvirt_entry : Program → MRef → ℕ → Entry
callvirt_entry program m number = if has_slot_in (method_at program number) then entry.Kind m.class else method_entry m number

abbrev pub callvirt_entries : Program → MRef → List Entry
callvirt_entries program m = map (callvirt_entry program m) (option_to_list (method_found program m))

-- what `newobj` fetches of the constructor with this number
abbrev pub new_entries_at : MRef → ℕ → List Entry
new_entries_at m number = method_entry m number ∷ entry.Kind m.class ∷ entry.Extent m.class ∷ []

abbrev pub new_entries : Program → MRef → List Entry
new_entries program m = flat_map (new_entries_at m) (option_to_list (method_found program m))

-- what `constrained.` and its `callvirt` fetch
abbrev pub constrained_entries : Program → TExpr → MRef → List Entry
constrained_entries program t m = type_entries program t ++ entry.Kind m.class ∷ []

-- what an instruction mentions: a type, a type's number alone, the vector type of a type, a field, or a method in one of four ways
pub data Mention : Type 0 where
  nothing : Mention
  type : TExpr → Mention
  kind : TExpr → Mention
  vector : TExpr → Mention
  field : FRef → Mention
  call : MRef → Mention
  virtual_call : MRef → Mention
  constrained : TExpr → MRef → Mention
  new : MRef → Mention

abbrev pub mention_of : Op → Mention
mention_of op.Nop = nothing
mention_of op.Dup = nothing
mention_of op.Pop = nothing
mention_of (op.LdcI4 n) = nothing
mention_of (op.LdcI8 n) = nothing
mention_of op.Ldnull = nothing
mention_of (op.Ldstr n) = nothing
mention_of (op.Ldarg n) = nothing
mention_of (op.Ldloc n) = nothing
mention_of (op.Ldarga n) = nothing
mention_of (op.Ldloca n) = nothing
mention_of (op.Starg n) = nothing
mention_of (op.Stloc n) = nothing
mention_of op.Add = nothing
mention_of op.Sub = nothing
mention_of op.Mul = nothing
mention_of op.And = nothing
mention_of op.Or = nothing
mention_of op.Xor = nothing
mention_of op.AddOvf = nothing
mention_of op.SubOvf = nothing
mention_of op.MulOvf = nothing
mention_of op.AddOvfUn = nothing
mention_of op.SubOvfUn = nothing
mention_of op.MulOvfUn = nothing
mention_of op.Div = nothing
mention_of op.Rem = nothing
mention_of op.DivUn = nothing
mention_of op.RemUn = nothing
mention_of op.Shl = nothing
mention_of op.Shr = nothing
mention_of op.ShrUn = nothing
mention_of op.Neg = nothing
mention_of op.Not = nothing
mention_of op.ConvI4 = nothing
mention_of op.ConvI8 = nothing
mention_of op.ConvU8 = nothing
mention_of op.ConvOvfI4 = nothing
mention_of op.Ceq = nothing
mention_of op.Cgt = nothing
mention_of op.CgtUn = nothing
mention_of op.Clt = nothing
mention_of op.CltUn = nothing
mention_of (op.Br to) = nothing
mention_of (op.Brtrue to) = nothing
mention_of (op.Brfalse to) = nothing
mention_of (op.Beq to) = nothing
mention_of (op.BneUn to) = nothing
mention_of (op.Bge to) = nothing
mention_of (op.Bgt to) = nothing
mention_of (op.Ble to) = nothing
mention_of (op.Blt to) = nothing
mention_of (op.BgeUn to) = nothing
mention_of (op.BgtUn to) = nothing
mention_of (op.BleUn to) = nothing
mention_of (op.BltUn to) = nothing
mention_of (op.Switch to) = nothing
mention_of (op.Leave to) = nothing
mention_of (op.Call m) = call m
mention_of (op.Callvirt m) = virtual_call m
mention_of (op.Constrained t m) = constrained t m
mention_of (op.Newobj m) = new m
mention_of op.Ret = nothing
mention_of (op.Ldfld f) = field f
mention_of (op.Stfld f) = field f
mention_of (op.Ldflda f) = field f
mention_of (op.Ldsfld f) = field f
mention_of (op.Stsfld f) = field f
mention_of (op.Ldsflda f) = field f
mention_of (op.Ldobj t) = type t
mention_of (op.Stobj t) = type t
mention_of (op.Initobj t) = type t
mention_of (op.Newarr t) = vector t
mention_of op.Ldlen = nothing
mention_of (op.Ldelem t) = type t
mention_of (op.Stelem t) = type t
mention_of (op.Box t) = type t
mention_of (op.UnboxAny t) = type t
mention_of (op.Castclass t) = type t
mention_of (op.Isinst t) = type t
mention_of op.Throw = nothing
mention_of op.WriteLineInt32 = nothing
mention_of op.WriteLineInt64 = nothing
mention_of op.WriteLineString = nothing
mention_of op.CompareExchangeInt32 = nothing
mention_of op.CompareExchangeInt64 = nothing
mention_of op.CompareExchangeObject = nothing
mention_of op.ExchangeInt32 = nothing
mention_of op.ExchangeInt64 = nothing
mention_of op.ExchangeObject = nothing
mention_of op.AddInt32 = nothing
mention_of op.AddInt64 = nothing
mention_of (op.NameOf t) = kind t
mention_of op.Start = nothing
mention_of op.Join = nothing
mention_of op.Endfinally = nothing
mention_of op.Rethrow = nothing
mention_of (op.Ldftn m) = nothing
mention_of (op.Ldvirtftn m) = nothing

-- what a mention fetches, in order
abbrev pub entries_at : Program → Mention → List Entry
entries_at program nothing = []
entries_at program (type t) = type_entries program t
entries_at program (kind t) = entry.Kind t ∷ []
entries_at program (vector t) = vector_entries program t
entries_at program (field f) = field_entries program f
entries_at program (call m) = call_entries program m
entries_at program (virtual_call m) = callvirt_entries program m
entries_at program (constrained t m) = constrained_entries program t m
entries_at program (new m) = new_entries program m

-- what an instruction fetches, in order, over the variables of its body; a member that isn't found gives nothing
abbrev pub entries_of : Program → Op → List Entry
entries_of program i = entries_at program (mention_of i)

-- whether two entries are the same
abbrev pub same_entry : Entry → Entry → Bool
same_entry (entry.Kind s) (entry.Kind t) = is_same s t
same_entry (entry.Method m c ss) (entry.Method n d ts) = (m == n) && is_same c d && pointwise is_same ss ts
same_entry (entry.Size s) (entry.Size t) = is_same s t
same_entry (entry.Extent s) (entry.Extent t) = is_same s t
same_entry (entry.Offset s m) (entry.Offset t n) = is_same s t && (m == n)
same_entry (entry.Slot m) (entry.Slot n) = m == n
same_entry _ _ = false

-- whether an entry stands in the list
abbrev pub is_listed : List Entry → Entry → Bool
is_listed es e = list_any (same_entry e) es

-- the entries of a list that aren't listed, each at its first place
abbrev pub once : List Entry → List Entry → List Entry
once listed [] = []
once listed (e ∷ es) = if is_listed listed e then once listed es else (e ∷ once (listed ++ e ∷ []) es)

-- the type that a clause catches
abbrev pub catch_entries_of : Sort → List Entry
catch_entries_of (sort.Catch t) = entry.Kind t ∷ []
catch_entries_of sort.Finally = []

abbrev pub clause_entries : Clause → List Entry
clause_entries clause = catch_entries_of clause.sort

-- all that a body fetches, in order: by its instructions, then by its clauses
abbrev pub mentions_of : Program → Body → List Entry
mentions_of program b = flat_map (entries_of program) b.code ++ flat_map clause_entries b.clauses

abbrev pub mentions_of_method : Program → MethodDef → List Entry
mentions_of_method program m = flat_map (mentions_of program) (option_to_list m.body)

-- the slots from the number `first` on, so many of them
abbrev pub slots_from : ℕ → ℕ → List Entry
slots_from first zero = []
slots_from first (suc n) = entry.Slot first ∷ slots_from (suc first) n

-- the template of a definition: what the method's body mentions, each entry once; or the slots of the class in order
abbrev pub template_of : Program → Def → List Entry
template_of program (def.Method number) = once [] (flat_map (mentions_of_method program) (option_to_list (method_at program number)))
template_of program (def.Class number count) = slots_from 0 count

-- an entry with the arguments put for the variables of its body
abbrev pub closed_entry : List TExpr → List TExpr → Entry → Entry
closed_entry class_args method_args (entry.Kind t) = entry.Kind (substituted class_args method_args t)
closed_entry class_args method_args (entry.Method number c args) =
    entry.Method number (substituted class_args method_args c) (map (substituted class_args method_args) args)
closed_entry class_args method_args (entry.Size t) = entry.Size (substituted class_args method_args t)
closed_entry class_args method_args (entry.Extent t) = entry.Extent (substituted class_args method_args t)
closed_entry class_args method_args (entry.Offset t place) = entry.Offset (substituted class_args method_args t) place
closed_entry class_args method_args (entry.Slot number) = entry.Slot number
