-- The types that an instruction mentions are among those of its operand.
use Rattle.std.proofs.Common.{List, ◌∷◌, ◌++◌, flat_map}
use Rattle.std.specs.Prelude.{option_to_list}
use Rattle.std.specs.List.{AllByRecursion}
use Rattle.type_tree.specs.declared.tree.TExpr.{TExpr}
use Rattle.il_model.specs.declared.method.Sort.{Sort}
use Rattle.il_model.specs.declared.method.Sort.TheVariants as sort
use Rattle.il_model.specs.declared.method.Clause.{Clause}
use Rattle.il_model.specs.declared.method.Body.{Body}
use Rattle.il_model.specs.declared.method.MethodDef.{MethodDef}
use Rattle.il_model.specs.declared.op.Op.{Op}
use Rattle.il_model.specs.declared.op.Op.TheVariants as op
use Rattle.il_model.specs.Ops.{Operand, operand_of}
use Rattle.il_model.specs.Ops as operand
use Rattle.il_model.specs.Entries.{Mention, mention_of}
use Rattle.il_model.specs.Entries as mention
use Rattle.il_model.specs.ClassRules.{bounds_written}
use Rattle.il_model.specs.Methods.{types_of_places}
use Rattle.rgctx_template.specs.Written.{types_of_operand, types_of_op, types_of_sort, types_of_body, types_of_method}
use Rattle.rgctx_fill.proofs.WholeLists.{front_all, back_all, all_weaker, all_both, parts_all}
use Rattle.rgctx_fill.proofs.WholeScopes.{MentionHolds, SortHolds, BodyHolds}

-- it holds for the types of the operand: of a method for its class and its arguments, of a field for its class
abbrev pub OperandHolds : (TExpr → Type 0) → Operand → Type 0
OperandHolds P operand.nothing = Unit {0}
OperandHolds P (operand.int32 n) = Unit {0}
OperandHolds P (operand.int64 n) = Unit {0}
OperandHolds P (operand.literal n) = Unit {0}
OperandHolds P (operand.place n) = Unit {0}
OperandHolds P (operand.target n) = Unit {0}
OperandHolds P (operand.targets ns) = Unit {0}
OperandHolds P (operand.type t) = P t
OperandHolds P (operand.method m) = P m.class × AllByRecursion P m.args
OperandHolds P (operand.field f) = P f.class
OperandHolds P (operand.constrained t m) = P t × P m.class

pub mention_holds : (P : TExpr → Type 0) (i : Op) → OperandHolds P (operand_of i) → MentionHolds P (mention_of i)
mention_holds P op.Nop h = tt
mention_holds P op.Dup h = tt
mention_holds P op.Pop h = tt
mention_holds P (op.LdcI4 n) h = tt
mention_holds P (op.LdcI8 n) h = tt
mention_holds P op.Ldnull h = tt
mention_holds P (op.Ldstr n) h = tt
mention_holds P (op.Ldarg n) h = tt
mention_holds P (op.Ldloc n) h = tt
mention_holds P (op.Ldarga n) h = tt
mention_holds P (op.Ldloca n) h = tt
mention_holds P (op.Starg n) h = tt
mention_holds P (op.Stloc n) h = tt
mention_holds P op.Add h = tt
mention_holds P op.Sub h = tt
mention_holds P op.Mul h = tt
mention_holds P op.And h = tt
mention_holds P op.Or h = tt
mention_holds P op.Xor h = tt
mention_holds P op.AddOvf h = tt
mention_holds P op.SubOvf h = tt
mention_holds P op.MulOvf h = tt
mention_holds P op.AddOvfUn h = tt
mention_holds P op.SubOvfUn h = tt
mention_holds P op.MulOvfUn h = tt
mention_holds P op.Div h = tt
mention_holds P op.Rem h = tt
mention_holds P op.DivUn h = tt
mention_holds P op.RemUn h = tt
mention_holds P op.Shl h = tt
mention_holds P op.Shr h = tt
mention_holds P op.ShrUn h = tt
mention_holds P op.Neg h = tt
mention_holds P op.Not h = tt
mention_holds P op.ConvI4 h = tt
mention_holds P op.ConvI8 h = tt
mention_holds P op.ConvU8 h = tt
mention_holds P op.ConvOvfI4 h = tt
mention_holds P op.Ceq h = tt
mention_holds P op.Cgt h = tt
mention_holds P op.CgtUn h = tt
mention_holds P op.Clt h = tt
mention_holds P op.CltUn h = tt
mention_holds P (op.Br to) h = tt
mention_holds P (op.Brtrue to) h = tt
mention_holds P (op.Brfalse to) h = tt
mention_holds P (op.Beq to) h = tt
mention_holds P (op.BneUn to) h = tt
mention_holds P (op.Bge to) h = tt
mention_holds P (op.Bgt to) h = tt
mention_holds P (op.Ble to) h = tt
mention_holds P (op.Blt to) h = tt
mention_holds P (op.BgeUn to) h = tt
mention_holds P (op.BgtUn to) h = tt
mention_holds P (op.BleUn to) h = tt
mention_holds P (op.BltUn to) h = tt
mention_holds P (op.Switch to) h = tt
mention_holds P (op.Leave to) h = tt
mention_holds P (op.Call m) h = h
mention_holds P (op.Callvirt m) h = h
mention_holds P (op.Constrained t m) h = h
mention_holds P (op.Newobj m) h = h
mention_holds P op.Ret h = tt
mention_holds P (op.Ldfld f) h = h
mention_holds P (op.Stfld f) h = h
mention_holds P (op.Ldflda f) h = h
mention_holds P (op.Ldsfld f) h = h
mention_holds P (op.Stsfld f) h = h
mention_holds P (op.Ldsflda f) h = h
mention_holds P (op.Ldobj t) h = h
mention_holds P (op.Stobj t) h = h
mention_holds P (op.Initobj t) h = h
mention_holds P (op.Newarr t) h = h
mention_holds P op.Ldlen h = tt
mention_holds P (op.Ldelem t) h = h
mention_holds P (op.Stelem t) h = h
mention_holds P (op.Box t) h = h
mention_holds P (op.UnboxAny t) h = h
mention_holds P (op.Castclass t) h = h
mention_holds P (op.Isinst t) h = h
mention_holds P op.Throw h = tt
mention_holds P op.WriteLineInt32 h = tt
mention_holds P op.WriteLineInt64 h = tt
mention_holds P op.WriteLineString h = tt
mention_holds P op.CompareExchangeInt32 h = tt
mention_holds P op.CompareExchangeInt64 h = tt
mention_holds P op.CompareExchangeObject h = tt
mention_holds P op.ExchangeInt32 h = tt
mention_holds P op.ExchangeInt64 h = tt
mention_holds P op.ExchangeObject h = tt
mention_holds P op.AddInt32 h = tt
mention_holds P op.AddInt64 h = tt
mention_holds P (op.NameOf t) h = h
mention_holds P op.Start h = tt
mention_holds P op.Join h = tt
mention_holds P op.Endfinally h = tt
mention_holds P op.Rethrow h = tt
mention_holds P (op.Ldftn m) h = tt
mention_holds P (op.Ldvirtftn m) h = tt

-- what holds by two facts on each type
module _ (P Q R : TExpr → Type 0) (f : (t : TExpr) → P t → Q t → R t) where
  both_mention : (x : Mention) → MentionHolds P x → MentionHolds Q x → MentionHolds R x
  both_mention mention.nothing a b = tt
  both_mention (mention.type t) a b = f t a b
  both_mention (mention.kind t) a b = f t a b
  both_mention (mention.vector t) a b = f t a b
  both_mention (mention.field x) a b = f x.class a b
  both_mention (mention.call m) a b = (f m.class a.0 b.0, all_both P Q R f m.args a.1 b.1)
  both_mention (mention.virtual_call m) a b = (f m.class a.0 b.0, all_both P Q R f m.args a.1 b.1)
  both_mention (mention.constrained t m) a b = (f t a.0 b.0, f m.class a.1 b.1)
  both_mention (mention.new m) a b = (f m.class a.0 b.0, all_both P Q R f m.args a.1 b.1)

  both_sort : (s : Sort) → SortHolds P s → SortHolds Q s → SortHolds R s
  both_sort (sort.Catch t) a b = f t a b
  both_sort sort.Finally a b = tt

  pub both-body : (b : Body) → BodyHolds P b → BodyHolds Q b → BodyHolds R b
  both-body b h k = record {
    code = all_both (λ (i : Op). MentionHolds P (mention_of i)) (λ i. MentionHolds Q (mention_of i)) (λ i. MentionHolds R (mention_of i)) (λ i. both_mention (mention_of i)) b.code h.code k.code;
    clauses = all_both (λ (c : Clause). SortHolds P c.sort) (λ c. SortHolds Q c.sort) (λ c. SortHolds R c.sort) (λ c. both_sort c.sort) b.clauses h.clauses k.clauses;
  }

-- ---- all types of a body

operand_of_all : (P : TExpr → Type 0) (o : Operand) → AllByRecursion P (types_of_operand o) → OperandHolds P o
operand_of_all P operand.nothing all = tt
operand_of_all P (operand.int32 n) all = tt
operand_of_all P (operand.int64 n) all = tt
operand_of_all P (operand.literal n) all = tt
operand_of_all P (operand.place n) all = tt
operand_of_all P (operand.target n) all = tt
operand_of_all P (operand.targets ns) all = tt
operand_of_all P (operand.type t) all = all.0
operand_of_all P (operand.method m) all =
    let own : AllByRecursion P (m.class ∷ m.args) = back_all P (option_to_list m.result) (m.class ∷ m.args) (front_all P (option_to_list m.result ++ m.class ∷ m.args) (types_of_places m.params) all) in (own.0, own.1)
operand_of_all P (operand.field f) all = all.1.0
operand_of_all P (operand.constrained t m) all =
    let own : AllByRecursion P (m.class ∷ m.args) = back_all P (option_to_list m.result) (m.class ∷ m.args) (front_all P (option_to_list m.result ++ m.class ∷ m.args) (types_of_places m.params) all.1) in (all.0, own.0)

sort_of_all : (P : TExpr → Type 0) (s : Sort) → AllByRecursion P (types_of_sort s) → SortHolds P s
sort_of_all P (sort.Catch t) all = all.0
sort_of_all P sort.Finally all = tt

body_of_all : (P : TExpr → Type 0) (b : Body) → AllByRecursion P (types_of_body b) → BodyHolds P b
body_of_all P b all =
    let clauses : List TExpr = flat_map (λ clause. types_of_sort clause.sort) b.clauses in
    let front : AllByRecursion P (types_of_places b.locals ++ flat_map types_of_op b.code) = front_all P (types_of_places b.locals ++ flat_map types_of_op b.code) clauses all in
    record {
      code = all_weaker (λ (i : Op). AllByRecursion P (types_of_op i)) (λ i. MentionHolds P (mention_of i)) (λ i h. mention_holds P i (operand_of_all P (operand_of i) h)) b.code
          (parts_all P types_of_op b.code (back_all P (types_of_places b.locals) (flat_map types_of_op b.code) front));
      clauses = all_weaker (λ (c : Clause). AllByRecursion P (types_of_sort c.sort)) (λ c. SortHolds P c.sort) (λ c h. sort_of_all P c.sort h) b.clauses
          (parts_all P (λ (c : Clause). types_of_sort c.sort) b.clauses (back_all P (types_of_places b.locals ++ flat_map types_of_op b.code) clauses all));
    }

-- what holds for all types that a method writes holds for those that its body mentions
pub bodies-of_all : (P : TExpr → Type 0) (m : MethodDef) → AllByRecursion P (types_of_method m) → AllByRecursion (BodyHolds P) (option_to_list m.body)
bodies-of_all P m all =
    all_weaker (λ (b : Body). AllByRecursion P (types_of_body b)) (BodyHolds P) (body_of_all P) (option_to_list m.body)
    (parts_all P types_of_body (option_to_list m.body)
    (back_all P (option_to_list m.result ++ bounds_written m.vars ++ types_of_places m.params) (flat_map types_of_body (option_to_list m.body)) all))
