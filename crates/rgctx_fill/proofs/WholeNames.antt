-- What is written stands for types whose variables are there.
use Rattle.std.proofs.Common.{ℕ, List, [], ◌∷◌, Option, sym, subst}
use Rattle.std.specs.Prelude.{option_to_list}
use Rattle.std.specs.List.{AllByRecursion}
use Rattle.std.proofs.lemmas.List.Elements.{All-from_recursion, All-nil}
use Rattle.type_tree.specs.declared.tree.Head.{Head}
use Rattle.type_tree.specs.declared.tree.Head.TheVariants as head
use Rattle.type_tree.specs.declared.tree.TExpr.{TExpr}
use Rattle.type_tree.specs.Tree.{node, HasVariablesBelow}
use Rattle.type_tree.proofs.VariablesLemmas.{below_node, class_var_below, method_var_below}
use Rattle.il_model.specs.declared.class.ClassKind.{ClassKind}
use Rattle.il_model.specs.declared.method.Clause.{Clause}
use Rattle.il_model.specs.declared.method.Body.{Body}
use Rattle.il_model.specs.declared.op.Op.{Op}
use Rattle.il_model.specs.declared.written.WrittenType.{WrittenType}
use Rattle.il_model.specs.declared.written.WrittenOperand.{WrittenOperand}
use Rattle.il_model.specs.declared.written.WrittenInstr.{WrittenInstr}
use Rattle.il_model.specs.declared.written.WrittenClause.{WrittenClause}
use Rattle.il_model.specs.declared.written.WrittenBody.{WrittenBody}
use Rattle.il_model.specs.Names.{Scope, Each, end, both, Perhaps, neither, each, NamesType, int32, int64, bool, object, string, class_variable, method_variable, class, vector, NamesTypes, no_types, more_types}
use Rattle.il_model.specs.Ops.{Operand, operand_of}
use Rattle.il_model.specs.Entries.{mention_of}
use Rattle.il_model.specs.Bounds.{instrs_of}
use Rattle.il_model.specs.LookUp.{NamesOperand, names_nothing, names_int32, names_int64, names_literal, names_place, names_target, names_targets, names_type, names_method, names_field, names_constrained, NamesInstr, NamesClause, labels_from, NamesBody, NamesBase, object_of_plain, object_of_abstract, none_of_struct, none_of_interface, written_base}
use Rattle.rgctx_fill.proofs.WholeScopes.{MentionHolds, SortHolds, BodyHolds}
use Rattle.rgctx_fill.proofs.WholeMentions.{OperandHolds, mention_holds}

pub alone-below : (c m : ℕ) (h : Head) → HasVariablesBelow c m (node h [])
alone-below c m h = below_node c m h [] (All-nil (HasVariablesBelow c m))

-- the variables of a type in this scope are those of the scope
abbrev pub Within : Scope → TExpr → Type 0
Within s t = HasVariablesBelow s.of_class s.of_method t

mutual
  pub type-within : (s : Scope) (written : WrittenType) (t : TExpr) → NamesType s written t → HasVariablesBelow s.of_class s.of_method t
  type-within s written t (int32 s' w' t' e f) = subst (Within s) (sym f) (alone-below s.of_class s.of_method head.Int32)
  type-within s written t (int64 s' w' t' e f) = subst (Within s) (sym f) (alone-below s.of_class s.of_method head.Int64)
  type-within s written t (bool s' w' t' e f) = subst (Within s) (sym f) (alone-below s.of_class s.of_method head.Bool)
  type-within s written t (object s' w' t' e f) = subst (Within s) (sym f) (alone-below s.of_class s.of_method (head.Class 0))
  type-within s written t (string s' w' t' e f) = subst (Within s) (sym f) (alone-below s.of_class s.of_method (head.Class 1))
  type-within s written t (class_variable s' w' t' v number e is low f) = subst (Within s) (sym f) (class_var_below s.of_class s.of_method number low)
  type-within s written t (method_variable s' w' t' v number e is low f) = subst (Within s) (sym f) (method_var_below s.of_class s.of_method number low)
  type-within s written t (class s' w' t' name args ts number e is are f) =
      subst (Within s) (sym f) (below_node s.of_class s.of_method (head.Class number) ts (All-from_recursion (Within s) ts (types-within s args ts are)))
  type-within s written t (vector s' w' element t' of e is f) =
      subst (Within s) (sym f) (below_node s.of_class s.of_method head.Vector (of ∷ []) (All-from_recursion (Within s) (of ∷ []) (type-within s element of is, tt)))

  pub types-within : (s : Scope) (ws : List WrittenType) (ts : List TExpr) → NamesTypes s ws ts → AllByRecursion (HasVariablesBelow s.of_class s.of_method) ts
  types-within s ws ts (no_types s') = tt
  types-within s ws ts (more_types s' written t vs us is are) = (type-within s written t is, types-within s vs us are)

-- the base that is not written is `object`
pub base-within : (s : Scope) (k : ClassKind) (written : Option WrittenType) (base : Option TExpr) → NamesBase s k written base → AllByRecursion (HasVariablesBelow s.of_class s.of_method) (option_to_list base)
base-within s k written base object_of_plain = (alone-below s.of_class s.of_method (head.Class 0), tt)
base-within s k written base object_of_abstract = (alone-below s.of_class s.of_method (head.Class 0), tt)
base-within s k written base none_of_struct = tt
base-within s k written base none_of_interface = tt
base-within s k written base (written_base k' w t is) = (type-within s w t is, tt)

-- ---- bodies

pub each_holds : {A B : Type 0} (R : A → B → Type 0) (Q : B → Type 0) → ((x : A) (y : B) → R x y → Q y) → (xs : List A) (ys : List B) → Each R xs ys → AllByRecursion Q ys
each_holds R Q f xs ys end = tt
each_holds R Q f xs ys (both x y us vs is are) = (f x y is, each_holds R Q f us vs are)

pub perhaps_holds : {A B : Type 0} (R : A → B → Type 0) (Q : B → Type 0) → ((x : A) (y : B) → R x y → Q y) → (x : Option A) (y : Option B) → Perhaps R x y → AllByRecursion Q (option_to_list y)
perhaps_holds R Q f x y neither = tt
perhaps_holds R Q f x y (each a b is) = (f a b is, tt)

module _ (s : Scope) (literals : List (List ℕ)) (labels : List (List ℕ × ℕ)) where
  operand_within : (written : WrittenOperand) (o : Operand) → NamesOperand s literals labels written o → OperandHolds (Within s) o
  operand_within written o names_nothing = tt
  operand_within written o (names_int32 n) = tt
  operand_within written o (names_int64 n) = tt
  operand_within written o (names_literal bytes number is) = tt
  operand_within written o (names_place number) = tt
  operand_within written o (names_target w to is) = tt
  operand_within written o (names_targets w to is) = tt
  operand_within written o (names_type w t is) = type-within s w t is
  operand_within written o (names_method w m is) = (type-within s w.class m.class is.class, types-within s w.args m.args is.args)
  operand_within written o (names_field w f is) = type-within s w.class f.class is.class
  operand_within written o (names_constrained w named t m is also) = (type-within s w t is, type-within s named.class m.class also.class)

  instr_within : (written : WrittenInstr) (i : Op) → NamesInstr s literals labels written i → MentionHolds (Within s) (mention_of i)
  instr_within written i is = mention_holds (Within s) i (operand_within written.operand (operand_of i) is.operand)

  clause_within : (written : WrittenClause) (c : Clause) → NamesClause s labels written c → SortHolds (Within s) c.sort
  clause_within written c is = subst (SortHolds (Within s)) (sym is.sort) (type-within s written.catches is.catches is.kind)

pub body-within : (s : Scope) (literals : List (List ℕ)) (written : WrittenBody) (b : Body) → NamesBody s literals written b → BodyHolds (HasVariablesBelow s.of_class s.of_method) b
body-within s literals written b is = record {
  code = each_holds (NamesInstr s literals (labels_from 0 written.lines)) (λ i. MentionHolds (Within s) (mention_of i)) (instr_within s literals (labels_from 0 written.lines)) (instrs_of written.lines) b.code is.code;
  clauses = each_holds (NamesClause s (labels_from 0 written.lines)) (λ c. SortHolds (Within s) c.sort) (clause_within s literals (labels_from 0 written.lines)) written.clauses b.clauses is.clauses;
}
