-- Each form that makes no call and touches no object, by the row that the verifier read and the group that the meaning reads.
use Rattle.std.proofs.Common.{◌≡◌, ℕ, suc, ◌-◌, ◌^◌, ◌<◌, ◌≤◌, List, [], ◌∷◌, length, Bool, true, false, Some, refl, sym, ap, ◌∙◌, subst, arith}
use Rattle.std.specs.Int.Signed.{mag}
use Rattle.type_tree.specs.declared.tree.TExpr.{TExpr}
use Rattle.type_tree.specs.declared.tree.Head.TheVariants as head
use Rattle.type_tree.proofs.SubstitutionLemmas.{substituted-node}
use Rattle.il_model.specs.declared.program.Program.{Program}
use Rattle.il_model.specs.declared.op.Op.{Op}
use Rattle.il_model.specs.declared.op.Op.TheVariants as op
use Rattle.il_model.specs.Ops.{Operand, operand_of}
use Rattle.il_model.specs.Ops as operand
use Rattle.il_model.specs.Library.{plain}
use Rattle.il_model.specs.Kinds.{is_reference}
use Rattle.il_model.specs.Entries.{arguments_of}
use Rattle.interaction.specs.Process.{Naming}
use Rattle.store_object.specs.Store.{Store}
use Rattle.cil_flow.specs.declared.state.StackType.{StackType}
use Rattle.cil_flow.specs.declared.state.StackType.TheVariants as stack
use Rattle.cil_verify.specs.Places.{View, view_of}
use Rattle.cil_verify.specs.Rows as rows
use Rattle.cil_verify.specs.Rows.{arguments, locals, row_of}
use Rattle.cil_verify.specs.Admits.{Operands, left_by_row, push}
use Rattle.cil_meaning.specs.Words.{int32_word, int64_word}
use Rattle.cil_meaning.specs.Values.{Value, Plain}
use Rattle.cil_meaning.specs.Values as kind
use Rattle.cil_meaning.specs.Naming.{Mention, IsNaming, put_type, strings_from, names_from, literal_word}
use Rattle.cil_meaning.specs.Types.{passes_as}
use Rattle.cil_meaning.specs.Site.{Site}
use Rattle.cil_meaning.specs.Places.{stacks}
use Rattle.cil_meaning.specs.Meaning.{does}
use Rattle.cil_meaning.specs.Groups.{Group, OnStack, OnPlaces, OnNumbers, OnBranches, OnCalls, OnMembers, OnArrays, OnBoxes, OnThrow, OnLibrary, Excluded, BranchForm, Jumps, JumpsWhere, JumpsBy, Chooses, Leaves, group_of, Copies, Drops, Pushes, Sum, Difference, Product, Conjunction, Disjunction, Exclusive, CheckedSum, CheckedDifference, CheckedProduct, Quotient, Remainder, Leftwards, Rightwards, Negative, Complement, ToInt32, ToInt64, ToUnsigned64, ToInt32Checked, Equal, Unequal, Less, LessOrEqual, Greater, GreaterOrEqual}
use Rattle.cil_safety.proofs.Sorts.{Ref, Words, value_sort, sort_of, sorts_of}
use Rattle.cil_safety.proofs.Fit.{Holds, literal, string, ValueFits, ValuesFit, GoesOn}
use Rattle.cil_safety.proofs.Numbers.{int32_word_fits, int64_word_fits}
use Rattle.cil_safety.proofs.Types.{reference_sort}
use Rattle.cil_safety.proofs.Edges.{Follows, target, next}
use Rattle.cil_safety.proofs.Pieces.{HasHandlers, Sits, Runs}
use Rattle.cil_safety.proofs.PlaceForms.{PlacesAlike, FitsPlaces, reads_fit, writes_fit, points_fit}
use Rattle.cil_safety.proofs.Straight.{HasFaults, rests_fit, copies_fit, drops_fit, pushes_fit, wraps_fit, checks_fit, divides_fit, shifts_fit, turns_fit, converts_fit, compares_row, branches_row, jumps_row, tests_row, chooses_row}

-- which groups make no call and touch no object; `leave` is not built
abbrev pub is_straight_branch : BranchForm → Bool
is_straight_branch (Jumps to) = true
is_straight_branch (JumpsWhere is_true to) = true
is_straight_branch (JumpsBy f to) = true
is_straight_branch (Chooses to) = true
is_straight_branch (Leaves to) = false

abbrev pub is_straight : Group → Bool
is_straight (OnStack f) = true
is_straight (OnPlaces f) = true
is_straight (OnNumbers f) = true
is_straight (OnBranches f) = is_straight_branch f
is_straight (OnCalls f) = false
is_straight (OnMembers f) = false
is_straight (OnArrays f) = false
is_straight (OnBoxes f) = false
is_straight OnThrow = false
is_straight (OnLibrary f) = false
is_straight Excluded = false

-- constants are in range, and a literal is one of the program
abbrev pub LiteralFits : Program → Operand → Type 0
LiteralFits p (operand.int32 n) = mag n < 2 ^ 31
LiteralFits p (operand.int64 n) = mag n < 2 ^ 63
LiteralFits p (operand.literal n) = n < length p.literals
LiteralFits p operand.nothing = Unit {0}
LiteralFits p (operand.place n) = Unit {0}
LiteralFits p (operand.target to) = Unit {0}
LiteralFits p (operand.targets to) = Unit {0}
LiteralFits p (operand.type t) = Unit {0}
LiteralFits p (operand.method m) = Unit {0}
LiteralFits p (operand.field f) = Unit {0}
LiteralFits p (operand.constrained t m) = Unit {0}

-- strings are a reference type that passes as itself, and literals are few
pub record HasStrings (p : Program) : Type 0 where
  pub reference : is_reference p (plain 1) ≡ true
  pub self : passes_as p (plain 1) (plain 1) ≡ true
  pub few : length p.literals ≤ 2 ^ 32

module _ (p : Program) (n : Naming Mention TExpr) (names : IsNaming n) (handlers : HasHandlers p n) (faults : HasFaults p) (strings : HasStrings p) where
  module _ (u : ℕ) (x : Store) (s : Site) (h : Holds) (hs : List Holds) (c : Sits p n names x s h hs) (alike : PlacesAlike p s.definition s.frame.method) (well : FitsPlaces p s.definition s.frame.method) (nums : List ℕ) where
    abbrev pub view : View
    view = view_of p s.definition

    abbrev pub Fit : List StackType → List Value → Type 0
    Fit os vs = ValuesFit p n x (h ∷ hs) (sorts_of p s.frame.method os) vs

    abbrev pub Goes : ℕ → List StackType → Type 0
    Goes at os = GoesOn p n s.frame.method s.definition at (sorts_of p s.frame.method os)

    copied : (out : Operands) (vs : List Value) (os : Operands) → left_by_row view rows.copies os ≡ Some out → Fit os vs → Goes (suc s.frame.at) out → Runs p n names u x (stacks s Copies vs)
    copied out vs [] e fit g = absurd (cc e)
    copied out vs (a ∷ os) e fit g = let q : a ∷ a ∷ os ≡ out = cc e in copies_fit p n names handlers faults u x s h hs c a os vs (subst (λ z. Goes (suc s.frame.at) z) (sym q) g) fit

    dropped : (out : Operands) (vs : List Value) (os : Operands) → left_by_row view rows.drops os ≡ Some out → Fit os vs → Goes (suc s.frame.at) out → Runs p n names u x (stacks s Drops vs)
    dropped out vs [] e fit g = absurd (cc e)
    dropped out vs (a ∷ os) e fit g = let q : os ≡ out = cc e in drops_fit p n names handlers faults u x s h hs c a os vs (subst (λ z. Goes (suc s.frame.at) z) (sym q) g) fit

    pushed : (out : Operands) (vs : List Value) (a : StackType) (v : Value) (os : Operands) → push a os ≡ Some out → ValueFits p n x (h ∷ hs) (sort_of p s.frame.method a) v → Fit os vs → Goes (suc s.frame.at) out → Runs p n names u x (stacks s (Pushes v) vs)
    pushed out vs a v os e f fit g = let q : a ∷ os ≡ out = cc e in pushes_fit p n names handlers faults u x s h hs c a v os vs f (subst (λ z. Goes (suc s.frame.at) z) (sym q) g) fit

    string_type : put_type s.frame.method (plain 1) ≡ plain 1
    string_type = substituted-node (arguments_of s.frame.method.class) s.frame.method.args (head.Class 1) []

    text_fits : (k : ℕ) → k < length p.literals → ValueFits p n x (h ∷ hs) (sort_of p s.frame.method (stack.Kind (plain 1))) (Plain kind.Reference (literal_word k ∷ []))
    text_fits k lt =
        let is : sort_of p s.frame.method (stack.Kind (plain 1)) ≡ Words kind.Reference (Ref (plain 1) ∷ []) = ap (value_sort p) string_type ∙ reference_sort p (plain 1) strings.reference in
        let few : length p.literals ≤ 4294967296 = strings.few in
        let i : literal_word k - strings_from ≡ k = omega arith in
        let low : strings_from ≤ literal_word k = omega arith in
        let high : literal_word k < names_from = omega (arith, few, lt) in
        subst (λ z. ValueFits p n x (h ∷ hs) z (Plain kind.Reference (literal_word k ∷ []))) (sym is)
        ((refl, (string (literal low high (subst (λ z. z < length p.literals) (sym i) lt)) strings.self, tt)))

    -- Whatever operands such an instruction admits, it is safe on values that fit them, if what it leaves fits where it goes on.
    pub straight_fits : (i : Op) (out : Operands) (vs : List Value) (os : Operands) → LiteralFits p (operand_of i) → is_straight (group_of i) ≡ true → left_by_row view (row_of i) os ≡ Some out → Fit os vs → ((to : ℕ) → Follows i s.frame.at to → Goes to out) → Runs p n names u x (does p s nums vs (group_of i))
    straight_fits op.Nop out vs os lit ok e fit on = let q : os ≡ out = cc e in rests_fit p n names handlers faults u x s h hs c os vs (subst (λ z. Goes (suc s.frame.at) z) (sym q) (on (suc s.frame.at) (next refl refl))) fit
    straight_fits op.Dup out vs os lit ok e fit on = copied out vs os e fit (on (suc s.frame.at) (next refl refl))
    straight_fits op.Pop out vs os lit ok e fit on = dropped out vs os e fit (on (suc s.frame.at) (next refl refl))
    straight_fits (op.LdcI4 k) out vs os lit ok e fit on = pushed out vs stack.Int32 (Plain kind.Int32 (int32_word k ∷ [])) os e ((refl, (int32_word_fits k lit, tt))) fit (on (suc s.frame.at) (next refl refl))
    straight_fits (op.LdcI8 k) out vs os lit ok e fit on = pushed out vs stack.Int64 (Plain kind.Int64 (int64_word k ∷ [])) os e ((refl, (int64_word_fits k lit, tt))) fit (on (suc s.frame.at) (next refl refl))
    straight_fits op.Ldnull out vs os lit ok e fit on = pushed out vs stack.Null (Plain kind.Reference (0 ∷ [])) os e ((refl, (refl, tt))) fit (on (suc s.frame.at) (next refl refl))
    straight_fits (op.Ldstr k) out vs os lit ok e fit on = pushed out vs (stack.Kind (plain 1)) (Plain kind.Reference (literal_word k ∷ [])) os e (text_fits k lit) fit (on (suc s.frame.at) (next refl refl))
    straight_fits (op.Ldarg k) out vs os lit ok e fit on = reads_fit p n names u x s h hs c alike arguments k os out vs e fit (on (suc s.frame.at) (next refl refl))
    straight_fits (op.Ldloc k) out vs os lit ok e fit on = reads_fit p n names u x s h hs c alike locals k os out vs e fit (on (suc s.frame.at) (next refl refl))
    straight_fits (op.Ldarga k) out vs os lit ok e fit on = points_fit p n names u x s h hs c alike arguments k os out vs e fit (on (suc s.frame.at) (next refl refl))
    straight_fits (op.Ldloca k) out vs os lit ok e fit on = points_fit p n names u x s h hs c alike locals k os out vs e fit (on (suc s.frame.at) (next refl refl))
    straight_fits (op.Starg k) out vs os lit ok e fit on = writes_fit p n names u x s h hs c alike well arguments k os out vs e fit (on (suc s.frame.at) (next refl refl))
    straight_fits (op.Stloc k) out vs os lit ok e fit on = writes_fit p n names u x s h hs c alike well locals k os out vs e fit (on (suc s.frame.at) (next refl refl))
    straight_fits op.Add out vs os lit ok e fit on = wraps_fit p n names handlers faults u x s h hs c Sum os out vs e fit (on (suc s.frame.at) (next refl refl))
    straight_fits op.Sub out vs os lit ok e fit on = wraps_fit p n names handlers faults u x s h hs c Difference os out vs e fit (on (suc s.frame.at) (next refl refl))
    straight_fits op.Mul out vs os lit ok e fit on = wraps_fit p n names handlers faults u x s h hs c Product os out vs e fit (on (suc s.frame.at) (next refl refl))
    straight_fits op.And out vs os lit ok e fit on = wraps_fit p n names handlers faults u x s h hs c Conjunction os out vs e fit (on (suc s.frame.at) (next refl refl))
    straight_fits op.Or out vs os lit ok e fit on = wraps_fit p n names handlers faults u x s h hs c Disjunction os out vs e fit (on (suc s.frame.at) (next refl refl))
    straight_fits op.Xor out vs os lit ok e fit on = wraps_fit p n names handlers faults u x s h hs c Exclusive os out vs e fit (on (suc s.frame.at) (next refl refl))
    straight_fits op.AddOvf out vs os lit ok e fit on = checks_fit p n names handlers faults u x s h hs c (CheckedSum true) os out vs e fit (on (suc s.frame.at) (next refl refl))
    straight_fits op.SubOvf out vs os lit ok e fit on = checks_fit p n names handlers faults u x s h hs c (CheckedDifference true) os out vs e fit (on (suc s.frame.at) (next refl refl))
    straight_fits op.MulOvf out vs os lit ok e fit on = checks_fit p n names handlers faults u x s h hs c (CheckedProduct true) os out vs e fit (on (suc s.frame.at) (next refl refl))
    straight_fits op.AddOvfUn out vs os lit ok e fit on = checks_fit p n names handlers faults u x s h hs c (CheckedSum false) os out vs e fit (on (suc s.frame.at) (next refl refl))
    straight_fits op.SubOvfUn out vs os lit ok e fit on = checks_fit p n names handlers faults u x s h hs c (CheckedDifference false) os out vs e fit (on (suc s.frame.at) (next refl refl))
    straight_fits op.MulOvfUn out vs os lit ok e fit on = checks_fit p n names handlers faults u x s h hs c (CheckedProduct false) os out vs e fit (on (suc s.frame.at) (next refl refl))
    straight_fits op.Div out vs os lit ok e fit on = divides_fit p n names handlers faults u x s h hs c (Quotient true) os out vs e fit (on (suc s.frame.at) (next refl refl))
    straight_fits op.Rem out vs os lit ok e fit on = divides_fit p n names handlers faults u x s h hs c (Remainder true) os out vs e fit (on (suc s.frame.at) (next refl refl))
    straight_fits op.DivUn out vs os lit ok e fit on = divides_fit p n names handlers faults u x s h hs c (Quotient false) os out vs e fit (on (suc s.frame.at) (next refl refl))
    straight_fits op.RemUn out vs os lit ok e fit on = divides_fit p n names handlers faults u x s h hs c (Remainder false) os out vs e fit (on (suc s.frame.at) (next refl refl))
    straight_fits op.Shl out vs os lit ok e fit on = shifts_fit p n names handlers faults u x s h hs c Leftwards os out vs e fit (on (suc s.frame.at) (next refl refl))
    straight_fits op.Shr out vs os lit ok e fit on = shifts_fit p n names handlers faults u x s h hs c (Rightwards true) os out vs e fit (on (suc s.frame.at) (next refl refl))
    straight_fits op.ShrUn out vs os lit ok e fit on = shifts_fit p n names handlers faults u x s h hs c (Rightwards false) os out vs e fit (on (suc s.frame.at) (next refl refl))
    straight_fits op.Neg out vs os lit ok e fit on = turns_fit p n names handlers faults u x s h hs c Negative os out vs e fit (on (suc s.frame.at) (next refl refl))
    straight_fits op.Not out vs os lit ok e fit on = turns_fit p n names handlers faults u x s h hs c Complement os out vs e fit (on (suc s.frame.at) (next refl refl))
    straight_fits op.ConvI4 out vs os lit ok e fit on = converts_fit p n names handlers faults u x s h hs c ToInt32 os out vs e fit (on (suc s.frame.at) (next refl refl))
    straight_fits op.ConvI8 out vs os lit ok e fit on = converts_fit p n names handlers faults u x s h hs c ToInt64 os out vs e fit (on (suc s.frame.at) (next refl refl))
    straight_fits op.ConvU8 out vs os lit ok e fit on = converts_fit p n names handlers faults u x s h hs c ToUnsigned64 os out vs e fit (on (suc s.frame.at) (next refl refl))
    straight_fits op.ConvOvfI4 out vs os lit ok e fit on = converts_fit p n names handlers faults u x s h hs c ToInt32Checked os out vs e fit (on (suc s.frame.at) (next refl refl))
    straight_fits op.Ceq out vs os lit ok e fit on = compares_row p n names handlers faults u x s h hs c Equal rows.also_references refl os out vs view refl e fit (on (suc s.frame.at) (next refl refl))
    straight_fits op.Cgt out vs os lit ok e fit on = compares_row p n names handlers faults u x s h hs c (Greater true) rows.numbers_alone tt os out vs view refl e fit (on (suc s.frame.at) (next refl refl))
    straight_fits op.CgtUn out vs os lit ok e fit on = compares_row p n names handlers faults u x s h hs c (Greater false) rows.also_with_null refl os out vs view refl e fit (on (suc s.frame.at) (next refl refl))
    straight_fits op.Clt out vs os lit ok e fit on = compares_row p n names handlers faults u x s h hs c (Less true) rows.numbers_alone tt os out vs view refl e fit (on (suc s.frame.at) (next refl refl))
    straight_fits op.CltUn out vs os lit ok e fit on = compares_row p n names handlers faults u x s h hs c (Less false) rows.numbers_alone tt os out vs view refl e fit (on (suc s.frame.at) (next refl refl))
    straight_fits (op.Br to) out vs os lit ok e fit on = let q : os ≡ out = cc e in jumps_row p n names handlers faults u x s h hs c to os vs fit (subst (λ z. Goes to z) (sym q) (on to (target 0 refl)))
    straight_fits (op.Brtrue to) out vs os lit ok e fit on = tests_row p n names handlers faults u x s h hs c true to os out vs view refl e fit (on to (target 0 refl)) (on (suc s.frame.at) (next refl refl))
    straight_fits (op.Brfalse to) out vs os lit ok e fit on = tests_row p n names handlers faults u x s h hs c false to os out vs view refl e fit (on to (target 0 refl)) (on (suc s.frame.at) (next refl refl))
    straight_fits (op.Beq to) out vs os lit ok e fit on = branches_row p n names handlers faults u x s h hs c Equal rows.also_references refl to os out vs view refl e fit (on to (target 0 refl)) (on (suc s.frame.at) (next refl refl))
    straight_fits (op.BneUn to) out vs os lit ok e fit on = branches_row p n names handlers faults u x s h hs c Unequal rows.also_references refl to os out vs view refl e fit (on to (target 0 refl)) (on (suc s.frame.at) (next refl refl))
    straight_fits (op.Bge to) out vs os lit ok e fit on = branches_row p n names handlers faults u x s h hs c (GreaterOrEqual true) rows.numbers_alone tt to os out vs view refl e fit (on to (target 0 refl)) (on (suc s.frame.at) (next refl refl))
    straight_fits (op.Bgt to) out vs os lit ok e fit on = branches_row p n names handlers faults u x s h hs c (Greater true) rows.numbers_alone tt to os out vs view refl e fit (on to (target 0 refl)) (on (suc s.frame.at) (next refl refl))
    straight_fits (op.Ble to) out vs os lit ok e fit on = branches_row p n names handlers faults u x s h hs c (LessOrEqual true) rows.numbers_alone tt to os out vs view refl e fit (on to (target 0 refl)) (on (suc s.frame.at) (next refl refl))
    straight_fits (op.Blt to) out vs os lit ok e fit on = branches_row p n names handlers faults u x s h hs c (Less true) rows.numbers_alone tt to os out vs view refl e fit (on to (target 0 refl)) (on (suc s.frame.at) (next refl refl))
    straight_fits (op.BgeUn to) out vs os lit ok e fit on = branches_row p n names handlers faults u x s h hs c (GreaterOrEqual false) rows.numbers_alone tt to os out vs view refl e fit (on to (target 0 refl)) (on (suc s.frame.at) (next refl refl))
    straight_fits (op.BgtUn to) out vs os lit ok e fit on = branches_row p n names handlers faults u x s h hs c (Greater false) rows.numbers_alone tt to os out vs view refl e fit (on to (target 0 refl)) (on (suc s.frame.at) (next refl refl))
    straight_fits (op.BleUn to) out vs os lit ok e fit on = branches_row p n names handlers faults u x s h hs c (LessOrEqual false) rows.numbers_alone tt to os out vs view refl e fit (on to (target 0 refl)) (on (suc s.frame.at) (next refl refl))
    straight_fits (op.BltUn to) out vs os lit ok e fit on = branches_row p n names handlers faults u x s h hs c (Less false) rows.numbers_alone tt to os out vs view refl e fit (on to (target 0 refl)) (on (suc s.frame.at) (next refl refl))
    straight_fits (op.Switch to) out vs os lit ok e fit on = chooses_row p n names handlers faults u x s h hs c to os out vs e fit (λ k t is. on t (target k is)) (on (suc s.frame.at) (next refl refl))
    straight_fits (op.Leave to) out vs os lit ok e fit on = absurd (cc ok)
    straight_fits (op.Call r) out vs os lit ok e fit on = absurd (cc ok)
    straight_fits (op.Callvirt r) out vs os lit ok e fit on = absurd (cc ok)
    straight_fits (op.Constrained t r) out vs os lit ok e fit on = absurd (cc ok)
    straight_fits (op.Newobj r) out vs os lit ok e fit on = absurd (cc ok)
    straight_fits op.Ret out vs os lit ok e fit on = absurd (cc ok)
    straight_fits (op.Ldfld f) out vs os lit ok e fit on = absurd (cc ok)
    straight_fits (op.Stfld f) out vs os lit ok e fit on = absurd (cc ok)
    straight_fits (op.Ldflda f) out vs os lit ok e fit on = absurd (cc ok)
    straight_fits (op.Ldsfld f) out vs os lit ok e fit on = absurd (cc ok)
    straight_fits (op.Stsfld f) out vs os lit ok e fit on = absurd (cc ok)
    straight_fits (op.Ldsflda f) out vs os lit ok e fit on = absurd (cc ok)
    straight_fits (op.Ldobj t) out vs os lit ok e fit on = absurd (cc ok)
    straight_fits (op.Stobj t) out vs os lit ok e fit on = absurd (cc ok)
    straight_fits (op.Initobj t) out vs os lit ok e fit on = absurd (cc ok)
    straight_fits (op.Newarr t) out vs os lit ok e fit on = absurd (cc ok)
    straight_fits op.Ldlen out vs os lit ok e fit on = absurd (cc ok)
    straight_fits (op.Ldelem t) out vs os lit ok e fit on = absurd (cc ok)
    straight_fits (op.Stelem t) out vs os lit ok e fit on = absurd (cc ok)
    straight_fits (op.Box t) out vs os lit ok e fit on = absurd (cc ok)
    straight_fits (op.UnboxAny t) out vs os lit ok e fit on = absurd (cc ok)
    straight_fits (op.Castclass t) out vs os lit ok e fit on = absurd (cc ok)
    straight_fits (op.Isinst t) out vs os lit ok e fit on = absurd (cc ok)
    straight_fits op.Throw out vs os lit ok e fit on = absurd (cc ok)
    straight_fits op.WriteLineInt32 out vs os lit ok e fit on = absurd (cc ok)
    straight_fits op.WriteLineInt64 out vs os lit ok e fit on = absurd (cc ok)
    straight_fits op.WriteLineString out vs os lit ok e fit on = absurd (cc ok)
    straight_fits op.CompareExchangeInt32 out vs os lit ok e fit on = absurd (cc ok)
    straight_fits op.CompareExchangeInt64 out vs os lit ok e fit on = absurd (cc ok)
    straight_fits op.CompareExchangeObject out vs os lit ok e fit on = absurd (cc ok)
    straight_fits op.ExchangeInt32 out vs os lit ok e fit on = absurd (cc ok)
    straight_fits op.ExchangeInt64 out vs os lit ok e fit on = absurd (cc ok)
    straight_fits op.ExchangeObject out vs os lit ok e fit on = absurd (cc ok)
    straight_fits op.AddInt32 out vs os lit ok e fit on = absurd (cc ok)
    straight_fits op.AddInt64 out vs os lit ok e fit on = absurd (cc ok)
    straight_fits (op.NameOf t) out vs os lit ok e fit on = absurd (cc ok)
    straight_fits op.Start out vs os lit ok e fit on = absurd (cc ok)
    straight_fits op.Join out vs os lit ok e fit on = absurd (cc ok)
    straight_fits op.Endfinally out vs os lit ok e fit on = absurd (cc ok)
    straight_fits op.Rethrow out vs os lit ok e fit on = absurd (cc ok)
    straight_fits (op.Ldftn r) out vs os lit ok e fit on = absurd (cc ok)
    straight_fits (op.Ldvirtftn r) out vs os lit ok e fit on = absurd (cc ok)
