-- What the classes of an accepted text have: structs and interfaces have no base, and the library's classes stand first; and how few its literals are.
use Rattle.std.proofs.Common.{◌≡◌, ℕ, zero, suc, ◌+◌, ◌*◌, ◌≤◌, ◌^◌, Bool, true, false, List, [], ◌∷◌, ◌++◌, length, flat_map, Option, Some, None, refl, ap, subst, arith, inl, map, inr}
use Rattle.std.specs.Prelude.{slice_get, option_to_list, if◌then◌else◌}
use Rattle.std.specs.List.{AllByRecursion}
use Rattle.std.proofs.Math.Nat.{mul-suc}
use Rattle.std.proofs.lemmas.List.{length-append}
use Rattle.std.proofs.lemmas.List.Elements.{recursion_from_All}
use Rattle.type_tree.specs.declared.tree.TExpr.{TExpr}
use Rattle.il_model.specs.declared.program.Program.{Program}
use Rattle.il_model.specs.declared.class.ClassKind.{ClassKind}
use Rattle.il_model.specs.declared.class.ClassKind.TheVariants as class_kind
use Rattle.il_model.specs.declared.class.ClassDef.{ClassDef}
use Rattle.il_model.specs.declared.class.FieldDef.{FieldDef}
use Rattle.il_model.specs.declared.written.WrittenType.{WrittenType}
use Rattle.il_model.specs.declared.written.WrittenOperand.{WrittenOperand}
use Rattle.il_model.specs.declared.written.WrittenOperand.TheVariants as w
use Rattle.il_model.specs.declared.written.WrittenInstr.{WrittenInstr}
use Rattle.il_model.specs.declared.written.WrittenBody.{WrittenBody}
use Rattle.il_model.specs.declared.written.WrittenMethod.{WrittenMethod}
use Rattle.il_model.specs.declared.written.WrittenClass.{WrittenClass}
use Rattle.il_model.specs.Lexemes.{Lexeme, lexemes_of, is_among, none, more}
use Rattle.il_model.specs.Classes.{IsBase, no_base, base_of_plain, base_of_abstract, IsClass, class, IsProgram}
use Rattle.il_model.specs.Bounds.{instrs_of, methods_of, all_methods, IsSmallMethod}
use Rattle.il_model.specs.Names.{Scope}
use Rattle.il_model.specs.LookUp.{Known, NamesBase, object_of_plain, object_of_abstract, none_of_struct, none_of_interface, written_base, NamesClass, NamesClasses, no_classes, more_classes, texts_of, texts_of_method, first_uses, known_of}
use Rattle.il_model.specs.Library.{library_classes, library_methods}
use Rattle.il_model.specs.Accepted.{IsOfText}
use Rattle.type_inst.proofs.ListLemmas.{Has}
use Rattle.rgctx_fill.proofs.WholeLists.{join_all, item_holds}
use Rattle.cil_verify.specs.WellTyped.{IsWellTyped}
use Rattle.cil_safety.proofs.PlainTypes.{IsPlainType, substituted_same}
use Rattle.cil_safety.proofs.Built.{IsBuilt}
use Rattle.cil_safety.proofs.Uppers.{is_baseless, PlainClasses}

-- ---- bases

-- a struct or an interface is written without a base
abbrev IsWellBased : WrittenClass → Type 0
IsWellBased c = is_baseless c.kind ≡ true → c.base ≡ None

base_written : (k : ClassKind) (ls : List Lexeme) (b : Option WrittenType) → IsBase k ls b → is_baseless k ≡ true → b ≡ None
base_written k ls b (no_base k') e = refl
base_written k ls b (base_of_plain l ws t h1 h2) e = absurd (cc e)
base_written k ls b (base_of_abstract l ws t h1 h2) e = absurd (cc e)

class_based : (ls : List Lexeme) (c : WrittenClass) → IsClass ls c → IsWellBased c
class_based ls c (class ws kinds vars base interfaces members word name left right k vs b is ms split h1 h2 h3 h4 h5 h6 h7 many h8) e = base_written k base b h5 e

classes_based : (ls : List Lexeme) (cs : List WrittenClass) → IsProgram ls cs → AllByRecursion IsWellBased cs
classes_based ls cs none = tt
classes_based ls cs (more ws front back c ds split is rest) = (class_based front c is, classes_based back ds rest)

abbrev IsBaseless : ClassDef → Type 0
IsBaseless c = is_baseless c.kind ≡ true → c.base ≡ None

base_named : (s : Scope) (k : ClassKind) (written : Option WrittenType) (base : Option TExpr) → NamesBase s k written base → is_baseless k ≡ true → written ≡ None → base ≡ None
base_named s k written base object_of_plain e none' = absurd (cc e)
base_named s k written base object_of_abstract e none' = absurd (cc e)
base_named s k written base none_of_struct e none' = refl
base_named s k written base none_of_interface e none' = refl
base_named s k written base (written_base k' x t h) e none' = absurd (cc none')

named_based : (known : Known) (first : ℕ) (x : WrittenClass) (c : ClassDef) → NamesClass known first x c → IsWellBased x → IsBaseless c
named_based known first x c n well e = let f : is_baseless x.kind ≡ true = subst (λ k. is_baseless k ≡ true) n.kind e in base_named _ x.kind x.base c.base n.base f (well f)

all_based : (known : Known) (first : ℕ) (ws : List WrittenClass) (cs : List ClassDef) → NamesClasses known first ws cs → AllByRecursion IsWellBased ws → AllByRecursion IsBaseless cs
all_based known first ws cs (no_classes f) all = tt
all_based known first ws cs (more_classes f x c xs ds n rest) all = (named_based known f x c n all.0, all_based known (f + length (methods_of x.members)) xs ds rest all.1)

no_base_of : (k : ClassKind) (b : Option TExpr) → is_baseless k ≡ false → is_baseless k ≡ true → b ≡ None
no_base_of k b e f = absurd (cc (e, f))

library_based : AllByRecursion IsBaseless library_classes
library_based =
    (λ e. refl, (no_base_of class_kind.Plain _ refl, (no_base_of class_kind.Plain _ refl, (no_base_of class_kind.Plain _ refl, (no_base_of class_kind.Plain _ refl, (no_base_of class_kind.Plain _ refl, (no_base_of class_kind.Plain _ refl, (no_base_of class_kind.Plain _ refl, (no_base_of class_kind.Plain _ refl, (no_base_of class_kind.Plain _ refl, (no_base_of class_kind.Plain _ refl, (λ e. refl, (no_base_of class_kind.Plain _ refl, tt)))))))))))))

classes_baseless : (p : Program) → IsOfText p → (number : ℕ) (c : ClassDef) → slice_get p.classes number ≡ Some c → IsBaseless c
classes_baseless p of number c is =
    let named = of.accepted.named in
    let own : AllByRecursion IsBaseless named.own_classes = all_based (known_of of.classes) (length library_methods) of.classes named.own_classes named.named_classes (classes_based (lexemes_of of.text of.accepted.written.tokens) of.classes of.accepted.written.spelled) in
    item_holds IsBaseless (library_classes ++ named.own_classes) number c (join_all IsBaseless library_classes named.own_classes library_based own) (subst (λ cs. slice_get cs number ≡ Some c) named.classes_are is)

-- ---- classes without variables

optional_plain : (o : Option TExpr) (b : TExpr) → AllByRecursion IsPlainType (option_to_list o) → o ≡ Some b → IsPlainType b
optional_plain None b all e = absurd (cc e)
optional_plain (Some x) b all e = let q : x ≡ b = cc e in subst (λ z. IsPlainType z) q all.0

has_plain : (ts : List TExpr) (t : TExpr) → AllByRecursion IsPlainType ts → Has ts t → IsPlainType t
has_plain [] t all h = absurd h
has_plain (x ∷ xs) t all h = elim h [ inl e ↦ subst (λ z. IsPlainType z) e all.0 | inr r ↦ has_plain xs t all.1 r ]

field_plain : (fs : List FieldDef) (k : ℕ) (f : FieldDef) → AllByRecursion IsPlainType (map (λ (x : FieldDef). x.kind) fs) → slice_get fs k ≡ Some f → IsPlainType f.kind
field_plain [] k f all e = absurd (cc e)
field_plain (x ∷ xs) zero f all e = let q : x ≡ f = cc e in subst (λ (z : FieldDef). IsPlainType z.kind) q all.0
field_plain (x ∷ xs) (suc k) f all e = field_plain xs k f all.1 e

pub plain_classes : (p : Program) → IsOfText p → IsBuilt p → IsWellTyped p → PlainClasses p
plain_classes p of built typed = record {
  hierarchy = record { each = λ k c is. (typed.first.each k c is).0 };
  base_put = λ k c is b t e. substituted_same _ [] b (optional_plain c.base b (built.classes k c is).base e);
  interface_put = λ k c is i t h. substituted_same _ [] i (has_plain c.interfaces i (built.classes k c is).interfaces h);
  field_put = λ k c is t f x at. substituted_same _ [] x.kind (field_plain c.fields f x (built.classes k c is).fields at);
  baseless = classes_baseless p of;
  others = of.accepted.named.own_classes;
  library = of.accepted.named.classes_are;
}

-- ---- literals

first_few : (met xs : List (List ℕ)) → length (first_uses met xs) ≤ length xs
first_few met [] = omega arith
first_few met (x ∷ xs) = by_test (first_few met xs) (first_few (x ∷ met) xs) (is_among met x)
  where
    by_test : length (first_uses met xs) ≤ length xs → length (first_uses (x ∷ met) xs) ≤ length xs → (b : Bool) → length (if b then first_uses met xs else x ∷ first_uses (x ∷ met) xs) ≤ suc (length xs)
    by_test a b true = omega (arith, a)
    by_test a b false = omega (arith, b)

one_text : (o : WrittenOperand) → length (texts_of o) ≤ 1
one_text w.Nothing = omega arith
one_text (w.Int32 n) = omega arith
one_text (w.Int64 n) = omega arith
one_text (w.Text bytes) = omega arith
one_text (w.Place n) = omega arith
one_text (w.Label to) = omega arith
one_text (w.Labels to) = omega arith
one_text (w.Type t) = omega arith
one_text (w.Method m) = omega arith
one_text (w.Field f) = omega arith
one_text (w.Constrained t m) = omega arith

-- lists of at most so many each are no more than that many times the items
flat_few : {A B : Type 0} (f : A → List B) (most : ℕ) (xs : List A) → AllByRecursion (λ x. length (f x) ≤ most) xs → length (flat_map f xs) ≤ most * length xs
flat_few f most [] all = omega arith
flat_few f most (x ∷ xs) all =
    let rest : length (flat_map f xs) ≤ most * length xs = flat_few f most xs all.1 in
    let first : length (f x) ≤ most = all.0 in
    let whole : length (f x ++ flat_map f xs) ≡ length (f x) + length (flat_map f xs) = length-append (f x) (flat_map f xs) in
    let next : most * suc (length xs) ≡ most * length xs + most = mul-suc most (length xs) in
    omega (arith, rest, first, whole, next)

each_text : (is : List WrittenInstr) → AllByRecursion (λ (i : WrittenInstr). length (texts_of i.operand) ≤ 1) is
each_text [] = tt
each_text (i ∷ is) = (one_text i.operand, each_text is)

body_texts : (b : WrittenBody) → length (instrs_of b.lines) ≤ 16384 → length (flat_map (λ (i : WrittenInstr). texts_of i.operand) (instrs_of b.lines)) ≤ 16384
body_texts b few =
    let all : length (flat_map (λ (i : WrittenInstr). texts_of i.operand) (instrs_of b.lines)) ≤ 1 * length (instrs_of b.lines) = flat_few (λ (i : WrittenInstr). texts_of i.operand) 1 (instrs_of b.lines) (each_text (instrs_of b.lines)) in
    omega (arith, all, few)

some_texts : (o : Option WrittenBody) → AllByRecursion (λ (b : WrittenBody). length (instrs_of b.lines) ≤ 16384) (option_to_list o) → length (flat_map (λ (b : WrittenBody). flat_map (λ (i : WrittenInstr). texts_of i.operand) (instrs_of b.lines)) (option_to_list o)) ≤ 16384
some_texts None all = omega arith
some_texts (Some b) all =
    let one : length (flat_map (λ (i : WrittenInstr). texts_of i.operand) (instrs_of b.lines)) ≤ 16384 = body_texts b all.0 in
    let whole : length (flat_map (λ (i : WrittenInstr). texts_of i.operand) (instrs_of b.lines) ++ []) ≡ length (flat_map (λ (i : WrittenInstr). texts_of i.operand) (instrs_of b.lines)) + 0 = length-append (flat_map (λ (i : WrittenInstr). texts_of i.operand) (instrs_of b.lines)) [] in
    omega (arith, one, whole)

method_texts : (m : WrittenMethod) → IsSmallMethod m → length (texts_of_method m) ≤ 16384
method_texts m small = some_texts m.body (recursion_from_All (λ (b : WrittenBody). length (instrs_of b.lines) ≤ 16384) (option_to_list m.body) small.instrs)

methods_texts : (ms : List WrittenMethod) → AllByRecursion IsSmallMethod ms → AllByRecursion (λ m. length (texts_of_method m) ≤ 16384) ms
methods_texts [] all = tt
methods_texts (m ∷ ms) all = (method_texts m all.0, methods_texts ms all.1)

pub few_literals : (p : Program) → IsOfText p → length p.literals ≤ 2 ^ 32
few_literals p of =
    let classes = of.classes in
    let ms : List WrittenMethod = all_methods of.classes in
    let texts : List (List ℕ) = flat_map texts_of_method ms in
    let small = of.accepted.written.small in
    let count : length library_methods + length ms ≤ 16384 = small.methods_count in
    let each : length texts ≤ 16384 * length ms = flat_few texts_of_method 16384 ms (methods_texts ms (recursion_from_All IsSmallMethod ms small.methods)) in
    let first : length (first_uses [] texts) ≤ length texts = first_few [] texts in
    let same : length p.literals ≡ length (first_uses [] texts) = ap length of.accepted.named.literals in
    let bound : 16384 * length ms ≤ 16384 * 16384 = (let less : length ms ≤ 16384 = omega (arith, count) in omega (arith, less)) in
    omega (arith, same, first, each, bound)
