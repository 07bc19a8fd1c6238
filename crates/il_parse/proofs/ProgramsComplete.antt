-- Programs of the grammar, within the limits, are read as themselves.
use Rattle.std.proofs.Common.{◌≡◌, ℕ, zero, suc, ◌+◌, ◌-◌, ◌≤◌, Bool, true, List, [], ◌∷◌, ◌++◌, length, map, flat_map, option_to_list, Ok, refl, sym, ap, subst, ◌∙◌, append_assoc, append-nil, arith, Contains, All}
use Rattle.std.specs.List.{AllByRecursion}
use Rattle.std.proofs.lemmas.List.{length-append}
use Rattle.std.proofs.lemmas.List.Elements.{recursion_from_All}
use Rattle.il_model.specs.declared.written.WrittenType.{WrittenType}
use Rattle.il_model.specs.declared.written.WrittenBody.{WrittenBody}
use Rattle.il_model.specs.declared.written.WrittenMethod.{WrittenMethod}
use Rattle.il_model.specs.declared.written.WrittenClass.{WrittenClass}
use Rattle.il_model.specs.Lexemes.{Lexeme, none, more}
use Rattle.il_model.specs.Bounds.{written_positions, instrs_of, types_of_vars, types_of_method, types_of_class, fields_of, methods_of, all_methods, IsSmall, IsSmallMethod}
use Rattle.il_model.specs.Classes.{IsClass, class, IsProgram}
use Rattle.il_model.specs.LookUp.{has_entry, MayBegin, EntriesFit}
use Rattle.il_parse.specs.Classes.{is_empty, read_class, classes_from, class_room, method_room, outcome, read_program}
use Rattle.il_parse.proofs.Steps.{AreSpelled, spelled-append, by_step}
use Rattle.il_parse.proofs.Finding.{contains_later}
use Rattle.il_parse.proofs.ListsSound.{AreSmall}
use Rattle.il_parse.proofs.MethodsSound.{MethodFine}
use Rattle.il_parse.proofs.ListsComplete.{small-split}
use Rattle.il_parse.proofs.ClassesComplete.{ClassFits, class_complete}

all-split : {X : Type 0} (P : X → Type 0) (xs ys : List X) → AllByRecursion P (xs ++ ys) → AllByRecursion P xs × AllByRecursion P ys
all-split P [] ys all = (tt, all)
all-split P (x ∷ xs) ys all = let r = all-split P xs ys all.1 in ((all.0, r.0), r.1)

-- the limits on one class
record ClassFine (c : WrittenClass) : Type 0 where
  small : AreSmall (types_of_class c)
  vars : length c.vars ≤ 3
  methods : AllByRecursion (MethodFine (is_empty c.vars)) (methods_of c.members)

class_word : (front : List Lexeme) (c : WrittenClass) → IsClass front c → (l : Lexeme) × (rest : List Lexeme) × (front ≡ l ∷ rest)
class_word front c (class ws kinds vars base interfaces members word name opening closing k vs b is ms split h_word is_k is_name are_vars is_base are_is opens many closes) =
    (word, kinds ++ name ∷ vars ++ base ++ interfaces ++ opening ∷ members ++ closing ∷ [], split)

class_step : (most left : ℕ) (found : List WrittenClass) (front : List Lexeme) (c : WrittenClass) (back : List Lexeme) → IsClass front c → ClassFits left c → AreSpelled front →
    classes_from (suc most) left found (front ++ back) ≡ classes_from most (left - length (methods_of c.members)) (found ++ c ∷ []) back
unfolding classes_from
class_step most left found front c back is fits s =
    let b = class_word front c is in
    let whole : front ++ back ≡ b.0 ∷ (b.1 ++ back) = ap (λ z. z ++ back) b.2 in
    ap (classes_from (suc most) left found) whole
    ∙ by_step (read_class left (b.0 ∷ (b.1 ++ back))) _ _ (c, left - length (methods_of c.members)) back
    (ap (read_class left) (sym whole) ∙ class_complete left front c back is fits s) refl

classes_end : (most left : ℕ) (found : List WrittenClass) → classes_from most left found [] ≡ Ok (found ++ [], [])
unfolding classes_from
classes_end most left found = ap (λ z. Ok (z, [])) (sym (append-nil found))

classes_complete : (most left : ℕ) (found : List WrittenClass) (ws : List Lexeme) (cs : List WrittenClass) → IsProgram ws cs → AllByRecursion ClassFine cs → AreSpelled ws →
    length cs ≤ most → length (all_methods cs) ≤ left → classes_from most left found ws ≡ Ok (found ++ cs, [])
classes_complete most left found ws cs none fine s few count = classes_end most left found
classes_complete zero left found ws cs (more same first rest c ds split p m) fine s few count = absurd (omega (arith, few))
classes_complete (suc most) left found ws cs (more same first rest c ds split p m) fine s few count =
    let parts = spelled-append first rest (subst AreSpelled split s) in
    let all : length (all_methods (c ∷ ds)) ≡ length (methods_of c.members) + length (all_methods ds) = length-append (methods_of c.members) (all_methods ds) in
    let fits : ClassFits left c = record { small = fine.0.small; vars = fine.0.vars; methods = fine.0.methods; few = omega (arith, count, all) } in
    ap (classes_from (suc most) left found) split
    ∙ class_step most left found first c rest p fits parts.0
    ∙ classes_complete most (left - length (methods_of c.members)) (found ++ c ∷ []) rest ds m fine.1 parts.1 (omega (arith, few)) (omega (arith, count, all))
    ∙ ap (λ z. Ok (z, [])) (append_assoc found (c ∷ []) ds)

-- a method of a small program is within its limits
method_fine : (plain_class : Bool) (m : WrittenMethod) → AreSmall (types_of_method m) → IsSmallMethod m → ((at : ℕ) → Contains (has_entry m) at → (plain_class ≡ true) × MayBegin m) →
    MethodFine plain_class m
method_fine plain_class m types small begins = record {
  small = types;
  vars = small.vars;
  instrs = recursion_from_All (λ (b : WrittenBody). length (instrs_of b.lines) ≤ 16384) (option_to_list m.body) small.instrs;
  begins = begins;
}

-- the entry points of these methods fit
abbrev Begin : Bool → WrittenMethod → Type 0
Begin plain_class m = (at : ℕ) → Contains (has_entry m) at → (plain_class ≡ true) × MayBegin m

methods_fine : (plain_class : Bool) (ms : List WrittenMethod) → AreSmall (flat_map types_of_method ms) → AllByRecursion IsSmallMethod ms →
    ((m : WrittenMethod) → Contains ms m → Begin plain_class m) → AllByRecursion (MethodFine plain_class) ms
methods_fine plain_class [] types small begin = tt
methods_fine plain_class (m ∷ ms) types small begin =
    let t = small-split (types_of_method m) (flat_map types_of_method ms) types in (
      method_fine plain_class m t.0 small.0 (begin m (0, omega arith, refl)),
      methods_fine plain_class ms t.1 small.1 (λ d inside. begin d (contains_later m ms d inside)),
    )

begins_in : (c : WrittenClass) → EntriesFit c → (m : WrittenMethod) → Contains (methods_of c.members) m → Begin (is_empty c.vars) m
begins_in c fits m inside at has =
    let e = fits.each m inside at has in
    (ap is_empty e.0, e.1)

class_fine : (c : WrittenClass) → AreSmall (types_of_class c) → length c.vars ≤ 3 → AllByRecursion IsSmallMethod (methods_of c.members) → EntriesFit c → ClassFine c
class_fine c small few methods fits =
    let t = small-split (types_of_vars c.vars ++ option_to_list c.base ++ c.interfaces ++ map (λ f. f.kind) (fields_of c.members)) (flat_map types_of_method (methods_of c.members)) small in
    record { small = small; vars = few; methods = methods_fine (is_empty c.vars) (methods_of c.members) t.1 methods (begins_in c fits) }

classes_fine : (cs : List WrittenClass) → AreSmall (flat_map types_of_class cs) → AllByRecursion (λ (c : WrittenClass). length c.vars ≤ 3) cs →
    AllByRecursion IsSmallMethod (all_methods cs) → AllByRecursion EntriesFit cs → AllByRecursion ClassFine cs
classes_fine [] types few methods fits = tt
classes_fine (c ∷ cs) types few methods fits =
    let t = small-split (types_of_class c) (flat_map types_of_class cs) types in
    let m = all-split IsSmallMethod (methods_of c.members) (all_methods cs) methods in
    (class_fine c t.0 few.0 m.0 fits.0, classes_fine cs t.1 few.1 m.1 fits.1)

-- a program of the grammar, within the limits, whose entry point stands where it may, is read as itself
pub program_complete : (ws : List Lexeme) (classes : List WrittenClass) → AreSpelled ws → IsProgram ws classes → IsSmall classes → All EntriesFit classes →
    read_program ws ≡ Ok classes
unfolding read_program
program_complete ws classes s is small fits =
    let fine = classes_fine classes (recursion_from_All (λ (t : WrittenType). written_positions t ≤ 256) (flat_map types_of_class classes) small.types)
    (recursion_from_All (λ (c : WrittenClass). length c.vars ≤ 3) classes small.vars) (recursion_from_All IsSmallMethod (all_methods classes) small.methods)
    (recursion_from_All EntriesFit classes fits) in
    ap (λ r. outcome r) (classes_complete class_room method_room [] ws classes is fine s (omega (arith, small.classes_count)) (omega (arith, small.methods_count)))
