-- What is read as a program is that of the grammar, within the limits, where calls are.
use Rattle.std.proofs.Common.{◌≡◌, ℕ, zero, suc, ◌≤◌, Bool, true, false, if◌then◌else◌, List, [], ◌∷◌, ◌++◌, length, flat_map, option_to_list, Result, Ok, Err, sym, ap, subst, ◌∙◌, codes, append_assoc, append-nil, bytes_eq, arith, Contains, All}
use Rattle.std.specs.List.{AllByRecursion}
use Rattle.std.proofs.lemmas.Bool.{true≢false}
use Rattle.std.proofs.lemmas.List.{length-append}
use Rattle.il_model.specs.declared.written.WrittenType.{WrittenType}
use Rattle.il_model.specs.declared.written.WrittenBody.{WrittenBody}
use Rattle.il_model.specs.declared.written.WrittenMethod.{WrittenMethod}
use Rattle.il_model.specs.declared.written.WrittenClass.{WrittenClass}
use Rattle.il_model.specs.Lexemes.{Lexeme, none, more}
use Rattle.il_model.specs.Bounds.{written_positions, instrs_of, types_of_class, methods_of, all_methods, IsSmall, IsSmallMethod}
use Rattle.il_model.specs.Classes.{IsProgram}
use Rattle.il_model.specs.LookUp.{EntriesFit}
use Rattle.il_parse.specs.declared.fault.Fault.{Fault}
use Rattle.il_parse.specs.declared.fault.ParseCause.TheVariants as cause
use Rattle.il_parse.specs.Reading.{Read, fault_at, stuck_fault}
use Rattle.il_parse.specs.Classes.{is_empty, read_class, classes_from, class_room, method_room, outcome, read_program}
use Rattle.il_parse.proofs.Steps.{AreSpelled, spelled_rest, refusal, value_of, stepped}
use Rattle.il_parse.proofs.ListsSound.{AreSmall, small-append}
use Rattle.il_parse.proofs.InstrsSound.{CallsAreSound}
use Rattle.il_parse.proofs.MethodsSound.{MethodFine, empty_is}
use Rattle.il_parse.proofs.ClassesSound.{class_sound}

-- a class within its limits
record ClassFine (c : WrittenClass) : Type 0 where
  small : AreSmall (types_of_class c)
  vars : length c.vars ≤ 3
  methods : AllByRecursion (MethodFine (is_empty c.vars)) (methods_of c.members)

-- classes that were read behind those found, up to the end of the text
record ClassesRead (most left : ℕ) (found : List WrittenClass) (ws : List Lexeme) (ys : List WrittenClass) : Type 0 where
  items : List WrittenClass
  all : ys ≡ found ++ items
  are : IsProgram ws items
  fine : AllByRecursion ClassFine items
  few : length items ≤ most
  count : length (all_methods items) ≤ left

no_token : {A C : Type 0} (l : Lexeme) (ws : List Lexeme) (b : Bool) (x : A) (back : List Lexeme) →
    (let r : Read A = if b then Err (fault_at (l ∷ ws) cause.TooMany) else Err (stuck_fault (l ∷ ws)) in r ≡ Ok (x, back)) → C
no_token l ws true x back e = refusal (fault_at (l ∷ ws) cause.TooMany) x back e
no_token l ws false x back e = refusal (stuck_fault (l ∷ ws)) x back e

module _ (call_sound : CallsAreSound) where
  classes_sound : (most left : ℕ) (found : List WrittenClass) (ws : List Lexeme) (ys : List WrittenClass) (back : List Lexeme) →
      AreSpelled ws → classes_from most left found ws ≡ Ok (ys, back) → ClassesRead most left found ws ys
  unfolding classes_from
  classes_sound most left found [] ys back spelled e = record {
    items = [];
    all = sym (value_of found ys [] back e) ∙ sym (append-nil found);
    are = none;
    fine = tt;
    few = omega arith;
    count = omega arith;
  }
  classes_sound zero left found (l ∷ ws) ys back spelled e = no_token l ws (bytes_eq (codes ".class") l.bytes) ys back e
  classes_sound (suc most) left found (l ∷ ws) ys back spelled e =
      stepped (read_class left (l ∷ ws)) _ ys back e (λ p mid e0 f0.
      let t = class_sound call_sound left (l ∷ ws) p mid spelled e0 in
      let m = classes_sound most p.1 (found ++ p.0 ∷ []) mid ys back (spelled_rest (l ∷ ws) t.front mid t.split spelled) f0 in
      record {
        items = p.0 ∷ m.items;
        all = m.all ∙ append_assoc found (p.0 ∷ []) m.items;
        are = more (l ∷ ws) t.front mid p.0 m.items t.split t.holds.is m.are;
        fine = (record { small = t.holds.small; vars = t.holds.vars; methods = t.holds.methods }, m.fine);
        few = omega (arith, m.few);
        count = omega (arith, m.count, t.holds.count, length-append (methods_of p.0.members) (all_methods m.items));
      })

pub all_of : {X : Type 0} (P : X → Type 0) (xs : List X) → AllByRecursion P xs → All P xs
all_of P [] all k d inside = absurd (omega (arith, inside))
all_of P (x ∷ xs) all zero d inside = all.0
all_of P (x ∷ xs) all (suc k) d inside = all_of P xs all.1 k d (omega (arith, inside))

pub all_contains : {X : Type 0} (P : X → Type 0) (xs : List X) (x : X) → AllByRecursion P xs → Contains xs x → P x
all_contains P xs x all (k, inside, is) = subst P is (all_of P xs all k x inside)

pub all_map : {X : Type 0} (P Q : X → Type 0) → ((x : X) → P x → Q x) → (xs : List X) → AllByRecursion P xs → AllByRecursion Q xs
all_map P Q f [] all = tt
all_map P Q f (x ∷ xs) all = (f x all.0, all_map P Q f xs all.1)

all-append : {X : Type 0} (P : X → Type 0) (xs ys : List X) → AllByRecursion P xs → AllByRecursion P ys → AllByRecursion P (xs ++ ys)
all-append P [] ys a b = b
all-append P (x ∷ xs) ys a b = (a.0, all-append P xs ys a.1 b)

small_method : (plain_class : Bool) (m : WrittenMethod) → MethodFine plain_class m → IsSmallMethod m
small_method plain_class m f = record { vars = f.vars; instrs = all_of (λ (b : WrittenBody). length (instrs_of b.lines) ≤ 16384) (option_to_list m.body) f.instrs }

fine_methods : (cs : List WrittenClass) → AllByRecursion ClassFine cs → AllByRecursion IsSmallMethod (all_methods cs)
fine_methods [] all = tt
fine_methods (c ∷ cs) all =
    all-append IsSmallMethod (methods_of c.members) (all_methods cs)
    (all_map (MethodFine (is_empty c.vars)) IsSmallMethod (small_method (is_empty c.vars)) (methods_of c.members) all.0.methods) (fine_methods cs all.1)

fine_types : (cs : List WrittenClass) → AllByRecursion ClassFine cs → AreSmall (flat_map types_of_class cs)
fine_types [] all = tt
fine_types (c ∷ cs) all = small-append (types_of_class c) (flat_map types_of_class cs) all.0.small (fine_types cs all.1)

entries_fit : (c : WrittenClass) → ClassFine c → EntriesFit c
entries_fit c f = record {
  each = λ m inside at has.
      let fine = all_contains (MethodFine (is_empty c.vars)) (methods_of c.members) m f.methods inside in
      let b = fine.begins at has in
      (empty_is c.vars b.0, b.1);
}

-- a program that is read is in the grammar, within the limits, and its entry points fit
pub record ProgramRead (ws : List Lexeme) (classes : List WrittenClass) : Type 0 where
  pub is : IsProgram ws classes
  pub small : IsSmall classes
  pub entries : All EntriesFit classes

read_whole : (ws : List Lexeme) (cs : List WrittenClass) → ClassesRead class_room method_room [] ws cs → ProgramRead ws cs
read_whole ws cs r =
    let fine = subst (AllByRecursion ClassFine) (sym r.all) r.fine in
    record {
      is = subst (IsProgram ws) (sym r.all) r.are;
      small = record {
        classes_count = omega (arith, ap length r.all, r.few);
        methods_count = omega (arith, ap (λ ds. length (all_methods ds)) r.all, r.count);
        vars = all_of (λ (c : WrittenClass). length c.vars ≤ 3) cs (all_map ClassFine (λ c. length c.vars ≤ 3) (λ c f. f.vars) cs fine);
        methods = all_of IsSmallMethod (all_methods cs) (fine_methods cs fine);
        types = all_of (λ (t : WrittenType). written_positions t ≤ 256) (flat_map types_of_class cs) (fine_types cs fine);
      };
      entries = all_of EntriesFit cs (all_map ClassFine EntriesFit entries_fit cs fine);
    }

outcome_is : {A : Type 0} (r : Read A) (x : A) → outcome r ≡ Ok x → (back : List Lexeme) × (r ≡ Ok (x, back))
outcome_is (Ok p) x e = (p.1, ap (λ y. Ok (y, p.1)) (ap (λ (o : Result _ Fault). elim o [ Ok y ↦ y | Err f ↦ p.0 ]) e))
outcome_is (Err f) x e = absurd (true≢false (sym (ap (λ (o : Result _ Fault). elim o [ Ok y ↦ true | Err g ↦ false ]) e)))

pub program_sound : CallsAreSound → (ws : List Lexeme) (classes : List WrittenClass) → AreSpelled ws → read_program ws ≡ Ok classes → ProgramRead ws classes
unfolding read_program
program_sound call_sound ws classes spelled e =
    let r = outcome_is (classes_from class_room method_room [] ws) classes e in
    read_whole ws classes (classes_sound call_sound class_room method_room [] ws classes r.0 spelled r.1)
