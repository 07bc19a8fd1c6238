-- What the program of an accepted text has besides: constants in range, literals that are there, clauses that catch, and a Main that is static and takes nothing.
use Rattle.std.proofs.Common.{◌≡◌, ℕ, suc, ◌+◌, ◌<◌, ◌^◌, true, List, [], ◌∷◌, ◌++◌, length, map, Option, Some, None, refl, sym, ap, ◌∙◌, subst, arith, Contains}
use Rattle.std.specs.Prelude.{slice_get, option_to_list}
use Rattle.std.specs.List.{AllByRecursion}
use Rattle.std.specs.Int.Signed.{mag}
use Rattle.std.proofs.lemmas.List.{map-append}
use Rattle.std.proofs.lemmas.List.Elements.{All-contains, All-from_recursion, recursion_from_All}
use Rattle.std.proofs.lemmas.Option.{slice_get_within}
use Rattle.il_model.specs.declared.program.Program.{Program}
use Rattle.il_model.specs.declared.method.Body.{Body}
use Rattle.il_model.specs.declared.method.Clause.{Clause}
use Rattle.il_model.specs.declared.method.MethodDef.{MethodDef}
use Rattle.il_model.specs.declared.method.Shape.TheVariants as shape
use Rattle.il_model.specs.declared.op.Op.{Op}
use Rattle.il_model.specs.declared.written.WrittenOperand.{WrittenOperand}
use Rattle.il_model.specs.declared.written.WrittenOperand.TheVariants as w
use Rattle.il_model.specs.declared.written.WrittenInstr.{WrittenInstr}
use Rattle.il_model.specs.declared.written.WrittenLine.{WrittenLine}
use Rattle.il_model.specs.declared.written.WrittenBody.{WrittenBody}
use Rattle.il_model.specs.declared.written.WrittenMethod.{WrittenMethod}
use Rattle.il_model.specs.declared.written.WrittenMember.{WrittenMember}
use Rattle.il_model.specs.declared.written.WrittenClass.{WrittenClass}
use Rattle.il_model.specs.declared.written.WrittenClause.{WrittenClause}
use Rattle.il_model.specs.Lexemes.{Lexeme, lexemes_of, Many, none, more}
use Rattle.il_model.specs.Spellings.{Shortened, shortened}
use Rattle.il_model.specs.Forms.{OperandKind}
use Rattle.il_model.specs.Instructions.{IsOperand, nothing, int32_number, int64_number, text, place_number, target, targets, type, called, method, field, constrained, IsInside, nothing_inside, type_inside, IsLibraryCall, library_words, IsInstr, long, library, short, short_whole}
use Rattle.il_model.specs.Bodies.{AreLines, no_lines, labelled, instruction, IsBody, body}
use Rattle.il_model.specs.Classes.{IsBodyOrNone, bodiless, braced, IsMethod, IsMember, field_member, method_member, IsClass, class, IsProgram}
use Rattle.il_model.specs.Classes as written
use Rattle.il_model.specs.Bounds.{instrs_of, methods_of, all_methods}
use Rattle.il_model.specs.Names.{Scope, Each, end, both, Perhaps, neither, each}
use Rattle.il_model.specs.Library.{library_classes, constructor_of, library_methods}
use Rattle.il_model.specs.LookUp.{Known, NamesOperand, names_nothing, names_int32, names_int64, names_literal, names_place, names_target, names_targets, names_type, names_method, names_field, names_constrained, NamesInstr, NamesClause, NamesBody, Owned, owned_from, NamesOwned, has_entry, entries_from, MayBegin, EntriesFit, known_of, labels_from}
use Rattle.il_model.specs.Accepted.{IsProgramText, IsOfText}
use Rattle.il_model.specs.Ops.{Operand, operand_of}
use Rattle.il_model.specs.Found.{method_at}
use Rattle.il_print.proofs.AgainNumbers.{int32_low, int64_low}
use Rattle.rgctx_fill.proofs.WholeLists.{join_all, item_holds}
use Rattle.rgctx_fill.proofs.TextLeaves.{got_right, among, each_none, owned_by}
use Rattle.cil_verify.specs.Places.{code_of, clauses_of}
use Rattle.cil_verify.specs.Forms.{is_catch}
use Rattle.cil_safety.proofs.StraightForms.{LiteralFits}

-- ---- what is written

-- a number that is written is in the range of its form
abbrev NumberIsLow : WrittenOperand → Type 0
NumberIsLow (w.Int32 n) = mag n < 2 ^ 31
NumberIsLow (w.Int64 n) = mag n < 2 ^ 63
NumberIsLow w.Nothing = Unit {0}
NumberIsLow (w.Text bytes) = Unit {0}
NumberIsLow (w.Place n) = Unit {0}
NumberIsLow (w.Label to) = Unit {0}
NumberIsLow (w.Labels to) = Unit {0}
NumberIsLow (w.Type t) = Unit {0}
NumberIsLow (w.Method m) = Unit {0}
NumberIsLow (w.Field f) = Unit {0}
NumberIsLow (w.Constrained t m) = Unit {0}

operand_low : (k : OperandKind) (ls : List Lexeme) (o : WrittenOperand) → IsOperand k ls o → NumberIsLow o
operand_low k ls o nothing = tt
operand_low k ls o (int32_number l n is value) = int32_low l.bytes n value
operand_low k ls o (int64_number l n is value) = int64_low l.bytes n value
operand_low k ls o (text l is) = tt
operand_low k ls o (place_number l n is value) = tt
operand_low k ls o (target ws to is) = tt
operand_low k ls o (targets ws inner left right to split h1 h2 h3) = tt
operand_low k ls o (type ws t is) = tt
operand_low k ls o (called ws m is no') = tt
operand_low k ls o (method ws m is) = tt
operand_low k ls o (field ws f is) = tt
operand_low k ls o (constrained ws kind named l t m split h1 h2 h3) = tt

inside_low : (k : OperandKind) (ls : List Lexeme) (o : WrittenOperand) → IsInside k ls o → NumberIsLow o
inside_low k ls o nothing_inside = tt
inside_low k ls o (type_inside ws t is) = tt

call_low : (ls : List Lexeme) (i : WrittenInstr) → IsLibraryCall ls i.form i.operand → NumberIsLow i.operand
call_low ls i (library_words ws front inner back f o first last split h1 h2 inside h3) = inside_low _ inner o inside

abbrev RowIsLow : Shortened → Type 0
RowIsLow row = NumberIsLow row.operand

shortened_low : AllByRecursion RowIsLow shortened
shortened_low = (omega arith, (omega arith, (omega arith, (omega arith, (omega arith, (omega arith, (omega arith, (omega arith, (omega arith, (omega arith, (tt, (tt, (tt, (tt, (tt, (tt, (tt, (tt, (tt, (tt, (tt, (tt, (tt, (tt, (tt, (tt, (tt, (tt, (tt, (tt, (tt, (tt, tt))))))))))))))))))))))))))))))))

instr_low : (ls : List Lexeme) (i : WrittenInstr) → IsInstr ls i → NumberIsLow i.operand
instr_low ls i (long l ws f o is operand) = operand_low _ ws o operand
instr_low ls i (library l ws f o is call) = call_low ws (record { at = l.at; form = f; operand = o }) call
instr_low ls i (short l ws f o is operand) = operand_low _ ws o operand
instr_low ls i (short_whole l row is word) = All-contains RowIsLow shortened row (All-from_recursion RowIsLow shortened shortened_low) is

abbrev InstrIsLow : WrittenInstr → Type 0
InstrIsLow i = NumberIsLow i.operand

lines_low : (quoted : List (List ℕ)) (ls : List Lexeme) (lines : List WrittenLine) → AreLines quoted ls lines → AllByRecursion InstrIsLow (instrs_of lines)
lines_low quoted ls lines (no_lines q) = tt
lines_low quoted ls lines (labelled q l colon rest more' h1 h2 are) = lines_low [] rest more' are
lines_low quoted ls lines (instruction q ws front back i more' split is are) = (instr_low front i is, lines_low [] back more' are)

abbrev BodyIsLow : WrittenBody → Type 0
BodyIsLow b = AllByRecursion InstrIsLow (instrs_of b.lines)

body_low : (ls : List Lexeme) (b : WrittenBody) → IsBody ls b → BodyIsLow b
body_low ls b (body ws first second third fourth entry locals lines clauses split h1 h2 are h3) = lines_low _ third lines are

abbrev MethodIsLow : WrittenMethod → Type 0
MethodIsLow m = AllByRecursion BodyIsLow (option_to_list m.body)

some_low : (ls : List Lexeme) (o : Option WrittenBody) → IsBodyOrNone ls o → AllByRecursion BodyIsLow (option_to_list o)
some_low ls o (bodiless l is) = tt
some_low ls o (braced ws inner left right b split h1 is h2) = (body_low inner b is, tt)

method_low : (ls : List Lexeme) (m : WrittenMethod) → IsMethod ls m → MethodIsLow m
method_low ls m (written.method ws shaped result vars params rest word name left right s quoted r vs ps b split h1 h2 h3 h4 h5 h6 h7 h8 h9 h10) = some_low rest b h10

members_low : (ls : List Lexeme) (ms : List WrittenMember) → Many IsMember ls ms → AllByRecursion MethodIsLow (methods_of ms)
members_low ls ms none = tt
members_low ls ms (more ws front back x xs split (field_member fs f h) rest) = members_low back xs rest
members_low ls ms (more ws front back x xs split (method_member fs m h) rest) = (method_low fs m h, members_low back xs rest)

class_low : (ls : List Lexeme) (c : WrittenClass) → IsClass ls c → AllByRecursion MethodIsLow (methods_of c.members)
class_low ls c (class ws kinds vars base interfaces members word name left right k vs b is ms split h1 h2 h3 h4 h5 h6 h7 many h8) = members_low members ms many

classes_low : (ls : List Lexeme) (cs : List WrittenClass) → IsProgram ls cs → AllByRecursion MethodIsLow (all_methods cs)
classes_low ls cs none = tt
classes_low ls cs (more ws front back c ds split is rest) = join_all MethodIsLow (methods_of c.members) (all_methods ds) (class_low front c is) (classes_low back ds rest)

-- ---- what it stands for

abbrev OwnedIsLow : Owned → Type 0
OwnedIsLow o = MethodIsLow o.written

-- what holds of each written method holds of each with its class
owned_all : (P : WrittenMethod → Type 0) (owner : ℕ) (cs : List WrittenClass) → AllByRecursion P (all_methods cs) → AllByRecursion (λ (o : Owned). P o.written) (owned_from owner cs)
owned_all P owner [] all = tt
owned_all P owner (c ∷ cs) all = by_methods (λ more'. owned_all P (owner + 1) cs more') (methods_of c.members) all
  where
    by_methods : (AllByRecursion P (all_methods cs) → AllByRecursion (λ (o : Owned). P o.written) (owned_from (owner + 1) cs)) → (ms : List WrittenMethod) → AllByRecursion P (ms ++ all_methods cs) → AllByRecursion (λ (o : Owned). P o.written) (map (owned_by owner c) ms ++ owned_from (owner + 1) cs)
    by_methods go [] all' = go all'
    by_methods go (m ∷ ms) all' = (all'.0, by_methods go ms all'.1)

-- what holds of each written item holds, by what it stands for, of each
each_all : {A B : Type 0} (R : A → B → Type 0) (P : A → Type 0) (Q : B → Type 0) → ((a : A) (b : B) → R a b → P a → Q b) → (xs : List A) (ys : List B) → Each R xs ys → AllByRecursion P xs → AllByRecursion Q ys
each_all R P Q f xs ys end all = tt
each_all R P Q f xs ys (both x y us vs is are) all = (f x y is all.0, each_all R P Q f us vs are all.1)

all_any : {A : Type 0} (xs : List A) → AllByRecursion (λ x. Unit {0}) xs
all_any [] = tt
all_any (x ∷ xs) = (tt, all_any xs)

-- ---- the method with the entry point

abbrev BeginsWell : WrittenMethod → Type 0
BeginsWell m = (at : ℕ) → Contains (has_entry m) at → MayBegin m

items_hold : {A : Type 0} (P : A → Type 0) (xs : List A) → ((k : ℕ) (x : A) → slice_get xs k ≡ Some x → P x) → AllByRecursion P xs
items_hold P [] f = tt
items_hold P (x ∷ xs) f = (f 0 x refl, items_hold P xs (λ k y is. f (suc k) y is))

all_begin_well : (cs : List WrittenClass) → AllByRecursion EntriesFit cs → AllByRecursion BeginsWell (all_methods cs)
all_begin_well [] all = tt
all_begin_well (c ∷ cs) all =
    join_all BeginsWell (methods_of c.members) (all_methods cs)
    (items_hold BeginsWell (methods_of c.members) (λ k m is at begins. (all.0.each m (among (methods_of c.members) k m is) at begins).1))
    (all_begin_well cs all.1)

abbrev written_of : Owned → WrittenMethod
written_of o = o.written

own_written : (owner : ℕ) (c : WrittenClass) (ms : List WrittenMethod) → map written_of (map (owned_by owner c) ms) ≡ ms
own_written owner c [] = refl
own_written owner c (m ∷ ms) = ap (λ rest. m ∷ rest) (own_written owner c ms)

all_written : (owner : ℕ) (cs : List WrittenClass) → map written_of (owned_from owner cs) ≡ all_methods cs
all_written owner [] = refl
all_written owner (c ∷ cs) =
    map-append written_of (map (owned_by owner c) (methods_of c.members)) (owned_from (owner + 1) cs)
    ∙ ap (λ front. front ++ map written_of (owned_from (owner + 1) cs)) (own_written owner c (methods_of c.members))
    ∙ ap (λ back. methods_of c.members ++ back) (all_written (owner + 1) cs)

-- a static method that takes and gives nothing
pub record IsBare (m : MethodDef) : Type 0 where
  pub shape : m.shape ≡ shape.Fixed
  pub params : m.params ≡ []
  pub result : m.result ≡ None

record MainFound (ds : List MethodDef) (first n : ℕ) : Type 0 where
  place : ℕ
  number : n ≡ first + place
  method : MethodDef
  is : slice_get ds place ≡ Some method
  bare : IsBare method

perhaps_none : {A B : Type 0} (R : A → B → Type 0) (x : Option A) (y : Option B) → Perhaps R x y → x ≡ None → y ≡ None
perhaps_none R x y neither e = refl
perhaps_none R x y (each a b is) e = absurd (cc e)

bare_is : (known : Known) (o : Owned) (m : MethodDef) → NamesOwned known o m → MayBegin o.written → IsBare m
bare_is known o m named may = record {
  shape = named.shape ∙ may.fixed;
  params = each_none _ o.written.params m.params named.params may.params;
  result = perhaps_none _ o.written.result m.result named.gives may.void;
}

main_found : (known : Known) (first : ℕ) (os : List Owned) (ds : List MethodDef) → Each (NamesOwned known) os ds → AllByRecursion (λ (o : Owned). BeginsWell o.written) os → (n : ℕ) (rest : List ℕ) → entries_from first (map written_of os) ≡ n ∷ rest → MainFound ds first n
main_found known first os ds end all n rest e = absurd (cc e)
main_found known first os ds (both o d us vs is are) all n rest e = by_entry (λ e'. main_found known (first + 1) us vs are all.1 n rest e') (has_entry o.written) refl e
  where
    later : MainFound vs (first + 1) n → MainFound (d ∷ vs) first n
    later r = record { place = suc r.place; number = (let q : n ≡ first + 1 + r.place = r.number in omega (arith, q)); method = r.method; is = r.is; bare = r.bare }

    by_entry : (entries_from (first + 1) (map written_of us) ≡ n ∷ rest → MainFound vs (first + 1) n) → (ats : List ℕ) → has_entry o.written ≡ ats → map (λ (at : ℕ). first) ats ++ entries_from (first + 1) (map written_of us) ≡ n ∷ rest → MainFound (d ∷ vs) first n
    by_entry more' [] has e' = later (more' e')
    by_entry more' (at ∷ ats) has e' = record {
      place = 0;
      number = (let q : first ≡ n = cc e' in omega (arith, q));
      method = d;
      is = refl;
      bare = bare_is known o d is (all.0 at (subst (λ l. Contains l at) (sym has) (among (at ∷ ats) 0 at refl)));
    }

-- what a method of the program has by its text
pub record HasConstants (p : Program) (m : MethodDef) : Type 0 where
  pub literals : AllByRecursion (λ (i : Op). LiteralFits p (operand_of i)) (code_of m.body)
  pub catches : AllByRecursion (λ (c : Clause). is_catch c.sort ≡ true) (clauses_of m.body)

module _ (p : Program) (text' : List ℕ) (classes : List WrittenClass) (accepted : IsProgramText text' classes p) where
  operand_fits : (s : Scope) (labels : List (List ℕ × ℕ)) (o : WrittenOperand) (q : Operand) → NamesOperand s (known_of classes).literals labels o q → NumberIsLow o → LiteralFits p q
  operand_fits s labels o q names_nothing low = tt
  operand_fits s labels o q (names_int32 n) low = low
  operand_fits s labels o q (names_int64 n) low = low
  operand_fits s labels o q (names_literal bytes number is) low = subst (λ (ls : List (List ℕ)). number < length ls) (sym accepted.named.literals) (slice_get_within (known_of classes).literals number bytes is)
  operand_fits s labels o q (names_place n) low = tt
  operand_fits s labels o q (names_target written' to is) low = tt
  operand_fits s labels o q (names_targets written' to is) low = tt
  operand_fits s labels o q (names_type written' t is) low = tt
  operand_fits s labels o q (names_method written' m is) low = tt
  operand_fits s labels o q (names_field written' f is) low = tt
  operand_fits s labels o q (names_constrained written' named t m is is') low = tt

  clause_catches : (s : Scope) (labels : List (List ℕ × ℕ)) (written' : WrittenClause) (c : Clause) → NamesClause s labels written' c → Unit {0} → is_catch c.sort ≡ true
  clause_catches s labels written' c is any = ap is_catch is.sort

  body_has : (s : Scope) (o : Option WrittenBody) (m : MethodDef) (b : Option Body) → Perhaps (NamesBody s (known_of classes).literals) o b → AllByRecursion BodyIsLow (option_to_list o) → m.body ≡ b → HasConstants p m
  body_has s o m b neither low is = record {
    literals = subst (λ z. AllByRecursion (λ (i : Op). LiteralFits p (operand_of i)) (code_of z)) (sym is) tt;
    catches = subst (λ z. AllByRecursion (λ (c : Clause). is_catch c.sort ≡ true) (clauses_of z)) (sym is) tt;
  }
  body_has s o m b (each x y named) low is =
      let labels : List (List ℕ × ℕ) = labels_from 0 x.lines in
      record {
        literals = subst (λ z. AllByRecursion (λ (i : Op). LiteralFits p (operand_of i)) (code_of z)) (sym is)
            (each_all (NamesInstr s (known_of classes).literals labels) InstrIsLow (λ (i : Op). LiteralFits p (operand_of i)) (λ a i r l. operand_fits s labels a.operand (operand_of i) r.operand l) (instrs_of x.lines) y.code named.code low.0);
        catches = subst (λ z. AllByRecursion (λ (c : Clause). is_catch c.sort ≡ true) (clauses_of z)) (sym is)
            (each_all (NamesClause s labels) (λ a. Unit {0}) (λ (c : Clause). is_catch c.sort ≡ true) (clause_catches s labels) x.clauses y.clauses named.clauses (all_any x.clauses));
      }

  own_all : AllByRecursion (HasConstants p) accepted.named.own_methods
  own_all =
      each_all (NamesOwned (known_of classes)) OwnedIsLow (HasConstants p) (λ o m named low. body_has _ o.written.body m m.body named.body low refl)
      (owned_from (length library_classes) classes) accepted.named.own_methods accepted.named.named_methods
      (owned_all MethodIsLow (length library_classes) classes (classes_low (lexemes_of text' accepted.written.tokens) classes accepted.written.spelled))

  -- the library's methods
  constructor_has : (owner : ℕ) → HasConstants p (constructor_of owner)
  constructor_has owner = record { literals = (tt, tt); catches = tt }

  library_all : AllByRecursion (HasConstants p) library_methods
  library_all = (record { literals = (tt, (tt, (tt, tt))); catches = tt }, (constructor_has 0, (constructor_has 2, (constructor_has 3, (constructor_has 4, (constructor_has 5, (constructor_has 6, (constructor_has 7, (constructor_has 8, (constructor_has 9, (constructor_has 10, (record { literals = tt; catches = tt }, tt))))))))))))

  all_methods_have : (number : ℕ) (m : MethodDef) → method_at p number ≡ Some m → HasConstants p m
  all_methods_have number m is =
      item_holds (HasConstants p) (library_methods ++ accepted.named.own_methods) number m (join_all (HasConstants p) library_methods accepted.named.own_methods library_all own_all) (ap (λ ms. slice_get ms number) (sym accepted.named.methods_are) ∙ is)

  -- ---- Main

  own_begin : AllByRecursion (λ (o : Owned). BeginsWell o.written) (owned_from (length library_classes) classes)
  own_begin = owned_all BeginsWell (length library_classes) classes (all_begin_well classes (recursion_from_All EntriesFit classes accepted.written.entries))

  main_is_bare : (m : MethodDef) → method_at p p.main ≡ Some m → IsBare m
  main_is_bare m is =
      let e : entries_from (length library_methods) (map written_of (owned_from (length library_classes) classes)) ≡ p.main ∷ [] = ap (entries_from (length library_methods)) (all_written (length library_classes) classes) ∙ accepted.named.begins in
      let r : MainFound accepted.named.own_methods (length library_methods) p.main = main_found (known_of classes) (length library_methods) (owned_from (length library_classes) classes) accepted.named.own_methods accepted.named.named_methods own_begin p.main [] e in
      let there : method_at p p.main ≡ Some r.method =
      ap (λ ms. slice_get ms p.main) accepted.named.methods_are ∙ ap (slice_get (library_methods ++ accepted.named.own_methods)) r.number ∙ got_right library_methods accepted.named.own_methods r.place ∙ r.is in
      let same : r.method ≡ m = cc (there, is) in
      subst (λ z. IsBare z) same r.bare

-- what a program has by its text
pub record HasTextFacts (p : Program) : Type 0 where
  pub methods : (number : ℕ) (m : MethodDef) → method_at p number ≡ Some m → HasConstants p m
  pub main : (m : MethodDef) → method_at p p.main ≡ Some m → IsBare m

pub text_facts : (p : Program) → IsOfText p → HasTextFacts p
text_facts p of = record { methods = all_methods_have p of.text of.classes of.accepted; main = main_is_bare p of.text of.classes of.accepted }
