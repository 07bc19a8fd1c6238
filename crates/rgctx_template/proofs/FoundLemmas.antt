-- What the look-up of members finds is what the functions give.
use Rattle.std.proofs.Common.{◌≡◌, ◌∙◌, ℕ, zero, suc, ◌+◌, ◌<◌, Bool, true, false, cond, not, nat_lt, List, [], ◌∷◌, length, take, slice_get, bytes_eq, ◌==◌, ◌&&◌, Some, None, Option, option_and_then, subst, sym, ap, refl, arith}
use Rattle.std.specs.Bool.{Decides, beq}
use Rattle.std.specs.List.{find, position, position_or_len}
use Rattle.std.proofs.lemmas.Bool.Decides.{nat_tests, Decides-and, Decides-like, Decides-eqb}
use Rattle.std.proofs.lemmas.Option.{slice_get_within}
use Rattle.std.proofs.lemmas.Slice.Eq.{bytes_eq-Decides, slice_eq-Decides}
use Rattle.std.specs.Cmp.{booleans_Decides}
use Rattle.std.specs.Cmp.Lexicographic.{pointwise}
use Rattle.type_tree.specs.declared.tree.TExpr.{TExpr}
use Rattle.type_tree.specs.Same.{is_same}
use Rattle.type_tree.proofs.SameLemmas.{is_same-Decides}
use Rattle.il_model.specs.declared.class.ClassDef.{ClassDef}
use Rattle.il_model.specs.declared.class.FieldDef.{FieldDef}
use Rattle.il_model.specs.declared.method.PType.{PType}
use Rattle.il_model.specs.declared.method.PType.TheVariants as ptype
use Rattle.il_model.specs.declared.method.MethodDef.{MethodDef}
use Rattle.il_model.specs.declared.member.MRef.{MRef}
use Rattle.il_model.specs.declared.member.FRef.{FRef}
use Rattle.il_model.specs.declared.program.Program.{Program}
use Rattle.il_model.specs.Find.{class_of, takes_object, IsMethodNamed, IsFieldNamed, HasMethod, NoneBefore, FindsMethod, FindsField, FindsFieldIn, most_fields}
use Rattle.il_model.specs.Found.{same_param, same_result, is_method_named, is_field_named, method_at, is_named_in, own_method, own_field, method_found, field_found}

module _ {A : Type 0} (test : A → Bool) (P : A → Type 0) (each : (x : A) → Decides (test x) (P x)) where
  fails_here : (x : A) → ¬ (P x) → test x ≡ false
  fails_here x fails = elim (test x) as (λ (b : Bool). test x ≡ b → b ≡ false) [ true ↦ (λ is. absurd (fails ((each x).0 is))) | false ↦ (λ is. refl) ] refl

  none_after : (x : A) (xs : List A) (k : ℕ) → NoneBefore P (x ∷ xs) (suc k) → NoneBefore P xs k
  none_after x xs k n = record { none = λ j y below is. n.none (suc j) y (omega arith) is }

  first_fails : (x : A) (xs : List A) (k : ℕ) → NoneBefore P (x ∷ xs) (suc k) → test x ≡ false
  first_fails x xs k n = fails_here x (n.none zero x (omega arith) refl)

  find_none : (xs : List A) → NoneBefore P xs (length xs) → find test xs ≡ None
  find_none [] n = refl
  find_none (x ∷ xs) n =
      ap (λ (b : Bool). cond b (Some x) (find test xs)) (first_fails x xs (length xs) n) ∙ find_none xs (none_after x xs (length xs) n)

  find_first : (xs : List A) (k : ℕ) (y : A) → slice_get xs k ≡ Some y → P y → NoneBefore P xs k → find test xs ≡ Some y
  find_first [] k y is holds n = cc
  find_first (x ∷ xs) zero y is holds n =
      let same : x ≡ y = cc in
      ap (λ (b : Bool). cond b (Some x) (find test xs)) ((each x).1 (subst P (sym same) holds)) ∙ is
  find_first (x ∷ xs) (suc k) y is holds n =
      ap (λ (b : Bool). cond b (Some x) (find test xs)) (first_fails x xs k n) ∙ find_first xs k y is holds (none_after x xs k n)

  place_none : (xs : List A) → NoneBefore P xs (length xs) → position_or_len test xs ≡ length xs
  place_none [] n = refl
  place_none (x ∷ xs) n =
      let rest : position_or_len test xs ≡ length xs = place_none xs (none_after x xs (length xs) n) in
      ap (λ (b : Bool). cond (not b) (1 + position_or_len test xs) 0) (first_fails x xs (length xs) n) ∙ (let step : 1 + position_or_len test xs ≡ suc (length xs) = omega arith in step)

  place_first : (xs : List A) (k : ℕ) (y : A) → slice_get xs k ≡ Some y → P y → NoneBefore P xs k → position_or_len test xs ≡ k
  place_first [] k y is holds n = cc
  place_first (x ∷ xs) zero y is holds n =
      let same : x ≡ y = cc in
      ap (λ (b : Bool). cond (not b) (1 + position_or_len test xs) 0) ((each x).1 (subst P (sym same) holds))
  place_first (x ∷ xs) (suc k) y is holds n =
      let rest : position_or_len test xs ≡ k = place_first xs k y is holds (none_after x xs k n) in
      ap (λ (b : Bool). cond (not b) (1 + position_or_len test xs) 0) (first_fails x xs k n) ∙ (let step : 1 + position_or_len test xs ≡ suc k = omega arith in step)

  position_none : (xs : List A) → NoneBefore P xs (length xs) → position test xs ≡ None
  position_none xs n =
      let at : position_or_len test xs ≡ length xs = place_none xs n in
      let past : nat_lt (position_or_len test xs) (length xs) ≡ false = grind (arith, nat_tests) in
      ap (λ (b : Bool). cond b (Some (position_or_len test xs)) None) past

  position_first : (xs : List A) (k : ℕ) (y : A) → slice_get xs k ≡ Some y → P y → NoneBefore P xs k → position test xs ≡ Some k
  position_first xs k y is holds n =
      let at : position_or_len test xs ≡ k = place_first xs k y is holds n in
      let inside : k < length xs = slice_get_within xs k y is in
      let within : nat_lt (position_or_len test xs) (length xs) ≡ true = grind (arith, nat_tests) in
      ap (λ (b : Bool). cond b (Some (position_or_len test xs)) None) within ∙ ap Some at

same_param-Decides : (a b : PType) → Decides (same_param a b) (a ≡ b)
same_param-Decides (ptype.Value s) (ptype.Value t) = Decides-like (is_same s t) (λ e. ap ptype.Value e) (λ e. cc) (is_same-Decides s t)
same_param-Decides (ptype.Pointer s) (ptype.Pointer t) = Decides-like (is_same s t) (λ e. ap ptype.Pointer e) (λ e. cc) (is_same-Decides s t)
same_param-Decides ptype.Native ptype.Native = ((λ _. refl), (λ _. refl))
same_param-Decides _ _ = ((λ e. cc), (λ e. cc))

same_result-Decides : (a b : Option TExpr) → Decides (same_result a b) (a ≡ b)
same_result-Decides (Some s) (Some t) = Decides-like (is_same s t) (λ e. ap Some e) (λ e. cc) (is_same-Decides s t)
same_result-Decides None None = ((λ _. refl), (λ _. refl))
same_result-Decides (Some s) None = ((λ e. cc), (λ e. cc))
same_result-Decides None (Some t) = ((λ e. cc), (λ e. cc))

same_params-Decides : (a b : List PType) → Decides (pointwise same_param a b) (a ≡ b)
same_params-Decides a b = slice_eq-Decides same_param-Decides a b (pointwise same_param a b) refl

named-Decides : (named : MRef) (m : MethodDef) → Decides (is_method_named named m) (IsMethodNamed named m)
named-Decides named m =
    Decides-like (is_method_named named m)
    (λ p. record { name = p.0.0.0.0; vars = p.0.0.0.1; params = p.0.0.1; gives = p.0.1; object = p.1 })
    (λ is. ((((is.name, is.vars), is.params), is.gives), is.object))
    (Decides-and (bytes_eq m.name named.name && (length m.vars == length named.args) && pointwise same_param m.params named.params && same_result m.result named.result) (beq (takes_object m.shape) named.instance)
    (Decides-and (bytes_eq m.name named.name && (length m.vars == length named.args) && pointwise same_param m.params named.params) (same_result m.result named.result)
    (Decides-and (bytes_eq m.name named.name && (length m.vars == length named.args)) (pointwise same_param m.params named.params)
    (Decides-and (bytes_eq m.name named.name) (length m.vars == length named.args)
    (bytes_eq-Decides m.name named.name)
    (Decides-eqb (length m.vars) (length named.args)))
    (same_params-Decides m.params named.params))
    (same_result-Decides m.result named.result))
    (booleans_Decides (takes_object m.shape) named.instance))

field-Decides : (named : FRef) (f : FieldDef) → Decides (is_field_named named f) (IsFieldNamed named f)
field-Decides named f =
    Decides-like (is_field_named named f)
    (λ p. record { name = p.0; kind = p.1 })
    (λ is. (is.name, is.kind))
    (Decides-and (bytes_eq f.name named.name) (is_same f.kind named.kind) (bytes_eq-Decides f.name named.name) (is_same-Decides f.kind named.kind))

number-Decides : (program : Program) (named : MRef) (number : ℕ) → Decides (is_named_in named (method_at program number)) (HasMethod program named number)
number-Decides program named number =
    elim (method_at program number) as (λ (o : Option MethodDef). method_at program number ≡ o → Decides (is_named_in named o) (HasMethod program named number)) [
      | Some m ↦ (λ is. Decides-like (is_method_named named m) (λ holds. record { method = m; is = is; matches = holds })
          (λ has. let same : has.method ≡ m = some_same has.method m (sym has.is ∙ is) in subst (λ (d : MethodDef). IsMethodNamed named d) same has.matches) (named-Decides named m))
      | None ↦ (λ is. ((λ e. cc), (λ has. absurd (none_some has.method (sym is ∙ has.is)))))
    ] refl
  where
    some_same : (a b : MethodDef) → Some a ≡ Some b → a ≡ b
    some_same a b e = cc

    none_some : (a : MethodDef) → None ≡ Some a → ⊥
    none_some a e = cc

found_method : (program : Program) (named : MRef) (o : Option ClassDef) (r : Option ℕ) → FindsMethod program named o r → r ≡ option_and_then (own_method program named) o
found_method program named None r finds = finds
found_method program named (Some c) None finds =
    sym (find_none (λ number. is_named_in named (method_at program number)) (HasMethod program named) (number-Decides program named) c.methods finds)
found_method program named (Some c) (Some number) finds =
    let same : finds.first.item ≡ number = one_number finds.first.item number (sym finds.first.is ∙ finds.at) in
    sym (find_first (λ n. is_named_in named (method_at program n)) (HasMethod program named) (number-Decides program named) c.methods finds.place finds.first.item finds.first.is finds.first.holds finds.first.first ∙ ap Some same)
  where
    one_number : (a b : ℕ) → Some a ≡ Some b → a ≡ b
    one_number a b e = cc

pub method_is_found : (program : Program) (named : MRef) (r : Option ℕ) → FindsMethod program named (class_of program named.class) r → r ≡ method_found program named
method_is_found program named r finds = found_method program named (class_of program named.class) r finds

found_place : (most : ℕ) (named : FRef) (c : ClassDef) (r : Option ℕ) → FindsFieldIn most named c r → r ≡ own_field most named c
found_place most named c None finds = sym (position_none (is_field_named named) (IsFieldNamed named) (field-Decides named) (take most c.fields) finds.among)
found_place most named c (Some k) finds =
    sym (position_first (is_field_named named) (IsFieldNamed named) (field-Decides named) (take most c.fields) k finds.among.item finds.among.is finds.among.holds finds.among.first)

found_field : (named : FRef) (o : Option ClassDef) (r : Option ℕ) → FindsField named o r → r ≡ option_and_then (own_field most_fields named) o
found_field named None r finds = finds
found_field named (Some c) r finds = found_place most_fields named c r finds

pub field_is_found : (program : Program) (named : FRef) (r : Option ℕ) → FindsField named (class_of program named.class) r → r ≡ field_found program named
field_is_found program named r finds = found_field named (class_of program named.class) r finds
