-- Adding members and classes one after another.
use Rattle.std.proofs.Common.{◌≡◌, ◌∙◌, ℕ, ◌+◌, ◌<◌, ◌≤◌, Bool, ◌||◌, List, [], ◌∷◌, ◌++◌, length, drop, slice_index_or, Option, Ok, Err, refl, sym, ap}
use Rattle.std.proofs.Math.ListN.{drop_of_length-le}
use Rattle.type_tree.specs.declared.tree.TExpr.{TExpr}
use Rattle.il_model.specs.declared.class.FieldDef.{FieldDef}
use Rattle.il_model.specs.declared.method.PType.{PType}
use Rattle.il_model.specs.declared.method.MethodDef.{MethodDef}
use Rattle.il_model.specs.declared.written.WrittenMethod.{WrittenMethod}
use Rattle.il_model.specs.declared.written.WrittenMember.{WrittenMember}
use Rattle.il_model.specs.declared.written.WrittenMember.TheVariants as member
use Rattle.il_model.specs.declared.written.WrittenClass.{WrittenClass}
use Rattle.il_model.specs.Names.{Scope}
use Rattle.il_model.specs.LookUp.{Known, scope_of}
use Rattle.il_parse.specs.declared.fault.Fault.{Fault}
use Rattle.il_parse.specs.declared.fault.ReadError.{ReadError}
use Rattle.il_parse.specs.declared.fault.ReadError.TheVariants as error
use Rattle.il_parse.specs.declared.signatures.Signature.{Signature}
use Rattle.il_parse.specs.declared.found.Found.{Found}
use Rattle.il_parse.specs.declared.found.Gathered.{Gathered}
use Rattle.il_parse.specs.Looking.{Look, Looks, ◌>>=◌, pure, once, perhaps_of}
use Rattle.il_parse.specs.NamedTypes.{result_named, params_named, vars_named}
use Rattle.il_parse.specs.NamedBodies.{body_named}
use Rattle.il_parse.specs.NamedClasses.{is_signature_met, method_named, field_named, members_named, class_named, classes_named, has_entry_point}
use Rattle.il_parse.specs.Gathering.{LooksInto, added, signature_of, refused_method, with_params, signed_method, member_named}
use Rattle.il_parse.proofs.EachLemmas.{seam}

-- a method, by what its parameters are
module _ (known : Known) (owner of_class : ℕ) (met : List MethodDef) (begun : Bool) (m : WrittenMethod) where
  by_params : (result : Option TExpr) (p : Look (List PType)) →
      (once (is_signature_met met m.name.name (length m.vars) p result) m.name.at >>= (λ _.
      vars_named (scope_of known of_class (length m.vars)) m.vars >>= (λ vars.
      p >>= (λ params.
      perhaps_of (body_named (scope_of known of_class (length m.vars)) known.literals begun) m.body >>= (λ b.
      pure (record { owner = owner; name = m.name.name; shape = m.shape; vars = vars; params = params; result = result; body = b })))))) ≡
      with_params (scope_of known of_class (length m.vars)) known.literals owner met begun m result p
  unfolding signed_method
  by_params result (Ok params) = refl
  by_params result (Err fault) = refl

  by_result : (r : Look (Option TExpr)) (p : Look (List PType)) →
      (r >>= (λ result.
      once (is_signature_met met m.name.name (length m.vars) p result) m.name.at >>= (λ _.
      vars_named (scope_of known of_class (length m.vars)) m.vars >>= (λ vars.
      p >>= (λ params.
      perhaps_of (body_named (scope_of known of_class (length m.vars)) known.literals begun) m.body >>= (λ b.
      pure (record { owner = owner; name = m.name.name; shape = m.shape; vars = vars; params = params; result = result; body = b }))))))) ≡
      (r >>= (λ result. with_params (scope_of known of_class (length m.vars)) known.literals owner met begun m result p))
  by_result (Ok result) p = by_params result p
  by_result (Err fault) p = refl

  pub method_is : method_named known owner of_class met begun m ≡
      (result_named (scope_of known of_class (length m.vars)) m.result >>= (λ result.
      with_params (scope_of known of_class (length m.vars)) known.literals owner met begun m result (params_named (scope_of known of_class (length m.vars)) m.params)))
  unfolding method_named
  method_is = by_result (result_named (scope_of known of_class (length m.vars)) m.result) (params_named (scope_of known of_class (length m.vars)) m.params)

  -- a method whose result and parameters were found
  pub method_signed : (s : Scope) (literals : List (List ℕ)) (given : Option TExpr) (params : List PType) (signature : Signature) →
      s ≡ scope_of known of_class (length m.vars) → literals ≡ known.literals → signature ≡ signature_of m params given →
      result_named s m.result ≡ Ok given → params_named s m.params ≡ Ok params →
      method_named known owner of_class met begun m ≡ signed_method s literals owner met begun m signature
  method_signed s literals given params signature scope texts signed result_is params_are =
      method_is
      ∙ (λ i. result_named (sym scope i) m.result >>= (λ result. with_params (sym scope i) (sym texts i) owner met begun m result (params_named (sym scope i) m.params)))
      ∙ (λ i. result_is i >>= (λ result. with_params s literals owner met begun m result (params_are i)))
      ∙ ap (signed_method s literals owner met begun m) (sym signed)

  -- a method whose parameters were refused
  pub method_refused : (s : Scope) (given : Option TExpr) (fault : Fault) → s ≡ scope_of known of_class (length m.vars) →
      result_named s m.result ≡ Ok given → params_named s m.params ≡ Err fault → method_named known owner of_class met begun m ≡ refused_method s m fault
  method_refused s given fault scope result_is params_are =
      method_is
      ∙ (λ i. result_named (sym scope i) m.result >>= (λ result. with_params (sym scope i) known.literals owner met begun m result (params_named (sym scope i) m.params)))
      ∙ (λ i. result_is i >>= (λ result. with_params s known.literals owner met begun m result (params_are i)))

-- what refuses a thing refuses the list
pub into_err : {A : Type 0} (old new : List A) (look : Look A) (e : ReadError) → Looks look (Err e) → LooksInto (added old look) (Err e) new
into_err old new look (error.Fault fault) looks = ap (added old) looks
into_err old new look error.Memory looks = tt

module _ (known : Known) (owner of_class : ℕ) (found : Found) where
  field_steps : (ms : List WrittenMember) (r : Look FieldDef) →
      (r >>= (λ g. members_named known owner of_class (record found { fields = found.fields ++ g ∷ [] }) ms)) ≡
      (added found.fields r >>= (λ fields. pure (record found { fields = fields })) >>= (λ more. members_named known owner of_class more ms))
  field_steps ms (Ok g) = refl
  field_steps ms (Err fault) = refl

  method_steps : (m : WrittenMethod) (ms : List WrittenMember) (r : Look MethodDef) →
      (r >>= (λ d. members_named known owner of_class
      (record { fields = found.fields; methods = found.methods ++ d ∷ []; begun = found.begun || has_entry_point m }) ms)) ≡
      (added found.methods r >>= (λ methods. pure (record { fields = found.fields; methods = methods; begun = found.begun || has_entry_point m }))
      >>= (λ more. members_named known owner of_class more ms))
  method_steps m ms (Ok d) = refl
  method_steps m ms (Err fault) = refl

  member_step : (x : WrittenMember) (ms : List WrittenMember) →
      members_named known owner of_class found (x ∷ ms) ≡ (member_named known owner of_class found x >>= (λ more. members_named known owner of_class more ms))
  unfolding members_named member_named
  member_step (member.Field f) ms = field_steps ms (field_named (scope_of known of_class 0) found.fields f)
  member_step (member.Method m) ms = method_steps m ms (method_named known owner of_class found.methods found.begun m)

  module _ (xs : List WrittenMember) (i : ℕ) where
    pub members_end : length xs ≤ i → members_named known owner of_class found (drop i xs) ≡ Ok found
    unfolding members_named
    members_end past = ap (members_named known owner of_class found) (drop_of_length-le xs past)

    pub members_next : (x : WrittenMember) → i < length xs → x ≡ slice_index_or xs i x → members_named known owner of_class found (drop i xs) ≡
        (member_named known owner of_class found x >>= (λ more. members_named known owner of_class more (drop (i + 1) xs)))
    members_next x inside is = ap (members_named known owner of_class found) (seam xs i x inside is) ∙ member_step x (drop (i + 1) xs)

module _ (known : Known) (gathered : Gathered) (xs : List WrittenClass) (i : ℕ) where
  pub classes_end : length xs ≤ i → classes_named known gathered (drop i xs) ≡ Ok gathered
  unfolding classes_named
  classes_end past = ap (classes_named known gathered) (drop_of_length-le xs past)

  pub classes_next : (x : WrittenClass) → i < length xs → x ≡ slice_index_or xs i x →
      classes_named known gathered (drop i xs) ≡ (class_named known gathered x >>= (λ more. classes_named known more (drop (i + 1) xs)))
  unfolding classes_named
  classes_next x inside is = ap (classes_named known gathered) (seam xs i x inside is)
