-- Methods and fields stand for just what their look-up finds.
use Rattle.std.proofs.Common.{◌≡◌, ℕ, Bool, true, false, ◌&&◌, ◌||◌, is_some, List, [], ◌∷◌, ◌++◌, length, map, flat_map, Option, Some, None, option_to_list, option_and_then, Ok, refl, sym, ap, subst, ◌∙◌, append_assoc, append-nil, bytes_eq}
use Rattle.std.proofs.Math.Bool.{and-false}
use Rattle.std.specs.List.{list_any, IsDistinct}
use Rattle.il_model.specs.declared.class.FieldDef.{FieldDef}
use Rattle.il_model.specs.declared.method.Shape.{Shape}
use Rattle.il_model.specs.declared.method.Body.{Body}
use Rattle.il_model.specs.declared.method.MethodDef.{MethodDef}
use Rattle.il_model.specs.declared.written.WrittenBody.{WrittenBody}
use Rattle.il_model.specs.declared.written.WrittenField.{WrittenField}
use Rattle.il_model.specs.declared.written.WrittenMethod.{WrittenMethod}
use Rattle.il_model.specs.declared.written.WrittenMember.{WrittenMember}
use Rattle.il_model.specs.declared.written.WrittenMember.TheVariants as member
use Rattle.il_model.specs.Lexemes.{is_among}
use Rattle.il_model.specs.Bounds.{fields_of, methods_of}
use Rattle.il_model.specs.Names.{Scope, Each, end, both, Perhaps, NamesVar}
use Rattle.il_model.specs.LookUp.{Known, scope_of, NamesBody, NamesMethod, NamesField, texts_of_method}
use Rattle.il_parse.specs.Looking.{perhaps_of}
use Rattle.il_parse.specs.NamedTypes.{type_named, result_named, params_named, vars_named}
use Rattle.il_parse.specs.NamedBodies.{body_named}
use Rattle.il_parse.specs.NamedClasses.{has_signature, is_signature_met, once, method_named, field_named, Found, has_entry_point, members_named}
use Rattle.il_parse.proofs.FreshLists.{Fresh, is_met, fresh-same, met-back, all_split, met-pushed}
use Rattle.il_parse.proofs.PairedLists.{each_first, each_none, each_length}
use Rattle.il_parse.proofs.LookSteps.{refused, given, looked, by_look, perhaps_sound, perhaps_complete}
use Rattle.il_parse.proofs.TypesNamed.{type_sound, type_complete}
use Rattle.il_parse.proofs.MembersNamed.{params_sound, params_complete, result_sound, result_complete, vars_sound, vars_complete}
use Rattle.il_parse.proofs.BodiesNamed.{AreLiterals, texts_of_body, body_sound, body_complete}
use Rattle.il_parse.proofs.SameSignatures.{alike}

pub once_sound : (is_met : Bool) (at : ℕ) (u : Unit {0}) → once is_met at ≡ Ok u → is_met ≡ false
once_sound true at u e = refused _ u e
once_sound false at u e = refl

pub once_complete : (is_met : Bool) (at : ℕ) → is_met ≡ false → once is_met at ≡ Ok tt
once_complete is_met at e = ap (λ b. once b at) e

-- bodies that may be missing

some_texts : (literals : List (List ℕ)) (o : Option WrittenBody) (b : WrittenBody) → o ≡ Some b → AreLiterals literals (flat_map texts_of_body (option_to_list o)) →
    AreLiterals literals (texts_of_body b)
some_texts literals o b is texts =
    (all_split (λ t. is_among literals t ≡ true) (texts_of_body b) [] (subst (λ p. AreLiterals literals (flat_map texts_of_body (option_to_list p))) is texts)).0

perhaps_body_sound : (s : Scope) (literals : List (List ℕ)) (begun : Bool) (o : Option WrittenBody) (p : Option Body) →
    AreLiterals literals (flat_map texts_of_body (option_to_list o)) → perhaps_of (body_named s literals begun) o ≡ Ok p → Perhaps (NamesBody s literals) o p
perhaps_body_sound s literals begun o p texts e =
    perhaps_sound (NamesBody s literals) (body_named s literals begun) o p (λ b d is f. (body_sound s literals begun b d (some_texts literals o b is texts) f).is) e

perhaps_body_once : (s : Scope) (literals : List (List ℕ)) (begun : Bool) (o : Option WrittenBody) (p : Option Body) →
    AreLiterals literals (flat_map texts_of_body (option_to_list o)) → perhaps_of (body_named s literals begun) o ≡ Ok p →
    (begun && is_some (option_and_then (λ b. b.entry) o)) ≡ false
perhaps_body_once s literals begun None p texts e = and-false begun
perhaps_body_once s literals begun (Some b) p texts e =
    looked (body_named s literals begun b) _ p e (λ d e0 e1. (body_sound s literals begun b d (some_texts literals (Some b) b refl texts) e0).once)

perhaps_body_complete : (s : Scope) (literals : List (List ℕ)) (begun : Bool) (o : Option WrittenBody) (p : Option Body) → IsDistinct bytes_eq literals →
    (begun && is_some (option_and_then (λ b. b.entry) o)) ≡ false → Perhaps (NamesBody s literals) o p → perhaps_of (body_named s literals begun) o ≡ Ok p
perhaps_body_complete s literals begun o p one once names =
    perhaps_complete (NamesBody s literals) (body_named s literals begun) o p
    (λ b d is f. body_complete s literals begun b d one (record { once = sym (ap (λ q. begun && is_some (option_and_then (λ b. b.entry) q)) is) ∙ once; is = f })) names

-- a method that differs from those met in its class, and whose entry point stands only where none was met
pub record MethodNamed (known : Known) (owner of_class : ℕ) (met : List MethodDef) (begun : Bool) (m : WrittenMethod) (d : MethodDef) : Type 0 where
  pub is : NamesMethod known owner of_class m d
  pub apart : is_met alike met d ≡ false
  pub once : (begun && has_entry_point m) ≡ false

pub method_sound : (known : Known) (owner of_class : ℕ) (met : List MethodDef) (begun : Bool) (m : WrittenMethod) (d : MethodDef) →
    AreLiterals known.literals (texts_of_method m) → method_named known owner of_class met begun m ≡ Ok d → MethodNamed known owner of_class met begun m d
unfolding method_named
method_sound known owner of_class met begun m d texts e =
    let s : Scope = scope_of known of_class (length m.vars) in
    looked (result_named s m.result) _ d e (λ result e0 f0.
    looked (once (is_signature_met met m.name.name (length m.vars) (params_named s m.params) result) m.name.at) _ d f0 (λ u e1 f1.
    looked (vars_named s m.vars) _ d f1 (λ vars e2 f2.
    looked (params_named s m.params) _ d f2 (λ params e3 f3.
    looked (perhaps_of (body_named s known.literals begun) m.body) _ d f3 (λ b e4 f4.
    let v = vars_sound s m.vars vars e2 in
    subst (MethodNamed known owner of_class met begun m)
    (given (record { owner = owner; name = m.name.name; shape = m.shape; vars = vars; params = params; result = result; body = b }) d f4) (record {
      is = record {
        owner_is = refl;
        name = refl;
        shape = refl;
        distinct = v.distinct;
        vars = v.are;
        params = params_sound s m.params params e3;
        gives = result_sound s m.result result e0;
        body = perhaps_body_sound s known.literals begun m.body b texts e4;
      };
      apart =
          ap (λ n. list_any (has_signature m.name.name n params result) met) (sym (each_length (NamesVar s) m.vars vars v.are))
          ∙ ap (λ r. is_signature_met met m.name.name (length m.vars) r result) (sym e3)
          ∙ once_sound (is_signature_met met m.name.name (length m.vars) (params_named s m.params) result) m.name.at u e1;
      once = perhaps_body_once s known.literals begun m.body b texts e4;
    }))))))

pub method_complete : (known : Known) (owner of_class : ℕ) (met : List MethodDef) (begun : Bool) (m : WrittenMethod) (d : MethodDef) → IsDistinct bytes_eq known.literals →
    MethodNamed known owner of_class met begun m d → method_named known owner of_class met begun m ≡ Ok d
unfolding method_named
method_complete known owner of_class met begun m d one names =
    let s : Scope = scope_of known of_class (length m.vars) in
    let n = names.is in
    let params = params_complete s m.params d.params n.params in
    let unmet : is_signature_met met m.name.name (length m.vars) (params_named s m.params) d.result ≡ false =
    ap (λ r. is_signature_met met m.name.name (length m.vars) r d.result) params
    ∙ ap (λ k. list_any (has_signature m.name.name k d.params d.result) met) (each_length (NamesVar s) m.vars d.vars n.vars)
    ∙ ap (λ (name : List ℕ). list_any (has_signature name (length d.vars) d.params d.result) met) (sym n.name) ∙ names.apart in
    by_look (result_named s m.result) _ (Ok d) d.result (result_complete s m.result d.result n.gives)
    (by_look (once (is_signature_met met m.name.name (length m.vars) (params_named s m.params) d.result) m.name.at) _ (Ok d) tt
    (once_complete (is_signature_met met m.name.name (length m.vars) (params_named s m.params) d.result) m.name.at unmet)
    (by_look (vars_named s m.vars) _ (Ok d) d.vars (vars_complete s m.vars d.vars n.distinct n.vars)
    (by_look (params_named s m.params) _ (Ok d) d.params params
    (by_look (perhaps_of (body_named s known.literals begun) m.body) _ (Ok d) d.body
    (perhaps_body_complete s known.literals begun m.body d.body one names.once n.body)
    (ap (λ (x : ℕ). Ok (record { owner = x; name = m.name.name; shape = m.shape; vars = d.vars; params = d.params; result = d.result; body = d.body })) (sym n.owner_is)
    ∙ ap (λ (x : List ℕ). Ok (record { owner = d.owner; name = x; shape = m.shape; vars = d.vars; params = d.params; result = d.result; body = d.body })) (sym n.name)
    ∙ ap (λ (x : Shape). Ok (record { owner = d.owner; name = d.name; shape = x; vars = d.vars; params = d.params; result = d.result; body = d.body })) (sym n.shape))))))

-- a field whose name was not met in its class
pub record FieldNamed (s : Scope) (met : List FieldDef) (f : WrittenField) (g : FieldDef) : Type 0 where
  pub is : NamesField s f g
  pub apart : is_among (map (λ h. h.name) met) f.name.name ≡ false

field_sound : (s : Scope) (met : List FieldDef) (f : WrittenField) (g : FieldDef) → field_named s met f ≡ Ok g → FieldNamed s met f g
unfolding field_named
field_sound s met f g e =
    looked (type_named s f.kind) _ g e (λ t e0 f0.
    looked (once (is_among (map (λ h. h.name) met) f.name.name) f.name.at) _ g f0 (λ u e1 f1.
    subst (FieldNamed s met f) (given (record { name = f.name.name; fixed = f.fixed; kind = t }) g f1) (record {
      is = record { fixed = refl; kind = type_sound s f.kind t e0; name = refl };
      apart = once_sound (is_among (map (λ h. h.name) met) f.name.name) f.name.at u e1;
    })))

field_complete : (s : Scope) (met : List FieldDef) (f : WrittenField) (g : FieldDef) → FieldNamed s met f g → field_named s met f ≡ Ok g
unfolding field_named
field_complete s met f g names =
    let n = names.is in
    by_look (type_named s f.kind) _ (Ok g) g.kind (type_complete s f.kind g.kind n.kind)
    (by_look (once (is_among (map (λ h. h.name) met) f.name.name) f.name.at) _ (Ok g) tt (once_complete (is_among (map (λ h. h.name) met) f.name.name) f.name.at names.apart)
    (ap (λ (x : List ℕ). Ok (record { name = x; fixed = f.fixed; kind = g.kind })) (sym n.name)
    ∙ ap (λ (x : Bool). Ok (record { name = g.name; fixed = x; kind = g.kind })) (sym n.fixed)))

-- an entry point stands only in one method, and in none where one was met
abbrev pub EntriesOnce : Bool → List WrittenMethod → Type 0
EntriesOnce begun [] = Unit {0}
EntriesOnce begun (m ∷ ms) = ((begun && has_entry_point m) ≡ false) × EntriesOnce (begun || has_entry_point m) ms

-- whether an entry point was met behind these methods
abbrev pub began : Bool → List WrittenMethod → Bool
began begun [] = begun
began begun (m ∷ ms) = began (begun || has_entry_point m) ms

-- members that were found behind those found before
pub record MembersNamed (known : Known) (owner of_class : ℕ) (found : Found) (ms : List WrittenMember) (all : Found) : Type 0 where
  pub own_fields : List FieldDef
  pub own_methods : List MethodDef
  pub fields : all.fields ≡ found.fields ++ own_fields
  pub methods : all.methods ≡ found.methods ++ own_methods
  pub begun : all.begun ≡ began found.begun (methods_of ms)
  pub named_fields : Each (NamesField (scope_of known of_class 0)) (fields_of ms) own_fields
  pub fresh : Fresh bytes_eq (map (λ g. g.name) found.fields) (map (λ f. f.name.name) (fields_of ms))
  pub named_methods : Each (NamesMethod known owner of_class) (methods_of ms) own_methods
  pub apart : Fresh alike found.methods own_methods
  pub once : EntriesOnce found.begun (methods_of ms)

pub members_sound : (known : Known) (owner of_class : ℕ) (found : Found) (ms : List WrittenMember) (all : Found) →
    AreLiterals known.literals (flat_map texts_of_method (methods_of ms)) → members_named known owner of_class found ms ≡ Ok all →
    MembersNamed known owner of_class found ms all
unfolding members_named
members_sound known owner of_class found [] all texts e = record {
  own_fields = [];
  own_methods = [];
  fields = ap (λ x. x.fields) (sym (given found all e)) ∙ sym (append-nil found.fields);
  methods = ap (λ x. x.methods) (sym (given found all e)) ∙ sym (append-nil found.methods);
  begun = ap (λ x. x.begun) (sym (given found all e));
  named_fields = end;
  fresh = tt;
  named_methods = end;
  apart = tt;
  once = tt;
}
members_sound known owner of_class found (member.Field f ∷ ms) all texts e =
    looked (field_named (scope_of known of_class 0) found.fields f) _ all e (λ g e0 e1.
    let n = field_sound (scope_of known of_class 0) found.fields f g e0 in
    let r = members_sound known owner of_class (record found { fields = found.fields ++ g ∷ [] }) ms all texts e1 in
    let names : List (List ℕ) = map (λ f. f.name.name) (fields_of ms) in
    record {
      own_fields = g ∷ r.own_fields;
      own_methods = r.own_methods;
      fields = r.fields ∙ append_assoc found.fields (g ∷ []) r.own_fields;
      methods = r.methods;
      begun = r.begun;
      named_fields = both f g (fields_of ms) r.own_fields n.is r.named_fields;
      fresh = (
        n.apart,
        subst (λ (x : List ℕ). Fresh bytes_eq (x ∷ map (λ g. g.name) found.fields) names) n.is.name
            (fresh-same bytes_eq (map (λ g. g.name) (found.fields ++ g ∷ [])) (g.name ∷ map (λ g. g.name) found.fields)
            (met-pushed bytes_eq (λ (g : FieldDef). g.name) g found.fields) names r.fresh),
      );
      named_methods = r.named_methods;
      apart = r.apart;
      once = r.once;
    })
members_sound known owner of_class found (member.Method m ∷ ms) all texts e =
    let t = all_split (λ t. is_among known.literals t ≡ true) (texts_of_method m) (flat_map texts_of_method (methods_of ms)) texts in
    looked (method_named known owner of_class found.methods found.begun m) _ all e (λ d e0 e1.
    let n = method_sound known owner of_class found.methods found.begun m d t.0 e0 in
    let r = members_sound known owner of_class
    (record { fields = found.fields; methods = found.methods ++ d ∷ []; begun = found.begun || has_entry_point m }) ms all t.1 e1 in
    record {
      own_fields = r.own_fields;
      own_methods = d ∷ r.own_methods;
      fields = r.fields;
      methods = r.methods ∙ append_assoc found.methods (d ∷ []) r.own_methods;
      begun = r.begun;
      named_fields = r.named_fields;
      fresh = r.fresh;
      named_methods = both m d (methods_of ms) r.own_methods n.is r.named_methods;
      apart = (n.apart, fresh-same alike (found.methods ++ d ∷ []) (d ∷ found.methods) (met-back alike d found.methods) r.own_methods r.apart);
      once = (n.once, r.once);
    })

pub members_complete : (known : Known) (owner of_class : ℕ) (found : Found) (ms : List WrittenMember) (gs : List FieldDef) (ds : List MethodDef) → IsDistinct bytes_eq known.literals →
    Each (NamesField (scope_of known of_class 0)) (fields_of ms) gs → Fresh bytes_eq (map (λ g. g.name) found.fields) (map (λ f. f.name.name) (fields_of ms)) →
    Each (NamesMethod known owner of_class) (methods_of ms) ds → Fresh alike found.methods ds → EntriesOnce found.begun (methods_of ms) →
    members_named known owner of_class found ms ≡ Ok (record { fields = found.fields ++ gs; methods = found.methods ++ ds; begun = began found.begun (methods_of ms) })
unfolding members_named
members_complete known owner of_class found [] gs ds one fields fresh methods apart entries =
    ap (λ (x : List FieldDef). Ok (record { fields = x; methods = found.methods; begun = found.begun }))
    (sym (append-nil found.fields) ∙ ap (λ x. found.fields ++ x) (sym (each_none (NamesField (scope_of known of_class 0)) gs fields)))
    ∙ ap (λ (x : List MethodDef). Ok (record { fields = found.fields ++ gs; methods = x; begun = found.begun }))
    (sym (append-nil found.methods) ∙ ap (λ x. found.methods ++ x) (sym (each_none (NamesMethod known owner of_class) ds methods)))
members_complete known owner of_class found (member.Field f ∷ ms) gs ds one fields fresh methods apart entries =
    let s : Scope = scope_of known of_class 0 in
    let r = each_first (NamesField s) f (fields_of ms) gs fields in
    let g = r.first in
    let names : List (List ℕ) = map (λ f. f.name.name) (fields_of ms) in
    let later : Fresh bytes_eq (map (λ g. g.name) (found.fields ++ g ∷ [])) names =
    fresh-same bytes_eq (g.name ∷ map (λ g. g.name) found.fields) (map (λ g. g.name) (found.fields ++ g ∷ []))
    (λ y. sym (met-pushed bytes_eq (λ (g : FieldDef). g.name) g found.fields y)) names
    (subst (λ (x : List ℕ). Fresh bytes_eq (x ∷ map (λ g. g.name) found.fields) names) (sym r.is.name) fresh.1) in
    by_look (field_named s found.fields f) _ _ g (field_complete s found.fields f g (record { is = r.is; apart = fresh.0 }))
    (members_complete known owner of_class (record found { fields = found.fields ++ g ∷ [] }) ms r.rest ds one r.are later methods apart entries
    ∙ ap (λ (x : List FieldDef). Ok (record { fields = x; methods = found.methods ++ ds; begun = began found.begun (methods_of ms) }))
    (append_assoc found.fields (g ∷ []) r.rest ∙ ap (λ x. found.fields ++ x) (sym r.split)))
members_complete known owner of_class found (member.Method m ∷ ms) gs ds one fields fresh methods apart entries =
    let r = each_first (NamesMethod known owner of_class) m (methods_of ms) ds methods in
    let d = r.first in
    let a = subst (Fresh alike found.methods) r.split apart in
    by_look (method_named known owner of_class found.methods found.begun m) _ _ d
    (method_complete known owner of_class found.methods found.begun m d one (record { is = r.is; apart = a.0; once = entries.0 }))
    (members_complete known owner of_class
    (record { fields = found.fields; methods = found.methods ++ d ∷ []; begun = found.begun || has_entry_point m }) ms gs r.rest one fields fresh r.are
    (fresh-same alike (d ∷ found.methods) (found.methods ++ d ∷ []) (λ y. sym (met-back alike d found.methods y)) r.rest a.1) entries.1
    ∙ ap (λ (x : List MethodDef). Ok (record { fields = found.fields ++ gs; methods = x; begun = began (found.begun || has_entry_point m) (methods_of ms) }))
    (append_assoc found.methods (d ∷ []) r.rest ∙ ap (λ x. found.methods ++ x) (sym r.split)))
