-- What is read as fields and methods is that of the grammar, within the limits, where calls are.
use Rattle.std.proofs.Common.{◌≡◌, ℕ, ◌≤◌, Bool, true, ◌&&◌, is_none, List, [], ◌∷◌, ◌++◌, drop, length, flat_map, option_to_list, Option, Some, None, Ok, refl, sym, ap, subst, ◌∙◌, codes, append_assoc, bytes_eq, inl, inr, arith, Contains}
use Rattle.std.specs.List.{AllByRecursion}
use Rattle.std.proofs.lemmas.Bool.{true≢false, cases_Bool, and_parts}
use Rattle.std.proofs.lemmas.Slice.Eq.{bytes_eq-Decides}
use Rattle.il_model.specs.declared.method.Shape.{Shape}
use Rattle.il_model.specs.declared.method.Shape.TheVariants as shape
use Rattle.il_model.specs.declared.written.WrittenName.{WrittenName}
use Rattle.il_model.specs.declared.written.WrittenType.{WrittenType}
use Rattle.il_model.specs.declared.written.WrittenVar.{WrittenVar}
use Rattle.il_model.specs.declared.written.WrittenBody.{WrittenBody}
use Rattle.il_model.specs.declared.written.WrittenField.{WrittenField}
use Rattle.il_model.specs.declared.written.WrittenMethod.{WrittenMethod}
use Rattle.il_model.specs.Lexemes.{Lexeme, Is, name_at}
use Rattle.il_model.specs.Words.{shape_words}
use Rattle.il_model.specs.Bounds.{instrs_of, types_of_params, types_of_vars, types_of_body, types_of_method}
use Rattle.il_model.specs.Types.{AreParams, no_vars}
use Rattle.il_model.specs.Members.{unless_read}
use Rattle.il_model.specs.Classes.{IsField, field, IsShape, instance, static, virtual, newslot, abstract, MayHaveVars, IsBodyOrNone, bodiless, braced, IsMethod, method}
use Rattle.il_model.specs.LookUp.{has_entry, MayBegin}
use Rattle.il_parse.specs.declared.fault.ParseCause.TheVariants as cause
use Rattle.il_parse.specs.Reading.{Read, fault_at, stuck_fault, sees, expect_at, read_name, read_name_but}
use Rattle.il_parse.specs.Types.{read_type, read_result, read_params, read_enclosed}
use Rattle.il_parse.specs.Members.{read_method_name}
use Rattle.il_parse.specs.Bodies.{read_body}
use Rattle.il_parse.specs.Classes.{read_field, read_shape, read_no_vars, read_method_vars, read_body_or_none, is_fixed, is_empty, may_begin_in, read_method}
use Rattle.il_parse.proofs.Steps.{AreSpelled, spelled_rest, Took, Sound, refusal, value_of, rest_of, stepped, stepped_over, seen, there, absent, joined, led}
use Rattle.il_parse.proofs.TypesSound.{FreeOf, no_quoted}
use Rattle.il_parse.proofs.ListsSound.{type_sound, name_sound, IsBoth, AreSmall, small-append}
use Rattle.il_parse.proofs.PartsSound.{optional, free_more, result_sound, IsVars, vars_sound, params_sound, enclosed_sound, enclosed_joined}
use Rattle.il_parse.proofs.MembersSound.{method_name_sound}
use Rattle.il_parse.proofs.InstrsSound.{CallsAreSound}
use Rattle.il_parse.proofs.BodiesSound.{body_sound}

abbrev pub type_of_field : WrittenField → List WrittenType
type_of_field f = f.kind ∷ []

pub field_sound : Sound read_field (IsBoth IsField type_of_field)
unfolding read_field read_name
field_sound ws f back e =
    stepped_over (codes ".field") ws _ f back e (λ word ws1 s0 h0 f0.
    let o = optional (codes "static") ws1 in
    stepped (read_type o.rest) _ f back (rw (o.seen_as, o.left) at f0) (λ t ws2 e1 f1.
    stepped (read_name_but [] ws2) _ f back f1 (λ name ws3 e2 f2.
    let k = type_sound (unless_read o.is_there (codes "static")) o.rest t ws2 o.free e1 in
    let n = name_sound [] ws2 name ws3 e2 in
    let made : WrittenField = record { fixed = o.is_there; kind = t; name = name } in
    let named : WrittenField = record { fixed = o.is_there; kind = t; name = name_at n.token } in
    let same : named ≡ f = ap (λ (m : WrittenName). record { fixed = o.is_there; kind = t; name = m }) (sym n.at) ∙ value_of made f ws3 back f2 in
    let whole : List Lexeme = word ∷ o.front ++ k.front ++ n.token ∷ [] in
    let t1 = led ws word ws1 o.front o.rest s0 o.split in
    let t2 = joined ws (word ∷ o.front) o.rest k.front ws2 t1 k.split in
    record {
      front = whole;
      split = joined ws (word ∷ o.front ++ k.front) ws2 (n.token ∷ []) back t2 (n.split ∙ ap (λ z. n.token ∷ z) (rest_of made f ws3 back f2));
      holds = subst (IsBoth IsField type_of_field whole) same
          (record { is = field whole o.front k.front word n.token o.is_there t refl h0 o.holds k.holds.is n.is; small = (k.holds.small, tt) });
    })))

-- how a method is called, with the words that are quoted behind it
pub record ShapeRead (ws : List Lexeme) (s : Shape) (back : List Lexeme) : Type 0 where
  pub front : List Lexeme
  pub quoted : List (List ℕ)
  pub split : ws ≡ front ++ back
  pub is : IsShape front s quoted
  pub free : FreeOf quoted back

one_word : (m : List ℕ) (t : Shape) (ws : List Lexeme) (l : Lexeme) (rest : List Lexeme) (s : Shape) (back : List Lexeme) → ws ≡ l ∷ rest →
    IsShape (l ∷ []) t [] → (let r : Read Shape = Ok (t, drop 1 ws) in r ≡ Ok (s, back)) → ShapeRead ws s back
one_word m t ws l rest s back split is e = record {
  front = l ∷ [];
  quoted = [];
  split = split ∙ ap (λ z. l ∷ z) (sym (ap (drop 1) split) ∙ rest_of t s (drop 1 ws) back e);
  is = subst (λ u. IsShape (l ∷ []) u []) (value_of t s (drop 1 ws) back e) is;
  free = no_quoted back;
}

pub shape_sound : (ws : List Lexeme) (s : Shape) (back : List Lexeme) → read_shape ws ≡ Ok (s, back) → ShapeRead ws s back
unfolding read_shape
shape_sound ws s back e =
    elim (seen (codes "static") ws) [
      | there l rest split same hit behind ↦ one_word (codes "static") shape.Fixed ws l rest s back split (static l same) (rw hit at e)
      | absent no_static stays ↦ elim (seen (codes "virtual") ws) [
        | there l rest split same hit behind ↦ one_word (codes "virtual") shape.Virtual ws l rest s back split (virtual l same) (rw (no_static, hit) at e)
        | absent no_virtual stays2 ↦ elim (seen (codes "newslot") ws) [
          | there l rest split same hit behind ↦
              stepped_over (codes "virtual") (drop 1 ws) _ s back (rw (no_static, no_virtual, hit) at e) (λ m mid s1 h1 f1.
              record {
                front = l ∷ m ∷ [];
                quoted = [];
                split = split ∙ ap (λ z. l ∷ z) (sym (ap (drop 1) split) ∙ s1 ∙ ap (λ z. m ∷ z) (rest_of shape.NewSlot s mid back f1));
                is = subst (λ u. IsShape (l ∷ m ∷ []) u []) (value_of shape.NewSlot s mid back f1) (newslot l m same h1);
                free = no_quoted back;
              })
          | absent no_newslot stays3 ↦ elim (seen (codes "abstract") ws) [
            | there l rest split same hit behind ↦
                one_word (codes "abstract") shape.Abstract ws l rest s back split (abstract l same) (rw (no_static, no_virtual, no_newslot, hit) at e)
            | absent no_abstract stays4 ↦
                let e2 : (let r : Read Shape = Ok (shape.Instance, ws) in r ≡ Ok (s, back)) = rw (no_static, no_virtual, no_newslot, no_abstract) at e in
                record {
                  front = [];
                  quoted = shape_words;
                  split = rest_of shape.Instance s ws back e2;
                  is = subst (λ u. IsShape [] u shape_words) (value_of shape.Instance s ws back e2) instance;
                  free = subst (FreeOf shape_words) (rest_of shape.Instance s ws back e2)
                      (free_more (codes "static") (codes "virtual" ∷ codes "newslot" ∷ codes "abstract" ∷ []) ws no_static
                      (free_more (codes "virtual") (codes "newslot" ∷ codes "abstract" ∷ []) ws no_virtual
                      (free_more (codes "newslot") (codes "abstract" ∷ []) ws no_newslot
                      (free_more (codes "abstract") [] ws no_abstract (no_quoted ws)))));
                }
          ]
        ]
      ]
    ]

-- type variables that a method of this shape may have
pub record MethodVars (s : Shape) (ws : List Lexeme) (vs : List WrittenVar) : Type 0 where
  pub are : IsVars 2 ws vs
  pub may : MayHaveVars s vs

no_vars_sound : (s : Shape) → ((vs : List WrittenVar) → vs ≡ [] → MayHaveVars s vs) → Sound read_no_vars (MethodVars s)
no_vars_sound s may ws vs back e =
    elim (cases_Bool (sees (codes "<") ws)) [
      | inl hit ↦ refusal (fault_at ws cause.Unsupported) vs back (rw hit at e)
      | inr miss ↦
          let e2 : (let r : Read (List WrittenVar) = Ok ([], ws) in r ≡ Ok (vs, back)) = rw miss at e in
          record {
            front = [];
            split = rest_of [] vs ws back e2;
            holds = subst (MethodVars s []) (value_of [] vs ws back e2)
                (record { are = record { is = no_vars; small = tt; few = omega arith }; may = may [] refl });
          }
    ]

some_vars_sound : (s : Shape) → ((vs : List WrittenVar) → MayHaveVars s vs) → (ws : List Lexeme) (vs : List WrittenVar) (back : List Lexeme) →
    Took (IsVars 2) ws vs back → Took (MethodVars s) ws vs back
some_vars_sound s may ws vs back t = record { front = t.front; split = t.split; holds = record { are = t.holds; may = may vs } }

method_vars_sound : (s : Shape) → Sound (read_method_vars s) (MethodVars s)
unfolding read_method_vars
method_vars_sound shape.Fixed ws vs back e = some_vars_sound shape.Fixed (λ _. tt) ws vs back (vars_sound 2 ws vs back e)
method_vars_sound shape.Instance ws vs back e = some_vars_sound shape.Instance (λ _. tt) ws vs back (vars_sound 2 ws vs back e)
method_vars_sound shape.Virtual ws vs back e = no_vars_sound shape.Virtual (λ _ is. is) ws vs back e
method_vars_sound shape.NewSlot ws vs back e = no_vars_sound shape.NewSlot (λ _ is. is) ws vs back e
method_vars_sound shape.Abstract ws vs back e = no_vars_sound shape.Abstract (λ _ is. is) ws vs back e

-- a body that is read, or none
pub record BodyOrNone (may_begin : Bool) (ws : List Lexeme) (b : Option WrittenBody) : Type 0 where
  pub is : IsBodyOrNone ws b
  pub small : AreSmall (flat_map types_of_body (option_to_list b))
  pub few : AllByRecursion (λ (c : WrittenBody). length (instrs_of c.lines) ≤ 16384) (option_to_list b)
  pub begins : (at : ℕ) → Contains (flat_map (λ (c : WrittenBody). option_to_list c.entry) (option_to_list b)) at → may_begin ≡ true

no_item : {A C : Type 0} (x : A) → Contains [] x → C
no_item x (k, inside, is) = absurd (omega (arith, inside))

entry_begins : (may_begin : Bool) (o : Option ℕ) → ((at : ℕ) → o ≡ Some at → may_begin ≡ true) → (at : ℕ) → Contains (option_to_list o ++ []) at → may_begin ≡ true
entry_begins may_begin None begins at c = no_item at c
entry_begins may_begin (Some found) begins at c = begins found refl

body_or_none_sound : CallsAreSound → (may_begin : Bool) → (ws : List Lexeme) (o : Option WrittenBody) (back : List Lexeme) → AreSpelled ws →
    read_body_or_none may_begin ws ≡ Ok (o, back) → Took (BodyOrNone may_begin) ws o back
unfolding read_body_or_none
body_or_none_sound call_sound may_begin ws o back spelled e =
    elim (seen (codes ";") ws) [
      | there l rest split same hit behind ↦
          let e2 : (let r : Read (Option WrittenBody) = Ok (None, rest) in r ≡ Ok (o, back)) = rw (hit, behind) at e in
          record {
            front = l ∷ [];
            split = split ∙ ap (λ z. l ∷ z) (rest_of None o rest back e2);
            holds = subst (BodyOrNone may_begin (l ∷ [])) (value_of None o rest back e2)
                (record { is = bodiless l same; small = tt; few = tt; begins = λ at c. no_item at c });
          }
      | absent miss stays ↦
          stepped_over (codes "{") ws _ o back (rw (miss, stays) at e) (λ left ws1 s0 h0 f0.
          stepped (read_body may_begin ws1) _ o back f0 (λ b ws2 e1 f1.
          stepped_over (codes "}") ws2 _ o back f1 (λ right ws3 s2 h2 f2.
          let t = body_sound call_sound may_begin ws1 b ws2 (spelled_rest ws (left ∷ []) ws1 s0 spelled) e1 in
          let whole : List Lexeme = left ∷ t.front ++ right ∷ [] in
          record {
            front = whole;
            split = led ws left ws1 (t.front ++ right ∷ []) back s0
                (joined ws1 t.front ws2 (right ∷ []) back t.split (s2 ∙ ap (λ z. right ∷ z) (rest_of (Some b) o ws3 back f2)));
            holds = subst (BodyOrNone may_begin whole) (value_of (Some b) o ws3 back f2) (record {
              is = braced whole t.front left right b refl h0 t.holds.is h2;
              small = small-append (types_of_body b) [] t.holds.small tt;
              few = (t.holds.few, tt);
              begins = entry_begins may_begin b.entry t.holds.begins;
            });
          })))
    ]

-- a written method within its limits, in a class without type variables or with some
pub record MethodFine (plain_class : Bool) (m : WrittenMethod) : Type 0 where
  pub small : AreSmall (types_of_method m)
  pub vars : length m.vars ≤ 2
  pub instrs : AllByRecursion (λ (c : WrittenBody). length (instrs_of c.lines) ≤ 16384) (option_to_list m.body)
  pub begins : (at : ℕ) → Contains (has_entry m) at → (plain_class ≡ true) × MayBegin m

pub record MethodRead (plain_class : Bool) (ws : List Lexeme) (m : WrittenMethod) : Type 0 where
  pub is : IsMethod ws m
  pub fine : MethodFine plain_class m

fixed_is : (s : Shape) → is_fixed s ≡ true → s ≡ shape.Fixed
fixed_is shape.Fixed e = refl
fixed_is shape.Instance e = absurd (true≢false (sym e))
fixed_is shape.Virtual e = absurd (true≢false (sym e))
fixed_is shape.NewSlot e = absurd (true≢false (sym e))
fixed_is shape.Abstract e = absurd (true≢false (sym e))

pub empty_is : {A : Type 0} (xs : List A) → is_empty xs ≡ true → xs ≡ []
empty_is [] e = refl
empty_is (x ∷ xs) e = absurd (true≢false (sym e))

none_is_none : {A : Type 0} (o : Option A) → is_none o ≡ true → o ≡ None
none_is_none None e = refl
none_is_none (Some x) e = absurd (true≢false (sym e))

may_begin_means : (plain_class : Bool) (m : WrittenMethod) → may_begin_in plain_class m.shape m.result m.vars m.params ≡ true → (plain_class ≡ true) × MayBegin m
may_begin_means plain_class m e =
    let a = and_parts (plain_class && is_fixed m.shape && is_none m.result && is_empty m.vars) (is_empty m.params) e in
    let b = and_parts (plain_class && is_fixed m.shape && is_none m.result) (is_empty m.vars) a.0 in
    let c = and_parts (plain_class && is_fixed m.shape) (is_none m.result) b.0 in
    let d = and_parts plain_class (is_fixed m.shape) c.0 in
    (d.0, record { fixed = fixed_is m.shape d.1; vars = empty_is m.vars b.1; params = empty_is m.params a.1; void = none_is_none m.result c.1 })

-- the place of a word that must stand in front
pub record PlaceRead (m : List ℕ) (ws : List Lexeme) (at : ℕ) (mid : List Lexeme) : Type 0 where
  pub token : Lexeme
  pub split : ws ≡ token ∷ mid
  pub same : Is m token
  pub place : at ≡ token.at

pub place_read : (m : List ℕ) (ws : List Lexeme) (at : ℕ) (mid : List Lexeme) → expect_at m ws ≡ Ok (at, mid) → PlaceRead m ws at mid
unfolding expect_at
place_read m [] at mid e = refusal (stuck_fault []) at mid e
place_read m (l ∷ ws) at mid e =
    elim (cases_Bool (bytes_eq m l.bytes)) [
      | inl hit ↦
          let e2 : (let r : Read ℕ = Ok (l.at, ws) in r ≡ Ok (at, mid)) = rw hit at e in
          record {
            token = l;
            split = ap (λ z. l ∷ z) (rest_of l.at at ws mid e2);
            same = sym ((bytes_eq-Decides m l.bytes).0 hit);
            place = sym (value_of l.at at ws mid e2);
          }
      | inr miss ↦ refusal (stuck_fault (l ∷ ws)) at mid (rw miss at e)
    ]

pub method_sound : CallsAreSound → (plain_class : Bool) → (ws : List Lexeme) (m : WrittenMethod) (back : List Lexeme) → AreSpelled ws →
    read_method plain_class ws ≡ Ok (m, back) → Took (MethodRead plain_class) ws m back
unfolding read_method
method_sound call_sound plain_class ws m back spelled e =
    stepped (expect_at (codes ".method") ws) _ m back e (λ at ws1 e0 f0.
    stepped (read_shape ws1) _ m back f0 (λ s ws2 e1 f1.
    stepped (read_result ws2) _ m back f1 (λ result ws3 e2 f2.
    stepped (read_method_name ws3) _ m back f2 (λ name ws4 e3 f3.
    stepped (read_method_vars s ws4) _ m back f3 (λ vars ws5 e4 f4.
    stepped (read_enclosed read_params ws5) _ m back f4 (λ params ws6 e5 f5.
    stepped (read_body_or_none (may_begin_in plain_class s result vars params) ws6) _ m back f5 (λ b ws7 e6 f6.
    let p = place_read (codes ".method") ws at ws1 e0 in
    let h = shape_sound ws1 s ws2 e1 in
    let r = result_sound h.quoted ws2 result ws3 h.free e2 in
    let n = method_name_sound ws3 name ws4 e3 in
    let v = method_vars_sound s ws4 vars ws5 e4 in
    let q = enclosed_sound read_params (IsBoth AreParams types_of_params) params_sound ws5 params ws6 e5 in
    let t1 = led ws p.token ws1 h.front ws2 p.split h.split in
    let t2 = joined ws (p.token ∷ h.front) ws2 r.front ws3 t1 r.split in
    let t3 = joined ws (p.token ∷ h.front ++ r.front) ws3 (n.token ∷ v.front) ws5 t2 (led ws3 n.token ws4 v.front ws5 n.split v.split) in
    let t4 = enclosed_joined ws (p.token ∷ h.front ++ r.front ++ n.token ∷ v.front) ws5 params ws6 t3 q in
    let t = body_or_none_sound call_sound (may_begin_in plain_class s result vars params) ws6 b ws7
    (spelled_rest ws (p.token ∷ h.front ++ r.front ++ n.token ∷ v.front ++ q.left ∷ q.inner ++ q.right ∷ []) ws6 t4 spelled) e6 in
    let made : WrittenMethod = record { at = at; shape = s; result = result; name = name; vars = vars; params = params; body = b } in
    let named : WrittenMethod = record { at = p.token.at; shape = s; result = result; name = name_at n.token; vars = vars; params = params; body = b } in
    let whole : List Lexeme = p.token ∷ h.front ++ r.front ++ n.token ∷ v.front ++ q.left ∷ q.inner ++ q.right ∷ t.front in
    let same_name : named ≡ made =
    ap (λ (x : ℕ). record { at = x; shape = s; result = result; name = name_at n.token; vars = vars; params = params; body = b }) (sym p.place)
    ∙ ap (λ (x : WrittenName). record { at = at; shape = s; result = result; name = x; vars = vars; params = params; body = b }) (sym n.at) in
    let before : List Lexeme = p.token ∷ h.front ++ r.front ++ n.token ∷ v.front ++ q.left ∷ q.inner in
    let t5 : ws ≡ before ++ (q.right ∷ ws6) = t4 ∙ append_assoc before (q.right ∷ []) ws6 in
    let t6 = joined ws before (q.right ∷ ws6) (q.right ∷ t.front) ws7 t5 (ap (λ z. q.right ∷ z) t.split) in
    record {
      front = whole;
      split = t6 ∙ ap (λ z. whole ++ z) (rest_of made m ws7 back f6);
      holds = subst (MethodRead plain_class whole) (same_name ∙ value_of made m ws7 back f6) (record {
        is = method whole h.front r.front v.front q.inner t.front p.token n.token q.left q.right s h.quoted result vars params b
            refl p.same h.is r.holds.is n.is v.holds.are.is v.holds.may q.opens q.holds.is q.closes t.holds.is;
        fine = record {
          small = small-append (option_to_list result ++ types_of_vars vars ++ types_of_params params) (flat_map types_of_body (option_to_list b))
              (small-append (option_to_list result ++ types_of_vars vars) (types_of_params params)
              (small-append (option_to_list result) (types_of_vars vars) r.holds.small v.holds.are.small) q.holds.small) t.holds.small;
          vars = v.holds.are.few;
          instrs = t.holds.few;
          begins = λ x c. may_begin_means plain_class named (t.holds.begins x c);
        };
      });
    })))))))
