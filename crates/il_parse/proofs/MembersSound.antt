-- What is read as a member that an instruction names is that of the grammar.
use Rattle.std.proofs.Common.{◌≡◌, false, List, [], ◌∷◌, ◌++◌, Ok, refl, sym, ap, subst, ◌∙◌, codes, inl, inr, option_to_list, bytes_eq}
use Rattle.std.proofs.lemmas.Bool.{cases_Bool, or_from}
use Rattle.il_model.specs.declared.written.WrittenName.{WrittenName}
use Rattle.il_model.specs.declared.written.WrittenMethodRef.{WrittenMethodRef}
use Rattle.il_model.specs.declared.written.WrittenFieldRef.{WrittenFieldRef}
use Rattle.il_model.specs.declared.written.WrittenType.{WrittenType}
use Rattle.il_model.specs.Lexemes.{Lexeme}
use Rattle.il_model.specs.Bounds.{types_of_method_ref}
use Rattle.il_model.specs.Types.{AreParams}
use Rattle.il_model.specs.Members.{unless_read, IsMethodRef, method_ref, IsFieldRef, field_ref}
use Rattle.il_parse.specs.declared.fault.ParseCause.TheVariants as cause
use Rattle.il_parse.specs.Reading.{fault_at, read_name, read_name_but, sees}
use Rattle.il_parse.specs.Types.{read_type, read_result, read_params, read_arguments, read_enclosed}
use Rattle.il_parse.specs.Members.{read_method_name, read_method_ref, read_field_ref}
use Rattle.il_parse.proofs.Steps.{Sound, refusal, value_of, rest_of, stepped, stepped_over, joined, led}
use Rattle.il_parse.proofs.TypesSound.{no_quoted}
use Rattle.il_parse.proofs.ListsSound.{type_sound, NameRead, name_sound, IsBoth, small-append}
use Rattle.il_parse.proofs.PartsSound.{optional, result_sound, arguments_sound, enclosed_sound, enclosed_joined, params_sound}
use Rattle.il_model.specs.Bounds.{types_of_params}

method_name_of : (ws : List Lexeme) (name : WrittenName) (back : List Lexeme) → sees (codes ".cctor") ws ≡ false → NameRead [] ws name back →
    NameRead (codes ".cctor" ∷ []) ws name back
unfolding sees
method_name_of ws name back miss n = record {
  token = n.token;
  split = n.split;
  is = record { word = n.is.word; free = or_from (bytes_eq (codes ".cctor") n.token.bytes) false (sym (ap (sees (codes ".cctor")) n.split) ∙ miss) refl };
  at = n.at;
}

pub method_name_sound : (ws : List Lexeme) (name : WrittenName) (back : List Lexeme) → read_method_name ws ≡ Ok (name, back) →
    NameRead (codes ".cctor" ∷ []) ws name back
unfolding read_method_name read_name
method_name_sound ws name back e =
    elim (cases_Bool (sees (codes ".cctor") ws)) [
      | inl hit ↦ refusal (fault_at ws cause.Unsupported) name back (rw hit at e)
      | inr miss ↦ method_name_of ws name back miss (name_sound [] ws name back (rw miss at e))
    ]

pub method_ref_sound : Sound read_method_ref (IsBoth IsMethodRef types_of_method_ref)
unfolding read_method_ref
method_ref_sound ws m back e =
    let o = optional (codes "instance") ws in
    stepped (read_result o.rest) _ m back (rw (o.seen_as, o.left) at e) (λ result ws2 e1 f1.
    stepped (read_type ws2) _ m back f1 (λ class ws3 e2 f2.
    stepped_over (codes "::") ws3 _ m back f2 (λ colons ws4 s3 h3 f3.
    stepped (read_method_name ws4) _ m back f3 (λ name ws5 e4 f4.
    stepped (read_arguments ws5) _ m back f4 (λ args ws6 e5 f5.
    stepped (read_enclosed read_params ws6) _ m back f5 (λ params ws7 e6 f6.
    let r = result_sound (unless_read o.is_there (codes "instance")) o.rest result ws2 o.free e1 in
    let c = type_sound [] ws2 class ws3 (no_quoted ws2) e2 in
    let n = method_name_sound ws4 name ws5 e4 in
    let a = arguments_sound ws5 args ws6 e5 in
    let p = enclosed_sound read_params (IsBoth AreParams types_of_params) params_sound ws6 params ws7 e6 in
    let made : WrittenMethodRef = record { instance = o.is_there; result = result; class = class; name = name.name; args = args; params = params } in
    let named : WrittenMethodRef = record { instance = o.is_there; result = result; class = class; name = n.token.bytes; args = args; params = params } in
    let whole : List Lexeme = o.front ++ r.front ++ c.front ++ colons ∷ n.token ∷ a.front ++ p.left ∷ p.inner ++ p.right ∷ [] in
    let same : named ≡ m = ap (λ (w : WrittenName). record { instance = o.is_there; result = result; class = class; name = w.name; args = args; params = params }) (sym n.at) ∙ value_of made m ws7 back f6 in
    let t2 = joined ws o.front o.rest r.front ws2 o.split r.split in
    let t3 = joined ws (o.front ++ r.front) ws2 c.front ws3 t2 c.split in
    let head = led ws3 colons ws4 (n.token ∷ a.front) ws6 s3 (led ws4 n.token ws5 a.front ws6 n.split a.split) in
    let t4 = joined ws (o.front ++ r.front ++ c.front) ws3 (colons ∷ n.token ∷ a.front) ws6 t3 head in
    let t5 = enclosed_joined ws (o.front ++ r.front ++ c.front ++ colons ∷ n.token ∷ a.front) ws6 params ws7 t4 p in
    record {
      front = whole;
      split = t5 ∙ ap (λ z. whole ++ z) (rest_of made m ws7 back f6);
      holds = subst (IsBoth IsMethodRef types_of_method_ref whole) same (record {
        is = method_ref whole o.front r.front c.front a.front p.inner colons n.token p.left p.right o.is_there result class args params
            refl o.holds r.holds.is c.holds.is h3 n.is a.holds.is p.opens p.holds.is p.closes;
        small = small-append (option_to_list result ++ class ∷ args) (types_of_params params)
            (small-append (option_to_list result) (class ∷ args) r.holds.small (c.holds.small, a.holds.small)) p.holds.small;
      });
    }))))))

abbrev pub types_of_field_ref : WrittenFieldRef → List WrittenType
types_of_field_ref f = f.kind ∷ f.class ∷ []

pub field_ref_sound : Sound read_field_ref (IsBoth IsFieldRef types_of_field_ref)
unfolding read_field_ref read_name
field_ref_sound ws m back e =
    stepped (read_type ws) _ m back e (λ kind ws1 e0 f0.
    stepped (read_type ws1) _ m back f0 (λ class ws2 e1 f1.
    stepped_over (codes "::") ws2 _ m back f1 (λ colons ws3 s2 h2 f2.
    stepped (read_name_but [] ws3) _ m back f2 (λ name ws4 e3 f3.
    let k = type_sound [] ws kind ws1 (no_quoted ws) e0 in
    let c = type_sound [] ws1 class ws2 (no_quoted ws1) e1 in
    let n = name_sound [] ws3 name ws4 e3 in
    let made : WrittenFieldRef = record { kind = kind; class = class; name = name.name } in
    let named : WrittenFieldRef = record { kind = kind; class = class; name = n.token.bytes } in
    let whole : List Lexeme = k.front ++ c.front ++ colons ∷ n.token ∷ [] in
    let same : named ≡ m = ap (λ (w : WrittenName). record { kind = kind; class = class; name = w.name }) (sym n.at) ∙ value_of made m ws4 back f3 in
    let t2 = joined ws k.front ws1 c.front ws2 k.split c.split in
    let end : ws3 ≡ (n.token ∷ []) ++ back = n.split ∙ ap (λ z. n.token ∷ z) (rest_of made m ws4 back f3) in
    record {
      front = whole;
      split = joined ws (k.front ++ c.front) ws2 (colons ∷ n.token ∷ []) back t2 (led ws2 colons ws3 (n.token ∷ []) back s2 end);
      holds = subst (IsBoth IsFieldRef types_of_field_ref whole) same (record {
        is = field_ref whole k.front c.front colons n.token kind class refl k.holds.is c.holds.is h2 n.is;
        small = (k.holds.small, (c.holds.small, tt));
      });
    }))))
