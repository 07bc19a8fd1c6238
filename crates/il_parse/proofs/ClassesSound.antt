-- What is read as classes is that of the grammar, within the limits, where calls are.
use Rattle.std.proofs.Common.{◌≡◌, ℕ, zero, suc, ◌+◌, ◌-◌, ◌==◌, ◌≤◌, Bool, true, ◌&&◌, List, [], ◌∷◌, ◌++◌, drop, length, map, flat_map, option_to_list, Option, Some, None, Ok, refl, sym, ap, subst, ◌∙◌, codes, append_assoc, append-nil, bytes_eq, inl, inr, arith, find, Contains, option_map}
use Rattle.std.specs.List.{AllByRecursion}
use Rattle.std.proofs.lemmas.Bool.{true≢false, cases_Bool, and_parts, eqb-false}
use Rattle.std.proofs.lemmas.Slice.Eq.{bytes_eq-Decides}
use Rattle.il_model.specs.declared.class.ClassKind.{ClassKind}
use Rattle.il_model.specs.declared.class.ClassKind.TheVariants as kind
use Rattle.il_model.specs.declared.written.WrittenName.{WrittenName}
use Rattle.il_model.specs.declared.written.WrittenType.{WrittenType}
use Rattle.il_model.specs.declared.written.WrittenField.{WrittenField}
use Rattle.il_model.specs.declared.written.WrittenMethod.{WrittenMethod}
use Rattle.il_model.specs.declared.written.WrittenMember.{WrittenMember}
use Rattle.il_model.specs.declared.written.WrittenMember.TheVariants as member
use Rattle.il_model.specs.declared.written.WrittenClass.{WrittenClass}
use Rattle.il_model.specs.Lexemes.{Lexeme, Is, name_at, Many, none, more}
use Rattle.il_model.specs.Words.{kind_words, quoted_words}
use Rattle.il_model.specs.Bounds.{types_of_vars, types_of_method, types_of_class, fields_of, methods_of}
use Rattle.il_model.specs.Classes.{IsMember, field_member, method_member, IsKind, plain, worded, IsBase, no_base, base_of_plain, base_of_abstract, AreInterfaces, no_interfaces, interfaces, IsClass, class}
use Rattle.il_model.specs.Types.{IsType, AreTypes, last_type, next_type}
use Rattle.il_parse.specs.declared.fault.ParseCause.TheVariants as cause
use Rattle.il_parse.specs.Reading.{Read, fault_at, sees, expect_at, read_name_but}
use Rattle.il_parse.specs.Types.{read_type, read_vars}
use Rattle.il_parse.specs.Classes.{read_field, read_method, is_empty, Members, members_from, read_members, kind_or_plain, read_kind, has_base, read_base, read_interfaces, most_class_vars, read_class}
use Rattle.il_parse.proofs.Finding.{found_in, made}
use Rattle.il_parse.proofs.Steps.{AreSpelled, spelled_rest, Took, Sound, refusal, value_of, rest_of, stepped, stepped_over, seen, there, absent, joined, led}
use Rattle.il_parse.proofs.TypesSound.{no_quoted}
use Rattle.il_parse.proofs.ListsSound.{type_sound, name_sound, IsBoth, AreSmall, small-append, types_sound}
use Rattle.il_parse.proofs.PartsSound.{vars_sound}
use Rattle.il_parse.proofs.InstrsSound.{CallsAreSound}
use Rattle.il_parse.proofs.MethodsSound.{type_of_field, field_sound, MethodFine, method_sound, place_read}

-- members that were read behind those found, with the number of methods that may still come
pub record MembersRead (plain_class : Bool) (left : ℕ) (found : List WrittenMember) (ws : List Lexeme) (ys : Members) (back : List Lexeme) : Type 0 where
  pub front : List Lexeme
  pub items : List WrittenMember
  pub split : ws ≡ front ++ back
  pub all : ys.0 ≡ found ++ items
  pub are : Many IsMember front items
  pub fields : AllByRecursion (λ (f : WrittenField). AreSmall (type_of_field f)) (fields_of items)
  pub methods : AllByRecursion (MethodFine plain_class) (methods_of items)
  pub count : length (methods_of items) + ys.1 ≡ left

no_members : (plain_class : Bool) (left : ℕ) (found : List WrittenMember) (ws : List Lexeme) (ys : Members) (back : List Lexeme) →
    (let r : Read Members = Ok ((found, left), ws) in r ≡ Ok (ys, back)) → MembersRead plain_class left found ws ys back
no_members plain_class left found ws ys back e = record {
  front = [];
  items = [];
  split = rest_of (found, left) ys ws back e;
  all = ap (λ p. p.0) (sym (value_of (found, left) ys ws back e)) ∙ sym (append-nil found);
  are = none;
  fields = tt;
  methods = tt;
  count = omega (arith, ap (λ p. p.1) (value_of (found, left) ys ws back e));
}

module _ (call_sound : CallsAreSound) where
  members_sound : (plain_class : Bool) (n left : ℕ) (found : List WrittenMember) (ws : List Lexeme) (ys : Members) (back : List Lexeme) →
      AreSpelled ws → members_from plain_class n left found ws ≡ Ok (ys, back) → MembersRead plain_class left found ws ys back
  unfolding members_from
  members_sound plain_class zero left found ws ys back spelled e = no_members plain_class left found ws ys back e
  members_sound plain_class (suc n) left found ws ys back spelled e =
      elim (cases_Bool (sees (codes ".field") ws)) [
        | inl hit ↦
            stepped (read_field ws) _ ys back (rw hit at e) (λ f mid e0 f0.
            let t = field_sound ws f mid e0 in
            let m = members_sound plain_class n left (found ++ member.Field f ∷ []) mid ys back (spelled_rest ws t.front mid t.split spelled) f0 in
            record {
              front = t.front ++ m.front;
              items = member.Field f ∷ m.items;
              split = joined ws t.front mid m.front back t.split m.split;
              all = m.all ∙ append_assoc found (member.Field f ∷ []) m.items;
              are = more (t.front ++ m.front) t.front m.front (member.Field f) m.items refl (field_member t.front f t.holds.is) m.are;
              fields = (t.holds.small, m.fields);
              methods = m.methods;
              count = m.count;
            })
        | inr no_field ↦ elim (cases_Bool (sees (codes ".method") ws)) [
          | inl hit ↦ elim (cases_Bool (left == 0)) [
            | inl full ↦ refusal (fault_at ws cause.TooMany) ys back (rw (no_field, hit, full) at e)
            | inr room ↦
                stepped (read_method plain_class ws) _ ys back (rw (no_field, hit, room) at e) (λ d mid e0 f0.
                let t = method_sound call_sound plain_class ws d mid spelled e0 in
                let m = members_sound plain_class n (left - 1) (found ++ member.Method d ∷ []) mid ys back (spelled_rest ws t.front mid t.split spelled) f0 in
                record {
                  front = t.front ++ m.front;
                  items = member.Method d ∷ m.items;
                  split = joined ws t.front mid m.front back t.split m.split;
                  all = m.all ∙ append_assoc found (member.Method d ∷ []) m.items;
                  are = more (t.front ++ m.front) t.front m.front (member.Method d) m.items refl (method_member t.front d t.holds.is) m.are;
                  fields = m.fields;
                  methods = (t.holds.fine, m.methods);
                  count = omega (arith, m.count, eqb-false left 0 room);
                })
          ]
          | inr no_method ↦ no_members plain_class left found ws ys back (rw (no_field, no_method) at e)
        ]
      ]

kind_made : (o : Option ClassKind) (l : Lexeme) (ws : List Lexeme) (k : ClassKind) (back : List Lexeme) →
    ((j : ClassKind) → o ≡ Some j → IsKind (l ∷ []) j) → kind_or_plain o l ws ≡ Ok (k, back) → Took IsKind (l ∷ ws) k back
kind_made (Some j) l ws k back is e = record {
  front = l ∷ [];
  split = ap (λ z. l ∷ z) (rest_of j k ws back e);
  holds = subst (IsKind (l ∷ [])) (value_of j k ws back e) (is j refl);
}
kind_made None l ws k back is e =
    record { front = []; split = rest_of kind.Plain k (l ∷ ws) back e; holds = subst (IsKind []) (value_of kind.Plain k (l ∷ ws) back e) plain }

word_of_kind : (l : Lexeme) (j : ClassKind) → option_map (λ row. row.1) (find (λ row. bytes_eq row.0 l.bytes) kind_words) ≡ Some j → IsKind (l ∷ []) j
word_of_kind l j e =
    let m = made (λ row. row.1) (find (λ row. bytes_eq row.0 l.bytes) kind_words) j e in
    let f = found_in (λ row. bytes_eq row.0 l.bytes) kind_words m.item m.found in
    worded l j (subst (λ b. Contains kind_words (b, j)) ((bytes_eq-Decides m.item.0 l.bytes).0 f.1) (subst (λ u. Contains kind_words (m.item.0, u)) m.gives f.0))

pub kind_sound : Sound read_kind IsKind
unfolding read_kind
kind_sound [] k back e = record { front = []; split = rest_of kind.Plain k [] back e; holds = subst (IsKind []) (value_of kind.Plain k [] back e) plain }
kind_sound (l ∷ ws) k back e =
    kind_made (option_map (λ row. row.1) (find (λ row. bytes_eq row.0 l.bytes) kind_words)) l ws k back (word_of_kind l) e

base_of_kind : (k : ClassKind) → has_base k ≡ true → (l : Lexeme) (ws : List Lexeme) (t : WrittenType) → Is (codes "extends") l → IsType [] ws t → IsBase k (l ∷ ws) (Some t)
base_of_kind kind.Plain has l ws t same is = base_of_plain l ws t same is
base_of_kind kind.Abstract has l ws t same is = base_of_abstract l ws t same is
base_of_kind kind.Interface has l ws t same is = absurd (true≢false (sym has))
base_of_kind kind.Struct has l ws t same is = absurd (true≢false (sym has))
base_of_kind kind.Delegate has l ws t same is = absurd (true≢false (sym has))

pub base_sound : (k : ClassKind) → Sound (read_base k) (IsBoth (IsBase k) option_to_list)
unfolding read_base
base_sound k ws o back e =
    elim (cases_Bool (has_base k && sees (codes "extends") ws)) [
      | inl hit ↦ elim (seen (codes "extends") ws) [
        | there l rest split same found behind ↦
            stepped (read_type (drop 1 ws)) _ o back (rw hit at e) (λ t mid e0 f0.
            let s = type_sound [] (drop 1 ws) t mid (no_quoted (drop 1 ws)) e0 in
            record {
              front = l ∷ s.front;
              split = split ∙ ap (λ z. l ∷ z) (sym (ap (drop 1) split) ∙ s.split ∙ ap (λ z. s.front ++ z) (rest_of (Some t) o mid back f0));
              holds = subst (IsBoth (IsBase k) option_to_list (l ∷ s.front)) (value_of (Some t) o mid back f0) (record {
                is = base_of_kind k (and_parts (has_base k) (sees (codes "extends") ws) hit).0 l s.front t same s.holds.is;
                small = (s.holds.small, tt);
              });
            })
        | absent miss stays ↦ absurd (true≢false (sym (and_parts (has_base k) (sees (codes "extends") ws) hit).1 ∙ miss))
      ]
      | inr miss ↦
          let e2 : (let r : Read (Option WrittenType) = Ok (None, ws) in r ≡ Ok (o, back)) = rw miss at e in
          record {
            front = [];
            split = rest_of None o ws back e2;
            holds = subst (IsBoth (IsBase k) option_to_list []) (value_of None o ws back e2) (record { is = no_base k; small = tt });
          }
    ]

listed_interfaces : (l : Lexeme) (ws : List Lexeme) (ts : List WrittenType) → Is (codes "implements") l → AreTypes (codes ",") ws ts → AreInterfaces (l ∷ ws) ts
listed_interfaces l ws ts same (last_type mark inner t is) = interfaces l ws t [] same (last_type (codes ",") ws t is)
listed_interfaces l ws ts same (next_type mark inner f b c t us split is m rest) = interfaces l ws t us same (next_type (codes ",") ws f b c t us split is m rest)

pub interfaces_sound : Sound read_interfaces (IsBoth AreInterfaces (λ ts. ts))
unfolding read_interfaces
interfaces_sound ws ts back e =
    elim (seen (codes "implements") ws) [
      | there l rest split same hit behind ↦
          let s = types_sound (codes ",") rest ts back (rw (hit, behind) at e) in
          record {
            front = l ∷ s.front;
            split = split ∙ ap (λ z. l ∷ z) s.split;
            holds = record { is = listed_interfaces l s.front ts same s.holds.is; small = s.holds.small };
          }
      | absent miss stays ↦
          let e2 : (let r : Read (List WrittenType) = Ok ([], ws) in r ≡ Ok (ts, back)) = rw (miss, stays) at e in
          record {
            front = [];
            split = rest_of [] ts ws back e2;
            holds = subst (IsBoth AreInterfaces (λ us. us) []) (value_of [] ts ws back e2) (record { is = no_interfaces; small = tt });
          }
    ]

-- a class that was read, within the limits, where so many methods could come
pub record ClassRead (left : ℕ) (ws : List Lexeme) (p : WrittenClass × ℕ) : Type 0 where
  pub is : IsClass ws p.0
  pub small : AreSmall (types_of_class p.0)
  pub vars : length p.0.vars ≤ 3
  pub methods : AllByRecursion (MethodFine (is_empty p.0.vars)) (methods_of p.0.members)
  pub count : length (methods_of p.0.members) + p.1 ≡ left

small_fields : (fs : List WrittenField) → AllByRecursion (λ (f : WrittenField). AreSmall (type_of_field f)) fs → AreSmall (map (λ f. f.kind) fs)
small_fields [] all = tt
small_fields (f ∷ fs) all = (all.0.0, small_fields fs all.1)

small_methods : (plain_class : Bool) (ms : List WrittenMethod) → AllByRecursion (MethodFine plain_class) ms → AreSmall (flat_map types_of_method ms)
small_methods plain_class [] all = tt
small_methods plain_class (m ∷ ms) all = small-append (types_of_method m) (flat_map types_of_method ms) all.0.small (small_methods plain_class ms all.1)

pub class_sound : CallsAreSound → (left : ℕ) → (ws : List Lexeme) (p : WrittenClass × ℕ) (back : List Lexeme) → AreSpelled ws → read_class left ws ≡ Ok (p, back) →
    Took (ClassRead left) ws p back
unfolding read_class read_members
class_sound call_sound left ws p back spelled e =
    stepped (expect_at (codes ".class") ws) _ p back e (λ at ws1 e0 f0.
    stepped (read_kind ws1) _ p back f0 (λ k ws2 e1 f1.
    stepped (read_name_but quoted_words ws2) _ p back f1 (λ name ws3 e2 f2.
    stepped (read_vars most_class_vars ws3) _ p back f2 (λ vars ws4 e3 f3.
    stepped (read_base k ws4) _ p back f3 (λ base ws5 e4 f4.
    stepped (read_interfaces ws5) _ p back f4 (λ interfaces ws6 e5 f5.
    stepped_over (codes "{") ws6 _ p back f5 (λ opening ws7 s6 h6 f6.
    stepped (read_members (is_empty vars) left ws7) _ p back f6 (λ members ws8 e7 f7.
    stepped_over (codes "}") ws8 _ p back f7 (λ closing ws9 s8 h8 f8.
    let a = place_read (codes ".class") ws at ws1 e0 in
    let b = kind_sound ws1 k ws2 e1 in
    let n = name_sound quoted_words ws2 name ws3 e2 in
    let v = vars_sound 3 ws3 vars ws4 e3 in
    let x = base_sound k ws4 base ws5 e4 in
    let i = interfaces_sound ws5 interfaces ws6 e5 in
    let t1 = led ws a.token ws1 b.front ws2 a.split b.split in
    let t2 = joined ws (a.token ∷ b.front) ws2 (n.token ∷ v.front) ws4 t1 (led ws2 n.token ws3 v.front ws4 n.split v.split) in
    let t3 = joined ws (a.token ∷ b.front ++ n.token ∷ v.front) ws4 x.front ws5 t2 x.split in
    let t4 = joined ws (a.token ∷ b.front ++ n.token ∷ v.front ++ x.front) ws5 i.front ws6 t3 i.split in
    let spelled7 = spelled_rest ws6 (opening ∷ []) ws7 s6 (spelled_rest ws (a.token ∷ b.front ++ n.token ∷ v.front ++ x.front ++ i.front) ws6 t4 spelled) in
    let m = members_sound call_sound (is_empty vars) (length ws7) left [] ws7 members ws8 spelled7 e7 in
    let made : WrittenClass × ℕ =
    (record { at = at; kind = k; name = name; vars = vars; base = base; interfaces = interfaces; members = members.0 }, members.1) in
    let named : WrittenClass × ℕ =
    (record { at = a.token.at; kind = k; name = name_at n.token; vars = vars; base = base; interfaces = interfaces; members = m.items }, members.1) in
    let whole : List Lexeme = a.token ∷ b.front ++ n.token ∷ v.front ++ x.front ++ i.front ++ opening ∷ m.front ++ closing ∷ [] in
    let same : named ≡ made =
    ap (λ (y : ℕ). (record { at = y; kind = k; name = name_at n.token; vars = vars; base = base; interfaces = interfaces; members = m.items }, members.1)) (sym a.place)
    ∙ ap (λ (y : WrittenName). (record { at = at; kind = k; name = y; vars = vars; base = base; interfaces = interfaces; members = m.items }, members.1)) (sym n.at)
    ∙ ap (λ (y : List WrittenMember). (record { at = at; kind = k; name = name; vars = vars; base = base; interfaces = interfaces; members = y }, members.1)) (sym m.all) in
    let t5 = joined ws (a.token ∷ b.front ++ n.token ∷ v.front ++ x.front ++ i.front) ws6 (opening ∷ m.front) ws8 t4 (led ws6 opening ws7 m.front ws8 s6 m.split) in
    let t6 = joined ws (a.token ∷ b.front ++ n.token ∷ v.front ++ x.front ++ i.front ++ opening ∷ m.front) ws8 (closing ∷ []) ws9 t5 s8 in
    record {
      front = whole;
      split = t6 ∙ ap (λ z. whole ++ z) (rest_of made p ws9 back f8);
      holds = subst (ClassRead left whole) (same ∙ value_of made p ws9 back f8) (record {
        is = class whole b.front v.front x.front i.front m.front a.token n.token opening closing k vars base interfaces m.items
            refl a.same b.holds n.is v.holds.is x.holds.is i.holds.is h6 m.are h8;
        small = small-append (types_of_vars vars ++ option_to_list base ++ interfaces ++ map (λ f. f.kind) (fields_of m.items)) (flat_map types_of_method (methods_of m.items))
            (small-append (types_of_vars vars ++ option_to_list base ++ interfaces) (map (λ f. f.kind) (fields_of m.items))
            (small-append (types_of_vars vars ++ option_to_list base) interfaces
            (small-append (types_of_vars vars) (option_to_list base) v.holds.small x.holds.small) i.holds.small)
            (small_fields (fields_of m.items) m.fields))
            (small_methods (is_empty vars) (methods_of m.items) m.methods);
        vars = v.holds.few;
        methods = m.methods;
        count = m.count;
      });
    })))))))))
