-- Classes of the grammar are read as themselves.
use Rattle.std.proofs.Common.{◌≡◌, ℕ, zero, suc, ◌-◌, ◌==◌, ◌≤◌, Bool, true, false, ◌&&◌, if◌then◌else◌, List, [], ◌∷◌, ◌++◌, drop, length, map, flat_map, option_to_list, Option, Some, None, Ok, refl, sym, ap, subst, ◌∙◌, codes, append_assoc, append-nil, bytes_eq, arith, find, option_map}
use Rattle.std.specs.List.{AllByRecursion}
use Rattle.std.proofs.lemmas.Bool.{ne_eqb}
use Rattle.std.proofs.lemmas.List.{length-append}
use Rattle.il_model.specs.declared.class.ClassKind.{ClassKind}
use Rattle.il_model.specs.declared.written.WrittenType.{WrittenType}
use Rattle.il_model.specs.declared.written.WrittenField.{WrittenField}
use Rattle.il_model.specs.declared.written.WrittenMethod.{WrittenMethod}
use Rattle.il_model.specs.declared.written.WrittenMember.{WrittenMember}
use Rattle.il_model.specs.declared.written.WrittenMember.TheVariants as member
use Rattle.il_model.specs.declared.written.WrittenClass.{WrittenClass}
use Rattle.il_model.specs.Lexemes.{Lexeme, Is, IsName, is_among, name_at, Many, none, more}
use Rattle.il_model.specs.Words.{kind_words, quoted_words}
use Rattle.il_model.specs.Bounds.{types_of_vars, types_of_method, types_of_class, fields_of, methods_of}
use Rattle.il_model.specs.Classes.{IsField, field, IsMethod, method, IsMember, field_member, method_member, IsKind, plain, worded, IsBase, no_base, base_of_plain, base_of_abstract, AreInterfaces, no_interfaces, interfaces, IsClass, class}
use Rattle.il_parse.specs.Reading.{◌>>=◌, pure, sees, expect, expect_at, read_name_but}
use Rattle.il_parse.specs.Types.{read_type, read_vars}
use Rattle.il_parse.specs.Classes.{read_field, read_method, is_empty, members_from, read_members, kind_or_plain, read_kind, has_base, read_base, read_interfaces, most_class_vars, read_class}
use Rattle.il_parse.proofs.Steps.{AreSpelled, spelled-append, by_step}
use Rattle.il_parse.proofs.ListsSound.{AreSmall}
use Rattle.il_parse.proofs.MethodsSound.{MethodFine}
use Rattle.il_parse.proofs.TypesComplete.{sees-is, sees-other, after-is, after-other, expect-is}
use Rattle.il_parse.proofs.ListsComplete.{Ends, ends_at, quoted_among, type_complete, types_complete, name_complete, small-split}
use Rattle.il_parse.proofs.VarsComplete.{vars_complete}
use Rattle.il_parse.proofs.MethodsComplete.{expect_at-is, field_complete, method_complete}
use Rattle.il_parse.proofs.Finding.{all_contains}

-- a member begins with its word
field_word : (front : List Lexeme) (f : WrittenField) → IsField front f → (l : Lexeme) × (rest : List Lexeme) × (front ≡ l ∷ rest) × Is (codes ".field") l
field_word front f (field ws fixed kinds word name is_fixed t split h_word is_o is_t is_name) = (word, fixed ++ kinds ++ name ∷ [], split, h_word)

method_word : (front : List Lexeme) (m : WrittenMethod) → IsMethod front m → (l : Lexeme) × (rest : List Lexeme) × (front ≡ l ∷ rest) × Is (codes ".method") l
method_word front m (method ws shaped result vs params rest word name left right k quoted r us ps b split h_word is_shape is_result is_name are_vars may opens are_params closes is_body) =
    (word, shaped ++ result ++ name ∷ vs ++ left ∷ params ++ right ∷ rest, split, h_word)

-- the members of a class within their limits
record MembersFine (plain_class : Bool) (left : ℕ) (ms : List WrittenMember) : Type 0 where
  fields : AreSmall (map (λ f. f.kind) (fields_of ms))
  methods : AllByRecursion (MethodFine plain_class) (methods_of ms)
  few : length (methods_of ms) ≤ left

members_end : (plain_class : Bool) (n left : ℕ) (found : List WrittenMember) (r : Lexeme) (back : List Lexeme) → Is (codes "}") r →
    members_from plain_class n left found (r ∷ back) ≡ Ok ((found, left), r ∷ back)
unfolding members_from
members_end plain_class zero left found r back same = refl
members_end plain_class (suc n) left found r back same =
    rw (sees-other (codes ".field") (codes "}") r back same refl, sees-other (codes ".method") (codes "}") r back same refl) refl

field_step : (plain_class : Bool) (n left : ℕ) (found : List WrittenMember) (front : List Lexeme) (f : WrittenField) (back : List Lexeme) → IsField front f →
    AreSmall (f.kind ∷ []) → AreSpelled front → members_from plain_class (suc n) left found (front ++ back) ≡ members_from plain_class n left (found ++ member.Field f ∷ []) back
unfolding members_from
field_step plain_class n left found front f back is small s =
    let b = field_word front f is in
    let hit : sees (codes ".field") (front ++ back) ≡ true = ap (λ z. sees (codes ".field") (z ++ back)) b.2 ∙ sees-is (codes ".field") b.0 (b.1 ++ back) b.3 in
    rw hit (by_step (read_field (front ++ back)) _ _ f back (field_complete front f back is small s) refl)

method_step : (plain_class : Bool) (n left : ℕ) (found : List WrittenMember) (front : List Lexeme) (m : WrittenMethod) (back : List Lexeme) → IsMethod front m →
    MethodFine plain_class m → AreSpelled front → 1 ≤ left → members_from plain_class (suc n) left found (front ++ back) ≡ members_from plain_class n (left - 1) (found ++ member.Method m ∷ []) back
unfolding members_from
method_step plain_class n left found front m back is fine s room =
    let b = method_word front m is in
    let miss : sees (codes ".field") (front ++ back) ≡ false = ap (λ z. sees (codes ".field") (z ++ back)) b.2 ∙ sees-other (codes ".field") (codes ".method") b.0 (b.1 ++ back) b.3 refl in
    let hit : sees (codes ".method") (front ++ back) ≡ true = ap (λ z. sees (codes ".method") (z ++ back)) b.2 ∙ sees-is (codes ".method") b.0 (b.1 ++ back) b.3 in
    let some : (left == 0) ≡ false = ne_eqb left 0 (λ z. absurd (omega (arith, z, room))) in
    rw (miss, hit, some) (by_step (read_method plain_class (front ++ back)) _ _ m back (method_complete plain_class front m back is fine s) refl)

member_some : (front : List Lexeme) (x : WrittenMember) → IsMember front x → 1 ≤ length front
member_some front x (field_member ws f is) = omega (arith, ap length (field_word ws f is).2)
member_some front x (method_member ws m is) = omega (arith, ap length (method_word ws m is).2)

member_step : (plain_class : Bool) (n left : ℕ) (found : List WrittenMember) (front : List Lexeme) (x : WrittenMember) (ms : List WrittenMember) (back : List Lexeme) → IsMember front x →
    MembersFine plain_class left (x ∷ ms) → AreSpelled front →
    (left2 : ℕ) × (members_from plain_class (suc n) left found (front ++ back) ≡ members_from plain_class n left2 (found ++ x ∷ []) back) × MembersFine plain_class left2 ms ×
    (left - length (methods_of (x ∷ ms)) ≡ left2 - length (methods_of ms))
member_step plain_class n left found front x ms back (field_member ws f is) fine s = (
  left,
  field_step plain_class n left found ws f back is (fine.fields.0, tt) s,
  record { fields = fine.fields.1; methods = fine.methods; few = fine.few },
  refl,
)
member_step plain_class n left found front x ms back (method_member ws m is) fine s = (
  left - 1,
  method_step plain_class n left found ws m back is fine.methods.0 s (omega (arith, fine.few)),
  record { fields = fine.fields; methods = fine.methods.1; few = omega (arith, fine.few) },
  omega (arith, fine.few),
)

members_from_complete : (plain_class : Bool) (n left : ℕ) (found : List WrittenMember) (front : List Lexeme) (ms : List WrittenMember) (r : Lexeme) (back : List Lexeme) →
    Many IsMember front ms → MembersFine plain_class left ms → AreSpelled front → Is (codes "}") r → length front ≤ n →
    members_from plain_class n left found (front ++ r ∷ back) ≡ Ok ((found ++ ms, left - length (methods_of ms)), r ∷ back)
members_from_complete plain_class n left found front ms r back none fine s same within =
    let all : left ≡ left - 0 = omega arith in
    members_end plain_class n left found r back same ∙ ap (λ z. Ok ((z, left), r ∷ back)) (sym (append-nil found)) ∙ ap (λ z. Ok ((found ++ [], z), r ∷ back)) all
members_from_complete plain_class zero left found front ms r back (more ws first rest x xs split p m) fine s same within =
    absurd (omega (arith, within, member_some first x p, ap length split, length-append first rest))
members_from_complete plain_class (suc n) left found front ms r back (more ws first rest x xs split p m) fine s same within =
    let parts = spelled-append first rest (subst AreSpelled split s) in
    let t = member_step plain_class n left found first x xs (rest ++ r ∷ back) p fine parts.0 in
    ap (members_from plain_class (suc n) left found) (ap (λ z. z ++ r ∷ back) split ∙ append_assoc first rest (r ∷ back))
    ∙ t.1
    ∙ members_from_complete plain_class n t.0 (found ++ x ∷ []) rest xs r back m t.2 parts.1 same (omega (arith, within, member_some first x p, ap length split, length-append first rest))
    ∙ ap (λ z. Ok ((z, t.0 - length (methods_of xs)), r ∷ back)) (append_assoc found (x ∷ []) xs)
    ∙ ap (λ z. Ok ((found ++ x ∷ xs, z), r ∷ back)) (sym t.3)

-- the word that says what a class is
kind_rows : AllByRecursion (λ (row : List ℕ × ClassKind). option_map (λ r. r.1) (find (λ r. bytes_eq r.0 row.0) kind_words) ≡ Some row.1) kind_words
kind_rows = (refl, (refl, (refl, tt)))

no_kind : (bytes : List ℕ) → is_among quoted_words bytes ≡ false → option_map (λ row. row.1) (find (λ row. bytes_eq row.0 bytes) kind_words) ≡ None
no_kind bytes free =
    rw (
      quoted_among (codes "abstract") quoted_words bytes refl free,
      quoted_among (codes "interface") quoted_words bytes refl free,
      quoted_among (codes "struct") quoted_words bytes refl free,
    ) refl

kind_complete : (front : List Lexeme) (k : ClassKind) (name : Lexeme) (back : List Lexeme) → IsKind front k → IsName quoted_words name → read_kind (front ++ name ∷ back) ≡ Ok (k, name ∷ back)
unfolding read_kind
kind_complete front k name back plain n = ap (λ o. kind_or_plain o name back) (no_kind name.bytes n.free)
kind_complete front k name back (worded l j c) n =
    ap (λ o. kind_or_plain o l (name ∷ back))
    (all_contains (λ (row : List ℕ × ClassKind). option_map (λ r. r.1) (find (λ r. bytes_eq r.0 row.0) kind_words) ≡ Some row.1) kind_words (l.bytes, j) kind_rows c)

no_word : (b : Bool) (ws : List Lexeme) → (if b && false then (read_type >>= (λ t. pure (Some t))) (drop 1 ws) else Ok (None, ws)) ≡ Ok (None, ws)
no_word true ws = refl
no_word false ws = refl

-- where no base is written, `extends` doesn't stand there
base_complete : (k : ClassKind) (front : List Lexeme) (b : Option WrittenType) (back : List Lexeme) → IsBase k front b → AreSmall (option_to_list b) → AreSpelled front → Ends back →
    sees (codes "extends") back ≡ false → read_base k (front ++ back) ≡ Ok (b, back)
unfolding read_base
base_complete k front b back (no_base j) small s ends miss = rw miss (no_word (has_base k) back)
base_complete k front b back (base_of_plain l ws t same is) small s ends miss =
    rw (sees-is (codes "extends") l (ws ++ back) same) (by_step (read_type (ws ++ back)) _ _ t back (type_complete [] ws t back is small.0 s.1 ends) refl)
base_complete k front b back (base_of_abstract l ws t same is) small s ends miss =
    rw (sees-is (codes "extends") l (ws ++ back) same) (by_step (read_type (ws ++ back)) _ _ t back (type_complete [] ws t back is small.0 s.1 ends) refl)

interfaces_complete : (front : List Lexeme) (ts : List WrittenType) (r : Lexeme) (back : List Lexeme) → AreInterfaces front ts → AreSmall ts → AreSpelled front → Is (codes "{") r →
    read_interfaces (front ++ r ∷ back) ≡ Ok (ts, r ∷ back)
unfolding read_interfaces
interfaces_complete front ts r back no_interfaces small s same =
    let miss = sees-other (codes "implements") (codes "{") r back same refl in
    rw (miss, after-other (codes "implements") (r ∷ back) miss) refl
interfaces_complete front ts r back (interfaces l ws t us h are) small s same =
    rw (sees-is (codes "implements") l (ws ++ r ∷ back) h, after-is (codes "implements") l (ws ++ r ∷ back) h)
    (types_complete (codes ",") refl refl ws (t ∷ us) (r ∷ back) are small s.1 (ends_at (codes "{") r back same refl refl) (sees-other (codes ",") (codes "{") r back same refl))

-- behind the base stand interfaces or `{`
interfaces_first : (m : List ℕ) → bytes_eq m (codes "implements") ≡ false → bytes_eq m (codes "{") ≡ false → (front : List Lexeme) (ts : List WrittenType) (r : Lexeme) (back : List Lexeme) →
    AreInterfaces front ts → Is (codes "{") r → sees m (front ++ r ∷ back) ≡ false
interfaces_first m a b front ts r back no_interfaces same = sees-other m (codes "{") r back same b
interfaces_first m a b front ts r back (interfaces l ws t us h are) same = sees-other m (codes "implements") l (ws ++ r ∷ back) h a

base_first : (m : List ℕ) → bytes_eq m (codes "extends") ≡ false → (k : ClassKind) (front : List Lexeme) (b : Option WrittenType) (back : List Lexeme) → IsBase k front b →
    sees m back ≡ false → sees m (front ++ back) ≡ false
base_first m a k front b back (no_base j) miss = miss
base_first m a k front b back (base_of_plain l ws t same is) miss = sees-other m (codes "extends") l (ws ++ back) same a
base_first m a k front b back (base_of_abstract l ws t same is) miss = sees-other m (codes "extends") l (ws ++ back) same a

-- a class within its limits, of which so many methods may be
pub record ClassFits (left : ℕ) (c : WrittenClass) : Type 0 where
  pub small : AreSmall (types_of_class c)
  pub vars : length c.vars ≤ 3
  pub methods : AllByRecursion (MethodFine (is_empty c.vars)) (methods_of c.members)
  pub few : length (methods_of c.members) ≤ left

pub class_complete : (left : ℕ) (front : List Lexeme) (c : WrittenClass) (back : List Lexeme) → IsClass front c → ClassFits left c → AreSpelled front →
    read_class left (front ++ back) ≡ Ok ((c, left - length (methods_of c.members)), back)
unfolding read_class read_members
class_complete left front c back (class ws kinds held base faces members word name opening closing k vs b is ms split h_word is_k is_name are_vars is_base are_is opens many closes) fine s =
    let s1 = spelled-append (word ∷ kinds ++ name ∷ held ++ base ++ faces ++ opening ∷ members) (closing ∷ []) (subst AreSpelled split s) in
    let s2 = spelled-append (word ∷ kinds ++ name ∷ held ++ base ++ faces) (opening ∷ members) s1.0 in
    let s3 = spelled-append (word ∷ kinds ++ name ∷ held ++ base) faces s2.0 in
    let s4 = spelled-append (word ∷ kinds ++ name ∷ held) base s3.0 in
    let s5 = spelled-append (word ∷ kinds) (name ∷ held) s4.0 in
    let m1 = small-split (types_of_vars vs ++ option_to_list b ++ is ++ map (λ f. f.kind) (fields_of ms)) (flat_map types_of_method (methods_of ms)) fine.small in
    let m2 = small-split (types_of_vars vs ++ option_to_list b ++ is) (map (λ f. f.kind) (fields_of ms)) m1.0 in
    let m3 = small-split (types_of_vars vs ++ option_to_list b) is m2.0 in
    let m4 = small-split (types_of_vars vs) (option_to_list b) m3.0 in
    let w7 : List Lexeme = closing ∷ back in
    let w6 : List Lexeme = members ++ w7 in
    let w5 : List Lexeme = faces ++ opening ∷ w6 in
    let w4 : List Lexeme = base ++ w5 in
    let w3 : List Lexeme = held ++ w4 in
    let w2 : List Lexeme = name ∷ w3 in
    let w1 : List Lexeme = kinds ++ w2 in
    let whole : ws ++ back ≡ word ∷ w1 = ap (λ z. z ++ back) split ∙ simp append_assoc refl in
    let left_free : sees (codes "<") w5 ≡ false = interfaces_first (codes "<") refl refl faces is opening w6 are_is opens in
    let ends : Ends w5 = record { no_left = left_free; no_vector = interfaces_first (codes "[]") refl refl faces is opening w6 are_is opens } in
    ap (read_class left) whole
    ∙ by_step (expect_at (codes ".class") (word ∷ w1)) _ _ word.at w1 (expect_at-is (codes ".class") word w1 h_word)
    (by_step (read_kind w1) _ _ k w2 (kind_complete kinds k name w3 is_k is_name)
    (by_step (read_name_but quoted_words w2) _ _ (name_at name) w3 (name_complete quoted_words name w3 is_name)
    (by_step (read_vars most_class_vars w3) _ _ vs w4 (vars_complete 3 held vs w4 are_vars m4.0 fine.vars s5.1.1 (base_first (codes "<") refl k base b w5 is_base left_free))
    (by_step (read_base k w4) _ _ b w5
    (base_complete k base b w5 is_base m4.1 s4.1 ends (interfaces_first (codes "extends") refl refl faces is opening w6 are_is opens))
    (by_step (read_interfaces w5) _ _ is (opening ∷ w6) (interfaces_complete faces is opening w6 are_is m3.1 s3.1 opens)
    (by_step (expect (codes "{") (opening ∷ w6)) _ _ tt w6 (expect-is (codes "{") opening w6 opens)
    (by_step (members_from (is_empty vs) (length w6) left [] w6) _ _ (ms, left - length (methods_of ms)) w7
    (members_from_complete (is_empty vs) (length w6) left [] members ms closing back many
    (record { fields = m2.1; methods = fine.methods; few = fine.few }) s2.1.1 closes (omega (arith, length-append members w7)))
    (by_step (expect (codes "}") w7) _ _ tt back (expect-is (codes "}") closing back closes) refl))))))))
