-- A type of the grammar is read as itself, whatever stands behind it.
use Rattle.std.proofs.Common.{◌≡◌, ℕ, zero, suc, ◌+◌, ◌-◌, ◌==◌, ◌<◌, ◌≤◌, Bool, true, false, if◌then◌else◌, List, [], ◌∷◌, ◌++◌, drop, map, sum, Option, Some, None, Ok, Err, refl, sym, ap, subst, ◌∙◌, codes, append_assoc, bytes_eq, inl, inr, arith, find, option_map}
use Rattle.std.specs.List.{AllByRecursion, list_any, list_all}
use Rattle.std.proofs.lemmas.Bool.{true≢false, cases_Bool, and_parts, or_parts, or_cases, eqb-true, ne_eqb}
use Rattle.std.proofs.lemmas.Slice.Eq.{bytes_eq-Decides}
use Rattle.il_text.specs.declared.token.TokenKind.TheVariants as token
use Rattle.il_text.specs.Bytes.{is_digit}
use Rattle.il_text.specs.Spelling.{spells, is_word, is_variable, is_class_variable, is_method_variable, is_run}
use Rattle.il_model.specs.declared.written.WrittenType.{WrittenType}
use Rattle.il_model.specs.declared.written.WrittenType.TheVariants as w
use Rattle.il_model.specs.Lexemes.{Lexeme, Is, IsName, name_at}
use Rattle.il_model.specs.Words.{type_words, type_keywords}
use Rattle.il_model.specs.Bounds.{written_positions}
use Rattle.il_model.specs.Types.{IsType, keyword, variable, named, applied, vector, AreTypes, last_type, next_type}
use Rattle.il_parse.specs.Reading.{Reader, sees, after, expect, stuck_fault}
use Rattle.il_parse.specs.Types.{keyword_type, head_by_kind, head_or_kind, head_of, read_vectors, inner_types_from, read_applied, read_headed, past_head, read_type_within}
use Rattle.il_parse.proofs.Finding.{found_in, found_passes, made, all_contains}
use Rattle.il_parse.proofs.Steps.{AreSpelled, spelled-append, by_step}
use Rattle.il_parse.proofs.TypesSound.{positions-vector, positions-named, positions-variable, keyword_positions, sum-cons}

pub sees-is : (m : List ℕ) (l : Lexeme) (ws : List Lexeme) → Is m l → sees m (l ∷ ws) ≡ true
unfolding sees
sees-is m l ws same = (bytes_eq-Decides m l.bytes).1 (sym same)

pub sees-other : (m k : List ℕ) (l : Lexeme) (ws : List Lexeme) → Is k l → bytes_eq m k ≡ false → sees m (l ∷ ws) ≡ false
unfolding sees
sees-other m k l ws same other = ap (bytes_eq m) same ∙ other

pub after-is : (m : List ℕ) (l : Lexeme) (ws : List Lexeme) → Is m l → after m (l ∷ ws) ≡ ws
unfolding after
after-is m l ws same = ap (λ b. if b then ws else l ∷ ws) (sees-is m l ws same)

pub after-other : (m : List ℕ) (ws : List Lexeme) → sees m ws ≡ false → after m ws ≡ ws
unfolding after
after-other m ws miss = ap (λ b. if b then drop 1 ws else ws) miss

pub expect-is : (m : List ℕ) (l : Lexeme) (ws : List Lexeme) → Is m l → expect m (l ∷ ws) ≡ Ok (tt, ws)
unfolding expect
expect-is m l ws same = ap (λ b. if b then Ok (tt, ws) else Err (stuck_fault (l ∷ ws))) (sees-is m l ws same)

-- a word is no mark
pub no_mark : (m : List ℕ) (l : Lexeme) → l.kind ≡ token.Word → spells l.kind l.bytes ≡ true → is_word m ≡ false → bytes_eq m l.bytes ≡ false
no_mark m l word s other =
    elim (cases_Bool (bytes_eq m l.bytes)) [
      | inl hit ↦
          let w : is_word l.bytes ≡ true = ap (λ k. spells k l.bytes) (sym word) ∙ s in
          absurd (true≢false (sym w ∙ ap is_word (sym ((bytes_eq-Decides m l.bytes).0 hit)) ∙ other))
      | inr miss ↦ miss
    ]

variable_no_word : (bytes : List ℕ) → is_variable bytes ≡ true → is_word bytes ≡ false
variable_no_word [] v = refl
variable_no_word (b ∷ bs) v =
    let first : (b == 33) ≡ true = elim (or_cases (is_class_variable (b ∷ bs)) (is_method_variable (b ∷ bs)) v) [
      | inl c ↦ (and_parts (b == 33) (is_run is_digit bs) c).0
      | inr m ↦ (and_parts (b == 33) (is_class_variable bs) m).0
    ] in
    ap (λ c. is_word (c ∷ bs)) (eqb-true b 33 first)

keyword_words : list_all (λ (row : List ℕ × WrittenType). is_word row.0) type_words ≡ true
keyword_words = refl

keyword_is_word : (bytes : List ℕ) (t : WrittenType) → keyword_type bytes ≡ Some t → is_word bytes ≡ true
unfolding keyword_type
keyword_is_word bytes t e =
    let m = made (λ row. row.1) (find (λ row. bytes_eq row.0 bytes) type_words) t e in
    let f = found_in (λ row. bytes_eq row.0 bytes) type_words m.item m.found in
    let p = found_passes (λ (row : List ℕ × WrittenType). is_word row.0) (λ row. bytes_eq row.0 bytes) type_words m.item keyword_words m.found in
    ap is_word (sym ((bytes_eq-Decides m.item.0 bytes).0 f.1)) ∙ p

none_if : (o : Option WrittenType) → ((t : WrittenType) → o ≡ Some t → ⊥) → o ≡ None
none_if None f = refl
none_if (Some t) f = absurd (f t refl)

-- a variable is no type by itself
variable_plain : (l : Lexeme) → l.kind ≡ token.Variable → spells l.kind l.bytes ≡ true → keyword_type l.bytes ≡ None
variable_plain l is s =
    none_if (keyword_type l.bytes) (λ t e. true≢false (sym (keyword_is_word l.bytes t e) ∙ variable_no_word l.bytes (ap (λ k. spells k l.bytes) (sym is) ∙ s)))

none_among : (bytes : List ℕ) (rows : List (List ℕ × WrittenType)) → list_any (λ word. bytes_eq word bytes) (map (λ row. row.0) rows) ≡ false →
    find (λ row. bytes_eq row.0 bytes) rows ≡ None
none_among bytes [] free = refl
none_among bytes (row ∷ rows) free =
    let parts = or_parts (bytes_eq row.0 bytes) (list_any (λ word. bytes_eq word bytes) (map (λ r. r.0) rows)) free in
    rw parts.0 (none_among bytes rows parts.1)

any-front : (test : List ℕ → Bool) (xs ys : List (List ℕ)) → list_any test (xs ++ ys) ≡ false → list_any test xs ≡ false
any-front test [] ys e = refl
any-front test (x ∷ xs) ys e =
    let parts = or_parts (test x) (list_any test (xs ++ ys)) e in
    rw parts.0 (any-front test xs ys parts.1)

-- a name is no type by itself
name_plain : (quoted : List (List ℕ)) (l : Lexeme) → IsName (type_keywords ++ quoted) l → keyword_type l.bytes ≡ None
unfolding keyword_type
name_plain quoted l n =
    ap (option_map (λ row. row.1)) (none_among l.bytes type_words (any-front (λ word. bytes_eq word l.bytes) type_keywords quoted n.free))

keyword_rows : AllByRecursion (λ (row : List ℕ × WrittenType). keyword_type row.0 ≡ Some row.1) type_words
unfolding keyword_type
keyword_rows = (refl, (refl, (refl, (refl, (refl, tt)))))

pub positive : (quoted : List (List ℕ)) (ws : List Lexeme) (t : WrittenType) → IsType quoted ws t → 1 ≤ written_positions t
positive quoted ws t (keyword q l u c) = omega (arith, all_contains (λ (row : List ℕ × WrittenType). written_positions row.1 ≡ 1) type_words (l.bytes, u) keyword_positions c)
positive quoted ws t (variable q l u k e) = omega (arith, ap written_positions e, positions-variable (name_at l))
positive quoted ws t (named q l u n e) = omega (arith, ap written_positions e, positions-named (name_at l) [])
positive quoted ws t (applied q s inner l left right u args split n a are b e) = omega (arith, ap written_positions e, positions-named (name_at l) args)
positive quoted ws t (vector q s front l u element split is same e) = omega (arith, ap written_positions e, positions-vector element)

-- a reader of types inside another goes on behind a type with its vectors
abbrev pub InnerGoes : (ℕ → Reader (WrittenType × ℕ)) → ℕ → Type 0
InnerGoes inner n = (left : ℕ) (front : List Lexeme) (t : WrittenType) (back : List Lexeme) → IsType [] front t → AreSpelled front → sees (codes "<") back ≡ false →
    written_positions t ≤ left → left ≤ n → inner left (front ++ back) ≡ read_vectors t (left - written_positions t) back

pub vectors-end : (t : WrittenType) (left : ℕ) (ws : List Lexeme) → sees (codes "[]") ws ≡ false → read_vectors t left ws ≡ Ok ((t, left), ws)
unfolding read_vectors sees
vectors-end t left [] miss = refl
vectors-end t left (l ∷ ws) miss = rw miss refl

pub args_goes : (inner : ℕ → Reader (WrittenType × ℕ)) (n : ℕ) → InnerGoes inner n → (k : ℕ) (found : List WrittenType) (left : ℕ) (front : List Lexeme) (ts : List WrittenType) (back : List Lexeme) →
    AreTypes (codes ",") front ts → AreSpelled front → sees (codes "<") back ≡ false → sees (codes "[]") back ≡ false → sees (codes ",") back ≡ false →
    sum (map written_positions ts) ≤ left → left ≤ n → left < k →
    inner_types_from inner k found left (front ++ back) ≡ Ok ((found ++ ts, left - sum (map written_positions ts)), back)
unfolding inner_types_from
args_goes inner n goes zero found left front ts back are s no_left no_vector no_comma room within k = absurd (omega (arith, k))
args_goes inner n goes (suc k) found left front ts back (last_type mark ws t is) s no_left no_vector no_comma room within more =
    let one : sum (map written_positions (t ∷ [])) ≡ written_positions t = omega (arith, sum-cons (written_positions t) []) in
    let read = goes left ws t back is s no_left (omega (arith, room, one)) within ∙ vectors-end t (left - written_positions t) back no_vector in
    by_step (inner left (ws ++ back)) _ _ (t, left - written_positions t) back read (rw (no_comma, after-other (codes ",") back no_comma, one) refl)
args_goes inner n goes (suc k) found left front ts back (next_type mark ws first rest l t us split is same are) s no_left no_vector no_comma room within more =
    let all : sum (map written_positions (t ∷ us)) ≡ written_positions t + sum (map written_positions us) = sum-cons (written_positions t) (map written_positions us) in
    let parts = spelled-append first (l ∷ rest) (subst AreSpelled split s) in
    let whole : ws ++ back ≡ first ++ l ∷ (rest ++ back) = ap (λ z. z ++ back) split ∙ append_assoc first (l ∷ rest) back in
    let no_vector2 = sees-other (codes "[]") (codes ",") l (rest ++ back) same refl in
    let read = goes left first t (l ∷ (rest ++ back)) is parts.0 (sees-other (codes "<") (codes ",") l (rest ++ back) same refl) (omega (arith, room, all)) within
    ∙ vectors-end t (left - written_positions t) (l ∷ (rest ++ back)) no_vector2 in
    let later = args_goes inner n goes k (found ++ t ∷ []) (left - written_positions t) rest us back are parts.1.1 no_left no_vector no_comma
    (omega (arith, room, all)) (omega (arith, within)) (omega (arith, more, positive [] first t is, room, all)) in
    let same_ts : (found ++ t ∷ []) ++ us ≡ found ++ t ∷ us = append_assoc found (t ∷ []) us in
    let same_room : left - written_positions t - sum (map written_positions us) ≡ left - sum (map written_positions (t ∷ us)) = omega (arith, all) in
    ap (inner_types_from inner (suc k) found left) whole
    ∙ by_step (inner left (first ++ l ∷ (rest ++ back))) _ _ (t, left - written_positions t) (l ∷ (rest ++ back)) read
    (rw (sees-is (codes ",") l (rest ++ back) same, after-is (codes ",") l (rest ++ back) same) later)
    ∙ ap (λ xs. Ok ((xs, left - written_positions t - sum (map written_positions us)), back)) same_ts
    ∙ ap (λ m. Ok ((found ++ t ∷ us, m), back)) same_room

-- behind the name of a class
applied_goes : (inner : ℕ → Reader (WrittenType × ℕ)) (n : ℕ) → InnerGoes inner n → (k left : ℕ) (l : Lexeme) (ts : List WrittenType)
    (lt : Lexeme) (front : List Lexeme) (gt : Lexeme) (back : List Lexeme) → Is (codes "<") lt → AreTypes (codes ",") front ts → AreSpelled front → Is (codes ">") gt →
    sum (map written_positions ts) ≤ left → left ≤ n → left < k →
    read_applied inner k (name_at l) left (lt ∷ front ++ gt ∷ back) ≡ read_vectors (w.Named (name_at l) ts) (left - sum (map written_positions ts)) back
unfolding read_applied
applied_goes inner n goes k left l ts lt front gt back opens are s closes room within more =
    let args = args_goes inner n goes k [] left front ts (gt ∷ back) are s (sees-other (codes "<") (codes ">") gt back closes refl)
    (sees-other (codes "[]") (codes ">") gt back closes refl) (sees-other (codes ",") (codes ">") gt back closes refl) room within more in
    rw (sees-is (codes "<") lt (front ++ gt ∷ back) opens, after-is (codes "<") lt (front ++ gt ∷ back) opens)
    (by_step (inner_types_from inner k [] left (front ++ gt ∷ back)) _ _ (ts, left - sum (map written_positions ts)) (gt ∷ back) args
    (by_step (expect (codes ">") (gt ∷ back)) _ _ tt back (expect-is (codes ">") gt back closes) refl))

no_arguments_goes : (n : ℕ) (l : Lexeme) (left : ℕ) (back : List Lexeme) → sees (codes "<") back ≡ false →
    read_applied (λ more. read_type_within n more) (suc n) (name_at l) left back ≡ read_vectors (w.Named (name_at l) []) left back
unfolding read_applied
no_arguments_goes n l left back free = rw (free, after-other (codes "<") back free) refl

one_vector : (t : WrittenType) (left : ℕ) (l : Lexeme) (ws : List Lexeme) → Is (codes "[]") l → 1 ≤ left → read_vectors t left (l ∷ ws) ≡ read_vectors (w.Vector t) (left - 1) ws
unfolding read_vectors
one_vector t left l ws same some =
    rw ((bytes_eq-Decides (codes "[]") l.bytes).1 (sym same), ne_eqb left 0 (λ z. absurd (omega (arith, z, some)))) refl

-- a type is read as itself with the vectors behind it
head_goes : (n : ℕ) → InnerGoes (λ more. read_type_within n more) n → (quoted : List (List ℕ)) (left : ℕ) (front : List Lexeme) (t : WrittenType) (back : List Lexeme) →
    IsType quoted front t → AreSpelled front → sees (codes "<") back ≡ false → written_positions t ≤ left → left ≤ suc n →
    past_head (head_of (front ++ back)) (read_headed (λ more. read_type_within n more) (suc n) (head_of (front ++ back)) (left - 1)) (front ++ back)
    ≡ read_vectors t (left - written_positions t) back
unfolding head_of
head_goes n goes quoted left front t back (keyword q l u c) s free room within =
    let is : keyword_type l.bytes ≡ Some t = all_contains (λ (row : List ℕ × WrittenType). keyword_type row.0 ≡ Some row.1) type_words (l.bytes, t) keyword_rows c in
    let one : written_positions t ≡ 1 = all_contains (λ (row : List ℕ × WrittenType). written_positions row.1 ≡ 1) type_words (l.bytes, t) keyword_positions c in
    ap (λ k. past_head (head_or_kind l k) (read_headed (λ more. read_type_within n more) (suc n) (head_or_kind l k) (left - 1)) (l ∷ back)) is
    ∙ ap (λ m. read_vectors t (left - m) back) (sym one)
head_goes n goes quoted left front t back (variable q l u is e) s free room within =
    let none = variable_plain l is s.0 in
    let one : written_positions t ≡ 1 = ap written_positions e ∙ positions-variable (name_at l) in
    ap (λ k. past_head (head_or_kind l k) (read_headed (λ more. read_type_within n more) (suc n) (head_or_kind l k) (left - 1)) (l ∷ back)) none
    ∙ ap (λ k. past_head (head_by_kind l k) (read_headed (λ more. read_type_within n more) (suc n) (head_by_kind l k) (left - 1)) (l ∷ back)) is
    ∙ ap (λ v. read_vectors v (left - 1) back) (sym e) ∙ ap (λ m. read_vectors t (left - m) back) (sym one)
head_goes n goes quoted left front t back (named q l u name e) s free room within =
    let none = name_plain quoted l name in
    let one : written_positions t ≡ 1 = ap written_positions e ∙ positions-named (name_at l) [] in
    ap (λ k. past_head (head_or_kind l k) (read_headed (λ more. read_type_within n more) (suc n) (head_or_kind l k) (left - 1)) (l ∷ back)) none
    ∙ ap (λ k. past_head (head_by_kind l k) (read_headed (λ more. read_type_within n more) (suc n) (head_by_kind l k) (left - 1)) (l ∷ back)) name.word
    ∙ no_arguments_goes n l (left - 1) back free
    ∙ ap (λ v. read_vectors v (left - 1) back) (sym e) ∙ ap (λ m. read_vectors t (left - m) back) (sym one)
head_goes n goes quoted left front t back (applied q ws inner l lt gt u args split name opens are closes e) s free room within =
    let none = name_plain quoted l name in
    let all : written_positions t ≡ 1 + sum (map written_positions args) = ap written_positions e ∙ positions-named (name_at l) args in
    let parts = spelled-append inner (gt ∷ []) (subst AreSpelled split s).1.1 in
    let whole : ws ++ back ≡ l ∷ lt ∷ inner ++ gt ∷ back = ap (λ z. z ++ back) split ∙ ap (λ z. l ∷ lt ∷ z) (append_assoc inner (gt ∷ []) back) in
    ap (λ z. past_head (head_of z) (read_headed (λ more. read_type_within n more) (suc n) (head_of z) (left - 1)) z) whole
    ∙ ap (λ k. past_head (head_or_kind l k) (read_headed (λ more. read_type_within n more) (suc n) (head_or_kind l k) (left - 1)) (l ∷ lt ∷ inner ++ gt ∷ back)) none
    ∙ ap (λ k. past_head (head_by_kind l k) (read_headed (λ more. read_type_within n more) (suc n) (head_by_kind l k) (left - 1)) (l ∷ lt ∷ inner ++ gt ∷ back)) name.word
    ∙ applied_goes (λ more. read_type_within n more) n goes (suc n) (left - 1) l args lt inner gt back opens are parts.0 closes
    (omega (arith, room, all)) (omega (arith, within)) (omega (arith, within, room, all))
    ∙ ap (λ v. read_vectors v (left - 1 - sum (map written_positions args)) back) (sym e)
    ∙ ap (λ m. read_vectors t m back) (omega (arith, all))
head_goes n goes quoted left front t back (vector q ws first l u element split is same e) s free room within =
    let more : written_positions t ≡ 1 + written_positions element = ap written_positions e ∙ positions-vector element in
    let parts = spelled-append first (l ∷ []) (subst AreSpelled split s) in
    let whole : ws ++ back ≡ first ++ l ∷ back = ap (λ z. z ++ back) split ∙ append_assoc first (l ∷ []) back in
    ap (λ z. past_head (head_of z) (read_headed (λ rest. read_type_within n rest) (suc n) (head_of z) (left - 1)) z) whole
    ∙ head_goes n goes quoted left first element (l ∷ back) is parts.0 (sees-other (codes "<") (codes "[]") l back same refl) (omega (arith, room, more)) within
    ∙ one_vector element (left - written_positions element) l back same (omega (arith, room, more))
    ∙ ap (λ v. read_vectors v (left - written_positions element - 1) back) (sym e)
    ∙ ap (λ m. read_vectors t m back) (omega (arith, more))

pub type_goes : (n : ℕ) (quoted : List (List ℕ)) (left : ℕ) (front : List Lexeme) (t : WrittenType) (back : List Lexeme) →
    IsType quoted front t → AreSpelled front → sees (codes "<") back ≡ false → written_positions t ≤ left → left ≤ n →
    read_type_within n left (front ++ back) ≡ read_vectors t (left - written_positions t) back
unfolding read_type_within
type_goes zero quoted left front t back is s free room within = absurd (omega (arith, positive quoted front t is, room, within))
type_goes (suc n) quoted left front t back is s free room within =
    let some : (left == 0) ≡ false = ne_eqb left 0 (λ z. absurd (omega (arith, z, positive quoted front t is, room))) in
    rw some (head_goes n (λ more inside u rest i p f r v. type_goes n [] more inside u rest i p f r v) quoted left front t back is s free room within)
