-- What is read as a type is a type of the grammar.
use Rattle.std.proofs.Common.{◌≡◌, ℕ, zero, suc, ◌+◌, ◌-◌, ◌==◌, ◌||◌, Bool, false, List, [], ◌∷◌, ◌++◌, Option, Some, None, Ok, refl, sym, ap, subst, ◌∙◌, append_assoc, append-nil, bytes_eq, codes, arith, inl, inr, sum, fold, map, find, Contains}
use Rattle.std.proofs.lemmas.Bool.{cases_Bool, eqb-false, or_parts, or_from}
use Rattle.std.proofs.lemmas.Slice.Eq.{bytes_eq-Decides}
use Rattle.il_text.specs.declared.token.TokenKind.{TokenKind}
use Rattle.il_text.specs.declared.token.TokenKind.TheVariants as token
use Rattle.il_model.specs.declared.written.WrittenType.{WrittenType}
use Rattle.il_model.specs.declared.written.WrittenType.TheVariants as w
use Rattle.il_model.specs.declared.written.WrittenType.TheFolds.{fold-roll-WrittenType}
use Rattle.il_model.specs.declared.written.WrittenType as views
use Rattle.il_model.specs.declared.written.WrittenType.TheOpen.{WrittenType-F}
use Rattle.il_model.specs.declared.written.WrittenName.{WrittenName}
use Rattle.il_model.specs.Lexemes.{Lexeme, IsName, is_among, name_at}
use Rattle.il_model.specs.Bounds.{written_positions, level_positions}
use Rattle.il_model.specs.Types.{IsType, keyword, variable, named, applied, vector, AreTypes, last_type, next_type}
use Rattle.il_model.specs.Words.{type_words, type_keywords}
use Rattle.il_parse.specs.declared.fault.ParseCause.TheVariants as cause
use Rattle.il_parse.specs.Reading.{Read, Reader, fault_at, stuck_fault, expect}
use Rattle.il_parse.specs.Types.{keyword_type, Head, whole, class_name, no_type, head_by_kind, head_or_kind, read_vectors, inner_types_from, read_applied, read_headed, head_of, read_no_head, past_head, read_type_within}
use Rattle.std.specs.List.{AllByRecursion, list_any}
use Rattle.il_parse.proofs.Finding.{found_in, found_holds, made, unmade, none_found}
use Rattle.il_parse.proofs.Steps.{refusal, value_of, rest_of, bound, seen, there, absent, expected}

pub positions-vector : (t : WrittenType) → written_positions (w.Vector t) ≡ 1 + written_positions t
unfolding views.roll-WrittenType denote.Hole.Carrier.roll
positions-vector t = fold-roll-WrittenType ℕ level_positions (WrittenType-F.Vector t)

pub positions-named : (name : WrittenName) (ts : List WrittenType) → written_positions (w.Named name ts) ≡ 1 + sum (map written_positions ts)
unfolding views.roll-WrittenType denote.Hole.Carrier.roll
positions-named name ts = fold-roll-WrittenType ℕ level_positions (WrittenType-F.Named name ts)

-- a type that was read behind these lexemes, with the positions that may come behind it
pub record Grown (quoted : List (List ℕ)) (begun ws : List Lexeme) (room : ℕ) (p : WrittenType × ℕ) (back : List Lexeme) : Type 0 where
  pub more : List Lexeme
  pub split : ws ≡ more ++ back
  pub holds : IsType quoted (begun ++ more) p.0
  pub count : written_positions p.0 + p.1 ≡ room

pub vectors_sound : (quoted : List (List ℕ)) (begun : List Lexeme) (t : WrittenType) (left : ℕ) (ws : List Lexeme) (p : WrittenType × ℕ) (back : List Lexeme) →
    IsType quoted begun t → read_vectors t left ws ≡ Ok (p, back) → Grown quoted begun ws (written_positions t + left) p back
unfolding read_vectors
vectors_sound quoted begun t left [] p back is e = record {
  more = [];
  split = rest_of (t, left) p [] back e;
  holds = subst (IsType quoted (begun ++ [])) (ap (λ q. q.0) (value_of (t, left) p [] back e)) (subst (λ ws. IsType quoted ws t) (sym (append-nil begun)) is);
  count = ap (λ q. written_positions q.0 + q.1) (sym (value_of (t, left) p [] back e));
}
vectors_sound quoted begun t left (l ∷ ws) p back is e =
    elim (cases_Bool (bytes_eq (codes "[]") l.bytes)) [
      | inl hit ↦ elim (cases_Bool (left == 0)) [
        | inl none ↦ refusal (fault_at (l ∷ ws) cause.TooMany) p back (rw (hit, none) at e)
        | inr some ↦
            let rest = vectors_sound quoted (begun ++ l ∷ []) (w.Vector t) (left - 1) ws p back
            (vector quoted (begun ++ l ∷ []) begun l (w.Vector t) t refl is (sym ((bytes_eq-Decides (codes "[]") l.bytes).0 hit)) refl)
            (rw (hit, some) at e) in
            record {
              more = l ∷ rest.more;
              split = ap (λ r. l ∷ r) rest.split;
              holds = subst (λ ws. IsType quoted ws p.0) (append_assoc begun (l ∷ []) rest.more) rest.holds;
              count = rest.count ∙ omega (arith, positions-vector t, eqb-false left 0 some);
            }
      ]
      | inr other ↦
          record {
            more = [];
            split = rest_of (t, left) p (l ∷ ws) back (rw other at e);
            holds = subst (IsType quoted (begun ++ [])) (ap (λ q. q.0) (value_of (t, left) p (l ∷ ws) back (rw other at e))) (subst (λ ws. IsType quoted ws t) (sym (append-nil begun)) is);
            count = ap (λ q. written_positions q.0 + q.1) (sym (value_of (t, left) p (l ∷ ws) back (rw other at e)));
          }
    ]

-- the first lexeme is none of these words
abbrev pub FreeOf : List (List ℕ) → List Lexeme → Type 0
FreeOf quoted [] = Unit {0}
FreeOf quoted (l ∷ ws) = is_among quoted l.bytes ≡ false

pub positions-int32 : written_positions w.Int32 ≡ 1
unfolding views.roll-WrittenType denote.Hole.Carrier.roll
positions-int32 = fold-roll-WrittenType ℕ level_positions WrittenType-F.Int32

pub positions-int64 : written_positions w.Int64 ≡ 1
unfolding views.roll-WrittenType denote.Hole.Carrier.roll
positions-int64 = fold-roll-WrittenType ℕ level_positions WrittenType-F.Int64

pub positions-string : written_positions w.String ≡ 1
unfolding views.roll-WrittenType denote.Hole.Carrier.roll
positions-string = fold-roll-WrittenType ℕ level_positions WrittenType-F.String

pub positions-object : written_positions w.Object ≡ 1
unfolding views.roll-WrittenType denote.Hole.Carrier.roll
positions-object = fold-roll-WrittenType ℕ level_positions WrittenType-F.Object

pub keyword_positions : AllByRecursion (λ (row : List ℕ × WrittenType). written_positions row.1 ≡ 1) type_words
unfolding views.roll-WrittenType denote.Hole.Carrier.roll
keyword_positions = (
  fold-roll-WrittenType ℕ level_positions WrittenType-F.Int32,
  (
    fold-roll-WrittenType ℕ level_positions WrittenType-F.Int64,
    (
      fold-roll-WrittenType ℕ level_positions WrittenType-F.Bool,
      (
        fold-roll-WrittenType ℕ level_positions WrittenType-F.Object,
        (fold-roll-WrittenType ℕ level_positions WrittenType-F.String, tt),
      ),
    ),
  ),
)

pub positions-variable : (name : WrittenName) → written_positions (w.Variable name) ≡ 1
unfolding views.roll-WrittenType denote.Hole.Carrier.roll
positions-variable name = fold-roll-WrittenType ℕ level_positions (WrittenType-F.Variable name)

pub keyword_sound : (bytes : List ℕ) (t : WrittenType) → keyword_type bytes ≡ Some t → Contains type_words (bytes, t) × (written_positions t ≡ 1)
unfolding keyword_type
keyword_sound bytes t e =
    let m = made (λ row. row.1) (find (λ row. bytes_eq row.0 bytes) type_words) t e in
    let f = found_in (λ row. bytes_eq row.0 bytes) type_words m.item m.found in
    let p = found_holds (λ row. written_positions row.1 ≡ 1) (λ row. bytes_eq row.0 bytes) type_words m.item keyword_positions m.found in
    let same : m.item.0 ≡ bytes = (bytes_eq-Decides m.item.0 bytes).0 f.1 in (
      subst (λ b. Contains type_words (b, t)) same (subst (λ u. Contains type_words (m.item.0, u)) m.gives f.0),
      subst (λ u. written_positions u ≡ 1) m.gives p,
    )

any-append : (test : List ℕ → Bool) (xs ys : List (List ℕ)) → list_any test xs ≡ false → list_any test ys ≡ false → list_any test (xs ++ ys) ≡ false
any-append test [] ys a b = b
any-append test (x ∷ xs) ys a b =
    let parts = or_parts (test x) (list_any test xs) a in
    or_from (test x) (list_any test (xs ++ ys)) parts.0 (any-append test xs ys parts.1 b)

any-map : {X : Type 0} (f : X → List ℕ) (test : List ℕ → Bool) (xs : List X) → list_any test (map f xs) ≡ list_any (λ x. test (f x)) xs
any-map f test [] = refl
any-map f test (x ∷ xs) = ap (λ b. test (f x) || b) (any-map f test xs)

no_keyword : (bytes : List ℕ) → keyword_type bytes ≡ None → is_among type_keywords bytes ≡ false
unfolding keyword_type
no_keyword bytes e =
    any-map (λ row. row.0) (λ word. bytes_eq word bytes) type_words
    ∙ none_found (λ row. bytes_eq row.0 bytes) type_words (unmade (λ row. row.1) (find (λ row. bytes_eq row.0 bytes) type_words) e)

-- a name at the front of a type
pub class_name_free : (quoted : List (List ℕ)) (l : Lexeme) → l.kind ≡ token.Word → keyword_type l.bytes ≡ None → is_among quoted l.bytes ≡ false →
    IsName (type_keywords ++ quoted) l
class_name_free quoted l word e free = record { word = word; free = any-append (λ word. bytes_eq word l.bytes) type_keywords quoted (no_keyword l.bytes e) free }

-- what a reader of types gives inside another type
InnerSound : (ℕ → Reader (WrittenType × ℕ)) → Type 0
InnerSound inner = (left : ℕ) (ws : List Lexeme) (p : WrittenType × ℕ) (back : List Lexeme) → inner left ws ≡ Ok (p, back) → Grown [] [] ws left p back

-- the arguments of a class that were read behind those found
record Args (found : List WrittenType) (ws : List Lexeme) (room : ℕ) (q : List WrittenType × ℕ) (back : List Lexeme) : Type 0 where
  front : List Lexeme
  types : List WrittenType
  split : ws ≡ front ++ back
  all : q.0 ≡ found ++ types
  are : AreTypes (codes ",") front types
  count : sum (map written_positions types) + q.1 ≡ room

sum_from : (a : ℕ) (ns : List ℕ) → fold ◌+◌ a ns ≡ a + fold ◌+◌ 0 ns
sum_from a [] = omega arith
sum_from a (n ∷ ns) = omega (arith, sum_from (a + n) ns, sum_from (0 + n) ns)

pub sum-cons : (n : ℕ) (ns : List ℕ) → sum (n ∷ ns) ≡ n + sum ns
sum-cons n ns = omega (arith, sum_from (0 + n) ns)

args_sound : (inner : ℕ → Reader (WrittenType × ℕ)) → InnerSound inner → (n : ℕ) (found : List WrittenType) (left : ℕ) (ws : List Lexeme)
    (q : List WrittenType × ℕ) (back : List Lexeme) → inner_types_from inner n found left ws ≡ Ok (q, back) → Args found ws left q back
unfolding inner_types_from InnerSound
args_sound inner sound zero found left ws q back e = refusal (stuck_fault ws) q back e
args_sound inner sound (suc n) found left ws q back e =
    let b = bound (inner left ws) _ q back e in
    let t = sound left ws b.value b.mid b.first in
    elim (seen (codes ",") b.mid) [
      | there l rest split same hit behind ↦
          let more = args_sound inner sound n (found ++ b.value.0 ∷ []) b.value.1 rest q back (rw (hit, behind) at b.second) in
          record {
            front = t.more ++ l ∷ more.front;
            types = b.value.0 ∷ more.types;
            split = t.split ∙ ap (λ r. t.more ++ r) (split ∙ ap (λ r. l ∷ r) more.split) ∙ sym (append_assoc t.more (l ∷ more.front) back);
            all = more.all ∙ append_assoc found (b.value.0 ∷ []) more.types;
            are = next_type (codes ",") (t.more ++ l ∷ more.front) t.more more.front l b.value.0 more.types refl t.holds same more.are;
            count = omega (arith, t.count, more.count, sum-cons (written_positions b.value.0) (map written_positions more.types));
          }
      | absent none stays ↦
          let e2 : (let r : Read (List WrittenType × ℕ) = Ok ((found ++ b.value.0 ∷ [], b.value.1), b.mid) in r ≡ Ok (q, back)) = rw (none, stays) at b.second in
          let is = value_of (found ++ b.value.0 ∷ [], b.value.1) q b.mid back e2 in
          record {
            front = t.more;
            types = b.value.0 ∷ [];
            split = t.split ∙ ap (λ r. t.more ++ r) (rest_of (found ++ b.value.0 ∷ [], b.value.1) q b.mid back e2);
            all = ap (λ p. p.0) (sym is);
            are = last_type (codes ",") t.more b.value.0 t.holds;
            count = omega (arith, t.count, ap (λ p. p.1) is, sum-cons (written_positions b.value.0) []);
          }
    ]

enclosed_split : (rest front mid : List Lexeme) (r : Lexeme) (later more back : List Lexeme) → rest ≡ front ++ mid → mid ≡ r ∷ later → later ≡ more ++ back →
    rest ≡ ((front ++ r ∷ []) ++ more) ++ back
enclosed_split rest front mid r later more back a b c =
    a ∙ ap (λ z. front ++ z) (b ∙ ap (λ z. r ∷ z) c) ∙ sym (append_assoc front (r ∷ more) back)
    ∙ ap (λ z. z ++ back) (sym (append_assoc front (r ∷ []) more))

applied_sound : (inner : ℕ → Reader (WrittenType × ℕ)) → InnerSound inner → (n : ℕ) (quoted : List (List ℕ)) (l : Lexeme) (left : ℕ) (ws : List Lexeme)
    (p : WrittenType × ℕ) (back : List Lexeme) → IsName (type_keywords ++ quoted) l → read_applied inner n (name_at l) left ws ≡ Ok (p, back) →
    Grown quoted [] (l ∷ ws) (1 + left) p back
unfolding read_applied
applied_sound inner sound n quoted l left ws p back name e =
    elim (seen (codes "<") ws) [
      | there lt rest split same hit behind ↦
          let b = bound (inner_types_from inner n [] left rest) _ p back (rw (hit, behind) at e) in
          let a = args_sound inner sound n [] left rest b.value b.mid b.first in
          let c = bound (expect (codes ">") b.mid) _ p back b.second in
          let x = expected (codes ">") b.mid c.value c.mid c.first in
          let begun : List Lexeme = l ∷ lt ∷ a.front ++ x.token ∷ [] in
          let are : AreTypes (codes ",") a.front b.value.0 = subst (AreTypes (codes ",") a.front) (sym a.all) a.are in
          let g = vectors_sound quoted begun (w.Named (name_at l) b.value.0) b.value.1 c.mid p back
          (applied quoted begun a.front l lt x.token (w.Named (name_at l) b.value.0) b.value.0 refl name same are x.same refl) c.second in
          record {
            more = begun ++ g.more;
            split = ap (λ z. l ∷ z) (split ∙ ap (λ z. lt ∷ z) (enclosed_split rest a.front b.mid x.token c.mid g.more back a.split x.split g.split));
            holds = g.holds;
            count = omega (arith, g.count, positions-named (name_at l) b.value.0, ap (λ ts. sum (map written_positions ts)) a.all, a.count);
          }
      | absent none stays ↦
          let g = vectors_sound quoted (l ∷ []) (w.Named (name_at l) []) left ws p back (named quoted l (w.Named (name_at l) []) name refl) (rw (none, stays) at e) in
          record { more = l ∷ g.more; split = ap (λ z. l ∷ z) g.split; holds = g.holds; count = omega (arith, g.count, positions-named (name_at l) []) }
    ]

whole_sound : (quoted : List (List ℕ)) (l : Lexeme) (t : WrittenType) (left : ℕ) (ws : List Lexeme) (p : WrittenType × ℕ) (back : List Lexeme) →
    IsType quoted (l ∷ []) t → written_positions t ≡ 1 → read_vectors t left ws ≡ Ok (p, back) → Grown quoted [] (l ∷ ws) (1 + left) p back
whole_sound quoted l t left ws p back is one e =
    let g = vectors_sound quoted (l ∷ []) t left ws p back is e in
    record { more = l ∷ g.more; split = ap (λ z. l ∷ z) g.split; holds = g.holds; count = omega (arith, g.count, one) }

by_kind_sound : (inner : ℕ → Reader (WrittenType × ℕ)) → InnerSound inner → (n : ℕ) (quoted : List (List ℕ)) (l : Lexeme) (left : ℕ) (ws : List Lexeme)
    (p : WrittenType × ℕ) (back : List Lexeme) → is_among quoted l.bytes ≡ false → keyword_type l.bytes ≡ None → (j : TokenKind) → l.kind ≡ j →
    past_head (head_by_kind l j) (read_headed inner n (head_by_kind l j) left) (l ∷ ws) ≡ Ok (p, back) → Grown quoted [] (l ∷ ws) (1 + left) p back
by_kind_sound inner sound n quoted l left ws p back free none token.Word is e =
    applied_sound inner sound n quoted l left ws p back (class_name_free quoted l is none free) e
by_kind_sound inner sound n quoted l left ws p back free none token.Variable is e =
    whole_sound quoted l (w.Variable (name_at l)) left ws p back (variable quoted l (w.Variable (name_at l)) is refl) (positions-variable (name_at l)) e
by_kind_sound inner sound n quoted l left ws p back free none token.Number is e = refusal (stuck_fault (l ∷ ws)) p back e
by_kind_sound inner sound n quoted l left ws p back free none token.Text is e = refusal (stuck_fault (l ∷ ws)) p back e
by_kind_sound inner sound n quoted l left ws p back free none token.Mark is e = refusal (stuck_fault (l ∷ ws)) p back e

headed_sound : (inner : ℕ → Reader (WrittenType × ℕ)) → InnerSound inner → (n : ℕ) (quoted : List (List ℕ)) (l : Lexeme) (left : ℕ) (ws : List Lexeme)
    (p : WrittenType × ℕ) (back : List Lexeme) → is_among quoted l.bytes ≡ false → (k : Option WrittenType) → keyword_type l.bytes ≡ k →
    past_head (head_or_kind l k) (read_headed inner n (head_or_kind l k) left) (l ∷ ws) ≡ Ok (p, back) → Grown quoted [] (l ∷ ws) (1 + left) p back
headed_sound inner sound n quoted l left ws p back free (Some t) is e =
    let k = keyword_sound l.bytes t is in
    whole_sound quoted l t left ws p back (keyword quoted l t k.0) k.1 e
headed_sound inner sound n quoted l left ws p back free None is e = by_kind_sound inner sound n quoted l left ws p back free is l.kind refl e

no_head : {A C : Type 0} (h : Head) (ws : List Lexeme) (x : A) (back : List Lexeme) → read_no_head h ws ≡ Ok (x, back) → C
no_head no_type ws x back e = refusal (stuck_fault ws) x back e
no_head (whole t) ws x back e = refusal (fault_at ws cause.TooMany) x back e
no_head (class_name name) ws x back e = refusal (fault_at ws cause.TooMany) x back e

behind_head : (inner : ℕ → Reader (WrittenType × ℕ)) → InnerSound inner → (n : ℕ) (quoted : List (List ℕ)) (left : ℕ) (ws : List Lexeme)
    (p : WrittenType × ℕ) (back : List Lexeme) → FreeOf quoted ws →
    past_head (head_of ws) (read_headed inner n (head_of ws) left) ws ≡ Ok (p, back) → Grown quoted [] ws (1 + left) p back
unfolding head_of
behind_head inner sound n quoted left [] p back free e = refusal (stuck_fault []) p back e
behind_head inner sound n quoted left (l ∷ ws) p back free e = headed_sound inner sound n quoted l left ws p back free (keyword_type l.bytes) refl e

pub no_quoted : (ws : List Lexeme) → FreeOf [] ws
no_quoted [] = tt
no_quoted (l ∷ ws) = refl

-- what is read as a type is one, with so many positions
pub type_within_sound : (n left : ℕ) (quoted : List (List ℕ)) (ws : List Lexeme) (p : WrittenType × ℕ) (back : List Lexeme) → FreeOf quoted ws →
    read_type_within n left ws ≡ Ok (p, back) → Grown quoted [] ws left p back
unfolding read_type_within InnerSound
type_within_sound zero left quoted ws p back free e = no_head (head_of ws) ws p back e
type_within_sound (suc n) left quoted ws p back free e =
    elim (cases_Bool (left == 0)) [
      | inl none ↦ no_head (head_of ws) ws p back (rw none at e)
      | inr some ↦
          let g = behind_head (λ more. read_type_within n more)
          (λ room inside q rest f. type_within_sound n room [] inside q rest (no_quoted inside) f)
          (suc n) quoted (left - 1) ws p back free (rw some at e) in
          record { more = g.more; split = g.split; holds = g.holds; count = g.count ∙ omega (arith, eqb-false left 0 some) }
    ]
