-- The words of a call of the library spell a method.
use Rattle.std.proofs.Common.{◌≡◌, ℕ, ◌≤◌, Bool, true, false, not, ◌&&◌, ◌||◌, List, [], ◌∷◌, ◌++◌, map, Option, Some, None, refl, sym, ap, ◌∙◌, codes, append_assoc, bytes_eq, inl, inr, arith, option_to_list, Contains}
use Rattle.std.proofs.lemmas.Bool.{true≢false, cases_Bool, not-true, and_parts, or_cases}
use Rattle.std.proofs.lemmas.Slice.Eq.{bytes_eq-Decides}
use Rattle.std.specs.List.{list_any}
use Rattle.il_text.specs.Spelling.{spells, is_variable, is_number, is_text, is_mark}
use Rattle.il_model.specs.declared.written.WrittenType.{WrittenType}
use Rattle.il_model.specs.declared.written.WrittenType.TheVariants as w
use Rattle.il_model.specs.declared.written.WrittenParam.{WrittenParam}
use Rattle.il_model.specs.declared.written.WrittenMethodRef.{WrittenMethodRef}
use Rattle.il_model.specs.Lexemes.{Lexeme, Is, IsName, is_among, name_at, last, next, absent as not_written}
use Rattle.il_model.specs.Words.{type_words, type_keywords}
use Rattle.il_model.specs.Bounds.{written_positions, types_of_params, types_of_method_ref}
use Rattle.il_model.specs.Types.{IsType, keyword, named, IsResult, void, value, IsParam, by_value, pointer, last_type, AreParams, no_params, params, no_arguments, arguments}
use Rattle.il_model.specs.Members.{IsMethodRef, method_ref}
use Rattle.il_model.specs.Spellings.{plain_name}
use Rattle.il_model.specs.Instructions.{plain_words}
use Rattle.il_parse.proofs.Finding.{all_contains, contains_later}
use Rattle.il_parse.proofs.Steps.{AreSpelled}
use Rattle.il_parse.proofs.TypesSound.{positions-named, keyword_positions}
use Rattle.il_parse.proofs.ListsSound.{AreSmall, small-append}
use Rattle.il_parse.proofs.NameOfCalls.{plain_is, word_only}

-- a test that both library names of short words pass is passed by a name where its short spelling passes it
plain_passes : (p : List ℕ → Bool) → p (codes "System.Object") ≡ true → p (codes "System.String") ≡ true → (bytes s : List ℕ) → plain_name bytes ≡ s → p s ≡ true → p bytes ≡ true
plain_passes p object text bytes s e is =
    elim (cases_Bool (bytes_eq bytes (codes "System.Object"))) [
      | inl hit ↦ ap p ((bytes_eq-Decides bytes (codes "System.Object")).0 hit) ∙ object
      | inr miss ↦ elim (cases_Bool (bytes_eq bytes (codes "System.String"))) [
        | inl hit ↦ ap p ((bytes_eq-Decides bytes (codes "System.String")).0 hit) ∙ text
        | inr other ↦ let same : bytes ≡ s = rw (miss, other) at e in ap p same ∙ is
      ]
    ]

-- the bytes spell a word alone, and none of these
abbrev is_free : List (List ℕ) → List ℕ → Bool
is_free quoted bytes = not (is_variable bytes) && (not (is_number bytes) && (not (is_text bytes) && (not (is_mark bytes) && not (is_among quoted bytes))))

-- a lexeme that spells a word alone is a name
free_name : (quoted : List (List ℕ)) (l : Lexeme) → spells l.kind l.bytes ≡ true → is_free quoted l.bytes ≡ true → IsName quoted l
free_name quoted l s e =
    let a = and_parts (not (is_variable l.bytes)) _ e in
    let b = and_parts (not (is_number l.bytes)) _ a.1 in
    let c = and_parts (not (is_text l.bytes)) _ b.1 in
    let d = and_parts (not (is_mark l.bytes)) _ c.1 in
    record {
      word = word_only l.kind l.bytes s (not-true (is_variable l.bytes) a.0) (not-true (is_number l.bytes) b.0) (not-true (is_text l.bytes) c.0) (not-true (is_mark l.bytes) d.0);
      free = not-true (is_among quoted l.bytes) d.1;
    }

-- a type of one position that a lexeme is
pub record OneType (quoted : List (List ℕ)) (l : Lexeme) : Type 0 where
  pub kind : WrittenType
  pub is : IsType quoted (l ∷ []) kind
  pub one : written_positions kind ≡ 1

keyword_of : (bytes : List ℕ) (rows : List (List ℕ × WrittenType)) → list_any (λ word. bytes_eq word bytes) (map (λ row. row.0) rows) ≡ true →
    (t : WrittenType) × Contains rows (bytes, t)
keyword_of bytes [] e = absurd (true≢false (sym e))
keyword_of bytes (row ∷ rows) e =
    elim (or_cases (bytes_eq row.0 bytes) (list_any (λ word. bytes_eq word bytes) (map (λ r. r.0) rows)) e) [
      | inl hit ↦ (row.1, (0, omega arith, ap (λ b. (b, row.1)) ((bytes_eq-Decides row.0 bytes).0 hit)))
      | inr later ↦ let k = keyword_of bytes rows later in (k.0, contains_later row rows (bytes, k.0) k.1)
    ]

among-split : (xs ys : List (List ℕ)) (bytes : List ℕ) → is_among xs bytes ≡ false → is_among ys bytes ≡ false → is_among (xs ++ ys) bytes ≡ false
among-split [] ys bytes a b = b
among-split (x ∷ xs) ys bytes a b =
    elim (cases_Bool (bytes_eq x bytes)) [
      | inl hit ↦ absurd (true≢false (sym (ap (λ c. c || is_among xs bytes) hit) ∙ a))
      | inr miss ↦ rw miss (among-split xs ys bytes (rw miss at a) b)
    ]

one_type : (quoted : List (List ℕ)) (l : Lexeme) → IsName quoted l → OneType quoted l
one_type quoted l n =
    elim (cases_Bool (is_among type_keywords l.bytes)) [
      | inl hit ↦
          let k = keyword_of l.bytes type_words hit in
          record {
            kind = k.0;
            is = keyword quoted l k.0 k.1;
            one = all_contains (λ (row : List ℕ × WrittenType). written_positions row.1 ≡ 1) type_words (l.bytes, k.0) keyword_positions k.1;
          }
      | inr miss ↦ record {
        kind = w.Named (name_at l) [];
        is = named quoted l (w.Named (name_at l) []) (record { word = n.word; free = among-split type_keywords quoted l.bytes miss n.free }) refl;
        one = positions-named (name_at l) [];
      }
    ]

type_by : (quoted : List (List ℕ)) (l : Lexeme) (s : List ℕ) → is_free quoted (codes "System.Object") ≡ true → is_free quoted (codes "System.String") ≡ true →
    spells l.kind l.bytes ≡ true → plain_name l.bytes ≡ s → is_free quoted s ≡ true → OneType quoted l
type_by quoted l s object text spelled e free = one_type quoted l (free_name quoted l spelled (plain_passes (is_free quoted) object text l.bytes s e free))

-- a mark is its own plain name
mark_by : (m : List ℕ) (l : Lexeme) (s : List ℕ) → bytes_eq (codes "object") m ≡ false → bytes_eq (codes "string") m ≡ false → plain_name l.bytes ≡ s → bytes_eq m s ≡ true → Is m l
mark_by m l s no_object no_string e hit = plain_is l.bytes m no_object no_string (e ∙ sym ((bytes_eq-Decides m s).0 hit))

-- `)` behind types between `,`, the first of which or none is a pointer
abbrev is_params : List (List ℕ) → Bool
is_params (a ∷ b ∷ []) = is_free [] a && bytes_eq (codes ")") b
is_params (a ∷ b ∷ c ∷ d ∷ e ∷ []) = is_free [] a && (bytes_eq (codes "&") b && (bytes_eq (codes ",") c && (is_free [] d && bytes_eq (codes ")") e)))
is_params (a ∷ b ∷ c ∷ d ∷ e ∷ f ∷ g ∷ []) =
    is_free [] a && (bytes_eq (codes "&") b && (bytes_eq (codes ",") c && (is_free [] d && (bytes_eq (codes ",") e && (is_free [] f && bytes_eq (codes ")") g)))))
is_params _ = false

-- parameters and the mark behind them
record ParamsOf (ws : List Lexeme) : Type 0 where
  inner : List Lexeme
  right : Lexeme
  ps : List WrittenParam
  split : ws ≡ inner ++ right ∷ []
  are : AreParams inner ps
  closes : Is (codes ")") right
  small : AreSmall (types_of_params ps)

type_at : (l : Lexeme) → spells l.kind l.bytes ≡ true → is_free [] (plain_name l.bytes) ≡ true → OneType [] l
type_at l s free = type_by [] l (plain_name l.bytes) refl refl s refl free

mark_at : (m : List ℕ) (l : Lexeme) → bytes_eq (codes "object") m ≡ false → bytes_eq (codes "string") m ≡ false → bytes_eq m (plain_name l.bytes) ≡ true → Is m l
mark_at m l no_object no_string hit = mark_by m l (plain_name l.bytes) no_object no_string refl hit

by_value_at : (l : Lexeme) → (t : OneType [] l) → IsParam (l ∷ []) (record { kind = t.kind; pointer = false })
by_value_at l t = by_value (l ∷ []) t.kind t.is

pointer_at : (l m : Lexeme) → (t : OneType [] l) → Is (codes "&") m → IsParam (l ∷ m ∷ []) (record { kind = t.kind; pointer = true })
pointer_at l m t same = pointer (l ∷ m ∷ []) (l ∷ []) m t.kind refl t.is same

one_small : (quoted : List (List ℕ)) (l : Lexeme) (t : OneType quoted l) → written_positions t.kind ≤ 256
one_small quoted l t = omega (arith, t.one)

params_of : (ws : List Lexeme) → is_params (plain_words ws) ≡ true → AreSpelled ws → ParamsOf ws
params_of [] e s = absurd (true≢false (sym e))
params_of (a ∷ []) e s = absurd (true≢false (sym e))
params_of (a ∷ b ∷ []) e s =
    let q = and_parts (is_free [] (plain_name a.bytes)) (bytes_eq (codes ")") (plain_name b.bytes)) e in
    let t = type_at a s.0 q.0 in
    record {
      inner = a ∷ [];
      right = b;
      ps = record { kind = t.kind; pointer = false } ∷ [];
      split = refl;
      are = params (a ∷ []) (record { kind = t.kind; pointer = false }) [] (last (a ∷ []) (record { kind = t.kind; pointer = false }) (by_value_at a t));
      closes = mark_at (codes ")") b refl refl q.1;
      small = (one_small [] a t, tt);
    }
params_of (a ∷ b ∷ c ∷ []) e s = absurd (true≢false (sym e))
params_of (a ∷ b ∷ c ∷ d ∷ []) e s = absurd (true≢false (sym e))
params_of (a ∷ b ∷ c ∷ d ∷ f ∷ []) e s =
    let q0 = and_parts (is_free [] (plain_name a.bytes)) _ e in
    let q1 = and_parts (bytes_eq (codes "&") (plain_name b.bytes)) _ q0.1 in
    let q2 = and_parts (bytes_eq (codes ",") (plain_name c.bytes)) _ q1.1 in
    let q3 = and_parts (is_free [] (plain_name d.bytes)) _ q2.1 in
    let t = type_at a s.0 q0.0 in
    let u = type_at d s.1.1.1.0 q3.0 in
    let p : WrittenParam = record { kind = t.kind; pointer = true } in
    let q : WrittenParam = record { kind = u.kind; pointer = false } in
    let inside : List Lexeme = a ∷ b ∷ c ∷ d ∷ [] in
    record {
      inner = inside;
      right = f;
      ps = p ∷ q ∷ [];
      split = refl;
      are = params inside p (q ∷ []) (next inside (a ∷ b ∷ []) (d ∷ []) c p (q ∷ []) refl (pointer_at a b t (mark_at (codes "&") b refl refl q1.0))
          (mark_at (codes ",") c refl refl q2.0) (last (d ∷ []) q (by_value_at d u)));
      closes = mark_at (codes ")") f refl refl q3.1;
      small = (one_small [] a t, (one_small [] d u, tt));
    }
params_of (a ∷ b ∷ c ∷ d ∷ f ∷ g ∷ []) e s = absurd (true≢false (sym e))
params_of (a ∷ b ∷ c ∷ d ∷ f ∷ g ∷ h ∷ []) e s =
    let q0 = and_parts (is_free [] (plain_name a.bytes)) _ e in
    let q1 = and_parts (bytes_eq (codes "&") (plain_name b.bytes)) _ q0.1 in
    let q2 = and_parts (bytes_eq (codes ",") (plain_name c.bytes)) _ q1.1 in
    let q3 = and_parts (is_free [] (plain_name d.bytes)) _ q2.1 in
    let q4 = and_parts (bytes_eq (codes ",") (plain_name f.bytes)) _ q3.1 in
    let q5 = and_parts (is_free [] (plain_name g.bytes)) _ q4.1 in
    let t = type_at a s.0 q0.0 in
    let u = type_at d s.1.1.1.0 q3.0 in
    let v = type_at g s.1.1.1.1.1.0 q5.0 in
    let p : WrittenParam = record { kind = t.kind; pointer = true } in
    let q : WrittenParam = record { kind = u.kind; pointer = false } in
    let r : WrittenParam = record { kind = v.kind; pointer = false } in
    let inside : List Lexeme = a ∷ b ∷ c ∷ d ∷ f ∷ g ∷ [] in
    record {
      inner = inside;
      right = h;
      ps = p ∷ q ∷ r ∷ [];
      split = refl;
      are = params inside p (q ∷ r ∷ []) (next inside (a ∷ b ∷ []) (d ∷ f ∷ g ∷ []) c p (q ∷ r ∷ []) refl (pointer_at a b t (mark_at (codes "&") b refl refl q1.0))
          (mark_at (codes ",") c refl refl q2.0) (next (d ∷ f ∷ g ∷ []) (d ∷ []) (g ∷ []) f q (r ∷ []) refl (by_value_at d u) (mark_at (codes ",") f refl refl q4.0)
          (last (g ∷ []) r (by_value_at g v))));
      closes = mark_at (codes ")") h refl refl q5.1;
      small = (one_small [] a t, (one_small [] d u, (one_small [] g v, tt)));
    }
params_of (a ∷ b ∷ c ∷ d ∷ f ∷ g ∷ h ∷ i ∷ ws) e s = absurd (true≢false (sym e))

abbrev quoted_in_result : List (List ℕ)
quoted_in_result = codes "void" ∷ codes "instance" ∷ []

abbrev is_result : List ℕ → Bool
is_result s = bytes_eq (codes "void") s || is_free quoted_in_result s

-- what a call gives
record ResultOf (l : Lexeme) : Type 0 where
  gives : Option WrittenType
  is : IsResult (codes "instance" ∷ []) (l ∷ []) gives
  small : AreSmall (option_to_list gives)

result_of : (l : Lexeme) → spells l.kind l.bytes ≡ true → is_result (plain_name l.bytes) ≡ true → ResultOf l
result_of l s e =
    elim (or_cases (bytes_eq (codes "void") (plain_name l.bytes)) (is_free quoted_in_result (plain_name l.bytes)) e) [
      | inl hit ↦ record { gives = None; is = void l (mark_at (codes "void") l refl refl hit); small = tt }
      | inr free ↦
          let t = type_by quoted_in_result l (plain_name l.bytes) refl refl s refl free in
          record { gives = Some t.kind; is = value (l ∷ []) t.kind t.is; small = (one_small quoted_in_result l t, tt) }
    ]

-- a result, a class, `::`, a name and parameters
abbrev pub is_ref : List (List ℕ) → Bool
is_ref (r ∷ c ∷ d ∷ n ∷ p ∷ rest) =
    is_result r && (is_free [] c && (bytes_eq (codes "::") d && (is_free (codes ".cctor" ∷ []) n && (bytes_eq (codes "(") p && is_params rest))))
is_ref _ = false

-- the method that these lexemes spell
pub record RefOf (ws : List Lexeme) : Type 0 where
  pub named : WrittenMethodRef
  pub is : IsMethodRef ws named
  pub small : AreSmall (types_of_method_ref named)

pub ref_of : (ws : List Lexeme) → is_ref (plain_words ws) ≡ true → AreSpelled ws → RefOf ws
ref_of [] e s = absurd (true≢false (sym e))
ref_of (a ∷ []) e s = absurd (true≢false (sym e))
ref_of (a ∷ b ∷ []) e s = absurd (true≢false (sym e))
ref_of (a ∷ b ∷ c ∷ []) e s = absurd (true≢false (sym e))
ref_of (a ∷ b ∷ c ∷ d ∷ []) e s = absurd (true≢false (sym e))
ref_of (a ∷ b ∷ c ∷ d ∷ f ∷ ws) e s =
    let q0 = and_parts (is_result (plain_name a.bytes)) _ e in
    let q1 = and_parts (is_free [] (plain_name b.bytes)) _ q0.1 in
    let q2 = and_parts (bytes_eq (codes "::") (plain_name c.bytes)) _ q1.1 in
    let q3 = and_parts (is_free (codes ".cctor" ∷ []) (plain_name d.bytes)) _ q2.1 in
    let q4 = and_parts (bytes_eq (codes "(") (plain_name f.bytes)) _ q3.1 in
    let r = result_of a s.0 q0.0 in
    let t = type_at b s.1.0 q1.0 in
    let n = free_name (codes ".cctor" ∷ []) d s.1.1.1.0 (plain_passes (is_free (codes ".cctor" ∷ [])) refl refl d.bytes (plain_name d.bytes) refl q3.0) in
    let p = params_of ws q4.1 s.1.1.1.1.1 in
    record {
      named = record { instance = false; result = r.gives; class = t.kind; name = d.bytes; args = []; params = p.ps };
      is = method_ref (a ∷ b ∷ c ∷ d ∷ f ∷ ws) [] (a ∷ []) (b ∷ []) [] p.inner c d f p.right false r.gives t.kind [] p.ps
          (ap (λ z. a ∷ b ∷ c ∷ d ∷ f ∷ z) p.split) not_written r.is t.is (mark_at (codes "::") c refl refl q2.0) n no_arguments
          (mark_at (codes "(") f refl refl q4.0) p.are p.closes;
      small = small-append (option_to_list r.gives ++ t.kind ∷ []) (types_of_params p.ps) (small-append (option_to_list r.gives) (t.kind ∷ []) r.small (one_small [] b t, tt)) p.small;
    }

-- the words of `NameOf` in front of a type
abbrev pub is_head : List (List ℕ) → Bool
is_head (r ∷ c ∷ d ∷ n ∷ p ∷ []) = is_result r && (is_free [] c && (bytes_eq (codes "::") d && (is_free (codes ".cctor" ∷ []) n && bytes_eq (codes "<") p)))
is_head _ = false

pub head_ref : (a b c d f : Lexeme) (inner : List Lexeme) (t : WrittenType) (g left right : Lexeme) → is_head (plain_words (a ∷ b ∷ c ∷ d ∷ f ∷ [])) ≡ true →
    AreSpelled (a ∷ b ∷ c ∷ d ∷ f ∷ []) → IsType [] inner t → written_positions t ≤ 256 → Is (codes ">") g → Is (codes "(") left → Is (codes ")") right →
    RefOf (a ∷ b ∷ c ∷ d ∷ f ∷ (inner ++ g ∷ left ∷ right ∷ []))
head_ref a b c d f inner t g left right e s is small closes opens ends =
    let q0 = and_parts (is_result (plain_name a.bytes)) _ e in
    let q1 = and_parts (is_free [] (plain_name b.bytes)) _ q0.1 in
    let q2 = and_parts (bytes_eq (codes "::") (plain_name c.bytes)) _ q1.1 in
    let q3 = and_parts (is_free (codes ".cctor" ∷ []) (plain_name d.bytes)) _ q2.1 in
    let r = result_of a s.0 q0.0 in
    let k = type_at b s.1.0 q1.0 in
    let n = free_name (codes ".cctor" ∷ []) d s.1.1.1.0 (plain_passes (is_free (codes ".cctor" ∷ [])) refl refl d.bytes (plain_name d.bytes) refl q3.0) in
    let args : List Lexeme = f ∷ inner ++ g ∷ [] in
    record {
      named = record { instance = false; result = r.gives; class = k.kind; name = d.bytes; args = t ∷ []; params = [] };
      is = method_ref (a ∷ b ∷ c ∷ d ∷ f ∷ (inner ++ g ∷ left ∷ right ∷ [])) [] (a ∷ []) (b ∷ []) args [] c d left right false r.gives k.kind (t ∷ []) []
          (ap (λ z. a ∷ b ∷ c ∷ d ∷ f ∷ z) (sym (append_assoc (inner ++ g ∷ []) (left ∷ []) (right ∷ []) ∙ append_assoc inner (g ∷ []) (left ∷ right ∷ [])))) not_written r.is k.is (mark_at (codes "::") c refl refl q2.0) n
          (arguments args inner f g (t ∷ []) refl (mark_at (codes "<") f refl refl q3.1) (last_type (codes ",") inner t is) closes) opens no_params ends;
      small = small-append (option_to_list r.gives ++ k.kind ∷ t ∷ []) [] (small-append (option_to_list r.gives) (k.kind ∷ t ∷ []) r.small (one_small [] b k, (small, tt))) tt;
    }
