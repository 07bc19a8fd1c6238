-- What is read as one type, as a name and as a list is that of the grammar.
use Rattle.std.proofs.Common.{◌≡◌, ℕ, zero, suc, ◌≤◌, Bool, true, false, List, [], ◌∷◌, ◌++◌, length, Ok, refl, sym, ap, subst, ◌∙◌, append_assoc, append-nil, arith, not, ◌&&◌, inl, inr, flat_map}
use Rattle.std.specs.List.{AllByRecursion}
use Rattle.std.proofs.lemmas.Bool.{true≢false, cases_Bool, and_parts}
use Rattle.il_text.specs.declared.token.TokenKind.{TokenKind}
use Rattle.il_text.specs.declared.token.TokenKind.TheVariants as token
use Rattle.il_model.specs.declared.written.WrittenName.{WrittenName}
use Rattle.il_model.specs.declared.written.WrittenType.{WrittenType}
use Rattle.il_model.specs.Lexemes.{Lexeme, IsName, is_among, name_at, Many, none, more, Separated, last, next}
use Rattle.il_model.specs.Bounds.{written_positions}
use Rattle.il_model.specs.Types.{IsType, AreTypes, last_type, next_type}
use Rattle.il_parse.specs.Reading.{Read, Reader, stuck_fault, read_name_but, is_word_kind, many_from, read_many, separated_from, read_separated}
use Rattle.il_parse.specs.Types.{read_type, read_type_within, most_positions, read_types}
use Rattle.il_parse.proofs.Steps.{Took, Sound, refusal, value_of, rest_of, bound, seen, there, absent}
use Rattle.il_parse.proofs.TypesSound.{FreeOf, no_quoted, type_within_sound}

-- a type that is read, within its limit
pub record IsSmallType (quoted : List (List ℕ)) (ws : List Lexeme) (t : WrittenType) : Type 0 where
  pub is : IsType quoted ws t
  pub small : written_positions t ≤ 256

pub type_sound : (quoted : List (List ℕ)) (ws : List Lexeme) (t : WrittenType) (back : List Lexeme) → FreeOf quoted ws → read_type ws ≡ Ok (t, back) →
    Took (IsSmallType quoted) ws t back
unfolding read_type
type_sound quoted ws t back free e =
    let b = bound (read_type_within most_positions most_positions ws) _ t back e in
    let g = type_within_sound most_positions most_positions quoted ws b.value b.mid free b.first in
    let is = value_of b.value.0 t b.mid back b.second in
    record {
      front = g.more;
      split = g.split ∙ ap (λ r. g.more ++ r) (rest_of b.value.0 t b.mid back b.second);
      holds = record { is = subst (IsType quoted g.more) is g.holds; small = subst (λ u. written_positions u ≤ 256) is (omega (arith, g.count)) };
    }

-- parts that were read behind those found
pub record Behind {A : Type 0} (P : List Lexeme → List A → Type 0) (found : List A) (ws : List Lexeme) (ys : List A) (back : List Lexeme) : Type 0 where
  pub front : List Lexeme
  pub items : List A
  pub split : ws ≡ front ++ back
  pub all : ys ≡ found ++ items
  pub holds : P front items

module _ {A : Type 0} (item : Reader A) (P : List Lexeme → A → Type 0) (sound : Sound item P) where
  separated_from_sound : (mark : List ℕ) (n : ℕ) (found : List A) (ws : List Lexeme) (ys : List A) (back : List Lexeme) →
      separated_from item mark n found ws ≡ Ok (ys, back) → Behind (Separated mark P) found ws ys back
  unfolding separated_from
  separated_from_sound mark zero found ws ys back e = refusal (stuck_fault ws) ys back e
  separated_from_sound mark (suc n) found ws ys back e =
      let b = bound (item ws) _ ys back e in
      let t = sound ws b.value b.mid b.first in
      elim (seen mark b.mid) [
        | there l rest split same hit behind ↦
            let m = separated_from_sound mark n (found ++ b.value ∷ []) rest ys back (rw (hit, behind) at b.second) in
            record {
              front = t.front ++ l ∷ m.front;
              items = b.value ∷ m.items;
              split = t.split ∙ ap (λ r. t.front ++ r) (split ∙ ap (λ r. l ∷ r) m.split) ∙ sym (append_assoc t.front (l ∷ m.front) back);
              all = m.all ∙ append_assoc found (b.value ∷ []) m.items;
              holds = next (t.front ++ l ∷ m.front) t.front m.front l b.value m.items refl t.holds same m.holds;
            }
        | absent miss stays ↦
            let e2 : (let r : Read (List A) = Ok (found ++ b.value ∷ [], b.mid) in r ≡ Ok (ys, back)) = rw (miss, stays) at b.second in
            record {
              front = t.front;
              items = b.value ∷ [];
              split = t.split ∙ ap (λ r. t.front ++ r) (rest_of (found ++ b.value ∷ []) ys b.mid back e2);
              all = sym (value_of (found ++ b.value ∷ []) ys b.mid back e2);
              holds = last t.front b.value t.holds;
            }
      ]

  pub separated_sound : (mark : List ℕ) → Sound (read_separated item mark) (Separated mark P)
  unfolding read_separated
  separated_sound mark ws ys back e =
      let m = separated_from_sound mark (length ws) [] ws ys back e in
      record { front = m.front; split = m.split; holds = subst (Separated mark P m.front) (sym m.all) m.holds }

  many_from_sound : (first : List ℕ) (n : ℕ) (found : List A) (ws : List Lexeme) (ys : List A) (back : List Lexeme) →
      many_from item first n found ws ≡ Ok (ys, back) → Behind (Many P) found ws ys back
  unfolding many_from
  many_from_sound first zero found ws ys back e =
      record { front = []; items = []; split = rest_of found ys ws back e; all = sym (value_of found ys ws back e) ∙ sym (append-nil found); holds = none }
  many_from_sound first (suc n) found ws ys back e =
      elim (seen first ws) [
        | there l rest split same hit behind ↦
            let b = bound (item ws) _ ys back (rw hit at e) in
            let t = sound ws b.value b.mid b.first in
            let m = many_from_sound first n (found ++ b.value ∷ []) b.mid ys back b.second in
            record {
              front = t.front ++ m.front;
              items = b.value ∷ m.items;
              split = t.split ∙ ap (λ r. t.front ++ r) m.split ∙ sym (append_assoc t.front m.front back);
              all = m.all ∙ append_assoc found (b.value ∷ []) m.items;
              holds = more (t.front ++ m.front) t.front m.front b.value m.items refl t.holds m.holds;
            }
        | absent miss stays ↦
            let e2 : (let r : Read (List A) = Ok (found, ws) in r ≡ Ok (ys, back)) = rw miss at e in
            record { front = []; items = []; split = rest_of found ys ws back e2; all = sym (value_of found ys ws back e2) ∙ sym (append-nil found); holds = none }
      ]

  pub many_sound : (first : List ℕ) → Sound (read_many item first) (Many P)
  unfolding read_many
  many_sound first ws ys back e =
      let m = many_from_sound first (length ws) [] ws ys back e in
      record { front = m.front; split = m.split; holds = subst (Many P m.front) (sym m.all) m.holds }

-- a name that is read
pub record NameRead (quoted : List (List ℕ)) (ws : List Lexeme) (name : WrittenName) (back : List Lexeme) : Type 0 where
  pub token : Lexeme
  pub split : ws ≡ token ∷ back
  pub is : IsName quoted token
  pub at : name ≡ name_at token

is_word : (k : TokenKind) → is_word_kind k ≡ true → k ≡ token.Word
is_word token.Word e = refl
is_word token.Variable e = absurd (true≢false (sym e))
is_word token.Number e = absurd (true≢false (sym e))
is_word token.Text e = absurd (true≢false (sym e))
is_word token.Mark e = absurd (true≢false (sym e))

is_free : (b : Bool) → not b ≡ true → b ≡ false
is_free true e = absurd (true≢false (sym e))
is_free false e = refl

pub name_sound : (quoted : List (List ℕ)) (ws : List Lexeme) (name : WrittenName) (back : List Lexeme) → read_name_but quoted ws ≡ Ok (name, back) →
    NameRead quoted ws name back
unfolding read_name_but
name_sound quoted [] name back e = refusal (stuck_fault []) name back e
name_sound quoted (l ∷ ws) name back e =
    elim (cases_Bool (is_word_kind l.kind && not (is_among quoted l.bytes))) [
      | inl hit ↦
          let parts = and_parts (is_word_kind l.kind) (not (is_among quoted l.bytes)) hit in
          let e2 : (let r : Read WrittenName = Ok (name_at l, ws) in r ≡ Ok (name, back)) = rw hit at e in
          record {
            token = l;
            split = ap (λ r. l ∷ r) (rest_of (name_at l) name ws back e2);
            is = record { word = is_word l.kind parts.0; free = is_free (is_among quoted l.bytes) parts.1 };
            at = sym (value_of (name_at l) name ws back e2);
          }
      | inr miss ↦ refusal (stuck_fault (l ∷ ws)) name back (rw miss at e)
    ]

-- types within the limit
abbrev pub AreSmall : List WrittenType → Type 0
AreSmall ts = AllByRecursion (λ t. written_positions t ≤ 256) ts

-- what is in a relation, and whose types are within the limit
pub record IsBoth {A : Type 0} (P : List Lexeme → A → Type 0) (types : A → List WrittenType) (ws : List Lexeme) (x : A) : Type 0 where
  pub is : P ws x
  pub small : AreSmall (types x)

pub small-append : (ts us : List WrittenType) → AreSmall ts → AreSmall us → AreSmall (ts ++ us)
small-append [] us a b = b
small-append (t ∷ ts) us a b = (a.0, small-append ts us a.1 b)

module _ {A : Type 0} (P : List Lexeme → A → Type 0) (types : A → List WrittenType) where
  pub separated_small : (mark : List ℕ) (ws : List Lexeme) (xs : List A) → Separated mark (IsBoth P types) ws xs → IsBoth (Separated mark P) (flat_map types) ws xs
  separated_small mark ws xs (last same x p) = record { is = last ws x p.is; small = small-append (types x) [] p.small tt }
  separated_small mark ws xs (next same front back l x rest split p m s) =
      let r = separated_small mark back rest s in
      record { is = next ws front back l x rest split p.is m r.is; small = small-append (types x) (flat_map types rest) p.small r.small }

  pub many_small : (ws : List Lexeme) (xs : List A) → Many (IsBoth P types) ws xs → IsBoth (Many P) (flat_map types) ws xs
  many_small ws xs none = record { is = none; small = tt }
  many_small ws xs (more same front back x rest split p s) =
      let r = many_small back rest s in
      record { is = more ws front back x rest split p.is r.is; small = small-append (types x) (flat_map types rest) p.small r.small }

separated_types : (mark : List ℕ) (ws : List Lexeme) (ts : List WrittenType) → Separated mark (IsSmallType []) ws ts → IsBoth (AreTypes mark) (λ us. us) ws ts
separated_types mark ws ts (last same t p) = record { is = last_type mark ws t p.is; small = (p.small, tt) }
separated_types mark ws ts (next same front back l t rest split p m s) =
    let r = separated_types mark back rest s in
    record { is = next_type mark ws front back l t rest split p.is m r.is; small = (p.small, r.small) }

pub types_sound : (mark : List ℕ) → Sound (read_types mark) (IsBoth (AreTypes mark) (λ ts. ts))
unfolding read_types
types_sound mark ws ts back e =
    let s = separated_sound read_type (IsSmallType []) (λ inside t rest f. type_sound [] inside t rest (no_quoted inside) f) mark ws ts back e in
    record { front = s.front; split = s.split; holds = separated_types mark s.front ts s.holds }
