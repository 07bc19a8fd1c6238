-- What is read as parameters and type variables is that of the grammar, within the limits.
use Rattle.std.proofs.Common.{◌≡◌, ℕ, zero, suc, ◌≤◌, Bool, true, false, List, [], ◌∷◌, ◌++◌, length, Option, Some, None, Ok, refl, sym, ap, subst, ◌∙◌, append_assoc, bytes_eq, codes, arith, inl, inr, flat_map, option_to_list}
use Rattle.std.proofs.lemmas.Bool.{or_from, cases_Bool}
use Rattle.il_model.specs.declared.written.WrittenType.{WrittenType}
use Rattle.il_model.specs.declared.written.WrittenParam.{WrittenParam}
use Rattle.il_model.specs.declared.written.WrittenVar.{WrittenVar}
use Rattle.il_model.specs.Lexemes.{Lexeme, Is, is_among, name_at, Separated, last, next, IsOptional, absent as not_written, present}
use Rattle.il_model.specs.Bounds.{types_of_params, types_of_vars}
use Rattle.il_model.specs.Types.{IsResult, void, value, IsParam, by_value, pointer, AreParams, no_params, params, AreArguments, no_arguments, arguments, IsVar, unbounded, bounded, AreVars, no_vars, vars}
use Rattle.il_model.specs.Members.{unless_read}
use Rattle.il_parse.specs.declared.fault.ParseCause.TheVariants as cause
use Rattle.il_parse.specs.Reading.{Read, Reader, stuck_fault, fault_at, expect, read_name_but, read_name, read_separated, is_word_kind, sees, after}
use Rattle.il_parse.specs.Types.{read_type, read_types, read_result, read_param, read_params, read_enclosed, read_arguments, read_var, read_no_name, vars_from, read_vars}
use Rattle.il_parse.proofs.Steps.{Took, Sound, refusal, value_of, rest_of, bound, seen, Seen, there, absent, expected, joined, led}
use Rattle.il_parse.proofs.TypesSound.{FreeOf, no_quoted}
use Rattle.il_parse.proofs.ListsSound.{type_sound, separated_sound, separated_small, name_sound, AreSmall, IsBoth, types_sound}

pub free_more : (m : List ℕ) (quoted : List (List ℕ)) (ws : List Lexeme) → sees m ws ≡ false → FreeOf quoted ws → FreeOf (m ∷ quoted) ws
unfolding sees
free_more m quoted [] miss free = tt
free_more m quoted (l ∷ ws) miss free = or_from (bytes_eq m l.bytes) (is_among quoted l.bytes) miss free

-- a word that may stand in front
pub record Optional (m : List ℕ) (ws : List Lexeme) : Type 0 where
  pub is_there : Bool
  pub front : List Lexeme
  pub rest : List Lexeme
  pub split : ws ≡ front ++ rest
  pub holds : IsOptional m front is_there
  pub free : FreeOf (unless_read is_there m) rest
  pub seen_as : sees m ws ≡ is_there
  pub left : after m ws ≡ rest

optional_of : (m : List ℕ) (ws : List Lexeme) → Seen m ws → Optional m ws
optional_of m ws (there l rest split same hit behind) =
    record { is_there = true; front = l ∷ []; rest = rest; split = split; holds = present l same; free = no_quoted rest; seen_as = hit; left = behind }
optional_of m ws (absent miss stays) =
    record { is_there = false; front = []; rest = ws; split = refl; holds = not_written; free = free_more m [] ws miss (no_quoted ws); seen_as = miss; left = stays }

pub optional : (m : List ℕ) (ws : List Lexeme) → Optional m ws
optional m ws = optional_of m ws (seen m ws)

pub result_sound : (quoted : List (List ℕ)) (ws : List Lexeme) (r : Option WrittenType) (back : List Lexeme) → FreeOf quoted ws → read_result ws ≡ Ok (r, back) →
    Took (IsBoth (IsResult quoted) option_to_list) ws r back
unfolding read_result
result_sound quoted ws r back free e =
    elim (seen (codes "void") ws) [
      | there l rest split same hit behind ↦
          let e2 : (let x : Read (Option WrittenType) = Ok (None, rest) in x ≡ Ok (r, back)) = rw (hit, behind) at e in
          let P = IsBoth (IsResult quoted) option_to_list in
          record {
            front = l ∷ [];
            split = split ∙ ap (λ z. l ∷ z) (rest_of None r rest back e2);
            holds = subst (P (l ∷ [])) (value_of None r rest back e2) (record { is = void l same; small = tt });
          }
      | absent miss stays ↦
          let b = bound (read_type ws) _ r back (rw (miss, stays) at e) in
          let t = type_sound (codes "void" ∷ quoted) ws b.value b.mid (free_more (codes "void") quoted ws miss free) b.first in
          let P = IsBoth (IsResult quoted) option_to_list in
          record {
            front = t.front;
            split = t.split ∙ ap (λ z. t.front ++ z) (rest_of (Some b.value) r b.mid back b.second);
            holds = subst (P t.front) (value_of (Some b.value) r b.mid back b.second) (record { is = value t.front b.value t.holds.is; small = (t.holds.small, tt) });
          }
    ]

abbrev pub type_of_param : WrittenParam → List WrittenType
type_of_param p = p.kind ∷ []

pub param_sound : Sound read_param (IsBoth IsParam type_of_param)
unfolding read_param
param_sound ws p back e =
    let b = bound (read_type ws) _ p back e in
    let t = type_sound [] ws b.value b.mid (no_quoted ws) b.first in
    let P = IsBoth IsParam type_of_param in
    elim (seen (codes "&") b.mid) [
      | there l rest split same hit behind ↦
          let made : WrittenParam = record { kind = b.value; pointer = true } in
          let e2 : (let x : Read WrittenParam = Ok (made, rest) in x ≡ Ok (p, back)) = rw (hit, behind) at b.second in
          record {
            front = t.front ++ l ∷ [];
            split = joined ws t.front b.mid (l ∷ []) back t.split (split ∙ ap (λ z. l ∷ z) (rest_of made p rest back e2));
            holds = subst (P (t.front ++ l ∷ [])) (value_of made p rest back e2)
                (record { is = pointer (t.front ++ l ∷ []) t.front l b.value refl t.holds.is same; small = (t.holds.small, tt) });
          }
      | absent miss stays ↦
          let made : WrittenParam = record { kind = b.value; pointer = false } in
          let e2 : (let x : Read WrittenParam = Ok (made, b.mid) in x ≡ Ok (p, back)) = rw (miss, stays) at b.second in
          record {
            front = t.front;
            split = t.split ∙ ap (λ z. t.front ++ z) (rest_of made p b.mid back e2);
            holds = subst (P t.front) (value_of made p b.mid back e2) (record { is = by_value t.front b.value t.holds.is; small = (t.holds.small, tt) });
          }
    ]

some_params : (ws : List Lexeme) (ps : List WrittenParam) → Separated (codes ",") IsParam ws ps → AreParams ws ps
some_params ws ps (last same x p) = params ws x [] (last ws x p)
some_params ws ps (next same front back l x rest split p m s) = params ws x rest (next ws front back l x rest split p m s)

pub flat-singles : (ps : List WrittenParam) → flat_map type_of_param ps ≡ types_of_params ps
flat-singles [] = refl
flat-singles (p ∷ ps) = ap (λ ts. p.kind ∷ ts) (flat-singles ps)

-- parameters with `,` between them
pub param_list_sound : Sound (read_separated read_param (codes ",")) (IsBoth (Separated (codes ",") IsParam) types_of_params)
param_list_sound ws ps back e =
    let s = separated_sound read_param (IsBoth IsParam type_of_param) param_sound (codes ",") ws ps back e in
    let r = separated_small IsParam type_of_param (codes ",") s.front ps s.holds in
    record { front = s.front; split = s.split; holds = record { is = r.is; small = subst AreSmall (flat-singles ps) r.small } }

pub params_sound : Sound read_params (IsBoth AreParams types_of_params)
unfolding read_params
params_sound ws ps back e =
    elim (cases_Bool (sees (codes ")") ws)) [
      | inl hit ↦
          let e2 : (let x : Read (List WrittenParam) = Ok ([], ws) in x ≡ Ok (ps, back)) = rw hit at e in
          let P = IsBoth AreParams types_of_params in
          record { front = []; split = rest_of [] ps ws back e2; holds = subst (P []) (value_of [] ps ws back e2) (record { is = no_params; small = tt }) }
      | inr miss ↦
          let s = param_list_sound ws ps back (rw miss at e) in
          record { front = s.front; split = s.split; holds = record { is = some_params s.front ps s.holds.is; small = s.holds.small } }
    ]

-- what is read between `(` and `)`
pub record Enclosed {A : Type 0} (P : List Lexeme → A → Type 0) (ws : List Lexeme) (x : A) (back : List Lexeme) : Type 0 where
  pub left : Lexeme
  pub inner : List Lexeme
  pub right : Lexeme
  pub split : ws ≡ (left ∷ inner ++ right ∷ []) ++ back
  pub opens : Is (codes "(") left
  pub holds : P inner x
  pub closes : Is (codes ")") right

-- what was read before and what is enclosed behind it
pub enclosed_joined : {A : Type 0} {P : List Lexeme → A → Type 0} (ws before mid : List Lexeme) (x : A) (back : List Lexeme) → ws ≡ before ++ mid → (e : Enclosed P mid x back) →
    ws ≡ (before ++ e.left ∷ e.inner ++ e.right ∷ []) ++ back
enclosed_joined ws before mid x back split e =
    joined ws before mid (e.left ∷ e.inner ++ e.right ∷ []) back split e.split
    ∙ ap (λ z. z ++ back) (sym (append_assoc before (e.left ∷ e.inner) (e.right ∷ [])))

pub enclosed_sound : {A : Type 0} (item : Reader A) (P : List Lexeme → A → Type 0) → Sound item P → (ws : List Lexeme) (x : A) (back : List Lexeme) →
    read_enclosed item ws ≡ Ok (x, back) → Enclosed P ws x back
unfolding read_enclosed
enclosed_sound item P sound ws x back e =
    let a = bound (expect (codes "(") ws) _ x back e in
    let left = expected (codes "(") ws a.value a.mid a.first in
    let b = bound (item a.mid) _ x back a.second in
    let t = sound a.mid b.value b.mid b.first in
    let c = bound (expect (codes ")") b.mid) _ x back b.second in
    let right = expected (codes ")") b.mid c.value c.mid c.first in
    record {
      left = left.token;
      inner = t.front;
      right = right.token;
      split = led ws left.token a.mid (t.front ++ right.token ∷ []) back left.split
          (joined a.mid t.front b.mid (right.token ∷ []) back t.split (right.split ∙ ap (λ z. right.token ∷ z) (rest_of b.value x c.mid back c.second)));
      opens = left.same;
      holds = subst (P t.front) (value_of b.value x c.mid back c.second) t.holds;
      closes = right.same;
    }

pub arguments_sound : Sound read_arguments (IsBoth AreArguments (λ ts. ts))
unfolding read_arguments
arguments_sound ws ts back e =
    let P = IsBoth AreArguments (λ us. us) in
    elim (seen (codes "<") ws) [
      | there l rest split same hit behind ↦
          let b = bound (read_types (codes ",") rest) _ ts back (rw (hit, behind) at e) in
          let t = types_sound (codes ",") rest b.value b.mid b.first in
          let c = bound (expect (codes ">") b.mid) _ ts back b.second in
          let right = expected (codes ">") b.mid c.value c.mid c.first in
          record {
            front = l ∷ t.front ++ right.token ∷ [];
            split = led ws l rest (t.front ++ right.token ∷ []) back split
                (joined rest t.front b.mid (right.token ∷ []) back t.split (right.split ∙ ap (λ z. right.token ∷ z) (rest_of b.value ts c.mid back c.second)));
            holds = subst (P (l ∷ t.front ++ right.token ∷ [])) (value_of b.value ts c.mid back c.second) (record {
              is = arguments (l ∷ t.front ++ right.token ∷ []) t.front l right.token b.value refl same t.holds.is right.same;
              small = t.holds.small;
            });
          }
      | absent miss stays ↦
          let e2 : (let x : Read (List WrittenType) = Ok ([], ws) in x ≡ Ok (ts, back)) = rw (miss, stays) at e in
          record { front = []; split = rest_of [] ts ws back e2; holds = subst (P []) (value_of [] ts ws back e2) (record { is = no_arguments; small = tt }) }
    ]

abbrev pub bounds_of : WrittenVar → List WrittenType
bounds_of v = v.bounds

pub var_sound : Sound read_var (IsBoth IsVar bounds_of)
unfolding read_var read_name
var_sound ws v back e =
    let P = IsBoth IsVar bounds_of in
    let a = bound (read_name_but [] ws) _ v back e in
    let n = name_sound [] ws a.value a.mid a.first in
    elim (seen (codes ":") a.mid) [
      | there l rest split same hit behind ↦
          let b = bound (read_types (codes "&") rest) _ v back (rw (hit, behind) at a.second) in
          let t = types_sound (codes "&") rest b.value b.mid b.first in
          let made : WrittenVar = record { name = a.value; bounds = b.value } in
          let named : WrittenVar = record { name = name_at n.token; bounds = b.value } in
          let same_made : named ≡ v = ap (λ m. record { name = m; bounds = b.value }) (sym n.at) ∙ value_of made v b.mid back b.second in
          record {
            front = n.token ∷ l ∷ t.front;
            split = n.split ∙ ap (λ z. n.token ∷ z) (split ∙ ap (λ z. l ∷ z) (t.split ∙ ap (λ z. t.front ++ z) (rest_of made v b.mid back b.second)));
            holds = subst (P (n.token ∷ l ∷ t.front)) same_made (record { is = bounded n.token l t.front b.value n.is same t.holds.is; small = t.holds.small });
          }
      | absent miss stays ↦
          let made : WrittenVar = record { name = a.value; bounds = [] } in
          let named : WrittenVar = record { name = name_at n.token; bounds = [] } in
          let e2 : (let x : Read WrittenVar = Ok (made, a.mid) in x ≡ Ok (v, back)) = rw (miss, stays) at a.second in
          let same_made : named ≡ v = ap (λ m. record { name = m; bounds = [] }) (sym n.at) ∙ value_of made v a.mid back e2 in
          record {
            front = n.token ∷ [];
            split = n.split ∙ ap (λ z. n.token ∷ z) (rest_of made v a.mid back e2);
            holds = subst (P (n.token ∷ [])) same_made (record { is = unbounded n.token n.is; small = tt });
          }
    ]

no_name : {A C : Type 0} (ws : List Lexeme) (x : A) (back : List Lexeme) → read_no_name ws ≡ Ok (x, back) → C
no_name [] x back e = refusal (stuck_fault []) x back e
no_name (l ∷ ws) x back e =
    elim (cases_Bool (is_word_kind l.kind)) [
      | inl hit ↦ refusal (fault_at (l ∷ ws) cause.TooMany) x back (rw hit at e)
      | inr miss ↦ refusal (stuck_fault (l ∷ ws)) x back (rw miss at e)
    ]

-- so many type variables at most, behind those found
record SomeVars (most : ℕ) (found : List WrittenVar) (ws : List Lexeme) (ys : List WrittenVar) (back : List Lexeme) : Type 0 where
  front : List Lexeme
  items : List WrittenVar
  split : ws ≡ front ++ back
  all : ys ≡ found ++ items
  holds : Separated (codes ",") (IsBoth IsVar bounds_of) front items
  few : length items ≤ most

vars_from_sound : (n : ℕ) (found : List WrittenVar) (ws : List Lexeme) (ys : List WrittenVar) (back : List Lexeme) →
    vars_from n found ws ≡ Ok (ys, back) → SomeVars n found ws ys back
unfolding vars_from
vars_from_sound zero found ws ys back e = no_name ws ys back e
vars_from_sound (suc n) found ws ys back e =
    let b = bound (read_var ws) _ ys back e in
    let t = var_sound ws b.value b.mid b.first in
    elim (seen (codes ",") b.mid) [
      | there l rest split same hit behind ↦
          let m = vars_from_sound n (found ++ b.value ∷ []) rest ys back (rw (hit, behind) at b.second) in
          record {
            front = t.front ++ l ∷ m.front;
            items = b.value ∷ m.items;
            split = joined ws t.front b.mid (l ∷ m.front) back t.split (split ∙ ap (λ r. l ∷ r) m.split);
            all = m.all ∙ append_assoc found (b.value ∷ []) m.items;
            holds = next (t.front ++ l ∷ m.front) t.front m.front l b.value m.items refl t.holds same m.holds;
            few = omega (arith, m.few);
          }
      | absent miss stays ↦
          let e2 : (let r : Read (List WrittenVar) = Ok (found ++ b.value ∷ [], b.mid) in r ≡ Ok (ys, back)) = rw (miss, stays) at b.second in
          record {
            front = t.front;
            items = b.value ∷ [];
            split = t.split ∙ ap (λ r. t.front ++ r) (rest_of (found ++ b.value ∷ []) ys b.mid back e2);
            all = sym (value_of (found ++ b.value ∷ []) ys b.mid back e2);
            holds = last t.front b.value t.holds;
            few = omega arith;
          }
    ]

-- type variables, so many at most
pub record IsVars (most : ℕ) (ws : List Lexeme) (vs : List WrittenVar) : Type 0 where
  pub is : AreVars ws vs
  pub small : AreSmall (types_of_vars vs)
  pub few : length vs ≤ most

pub vars_sound : (most : ℕ) → Sound (read_vars most) (IsVars most)
unfolding read_vars
vars_sound most ws vs back e =
    elim (seen (codes "<") ws) [
      | there l rest split same hit behind ↦
          let b = bound (vars_from most [] rest) _ vs back (rw (hit, behind) at e) in
          let m = vars_from_sound most [] rest b.value b.mid b.first in
          let r = separated_small IsVar bounds_of (codes ",") m.front m.items m.holds in
          let c = bound (expect (codes ">") b.mid) _ vs back b.second in
          let right = expected (codes ">") b.mid c.value c.mid c.first in
          let whole : List Lexeme = l ∷ m.front ++ right.token ∷ [] in
          record {
            front = whole;
            split = led ws l rest (m.front ++ right.token ∷ []) back split
                (joined rest m.front b.mid (right.token ∷ []) back m.split (right.split ∙ ap (λ z. right.token ∷ z) (rest_of b.value vs c.mid back c.second)));
            holds = subst (IsVars most whole) (sym m.all ∙ value_of b.value vs c.mid back c.second)
                (record { is = vars whole m.front l right.token m.items refl same r.is right.same; small = r.small; few = m.few });
          }
      | absent miss stays ↦
          let e2 : (let x : Read (List WrittenVar) = Ok ([], ws) in x ≡ Ok (vs, back)) = rw (miss, stays) at e in
          record { front = []; split = rest_of [] vs ws back e2; holds = subst (IsVars most []) (value_of [] vs ws back e2) (record { is = no_vars; small = tt; few = omega arith }) }
    ]
