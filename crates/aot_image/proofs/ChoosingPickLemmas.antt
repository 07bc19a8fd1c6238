-- Entries, and the picks that are kept of them.
use Rattle.std.proofs.Common.{◌≡◌, ◌∙◌, ℕ, ◌+◌, ◌<◌, ◌≤◌, Bool, true, false, cond, ◌&&◌, ◌||◌, List, [], ◌∷◌, ◌++◌, length, map, filter, refl, sym, ap, true≢false, arith}
use Rattle.std.specs.Prelude.{nat_eq, nat_le, slice_set}
use Rattle.std.specs.List.{list_any, list_all}
use Rattle.std.specs.Cmp.Lexicographic.{pointwise}
use Rattle.std.proofs.lemmas.Bool.{le-leb, leb-true}
use Rattle.std.proofs.lemmas.Bool.Decides.{Decides-eqb}
use Rattle.std.proofs.Common.{get_or}
use Rattle.std.proofs.lemmas.Option.{unwrap_or-slice_get}
use Rattle.std.proofs.lemmas.List.{map-append, get_or-set_same, get_or-set_other}
use Rattle.std.proofs.lemmas.List.Elements.{filter-append}
use Rattle.std.proofs.lemmas.List.Folds.{list_all-append}
use Rattle.indexmap.specs.IndexSet.{insert_key}
use Rattle.std.proofs.Common.{drop, slice_index_or, append_assoc, append-nil}
use Rattle.il_model.specs.declared.class.VarDef.{VarDef}
use Rattle.std.proofs.Math.ListN.{drop_of_length-le}
use Rattle.std.proofs.lemmas.List.{drop_more}
use Rattle.il_model.specs.declared.method.MethodDef.{MethodDef}
use Rattle.il_model.specs.declared.program.Program.{Program}
use Rattle.il_model.specs.declared.key.KeyPart.{KeyPart}
use Rattle.aot_image.specs.declared.choice_picks.Entry.{Entry}
use Rattle.aot_image.specs.ChoosingPicks.{Pick, pick_of, same_part, same_pick, with_pick, without_method, with_general_of, with_general, any_part}
use Rattle.aot_image.specs.ChoosingSame.{both, joined}
use Rattle.aot_image.specs.ChoosingRounds.{same_entry, round_of, is_live, pick_at, live_of, is_past, IsKept}

and_false : (b : Bool) → (b && false) ≡ false
and_false true = refl
and_false false = refl

-- ---- adding

nat_same : (a b : ℕ) → nat_eq a b ≡ true → a ≡ b
nat_same a b e = (Decides-eqb a b).0 e

nat_refl : (a : ℕ) → nat_eq a a ≡ true
nat_refl a = (Decides-eqb a a).1 refl

-- whether an entry is live, of the same method as one of the present round, says whether it is of this round
among_by : (m k p : Bool) (live : Bool) (rest : Bool) → (m ≡ true → live ≡ k) → ((m && (k && p)) || rest) ≡ (cond live ((m && p) || rest) rest)
among_by true k p live rest same = rw (same refl) (by k)
  where
    by : (k : Bool) → ((k && p) || rest) ≡ cond k (p || rest) rest
    by true = refl
    by false = refl
among_by false k p true rest same = refl
among_by false k p false rest same = refl

nat_swap : (a b : ℕ) → nat_eq a b ≡ nat_eq b a
nat_swap a b = by (nat_eq a b) refl (nat_eq b a) refl
  where
    by : (x : Bool) → nat_eq a b ≡ x → (y : Bool) → nat_eq b a ≡ y → x ≡ y
    by true e true f = refl
    by false e false f = refl
    by true e false f = absurd (true≢false (sym (ap (λ n. nat_eq n a) (sym (nat_same a b e)) ∙ nat_refl a) ∙ f))
    by false e true f = absurd (true≢false (sym (ap (λ n. nat_eq n b) (sym (nat_same b a f)) ∙ nat_refl b) ∙ e))

any_live : (b : Bool) (pick : Pick) (e : Entry) (es : List Entry) (rest : List Entry) →
    list_any (same_pick pick) (map pick_at (cond b (e ∷ rest) rest)) ≡ cond b (same_pick pick (pick_at e) || list_any (same_pick pick) (map pick_at rest)) (list_any (same_pick pick) (map pick_at rest))
any_live true pick e es rest = refl
any_live false pick e es rest = refl

-- an entry of the present round is there where its pick is kept
pub among_live : (rounds : List ℕ) (e : Entry) → is_live rounds e ≡ true → (es : List Entry) →
    list_any (same_entry e) es ≡ list_any (same_pick (pick_at e)) (live_of rounds es)
among_live rounds e live [] = refl
among_live rounds e live (x ∷ xs) =
    ap (λ r. same_entry e x || r) (among_live rounds e live xs)
    ∙ among_by (nat_eq e.method x.method) (nat_eq e.round x.round) (pointwise same_part e.parts x.parts) (is_live rounds x) (list_any (same_pick (pick_at e)) (live_of rounds xs))
    (λ same.
    let round : e.round ≡ round_of rounds x.method = nat_same e.round (round_of rounds e.method) live ∙ ap (round_of rounds) (nat_same e.method x.method same) in
    nat_swap x.round (round_of rounds x.method) ∙ ap (λ n. nat_eq n x.round) (sym round))
    ∙ sym (any_live (is_live rounds x) (pick_at e) x xs (filter (is_live rounds) xs))

live_push : (rounds : List ℕ) (es : List Entry) (e : Entry) → is_live rounds e ≡ true → live_of rounds (es ++ e ∷ []) ≡ live_of rounds es ++ pick_at e ∷ []
live_push rounds es e live =
    ap (map pick_at) (filter-append (is_live rounds) es (e ∷ []))
    ∙ ap (λ b. map pick_at (filter (is_live rounds) es ++ cond b (e ∷ []) [])) live
    ∙ map-append pick_at (filter (is_live rounds) es) (e ∷ [])

by_test : (rounds : List ℕ) (b : Bool) (es : List Entry) (e : Entry) → is_live rounds e ≡ true →
    live_of rounds (cond b es (es ++ e ∷ [])) ≡ cond b (live_of rounds es) (live_of rounds es ++ pick_at e ∷ [])
by_test rounds true es e live = refl
by_test rounds false es e live = live_push rounds es e live

-- an entry of the present round that is added adds its pick
pub added_is : (rounds : List ℕ) (es : List Entry) (e : Entry) → is_live rounds e ≡ true →
    live_of rounds (insert_key same_entry es e) ≡ with_pick (live_of rounds es) (pick_at e)
added_is rounds es e live =
    by_test rounds (list_any (same_entry e) es) es e live
    ∙ ap (λ b. cond b (live_of rounds es) (live_of rounds es ++ pick_at e ∷ [])) (among_live rounds e live es)

le_self : (n : ℕ) → nat_le n n ≡ true
le_self n = le-leb n n (omega arith)

live_is_past : (rounds : List ℕ) (e : Entry) → is_live rounds e ≡ true → is_past rounds e ≡ true
live_is_past rounds e live = ap (λ n. nat_le n (round_of rounds e.method)) (nat_same e.round (round_of rounds e.method) live) ∙ le_self (round_of rounds e.method)

kept_by : (rounds : List ℕ) (b : Bool) (es : List Entry) (e : Entry) → is_past rounds e ≡ true → list_all (is_past rounds) es ≡ true →
    list_all (is_past rounds) (cond b es (es ++ e ∷ [])) ≡ true
kept_by rounds true es e past all = all
kept_by rounds false es e past all = list_all-append (is_past rounds) es (e ∷ []) ∙ joined _ _ all (joined _ _ past refl)

pub added_keeps : (rounds : List ℕ) (es : List Entry) (e : Entry) → is_live rounds e ≡ true → IsKept rounds es → IsKept rounds (insert_key same_entry es e)
added_keeps rounds es e live kept = record { past = kept_by rounds (list_any (same_entry e) es) es e (live_is_past rounds e live) kept.past }

-- ---- taking away

-- the round of another method stays, and that of this one goes up
pub round_set : (rounds : List ℕ) (method round other : ℕ) → method < length rounds →
    round_of (slice_set rounds method round) other ≡ cond (nat_eq other method) round (round_of rounds other)
round_set rounds method round other within = unwrap_or-slice_get (slice_set rounds method round) other 0 ∙ by (nat_eq other method) refl
  where
    by : (b : Bool) → nat_eq other method ≡ b → get_or (slice_set rounds method round) other 0 ≡ cond b round (round_of rounds other)
    by true e = ap (λ k. get_or (slice_set rounds method round) k 0) (nat_same other method e) ∙ get_or-set_same rounds method round 0 within
    by false e =
        get_or-set_other rounds method other round 0 (λ same. true≢false (sym ((Decides-eqb other method).1 same) ∙ e))
        ∙ sym (unwrap_or-slice_get rounds other 0)

not_later : (a b : ℕ) → a < b → nat_eq a b ≡ false
not_later a b less = by (nat_eq a b) refl
  where
    by : (r : Bool) → nat_eq a b ≡ r → r ≡ false
    by true e = let same : a ≡ b = nat_same a b e in absurd omega arith
    by false e = refl

module _ (rounds : List ℕ) (method round : ℕ) (within : method < length rounds) (more : round_of rounds method < round) where
  abbrev later : List ℕ
  later = slice_set rounds method round

  -- an entry is live behind that where it was, and is of another method
  live_later : (x : Entry) → is_past rounds x ≡ true → is_live later x ≡ cond (nat_eq x.method method) false (is_live rounds x)
  live_later x past = ap (nat_eq x.round) (round_set rounds method round x.method within) ∙ by (nat_eq x.method method) refl
    where
      by : (b : Bool) → nat_eq x.method method ≡ b → nat_eq x.round (cond b round (round_of rounds x.method)) ≡ cond b false (is_live rounds x)
      by true e =
          let below : x.round ≤ round_of rounds x.method = leb-true x.round (round_of rounds x.method) past in
          let same : round_of rounds x.method ≡ round_of rounds method = ap (round_of rounds) (nat_same x.method method e) in
          not_later x.round round (omega arith)
      by false e = refl

  past_later : (x : Entry) → is_past rounds x ≡ true → is_past later x ≡ true
  past_later x past = ap (nat_le x.round) (round_set rounds method round x.method within) ∙ by (nat_eq x.method method) refl
    where
      by : (b : Bool) → nat_eq x.method method ≡ b → nat_le x.round (cond b round (round_of rounds x.method)) ≡ true
      by true e =
          let below : x.round ≤ round_of rounds x.method = leb-true x.round (round_of rounds x.method) past in
          let same : round_of rounds x.method ≡ round_of rounds method = ap (round_of rounds) (nat_same x.method method e) in
          le-leb x.round round (omega arith)
      by false e = past

  one_less : (b live : Bool) (x : Entry) (new old : List Entry) → nat_eq x.method method ≡ b → map pick_at new ≡ without_method method (map pick_at old) →
      map pick_at (cond (cond b false live) (x ∷ new) new) ≡ without_method method (map pick_at (cond live (x ∷ old) old))
  one_less true true x new old e rest = rw e rest
  one_less true false x new old e rest = rest
  one_less false true x new old e rest = rw e (ap (λ ps. pick_at x ∷ ps) rest)
  one_less false false x new old e rest = rest

  taken : (es : List Entry) → list_all (is_past rounds) es ≡ true → live_of later es ≡ without_method method (live_of rounds es)
  taken [] past = refl
  taken (x ∷ xs) past =
      let each = both (is_past rounds x) _ past in
      ap (λ b. map pick_at (cond b (x ∷ filter (is_live later) xs) (filter (is_live later) xs))) (live_later x each.0)
      ∙ one_less (nat_eq x.method method) (is_live rounds x) x (filter (is_live later) xs) (filter (is_live rounds) xs) refl (taken xs each.1)

  all_past : (es : List Entry) → list_all (is_past rounds) es ≡ true → list_all (is_past later) es ≡ true
  all_past [] past = refl
  all_past (x ∷ xs) past = let each = both (is_past rounds x) _ past in joined _ _ (past_later x each.0) (all_past xs each.1)

  -- a later round of a method takes its picks away
  pub taken_is : (es : List Entry) → IsKept rounds es → live_of later es ≡ without_method method (live_of rounds es)
  taken_is es kept = taken es kept.past

  pub taken_keeps : (es : List Entry) → IsKept rounds es → IsKept later es
  taken_keeps es kept = record { past = all_past es kept.past }

-- ---- the general picks of all methods

-- what the general picks of the methods still to come give is what those of all give
pub record AddsGeneral (program : Program) (methods : List MethodDef) (i : ℕ) (old : List Pick) (rounds : List ℕ) (entries : List Entry) : Type 0 where
  pub left : with_general program 0 methods old ≡ with_general program i (drop i methods) (live_of rounds entries)
  pub kept : IsKept rounds entries
  pub count : length rounds ≡ length program.methods

-- one method more
pub general_next : (program : Program) (methods : List MethodDef) (i : ℕ) (m : MethodDef) (picks : List Pick) → i < length methods → m ≡ slice_index_or methods i m →
    with_general program i (drop i methods) picks ≡ with_general program (i + 1) (drop (i + 1) methods) (with_general_of program i m picks)
general_next program methods i m picks inside is =
    ap (λ ms. with_general program i ms picks) (drop_more methods i m inside) ∙ ap (λ x. with_general program (i + 1) (drop (i + 1) methods) (with_general_of program i x picks)) (sym is)

pub general_end : (program : Program) (methods : List MethodDef) (i : ℕ) (picks : List Pick) → length methods ≤ i → with_general program i (drop i methods) picks ≡ picks
general_end program methods i picks past = ap (λ ms. with_general program i ms picks) (drop_of_length-le methods past)

pub adds_first : (program : Program) (methods : List MethodDef) (rounds : List ℕ) (entries : List Entry) → IsKept rounds entries → length rounds ≡ length program.methods →
    AddsGeneral program methods 0 (live_of rounds entries) rounds entries
adds_first program methods rounds entries kept count = record { left = refl; kept = kept; count = count }

module _ (program : Program) (methods : List MethodDef) (i : ℕ) (old : List Pick) (rounds : List ℕ) (entries : List Entry) (adds : AddsGeneral program methods i old rounds entries) where
  pub adds_more : (m : MethodDef) (new_rounds : List ℕ) (new_entries : List Entry) → i < length methods → m ≡ slice_index_or methods i m →
      live_of new_rounds new_entries ≡ with_general_of program i m (live_of rounds entries) → IsKept new_rounds new_entries → length new_rounds ≡ length rounds →
      AddsGeneral program methods (i + 1) old new_rounds new_entries
  adds_more m new_rounds new_entries inside is live kept count = record {
    left = adds.left ∙ general_next program methods i m (live_of rounds entries) inside is ∙ ap (with_general program (i + 1) (drop (i + 1) methods)) (sym live);
    kept = kept;
    count = count ∙ adds.count;
  }

  pub adds_all : length methods ≤ i → live_of rounds entries ≡ with_general program 0 methods old
  adds_all past = sym (adds.left ∙ general_end program methods i (live_of rounds entries) past)

-- the parts for the variables of a class, and those for the variables of a method
pub general_parts : (xs ys : List VarDef) → map any_part xs ++ map any_part ys ≡ map any_part (xs ++ ys)
general_parts xs ys = sym (map-append any_part xs ys)

-- ---- no entries, and one after another

pub none_live : (rounds : List ℕ) (entries : List Entry) → entries ≡ [] → live_of rounds entries ≡ []
none_live rounds entries none = ap (live_of rounds) none

pub none_kept : (rounds : List ℕ) (entries : List Entry) → entries ≡ [] → IsKept rounds entries
none_kept rounds entries none = record { past = ap (list_all (is_past rounds)) none }

pub put_live : (rounds : List ℕ) (e : Entry) (kept new : List Pick) → is_live rounds e ≡ true → new ≡ kept ++ pick_of e.method e.parts ∷ [] → new ≡ kept ++ live_of rounds (e ∷ [])
put_live rounds e kept new live is = is ∙ ap (λ b. kept ++ map pick_at (cond b (e ∷ []) [])) (sym live)

pub skip_dead : (rounds : List ℕ) (e : Entry) (kept : List Pick) → is_live rounds e ≡ false → kept ≡ kept ++ live_of rounds (e ∷ [])
skip_dead rounds e kept dead = sym (append-nil kept) ∙ ap (λ b. kept ++ map pick_at (cond b (e ∷ []) [])) (sym dead)

-- the first entry, and those behind it
pub live_next : (rounds : List ℕ) (e : Entry) (es : List Entry) (kept whole : List Pick) → kept ++ live_of rounds (e ∷ es) ≡ whole →
    (kept ++ live_of rounds (e ∷ [])) ++ live_of rounds es ≡ whole
live_next rounds e es kept whole is =
    append_assoc kept (live_of rounds (e ∷ [])) (live_of rounds es) ∙ ap (λ ps. kept ++ ps) (by (is_live rounds e)) ∙ is
  where
    by : (b : Bool) → map pick_at (cond b (e ∷ []) []) ++ live_of rounds es ≡ map pick_at (cond b (e ∷ filter (is_live rounds) es) (filter (is_live rounds) es))
    by true = refl
    by false = refl

-- lists of different lengths
pub parts_apart : (xs ys : List KeyPart) → (length xs ≡ length ys → ⊥) → pointwise same_part xs ys ≡ false
parts_apart [] [] apart = absurd (apart refl)
parts_apart [] (y ∷ ys) apart = refl
parts_apart (x ∷ xs) [] apart = refl
parts_apart (x ∷ xs) (y ∷ ys) apart =
    ap (λ b. same_part x y && b) (parts_apart xs ys (λ same. let more : length (x ∷ xs) ≡ length (y ∷ ys) = omega (arith, same) in apart more)) ∙ and_false (same_part x y)

-- a round that is that of its method
pub live_now : (rounds : List ℕ) (e : Entry) → e.round ≡ round_of rounds e.method → is_live rounds e ≡ true
live_now rounds e is = (Decides-eqb e.round (round_of rounds e.method)).1 is
