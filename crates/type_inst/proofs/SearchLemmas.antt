-- Searches from the front, one item at a time.
use Rattle.std.proofs.Common.{◌≡◌, ℕ, zero, suc, ◌+◌, ◌<◌, Bool, true, false, cond, List, [], ◌∷◌, ◌++◌, length, map, find, take, drop, get_or, Option, Some, None, option_map, refl, sym, ap, subst, ◌∙◌, append-nil, arith}
use Rattle.std.specs.Option.{option_or}
use Rattle.std.proofs.lemmas.List.{take_more, take-append-drop, map-append}
use Rattle.std.proofs.lemmas.List.Folds.{find-append}
use Rattle.std.proofs.lemmas.List.Concat.{flat_map-append}
use Rattle.type_tree.specs.declared.tree.TExpr.{TExpr}
use Rattle.il_model.specs.declared.program.Program.{Program}
use Rattle.il_model.specs.Found.{method_at}
use Rattle.il_model.specs.Signatures.{Signature}
use Rattle.il_model.specs.Slots.{own_methods_of, candidates, is_match, nearest_match}
use Rattle.type_inst.specs.Matching.{own_places, own_match, number_matched}

-- one item more at the front
pub front_more : {X : Type 0} (xs : List X) (i : ℕ) (x : X) → i < length xs → x ≡ get_or xs i x → take (i + 1) xs ≡ take i xs ++ x ∷ []
front_more xs i x inside is = take_more xs i x inside ∙ ap (λ y. take i xs ++ y ∷ []) (sym is)

-- within the list the default is not read
pub get_or_same : {X : Type 0} (xs : List X) (i : ℕ) (d e : X) → i < length xs → get_or xs i d ≡ get_or xs i e
get_or_same [] i d e inside = absurd (omega (arith, inside))
get_or_same (x ∷ xs) zero d e inside = refl
get_or_same (x ∷ xs) (suc i) d e inside = get_or_same xs i d e (omega (arith, inside))

-- a search that looks at one list and then at the next
module _ {X Y : Type 0} (search_in : List X → Option Y) (joins : (xs ys : List X) → search_in (xs ++ ys) ≡ option_or (search_in xs) (search_in ys)) where
  next_answer : (xs : List X) (i : ℕ) (x : X) → i < length xs → x ≡ get_or xs i x → search_in (take i xs) ≡ None →
      search_in (take (i + 1) xs) ≡ search_in (x ∷ [])
  next_answer xs i x inside is before =
      ap search_in (front_more xs i x inside is) ∙ joins (take i xs) (x ∷ []) ∙ ap (λ (o : Option Y). option_or o (search_in (x ∷ []))) before

  pub passed : (xs : List X) (i : ℕ) (x : X) → i < length xs → x ≡ get_or xs i x → search_in (take i xs) ≡ None → search_in (x ∷ []) ≡ None →
      search_in (take (i + 1) xs) ≡ None
  passed xs i x inside is before here = next_answer xs i x inside is before ∙ here

  pub reached : (xs : List X) (i : ℕ) (x : X) (y : Y) → i < length xs → x ≡ get_or xs i x → search_in (take i xs) ≡ None → search_in (x ∷ []) ≡ Some y →
      search_in xs ≡ Some y
  reached xs i x y inside is before here =
      ap search_in (sym (take-append-drop (i + 1) xs))
      ∙ joins (take (i + 1) xs) (drop (i + 1) xs)
      ∙ ap (λ (o : Option Y). option_or o (search_in (drop (i + 1) xs))) (next_answer xs i x inside is before ∙ here)

module _ {X : Type 0} (p : X → Bool) (items xs : List X) (same : items ≡ xs) (i : ℕ) (x : X) (inside : i < length items) (is : x ≡ get_or items i x) (before : find p (take i xs) ≡ None) where
  within : i < length xs
  within = subst (λ (ys : List X). i < length ys) same inside

  read : x ≡ get_or xs i x
  read = subst (λ (ys : List X). x ≡ get_or ys i x) same is

  pub find_passed : p x ≡ false → find p (take (i + 1) xs) ≡ None
  find_passed here = passed (find p) (find-append p) xs i x within read before (ap (λ (b : Bool). cond b (Some x) None) here)

  pub find_reached : p x ≡ true → find p xs ≡ Some x
  find_reached here = reached (find p) (find-append p) xs i x x within read before (ap (λ (b : Bool). cond b (Some x) None) here)

-- one mapped item more
pub map_more : {X Y : Type 0} (f : X → Y) (xs : List X) (i : ℕ) (x : X) → i < length xs → x ≡ get_or xs i x → map f (take (i + 1) xs) ≡ map f (take i xs) ++ f x ∷ []
map_more f xs i x inside is = ap (map f) (front_more xs i x inside is) ∙ map-append f (take i xs) (x ∷ [])

-- the number alone of what is found
abbrev pub number_in : Option (TExpr × ℕ) → Option ℕ
number_in o = option_map (λ c. c.1) o

number_of_either : (a b : Option (TExpr × ℕ)) → number_in (option_or a b) ≡ option_or (number_in a) (number_in b)
number_of_either (Some c) b = refl
number_of_either None b = refl

module _ (program : Program) (s : Signature) where
  one_case : (t : TExpr) (b : Bool) (n : ℕ) (r : Option (TExpr × ℕ)) (q : Option ℕ) → number_in r ≡ q → number_in (cond b (Some (t, n)) r) ≡ cond b (Some n) q
  one_case t true n r q e = refl
  one_case t false n r q e = e

  of_one : (t : TExpr) (numbers : List ℕ) →
      number_in (find (λ c. is_match s c.0 (method_at program c.1)) (map (λ number. (t, number)) numbers)) ≡ find (λ number. is_match s t (method_at program number)) numbers
  of_one t [] = refl
  of_one t (n ∷ ns) =
      one_case t (is_match s t (method_at program n)) n
      (find (λ c. is_match s c.0 (method_at program c.1)) (map (λ number. (t, number)) ns))
      (find (λ number. is_match s t (method_at program number)) ns)
      (of_one t ns)

  matched_joins : (xs ys : List TExpr) → number_matched program s (xs ++ ys) ≡ option_or (number_matched program s xs) (number_matched program s ys)
  matched_joins xs ys =
      ap (λ (cs : List (TExpr × ℕ)). number_in (find (λ c. is_match s c.0 (method_at program c.1)) cs)) (flat_map-append (own_places program) xs ys)
      ∙ ap number_in (find-append (λ (c : TExpr × ℕ). is_match s c.0 (method_at program c.1)) (candidates program xs) (candidates program ys))
      ∙ number_of_either (nearest_match program s xs) (nearest_match program s ys)

  matched_one : (t : TExpr) → number_matched program s (t ∷ []) ≡ own_match program s t
  matched_one t =
      ap (λ (cs : List (TExpr × ℕ)). number_in (find (λ c. is_match s c.0 (method_at program c.1)) cs)) (append-nil (own_places program t))
      ∙ of_one t (own_methods_of program t)

  pub matched_passed : (ts : List TExpr) (i : ℕ) (t : TExpr) → i < length ts → t ≡ get_or ts i t → number_matched program s (take i ts) ≡ None → own_match program s t ≡ None →
      number_matched program s (take (i + 1) ts) ≡ None
  matched_passed ts i t inside is before here = passed (number_matched program s) matched_joins ts i t inside is before (matched_one t ∙ here)

  pub matched_reached : (ts : List TExpr) (i : ℕ) (t : TExpr) (n : ℕ) → i < length ts → t ≡ get_or ts i t → number_matched program s (take i ts) ≡ None → own_match program s t ≡ Some n →
      number_matched program s ts ≡ Some n
  matched_reached ts i t n inside is before here = reached (number_matched program s) matched_joins ts i t n inside is before (matched_one t ∙ here)
