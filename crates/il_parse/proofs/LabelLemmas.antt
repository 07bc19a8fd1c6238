-- The labels of a body, noted one after another.
use Rattle.std.proofs.Common.{◌≡◌, ℕ, ◌+◌, ◌<◌, Bool, true, false, cond, List, [], ◌∷◌, ◌++◌, drop, length, Option, Some, None, option_map, is_some, subst, refl, sym, ◌∙◌, ap, bytes_eq, slice_index_or}
use Rattle.std.specs.Option.{option_or}
use Rattle.std.specs.List.{find}
use Rattle.std.specs.Map.{lookup}
use Rattle.std.specs.Cmp.Lexicographic.{nat_list_eq_equiv, bytes_decides}
use Rattle.std.proofs.lemmas.Bool.{false≢true}
use Rattle.il_model.specs.declared.written.WrittenName.{WrittenName}
use Rattle.il_model.specs.declared.written.WrittenInstr.{WrittenInstr}
use Rattle.il_model.specs.declared.written.WrittenLine.{WrittenLine}
use Rattle.il_model.specs.declared.written.WrittenLine.TheVariants as line
use Rattle.il_model.specs.LookUp.{labels_from}
use Rattle.il_parse.specs.NamedBodies.{number_of_label}
use Rattle.il_parse.specs.Labels.{noted}
use Rattle.il_parse.proofs.EachLemmas.{seam}

-- the item at a place, known as this, in front of those behind it
pub item_as : {A : Type 0} (xs : List A) (i : ℕ) (x y : A) → i < length xs → x ≡ slice_index_or xs i x → x ≡ y → drop i xs ≡ y ∷ drop (i + 1) xs
item_as xs i x y inside read is = seam xs i x inside read ∙ ap (λ z. z ∷ drop (i + 1) xs) is

-- what was noted comes before this one, and this one before the rest
first_wins : (held : Option ℕ) (b : Bool) (name : List ℕ) (number : ℕ) (rest : Option (List ℕ × ℕ)) →
    option_or (option_or held (cond b (Some number) None)) (option_map (λ l. l.1) rest) ≡ option_or held (option_map (λ l. l.1) (cond b (Some (name, number)) rest))
first_wins None true name number rest = refl
first_wins None false name number rest = refl
first_wins (Some x) true name number rest = refl
first_wins (Some x) false name number rest = refl

pub label_noted : (held now : Option ℕ) (other : List ℕ) (lines : List WrittenLine) (i number : ℕ) (l : WrittenName) →
    drop i lines ≡ line.Label l ∷ drop (i + 1) lines → now ≡ noted held l.name number other →
    option_or now (number_of_label (labels_from number (drop (i + 1) lines)) other) ≡ option_or held (number_of_label (labels_from number (drop i lines)) other)
label_noted held now other lines i number l here is =
    let rest : List WrittenLine = drop (i + 1) lines in
    (λ j. option_or (is j) (number_of_label (labels_from number rest) other))
    ∙ first_wins held (bytes_eq l.name other) l.name number (find (λ k. bytes_eq k.0 other) (labels_from number rest))
    ∙ (λ j. option_or held (number_of_label (labels_from number (sym here j)) other))

pub instr_passed : (held : Option ℕ) (other : List ℕ) (lines : List WrittenLine) (i number : ℕ) (instr : WrittenInstr) →
    drop i lines ≡ line.Instr instr ∷ drop (i + 1) lines →
    option_or held (number_of_label (labels_from (number + 1) (drop (i + 1) lines)) other) ≡ option_or held (number_of_label (labels_from number (drop i lines)) other)
instr_passed held other lines i number instr here = λ j. option_or held (number_of_label (labels_from number (sym here j)) other)

module _ {K : Type 0} (test : K → Bool) where
  -- what one entry more finds
  pub found_behind : (es : List (K × ℕ)) (k : K) (v : ℕ) → lookup test (es ++ (k, v) ∷ []) ≡ option_or (lookup test es) (cond (test k) (Some v) None)
  found_behind [] k v = refl
  found_behind (e ∷ es) k v = ap (λ r. cond (test e.0) (Some e.1) r) (found_behind es k v) ∙ first (test e.0)
    where
      first : (b : Bool) → cond b (Some e.1) (option_or (lookup test es) (cond (test k) (Some v) None)) ≡ option_or (cond b (Some e.1) (lookup test es)) (cond (test k) (Some v) None)
      first true = refl
      first false = refl

-- a new name finds this number, and others what they found
pub new_noted : {K : Type 0} (items : K → List ℕ) (es : List (K × ℕ)) (k : K) (number : ℕ) (other : List ℕ) →
    lookup (λ k. bytes_eq other (items k)) (es ++ (k, number) ∷ []) ≡ noted (lookup (λ k. bytes_eq other (items k)) es) (items k) number other
new_noted items es k number other =
    found_behind (λ k. bytes_eq other (items k)) es k number
    ∙ (λ j. option_or (lookup (λ k. bytes_eq other (items k)) es) (cond (nat_list_eq_equiv.symm other (items k) j) (Some number) None))

or_none : (held : Option ℕ) → held ≡ option_or held None
or_none None = refl
or_none (Some x) = refl

kept_there : (held : Option ℕ) (number : ℕ) → is_some held ≡ true → held ≡ option_or held (Some number)
kept_there (Some x) number there = refl
kept_there None number there = absurd (false≢true there)

-- a name that is there keeps its number, and so do the others
module _ {K : Type 0} (items : K → List ℕ) (es : List (K × ℕ)) (name : List ℕ) (number : ℕ) (there : is_some (lookup (λ k. bytes_eq name (items k)) es) ≡ true)
    (other : List ℕ) where
  by_test : (b : Bool) → bytes_eq name other ≡ b →
      lookup (λ k. bytes_eq other (items k)) es ≡ option_or (lookup (λ k. bytes_eq other (items k)) es) (cond b (Some number) None)
  by_test false e = or_none (lookup (λ k. bytes_eq other (items k)) es)
  by_test true e =
      kept_there (lookup (λ k. bytes_eq other (items k)) es) number
      (subst (λ n. is_some (lookup (λ k. bytes_eq n (items k)) es) ≡ true) ((bytes_decides name other).0 e) there)

  pub none_noted : lookup (λ k. bytes_eq other (items k)) es ≡ noted (lookup (λ k. bytes_eq other (items k)) es) name number other
  none_noted = by_test (bytes_eq name other) refl

pub none_there : {A : Type 0} (o : Option A) → is_some o ≡ false → o ≡ None
none_there None absent = refl
none_there (Some x) absent = absurd (false≢true (sym absent))
