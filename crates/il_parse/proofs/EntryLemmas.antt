-- The first method with an entry point, class by class.
use Rattle.std.proofs.Common.{◌≡◌, ◌∙◌, ℕ, ◌+◌, ◌<◌, ◌≤◌, drop, slice_index_or, Bool, true, false, if◌then◌else◌, List, [], ◌∷◌, ◌++◌, length, map, flat_map, Option, Some, None, is_some, option_and_then, Ok, append_assoc, refl, sym, ap, arith}
use Rattle.std.specs.Prelude.{option_to_list}
use Rattle.std.proofs.Math.ListN.{drop_of_length-le}
use Rattle.il_model.specs.declared.written.WrittenBody.{WrittenBody}
use Rattle.il_model.specs.declared.written.WrittenMethod.{WrittenMethod}
use Rattle.il_model.specs.declared.written.WrittenMember.{WrittenMember}
use Rattle.il_model.specs.declared.written.WrittenClass.{WrittenClass}
use Rattle.il_model.specs.Bounds.{methods_of, all_methods}
use Rattle.il_model.specs.LookUp.{has_entry, entries_from}
use Rattle.il_parse.specs.NamedClasses.{has_entry_point, first_entry}
use Rattle.il_parse.specs.EntryPoints.{entry_from}
use Rattle.il_parse.proofs.EachLemmas.{seam}

abbrev entry_list : Option WrittenBody → List ℕ
entry_list o = flat_map (λ (b : WrittenBody). option_to_list b.entry) (option_to_list o)

-- a method has no entry point, or one
data Entry (places : List ℕ) (is : Bool) : Type 0 where
  none : places ≡ [] → is ≡ false → Entry places is
  one : (at : ℕ) → places ≡ at ∷ [] → is ≡ true → Entry places is

of_place : (e : Option ℕ) → Entry (option_to_list e ++ []) (is_some e)
of_place None = none refl refl
of_place (Some at) = one at refl refl

of_body : (o : Option WrittenBody) → Entry (entry_list o) (is_some (option_and_then (λ b. b.entry) o))
of_body None = none refl refl
of_body (Some b) = of_place b.entry

of_method : (m : WrittenMethod) → Entry (has_entry m) (has_entry_point m)
of_method m = of_body m.body

-- the first entry point is that of the method that was found
pub found_first : (n k p : ℕ) (ms : List WrittenMethod) (rest : List ℕ) → entry_from k ms ≡ Some p → first_entry (entries_from (n + k) ms ++ rest) ≡ Ok (n + p)
found_first n k p [] rest e = absurd cc
found_first n k p (m ∷ ms) rest e = by (of_method m) (found_first n (k + 1) p ms rest)
  where
    by : Entry (has_entry m) (has_entry_point m) → (entry_from (k + 1) ms ≡ Some p → first_entry (entries_from (n + (k + 1)) ms ++ rest) ≡ Ok (n + p)) →
        first_entry ((map (λ at. n + k) (has_entry m) ++ entries_from (n + k + 1) ms) ++ rest) ≡ Ok (n + p)
    by (none places is) later =
        let more : entry_from (k + 1) ms ≡ Some p = sym (ap (λ b. if b then Some k else entry_from (k + 1) ms) is) ∙ e in
        let same : n + k + 1 ≡ n + (k + 1) = omega arith in
        ap (λ ps. first_entry ((map (λ at. n + k) ps ++ entries_from (n + k + 1) ms) ++ rest)) places
        ∙ ap (λ x. first_entry (entries_from x ms ++ rest)) same ∙ later more
    by (one at places is) later =
        let here : Some k ≡ Some p = sym (ap (λ b. if b then Some k else entry_from (k + 1) ms) is) ∙ e in
        let same : k ≡ p = cc in
        ap (λ ps. first_entry ((map (λ at. n + k) ps ++ entries_from (n + k + 1) ms) ++ rest)) places
        ∙ ap (λ x. Ok (n + x)) same

-- where none was found there is no entry point
pub none_first : (n k : ℕ) (ms : List WrittenMethod) → entry_from k ms ≡ None → entries_from n ms ≡ []
none_first n k [] e = refl
none_first n k (m ∷ ms) e = by (of_method m) (none_first (n + 1) (k + 1) ms)
  where
    by : Entry (has_entry m) (has_entry_point m) → (entry_from (k + 1) ms ≡ None → entries_from (n + 1) ms ≡ []) →
        map (λ at. n) (has_entry m) ++ entries_from (n + 1) ms ≡ []
    by (none places is) later =
        let more : entry_from (k + 1) ms ≡ None = sym (ap (λ b. if b then Some k else entry_from (k + 1) ms) is) ∙ e in
        ap (λ ps. map (λ at. n) ps ++ entries_from (n + 1) ms) places ∙ later more
    by (one at places is) later =
        let here : Some k ≡ None = sym (ap (λ b. if b then Some k else entry_from (k + 1) ms) is) ∙ e in
        absurd cc

-- the entry points of methods and then of others
pub entries_append : (n : ℕ) (xs ys : List WrittenMethod) → entries_from n (xs ++ ys) ≡ entries_from n xs ++ entries_from (n + length xs) ys
entries_append n [] ys = let e : n ≡ n + 0 = omega arith in ap (λ k. entries_from k ys) e
entries_append n (x ∷ xs) ys =
    let e : n + 1 + length xs ≡ n + length (x ∷ xs) = omega arith in
    ap (λ es. map (λ at. n) (has_entry x) ++ es) (entries_append (n + 1) xs ys ∙ ap (λ k. entries_from (n + 1) xs ++ entries_from k ys) e)
    ∙ sym (append_assoc (map (λ at. n) (has_entry x)) (entries_from (n + 1) xs) (entries_from (n + length (x ∷ xs)) ys))

module _ (before : ℕ) (classes : List WrittenClass) (i : ℕ) where
  -- the first entry point among the classes from a place on is in the class there
  pub class_found : (place : ℕ) (c : WrittenClass) (members : List WrittenMember) → members ≡ c.members → i < length classes →
      c ≡ slice_index_or classes i c → Some place ≡ entry_from 0 (methods_of members) →
      first_entry (entries_from before (all_methods (drop i classes))) ≡ Ok (before + place)
  class_found place c members of inside is found =
      let here : entry_from 0 (methods_of c.members) ≡ Some place = ap (λ ms. entry_from 0 (methods_of ms)) (sym of) ∙ sym found in
      let from : before ≡ before + 0 = omega arith in
      ap (λ cs. first_entry (entries_from before (all_methods cs))) (seam classes i c inside is)
      ∙ ap first_entry (entries_append before (methods_of c.members) (all_methods (drop (i + 1) classes)))
      ∙ ap (λ n. first_entry (entries_from n (methods_of c.members) ++ entries_from (before + length (methods_of c.members)) (all_methods (drop (i + 1) classes)))) from
      ∙ found_first before 0 place (methods_of c.members) (entries_from (before + length (methods_of c.members)) (all_methods (drop (i + 1) classes))) here

  -- or the classes behind have it, whose methods are numbered from there on
  pub class_passed : (c : WrittenClass) (members : List WrittenMember) → members ≡ c.members → i < length classes →
      c ≡ slice_index_or classes i c → None ≡ entry_from 0 (methods_of members) →
      entries_from before (all_methods (drop i classes)) ≡ entries_from (before + length (methods_of members)) (all_methods (drop (i + 1) classes))
  class_passed c members of inside is found =
      let here : entry_from 0 (methods_of c.members) ≡ None = ap (λ ms. entry_from 0 (methods_of ms)) (sym of) ∙ sym found in
      ap (λ cs. entries_from before (all_methods cs)) (seam classes i c inside is)
      ∙ entries_append before (methods_of c.members) (all_methods (drop (i + 1) classes))
      ∙ ap (λ es. es ++ entries_from (before + length (methods_of c.members)) (all_methods (drop (i + 1) classes))) (none_first before 0 (methods_of c.members) here)
      ∙ ap (λ ms. entries_from (before + length (methods_of ms)) (all_methods (drop (i + 1) classes))) (sym of)

  pub classes_over : length classes ≤ i → entries_from before (all_methods (drop i classes)) ≡ []
  classes_over past = ap (λ cs. entries_from before (all_methods cs)) (drop_of_length-le classes past)
