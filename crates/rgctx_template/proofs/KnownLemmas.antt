-- Keys that are compared by their entries, and a set to which they are added in turn.
use Rattle.std.proofs.Common.{◌≡◌, ◌∙◌, Bool, true, false, ◌||◌, cond, List, [], ◌∷◌, ◌++◌, map, ap, refl}
use Rattle.std.specs.List.{list_any}
use Rattle.std.proofs.lemmas.List.{map-append}
use Rattle.indexmap.specs.IndexSet.{insert_key}
use Rattle.il_model.specs.declared.entry.Entry.{Entry}
use Rattle.il_model.specs.Entries.{same_entry, is_listed}
use Rattle.rgctx_template.specs.Collected.{added}

module _ {K : Type 0} (entry_of : K → Entry) where
  pub any_key : (ks : List K) (e : Entry) → list_any (λ k. same_entry e (entry_of k)) ks ≡ is_listed (map entry_of ks) e
  any_key [] e = refl
  any_key (k ∷ ks) e = ap (λ b. same_entry e (entry_of k) || b) (any_key ks e)

  by_test : (b : Bool) (ks : List K) (k : K) → map entry_of (cond b ks (ks ++ k ∷ [])) ≡ cond b (map entry_of ks) (map entry_of ks ++ entry_of k ∷ [])
  by_test true ks k = refl
  by_test false ks k = map-append entry_of ks (k ∷ [])

  -- the set's entries are the list with the entry added
  pub inserted : (ks : List K) (k : K) →
      map entry_of (insert_key (λ a b. same_entry (entry_of a) (entry_of b)) ks k) ≡ added (map entry_of ks) (entry_of k)
  inserted ks k = ap (λ b. map entry_of (cond b ks (ks ++ k ∷ []))) (any_key ks (entry_of k)) ∙ by_test (is_listed (map entry_of ks) (entry_of k)) ks k
