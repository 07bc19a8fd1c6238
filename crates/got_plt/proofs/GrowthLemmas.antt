-- An assembly with items put at its end, and places of its new labels, one step after the other.
use Rattle.std.proofs.Common.{◌≡◌, ℕ, ◌+◌, ◌-◌, List, ◌++◌, length, Option, Some, slice_set, append_assoc, refl, ap, ◌∙◌, arith}
use Rattle.std.proofs.lemmas.List.{set-append_right}
use Rattle.std.proofs.lemmas.List.Sums.{sum_by-append}
use Rattle.rv_isa.specs.declared.item.Item.{Item}
use Rattle.rv_isa.specs.Assembly.{Assembly, item_len, word_count, with_place}
use Rattle.got_plt.specs.Fetches.{with_items}
use Rattle.got_plt.specs.Labels.{grown}

abbrev pub of : List Item → List (Option ℕ) → Assembly
of items places = record { items = items; places = places }

-- more items
pub grown-items : (old now new : Assembly) (items more : List Item) (places : List (Option ℕ)) → now ≡ grown old items places → new ≡ with_items now more → new ≡ grown old (items ++ more) places
grown-items old now new items more places is then_is =
    then_is
    ∙ ap (λ (a : Assembly). with_items a more) is
    ∙ ap (λ (xs : List Item). of xs (old.places ++ places)) (append_assoc old.items items more)

-- one of the labels gets its place
pub grown-place : (old now new : Assembly) (items : List Item) (places : List (Option ℕ)) (k number : ℕ) → now ≡ grown old items places → number ≡ length old.places + k → new ≡ with_place now number
    → new ≡ grown old items (slice_set places k (Some (word_count old.items + word_count items)))
grown-place old now new items places k number is numbered then_is =
    then_is
    ∙ ap (λ (a : Assembly). with_place a number) is
    ∙ ap (λ (n : ℕ). of (old.items ++ items) (slice_set (old.places ++ places) number (Some n))) (sum_by-append item_len old.items items)
    ∙ ap (λ (ps : List (Option ℕ)). of (old.items ++ items) ps)
    (set-append_right old.places places (length old.places) number (Some (word_count old.items + word_count items)) refl (omega arith)
    ∙ ap (λ (m : ℕ). old.places ++ slice_set places m (Some (word_count old.items + word_count items))) (let e : number - length old.places ≡ k = omega arith in e))

pub grown-count : (old now : Assembly) (items : List Item) (places : List (Option ℕ)) → now ≡ grown old items places → word_count now.items ≡ word_count old.items + word_count items
grown-count old now items places is = ap (λ (a : Assembly). word_count a.items) is ∙ sum_by-append item_len old.items items
