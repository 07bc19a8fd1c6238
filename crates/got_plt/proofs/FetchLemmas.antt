-- The steps of a fetch, from the assembly before it: items, and one label after the other; and those of a call stub.
use Rattle.std.proofs.Common.{◌≡◌, ℕ, ◌+◌, slice_set, List, [], ◌++◌, length, append_assoc, Option, Some, sym, ap, ◌∙◌, arith}
use Rattle.std.proofs.lemmas.List.Sums.{sum_by-append}
use Rattle.mn_outside.specs.declared.places.Label.{Label}
use Rattle.rv_isa.specs.declared.item.Item.{Item}
use Rattle.rv_isa.specs.Assembly.{Assembly, item_len, word_count, with_place}
use Rattle.got_plt.specs.declared.emitting.Labels.{Labels}
use Rattle.got_plt.specs.Fetches.{label, with_items, rounds_of, start_of, root_items, link_items, round_items, entry_items, fill_items, fetch_items, fetch_places, with_fetch, keep_items, call_items, stub_items, with_stub}
use Rattle.got_plt.specs.Labels.{grown, labels_from}
use Rattle.rgctx_words.specs.Places.{slot_of}
use Rattle.got_plt.proofs.GrowthLemmas.{of, grown-items, grown-place, grown-count}

-- ---- an assembly that has grown from an older one, with the four labels of a fetch made first

pub record Grown (old now : Assembly) (labels : Labels) (items : List Item) (places : List (Option ℕ)) : Type 0 where
  pub are : labels ≡ labels_from (length old.places)
  pub is : now ≡ grown old items places

-- more items
pub emitted : {old now new : Assembly} {labels : Labels} {items : List Item} {places : List (Option ℕ)} (more : List Item) → Grown old now labels items places
    → new ≡ with_items now more → Grown old new labels (items ++ more) places
emitted {old = old} {now = now} {new = new} {items = items} {places = places} more g step = record { are = g.are; is = grown-items old now new items more places g.is step }

-- the number of the k-th of the labels
pub record IsNumber (old : Assembly) (k number : ℕ) : Type 0 where
  pub is : number ≡ length old.places + k

-- that label is put at the end
pub put : {old now new : Assembly} {labels : Labels} {items : List Item} {places : List (Option ℕ)} {k number : ℕ} → Grown old now labels items places
    → IsNumber old k number → new ≡ with_place now number → Grown old new labels items (slice_set places k (Some (word_count old.items + word_count items)))
put {old = old} {now = now} {new = new} {items = items} {places = places} {k = k} {number = number} g n step = record { are = g.are; is = grown-place old now new items places k number g.is n.is step }

pub first_number : {old now : Assembly} {labels : Labels} {items : List Item} {places : List (Option ℕ)} → Grown old now labels items places → IsNumber old 0 labels.first.number
first_number {old = old} g = let e : length old.places ≡ length old.places + 0 = omega arith in record { is = ap (λ (l : Labels). l.first.number) g.are ∙ e }

pub second_number : {old now : Assembly} {labels : Labels} {items : List Item} {places : List (Option ℕ)} → Grown old now labels items places → IsNumber old 1 labels.second.number
second_number g = record { is = ap (λ (l : Labels). l.second.number) g.are }

pub missing_number : {old now : Assembly} {labels : Labels} {items : List Item} {places : List (Option ℕ)} → Grown old now labels items places → IsNumber old 2 labels.missing.number
missing_number g = record { is = ap (λ (l : Labels). l.missing.number) g.are }

pub done_number : {old now : Assembly} {labels : Labels} {items : List Item} {places : List (Option ℕ)} → Grown old now labels items places → IsNumber old 3 labels.done.number
done_number g = record { is = ap (λ (l : Labels). l.done.number) g.are }

-- ---- a whole fetch

-- its items in the order of the steps
abbrev pub fetch_steps : ℕ → ℕ → ℕ → Label → Labels → List Item
fetch_steps rounds slot place start labels =
    [] ++ root_items rounds start ++ link_items labels.missing ++ link_items labels.missing ++ round_items labels.first ++ entry_items slot labels.done ++ fill_items place

abbrev fetched : Assembly → ℕ → ℕ → ℕ → Labels → Assembly
fetched old place rounds slot labels =
    grown old (fetch_steps rounds slot place (label (start_of place labels.first.number labels.second.number)) labels) (fetch_places (word_count old.items))

pub fetch_is : {old now : Assembly} {labels : Labels} (place rounds slot : ℕ) (start : Label) → Grown old now labels (fetch_steps rounds slot place start labels) (fetch_places (word_count old.items))
    → start ≡ label (start_of place labels.first.number labels.second.number) → rounds ≡ rounds_of place → slot ≡ slot_of place → now ≡ with_fetch old place
fetch_is {old = old} {labels = labels} place rounds slot start g start_is rounds_are slot_is =
    g.is
    ∙ ap (λ (s : Label). grown old (fetch_steps rounds slot place s labels) (fetch_places (word_count old.items))) start_is
    ∙ ap (λ (r : ℕ). fetched old place r slot labels) rounds_are
    ∙ ap (λ (s : ℕ). fetched old place (rounds_of place) s labels) slot_is
    ∙ ap (λ (l : Labels). fetched old place (rounds_of place) (slot_of place) l) g.are

pub fetch-count : (old now : Assembly) (place : ℕ) → now ≡ with_fetch old place → word_count now.items ≡ word_count old.items + 17
fetch-count old now place is = grown-count old now (fetch_items place (length old.places)) (fetch_places (word_count old.items)) is

-- ---- a call stub

behind_keep : (old : Assembly) (items : List Item) → ((old.items ++ keep_items) ++ items) ++ call_items ≡ old.items ++ ((keep_items ++ items) ++ call_items)
behind_keep old items =
    append_assoc (old.items ++ keep_items) items call_items
    ∙ append_assoc old.items keep_items (items ++ call_items)
    ∙ ap (λ (xs : List Item). old.items ++ xs) (sym (append_assoc keep_items items call_items))

pub stub_is : (old a b c : Assembly) (place : ℕ) → a ≡ with_items old keep_items → b ≡ with_fetch a place → c ≡ with_items b call_items → c ≡ with_stub old place
stub_is old a b c place keep fetch call =
    call
    ∙ ap (λ (x : Assembly). with_items x call_items) (fetch ∙ ap (λ (x : Assembly). with_fetch x place) keep)
    ∙ ap (λ (m : ℕ). of (((old.items ++ keep_items) ++ fetch_items place (length old.places)) ++ call_items) (old.places ++ fetch_places m)) (sum_by-append item_len old.items keep_items)
    ∙ ap (λ (xs : List Item). of xs (old.places ++ fetch_places (word_count old.items + 1))) (behind_keep old (fetch_items place (length old.places)))

pub stub-count : (old c : Assembly) (place : ℕ) → c ≡ with_stub old place → word_count c.items ≡ word_count old.items + 22
stub-count old c place is = grown-count old c (stub_items place (length old.places)) (fetch_places (word_count old.items + 1)) is
