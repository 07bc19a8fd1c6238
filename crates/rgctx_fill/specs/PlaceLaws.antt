-- What stands at the index of each place.
use Rattle.std.proofs.Common.{◌≡◌, ℕ, zero, suc, ◌-◌, ◌/◌, ◌%◌, ◌<◌, true, false, refl, ◌∙◌, arith}
use Rattle.std.specs.Prelude.{nat_lt}
use Rattle.std.proofs.lemmas.Bool.Decides.{nat_tests}
use Rattle.rgctx_words.specs.declared.place.ContextPlace.TheVariants as place
use Rattle.rgctx_words.specs.Regions.{node_count, row_count, row_words, directory_at, roots_at, rows_at, directory_index, root_index, row_index}
use Rattle.rgctx_words.specs.Places.{place_of, in_row}

pub node-place : (i : ℕ) → i < node_count → place_of i ≡ place.Node i
node-place i low = let t : nat_lt i directory_at ≡ true = grind (arith, nat_tests) in rw t refl

pub directory-place : (row : ℕ) → row < row_count → place_of (directory_index row) ≡ place.Directory row
directory-place row low =
    let s : nat_lt (directory_index row) directory_at ≡ false = grind (arith, nat_tests) in
    let t : nat_lt (directory_index row) roots_at ≡ true = grind (arith, nat_tests) in
    let e : directory_index row - directory_at ≡ row = omega arith in
    rw (s, t, e) refl

pub root-place : (i : ℕ) → i < node_count → place_of (root_index i) ≡ place.Root i
root-place i low =
    let r : nat_lt (root_index i) directory_at ≡ false = grind (arith, nat_tests) in
    let s : nat_lt (root_index i) roots_at ≡ false = grind (arith, nat_tests) in
    let t : nat_lt (root_index i) rows_at ≡ true = grind (arith, nat_tests) in
    let e : root_index i - roots_at ≡ i = omega arith in
    rw (r, s, t, e) refl

row_place : (row k : ℕ) → k < row_words → place_of (row_index row k) ≡ in_row row k
row_place row k low =
    let r : nat_lt (row_index row k) directory_at ≡ false = grind (arith, nat_tests) in
    let s : nat_lt (row_index row k) roots_at ≡ false = grind (arith, nat_tests) in
    let t : nat_lt (row_index row k) rows_at ≡ false = grind (arith, nat_tests) in
    let d : (row_index row k - rows_at) / row_words ≡ row = omega arith in
    let e : (row_index row k - rows_at) % row_words ≡ k = omega arith in
    rw (r, s, t, d, e) refl

pub link-place : (row : ℕ) → place_of (row_index row 0) ≡ place.Link row
link-place row = row_place row 0 (omega arith)

slot_place : (row k : ℕ) → 0 < k → in_row row k ≡ place.Entry row k
slot_place row zero low = absurd (omega arith)
slot_place row (suc k) low = refl

pub entry-place : (row k : ℕ) → 0 < k → k < row_words → place_of (row_index row k) ≡ place.Entry row k
entry-place row k low high = row_place row k high ∙ slot_place row k low
