-- The entries that a run has filled, by its listed claims.
use Rattle.std.proofs.Common.{◌≡◌, ◌≢◌, ◌∙◌, ⊎_elim, ℕ, zero, suc, ◌+◌, ◌*◌, ◌/◌, ◌<◌, ◌≤◌, ◌^◌, nat_le, true, false, List, [], ◌∷◌, ◌++◌, length, map, take, slice_index, get_or, Option, Some, None, refl, ap, arith}
use Rattle.std.specs.Prelude.{filter_map, option_to_list}
use Rattle.std.specs.List.{cons_option}
use Rattle.std.proofs.lemmas.Bool.{cases_eq}
use Rattle.std.proofs.lemmas.Bool.Decides.{leb_tells}
use Rattle.std.proofs.lemmas.List.{get_or_past, take_more}
use Rattle.std.proofs.lemmas.List.Elements.{filter_map-append}
use Rattle.rgctx_words.specs.Regions.{word_count, node_count, row_count}
use Rattle.rgctx_words.specs.Places.{place_of}
use Rattle.rgctx_template.specs.Catalogue.{CatData}
use Rattle.rgctx_fill.specs.Fitting.{directory, use_of}
use Rattle.thread_core.specs.declared.record.FillNote.{FillNote}
use Rattle.thread_core.specs.Listed.{Listed, ArePut, IsListed, claim_at}
use Rattle.thread_core.specs.Reached.{AreMet}
use Rattle.thread_core.specs.Runs.{fill_in, note_at}

pub fills-listed : (words is : List ℕ) → filter_map (note_at words) is ≡ filter_map (λ (c : ℕ × ℕ). fill_in (slice_index words) c.1 (place_of c.0)) (map (claim_at words) is)
fills-listed words [] = refl
fills-listed words (i ∷ is) = ap (cons_option (note_at words i)) (fills-listed words is)

-- a word that is used is among the words
used_inside : (words : List ℕ) (k : ℕ) → slice_index words k ≢ 0 → k < length words
used_inside words k used = ⊎_elim
    (λ (h : (nat_le (length words) k ≡ true) × (length words ≤ k)). absurd (used (get_or_past words k 0 h.1)))
    (λ (h : (nat_le (length words) k ≡ false) × (k < length words)). h.1)
    (leb_tells (length words) k)

claimed_at : (words is : List ℕ) → ArePut words is → (i : ℕ) → i < length is → slice_index is i < length words
claimed_at words [] put i less = absurd (omega (arith, less))
claimed_at words (k ∷ ks) put zero less = used_inside words k put.0
claimed_at words (k ∷ ks) put (suc i) less = let low : i < length ks = omega (arith, less) in claimed_at words ks put.1 i low

pub claimed-inside : (l : Listed) → IsListed l → (i : ℕ) → i < length l.claimed → slice_index l.claimed i < word_count
claimed-inside l is i less =
    let low = claimed_at l.words l.claimed is.put i less in
    let count = is.count in
    omega (arith, low, count)

-- a directory word names a node
pub directory-small : (cat : CatData) (words : List ℕ) → AreMet cat words → (row : ℕ) → row < row_count → directory (slice_index words) row < 256 * 2 ^ 16
directory-small cat words met row low = ⊎_elim
    (λ (e : directory (slice_index words) row ≡ 0). omega (arith, e))
    (λ (ne : directory (slice_index words) row ≢ 0). let n : (use_of (slice_index words) row).node < node_count = (met.fits.rows row low ne).number.1 in node_small (directory (slice_index words) row) n)
    (cases_eq (directory (slice_index words) row) 0)
  where
    node_small : (d : ℕ) → d / 256 < node_count → d < 256 * 2 ^ 16
    node_small d n = omega (arith, n)

-- one index more
pub notes-more : (words is : List ℕ) (i k : ℕ) → i < length is → get_or is i 0 ≡ k → filter_map (note_at words) (take (i + 1) is) ≡ filter_map (note_at words) (take i is) ++ option_to_list (note_at words k)
notes-more words is i k less e =
    ap (filter_map (note_at words)) (take_more is i 0 less ∙ ap (λ x. take i is ++ x ∷ []) e)
    ∙ filter_map-append (note_at words) (take i is) (k ∷ [])
    ∙ ap (λ l. filter_map (note_at words) (take i is) ++ l) (one (note_at words k))
  where
    one : (o : Option FillNote) → cons_option o [] ≡ option_to_list o
    one None = refl
    one (Some x) = refl
