-- The length of the canonical text is the one that its words give.
use Rattle.std.proofs.Common.{◌≡◌, ℕ, ◌+◌, ◌*◌, Bool, true, false, List, [], ◌∷◌, ◌++◌, length, replicate, flat_map, sum_by, bytes_eq, if◌then◌else◌, refl, sym, ◌∙◌, length-append}
use Rattle.std.proofs.lemmas.List.{length-replicate}
use Rattle.std.proofs.lemmas.List.Sums.{sum_by-cons}
use Rattle.std.proofs.Math.Numerals.{one-add}
use Rattle.il_model.specs.declared.program.Program.{Program}
use Rattle.il_model.specs.Canonical.{Word, comma, spaced, spaced_after, spaced_len, spaced_after_len, Line, line_text, line_len, program_lines, canonical_text, canonical_len}

length-choice : (b : Bool) (w : Word) → length (if b then w else 32 ∷ w) ≡ (if b then length w else 1 + length w)
length-choice true w = refl
length-choice false w = sym (one-add (length w))

length-spaced_after : (ws : List Word) → length (spaced_after ws) ≡ spaced_after_len ws
length-spaced_after [] = refl
length-spaced_after (w ∷ ws) =
    length-append (if bytes_eq w comma then w else 32 ∷ w) (spaced_after ws) ∙ (λ i. length-choice (bytes_eq w comma) w i + length-spaced_after ws i)

length-spaced : (ws : List Word) → length (spaced ws) ≡ spaced_len ws
length-spaced [] = refl
length-spaced (w ∷ ws) = length-append w (spaced_after ws) ∙ (λ i. length w + length-spaced_after ws i)

length-line_text : (l : Line) → length (line_text l) ≡ line_len l
length-line_text l =
    length-append (replicate (2 * l.level) 32 ++ spaced l.words) (10 ∷ []) ∙ (λ i. length-append (replicate (2 * l.level) 32) (spaced l.words) i + 1)
    ∙ (λ i. length-replicate {A = ℕ} (2 * l.level) 32 i + length-spaced l.words i + 1)

length-lines : (ls : List Line) → length (flat_map line_text ls) ≡ sum_by line_len ls
length-lines [] = refl
length-lines (l ∷ ls) = length-append (line_text l) (flat_map line_text ls) ∙ (λ i. length-line_text l i + length-lines ls i) ∙ sym (sum_by-cons line_len l ls)

pub length-canonical_text : (p : Program) → length (canonical_text p) ≡ canonical_len p
length-canonical_text p = length-lines (program_lines p)
