use Rattle.std.proofs.Common.{◌≡◌, ◌*◌, ◌<◌, ◌^◌, ℕ, ◌+◌, ◌-◌, ◌%◌, ap, sym, ◌∙◌, subst}
use Rattle.rgctx_fill.specs.Accesses.{piece_of, with_piece}
use Rattle.thread_core.proofs.PieceLemmas.{Put, puts}
use Rattle.thread_core.proofs.memory.with_piece.Goals as goal

-- the word, as it is written, is the word with another piece
made : (b k word new shift old low high : ℕ) → (shift ≡ 8 * b * k) × Put (2 ^ (8 * b * k)) (2 ^ (8 * b)) word new
    → old ≡ piece_of b k word → low ≡ old * 2 ^ shift % 2 ^ 64 → high ≡ new * 2 ^ shift % 2 ^ 64 → word - low + high ≡ with_piece b k new word
made b k word new shift old low high p is cut up =
    let l : low ≡ piece_of b k word * 2 ^ (8 * b * k) = cut ∙ ap (λ n. n * 2 ^ shift % 2 ^ 64) is ∙ ap (λ n. piece_of b k word * 2 ^ n % 2 ^ 64) p.0 ∙ p.1.old in
    let h : high ≡ new * 2 ^ (8 * b * k) = up ∙ ap (λ n. new * 2 ^ n % 2 ^ 64) p.0 ∙ p.1.put in
    ap (λ n. word - n + high) l ∙ ap (λ n. word - piece_of b k word * 2 ^ (8 * b * k) + n) h

-- src/memory.rt:74:5
pub overflow_add-result : goal.overflow_add-result
overflow_add-result c =
    let p = puts c.args.bytes c.args.k c.args.word c.args.new c.requires.part c.requires.place c.requires.fits c.ranges.word.fits in
    let e : c.args.word - c.wrapping_shl.result + c.wrapping_shl-2.result ≡ with_piece c.args.bytes c.args.k c.args.new c.args.word =
    made c.args.bytes c.args.k c.args.word c.args.new _ _ _ _ p c.piece_of-old.ensures c.wrapping_shl.ensures c.wrapping_shl-2.ensures in
    record { fits = subst (λ n. n < 2 ^ 64) (sym e) p.1.fits }

-- src/memory.rt:66:1
pub returns : goal.returns
returns c =
    let p = puts c.args.bytes c.args.k c.args.word c.args.new c.requires.part c.requires.place c.requires.fits c.ranges.word.fits in
    made c.args.bytes c.args.k c.args.word c.args.new _ _ _ _ p c.piece_of-old.ensures c.wrapping_shl.ensures c.wrapping_shl-2.ensures
