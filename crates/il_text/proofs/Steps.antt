-- One step of the reading, on its faults and on its tokens.
use Rattle.std.proofs.Common.{◌≡◌, ◌<◌, ◌≤◌, ◌+◌, ◌-◌, ◌++◌, ℕ, zero, suc, true, false, List, [], ◌∷◌, length, take, drop, Option, Some, None, refl, sym, ap, subst, ◌∙◌, arith, if◌then◌else◌, nat_lt, slice_range}
use Rattle.std.specs.List.{list_all, prefix_len}
use Rattle.std.proofs.Math.Seq.{take-add}
use Rattle.std.proofs.lemmas.Bool.{both_ways, lt-ltb}
use Rattle.std.proofs.lemmas.List.{take-append-drop, drop-drop, length-drop}
use Rattle.il_text.specs.declared.token.TokenKind.{TokenKind}
use Rattle.il_text.specs.declared.token.Token.{Token}
use Rattle.il_text.specs.Bytes.{is_comment_byte}
use Rattle.il_text.specs.Spelling.{spells, IsWithinLimit}
use Rattle.il_text.specs.Tokens.{IsGap, nothing, blank, IsLastGap, IsNext, AreTokensFrom}
use Rattle.il_text.specs.Faults.{is_token, token_len, gap_len, front_len, cause_of, fault_or, first_refusal}
use Rattle.il_text.specs.Fronts.{HasToken, HasFront}
use Rattle.il_text.proofs.Longest.{list_all-front, longest_front-longest}
use Rattle.il_text.proofs.FrontLemmas.{any_kind, cause_of-gap}
use Rattle.il_text.proofs.Gaps.{Passes, passes, one_blank, one_comment, comment_gap, comment_last, blank_last, token_first, prefix_len-stop}

skip : (at inside : ℕ) (bytes : List ℕ) → first_refusal at inside bytes ≡ first_refusal (at + inside) 0 (drop inside bytes)
skip at zero bytes = ap (λ n. first_refusal n 0 bytes) (omega arith)
skip at (suc inside) [] = refl
skip at (suc inside) (b ∷ bytes) = skip (at + 1) inside bytes ∙ ap (λ n. first_refusal n 0 (drop inside bytes)) (omega arith)

pub two_more : (p : ℕ) → 2 + p ≡ suc (suc p)
two_more p = omega arith

at_nothing : (at : ℕ) → at - at ≡ 0
at_nothing at = omega arith

longer_none : (bytes : List ℕ) (len m : ℕ) → token_len bytes ≡ len → len < m → m ≤ length bytes → is_token (take m bytes) ≡ false
unfolding token_len
longer_none bytes len m e l h = longest_front-longest is_token (length bytes) bytes m (omega (arith, e, l)) h

-- what stands in front and isn't refused is passed over
pub first_refusal-step : (at : ℕ) (bytes : List ℕ) (len : ℕ) → cause_of bytes ≡ None → front_len bytes ≡ len → 0 < len → first_refusal at 0 bytes ≡ first_refusal (at + len) 0 (drop len bytes)
first_refusal-step at [] (suc len) e f l = refl
first_refusal-step at bytes zero e f l = absurd (omega (arith, l))
first_refusal-step at (b ∷ bytes) (suc len) e f l =
    ap (λ c. fault_or c at (first_refusal (at + 1) (front_len (b ∷ bytes) - 1) bytes)) e
    ∙ ap (λ n. first_refusal (at + 1) (n - 1) bytes) f
    ∙ ap (λ n. first_refusal (at + 1) n bytes) (omega arith)
    ∙ skip (at + 1) len bytes
    ∙ ap (λ n. first_refusal n 0 (drop len bytes)) (omega arith)

pub front_len-gap : (bytes : List ℕ) → 0 < gap_len bytes → front_len bytes ≡ gap_len bytes
front_len-gap bytes l = ap (λ t. if t then gap_len bytes else token_len bytes) (lt-ltb 0 (gap_len bytes) l)

pub front_len-token : (bytes : List ℕ) → gap_len bytes ≡ 0 → front_len bytes ≡ token_len bytes
front_len-token bytes e = ap (λ n. if nat_lt 0 n then n else token_len bytes) e

slice_from : (text : List ℕ) (at len from : ℕ) → at + len ≤ from → slice_range text at from ≡ take len (drop at text) ++ slice_range text (at + len) from
slice_from text at len from l =
    ap (λ n. take n (drop at text)) (omega arith) ∙ take-add len (from - (at + len)) (drop at text)
    ∙ ap (λ bs. take len (drop at text) ++ take (from - (at + len)) bs) (drop-drop len at text)

-- a gap of this length in front of the text from a place belongs to the gap of the next token
next_after : (text : List ℕ) (at len : ℕ) (t : Token) → IsNext text (at + len) t → IsGap (take len (drop at text) ++ slice_range text (at + len) t.from) → IsNext text at t
next_after text at len t next gap = record {
  later = omega (arith, next.later);
  apart = subst IsGap (sym (slice_from text at len t.from next.later)) gap;
  inside = next.inside;
  spelled = next.spelled;
  longest = next.longest;
  within = next.within;
}

-- where a comment is followed by a token, the end of its line lies between
comment_next : (inside tail : List ℕ) (n from m : ℕ) (k : TokenKind) → list_all is_comment_byte inside ≡ true → ((c : ℕ) (more : List ℕ) → tail ≡ c ∷ more → is_comment_byte c ≡ false) → spells k (take m (drop n tail)) ≡ true → IsGap (take n tail) → IsGap (47 ∷ 47 ∷ inside ++ take n tail)
comment_next inside tail zero from m k e stops spelled g =
    let first = token_first k m tail spelled in
    absurd (both_ways (is_comment_byte first.first) (stops first.first first.more first.is) first.in_comment)
comment_next inside [] (suc n) from m k e stops spelled g =
    let first = token_first k m [] spelled in
    let wrong : [] ≡ first.first ∷ first.more = first.is in cc
comment_next inside (c ∷ tail) (suc n) from m k e stops spelled g = comment_gap inside (c ∷ take n tail) c (take n tail) e refl (stops c tail refl) g

-- a blank or a comment in front leaves the tokens as they are
pub gap_reads : (text : List ℕ) (at len : ℕ) (tokens : List Token) → Passes (drop at text) len → AreTokensFrom text (at + len) tokens → AreTokensFrom text at tokens
gap_reads text at len [] (one_blank b bs e f) read =
    let left : drop (at + 1) text ≡ bs = sym (drop-drop 1 at text) ∙ ap (drop 1) e in
    subst IsLastGap (sym e) (blank_last b bs f (subst IsLastGap left read))
gap_reads text at len (t ∷ ts) (one_blank b bs e f) read =
    (next_after text at 1 t read.0 (let g = blank b (slice_range text (at + 1) t.from) f read.0.apart in subst (λ x. IsGap (take 1 x ++ slice_range text (at + 1) t.from)) (sym e) g), read.1)
gap_reads text at len [] (one_comment bs e) read =
    let p = prefix_len is_comment_byte bs in
    let left : drop (at + (2 + p)) text ≡ drop p bs = sym (drop-drop (2 + p) at text) ∙ ap (drop (2 + p)) e ∙ ap (λ n. drop n (47 ∷ 47 ∷ bs)) (two_more p) in
    let whole : 47 ∷ 47 ∷ take p bs ++ drop p bs ≡ drop at text = ap (λ x. 47 ∷ 47 ∷ x) (take-append-drop p bs) ∙ sym e in
    subst IsLastGap whole (comment_last (take p bs) (drop p bs) (list_all-front is_comment_byte bs) (prefix_len-stop is_comment_byte bs) (subst IsLastGap left read))
gap_reads text at len (t ∷ ts) (one_comment bs e) read =
    let p = prefix_len is_comment_byte bs in
    let n = t.from - (at + (2 + p)) in
    let left : drop (at + (2 + p)) text ≡ drop p bs = sym (drop-drop (2 + p) at text) ∙ ap (drop (2 + p)) e ∙ ap (λ n. drop n (47 ∷ 47 ∷ bs)) (two_more p) in
    let gap : IsGap (take n (drop p bs)) = subst (λ x. IsGap (take n x)) left read.0.apart in
    let token : drop t.from text ≡ drop n (drop p bs) = ap (λ m. drop m text) (omega (arith, read.0.later)) ∙ sym (drop-drop n (at + (2 + p)) text) ∙ ap (drop n) left in
    let spelled : spells t.kind (take (t.to - t.from) (drop n (drop p bs))) ≡ true = sym (ap (λ x. spells t.kind (take (t.to - t.from) x)) token) ∙ read.0.spelled in
    let front : 47 ∷ 47 ∷ take p bs ++ take n (drop p bs) ≡ take (2 + p) (drop at text) ++ slice_range text (at + (2 + p)) t.from =
    ap (λ x. 47 ∷ 47 ∷ take p bs ++ take n x) (sym left) ∙ sym (ap (λ m. take m (47 ∷ 47 ∷ bs) ++ slice_range text (at + (2 + p)) t.from) (two_more p)) ∙ ap (λ x. take (2 + p) x ++ slice_range text (at + (2 + p)) t.from) (sym e) in
    (next_after text at (2 + p) t read.0 (subst IsGap front (comment_next (take p bs) (drop p bs) n t.from (t.to - t.from) t.kind (list_all-front is_comment_byte bs) (prefix_len-stop is_comment_byte bs) spelled gap)), read.1)

-- a token in front is the first of the tokens
pub token_reads : (text : List ℕ) (at len : ℕ) (kind : TokenKind) (tokens : List Token) → at ≤ length text → HasToken (drop at text) kind len → AreTokensFrom text (at + len) tokens → AreTokensFrom text at (record { kind = kind; from = at; to = at + len } ∷ tokens)
token_reads text at len kind tokens inside has read =
    let same : at + len - at ≡ len = omega arith in (
      record {
        later = omega arith;
        apart = subst (λ n. IsGap (take n (drop at text))) (sym (at_nothing at)) nothing;
        inside = omega (arith, has.inside, length-drop at text, inside);
        spelled = ap (λ n. spells kind (take n (drop at text))) same ∙ has.spelled;
        longest = λ other end l h spelled.
            both_ways (is_token (slice_range text at end)) (longer_none (drop at text) len (end - at) has.longest (omega (arith, l)) (omega (arith, h, length-drop at text))) (any_kind other (slice_range text at end) spelled);
        within = subst (λ n. IsWithinLimit kind (take n (drop at text))) (sym same) has.within;
      },
      read,
    )

-- what the reading knows of what it passes over
pub record Passed (bytes : List ℕ) (len : ℕ) : Type 0 where
  pub fine : cause_of bytes ≡ None
  pub front : front_len bytes ≡ len
  pub some : 0 < len
  pub inside : len ≤ length bytes

pub passed : (bytes : List ℕ) (kind : Option TokenKind) (len : ℕ) → HasFront bytes kind len → Passed bytes len
passed bytes None len has =
    let some : 0 < gap_len bytes = omega (arith, has.0, has.1) in
    record { fine = cause_of-gap bytes some; front = front_len-gap bytes some ∙ has.1; some = has.0; inside = has.2 }
passed bytes (Some kind) len has = record { fine = has.1.fine; front = front_len-token bytes has.0 ∙ has.1.longest; some = has.1.some; inside = has.1.inside }

pub gap_front : (bytes : List ℕ) (kind : Option TokenKind) (len : ℕ) → kind ≡ None → HasFront bytes kind len → Passes bytes len
gap_front bytes None len e has = subst (Passes bytes) has.1 (passes bytes (omega (arith, has.0, has.1)))
gap_front bytes (Some k) len e has = cc

pub token_front : (bytes : List ℕ) (kind : Option TokenKind) (k : TokenKind) (len : ℕ) → kind ≡ Some k → HasFront bytes kind len → HasToken bytes k len
token_front bytes None k len e has = cc
token_front bytes (Some j) k len e has =
    let same : j ≡ k = cc in
    subst (λ x. HasToken bytes x len) same has.1
