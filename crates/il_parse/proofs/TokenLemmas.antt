-- The tokens of a text are slices of it that the parser can read.
use Rattle.std.proofs.Common.{◌≡◌, ℕ, ◌<◌, ◌≤◌, ◌-◌, true, false, List, [], ◌∷◌, length, take, drop, slice_range, refl, sym, ◌∙◌, ap, arith, inl, inr}
use Rattle.std.proofs.lemmas.Bool.{false≢true, cases_lt}
use Rattle.il_text.specs.declared.token.Token.{Token}
use Rattle.il_text.specs.Spelling.{spells}
use Rattle.il_text.specs.Tokens.{AreTokens, AreTokensFrom, IsNext}
use Rattle.il_parse.specs.Cursor.{IsReadable, AreReadable}
use Rattle.il_parse.proofs.AsciiLemmas.{spelled_plain, nothing_spelled}

empty_slice : (text : List ℕ) (from to : ℕ) → to ≤ from → slice_range text from to ≡ []
empty_slice text from to order = let none : to - from ≡ 0 = omega arith in ap (λ n. take n (drop from text)) none

some_bytes : (text : List ℕ) (t : Token) → spells t.kind (slice_range text t.from t.to) ≡ true → t.from < t.to
some_bytes text t spelled = elim (cases_lt t.from t.to) [
  | inl order ↦ order
  | inr order ↦ absurd (false≢true (sym (nothing_spelled t.kind) ∙ ap (spells t.kind) (sym (empty_slice text t.from t.to order)) ∙ spelled))
]

next_readable : (text : List ℕ) (at : ℕ) (t : Token) → IsNext text at t → IsReadable text t
next_readable text at t next =
    record {
      some = some_bytes text t next.spelled;
      inside = next.inside;
      ascii = spelled_plain t.kind (slice_range text t.from t.to) next.spelled;
      spelled = next.spelled;
      within = next.within;
    }

readable_from : (text : List ℕ) (at : ℕ) (tokens : List Token) → AreTokensFrom text at tokens → AreReadable text tokens
readable_from text at [] read = tt
readable_from text at (t ∷ ts) read = (next_readable text at t read.0, readable_from text t.to ts read.1)

pub tokens_readable : (text : List ℕ) (tokens : List Token) → AreTokens text tokens → AreReadable text tokens
tokens_readable text tokens are = readable_from text 0 tokens are.read
