-- Lemmas on the entries of files in memory.
use Rattle.std.proofs.Common.{◌≡◌, ◌≢◌, ◌∙◌, ℕ, zero, suc, ◌<◌, List, [], ◌∷◌, ◌++◌, Bool, true, false, Some, Result, Ok, Err, if◌then◌else◌, length, take, drop, set, get_or, refl, ap, sym, arith}
use Rattle.std.proofs.lemmas.Slice.Eq.{bytes_eq-Decides}
use Rattle.std.specs.Prelude.{unwrap_or, OnOk, OnErr}
use Rattle.std.specs.Str.{bytes_eq}
use Rattle.mn_outside.specs.Entries.{Entries, entry_of, entry_or_empty, with_entry, with_bytes_at}

-- writing the second part of a pair in a list
pub set-with_bytes_at : (es : Entries) (at : ℕ) (bytes : List ℕ) (d : List ℕ × List ℕ) → at < length es
    → set es at ((get_or es at d).0, bytes) ≡ with_bytes_at es at bytes
set-with_bytes_at [] at bytes d h = grind arith
set-with_bytes_at (e ∷ es) zero bytes d h = refl
set-with_bytes_at (e ∷ es) (suc at) bytes d h = ap (λ l. e ∷ l) (set-with_bytes_at es at bytes d (omega (arith, h)))

-- where the first of the entries from a place on has the name, a write changes it
pub with_entry-found : (es : Entries) (at : ℕ) (name bytes : List ℕ) (d : List ℕ × List ℕ) → at < length es
    → bytes_eq (get_or es at d).0 name ≡ true → take at es ++ with_entry (drop at es) name bytes ≡ with_bytes_at es at bytes
with_entry-found [] at name bytes d h found = grind arith
with_entry-found (e ∷ es) zero name bytes d h found = rw found refl
with_entry-found (e ∷ es) (suc at) name bytes d h found = ap (λ l. e ∷ l) (with_entry-found es at name bytes d (omega (arith, h)) found)

-- after a write the name has the bytes
pub entry_of-with_entry : (es : Entries) (name bytes : List ℕ) → entry_of (with_entry es name bytes) name ≡ Some bytes
entry_of-with_entry [] name bytes = rw ((bytes_eq-Decides name name).1 refl) refl
entry_of-with_entry (e ∷ es) name bytes = at (entry_of-with_entry es name bytes) (bytes_eq e.0 name) refl where
  at : entry_of (with_entry es name bytes) name ≡ Some bytes → (b : Bool) → bytes_eq e.0 name ≡ b
      → entry_of (with_entry (e ∷ es) name bytes) name ≡ Some bytes
  at rest true is = rw is (rw is refl)
  at rest false is = rw is (rw is rest)

pub bytes_eq-other : (one other : List ℕ) → one ≢ other → bytes_eq one other ≡ false
bytes_eq-other one other differs = at (bytes_eq one other) refl where
  at : (b : Bool) → bytes_eq one other ≡ b → bytes_eq one other ≡ false
  at true is = absurd (differs ((bytes_eq-Decides one other).0 is))
  at false is = is

-- and each other name has what it had
pub entry_of-with_entry_other : (es : Entries) (name bytes other : List ℕ) → other ≢ name → entry_of (with_entry es name bytes) other ≡ entry_of es other
entry_of-with_entry_other [] name bytes other differs = rw (bytes_eq-other name other (λ same. differs (sym same))) refl
entry_of-with_entry_other (e ∷ es) name bytes other differs =
    at (entry_of-with_entry_other es name bytes other differs) (bytes_eq e.0 name) refl where
      at : entry_of (with_entry es name bytes) other ≡ entry_of es other → (b : Bool) → bytes_eq e.0 name ≡ b
          → entry_of (with_entry (e ∷ es) name bytes) other ≡ entry_of (e ∷ es) other
      at rest true is =
          let not_other : bytes_eq e.0 other ≡ false =
          bytes_eq-other e.0 other (λ same. differs (sym same ∙ (bytes_eq-Decides e.0 name).0 is)) in
          rw (is, not_other) refl
      at rest false is = rw is (ap (λ found. if bytes_eq e.0 other then Some e.1 else found) rest)

-- the same where a name without an entry holds the empty file
pub entry_or_empty-with_entry : (es : Entries) (name bytes : List ℕ) → entry_or_empty (with_entry es name bytes) name ≡ Some bytes
entry_or_empty-with_entry es name bytes = ap (λ found. Some (unwrap_or found [])) (entry_of-with_entry es name bytes)

pub entry_or_empty-with_entry_other : (es : Entries) (name bytes other : List ℕ) → other ≢ name
    → entry_or_empty (with_entry es name bytes) other ≡ entry_or_empty es other
entry_or_empty-with_entry_other es name bytes other differs =
    ap (λ found. Some (unwrap_or found [])) (entry_of-with_entry_other es name bytes other differs)

-- what a write leaves, where the list of entries is its definition's
pub holds-written : {T E : Type 0} (result : Result T E) (old now : Entries) (name bytes : List ℕ)
    → OnOk result (now ≡ with_entry old name bytes) → OnOk result (entry_of now name ≡ Some bytes)
holds-written (Ok x) old now name bytes is = ap (λ es. entry_of es name) is ∙ entry_of-with_entry old name bytes
holds-written (Err e) old now name bytes is = is

pub holds-written_or_empty : {T E : Type 0} (result : Result T E) (old now : Entries) (name bytes : List ℕ)
    → OnOk result (now ≡ with_entry old name bytes) → OnOk result (entry_or_empty now name ≡ Some bytes)
holds-written_or_empty (Ok x) old now name bytes is = ap (λ es. entry_or_empty es name) is ∙ entry_or_empty-with_entry old name bytes
holds-written_or_empty (Err e) old now name bytes is = is

pub others-written : {T E : Type 0} (result : Result T E) (old now : Entries) (name bytes : List ℕ)
    → OnOk result (now ≡ with_entry old name bytes) → OnErr result (now ≡ old)
    → (other : List ℕ) → other ≢ name → entry_of now other ≡ entry_of old other
others-written (Ok x) old now name bytes is same other differs =
    ap (λ es. entry_of es other) is ∙ entry_of-with_entry_other old name bytes other differs
others-written (Err e) old now name bytes is same other differs = ap (λ es. entry_of es other) same

pub others-written_or_empty : {T E : Type 0} (result : Result T E) (old now : Entries) (name bytes : List ℕ)
    → OnOk result (now ≡ with_entry old name bytes) → OnErr result (now ≡ old)
    → (other : List ℕ) → other ≢ name → entry_or_empty now other ≡ entry_or_empty old other
others-written_or_empty result old now name bytes is same other differs =
    ap (λ found. Some (unwrap_or found [])) (others-written result old now name bytes is same other differs)
