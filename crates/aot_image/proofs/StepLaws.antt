-- What reading in steps gives, and what it takes of the bytes.
use Rattle.std.proofs.Common.{◌≡◌, ◌∙◌, ℕ, suc, ◌+◌, ◌<◌, ◌≤◌, ◌^◌, Bool, true, false, cond, ltb, List, [], ◌∷◌, ◌++◌, length, get_or, take, drop, Option, Some, None, Ok, Err, refl, sym, ap, subst, append_assoc, arith, inl, inr}
use Rattle.std.specs.Int.{Width, w16, w32, byte_len, from_le_bytes, to_le_bytes}
use Rattle.std.proofs.lemmas.Bool.{cases_lt, ltb-false, le-ltb, true≢false}
use Rattle.std.proofs.lemmas.List.{take_at, drop_at, take-append-drop, length-append, length-take, get_or-drop, get_or-take, get_or_past}
use Rattle.std.proofs.lemmas.Nat.{le_bytes_2, le_bytes_4, from_le_bytes-to_le_bytes_2, from_le_bytes-to_le_bytes_4}
use Rattle.aot_image.specs.declared.image.ImageFault.{ImageFault}
use Rattle.aot_image.specs.declared.image.ImageCause.TheVariants as cause
use Rattle.aot_image.specs.ImageSpelling.{byte}
use Rattle.aot_image.specs.ImageReading.{Left, Read, Reader, and_then, check, found_or_bad, fault_at, behind, byte_of, read_byte, read_bytes, read_number}

-- ---- readings that are known

nowhere : Left
nowhere = record { at = 0; bytes = [] }

abbrev if_ok : {A : Type 0} → A → Read A → A × Left
if_ok x (Ok p) = p
if_ok x (Err f) = (x, nowhere)

abbrev is_read : {A : Type 0} → Read A → Bool
is_read (Ok p) = true
is_read (Err f) = false

pub refusal : {A : Type 0} {C : Type 0} (f : ImageFault) (x : A) (back : Left) → (let r : Read A = Err f in r ≡ Ok (x, back)) → C
refusal f x back e = absurd (true≢false (sym (ap is_read e)))

pub value_of : {A : Type 0} (x y : A) (a b : Left) → (let r : Read A = Ok (x, a) in r ≡ Ok (y, b)) → x ≡ y
value_of x y a b e = ap (λ r. (if_ok x r).0) e

pub rest_of : {A : Type 0} (x y : A) (a b : Left) → (let r : Read A = Ok (x, a) in r ≡ Ok (y, b)) → a ≡ b
rest_of x y a b e = ap (λ r. (if_ok x r).1) e

-- a fact that follows from what each of two parts gives
pub stepped : {A B C : Type 0} (r : Read A) (next : A → Reader B) (y : B) (back : Left) → and_then r next ≡ Ok (y, back) →
    ((x : A) (mid : Left) → r ≡ Ok (x, mid) → next x mid ≡ Ok (y, back) → C) → C
stepped (Ok p) next y back e go = go p.0 p.1 refl e
stepped (Err f) next y back e go = refusal f y back e

-- the same where a test comes first
pub stepped_check : {B C : Type 0} (row : ℕ) (b : Bool) (left : Left) (next : Unit {0} → Reader B) (y : B) (back : Left) →
    and_then (check row b left) next ≡ Ok (y, back) → (b ≡ true → next tt left ≡ Ok (y, back) → C) → C
stepped_check row true left next y back e go = go refl e
stepped_check row false left next y back e go = refusal (fault_at row cause.BadTable) y back e

-- the same where a value has to be there
pub stepped_found : {A B C : Type 0} (row : ℕ) (o : Option A) (left : Left) (next : A → Reader B) (y : B) (back : Left) →
    and_then (found_or_bad row o left) next ≡ Ok (y, back) → ((x : A) → o ≡ Some x → next x left ≡ Ok (y, back) → C) → C
stepped_found row (Some x) left next y back e go = go x refl e
stepped_found row None left next y back e go = refusal (fault_at row cause.BadTable) y back e

-- one step of reading, and what is read behind it
pub by_step : {A B : Type 0} (r : Read A) (next : A → Reader B) (y : Read B) (x : A) (mid : Left) → r ≡ Ok (x, mid) → next x mid ≡ y → and_then r next ≡ y
by_step r next y x mid first second = ap (λ s. and_then s next) first ∙ second

pub by_check : {B : Type 0} (row : ℕ) (b : Bool) (left : Left) (next : Unit {0} → Reader B) (y : Read B) → b ≡ true → next tt left ≡ y → and_then (check row b left) next ≡ y
by_check row b left next y holds second = ap (λ c. and_then (check row c left) next) holds ∙ second

pub by_found : {A B : Type 0} (row : ℕ) (o : Option A) (x : A) (left : Left) (next : A → Reader B) (y : Read B) → o ≡ Some x → next x left ≡ y →
    and_then (found_or_bad row o left) next ≡ y
by_found row o x left next y is second = ap (λ c. and_then (found_or_bad row c left) next) is ∙ second

-- ---- bytes

abbrev pub IsBytes : List ℕ → Type 0
IsBytes bytes = (i : ℕ) → get_or bytes i 0 < 256

IsBytes-drop : (n : ℕ) (bytes : List ℕ) → IsBytes bytes → IsBytes (drop n bytes)
IsBytes-drop n bytes h i = rw get_or-drop (h (n + i))

IsBytes-take : (n : ℕ) (bytes : List ℕ) → IsBytes bytes → IsBytes (take n bytes)
IsBytes-take n bytes h i =
    elim (cases_lt i n) [
      | inl lt ↦ rw (get_or-take n bytes i 0 lt) (h i)
      | inr le ↦ rw (get_or_past (take n bytes) i 0 (omega (arith, length-take n bytes))) (omega arith)
    ]

-- these bytes stood in front of those that remain
pub record Took (left : Left) (text : List ℕ) (back : Left) : Type 0 where
  pub split : left.bytes ≡ text ++ back.bytes
  pub fits : IsBytes back.bytes

pub took_none : (left : Left) → IsBytes left.bytes → Took left [] left
took_none left fits = record { split = refl; fits = fits }

pub took_then : (a b c : Left) (x y : List ℕ) → Took a x b → Took b y c → Took a (x ++ y) c
took_then a b c x y p q = record { split = p.split ∙ ap (λ (t : List ℕ). x ++ t) q.split ∙ sym (append_assoc x y c.bytes); fits = q.fits }

-- the value is read, and these bytes remain
pub record Goes {A : Type 0} (r : Read A) (x : A) (rest : List ℕ) : Type 0 where
  pub back : Left
  pub is : r ≡ Ok (x, back)
  pub remains : back.bytes ≡ rest

-- a value, and what is read behind it
pub goes_then : {A B : Type 0} (r : Read A) (next : A → Reader B) (x : A) (y : B) (mid rest : List ℕ) → Goes r x mid →
    ((back : Left) → back.bytes ≡ mid → Goes (next x back) y rest) → Goes (and_then r next) y rest
goes_then r next x y mid rest first go =
    let second = go first.back first.remains in
    record { back = second.back; is = by_step r next _ x first.back first.is second.is; remains = second.remains }

pub goes_check : {B : Type 0} (row : ℕ) (b : Bool) (left : Left) (next : Unit {0} → Reader B) (y : B) (rest : List ℕ) → b ≡ true → Goes (next tt left) y rest →
    Goes (and_then (check row b left) next) y rest
goes_check row b left next y rest holds second =
    record { back = second.back; is = by_check row b left next _ holds second.is; remains = second.remains }

pub goes_found : {A B : Type 0} (row : ℕ) (o : Option A) (x : A) (left : Left) (next : A → Reader B) (y : B) (rest : List ℕ) → o ≡ Some x → Goes (next x left) y rest →
    Goes (and_then (found_or_bad row o left) next) y rest
goes_found row o x left next y rest is second =
    record { back = second.back; is = by_found row o x left next _ is second.is; remains = second.remains }

-- ---- fields

byte_case : (at : ℕ) (bytes : List ℕ) (left : Left) (n : ℕ) (back : Left) → left.bytes ≡ bytes → IsBytes bytes → byte_of at bytes ≡ Ok (n, back) →
    Took left (byte n) back × (n < 256)
byte_case at [] left n back is fits e = refusal (fault_at at cause.Short) n back e
byte_case at (b ∷ bytes) left n back is fits e =
    let value : b ≡ n = value_of b n (record { at = at + 1; bytes = bytes }) back e in
    let rest : bytes ≡ back.bytes = ap (λ (l : Left). l.bytes) (rest_of b n (record { at = at + 1; bytes = bytes }) back e) in
    (record { split = is ∙ ap (λ (m : ℕ). m ∷ bytes) value ∙ ap (λ (t : List ℕ). n ∷ t) rest; fits = subst IsBytes rest (λ i. fits (suc i)) }, subst (λ (m : ℕ). m < 256) value (fits 0))

pub byte_sound : (left : Left) (n : ℕ) (back : Left) → IsBytes left.bytes → read_byte left ≡ Ok (n, back) → Took left (byte n) back × (n < 256)
unfolding read_byte
byte_sound left n back fits e = byte_case left.at left.bytes left n back refl fits e

pub byte_goes : (left : Left) (n : ℕ) (rest : List ℕ) → left.bytes ≡ byte n ++ rest → Goes (read_byte left) n rest
unfolding read_byte
byte_goes left n rest is = record { back = record { at = left.at + 1; bytes = rest }; is = ap (byte_of left.at) is; remains = refl }

bytes_if : (b : Bool) (count : ℕ) (left : Left) (text : List ℕ) (back : Left) → ltb (length left.bytes) count ≡ b → IsBytes left.bytes →
    (let r : Read (List ℕ) = cond b (Err (fault_at left.at cause.Short)) (Ok (take count left.bytes, behind count left)) in r ≡ Ok (text, back)) →
    (Took left text back × (length text ≡ count)) × IsBytes text
bytes_if true count left text back short fits e = refusal (fault_at left.at cause.Short) text back e
bytes_if false count left text back long fits e =
    let value : take count left.bytes ≡ text = value_of (take count left.bytes) text (behind count left) back e in
    let rest : drop count left.bytes ≡ back.bytes = ap (λ (l : Left). l.bytes) (rest_of (take count left.bytes) text (behind count left) back e) in
    let le : count ≤ length left.bytes = ltb-false _ _ long in
    let len : length (take count left.bytes) ≡ count = omega (arith, length-take count left.bytes) in (
      (
        record {
          split = sym (take-append-drop count left.bytes) ∙ ap (λ (t : List ℕ). t ++ drop count left.bytes) value ∙ ap (λ (t : List ℕ). text ++ t) rest;
          fits = subst IsBytes rest (IsBytes-drop count left.bytes fits);
        },
        sym (ap length value) ∙ len,
      ),
      subst IsBytes value (IsBytes-take count left.bytes fits),
    )

pub bytes_sound : (count : ℕ) (left : Left) (text : List ℕ) (back : Left) → IsBytes left.bytes → read_bytes count left ≡ Ok (text, back) →
    (Took left text back × (length text ≡ count)) × IsBytes text
unfolding read_bytes
bytes_sound count left text back fits e = bytes_if (ltb (length left.bytes) count) count left text back refl fits e

pub bytes_goes : (count : ℕ) (left : Left) (text rest : List ℕ) → left.bytes ≡ text ++ rest → length text ≡ count → Goes (read_bytes count left) text rest
unfolding read_bytes
bytes_goes count left text rest is len =
    let long : ltb (length left.bytes) count ≡ false = le-ltb _ _ (omega (arith, ap length is, length-append text rest, len)) in
    let value : take count left.bytes ≡ text = ap (take count) is ∙ take_at text rest count len in
    record {
      back = behind count left;
      is = ap (λ (b : Bool). cond b (Err (fault_at left.at cause.Short)) (Ok (take count left.bytes, behind count left))) long ∙ ap (λ (t : List ℕ). Ok (t, behind count left)) value;
      remains = ap (drop count) is ∙ drop_at text rest count len;
    }

pub record IsWide (w : Width) (limit : ℕ) : Type 0 where
  pub len : (n : ℕ) → length (to_le_bytes w n) ≡ byte_len w
  pub back : (bytes : List ℕ) → length bytes ≡ byte_len w → IsBytes bytes → to_le_bytes w (from_le_bytes w bytes) ≡ bytes
  pub again : (n : ℕ) → n < limit → from_le_bytes w (to_le_bytes w n) ≡ n
  pub below : (bytes : List ℕ) → IsBytes bytes → from_le_bytes w bytes < limit

pub wide16 : IsWide w16 (2 ^ 16)
wide16 = record {
  len = λ n. refl;
  back = λ bytes len fits. le_bytes_2 bytes _ len fits refl;
  again = λ n lt. from_le_bytes-to_le_bytes_2 n lt;
  below = λ bytes fits. omega (arith, fits 0, fits 1);
}

pub wide32 : IsWide w32 (2 ^ 32)
wide32 = record {
  len = λ n. refl;
  back = λ bytes len fits. le_bytes_4 bytes _ len fits refl;
  again = λ n lt. from_le_bytes-to_le_bytes_4 n lt;
  below = λ bytes fits. omega (arith, fits 0, fits 1, fits 2, fits 3);
}

module _ (w : Width) (limit : ℕ) (wide : IsWide w limit) where
  pub number_sound : (left : Left) (n : ℕ) (back : Left) → IsBytes left.bytes → read_number w left ≡ Ok (n, back) → Took left (to_le_bytes w n) back × (n < limit)
  unfolding read_number
  number_sound left n back fits e =
      stepped (read_bytes (byte_len w) left) (λ bytes mid. Ok (from_le_bytes w bytes, mid)) n back e
      (λ bytes mid e1 e2.
      let t = bytes_sound (byte_len w) left bytes mid fits e1 in
      let value : from_le_bytes w bytes ≡ n = value_of (from_le_bytes w bytes) n mid back e2 in
      let rest : mid ≡ back = rest_of (from_le_bytes w bytes) n mid back e2 in
      let text : bytes ≡ to_le_bytes w n = sym (wide.back bytes t.0.1 t.1) ∙ ap (to_le_bytes w) value in
      (subst (λ (l : Left). Took left (to_le_bytes w n) l) rest (subst (λ (b : List ℕ). Took left b mid) text t.0.0), subst (λ (m : ℕ). m < limit) value (wide.below bytes t.1)))

  pub number_goes : (left : Left) (n : ℕ) (rest : List ℕ) → left.bytes ≡ to_le_bytes w n ++ rest → n < limit → Goes (read_number w left) n rest
  unfolding read_number
  number_goes left n rest is lt =
      let first = bytes_goes (byte_len w) left (to_le_bytes w n) rest is (wide.len n) in
      record {
        back = first.back;
        is = by_step (read_bytes (byte_len w) left) (λ bytes mid. Ok (from_le_bytes w bytes, mid)) _ (to_le_bytes w n) first.back first.is
            (ap (λ (m : ℕ). Ok (m, first.back)) (wide.again n lt));
        remains = first.remains;
      }
