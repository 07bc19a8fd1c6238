-- The spelling of an image is decoded as that image.
use Rattle.std.proofs.Common.{◌≡◌, ◌∙◌, ℕ, ◌<◌, ◌^◌, ◌==◌, Bool, true, cond, eqb, List, [], ◌∷◌, ◌++◌, length, flat_map, Result, Ok, Err, refl, sym, ap, subst, append_assoc, bytes_eq, arith}
use Rattle.std.specs.Int.{w32}
use Rattle.std.specs.List.{AllByRecursion}
use Rattle.std.proofs.lemmas.List.{append-nil}
use Rattle.il_model.specs.declared.program.Program.{Program}
use Rattle.il_model.specs.Accepted.{IsProgramText}
use Rattle.il_model.specs.Canonical.{canonical_text}
use Rattle.mn_outside.specs.declared.outside.Refused.{Refused}
use Rattle.mn_outside.specs.declared.outside.Refused.TheVariants as refused
use Rattle.aot_image.specs.declared.image.Image.{Image}
use Rattle.aot_image.specs.declared.image.ImageFault.{ImageFault}
use Rattle.aot_image.specs.declared.image.ImageCause.{ImageCause}
use Rattle.aot_image.specs.declared.image.ImageCause.TheVariants as cause
use Rattle.aot_image.specs.declared.decoding.Counts.{Counts}
use Rattle.aot_image.specs.ImageSpelling.{word, magic, version, body_bytes, entry_bytes, head_bytes, table_bytes, image_bytes, ImageData}
use Rattle.aot_image.specs.ImageReading.{Left, Read, Reader, and_then, require, fault_at, whole, read_bytes, read_word, read_mark, read_counts, read_bodies_from, read_entries_from, read_words_from, read_end, read_tables}
use Rattle.aot_image.specs.ImageForm.{IsTextOf, IsImage, Decodes, in_head, in_text, of_text, behind_text, result_of, data_of, Answers, IsDecodedAs}
use Rattle.aot_image.proofs.StepLaws.{Goes, goes_then, bytes_goes, wide32, number_goes}
use Rattle.aot_image.proofs.BodyComplete.{goes_done, bodies_goes}
use Rattle.aot_image.proofs.EntryComplete.{entries_goes}
use Rattle.aot_image.proofs.TextLemmas.{OneProgram}

ok_is_err : {A : Type 0} (x : A × Left) (f : ImageFault) → (let r : Read A = Ok x in r ≡ Err f) → ⊥
ok_is_err x f e = cc

same_ok : {A : Type 0} (x y : A × Left) → (let r : Read A = Ok x in r ≡ Ok y) → x ≡ y
same_ok x y e = cc

goes_require : {B : Type 0} (offset : ℕ) (why : ImageCause) (b : Bool) (left : Left) (next : Unit {0} → Reader B) (y : B) (rest : List ℕ) → b ≡ true → Goes (next tt left) y rest →
    Goes (and_then (require offset why b left) next) y rest
goes_require offset why b left next y rest holds second =
    record { back = second.back; is = ap (λ c. and_then (require offset why c left) next) holds ∙ second.is; remains = second.remains }

mark_goes : (left : Left) (rest : List ℕ) → left.bytes ≡ magic ++ (word version ++ rest) → Goes (read_mark left) tt rest
unfolding read_mark
mark_goes left rest is =
    goes_then (read_bytes 8 left)
    (λ front more. and_then (require 0 cause.Magic (bytes_eq front magic) more) (λ _ more. and_then (read_word more) (λ n more. require 8 cause.Version (n == version) more)))
    magic tt (word version ++ rest) rest (bytes_goes 8 left magic (word version ++ rest) is refl)
    (λ a at_a.
    goes_require 0 cause.Magic (bytes_eq magic magic) a (λ _ more. and_then (read_word more) (λ n more. require 8 cause.Version (n == version) more)) tt rest refl
    (goes_then (read_word a) (λ n more. require 8 cause.Version (n == version) more) version tt rest rest (number_goes w32 (2 ^ 32) wide32 a version rest at_a (omega arith))
    (λ b at_b. goes_done tt b rest at_b)))

counts_goes : (text bodies got code : ℕ) (left : Left) (rest : List ℕ) → text < 2 ^ 32 → bodies < 2 ^ 32 → got < 2 ^ 32 → code < 2 ^ 32 →
    left.bytes ≡ head_bytes text bodies got code ++ rest → Goes (read_counts left) (record { text = text; bodies = bodies; got = got; code = code }) rest
unfolding read_counts
counts_goes text bodies got code left rest lt_text lt_bodies lt_got lt_code is =
    let made : Counts = record { text = text; bodies = bodies; got = got; code = code } in
    let first_is : left.bytes ≡ magic ++ (word version ++ (word text ++ (word bodies ++ (word got ++ (word code ++ rest))))) =
    is
    ∙ append_assoc magic (word version ++ (word text ++ (word bodies ++ (word got ++ word code)))) rest
    ∙ ap (λ (bs : List ℕ). magic ++ bs) (append_assoc (word version) (word text ++ (word bodies ++ (word got ++ word code))) rest)
    ∙ ap (λ (bs : List ℕ). magic ++ (word version ++ bs)) (append_assoc (word text) (word bodies ++ (word got ++ word code)) rest)
    ∙ ap (λ (bs : List ℕ). magic ++ (word version ++ (word text ++ bs))) (append_assoc (word bodies) (word got ++ word code) rest)
    ∙ ap (λ (bs : List ℕ). magic ++ (word version ++ (word text ++ (word bodies ++ bs)))) (append_assoc (word got) (word code) rest) in
    goes_then (read_mark left)
    (λ _ more. and_then (read_word more) (λ text more. and_then (read_word more) (λ bodies more. and_then (read_word more) (λ got more. and_then (read_word more) (λ code more.
    Ok (record { text = text; bodies = bodies; got = got; code = code }, more))))))
    tt made (word text ++ (word bodies ++ (word got ++ (word code ++ rest)))) rest (mark_goes left (word text ++ (word bodies ++ (word got ++ (word code ++ rest)))) first_is)
    (λ a at_a.
    goes_then (read_word a)
    (λ text more. and_then (read_word more) (λ bodies more. and_then (read_word more) (λ got more. and_then (read_word more) (λ code more.
    Ok (record { text = text; bodies = bodies; got = got; code = code }, more)))))
    text made (word bodies ++ (word got ++ (word code ++ rest))) rest (number_goes w32 (2 ^ 32) wide32 a text (word bodies ++ (word got ++ (word code ++ rest))) at_a lt_text)
    (λ b at_b.
    goes_then (read_word b)
    (λ bodies more. and_then (read_word more) (λ got more. and_then (read_word more) (λ code more. Ok (record { text = text; bodies = bodies; got = got; code = code }, more))))
    bodies made (word got ++ (word code ++ rest)) rest (number_goes w32 (2 ^ 32) wide32 b bodies (word got ++ (word code ++ rest)) at_b lt_bodies)
    (λ c at_c.
    goes_then (read_word c) (λ got more. and_then (read_word more) (λ code more. Ok (record { text = text; bodies = bodies; got = got; code = code }, more)))
    got made (word code ++ rest) rest (number_goes w32 (2 ^ 32) wide32 c got (word code ++ rest) at_c lt_got)
    (λ d at_d.
    goes_then (read_word d) (λ code more. Ok (record { text = text; bodies = bodies; got = got; code = code }, more)) code made rest rest
    (number_goes w32 (2 ^ 32) wide32 d code rest at_d lt_code) (λ last at_last. goes_done made last rest at_last)))))

words_goes : (ws found : List ℕ) (left : Left) (rest : List ℕ) → AllByRecursion (λ w. w < 2 ^ 32) ws → left.bytes ≡ flat_map word ws ++ rest →
    Goes (read_words_from (length ws) found left) (found ++ ws) rest
unfolding read_words_from
words_goes [] found left rest fits is = subst (λ (xs : List ℕ). Goes (Ok (found, left)) xs rest) (sym (append-nil found)) (goes_done found left rest is)
words_goes (w ∷ ws) found left rest fits is =
    subst (λ (xs : List ℕ). Goes (read_words_from (length (w ∷ ws)) found left) xs rest) (append_assoc found (w ∷ []) ws)
    (goes_then (read_word left) (λ v more. read_words_from (length ws) (found ++ v ∷ []) more) w ((found ++ w ∷ []) ++ ws) (flat_map word ws ++ rest) rest
    (number_goes w32 (2 ^ 32) wide32 left w (flat_map word ws ++ rest) (is ∙ append_assoc (word w) (flat_map word ws) rest) fits.0)
    (λ back at. words_goes ws (found ++ w ∷ []) back rest fits.1 at))

end_goes : (left : Left) → left.bytes ≡ [] → Goes (read_end left) tt []
unfolding read_end
end_goes left none =
    record {
      back = left;
      is = ap (λ (bs : List ℕ). cond (eqb (length bs) 0) (Ok (tt, left)) (Err (fault_at left.at cause.Trailing))) none;
      remains = none;
    }

abbrev counts_of : ImageData → Counts
counts_of image = record { text = length (canonical_text image.program); bodies = length image.bodies; got = length image.got; code = length image.code }

tables_goes : (image : ImageData) (left : Left) → IsImage image → left.bytes ≡ table_bytes image → Goes (read_tables image.program (counts_of image) left) image []
unfolding read_tables
tables_goes image left good is =
    let p = image.program in
    let first_is : left.bytes ≡ flat_map body_bytes image.bodies ++ (flat_map entry_bytes image.got ++ (flat_map word image.code ++ [])) =
    is ∙ ap (λ (bs : List ℕ). flat_map body_bytes image.bodies ++ (flat_map entry_bytes image.got ++ bs)) (sym (append-nil (flat_map word image.code))) in
    goes_then (read_bodies_from p (length image.code) (length image.bodies) [] left)
    (λ bodies more. and_then (read_entries_from p (length image.got) [] more) (λ got more. and_then (read_words_from (length image.code) [] more) (λ code more.
    and_then (read_end more) (λ _ more. Ok (record { program = p; bodies = bodies; got = got; code = code }, more)))))
    image.bodies image (flat_map entry_bytes image.got ++ (flat_map word image.code ++ [])) []
    (bodies_goes p (length image.code) image.bodies left (flat_map entry_bytes image.got ++ (flat_map word image.code ++ [])) good.fits.code good.bodies good.fits.rows first_is)
    (λ a at_a.
    goes_then (read_entries_from p (length image.got) [] a)
    (λ got more. and_then (read_words_from (length image.code) [] more) (λ code more.
    and_then (read_end more) (λ _ more. Ok (record { program = p; bodies = image.bodies; got = got; code = code }, more))))
    image.got image (flat_map word image.code ++ []) [] (entries_goes p image.got a (flat_map word image.code ++ []) good.got good.fits.entries at_a)
    (λ b at_b.
    goes_then (read_words_from (length image.code) [] b)
    (λ code more. and_then (read_end more) (λ _ more. Ok (record { program = p; bodies = image.bodies; got = image.got; code = code }, more)))
    image.code image [] [] (words_goes image.code [] b [] good.fits.words at_b)
    (λ c at_c.
    goes_then (read_end c) (λ _ more. Ok (record { program = p; bodies = image.bodies; got = image.got; code = image.code }, more)) tt image [] [] (end_goes c at_c)
    (λ d at_d. goes_done image d [] at_d))))

-- the front of an image that is spelled
pub record FrontIs (bytes : List ℕ) (image : ImageData) : Type 0 where
  pub front : Left
  pub head : read_counts (whole bytes) ≡ Ok (counts_of image, front)
  pub left : Left
  pub text_is : read_bytes (length (canonical_text image.program)) front ≡ Ok (canonical_text image.program, left)
  pub tables : left.bytes ≡ table_bytes image

front_is : (bytes : List ℕ) (image : ImageData) → IsImage image → bytes ≡ image_bytes image → FrontIs bytes image
front_is bytes image good is =
    let text = canonical_text image.program in
    let head = counts_goes (length text) (length image.bodies) (length image.got) (length image.code) (whole bytes) (text ++ table_bytes image)
    good.fits.text good.fits.bodies good.fits.got good.fits.code is in
    let body = bytes_goes (length text) head.back text (table_bytes image) head.remains refl in
    record { front = head.back; head = head.is; left = body.back; text_is = body.is; tables = body.remains }

ok_not_err : {A : Type 0} (r : Read A) (x : A × Left) (f : ImageFault) → r ≡ Ok x → r ≡ Err f → ⊥
ok_not_err r x f a b = ok_is_err x f (sym a ∙ b)

pair_is : {A : Type 0} (r : Read A) (x y : A × Left) → r ≡ Ok x → r ≡ Ok y → x ≡ y
pair_is r x y a b = same_ok x y (sym a ∙ b)

-- what the bytes give is the image that they spell
pub decodes_as : OneProgram → (bytes : List ℕ) (image : ImageData) (r : Result ImageData ImageFault) → IsImage image → bytes ≡ image_bytes image → Decodes bytes r → r ≡ Ok image
decodes_as one bytes image _ good is (in_head fault h) = absurd (ok_not_err (read_counts (whole bytes)) _ fault (front_is bytes image good is).head h)
decodes_as one bytes image _ good is (in_text counts front fault head h) =
    let f = front_is bytes image good is in
    let same = pair_is (read_counts (whole bytes)) (counts_of image, f.front) (counts, front) f.head head in
    absurd (ok_not_err (read_bytes counts.text front) _ fault
    (sym (ap (λ (x : Counts × Left). read_bytes x.0.text x.1) same) ∙ f.text_is) h)
decodes_as one bytes image _ good is (of_text counts text left has none) =
    let f = front_is bytes image good is in
    let same = pair_is (read_counts (whole bytes)) (counts_of image, f.front) (counts, has.front) f.head has.head in
    let text_same = pair_is (read_bytes counts.text has.front) (canonical_text image.program, f.left) (text, left)
    (sym (ap (λ (x : Counts × Left). read_bytes x.0.text x.1) same) ∙ f.text_is) has.text_is in
    absurd (none image.program (subst (λ (t : List ℕ). IsTextOf t image.program) (ap (λ (x : List ℕ × Left). x.0) text_same) good.text))
decodes_as one bytes image r good is (behind_text counts text left p _ has of h) =
    let f = front_is bytes image good is in
    let same = pair_is (read_counts (whole bytes)) (counts_of image, f.front) (counts, has.front) f.head has.head in
    let text_same = pair_is (read_bytes counts.text has.front) (canonical_text image.program, f.left) (text, left)
    (sym (ap (λ (x : Counts × Left). read_bytes x.0.text x.1) same) ∙ f.text_is) has.text_is in
    let text_is : canonical_text image.program ≡ text = ap (λ (x : List ℕ × Left). x.0) text_same in
    let program_is : image.program ≡ p = one text good.text.classes of.classes image.program p (subst (λ (t : List ℕ). IsProgramText t good.text.classes image.program) text_is good.text.is) of.is in
    let tables = tables_goes image f.left good f.tables in
    let read : read_tables p counts left ≡ Ok (image, tables.back) =
    sym (ap (λ (x : (Program × Counts) × Left). read_tables x.0.0 x.0.1 x.1)
    (λ k. ((program_is k, ap (λ (x : Counts × Left). x.0) same k), ap (λ (x : List ℕ × Left). x.1) text_same k))) ∙ tables.is in
    sym h ∙ ap result_of read

same_image : (x y : ImageData) → (let r : Result ImageData ImageFault = Ok x in r ≡ Ok y) → x ≡ y
same_image x y e = cc

no_image : (f : ImageFault) (y : ImageData) → (let r : Result ImageData ImageFault = Err f in r ≡ Ok y) → ⊥
no_image f y e = cc

pub only_of : OneProgram → (bytes : List ℕ) (image : ImageData) (r : Result Image (Refused ImageFault)) → IsImage image → bytes ≡ image_bytes image → Answers bytes r → IsDecodedAs image r
only_of one bytes image (Ok decoded) good is h = same_image (data_of decoded) image (decodes_as one bytes image (Ok (data_of decoded)) good is h)
only_of one bytes image (Err (refused.Fault fault)) good is h = no_image fault image (decodes_as one bytes image (Err fault) good is h)
only_of one bytes image (Err refused.NoMemory) good is h = tt
