-- What is decoded is an image, and the bytes are its spelling.
use Rattle.std.proofs.Common.{◌≡◌, ◌∙◌, ℕ, zero, suc, ◌<◌, ◌^◌, ◌==◌, Bool, true, false, cond, eqb, List, [], ◌∷◌, ◌++◌, length, flat_map, Result, Ok, Err, refl, sym, ap, subst, append_assoc, bytes_eq}
use Rattle.std.specs.Int.{w32}
use Rattle.std.specs.List.{AllByRecursion}
use Rattle.std.proofs.lemmas.Bool.{eqb-true}
use Rattle.std.proofs.lemmas.List.{append-nil, nil_from_length}
use Rattle.std.proofs.lemmas.Slice.Eq.{bytes_eq-Decides}
use Rattle.il_model.specs.declared.key.BodyRow.{BodyRow}
use Rattle.il_model.specs.declared.entry.Entry.{Entry}
use Rattle.il_model.specs.declared.program.Program.{Program}
use Rattle.il_model.specs.Canonical.{canonical_text}
use Rattle.rgctx_template.specs.BodyRows.{AreKeptBodies}
use Rattle.rgctx_template.specs.GotEntries.{AreKeptEntries}
use Rattle.std.specs.Prelude.{IfOk}
use Rattle.mn_outside.specs.declared.outside.Refused.{Refused}
use Rattle.aot_image.specs.declared.image.Image.{Image}
use Rattle.aot_image.specs.declared.image.ImageFault.{ImageFault}
use Rattle.aot_image.specs.declared.image.ImageCause.{ImageCause}
use Rattle.aot_image.specs.declared.image.ImageCause.TheVariants as cause
use Rattle.aot_image.specs.declared.decoding.Counts.{Counts}
use Rattle.aot_image.specs.ImageSpelling.{word, magic, version, body_bytes, entry_bytes, head_bytes, table_bytes, image_bytes, ImageData}
use Rattle.aot_image.specs.ImageReading.{Left, Read, Reader, and_then, require, fault_at, whole, read_bytes, read_word, read_mark, read_counts, read_bodies_from, read_entries_from, read_words_from, read_end, read_tables}
use Rattle.aot_image.specs.ImageForm.{IsTextOf, HasText, IsImage, BodyFits, EntryFits, Decodes, in_head, in_text, of_text, behind_text, result_of, data_of, Answers}
use Rattle.aot_image.proofs.StepLaws.{refusal, value_of, rest_of, stepped, IsBytes, Took, took_none, took_then, bytes_sound, wide32, number_sound}
use Rattle.aot_image.proofs.BodyLaws.{BodiesRead, bodies_sound, are_kept}
use Rattle.aot_image.proofs.EntryLaws as entries

-- ---- code and end

pub record WordsRead (n : ℕ) (found words : List ℕ) (left back : Left) : Type 0 where
  pub new : List ℕ
  pub is : words ≡ found ++ new
  pub took : Took left (flat_map word new) back
  pub count : length new ≡ n
  pub fits : AllByRecursion (λ w. w < 2 ^ 32) new

words_sound : (n : ℕ) (found : List ℕ) (left : Left) (words : List ℕ) (back : Left) → IsBytes left.bytes → read_words_from n found left ≡ Ok (words, back) → WordsRead n found words left back
unfolding read_words_from
words_sound zero found left words back fits e =
    let same : found ≡ words = value_of found words left back e in
    let stays : left ≡ back = rest_of found words left back e in
    record { new = []; is = sym same ∙ sym (append-nil found); took = subst (λ (l : Left). Took left [] l) stays (took_none left fits); count = refl; fits = tt }
words_sound (suc n) found left words back fits e =
    stepped (read_word left) (λ w more. read_words_from n (found ++ w ∷ []) more) words back e
    (λ w mid e1 e2.
    let one = number_sound w32 (2 ^ 32) wide32 left w mid fits e1 in
    let others = words_sound n (found ++ w ∷ []) mid words back one.0.fits e2 in
    record {
      new = w ∷ others.new;
      is = others.is ∙ append_assoc found (w ∷ []) others.new;
      took = took_then left mid back (word w) (flat_map word others.new) one.0 others.took;
      count = ap suc others.count;
      fits = (one.1, others.fits);
    })

end_by : (b : Bool) (left : Left) (u : Unit {0}) (back : Left) → eqb (length left.bytes) 0 ≡ b →
    (let r : Read (Unit {0}) = cond b (Ok (tt, left)) (Err (fault_at left.at cause.Trailing)) in r ≡ Ok (u, back)) → left.bytes ≡ []
end_by true left u back none e = nil_from_length left.bytes (eqb-true _ _ none)
end_by false left u back some e = refusal (fault_at left.at cause.Trailing) u back e

end_sound : (left : Left) (u : Unit {0}) (back : Left) → read_end left ≡ Ok (u, back) → left.bytes ≡ []
unfolding read_end
end_sound left u back e = end_by (eqb (length left.bytes) 0) left u back refl e

-- ---- tables

pub record TablesRead (program : Program) (counts : Counts) (image : ImageData) (left : Left) : Type 0 where
  pub program_is : image.program ≡ program
  pub split : left.bytes ≡ table_bytes image
  pub bodies_are : length image.bodies ≡ counts.bodies
  pub got_are : length image.got ≡ counts.got
  pub code_is : length image.code ≡ counts.code
  pub bodies : AreKeptBodies program (length image.code) image.bodies
  pub got : AreKeptEntries program image.got
  pub rows : AllByRecursion BodyFits image.bodies
  pub entries : AllByRecursion EntryFits image.got
  pub words : AllByRecursion (λ w. w < 2 ^ 32) image.code

tables_made : (program : Program) (counts : Counts) (left a b c : Left) (bodies : List BodyRow) (got : List Entry) (code : List ℕ) →
    BodiesRead program counts.code counts.bodies [] bodies left a → entries.EntriesRead program counts.got [] got a b → WordsRead counts.code [] code b c → c.bytes ≡ [] →
    TablesRead program counts (record { program = program; bodies = bodies; got = got; code = code }) left
tables_made program counts left a b c bodies got code read_bodies read_got read_code none =
    let image : ImageData = record { program = program; bodies = bodies; got = got; code = code } in
    let code_is : length code ≡ counts.code = ap length read_code.is ∙ read_code.count in
    let kept_bodies : AreKeptBodies program counts.code bodies =
    subst (λ (rows : List BodyRow). AreKeptBodies program counts.code rows) (sym read_bodies.is) (are_kept program counts.code read_bodies.new read_bodies.kept) in
    let first : Took left (flat_map body_bytes bodies) a = subst (λ (rows : List BodyRow). Took left (flat_map body_bytes rows) a) (sym read_bodies.is) read_bodies.took in
    let second : Took a (flat_map entry_bytes got) b = subst (λ (es : List Entry). Took a (flat_map entry_bytes es) b) (sym read_got.is) read_got.took in
    let third : Took b (flat_map word code) c = subst (λ (ws : List ℕ). Took b (flat_map word ws) c) (sym read_code.is) read_code.took in
    let all = took_then left a c (flat_map body_bytes bodies) (flat_map entry_bytes got ++ flat_map word code) first (took_then a b c (flat_map entry_bytes got) (flat_map word code) second third) in
    record {
      program_is = refl;
      split = all.split ∙ ap (λ (r : List ℕ). table_bytes image ++ r) none ∙ append-nil (table_bytes image);
      bodies_are = ap length read_bodies.is ∙ read_bodies.count_is;
      got_are = ap length read_got.is ∙ read_got.count;
      code_is = code_is;
      bodies = subst (λ (k : ℕ). AreKeptBodies program k bodies) (sym code_is) kept_bodies;
      got = subst (λ (es : List Entry). AreKeptEntries program es) (sym read_got.is) (entries.are_kept program read_got.new read_got.kept);
      rows = subst (λ (rows : List BodyRow). AllByRecursion BodyFits rows) (sym read_bodies.is) read_bodies.fits;
      entries = subst (λ (es : List Entry). AllByRecursion EntryFits es) (sym read_got.is) read_got.fits;
      words = subst (λ (ws : List ℕ). AllByRecursion (λ w. w < 2 ^ 32) ws) (sym read_code.is) read_code.fits;
    }

tables_sound : (program : Program) (counts : Counts) (left : Left) (image : ImageData) (back : Left) → IsBytes left.bytes → read_tables program counts left ≡ Ok (image, back) →
    TablesRead program counts image left
unfolding read_tables
tables_sound program counts left image back fits e =
    stepped (read_bodies_from program counts.code counts.bodies [] left)
    (λ bodies more. and_then (read_entries_from program counts.got [] more) (λ got more. and_then (read_words_from counts.code [] more) (λ code more.
    and_then (read_end more) (λ _ more. Ok (record { program = program; bodies = bodies; got = got; code = code }, more)))))
    image back e
    (λ bodies a e1 e2.
    let read_bodies = bodies_sound program counts.code counts.bodies [] left bodies a fits e1 in
    stepped (read_entries_from program counts.got [] a)
    (λ got more. and_then (read_words_from counts.code [] more) (λ code more. and_then (read_end more) (λ _ more. Ok (record { program = program; bodies = bodies; got = got; code = code }, more))))
    image back e2
    (λ got b e3 e4.
    let read_got = entries.entries_sound program counts.got [] a got b read_bodies.took.fits e3 in
    stepped (read_words_from counts.code [] b) (λ code more. and_then (read_end more) (λ _ more. Ok (record { program = program; bodies = bodies; got = got; code = code }, more))) image back e4
    (λ code c e5 e6.
    let read_code = words_sound counts.code [] b code c read_got.took.fits e5 in
    stepped (read_end c) (λ _ more. Ok (record { program = program; bodies = bodies; got = got; code = code }, more)) image back e6
    (λ u d e7 e8.
    let made : ImageData = record { program = program; bodies = bodies; got = got; code = code } in
    subst (λ (i : ImageData). TablesRead program counts i left) (value_of made image d back e8)
    (tables_made program counts left a b c bodies got code read_bodies read_got read_code (end_sound c u d e7))))))

-- ---- the front

stepped_require : {B C : Type 0} (offset : ℕ) (why : ImageCause) (b : Bool) (left : Left) (next : Unit {0} → Reader B) (y : B) (back : Left) →
    and_then (require offset why b left) next ≡ Ok (y, back) → (b ≡ true → next tt left ≡ Ok (y, back) → C) → C
stepped_require offset why true left next y back e go = go refl e
stepped_require offset why false left next y back e go = refusal (fault_at offset why) y back e

required : {C : Type 0} (offset : ℕ) (why : ImageCause) (b : Bool) (left : Left) (u : Unit {0}) (back : Left) → require offset why b left ≡ Ok (u, back) → (b ≡ true → left ≡ back → C) → C
required offset why true left u back e go = go refl (rest_of tt u left back e)
required offset why false left u back e go = refusal (fault_at offset why) u back e

mark_sound : (left : Left) (u : Unit {0}) (back : Left) → IsBytes left.bytes → read_mark left ≡ Ok (u, back) → Took left (magic ++ word version) back
unfolding read_mark
mark_sound left u back fits e =
    stepped (read_bytes 8 left)
    (λ front more. and_then (require 0 cause.Magic (bytes_eq front magic) more) (λ _ more. and_then (read_word more) (λ n more. require 8 cause.Version (n == version) more)))
    u back e
    (λ front a e1 e2.
    let first = bytes_sound 8 left front a fits e1 in
    stepped_require 0 cause.Magic (bytes_eq front magic) a (λ _ more. and_then (read_word more) (λ n more. require 8 cause.Version (n == version) more)) u back e2
    (λ same e3.
    stepped (read_word a) (λ n more. require 8 cause.Version (n == version) more) u back e3
    (λ n b e4 e5.
    let second = number_sound w32 (2 ^ 32) wide32 a n b first.0.0.fits e4 in
    required 8 cause.Version (n == version) b u back e5
    (λ is stays.
    let is_magic : front ≡ magic = (bytes_eq-Decides front magic).0 same in
    let is_version : n ≡ version = eqb-true n version is in
    subst (λ (l : Left). Took left (magic ++ word version) l) stays
    (took_then left a b magic (word version) (subst (λ (bs : List ℕ). Took left bs a) is_magic first.0.0) (subst (λ (k : ℕ). Took a (word k) b) is_version second.0))))))

-- the counts that were read, and what they fit
pub record CountsRead (counts : Counts) (left back : Left) : Type 0 where
  pub took : Took left (head_bytes counts.text counts.bodies counts.got counts.code) back
  pub text : counts.text < 2 ^ 32
  pub bodies : counts.bodies < 2 ^ 32
  pub got : counts.got < 2 ^ 32
  pub code : counts.code < 2 ^ 32

counts_sound : (left : Left) (counts : Counts) (back : Left) → IsBytes left.bytes → read_counts left ≡ Ok (counts, back) → CountsRead counts left back
unfolding read_counts
counts_sound left counts back fits e =
    stepped (read_mark left)
    (λ _ more. and_then (read_word more) (λ text more. and_then (read_word more) (λ bodies more. and_then (read_word more) (λ got more. and_then (read_word more) (λ code more.
    Ok (record { text = text; bodies = bodies; got = got; code = code }, more))))))
    counts back e
    (λ u a e1 e2.
    let mark = mark_sound left u a fits e1 in
    stepped (read_word a)
    (λ text more. and_then (read_word more) (λ bodies more. and_then (read_word more) (λ got more. and_then (read_word more) (λ code more.
    Ok (record { text = text; bodies = bodies; got = got; code = code }, more)))))
    counts back e2
    (λ text b e3 e4.
    let first = number_sound w32 (2 ^ 32) wide32 a text b mark.fits e3 in
    stepped (read_word b)
    (λ bodies more. and_then (read_word more) (λ got more. and_then (read_word more) (λ code more. Ok (record { text = text; bodies = bodies; got = got; code = code }, more))))
    counts back e4
    (λ bodies c e5 e6.
    let second = number_sound w32 (2 ^ 32) wide32 b bodies c first.0.fits e5 in
    stepped (read_word c) (λ got more. and_then (read_word more) (λ code more. Ok (record { text = text; bodies = bodies; got = got; code = code }, more))) counts back e6
    (λ got d e7 e8.
    let third = number_sound w32 (2 ^ 32) wide32 c got d second.0.fits e7 in
    stepped (read_word d) (λ code more. Ok (record { text = text; bodies = bodies; got = got; code = code }, more)) counts back e8
    (λ code last e9 e10.
    let fourth = number_sound w32 (2 ^ 32) wide32 d code last third.0.fits e9 in
    let made : Counts = record { text = text; bodies = bodies; got = got; code = code } in
    let four : Took a (word text ++ (word bodies ++ (word got ++ word code))) last =
    took_then a b last (word text) (word bodies ++ (word got ++ word code)) first.0
    (took_then b c last (word bodies) (word got ++ word code) second.0 (took_then c d last (word got) (word code) third.0 fourth.0)) in
    let all = took_then left a last (magic ++ word version) (word text ++ (word bodies ++ (word got ++ word code))) mark four in
    let regrouped : (magic ++ word version) ++ (word text ++ (word bodies ++ (word got ++ word code))) ≡ head_bytes text bodies got code =
    append_assoc magic (word version) (word text ++ (word bodies ++ (word got ++ word code))) in
    let read : CountsRead made left last = record {
      took = subst (λ (bs : List ℕ). Took left bs last) regrouped all;
      text = first.1;
      bodies = second.1;
      got = third.1;
      code = fourth.1;
    } in
    subst (λ (l : Left). CountsRead counts left l) (rest_of made counts last back e10) (subst (λ (k : Counts). CountsRead k left last) (value_of made counts last back e10) read))))))

-- ---- the whole

image_is : (x y : ImageData) → (let r : Result ImageData ImageFault = Ok x in r ≡ Ok y) → x ≡ y
image_is x y e = cc

text_fits : (bytes : List ℕ) (counts : Counts) (text : List ℕ) (left : Left) → IsBytes bytes → HasText bytes counts text left → IsBytes left.bytes
text_fits bytes counts text left fits has =
    let head = counts_sound (whole bytes) counts has.front fits has.head in
    (bytes_sound counts.text has.front text left head.took.fits has.text_is).0.0.fits

result_ok : (r : Read ImageData) (image : ImageData) → result_of r ≡ Ok image → (back : Left) × (r ≡ Ok (image, back))
result_ok (Ok p) image e = (p.1, ap (λ (i : ImageData). Ok (i, p.1)) (image_is p.0 image e))
result_ok (Err f) image e = absurd cc

image_made : (bytes : List ℕ) (counts : Counts) (text : List ℕ) (left : Left) (p : Program) (image : ImageData) → IsBytes bytes → HasText bytes counts text left → IsTextOf text p →
    TablesRead p counts image left → IsImage image × (bytes ≡ image_bytes image)
image_made bytes counts text left p image fits has of tables =
    let head = counts_sound (whole bytes) counts has.front fits has.head in
    let body = bytes_sound counts.text has.front text left head.took.fits has.text_is in
    let same : p ≡ image.program = sym tables.program_is in
    let text_is : text ≡ canonical_text image.program = of.canonical ∙ ap canonical_text same in
    let count : length (canonical_text image.program) ≡ counts.text = sym (ap length text_is) ∙ body.0.1 in
    let spelled : head_bytes counts.text counts.bodies counts.got counts.code ++ (text ++ left.bytes) ≡ image_bytes image =
    rw (← count, ← tables.bodies_are, ← tables.got_are, ← tables.code_is, text_is, tables.split) refl in (
      record {
        text = subst (λ (q : Program). IsTextOf (canonical_text image.program) q) same (subst (λ (t : List ℕ). IsTextOf t p) text_is of);
        bodies = subst (λ (q : Program). AreKeptBodies q (length image.code) image.bodies) same tables.bodies;
        got = subst (λ (q : Program). AreKeptEntries q image.got) same tables.got;
        fits = record {
          text = subst (λ k. k < 2 ^ 32) (sym count) head.text;
          bodies = subst (λ k. k < 2 ^ 32) (sym tables.bodies_are) head.bodies;
          got = subst (λ k. k < 2 ^ 32) (sym tables.got_are) head.got;
          code = subst (λ k. k < 2 ^ 32) (sym tables.code_is) head.code;
          rows = tables.rows;
          entries = tables.entries;
          words = tables.words;
        };
      },
      head.took.split
          ∙ ap (λ (r : List ℕ). head_bytes counts.text counts.bodies counts.got counts.code ++ r) body.0.0.split
          ∙ spelled,
    )

-- what is decoded is an image, and the bytes are its spelling
pub decoded_is : (bytes : List ℕ) (r : Result ImageData ImageFault) → IsBytes bytes → Decodes bytes r → (image : ImageData) → r ≡ Ok image → IsImage image × (bytes ≡ image_bytes image)
decoded_is bytes _ fits (in_head fault h) image e = absurd cc
decoded_is bytes _ fits (in_text counts front fault head h) image e = absurd cc
decoded_is bytes _ fits (of_text counts text left has none) image e = absurd cc
decoded_is bytes r fits (behind_text counts text left p _ has of h) image e =
    let read = result_ok (read_tables p counts left) image (h ∙ e) in
    image_made bytes counts text left p image fits has of (tables_sound p counts left image read.0 (text_fits bytes counts text left fits has) read.1)

pub found_of : (bytes : List ℕ) (r : Result Image (Refused ImageFault)) → IsBytes bytes → Answers bytes r → IfOk r (λ image. IsImage (data_of image) × (bytes ≡ image_bytes (data_of image)))
found_of bytes (Ok image) fits h = decoded_is bytes (Ok (data_of image)) fits h (data_of image) refl
found_of bytes (Err e) fits h = tt
