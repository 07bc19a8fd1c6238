-- What the parser, the printer and the verifier say of a text, and what follows for the bytes of an image.
use Rattle.std.proofs.Common.{◌≡◌, ◌∙◌, ℕ, inl, inr, List, Some, None, option_map, Result, Ok, Err, refl, sym, ap, subst}
use Rattle.il_model.specs.declared.written.WrittenClass.{WrittenClass}
use Rattle.il_model.specs.declared.program.Program.{Program}
use Rattle.il_model.specs.Accepted.{IsProgramText}
use Rattle.il_model.specs.Canonical.{canonical_text}
use Rattle.il_model.specs.ClassRules.{HasTypes}
use Rattle.il_parse.specs.declared.answer.Parsed.{Parsed}
use Rattle.il_parse.specs.Accepted.{IsAccepted, IsOfNone}
use Rattle.cil_verify.specs.declared.fault.VerifyFault.{VerifyFault}
use Rattle.cil_verify.specs.declared.verified.Verified.{Verified}
use Rattle.cil_verify.specs.WellTyped.{IsWellTyped}
use Rattle.cil_verify.specs.Forms.{first_unbuilt}
use Rattle.cil_verify.specs.Verifies.{IsVerified, IsRefused, not_built_at}
use Rattle.cil_verify.proofs.RefusalLemmas.{refused_is_not_typed}
use Rattle.cil_verify.proofs.Examples.{has_types}
use Rattle.aot_image.specs.declared.image.Image.{Image}
use Rattle.aot_image.specs.declared.image.ImageFault.{ImageFault}
use Rattle.aot_image.specs.declared.image.ImageCause.TheVariants as cause
use Rattle.aot_image.specs.declared.image.ReadError.{ReadError}
use Rattle.aot_image.specs.declared.image.ReadError.TheVariants as error
use Rattle.aot_image.specs.declared.decoding.Counts.{Counts}
use Rattle.aot_image.specs.ImageReading.{Left, Reads, ReadsAs, whole, fault_at, read_counts, read_bytes, read_tables}
use Rattle.aot_image.specs.ImageForm.{IsOf, IsTextOf, IsTextOfNone, HasText, Decodes, in_head, in_text, of_text, behind_text, result_of, data_of, text_at, Gives, JudgesText}

some_none : {A : Type 0} (x : A) → Some x ≡ None → ⊥
some_none x e = cc

-- ---- texts

pub of_accepted : (text : List ℕ) (a : Parsed) → IsAccepted text a → IsOf text a.program
of_accepted text a is = record { classes = is.classes; is = is.is }

pub none_of_none : (text : List ℕ) → IsOfNone text → IsTextOfNone text
none_of_none text none = λ p is. none is.classes p is.is

-- the law that a text is one program at most
abbrev pub OneProgram : Type 0
OneProgram = (text : List ℕ) (some others : List WrittenClass) (p q : Program) → IsProgramText text some p → IsProgramText text others q → p ≡ q

-- the text is that of no program
pub text_refused : (text : List ℕ) (e : ReadError) → e ≡ error.Fault (fault_at text_at cause.BadText) → IsTextOfNone text → (let r : Result Verified ReadError = Err e in JudgesText text r)
text_refused text e is none = subst (λ (x : ReadError). (let r : Result Verified ReadError = Err x in JudgesText text r)) (sym is) (refl, none)

pub not_canonical : OneProgram → (text : List ℕ) (program : Program) → IsOf text program → (text ≡ canonical_text program → ⊥) → IsTextOfNone text
not_canonical one text program of other =
    λ p is. other (is.canonical ∙ ap canonical_text (one text is.classes of.classes p program is.is of.is))

refused_by : (program : Program) (f : VerifyFault) → IsRefused program f → first_unbuilt program ≡ None → IsWellTyped program → ⊥
refused_by program f (inl e) built typed = some_none f (sym e ∙ ap (option_map not_built_at) built)
refused_by program f (inr refused) built typed = refused_is_not_typed program f refused.1 typed

pub not_verified : OneProgram → (text : List ℕ) (program : Program) (f : VerifyFault) → IsOf text program → IsRefused program f → IsTextOfNone text
not_verified one text program f of refused =
    λ p is.
    let same : p ≡ program = one text is.classes of.classes p program is.is of.is in
    refused_by program f refused (ap first_unbuilt (sym same) ∙ is.built) (subst (λ (q : Program). IsWellTyped q) same is.typed)

pub text_of : (text : List ℕ) (program : Program) (v : Verified) → IsOf text program → text ≡ canonical_text program → (v.program ≡ program) → IsVerified v → IsTextOf text v.program
text_of text program v of canonical same is =
    record {
      classes = of.classes;
      is = subst (λ (q : Program). IsProgramText text of.classes q) (sym same) of.is;
      built = is.built;
      typed = is.well_typed;
      canonical = canonical ∙ ap canonical_text (sym same);
    }

pub judged : (text : List ℕ) (program : Program) (v : Verified) → IsOf text program → text ≡ canonical_text program → (v.program ≡ program) × IsVerified v →
    (let r : Result Verified ReadError = Ok v in JudgesText text r)
judged text program v of canonical both = (text_of text program v of canonical both.0 both.1, both.1)

pub types_of_text : (text : List ℕ) (p : Program) → IsTextOf text p → HasTypes p
types_of_text text p is = has_types p is.typed

-- ---- bytes

module _ (bytes : List ℕ) (start : Left) (is_start : start ≡ whole bytes) where
  head_gives : (e : ReadError) (left : Left) → (let r : Result Counts ReadError = Err e in Reads (read_counts (whole bytes)) r left) →
      (let r : Result Image ReadError = Err e in Gives bytes r)
  head_gives error.Memory left h = tt
  head_gives (error.Fault f) left h = in_head f h

  -- the first fault is one of the fields before the text
  pub head_handed : (e : ReadError) (r : Result Image ReadError) (left : Left) → r ≡ Err e → (let s : Result Counts ReadError = Err e in Reads (read_counts start) s left) → Gives bytes r
  head_handed e r left is h =
      subst (λ (x : Result Image ReadError). Gives bytes x) (sym is)
      (head_gives e left (subst (λ (l : Left). (let s : Result Counts ReadError = Err e in Reads (read_counts l) s left)) is_start h))

  module _ (counts : Counts) (front : Left) (head : read_counts start ≡ Ok (counts, front)) where
    head_is : read_counts (whole bytes) ≡ Ok (counts, front)
    head_is = ap read_counts (sym is_start) ∙ head

    text_gives : {X : Type 0} (view : X → List ℕ) (e : ReadError) (left : Left) → (let s : Result X ReadError = Err e in ReadsAs view (read_bytes counts.text front) s left) →
        (let r : Result Image ReadError = Err e in Gives bytes r)
    text_gives view error.Memory left h = tt
    text_gives view (error.Fault f) left h = in_text counts front f head_is h

    -- the text is not whole
    pub text_handed : {X : Type 0} (view : X → List ℕ) (e : ReadError) (r : Result Image ReadError) (left : Left) → r ≡ Err e →
        (let s : Result X ReadError = Err e in ReadsAs view (read_bytes counts.text front) s left) → Gives bytes r
    text_handed view e r left is h = subst (λ (x : Result Image ReadError). Gives bytes x) (sym is) (text_gives view e left h)

    module _ (text : List ℕ) (left : Left) (text_is : read_bytes counts.text front ≡ Ok (text, left)) where
      has_text : HasText bytes counts text left
      has_text = record { front = front; head = head_is; text_is = text_is }

      program_gives : (e : ReadError) → (let r : Result Verified ReadError = Err e in JudgesText text r) → (let r : Result Image ReadError = Err e in Gives bytes r)
      program_gives error.Memory h = tt
      program_gives (error.Fault f) h = subst (λ (x : ImageFault). Decodes bytes (Err x)) (sym h.0) (of_text counts text left has_text h.1)

      -- the text is that of no program
      pub program_handed : (e : ReadError) (r : Result Image ReadError) → r ≡ Err e → (let s : Result Verified ReadError = Err e in JudgesText text s) → Gives bytes r
      program_handed e r is h = subst (λ (x : Result Image ReadError). Gives bytes x) (sym is) (program_gives e h)

      -- what the tables behind the text give
      pub tables_give : (p : Program) (new : Left) (r : Result Image ReadError) → IsTextOf text p → ReadsAs data_of (read_tables p counts left) r new → Gives bytes r
      tables_give p new (Ok image) is h = behind_text counts text left p (Ok (data_of image)) has_text is (ap result_of h)
      tables_give p new (Err (error.Fault f)) is h = behind_text counts text left p (Err f) has_text is (ap result_of h)
      tables_give p new (Err error.Memory) is h = tt
