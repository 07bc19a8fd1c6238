-- The image form: what an image must satisfy, and what bytes give: an image, or their first fault. This project's own.
use Rattle.std.specs.Prelude.{◌≡◌, ℕ, ◌<◌, ◌^◌, Bool, true, ◌&&◌, List, length, nat_lt, None, Result, Ok, Err, ⊤}
use Rattle.std.specs.List.{list_all, AllByRecursion}
use Rattle.type_tree.specs.declared.tree.TExpr.{TExpr}
use Rattle.type_tree.specs.declared.tree.TNode.{TNode}
use Rattle.type_tree.specs.declared.tree.TNode.TheVariants.{Node, ClassVar, MethodVar}
use Rattle.type_tree.specs.Tree.{folded}
use Rattle.mn_outside.specs.declared.outside.Refused.{Refused}
use Rattle.mn_outside.specs.declared.outside.Refused.TheVariants as refused
use Rattle.il_model.specs.declared.written.WrittenClass.{WrittenClass}
use Rattle.il_model.specs.declared.key.BodyRow.{BodyRow}
use Rattle.il_model.specs.declared.entry.Entry.{Entry}
use Rattle.il_model.specs.declared.entry.Entry.TheVariants as entry
use Rattle.il_model.specs.declared.program.Program.{Program}
use Rattle.il_model.specs.Accepted.{IsProgramText}
use Rattle.il_model.specs.Canonical.{canonical_text}
use Rattle.rgctx_template.specs.BodyRows.{exact_types, AreKeptBodies}
use Rattle.rgctx_template.specs.GotEntries.{trees_of, AreKeptEntries}
use Rattle.cil_verify.specs.declared.verified.Verified.{Verified}
use Rattle.cil_verify.specs.WellTyped.{IsWellTyped}
use Rattle.cil_verify.specs.Forms.{first_unbuilt}
use Rattle.cil_verify.specs.Verifies.{IsVerified}
use Rattle.aot_image.specs.declared.image.Image.{Image}
use Rattle.aot_image.specs.declared.image.ImageFault.{ImageFault}
use Rattle.aot_image.specs.declared.image.ImageCause.TheVariants as cause
use Rattle.aot_image.specs.ImageSpelling.{definition_number, ImageData}
use Rattle.aot_image.specs.declared.image.ReadError.{ReadError}
use Rattle.aot_image.specs.declared.image.ReadError.TheVariants as error
use Rattle.aot_image.specs.declared.decoding.Counts.{Counts}
use Rattle.aot_image.specs.ImageReading.{Read, Left, whole, fault_at, read_bytes, read_counts, read_tables}

-- ---- texts

-- the text is the canonical text of this program: it is accepted as the program, whose forms are built and which is well-typed
pub record IsTextOf (text : List ℕ) (p : Program) : Type 0 where
  pub classes : List WrittenClass
  pub is : IsProgramText text classes p
  pub built : first_unbuilt p ≡ None
  pub typed : IsWellTyped p
  pub canonical : text ≡ canonical_text p

-- the text is accepted as this program
pub record IsOf (text : List ℕ) (p : Program) : Type 0 where
  pub classes : List WrittenClass
  pub is : IsProgramText text classes p

abbrev pub IsTextOfNone : List ℕ → Type 0
IsTextOfNone text = (p : Program) → ¬ (IsTextOf text p)

-- ---- what has a spelling

-- whether a definition's number has two bytes
abbrev pub level_fits : TNode Bool → Bool
level_fits (Node h parts) = nat_lt (definition_number h) (2 ^ 16) && list_all (λ part. part) parts
level_fits (ClassVar n) = true
level_fits (MethodVar n) = true

-- whether the number of each definition in a tree has two bytes
abbrev pub tree_fits : TExpr → Bool
tree_fits = folded level_fits

pub record BodyFits (row : BodyRow) : Type 0 where
  pub method : row.method < 2 ^ 16
  pub parts : length row.key.parts < 2 ^ 8
  pub trees : list_all tree_fits (exact_types row.key.parts) ≡ true
  pub handlers : length row.handlers < 2 ^ 8

abbrev pub numbers_fit : Entry → Type 0
numbers_fit (entry.Kind t) = ⊤
numbers_fit (entry.Method number c args) = number < 2 ^ 16
numbers_fit (entry.Size t) = ⊤
numbers_fit (entry.Extent t) = ⊤
numbers_fit (entry.Offset c place) = place < 2 ^ 16
numbers_fit (entry.Slot number) = ⊤

pub record EntryFits (e : Entry) : Type 0 where
  pub numbers : numbers_fit e
  pub trees : list_all tree_fits (trees_of e) ≡ true

-- each number has the bytes of its field
pub record FitsFields (image : ImageData) : Type 0 where
  pub text : length (canonical_text image.program) < 2 ^ 32
  pub bodies : length image.bodies < 2 ^ 32
  pub got : length image.got < 2 ^ 32
  pub code : length image.code < 2 ^ 32
  pub rows : AllByRecursion BodyFits image.bodies
  pub entries : AllByRecursion EntryFits image.got
  pub words : AllByRecursion (λ w. w < 2 ^ 32) image.code

-- ---- images

-- what is asked of an image
pub record IsImage (image : ImageData) : Type 0 where
  pub text : IsTextOf (canonical_text image.program) image.program
  pub bodies : AreKeptBodies image.program (length image.code) image.bodies
  pub got : AreKeptEntries image.program image.got
  pub fits : FitsFields image

-- an image without the states of its program
abbrev pub data_of : Image → ImageData
data_of image = record { program = image.program.program; bodies = image.bodies; got = image.got; code = image.code }

-- ---- what bytes give

-- the offset of the text
abbrev pub text_at : ℕ
text_at = 28

abbrev pub result_of : Read ImageData → Result ImageData ImageFault
result_of (Ok p) = Ok p.0
result_of (Err fault) = Err fault

-- the counts before the text, the text, and the bytes behind it
pub record HasText (bytes : List ℕ) (counts : Counts) (text : List ℕ) (left : Left) : Type 0 where
  pub front : Left
  pub head : read_counts (whole bytes) ≡ Ok (counts, front)
  pub text_is : read_bytes counts.text front ≡ Ok (text, left)

-- what bytes give: the first fault before the text, a text that is not whole or that is that of no program, or what the tables behind it give
pub data Decodes (bytes : List ℕ) : Result ImageData ImageFault → Type 0 where
  in_head : (fault : ImageFault) → read_counts (whole bytes) ≡ Err fault → Decodes bytes (Err fault)
  in_text : (counts : Counts) (front : Left) (fault : ImageFault) → read_counts (whole bytes) ≡ Ok (counts, front) → read_bytes counts.text front ≡ Err fault →
      Decodes bytes (Err fault)
  of_text : (counts : Counts) (text : List ℕ) (left : Left) → HasText bytes counts text left → IsTextOfNone text → Decodes bytes (Err (fault_at text_at cause.BadText))
  behind_text : (counts : Counts) (text : List ℕ) (left : Left) (p : Program) (read : Result ImageData ImageFault) → HasText bytes counts text left → IsTextOf text p →
      result_of (read_tables p counts left) ≡ read → Decodes bytes read

-- what a call answers of bytes; want of memory says nothing
abbrev pub Answers : List ℕ → Result Image (Refused ImageFault) → Type 0
Answers bytes (Ok image) = Decodes bytes (Ok (data_of image))
Answers bytes (Err (refused.Fault fault)) = Decodes bytes (Err fault)
Answers bytes (Err refused.NoMemory) = ⊤

-- the answer is this image, unless memory ran out
abbrev pub IsDecodedAs : ImageData → Result Image (Refused ImageFault) → Type 0
IsDecodedAs image (Ok decoded) = data_of decoded ≡ image
IsDecodedAs image (Err (refused.Fault fault)) = ⊥
IsDecodedAs image (Err refused.NoMemory) = ⊤

-- what the decoder gives of bytes, by its own error
abbrev pub Gives : List ℕ → Result Image ReadError → Type 0
Gives bytes (Ok image) = Decodes bytes (Ok (data_of image))
Gives bytes (Err (error.Fault fault)) = Decodes bytes (Err fault)
Gives bytes (Err error.Memory) = ⊤

-- what is answered of a text: the program whose canonical text it is, as the verifier gives it, or that it is that of none
abbrev pub JudgesText : List ℕ → Result Verified ReadError → Type 0
JudgesText text (Ok v) = IsTextOf text v.program × IsVerified v
JudgesText text (Err (error.Fault fault)) = (fault ≡ fault_at text_at cause.BadText) × IsTextOfNone text
JudgesText text (Err error.Memory) = ⊤
