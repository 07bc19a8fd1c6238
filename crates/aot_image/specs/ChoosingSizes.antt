-- How the code judges a type before it builds it: in one pass, with a list of the arguments that are still to come. So no text makes a tree of too many positions. This project's own.
use Rattle.std.specs.Prelude.{◌≡◌, ℕ, zero, suc, ◌+◌, ◌*◌, ◌-◌, ◌<◌, ◌≤◌, ◌==◌, ◌&&◌, Bool, true, false, if◌then◌else◌, List, [], ◌∷◌, length, Option, Some, None, option_map, option_and_then, Result, Ok, Err, ⊤}
use Rattle.std.specs.List.{list_all, list_any}
use Rattle.il_text.specs.Spelling.{after_byte}
use Rattle.type_tree.specs.declared.tree.TExpr.{TExpr}
use Rattle.type_tree.specs.Positions.{positions_of}
use Rattle.il_model.specs.declared.key.KeyPart.{KeyPart}
use Rattle.il_model.specs.declared.key.KeyPart.TheVariants.{Ref, Any, Exact}
use Rattle.il_model.specs.declared.program.Program.{Program}
use Rattle.il_model.specs.Admission.{is_large}
use Rattle.aot_image.specs.declared.choice_keys.Word.{Word}
use Rattle.aot_image.specs.declared.choice_keys.Word.TheVariants as word
use Rattle.aot_image.specs.declared.choice_keys.Keys.{Keys}
use Rattle.aot_image.specs.declared.choice_sizes.Extent.{Extent}
use Rattle.aot_image.specs.declared.choice_read_error.ReadError.{ReadError}
use Rattle.aot_image.specs.declared.choice_read_error.ReadError.TheVariants as error
use Rattle.aot_image.specs.ChoosingTypes.{Read, Reader, mark_before, read_within}
use Rattle.rgctx_template.specs.BodyRows.{is_any}
use Rattle.aot_image.specs.ChoosingBounds.{is_closed, is_closed_part}

-- ---- the extent of a type

abbrev pub extent_with : ℕ → Bool → Extent
extent_with room closed = record { room = room; closed = closed }

-- one position more than a type may have
abbrev pub whole_extent : Extent
whole_extent = extent_with 257 true

-- what is left behind a type
abbrev pub behind_type : Extent → TExpr → Extent
behind_type e t = extent_with (e.room - positions_of t) (e.closed && is_closed t)

abbrev pub extent_of : TExpr → Extent
extent_of t = behind_type whole_extent t

-- ---- what is still to be read

-- what is done with the bytes that are left
abbrev pub Then : Type 0
Then = Extent → List ℕ → Option Extent

-- behind a type that is read
abbrev pub tallied : Extent → Read TExpr → Then → Option Extent
tallied e None next = None
tallied e (Some p) next = next (behind_type e p.0) p.1

-- behind a byte that must stand here
abbrev pub marked : ℕ → List ℕ → (List ℕ → Option Extent) → Option Extent
marked byte bytes next = option_and_then next (after_byte byte bytes)

-- `[]` as often as it comes, and what follows
unfoldable pub vectors_then : Then → Then
vectors_then next e [] = next e []
vectors_then next e (a ∷ []) = next e (a ∷ [])
vectors_then next e (a ∷ b ∷ rest) =
    if (a == 91) && (b == 93) then vectors_then next (extent_with (e.room - 1) e.closed) rest else next e (a ∷ b ∷ rest)

-- so many arguments, and what follows
unfoldable pub arguments_then : Reader TExpr → ℕ → Then → Then
arguments_then inner zero next e bytes = next e bytes
arguments_then inner (suc n) next e bytes =
    tallied e (inner bytes) (λ f rest. marked (mark_before n) rest (arguments_then inner n next f))

module _ (program : Program) (most : ℕ) where
  -- a type inside so many others
  abbrev pub type_inside : ℕ → Reader TExpr
  type_inside depth = read_within program (most - depth)

  -- what follows a whole type, where so many more arguments follow at each place that is not closed
  unfoldable pub behind : List ℕ → Then
  behind [] e bytes = if length bytes == 0 then Some e else None
  behind (k ∷ ks) e bytes =
      marked (mark_before k) bytes (arguments_then (type_inside (length (k ∷ ks))) k (vectors_then (behind ks)) e)

-- how far a type is read: the bytes that are left, the places that are not closed, and what is left of the extent
pub record At : Type 0 where
  pub bytes : List ℕ
  pub more : List ℕ
  pub extent : Extent

abbrev pub at : List ℕ → List ℕ → Extent → At
at bytes more e = record { bytes = bytes; more = more; extent = e }

-- what is still to be read gives: before a type, or behind one and the `[]`s that were read
abbrev pub left_at : Program → ℕ → Bool → At → Option Extent
left_at program most true s = tallied s.extent (type_inside program most (length s.more) s.bytes) (behind program most s.more)
left_at program most false s = vectors_then (behind program most s.more) s.extent s.bytes

abbrev pub size_of : At → ℕ
size_of s = length s.more + length s.bytes

abbrev pub turns_at : Bool → List ℕ → ℕ
turns_at true bytes = 2 * length bytes + 1
turns_at false bytes = 2 * length bytes

-- a step: what is still to be read gives the same
pub record Steps (program : Program) (before : Bool) (old : At) (after : Bool) (new : At) : Type 0 where
  pub same : (most : ℕ) → size_of old < most → left_at program most before old ≡ left_at program most after new
  pub within : size_of new ≤ size_of old
  pub less : turns_at after new.bytes < turns_at before old.bytes

-- what is answered in a step: whether a type comes next, or none where all is read
abbrev pub Goes : Program → Bool → At → Result (Option Bool) ReadError → At → Type 0
Goes program before old (Ok (Some after)) new = Steps program before old after new
Goes program before old (Ok None) new = (most : ℕ) → size_of old < most → left_at program most before old ≡ Some new.extent
Goes program before old (Err error.Malformed) new = (most : ℕ) → size_of old < most → left_at program most before old ≡ None
Goes program before old (Err error.Memory) new = ⊤

-- the extent of the type that is written, or that none is
abbrev pub Extends : Option TExpr → Result Extent ReadError → Type 0
Extends written (Ok e) = option_map extent_of written ≡ Some e
Extends written (Err error.Malformed) = written ≡ None
Extends written (Err error.Memory) = ⊤

-- the type that is written, or that none is
abbrev pub Gives : Option TExpr → Result TExpr ReadError → Type 0
Gives written (Ok t) = written ≡ Some t
Gives written (Err error.Malformed) = written ≡ None
Gives written (Err error.Memory) = ⊤

-- ---- keys

-- a key that is a type of too many positions
pub record IsLargeKey (key : Option KeyPart) (closed : Bool) : Type 0 where
  pub kind : TExpr
  pub is : key ≡ Some (Exact kind)
  pub large : is_large kind ≡ true
  pub closed_is : is_closed kind ≡ closed

abbrev pub IsWord : Option KeyPart → Word → Type 0
IsWord key (word.Part part) = key ≡ Some part
IsWord key (word.Large closed) = IsLargeKey key closed
IsWord key word.Malformed = key ≡ None

abbrev pub is_large_part : KeyPart → Bool
is_large_part Ref = false
is_large_part Any = false
is_large_part (Exact t) = is_large t

-- what the code keeps of keys: their parts where no type among them has too many positions
pub record StandFor (keys : Keys) (parts : List KeyPart) : Type 0 where
  pub count : keys.count ≡ length parts
  pub closed : keys.closed ≡ list_all is_closed_part parts
  pub some_any : keys.some_any ≡ list_any is_any parts
  pub all_any : keys.all_any ≡ list_all is_any parts
  pub small : keys.small ≡ true → keys.parts ≡ parts
  pub large : keys.small ≡ false → list_any is_large_part parts ≡ true

-- the parts are as many as the keys, where none is too large
abbrev pub IsCounted : Keys → Type 0
IsCounted keys = keys.small ≡ true → keys.count ≡ length keys.parts

pub record AreSome (expected : Option (List KeyPart)) (keys : Keys) : Type 0 where
  pub parts : List KeyPart
  pub is : expected ≡ Some parts
  pub stands : StandFor keys parts

abbrev pub AreKeys : Option (List KeyPart) → Option Keys → Type 0
AreKeys expected None = expected ≡ None
AreKeys expected (Some keys) = AreSome expected keys
