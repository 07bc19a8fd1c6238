-- How the fields of a world hold the store. This project's own.
use Rattle.std.specs.Prelude.{◌≡◌, ℕ, ◌+◌, ◌*◌, ◌<◌, ◌≤◌, List, map, Bool, ◌&&◌, ◌==◌, Some, unwrap_or, slice_get, slice_index, vec_len}
use Rattle.std.specs.HashMap as hash
use Rattle.store_object.specs.declared.limits.TheConstants.{HEAP_LIMIT, OBJECT_COST}
use Rattle.store_object.specs.declared.objects.Object.{Object}
use Rattle.store_object.specs.declared.objects.Objects.{Objects}
use Rattle.store_object.specs.declared.statics.StaticPlace.{StaticPlace}
use Rattle.store_object.specs.declared.statics.Statics.{Statics}
use Rattle.store_object.specs.Store.{Store, Shape, heap_of}

-- Objects ---------------------------------------------------------------

abbrev pub shape_in : Object → Shape
shape_in o = record { kind = o.kind; length = o.length; words = o.words }

-- each object's words lie among all words, and two objects have none in common
pub record IsLaid (table : List Object) (size : ℕ) : Type 0 where
  pub within : (k : ℕ) (o : Object) → slice_get table k ≡ Some o → o.from + o.words ≤ size
  pub apart : (k m : ℕ) (o p : Object) → slice_get table k ≡ Some o → slice_get table m ≡ Some p → k < m → o.from + o.words ≤ p.from

-- the objects and their words are those of the store
pub record HoldsObjects (objects : Objects) (s : Store) : Type 0 where
  pub shapes : s.shapes ≡ map shape_in objects.table.items
  pub words : (k i : ℕ) (o : Object) → slice_get objects.table.items k ≡ Some o → i < o.words → slice_index objects.words.items (o.from + i) ≡ s.word (k + 1) i
  pub laid : IsLaid objects.table.items (vec_len objects.words)
  pub heap : heap_of s.shapes ≡ OBJECT_COST * vec_len objects.table + vec_len objects.words
  pub limit : OBJECT_COST * vec_len objects.table + vec_len objects.words ≤ HEAP_LIMIT

-- Static words ----------------------------------------------------------

abbrev pub is_same_place : StaticPlace → StaticPlace → Bool
is_same_place p q = (p.kind == q.kind) && (p.index == q.index)

abbrev pub fixed_in : Statics → ℕ → ℕ → ℕ
fixed_in statics kind index = unwrap_or (hash.get is_same_place statics.words (record { kind = kind; index = index })) 0

-- the static words are those of the store; each that was never written is 0
abbrev pub HoldsStatics : Statics → Store → Type 0
HoldsStatics statics s = (kind index : ℕ) → fixed_in statics kind index ≡ s.fixed kind index
