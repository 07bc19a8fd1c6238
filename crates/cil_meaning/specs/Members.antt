-- Fields, static fields, and words through a pointer. ECMA-335, Partition III; the requests are this project's own.
use Rattle.std.specs.Prelude.{ℕ, if◌then◌else◌, List, ◌∷◌, replicate, slice_get}
use Rattle.type_tree.specs.declared.tree.TExpr.{TExpr}
use Rattle.il_model.specs.declared.program.Program.{Program}
use Rattle.il_model.specs.declared.member.FRef.{FRef}
use Rattle.il_model.specs.Found.{field_found}
use Rattle.il_model.specs.Entries.{field_type}
use Rattle.il_model.specs.Layouts.{words_of}
use Rattle.interaction.specs.Process.{Stuck}
use Rattle.cil_meaning.specs.Values.{Pointer, Null, InFrame, InFresh, InObject, InStatic, Value, Plain, Managed, shifted, is_reference_word, is_struct}
use Rattle.cil_meaning.specs.Naming.{put_type}
use Rattle.cil_meaning.specs.Types.{kind_of}
use Rattle.cil_meaning.specs.Replies.{Left}
use Rattle.cil_meaning.specs.Search.{null_reference}
use Rattle.cil_meaning.specs.Site.{Site, goes, goes_with, throws}
use Rattle.cil_meaning.specs.Pieces.{given, pops, one_word, as_pointer, not_null, as_object, keeps, cuts, reads, writes}
use Rattle.cil_meaning.specs.Offsets.{instance_offset, static_offset}
use Rattle.cil_meaning.specs.Groups.{MemberForm, ReadsField, WritesField, PointsField, ReadsStatic, WritesStatic, PointsStatic, ReadsAt, WritesAt, ClearsAt}

-- goes on with a pointer that is not null
abbrev pub not_nowhere : Pointer → (bad good : Left) → Left
not_nowhere Null bad good = bad
not_nowhere (InFrame level place word) bad good = good
not_nowhere (InFresh level word) bad good = good
not_nowhere (InObject object index) bad good = good
not_nowhere (InStatic kind index) bad good = good

-- where the words of an object or of a struct begin, by a reference or a pointer to it that is not null
abbrev pub as_owner : Value → (bad : Left) → (Pointer → Left) → Left
as_owner (Plain kind words) bad k = if is_reference_word kind then one_word words (λ w. not_null w bad (as_object w (k (InObject w 0)))) else Stuck
as_owner (Managed q) bad k = not_nowhere q bad (k q)

-- the same, or the words of a struct by value
abbrev pub reads_part : (List ℕ → Left) → Value → (Pointer → Left) → (bad : Left) → ℕ → ℕ → Left
reads_part k (Plain kind words) by_pointer bad offset n = if is_struct kind then cuts words offset n k else as_owner (Plain kind words) bad by_pointer
reads_part k (Managed q) by_pointer bad offset n = as_owner (Managed q) bad by_pointer

module _ (p : Program) (s : Site) where
  abbrev pub class_here : FRef → TExpr
  class_here f = put_type s.frame.method f.class

  abbrev pub type_here : FRef → TExpr
  type_here f = put_type s.frame.method (field_type f)

  abbrev pub throws_null : Left
  throws_null = throws p s null_reference

  -- where a field lies in an object, and a static field among the static words of its class
  abbrev pub offset_here : FRef → (ℕ → Left) → Left
  offset_here f k = given (field_found p f) (λ place. given (instance_offset p (class_here f) place) k)

  abbrev pub fixed_offset_here : FRef → (ℕ → Left) → Left
  fixed_offset_here f k = given (field_found p f) (λ place. given (static_offset p (class_here f) place) k)

  -- the static word of the class with this number that the field begins at
  abbrev pub static_here : List ℕ → FRef → (Pointer → Left) → Left
  static_here numbers f k = given (slice_get numbers 0) (λ v. fixed_offset_here f (λ offset. k (InStatic v offset)))

  abbrev pub pushes : TExpr → List Value → List ℕ → Left
  pushes t stack words = goes s (Plain (kind_of p t) words ∷ stack)

  -- each form on members, from the numbers that its entries have and the stack
  abbrev pub on_member : List ℕ → MemberForm → List Value → Left
  on_member numbers (ReadsField f) stack = offset_here f (λ offset. pops stack (λ v vs.
      reads_part (pushes (type_here f) vs) v (λ q. reads s.places (shifted q offset) (words_of p (type_here f)) throws_null (pushes (type_here f) vs)) throws_null offset (words_of p (type_here f))))
  on_member numbers (WritesField f) stack = offset_here f (λ offset. pops stack (λ v us. pops us (λ u vs.
      keeps p (type_here f) v (λ words. as_owner u throws_null (λ q. writes s.places (shifted q offset) words throws_null (λ pl. goes_with s pl vs))))))
  on_member numbers (PointsField f) stack = offset_here f (λ offset. pops stack (λ v vs.
      as_owner v throws_null (λ q. goes s (Managed (shifted q offset) ∷ vs))))
  on_member numbers (ReadsStatic f) stack = static_here numbers f (λ q. reads s.places q (words_of p (type_here f)) throws_null (pushes (type_here f) stack))
  on_member numbers (WritesStatic f) stack = static_here numbers f (λ q. pops stack (λ v vs.
      keeps p (type_here f) v (λ words. writes s.places q words throws_null (λ pl. goes_with s pl vs))))
  on_member numbers (PointsStatic f) stack = static_here numbers f (λ q. goes s (Managed q ∷ stack))
  on_member numbers (ReadsAt t) stack = pops stack (λ v vs. as_pointer v (λ q.
      reads s.places q (words_of p (put_type s.frame.method t)) throws_null (pushes (put_type s.frame.method t) vs)))
  on_member numbers (WritesAt t) stack = pops stack (λ v us. pops us (λ u vs. as_pointer u (λ q.
      keeps p (put_type s.frame.method t) v (λ words. writes s.places q words throws_null (λ pl. goes_with s pl vs)))))
  on_member numbers (ClearsAt t) stack = pops stack (λ u vs. as_pointer u (λ q.
      writes s.places q (replicate (words_of p (put_type s.frame.method t)) 0) throws_null (λ pl. goes_with s pl vs)))
