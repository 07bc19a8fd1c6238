-- Instructions on fields, static fields and words through pointers, against what they come to.
use Rattle.std.proofs.Common.{◌≡◌, ℕ, List, drop, Option, Some, None, if◌then◌else◌, slice_get, refl}
use Rattle.std.specs.Prelude.{replicate}
use Rattle.type_tree.specs.declared.tree.TExpr.{TExpr}
use Rattle.il_model.specs.declared.program.Program.{Program}
use Rattle.il_model.specs.declared.method.MethodDef.{MethodDef}
use Rattle.il_model.specs.declared.member.FRef.{FRef}
use Rattle.il_model.specs.Layouts.{words_of}
use Rattle.interaction.specs.Process.{Naming}
use Rattle.store_object.specs.declared.reply.Reply.{Reply}
use Rattle.cil_meaning.specs.Naming.{Mention, put_type}
use Rattle.cil_meaning.specs.Groups.{MemberForm, ReadsField, WritesField, PointsField, ReadsStatic, WritesStatic, PointsStatic, ReadsAt, WritesAt, ClearsAt}
use Rattle.cil_meaning.specs.Members as meant
use Rattle.cil_meaning.specs.Offsets.{instance_offset, static_offset}
use Rattle.cil_meaning.specs.Pieces.{keeps, reads, writes, cuts}
use Rattle.cil_meaning.specs.Site.{Site, goes_with}
use Rattle.cil_meaning.specs.Values.{Pointer, Null, InFrame, InFresh, InObject, InStatic, Value, Plain, Managed, is_struct, shifted}
use Rattle.unshared.specs.declared.frames.Frames.{Frames as FramesHere}
use Rattle.unshared.specs.Acted as acted
use Rattle.unshared.specs.Fields.{is_struct_value, reads_words, reads_to, writes_words, writes_to, reads_struct, reads_owned, reads_field, writes_field, points_field, reads_static, writes_static, points_static, reads_object, writes_object, clears_object}
use Rattle.unshared.specs.Going.{Did}
use Rattle.unshared.specs.Held.{places_of, stack_of, site_of}
use Rattle.unshared.specs.Kept.{part_of}
use Rattle.unshared.specs.Operands.{value_at, pointer_of, pointer_at}
use Rattle.unshared.specs.Owners.{owner_pointer, value_part}
use Rattle.unshared.specs.Silent.{there}
use Rattle.unshared.specs.Talk.{Talk, ◌>>=◌, say}
use Rattle.unshared.proofs.Doing.{Does, does_as}
use Rattle.unshared.proofs.Sayings.{after}
use Rattle.unshared.proofs.Steps.{either, silently, late, look, pop, pointer, mute_kept, keep, comes, on, on_with}
use Rattle.unshared.proofs.StepsOfPlaces.{mute_part, Leads, shifted_leads, read, write, owner, field}

module _ (n : Naming Mention TExpr) (p : Program) (d : MethodDef) (f : FramesHere) where
  abbrev s : Site
  s = site_of d f

  -- words where a pointer leads, and words put there
  read_words : (t : TExpr) (taken : ℕ) (q : Pointer) → Leads q → Does n p s (reads (places_of f) q (words_of p t) (meant.throws_null p s) (meant.pushes p s t (drop taken (stack_of f)))) (reads_words p t f taken q)
  unfolding reads_words
  read_words t taken q leads = read _ _ _ (places_of f) q (words_of p t) leads (λ words. on d f _)

  write_words : (taken : ℕ) (words : List ℕ) (q : Pointer) → Leads q → Does n p s (writes (places_of f) q words (meant.throws_null p s) (λ pl. goes_with s pl (drop taken (stack_of f)))) (writes_words f taken words q)
  unfolding writes_words
  write_words taken words q leads = write _ _ _ (places_of f) q words leads (λ places. on_with d f _ _)

  read_led : (t : TExpr) (q : Pointer) → Does n p s (reads (places_of f) q (words_of p t) (meant.throws_null p s) (meant.pushes p s t (drop 1 (stack_of f)))) (reads_to p t f (owner_pointer q))
  read_led t Null = comes
  read_led t (InFrame level place i) = read_words t 1 (InFrame level place i) tt
  read_led t (InFresh level i) = read_words t 1 (InFresh level i) tt
  read_led t (InObject object index) = read_words t 1 (InObject object index) tt
  read_led t (InStatic kind index) = read_words t 1 (InStatic kind index) tt

  write_led : (taken : ℕ) (words : List ℕ) (q : Pointer) → Does n p s (writes (places_of f) q words (meant.throws_null p s) (λ pl. goes_with s pl (drop taken (stack_of f)))) (writes_to f taken words (owner_pointer q))
  write_led taken words Null = comes
  write_led taken words (InFrame level place i) = write_words taken words (InFrame level place i) tt
  write_led taken words (InFresh level i) = write_words taken words (InFresh level i) tt
  write_led taken words (InObject object index) = write_words taken words (InObject object index) tt
  write_led taken words (InStatic kind index) = write_words taken words (InStatic kind index) tt

  -- Fields. --------------------------------------------------------------------

  by_owner : (t : TExpr) (offset : ℕ) (u : Value) → Does n p s (meant.as_owner u (meant.throws_null p s) (λ q. reads (places_of f) (shifted q offset) (words_of p t) (meant.throws_null p s) (meant.pushes p s t (drop 1 (stack_of f))))) (reads_owned p t f offset u)
  unfolding reads_owned
  by_owner t offset u = owner _ _ _ u comes (λ q leads. read_words t 1 (shifted q offset) (shifted_leads q offset leads))

  by_value : (t : TExpr) (offset : ℕ) (words : List ℕ) (v : List ℕ → Talk Did) → ((part : List ℕ) → Does n p s (meant.pushes p s t (drop 1 (stack_of f)) part) (v part)) →
      Does n p s (cuts words offset (words_of p t) (meant.pushes p s t (drop 1 (stack_of f)))) (say (part_of words offset (words_of p t)) >>= v)
  by_value t offset words v more = silently (cuts words offset (words_of p t)) (mute_part words offset (words_of p t)) more

  of_struct : (t : TExpr) (offset : ℕ) (u : Value) → Does n p s (meant.reads_part (meant.pushes p s t (drop 1 (stack_of f))) u (λ q. reads (places_of f) (shifted q offset) (words_of p t) (meant.throws_null p s) (meant.pushes p s t (drop 1 (stack_of f)))) (meant.throws_null p s) offset (words_of p t))
      (if is_struct_value u then reads_struct p t f offset u else reads_owned p t f offset u)
  unfolding reads_struct value_part
  of_struct t offset (Plain kind words) = either (is_struct kind) (λ e. by_value t offset words _ (λ part. on d f _)) (λ e. by_owner t offset (Plain kind words))
  of_struct t offset (Managed q) = by_owner t offset (Managed q)

  does_reads_field : (numbers : List ℕ) (named : FRef) → Does n p s (meant.on_member p s numbers (ReadsField named) (stack_of f)) (acted.on_member p numbers (ReadsField named) f)
  unfolding reads_field
  does_reads_field numbers named = field _ _ p f named (λ place. look (instance_offset p (put_type f.top.method named.class) place) (λ offset e. pop _ _ f 0 (λ u e. of_struct (meant.type_here p s named) offset u)))

  does_writes_field : (numbers : List ℕ) (named : FRef) → Does n p s (meant.on_member p s numbers (WritesField named) (stack_of f)) (acted.on_member p numbers (WritesField named) f)
  unfolding writes_field
  does_writes_field numbers named = field _ _ p f named (λ place. look (instance_offset p (put_type f.top.method named.class) place) (λ offset e. pop _ _ f 0 (λ u e.
      late _ (drop 1 (stack_of f)) (keeps p (meant.type_here p s named) u) (mute_kept p (meant.type_here p s named) u) (keep p (meant.type_here p s named) u (λ words. pop _ _ f 1 (λ v e.
      owner _ _ _ v comes (λ q leads. write_words 2 words (shifted q offset) (shifted_leads q offset leads))))))))

  does_points_field : (numbers : List ℕ) (named : FRef) → Does n p s (meant.on_member p s numbers (PointsField named) (stack_of f)) (acted.on_member p numbers (PointsField named) f)
  unfolding points_field
  does_points_field numbers named = field _ _ p f named (λ place. look (instance_offset p (put_type f.top.method named.class) place) (λ offset e. pop _ _ f 0 (λ u e. owner _ _ _ u comes (λ q leads. on d f _))))

  -- Static fields. ---------------------------------------------------------------

  does_reads_static : (numbers : List ℕ) (named : FRef) → Does n p s (meant.on_member p s numbers (ReadsStatic named) (stack_of f)) (acted.on_member p numbers (ReadsStatic named) f)
  unfolding reads_static
  does_reads_static numbers named = look (slice_get numbers 0) (λ v e. field _ _ p f named (λ place. look (static_offset p (put_type f.top.method named.class) place) (λ offset e. read_words (meant.type_here p s named) 0 (InStatic v offset) tt)))

  does_writes_static : (numbers : List ℕ) (named : FRef) → Does n p s (meant.on_member p s numbers (WritesStatic named) (stack_of f)) (acted.on_member p numbers (WritesStatic named) f)
  unfolding writes_static
  does_writes_static numbers named = look (slice_get numbers 0) (λ v e. field _ _ p f named (λ place. look (static_offset p (put_type f.top.method named.class) place) (λ offset e. pop _ _ f 0 (λ u e. keep p (meant.type_here p s named) u (λ words. write_words 1 words (InStatic v offset) tt)))))

  does_points_static : (numbers : List ℕ) (named : FRef) → Does n p s (meant.on_member p s numbers (PointsStatic named) (stack_of f)) (acted.on_member p numbers (PointsStatic named) f)
  unfolding points_static
  does_points_static numbers named = look (slice_get numbers 0) (λ v e. field _ _ p f named (λ place. look (static_offset p (put_type f.top.method named.class) place) (λ offset e. on d f _)))

  -- Words through a pointer. --------------------------------------------------------

  does_reads_at : (numbers : List ℕ) (t : TExpr) → Does n p s (meant.on_member p s numbers (ReadsAt t) (stack_of f)) (acted.on_member p numbers (ReadsAt t) f)
  unfolding reads_object
  does_reads_at numbers t = pointer _ _ f 0 (λ q. read_led (put_type f.top.method t) q)

  -- the pointer is taken first, and then the value
  pointer_first : (o u : Option Value) (v : Pointer → Value → Talk Did) (ys : List Reply) → (say (after (there u) pointer_of) >>= (λ q. say (there o) >>= v q)) ys ≡ (say (there o) >>= (λ w. say (after (there u) pointer_of) >>= (λ q. v q w))) ys
  unfolding pointer_of
  pointer_first None None v ys = refl
  pointer_first None (Some (Plain kind words)) v ys = refl
  pointer_first None (Some (Managed q)) v ys = refl
  pointer_first (Some w) None v ys = refl
  pointer_first (Some w) (Some (Plain kind words)) v ys = refl
  pointer_first (Some w) (Some (Managed q)) v ys = refl

  value_first : (v : Pointer → Value → Talk Did) (ys : List Reply) → (say (pointer_at f 1) >>= (λ q. say (value_at f 0) >>= v q)) ys ≡ (say (value_at f 0) >>= (λ w. say (pointer_at f 1) >>= (λ q. v q w))) ys
  unfolding pointer_at
  value_first v ys = pointer_first (slice_get (stack_of f) 0) (slice_get (stack_of f) 1) v ys

  does_writes_at : (numbers : List ℕ) (t : TExpr) → Does n p s (meant.on_member p s numbers (WritesAt t) (stack_of f)) (acted.on_member p numbers (WritesAt t) f)
  unfolding writes_object
  does_writes_at numbers t = does_as n p s _ _ _ (value_first _) (pop _ _ f 0 (λ u e. pointer _ _ f 1 (λ q. keep p (put_type f.top.method t) u (λ words. write_led 2 words q))))

  does_clears_at : (numbers : List ℕ) (t : TExpr) → Does n p s (meant.on_member p s numbers (ClearsAt t) (stack_of f)) (acted.on_member p numbers (ClearsAt t) f)
  unfolding clears_object
  does_clears_at numbers t = pointer _ _ f 0 (λ q. write_led 1 (replicate (words_of p (put_type f.top.method t)) 0) q)

  pub does_members : (numbers : List ℕ) (form : MemberForm) → Does n p s (meant.on_member p s numbers form (stack_of f)) (acted.on_member p numbers form f)
  does_members numbers (ReadsField named) = does_reads_field numbers named
  does_members numbers (WritesField named) = does_writes_field numbers named
  does_members numbers (PointsField named) = does_points_field numbers named
  does_members numbers (ReadsStatic named) = does_reads_static numbers named
  does_members numbers (WritesStatic named) = does_writes_static numbers named
  does_members numbers (PointsStatic named) = does_points_static numbers named
  does_members numbers (ReadsAt t) = does_reads_at numbers t
  does_members numbers (WritesAt t) = does_writes_at numbers t
  does_members numbers (ClearsAt t) = does_clears_at numbers t
