-- Vectors, against what they come to.
use Rattle.std.proofs.Common.{ℕ, suc, ◌*◌, Bool, true, false, ◌||◌, List, [], ◌∷◌, drop, ◌==◌, nat_lt, if◌then◌else◌, slice_get}
use Rattle.type_tree.specs.declared.tree.TExpr.{TExpr}
use Rattle.il_model.specs.declared.program.Program.{Program}
use Rattle.il_model.specs.declared.method.MethodDef.{MethodDef}
use Rattle.il_model.specs.Assignable.{element_of}
use Rattle.il_model.specs.Kinds.{is_reference}
use Rattle.il_model.specs.Layouts.{words_of}
use Rattle.interaction.specs.Process.{Naming, Ask}
use Rattle.store_object.specs.declared.place.Place.TheVariants as at
use Rattle.store_object.specs.declared.request.Request.TheVariants as ask
use Rattle.cil_meaning.specs.Naming.{Mention, put_type}
use Rattle.cil_meaning.specs.Groups.{ArrayForm, Allocates, Measures, ReadsElement, WritesElement}
use Rattle.cil_meaning.specs.Arrays as meant
use Rattle.cil_meaning.specs.Arrays.{most_length, negative_from}
use Rattle.cil_meaning.specs.LibraryCalls.{word_of_kind}
use Rattle.cil_meaning.specs.Pieces.{given, pops, as_reference, as_object, not_null, keeps, one_word, types, spells, loads}
use Rattle.cil_meaning.specs.Replies.{Left, on_object, on_word}
use Rattle.cil_meaning.specs.Site.{Site, throws, goes}
use Rattle.cil_meaning.specs.Search.{null_reference, index_out_of_range, array_type_mismatch}
use Rattle.cil_meaning.specs.Types.{kind_of, passes_as}
use Rattle.cil_meaning.specs.Values.{Int32, Reference, Value, Plain, is_int32, is_native}
use Rattle.type_inst.specs.Opening.{Extends}
use Rattle.unshared.specs.declared.frames.Frames.{Frames as FramesHere}
use Rattle.unshared.specs.Acted as acted
use Rattle.unshared.specs.Elements.{allocates_of, allocates_by, allocates, measures, Element, At, Missing, index_at, measured, element_at, reads_words, reads_from, reads_element, puts, may_put, puts_tested, puts_reference, puts_one, puts_into, writes_element}
use Rattle.unshared.specs.Going.{Did, Throws}
use Rattle.unshared.specs.Held.{stack_of, site_of}
use Rattle.unshared.specs.Listed.{naming_of}
use Rattle.unshared.specs.Memory.{exact_of, type_of}
use Rattle.unshared.specs.Operands.{value_at, word_in_kind, reference_at, object_of}
use Rattle.unshared.specs.Silent.{there}
use Rattle.unshared.specs.Talk.{Talk, ◌>>=◌, pure, say, asks_word}
use Rattle.unshared.proofs.Doing.{Does, does_stuck}
use Rattle.unshared.proofs.DoesNumbersMore.{does_one_word}
use Rattle.unshared.proofs.MuteOperands.{mute_kind}
use Rattle.unshared.proofs.Steps.{both, either, either_then, silently, late, late_twice, look, pop, reference, object, one_of, mute_kept, keep, ask_object, ask_word, load, save, comes, on}
use Rattle.unshared.proofs.TiedExacts.{exact, spell}

module _ (kinds later : List TExpr) (ext : Extends kinds later) (p : Program) (d : MethodDef) (f : FramesHere) where
  abbrev n : Naming Mention TExpr
  n = naming_of later

  abbrev s : Site
  s = site_of d f

  allocate : (v length size : ℕ) → Does n p s (Ask (ask.Alloc v length (length * size)) (on_object (λ o. goes s (Plain Reference (o ∷ []) ∷ drop 1 (stack_of f))))) (allocates_of v length size f)
  unfolding allocates_of
  allocate v length size = ask_object (ask.Alloc v length (length * size)) (λ o. on d f _)

  allocates_here : (v length : ℕ) (t : TExpr) → Does n p s (meant.allocates p s v length (words_of p t) (drop 1 (stack_of f))) (allocates_by p v t f length)
  allocates_here v length t = either (nat_lt length most_length) (λ e. allocate v length (words_of p t)) (λ e. either (nat_lt length negative_from) (λ e. does_stuck n p s) (λ e. comes))

  does_allocates : (numbers : List ℕ) (t : TExpr) → Does n p s (meant.on_array p s numbers (Allocates t) (stack_of f)) (acted.on_array p kinds numbers (Allocates t) f)
  unfolding allocates
  does_allocates numbers t = look (slice_get numbers 0) (λ v e. does_one_word n p d f _ _ (λ r.
      either (is_int32 r.0 || is_native r.0) (λ e. allocates_here v r.1 (put_type f.top.method t)) (λ e. does_stuck n p s)))

  does_measures : (numbers : List ℕ) → Does n p s (meant.on_array p s numbers Measures (stack_of f)) (acted.on_array p kinds numbers Measures f)
  unfolding measures
  does_measures numbers = reference _ _ f 0 (λ w. either (w == 0) (λ e. comes) (λ e. object _ w (ask_word (ask.Length w) (λ length. on d f _))))

  -- The element. -----------------------------------------------------------------

  in_bounds : (w i : ℕ) (next : ℕ → ℕ → Left) (v : Element → Talk Did) → ((w i : ℕ) → Does n p s (next w i) (v (At w i))) → ((fault : ℕ) → Does n p s (throws p s fault) (v (Missing fault))) → (b : Bool) →
      Does n p s (if b then next w i else throws p s index_out_of_range) (v (if b then At w i else Missing index_out_of_range))
  in_bounds w i next v here missing true = here w i
  in_bounds w i next v here missing false = missing index_out_of_range

  measure : (w i : ℕ) (next : ℕ → ℕ → Left) (v : Element → Talk Did) → ((w i : ℕ) → Does n p s (next w i) (v (At w i))) → ((fault : ℕ) → Does n p s (throws p s fault) (v (Missing fault))) →
      Does n p s (as_object w (Ask (ask.Length w) (on_word (λ length. if nat_lt i length then next w i else throws p s index_out_of_range)))) (measured w i >>= v)
  unfolding measured
  measure w i next v here missing =
      both (say (object_of w)) (λ o. asks_word (ask.Length o) >>= (λ length. pure (if nat_lt i length then At o i else Missing index_out_of_range))) v
      (object _ w
      (both (asks_word (ask.Length w)) (λ length. pure (if nat_lt i length then At w i else Missing index_out_of_range)) v
      (ask_word (ask.Length w) (λ length. in_bounds w i next v here missing (nat_lt i length)))))

  -- the index stands on top of the vector
  element : (below : ℕ) (k : ℕ → ℕ → List Value → Left) (v : Element → Talk Did) → ((w i : ℕ) → Does n p s (k w i (drop (suc (suc below)) (stack_of f))) (v (At w i))) → ((fault : ℕ) → Does n p s (throws p s fault) (v (Missing fault))) →
      Does n p s (pops (drop below (stack_of f)) (λ y us. pops us (λ x vs. meant.in_range p s x y (λ w i. k w i vs)))) (element_at f (suc below) below >>= v)
  unfolding element_at index_at
  element below k v here missing =
      both (index_at f below) (λ i. say (reference_at f (suc below)) >>= (λ w. if w == 0 then pure (Missing null_reference) else measured w i)) v
      (both (say (value_at f below)) (λ y. say (word_in_kind Int32 y)) _
      (pop _ _ f below (λ y e.
      late (λ i x vs. as_reference x (λ w. not_null w (throws p s null_reference) (as_object w (Ask (ask.Length w) (on_word (λ length. if nat_lt i length then k w i vs else throws p s index_out_of_range))))))
      (drop (suc below) (stack_of f)) (word_of_kind Int32 y) (mute_kind Int32 y)
      (silently (word_of_kind Int32 y) (mute_kind Int32 y) (λ i.
      both (say (reference_at f (suc below))) (λ w. if w == 0 then pure (Missing null_reference) else measured w i) v
      (reference _ _ f (suc below) (λ w.
      either_then (pure (Missing null_reference)) (measured w i) v (w == 0) (λ e. missing null_reference) (λ e. measure w i (λ w i. k w i (drop (suc (suc below)) (stack_of f))) v here missing))))))))

  read_words : (t : TExpr) (w i : ℕ) → Does n p s (loads (words_of p t) (at.Object w (i * words_of p t)) (λ words. goes s (Plain (kind_of p t) words ∷ drop 2 (stack_of f)))) (reads_words p t f w i)
  unfolding reads_words
  read_words t w i = load (words_of p t) (at.Object w (i * words_of p t)) (λ words. on d f _)

  does_reads : (numbers : List ℕ) (t : TExpr) → Does n p s (meant.on_array p s numbers (ReadsElement t) (stack_of f)) (acted.on_array p kinds numbers (ReadsElement t) f)
  unfolding reads_element
  does_reads numbers t = element 0 (λ w i vs. loads (words_of p (put_type f.top.method t)) (at.Object w (i * words_of p (put_type f.top.method t))) (λ words. goes s (Plain (kind_of p (put_type f.top.method t)) words ∷ vs)))
      (reads_from p (put_type f.top.method t) f) (λ w i. read_words (put_type f.top.method t) w i) (λ fault. comes)

  -- Words put into an element. ----------------------------------------------------

  put : (w i size : ℕ) (words : List ℕ) → Does n p s (meant.puts p s w i size words (drop 3 (stack_of f))) (puts w i size words f)
  unfolding puts
  put w i size words = save _ words (at.Object w (i * size)) (on d f _)

  may : (w i r : ℕ) (own_type own : TExpr) (b : Bool) → Does n p s (if b then meant.puts p s w i 1 (r ∷ []) (drop 3 (stack_of f)) else throws p s array_type_mismatch) (if b then puts w i 1 (r ∷ []) f else pure (Throws array_type_mismatch))
  may w i r own_type own b = either b (λ e. put w i 1 (r ∷ [])) (λ e. comes)

  put_tested : (w i r : ℕ) → Does n p s (types p w (λ vector. types p r (λ item. spells vector (λ vector_type. spells item (λ exact. given (element_of vector_type) (λ element.
      if passes_as p exact element then meant.puts p s w i 1 (r ∷ []) (drop 3 (stack_of f)) else throws p s array_type_mismatch)))))) (puts_tested p kinds w i r f)
  unfolding puts_tested may_put
  put_tested w i r =
      both (exact_of p kinds w) (λ vector. exact_of p kinds r >>= (λ item. say (type_of kinds vector) >>= (λ vector_type. say (type_of kinds item) >>= (λ own_type. say (there (element_of vector_type)) >>= (λ own. pure (passes_as p own_type own)))))) _
      (exact kinds later ext p w (λ vector.
      both (exact_of p kinds r) (λ item. say (type_of kinds vector) >>= (λ vector_type. say (type_of kinds item) >>= (λ own_type. say (there (element_of vector_type)) >>= (λ own. pure (passes_as p own_type own))))) _
      (exact kinds later ext p r (λ item.
      both (say (type_of kinds vector)) (λ vector_type. say (type_of kinds item) >>= (λ own_type. say (there (element_of vector_type)) >>= (λ own. pure (passes_as p own_type own)))) _
      (spell kinds later ext vector (λ vector_type.
      both (say (type_of kinds item)) (λ own_type. say (there (element_of vector_type)) >>= (λ own. pure (passes_as p own_type own))) _
      (spell kinds later ext item (λ own_type.
      both (say (there (element_of vector_type))) (λ own. pure (passes_as p own_type own)) _
      (look (element_of vector_type) (λ own e. may w i r own_type own (passes_as p own_type own)))))))))))

  put_reference : (w i r : ℕ) → Does n p s (meant.puts_reference p s w i r (drop 3 (stack_of f))) (puts_reference p kinds w i r f)
  put_reference w i r = either (r == 0) (λ e. put w i 1 (r ∷ [])) (λ e. put_tested w i r)

  put_one : (w i : ℕ) (words : List ℕ) → Does n p s (one_word words (λ r. meant.puts_reference p s w i r (drop 3 (stack_of f)))) (puts_one p kinds w i words f)
  unfolding puts_one
  put_one w i words = one_of words (λ r. put_reference w i r)

  put_by : (b : Bool) (w i size : ℕ) (words : List ℕ) → Does n p s (meant.puts_element p s b w i size words (drop 3 (stack_of f))) (if b then puts_one p kinds w i words f else puts w i size words f)
  put_by true w i size words = put_one w i words
  put_by false w i size words = put w i size words

  does_writes : (numbers : List ℕ) (t : TExpr) → Does n p s (meant.on_array p s numbers (WritesElement t) (stack_of f)) (acted.on_array p kinds numbers (WritesElement t) f)
  unfolding writes_element
  does_writes numbers t = pop _ _ f 0 (λ x e.
      late_twice (λ words y u vs. meant.in_range p s u y (λ w i. meant.puts_element p s (is_reference p (put_type f.top.method t)) w i (words_of p (put_type f.top.method t)) words vs)) (drop 1 (stack_of f))
      (keeps p (put_type f.top.method t) x) (mute_kept p (put_type f.top.method t) x)
      (keep p (put_type f.top.method t) x (λ words.
      element 1 (λ w i vs. meant.puts_element p s (is_reference p (put_type f.top.method t)) w i (words_of p (put_type f.top.method t)) words vs) (puts_into p kinds (put_type f.top.method t) words f)
      (λ w i. put_by (is_reference p (put_type f.top.method t)) w i (words_of p (put_type f.top.method t)) words) (λ fault. comes))))

  pub does_arrays : (numbers : List ℕ) (form : ArrayForm) → Does n p s (meant.on_array p s numbers form (stack_of f)) (acted.on_array p kinds numbers form f)
  does_arrays numbers (Allocates t) = does_allocates numbers t
  does_arrays numbers Measures = does_measures numbers
  does_arrays numbers (ReadsElement t) = does_reads numbers t
  does_arrays numbers (WritesElement t) = does_writes numbers t
