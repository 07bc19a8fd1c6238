-- Boxes, casts and throws, against what they come to.
use Rattle.std.proofs.Common.{◌≡◌, ℕ, Bool, true, false, List, [], ◌∷◌, drop, length, nat_lt, ◌==◌, if◌then◌else◌, slice_get, sym, ap}
use Rattle.type_tree.specs.declared.tree.TExpr.{TExpr}
use Rattle.il_model.specs.declared.program.Program.{Program}
use Rattle.il_model.specs.declared.method.MethodDef.{MethodDef}
use Rattle.il_model.specs.Kinds.{is_reference}
use Rattle.il_model.specs.Layouts.{words_of}
use Rattle.interaction.specs.Process.{Naming}
use Rattle.store_object.specs.declared.place.Place.TheVariants as at
use Rattle.store_object.specs.declared.request.Request.TheVariants as ask
use Rattle.cil_meaning.specs.Naming.{Mention, put_type, strings_from}
use Rattle.cil_meaning.specs.Boxes as meant
use Rattle.cil_meaning.specs.Groups.{BoxForm, Boxes, Unboxes, Casts, Tests}
use Rattle.cil_meaning.specs.Meaning.{on_throw, searches_from}
use Rattle.cil_meaning.specs.Pieces.{pops, not_null, as_reference, types, spells, loads}
use Rattle.cil_meaning.specs.Replies.{Left}
use Rattle.cil_meaning.specs.Search.{invalid_cast}
use Rattle.cil_meaning.specs.Site.{Site, throws, goes}
use Rattle.cil_meaning.specs.Types.{kind_of, passes_as}
use Rattle.cil_meaning.specs.Values.{Plain}
use Rattle.type_inst.specs.Opening.{Extends}
use Rattle.unshared.specs.declared.frames.Frames.{Frames as FramesHere}
use Rattle.unshared.specs.Acted as acted
use Rattle.unshared.specs.Acted.{raises, raises_exact, throws_object}
use Rattle.unshared.specs.Boxed.{boxes_new, boxes_value, stays, boxes, passes, casts, tests, unboxes_words, unboxes_exact, unboxes_value, unboxes, reference_on}
use Rattle.unshared.specs.Going.{Did, Throws}
use Rattle.unshared.specs.Held.{stack_of, site_of}
use Rattle.unshared.specs.Listed.{naming_of}
use Rattle.unshared.specs.Memory.{exact_of, type_of, saves_all}
use Rattle.unshared.specs.Talk.{Talk, ◌>>=◌, ◌>>◌, pure, say, asks_object}
use Rattle.unshared.proofs.Doing.{Does, does_stuck}
use Rattle.unshared.proofs.DoesStack.{top_is}
use Rattle.unshared.proofs.Steps.{both, either, either_then, same, look, pop, reference, object_known, keep, ask_object, load, save, comes, on}
use Rattle.unshared.proofs.TiedExacts.{exact, exact_known, spell}

-- a new box
pub box : {n : Naming Mention TExpr} {p : Program} {s : Site} {next : ℕ → Left} {v : ℕ → Talk Did} (number : ℕ) (words : List ℕ) → ((o : ℕ) → Does n p s (next o) (v o)) → Does n p s (meant.boxes number words next) (boxes_new number words >>= v)
unfolding boxes_new
box {v = v} number words more =
    both (asks_object (ask.Alloc number 0 (length words))) (λ o. saves_all words (at.Object o 0) >> pure o) v
    (ask_object (ask.Alloc number 0 (length words)) (λ o. both (saves_all words (at.Object o 0)) (λ u. pure o) v (save _ words (at.Object o 0) (more o))))

module _ (kinds later : List TExpr) (ext : Extends kinds later) (p : Program) (d : MethodDef) (f : FramesHere) where
  abbrev n : Naming Mention TExpr
  n = naming_of later

  abbrev s : Site
  s = site_of d f

  either_of : (b : Bool) (well other : Left) (v : Bool → Talk Did) → Does n p s well (v true) → Does n p s other (v false) → Does n p s (if b then well else other) (v b)
  either_of true well other v here refused = here
  either_of false well other v here refused = refused

  -- whether a reference passes as a type
  pass : (t : TExpr) (w : ℕ) (well other : Left) (v : Bool → Talk Did) → Does n p s well (v true) → Does n p s other (v false) →
      Does n p s (not_null w well (types p w (λ e. spells e (λ own. if passes_as p own t then well else other)))) (passes p kinds t w >>= v)
  unfolding passes
  pass t w well other v here refused =
      either_then (pure true) (exact_of p kinds w >>= (λ e. say (type_of kinds e) >>= (λ own. pure (passes_as p own t)))) v (w == 0) (λ e. here) (λ e.
      both (exact_of p kinds w) (λ e. say (type_of kinds e) >>= (λ own. pure (passes_as p own t))) v
      (exact kinds later ext p w (λ e.
      both (say (type_of kinds e)) (λ own. pure (passes_as p own t)) v
      (spell kinds later ext e (λ own. either_of (passes_as p own t) well other v here refused)))))

  cast : (t : TExpr) (w : ℕ) → Does n p s (meant.casts p s t w (throws p s invalid_cast) (drop 1 (stack_of f)))
      (passes p kinds (put_type f.top.method t) w >>= (λ passed. pure (if passed then reference_on f 1 w else Throws invalid_cast)))
  cast t w = pass (put_type f.top.method t) w (meant.pushes_reference p s w (drop 1 (stack_of f))) (throws p s invalid_cast) (λ passed. pure (if passed then reference_on f 1 w else Throws invalid_cast)) (on d f _) comes

  does_casts : (t : TExpr) → Does n p s (meant.on_box p s [] (Casts t) (stack_of f)) (casts p kinds (put_type f.top.method t) f)
  unfolding casts
  does_casts t = reference _ _ f 0 (λ w. cast t w)

  does_tests : (numbers : List ℕ) (t : TExpr) → Does n p s (meant.on_box p s numbers (Tests t) (stack_of f)) (acted.on_box p kinds numbers (Tests t) f)
  unfolding tests
  does_tests numbers t = reference _ _ f 0 (λ w.
      pass (put_type f.top.method t) w (meant.pushes_reference p s w (drop 1 (stack_of f))) (meant.pushes_reference p s 0 (drop 1 (stack_of f))) (λ passed. pure (reference_on f 1 (if passed then w else 0))) (on d f _) (on d f _))

  -- Boxing. --------------------------------------------------------------------

  stay : Does n p s (pops (stack_of f) (λ u vs. goes s (u ∷ vs))) (stays f)
  unfolding stays
  stay = pop _ _ f 0 (λ u e. same (goes s (stack_of f)) (ap (goes s) (sym (top_is (stack_of f) u e))) (on d f _))

  box_value : (v : ℕ) (t : TExpr) → Does n p s (pops (stack_of f) (λ u vs. meant.boxes_as p s false v t u vs)) (boxes_value p v (put_type f.top.method t) f)
  unfolding boxes_value
  box_value v t = pop _ _ f 0 (λ u e. keep p (put_type f.top.method t) u (λ words. box v words (λ o. on d f _)))

  box_by : (b : Bool) (v : ℕ) (t : TExpr) → Does n p s (pops (stack_of f) (λ u vs. meant.boxes_as p s b v t u vs)) (if b then stays f else boxes_value p v (put_type f.top.method t) f)
  box_by true v t = stay
  box_by false v t = box_value v t

  does_boxes : (numbers : List ℕ) (t : TExpr) → Does n p s (meant.on_box p s numbers (Boxes t) (stack_of f)) (acted.on_box p kinds numbers (Boxes t) f)
  unfolding boxes
  does_boxes numbers t = look (slice_get numbers 0) (λ v e. box_by (is_reference p (put_type f.top.method t)) v t)

  -- Unboxing. --------------------------------------------------------------------

  unbox_words : (t : TExpr) (w : ℕ) → nat_lt w strings_from ≡ true → Does n p s (loads (words_of p t) (at.Object w 0) (λ words. goes s (Plain (kind_of p t) words ∷ drop 1 (stack_of f)))) (unboxes_words p t f w)
  unfolding unboxes_words
  unbox_words t w e = object_known _ w e (load (words_of p t) (at.Object w 0) (λ words. on d f _))

  unbox_value : (v : ℕ) (t : TExpr) → Does n p s (pops (stack_of f) (λ u vs. as_reference u (λ w. meant.unboxes_as p s false v t w vs))) (unboxes_value p kinds v (put_type f.top.method t) f)
  unfolding unboxes_value
  unbox_value v t = reference _ _ f 0 (λ w. either (w == 0) (λ e. comes) (λ e.
      exact_known kinds later ext (meant.unboxes p s v t w (drop 1 (stack_of f))) (unboxes_exact p v (put_type f.top.method t) f w) p w
      (λ i e. either (i == v) (λ same_type. unbox_words (put_type f.top.method t) w e) (λ other. comes)) comes))

  unbox_by : (b : Bool) (v : ℕ) (t : TExpr) → Does n p s (pops (stack_of f) (λ u vs. as_reference u (λ w. meant.unboxes_as p s b v t w vs))) (if b then casts p kinds (put_type f.top.method t) f else unboxes_value p kinds v (put_type f.top.method t) f)
  unbox_by true v t = does_casts t
  unbox_by false v t = unbox_value v t

  does_unboxes : (numbers : List ℕ) (t : TExpr) → Does n p s (meant.on_box p s numbers (Unboxes t) (stack_of f)) (acted.on_box p kinds numbers (Unboxes t) f)
  unfolding unboxes
  does_unboxes numbers t = look (slice_get numbers 0) (λ v e. unbox_by (is_reference p (put_type f.top.method t)) v t)

  pub does_boxes_all : (numbers : List ℕ) (form : BoxForm) → Does n p s (meant.on_box p s numbers form (stack_of f)) (acted.on_box p kinds numbers form f)
  does_boxes_all numbers (Boxes t) = does_boxes numbers t
  does_boxes_all numbers (Unboxes t) = does_unboxes numbers t
  does_boxes_all numbers (Casts t) = does_casts t
  does_boxes_all numbers (Tests t) = does_tests numbers t

  -- Throws. ------------------------------------------------------------------------

  raise : (w : ℕ) → Does n p s (types p w (searches_from p s w)) (raises p kinds w)
  unfolding raises
  raise w = exact_known kinds later ext (searches_from p s w) (raises_exact w) p w (λ i e. object_known _ w e comes) (does_stuck n p s)

  pub does_throws : Does n p s (on_throw p s (stack_of f)) (throws_object p kinds f)
  unfolding throws_object
  does_throws = reference _ _ f 0 (λ w. either (w == 0) (λ e. comes) (λ e. raise w))
