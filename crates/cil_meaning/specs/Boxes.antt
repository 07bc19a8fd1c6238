-- Boxes and casts. ECMA-335, Partition III; the requests are this project's own.
use Rattle.std.specs.Prelude.{ℕ, ◌==◌, Bool, true, false, if◌then◌else◌, List, [], ◌∷◌, length, slice_get}
use Rattle.type_tree.specs.declared.tree.TExpr.{TExpr}
use Rattle.il_model.specs.declared.program.Program.{Program}
use Rattle.il_model.specs.Kinds.{is_reference}
use Rattle.il_model.specs.Layouts.{words_of}
use Rattle.interaction.specs.Process.{Ask}
use Rattle.store_object.specs.declared.place.Place.TheVariants as at
use Rattle.store_object.specs.declared.request.Request.TheVariants as ask
use Rattle.cil_meaning.specs.Values.{Reference, Value, Plain}
use Rattle.cil_meaning.specs.Naming.{put_type}
use Rattle.cil_meaning.specs.Types.{kind_of, passes_as}
use Rattle.cil_meaning.specs.Replies.{Left, on_object}
use Rattle.cil_meaning.specs.Search.{null_reference, invalid_cast}
use Rattle.cil_meaning.specs.Site.{Site, goes, throws}
use Rattle.cil_meaning.specs.Pieces.{given, pops, as_reference, not_null, keeps, loads, saves, Exact, Text, Numbered, types, spells}
use Rattle.cil_meaning.specs.Groups.{BoxForm, Boxes, Unboxes, Casts, Tests}

-- a new box of the type with this number, holding these words
abbrev pub boxes : ℕ → List ℕ → (ℕ → Left) → Left
boxes v words k = Ask (ask.Alloc v 0 (length words)) (on_object (λ o. saves words (at.Object o 0) (k o)))

module _ (p : Program) (s : Site) where
  abbrev pub asked_here : TExpr → TExpr
  asked_here t = put_type s.frame.method t

  abbrev pub pushes_reference : ℕ → List Value → Left
  pushes_reference w vs = goes s (Plain Reference (w ∷ []) ∷ vs)

  -- null passes, and an object whose exact type passes; any other is refused
  abbrev pub casts : TExpr → ℕ → (refused : Left) → List Value → Left
  casts t w refused vs = not_null w (pushes_reference w vs) (types p w (λ e. spells e (λ exact. if passes_as p exact (asked_here t) then pushes_reference w vs else refused)))

  -- the words of a box of exactly the type with this number
  abbrev pub unboxes : ℕ → TExpr → ℕ → List Value → Exact → Left
  unboxes v t w vs Text = throws p s invalid_cast
  unboxes v t w vs (Numbered e) = if e == v then loads (words_of p (asked_here t)) (at.Object w 0) (λ words. goes s (Plain (kind_of p (asked_here t)) words ∷ vs)) else throws p s invalid_cast

  abbrev pub unboxes_as : (is_reference : Bool) → ℕ → TExpr → ℕ → List Value → Left
  unboxes_as true v t w vs = casts t w (throws p s invalid_cast) vs
  unboxes_as false v t w vs = not_null w (throws p s null_reference) (types p w (unboxes v t w vs))

  abbrev pub boxes_as : (is_reference : Bool) → ℕ → TExpr → Value → List Value → Left
  boxes_as true v t u vs = goes s (u ∷ vs)
  boxes_as false v t u vs = keeps p (asked_here t) u (λ words. boxes v words (λ o. pushes_reference o vs))

  -- each form on boxes, from the numbers that its entries have and the stack
  abbrev pub on_box : List ℕ → BoxForm → List Value → Left
  on_box numbers (Boxes t) stack = given (slice_get numbers 0) (λ v. pops stack (λ u vs. boxes_as (is_reference p (asked_here t)) v t u vs))
  on_box numbers (Unboxes t) stack = given (slice_get numbers 0) (λ v. pops stack (λ u vs. as_reference u (λ w. unboxes_as (is_reference p (asked_here t)) v t w vs)))
  on_box numbers (Casts t) stack = pops stack (λ u vs. as_reference u (λ w. casts t w (throws p s invalid_cast) vs))
  on_box numbers (Tests t) stack = pops stack (λ u vs. as_reference u (λ w. casts t w (pushes_reference 0 vs) vs))
