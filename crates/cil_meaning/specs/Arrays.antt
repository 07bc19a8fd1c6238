-- Vectors. ECMA-335, Partition III; the requests are this project's own.
use Rattle.std.specs.Prelude.{ℕ, ◌*◌, ◌^◌, ◌==◌, nat_lt, Bool, true, false, ◌||◌, if◌then◌else◌, List, [], ◌∷◌, slice_get}
use Rattle.type_tree.specs.declared.tree.TExpr.{TExpr}
use Rattle.il_model.specs.declared.program.Program.{Program}
use Rattle.il_model.specs.Kinds.{is_reference}
use Rattle.il_model.specs.Assignable.{element_of}
use Rattle.il_model.specs.Layouts.{words_of}
use Rattle.interaction.specs.Process.{Ask, Stuck}
use Rattle.store_object.specs.declared.place.Place.TheVariants as at
use Rattle.store_object.specs.declared.request.Request.TheVariants as ask
use Rattle.cil_meaning.specs.Values.{Native, Reference, Value, Plain, is_int32, is_native}
use Rattle.cil_meaning.specs.Naming.{put_type}
use Rattle.cil_meaning.specs.Types.{kind_of, passes_as}
use Rattle.cil_meaning.specs.Replies.{Left, on_object, on_word}
use Rattle.cil_meaning.specs.Search.{overflow, null_reference, index_out_of_range, array_type_mismatch}
use Rattle.cil_meaning.specs.Site.{Site, goes, throws}
use Rattle.cil_meaning.specs.Pieces.{given, pops, one_word, as_word, as_reference, not_null, as_object, keeps, loads, saves, types, spells}
use Rattle.cil_meaning.specs.Groups.{ArrayForm, Allocates, Measures, ReadsElement, WritesElement}

-- lengths lie below this number
abbrev pub most_length : ℕ
most_length = 2 ^ 32

-- the least word of a negative number
abbrev pub negative_from : ℕ
negative_from = 2 ^ 63

module _ (p : Program) (s : Site) where
  abbrev pub element_here : TExpr → TExpr
  element_here t = put_type s.frame.method t

  -- a new vector of elements of so many words, with this type's number
  abbrev pub allocates : ℕ → (length size : ℕ) → List Value → Left
  allocates v length size vs =
      if nat_lt length most_length then Ask (ask.Alloc v length (length * size)) (on_object (λ o. goes s (Plain Reference (o ∷ []) ∷ vs)))
      else (if nat_lt length negative_from then Stuck else throws p s overflow)

  -- a vector that is not null, and an index below its length; a negative index is past every length
  abbrev pub in_range : Value → Value → (ℕ → ℕ → Left) → Left
  in_range vector index k = as_word index (λ kind i. if is_int32 kind then as_reference vector (λ w. not_null w (throws p s null_reference) (as_object w (Ask (ask.Length w) (on_word (λ length.
      if nat_lt i length then k w i else throws p s index_out_of_range))))) else Stuck)

  -- the words of an element are put into it
  abbrev pub puts : (vector index size : ℕ) → List ℕ → List Value → Left
  puts w i size words vs = saves words (at.Object w (i * size)) (goes s vs)

  -- a reference is put only where it passes as the vector's own element type
  abbrev pub puts_reference : (vector index : ℕ) → ℕ → List Value → Left
  puts_reference w i r vs =
      if r == 0 then puts w i 1 (r ∷ []) vs
      else types p w (λ vector. types p r (λ item. spells vector (λ vector_type. spells item (λ exact. given (element_of vector_type) (λ element.
      if passes_as p exact element then puts w i 1 (r ∷ []) vs else throws p s array_type_mismatch)))))

  abbrev pub puts_element : (is_reference : Bool) → (vector index size : ℕ) → List ℕ → List Value → Left
  puts_element true w i size words vs = one_word words (λ r. puts_reference w i r vs)
  puts_element false w i size words vs = puts w i size words vs

  -- each form on vectors, from the numbers that its entries have and the stack
  abbrev pub on_array : List ℕ → ArrayForm → List Value → Left
  on_array numbers (Allocates t) stack = given (slice_get numbers 0) (λ v. pops stack (λ u vs. as_word u (λ kind length.
      if is_int32 kind || is_native kind then allocates v length (words_of p (element_here t)) vs else Stuck)))
  on_array numbers Measures stack = pops stack (λ v vs. as_reference v (λ w. not_null w (throws p s null_reference) (as_object w (Ask (ask.Length w) (on_word (λ length.
      goes s (Plain Native (length ∷ []) ∷ vs)))))))
  on_array numbers (ReadsElement t) stack = pops stack (λ v us. pops us (λ u vs. in_range u v (λ w i.
      loads (words_of p (element_here t)) (at.Object w (i * words_of p (element_here t))) (λ words. goes s (Plain (kind_of p (element_here t)) words ∷ vs)))))
  on_array numbers (WritesElement t) stack = pops stack (λ x ws. pops ws (λ v us. pops us (λ u vs. keeps p (element_here t) x (λ words. in_range u v (λ w i.
      puts_element (is_reference p (element_here t)) w i (words_of p (element_here t)) words vs)))))
