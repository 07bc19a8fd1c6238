-- The process of one thread: what is left of each instruction, once, as a tree. ECMA-335, Partition III; entries, checks and requests in their order are this project's own.
use Rattle.std.specs.Prelude.{ℕ, List, [], ◌∷◌}
use Rattle.il_model.specs.declared.program.Program.{Program}
use Rattle.il_model.specs.declared.op.Op.{Op}
use Rattle.il_model.specs.Found.{method_at}
use Rattle.il_model.specs.Entries.{entries_of}
use Rattle.interaction.specs.Process.{Stuck}
use Rattle.cil_meaning.specs.Values.{Value}
use Rattle.cil_meaning.specs.Frames.{Frame, Places, Frames}
use Rattle.cil_meaning.specs.Replies.{Left}
use Rattle.cil_meaning.specs.Mentions.{settles_all}
use Rattle.cil_meaning.specs.Search.{null_reference, searches}
use Rattle.cil_meaning.specs.Site.{Site, frames_of, op_at, throws}
use Rattle.cil_meaning.specs.Pieces.{Exact, Text, Numbered, given, pops, as_reference, not_null, types}
use Rattle.cil_meaning.specs.Groups.{Group, OnStack, OnPlaces, OnNumbers, OnBranches, OnCalls, OnMembers, OnArrays, OnBoxes, OnThrow, OnLibrary, Excluded, group_of}
use Rattle.cil_meaning.specs.Arithmetic.{calculates}
use Rattle.cil_meaning.specs.Branches.{branches}
use Rattle.cil_meaning.specs.Places.{stacks, on_place}
use Rattle.cil_meaning.specs.Members.{on_member}
use Rattle.cil_meaning.specs.Arrays.{on_array}
use Rattle.cil_meaning.specs.Boxes.{on_box}
use Rattle.cil_meaning.specs.Calls.{on_call}
use Rattle.cil_meaning.specs.LibraryCalls.{on_library}

module _ (p : Program) where
  -- an object that is thrown; no string is an exception
  abbrev pub searches_from : Site → ℕ → Exact → Left
  searches_from s w Text = Stuck
  searches_from s w (Numbered v) = searches p (record { object = w; kind = v }) (frames_of s).frames s.places

  abbrev pub on_throw : Site → List Value → Left
  on_throw s stack = pops stack (λ v vs. as_reference v (λ w. not_null w (throws p s null_reference) (types p w (searches_from s w))))

  -- what an instruction does once its entries are settled, from their numbers and the stack
  abbrev pub does : Site → List ℕ → List Value → Group → Left
  does s numbers stack (OnStack f) = stacks s f stack
  does s numbers stack (OnPlaces f) = on_place p s f stack
  does s numbers stack (OnNumbers f) = calculates p s f stack
  does s numbers stack (OnBranches f) = branches s f stack
  does s numbers stack (OnCalls f) = on_call p s numbers f stack
  does s numbers stack (OnMembers f) = on_member p s numbers f stack
  does s numbers stack (OnArrays f) = on_array p s numbers f stack
  does s numbers stack (OnBoxes f) = on_box p s numbers f stack
  does s numbers stack OnThrow = on_throw s stack
  does s numbers stack (OnLibrary f) = on_library p s numbers f stack
  does s numbers stack Excluded = Stuck

  -- an instruction: all its entries are settled first, in order
  abbrev pub begins : Site → Op → Left
  begins s o = settles_all p s.frame.method (entries_of p o) (λ numbers. does s numbers s.frame.stack (group_of o))

  abbrev pub meaning_in : List Frame → List Places → Left
  meaning_in [] pl = Stuck
  meaning_in (f ∷ fs) pl = given (method_at p f.method.method) (λ d. given (op_at d f.at) (λ o. begins (record { frame = f; definition = d; around = fs; places = pl }) o))

  -- what is left of the instruction at which the innermost frame stands
  abbrev pub meaning : Frames → Left
  meaning x = meaning_in x.frames x.places
