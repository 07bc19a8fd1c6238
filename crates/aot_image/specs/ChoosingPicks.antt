-- The bodies that are chosen, and what a line does to them. This project's own.
use Rattle.std.specs.Prelude.{ℕ, ◌+◌, ◌==◌, ◌&&◌, Bool, true, false, not, if◌then◌else◌, List, [], ◌∷◌, ◌++◌, map, filter, nat_eq, is_none}
use Rattle.std.specs.List.{list_any}
use Rattle.std.specs.Cmp.Lexicographic.{pointwise}
use Rattle.type_tree.specs.Same.{is_same}
use Rattle.il_model.specs.declared.class.VarDef.{VarDef}
use Rattle.il_model.specs.declared.method.MethodDef.{MethodDef}
use Rattle.il_model.specs.declared.key.KeyPart.{KeyPart}
use Rattle.il_model.specs.declared.key.KeyPart.TheVariants.{Ref, Any, Exact}
use Rattle.il_model.specs.declared.key.Key.{Key}
use Rattle.il_model.specs.declared.program.Program.{Program}
use Rattle.aot_image.specs.declared.choice_judging.Act.{Act}
use Rattle.aot_image.specs.declared.choice_judging.Act.TheVariants as act
use Rattle.aot_image.specs.ChoosingBounds.{vars_of}

-- the number of a method, and a key
abbrev pub Pick : Type 0
Pick = ℕ × Key

abbrev pub pick_of : ℕ → List KeyPart → Pick
pick_of number parts = (number, record { parts = parts })

abbrev pub same_part : KeyPart → KeyPart → Bool
same_part Ref Ref = true
same_part Any Any = true
same_part (Exact s) (Exact t) = is_same s t
same_part _ _ = false

-- whether two picks are of one method, with one key
abbrev pub same_pick : Pick → Pick → Bool
same_pick a b = nat_eq a.0 b.0 && pointwise same_part a.1.parts b.1.parts

-- the picks with one more at the end, unless it is there
abbrev pub with_pick : List Pick → Pick → List Pick
with_pick picks pick = if list_any (same_pick pick) picks then picks else picks ++ pick ∷ []

-- the picks of all other methods
abbrev pub without_method : ℕ → List Pick → List Pick
without_method number picks = filter (λ pick. not (nat_eq pick.0 number)) picks

-- `Rt.Threads::Entry`, in which a started thread begins, is the method with this number. It is always interpreted
abbrev pub entry_number : ℕ
entry_number = 0

-- whether a method may have a compiled body
abbrev pub may_have_body : ℕ → MethodDef → Bool
may_have_body number m = not (is_none m.body) && not (number == entry_number)

abbrev pub any_part : VarDef → KeyPart
any_part v = Any

-- the key that serves all types
abbrev pub general_pick : Program → ℕ → MethodDef → Pick
general_pick program number m = pick_of number (map any_part (vars_of program m))

-- the picks with the general one of a method, if it may have a body
abbrev pub with_general_of : Program → ℕ → MethodDef → List Pick → List Pick
with_general_of program number m picks = if may_have_body number m then with_pick picks (general_pick program number m) else picks

-- the picks with the general ones of these methods, of which the first has this number
abbrev pub with_general : Program → ℕ → List MethodDef → List Pick → List Pick
with_general program number [] picks = picks
with_general program number (m ∷ ms) picks = with_general program (number + 1) ms (with_general_of program number m picks)

-- the picks behind a line that does this
abbrev pub picks_after : Program → Act → List Pick → List Pick
picks_after program act.Nothing picks = picks
picks_after program act.AddsAll picks = with_general program 0 program.methods picks
picks_after program (act.TakesAway number) picks = without_method number picks
picks_after program (act.Adds number parts) picks = with_pick picks (pick_of number parts)
