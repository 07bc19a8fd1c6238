-- How the code keeps the picks: what is taken away stays in the list, and is told apart by its round. This project's own.
use Rattle.std.specs.Prelude.{◌≡◌, ◌<◌, ◌++◌, ◌&&◌, Result, Ok, Err, ⊤, Bool, true, ℕ, nat_eq, nat_le, List, map, filter, flat_map, length, slice_get, unwrap_or}
use Rattle.std.specs.List.{list_all}
use Rattle.std.specs.Cmp.Lexicographic.{pointwise}
use Rattle.std.specs.Hash as fed
use Rattle.std.specs.Hash.{HashWrites}
use Rattle.rgctx_template.specs.Fed.{tree_writes}
use Rattle.il_model.specs.declared.key.KeyPart.{KeyPart}
use Rattle.il_model.specs.declared.key.KeyPart.TheVariants.{Ref, Any, Exact}
use Rattle.il_model.specs.declared.program.Program.{Program}
use Rattle.mn_outside.specs.declared.outside.Refused.{Refused}
use Rattle.mn_outside.specs.declared.outside.Refused.TheVariants as refused
use Rattle.aot_image.specs.declared.choice_judging.Act.{Act}
use Rattle.aot_image.specs.declared.choice_judging.Act.TheVariants as act
use Rattle.aot_image.specs.declared.choice_picks.Entry.{Entry}
use Rattle.aot_image.specs.ChoosingPicks.{Pick, pick_of, same_part}

abbrev pub same_entry : Entry → Entry → Bool
same_entry a b = nat_eq a.method b.method && (nat_eq a.round b.round && pointwise same_part a.parts b.parts)

-- what of an entry goes into its hash
abbrev pub part_writes : KeyPart → HashWrites
part_writes Ref = fed.u8 0
part_writes Any = fed.u8 1
part_writes (Exact t) = fed.u8 2 ++ tree_writes t

abbrev pub entry_writes : Entry → HashWrites
entry_writes e = fed.u16 e.method ++ (fed.usize e.round ++ flat_map part_writes e.parts)

-- how often the picks of a method were taken away
abbrev pub round_of : List ℕ → ℕ → ℕ
round_of rounds method = unwrap_or (slice_get rounds method) 0

-- an entry counts while its round is that of its method
abbrev pub is_live : List ℕ → Entry → Bool
is_live rounds e = nat_eq e.round (round_of rounds e.method)

abbrev pub pick_at : Entry → Pick
pick_at e = pick_of e.method e.parts

-- the picks that are kept
abbrev pub live_of : List ℕ → List Entry → List Pick
live_of rounds entries = map pick_at (filter (is_live rounds) entries)

-- no entry is of a later round than its method
abbrev pub is_past : List ℕ → Entry → Bool
is_past rounds e = nat_le e.round (round_of rounds e.method)

pub record IsKept (rounds : List ℕ) (entries : List Entry) : Type 0 where
  pub past : list_all (is_past rounds) entries ≡ true

-- the method of a line is one of the program's
abbrev pub IsWithin : Program → Act → Type 0
IsWithin program act.Nothing = ⊤
IsWithin program act.AddsAll = ⊤
IsWithin program (act.TakesAway number) = number < length program.methods
IsWithin program (act.Adds number parts) = number < length program.methods

-- the picks that lines leave are the definition's, or the fault is; want of memory says nothing
abbrev pub LeavesLine : {E : Type 0} → Result (List Pick) E → Result (Unit {0}) (Refused E) → List Pick → Type 0
LeavesLine expected (Ok x) new = expected ≡ Ok new
LeavesLine expected (Err (refused.Fault why)) new = expected ≡ Err why
LeavesLine expected (Err refused.NoMemory) new = ⊤
