-- What the search for slots finds, by numbers of methods alone.
use Rattle.std.specs.Prelude.{ℕ, List, map, find, slice_get, Option, Some, None, option_map, option_and_then}
use Rattle.type_tree.specs.declared.tree.TExpr.{TExpr}
use Rattle.il_model.specs.declared.method.MethodDef.{MethodDef}
use Rattle.il_model.specs.declared.layout.MethodTree.{MethodTree}
use Rattle.il_model.specs.declared.program.Program.{Program}
use Rattle.il_model.specs.Found.{method_at}
use Rattle.il_model.specs.Signatures.{Signature, signature_at}
use Rattle.il_model.specs.Slots.{VirtualSlots, slot_taken, own_methods_of, is_match, nearest_match}
use Rattle.type_inst.specs.declared.slotting.SlotTable.{SlotTable}

-- the virtual slots that a table has
abbrev pub seen : SlotTable → VirtualSlots
seen table = record { stands = table.stands; taken = table.taken }

-- the first of the own methods of a type's class that is virtual and has this name and signature
abbrev pub own_match : Program → Signature → TExpr → Option ℕ
own_match program s t = find (λ number. is_match s t (method_at program number)) (own_methods_of program t)

-- the number of the nearest match
abbrev pub number_matched : Program → Signature → List TExpr → Option ℕ
number_matched program s ts = option_map (λ c. c.1) (nearest_match program s ts)

-- the number of the nearest match of an interface's method
abbrev pub found_in : Program → TExpr → List TExpr → Option MethodDef → Option ℕ
found_in program interface ts None = None
found_in program interface ts (Some m) = number_matched program (signature_at interface m) ts

-- the method that stands in the slot of the one that is found
abbrev pub standing_in : VirtualSlots → Option ℕ → Option MethodTree
standing_in slots found = option_and_then (λ number. option_and_then (λ slot. slice_get slots.stands slot) (slot_taken slots number)) found

-- the places of the methods of one interface
abbrev pub own_places : Program → TExpr → List (TExpr × ℕ)
own_places program t = map (λ number. (t, number)) (own_methods_of program t)
