-- What is added to the number of the last node that an entry needs to give the entry's value. This project's own.
use Rattle.std.specs.Prelude.{ℕ, ◌*◌, Option, Some, None, unwrap_or}
use Rattle.il_model.specs.declared.entry.Entry.{Entry}
use Rattle.il_model.specs.declared.entry.Entry.TheVariants as entry
use Rattle.il_model.specs.declared.layout.MethodTree.{MethodTree}
use Rattle.rgctx_template.specs.Catalogue.{CatData}
use Rattle.rgctx_fill.specs.declared.spelled.NodeTree.{NodeTree}
use Rattle.rgctx_fill.specs.NamedValues.{size_value, extent_value, offset_value, method_in_slot}
use Rattle.rgctx_fill.specs.BestRows.{entry_word_of}

-- 65,536 times the entry word
abbrev pub method_base : CatData → MethodTree → ℕ
method_base cat m = 65536 * entry_word_of cat m

abbrev pub slot_base : CatData → Option MethodTree → ℕ
slot_base cat None = 0
slot_base cat (Some m) = method_base cat m

-- nothing for a type; the whole value where the entry needs no node
abbrev pub base_named : CatData → NodeTree → Entry → ℕ
base_named cat spells (entry.Kind t) = 0
base_named cat spells (entry.Method number class args) = method_base cat (record { method = number; class = class; args = args })
base_named cat spells (entry.Size t) = size_value cat.program t
base_named cat spells (entry.Extent t) = extent_value cat.program t
base_named cat spells (entry.Offset t place) = unwrap_or (offset_value cat.program t place) 0
base_named cat spells (entry.Slot number) = slot_base cat (method_in_slot cat.program spells number)
