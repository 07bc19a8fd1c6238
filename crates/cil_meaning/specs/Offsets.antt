-- Where the fields of a class lie. This project's own.
use Rattle.std.specs.Prelude.{ℕ, ◌+◌, ◌-◌, not, List, length, take, filter, Option, option_and_then, slice_get}
use Rattle.type_tree.specs.declared.tree.TExpr.{TExpr}
use Rattle.il_model.specs.declared.program.Program.{Program}
use Rattle.il_model.specs.declared.class.ClassDef.{ClassDef}
use Rattle.il_model.specs.declared.class.FieldDef.{FieldDef}
use Rattle.il_model.specs.Find.{class_of}
use Rattle.il_model.specs.Layouts.{layout_of}

abbrev pub instance_fields : List FieldDef → List FieldDef
instance_fields = filter (λ f. not f.fixed)

abbrev pub static_fields : List FieldDef → List FieldDef
static_fields = filter (λ f. f.fixed)

-- the place of a class's own instance field among all instance fields of its objects, of which its own are the last
abbrev pub instance_place : List ℕ → List FieldDef → ℕ → ℕ
instance_place offsets fields place = length offsets - length (instance_fields fields) + length (instance_fields (take place fields))

-- the offset of a class's own instance field, by its place among the class's own fields
abbrev pub instance_offset : Program → TExpr → ℕ → Option ℕ
instance_offset p class place = option_and_then (λ (c : ClassDef). slice_get (layout_of p class).offsets (instance_place (layout_of p class).offsets c.fields place)) (class_of p class)

-- the offset of a class's own static field among the class's static words
abbrev pub static_offset : Program → TExpr → ℕ → Option ℕ
static_offset p class place = option_and_then (λ (c : ClassDef). slice_get (layout_of p class).fixed_offsets (length (static_fields (take place c.fields)))) (class_of p class)
