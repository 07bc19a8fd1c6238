-- The layout of types in words of 64 bits. This project's own.
use Rattle.std.specs.Prelude.{ℕ, zero, suc, ◌+◌, ◌*◌, Bool, true, false, not, List, [], ◌∷◌, map, flat_map, filter, reverse, sum_by, Option, Some, None}
use Rattle.type_tree.specs.declared.tree.TExpr.{TExpr}
use Rattle.type_tree.specs.declared.tree.TNode.{TNode}
use Rattle.type_tree.specs.declared.tree.TNode.TheVariants.{Node, ClassVar, MethodVar}
use Rattle.type_tree.specs.declared.tree.Head.TheVariants as head
use Rattle.type_tree.specs.Tree.{top_of}
use Rattle.type_tree.specs.Positions.{positions_of}
use Rattle.il_model.specs.declared.class.ClassDef.{ClassDef}
use Rattle.il_model.specs.declared.class.FieldDef.{FieldDef}
use Rattle.il_model.specs.declared.layout.Layout.{Layout}
use Rattle.il_model.specs.declared.program.Program.{Program}
use Rattle.il_model.specs.Find.{class_of}
use Rattle.il_model.specs.Kinds.{is_struct_class}
use Rattle.il_model.specs.Bases.{with_args_of, bases_of}

abbrev pub fields_in : Option ClassDef → List FieldDef
fields_in None = []
fields_in (Some c) = c.fields

-- the types of the fields of a list, with the arguments of this type put
abbrev pub kinds_at : TExpr → List FieldDef → List TExpr
kinds_at t fields = map (λ f. with_args_of t f.kind) fields

-- the types of the instance fields that the class of a type has itself
abbrev pub own_kinds_of : Program → TExpr → List TExpr
own_kinds_of program t = kinds_at t (filter (λ f. not f.fixed) (fields_in (class_of program t)))

-- the types of all instance fields, base fields first
abbrev pub instance_kinds_of : Program → TExpr → List TExpr
instance_kinds_of program t = flat_map (own_kinds_of program) (reverse (bases_of program t))

-- the types of the static fields of the class itself
abbrev pub static_kinds_of : Program → TExpr → List TExpr
static_kinds_of program t = kinds_at t (filter (λ f. f.fixed) (fields_in (class_of program t)))

abbrev pub parts_if : Bool → List TExpr → Option (List TExpr)
parts_if true kinds = Some kinds
parts_if false kinds = None

-- the types of the parts of a value: a struct's fields. Any other type has no parts
abbrev pub parts_of : Program → TExpr → Option (List TExpr)
parts_of program t = parts_if (is_struct_class (class_of program t)) (instance_kinds_of program t)

-- one word where there are no parts, or else the words of the parts
abbrev pub words_in : (TExpr → ℕ) → Option (List TExpr) → ℕ
words_in words None = 1
words_in words (Some kinds) = sum_by words kinds

-- the words of a value, where structs are opened so many levels far
abbrev pub words_within : Program → ℕ → TExpr → ℕ
words_within program zero t = 1
words_within program (suc levels) t = words_in (λ part. words_within program levels part) (parts_of program t)

-- the most different trees in the closure of a definition
abbrev pub most_trees : ℕ
most_trees = 8192

-- the words of a value of a type: one for a scalar, a reference and a variable, and for a struct those of its fields. Where no struct lies in its own closure, so many levels are never passed: a way into fields meets each tree of a definition's closure at most once before it comes to an argument
abbrev pub words_of : Program → TExpr → ℕ
words_of program t = words_within program (most_trees * positions_of t) t

abbrev pub instance_words_top : Program → TExpr → TNode TExpr → ℕ
instance_words_top program t (Node head.Int32 parts) = 1
instance_words_top program t (Node head.Int64 parts) = 1
instance_words_top program t (Node head.Bool parts) = 1
instance_words_top program t (Node head.Vector parts) = 0
instance_words_top program t (Node (head.Class number) parts) = sum_by (words_of program) (instance_kinds_of program t)
instance_words_top program t (ClassVar n) = 1
instance_words_top program t (MethodVar n) = 1

-- the words of an instance, or of what a box holds: those of all instance fields; one for a scalar or a variable, none for a vector
abbrev pub instance_words_of : Program → TExpr → ℕ
instance_words_of program t = instance_words_top program t (top_of t)

-- where each of these lies, from this word on, one behind the other
abbrev pub offsets_from : ℕ → List ℕ → List ℕ
offsets_from at [] = []
offsets_from at (words ∷ rest) = at ∷ offsets_from (at + words) rest

-- the words of an instance and the places of its fields; then those of the class's own static fields
abbrev pub layout_of : Program → TExpr → Layout
layout_of program t = record {
  words = instance_words_of program t;
  offsets = offsets_from 0 (map (words_of program) (instance_kinds_of program t));
  fixed_words = sum_by (words_of program) (static_kinds_of program t);
  fixed_offsets = offsets_from 0 (map (words_of program) (static_kinds_of program t));
}
