-- Which types are admitted, and which limit another one passes. This project's own.
use Rattle.std.specs.Prelude.{ℕ, zero, suc, ◌*◌, ◌==◌, Bool, true, false, ◌&&◌, List, [], ◌∷◌, ◌++◌, length, flat_map, filter, slice_get, nat_lt, Option, Some, None, option_to_list, if◌then◌else◌}
use Rattle.std.specs.List.{list_any}
use Rattle.type_tree.specs.declared.tree.TExpr.{TExpr}
use Rattle.type_tree.specs.declared.tree.TNode.{TNode}
use Rattle.type_tree.specs.declared.tree.TNode.TheVariants.{Node, ClassVar, MethodVar}
use Rattle.type_tree.specs.declared.tree.Head.TheVariants as head
use Rattle.type_tree.specs.Tree.{top_of}
use Rattle.type_tree.specs.Positions.{positions_of}
use Rattle.il_model.specs.declared.class.ClassDef.{ClassDef}
use Rattle.il_model.specs.declared.layout.Limit.{Limit}
use Rattle.il_model.specs.declared.layout.Limit.TheVariants as limit
use Rattle.il_model.specs.declared.program.Program.{Program}
use Rattle.il_model.specs.Find.{class_of}
use Rattle.il_model.specs.Kinds.{is_value}
use Rattle.il_model.specs.Trees.{trees_in}
use Rattle.il_model.specs.Bases.{base_of}
use Rattle.il_model.specs.Interfaces.{own_interfaces_of}
use Rattle.il_model.specs.Layouts.{fields_in, kinds_at, most_trees, words_of}

-- the most positions of a tree
abbrev pub most_positions : ℕ
most_positions = 256

-- the most words of a value
abbrev pub most_words : ℕ
most_words = 16

abbrev pub has_count_in : Option ClassDef → List TExpr → Bool
has_count_in None parts = false
has_count_in (Some c) parts = length parts == length c.vars

abbrev pub has_count_top : Program → TNode TExpr → Bool
has_count_top program (Node head.Int32 parts) = length parts == 0
has_count_top program (Node head.Int64 parts) = length parts == 0
has_count_top program (Node head.Bool parts) = length parts == 0
has_count_top program (Node head.Vector parts) = length parts == 1
has_count_top program (Node (head.Class number) parts) = has_count_in (slice_get program.classes number) parts
has_count_top program (ClassVar n) = true
has_count_top program (MethodVar n) = true

-- whether a type has as many arguments as its head wants, its class being one of the program
abbrev pub has_count : Program → TExpr → Bool
has_count program t = has_count_top program (top_of t)

-- the types of the class's own fields, static ones too, that are value types
abbrev pub value_fields_of : Program → TExpr → List TExpr
value_fields_of program t = filter (is_value program) (kinds_at t (fields_in (class_of program t)))

-- one step from a type to another of its closure: to its base, to an interface that its class names, or to a value type of a field. Types with a wrong number of arguments are passed over
abbrev pub steps_of : Program → TExpr → List TExpr
steps_of program t =
    filter (has_count program) (option_to_list (base_of program t) ++ (own_interfaces_of program t ++ value_fields_of program t))

-- the type and what is reached from it in so many steps
abbrev pub closure_within : Program → ℕ → TExpr → List TExpr
closure_within program zero t = t ∷ []
closure_within program (suc steps) t = t ∷ flat_map (λ next. closure_within program steps next) (steps_of program t)

-- the base, interface and value-field closure of a type, itself included, with repeats. Where each definition's closure has at most `most_trees` trees, no tree is further away: a shortest way meets each of them once at most before it comes to the closure of an argument
abbrev pub closure_of : Program → TExpr → List TExpr
closure_of program t = closure_within program (most_trees * positions_of t) t

-- the trees that the limits are asked of: the type, each argument in it at any depth, and the closure of each of these
abbrev pub limited_trees_of : Program → TExpr → List TExpr
limited_trees_of program t = flat_map (closure_of program) (trees_in t)

-- whether a tree has too many positions
abbrev pub is_large : TExpr → Bool
is_large t = nat_lt most_positions (positions_of t)

-- whether a tree is a value type of too many words
abbrev pub is_wide : Program → TExpr → Bool
is_wide program t = is_value program t && nat_lt most_words (words_of program t)

abbrev pub limit_among : Program → List TExpr → Option Limit
limit_among program ts =
    if list_any is_large ts then Some limit.Positions else (if list_any (is_wide program) ts then Some limit.ValueWords else None)

-- the limit that a type passes, Positions before ValueWords; none where it is admitted
abbrev pub limit_of : Program → TExpr → Option Limit
limit_of program t = limit_among program (limited_trees_of program t)
