-- What a written type stands for, by what it is.
use Rattle.std.proofs.Common.{◌≡◌, ◌∙◌, List, [], Ok, ap}
use Rattle.type_tree.specs.declared.tree.TExpr.{TExpr}
use Rattle.type_tree.specs.declared.tree.Head.TheVariants as head
use Rattle.type_tree.specs.Tree.{node}
use Rattle.il_model.specs.declared.written.WrittenName.{WrittenName}
use Rattle.il_model.specs.declared.written.WrittenType.{WrittenType}
use Rattle.il_model.specs.declared.written.WrittenType.TheVariants as w
use Rattle.il_model.specs.declared.written.WrittenType as views
use Rattle.il_model.specs.declared.written.WrittenType.TheOpen.{WrittenType-F}
use Rattle.il_model.specs.declared.written.WrittenType.TheFolds.{fold-roll-WrittenType}
use Rattle.il_model.specs.Names.{Scope, class_number}
use Rattle.il_parse.specs.Looking.{Look, ◌>>=◌, pure, found_or_unknown, each_of}
use Rattle.il_parse.specs.NamedTypes.{level_named, variable_named, type_named, types_named}
use Rattle.il_parse.specs.Levels.{class_type, vector_type}
use Rattle.il_parse.proofs.EachLemmas.{all_each}

module _ (s : Scope) (t : WrittenType) where
  pub int32_is : t ≡ w.Int32 → type_named s t ≡ Ok (node head.Int32 [])
  unfolding type_named views.roll-WrittenType denote.Hole.Carrier.roll
  int32_is is = ap (type_named s) is ∙ fold-roll-WrittenType (Look TExpr) (level_named s) WrittenType-F.Int32

  pub int64_is : t ≡ w.Int64 → type_named s t ≡ Ok (node head.Int64 [])
  unfolding type_named views.roll-WrittenType denote.Hole.Carrier.roll
  int64_is is = ap (type_named s) is ∙ fold-roll-WrittenType (Look TExpr) (level_named s) WrittenType-F.Int64

  pub bool_is : t ≡ w.Bool → type_named s t ≡ Ok (node head.Bool [])
  unfolding type_named views.roll-WrittenType denote.Hole.Carrier.roll
  bool_is is = ap (type_named s) is ∙ fold-roll-WrittenType (Look TExpr) (level_named s) WrittenType-F.Bool

  pub object_is : t ≡ w.Object → type_named s t ≡ Ok (node (head.Class 0) [])
  unfolding type_named views.roll-WrittenType denote.Hole.Carrier.roll
  object_is is = ap (type_named s) is ∙ fold-roll-WrittenType (Look TExpr) (level_named s) WrittenType-F.Object

  pub string_is : t ≡ w.String → type_named s t ≡ Ok (node (head.Class 1) [])
  unfolding type_named views.roll-WrittenType denote.Hole.Carrier.roll
  string_is is = ap (type_named s) is ∙ fold-roll-WrittenType (Look TExpr) (level_named s) WrittenType-F.String

  pub variable_is : (v : WrittenName) → t ≡ w.Variable v → type_named s t ≡ variable_named s v
  unfolding type_named views.roll-WrittenType denote.Hole.Carrier.roll
  variable_is v is = ap (type_named s) is ∙ fold-roll-WrittenType (Look TExpr) (level_named s) (WrittenType-F.Variable v)

  pub class_is : (name : WrittenName) (args : List WrittenType) → t ≡ w.Named name args → type_named s t ≡ class_type s name args
  unfolding type_named types_named each_of class_type views.roll-WrittenType denote.Hole.Carrier.roll
  class_is name args is =
      ap (type_named s) is ∙ fold-roll-WrittenType (Look TExpr) (level_named s) (WrittenType-F.Named name args)
      ∙ ap (λ (r : Look (List TExpr)). found_or_unknown (class_number s.names name.name) name >>= (λ number. r >>= (λ ts. pure (node (head.Class number) ts))))
      (all_each (type_named s) [] args)

  pub vector_is : (element : WrittenType) → t ≡ w.Vector element → type_named s t ≡ vector_type s element
  unfolding type_named vector_type views.roll-WrittenType denote.Hole.Carrier.roll
  vector_is element is = ap (type_named s) is ∙ fold-roll-WrittenType (Look TExpr) (level_named s) (WrittenType-F.Vector element)
