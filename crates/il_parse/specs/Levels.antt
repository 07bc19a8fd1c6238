-- What one level of a written type stands for. This project's own.
use Rattle.std.specs.Prelude.{List, [], ◌∷◌}
use Rattle.type_tree.specs.declared.tree.TExpr.{TExpr}
use Rattle.type_tree.specs.declared.tree.Head.TheVariants as head
use Rattle.type_tree.specs.Tree.{node}
use Rattle.il_model.specs.declared.written.WrittenName.{WrittenName}
use Rattle.il_model.specs.declared.written.WrittenType.{WrittenType}
use Rattle.il_model.specs.Names.{Scope, class_number}
use Rattle.il_parse.specs.Looking.{Look, ◌>>=◌, pure, found_or_unknown}
use Rattle.il_parse.specs.NamedTypes.{type_named, types_named}

-- a class with its arguments
unfoldable pub class_type : Scope → WrittenName → List WrittenType → Look TExpr
class_type s name args =
    found_or_unknown (class_number s.names name.name) name >>= (λ number. types_named s args >>= (λ ts. pure (node (head.Class number) ts)))

-- a vector of these elements
unfoldable pub vector_type : Scope → WrittenType → Look TExpr
vector_type s element = type_named s element >>= (λ t. pure (node head.Vector (t ∷ [])))
