-- The types of a method as one of its instantiations sees them. This project's own.
use Rattle.type_tree.specs.declared.tree.TExpr.{TExpr}
use Rattle.type_tree.specs.Substitution.{substituted}
use Rattle.il_model.specs.declared.layout.MethodTree.{MethodTree}
use Rattle.il_model.specs.Entries.{arguments_of}

-- a type with the arguments of the class and of the method put
abbrev pub seen_at : MethodTree → TExpr → TExpr
seen_at m t = substituted (arguments_of m.class) m.args t
