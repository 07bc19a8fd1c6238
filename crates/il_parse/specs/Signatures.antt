-- The signature of a method, by which it is found again among those of its class. This project's own.
use Rattle.std.specs.Prelude.{◌≡◌, ◌==◌, ◌&&◌, Bool, List, ◌∷◌, ◌++◌, length, flat_map, Option, Some, None, bytes_eq}
use Rattle.std.specs.List.{AllByRecursion}
use Rattle.std.specs.Hash as fed
use Rattle.std.specs.Hash.{HashWrites}
use Rattle.type_tree.specs.declared.tree.Head.{Head}
use Rattle.type_tree.specs.declared.tree.Head.TheVariants as head
use Rattle.type_tree.specs.declared.tree.TExpr.{TExpr}
use Rattle.type_tree.specs.declared.tree.TNode.{TNode}
use Rattle.type_tree.specs.declared.tree.TNode.TheVariants.{Node, ClassVar, MethodVar}
use Rattle.type_tree.specs.Tree.{folded}
use Rattle.il_model.specs.declared.method.PType.{PType}
use Rattle.il_model.specs.declared.method.PType.TheVariants as ptype
use Rattle.il_model.specs.declared.method.MethodDef.{MethodDef}
use Rattle.il_parse.specs.declared.signatures.Signature.{Signature}
use Rattle.il_parse.specs.declared.signatures.Unsigned.{Unsigned}
use Rattle.il_parse.specs.SameTypes.{same_params, same_result}

abbrev pub same_signature : Signature → Signature → Bool
same_signature a b = bytes_eq a.name b.name && (a.vars == b.vars) && same_params a.params b.params && same_result a.result b.result

-- a method from its signature and the rest
abbrev pub method_of : Signature × Unsigned → MethodDef
method_of m = record {
  owner = m.1.owner;
  name = m.0.name;
  shape = m.1.shape;
  vars = m.1.vars;
  params = m.0.params;
  result = m.0.result;
  body = m.1.body;
}

-- the signature counts the variables that the rest has
abbrev pub AreCounted : List (Signature × Unsigned) → Type 0
AreCounted ms = AllByRecursion (λ m. m.0.vars ≡ length m.1.vars) ms

-- What of a signature goes into its hash: the name, and a number for each head and the numbers in it, in order.

abbrev pub head_writes : Head → HashWrites
head_writes head.Int32 = fed.u8 0
head_writes head.Int64 = fed.u8 1
head_writes head.Bool = fed.u8 2
head_writes head.Vector = fed.u8 3
head_writes (head.Class number) = fed.u8 4 ++ fed.u16 number

-- one level, with what is written for each tree below in its place
abbrev pub level_writes : TNode HashWrites → HashWrites
level_writes (Node h parts) = head_writes h ++ flat_map (λ part. part) parts
level_writes (ClassVar n) = fed.u8 5 ++ fed.u8 n
level_writes (MethodVar n) = fed.u8 6 ++ fed.u8 n

abbrev pub tree_writes : TExpr → HashWrites
tree_writes = folded level_writes

abbrev pub param_writes : PType → HashWrites
param_writes (ptype.Value t) = fed.u8 7 ++ tree_writes t
param_writes (ptype.Pointer t) = fed.u8 8 ++ tree_writes t
param_writes ptype.Native = fed.u8 9

abbrev pub result_writes : Option TExpr → HashWrites
result_writes None = fed.u8 10
result_writes (Some t) = fed.u8 11 ++ tree_writes t

abbrev pub signature_writes : Signature → HashWrites
signature_writes s = s.name ∷ result_writes s.result ++ flat_map param_writes s.params
