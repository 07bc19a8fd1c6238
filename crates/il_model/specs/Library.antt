-- The predefined library, with the numbers of its classes and methods. This project's own.
use Rattle.std.specs.Prelude.{ℕ, true, List, [], ◌∷◌, ◌++◌, Option, Some, None, map, codes}
use Rattle.type_tree.specs.declared.tree.TExpr.{TExpr}
use Rattle.type_tree.specs.declared.tree.Head.TheVariants as head
use Rattle.type_tree.specs.Tree.{node}
use Rattle.il_model.specs.declared.class.ClassKind.{ClassKind}
use Rattle.il_model.specs.declared.class.ClassKind.TheVariants as kind
use Rattle.il_model.specs.declared.class.ClassDef.{ClassDef}
use Rattle.il_model.specs.declared.method.Shape.TheVariants as shape
use Rattle.il_model.specs.declared.method.PType.TheVariants as ptype
use Rattle.il_model.specs.declared.method.MethodDef.{MethodDef}
use Rattle.il_model.specs.declared.op.Op.TheVariants as op

-- the type of a class without variables, by its number
abbrev pub plain : ℕ → TExpr
plain number = node (head.Class number) []

-- a class of the library: its name, kind, base and methods
abbrev pub library_class : List ℕ → ClassKind → Option TExpr → List ℕ → ClassDef
library_class name k base methods =
    record { name = name; kind = k; vars = []; base = base; interfaces = []; fields = []; methods = methods }

-- a class of exceptions, with its constructor
abbrev pub exception_class : List ℕ → ℕ → ℕ → ClassDef
exception_class name base constructor = library_class name kind.Plain (Some (plain base)) (constructor ∷ [])

-- classes 0 to 12
abbrev pub library_classes : List ClassDef
library_classes =
    library_class (codes "object") kind.Plain None (1 ∷ []) ∷
    library_class (codes "string") kind.Plain (Some (plain 0)) [] ∷
    exception_class (codes "System.Exception") 0 2 ∷
    exception_class (codes "System.SystemException") 2 3 ∷
    exception_class (codes "System.ArithmeticException") 3 4 ∷
    exception_class (codes "System.DivideByZeroException") 4 5 ∷
    exception_class (codes "System.OverflowException") 4 6 ∷
    exception_class (codes "System.NullReferenceException") 3 7 ∷
    exception_class (codes "System.IndexOutOfRangeException") 3 8 ∷
    exception_class (codes "System.InvalidCastException") 3 9 ∷
    exception_class (codes "System.ArrayTypeMismatchException") 3 10 ∷
    library_class (codes "Rt.IRun") kind.Interface None (11 ∷ []) ∷
    library_class (codes "Rt.Threads") kind.Plain (Some (plain 0)) (0 ∷ []) ∷ []

-- a constructor, whose body is one `ret`
abbrev pub constructor_of : ℕ → MethodDef
constructor_of owner = record {
  owner = owner;
  name = codes ".ctor";
  shape = shape.Instance;
  vars = [];
  params = [];
  result = None;
  body = Some (record { locals = []; code = op.Ret ∷ []; clauses = [] });
}

-- where a thread that is started begins: it runs the object that it is given
abbrev pub thread_entry : MethodDef
thread_entry = record {
  owner = 12;
  name = codes "Entry";
  shape = shape.Fixed;
  vars = [];
  params = ptype.Value (plain 11) ∷ [];
  result = None;
  body = Some (record {
    locals = [];
    code =
        op.Ldarg 0 ∷
        op.Callvirt (record { instance = true; result = None; class = plain 11; name = codes "Run"; args = []; params = [] }) ∷
        op.Ret ∷ [];
    clauses = [];
  });
}

-- what an object that is to be run has
abbrev pub run_method : MethodDef
run_method = record { owner = 11; name = codes "Run"; shape = shape.Abstract; vars = []; params = []; result = None; body = None }

-- methods 0 to 11
abbrev pub library_methods : List MethodDef
library_methods =
    thread_entry ∷ map constructor_of (0 ∷ 2 ∷ 3 ∷ 4 ∷ 5 ∷ 6 ∷ 7 ∷ 8 ∷ 9 ∷ 10 ∷ []) ++ run_method ∷ []
