-- The look-up of names: classes, variables and types. This project's own.
use Rattle.std.specs.Prelude.{◌≡◌, ℕ, ◌<◌, true, false, List, [], ◌∷◌, ◌++◌, map, position, bytes_eq, Option, Some, None, codes}
use Rattle.type_tree.specs.declared.tree.TExpr.{TExpr}
use Rattle.type_tree.specs.declared.tree.Head.TheVariants as head
use Rattle.type_tree.specs.Tree.{node, class_var, method_var}
use Rattle.il_text.specs.Bytes.{is_digit}
use Rattle.il_text.specs.Spelling.{is_run, digits_value}
use Rattle.il_model.specs.declared.method.PType.{PType}
use Rattle.il_model.specs.declared.method.PType.TheVariants as ptype
use Rattle.il_model.specs.declared.class.VarDef.{VarDef}
use Rattle.il_model.specs.declared.class.ClassDef.{ClassDef}
use Rattle.il_model.specs.declared.written.WrittenName.{WrittenName}
use Rattle.il_model.specs.declared.written.WrittenType.{WrittenType}
use Rattle.il_model.specs.declared.written.WrittenType.TheVariants as w
use Rattle.il_model.specs.declared.written.WrittenParam.{WrittenParam}
use Rattle.il_model.specs.declared.written.WrittenVar.{WrittenVar}
use Rattle.il_model.specs.Spellings.{plain_name}

-- the place of a name in a list of names
abbrev pub place_of : List (List ℕ) → List ℕ → Option ℕ
place_of names name = position (λ known. bytes_eq name known) names

-- the number of the class with this name, where each class goes by the name at its place; `System.Object` and `System.String` are also names of `object` and `string`
abbrev pub class_number : List (List ℕ) → List ℕ → Option ℕ
class_number names name = place_of (map plain_name names) (plain_name name)

-- the names of classes in order, `object` and `string` in their short spelling
abbrev pub plain_names : List ClassDef → List (List ℕ)
plain_names classes = map (λ c. plain_name c.name) classes

-- how many classes of a program are looked at
abbrev pub most_classes : ℕ
most_classes = 65536

-- what names stand for: the classes' names, how many type variables each class has, and how many variables there are here
pub record Scope : Type 0 where
  pub names : List (List ℕ)
  pub arities : List ℕ
  pub of_class : ℕ
  pub of_method : ℕ

-- the lists are as long as each other, and the relation holds at each place
pub data Each {A B : Type 0} (R : A → B → Type 0) : List A → List B → Type 0 where
  end : Each R [] []
  both : (x : A) (y : B) (xs : List A) (ys : List B) → R x y → Each R xs ys → Each R (x ∷ xs) (y ∷ ys)

-- both are there and the relation holds, or neither
pub data Perhaps {A B : Type 0} (R : A → B → Type 0) : Option A → Option B → Type 0 where
  neither : Perhaps R None None
  each : (x : A) (y : B) → R x y → Perhaps R (Some x) (Some y)

-- the token of a variable is this mark and these digits, which give its number
pub record IsVariable (mark token : List ℕ) (number : ℕ) : Type 0 where
  pub digits : List ℕ
  pub spelled : token ≡ mark ++ digits
  pub are_digits : is_run is_digit digits ≡ true
  pub gives : digits_value 10 digits ≡ number

mutual
  -- a written type stands for this one
  pub data NamesType : Scope → WrittenType → TExpr → Type 0 where
    int32 : (s : Scope) (written : WrittenType) (t : TExpr) → written ≡ w.Int32 → t ≡ node head.Int32 [] → NamesType s written t
    int64 : (s : Scope) (written : WrittenType) (t : TExpr) → written ≡ w.Int64 → t ≡ node head.Int64 [] → NamesType s written t
    bool : (s : Scope) (written : WrittenType) (t : TExpr) → written ≡ w.Bool → t ≡ node head.Bool [] → NamesType s written t
    object : (s : Scope) (written : WrittenType) (t : TExpr) → written ≡ w.Object → t ≡ node (head.Class 0) [] → NamesType s written t
    string : (s : Scope) (written : WrittenType) (t : TExpr) → written ≡ w.String → t ≡ node (head.Class 1) [] → NamesType s written t
    class_variable : (s : Scope) (written : WrittenType) (t : TExpr) (v : WrittenName) (number : ℕ) → written ≡ w.Variable v →
        IsVariable (codes "!") v.name number → number < s.of_class → t ≡ class_var number → NamesType s written t
    method_variable : (s : Scope) (written : WrittenType) (t : TExpr) (v : WrittenName) (number : ℕ) → written ≡ w.Variable v →
        IsVariable (codes "!!") v.name number → number < s.of_method → t ≡ method_var number → NamesType s written t
    class : (s : Scope) (written : WrittenType) (t : TExpr) (name : WrittenName) (args : List WrittenType) (ts : List TExpr) (number : ℕ) →
        written ≡ w.Named name args → class_number s.names name.name ≡ Some number → NamesTypes s args ts →
        t ≡ node (head.Class number) ts → NamesType s written t
    vector : (s : Scope) (written element : WrittenType) (t of : TExpr) → written ≡ w.Vector element → NamesType s element of →
        t ≡ node head.Vector (of ∷ []) → NamesType s written t

  pub data NamesTypes : Scope → List WrittenType → List TExpr → Type 0 where
    no_types : (s : Scope) → NamesTypes s [] []
    more_types : (s : Scope) (written : WrittenType) (t : TExpr) (ws : List WrittenType) (ts : List TExpr) → NamesType s written t →
        NamesTypes s ws ts → NamesTypes s (written ∷ ws) (t ∷ ts)

abbrev pub NamesResult : Scope → Option WrittenType → Option TExpr → Type 0
NamesResult s = Perhaps (NamesType s)

-- a parameter or a local
pub data NamesParam (s : Scope) : WrittenParam → PType → Type 0 where
  by_value : (written : WrittenType) (t : TExpr) → NamesType s written t →
      NamesParam s (record { kind = written; pointer = false }) (ptype.Value t)
  by_pointer : (written : WrittenType) (t : TExpr) → NamesType s written t →
      NamesParam s (record { kind = written; pointer = true }) (ptype.Pointer t)

abbrev pub NamesParams : Scope → List WrittenParam → List PType → Type 0
NamesParams s = Each (NamesParam s)

-- a type variable with its bounds
pub record NamesVar (s : Scope) (written : WrittenVar) (var : VarDef) : Type 0 where
  pub name : var.name ≡ written.name.name
  pub bounds : NamesTypes s written.bounds var.bounds

abbrev pub NamesVars : Scope → List WrittenVar → List VarDef → Type 0
NamesVars s = Each (NamesVar s)
