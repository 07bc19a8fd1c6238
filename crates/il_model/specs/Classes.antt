-- Classes and whole programs as they are written: the rules `field`, `method`, `class` and `program` of the grammar.
use Rattle.std.specs.Prelude.{◌≡◌, ℕ, Bool, List, [], ◌∷◌, ◌++◌, Option, Some, None, Contains, codes}
use Rattle.il_model.specs.declared.class.ClassKind.{ClassKind}
use Rattle.il_model.specs.declared.class.ClassKind.TheVariants as kind
use Rattle.il_model.specs.declared.method.Shape.{Shape}
use Rattle.il_model.specs.declared.method.Shape.TheVariants as shape
use Rattle.il_model.specs.declared.written.WrittenType.{WrittenType}
use Rattle.il_model.specs.declared.written.WrittenParam.{WrittenParam}
use Rattle.il_model.specs.declared.written.WrittenVar.{WrittenVar}
use Rattle.il_model.specs.declared.written.WrittenBody.{WrittenBody}
use Rattle.il_model.specs.declared.written.WrittenField.{WrittenField}
use Rattle.il_model.specs.declared.written.WrittenMethod.{WrittenMethod}
use Rattle.il_model.specs.declared.written.WrittenMember.{WrittenMember}
use Rattle.il_model.specs.declared.written.WrittenMember.TheVariants as member
use Rattle.il_model.specs.declared.written.WrittenClass.{WrittenClass}
use Rattle.il_model.specs.Lexemes.{Lexeme, Is, IsName, name_at, IsOptional, Many}
use Rattle.il_model.specs.Words.{kind_words, shape_words, quoted_words}
use Rattle.il_model.specs.Types.{IsType, AreTypes, IsResult, AreParams, AreVars}
use Rattle.il_model.specs.Members.{unless_read}
use Rattle.il_model.specs.Bodies.{IsBody}

-- `field`
pub data IsField : List Lexeme → WrittenField → Type 0 where
  field : (ws fixed kind : List Lexeme) (word name : Lexeme) (is_fixed : Bool) (t : WrittenType) →
      ws ≡ word ∷ fixed ++ kind ++ name ∷ [] →
      Is (codes ".field") word → IsOptional (codes "static") fixed is_fixed → IsType (unless_read is_fixed (codes "static")) kind t →
      IsName [] name → IsField ws (record { fixed = is_fixed; kind = t; name = name_at name })

-- how a method is called, and the words that are quoted behind it: where no word says it, these words could
pub data IsShape : List Lexeme → Shape → List (List ℕ) → Type 0 where
  instance : IsShape [] shape.Instance shape_words
  static : (l : Lexeme) → Is (codes "static") l → IsShape (l ∷ []) shape.Fixed []
  virtual : (l : Lexeme) → Is (codes "virtual") l → IsShape (l ∷ []) shape.Virtual []
  newslot : (l m : Lexeme) → Is (codes "newslot") l → Is (codes "virtual") m → IsShape (l ∷ m ∷ []) shape.NewSlot []
  abstract : (l : Lexeme) → Is (codes "abstract") l → IsShape (l ∷ []) shape.Abstract []

-- only a method that has no slot may have type variables
abbrev pub MayHaveVars : Shape → List WrittenVar → Type 0
MayHaveVars shape.Fixed vars = Unit {0}
MayHaveVars shape.Instance vars = Unit {0}
MayHaveVars shape.Virtual vars = vars ≡ []
MayHaveVars shape.NewSlot vars = vars ≡ []
MayHaveVars shape.Abstract vars = vars ≡ []

-- `;`, or a body in braces
pub data IsBodyOrNone : List Lexeme → Option WrittenBody → Type 0 where
  bodiless : (l : Lexeme) → Is (codes ";") l → IsBodyOrNone (l ∷ []) None
  braced : (ws inner : List Lexeme) (left right : Lexeme) (b : WrittenBody) → ws ≡ left ∷ inner ++ right ∷ [] → Is (codes "{") left →
      IsBody inner b → Is (codes "}") right → IsBodyOrNone ws (Some b)

-- `method`. No method is called `.cctor`
pub data IsMethod : List Lexeme → WrittenMethod → Type 0 where
  method : (ws shaped result vars params rest : List Lexeme) (word name left right : Lexeme) (s : Shape) (quoted : List (List ℕ))
      (r : Option WrittenType) (vs : List WrittenVar) (ps : List WrittenParam) (b : Option WrittenBody) →
      ws ≡ word ∷ shaped ++ result ++ name ∷ vars ++ left ∷ params ++ right ∷ rest →
      Is (codes ".method") word → IsShape shaped s quoted → IsResult quoted result r → IsName (codes ".cctor" ∷ []) name →
      AreVars vars vs → MayHaveVars s vs → Is (codes "(") left → AreParams params ps → Is (codes ")") right → IsBodyOrNone rest b →
      IsMethod ws (record { at = word.at; shape = s; result = r; name = name_at name; vars = vs; params = ps; body = b })

-- a field or a method
pub data IsMember : List Lexeme → WrittenMember → Type 0 where
  field_member : (ws : List Lexeme) (f : WrittenField) → IsField ws f → IsMember ws (member.Field f)
  method_member : (ws : List Lexeme) (m : WrittenMethod) → IsMethod ws m → IsMember ws (member.Method m)

-- what a class is
pub data IsKind : List Lexeme → ClassKind → Type 0 where
  plain : IsKind [] kind.Plain
  worded : (l : Lexeme) (k : ClassKind) → Contains kind_words (l.bytes, k) → IsKind (l ∷ []) k

-- the base that is written; a struct or an interface has none
pub data IsBase : ClassKind → List Lexeme → Option WrittenType → Type 0 where
  no_base : (k : ClassKind) → IsBase k [] None
  base_of_plain : (l : Lexeme) (ws : List Lexeme) (t : WrittenType) → Is (codes "extends") l → IsType [] ws t →
      IsBase kind.Plain (l ∷ ws) (Some t)
  base_of_abstract : (l : Lexeme) (ws : List Lexeme) (t : WrittenType) → Is (codes "extends") l → IsType [] ws t →
      IsBase kind.Abstract (l ∷ ws) (Some t)

-- the interfaces that are written
pub data AreInterfaces : List Lexeme → List WrittenType → Type 0 where
  no_interfaces : AreInterfaces [] []
  interfaces : (l : Lexeme) (ws : List Lexeme) (t : WrittenType) (ts : List WrittenType) → Is (codes "implements") l →
      AreTypes (codes ",") ws (t ∷ ts) → AreInterfaces (l ∷ ws) (t ∷ ts)

-- `class`. No quoted word of the grammar is the name of a class
pub data IsClass : List Lexeme → WrittenClass → Type 0 where
  class : (ws kinds vars base interfaces members : List Lexeme) (word name left right : Lexeme) (k : ClassKind) (vs : List WrittenVar)
      (b : Option WrittenType) (is : List WrittenType) (ms : List WrittenMember) →
      ws ≡ word ∷ kinds ++ name ∷ vars ++ base ++ interfaces ++ left ∷ members ++ right ∷ [] →
      Is (codes ".class") word → IsKind kinds k → IsName quoted_words name → AreVars vars vs → IsBase k base b →
      AreInterfaces interfaces is → Is (codes "{") left → Many IsMember members ms → Is (codes "}") right →
      IsClass ws (record { at = word.at; kind = k; name = name_at name; vars = vs; base = b; interfaces = is; members = ms })

-- `program`
abbrev pub IsProgram : List Lexeme → List WrittenClass → Type 0
IsProgram = Many IsClass
