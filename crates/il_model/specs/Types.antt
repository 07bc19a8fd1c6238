-- Types as they are written: the rules `type`, `ptype`, `var` and `vars` of the grammar.
use Rattle.std.specs.Prelude.{◌≡◌, ℕ, true, false, List, [], ◌∷◌, ◌++◌, Option, Some, None, Contains, codes}
use Rattle.il_text.specs.declared.token.TokenKind.TheVariants as token
use Rattle.il_model.specs.declared.written.WrittenType.{WrittenType}
use Rattle.il_model.specs.declared.written.WrittenType.TheVariants as w
use Rattle.il_model.specs.declared.written.WrittenParam.{WrittenParam}
use Rattle.il_model.specs.declared.written.WrittenVar.{WrittenVar}
use Rattle.il_model.specs.Lexemes.{Lexeme, Is, IsName, name_at, Separated}
use Rattle.il_model.specs.Words.{type_words, type_keywords}

mutual
  -- a type, at a place where the grammar quotes these words besides those of the types themselves
  pub data IsType : List (List ℕ) → List Lexeme → WrittenType → Type 0 where
    keyword : (quoted : List (List ℕ)) (l : Lexeme) (t : WrittenType) → Contains type_words (l.bytes, t) →
        IsType quoted (l ∷ []) t
    variable : (quoted : List (List ℕ)) (l : Lexeme) (t : WrittenType) → l.kind ≡ token.Variable → t ≡ w.Variable (name_at l) →
        IsType quoted (l ∷ []) t
    named : (quoted : List (List ℕ)) (l : Lexeme) (t : WrittenType) → IsName (type_keywords ++ quoted) l →
        t ≡ w.Named (name_at l) [] → IsType quoted (l ∷ []) t
    applied : (quoted : List (List ℕ)) (ws inner : List Lexeme) (l left right : Lexeme) (t : WrittenType) (args : List WrittenType) →
        ws ≡ l ∷ left ∷ inner ++ right ∷ [] → IsName (type_keywords ++ quoted) l → Is (codes "<") left →
        AreTypes (codes ",") inner args → Is (codes ">") right → t ≡ w.Named (name_at l) args → IsType quoted ws t
    vector : (quoted : List (List ℕ)) (ws front : List Lexeme) (l : Lexeme) (t element : WrittenType) →
        ws ≡ front ++ l ∷ [] → IsType quoted front element → Is (codes "[]") l → t ≡ w.Vector element → IsType quoted ws t

  -- one type or several, with a mark between each two
  pub data AreTypes : List ℕ → List Lexeme → List WrittenType → Type 0 where
    last_type : (mark : List ℕ) (ws : List Lexeme) (t : WrittenType) → IsType [] ws t → AreTypes mark ws (t ∷ [])
    next_type : (mark : List ℕ) (ws front back : List Lexeme) (l : Lexeme) (t : WrittenType) (ts : List WrittenType) →
        ws ≡ front ++ l ∷ back → IsType [] front t → Is mark l → AreTypes mark back ts → AreTypes mark ws (t ∷ ts)

-- what a method gives: nothing, or a value
pub data IsResult (quoted : List (List ℕ)) : List Lexeme → Option WrittenType → Type 0 where
  void : (l : Lexeme) → Is (codes "void") l → IsResult quoted (l ∷ []) None
  value : (ws : List Lexeme) (t : WrittenType) → IsType (codes "void" ∷ quoted) ws t → IsResult quoted ws (Some t)

-- `ptype`: the type of a parameter or a local
pub data IsParam : List Lexeme → WrittenParam → Type 0 where
  by_value : (ws : List Lexeme) (t : WrittenType) → IsType [] ws t → IsParam ws (record { kind = t; pointer = false })
  pointer : (ws front : List Lexeme) (l : Lexeme) (t : WrittenType) → ws ≡ front ++ l ∷ [] → IsType [] front t → Is (codes "&") l →
      IsParam ws (record { kind = t; pointer = true })

-- the parameters between `(` and `)`
pub data AreParams : List Lexeme → List WrittenParam → Type 0 where
  no_params : AreParams [] []
  params : (ws : List Lexeme) (p : WrittenParam) (ps : List WrittenParam) → Separated (codes ",") IsParam ws (p ∷ ps) →
      AreParams ws (p ∷ ps)

-- the type arguments that a method's name may carry
pub data AreArguments : List Lexeme → List WrittenType → Type 0 where
  no_arguments : AreArguments [] []
  arguments : (ws inner : List Lexeme) (left right : Lexeme) (ts : List WrittenType) → ws ≡ left ∷ inner ++ right ∷ [] →
      Is (codes "<") left → AreTypes (codes ",") inner ts → Is (codes ">") right → AreArguments ws ts

-- `var`: a type variable, and the bounds after its colon
pub data IsVar : List Lexeme → WrittenVar → Type 0 where
  unbounded : (l : Lexeme) → IsName [] l → IsVar (l ∷ []) (record { name = name_at l; bounds = [] })
  bounded : (l colon : Lexeme) (bounds : List Lexeme) (ts : List WrittenType) → IsName [] l → Is (codes ":") colon →
      AreTypes (codes "&") bounds ts → IsVar (l ∷ colon ∷ bounds) (record { name = name_at l; bounds = ts })

-- `vars`: the type variables of a class or a method, if it has any
pub data AreVars : List Lexeme → List WrittenVar → Type 0 where
  no_vars : AreVars [] []
  vars : (ws inner : List Lexeme) (left right : Lexeme) (vs : List WrittenVar) → ws ≡ left ∷ inner ++ right ∷ [] →
      Is (codes "<") left → Separated (codes ",") IsVar inner vs → Is (codes ">") right → AreVars ws vs
