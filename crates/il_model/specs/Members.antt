-- Members as instructions name them: the rules `mref` and `fref` of the grammar.
use Rattle.std.specs.Prelude.{◌≡◌, ℕ, Bool, true, false, List, [], ◌∷◌, ◌++◌, Option, codes}
use Rattle.il_model.specs.declared.written.WrittenType.{WrittenType}
use Rattle.il_model.specs.declared.written.WrittenParam.{WrittenParam}
use Rattle.il_model.specs.declared.written.WrittenMethodRef.{WrittenMethodRef}
use Rattle.il_model.specs.declared.written.WrittenFieldRef.{WrittenFieldRef}
use Rattle.il_model.specs.Lexemes.{Lexeme, Is, IsName, IsOptional}
use Rattle.il_model.specs.Types.{IsType, IsResult, AreParams, AreArguments}

-- a word that may stand here is quoted here, unless it was just read
abbrev pub unless_read : Bool → List ℕ → List (List ℕ)
unless_read true word = []
unless_read false word = word ∷ []

-- `mref`. No method is called `.cctor`
pub data IsMethodRef : List Lexeme → WrittenMethodRef → Type 0 where
  method_ref : (ws before result class args params : List Lexeme) (colons name left right : Lexeme) (is_instance : Bool)
      (r : Option WrittenType) (c : WrittenType) (ts : List WrittenType) (ps : List WrittenParam) →
      ws ≡ before ++ result ++ class ++ colons ∷ name ∷ args ++ left ∷ params ++ right ∷ [] →
      IsOptional (codes "instance") before is_instance →
      IsResult (unless_read is_instance (codes "instance")) result r →
      IsType [] class c →
      Is (codes "::") colons →
      IsName (codes ".cctor" ∷ []) name →
      AreArguments args ts →
      Is (codes "(") left →
      AreParams params ps →
      Is (codes ")") right →
      IsMethodRef ws (record { instance = is_instance; result = r; class = c; name = name.bytes; args = ts; params = ps })

-- `fref`
pub data IsFieldRef : List Lexeme → WrittenFieldRef → Type 0 where
  field_ref : (ws kind class : List Lexeme) (colons name : Lexeme) (k c : WrittenType) →
      ws ≡ kind ++ class ++ colons ∷ name ∷ [] →
      IsType [] kind k →
      IsType [] class c →
      Is (codes "::") colons →
      IsName [] name →
      IsFieldRef ws (record { kind = k; class = c; name = name.bytes })
