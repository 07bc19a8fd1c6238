-- Methods that are found again by their signatures.
use Rattle.std.proofs.Common.{◌≡◌, ◌∙◌, ◌==◌, ◌&&◌, ◌||◌, Bool, true, false, cond, List, [], ◌∷◌, ◌++◌, length, map, Option, Some, is_some, refl, bytes_eq}
use Rattle.std.specs.List.{list_any}
use Rattle.std.specs.Map.{lookup}
use Rattle.il_parse.specs.declared.signatures.Signature.{Signature}
use Rattle.il_parse.specs.declared.signatures.Unsigned.{Unsigned}
use Rattle.il_parse.specs.SameTypes.{has_signature, same_params, same_result}
use Rattle.il_parse.specs.Signatures.{same_signature, method_of, AreCounted}

some_or : {A : Type 0} (b : Bool) (x : A) (o : Option A) → is_some (cond b (Some x) o) ≡ (b || is_some o)
some_or true x o = refl
some_or false x o = refl

-- a signature is found where a method has it
pub found_signature : (s : Signature) (es : List (Signature × Unsigned)) → AreCounted es →
    is_some (lookup (same_signature s) es) ≡ list_any (has_signature s.name s.vars s.params s.result) (map method_of es)
found_signature s [] counted = refl
found_signature s (e ∷ es) counted =
    some_or (same_signature s e.0) e.1 (lookup (same_signature s) es)
    ∙ (λ i. (bytes_eq s.name e.0.name && (s.vars == counted.0 i) && same_params s.params e.0.params && same_result s.result e.0.result) || found_signature s es counted.1 i)

-- one more that counts its variables
pub counted_push : (es : List (Signature × Unsigned)) (e : Signature × Unsigned) → AreCounted es → e.0.vars ≡ length e.1.vars → AreCounted (es ++ e ∷ [])
counted_push [] e counted is = (is, tt)
counted_push (x ∷ es) e counted is = (counted.0, counted_push es e counted.1 is)
