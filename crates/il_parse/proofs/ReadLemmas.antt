-- What the first lexeme shows, by cases on the lexemes.
use Rattle.std.proofs.Common.{◌≡◌, ℕ, ◌<◌, Bool, true, false, List, [], ◌∷◌, drop, length, Err, Result, refl, sym, subst, arith}
use Rattle.std.specs.Prelude.{if◌then◌else◌}
use Rattle.il_model.specs.Lexemes.{Lexeme, is_among}
use Rattle.il_parse.specs.declared.fault.Fault.{Fault}
use Rattle.il_parse.specs.declared.fault.ReadError.{ReadError}
use Rattle.il_parse.specs.declared.fault.ReadError.TheVariants as error
use Rattle.il_parse.specs.declared.fault.ParseCause.TheVariants as cause
use Rattle.il_parse.specs.Reading.{Read, Reads, sees, refuse, stuck, stuck_fault, fault_at, is_word_kind, unsupported_words, stuck_cause}
use Rattle.il_parse.specs.Types.{read_no_name}
use Rattle.il_parse.specs.Cursor.{bytes_of_first, no_name_fault}

pub stuck_is : (ws : List Lexeme) → stuck_cause ws ≡ (if is_among unsupported_words (bytes_of_first ws) then cause.Unsupported else cause.Syntax)
stuck_is [] = refl
stuck_is (l ∷ ws) = refl

-- an equal reading
pub reads_as : {A : Type 0} (a b : Read A) (r : Result A ReadError) (ws : List Lexeme) → a ≡ b → Reads b r ws → Reads a r ws
reads_as a b r ws e h = subst (λ x. Reads x r ws) (sym e) h

-- a refusal for this fault
pub refused : {A : Type 0} (a : Read A) (e : ReadError) (f : Fault) (ws : List Lexeme) → e ≡ error.Fault f → a ≡ Err f → Reads a (Err e) ws
refused a e f ws is h = subst (λ x. Reads a (Err x) ws) (sym is) h

-- what is seen is one of the lexemes
pub shorter : (spelling : List ℕ) (ws : List Lexeme) → sees spelling ws ≡ true → length (drop 1 ws) < length ws
unfolding sees
shorter spelling [] e = absurd cc
shorter spelling (l ∷ ws) e = omega arith

or_refuse : {A : Type 0} (b : Bool) (l : Lexeme) (ws : List Lexeme) →
    (if b then refuse {A = A} cause.TooMany (l ∷ ws) else stuck (l ∷ ws)) ≡ Err (if b then fault_at (l ∷ ws) cause.TooMany else stuck_fault (l ∷ ws))
or_refuse true l ws = refl
or_refuse false l ws = refl

-- why no name comes where none may
pub no_name_is : {A : Type 0} (ws : List Lexeme) → read_no_name {A = A} ws ≡ Err (no_name_fault ws)
no_name_is [] = refl
no_name_is (l ∷ ws) = or_refuse (is_word_kind l.kind) l ws
