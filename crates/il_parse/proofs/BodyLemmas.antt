-- Reading bodies, by cases on the lexemes.
use Rattle.std.proofs.Common.{◌≡◌, Bool, true, false, List, [], ◌∷◌, drop, None, Ok, Err, refl}
use Rattle.std.specs.Prelude.{codes}
use Rattle.il_model.specs.Lexemes.{Lexeme}
use Rattle.il_parse.specs.declared.fault.ParseCause.TheVariants as cause
use Rattle.il_parse.specs.Reading.{sees, fault_at, place_of_first}
use Rattle.il_parse.specs.Bodies.{read_entry}

pub entry_absent : (may_begin : Bool) (ws : List Lexeme) → sees (codes ".entrypoint") ws ≡ false → read_entry may_begin ws ≡ Ok (None, ws)
unfolding read_entry sees
entry_absent may_begin [] e = refl
entry_absent may_begin (l ∷ ws) e = rw e refl

pub entry_refused : (ws : List Lexeme) → sees (codes ".entrypoint") ws ≡ true → read_entry false ws ≡ Err (fault_at ws cause.Syntax)
unfolding read_entry sees
entry_refused [] e = absurd cc
entry_refused (l ∷ ws) e = rw e refl

pub entry_read : (ws : List Lexeme) → sees (codes ".entrypoint") ws ≡ true → read_entry true ws ≡ Ok (place_of_first ws, drop 1 ws)
unfolding read_entry sees
entry_read [] e = absurd cc
entry_read (l ∷ ws) e = rw e refl
