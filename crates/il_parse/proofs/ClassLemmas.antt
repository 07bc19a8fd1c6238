-- Reading classes, by cases on the lexemes.
use Rattle.std.proofs.Common.{◌≡◌, ℕ, suc, Bool, true, false, if◌then◌else◌, not, List, [], ◌∷◌, ◌++◌, drop, Ok, Err, refl}
use Rattle.std.specs.Prelude.{codes, ◌&&◌, is_none}
use Rattle.il_model.specs.declared.class.ClassKind.TheVariants as kind
use Rattle.il_model.specs.declared.written.WrittenClass.{WrittenClass}
use Rattle.il_model.specs.Lexemes.{Lexeme, is_among}
use Rattle.il_parse.specs.declared.fault.ParseCause.TheVariants as cause
use Rattle.il_parse.specs.Reading.{Read, and_then, refuse, stuck, stuck_fault, fault_at, sees, place_of_first, read_name_but}
use Rattle.il_parse.specs.Cursor.{is_word_at, bytes_of_first, read_any}
use Rattle.il_parse.specs.Classes.{read_kind, read_class, classes_from, class_room, method_room}

pub kind_abstract : (ws : List Lexeme) → sees (codes "abstract") ws ≡ true → read_kind ws ≡ Ok (kind.Abstract, drop 1 ws)
unfolding read_kind sees
kind_abstract [] e = absurd cc
kind_abstract (l ∷ ws) e = rw e refl

pub kind_interface : (ws : List Lexeme) → sees (codes "abstract") ws ≡ false → sees (codes "interface") ws ≡ true → read_kind ws ≡ Ok (kind.Interface, drop 1 ws)
unfolding read_kind sees
kind_interface [] a e = absurd cc
kind_interface (l ∷ ws) a e = rw (a, e) refl

pub kind_struct : (ws : List Lexeme) → sees (codes "abstract") ws ≡ false → sees (codes "interface") ws ≡ false → sees (codes "struct") ws ≡ true →
    read_kind ws ≡ Ok (kind.Struct, drop 1 ws)
unfolding read_kind sees
kind_struct [] a i e = absurd cc
kind_struct (l ∷ ws) a i e = rw (a, i, e) refl

pub kind_plain : (ws : List Lexeme) → sees (codes "abstract") ws ≡ false → sees (codes "interface") ws ≡ false → sees (codes "struct") ws ≡ false →
    read_kind ws ≡ Ok (kind.Plain, ws)
unfolding read_kind sees
kind_plain [] a i e = refl
kind_plain (l ∷ ws) a i e = rw (a, i, e) refl

-- a name, where the first lexeme is a word and none of these
pub name_free : (quoted : List (List ℕ)) (ws : List Lexeme) → is_word_at ws ≡ true → is_among quoted (bytes_of_first ws) ≡ false → read_name_but quoted ws ≡ read_any ws
unfolding read_name_but read_any
name_free quoted [] e free = refl
name_free quoted (l ∷ ws) e free = rw (e, free) refl

pub name_no_word : (quoted : List (List ℕ)) (ws : List Lexeme) → is_word_at ws ≡ false → read_name_but quoted ws ≡ Err (stuck_fault ws)
unfolding read_name_but
name_no_word quoted [] e = refl
name_no_word quoted (l ∷ ws) e = rw e refl

not_both : {X : Type 0} (a : Bool) (x y : X) → (if a && not true then x else y) ≡ y
not_both true x y = refl
not_both false x y = refl

pub name_quoted : (quoted : List (List ℕ)) (ws : List Lexeme) → is_among quoted (bytes_of_first ws) ≡ true → read_name_but quoted ws ≡ Err (stuck_fault ws)
unfolding read_name_but
name_quoted quoted [] e = refl
name_quoted quoted (l ∷ ws) e = rw e (not_both _ _ _)

pub class_room_is : class_room ≡ 4083
class_room_is = refl

pub method_room_is : method_room ≡ 16372
method_room_is = refl

-- a class and those behind it, or the end of the text
pub classes_turn : (n left : ℕ) (found : List WrittenClass) (ws : List Lexeme) →
    classes_from (suc n) left found ws ≡
    (if is_none (place_of_first ws) then Ok (found, ws) else and_then (read_class left ws) (λ p. classes_from n p.1 (found ++ p.0 ∷ [])))
unfolding classes_from
classes_turn n left found [] = refl
classes_turn n left found (l ∷ ws) = refl

class_or_stuck : (b : Bool) (l : Lexeme) (ws : List Lexeme) →
    (let r : Read (List WrittenClass) = if b then refuse cause.TooMany (l ∷ ws) else stuck (l ∷ ws) in
    r ≡ (if b then Err (fault_at (l ∷ ws) cause.TooMany) else Err (stuck_fault (l ∷ ws))))
class_or_stuck true l ws = refl
class_or_stuck false l ws = refl

-- where no class may come any more
pub classes_last : (left : ℕ) (found : List WrittenClass) (ws : List Lexeme) →
    classes_from 0 left found ws ≡
    (if is_none (place_of_first ws) then Ok (found, ws) else (if sees (codes ".class") ws then Err (fault_at ws cause.TooMany) else Err (stuck_fault ws)))
unfolding classes_from sees
classes_last left found [] = refl
classes_last left found (l ∷ ws) = class_or_stuck _ l ws
