-- Operands of the grammar are read as themselves.
use Rattle.std.proofs.Common.{◌≡◌, ℕ, ◌≤◌, Bool, true, false, List, [], ◌∷◌, ◌++◌, length, flat_map, Option, Some, Ok, refl, sym, ap, subst, ◌∙◌, codes, append_assoc, arith}
use Rattle.std.proofs.lemmas.Bool.{true≢false}
use Rattle.il_text.specs.declared.token.TokenKind.{TokenKind}
use Rattle.il_text.specs.declared.token.TokenKind.TheVariants as token
use Rattle.il_text.specs.Spelling.{spells, is_word, is_variable}
use Rattle.il_model.specs.declared.written.WrittenName.{WrittenName}
use Rattle.il_model.specs.declared.written.WrittenType.{WrittenType}
use Rattle.il_model.specs.declared.written.WrittenMethodRef.{WrittenMethodRef}
use Rattle.il_model.specs.declared.written.WrittenFieldRef.{WrittenFieldRef}
use Rattle.il_model.specs.declared.written.WrittenOperand.{WrittenOperand}
use Rattle.il_model.specs.declared.written.WrittenOperand.TheVariants as operand
use Rattle.il_model.specs.Lexemes.{Lexeme, Is, Separated, IsOptional, absent as not_written, present}
use Rattle.il_model.specs.Literals.{int32_value, int64_value, place_value, text_value}
use Rattle.il_model.specs.Bounds.{types_of_operand}
use Rattle.il_model.specs.Forms.{OperandKind}
use Rattle.il_model.specs.Types.{IsResult, void, value}
use Rattle.il_model.specs.Members.{unless_read, IsMethodRef, method_ref, IsFieldRef, field_ref}
use Rattle.il_model.specs.Instructions.{IsLabel, label_name, IsOperand, nothing, int32_number, int64_number, text, place_number, target, targets, type, called, method, field, constrained}
use Rattle.il_parse.specs.Reading.{sees, expect, read_name, read_separated}
use Rattle.il_parse.specs.Types.{read_type, read_enclosed}
use Rattle.il_parse.specs.Members.{read_method_ref, read_field_ref}
use Rattle.il_parse.specs.Operands.{value_or_stuck, number_value, read_number, literal_value, read_text, read_constrained, read_operand}
use Rattle.il_parse.proofs.Steps.{AreSpelled, spelled-append, by_step}
use Rattle.il_parse.proofs.ListsSound.{AreSmall}
use Rattle.il_parse.proofs.WordsSound.{is_called}
use Rattle.il_parse.proofs.TypesComplete.{sees-other, expect-is}
use Rattle.il_parse.proofs.ListsComplete.{Ends, ends_at, sees-first, not_equal, name_first, type_complete, type_first, name_complete, separated_complete}
use Rattle.il_parse.proofs.PartsComplete.{enclosed_complete, method_ref_complete, field_ref_complete}

number_complete : {A : Type 0} (gives : List ℕ → Option A) (l : Lexeme) (x : A) (back : List Lexeme) → l.kind ≡ token.Number → gives l.bytes ≡ Some x →
    read_number gives (l ∷ back) ≡ Ok (x, back)
unfolding read_number
number_complete gives l x back is e = ap (λ k. value_or_stuck (number_value gives k l.bytes) l back) is ∙ ap (λ o. value_or_stuck o l back) e

text_complete : (l : Lexeme) (back : List Lexeme) → l.kind ≡ token.Text → read_text (l ∷ back) ≡ Ok (text_value l.bytes, back)
unfolding read_text
text_complete l back is = ap (λ k. value_or_stuck (literal_value k l.bytes) l back) is

pub label_complete : (front : List Lexeme) (to : WrittenName) (back : List Lexeme) → IsLabel front to → read_name (front ++ back) ≡ Ok (to, back)
unfolding read_name
label_complete front to back (label_name l is) = name_complete [] l back is

label_some : (front : List Lexeme) (to : WrittenName) → IsLabel front to → 1 ≤ length front
label_some front to (label_name l is) = omega arith

no_types : (xs : List WrittenName) → AreSmall (flat_map (λ x. []) xs)
no_types [] = tt
no_types (x ∷ xs) = no_types xs

labels_complete : (inner : List Lexeme) (to : List WrittenName) (right : Lexeme) (back : List Lexeme) → Separated (codes ",") IsLabel inner to → AreSpelled inner →
    Is (codes ")") right → read_separated read_name (codes ",") (inner ++ right ∷ back) ≡ Ok (to, right ∷ back)
labels_complete inner to right back sep s closes =
    separated_complete read_name IsLabel (λ x. []) (λ ws. Unit {0}) (λ front x rest is m p f. label_complete front x rest is) label_some
    (codes ",") (λ l ws same. tt) inner to (right ∷ back) sep (no_types to) s tt (sees-other (codes ",") (codes ")") right back closes refl)

constrained_complete : (front : List Lexeme) (t : WrittenType) (m : WrittenMethodRef) (back : List Lexeme) (kind named : List Lexeme) (l : Lexeme) →
    front ≡ kind ++ l ∷ named → read_type (kind ++ l ∷ (named ++ back)) ≡ Ok (t, l ∷ (named ++ back)) → Is (codes "callvirt") l →
    read_method_ref (named ++ back) ≡ Ok (m, back) → read_constrained (front ++ back) ≡ Ok (operand.Constrained t m, back)
unfolding read_constrained
constrained_complete front t m back kind named l split first same second =
    ap read_constrained (ap (λ z. z ++ back) split ∙ append_assoc kind (l ∷ named) back)
    ∙ by_step (read_type (kind ++ l ∷ (named ++ back))) _ _ t (l ∷ (named ++ back)) first
    (by_step (expect (codes "callvirt") (l ∷ (named ++ back))) _ _ tt (named ++ back) (expect-is (codes "callvirt") l (named ++ back) same)
    (by_step (read_method_ref (named ++ back)) _ _ m back second refl))

-- an operand other than a called method is read as itself, where nothing stands behind that goes on with a type
pub operand_complete : (k : OperandKind) → is_called k ≡ false → (front : List Lexeme) (o : WrittenOperand) (back : List Lexeme) → IsOperand k front o →
    AreSmall (types_of_operand o) → AreSpelled front → Ends back → read_operand k (front ++ back) ≡ Ok (o, back)
unfolding read_operand
operand_complete k free front o back nothing small s ends = refl
operand_complete k free front o back (int32_number l n is e) small s ends =
    by_step (read_number int32_value (l ∷ back)) _ _ n back (number_complete int32_value l n back is e) refl
operand_complete k free front o back (int64_number l n is e) small s ends =
    by_step (read_number int64_value (l ∷ back)) _ _ n back (number_complete int64_value l n back is e) refl
operand_complete k free front o back (text l is) small s ends = by_step (read_text (l ∷ back)) _ _ (text_value l.bytes) back (text_complete l back is) refl
operand_complete k free front o back (place_number l n is e) small s ends =
    by_step (read_number place_value (l ∷ back)) _ _ n back (number_complete place_value l n back is e) refl
operand_complete k free front o back (target ws to is) small s ends = by_step (read_name (ws ++ back)) _ _ to back (label_complete ws to back is) refl
operand_complete k free front o back (targets ws inner left right to split opens sep closes) small s ends =
    let parts = spelled-append inner (right ∷ []) (subst AreSpelled split s).1 in
    let item = read_separated read_name (codes ",") in
    let whole : ws ++ back ≡ left ∷ (inner ++ right ∷ back) = ap (λ z. z ++ back) split ∙ ap (λ z. left ∷ z) (append_assoc inner (right ∷ []) back) in
    by_step (read_enclosed item (ws ++ back)) _ _ to back
    (ap (read_enclosed item) whole ∙ enclosed_complete item left inner right to back opens closes (labels_complete inner to right back sep parts.0 closes)) refl
operand_complete k free front o back (type ws t is) small s ends = by_step (read_type (ws ++ back)) _ _ t back (type_complete [] ws t back is small.0 s ends) refl
operand_complete k free front o back (called ws m is none) small s ends = absurd (true≢false free)
operand_complete k free front o back (method ws m is) small s ends = by_step (read_method_ref (ws ++ back)) _ _ m back (method_ref_complete ws m back is small s) refl
operand_complete k free front o back (field ws f is) small s ends = by_step (read_field_ref (ws ++ back)) _ _ f back (field_ref_complete ws f back is small s) refl
operand_complete k free front o back (constrained ws kind named l t m split is_t same is_m) small s ends =
    let parts = spelled-append kind (l ∷ named) (subst AreSpelled split s) in
    constrained_complete ws t m back kind named l split
    (type_complete [] kind t (l ∷ (named ++ back)) is_t small.0 parts.0 (ends_at (codes "callvirt") l (named ++ back) same refl refl)) same
    (method_ref_complete named m back is_m small.1 parts.1.1)

-- a method that is named doesn't begin with a mark, nor with any lexeme that is neither a word nor a variable
module _ (m : List ℕ) (no_word : is_word m ≡ false) (no_variable : is_variable m ≡ false) where
  result_begins : (quoted : List (List ℕ)) (front : List Lexeme) (r : Option WrittenType) (back : List Lexeme) → IsResult quoted front r → AreSpelled front →
      sees m (front ++ back) ≡ false
  result_begins quoted front r back (void l same) s = sees-first m l back (not_equal m l.bytes is_word (ap is_word same) no_word)
  result_begins quoted front r back (value ws t is) s = type_first m no_word no_variable (codes "void" ∷ quoted) ws t back is s

  optional_begins : (b : Bool) (before result : List Lexeme) (r : Option WrittenType) (back : List Lexeme) → IsOptional (codes "instance") before b →
      IsResult (unless_read b (codes "instance")) result r → AreSpelled result → sees m (before ++ (result ++ back)) ≡ false
  optional_begins b before result r back not_written is s = result_begins (unless_read b (codes "instance")) result r back is s
  optional_begins b before result r back (present l same) is s = sees-first m l (result ++ back) (not_equal m l.bytes is_word (ap is_word same) no_word)

  pub ref_begins : (front : List Lexeme) (named : WrittenMethodRef) (back : List Lexeme) → IsMethodRef front named → AreSpelled front → sees m (front ++ back) ≡ false
  ref_begins front named back (method_ref ws before result class args inside colons name left right i r c ts ps split is_i is_r is_c h_colons is_name is_args opens are_params closes) s =
      let s1 = spelled-append (before ++ result ++ class ++ colons ∷ name ∷ args ++ left ∷ inside) (right ∷ []) (subst AreSpelled split s) in
      let s2 = spelled-append (before ++ result ++ class ++ colons ∷ name ∷ args) (left ∷ inside) s1.0 in
      let s3 = spelled-append (before ++ result ++ class) (colons ∷ name ∷ args) s2.0 in
      let s4 = spelled-append (before ++ result) class s3.0 in
      let s5 = spelled-append before result s4.0 in
      let rest : List Lexeme = class ++ (colons ∷ name ∷ (args ++ (left ∷ (inside ++ right ∷ back)))) in
      let whole : ws ++ back ≡ before ++ (result ++ rest) = ap (λ z. z ++ back) split ∙ simp append_assoc refl in
      ap (sees m) whole ∙ optional_begins i before result r rest is_i is_r s5.1

  field_begins : (front : List Lexeme) (f : WrittenFieldRef) (back : List Lexeme) → IsFieldRef front f → AreSpelled front → sees m (front ++ back) ≡ false
  field_begins front f back (field_ref ws kind class colons name k c split is_k is_c h_colons is_name) s =
      let s1 = spelled-append (kind ++ class) (colons ∷ name ∷ []) (subst AreSpelled split s) in
      let s2 = spelled-append kind class s1.0 in
      let rest : List Lexeme = class ++ (colons ∷ name ∷ back) in
      let whole : ws ++ back ≡ kind ++ rest = ap (λ z. z ++ back) split ∙ simp append_assoc refl in
      ap (sees m) whole ∙ type_first m no_word no_variable [] kind k rest is_k s2.0

label_begins : (m : List ℕ) → is_word m ≡ false → (front : List Lexeme) (to : WrittenName) (back : List Lexeme) → IsLabel front to → AreSpelled front → sees m (front ++ back) ≡ false
label_begins m no_word front to back (label_name l is) s = name_first m l back is.word s.0 no_word

kind_begins : (m : List ℕ) (l : Lexeme) (back : List Lexeme) (k : TokenKind) → l.kind ≡ k → spells l.kind l.bytes ≡ true → spells k m ≡ false → sees m (l ∷ back) ≡ false
kind_begins m l back k is s other = sees-first m l back (not_equal m l.bytes (spells k) (ap (λ j. spells j l.bytes) (sym is) ∙ s) other)

-- an operand doesn't begin with `:`
pub operand_begins : (k : OperandKind) (front : List Lexeme) (o : WrittenOperand) (back : List Lexeme) → IsOperand k front o → AreSpelled front →
    sees (codes ":") back ≡ false → sees (codes ":") (front ++ back) ≡ false
operand_begins k front o back nothing s miss = miss
operand_begins k front o back (int32_number l n is e) s miss = kind_begins (codes ":") l back token.Number is s.0 refl
operand_begins k front o back (int64_number l n is e) s miss = kind_begins (codes ":") l back token.Number is s.0 refl
operand_begins k front o back (text l is) s miss = kind_begins (codes ":") l back token.Text is s.0 refl
operand_begins k front o back (place_number l n is e) s miss = kind_begins (codes ":") l back token.Number is s.0 refl
operand_begins k front o back (target ws to is) s miss = label_begins (codes ":") refl ws to back is s
operand_begins k front o back (targets ws inner left right to split opens sep closes) s miss =
    ap (λ z. sees (codes ":") (z ++ back)) split ∙ sees-other (codes ":") (codes "(") left (inner ++ right ∷ [] ++ back) opens refl
operand_begins k front o back (type ws t is) s miss = type_first (codes ":") refl refl [] ws t back is s
operand_begins k front o back (called ws m is none) s miss = ref_begins (codes ":") refl refl ws m back is s
operand_begins k front o back (method ws m is) s miss = ref_begins (codes ":") refl refl ws m back is s
operand_begins k front o back (field ws f is) s miss = field_begins (codes ":") refl refl ws f back is s
operand_begins k front o back (constrained ws kind named l t m split is_t same is_m) s miss =
    ap (sees (codes ":")) (ap (λ z. z ++ back) split ∙ append_assoc kind (l ∷ named) back)
    ∙ type_first (codes ":") refl refl [] kind t (l ∷ (named ++ back)) is_t (spelled-append kind (l ∷ named) (subst AreSpelled split s)).0
