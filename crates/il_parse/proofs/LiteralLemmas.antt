-- The literals of methods, members and classes, and how they are added one after another.
use Rattle.std.proofs.Common.{◌≡◌, ◌∙◌, ℕ, Bool, true, false, ◌||◌, if◌then◌else◌, List, [], ◌∷◌, ◌++◌, flat_map, Option, Some, refl, sym, ap, append_assoc, append-nil, bytes_eq}
use Rattle.std.specs.Prelude.{option_to_list}
use Rattle.std.proofs.lemmas.List.Folds.{list_any-append}
use Rattle.std.proofs.lemmas.Grind.{flat_map-append}
use Rattle.il_model.specs.declared.written.WrittenBody.{WrittenBody}
use Rattle.il_model.specs.declared.written.WrittenLine.{WrittenLine}
use Rattle.il_model.specs.declared.written.WrittenLine.TheVariants as line
use Rattle.il_model.specs.declared.written.WrittenMethod.{WrittenMethod}
use Rattle.il_model.specs.declared.written.WrittenMember.{WrittenMember}
use Rattle.il_model.specs.declared.written.WrittenMember.TheVariants as member
use Rattle.il_model.specs.declared.written.WrittenClass.{WrittenClass}
use Rattle.il_model.specs.Lexemes.{is_among}
use Rattle.il_model.specs.Bounds.{instrs_of, methods_of, all_methods}
use Rattle.il_model.specs.LookUp.{texts_of, texts_of_method, first_uses}
use Rattle.il_parse.specs.Literals.{with_texts, texts_of_line, texts_of_member, texts_of_class}
use Rattle.il_parse.proofs.KeyLemmas.{swapped}

lines_texts : (lines : List WrittenLine) → flat_map texts_of_line lines ≡ flat_map (λ i. texts_of i.operand) (instrs_of lines)
lines_texts [] = refl
lines_texts (line.Label l ∷ lines) = lines_texts lines
lines_texts (line.Instr i ∷ lines) = ap (λ ts. texts_of i.operand ++ ts) (lines_texts lines)

-- the literals of a method with a body are those of its lines
pub method_texts : (m : WrittenMethod) (b : WrittenBody) → m.body ≡ Some b → flat_map texts_of_line b.lines ≡ texts_of_method m
method_texts m b is =
    lines_texts b.lines ∙ sym (append-nil (flat_map (λ i. texts_of i.operand) (instrs_of b.lines)))
    ∙ ap (λ (o : Option WrittenBody). flat_map (λ (body : WrittenBody). flat_map (λ i. texts_of i.operand) (instrs_of body.lines)) (option_to_list o)) (sym is)

members_texts : (ms : List WrittenMember) → flat_map texts_of_member ms ≡ flat_map texts_of_method (methods_of ms)
members_texts [] = refl
members_texts (member.Field f ∷ ms) = members_texts ms
members_texts (member.Method m ∷ ms) = ap (λ ts. texts_of_method m ++ ts) (members_texts ms)

-- the literals of classes are those of all methods
pub classes_texts : (cs : List WrittenClass) → flat_map texts_of_class cs ≡ flat_map texts_of_method (all_methods cs)
classes_texts [] = refl
classes_texts (c ∷ cs) =
    (λ i. members_texts c.members i ++ classes_texts cs i) ∙ sym (flat_map-append texts_of_method (methods_of c.members) (all_methods cs))

-- what was met is what is there
record Alike (met there : List (List ℕ)) : Type 0 where
  pub same : (text : List ℕ) → is_among met text ≡ is_among there text

pushed : (met there : List (List ℕ)) (text : List ℕ) → Alike met there → Alike (text ∷ met) (there ++ text ∷ [])
pushed met there text alike = record {
  same = λ u. ap (λ b. bytes_eq text u || b) (alike.same u) ∙ sym (swapped (is_among there u) (bytes_eq text u)) ∙ sym (list_any-append (λ word. bytes_eq word u) there (text ∷ []));
}

uses : (there met : List (List ℕ)) → Alike met there → (texts : List (List ℕ)) → with_texts there texts ≡ there ++ first_uses met texts
uses there met alike [] = sym (append-nil there)
uses there met alike (t ∷ ts) =
    by (is_among there t) (uses there met alike ts) (uses (there ++ t ∷ []) (t ∷ met) (pushed met there t alike) ts) ∙ ap (λ b. there ++ (if b then first_uses met ts else t ∷ first_uses (t ∷ met) ts)) (sym (alike.same t))
  where
    by : (b : Bool) → with_texts there ts ≡ there ++ first_uses met ts → with_texts (there ++ t ∷ []) ts ≡ (there ++ t ∷ []) ++ first_uses (t ∷ met) ts →
        with_texts (if b then there else there ++ t ∷ []) ts ≡ there ++ (if b then first_uses met ts else t ∷ first_uses (t ∷ met) ts)
    by true old new = old
    by false old new = new ∙ append_assoc there (t ∷ []) (first_uses (t ∷ met) ts)

-- adding texts one after another gives their first uses
pub first_uses_is : (texts : List (List ℕ)) → with_texts [] texts ≡ first_uses [] texts
first_uses_is texts = uses [] [] (record { same = λ text. refl }) texts
