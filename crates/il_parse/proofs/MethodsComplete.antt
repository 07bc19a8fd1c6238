-- Fields and methods of the grammar are read as themselves.
use Rattle.std.proofs.Common.{◌≡◌, ℕ, ◌≤◌, Bool, true, false, List, [], ◌∷◌, ◌++◌, length, flat_map, option_to_list, Option, Some, None, Ok, refl, sym, ap, subst, ◌∙◌, codes, append_assoc, arith, Contains}
use Rattle.std.specs.List.{AllByRecursion}
use Rattle.std.proofs.lemmas.Slice.Eq.{bytes_eq-Decides}
use Rattle.il_model.specs.declared.method.Shape.{Shape}
use Rattle.il_model.specs.declared.method.Shape.TheVariants as shape
use Rattle.il_model.specs.declared.written.WrittenType.{WrittenType}
use Rattle.il_model.specs.declared.written.WrittenVar.{WrittenVar}
use Rattle.il_model.specs.declared.written.WrittenParam.{WrittenParam}
use Rattle.il_model.specs.declared.written.WrittenBody.{WrittenBody}
use Rattle.il_model.specs.declared.written.WrittenField.{WrittenField}
use Rattle.il_model.specs.declared.written.WrittenMethod.{WrittenMethod}
use Rattle.il_model.specs.Lexemes.{Lexeme, Is, name_at, Separated, last, next}
use Rattle.il_model.specs.Words.{shape_words}
use Rattle.il_model.specs.Bounds.{instrs_of, types_of_params, types_of_vars, types_of_body}
use Rattle.il_model.specs.Types.{IsType, IsResult, IsVar, AreVars, no_vars, vars}
use Rattle.il_model.specs.Members.{unless_read}
use Rattle.il_model.specs.Classes.{IsField, field, IsShape, instance, static, virtual, newslot, abstract, MayHaveVars, IsBodyOrNone, bodiless, braced, IsMethod, method}
use Rattle.il_model.specs.LookUp.{MayBegin}
use Rattle.il_parse.specs.Reading.{sees, expect, expect_at, read_name, read_name_but}
use Rattle.il_parse.specs.Types.{read_type, read_result, read_params, read_enclosed}
use Rattle.il_parse.specs.Members.{read_method_name}
use Rattle.il_parse.specs.Bodies.{read_body}
use Rattle.il_parse.specs.Classes.{read_field, read_shape, read_no_vars, read_method_vars, read_body_or_none, may_begin_in, read_method}
use Rattle.il_parse.proofs.Steps.{AreSpelled, spelled-append, by_step}
use Rattle.il_parse.proofs.ListsSound.{AreSmall}
use Rattle.il_parse.proofs.MethodsSound.{type_of_field, MethodFine}
use Rattle.il_parse.proofs.TypesComplete.{sees-is, sees-other, after-is, after-other, expect-is}
use Rattle.il_parse.proofs.ListsComplete.{ends_name, type_complete, type_unquoted, name_complete, small-split}
use Rattle.il_parse.proofs.PartsComplete.{result_complete, result_first, params_complete, enclosed_complete, method_name_complete, optional_sees}
use Rattle.il_parse.proofs.VarsComplete.{vars_complete}
use Rattle.il_parse.proofs.BodiesComplete.{body_complete}

-- a word that could have been read doesn't begin the type behind
unread_type : (b : Bool) (kind : List Lexeme) (t : WrittenType) (back : List Lexeme) → IsType (unless_read b (codes "static")) kind t → AreSpelled kind →
    b ≡ false → sees (codes "static") (kind ++ back) ≡ false
unread_type b kind t back is s e =
    type_unquoted (codes "static") refl (refl, (refl, (refl, (refl, (refl, tt))))) (codes "static" ∷ []) refl kind t back
    (subst (λ z. IsType (unless_read z (codes "static")) kind t) e is) s

pub field_complete : (front : List Lexeme) (f : WrittenField) (back : List Lexeme) → IsField front f → AreSmall (type_of_field f) → AreSpelled front →
    read_field (front ++ back) ≡ Ok (f, back)
unfolding read_field read_name
field_complete front f back (field ws fixed kind word name is_fixed t split h_word is_o is_t is_name) small s =
    let s1 = spelled-append (word ∷ fixed ++ kind) (name ∷ []) (subst AreSpelled split s) in
    let s2 = spelled-append (word ∷ fixed) kind s1.0 in
    let w2 : List Lexeme = name ∷ back in
    let w1 : List Lexeme = kind ++ w2 in
    let whole : ws ++ back ≡ word ∷ (fixed ++ w1) = ap (λ z. z ++ back) split ∙ simp append_assoc refl in
    let o = optional_sees (codes "static") fixed is_fixed w1 is_o (unread_type is_fixed kind t w2 is_t s2.1) in
    ap read_field whole
    ∙ by_step (expect (codes ".field") (word ∷ (fixed ++ w1))) _ _ tt (fixed ++ w1) (expect-is (codes ".field") word (fixed ++ w1) h_word)
    (rw (o.0, o.1)
    (by_step (read_type w1) _ _ t w2 (type_complete (unless_read is_fixed (codes "static")) kind t w2 is_t small.0 s2.1 (ends_name name back is_name.word s1.1.0))
    (by_step (read_name_but [] w2) _ _ (name_at name) back (name_complete [] name back is_name) refl)))

pub expect_at-is : (m : List ℕ) (l : Lexeme) (ws : List Lexeme) → Is m l → expect_at m (l ∷ ws) ≡ Ok (l.at, ws)
unfolding expect_at
expect_at-is m l ws same = rw ((bytes_eq-Decides m l.bytes).1 (sym same)) refl

-- how a method is called is read as itself in front of its result
shape_complete : (front : List Lexeme) (m : Shape) (quoted : List (List ℕ)) (result : List Lexeme) (r : Option WrittenType) (back : List Lexeme) → IsShape front m quoted →
    IsResult quoted result r → AreSpelled result → read_shape (front ++ (result ++ back)) ≡ Ok (m, result ++ back)
unfolding read_shape
shape_complete front m quoted result r back instance is s =
    rw (
      result_first (codes "static") refl (refl, (refl, (refl, (refl, (refl, tt))))) refl shape_words refl result r back is s,
      result_first (codes "virtual") refl (refl, (refl, (refl, (refl, (refl, tt))))) refl shape_words refl result r back is s,
      result_first (codes "newslot") refl (refl, (refl, (refl, (refl, (refl, tt))))) refl shape_words refl result r back is s,
      result_first (codes "abstract") refl (refl, (refl, (refl, (refl, (refl, tt))))) refl shape_words refl result r back is s,
    ) refl
shape_complete front m quoted result r back (static l same) is s = rw (sees-is (codes "static") l (result ++ back) same) refl
shape_complete front m quoted result r back (virtual l same) is s =
    rw (sees-other (codes "static") (codes "virtual") l (result ++ back) same refl, sees-is (codes "virtual") l (result ++ back) same) refl
shape_complete front m quoted result r back (newslot l k same next_same) is s =
    let w1 : List Lexeme = result ++ back in
    rw (sees-other (codes "static") (codes "newslot") l (k ∷ w1) same refl, sees-other (codes "virtual") (codes "newslot") l (k ∷ w1) same refl, sees-is (codes "newslot") l (k ∷ w1) same)
    (by_step (expect (codes "virtual") (k ∷ w1)) _ _ tt w1 (expect-is (codes "virtual") k w1 next_same) refl)
shape_complete front m quoted result r back (abstract l same) is s =
    let w1 : List Lexeme = result ++ back in
    rw (
      sees-other (codes "static") (codes "abstract") l w1 same refl,
      sees-other (codes "virtual") (codes "abstract") l w1 same refl,
      sees-other (codes "newslot") (codes "abstract") l w1 same refl,
      sees-is (codes "abstract") l w1 same,
    ) refl

-- a list with a mark between each two has an item
some_vars : (ws : List Lexeme) (vs : List WrittenVar) → Separated (codes ",") IsVar ws vs → 1 ≤ length vs
some_vars ws vs (last same x p) = omega arith
some_vars ws vs (next same front back l x rest split p m t) = omega arith

slot_vars : (front : List Lexeme) (vs : List WrittenVar) (back : List Lexeme) → AreVars front vs → vs ≡ [] → sees (codes "<") back ≡ false →
    read_no_vars (front ++ back) ≡ Ok (vs, back)
slot_vars front vs back no_vars e miss = rw miss refl
slot_vars front vs back (vars ws inner left right us split opens sep closes) e miss = absurd (omega (arith, some_vars inner us sep, ap length e))

method_vars_complete : (m : Shape) (front : List Lexeme) (vs : List WrittenVar) (back : List Lexeme) → AreVars front vs → MayHaveVars m vs → AreSmall (types_of_vars vs) → length vs ≤ 2 →
    AreSpelled front → sees (codes "<") back ≡ false → read_method_vars m (front ++ back) ≡ Ok (vs, back)
unfolding read_method_vars
method_vars_complete shape.Fixed front vs back is may small few s miss = vars_complete 2 front vs back is small few s miss
method_vars_complete shape.Instance front vs back is may small few s miss = vars_complete 2 front vs back is small few s miss
method_vars_complete shape.Virtual front vs back is may small few s miss = slot_vars front vs back is may miss
method_vars_complete shape.NewSlot front vs back is may small few s miss = slot_vars front vs back is may miss
method_vars_complete shape.Abstract front vs back is may small few s miss = slot_vars front vs back is may miss

entry_in : (b : WrittenBody) (at : ℕ) → b.entry ≡ Some at → Contains (option_to_list b.entry ++ []) at
entry_in b at e = subst (λ z. Contains (option_to_list z ++ []) at) (sym e) (0, omega arith, refl)

body_or_none_complete : (may_begin : Bool) (front : List Lexeme) (o : Option WrittenBody) (back : List Lexeme) → IsBodyOrNone front o → AreSmall (flat_map types_of_body (option_to_list o)) →
    AreSpelled front → AllByRecursion (λ (c : WrittenBody). length (instrs_of c.lines) ≤ 16384) (option_to_list o) →
    ((at : ℕ) → Contains (flat_map (λ (c : WrittenBody). option_to_list c.entry) (option_to_list o)) at → may_begin ≡ true) →
    read_body_or_none may_begin (front ++ back) ≡ Ok (o, back)
unfolding read_body_or_none
body_or_none_complete may_begin front o back (bodiless l same) small s few begins =
    rw (sees-is (codes ";") l back same, after-is (codes ";") l back same) refl
body_or_none_complete may_begin front o back (braced ws inner left right b split opens is closes) small s few begins =
    let parts = spelled-append inner (right ∷ []) (subst AreSpelled split s).1 in
    let w1 : List Lexeme = inner ++ right ∷ back in
    let whole : ws ++ back ≡ left ∷ w1 = ap (λ z. z ++ back) split ∙ ap (λ z. left ∷ z) (append_assoc inner (right ∷ []) back) in
    let miss = sees-other (codes ";") (codes "{") left w1 opens refl in
    ap (read_body_or_none may_begin) whole
    ∙ rw (miss, after-other (codes ";") (left ∷ w1) miss)
    (by_step (expect (codes "{") (left ∷ w1)) _ _ tt w1 (expect-is (codes "{") left w1 opens)
    (by_step (read_body may_begin w1) _ _ b (right ∷ back)
    (body_complete may_begin inner b right back is (small-split (types_of_body b) [] small).0 parts.0 closes parts.1.0 few.0 (λ at e. begins at (entry_in b at e)))
    (by_step (expect (codes "}") (right ∷ back)) _ _ tt back (expect-is (codes "}") right back closes) refl)))

made_plain : (plain_class : Bool) (k : Shape) (r : Option WrittenType) (vs : List WrittenVar) (ps : List WrittenParam) → plain_class ≡ true → k ≡ shape.Fixed → r ≡ None → vs ≡ [] →
    ps ≡ [] → may_begin_in plain_class k r vs ps ≡ true
made_plain plain_class k r vs ps a b c d e =
    ap (λ z. may_begin_in z k r vs ps) a ∙ ap (λ z. may_begin_in true z r vs ps) b ∙ ap (λ z. may_begin_in true shape.Fixed z vs ps) c
    ∙ ap (λ z. may_begin_in true shape.Fixed None z ps) d ∙ ap (λ z. may_begin_in true shape.Fixed None [] z) e

begins_there : (plain_class : Bool) (m : WrittenMethod) → plain_class ≡ true → MayBegin m → may_begin_in plain_class m.shape m.result m.vars m.params ≡ true
begins_there plain_class m plain may = made_plain plain_class m.shape m.result m.vars m.params plain may.fixed may.void may.vars may.params

-- a written method within its limits, in a class without type variables or with some
pub method_complete : (plain_class : Bool) (front : List Lexeme) (m : WrittenMethod) (back : List Lexeme) → IsMethod front m → MethodFine plain_class m → AreSpelled front →
    read_method plain_class (front ++ back) ≡ Ok (m, back)
unfolding read_method
method_complete plain_class front m back (method ws shaped result held params rest word name left right k quoted r vs ps b split h_word is_shape is_result is_name are_vars may opens are_params closes is_body) fine s =
    let s1 = spelled-append (word ∷ shaped ++ result ++ name ∷ held ++ left ∷ params) (right ∷ rest) (subst AreSpelled split s) in
    let s2 = spelled-append (word ∷ shaped ++ result ++ name ∷ held) (left ∷ params) s1.0 in
    let s3 = spelled-append (word ∷ shaped ++ result) (name ∷ held) s2.0 in
    let s4 = spelled-append (word ∷ shaped) result s3.0 in
    let m1 = small-split (option_to_list r ++ types_of_vars vs ++ types_of_params ps) (flat_map types_of_body (option_to_list b)) fine.small in
    let m2 = small-split (option_to_list r ++ types_of_vars vs) (types_of_params ps) m1.0 in
    let m3 = small-split (option_to_list r) (types_of_vars vs) m2.0 in
    let w5 : List Lexeme = rest ++ back in
    let w4 : List Lexeme = left ∷ (params ++ right ∷ w5) in
    let w3 : List Lexeme = held ++ w4 in
    let w2 : List Lexeme = name ∷ w3 in
    let w1 : List Lexeme = result ++ w2 in
    let w0 : List Lexeme = shaped ++ w1 in
    let whole : ws ++ back ≡ word ∷ w0 = ap (λ z. z ++ back) split ∙ simp append_assoc refl in
    let begins = may_begin_in plain_class k r vs ps in
    ap (read_method plain_class) whole
    ∙ by_step (expect_at (codes ".method") (word ∷ w0)) _ _ word.at w0 (expect_at-is (codes ".method") word w0 h_word)
    (by_step (read_shape w0) _ _ k w1 (shape_complete shaped k quoted result r w2 is_shape is_result s4.1)
    (by_step (read_result w1) _ _ r w2 (result_complete quoted result r w2 is_result m3.0 s4.1 (ends_name name w3 is_name.word s3.1.0))
    (by_step (read_method_name w2) _ _ (name_at name) w3 (method_name_complete name w3 is_name)
    (by_step (read_method_vars k w3) _ _ vs w4 (method_vars_complete k held vs w4 are_vars may m3.1 fine.vars s3.1.1 (sees-other (codes "<") (codes "(") left (params ++ right ∷ w5) opens refl))
    (by_step (read_enclosed read_params w4) _ _ ps w5 (enclosed_complete read_params left params right ps w5 opens closes (params_complete params ps right w5 are_params m2.1 s2.1.1 closes))
    (by_step (read_body_or_none begins w5) _ _ b back
    (body_or_none_complete begins rest b back is_body m1.1 s1.1.1 fine.instrs (λ at c. let f = fine.begins at c in begins_there plain_class _ f.0 f.1)) refl))))))
