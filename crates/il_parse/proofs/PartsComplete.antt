-- Parameters, arguments, type variables and members of the grammar are read as themselves.
use Rattle.std.proofs.Common.{◌≡◌, ℕ, ◌≤◌, Bool, true, false, List, [], ◌∷◌, ◌++◌, length, option_to_list, Option, Ok, refl, sym, ap, subst, ◌∙◌, codes, append_assoc, bytes_eq, arith}
use Rattle.std.specs.List.{AllByRecursion}
use Rattle.std.proofs.lemmas.Bool.{true≢false, or_parts, or_left, or_right}
use Rattle.std.proofs.lemmas.List.{length-append}
use Rattle.il_model.specs.declared.written.WrittenType.{WrittenType}
use Rattle.il_model.specs.declared.written.WrittenParam.{WrittenParam}
use Rattle.il_model.specs.declared.written.WrittenMethodRef.{WrittenMethodRef}
use Rattle.il_model.specs.declared.written.WrittenFieldRef.{WrittenFieldRef}
use Rattle.il_model.specs.Lexemes.{Lexeme, Is, IsName, is_among, name_at, Separated, last, next, IsOptional, absent as not_written, present}
use Rattle.il_text.specs.Spelling.{is_variable}
use Rattle.il_model.specs.Words.{type_words}
use Rattle.il_model.specs.Bounds.{types_of_params, types_of_method_ref}
use Rattle.il_model.specs.Types.{IsResult, void, value, IsParam, by_value, pointer, AreParams, no_params, params, AreArguments, no_arguments, arguments}
use Rattle.il_model.specs.Members.{unless_read, IsMethodRef, method_ref, IsFieldRef, field_ref}
use Rattle.il_parse.specs.Reading.{Reader, sees, after, expect, read_name, read_name_but, read_separated}
use Rattle.il_parse.specs.Types.{read_type, read_types, read_result, read_param, read_params, read_enclosed, read_arguments}
use Rattle.il_parse.specs.Members.{read_method_name, read_method_ref, read_field_ref}
use Rattle.il_parse.proofs.Steps.{AreSpelled, spelled-append, by_step}
use Rattle.il_parse.proofs.ListsSound.{AreSmall}
use Rattle.il_parse.proofs.PartsSound.{type_of_param, flat-singles}
use Rattle.il_parse.proofs.MembersSound.{types_of_field_ref}
use Rattle.il_parse.proofs.TypesComplete.{sees-is, sees-other, after-is, after-other, expect-is}
use Rattle.il_parse.proofs.ListsComplete.{Ends, ends_at, ends_type, type_complete, type_first, type_unquoted, type_some, name_complete, small-split, Complete, separated_complete, types_complete}

-- what stands behind a result: nothing that goes on with a type
pub result_complete : (quoted : List (List ℕ)) (front : List Lexeme) (r : Option WrittenType) (back : List Lexeme) → IsResult quoted front r →
    AreSmall (option_to_list r) → AreSpelled front → Ends back → read_result (front ++ back) ≡ Ok (r, back)
unfolding read_result
result_complete quoted front r back (void l same) small s ends = rw (sees-is (codes "void") l back same, after-is (codes "void") l back same) refl
result_complete quoted front r back (value ws t is) small s ends =
    let miss = type_unquoted (codes "void") refl (refl, (refl, (refl, (refl, (refl, tt))))) (codes "void" ∷ quoted) refl ws t back is s in
    rw (miss, after-other (codes "void") (ws ++ back) miss)
    (by_step (read_type (ws ++ back)) _ _ t back (type_complete (codes "void" ∷ quoted) ws t back is small.0 s ends) refl)

-- what may stand behind a parameter
pub record EndsParam (back : List Lexeme) : Type 0 where
  pub ends : Ends back
  pub no_pointer : sees (codes "&") back ≡ false

param_at : (k : List ℕ) (l : Lexeme) (ws : List Lexeme) → Is k l → bytes_eq (codes "<") k ≡ false → bytes_eq (codes "[]") k ≡ false → bytes_eq (codes "&") k ≡ false →
    EndsParam (l ∷ ws)
param_at k l ws same a b c = record { ends = ends_at k l ws same a b; no_pointer = sees-other (codes "&") k l ws same c }

pub param_complete : Complete read_param IsParam type_of_param EndsParam
unfolding read_param
param_complete front p back (by_value ws t is) small s f =
    by_step (read_type (ws ++ back)) _ _ t back (type_complete [] ws t back is small.0 s f.ends)
    (rw (f.no_pointer, after-other (codes "&") back f.no_pointer) refl)
param_complete front p back (pointer ws first l t split is same) small s f =
    let parts = spelled-append first (l ∷ []) (subst AreSpelled split s) in
    ap read_param (ap (λ z. z ++ back) split ∙ append_assoc first (l ∷ []) back)
    ∙ by_step (read_type (first ++ l ∷ back)) _ _ t (l ∷ back)
    (type_complete [] first t (l ∷ back) is small.0 parts.0 (ends_at (codes "&") l back same refl refl))
    (rw (sees-is (codes "&") l back same, after-is (codes "&") l back same) refl)

param_some : (ws : List Lexeme) (p : WrittenParam) → IsParam ws p → 1 ≤ length ws
param_some ws p (by_value same t is) = type_some [] ws t is
param_some ws p (pointer same front l t split is h) = omega (arith, ap length split, length-append front (l ∷ []))

pub params_some : (ws : List Lexeme) (ps : List WrittenParam) → Separated (codes ",") IsParam ws ps → 1 ≤ length ws
params_some ws ps (last same p is) = param_some ws p is
params_some ws ps (next same front back l p qs split is h t) = omega (arith, ap length split, length-append front (l ∷ back))

-- a parameter doesn't begin with a mark
param_first : (front : List Lexeme) (p : WrittenParam) (back : List Lexeme) → IsParam front p → AreSpelled front → sees (codes ")") (front ++ back) ≡ false
param_first front p back (by_value ws t is) s = type_first (codes ")") refl refl [] ws t back is s
param_first front p back (pointer ws first l t split is same) s =
    ap (sees (codes ")")) (ap (λ z. z ++ back) split ∙ append_assoc first (l ∷ []) back)
    ∙ type_first (codes ")") refl refl [] first t (l ∷ back) is (spelled-append first (l ∷ []) (subst AreSpelled split s)).0

params_first : (front : List Lexeme) (ps : List WrittenParam) (back : List Lexeme) → Separated (codes ",") IsParam front ps → AreSpelled front → sees (codes ")") (front ++ back) ≡ false
params_first front ps back (last ws p is) s = param_first ws p back is s
params_first front ps back (next ws first rest l p qs split is same t) s =
    ap (sees (codes ")")) (ap (λ z. z ++ back) split ∙ append_assoc first (l ∷ rest) back)
    ∙ param_first first p (l ∷ rest ++ back) is (spelled-append first (l ∷ rest) (subst AreSpelled split s)).0

pub param_list_complete : (front : List Lexeme) (ps : List WrittenParam) (r : Lexeme) (back : List Lexeme) → Separated (codes ",") IsParam front ps → AreSmall (types_of_params ps) →
    AreSpelled front → Is (codes ")") r → read_separated read_param (codes ",") (front ++ r ∷ back) ≡ Ok (ps, r ∷ back)
param_list_complete front ps r back sep small s same =
    separated_complete read_param IsParam type_of_param EndsParam param_complete param_some (codes ",") (λ l ws h. param_at (codes ",") l ws h refl refl refl)
    front ps (r ∷ back) sep (subst AreSmall (sym (flat-singles ps)) small) s (param_at (codes ")") r back same refl refl refl) (sees-other (codes ",") (codes ")") r back same refl)

pub params_complete : (front : List Lexeme) (ps : List WrittenParam) (r : Lexeme) (back : List Lexeme) → AreParams front ps → AreSmall (types_of_params ps) →
    AreSpelled front → Is (codes ")") r → read_params (front ++ r ∷ back) ≡ Ok (ps, r ∷ back)
unfolding read_params
params_complete front ps r back no_params small s same = rw (sees-is (codes ")") r back same) refl
params_complete front ps r back (params ws p qs sep) small s same =
    rw (params_first ws (p ∷ qs) (r ∷ back) sep s) (param_list_complete ws (p ∷ qs) r back sep small s same)

-- what stands in `(` and `)` is read where it is read up to `)`
pub enclosed_complete : {A : Type 0} (item : Reader A) (left : Lexeme) (inner : List Lexeme) (right : Lexeme) (x : A) (back : List Lexeme) → Is (codes "(") left → Is (codes ")") right →
    item (inner ++ right ∷ back) ≡ Ok (x, right ∷ back) → read_enclosed item (left ∷ (inner ++ right ∷ back)) ≡ Ok (x, back)
unfolding read_enclosed
enclosed_complete item left inner right x back opens closes e =
    by_step (expect (codes "(") (left ∷ (inner ++ right ∷ back))) _ _ tt (inner ++ right ∷ back) (expect-is (codes "(") left (inner ++ right ∷ back) opens)
    (by_step (item (inner ++ right ∷ back)) _ _ x (right ∷ back) e
    (by_step (expect (codes ")") (right ∷ back)) _ _ tt back (expect-is (codes ")") right back closes) refl))

pub arguments_complete : (front : List Lexeme) (ts : List WrittenType) (back : List Lexeme) → AreArguments front ts → AreSmall ts → AreSpelled front →
    sees (codes "<") back ≡ false → read_arguments (front ++ back) ≡ Ok (ts, back)
unfolding read_arguments
arguments_complete front ts back no_arguments small s miss = rw (miss, after-other (codes "<") back miss) refl
arguments_complete front ts back (arguments ws inner left right us split opens are closes) small s miss =
    let parts = spelled-append inner (right ∷ []) (subst AreSpelled split s).1 in
    let whole : ws ++ back ≡ left ∷ (inner ++ right ∷ back) = ap (λ z. z ++ back) split ∙ ap (λ z. left ∷ z) (append_assoc inner (right ∷ []) back) in
    ap read_arguments whole
    ∙ rw (sees-is (codes "<") left (inner ++ right ∷ back) opens, after-is (codes "<") left (inner ++ right ∷ back) opens)
    (by_step (read_types (codes ",") (inner ++ right ∷ back)) _ _ ts (right ∷ back)
    (types_complete (codes ",") refl refl inner ts (right ∷ back) are small parts.0 (ends_at (codes ">") right back closes refl refl)
    (sees-other (codes ",") (codes ">") right back closes refl))
    (by_step (expect (codes ">") (right ∷ back)) _ _ tt back (expect-is (codes ">") right back closes) refl))

cctor_apart : (l : Lexeme) (back : List Lexeme) → IsName (codes ".cctor" ∷ []) l → sees (codes ".cctor") (l ∷ back) ≡ false
unfolding sees
cctor_apart l back n = (or_parts (bytes_eq (codes ".cctor") l.bytes) false n.free).0

pub method_name_complete : (l : Lexeme) (back : List Lexeme) → IsName (codes ".cctor" ∷ []) l → read_method_name (l ∷ back) ≡ Ok (name_at l, back)
unfolding read_method_name read_name
method_name_complete l back n = rw (cctor_apart l back n) (name_complete [] l back (record { word = n.word; free = refl }))

-- a word that may stand there is read where the next lexeme isn't it
pub optional_sees : (m : List ℕ) (front : List Lexeme) (b : Bool) (back : List Lexeme) → IsOptional m front b → (b ≡ false → sees m back ≡ false) →
    (sees m (front ++ back) ≡ b) × (after m (front ++ back) ≡ back)
optional_sees m front b back not_written free = (free refl, after-other m back (free refl))
optional_sees m front b back (present l same) free = (sees-is m l back same, after-is m l back same)

pub result_first : (m : List ℕ) → is_variable m ≡ false → AllByRecursion (λ (row : List ℕ × WrittenType). bytes_eq m row.0 ≡ false) type_words → bytes_eq m (codes "void") ≡ false →
    (quoted : List (List ℕ)) → is_among quoted m ≡ true → (front : List Lexeme) (r : Option WrittenType) (back : List Lexeme) → IsResult quoted front r → AreSpelled front →
    sees m (front ++ back) ≡ false
result_first m no_variable no_keyword no_void quoted inside front r back (void l same) s = sees-other m (codes "void") l back same no_void
result_first m no_variable no_keyword no_void quoted inside front r back (value ws t is) s =
    type_unquoted m no_variable no_keyword (codes "void" ∷ quoted) (or_right (bytes_eq (codes "void") m) (is_among quoted m) inside) ws t back is s

pub unread_first : (m : List ℕ) → is_variable m ≡ false → AllByRecursion (λ (row : List ℕ × WrittenType). bytes_eq m row.0 ≡ false) type_words → bytes_eq m (codes "void") ≡ false →
    bytes_eq m m ≡ true → (b : Bool) (front : List Lexeme) (r : Option WrittenType) (back : List Lexeme) → IsResult (unless_read b m) front r → AreSpelled front →
    b ≡ false → sees m (front ++ back) ≡ false
unread_first m no_variable no_keyword no_void self true front r back is s e = absurd (true≢false e)
unread_first m no_variable no_keyword no_void self false front r back is s e =
    result_first m no_variable no_keyword no_void (m ∷ []) (or_left (bytes_eq m m) false self) front r back is s

pub method_ref_complete : (front : List Lexeme) (m : WrittenMethodRef) (back : List Lexeme) → IsMethodRef front m → AreSmall (types_of_method_ref m) → AreSpelled front →
    read_method_ref (front ++ back) ≡ Ok (m, back)
unfolding read_method_ref
method_ref_complete front m back (method_ref ws before result class args inside colons name left right i r c ts ps split is_i is_r is_c h_colons is_name is_args opens is_params closes) small s =
    let s1 = spelled-append (before ++ result ++ class ++ colons ∷ name ∷ args ++ left ∷ inside) (right ∷ []) (subst AreSpelled split s) in
    let s2 = spelled-append (before ++ result ++ class ++ colons ∷ name ∷ args) (left ∷ inside) s1.0 in
    let s3 = spelled-append (before ++ result ++ class) (colons ∷ name ∷ args) s2.0 in
    let s4 = spelled-append (before ++ result) class s3.0 in
    let s5 = spelled-append before result s4.0 in
    let m1 = small-split (option_to_list r ++ c ∷ ts) (types_of_params ps) small in
    let m2 = small-split (option_to_list r) (c ∷ ts) m1.0 in
    let w6 : List Lexeme = left ∷ (inside ++ right ∷ back) in
    let w5 : List Lexeme = args ++ w6 in
    let w4 : List Lexeme = name ∷ w5 in
    let w3 : List Lexeme = colons ∷ w4 in
    let w2 : List Lexeme = class ++ w3 in
    let w1 : List Lexeme = result ++ w2 in
    let whole : ws ++ back ≡ before ++ w1 = ap (λ z. z ++ back) split ∙ simp append_assoc refl in
    let o = optional_sees (codes "instance") before i w1 is_i
    (unread_first (codes "instance") refl (refl, (refl, (refl, (refl, (refl, tt))))) refl refl i result r w2 is_r s5.1) in
    ap read_method_ref whole
    ∙ rw (o.0, o.1)
    (by_step (read_result w1) _ _ r w2 (result_complete (unless_read i (codes "instance")) result r w2 is_r m2.0 s5.1 (ends_type [] class c w3 is_c s4.1))
    (by_step (read_type w2) _ _ c w3 (type_complete [] class c w3 is_c m2.1.0 s4.1 (ends_at (codes "::") colons w4 h_colons refl refl))
    (by_step (expect (codes "::") w3) _ _ tt w4 (expect-is (codes "::") colons w4 h_colons)
    (by_step (read_method_name w4) _ _ (name_at name) w5 (method_name_complete name w5 is_name)
    (by_step (read_arguments w5) _ _ ts w6 (arguments_complete args ts w6 is_args m2.1.1 s3.1.1.1 (sees-other (codes "<") (codes "(") left (inside ++ right ∷ back) opens refl))
    (by_step (read_enclosed read_params w6) _ _ ps back (enclosed_complete read_params left inside right ps back opens closes
    (params_complete inside ps right back is_params m1.1 s2.1.1 closes)) refl))))))

pub field_ref_complete : (front : List Lexeme) (f : WrittenFieldRef) (back : List Lexeme) → IsFieldRef front f → AreSmall (types_of_field_ref f) → AreSpelled front →
    read_field_ref (front ++ back) ≡ Ok (f, back)
unfolding read_field_ref read_name
field_ref_complete front f back (field_ref ws kind class colons name k c split is_k is_c h_colons is_name) small s =
    let s1 = spelled-append (kind ++ class) (colons ∷ name ∷ []) (subst AreSpelled split s) in
    let s2 = spelled-append kind class s1.0 in
    let w3 : List Lexeme = name ∷ back in
    let w2 : List Lexeme = colons ∷ w3 in
    let w1 : List Lexeme = class ++ w2 in
    let whole : ws ++ back ≡ kind ++ w1 = ap (λ z. z ++ back) split ∙ simp append_assoc refl in
    ap read_field_ref whole
    ∙ by_step (read_type (kind ++ w1)) _ _ k w1 (type_complete [] kind k w1 is_k small.0 s2.0 (ends_type [] class c w2 is_c s2.1))
    (by_step (read_type w1) _ _ c w2 (type_complete [] class c w2 is_c small.1.0 s2.1 (ends_at (codes "::") colons w3 h_colons refl refl))
    (by_step (expect (codes "::") w2) _ _ tt w3 (expect-is (codes "::") colons w3 h_colons)
    (by_step (read_name_but [] w3) _ _ (name_at name) back (name_complete [] name back is_name) refl)))
