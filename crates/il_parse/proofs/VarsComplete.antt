-- Type variables of the grammar are read as themselves.
use Rattle.std.proofs.Common.{◌≡◌, ℕ, zero, suc, ◌≤◌, false, List, [], ◌∷◌, ◌++◌, length, Ok, refl, ap, subst, ◌∙◌, codes, append_assoc, bytes_eq, arith}
use Rattle.il_model.specs.declared.written.WrittenVar.{WrittenVar}
use Rattle.il_model.specs.Lexemes.{Lexeme, Is, name_at, Separated, last, next}
use Rattle.il_model.specs.Bounds.{types_of_vars}
use Rattle.il_model.specs.Types.{IsVar, unbounded, bounded, AreVars, no_vars, vars}
use Rattle.il_parse.specs.Reading.{sees, expect, read_name, read_name_but}
use Rattle.il_parse.specs.Types.{read_types, read_var, vars_from, read_vars}
use Rattle.il_parse.proofs.Steps.{AreSpelled, spelled-append, by_step}
use Rattle.il_parse.proofs.ListsSound.{AreSmall}
use Rattle.il_parse.proofs.PartsSound.{bounds_of}
use Rattle.il_parse.proofs.TypesComplete.{sees-is, sees-other, after-is, after-other, expect-is}
use Rattle.il_parse.proofs.ListsComplete.{Ends, ends_at, name_complete, small-split, Complete, types_complete}

-- what may stand behind a type variable
pub record EndsVar (back : List Lexeme) : Type 0 where
  pub ends : Ends back
  pub no_colon : sees (codes ":") back ≡ false
  pub no_bound : sees (codes "&") back ≡ false

var_at : (k : List ℕ) (l : Lexeme) (ws : List Lexeme) → Is k l → bytes_eq (codes "<") k ≡ false → bytes_eq (codes "[]") k ≡ false → bytes_eq (codes ":") k ≡ false →
    bytes_eq (codes "&") k ≡ false → EndsVar (l ∷ ws)
var_at k l ws same a b c d =
    record { ends = ends_at k l ws same a b; no_colon = sees-other (codes ":") k l ws same c; no_bound = sees-other (codes "&") k l ws same d }

pub var_complete : Complete read_var IsVar bounds_of EndsVar
unfolding read_var read_name
var_complete front v back (unbounded l is) small s f =
    by_step (read_name_but [] (l ∷ back)) _ _ (name_at l) back (name_complete [] l back is) (rw (f.no_colon, after-other (codes ":") back f.no_colon) refl)
var_complete front v back (bounded l colon inside ts is same are) small s f =
    by_step (read_name_but [] (l ∷ colon ∷ (inside ++ back))) _ _ (name_at l) (colon ∷ (inside ++ back)) (name_complete [] l (colon ∷ (inside ++ back)) is)
    (rw (sees-is (codes ":") colon (inside ++ back) same, after-is (codes ":") colon (inside ++ back) same)
    (by_step (read_types (codes "&") (inside ++ back)) _ _ ts back (types_complete (codes "&") refl refl inside ts back are small s.1.1 f.ends f.no_bound) refl))

vars_from_complete : (n : ℕ) (found : List WrittenVar) (front : List Lexeme) (vs : List WrittenVar) (back : List Lexeme) → Separated (codes ",") IsVar front vs →
    AreSmall (types_of_vars vs) → AreSpelled front → EndsVar back → sees (codes ",") back ≡ false → length vs ≤ n →
    vars_from n found (front ++ back) ≡ Ok (found ++ vs, back)
unfolding vars_from
vars_from_complete zero found front vs back (last ws x p) small s f miss few = absurd (omega (arith, few))
vars_from_complete zero found front vs back (next ws first rest l x ys split p same t) small s f miss few = absurd (omega (arith, few))
vars_from_complete (suc n) found front vs back (last ws x p) small s f miss few =
    by_step (read_var (ws ++ back)) _ _ x back (var_complete ws x back p (small-split (bounds_of x) [] small).0 s f) (rw (miss, after-other (codes ",") back miss) refl)
vars_from_complete (suc n) found front vs back (next ws first rest l x ys split p same t) small s f miss few =
    let parts = spelled-append first (l ∷ rest) (subst AreSpelled split s) in
    let smalls = small-split (bounds_of x) (types_of_vars ys) small in
    let whole : ws ++ back ≡ first ++ l ∷ (rest ++ back) = ap (λ z. z ++ back) split ∙ append_assoc first (l ∷ rest) back in
    let later = vars_from_complete n (found ++ x ∷ []) rest ys back t smalls.1 parts.1.1 f miss (omega (arith, few)) in
    ap (vars_from (suc n) found) whole
    ∙ by_step (read_var (first ++ l ∷ (rest ++ back))) _ _ x (l ∷ (rest ++ back))
    (var_complete first x (l ∷ (rest ++ back)) p smalls.0 parts.0 (var_at (codes ",") l (rest ++ back) same refl refl refl refl))
    (rw (sees-is (codes ",") l (rest ++ back) same, after-is (codes ",") l (rest ++ back) same) later)
    ∙ ap (λ zs. Ok (zs, back)) (append_assoc found (x ∷ []) ys)

pub vars_complete : (most : ℕ) (front : List Lexeme) (vs : List WrittenVar) (back : List Lexeme) → AreVars front vs → AreSmall (types_of_vars vs) → length vs ≤ most →
    AreSpelled front → sees (codes "<") back ≡ false → read_vars most (front ++ back) ≡ Ok (vs, back)
unfolding read_vars
vars_complete most front vs back no_vars small few s miss = rw (miss, after-other (codes "<") back miss) refl
vars_complete most front vs back (vars ws inner left right us split opens sep closes) small few s miss =
    let parts = spelled-append inner (right ∷ []) (subst AreSpelled split s).1 in
    let whole : ws ++ back ≡ left ∷ (inner ++ right ∷ back) = ap (λ z. z ++ back) split ∙ ap (λ z. left ∷ z) (append_assoc inner (right ∷ []) back) in
    ap (read_vars most) whole
    ∙ rw (sees-is (codes "<") left (inner ++ right ∷ back) opens, after-is (codes "<") left (inner ++ right ∷ back) opens)
    (by_step (vars_from most [] (inner ++ right ∷ back)) _ _ us (right ∷ back)
    (vars_from_complete most [] inner us (right ∷ back) sep small parts.0 (var_at (codes ">") right back closes refl refl refl refl)
    (sees-other (codes ",") (codes ">") right back closes refl) few)
    (by_step (expect (codes ">") (right ∷ back)) _ _ tt back (expect-is (codes ">") right back closes) refl))
