-- A type that is printed as `object` is `object`.
use Rattle.std.proofs.Common.{◌≡◌, ℕ, zero, suc, true, false, List, [], ◌∷◌, ◌++◌, map, Some, refl, sym, ap, ◌∙◌, codes, bytes_eq, slice_get, unwrap_or, append-nil}
use Rattle.std.proofs.lemmas.Bool.{true≢false}
use Rattle.std.proofs.lemmas.Slice.Eq.{bytes_eq-Decides}
use Rattle.type_tree.specs.declared.tree.TExpr.{TExpr}
use Rattle.type_tree.specs.declared.tree.Head.TheVariants as head
use Rattle.type_tree.specs.Tree.{node}
use Rattle.type_tree.specs.Printed.{class_name, listed}
use Rattle.type_tree.proofs.TreeLemmas.{folded-node, folded-class_var, folded-method_var}
use Rattle.il_model.specs.declared.written.WrittenType.{WrittenType}
use Rattle.il_model.specs.Words.{quoted_words}
use Rattle.il_model.specs.Library.{plain}
use Rattle.il_model.specs.Names.{Scope, class_number, NamesType, int32, int64, bool, object, string, class_variable, method_variable, class, vector, no_types, more_types}
use Rattle.il_model.specs.Canonical.{Word, level_text, long_names, type_text}
use Rattle.il_print.proofs.AgainScopes.{ArePlain, class_found}
use Rattle.il_print.proofs.AgainForms.{is_no_variable}
use Rattle.il_print.proofs.AgainTokens.{not_quoted}

pub object_text : (s : Scope) → ArePlain s.names → bytes_eq (type_text s.names (plain 0)) (codes "object") ≡ true
object_text s plain_names =
    let at : class_name s.names 0 ≡ codes "object" = ap (λ ns. class_name ns 0) plain_names.begins in
    ap (λ t. bytes_eq t (codes "object")) (folded-node (level_text s.names) (head.Class 0) [] ∙ ap (λ n. n ++ []) at)

apart : (a b : Word) → bytes_eq a b ≡ false → ¬ (a ≡ b)
apart a b other same = true≢false (sym ((bytes_eq-Decides a b).1 same) ∙ other)

last_of : ℕ → List ℕ → ℕ
last_of d [] = d
last_of d (x ∷ xs) = last_of x xs

last_behind : (d : ℕ) (xs : List ℕ) (y : ℕ) (ys : List ℕ) → last_of d (xs ++ y ∷ ys) ≡ last_of y ys
unfolding last_of
last_behind d [] y ys = refl
last_behind d (x ∷ xs) y ys = last_behind x xs y ys

no_arguments : (own listed_parts : Word) → ¬ (own ++ (codes "<" ++ (listed_parts ++ codes ">")) ≡ codes "object")
unfolding last_of
no_arguments own listed_parts e =
    let last : 62 ≡ 116 = sym (last_behind 0 own 60 (listed_parts ++ codes ">") ∙ last_behind 60 listed_parts 62 []) ∙ ap (last_of 0) e in
    true≢false (ap (λ b. bytes_eq (62 ∷ []) (b ∷ [])) last)

no_vector : (element : Word) → ¬ (element ++ codes "[]" ≡ codes "object")
unfolding last_of
no_vector element e =
    let last : 93 ≡ 116 = sym (last_behind 0 element 91 (93 ∷ [])) ∙ ap (last_of 0) e in
    true≢false (ap (λ b. bytes_eq (93 ∷ []) (b ∷ [])) last)

-- a class without arguments
by_number : (s : Scope) → ArePlain s.names → (name : Word) (number : ℕ) (t : TExpr) → class_number s.names name ≡ Some number → t ≡ node (head.Class number) [] →
    class_name s.names number ++ [] ≡ codes "object" → t ≡ plain 0
by_number s names name zero t found f e = f
by_number s names name (suc zero) t found f e =
    absurd (apart (codes "string") (codes "object") refl (sym (ap (λ ns. class_name ns 1 ++ []) names.begins) ∙ e))
by_number s names name (suc (suc k)) t found f e =
    let c = class_found s.names name (suc (suc k)) found in
    let own : slice_get names.rest k ≡ Some c.canonical = ap (λ ns. slice_get ns (suc (suc k))) (sym names.begins) ∙ c.is in
    let same : c.canonical ≡ codes "object" = sym (ap (λ o. unwrap_or o []) c.is) ∙ sym (append-nil (class_name s.names (suc (suc k)))) ∙ e in
    absurd (not_quoted quoted_words c.canonical (codes "object") (names.free k c.canonical own) refl same)

is_object : (s : Scope) → ArePlain s.names → (written : WrittenType) (t : TExpr) → NamesType s written t → type_text s.names t ≡ codes "object" → t ≡ plain 0
is_object s names written t (int32 s' w' t' e f) is =
    absurd (apart (codes "int32") (codes "object") refl (sym (ap (type_text s.names) f ∙ folded-node (level_text s.names) head.Int32 []) ∙ is))
is_object s names written t (int64 s' w' t' e f) is =
    absurd (apart (codes "int64") (codes "object") refl (sym (ap (type_text s.names) f ∙ folded-node (level_text s.names) head.Int64 []) ∙ is))
is_object s names written t (bool s' w' t' e f) is =
    absurd (apart (codes "bool") (codes "object") refl (sym (ap (type_text s.names) f ∙ folded-node (level_text s.names) head.Bool []) ∙ is))
is_object s names written t (object s' w' t' e f) is = f
is_object s names written t (string s' w' t' e f) is =
    let text : type_text s.names t ≡ codes "string" =
    ap (type_text s.names) f ∙ folded-node (level_text s.names) (head.Class 1) [] ∙ ap (λ ns. class_name ns 1 ++ []) names.begins
    in
    absurd (apart (codes "string") (codes "object") refl (sym text ∙ is))
is_object s names written t (class_variable s' w' t' v n e found below f) is =
    absurd (true≢false (sym (ap is_no_variable (sym (ap (type_text s.names) f ∙ folded-class_var (level_text s.names) n) ∙ is))))
is_object s names written t (method_variable s' w' t' v n e found below f) is =
    absurd (true≢false (sym (ap is_no_variable (sym (ap (type_text s.names) f ∙ folded-method_var (level_text s.names) n) ∙ is))))
is_object s names written t (class s' w' t' name args ts n e found (no_types s2) f) is =
    by_number s names name.name n t found f (sym (ap (type_text s.names) f ∙ folded-node (level_text s.names) (head.Class n) []) ∙ is)
is_object s names written t (class s' w' t' name args ts n e found (more_types s2 w2 t2 ws2 ts2 is2 are2) f) is =
    absurd (no_arguments (class_name (long_names s.names) n) (listed (map (type_text s.names) (t2 ∷ ts2)))
    (sym (ap (type_text s.names) f ∙ folded-node (level_text s.names) (head.Class n) (t2 ∷ ts2)) ∙ is))
is_object s names written t (vector s' w' element t' of e inner f) is =
    absurd (no_vector (listed (map (type_text s.names) (of ∷ []))) (sym (ap (type_text s.names) f ∙ folded-node (level_text s.names) head.Vector (of ∷ [])) ∙ is))

pub object_is : (s : Scope) → ArePlain s.names → (written : WrittenType) (t : TExpr) → NamesType s written t → bytes_eq (type_text s.names t) (codes "object") ≡ true → t ≡ plain 0
object_is s names written t named hit = is_object s names written t named ((bytes_eq-Decides (type_text s.names t) (codes "object")).0 hit)
