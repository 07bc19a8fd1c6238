-- A method that a text names is alike the one of the canonical text, token by token.
use Rattle.std.proofs.Common.{◌≡◌, length, Bool, true, if◌then◌else◌, List, [], ◌∷◌, ◌++◌, map, Option, refl, sym, ap, ◌∙◌, subst, codes, append_assoc}
use Rattle.std.specs.List.{list_all}
use Rattle.std.proofs.lemmas.Bool.{and_parts, and_from}
use Rattle.type_tree.specs.declared.tree.TExpr.{TExpr}
use Rattle.il_model.specs.declared.member.MRef.{MRef}
use Rattle.il_model.specs.declared.method.PType.{PType}
use Rattle.il_model.specs.declared.written.WrittenType.{WrittenType}
use Rattle.il_model.specs.declared.written.WrittenParam.{WrittenParam}
use Rattle.il_model.specs.declared.written.WrittenMethodRef.{WrittenMethodRef}
use Rattle.il_model.specs.Lexemes.{Lexeme, IsOptional, absent, present, Separated, last, next}
use Rattle.il_model.specs.Types.{AreTypes, IsResult, void, value, IsParam, by_value, pointer, AreParams, no_params, params, AreArguments, no_arguments, arguments}
use Rattle.il_model.specs.Members.{IsMethodRef, method_ref}
use Rattle.il_model.specs.Names.{Scope, end, both, neither, each, NamesTypes, NamesResult, NamesParam, by_pointer, by_value as of_value, NamesParams}
use Rattle.il_model.specs.LookUp.{scope_of_member, NamesMethodRef}
use Rattle.il_model.specs.Canonical.{Word}
use Rattle.il_print.proofs.Keys.{Key, quoted, name_key, keys_between, angled_keys, type_keys, result_keys, param_keys, method_ref_keys}
use Rattle.il_print.proofs.AgainScopes.{ArePlain}
use Rattle.il_print.proofs.AgainMembers.{AreGenuine, genuine_front, genuine_back, genuine_rest}
use Rattle.il_print.proofs.AgainAlike.{IsAlike, alike_same, written_keys, is_found, same_keys, same_keys_all}
use Rattle.il_print.proofs.AgainTokens.{quoted_alike, mark_alike, each_joined, AreAlike, one_alike, some_types, type_alike, types_alike}

optional_alike : (b : Bool) (ls : List Lexeme) → IsOptional (codes "instance") ls b → AreGenuine ls → AreAlike ls (if b then quoted (codes "instance") ∷ [] else [])
optional_alike b ls absent genuine = end
optional_alike b ls (present l is) genuine = one_alike l (quoted (codes "instance")) (quoted_alike (codes "instance") l refl refl refl refl refl genuine.spelled.0 is)

result_alike : (s : Scope) → ArePlain s.names → (words : List Word) (ls : List Lexeme) (written : Option WrittenType) → IsResult words ls written → AreGenuine ls →
    (r : Option TExpr) → NamesResult s written r → AreAlike ls (result_keys s.names r)
result_alike s plain words ls written (void l is) genuine r neither = one_alike l (quoted (codes "void")) (quoted_alike (codes "void") l refl refl refl refl refl genuine.spelled.0 is)
result_alike s plain words ls written (value ws t is) genuine r (each x y named) =
    let k = same_keys s x y named in
    subst (AreAlike ws) k.keys (type_alike s plain _ ws x is genuine k.found)

-- ---- parameters

abbrev written_param : Scope → WrittenParam → List Key
written_param s p = if p.pointer then written_keys s p.kind ++ quoted (codes "&") ∷ [] else written_keys s p.kind

param_alike : (s : Scope) → ArePlain s.names → (ls : List Lexeme) (p : WrittenParam) → IsParam ls p → AreGenuine ls → is_found s p.kind ≡ true → AreAlike ls (written_param s p)
param_alike s plain ls p (by_value ws t is) genuine found = type_alike s plain [] ws t is genuine found
param_alike s plain ls p (pointer ws front l t split is same) genuine found =
    let whole = subst AreGenuine split genuine in
    subst (λ z. AreAlike z (written_keys s t ++ quoted (codes "&") ∷ [])) (sym split)
    (each_joined IsAlike front (l ∷ []) (written_keys s t) (quoted (codes "&") ∷ []) (type_alike s plain [] front t is (genuine_front front (l ∷ []) whole) found)
    (one_alike l (quoted (codes "&")) (mark_alike (codes "&") l refl same)))

separated_alike : (s : Scope) → ArePlain s.names → (ls : List Lexeme) (ps : List WrittenParam) → Separated (codes ",") IsParam ls ps → AreGenuine ls →
    list_all (λ (p : WrittenParam). is_found s p.kind) ps ≡ true → AreAlike ls (keys_between (codes ",") (map (written_param s) ps))
separated_alike s plain ls ps (last ws p is) genuine found = param_alike s plain ws p is genuine (and_parts (is_found s p.kind) true found).0
separated_alike s plain ls ps (next ws front back l p more split is same are) genuine found =
    let parts = and_parts (is_found s p.kind) (list_all (λ (q : WrittenParam). is_found s q.kind) more) found in
    let whole = subst AreGenuine split genuine in
    let a = param_alike s plain front p is (genuine_front front (l ∷ back) whole) parts.0 in
    let b = separated_alike s plain back more are (genuine_rest l back (genuine_back front (l ∷ back) whole)) parts.1 in
    subst (λ z. AreAlike z (keys_between (codes ",") (map (written_param s) (p ∷ more)))) (sym split) (joined s front l back p more are a (mark_alike (codes ",") l refl same) b) where
      joined : (s : Scope) (front : List Lexeme) (l : Lexeme) (back : List Lexeme) (p : WrittenParam) (more : List WrittenParam) → Separated (codes ",") IsParam back more →
          AreAlike front (written_param s p) → IsAlike l (quoted (codes ",")) → AreAlike back (keys_between (codes ",") (map (written_param s) more)) →
          AreAlike (front ++ l ∷ back) (keys_between (codes ",") (map (written_param s) (p ∷ more)))
      joined s front l back p [] are a b c = absurd (some_params back [] are refl) where
        some_params : (ls : List Lexeme) (ps : List WrittenParam) → Separated (codes ",") IsParam ls ps → ¬ (ps ≡ [])
        some_params ls ps (last ws q is) e = absurd cc
        some_params ls ps (next ws front back l q rest split is same are) e = absurd cc
      joined s front l back p (q ∷ more) are a b c =
          each_joined IsAlike front (l ∷ back) (written_param s p) (quoted (codes ",") ∷ keys_between (codes ",") (map (written_param s) (q ∷ more))) a
          (both l (quoted (codes ",")) back (keys_between (codes ",") (map (written_param s) (q ∷ more))) b c)

param_same : (s : Scope) (written : WrittenParam) (p : PType) → NamesParam s written p → (written_param s written ≡ param_keys s.names p) × (is_found s written.kind ≡ true)
param_same s written p (of_value x t named) = let k = same_keys s x t named in (k.keys, k.found)
param_same s written p (by_pointer x t named) = let k = same_keys s x t named in (ap (λ ks. ks ++ quoted (codes "&") ∷ []) k.keys, k.found)

params_same : (s : Scope) (written : List WrittenParam) (ps : List PType) → NamesParams s written ps →
    (map (written_param s) written ≡ map (param_keys s.names) ps) × (list_all (λ (p : WrittenParam). is_found s p.kind) written ≡ true)
params_same s written ps end = (refl, refl)
params_same s written ps (both x p xs qs is are) =
    let a = param_same s x p is in
    let b = params_same s xs qs are in
    (ap (λ k. k ∷ map (written_param s) xs) a.0 ∙ ap (λ ks. param_keys s.names p ∷ ks) b.0, and_from _ _ a.1 b.1)

params_alike : (s : Scope) → ArePlain s.names → (ls : List Lexeme) (written : List WrittenParam) → AreParams ls written → AreGenuine ls → (ps : List PType) → NamesParams s written ps →
    AreAlike ls (keys_between (codes ",") (map (param_keys s.names) ps))
params_alike s plain ls written are genuine ps named =
    let k = params_same s written ps named in
    subst (λ ks. AreAlike ls (keys_between (codes ",") ks)) k.0 (by_list s plain ls written are genuine k.1) where
      by_list : (s : Scope) → ArePlain s.names → (ls : List Lexeme) (written : List WrittenParam) → AreParams ls written → AreGenuine ls →
          list_all (λ (p : WrittenParam). is_found s p.kind) written ≡ true → AreAlike ls (keys_between (codes ",") (map (written_param s) written))
      by_list s plain ls written no_params genuine found = end
      by_list s plain ls written (params ws p ps are) genuine found = separated_alike s plain ws (p ∷ ps) are genuine found

-- ---- type arguments

arguments_alike : (s : Scope) → ArePlain s.names → (ls : List Lexeme) (written : List WrittenType) → AreArguments ls written → AreGenuine ls → (ts : List TExpr) →
    NamesTypes s written ts → AreAlike ls (angled_keys (map (type_keys s.names) ts))
arguments_alike s plain ls written are genuine ts named =
    let k = same_keys_all s written ts named in
    subst (λ ks. AreAlike ls (angled_keys ks)) k.keys (by_list s plain ls written are genuine k.found) where
      enclosed_alike : (s : Scope) (left : Lexeme) (inner : List Lexeme) (right : Lexeme) (us : List WrittenType) → AreTypes (codes ",") inner us →
          IsAlike left (quoted (codes "<")) → AreAlike inner (keys_between (codes ",") (map (written_keys s) us)) → IsAlike right (quoted (codes ">")) →
          AreAlike (left ∷ inner ++ right ∷ []) (angled_keys (map (written_keys s) us))
      enclosed_alike s left inner right [] are a b c = absurd (some_types (codes ",") inner [] are refl)
      enclosed_alike s left inner right (u ∷ us) are a b c =
          let inside = keys_between (codes ",") (map (written_keys s) (u ∷ us)) in
          both left (quoted (codes "<")) (inner ++ right ∷ []) (inside ++ quoted (codes ">") ∷ []) a
          (each_joined IsAlike inner (right ∷ []) inside (quoted (codes ">") ∷ []) b (one_alike right (quoted (codes ">")) c))

      by_list : (s : Scope) → ArePlain s.names → (ls : List Lexeme) (written : List WrittenType) → AreArguments ls written → AreGenuine ls →
          list_all (λ b. b) (map (is_found s) written) ≡ true → AreAlike ls (angled_keys (map (written_keys s) written))
      by_list s plain ls written no_arguments genuine found = end
      by_list s plain ls written (arguments ws inner left right us split opens are closes) genuine found =
          let own = genuine_front inner (right ∷ []) (genuine_rest left (inner ++ right ∷ []) (subst AreGenuine split genuine)) in
          subst (λ z. AreAlike z (angled_keys (map (written_keys s) us))) (sym split)
          (enclosed_alike s left inner right us are (mark_alike (codes "<") left refl opens) (types_alike s plain (codes ",") refl inner us are own found)
          (mark_alike (codes ">") right refl closes))

-- ---- methods

pub ref_alike : (s : Scope) → ArePlain s.names → (ls : List Lexeme) (written : WrittenMethodRef) → IsMethodRef ls written → AreGenuine ls → (m : MRef) →
    NamesMethodRef s written m → AreAlike ls (method_ref_keys s.names m)
ref_alike s plain ls written (method_ref ws before result class args within colons name left right is_instance r c ts ps split is_before is_result is_class is_colons is_name
    are_args opens are_params closes) genuine m names =
    let g1 = subst AreGenuine split genuine in
    let g2 = genuine_front (before ++ result ++ class ++ colons ∷ name ∷ args ++ left ∷ within) (right ∷ []) g1 in
    let g3 = genuine_front (before ++ result ++ class ++ colons ∷ name ∷ args) (left ∷ within) g2 in
    let g4 = genuine_front (before ++ result ++ class) (colons ∷ name ∷ args) g3 in
    let g5 = genuine_front (before ++ result) class g4 in
    let g_args = genuine_rest name args (genuine_rest colons (name ∷ args) (genuine_back (before ++ result ++ class) (colons ∷ name ∷ args) g3)) in
    let g_params = genuine_rest left within (genuine_back (before ++ result ++ class ++ colons ∷ name ∷ args) (left ∷ within) g2) in
    let inside = scope_of_member s m.class (length written.args) in
    let k_class = same_keys s written.class m.class names.class in
    let flag : List Key = if m.instance then quoted (codes "instance") ∷ [] else [] in
    let a_before : AreAlike before flag =
    subst (λ (b : Bool). AreAlike before (if b then quoted (codes "instance") ∷ [] else [])) (sym names.instance) (optional_alike is_instance before is_before (genuine_front before result g5))
    in
    let a_result : AreAlike result (result_keys s.names m.result) = result_alike inside plain _ result r is_result (genuine_back before result g5) m.result names.gives in
    let a_class : AreAlike class (type_keys s.names m.class) = subst (AreAlike class) k_class.keys (type_alike s plain [] class c is_class (genuine_back (before ++ result) class g4) k_class.found) in
    let a_args = arguments_alike s plain args ts are_args g_args m.args names.args in
    let behind = angled_keys (map (type_keys s.names) m.args) in
    let a_name : AreAlike (colons ∷ name ∷ args) (quoted (codes "::") ∷ name_key m.name ∷ behind) =
    both colons (quoted (codes "::")) (name ∷ args) (name_key m.name ∷ behind) (mark_alike (codes "::") colons refl is_colons)
    (both name (name_key m.name) args behind (alike_same (sym names.name) (λ e. is_name.word)) a_args)
    in
    let between = keys_between (codes ",") (map (param_keys s.names) m.params) in
    let a_params : AreAlike (left ∷ within) (quoted (codes "(") ∷ between) =
    both left (quoted (codes "(")) within between (mark_alike (codes "(") left refl opens) (params_alike inside plain within ps are_params g_params m.params names.params)
    in
    let front_keys = flag ++ result_keys s.names m.result ++ type_keys s.names m.class ++ quoted (codes "::") ∷ name_key m.name ∷ behind in
    let a_front : AreAlike (before ++ result ++ class ++ colons ∷ name ∷ args) front_keys =
    each_joined IsAlike (before ++ result ++ class) (colons ∷ name ∷ args) (flag ++ result_keys s.names m.result ++ type_keys s.names m.class) (quoted (codes "::") ∷ name_key m.name ∷ behind)
    (each_joined IsAlike (before ++ result) class (flag ++ result_keys s.names m.result) (type_keys s.names m.class)
    (each_joined IsAlike before result flag (result_keys s.names m.result) a_before a_result) a_class) a_name
    in
    let a_whole : AreAlike (before ++ result ++ class ++ colons ∷ name ∷ args ++ left ∷ within ++ right ∷ []) (front_keys ++ quoted (codes "(") ∷ between ++ quoted (codes ")") ∷ []) =
    each_joined IsAlike (before ++ result ++ class ++ colons ∷ name ∷ args ++ left ∷ within) (right ∷ []) (front_keys ++ quoted (codes "(") ∷ between) (quoted (codes ")") ∷ [])
    (each_joined IsAlike (before ++ result ++ class ++ colons ∷ name ∷ args) (left ∷ within) front_keys (quoted (codes "(") ∷ between) a_front a_params)
    (one_alike right (quoted (codes ")")) (mark_alike (codes ")") right refl closes))
    in
    subst (λ z. AreAlike z (method_ref_keys s.names m)) (sym split)
    (subst (AreAlike (before ++ result ++ class ++ colons ∷ name ∷ args ++ left ∷ within ++ right ∷ []))
    (append_assoc front_keys (quoted (codes "(") ∷ between) (quoted (codes ")") ∷ [])) a_whole)
