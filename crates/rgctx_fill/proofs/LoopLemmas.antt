-- What the loops of planning and of limits give, one item more at a time.
use Rattle.std.proofs.Common.{◌≡◌, ℕ, zero, suc, ◌+◌, ◌<◌, ◌≤◌, false, List, [], ◌∷◌, ◌++◌, length, map, flat_map, take, get_or, Option, Some, None, if◌then◌else◌, refl, sym, ap, ◌∙◌, arith}
use Rattle.std.specs.Prelude.{nat_lt, slice_get, option_to_list}
use Rattle.std.proofs.lemmas.List.{append-nil, append_assoc, length-append, map-append, take_more}
use Rattle.type_tree.specs.declared.tree.TExpr.{TExpr}
use Rattle.type_tree.specs.declared.tree.Head.{Head}
use Rattle.type_tree.specs.declared.tree.TNode.TheVariants.{Node}
use Rattle.type_tree.specs.Tree.{top_of}
use Rattle.type_tree.proofs.TreeLemmas.{tree_of-is, folded-node}
use Rattle.il_model.specs.declared.layout.Limit.{Limit}
use Rattle.il_model.specs.declared.layout.Limit.TheVariants as limit
use Rattle.il_model.specs.declared.layout.MethodTree.{MethodTree}
use Rattle.il_model.specs.declared.method.MethodDef.{MethodDef}
use Rattle.il_model.specs.declared.method.PType.{PType}
use Rattle.il_model.specs.declared.program.Program.{Program}
use Rattle.il_model.specs.Found.{method_at}
use Rattle.il_model.specs.Admission.{most_positions, limit_of}
use Rattle.il_model.specs.Methods.{worse, worst, type_of_place, types_of_places, types_of_method, method_positions, limit_of_method}
use Rattle.rgctx_fill.specs.declared.stage.NodeStep.{NodeStep}
use Rattle.rgctx_fill.specs.Limits.{seen_at}
use Rattle.rgctx_fill.specs.Steps.{head_number, step_with, level_steps, type_steps, types_steps, types_places}

-- one item more at the front
front_more : {A : Type 0} (xs : List A) (i : ℕ) (x : A) → i < length xs → x ≡ get_or xs i x → take (i + 1) xs ≡ take i xs ++ x ∷ []
front_more xs i x inside is = take_more xs i x inside ∙ ap (λ y. take i xs ++ y ∷ []) (sym is)

-- ---- steps

pub steps-append : (xs ys : List TExpr) (n : ℕ) → types_steps (xs ++ ys) n ≡ types_steps xs n ++ types_steps ys (n + length (types_steps xs n))
steps-append [] ys n = ap (types_steps ys) (let e : n ≡ n + 0 = omega arith in e)
steps-append (x ∷ xs) ys n =
    let first : List NodeStep = type_steps x n in
    let m : ℕ = n + length first in
    let rest : List NodeStep = types_steps xs m in
    let count : length (first ++ rest) ≡ length first + length rest = length-append first rest in
    let e : m + length rest ≡ n + length (first ++ rest) = omega arith in
    ap (λ l. first ++ l) (steps-append xs ys m) ∙ sym (append_assoc first rest (types_steps ys (m + length rest))) ∙ ap (λ k. (first ++ rest) ++ types_steps ys k) e

pub places-append : (xs ys : List TExpr) (n : ℕ) → types_places (xs ++ ys) n ≡ types_places xs n ++ types_places ys (n + length (types_steps xs n))
places-append [] ys n = ap (types_places ys) (let e : n ≡ n + 0 = omega arith in e)
places-append (x ∷ xs) ys n =
    let first : List NodeStep = type_steps x n in
    let m : ℕ = n + length first in
    let rest : List NodeStep = types_steps xs m in
    let count : length (first ++ rest) ≡ length first + length rest = length-append first rest in
    let e : m + length rest ≡ n + length (first ++ rest) = omega arith in
    ap (λ l. m ∷ l) (places-append xs ys m ∙ ap (λ k. types_places xs m ++ types_places ys k) e)

-- the steps of one type more
pub steps-more : (old : List NodeStep) (xs : List TExpr) (x : TExpr) (now : List NodeStep) → now ≡ old ++ types_steps xs (length old) → now ++ type_steps x (length now) ≡ old ++ types_steps (xs ++ x ∷ []) (length old)
steps-more old xs x now is =
    let done : List NodeStep = types_steps xs (length old) in
    let count : length now ≡ length old + length done = ap length is ∙ length-append old done in
    let one : List NodeStep = type_steps x (length now) in
    let e : types_steps (xs ++ x ∷ []) (length old) ≡ done ++ one = steps-append xs (x ∷ []) (length old) ∙ ap (λ l. done ++ l) (append-nil (type_steps x (length old + length done)) ∙ ap (type_steps x) (sym count)) in
    ap (λ l. l ++ one) is ∙ append_assoc old done one ∙ ap (λ l. old ++ l) (sym e)

-- the place of its last step
pub places-more : (old : List ℕ) (before : List NodeStep) (xs : List TExpr) (x : TExpr) (now : List NodeStep) (places : List ℕ) → now ≡ before ++ types_steps xs (length before) → places ≡ old ++ types_places xs (length before)
    → places ++ length (now ++ type_steps x (length now)) ∷ [] ≡ old ++ types_places (xs ++ x ∷ []) (length before)
places-more old before xs x now places is are =
    let done : List NodeStep = types_steps xs (length before) in
    let count : length now ≡ length before + length done = ap length is ∙ length-append before done in
    let one : List NodeStep = type_steps x (length now) in
    let last : length (now ++ one) ≡ length before + length done + length (type_steps x (length before + length done)) = length-append now one ∙ ap (λ n. n + length (type_steps x n)) count in
    let e : types_places (xs ++ x ∷ []) (length before) ≡ types_places xs (length before) ++ length (now ++ one) ∷ [] = places-append xs (x ∷ []) (length before) ∙ ap (λ n. types_places xs (length before) ++ n ∷ []) (sym last) in
    ap (λ l. l ++ length (now ++ one) ∷ []) are ∙ append_assoc old (types_places xs (length before)) (length (now ++ one) ∷ []) ∙ ap (λ l. old ++ l) (sym e)

-- the same as a loop over the types comes to them
pub steps-next : (old : List NodeStep) (xs : List TExpr) (i : ℕ) (x : TExpr) (now more : List NodeStep) (n m : ℕ) → i < length xs → x ≡ get_or xs i x → n ≡ length old → m ≡ length now
    → now ≡ old ++ types_steps (take i xs) n → more ≡ now ++ type_steps x m → more ≡ old ++ types_steps (take (i + 1) xs) n
steps-next old xs i x now more n m inside is old_count now_count had made =
    made ∙ ap (λ k. now ++ type_steps x k) now_count
    ∙ steps-more old (take i xs) x now (had ∙ ap (λ k. old ++ types_steps (take i xs) k) old_count)
    ∙ ap (λ l. old ++ types_steps l (length old)) (sym (front_more xs i x inside is)) ∙ ap (λ k. old ++ types_steps (take (i + 1) xs) k) (sym old_count)

pub places-next : (old : List ℕ) (before : List NodeStep) (xs : List TExpr) (i : ℕ) (x : TExpr) (now more : List NodeStep) (places made : List ℕ) (n m k : ℕ) → i < length xs → x ≡ get_or xs i x → n ≡ length before → m ≡ length now
    → k ≡ length more → now ≡ before ++ types_steps (take i xs) n → more ≡ now ++ type_steps x m → places ≡ old ++ types_places (take i xs) n → made ≡ places ++ k ∷ []
    → made ≡ old ++ types_places (take (i + 1) xs) n
places-next old before xs i x now more places made n m k inside is before_count now_count more_count had steps_made had_places put =
    let count : k ≡ length (now ++ type_steps x (length now)) = more_count ∙ ap length (steps_made ∙ ap (λ q. now ++ type_steps x q) now_count) in
    put ∙ ap (λ q. places ++ q ∷ []) count
    ∙ places-more old before (take i xs) x now places (had ∙ ap (λ q. before ++ types_steps (take i xs) q) before_count) (had_places ∙ ap (λ q. old ++ types_places (take i xs) q) before_count)
    ∙ ap (λ l. old ++ types_places l (length before)) (sym (front_more xs i x inside is)) ∙ ap (λ q. old ++ types_places (take (i + 1) xs) q) (sym before_count)

-- the steps of a type behind those of its arguments
pub node-steps : (t : TExpr) (h : Head) (parts : List TExpr) (n : ℕ) → top_of t ≡ Node h parts → type_steps t n ≡ types_steps parts n ++ step_with (head_number h) (types_places parts n) ∷ []
node-steps t h parts n top = ap (λ u. type_steps u n) (tree_of-is t (Node h parts) top) ∙ ap (λ (f : ℕ → List NodeStep). f n) (folded-node level_steps h parts)

pub own-steps : (t : TExpr) (h : Head) (parts : List TExpr) (old now more : List NodeStep) (places : List ℕ) (n : ℕ) → top_of t ≡ Node h parts → now ≡ old ++ types_steps parts n → places ≡ types_places parts n
    → more ≡ now ++ step_with (head_number h) places ∷ [] → more ≡ old ++ type_steps t n
own-steps t h parts old now more places n top steps_are places_are put =
    put ∙ ap (λ p. now ++ step_with (head_number h) p ∷ []) places_are ∙ ap (λ l. l ++ step_with (head_number h) (types_places parts n) ∷ []) steps_are
    ∙ append_assoc old (types_steps parts n) (step_with (head_number h) (types_places parts n) ∷ []) ∙ ap (λ l. old ++ l) (sym (node-steps t h parts n top))

-- ---- limits

worse_assoc : (a b c : Option Limit) → worse (worse a b) c ≡ worse a (worse b c)
worse_assoc (Some limit.Positions) b c = refl
worse_assoc (Some limit.ValueWords) (Some limit.Positions) c = refl
worse_assoc (Some limit.ValueWords) (Some limit.ValueWords) (Some limit.Positions) = refl
worse_assoc (Some limit.ValueWords) (Some limit.ValueWords) (Some limit.ValueWords) = refl
worse_assoc (Some limit.ValueWords) (Some limit.ValueWords) None = refl
worse_assoc (Some limit.ValueWords) None (Some limit.Positions) = refl
worse_assoc (Some limit.ValueWords) None (Some limit.ValueWords) = refl
worse_assoc (Some limit.ValueWords) None None = refl
worse_assoc None b c = refl

worse_end : (a : Option Limit) → worse a None ≡ a
worse_end (Some limit.Positions) = refl
worse_end (Some limit.ValueWords) = refl
worse_end None = refl

pub worst-append : (xs ys : List (Option Limit)) → worst (xs ++ ys) ≡ worse (worst xs) (worst ys)
worst-append [] ys = refl
worst-append (x ∷ xs) ys = ap (worse x) (worst-append xs ys) ∙ sym (worse_assoc x (worst xs) (worst ys))

pub worst-more : (program : Program) (xs : List TExpr) (x : TExpr) → worst (map (limit_of program) (xs ++ x ∷ [])) ≡ worse (worst (map (limit_of program) xs)) (limit_of program x)
worst-more program xs x =
    ap worst (map-append (limit_of program) xs (x ∷ [])) ∙ worst-append (map (limit_of program) xs) (limit_of program x ∷ []) ∙ ap (worse (worst (map (limit_of program) xs))) (worse_end (limit_of program x))

-- the limits of a class, of arguments and of further types
pub worst-three : (program : Program) (c : TExpr) (args rest : List TExpr) → worst (map (limit_of program) (c ∷ args ++ rest)) ≡ worse (limit_of program c) (worse (worst (map (limit_of program) args)) (worst (map (limit_of program) rest)))
worst-three program c args rest =
    ap (λ l. worse (limit_of program c) (worst l)) (map-append (limit_of program) args rest) ∙ ap (worse (limit_of program c)) (worst-append (map (limit_of program) args) (map (limit_of program) rest))

pub worst-next : (program : Program) (xs : List TExpr) (i : ℕ) (x : TExpr) (old more new : Option Limit) → i < length xs → x ≡ get_or xs i x → old ≡ worst (map (limit_of program) (take i xs)) → more ≡ limit_of program x
    → new ≡ worse old more → new ≡ worst (map (limit_of program) (take (i + 1) xs))
worst-next program xs i x old more new inside is had found made =
    made ∙ ap (λ l. worse l more) had ∙ ap (worse (worst (map (limit_of program) (take i xs)))) found ∙ sym (worst-more program (take i xs) x)
    ∙ ap (λ l. worst (map (limit_of program) l)) (sym (front_more xs i x inside is))

-- the limit of a method, from those of its parts
pub limit-whole : (program : Program) (m : MethodTree) (class args rest inner whole : Option Limit) (kinds : List TExpr) → nat_lt most_positions (method_positions m.class m.args) ≡ false → class ≡ limit_of program m.class
    → args ≡ worst (map (limit_of program) m.args) → kinds ≡ map (seen_at m) (flat_map types_of_method (option_to_list (method_at program m.method))) → rest ≡ worst (map (limit_of program) kinds)
    → inner ≡ worse args rest → whole ≡ worse class inner → whole ≡ limit_of_method program m
limit-whole program m class args rest inner whole kinds small class_is args_are kinds_are rest_is inner_is whole_is =
    let named : List TExpr = map (seen_at m) (flat_map types_of_method (option_to_list (method_at program m.method))) in
    let r : rest ≡ worst (map (limit_of program) named) = rest_is ∙ ap (λ l. worst (map (limit_of program) l)) kinds_are in
    let i : inner ≡ worse (worst (map (limit_of program) m.args)) (worst (map (limit_of program) named)) = inner_is ∙ ap (λ a. worse a rest) args_are ∙ ap (worse (worst (map (limit_of program) m.args))) r in
    whole_is ∙ ap (λ c. worse c inner) class_is ∙ ap (worse (limit_of program m.class)) i ∙ sym (worst-three program m.class m.args named)
    ∙ ap (λ b. if b then Some limit.Positions else worst (map (limit_of program) (m.class ∷ m.args ++ named))) (sym small)

-- ---- the types of places

pub flat-more : (places : List PType) (p : PType) → types_of_places (places ++ p ∷ []) ≡ types_of_places places ++ type_of_place p
flat-more [] p = append-nil (type_of_place p)
flat-more (q ∷ places) p = ap (λ l. type_of_place q ++ l) (flat-more places p) ∙ sym (append_assoc (type_of_place q) (types_of_places places) (type_of_place p))

pub seen-more : (m : MethodTree) (old : List TExpr) (places : List PType) (p : PType) (now : List TExpr) → now ≡ old ++ map (seen_at m) (types_of_places places)
    → now ++ map (seen_at m) (type_of_place p) ≡ old ++ map (seen_at m) (types_of_places (places ++ p ∷ []))
seen-more m old places p now is =
    let a : map (seen_at m) (types_of_places (places ++ p ∷ [])) ≡ map (seen_at m) (types_of_places places) ++ map (seen_at m) (type_of_place p) =
    ap (map (seen_at m)) (flat-more places p) ∙ map-append (seen_at m) (types_of_places places) (type_of_place p) in
    ap (λ l. l ++ map (seen_at m) (type_of_place p)) is ∙ append_assoc old (map (seen_at m) (types_of_places places)) (map (seen_at m) (type_of_place p)) ∙ ap (λ l. old ++ l) (sym a)

-- the types that a method of the program names, and those that no method does
pub kinds-some : (m : MethodTree) (found : Option MethodDef) (d : MethodDef) → found ≡ Some d → map (seen_at m) (types_of_method d) ≡ map (seen_at m) (flat_map types_of_method (option_to_list found))
kinds-some m found d is = ap (map (seen_at m)) (sym (append-nil (types_of_method d))) ∙ ap (λ f. map (seen_at m) (flat_map types_of_method (option_to_list f))) (sym is)

past_none : {A : Type 0} (xs : List A) (i : ℕ) → length xs ≤ i → slice_get xs i ≡ None
past_none [] i past = refl
past_none (x ∷ xs) zero past = absurd (omega arith)
past_none (x ∷ xs) (suc i) past = past_none xs i (omega arith)

pub kinds-none : (m : MethodTree) (methods : List MethodDef) (number : ℕ) (new : List TExpr) → length methods ≤ number → new ≡ [] → new ≡ map (seen_at m) (flat_map types_of_method (option_to_list (slice_get methods number)))
kinds-none m methods number new past none = none ∙ ap (λ f. map (seen_at m) (flat_map types_of_method (option_to_list f))) (sym (past_none methods number past))
