-- The arguments of an admitted method have few words each.
use Rattle.std.proofs.Common.{◌≡◌, ℕ, zero, suc, ◌+◌, ◌<◌, ◌≤◌, Bool, true, false, List, [], ◌∷◌, ◌++◌, length, map, flat_map, Option, Some, None, if◌then◌else◌, refl, sym, ap, ◌∙◌, subst, arith, append_assoc}
use Rattle.std.specs.Prelude.{nat_lt, is_none, slice_index, option_to_list}
use Rattle.std.specs.List.{AllByRecursion}
use Rattle.type_tree.specs.declared.tree.TExpr.{TExpr}
use Rattle.type_tree.specs.Substitution.{substituted}
use Rattle.il_model.specs.declared.layout.Limit.{Limit}
use Rattle.il_model.specs.declared.layout.Limit.TheVariants as limit
use Rattle.il_model.specs.declared.layout.MethodTree.{MethodTree}
use Rattle.il_model.specs.declared.method.MethodDef.{MethodDef}
use Rattle.il_model.specs.declared.method.PType.{PType}
use Rattle.il_model.specs.declared.method.PType.TheVariants as ptype
use Rattle.il_model.specs.declared.program.Program.{Program}
use Rattle.il_model.specs.Entries.{arguments_of}
use Rattle.il_model.specs.Find.{takes_object}
use Rattle.il_model.specs.Found.{method_at}
use Rattle.il_model.specs.Kinds.{is_value}
use Rattle.il_model.specs.Admission.{most_positions, limit_of}
use Rattle.il_model.specs.Methods.{worse, worst, types_of_places, types_of_body, types_of_method, types_named_by, method_positions, limit_at}
use Rattle.cil_meaning.specs.Types.{put_place, object_place, arguments_with, argument_places}
use Rattle.crossings.specs.Calls.{AreWidths}
use Rattle.rgctx_fill.specs.Nodes.{IsAdmittedMethod}
use Rattle.rgctx_fill.specs.CallServices.{argument_width, argument_widths}
use Rattle.rt_service.proofs.AdmittedLemmas.{few_words}

worse_none : (a b : Option Limit) → worse a b ≡ None → (a ≡ None) × (b ≡ None)
worse_none (Some limit.Positions) b h = cc
worse_none (Some limit.ValueWords) (Some limit.Positions) h = cc
worse_none (Some limit.ValueWords) (Some limit.ValueWords) h = cc
worse_none (Some limit.ValueWords) None h = cc
worse_none None b h = (refl, h)

limited_if : (b : Bool) (rest : Option Limit) → is_none (if b then Some limit.Positions else rest) ≡ true → rest ≡ None
limited_if true rest h = cc
limited_if false None h = refl
limited_if false (Some l) h = cc

module _ (program : Program) where
  back_none : (xs ys : List TExpr) → worst (map (limit_of program) (xs ++ ys)) ≡ None → worst (map (limit_of program) ys) ≡ None
  back_none [] ys h = h
  back_none (x ∷ xs) ys h = back_none xs ys (worse_none (limit_of program x) (worst (map (limit_of program) (xs ++ ys))) h).1

  abbrev IsFew : PType → Type 0
  IsFew p = argument_width program p ≤ 16

  module _ (m : MethodTree) where
    abbrev put : TExpr → TExpr
    put t = substituted (arguments_of m.class) m.args t

    params_few : (ps : List PType) (rest : List TExpr) → worst (map (limit_of program) (map put (types_of_places ps ++ rest))) ≡ None → AllByRecursion IsFew (map (put_place m) ps)
    params_few [] rest h = tt
    params_few (ptype.Value t ∷ ps) rest h =
        let two = worse_none (limit_of program (put t)) (worst (map (limit_of program) (map put (types_of_places ps ++ rest)))) h in
        (few_words program (put t) two.0, params_few ps rest two.1)
    params_few (ptype.Pointer t ∷ ps) rest h =
        let two = worse_none (limit_of program (put t)) (worst (map (limit_of program) (map put (types_of_places ps ++ rest)))) h in
        (omega arith, params_few ps rest two.1)
    params_few (ptype.Native ∷ ps) rest h = (omega arith, params_few ps rest h)

    object_few : (b : Bool) → limit_of program m.class ≡ None → IsFew (if b then ptype.Pointer m.class else ptype.Value m.class)
    object_few true none = omega arith
    object_few false none = few_words program m.class none

    all_few : (b : Bool) (object : PType) (params : List PType) → IsFew object → AllByRecursion IsFew params → AllByRecursion IsFew (arguments_with b object params)
    all_few true object params first rest = (first, rest)
    all_few false object params first rest = rest

    places_few : (d : MethodDef) → worst (map (limit_of program) (types_named_by m.class m.args (Some d))) ≡ None → AllByRecursion IsFew (argument_places program m d)
    places_few d h =
        let rest : List TExpr = flat_map types_of_body (option_to_list d.body) in
        let two : (limit_of program m.class ≡ None) × (worst (map (limit_of program) (m.args ++ map put (flat_map types_of_method (d ∷ [])))) ≡ None) =
        worse_none (limit_of program m.class) (worst (map (limit_of program) (m.args ++ map put (flat_map types_of_method (d ∷ []))))) h in
        let signed : worst (map (limit_of program) (map put (flat_map types_of_method (d ∷ [])))) ≡ None = back_none m.args (map put (flat_map types_of_method (d ∷ []))) two.1 in
        let order : flat_map types_of_method (d ∷ []) ≡ types_of_places d.params ++ (option_to_list d.result ++ (rest ++ [])) = simp append_assoc refl in
        let listed : worst (map (limit_of program) (map put (types_of_places d.params ++ (option_to_list d.result ++ (rest ++ []))))) ≡ None =
        subst (λ (ts : List TExpr). worst (map (limit_of program) (map put ts)) ≡ None) order signed in
        all_few (takes_object d.shape) (object_place program m.class) (map (put_place m) d.params) (object_few (is_value program m.class) two.0)
        (params_few d.params (option_to_list d.result ++ (rest ++ [])) listed)

    widths_few : (ps : List PType) → AllByRecursion IsFew ps → (i : ℕ) → i < length (map (argument_width program) ps) → slice_index (map (argument_width program) ps) i ≤ 16
    widths_few [] few i low = absurd (omega arith)
    widths_few (p ∷ ps) few zero low = few.0
    widths_few (p ∷ ps) few (suc i) low = widths_few ps few.1 i (omega arith)

    admitted_types : (d : MethodDef) → is_none (limit_at program m.class m.args (Some d)) ≡ true → worst (map (limit_of program) (types_named_by m.class m.args (Some d))) ≡ None
    admitted_types d h = limited_if (nat_lt most_positions (method_positions m.class m.args)) (worst (map (limit_of program) (types_named_by m.class m.args (Some d)))) h

    some_same : (a b : MethodDef) → Some a ≡ Some b → a ≡ b
    some_same a b e = cc

    -- each argument of an admitted method has at most sixteen words
    pub arguments_few : (d : MethodDef) → IsAdmittedMethod program m → method_at program m.method ≡ Some d → (i : ℕ) → i < length (argument_widths program m d) → slice_index (argument_widths program m d) i ≤ 16
    arguments_few d admitted is i low =
        let same : admitted.method ≡ d = some_same admitted.method d (sym admitted.is ∙ is) in
        let none : is_none (limit_at program m.class m.args (Some d)) ≡ true = subst (λ (x : MethodDef). is_none (limit_at program m.class m.args (Some x)) ≡ true) same admitted.admitted in
        widths_few (argument_places program m d) (places_few d (admitted_types d none)) i low

    with_count : (b : Bool) (object : PType) (params : List PType) → length (arguments_with b object params) ≡ (if b then 1 else 0) + length params
    with_count true object params = omega arith
    with_count false object params = omega arith

    map_count : (ps : List PType) → length (map (put_place m) ps) ≡ length ps
    map_count [] = refl
    map_count (p ∷ ps) = ap suc (map_count ps)

    width_count : (ps : List PType) → length (map (argument_width program) ps) ≡ length ps
    width_count [] = refl
    width_count (p ∷ ps) = ap suc (width_count ps)

    -- the object counts as an argument
    pub places_count : (d : MethodDef) → length (argument_places program m d) ≡ (if takes_object d.shape then 1 else 0) + length d.params
    places_count d = with_count (takes_object d.shape) (object_place program m.class) (map (put_place m) d.params) ∙ ap (λ (n : ℕ). (if takes_object d.shape then 1 else 0) + n) (map_count d.params)

    pub widths_count : (d : MethodDef) → length (argument_widths program m d) ≡ (if takes_object d.shape then 1 else 0) + length d.params
    widths_count d = width_count (argument_places program m d) ∙ places_count d

    pub are_widths : (d : MethodDef) (places : ℕ) → IsAdmittedMethod program m → method_at program m.method ≡ Some d → (if takes_object d.shape then 1 else 0) + length d.params ≤ places
        → AreWidths (argument_widths program m d) places
    are_widths d places admitted is few = record { few = let e = widths_count d in omega arith; each = arguments_few d admitted is }
