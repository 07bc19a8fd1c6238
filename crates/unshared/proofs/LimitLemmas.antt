-- The limit of many types, from the first to the last.
use Rattle.std.proofs.Common.{◌≡◌, ◌∙◌, ℕ, ◌+◌, ◌<◌, List, [], ◌∷◌, ◌++◌, map, take, length, get_or, Option, Some, None, refl, ap}
use Rattle.std.proofs.lemmas.List.{map-append, take_more}
use Rattle.type_tree.specs.declared.tree.TExpr.{TExpr}
use Rattle.il_model.specs.declared.layout.Limit.{Limit}
use Rattle.il_model.specs.declared.layout.Limit.TheVariants as limit
use Rattle.il_model.specs.Methods.{worse, worst}

first_alone : (a : Option Limit) → worse a None ≡ a
first_alone None = refl
first_alone (Some limit.Positions) = refl
first_alone (Some limit.ValueWords) = refl

both_ways : (a b c : Option Limit) → worse a (worse b c) ≡ worse (worse a b) c
both_ways None b c = refl
both_ways (Some limit.Positions) b c = refl
both_ways (Some limit.ValueWords) None c = refl
both_ways (Some limit.ValueWords) (Some limit.Positions) c = refl
both_ways (Some limit.ValueWords) (Some limit.ValueWords) None = refl
both_ways (Some limit.ValueWords) (Some limit.ValueWords) (Some limit.Positions) = refl
both_ways (Some limit.ValueWords) (Some limit.ValueWords) (Some limit.ValueWords) = refl

pub worst_push : (ls : List (Option Limit)) (x : Option Limit) → worst (ls ++ x ∷ []) ≡ worse (worst ls) x
worst_push [] x = first_alone x
worst_push (l ∷ ls) x = ap (worse l) (worst_push ls x) ∙ both_ways l (worst ls) x

pub worst_more : (f : TExpr → Option Limit) (xs : List TExpr) (i : ℕ) (d : TExpr) → i < length xs → worst (map f (take (i + 1) xs)) ≡ worse (worst (map f (take i xs))) (f (get_or xs i d))
worst_more f xs i d inside = ap (λ l. worst (map f l)) (take_more xs i d inside) ∙ ap worst (map-append f (take i xs) (get_or xs i d ∷ [])) ∙ worst_push (map f (take i xs)) (f (get_or xs i d))
