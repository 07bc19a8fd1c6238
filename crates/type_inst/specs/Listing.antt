-- The walk that lists each interface once and walks each once, passing over those that are listed.
use Rattle.std.specs.Prelude.{ℕ, zero, suc, List, [], ◌∷◌, ◌++◌, fold, option_to_list, if◌then◌else◌}
use Rattle.type_tree.specs.declared.tree.TExpr.{TExpr}
use Rattle.il_model.specs.declared.program.Program.{Program}
use Rattle.il_model.specs.Trees.{is_among}
use Rattle.il_model.specs.Bases.{base_of}
use Rattle.il_model.specs.Interfaces.{own_interfaces_of}

-- an interface and then its own are listed, unless it is listed already
abbrev pub listed_unless : (List TExpr → TExpr → List TExpr) → List TExpr → TExpr → List TExpr
listed_unless go all each = if is_among all each then all else go (all ++ each ∷ []) each

abbrev pub listed_within : (TExpr → List TExpr) → (TExpr → List TExpr) → ℕ → List TExpr → TExpr → List TExpr
listed_within bases own zero all t = all
listed_within bases own (suc levels) all t =
    fold (listed_unless (λ now each. listed_within bases own levels now each))
    (fold (λ now base. listed_within bases own levels now base) all (bases t))
    (own t)

-- the list once the interfaces of a type are in it, so many levels far
abbrev pub listed : Program → ℕ → List TExpr → TExpr → List TExpr
listed program = listed_within (λ t. option_to_list (base_of program t)) (own_interfaces_of program)

abbrev pub listed_one : Program → ℕ → List TExpr → TExpr → List TExpr
listed_one program levels = listed_unless (listed program levels)

abbrev pub listed_base : Program → ℕ → List TExpr → TExpr → List TExpr
listed_base program levels all t = fold (listed program levels) all (option_to_list (base_of program t))

abbrev pub listed_own : Program → ℕ → List TExpr → TExpr → List TExpr
listed_own program levels all t = fold (listed_one program levels) all (own_interfaces_of program t)
