-- Which instructions are those of the first form, one after another.
use Rattle.std.proofs.Common.{◌≡◌, List, [], ◌∷◌, ◌++◌, Option, Some, None, refl, sym, ap, subst, ◌∙◌, append_assoc}
use Rattle.std.specs.Prelude.{option_map}
use Rattle.il_model.specs.declared.op.Op.{Op}
use Rattle.run_top.specs.declared.first.FirstOp.{FirstOp}
use Rattle.il_model.specs.declared.program.Program.{Program}
use Rattle.run_top.specs.WellFormed.{IsWellFormed}
use Rattle.run_top.specs.FirstForm.{IsFirstForm, first_code, op_of, ops_of, before}

-- these, and then those of the rest
abbrev pub behind : List FirstOp → Option (List FirstOp) → Option (List FirstOp)
behind found rest = option_map (λ ops. found ++ ops) rest

moved : (found : List FirstOp) (first : FirstOp) (rest : Option (List FirstOp)) → behind found (before (Some first) rest) ≡ behind (found ++ first ∷ []) rest
moved found first None = refl
moved found first (Some ops) = ap Some (sym (append_assoc found (first ∷ []) ops))

-- one more
pub found_more : (found : List FirstOp) (o : Op) (first : FirstOp) (rest : List Op) → op_of o ≡ Some first →
    behind found (ops_of (o ∷ rest)) ≡ behind (found ++ first ∷ []) (ops_of rest)
found_more found o first rest is = ap (λ f. behind found (before f (ops_of rest))) is ∙ moved found first (ops_of rest)

-- one that is none of them
pub found_none : (found : List FirstOp) (o : Op) (rest : List Op) → op_of o ≡ None → behind found (ops_of (o ∷ rest)) ≡ None
found_none found o rest is = ap (λ f. behind found (before f (ops_of rest))) is

pub behind_nothing : (rest : Option (List FirstOp)) → behind [] rest ≡ rest
behind_nothing None = refl
behind_nothing (Some ops) = refl

pub found_all : (found : List FirstOp) → behind found (ops_of []) ≡ Some (found ++ [])
found_all found = refl

same_list : (xs ys : List FirstOp) → Some xs ≡ Some ys → xs ≡ ys
same_list xs ys is = cc

-- a program whose instructions are none of these is not of the first form
pub no_form : (p : Program) → first_code p ≡ None → (ops : List FirstOp) → IsFirstForm p ops → ⊥
no_form p none ops form = none_some ops (sym none ∙ form.code)
  where
    none_some : (ops : List FirstOp) → None ≡ Some ops → ⊥
    none_some ops is = cc

-- and neither is one whose instructions are not in order
pub not_well : (p : Program) (found : List FirstOp) → first_code p ≡ Some found → (IsWellFormed found → ⊥) → (ops : List FirstOp) → IsFirstForm p ops → ⊥
not_well p found is not ops form = not (subst IsWellFormed (same_list ops found (sym form.code ∙ is)) form.well_formed)
