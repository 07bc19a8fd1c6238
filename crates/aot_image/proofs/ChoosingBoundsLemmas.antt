-- Closed types, and bounds of none.
use Rattle.std.proofs.Common.{◌≡◌, ◌∙◌, ◌<◌, nat_lt, arith, ℕ, Bool, true, false, not, ◌&&◌, ◌||◌, List, [], ◌∷◌, length, Option, Some, None, refl, sym, ap}
use Rattle.std.specs.Prelude.{◌==◌, if◌then◌else◌}
use Rattle.std.specs.List.{list_all, list_any}
use Rattle.std.proofs.lemmas.Bool.{ltb-true}
use Rattle.std.proofs.lemmas.List.Folds.{list_all-map}
use Rattle.type_tree.specs.declared.tree.Head.{Head}
use Rattle.type_tree.specs.declared.tree.TExpr.{TExpr}
use Rattle.type_tree.specs.Tree.{level_below, node, class_var}
use Rattle.type_tree.proofs.TreeLemmas.{folded-node, folded-class_var}
use Rattle.il_model.specs.declared.method.MethodDef.{MethodDef}
use Rattle.il_model.specs.declared.program.Program.{Program}
use Rattle.il_model.specs.declared.key.KeyPart.{KeyPart}
use Rattle.il_model.specs.declared.key.KeyPart.TheVariants.{Ref, Any, Exact}
use Rattle.il_model.specs.ClassRules.{HasTypes}
use Rattle.cil_verify.specs.WellTyped.{IsWellTyped}
use Rattle.aot_image.specs.declared.choice_fault.ChoiceCause.{ChoiceCause}
use Rattle.aot_image.specs.declared.choice_fault.ChoiceCause.TheVariants as cause
use Rattle.aot_image.specs.declared.choice_keys.Keys.{Keys}
use Rattle.rgctx_template.specs.Admitted.{is_bounded_throughout}
use Rattle.rgctx_template.specs.BodyRows.{key_meets, vars_of_owner}
use Rattle.aot_image.specs.ChoosingBounds.{is_closed, vars_of, is_good_part, is_admitted_key, cause_of}
use Rattle.aot_image.proofs.JudgingLemmas.{large_limited}
use Rattle.aot_image.specs.ChoosingSizes.{is_large_part, StandFor}

-- a type is closed where the types in it are
pub closed_node : (h : Head) (parts : List TExpr) → is_closed (node h parts) ≡ list_all is_closed parts
closed_node h parts = folded-node (level_below 0 0) h parts ∙ list_all-map (λ is_below. is_below) is_closed parts

none_below : (n : ℕ) → nat_lt n 0 ≡ false
none_below n = by (nat_lt n 0) refl
  where
    by : (b : Bool) → nat_lt n 0 ≡ b → b ≡ false
    by true e = let less : n < 0 = ltb-true n 0 e in absurd omega arith
    by false e = refl

pub open_class_var : (n : ℕ) → is_closed (class_var n) ≡ false
open_class_var n = folded-class_var (level_below 0 0) n ∙ none_below n

-- ---- types of too many positions

large_part : (program : Program) (p : KeyPart) → is_large_part p ≡ true → is_good_part program p ≡ false
large_part program Ref large = absurd cc
large_part program Any large = absurd cc
large_part program (Exact t) large = ap (λ b. b && is_bounded_throughout program t) (large_limited program t large)

and_false : (b : Bool) → (b && false) ≡ false
and_false true = refl
and_false false = refl

large_more : (good large goods larges : Bool) → (large ≡ true → good ≡ false) → (larges ≡ true → goods ≡ false) → (large || larges) ≡ true → (good && goods) ≡ false
large_more good true goods larges first rest e = ap (λ b. b && goods) (first refl)
large_more good false goods larges first rest e = ap (λ b. good && b) (rest e) ∙ and_false good

large_parts : (program : Program) (parts : List KeyPart) → list_any is_large_part parts ≡ true → list_all (is_good_part program) parts ≡ false
large_parts program [] large = absurd cc
large_parts program (p ∷ ps) large =
    large_more (is_good_part program p) (is_large_part p) (list_all (is_good_part program) ps) (list_any is_large_part ps)
    (large_part program p) (large_parts program ps) large

-- ---- causes

abbrev pub caused : Bool → Bool → Bool → Bool → Option ChoiceCause
caused arity closed unmixed admitted =
    if not arity then Some cause.WrongArity
    else (if not closed then Some cause.NotClosed
    else (if not unmixed then Some cause.MixedAny
    else (if not admitted then Some cause.NotAdmitted else None)))

module _ (program : Program) (m : MethodDef) (keys : Keys) where
  abbrev count : ℕ
  count = length (vars_of program m)

  -- the cause by what is kept of keys
  pub cause_by : (parts : List KeyPart) → StandFor keys parts →
      cause_of program m parts ≡ caused (keys.count == count) keys.closed (not keys.some_any || keys.all_any) (is_admitted_key program m parts)
  cause_by parts stands = λ i.
      caused (sym stands.count i == count) (sym stands.closed i) (not (sym stands.some_any i) || sym stands.all_any i) (is_admitted_key program m parts)

  pub wrong_arity : (keys.count == count) ≡ false → (parts : List KeyPart) → StandFor keys parts → Some cause.WrongArity ≡ cause_of program m parts
  wrong_arity arity parts stands =
      sym (cause_by parts stands ∙ ap (λ a. caused a keys.closed (not keys.some_any || keys.all_any) (is_admitted_key program m parts)) arity)

  pub not_closed : (keys.count == count) ≡ true → keys.closed ≡ false → (parts : List KeyPart) → StandFor keys parts → Some cause.NotClosed ≡ cause_of program m parts
  not_closed arity closed parts stands =
      sym (cause_by parts stands ∙ (λ i. caused (arity i) (closed i) (not keys.some_any || keys.all_any) (is_admitted_key program m parts)))

  pub mixed_any : (keys.count == count) ≡ true → keys.closed ≡ true → (not keys.some_any || keys.all_any) ≡ false →
      (parts : List KeyPart) → StandFor keys parts → Some cause.MixedAny ≡ cause_of program m parts
  mixed_any arity closed mixed parts stands =
      sym (cause_by parts stands ∙ (λ i. caused (arity i) (closed i) (mixed i) (is_admitted_key program m parts)))

  module _ (arity : (keys.count == count) ≡ true) (closed : keys.closed ≡ true) (pure : (not keys.some_any || keys.all_any) ≡ true) where
    pub cause_last : (parts : List KeyPart) → StandFor keys parts → (admitted : Bool) → is_admitted_key program m parts ≡ admitted →
        caused true true true admitted ≡ cause_of program m parts
    cause_last parts stands admitted is = sym (cause_by parts stands ∙ (λ i. caused (arity i) (closed i) (pure i) (is i)))

    pub too_large : keys.small ≡ false → (parts : List KeyPart) → StandFor keys parts → Some cause.NotAdmitted ≡ cause_of program m parts
    too_large small parts stands =
        cause_last parts stands false (ap (λ b. b && key_meets program (vars_of_owner program m) m.vars parts) (large_parts program parts (stands.large small)))

    pub small_cause : keys.small ≡ true → (admitted : Bool) → admitted ≡ is_admitted_key program m keys.parts →
        (parts : List KeyPart) → StandFor keys parts → caused true true true admitted ≡ cause_of program m parts
    small_cause small admitted is parts stands =
        cause_last parts stands admitted (sym (is ∙ ap (is_admitted_key program m) (stands.small small)))

-- what calls on types need of a program that passed the verifier
pub has_types : (program : Program) → IsWellTyped program → HasTypes program
has_types program typed = record {
  hierarchy = record { each = λ number c at. (typed.first.each number c at).0 };
  layout = record { each = λ number c at. (typed.first.each number c at).1.0 };
}
