-- What a line does, by what its parts are.
use Rattle.std.proofs.Common.{◌≡◌, ◌∙◌, ℕ, true, false, List, [], ◌∷◌, take, drop, Option, Some, None, Ok, Err, Result, sym, ap, subst}
use Rattle.std.specs.Prelude.{◌==◌, if◌then◌else◌, slice_get}
use Rattle.std.specs.List.{position_or_len}
use Rattle.mn_outside.specs.declared.outside.Refused.{Refused}
use Rattle.il_model.specs.declared.key.KeyPart.{KeyPart}
use Rattle.il_model.specs.declared.method.MethodDef.{MethodDef}
use Rattle.il_model.specs.declared.program.Program.{Program}
use Rattle.aot_image.specs.declared.choice_fault.ChoiceCause.{ChoiceCause}
use Rattle.aot_image.specs.declared.choice_fault.ChoiceCause.TheVariants as cause
use Rattle.aot_image.specs.declared.choice_keys.Keys.{Keys}
use Rattle.aot_image.specs.declared.choice_judging.Act.{Act}
use Rattle.aot_image.specs.declared.choice_judging.Act.TheVariants as act
use Rattle.aot_image.specs.ChoosingParts.{words_of, parts_behind}
use Rattle.aot_image.specs.ChoosingMethods.{full_of, method_with}
use Rattle.aot_image.specs.ChoosingKeys.{keys_of}
use Rattle.aot_image.specs.ChoosingBounds.{cause_of}
use Rattle.aot_image.specs.ChoosingPicks.{may_have_body}
use Rattle.aot_image.specs.ChoosingSizes.{StandFor, AreSome, AreKeys}
use Rattle.aot_image.specs.ChoosingLines.{Judged, on_definition, on_method, added_keys, added, added_words, addition, IsJudged}
use Rattle.aot_image.proofs.ChoosingPartLemmas.{parts_at_is}

-- ---- keys behind a method

pub no_words : (program : Program) (keys : Keys) (behind : List ℕ) → behind ≡ [] → StandFor keys [] → AreSome (keys_of program (parts_behind 32 behind)) keys
no_words program keys behind none stands = record {
  parts = [];
  is = ap (λ bs. keys_of program (parts_behind 32 bs)) none;
  stands = stands;
}

pub some_words : (program : Program) (keys : Option Keys) (behind words : List ℕ) (b : ℕ) → behind ≡ b ∷ words →
    AreKeys (keys_of program (words_of words)) keys → AreKeys (keys_of program (parts_behind 32 behind)) keys
some_words program keys behind words b split are = subst (λ (bs : List ℕ). AreKeys (keys_of program (parts_behind 32 bs)) keys) (sym split) are

-- ---- an addition with its method and its keys

module _ (program : Program) (text : List ℕ) (keys : Keys) (parts : List KeyPart) (stands : StandFor keys parts) (number : ℕ) (m : MethodDef) where
  at_number : Some number ≡ method_with program text → added program text (Some parts) ≡
      on_definition (slice_get program.methods number) (λ d. if may_have_body number d then added_keys number parts (cause_of program d parts) else Err cause.NoBody)
  at_number named =
      ap (λ o. on_method program o (λ n d. if may_have_body n d then added_keys n parts (cause_of program d parts) else Err cause.NoBody)) (sym named)

  at_method : Some number ≡ method_with program text → slice_get program.methods number ≡ Some m → added program text (Some parts) ≡
      (if may_have_body number m then added_keys number parts (cause_of program m parts) else Err cause.NoBody)
  at_method named is =
      at_number named ∙ ap (λ o. on_definition o (λ d. if may_have_body number d then added_keys number parts (cause_of program d parts) else Err cause.NoBody)) is

  at_body : Some number ≡ method_with program text → slice_get program.methods number ≡ Some m → may_have_body number m ≡ true →
      added program text (Some parts) ≡ added_keys number parts (cause_of program m parts)
  at_body named is body = at_method named is ∙ ap (λ b. if b then added_keys number parts (cause_of program m parts) else Err cause.NoBody) body

  pub added_without : Some number ≡ method_with program text → slice_get program.methods number ≡ Some m → may_have_body number m ≡ false →
      added program text (Some parts) ≡ Err cause.NoBody
  added_without named is body = at_method named is ∙ ap (λ b. if b then added_keys number parts (cause_of program m parts) else Err cause.NoBody) body

  pub added_is : Some number ≡ method_with program text → slice_get program.methods number ≡ Some m → may_have_body number m ≡ true →
      None ≡ cause_of program m parts → keys.small ≡ true → added program text (Some parts) ≡ Ok (act.Adds number keys.parts)
  added_is named is body none small =
      at_body named is body ∙ ap (added_keys number parts) (sym none) ∙ ap (λ ps. Ok (act.Adds number ps)) (sym (stands.small small))

  pub added_why : (why : ChoiceCause) → Some number ≡ method_with program text → slice_get program.methods number ≡ Some m → may_have_body number m ≡ true →
      Some why ≡ cause_of program m parts → added program text (Some parts) ≡ Err why
  added_why why named is body some = at_body named is body ∙ ap (added_keys number parts) (sym some)

pub added_unknown : (program : Program) (text : List ℕ) (parts : List KeyPart) → None ≡ method_with program text → added program text (Some parts) ≡ Err cause.UnknownMethod
added_unknown program text parts none =
    ap (λ o. on_method program o (λ n d. if may_have_body n d then added_keys n parts (cause_of program d parts) else Err cause.NoBody)) (sym none)

-- ---- the words of an addition

module _ (program : Program) (line method behind : List ℕ) (first : method ≡ take (position_or_len (λ b. b == 32) line) line)
    (second : behind ≡ drop (position_or_len (λ b. b == 32) line) line) where
  words_are : addition program (words_of line) ≡ added_words program (full_of method) (parts_behind 32 behind)
  words_are =
      ap (addition program) (parts_at_is 32 line)
      ∙ (λ i. added_words program (full_of (sym first i)) (parts_behind 32 (sym second i)))

  pub no_method : None ≡ full_of method → addition program (words_of line) ≡ Err cause.Syntax
  no_method none = words_are ∙ ap (λ o. added_words program o (parts_behind 32 behind)) (sym none)

  pub no_keys : (text : List ℕ) → Some text ≡ full_of method → keys_of program (parts_behind 32 behind) ≡ None → addition program (words_of line) ≡ Err cause.Syntax
  no_keys text some none =
      words_are ∙ ap (λ o. added_words program o (parts_behind 32 behind)) (sym some) ∙ ap (added program text) none

  pub keys_added : (text : List ℕ) (keys : Keys) (result : Result Act (Refused ChoiceCause)) → Some text ≡ full_of method →
      AreSome (keys_of program (parts_behind 32 behind)) keys →
      ((parts : List KeyPart) → StandFor keys parts → IsJudged (added program text (Some parts)) result) → IsJudged (addition program (words_of line)) result
  keys_added text keys result some are judges =
      subst (λ (j : Judged). IsJudged j result)
      (sym (words_are ∙ ap (λ o. added_words program o (parts_behind 32 behind)) (sym some) ∙ ap (added program text) are.is))
      (judges are.parts are.stands)
