-- Arithmetic and comparisons of two numbers, and what does nothing: their code keeps to the instruction.
use Rattle.std.proofs.Common.{◌≡◌, ◌⊎◌, inl, inr, ℕ, suc, ◌+◌, ◌-◌, ◌^◌, ◌<◌, ◌≤◌, Bool, true, false, ◌==◌, if◌then◌else◌, List, [], ◌∷◌, ◌++◌, length, reverse, slice_get, slice_index, Option, Some, None, refl, sym, ap, ◌∙◌, subst, arith}
use Rattle.std.proofs.lemmas.List.{length-append, length-reverse, reverse-reverse}
use Rattle.type_tree.specs.declared.tree.TExpr.{TExpr}
use Rattle.il_model.specs.declared.op.Op.{Op}
use Rattle.interaction.specs.Process.{Naming, Stuck}
use Rattle.interaction.specs.Simulation as simulation
use Rattle.cil_flow.specs.declared.state.StackType.{StackType}
use Rattle.cil_flow.specs.declared.state.StackType.TheVariants as stack
use Rattle.cil_meaning.specs.Words.{narrow}
use Rattle.cil_meaning.specs.Values.{Kind, Int32, Int64, Native, Reference, Struct, Value, Plain, Managed}
use Rattle.cil_meaning.specs.Naming.{Mention}
use Rattle.cil_meaning.specs.Frames.{Frame, Places}
use Rattle.cil_meaning.specs.Replies.{Left}
use Rattle.cil_meaning.specs.Site.{Site, moved, goes, op_at}
use Rattle.cil_meaning.specs.Pieces.{pops, one_word, as_word}
use Rattle.cil_meaning.specs.Groups.{OnNumbers, Wraps, Compares, Wrapping, Sum, Difference, Product, Conjunction, Disjunction, Exclusive, Comparison, Equal, Unequal, Less, LessOrEqual, Greater, GreaterOrEqual}
use Rattle.cil_meaning.specs.Arithmetic.{Width, Narrow, Wide, kind_at, at_width, same_width, two_words, two_numbers, are_compared, holds, bit_of, wrapping_of}
use Rattle.cil_meaning.specs.Meaning.{does}
use Rattle.cil_flow.specs.declared.plan.Plan.{Plan}
use Rattle.rgctx_words.specs.Memory.{put}
use Rattle.rv_isa.specs.declared.instr.Instr.{Instr}
use Rattle.rv_isa.specs.Row.{IsRow}
use Rattle.rv_isa.specs.Assembly.{word_count}
use Rattle.rv_machine.specs.Registers.{register_of}
use Rattle.rgctx_fill.specs.ThreadStates.{ImageData, ThreadData}
use Rattle.rgctx_fill.specs.FrameMaps.{with_value}
use Rattle.rgctx_fill.specs.Constructed.{IsSized}
use Rattle.rgctx_fill.specs.Standing.{Compiled}
use Rattle.rv_codegen.specs.FrameWords.{loads_word, stores_word}
use Rattle.rv_codegen.specs.Admitted.{AreOf, IsOf}
use Rattle.rv_codegen.specs.Carried.{StandFrom, code_address, IsBodyOf, StandsAt, IsNumber}
use Rattle.rv_codegen.specs.PlainItems.{BodyData, plain, stack_of, held_count, offset_of, from_top, type_from_top, is_int32, wrapping_instr, below_instr, comparison_instrs, binary_instrs}
use Rattle.rv_codegen.proofs.StraightLemmas.{Set, loads_short, stores_short, stores_some}
use Rattle.rv_codegen.proofs.ItemLemmas.{AreRows, rows_both, loads_rows, stores_rows}
use Rattle.rv_codegen.proofs.FormLemmas.{rest_frames, rest_places, values_top, leaves_value}
use Rattle.rv_codegen.proofs.StackLemmas.{replaced, value_there}
use Rattle.rv_codegen.proofs.PlaceLemmas.{Did, now, places as place_count, offset, room, binary_put}
use Rattle.rv_codegen.proofs.CalcLemmas.{is_narrow, wraps, compared}
use Rattle.rv_codegen.proofs.CarryLemmas.{site, Kept_to, stack_is, held_is, goes_straight, far_below}

wrapping_rows : (form : Wrapping) (t : Bool) → IsRow (wrapping_instr form t)
wrapping_rows Sum true = (omega arith, omega arith, omega arith)
wrapping_rows Sum false = (omega arith, omega arith, omega arith)
wrapping_rows Difference true = (omega arith, omega arith, omega arith)
wrapping_rows Difference false = (omega arith, omega arith, omega arith)
wrapping_rows Product true = (omega arith, omega arith, omega arith)
wrapping_rows Product false = (omega arith, omega arith, omega arith)
wrapping_rows Conjunction t = (omega arith, omega arith, omega arith)
wrapping_rows Disjunction t = (omega arith, omega arith, omega arith)
wrapping_rows Exclusive t = (omega arith, omega arith, omega arith)

below_rows : (is_signed : Bool) (x y : ℕ) → x < 32 → y < 32 → IsRow (below_instr is_signed x y)
below_rows true x y lx ly = (ly, lx, omega arith)
below_rows false x y lx ly = (ly, lx, omega arith)

comparison_rows : (form : Comparison) → AreRows (comparison_instrs form)
comparison_rows Equal = ((omega arith, omega arith, omega arith), ((omega arith, omega arith, omega arith), tt))
comparison_rows Unequal = ((omega arith, omega arith, omega arith), ((omega arith, omega arith, omega arith), tt))
comparison_rows (Less is_signed) = (below_rows is_signed 5 6 (omega arith) (omega arith), tt)
comparison_rows (LessOrEqual is_signed) = (below_rows is_signed 6 5 (omega arith) (omega arith), ((omega arith, omega arith, omega arith), tt))
comparison_rows (Greater is_signed) = (below_rows is_signed 6 5 (omega arith) (omega arith), tt)
comparison_rows (GreaterOrEqual is_signed) = (below_rows is_signed 5 6 (omega arith) (omega arith), ((omega arith, omega arith, omega arith), tt))

pub comparison_few : (form : Comparison) → length (comparison_instrs form) ≤ 2
comparison_few Equal = omega arith
comparison_few Unequal = omega arith
comparison_few (Less is_signed) = omega arith
comparison_few (LessOrEqual is_signed) = omega arith
comparison_few (Greater is_signed) = omega arith
comparison_few (GreaterOrEqual is_signed) = omega arith

module _ (b : BodyData) (at : ℕ) (op : Op) (im : ImageData) (c : Compiled) (row from : ℕ) (places : List (Option ℕ)) (body : IsBodyOf b im c row places) (is_op : op_at b.method at ≡ Some op)
    (naming : Naming Mention TExpr) (gain : ThreadData → ℕ) (w : ℕ → ℕ) (f : Frame) (around : List Frame) (q : Places) (outer : List Places) (s : ThreadData)
    (here : StandsAt b at op im c row from w f around q outer s) where
  abbrev K : Left → Type 0
  K left = Kept_to b at op im c row from places body is_op naming gain w f around q outer s here left

  abbrev top : ℕ
  top = here.together.top

  -- what the process asks of its operands; where they are others it has no rule
  pub pops_kept : (vs : List Value) (k : Value → List Value → Left) → ((v : Value) (us : List Value) → vs ≡ v ∷ us → K (k v us)) → K (pops vs k)
  pops_kept [] k go = simulation.nowhere tt
  pops_kept (v ∷ us) k go = go v us refl

  one_word_kept : (kind : Kind) (ws : List ℕ) (k : ℕ → Left) → ((x : ℕ) → ws ≡ x ∷ [] → K (k x)) → K (one_word ws k)
  one_word_kept kind [] k go = simulation.nowhere tt
  one_word_kept kind (x ∷ []) k go = go x refl
  one_word_kept kind (x ∷ y ∷ ws) k go = simulation.nowhere tt

  pub word_kept : (v : Value) (k : Kind → ℕ → Left) → ((kind : Kind) (x : ℕ) → v ≡ Plain kind (x ∷ []) → K (k kind x)) → K (as_word v k)
  word_kept (Plain kind ws) k go = one_word_kept kind ws (k kind) (λ x e. go kind x (ap (Plain kind) e))
  word_kept (Managed p) k go = simulation.nowhere tt

  pub if_kept : (t : Bool) (left : Left) → (t ≡ true → K left) → K (if t then left else Stuck)
  if_kept true left go = go refl
  if_kept false left go = simulation.nowhere tt

  pub width_kept : (kind : Kind) (x : ℕ) (k : Width → Left) → ((width : Width) → kind ≡ kind_at width → K (k width)) → K (at_width kind x k)
  width_kept Int32 x k go = if_kept (narrow x == x) (k Narrow) (λ t. go Narrow refl)
  width_kept Int64 x k go = go Wide refl
  width_kept Native x k go = simulation.nowhere tt
  width_kept Reference x k go = simulation.nowhere tt
  width_kept Struct x k go = simulation.nowhere tt

  pub same_kept : (one other : Width) (left : Left) → (one ≡ other → K left) → K (same_width one other left)
  same_kept Narrow Narrow left go = go refl
  same_kept Narrow Wide left go = simulation.nowhere tt
  same_kept Wide Narrow left go = simulation.nowhere tt
  same_kept Wide Wide left go = go refl

  pub words_kept : (vs : List Value) (k : Kind → ℕ → Kind → ℕ → List Value → Left) →
      ((ka : Kind) (x : ℕ) (kb : Kind) (y : ℕ) (us : List Value) → vs ≡ Plain kb (y ∷ []) ∷ Plain ka (x ∷ []) ∷ us → K (k ka x kb y us)) → K (two_words vs k)
  words_kept vs k go =
      pops_kept vs _ (λ v us e. word_kept v _ (λ kb y ev. pops_kept us _ (λ u rest' e'. word_kept u _ (λ ka x eu.
      go ka x kb y rest' (e ∙ ap (λ z. z ∷ us) ev ∙ ap (λ (zs : List Value). Plain kb (y ∷ []) ∷ zs) (e' ∙ ap (λ z. z ∷ rest') eu))))))

  pub numbers_kept : (vs : List Value) (k : Width → ℕ → ℕ → List Value → Left) →
      ((width : Width) (x y : ℕ) (us : List Value) → vs ≡ Plain (kind_at width) (y ∷ []) ∷ Plain (kind_at width) (x ∷ []) ∷ us → K (k width x y us)) → K (two_numbers vs k)
  numbers_kept vs k go =
      words_kept vs _ (λ ka x kb y us e. width_kept ka x _ (λ width ea. width_kept kb y _ (λ other eb. same_kept width other _ (λ same.
      go width x y us (e ∙ ap (λ z. Plain z (y ∷ []) ∷ Plain ka (x ∷ []) ∷ us) (eb ∙ ap kind_at (sym same)) ∙ ap (λ z. Plain (kind_at width) (y ∷ []) ∷ Plain z (x ∷ []) ∷ us) ea)))))

  -- Where operands stand ---------------------------------------------------

  pub plan_here : c.plan here.together.row ≡ b.plan
  plan_here = ap c.plan here.row_is ∙ body.plan

  abbrev ts : List StackType
  ts = stack_of (slice_get b.states at)

  pub depth_is : length f.stack ≡ length ts
  depth_is = stack_is b at op im c row from places body is_op naming gain w f around q outer s here

  pub first_held : length q.held ≡ held_count b
  first_held = held_is b at op im c row from places body is_op naming gain w f around q outer s here

  -- all places of the stack are there
  pub inside_plan : (k : ℕ) → k < held_count b + length ts → k < place_count here.together
  inside_plan k low = subst (λ (p : Plan). k < length p.offsets) (sym plan_here) (let e = body.fits at in omega arith)

  -- what stands so many below the top
  pub stands_there : (above below : List Value) (v : Value) → f.stack ≡ above ++ v ∷ below → now here.together top (length q.held + length below) ≡ Some v
  stands_there above below v e =
      values_top top around outer (rest_frames here.together) (rest_places here.together) f q (length q.held + length below)
      ∙ ap (λ (vs : List Value). slice_get (q.held ++ reverse vs) (length q.held + length below)) e
      ∙ value_there q.held above below v

  -- Two operands are replaced by a result.
  pub binary_goes : (instrs : List Instr) → AreRows instrs → length instrs ≤ 4 → (ka kb kind : Kind) (x y r : ℕ) (us : List Value) → f.stack ≡ Plain kb (y ∷ []) ∷ Plain ka (x ∷ []) ∷ us →
      ((u : ThreadData) → IsSized u → register_of u.core 5 ≡ x → register_of u.core 6 ≡ y → u.core.pc + 16 < 2 ^ 64 → Set u instrs 5 r) →
      StandFrom im places from (plain (binary_instrs b at ts instrs)) → c.pc row at ≡ code_address from → c.pc row (suc at) ≡ code_address (from + word_count (plain (binary_instrs b at ts instrs))) →
      K (goes (site b at op im c row from places body is_op naming gain w f around q outer s here) (Plain kind (r ∷ []) ∷ us))
  binary_goes instrs rows few ka kb kind x y r us e calc st pc next =
      let d = depth_is in
      let a = first_held in
      let n : length f.stack ≡ suc (suc (length us)) = ap length e in
      let first : from_top b at ts 2 ≡ length q.held + length us = omega arith in
      let second : from_top b at ts 1 ≡ length q.held + length (Plain ka (x ∷ []) ∷ us) = omega arith in
      let ff = inside_plan (from_top b at ts 2) (omega arith) in
      let ss = inside_plan (from_top b at ts 1) (omega arith) in
      let low = (room here.together (from_top b at ts 2) ff).short in
      let low' = (room here.together (from_top b at ts 1) ss).short in
      let at_first : offset_of b (from_top b at ts 2) ≡ offset here.together (from_top b at ts 2) = ap (λ (p : Plan). slice_index p.offsets (from_top b at ts 2)) (sym plan_here) in
      let at_second : offset_of b (from_top b at ts 1) ≡ offset here.together (from_top b at ts 1) = ap (λ (p : Plan). slice_index p.offsets (from_top b at ts 1)) (sym plan_here) in
      let all = all_rows instrs rows (omega arith) (omega arith) in
      let long = length_is instrs in
      let l1 = loads_short 5 (offset_of b (from_top b at ts 2)) in
      let l2 = loads_short 6 (offset_of b (from_top b at ts 1)) in
      let l3 = stores_short 5 (offset_of b (from_top b at ts 2)) in
      let l4 = stores_some 5 (offset_of b (from_top b at ts 2)) in
      let end = far_below b at op im c row from places body is_op naming gain w f around q outer s here (binary_instrs b at ts instrs) all (omega arith) st pc in
      goes_straight b at op im c row from places body is_op naming gain w f around q outer s here (binary_instrs b at ts instrs) all (omega arith) (omega arith) st pc next (Plain kind (r ∷ []) ∷ us) q refl
      (with_value top (from_top b at ts 2) (Some (Plain kind (r ∷ []))) (now here.together))
      (subst (λ (p : Plan). Did here.together (loads_word 5 (slice_index p.offsets (from_top b at ts 2)) ++ loads_word 6 (slice_index p.offsets (from_top b at ts 1)) ++ instrs ++ stores_word 5 (slice_index p.offsets (from_top b at ts 2))) (with_value top (from_top b at ts 2) (Some (Plain kind (r ∷ []))) (now here.together))) plan_here
      (binary_put here.together instrs (from_top b at ts 2) (from_top b at ts 1) x y r ka kb kind ff ss
      (ap (now here.together top) first ∙ stands_there (Plain kb (y ∷ []) ∷ []) us (Plain ka (x ∷ [])) e)
      (ap (now here.together top) second ∙ stands_there [] (Plain ka (x ∷ []) ∷ us) (Plain kb (y ∷ [])) e)
      (λ u z five six le. calc u z five six (omega arith))
      (omega arith)))
      (leaves_value top around outer (rest_frames here.together) (rest_places here.together) f (moved f (suc f.at) (Plain kind (r ∷ []) ∷ us)) q q (from_top b at ts 2) (Plain kind (r ∷ []))
      (λ n. subst (λ k. (slice_get (q.held ++ reverse (Plain kind (r ∷ []) ∷ us)) n ≡ put k (Some (Plain kind (r ∷ []))) (slice_get (q.held ++ reverse f.stack)) n) ⊎ (slice_get (q.held ++ reverse (Plain kind (r ∷ []) ∷ us)) n ≡ None)) (sym first)
      (subst (λ (vs : List Value). (slice_get (q.held ++ reverse (Plain kind (r ∷ []) ∷ us)) n ≡ put (length q.held + length us) (Some (Plain kind (r ∷ []))) (slice_get (q.held ++ reverse vs)) n) ⊎ (slice_get (q.held ++ reverse (Plain kind (r ∷ []) ∷ us)) n ≡ None)) (sym e)
      (replaced q.held (Plain kb (y ∷ []) ∷ Plain ka (x ∷ []) ∷ []) us (Plain kind (r ∷ [])) n))))
    where
      all_rows : (is : List Instr) → AreRows is → offset_of b (from_top b at ts 2) < 65536 → offset_of b (from_top b at ts 1) < 65536 → AreRows (binary_instrs b at ts is)
      all_rows is rs lf ls =
          rows_both (loads_word 5 (offset_of b (from_top b at ts 2)) ++ loads_word 6 (offset_of b (from_top b at ts 1)) ++ is) (stores_word 5 (offset_of b (from_top b at ts 2)))
          (rows_both (loads_word 5 (offset_of b (from_top b at ts 2)) ++ loads_word 6 (offset_of b (from_top b at ts 1))) is
          (rows_both (loads_word 5 (offset_of b (from_top b at ts 2))) (loads_word 6 (offset_of b (from_top b at ts 1))) (loads_rows 5 (offset_of b (from_top b at ts 2)) (omega arith) lf) (loads_rows 6 (offset_of b (from_top b at ts 1)) (omega arith) ls)) rs)
          (stores_rows 5 (offset_of b (from_top b at ts 2)) (omega arith) lf)

      length_is : (is : List Instr) → length (binary_instrs b at ts is) ≡ length (loads_word 5 (offset_of b (from_top b at ts 2))) + length (loads_word 6 (offset_of b (from_top b at ts 1))) + length is + length (stores_word 5 (offset_of b (from_top b at ts 2)))
      length_is is =
          let x1 = length-append (loads_word 5 (offset_of b (from_top b at ts 2)) ++ loads_word 6 (offset_of b (from_top b at ts 1)) ++ is) (stores_word 5 (offset_of b (from_top b at ts 2))) in
          let x2 = length-append (loads_word 5 (offset_of b (from_top b at ts 2)) ++ loads_word 6 (offset_of b (from_top b at ts 1))) is in
          let x3 = length-append (loads_word 5 (offset_of b (from_top b at ts 2))) (loads_word 6 (offset_of b (from_top b at ts 1))) in
          omega arith

  -- Forms of two numbers ---------------------------------------------------

  abbrev Stands_here : List Instr → Type 0
  Stands_here is = StandFrom im places from (plain is)

  abbrev Next_is : List Instr → Type 0
  Next_is is = c.pc row (suc at) ≡ code_address (from + word_count (plain is))

  abbrev Site_here : Site
  Site_here = site b at op im c row from places body is_op naming gain w f around q outer s here

  -- the type of the second value from the top
  pub second_type : (v u : Value) (us : List Value) → f.stack ≡ v ∷ u ∷ us → (t : StackType) × (slice_get ts (length ts - 2) ≡ Some t) × IsOf b.program f.method t u
  second_type v u us e = by_list (reverse ts) (sym (reverse-reverse ts)) (subst (AreOf b.program f.method (reverse ts)) e here.admitted.stack)
    where
      by_list : (rs : List StackType) → ts ≡ reverse rs → AreOf b.program f.method rs (v ∷ u ∷ us) → (t : StackType) × (slice_get ts (length ts - 2) ≡ Some t) × IsOf b.program f.method t u
      by_list [] is h = absurd h
      by_list (t ∷ []) is h = absurd h.1
      by_list (t ∷ t' ∷ rs) is h =
          let long : length ts ≡ suc (suc (length rs)) = ap length is ∙ length-reverse (t ∷ t' ∷ rs) in
          let k : length ts - 2 ≡ 0 + length rs = omega arith in
          (t', ap (slice_get ts) k ∙ ap (λ (xs : List StackType). slice_get xs (0 + length rs)) is ∙ value_there [] (t ∷ []) rs t', h.1.0)

  pub narrow_is : (o : Option StackType) → IsNumber o → (t : StackType) → o ≡ Some t → (width : Width) (x : ℕ) → IsOf b.program f.method t (Plain (kind_at width) (x ∷ [])) → is_int32 o ≡ is_narrow width
  narrow_is o (inl e) t e' Narrow x h = ap is_int32 e
  narrow_is o (inl e) t e' Wide x h =
      let k : t ≡ stack.Int32 = cc (e, e') in
      let bad : Int64 ≡ Int32 = (subst (λ z. IsOf b.program f.method z (Plain Int64 (x ∷ []))) k h).0 in
      absurd (cc bad)
  narrow_is o (inr e) t e' Narrow x h =
      let k : t ≡ stack.Int64 = cc (e, e') in
      let bad : Int32 ≡ Int64 = (subst (λ z. IsOf b.program f.method z (Plain Int32 (x ∷ []))) k h).0 in
      absurd (cc bad)
  narrow_is o (inr e) t e' Wide x h = ap is_int32 e

  pub wraps_kept : (form : Wrapping) → IsNumber (slice_get ts (length ts - 2)) → c.pc row at ≡ code_address from →
      Stands_here (binary_instrs b at ts (wrapping_instr form (is_int32 (type_from_top b at ts 2)) ∷ [])) →
      Next_is (binary_instrs b at ts (wrapping_instr form (is_int32 (type_from_top b at ts 2)) ∷ [])) →
      K (does b.program Site_here [] f.stack (OnNumbers (Wraps form)))
  wraps_kept form number pc st next =
      numbers_kept f.stack _ (λ width x y us e.
      let t = second_type (Plain (kind_at width) (y ∷ [])) (Plain (kind_at width) (x ∷ [])) us e in
      let n = narrow_is (slice_get ts (length ts - 2)) number t.0 t.1 width x t.2 in
      binary_goes (wrapping_instr form (is_int32 (type_from_top b at ts 2)) ∷ []) (wrapping_rows form (is_int32 (type_from_top b at ts 2)), tt) (omega arith) (kind_at width) (kind_at width) (kind_at width) x y (wrapping_of form width x y) us e
      (λ u z five six low. subst (λ k. Set u (wrapping_instr form k ∷ []) 5 (wrapping_of form width x y)) (sym n) (wraps u z x y five six form width (omega arith)))
      st pc next)

  pub compares_kept : (form : Comparison) → c.pc row at ≡ code_address from → Stands_here (binary_instrs b at ts (comparison_instrs form)) → Next_is (binary_instrs b at ts (comparison_instrs form)) →
      K (does b.program Site_here [] f.stack (OnNumbers (Compares form)))
  compares_kept form pc st next =
      words_kept f.stack _ (λ ka x kb y us e. if_kept (are_compared form ka kb) _ (λ t.
      binary_goes (comparison_instrs form) (comparison_rows form) (let k = comparison_few form in omega arith) ka kb Int32 x y (bit_of (holds form x y)) us e
      (λ u z five six low. compared u z x y five six form (omega arith))
      st pc next))
