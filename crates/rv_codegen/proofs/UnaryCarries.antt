-- Forms of one number, shifts and conversions: their code keeps to the instruction.
use Rattle.std.proofs.Common.{◌==◌, eqb-true, ◌≡◌, ◌≢◌, ◌⊎◌, inl, inr, ℕ, suc, ◌+◌, ◌-◌, ◌*◌, ◌^◌, ◌<◌, ◌≤◌, Bool, true, false, if◌then◌else◌, List, [], ◌∷◌, ◌++◌, length, reverse, slice_get, slice_index, Option, Some, None, refl, sym, ap, ◌∙◌, subst, arith}
use Rattle.std.proofs.lemmas.List.{length-append}
use Rattle.type_tree.specs.declared.tree.TExpr.{TExpr}
use Rattle.il_model.specs.declared.op.Op.{Op}
use Rattle.interaction.specs.Process.{Naming, Stuck}
use Rattle.interaction.specs.Simulation as simulation
use Rattle.cil_flow.specs.declared.state.StackType.{StackType}
use Rattle.cil_flow.specs.declared.state.StackType.TheVariants as stack
use Rattle.cil_meaning.specs.Words.{narrow, low_32}
use Rattle.cil_meaning.specs.Values.{Kind, Int32, Int64, Native, Reference, Struct, Value, Plain}
use Rattle.cil_meaning.specs.Naming.{Mention}
use Rattle.cil_meaning.specs.Frames.{Frame, Places}
use Rattle.cil_meaning.specs.Replies.{Left}
use Rattle.cil_meaning.specs.Site.{Site, moved, goes, op_at}
use Rattle.cil_meaning.specs.Pieces.{pops, as_word}
use Rattle.cil_meaning.specs.Groups.{OnNumbers, Turns, Converts, Shifts, Shift, Leftwards, Rightwards, Unary, Negative, Complement, ToInt32, ToInt64, ToUnsigned64}
use Rattle.cil_meaning.specs.Arithmetic.{Wide, at_width, Width, Narrow, kind_at, turned, shifted_by, to_int64, to_unsigned64}
use Rattle.cil_meaning.specs.Meaning.{does}
use Rattle.cil_flow.specs.declared.plan.Plan.{Plan}
use Rattle.rgctx_words.specs.Memory.{put}
use Rattle.rv_isa.specs.declared.instr.Instr.{Instr}
use Rattle.rv_isa.specs.declared.instr.Instr.TheVariants as rv
use Rattle.rv_isa.specs.Row.{IsRow}
use Rattle.rv_isa.specs.Assembly.{word_count}
use Rattle.rv_machine.specs.Registers.{register_of}
use Rattle.rgctx_fill.specs.ThreadStates.{ImageData, ThreadData}
use Rattle.rgctx_fill.specs.FrameMaps.{with_value}
use Rattle.rgctx_fill.specs.Constructed.{IsSized}
use Rattle.rgctx_fill.specs.Standing.{Compiled}
use Rattle.rv_codegen.specs.FrameWords.{loads_word, stores_word}
use Rattle.rv_codegen.specs.Admitted.{IsOf}
use Rattle.rv_codegen.specs.Carried.{StandFrom, code_address, IsBodyOf, StandsAt, IsNumber}
use Rattle.rv_codegen.specs.PlainItems.{BodyData, unary_instr, shift_instr, unary_instrs, plain, rest, stack_of, offset_of, from_top, type_from_top, is_int32, binary_instrs}
use Rattle.rv_codegen.proofs.StraightLemmas.{Set, loads_short, stores_short, stores_some}
use Rattle.rv_codegen.proofs.ItemLemmas.{AreRows, rows_both, loads_rows, stores_rows}
use Rattle.rv_codegen.proofs.FormLemmas.{Leaves, rest_frames, rest_places, leaves_value}
use Rattle.rv_codegen.proofs.StackLemmas.{replaced}
use Rattle.rv_codegen.proofs.PlaceLemmas.{Did, now, places as place_count, offset, room, unary_put, renamed}
use Rattle.rv_codegen.proofs.CalcLemmas.{signed_rights, turns_to, narrowed, low_bits, lefts, rights, is_narrow}
use Rattle.rv_codegen.proofs.StackCarries.{top_type}
use Rattle.rv_codegen.proofs.NumberCarries.{if_kept, width_kept, same_kept, words_kept, narrow_is, binary_goes, second_type, pops_kept, word_kept, plan_here, depth_is, first_held, inside_plan, stands_there}
use Rattle.rv_codegen.proofs.CarryLemmas.{site, Kept_to, goes_straight, far_below}

unary_row : (form : Unary) (t : Bool) → IsRow (unary_instr form t)
unary_row Negative true = (omega arith, omega arith, omega arith)
unary_row Negative false = (omega arith, omega arith, omega arith)
unary_row Complement t = (omega arith, omega arith, omega arith)

shift_row : (form : Shift) (t : Bool) → IsRow (shift_instr form t)
shift_row Leftwards true = (omega arith, omega arith, omega arith)
shift_row Leftwards false = (omega arith, omega arith, omega arith)
shift_row (Rightwards true) true = (omega arith, omega arith, omega arith)
shift_row (Rightwards true) false = (omega arith, omega arith, omega arith)
shift_row (Rightwards false) true = (omega arith, omega arith, omega arith)
shift_row (Rightwards false) false = (omega arith, omega arith, omega arith)

same_type : (t t' : StackType) {o : Option StackType} → o ≡ Some t → o ≡ Some t' → t ≡ t'
same_type t t' e e' = cc (e, e')

module _ (b : BodyData) (at : ℕ) (op : Op) (im : ImageData) (c : Compiled) (row from : ℕ) (places : List (Option ℕ)) (body : IsBodyOf b im c row places) (is_op : op_at b.method at ≡ Some op)
    (naming : Naming Mention TExpr) (gain : ThreadData → ℕ) (w : ℕ → ℕ) (f : Frame) (around : List Frame) (q : Places) (outer : List Places) (s : ThreadData)
    (here : StandsAt b at op im c row from w f around q outer s) where
  abbrev K : Left → Type 0
  K left = Kept_to b at op im c row from places body is_op naming gain w f around q outer s here left

  abbrev top : ℕ
  top = here.together.top

  abbrev ts_here : List StackType
  ts_here = stack_of (slice_get b.states at)

  abbrev Site_here : Site
  Site_here = site b at op im c row from places body is_op naming gain w f around q outer s here

  abbrev Stands_here : List Instr → Type 0
  Stands_here is = StandFrom im places from (plain is)

  abbrev Next_is : List Instr → Type 0
  Next_is is = c.pc row (suc at) ≡ code_address (from + word_count (plain is))

  abbrev Begins_here : Type 0
  Begins_here = c.pc row at ≡ code_address from

  -- straight-line code of this instruction, which leaves this stack
  straight_here : (is : List Instr) → AreRows is → 0 < length is → length is < 1024 → Begins_here → Stands_here is → Next_is is → (after : List Value) (left : ℕ → ℕ → Option Value) →
      Did here.together is left → Leaves top around outer (rest_frames here.together) (rest_places here.together) (moved f (suc f.at) after) q left → K (goes Site_here after)
  straight_here is rows some few pc st next after left d leaves =
      goes_straight b at op im c row from places body is_op naming gain w f around q outer s here is rows some few st pc next after q refl left d leaves

  -- the code begins far below the last address
  begins_low : (is : List Instr) → AreRows is → 0 < length is → Begins_here → Stands_here is → s.core.pc + 4 * length is < 2 ^ 40
  begins_low is rows some pc st = far_below b at op im c row from places body is_op naming gain w f around q outer s here is rows some st pc

  rest_rows : AreRows rest
  rest_rows = ((omega arith, omega arith, omega arith), tt)

  abbrev place_one : ℕ
  place_one = from_top b at ts_here 1

  place_is : (ka : Kind) (x : ℕ) (us : List Value) → f.stack ≡ Plain ka (x ∷ []) ∷ us → place_one ≡ length q.held + length us
  place_is ka x us e =
      let d = depth_is b at op im c row from places body is_op naming gain w f around q outer s here in
      let a = first_held b at op im c row from places body is_op naming gain w f around q outer s here in
      let n : length f.stack ≡ suc (length us) = ap length e in
      omega arith

  place_inside : (ka : Kind) (x : ℕ) (us : List Value) → f.stack ≡ Plain ka (x ∷ []) ∷ us → place_one < place_count here.together
  place_inside ka x us e =
      let d = depth_is b at op im c row from places body is_op naming gain w f around q outer s here in
      let n : length f.stack ≡ suc (length us) = ap length e in
      inside_plan b at op im c row from places body is_op naming gain w f around q outer s here place_one (omega arith)

  value_is : (ka : Kind) (x : ℕ) (us : List Value) → f.stack ≡ Plain ka (x ∷ []) ∷ us → now here.together top place_one ≡ Some (Plain ka (x ∷ []))
  value_is ka x us e = ap (now here.together top) (place_is ka x us e) ∙ stands_there b at op im c row from places body is_op naming gain w f around q outer s here [] us (Plain ka (x ∷ [])) e

  -- the value on top is replaced by another
  replaced_top : (is : List Instr) → AreRows is → 0 < length is → length is < 1024 → Begins_here → Stands_here is → Next_is is → (ka kind : Kind) (x r : ℕ) (us : List Value) → f.stack ≡ Plain ka (x ∷ []) ∷ us →
      Did here.together is (with_value top place_one (Some (Plain kind (r ∷ []))) (now here.together)) → K (goes Site_here (Plain kind (r ∷ []) ∷ us))
  replaced_top is rows some few pc st next ka kind x r us e d =
      straight_here is rows some few pc st next (Plain kind (r ∷ []) ∷ us) (with_value top place_one (Some (Plain kind (r ∷ []))) (now here.together)) d
      (leaves_value top around outer (rest_frames here.together) (rest_places here.together) f (moved f (suc f.at) (Plain kind (r ∷ []) ∷ us)) q q place_one (Plain kind (r ∷ []))
      (λ n. subst (λ k. (slice_get (q.held ++ reverse (Plain kind (r ∷ []) ∷ us)) n ≡ put k (Some (Plain kind (r ∷ []))) (slice_get (q.held ++ reverse f.stack)) n) ⊎ (slice_get (q.held ++ reverse (Plain kind (r ∷ []) ∷ us)) n ≡ None)) (sym (place_is ka x us e))
      (subst (λ (vs : List Value). (slice_get (q.held ++ reverse (Plain kind (r ∷ []) ∷ us)) n ≡ put (length q.held + length us) (Some (Plain kind (r ∷ []))) (slice_get (q.held ++ reverse vs)) n) ⊎ (slice_get (q.held ++ reverse (Plain kind (r ∷ []) ∷ us)) n ≡ None)) (sym e)
      (replaced q.held (Plain ka (x ∷ []) ∷ []) us (Plain kind (r ∷ [])) n))))

  -- by instructions on x5
  unary_goes : (instrs : List Instr) → AreRows instrs → length instrs ≤ 4 → (ka kind : Kind) (x r : ℕ) (us : List Value) → f.stack ≡ Plain ka (x ∷ []) ∷ us →
      ((u : ThreadData) → IsSized u → register_of u.core 5 ≡ x → u.core.pc + 16 < 2 ^ 64 → Set u instrs 5 r) →
      Begins_here → Stands_here (unary_instrs b at ts_here instrs) → Next_is (unary_instrs b at ts_here instrs) → K (goes Site_here (Plain kind (r ∷ []) ∷ us))
  unary_goes instrs rows few ka kind x r us e calc pc st next =
      let kk = place_inside ka x us e in
      let same : offset here.together place_one ≡ offset_of b place_one = ap (λ (p : Plan). slice_index p.offsets place_one) (plan_here b at op im c row from places body is_op naming gain w f around q outer s here) in
      let short = (room here.together place_one kk).short in
      let all = rows_both (loads_word 5 (offset_of b place_one) ++ instrs) (stores_word 5 (offset_of b place_one)) (rows_both (loads_word 5 (offset_of b place_one)) instrs (loads_rows 5 (offset_of b place_one) (omega arith) (omega arith)) rows) (stores_rows 5 (offset_of b place_one) (omega arith) (omega arith)) in
      let n1 = length-append (loads_word 5 (offset_of b place_one) ++ instrs) (stores_word 5 (offset_of b place_one)) in
      let n2 = length-append (loads_word 5 (offset_of b place_one)) instrs in
      let l1 = loads_short 5 (offset_of b place_one) in
      let l2 = stores_short 5 (offset_of b place_one) in
      let l3 = stores_some 5 (offset_of b place_one) in
      let end = begins_low (unary_instrs b at ts_here instrs) all (omega arith) pc st in
      replaced_top (unary_instrs b at ts_here instrs) all (omega arith) (omega arith) pc st next ka kind x r us e
      (subst (λ o. Did here.together (loads_word 5 o ++ instrs ++ stores_word 5 o) (with_value top place_one (Some (Plain kind (r ∷ []))) (now here.together))) same
      (unary_put here.together instrs place_one x r ka kind kk (value_is ka x us e) (λ u z five le. calc u z five (omega arith)) (omega arith)))

  -- by nothing but its kind
  renamed_goes : (ka kind : Kind) (x : ℕ) (us : List Value) → f.stack ≡ Plain ka (x ∷ []) ∷ us → Begins_here → Stands_here rest → Next_is rest → K (goes Site_here (Plain kind (x ∷ []) ∷ us))
  renamed_goes ka kind x us e pc st next =
      replaced_top rest rest_rows (omega arith) (omega arith) pc st next ka kind x x us e
      (renamed here.together place_one x ka kind (place_inside ka x us e) (value_is ka x us e) (let h = begins_low rest rest_rows (omega arith) pc st in omega arith))

  one_of : (k : (kind : Kind) → ℕ → List Value → Left) → ((kind : Kind) (x : ℕ) (us : List Value) → f.stack ≡ Plain kind (x ∷ []) ∷ us → K (k kind x us)) → K (pops f.stack (λ v us. as_word v (λ kind x. k kind x us)))
  one_of k go =
      pops_kept b at op im c row from places body is_op naming gain w f around q outer s here f.stack _ (λ v us e.
      word_kept b at op im c row from places body is_op naming gain w f around q outer s here v _ (λ kind x ev. go kind x us (e ∙ ap (λ y. y ∷ us) ev)))

  -- Forms ------------------------------------------------------------------

  pub turns_kept : (form : Unary) → IsNumber (slice_get ts_here (length ts_here - 1)) → Begins_here → Stands_here (unary_instrs b at ts_here (unary_instr form (is_int32 (type_from_top b at ts_here 1)) ∷ [])) → Next_is (unary_instrs b at ts_here (unary_instr form (is_int32 (type_from_top b at ts_here 1)) ∷ [])) →
      K (does b.program Site_here [] f.stack (OnNumbers (Turns form)))
  turns_kept form number pc st next =
      one_of _ (λ kind x us e. width_kept b at op im c row from places body is_op naming gain w f around q outer s here kind x _ (λ width ek.
      let e' : f.stack ≡ Plain (kind_at width) (x ∷ []) ∷ us = e ∙ ap (λ k. Plain k (x ∷ []) ∷ us) ek in
      let t = top_type b at op im c row from places body is_op naming gain w f around q outer s here (Plain (kind_at width) (x ∷ [])) us e' in
      let n = narrow_is b at op im c row from places body is_op naming gain w f around q outer s here (slice_get ts_here (length ts_here - 1)) number t.0 t.1 width x t.2 in
      unary_goes (unary_instr form (is_int32 (type_from_top b at ts_here 1)) ∷ []) (unary_row form (is_int32 (type_from_top b at ts_here 1)), tt) (omega arith) (kind_at width) (kind_at width) x (turned form width x) us e'
      (λ u z five low. subst (λ k. Set u (unary_instr form k ∷ []) 5 (turned form width x)) (sym n) (turns_to u z x five (omega arith) form width)) pc st next))

  -- of the kinds that are numbers
  number_kept : (kind : Kind) (x : ℕ) (k : ℕ → Left) → K (k x) → K (to_int64 kind x Stuck k)
  number_kept Int32 x k go = go
  number_kept Int64 x k go = go
  number_kept Native x k go = go
  number_kept Reference x k go = simulation.nowhere tt
  number_kept Struct x k go = simulation.nowhere tt

  pub to_int32_kept : Begins_here → Stands_here (unary_instrs b at ts_here (rv.Addiw 5 5 0 ∷ [])) → Next_is (unary_instrs b at ts_here (rv.Addiw 5 5 0 ∷ [])) → K (does b.program Site_here [] f.stack (OnNumbers (Converts ToInt32)))
  to_int32_kept pc st next =
      one_of _ (λ kind x us e. number_kept kind x _
      (unary_goes (rv.Addiw 5 5 0 ∷ []) ((omega arith, omega arith, omega arith), tt) (omega arith) kind Int32 x (narrow x) us e (λ u z five low. narrowed u z x five (omega arith)) pc st next))

  pub to_int64_kept : Begins_here → Stands_here rest → Next_is rest → K (does b.program Site_here [] f.stack (OnNumbers (Converts ToInt64)))
  to_int64_kept pc st next = one_of _ (λ kind x us e. number_kept kind x _ (renamed_goes kind Int64 x us e pc st next))

  -- whether the value on top is an int32, as the types say
  conv_is : (kind : Kind) (x : ℕ) (t : StackType) → (slice_get ts_here (length ts_here - 1) ≡ Some stack.Native) ⊎ IsNumber (slice_get ts_here (length ts_here - 1)) → slice_get ts_here (length ts_here - 1) ≡ Some t → IsOf b.program f.method t (Plain kind (x ∷ [])) →
      ((is_int32 (slice_get ts_here (length ts_here - 1)) ≡ true) × (kind ≡ Int32)) ⊎ ((is_int32 (slice_get ts_here (length ts_here - 1)) ≡ false) × (kind ≢ Int32))
  conv_is kind x t (inl e) e' h = inr (ap is_int32 e, λ k. absurd (cc (k, (subst (λ z. IsOf b.program f.method z (Plain kind (x ∷ []))) (same_type t stack.Native e' e) h).0)))
  conv_is kind x t (inr (inl e)) e' h = inl (ap is_int32 e, (subst (λ z. IsOf b.program f.method z (Plain kind (x ∷ []))) (same_type t stack.Int32 e' e) h).0)
  conv_is kind x t (inr (inr e)) e' h = inr (ap is_int32 e, λ k. absurd (cc (k, (subst (λ z. IsOf b.program f.method z (Plain kind (x ∷ []))) (same_type t stack.Int64 e' e) h).0)))

  -- an int64 or native int keeps its word
  kept_word : (kind : Kind) (x : ℕ) → kind ≢ Int32 → to_unsigned64 kind x ≡ x
  kept_word Int32 x ne = absurd (ne refl)
  kept_word Int64 x ne = refl
  kept_word Native x ne = refl
  kept_word Reference x ne = refl
  kept_word Struct x ne = refl

  abbrev zero_extended : Bool → List Instr
  zero_extended narrow_type = if narrow_type then unary_instrs b at ts_here (rv.Slli 5 5 32 ∷ rv.Srli 5 5 32 ∷ []) else rest

  pub to_unsigned64_kept : (slice_get ts_here (length ts_here - 1) ≡ Some stack.Native) ⊎ IsNumber (slice_get ts_here (length ts_here - 1)) → Begins_here → Stands_here (zero_extended (is_int32 (type_from_top b at ts_here 1))) → Next_is (zero_extended (is_int32 (type_from_top b at ts_here 1))) →
      K (does b.program Site_here [] f.stack (OnNumbers (Converts ToUnsigned64)))
  to_unsigned64_kept number pc st next =
      one_of _ (λ kind x us e. number_kept kind x _ (
      let t = top_type b at op im c row from places body is_op naming gain w f around q outer s here (Plain kind (x ∷ [])) us e in
      by_kind kind x us e (conv_is kind x t.0 number t.1 t.2)))
    where
      by_kind : (kind : Kind) (x : ℕ) (us : List Value) → f.stack ≡ Plain kind (x ∷ []) ∷ us →
          ((is_int32 (slice_get ts_here (length ts_here - 1)) ≡ true) × (kind ≡ Int32)) ⊎ ((is_int32 (slice_get ts_here (length ts_here - 1)) ≡ false) × (kind ≢ Int32)) →
          K (goes Site_here (Plain Int64 (to_unsigned64 kind x ∷ []) ∷ us))
      by_kind kind x us e (inl h) =
          subst (λ v. K (goes Site_here (Plain Int64 (v ∷ []) ∷ us))) (ap (λ k. to_unsigned64 k x) (sym h.1))
          (unary_goes (rv.Slli 5 5 32 ∷ rv.Srli 5 5 32 ∷ []) ((omega arith, omega arith, omega arith), ((omega arith, omega arith, omega arith), tt)) (omega arith) kind Int64 x (low_32 x) us e (λ u z five low. low_bits u z x five (omega arith)) pc
          (subst (λ k. Stands_here (zero_extended k)) h.0 st) (subst (λ k. Next_is (zero_extended k)) h.0 next))
      by_kind kind x us e (inr h) =
          subst (λ v. K (goes Site_here (Plain Int64 (v ∷ []) ∷ us))) (sym (kept_word kind x h.1))
          (renamed_goes kind Int64 x us e pc (subst (λ k. Stands_here (zero_extended k)) h.0 st) (subst (λ k. Next_is (zero_extended k)) h.0 next))

  width_known : (kind : Kind) (x : ℕ) (k : Width → Left) → ((width : Width) → kind ≡ kind_at width → (width ≡ Narrow → narrow x ≡ x) → K (k width)) → K (at_width kind x k)
  width_known Int32 x k go = if_kept b at op im c row from places body is_op naming gain w f around q outer s here (narrow x == x) (k Narrow) (λ t. go Narrow refl (λ e. eqb-true (narrow x) x t))
  width_known Int64 x k go = go Wide refl (λ e. absurd (cc e))
  width_known Native x k go = simulation.nowhere tt
  width_known Reference x k go = simulation.nowhere tt
  width_known Struct x k go = simulation.nowhere tt

  -- shifts
  shifts_kept : (form : Shift) → IsNumber (slice_get ts_here (length ts_here - 2)) →
      ((u : ThreadData) → IsSized u → (x y : ℕ) → register_of u.core 5 ≡ x → register_of u.core 6 ≡ y → u.core.pc + 16 < 2 ^ 64 → (width : Width) → (width ≡ Narrow → narrow x ≡ x) → Set u (shift_instr form (is_narrow width) ∷ []) 5 (shifted_by form width x y)) →
      Begins_here → Stands_here (binary_instrs b at ts_here (shift_instr form (is_int32 (type_from_top b at ts_here 2)) ∷ [])) → Next_is (binary_instrs b at ts_here (shift_instr form (is_int32 (type_from_top b at ts_here 2)) ∷ [])) →
      K (does b.program Site_here [] f.stack (OnNumbers (Shifts form)))
  shifts_kept form number calc pc st next =
      words_kept b at op im c row from places body is_op naming gain w f around q outer s here f.stack _ (λ ka x kb y us e.
      width_known ka x _ (λ width ea small.
      width_kept b at op im c row from places body is_op naming gain w f around q outer s here kb y _ (λ other eb.
      same_kept b at op im c row from places body is_op naming gain w f around q outer s here other Narrow _ (λ same.
      let e' : f.stack ≡ Plain kb (y ∷ []) ∷ Plain (kind_at width) (x ∷ []) ∷ us = e ∙ ap (λ k. Plain kb (y ∷ []) ∷ Plain k (x ∷ []) ∷ us) ea in
      let t = second_type b at op im c row from places body is_op naming gain w f around q outer s here (Plain kb (y ∷ [])) (Plain (kind_at width) (x ∷ [])) us e' in
      let n = narrow_is b at op im c row from places body is_op naming gain w f around q outer s here (slice_get ts_here (length ts_here - 2)) number t.0 t.1 width x t.2 in
      binary_goes b at op im c row from places body is_op naming gain w f around q outer s here (shift_instr form (is_int32 (type_from_top b at ts_here 2)) ∷ []) (shift_row form (is_int32 (type_from_top b at ts_here 2)), tt) (omega arith) (kind_at width) kb (kind_at width) x y (shifted_by form width x y) us e'
      (λ u z five six low. subst (λ k. Set u (shift_instr form k ∷ []) 5 (shifted_by form width x y)) (sym n) (calc u z x y five six low width small)) st pc next))))

  pub lefts_kept : IsNumber (slice_get ts_here (length ts_here - 2)) → Begins_here → Stands_here (binary_instrs b at ts_here (shift_instr Leftwards (is_int32 (type_from_top b at ts_here 2)) ∷ [])) → Next_is (binary_instrs b at ts_here (shift_instr Leftwards (is_int32 (type_from_top b at ts_here 2)) ∷ [])) →
      K (does b.program Site_here [] f.stack (OnNumbers (Shifts Leftwards)))
  lefts_kept number pc st next = shifts_kept Leftwards number (λ u z x y five six low width small. lefts u z x y five six (omega arith) width) pc st next

  pub rights_kept : IsNumber (slice_get ts_here (length ts_here - 2)) → Begins_here → Stands_here (binary_instrs b at ts_here (shift_instr (Rightwards false) (is_int32 (type_from_top b at ts_here 2)) ∷ [])) → Next_is (binary_instrs b at ts_here (shift_instr (Rightwards false) (is_int32 (type_from_top b at ts_here 2)) ∷ [])) →
      K (does b.program Site_here [] f.stack (OnNumbers (Shifts (Rightwards false))))
  rights_kept number pc st next = shifts_kept (Rightwards false) number (λ u z x y five six low width small. rights u z x y five six (omega arith) width) pc st next

  pub signed_rights_kept : IsNumber (slice_get ts_here (length ts_here - 2)) → Begins_here → Stands_here (binary_instrs b at ts_here (shift_instr (Rightwards true) (is_int32 (type_from_top b at ts_here 2)) ∷ [])) → Next_is (binary_instrs b at ts_here (shift_instr (Rightwards true) (is_int32 (type_from_top b at ts_here 2)) ∷ [])) →
      K (does b.program Site_here [] f.stack (OnNumbers (Shifts (Rightwards true))))
  signed_rights_kept number pc st next = shifts_kept (Rightwards true) number (λ u z x y five six low width small. signed_rights u z x y five six (omega arith) width small) pc st next
