-- Values on the stack, arguments and locals, and constants: their code keeps to the instruction.
use Rattle.std.proofs.Common.{◌≡◌, ◌≢◌, ◌⊎◌, inl, ℕ, zero, suc, ◌+◌, ◌-◌, ◌*◌, ◌^◌, ◌<◌, ◌≤◌, ◌==◌, min, List, [], ◌∷◌, ◌++◌, length, reverse, slice_get, slice_index, Option, Some, None, option_map, refl, sym, ap, ◌∙◌, subst, arith, eqb-true, eq-eqb}
use Rattle.std.proofs.lemmas.List.{length-append, length-reverse, reverse-reverse}
use Rattle.type_tree.specs.declared.tree.TExpr.{TExpr}
use Rattle.il_model.specs.declared.op.Op.{Op}
use Rattle.il_model.specs.declared.program.Program.{Program}
use Rattle.il_model.specs.declared.layout.MethodTree.{MethodTree}
use Rattle.interaction.specs.Process.{Naming}
use Rattle.interaction.specs.Simulation as simulation
use Rattle.cil_flow.specs.declared.state.StackType.{StackType}
use Rattle.cil_flow.specs.declared.state.StackType.TheVariants as stack
use Rattle.cil_meaning.specs.Values.{Kind, Value, Plain, Managed}
use Rattle.cil_meaning.specs.Naming.{Mention}
use Rattle.cil_meaning.specs.Frames.{Frame, Places}
use Rattle.cil_meaning.specs.Replies.{Left}
use Rattle.cil_meaning.specs.Site.{Site, moved, goes, op_at}
use Rattle.cil_meaning.specs.Pieces.{given}
use Rattle.cil_meaning.specs.Groups.{OnStack, OnPlaces, Slot, Argument, Local, Reads, Rests, Copies, Drops, Pushes}
use Rattle.cil_meaning.specs.Places.{PlaceHere, place_of, arguments_here}
use Rattle.cil_meaning.specs.Types.{local_places, object_place}
use Rattle.il_model.specs.declared.method.PType.{PType}
use Rattle.il_model.specs.Find.{takes_object}
use Rattle.cil_meaning.specs.Meaning.{does}
use Rattle.cil_flow.specs.declared.plan.Plan.{Plan}
use Rattle.rgctx_words.specs.Memory.{put}
use Rattle.rv_isa.specs.declared.instr.Instr.{Instr}
use Rattle.rv_isa.specs.Assembly.{word_count}
use Rattle.rgctx_fill.specs.ThreadStates.{ImageData, ThreadData}
use Rattle.rgctx_fill.specs.FrameMaps.{size_of, with_value}
use Rattle.rgctx_fill.specs.Standing.{Compiled}
use Rattle.rgctx_fill.proofs.MachineLemmas.{run_pc}
use Rattle.rv_codegen.specs.FrameWords.{stores_word, moves_words}
use Rattle.rv_codegen.specs.Constants.{sets_word}
use Rattle.rv_codegen.specs.Admitted.{AreOf, IsOf, size_of_type}
use Rattle.rv_codegen.specs.Carried.{StandFrom, code_address, IsBodyOf, StandsAt, HasPlace, size_or_none}
use Rattle.rv_codegen.specs.PlainItems.{moving, BodyData, plain, rest, argument_count, place_number, next_place, push_instrs, move_instrs, stack_of, offset_of, from_top}
use Rattle.rv_codegen.proofs.StraightLemmas.{Set, by_if, stores_short, stores_some, moves_short, moves_some}
use Rattle.rv_codegen.proofs.ItemLemmas.{AreRows, rows_both, stores_rows, moves_rows}
use Rattle.rv_codegen.proofs.FormLemmas.{Leaves, rest_frames, rest_places, values_top, leaves_all, leaves_value}
use Rattle.rv_codegen.proofs.StackLemmas.{replaced, dropped, value_there, held_there}
use Rattle.rv_codegen.proofs.PlaceLemmas.{Did, now, places as place_count, offset, width, room, rested, nothing_moved, value_moved, fits_there, result_put}
use Rattle.rv_codegen.proofs.ConstantLemmas.{word_set, word_rows, word_few}
use Rattle.rv_codegen.proofs.NumberCarries.{pops_kept, plan_here, depth_is, first_held, inside_plan, stands_there}
use Rattle.rv_codegen.proofs.CarryLemmas.{site, Kept_to, goes_straight, far_below, arguments_long}

size_by_type : (p : Program) (m : MethodTree) (t : StackType) (v : Value) → IsOf p m t v → size_of v ≡ size_of_type p m t
size_by_type p m stack.Int32 (Plain kind ws) h = h.1
size_by_type p m stack.Int32 (Managed r) h = absurd h
size_by_type p m stack.Int64 (Plain kind ws) h = h.1
size_by_type p m stack.Int64 (Managed r) h = absurd h
size_by_type p m stack.Native (Plain kind ws) h = h.1
size_by_type p m stack.Native (Managed r) h = absurd h
size_by_type p m stack.Null (Plain kind ws) h = h.1
size_by_type p m stack.Null (Managed r) h = absurd h
size_by_type p m (stack.Kind t) (Plain kind ws) h = h.1
size_by_type p m (stack.Kind t) (Managed r) h = absurd h
size_by_type p m (stack.Boxed t) (Plain kind ws) h = h.1
size_by_type p m (stack.Boxed t) (Managed r) h = absurd h
size_by_type p m (stack.Pointer t) (Plain kind ws) h = absurd h
size_by_type p m (stack.Pointer t) (Managed r) h = refl

module _ (b : BodyData) (at : ℕ) (op : Op) (im : ImageData) (c : Compiled) (row from : ℕ) (places : List (Option ℕ)) (body : IsBodyOf b im c row places) (is_op : op_at b.method at ≡ Some op)
    (naming : Naming Mention TExpr) (gain : ThreadData → ℕ) (w : ℕ → ℕ) (f : Frame) (around : List Frame) (q : Places) (outer : List Places) (s : ThreadData)
    (here : StandsAt b at op im c row from w f around q outer s) where
  abbrev K : Left → Type 0
  K left = Kept_to b at op im c row from places body is_op naming gain w f around q outer s here left

  abbrev top : ℕ
  top = here.together.top

  abbrev ts_here : List StackType
  ts_here = stack_of (slice_get b.states at)

  abbrev Site_here : Site
  Site_here = site b at op im c row from places body is_op naming gain w f around q outer s here

  abbrev Stands_here : List Instr → Type 0
  Stands_here is = StandFrom im places from (plain is)

  abbrev Next_is : List Instr → Type 0
  Next_is is = c.pc row (suc at) ≡ code_address (from + word_count (plain is))

  abbrev Begins_here : Type 0
  Begins_here = c.pc row at ≡ code_address from

  -- straight-line code of this instruction, which leaves this stack
  straight_here : (is : List Instr) → AreRows is → 0 < length is → length is < 1024 → Begins_here → Stands_here is → Next_is is → (after : List Value) (left : ℕ → ℕ → Option Value) →
      Did here.together is left → Leaves top around outer (rest_frames here.together) (rest_places here.together) (moved f (suc f.at) after) q left → K (goes Site_here after)
  straight_here is rows some few pc st next after left d leaves =
      goes_straight b at op im c row from places body is_op naming gain w f around q outer s here is rows some few st pc next after q refl left d leaves

  -- the code begins far below the last address
  begins_low : (is : List Instr) → AreRows is → 0 < length is → Begins_here → Stands_here is → s.core.pc + 4 * length is < 2 ^ 40
  begins_low is rows some pc st = far_below b at op im c row from places body is_op naming gain w f around q outer s here is rows some st pc

  rest_rows : AreRows rest
  rest_rows = ((omega arith, omega arith, omega arith), tt)

  -- nothing but the number of the instruction changes
  pub rests_kept : Begins_here → Stands_here rest → Next_is rest → K (does b.program Site_here [] f.stack (OnStack Rests))
  rests_kept pc st next =
      straight_here rest rest_rows (omega arith) (omega arith) pc st next f.stack (now here.together)
      (rested here.together (let h = begins_low rest rest_rows (omega arith) pc st in omega arith))
      (leaves_all top around outer (rest_frames here.together) (rest_places here.together) f (moved f (suc f.at) f.stack) q q (λ n. inl refl))

  -- the value on top goes
  pub drops_kept : Begins_here → Stands_here rest → Next_is rest → K (does b.program Site_here [] f.stack (OnStack Drops))
  drops_kept pc st next =
      pops_kept b at op im c row from places body is_op naming gain w f around q outer s here f.stack _ (λ v us e.
      straight_here rest rest_rows (omega arith) (omega arith) pc st next us (now here.together)
      (rested here.together (let h = begins_low rest rest_rows (omega arith) pc st in omega arith))
      (leaves_all top around outer (rest_frames here.together) (rest_places here.together) f (moved f (suc f.at) us) q q
      (λ n. subst (λ (vs : List Value). (slice_get (q.held ++ reverse us) n ≡ slice_get (q.held ++ reverse vs) n) ⊎ (slice_get (q.held ++ reverse us) n ≡ None)) (sym e) (dropped q.held (v ∷ []) us n))))

  -- Pushing ----------------------------------------------------------------

  -- the next place of the stack, which a value takes
  abbrev next : ℕ
  next = next_place b at ts_here

  next_is : next ≡ length q.held + length f.stack
  next_is =
      let d = depth_is b at op im c row from places body is_op naming gain w f around q outer s here in
      let a = first_held b at op im c row from places body is_op naming gain w f around q outer s here in
      omega arith

  plan_is_here : c.plan here.together.row ≡ b.plan
  plan_is_here = plan_here b at op im c row from places body is_op naming gain w f around q outer s here

  pub next_inside : (n : ℕ) → HasPlace b ts_here n → (next < place_count here.together) × (n ≤ width here.together next)
  next_inside n h = (subst (λ (p : Plan). next < length p.offsets) (sym plan_is_here) h.there, subst (λ (p : Plan). n ≤ slice_index p.widths next) (sym plan_is_here) h.wide)

  pub pushed_here : (is : List Instr) → AreRows is → 0 < length is → length is < 1024 → Begins_here → Stands_here is → Next_is is → (v : Value) →
      Did here.together is (with_value top next (Some v) (now here.together)) → K (goes Site_here (v ∷ f.stack))
  pushed_here is rows some few pc st after v d =
      straight_here is rows some few pc st after (v ∷ f.stack) (with_value top next (Some v) (now here.together)) d
      (leaves_value top around outer (rest_frames here.together) (rest_places here.together) f (moved f (suc f.at) (v ∷ f.stack)) q q next v
      (λ n. subst (λ k. (slice_get (q.held ++ reverse (v ∷ f.stack)) n ≡ put k (Some v) (slice_get (q.held ++ reverse f.stack)) n) ⊎ (slice_get (q.held ++ reverse (v ∷ f.stack)) n ≡ None)) (sym next_is) (replaced q.held [] f.stack v n)))

  -- a constant
  pub pushes_kept : (kind : Kind) (x : ℕ) → x < 2 ^ 64 → HasPlace b ts_here 1 → Begins_here → Stands_here (push_instrs b at ts_here (Plain kind (x ∷ []))) → Next_is (push_instrs b at ts_here (Plain kind (x ∷ []))) →
      K (does b.program Site_here [] f.stack (OnStack (Pushes (Plain kind (x ∷ [])))))
  pushes_kept kind x small place pc st after =
      let inside = next_inside 1 place in
      let short = (room here.together next inside.0).short in
      let low : offset_of b next < 65536 = subst (λ (p : Plan). slice_index p.offsets next < 65536) plan_is_here short in
      let rows = rows_both (sets_word 5 x) (stores_word 5 (offset_of b next)) (word_rows 5 x (omega arith) small) (stores_rows 5 (offset_of b next) (omega arith) low) in
      let long = length-append (sets_word 5 x) (stores_word 5 (offset_of b next)) in
      let l1 = word_few 5 x in
      let l2 = stores_short 5 (offset_of b next) in
      let l3 = stores_some 5 (offset_of b next) in
      let end = begins_low (sets_word 5 x ++ stores_word 5 (offset_of b next)) rows (omega arith) pc st in
      pushed_here (sets_word 5 x ++ stores_word 5 (offset_of b next)) rows (omega arith) (omega arith) pc st after (Plain kind (x ∷ []))
      (subst (λ (p : Plan). Did here.together (sets_word 5 x ++ stores_word 5 (slice_index p.offsets next)) (with_value top next (Some (Plain kind (x ∷ []))) (now here.together))) plan_is_here
      (put_it inside (word_set s here.together.around.sized 5 refl (omega arith) x small (omega arith)) (omega arith)))
    where
      put_it : (next < place_count here.together) × (1 ≤ width here.together next) → Set s (sets_word 5 x) 5 x → s.core.pc < 2 ^ 40 → Did here.together (sets_word 5 x ++ stores_word 5 (offset here.together next)) (with_value top next (Some (Plain kind (x ∷ []))) (now here.together))
      put_it inside y low =
          let pc = run_pc y.run in
          let few = word_few 5 x in
          result_put here.together (sets_word 5 x) y.t next x kind y.run (y.others 8 (λ e. omega (arith, e)) (λ e. omega (arith, e))) y.stack y.sized y.value inside.0 inside.1 (omega arith)

  -- A value goes from one place to another.
  pub move_rows : (k to : ℕ) → k < place_count here.together → to < place_count here.together → AreRows (move_instrs b k to) × (0 < length (move_instrs b k to)) × (length (move_instrs b k to) ≤ 96)
  move_rows k to kk tt' =
      subst (λ (p : Plan). AreRows (moving p k to) × (0 < length (moving p k to)) × (length (moving p k to) ≤ 96)) plan_is_here
      (by_if (λ is. AreRows is × (0 < length is) × (length is ≤ 96)) (min (width here.together k) (width here.together to) == 0) rest (moves_words (min (width here.together k) (width here.together to)) (offset here.together k) (offset here.together to))
      (λ t. (rest_rows, omega arith, omega arith))
      (λ t. some_moves (λ e. cc (eq-eqb (min (width here.together k) (width here.together to)) 0 e, t))))
    where
      some_moves : min (width here.together k) (width here.together to) ≢ 0 → AreRows (moves_words (min (width here.together k) (width here.together to)) (offset here.together k) (offset here.together to)) × (0 < length (moves_words (min (width here.together k) (width here.together to)) (offset here.together k) (offset here.together to))) × (length (moves_words (min (width here.together k) (width here.together to)) (offset here.together k) (offset here.together to)) ≤ 96)
      some_moves ne =
          let a = room here.together k kk in
          let a1 = a.low in
          let a2 = a.narrow in
          let d = room here.together to tt' in
          let d1 = d.low in
          let few = moves_short (min (width here.together k) (width here.together to)) (offset here.together k) (offset here.together to) in
          (moves_rows (min (width here.together k) (width here.together to)) (offset here.together k) (offset here.together to) (omega arith) (omega arith), moves_some (min (width here.together k) (width here.together to)) (offset here.together k) (offset here.together to) ne, omega arith)

  pub move_did : (k to : ℕ) (v : Value) → k < place_count here.together → to < place_count here.together → (k < to) ⊎ (to < k) → now here.together top k ≡ Some v → size_of v ≤ width here.together to → s.core.pc < 2 ^ 40 →
      Did here.together (move_instrs b k to) (with_value top to (Some v) (now here.together))
  move_did k to v kk tt' differ is fits low =
      let own = fits_there here.together k v kk is in
      let narrow = (room here.together k kk).narrow in
      subst (λ (p : Plan). Did here.together (moving p k to) (with_value top to (Some v) (now here.together))) plan_is_here
      (by_if (λ is'. Did here.together is' (with_value top to (Some v) (now here.together))) (min (width here.together k) (width here.together to) == 0) rest (moves_words (min (width here.together k) (width here.together to)) (offset here.together k) (offset here.together to))
      (λ t. nothing_moved here.together k to v kk tt' (let e = eqb-true (min (width here.together k) (width here.together to)) 0 t in omega arith) is (omega arith))
      (λ t. value_moved here.together k to (min (width here.together k) (width here.together to)) v kk tt' (omega arith) (omega arith) (omega arith) differ is (omega arith)))

  -- a value of the frame is pushed
  move_pushed : (k : ℕ) (v : Value) → k < place_count here.together → k < next → now here.together top k ≡ Some v → HasPlace b ts_here (size_of v) → Begins_here → Stands_here (move_instrs b k next) → Next_is (move_instrs b k next) → K (goes Site_here (v ∷ f.stack))
  move_pushed k v kk below is place pc st after =
      let inside = next_inside (size_of v) place in
      let r = move_rows k next kk inside.0 in
      let rows = r.0 in
      let some = r.1 in
      let few = r.2 in
      let end = begins_low (move_instrs b k next) rows some pc st in
      pushed_here (move_instrs b k next) rows some (omega arith) pc st after v (move_did k next v kk inside.0 (inl below) is inside.1 (omega arith))

  -- the type of the value on top
  pub top_type : (v : Value) (us : List Value) → f.stack ≡ v ∷ us → (t : StackType) × (slice_get ts_here (length ts_here - 1) ≡ Some t) × IsOf b.program f.method t v
  top_type v us e = by_list (reverse ts_here) (sym (reverse-reverse ts_here)) (subst (AreOf b.program f.method (reverse ts_here)) e here.admitted.stack)
    where
      by_list : (rs : List StackType) → ts_here ≡ reverse rs → AreOf b.program f.method rs (v ∷ us) → (t : StackType) × (slice_get ts_here (length ts_here - 1) ≡ Some t) × IsOf b.program f.method t v
      by_list [] is h = absurd h
      by_list (t ∷ rs) is h =
          let long : length ts_here ≡ suc (length rs) = ap length is ∙ length-reverse (t ∷ rs) in
          let k : length ts_here - 1 ≡ 0 + length rs = omega arith in
          (t, ap (slice_get ts_here) k ∙ ap (λ (xs : List StackType). slice_get xs (0 + length rs)) is ∙ value_there [] [] rs t, h.0)

  -- the value on top once more
  pub copies_kept : HasPlace b ts_here (size_or_none b f.method (slice_get ts_here (length ts_here - 1))) → Begins_here → Stands_here (move_instrs b (from_top b at ts_here 1) next) → Next_is (move_instrs b (from_top b at ts_here 1) next) →
      K (does b.program Site_here [] f.stack (OnStack Copies))
  copies_kept place pc st after =
      pops_kept b at op im c row from places body is_op naming gain w f around q outer s here f.stack _ (λ v us e.
      let t = top_type v us e in
      let size = size_by_type b.program f.method t.0 v t.2 in
      let place' : HasPlace b ts_here (size_of v) = subst (HasPlace b ts_here) (ap (size_or_none b f.method) t.1 ∙ sym size) place in
      let d = depth_is b at op im c row from places body is_op naming gain w f around q outer s here in
      let a = first_held b at op im c row from places body is_op naming gain w f around q outer s here in
      let n : length f.stack ≡ suc (length us) = ap length e in
      let k : from_top b at ts_here 1 ≡ length q.held + length us = omega arith in
      let there : now here.together top (from_top b at ts_here 1) ≡ Some v = ap (now here.together top) k ∙ stands_there b at op im c row from places body is_op naming gain w f around q outer s here [] us v e in
      subst (λ (vs : List Value). K (goes Site_here (v ∷ vs))) e
      (move_pushed (from_top b at ts_here 1) v (inside_plan b at op im c row from places body is_op naming gain w f around q outer s here (from_top b at ts_here 1) (omega arith)) (omega arith) there place' pc st after))

  pub given_kept : {A : Type 0} (o : Option A) (k : A → Left) → ((a : A) → o ≡ Some a → K (k a)) → K (given o k)
  given_kept None k go = simulation.nowhere tt
  given_kept (Some a) k go = go a refl

  held_low : (xs : List Value) (n : ℕ) (v : Value) → slice_get xs n ≡ Some v → n < length xs
  held_low [] n v is = absurd (cc is)
  held_low (x ∷ xs) zero v is = omega arith
  held_low (x ∷ xs) (suc n) v is = let h = held_low xs n v is in omega arith

  -- the number of an argument's or local's place
  pub number_is : (slot : Slot) (x : PlaceHere) → place_of b.program Site_here slot ≡ Some x → x.number ≡ place_number b slot
  number_is (Argument n) x e = by_option (slice_get (arguments_here b.program Site_here) n) e
    where
      by_option : (o : Option PType) → option_map (λ t. record { number = n; kind = t }) o ≡ Some x → x.number ≡ n
      by_option None e' = absurd (cc e')
      by_option (Some t) e' = let h : record { number = n; kind = t } ≡ x = cc e' in ap (λ (y : PlaceHere). y.number) (sym h)
  number_is (Local n) x e = by_option (slice_get (local_places f.method b.method) n) e
    where
      by_option : (o : Option PType) → option_map (λ t. record { number = length (arguments_here b.program Site_here) + n; kind = t }) o ≡ Some x → x.number ≡ argument_count b + n
      by_option None e' = absurd (cc e')
      by_option (Some t) e' =
          let h : record { number = length (arguments_here b.program Site_here) + n; kind = t } ≡ x = cc e' in
          ap (λ (y : PlaceHere). y.number) (sym h) ∙ ap (λ k. k + n) (arguments_long f.method (takes_object b.method.shape) (object_place b.program f.method.class) b.method.params)

  -- an argument or a local
  pub reads_kept : (slot : Slot) → HasPlace b ts_here (slice_index b.plan.widths (place_number b slot)) → Begins_here → Stands_here (move_instrs b (place_number b slot) next) → Next_is (move_instrs b (place_number b slot) next) →
      K (does b.program Site_here [] f.stack (OnPlaces (Reads slot)))
  reads_kept slot place pc st after =
      given_kept (place_of b.program Site_here slot) _ (λ x ex. given_kept (slice_get q.held x.number) _ (λ v ev.
      let e = number_is slot x ex in
      let ev' : slice_get q.held (place_number b slot) ≡ Some v = subst (λ k. slice_get q.held k ≡ Some v) e ev in
      let low = held_low q.held (place_number b slot) v ev' in
      let a = first_held b at op im c row from places body is_op naming gain w f around q outer s here in
      let kk = inside_plan b at op im c row from places body is_op naming gain w f around q outer s here (place_number b slot) (omega arith) in
      let there : now here.together top (place_number b slot) ≡ Some v =
      values_top top around outer (rest_frames here.together) (rest_places here.together) f q (place_number b slot) ∙ held_there q.held (reverse f.stack) (place_number b slot) v ev' in
      let own = fits_there here.together (place_number b slot) v kk there in
      let own' : size_of v ≤ slice_index b.plan.widths (place_number b slot) = subst (λ (p : Plan). size_of v ≤ slice_index p.widths (place_number b slot)) plan_is_here own in
      move_pushed (place_number b slot) v kk (omega arith) there (record { there = place.there; wide = let h = place.wide in omega arith }) pc st after))
