-- Stores to arguments and locals: their code keeps to the instruction.
use Rattle.std.proofs.Common.{◌%◌, bit_and, option_and_then, ◌≡◌, ◌≢◌, ◌⊎◌, inr, ℕ, zero, suc, ◌+◌, ◌*◌, ◌^◌, ◌<◌, ◌≤◌, Bool, true, false, ◌==◌, ◌&&◌, cond, List, [], ◌∷◌, ◌++◌, length, reverse, slice_get, slice_set, slice_index, Option, Some, None, option_map, refl, sym, ap, ◌∙◌, subst, arith, eqb-true}
use Rattle.std.proofs.Common.{map as list_map}
use Rattle.std.proofs.lemmas.Nat.{and_mask}
use Rattle.std.proofs.lemmas.List.{append_assoc, length-append}
use Rattle.type_tree.specs.declared.tree.TExpr.{TExpr}
use Rattle.il_model.specs.declared.op.Op.{Op}
use Rattle.il_model.specs.declared.program.Program.{Program}
use Rattle.interaction.specs.Process.{Naming, Next}
use Rattle.interaction.specs.Simulation as simulation
use Rattle.cil_flow.specs.declared.state.StackType.{StackType}
use Rattle.cil_meaning.specs.Values.{InFrame as OfFrame, Kind, Int32, Int64, Native, Reference, Struct, Value, Plain, Managed, same_kind}
use Rattle.cil_meaning.specs.Naming.{Mention}
use Rattle.cil_meaning.specs.Frames.{Frame, Places, with_held}
use Rattle.cil_meaning.specs.Replies.{Left}
use Rattle.cil_meaning.specs.Site.{Site, moved, goes, op_at}
use Rattle.cil_meaning.specs.Pieces.{fits_place}
use Rattle.cil_meaning.specs.Groups.{OnPlaces, Slot, Argument, Local, Writes, Points}
use Rattle.cil_meaning.specs.Places.{PlaceHere, place_of, arguments_here, points_to}
use Rattle.cil_meaning.specs.Types.{kind_of, kept, is_bool, is_bool_top, is_bool_head, argument_places, local_places, object_place}
use Rattle.il_model.specs.declared.method.PType.{PType}
use Rattle.il_model.specs.declared.method.PType.TheVariants as ptype
use Rattle.il_model.specs.Find.{takes_object, class_of, class_in_top}
use Rattle.il_model.specs.Layouts.{words_of, words_within, words_in, parts_if, most_trees, instance_kinds_of}
use Rattle.il_model.specs.Kinds.{is_struct_class}
use Rattle.type_tree.specs.declared.tree.TNode.{TNode}
use Rattle.type_tree.specs.declared.tree.TNode.TheVariants.{Node, ClassVar, MethodVar}
use Rattle.type_tree.specs.declared.tree.Head.{Head}
use Rattle.type_tree.specs.declared.tree.Head.TheVariants as head
use Rattle.type_tree.specs.Tree.{top_of}
use Rattle.type_tree.specs.Positions.{positions_of}
use Rattle.cil_meaning.specs.Meaning.{does}
use Rattle.cil_flow.specs.declared.plan.Plan.{Plan}
use Rattle.rgctx_words.specs.Memory.{put}
use Rattle.rgctx_words.specs.Stacks.{mem_of}
use Rattle.rv_isa.specs.declared.instr.Instr.{Instr}
use Rattle.rv_isa.specs.declared.instr.Instr.TheVariants as rv
use Rattle.rv_isa.specs.Assembly.{word_count}
use Rattle.rv_machine.specs.declared.effect.Effect.TheVariants.{Sets}
use Rattle.rgctx_fill.specs.ThreadStates.{ImageData, ThreadData}
use Rattle.rgctx_fill.specs.FrameMaps.{size_of, with_value}
use Rattle.rgctx_fill.specs.Standing.{Compiled}
use Rattle.rgctx_fill.proofs.MachineLemmas.{run_pc}
use Rattle.rv_codegen.specs.FrameWords.{loads_word, stores_word, addresses_word}
use Rattle.rv_codegen.specs.Admitted.{IsIn, AreIn}
use Rattle.rv_codegen.specs.Carried.{StandFrom, code_address, IsBodyOf, StandsAt, HasPlace, frames_with}
use Rattle.rv_codegen.specs.PlainItems.{BodyData, store_instrs, place_type, is_bool_place, plain, argument_count, place_number, next_place, move_instrs, stack_of, offset_of, from_top}
use Rattle.rv_codegen.proofs.StraightLemmas.{Set, set_by, loads, loads_short, stores_short, stores_some}
use Rattle.rv_codegen.proofs.ItemLemmas.{AreRows, rows_both, loads_rows, stores_rows, addresses_rows, addresses_short}
use Rattle.rv_codegen.proofs.FormLemmas.{rest_frames, rest_places, values_top, leaves_value}
use Rattle.rv_codegen.proofs.StackLemmas.{chosen, held_put, dropped, held_there}
use Rattle.rv_codegen.proofs.PlaceLemmas.{Did, now, places as place_count, offset, width, room, fits_there, result_put, pointer_put, word_there, in_current, base}
use Rattle.rv_codegen.proofs.CalcLemmas.{set_again}
use Rattle.rv_codegen.proofs.StackCarries.{move_rows, move_did, given_kept, number_is, next_inside, pushed_here}
use Rattle.rv_codegen.proofs.NumberCarries.{if_kept, pops_kept, word_kept, plan_here, depth_is, first_held, inside_plan, stands_there}
use Rattle.rv_codegen.proofs.CarryLemmas.{site, Kept_to, goes_straight, far_below, arguments_long, held_long}

pub kind_same : (a d : Kind) → same_kind a d ≡ true → a ≡ d
kind_same Int32 Int32 t = refl
kind_same Int64 Int64 t = refl
kind_same Native Native t = refl
kind_same Reference Reference t = refl
kind_same Struct Struct t = refl
kind_same Int32 Int64 t = absurd (cc t)
kind_same Int32 Native t = absurd (cc t)
kind_same Int32 Reference t = absurd (cc t)
kind_same Int32 Struct t = absurd (cc t)
kind_same Int64 Int32 t = absurd (cc t)
kind_same Int64 Native t = absurd (cc t)
kind_same Int64 Reference t = absurd (cc t)
kind_same Int64 Struct t = absurd (cc t)
kind_same Native Int32 t = absurd (cc t)
kind_same Native Int64 t = absurd (cc t)
kind_same Native Reference t = absurd (cc t)
kind_same Native Struct t = absurd (cc t)
kind_same Reference Int32 t = absurd (cc t)
kind_same Reference Int64 t = absurd (cc t)
kind_same Reference Native t = absurd (cc t)
kind_same Reference Struct t = absurd (cc t)
kind_same Struct Int32 t = absurd (cc t)
kind_same Struct Int64 t = absurd (cc t)
kind_same Struct Native t = absurd (cc t)
kind_same Struct Reference t = absurd (cc t)

pub both_true : (a d : Bool) → (a && d) ≡ true → (a ≡ true) × (d ≡ true)
both_true true true t = (refl, refl)
both_true true false t = absurd (cc t)
both_true false d t = absurd (cc t)

-- the value in a place fits the place's type
in_place : (p : Program) (ts : List PType) (vs : List Value) (n : ℕ) (t : PType) (v : Value) → AreIn p ts vs → slice_get ts n ≡ Some t → slice_get vs n ≡ Some v → IsIn p t v
in_place p [] vs n t v h et ev = absurd (cc et)
in_place p (t' ∷ ts) [] n t v h et ev = absurd h
in_place p (t' ∷ ts) (v' ∷ vs) zero t v h et ev = let a : t' ≡ t = cc et in let d : v' ≡ v = cc ev in subst (λ x. IsIn p x v) a (subst (IsIn p t') d h.0)
in_place p (t' ∷ ts) (v' ∷ vs) (suc n) t v h et ev = in_place p ts vs n t v h.1 et ev

there_at : {A : Type 0} (xs : List A) (n : ℕ) (x : A) → slice_get xs n ≡ Some x → n < length xs
there_at [] n x is = absurd (cc is)
there_at (y ∷ xs) zero x is = omega arith
there_at (y ∷ xs) (suc n) x is = let h = there_at xs n x is in omega arith

some_at : (xs : List Value) (n : ℕ) → n < length xs → slice_get xs n ≢ None
some_at [] n low e = omega arith
some_at (x ∷ xs) zero low e = absurd (cc e)
some_at (x ∷ xs) (suc n) low e = some_at xs n (omega arith) e

-- values of one place's type have as many words
same_size : (p : Program) (t : PType) (v u : Value) → IsIn p t v → IsIn p t u → size_of v ≡ size_of u
same_size p (ptype.Value t) (Plain kind ws) (Plain kind' ws') h h' = h.1 ∙ sym h'.1
same_size p (ptype.Value t) (Plain kind ws) (Managed r) h h' = absurd h'
same_size p (ptype.Value t) (Managed r) u h h' = absurd h
same_size p (ptype.Pointer t) (Plain kind ws) u h h' = absurd h
same_size p (ptype.Pointer t) (Managed r) (Plain kind ws) h h' = absurd h'
same_size p (ptype.Pointer t) (Managed r) (Managed r') h h' = refl
same_size p ptype.Native (Plain kind ws) (Plain kind' ws') h h' = h.1 ∙ sym h'.1
same_size p ptype.Native (Plain kind ws) (Managed r) h h' = absurd h'
same_size p ptype.Native (Managed r) u h h' = absurd h

behind_there : {A : Type 0} (xs ys : List A) (n : ℕ) → slice_get (xs ++ ys) (length xs + n) ≡ slice_get ys n
behind_there [] ys n = let e : 0 + n ≡ n = omega arith in ap (slice_get ys) e
behind_there (x ∷ xs) ys n = let e : length (x ∷ xs) + n ≡ suc (length xs + n) = omega arith in ap (slice_get (x ∷ (xs ++ ys))) e ∙ behind_there xs ys n

-- a bool has one word
one_within : (p : Program) (levels : ℕ) (t : TExpr) → class_of p t ≡ None → words_within p levels t ≡ 1
one_within p zero t e = refl
one_within p (suc levels) t e = ap (λ k. words_in (λ part. words_within p levels part) (parts_if (is_struct_class k) (instance_kinds_of p t))) e

no_class : (p : Program) (t : TExpr) → is_bool t ≡ true → class_of p t ≡ None
no_class p t e = by_top (top_of t) e
  where
    by_head : (h : Head) (parts : List TExpr) → is_bool_head h ≡ true → option_and_then (λ number. slice_get p.classes number) (class_in_top (Node h parts)) ≡ None
    by_head head.Int32 parts e' = absurd (cc e')
    by_head head.Int64 parts e' = absurd (cc e')
    by_head head.Bool parts e' = refl
    by_head head.Vector parts e' = absurd (cc e')
    by_head (head.Class number) parts e' = absurd (cc e')

    by_top : (k : TNode TExpr) → is_bool_top k ≡ true → option_and_then (λ number. slice_get p.classes number) (class_in_top k) ≡ None
    by_top (Node h parts) e' = by_head h parts e'
    by_top (ClassVar m) e' = absurd (cc e')
    by_top (MethodVar m) e' = absurd (cc e')

bool_words : (p : Program) (t : TExpr) → is_bool t ≡ true → words_of p t ≡ 1
bool_words p t e = one_within p (most_trees * positions_of t) t (no_class p t e)

module _ (b : BodyData) (at : ℕ) (op : Op) (im : ImageData) (c : Compiled) (row from : ℕ) (places : List (Option ℕ)) (body : IsBodyOf b im c row places) (is_op : op_at b.method at ≡ Some op)
    (naming : Naming Mention TExpr) (gain : ThreadData → ℕ) (w : ℕ → ℕ) (f : Frame) (around : List Frame) (q : Places) (outer : List Places) (s : ThreadData)
    (here : StandsAt b at op im c row from w f around q outer s) where
  abbrev K : Left → Type 0
  K left = Kept_to b at op im c row from places body is_op naming gain w f around q outer s here left

  abbrev top : ℕ
  top = here.together.top

  abbrev ts_here : List StackType
  ts_here = stack_of (slice_get b.states at)

  abbrev Site_here : Site
  Site_here = site b at op im c row from places body is_op naming gain w f around q outer s here

  abbrev Stands_here : List Instr → Type 0
  Stands_here is = StandFrom im places from (plain is)

  abbrev Next_is : List Instr → Type 0
  Next_is is = c.pc row (suc at) ≡ code_address (from + word_count (plain is))

  abbrev Begins_here : Type 0
  Begins_here = c.pc row at ≡ code_address from

  -- straight-line code that changes one argument or local and takes the value on top
  writes_here : (is : List Instr) → AreRows is → 0 < length is → length is < 1024 → Begins_here → Stands_here is → Next_is is → (n : ℕ) (u v : Value) (us : List Value) → f.stack ≡ v ∷ us → n < length q.held →
      Did here.together is (with_value top n (Some u) (now here.together)) → K (Next (frames_with (moved f (suc f.at) us) around (with_held q n u) outer))
  writes_here is rows some few pc st next n u v us e low d =
      goes_straight b at op im c row from places body is_op naming gain w f around q outer s here is rows some few st pc next us (with_held q n u) refl (with_value top n (Some u) (now here.together)) d
      (leaves_value top around outer (rest_frames here.together) (rest_places here.together) f (moved f (suc f.at) us) q (with_held q n u) n u (λ m. after m))
    where
      after : (m : ℕ) → (slice_get (slice_set q.held n u ++ reverse us) m ≡ put n (Some u) (slice_get (q.held ++ reverse f.stack)) m) ⊎ (slice_get (slice_set q.held n u ++ reverse us) m ≡ None)
      after m =
          subst (λ (vs : List Value). (slice_get (slice_set q.held n u ++ reverse us) m ≡ put n (Some u) (slice_get (q.held ++ reverse vs)) m) ⊎ (slice_get (slice_set q.held n u ++ reverse us) m ≡ None)) (sym e)
          (chosen n m u (slice_get (slice_set q.held n u ++ reverse us) m) (slice_get (q.held ++ reverse us) m) (slice_get (q.held ++ reverse (v ∷ us)) m) (held_put q.held (reverse us) n u m low) (dropped q.held (v ∷ []) us m) (m == n) refl)

  abbrev from_place : ℕ
  from_place = from_top b at ts_here 1

  abbrev Goes_with : ℕ → Value → List Value → Left
  Goes_with n u us = Next (frames_with (moved f (suc f.at) us) around (with_held q n u) outer)

  -- what the places are for
  abbrev all_places : List PType
  all_places = argument_places b.program f.method b.method ++ local_places f.method b.method

  old_value : (n : ℕ) (t : PType) → slice_get all_places n ≡ Some t → (v : Value) × (slice_get q.held n ≡ Some v) × IsIn b.program t v
  old_value n t e = by_option (slice_get q.held n) refl
    where
      low : n < length q.held
      low = let h = there_at all_places n t e in let l = held_long b.program all_places q.held here.admitted.held in omega arith

      by_option : (o : Option Value) → slice_get q.held n ≡ o → (v : Value) × (slice_get q.held n ≡ Some v) × IsIn b.program t v
      by_option None eo = absurd (some_at q.held n low eo)
      by_option (Some v) eo = (v, eo, in_place b.program all_places q.held n t v here.admitted.held e eo)

  -- a value goes to an argument's or local's place
  stores_value : (n : ℕ) (t : PType) (v : Value) (us : List Value) → slice_get all_places n ≡ Some t → f.stack ≡ v ∷ us → IsIn b.program t v → Begins_here → Stands_here (move_instrs b from_place n) → Next_is (move_instrs b from_place n) → K (Goes_with n v us)
  stores_value n t v us et e is pc st next =
      let old = old_value n t et in
      let d = depth_is b at op im c row from places body is_op naming gain w f around q outer s here in
      let a = first_held b at op im c row from places body is_op naming gain w f around q outer s here in
      let len : length f.stack ≡ suc (length us) = ap length e in
      let low = there_at q.held n old.0 old.1 in
      let k : from_place ≡ length q.held + length us = omega arith in
      let kk = inside_plan b at op im c row from places body is_op naming gain w f around q outer s here from_place (omega arith) in
      let nn = inside_plan b at op im c row from places body is_op naming gain w f around q outer s here n (omega arith) in
      let there : now here.together top from_place ≡ Some v = ap (now here.together top) k ∙ stands_there b at op im c row from places body is_op naming gain w f around q outer s here [] us v e in
      let there' : now here.together top n ≡ Some old.0 = values_top top around outer (rest_frames here.together) (rest_places here.together) f q n ∙ held_there q.held (reverse f.stack) n old.0 old.1 in
      let fits = fits_there here.together n old.0 nn there' in
      let same : size_of v ≡ size_of old.0 = same_size b.program t v old.0 is old.2 in
      let r = move_rows b at op im c row from places body is_op naming gain w f around q outer s here from_place n kk nn in
      let few = r.2 in
      let end = far_below b at op im c row from places body is_op naming gain w f around q outer s here (move_instrs b from_place n) r.0 r.1 st pc in
      writes_here (move_instrs b from_place n) r.0 r.1 (omega arith) pc st next n v v us e low
      (move_did b at op im c row from places body is_op naming gain w f around q outer s here from_place n v kk nn (inr (omega arith)) there (omega arith) (omega arith))

  -- a bool keeps its low eight bits
  stores_bool : (n : ℕ) (t : PType) (kind ka : Kind) (x : ℕ) (us : List Value) → slice_get all_places n ≡ Some t → f.stack ≡ Plain ka (x ∷ []) ∷ us → IsIn b.program t (Plain kind (x ∷ [])) → Begins_here → Stands_here (store_instrs b from_place n true) → Next_is (store_instrs b from_place n true) →
      K (Goes_with n (Plain kind (x % 256 ∷ [])) us)
  stores_bool n t kind ka x us et e is pc st next =
      let old = old_value n t et in
      let d = depth_is b at op im c row from places body is_op naming gain w f around q outer s here in
      let a = first_held b at op im c row from places body is_op naming gain w f around q outer s here in
      let len : length f.stack ≡ suc (length us) = ap length e in
      let low = there_at q.held n old.0 old.1 in
      let k : from_place ≡ length q.held + length us = omega arith in
      let kk = inside_plan b at op im c row from places body is_op naming gain w f around q outer s here from_place (omega arith) in
      let nn = inside_plan b at op im c row from places body is_op naming gain w f around q outer s here n (omega arith) in
      let there : now here.together top from_place ≡ Some (Plain ka (x ∷ [])) = ap (now here.together top) k ∙ stands_there b at op im c row from places body is_op naming gain w f around q outer s here [] us (Plain ka (x ∷ [])) e in
      let there' : now here.together top n ≡ Some old.0 = values_top top around outer (rest_frames here.together) (rest_places here.together) f q n ∙ held_there q.held (reverse f.stack) n old.0 old.1 in
      let fits = fits_there here.together n old.0 nn there' in
      let same = same_size b.program t (Plain kind (x ∷ [])) old.0 is old.2 in
      let plan = plan_here b at op im c row from places body is_op naming gain w f around q outer s here in
      let same1 : offset here.together from_place ≡ offset_of b from_place = ap (λ (p : Plan). slice_index p.offsets from_place) plan in
      let same2 : offset here.together n ≡ offset_of b n = ap (λ (p : Plan). slice_index p.offsets n) plan in
      let r1 = (room here.together from_place kk).short in
      let r2 = (room here.together n nn).short in
      let rows = rows_both (loads_word 5 (offset_of b from_place)) (rv.Andi 5 5 255 ∷ stores_word 5 (offset_of b n)) (loads_rows 5 (offset_of b from_place) (omega arith) (omega arith)) ((omega arith, omega arith, omega arith), stores_rows 5 (offset_of b n) (omega arith) (omega arith)) in
      let long = length-append (loads_word 5 (offset_of b from_place)) (rv.Andi 5 5 255 ∷ stores_word 5 (offset_of b n)) in
      let l1 = loads_short 5 (offset_of b from_place) in
      let l2 = stores_short 5 (offset_of b n) in
      let end = far_below b at op im c row from places body is_op naming gain w f around q outer s here (store_instrs b from_place n true) rows (omega arith) st pc in
      writes_here (store_instrs b from_place n true) rows (omega arith) (omega arith) pc st next n (Plain kind (x % 256 ∷ [])) (Plain ka (x ∷ [])) us e low
      (subst (λ is'. Did here.together is' (with_value top n (Some (Plain kind (x % 256 ∷ []))) (now here.together))) (append_assoc (loads_word 5 (offset_of b from_place)) (rv.Andi 5 5 255 ∷ []) (stores_word 5 (offset_of b n)))
      (subst (λ o. Did here.together (loads_word 5 o ++ (rv.Andi 5 5 255 ∷ []) ++ stores_word 5 (offset_of b n)) (with_value top n (Some (Plain kind (x % 256 ∷ []))) (now here.together))) same1
      (subst (λ o. Did here.together (loads_word 5 (offset here.together from_place) ++ (rv.Andi 5 5 255 ∷ []) ++ stores_word 5 o) (with_value top n (Some (Plain kind (x % 256 ∷ []))) (now here.together))) same2
      (masked kk nn (word_there here.together from_place ka x kk there) (omega arith) (omega arith)))))
    where
      masked : from_place < place_count here.together → n < place_count here.together → (mem_of s.stack (base here.together + offset here.together from_place) ≡ x) × (1 ≤ width here.together from_place) → 1 ≤ width here.together n → s.core.pc < 2 ^ 40 →
          Did here.together (loads_word 5 (offset here.together from_place) ++ (rv.Andi 5 5 255 ∷ []) ++ stores_word 5 (offset here.together n)) (with_value top n (Some (Plain kind (x % 256 ∷ []))) (now here.together))
      masked kk nn there wide low =
          let r = room here.together from_place kk in
          let r1 = r.short in
          let r2 = r.inside in
          then_mask (loads (in_current here.together) 5 (offset here.together from_place) r1 (let one = there.1 in omega arith) refl (omega arith) (omega arith))
        where
          then_mask : Set s (loads_word 5 (offset here.together from_place)) 5 (mem_of s.stack (base here.together + offset here.together from_place)) → Did here.together (loads_word 5 (offset here.together from_place) ++ (rv.Andi 5 5 255 ∷ []) ++ stores_word 5 (offset here.together n)) (with_value top n (Some (Plain kind (x % 256 ∷ []))) (now here.together))
          then_mask y =
              let pc = run_pc y.run in
              let few = loads_short 5 (offset here.together from_place) in
              put_it (set_again y (set_by y.t y.sized (omega arith) (rv.Andi 5 5 255) 5 (x % 256) (ap (λ v. Sets 5 (bit_and v 255)) (y.value ∙ there.0) ∙ ap (Sets 5) (and_mask x 8)) refl (omega arith) (omega arith)))
            where
              put_it : Set s (loads_word 5 (offset here.together from_place) ++ (rv.Andi 5 5 255 ∷ [])) 5 (x % 256) → Did here.together (loads_word 5 (offset here.together from_place) ++ (rv.Andi 5 5 255 ∷ []) ++ stores_word 5 (offset here.together n)) (with_value top n (Some (Plain kind (x % 256 ∷ []))) (now here.together))
              put_it v =
                  let pc = run_pc v.run in
                  let few = loads_short 5 (offset here.together from_place) in
                  let long = length-append (loads_word 5 (offset here.together from_place)) (rv.Andi 5 5 255 ∷ []) in
                  result_put here.together (loads_word 5 (offset here.together from_place) ++ (rv.Andi 5 5 255 ∷ [])) v.t n (x % 256) kind v.run (v.others 8 (λ z. omega (arith, z)) (λ z. omega (arith, z))) v.stack v.sized v.value nn wide (omega arith)

  -- what a place keeps of the value on top, by the place's type
  module _ (n : ℕ) (is_bool_store : Bool) (pc : Begins_here) (st : Stands_here (store_instrs b from_place n is_bool_store)) (next : Next_is (store_instrs b from_place n is_bool_store)) where
    plain_store : is_bool_store ≡ false → (t : PType) (v : Value) (us : List Value) → slice_get all_places n ≡ Some t → f.stack ≡ v ∷ us → IsIn b.program t v → K (Goes_with n v us)
    plain_store no_bool t v us et e is = stores_value n t v us et e is pc (subst (λ k. Stands_here (store_instrs b from_place n k)) no_bool st) (subst (λ k. Next_is (store_instrs b from_place n k)) no_bool next)

    words_kept_by : (t : TExpr) (ws : List ℕ) (kind : Kind) (us : List Value) → slice_get all_places n ≡ Some (ptype.Value t) → f.stack ≡ Plain kind ws ∷ us → kind ≡ kind_of b.program t → length ws ≡ words_of b.program t → (k : Bool) → is_bool t ≡ k → is_bool_store ≡ k →
        K (Goes_with n (Plain (kind_of b.program t) (kept t ws)) us)
    words_kept_by t ws kind us et e same long false is_t is_s =
        subst (λ (vs : List ℕ). K (Goes_with n (Plain (kind_of b.program t) vs) us)) (sym (ap (λ k. cond k (list_map (λ x. x % 256) ws) ws) is_t))
        (plain_store is_s (ptype.Value t) (Plain (kind_of b.program t) ws) us et (e ∙ ap (λ k. Plain k ws ∷ us) same) (refl, long))
    words_kept_by t [] kind us et e same long true is_t is_s = absurd (let one = bool_words b.program t is_t in omega arith)
    words_kept_by t (x ∷ []) kind us et e same long true is_t is_s =
        subst (λ (vs : List ℕ). K (Goes_with n (Plain (kind_of b.program t) vs) us)) (sym (ap (λ k. cond k (list_map (λ y. y % 256) (x ∷ [])) (x ∷ [])) is_t))
        (stores_bool n (ptype.Value t) (kind_of b.program t) kind x us et e (refl, long) pc (subst (λ k. Stands_here (store_instrs b from_place n k)) is_s st) (subst (λ k. Next_is (store_instrs b from_place n k)) is_s next))
    words_kept_by t (x ∷ y ∷ ws) kind us et e same long true is_t is_s = absurd (let one = bool_words b.program t is_t in omega arith)

    type_kept : (t : PType) → is_bool_place (Some t) ≡ is_bool_store → (v : Value) (us : List Value) → slice_get all_places n ≡ Some t → f.stack ≡ v ∷ us → K (fits_place b.program t v (λ u. Goes_with n u us))
    type_kept (ptype.Value t) bools (Plain kind ws) us et e =
        if_kept b at op im c row from places body is_op naming gain w f around q outer s here (same_kind kind (kind_of b.program t) && (length ws == words_of b.program t)) _ (λ k.
        let both = both_true (same_kind kind (kind_of b.program t)) (length ws == words_of b.program t) k in
        words_kept_by t ws kind us et e (kind_same kind (kind_of b.program t) both.0) (eqb-true (length ws) (words_of b.program t) both.1) (is_bool t) refl (sym bools))
    type_kept (ptype.Value t) bools (Managed r) us et e = simulation.nowhere tt
    type_kept (ptype.Pointer t) bools (Plain kind ws) us et e = simulation.nowhere tt
    type_kept (ptype.Pointer t) bools (Managed r) us et e = plain_store (sym bools) (ptype.Pointer t) (Managed r) us et e tt
    type_kept ptype.Native bools v us et e =
        word_kept b at op im c row from places body is_op naming gain w f around q outer s here v _ (λ kind x ev.
        if_kept b at op im c row from places body is_op naming gain w f around q outer s here (same_kind kind Native) _ (λ k.
        plain_store (sym bools) ptype.Native (Plain Native (x ∷ [])) us et (e ∙ ap (λ z. z ∷ us) (ev ∙ ap (λ z. Plain z (x ∷ [])) (kind_same kind Native k))) (refl, refl)))

  -- the type of an argument's or local's place
  type_there : (slot : Slot) (x : PlaceHere) → place_of b.program Site_here slot ≡ Some x → slice_get all_places (place_number b slot) ≡ Some x.kind
  type_there (Argument n) x e = by_option (slice_get (argument_places b.program f.method b.method) n) refl e
    where
      by_option : (o : Option PType) → slice_get (argument_places b.program f.method b.method) n ≡ o → option_map (λ t. record { number = n; kind = t }) o ≡ Some x → slice_get all_places n ≡ Some x.kind
      by_option None eo e' = absurd (cc e')
      by_option (Some t) eo e' =
          let h : record { number = n; kind = t } ≡ x = cc e' in
          held_there (argument_places b.program f.method b.method) (local_places f.method b.method) n t eo ∙ ap (λ (y : PlaceHere). Some y.kind) h
  type_there (Local n) x e = by_option (slice_get (local_places f.method b.method) n) refl e
    where
      by_option : (o : Option PType) → slice_get (local_places f.method b.method) n ≡ o → option_map (λ t. record { number = length (arguments_here b.program Site_here) + n; kind = t }) o ≡ Some x → slice_get all_places (argument_count b + n) ≡ Some x.kind
      by_option None eo e' = absurd (cc e')
      by_option (Some t) eo e' =
          let h : record { number = length (arguments_here b.program Site_here) + n; kind = t } ≡ x = cc e' in
          ap (λ k. slice_get all_places (k + n)) (sym (arguments_long f.method (takes_object b.method.shape) (object_place b.program f.method.class) b.method.params))
          ∙ behind_there (argument_places b.program f.method b.method) (local_places f.method b.method) n ∙ eo ∙ ap (λ (y : PlaceHere). Some y.kind) h

  -- the value on top goes to an argument or a local
  pub writes_kept : (slot : Slot) → ((t : PType) → slice_get all_places (place_number b slot) ≡ Some t → is_bool_place (Some t) ≡ is_bool_place (place_type b slot)) →
      Begins_here → Stands_here (store_instrs b from_place (place_number b slot) (is_bool_place (place_type b slot))) → Next_is (store_instrs b from_place (place_number b slot) (is_bool_place (place_type b slot))) →
      K (does b.program Site_here [] f.stack (OnPlaces (Writes slot)))
  writes_kept slot kinds pc st next =
      given_kept b at op im c row from places body is_op naming gain w f around q outer s here (place_of b.program Site_here slot) _ (λ x ex.
      pops_kept b at op im c row from places body is_op naming gain w f around q outer s here f.stack _ (λ v us e.
      let et = type_there slot x ex in
      subst (λ k. K (fits_place b.program x.kind v (λ u. Goes_with k u us))) (sym (number_is b at op im c row from places body is_op naming gain w f around q outer s here slot x ex))
      (type_kept (place_number b slot) (is_bool_place (place_type b slot)) pc st next x.kind (kinds x.kind et) v us et e)))

  -- the address of an argument or a local
  abbrev address_code : ℕ → List Instr
  address_code k = addresses_word 5 (offset_of b k) ++ stores_word 5 (offset_of b (next_place b at ts_here))

  pub points_kept : (slot : Slot) → HasPlace b ts_here 1 → Begins_here → Stands_here (address_code (place_number b slot)) → Next_is (address_code (place_number b slot)) → K (does b.program Site_here [] f.stack (OnPlaces (Points slot)))
  points_kept slot place pc st next =
      given_kept b at op im c row from places body is_op naming gain w f around q outer s here (place_of b.program Site_here slot) _ (λ x ex.
      by_kind (place_number b slot) x.number (number_is b at op im c row from places body is_op naming gain w f around q outer s here slot x ex)
      (let et = type_there slot x ex in
      let low = there_at all_places (place_number b slot) x.kind et in
      let l = held_long b.program all_places q.held here.admitted.held in
      let a = first_held b at op im c row from places body is_op naming gain w f around q outer s here in
      inside_plan b at op im c row from places body is_op naming gain w f around q outer s here (place_number b slot) (omega arith))
      pc st next x.kind)
    where
      by_kind : (k number : ℕ) → number ≡ k → k < place_count here.together → Begins_here → Stands_here (address_code k) → Next_is (address_code k) → (t : PType) → K (points_to b.program Site_here number t f.stack)
      by_kind k number e kk pc st next (ptype.Pointer t) = simulation.nowhere tt
      by_kind k number e kk pc st next ptype.Native = simulation.nowhere tt
      by_kind k number e kk pc st next (ptype.Value t) =
          let level : top ≡ length around = sym (rest_frames here.together) in
          let inside = next_inside b at op im c row from places body is_op naming gain w f around q outer s here 1 place in
          let plan = plan_here b at op im c row from places body is_op naming gain w f around q outer s here in
          let same1 : offset here.together k ≡ offset_of b k = ap (λ (p : Plan). slice_index p.offsets k) plan in
          let same2 : offset here.together (next_place b at ts_here) ≡ offset_of b (next_place b at ts_here) = ap (λ (p : Plan). slice_index p.offsets (next_place b at ts_here)) plan in
          let r1 = (room here.together k kk).short in
          let r2 = (room here.together (next_place b at ts_here) inside.0).short in
          let rows = rows_both (addresses_word 5 (offset_of b k)) (stores_word 5 (offset_of b (next_place b at ts_here))) (addresses_rows 5 (offset_of b k) (omega arith) (omega arith)) (stores_rows 5 (offset_of b (next_place b at ts_here)) (omega arith) (omega arith)) in
          let long = length-append (addresses_word 5 (offset_of b k)) (stores_word 5 (offset_of b (next_place b at ts_here))) in
          let l1 = addresses_short 5 (offset_of b k) in
          let l2 = stores_short 5 (offset_of b (next_place b at ts_here)) in
          let l3 = stores_some 5 (offset_of b (next_place b at ts_here)) in
          let end = far_below b at op im c row from places body is_op naming gain w f around q outer s here (address_code k) rows (omega arith) st pc in
          subst (λ l. K (goes Site_here (Managed (OfFrame l number 0) ∷ f.stack))) level
          (subst (λ n. K (goes Site_here (Managed (OfFrame top n 0) ∷ f.stack))) (sym e)
          (pushed_here b at op im c row from places body is_op naming gain w f around q outer s here (address_code k) rows (omega arith) (omega arith) pc st next (Managed (OfFrame top k 0))
          (subst (λ o. Did here.together (addresses_word 5 o ++ stores_word 5 (offset_of b (next_place b at ts_here))) (with_value top (next_place b at ts_here) (Some (Managed (OfFrame top k 0))) (now here.together))) same1
          (subst (λ o. Did here.together (addresses_word 5 (offset here.together k) ++ stores_word 5 o) (with_value top (next_place b at ts_here) (Some (Managed (OfFrame top k 0))) (now here.together))) same2
          (pointer_put here.together k (next_place b at ts_here) kk inside.0 inside.1 (omega arith))))))
