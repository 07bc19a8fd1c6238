-- Jumps: their code keeps to the instruction.
use Rattle.std.proofs.Common.{◌≡◌, ◌⊎◌, inl, ℕ, zero, suc, ◌+◌, ◌*◌, ◌/◌, ◌%◌, ◌^◌, ◌<◌, ◌≤◌, Bool, true, false, not, ◌==◌, cond, nat_lt, int_lt, if◌then◌else◌, List, [], ◌∷◌, ◌++◌, length, reverse, slice_get, slice_index, Option, Some, None, Result, Ok, Err, unwrap_or, refl, sym, ap, ap₂, ◌∙◌, subst, arith}
use Rattle.std.proofs.lemmas.List.{append-nil, length-append}
use Rattle.type_tree.specs.declared.tree.TExpr.{TExpr}
use Rattle.il_model.specs.declared.op.Op.{Op}
use Rattle.interaction.specs.Process.{Naming, Next, Stuck}
use Rattle.interaction.specs.Simulation.{Sides, Keeps, Onward}
use Rattle.interaction.specs.Simulation as simulation
use Rattle.store_object.specs.declared.request.Request.{Request}
use Rattle.store_object.specs.declared.reply.Reply.{Reply}
use Rattle.cil_flow.specs.declared.state.StackType.{StackType}
use Rattle.cil_meaning.specs.Words.{signed}
use Rattle.cil_meaning.specs.Values.{Kind, Value, Plain, is_struct}
use Rattle.cil_meaning.specs.Naming.{Mention}
use Rattle.cil_meaning.specs.Frames.{Frame, Places, Frames}
use Rattle.cil_meaning.specs.Replies.{Left}
use Rattle.cil_meaning.specs.Site.{Site, moved, op_at}
use Rattle.cil_meaning.specs.Groups.{Jumps, JumpsWhere, JumpsBy, OnBranches, Comparison, Equal, Unequal, Less, LessOrEqual, Greater, GreaterOrEqual}
use Rattle.cil_meaning.specs.Groups.{Leaves as BranchLeaves}
use Rattle.cil_meaning.specs.Branches.{is_taken, jumps_if}
use Rattle.cil_meaning.specs.Arithmetic.{are_compared, is_below, holds}
use Rattle.cil_meaning.specs.Meaning.{does}
use Rattle.cil_flow.specs.declared.plan.Plan.{Plan}
use Rattle.rgctx_words.specs.Stacks.{StackWords, mem_of}
use Rattle.rv_isa.specs.declared.instr.Instr.{Instr}
use Rattle.rv_isa.specs.declared.instr.Instr.TheVariants as rv
use Rattle.rv_isa.specs.Row.{IsRow}
use Rattle.rv_isa.specs.Assembly.{word_count, words_from, joined, far_words, place_of as label_place, distance}
use Rattle.rv_isa.specs.declared.item.Item.{Item}
use Rattle.rv_isa.specs.declared.item.Item.TheVariants as item
use Rattle.rv_isa.specs.declared.fault.AsmFault.{AsmFault}
use Rattle.rv_isa.specs.Word.{word_of}
use Rattle.rv_isa.proofs.RowLemmas.{decodes}
use Rattle.rv_machine.specs.Arithmetic.{extended, sum_of}
use Rattle.rv_machine.specs.declared.effect.Effect.TheVariants.{Goes}
use Rattle.rv_machine.specs.Effect.{effect_of, even}
use Rattle.rv_machine.proofs.JumpLemmas.{far_target}
use Rattle.mn_outside.specs.declared.places.Label.{Label}
use Rattle.rv_machine.specs.Registers.{register_of, next_pc, at_pc}
use Rattle.rgctx_fill.specs.declared.doing.Doing.TheVariants.{Runs}
use Rattle.rgctx_fill.specs.ThreadStates.{ImageData, ThreadData, with_core}
use Rattle.rgctx_fill.specs.ThreadStates.{plain as plain_move}
use Rattle.rgctx_fill.specs.MachineTurns.{does as machine_does}
use Rattle.rgctx_fill.specs.FrameMaps.{Stacked}
use Rattle.rgctx_fill.specs.Constructed.{IsSized}
use Rattle.rgctx_fill.specs.Standing.{Compiled, Together, At, running, fresh_at, sides}
use Rattle.rgctx_fill.proofs.MachineLemmas.{HasInstr, turn_is, Stands, stands_front, stands_back, Run, stop, step, run_then, run_pc, first_run}
use Rattle.rv_codegen.specs.FrameWords.{loads_word}
use Rattle.rv_codegen.specs.Carried.{StandFrom, code_address, IsBodyOf, StandsAt, frames_with}
use Rattle.rv_codegen.specs.PlainItems.{BodyData, label_of, jump_items, branch_items, unless_true, unless_below, where_below, unless_instr, plain, stack_of, offset_of, from_top}
use Rattle.rv_codegen.proofs.StraightLemmas.{Set, next_is, set_by, loads, in_frame, small_mod, loads_short, loads_some}
use Rattle.rv_codegen.proofs.ItemLemmas.{AreRows, rows_both, loads_rows, front_items, fetched_at, there_below}
use Rattle.rv_codegen.proofs.FormLemmas.{form_done, run_doing, rest_frames, rest_places, leaves_all}
use Rattle.rv_codegen.proofs.StackLemmas.{dropped}
use Rattle.rv_codegen.proofs.PlaceLemmas.{now, places as place_count, offset, width, room, word_there, in_current, base, map}
use Rattle.rv_codegen.proofs.CalcLemmas.{mod_small}
use Rattle.rv_codegen.proofs.NumberCarries.{pops_kept, word_kept, words_kept, if_kept, plan_here, depth_is, first_held, inside_plan, stands_there}
use Rattle.rv_codegen.proofs.CarryLemmas.{site, Kept_to, far_below, pc_is}

-- a label is there
labelled : (ls : List Label) (n : ℕ) (other : Label) → n < length ls → slice_get ls n ≡ Some (unwrap_or (slice_get ls n) other)
labelled [] n other low = absurd (omega arith)
labelled (l ∷ ls) zero other low = refl
labelled (l ∷ ls) (suc n) other low = labelled ls n other (omega arith)

abbrev pub upper_part : ℕ → ℕ → ℕ
upper_part from to = (distance from to + 2048) / 4096 % 1048576

abbrev pub lower_part : ℕ → ℕ → ℕ
lower_part from to = distance from to % 4096

-- a far jump that stands first
pub record Far (im : ImageData) (places : List (Option ℕ)) (from : ℕ) (l : Label) : Type 0 where
  pub to : ℕ
  pub is : label_place places l.number ≡ Some to
  pub upper : HasInstr im (code_address from) (rv.Auipc 6 (upper_part from to))
  pub lower : HasInstr im (code_address (from + 1)) (rv.Jalr 0 6 (lower_part from to))

pub first_far : (im : ImageData) (places : List (Option ℕ)) (from : ℕ) (l : Label) (items : List Item) → StandFrom im places from (item.Far l ∷ items) → Far im places from l
first_far im places from l items st = by_place (label_place places l.number) refl (words_from places (from + 2) items) refl st.assembled
  where
    by_place : (o : Option ℕ) → label_place places l.number ≡ o → (r : Result (List ℕ) AsmFault) → words_from places (from + 2) items ≡ r → joined (far_words from l.number o) r ≡ Ok st.words → Far im places from l
    by_place None e r e' j = absurd (cc j)
    by_place (Some to) e (Err fault) e' j = absurd (cc j)
    by_place (Some to) e (Ok more) e' j =
        let words : word_of (rv.Auipc 6 (upper_part from to)) ∷ word_of (rv.Jalr 0 6 (lower_part from to)) ∷ more ≡ st.words = cc j in
        let z : from + 0 ≡ from = omega arith in
        record {
          to = to;
          is = e;
          upper = record {
            word = word_of (rv.Auipc 6 (upper_part from to));
            fetches = fetched_at im.code from ∙ subst (λ n. slice_get im.code n ≡ Some (word_of (rv.Auipc 6 (upper_part from to)))) z (st.there 0 (word_of (rv.Auipc 6 (upper_part from to))) (ap (λ (ws : List ℕ). slice_get ws 0) (sym words)));
            decodes = decodes (rv.Auipc 6 (upper_part from to)) (omega arith, omega arith);
          };
          lower = record {
            word = word_of (rv.Jalr 0 6 (lower_part from to));
            fetches = fetched_at im.code (from + 1) ∙ st.there 1 (word_of (rv.Jalr 0 6 (lower_part from to))) (ap (λ (ws : List ℕ). slice_get ws 1) (sym words));
            decodes = decodes (rv.Jalr 0 6 (lower_part from to)) (omega arith, omega arith, omega arith);
          };
        }

inside_code : (im : ImageData) (n word : ℕ) → slice_get im.code n ≡ Some word → n ≤ length im.code
inside_code im n word is = let h = there_below im.code n word is in omega arith

module _ (b : BodyData) (at : ℕ) (op : Op) (im : ImageData) (c : Compiled) (row from : ℕ) (places : List (Option ℕ)) (body : IsBodyOf b im c row places) (is_op : op_at b.method at ≡ Some op)
    (naming : Naming Mention TExpr) (gain : ThreadData → ℕ) (w : ℕ → ℕ) (f : Frame) (around : List Frame) (q : Places) (outer : List Places) (s : ThreadData)
    (here : StandsAt b at op im c row from w f around q outer s) where
  abbrev K : Left → Type 0
  K left = Kept_to b at op im c row from places body is_op naming gain w f around q outer s here left

  abbrev top : ℕ
  top = here.together.top

  abbrev ts_here : List StackType
  ts_here = stack_of (slice_get b.states at)

  abbrev Site_here : Site
  Site_here = site b at op im c row from places body is_op naming gain w f around q outer s here

  abbrev Stands_here : List Instr → Type 0
  Stands_here is = StandFrom im places from (plain is)

  abbrev Next_is : List Instr → Type 0
  Next_is is = c.pc row (suc at) ≡ code_address (from + word_count (plain is))

  abbrev Begins_here : Type 0
  Begins_here = c.pc row at ≡ code_address from

  -- the code begins far below the last address
  begins_low : (is : List Instr) → AreRows is → 0 < length is → Begins_here → Stands_here is → s.core.pc + 4 * length is < 2 ^ 40
  begins_low is rows some pc st = far_below b at op im c row from places body is_op naming gain w f around q outer s here is rows some st pc

  abbrev on : Sides Mention TExpr Request Reply Frames ThreadData
  on = sides im naming gain w

  -- code that runs to a state from which the thread keeps to the process
  pub run_first : {t : ThreadData} {is : List Instr} {left : Left} → Run s is t → 0 < length is → (m n : ℕ) → Stands im s.core.pc is → Keeps on (At im w c) false m left t → m + length is ≤ n → Keeps on (At im w c) true n left s
  run_first stop some m n st k le = absurd (omega arith)
  run_first (step u does_it pc doing r) some m n st k le = first_run im naming gain w (At im w c) (step u does_it pc doing r) true m n here.together.goes st k (omega arith)

  -- A state of this instruction's code: it ran, and changed neither x8 nor the frames.
  pub record Ran (t : ThreadData) : Type 0 where
    pub eight : register_of t.core 8 ≡ register_of s.core 8
    pub stack : t.stack ≡ s.stack
    pub doing : t.doing ≡ s.doing
    pub sized : IsSized t

  -- after the second instruction of a far jump
  abbrev pub jumped : ThreadData → ℕ → ThreadData
  jumped t target = with_core t (at_pc t.core target)

  -- both stand together at the target, with this stack
  arrived : (t : ThreadData) → Ran t → (n target : ℕ) (after : List Value) → target ≡ c.pc row n →
      ((m : ℕ) → (slice_get (q.held ++ reverse after) m ≡ slice_get (q.held ++ reverse f.stack) m) ⊎ (slice_get (q.held ++ reverse after) m ≡ None)) →
      Together im w c (frames_with (moved f n after) around q outer) (jumped t target)
  arrived t r n target after pc keeps =
      form_done here.together (moved f n after) q refl refl (jumped t target)
      (record {
        copy = r.eight;
        bases = ap (λ (x : StackWords). x.bases) r.stack;
        count = ap (λ (x : StackWords). length x.words) r.stack;
        doing = r.doing;
        sized = record { registers = r.sized.registers; register = r.sized.register; word = r.sized.word };
      })
      refl (now here.together)
      (subst (λ (x : StackWords). Stacked (map here.together) here.together.head (mem_of x) (length s.stack.words) top (now here.together) (fresh_at (frames_with f around q outer))) (sym r.stack) here.together.stacked)
      (leaves_all top around outer (rest_frames here.together) (rest_places here.together) f (moved f n after) q q keeps)
      (pc ∙ ap (λ k. c.pc k n) (sym here.row_is))

  -- A far jump to the code of an instruction takes two turns.
  pub goes_far : (t : ThreadData) → Ran t → (n at_word : ℕ) (after : List Value) → t.core.pc ≡ code_address at_word → at_word ≤ length im.code → n < length b.labels → Far im places at_word (label_of b n) →
      ((m : ℕ) → (slice_get (q.held ++ reverse after) m ≡ slice_get (q.held ++ reverse f.stack) m) ⊎ (slice_get (q.held ++ reverse after) m ≡ None)) →
      (moves : Bool) (turns_left : ℕ) → 2 ≤ turns_left → Keeps on (At im w c) moves turns_left (Next (frames_with (moved f n after) around q outer)) t
  goes_far t r n at_word after pc low is jump keeps moves turns_left le =
      let fits = body.short in
      with_far jump
      (set_by t r.sized (omega arith) (rv.Auipc 6 (upper_part at_word jump.to)) 6
      (sum_of t.core.pc (extended 32 (4096 * upper_part at_word jump.to))) refl refl (omega arith) (mod_small (t.core.pc + extended 32 (4096 * upper_part at_word jump.to))))
    where
      with_far : (x : Far im places at_word (label_of b n)) → Set t (rv.Auipc 6 (upper_part at_word x.to) ∷ []) 6 (sum_of t.core.pc (extended 32 (4096 * upper_part at_word x.to))) →
          Keeps on (At im w c) moves turns_left (Next (frames_with (moved f n after) around q outer)) t
      with_far x y =
          let runs : t.doing ≡ Runs = r.doing ∙ here.together.goes in
          let label : slice_get b.labels n ≡ Some (label_of b n) = labelled b.labels n (record { number = 0 }) is in
          let to = body.labels n x.to (label_of b n) label x.is in
          let fits = body.short in
          let target : even (sum_of (register_of y.t.core 6) (extended 12 (lower_part at_word x.to))) ≡ code_address x.to =
          ap (λ v. even (sum_of v (extended 12 (lower_part at_word x.to)))) (y.value ∙ ap (λ v. sum_of v (extended 32 (4096 * upper_part at_word x.to))) pc)
          ∙ far_target at_word x.to (omega arith) (omega arith) in
          let next_pc' : y.t.core.pc ≡ code_address (at_word + 1) = let h = run_pc y.run in omega arith in
          let ran : Ran y.t = record { eight = y.others 8 (λ e. omega (arith, e)) (λ e. omega (arith, e)) ∙ r.eight; stack = y.stack ∙ r.stack; doing = run_doing y.run ∙ r.doing; sized = y.sized } in
          let last : Keeps on (At im w c) false 1 (Next (frames_with (moved f n after) around q outer)) y.t =
          simulation.turns 0 (omega arith) (subst (Onward on (At im w c) 0 (Next (frames_with (moved f n after) around q outer)))
          (sym (turn_is im y.t (rv.Jalr 0 6 (lower_part at_word x.to)) (subst (λ p. HasInstr im p (rv.Jalr 0 6 (lower_part at_word x.to))) (sym next_pc') x.lower) (run_doing y.run ∙ runs)))
          (simulation.goes (simulation.arrives (running (arrived y.t ran n (even (sum_of (register_of y.t.core 6) (extended 12 (lower_part at_word x.to)))) after (target ∙ sym to.0) keeps))))) in
          first_of y.run last runs (subst (λ p. HasInstr im p (rv.Auipc 6 (upper_part at_word x.to))) (sym pc) x.upper)
        where
          first_of : {u : ThreadData} {i : Instr} → Run t (i ∷ []) u → Keeps on (At im w c) false 1 (Next (frames_with (moved f n after) around q outer)) u → t.doing ≡ Runs → HasInstr im t.core.pc i → Keeps on (At im w c) moves turns_left (Next (frames_with (moved f n after) around q outer)) t
          first_of run k runs h = first_run im naming gain w (At im w c) run moves 1 turns_left runs (h, tt) k (omega arith)

  far_kept : (t : ThreadData) → Ran t → (n at_word : ℕ) (after : List Value) → t.core.pc ≡ code_address at_word → at_word ≤ length im.code → n < length b.labels → StandFrom im places at_word (jump_items b at ts_here n) →
      ((m : ℕ) → (slice_get (q.held ++ reverse after) m ≡ slice_get (q.held ++ reverse f.stack) m) ⊎ (slice_get (q.held ++ reverse after) m ≡ None)) →
      (moves : Bool) (turns_left : ℕ) → 2 ≤ turns_left → Keeps on (At im w c) moves turns_left (Next (frames_with (moved f n after) around q outer)) t
  far_kept t r n at_word after pc low is st keeps moves turns_left le = goes_far t r n at_word after pc low is (first_far im places at_word (label_of b n) [] st) keeps moves turns_left le

  -- a jump with the stack as it is
  pub jumps_kept : (to : ℕ) → to < length b.labels → Begins_here → StandFrom im places from (jump_items b at ts_here to) → K (does b.program Site_here [] f.stack (OnBranches (Jumps to)))
  jumps_kept to is pc st =
      far_kept s (record { eight = refl; stack = refl; doing = refl; sized = here.together.around.sized }) to from f.stack (pc_is b at op im c row from places body is_op naming gain w f around q outer s here pc) (code_inside to pc st) is st
      (λ m. inl refl) true 1024 (omega arith)
    where
      code_inside : (n : ℕ) → Begins_here → StandFrom im places from (jump_items b at ts_here n) → from ≤ length im.code
      code_inside n pc st = let x = first_far im places from (label_of b n) [] st in inside_code im from x.upper.word (sym (fetched_at im.code from) ∙ x.upper.fetches)

  -- one that empties the stack
  pub leaves_kept : (to : ℕ) → to < length b.labels → Begins_here → StandFrom im places from (jump_items b at ts_here to) → K (does b.program Site_here [] f.stack (OnBranches (BranchLeaves to)))
  leaves_kept to is pc st =
      far_kept s (record { eight = refl; stack = refl; doing = refl; sized = here.together.around.sized }) to from [] (pc_is b at op im c row from places body is_op naming gain w f around q outer s here pc) (code_inside to pc st) is st
      (λ m. subst (λ (vs : List Value). (slice_get (q.held ++ reverse []) m ≡ slice_get (q.held ++ reverse vs) m) ⊎ (slice_get (q.held ++ reverse []) m ≡ None)) (append-nil f.stack) (dropped q.held f.stack [] m)) true 1024 (omega arith)
    where
      code_inside : (n : ℕ) → Begins_here → StandFrom im places from (jump_items b at ts_here n) → from ≤ length im.code
      code_inside n pc st = let x = first_far im places from (label_of b n) [] st in inside_code im from x.upper.word (sym (fetched_at im.code from) ∙ x.upper.fetches)

  -- Conditional jumps ------------------------------------------------------

  -- whether the jump is made, and then past it or to its target, with a stack that lost values
  jumped_if : (t : ThreadData) → Ran t → (i : Instr) (skips : Bool) (to at_word : ℕ) (after : List Value) → effect_of i t.core ≡ Goes 0 (cond skips (sum_of t.core.pc (extended 13 12)) (next_pc t.core)) →
      HasInstr im t.core.pc i → t.core.pc ≡ code_address at_word → at_word + 3 ≤ length im.code → to < length b.labels → StandFrom im places (at_word + 1) (jump_items b at ts_here to) → c.pc row (suc f.at) ≡ code_address (at_word + 3) →
      ((m : ℕ) → (slice_get (q.held ++ reverse after) m ≡ slice_get (q.held ++ reverse f.stack) m) ⊎ (slice_get (q.held ++ reverse after) m ≡ None)) →
      (is_so : Bool) → skips ≡ not is_so → Keeps on (At im w c) false 3 (jumps_if Site_here is_so to after) t
  jumped_if t r i skips to at_word after effect h pc low is st past keeps true e =
      let fits = body.short in
      let runs : t.doing ≡ Runs = r.doing ∙ here.together.goes in
      let move : effect_of i t.core ≡ Goes 0 (next_pc t.core) = effect ∙ ap (λ k. Goes 0 (cond k (sum_of t.core.pc (extended 13 12)) (next_pc t.core))) e in
      let on_pc : (jumped t (next_pc t.core)).core.pc ≡ code_address (at_word + 1) = let n = next_is t (omega arith) in omega arith in
      simulation.turns 2 (omega arith) (subst (Onward on (At im w c) 2 (jumps_if Site_here true to after)) (sym (turn_is im t i h runs ∙ ap (λ x. plain_move (machine_does t h.word x)) move))
      (simulation.goes (far_kept (jumped t (next_pc t.core)) (record { eight = r.eight; stack = r.stack; doing = r.doing; sized = record { registers = r.sized.registers; register = r.sized.register; word = r.sized.word } }) to (at_word + 1) after on_pc (omega arith) is st keeps false 2 (omega arith))))
  jumped_if t r i skips to at_word after effect h pc low is st past keeps false e =
      let fits = body.short in
      let runs : t.doing ≡ Runs = r.doing ∙ here.together.goes in
      let move : effect_of i t.core ≡ Goes 0 (sum_of t.core.pc (extended 13 12)) = effect ∙ ap (λ k. Goes 0 (cond k (sum_of t.core.pc (extended 13 12)) (next_pc t.core))) e in
      let twelve : extended 13 12 ≡ 12 = refl in
      let target : sum_of t.core.pc (extended 13 12) ≡ code_address (at_word + 3) = small_mod (t.core.pc + 12) (omega arith) ∙ omega arith in
      simulation.turns 0 (omega arith) (subst (Onward on (At im w c) 0 (jumps_if Site_here false to after)) (sym (turn_is im t i h runs ∙ ap (λ x. plain_move (machine_does t h.word x)) move))
      (simulation.goes (simulation.arrives (running (arrived t r (suc f.at) (sum_of t.core.pc (extended 13 12)) after (target ∙ sym past) keeps)))))

  not_not : (k : Bool) → k ≡ not (not k)
  not_not true = refl
  not_not false = refl

  -- the instructions in front, and the jump behind the branch over it
  pub record Split (front : List Instr) (i : Instr) (to : ℕ) : Type 0 where
    pub stands : Stands im s.core.pc front
    pub instr : HasInstr im (code_address (from + length front)) i
    pub behind : StandFrom im places (from + length front + 1) (jump_items b at ts_here to)
    pub inside : from + length front + 3 ≤ length im.code
    pub past : c.pc row (suc at) ≡ code_address (from + length front + 3) → c.pc row (suc f.at) ≡ code_address (from + length front + 3)

  split_here : (front : List Instr) (i : Instr) (to : ℕ) → AreRows front → IsRow i → Begins_here → StandFrom im places from (plain (front ++ i ∷ []) ++ jump_items b at ts_here to) → Split front i to
  split_here front i to rows row_i pc st =
      let all = front_items im places from (front ++ i ∷ []) (jump_items b at ts_here to) (rows_both front (i ∷ []) rows (row_i, tt)) st in
      let long = length-append front (i ∷ []) in
      let n : from + length (front ++ i ∷ []) ≡ from + length front + 1 = omega arith in
      let behind = subst (λ k. StandFrom im places k (jump_items b at ts_here to)) n all.behind in
      let back = stands_back im (code_address from) front (i ∷ []) all.stands in
      let e : code_address from + 4 * length front ≡ code_address (from + length front) = omega arith in
      let x = first_far im places (from + length front + 1) (label_of b to) [] behind in
      let last = there_below im.code (from + length front + 1 + 1) x.lower.word (sym (fetched_at im.code (from + length front + 1 + 1)) ∙ x.lower.fetches) in
      record {
        stands = subst (λ k. Stands im k front) (sym (pc_is b at op im c row from places body is_op naming gain w f around q outer s here pc)) (stands_front im (code_address from) front (i ∷ []) all.stands);
        instr = subst (λ k. HasInstr im k i) e back.0;
        behind = behind;
        inside = omega arith;
        past = λ h. ap (λ k. c.pc row (suc k)) here.at_is ∙ h;
      }

  struct_kept : (t : Bool) (left : Left) → K left → K (if t then Stuck else left)
  struct_kept true left go = simulation.nowhere tt
  struct_kept false left go = go

  pub gone_keeps : (gone after : List Value) → f.stack ≡ gone ++ after → (m : ℕ) → (slice_get (q.held ++ reverse after) m ≡ slice_get (q.held ++ reverse f.stack) m) ⊎ (slice_get (q.held ++ reverse after) m ≡ None)
  gone_keeps gone after e m = subst (λ (vs : List Value). (slice_get (q.held ++ reverse after) m ≡ slice_get (q.held ++ reverse vs) m) ⊎ (slice_get (q.held ++ reverse after) m ≡ None)) (sym e) (dropped q.held gone after m)

  abbrev Past : List Instr → Type 0
  Past front = c.pc row (suc at) ≡ code_address (from + length front + 3)

  -- where the value on top is true, or false
  pub jumps_where_kept : (wanted : Bool) (to : ℕ) → to < length b.labels → Begins_here → StandFrom im places from (branch_items b at ts_here (JumpsWhere wanted to)) → Past (loads_word 5 (offset_of b (from_top b at ts_here 1))) →
      K (does b.program Site_here [] f.stack (OnBranches (JumpsWhere wanted to)))
  jumps_where_kept wanted to is pc st past =
      pops_kept b at op im c row from places body is_op naming gain w f around q outer s here f.stack _ (λ v us e.
      word_kept b at op im c row from places body is_op naming gain w f around q outer s here v _ (λ kind x ev.
      struct_kept (is_struct kind) _ (by_value kind x us (e ∙ ap (λ z. z ∷ us) ev))))
    where
      skips : (k : Bool) (u : ThreadData) (x : ℕ) → register_of u.core 5 ≡ x → effect_of (unless_true k) u.core ≡ Goes 0 (cond (not (is_taken k x)) (sum_of u.core.pc (extended 13 12)) (next_pc u.core))
      skips true u x five = ap (λ a. Goes 0 (cond (a == 0) (sum_of u.core.pc (extended 13 12)) (next_pc u.core))) five ∙ ap (λ k. Goes 0 (cond k (sum_of u.core.pc (extended 13 12)) (next_pc u.core))) (not_not (x == 0))
      skips false u x five = ap (λ a. Goes 0 (cond (not (a == 0)) (sum_of u.core.pc (extended 13 12)) (next_pc u.core))) five

      unless_row : (k : Bool) → IsRow (unless_true k)
      unless_row true = (omega arith, refl, omega arith, omega arith)
      unless_row false = (omega arith, refl, omega arith, omega arith)

      by_value : (kind : Kind) (x : ℕ) (us : List Value) → f.stack ≡ Plain kind (x ∷ []) ∷ us → K (jumps_if Site_here (is_taken wanted x) to us)
      by_value kind x us e =
          let d = depth_is b at op im c row from places body is_op naming gain w f around q outer s here in
          let a = first_held b at op im c row from places body is_op naming gain w f around q outer s here in
          let n : length f.stack ≡ suc (length us) = ap length e in
          let k : from_top b at ts_here 1 ≡ length q.held + length us = omega arith in
          let kk = inside_plan b at op im c row from places body is_op naming gain w f around q outer s here (from_top b at ts_here 1) (omega arith) in
          let there = word_there here.together (from_top b at ts_here 1) kind x kk (ap (now here.together top) k ∙ stands_there b at op im c row from places body is_op naming gain w f around q outer s here [] us (Plain kind (x ∷ [])) e) in
          let r = room here.together (from_top b at ts_here 1) kk in
          let r1 = r.short in
          let r2 = r.inside in
          let same : offset here.together (from_top b at ts_here 1) ≡ offset_of b (from_top b at ts_here 1) = ap (λ (p : Plan). slice_index p.offsets (from_top b at ts_here 1)) (plan_here b at op im c row from places body is_op naming gain w f around q outer s here) in
          let split = split_here (loads_word 5 (offset_of b (from_top b at ts_here 1))) (unless_true wanted) to (loads_rows 5 (offset_of b (from_top b at ts_here 1)) (omega arith) (omega arith)) (unless_row wanted) pc st in
          let inside = split.inside in
          let fits = body.short in
          let begin = pc_is b at op im c row from places body is_op naming gain w f around q outer s here pc in
          then_branch split there.0
          (subst (λ o. Set s (loads_word 5 o) 5 (mem_of s.stack (base here.together + offset here.together (from_top b at ts_here 1)))) same
          (loads (in_current here.together) 5 (offset here.together (from_top b at ts_here 1)) r1 (let one = there.1 in omega arith) refl (omega arith) (omega arith)))
        where
          then_branch : Split (loads_word 5 (offset_of b (from_top b at ts_here 1))) (unless_true wanted) to → mem_of s.stack (base here.together + offset here.together (from_top b at ts_here 1)) ≡ x →
              Set s (loads_word 5 (offset_of b (from_top b at ts_here 1))) 5 (mem_of s.stack (base here.together + offset here.together (from_top b at ts_here 1))) → K (jumps_if Site_here (is_taken wanted x) to us)
          then_branch split word y =
              let begin = pc_is b at op im c row from places body is_op naming gain w f around q outer s here pc in
              let at_branch : y.t.core.pc ≡ code_address (from + length (loads_word 5 (offset_of b (from_top b at ts_here 1)))) = let h = run_pc y.run in omega arith in
              let ran : Ran y.t = record { eight = y.others 8 (λ z. omega (arith, z)) (λ z. omega (arith, z)); stack = y.stack; doing = run_doing y.run; sized = y.sized } in
              let few = loads_short 5 (offset_of b (from_top b at ts_here 1)) in
              run_first y.run (loads_some 5 (offset_of b (from_top b at ts_here 1))) 3 1024 split.stands
              (jumped_if y.t ran (unless_true wanted) (not (is_taken wanted x)) to (from + length (loads_word 5 (offset_of b (from_top b at ts_here 1)))) us (skips wanted y.t x (y.value ∙ word))
              (subst (λ n. HasInstr im n (unless_true wanted)) (sym at_branch) split.instr) at_branch split.inside is split.behind (split.past past) (gone_keeps (Plain kind (x ∷ []) ∷ []) us e) (is_taken wanted x) refl)
              (omega arith)

  -- Both operands are loaded.
  pub record Both (t : ThreadData) (front : List Instr) (x y : ℕ) : Type 0 where
    pub run : Run s front t
    pub ran : Ran t
    pub five : register_of t.core 5 ≡ x
    pub six : register_of t.core 6 ≡ y

  both_loaded : (first second x y : ℕ) (ka kb : Kind) → first < place_count here.together → second < place_count here.together → now here.together top first ≡ Some (Plain ka (x ∷ [])) → now here.together top second ≡ Some (Plain kb (y ∷ [])) → s.core.pc < 2 ^ 40 →
      (t : ThreadData) × Both t (loads_word 5 (offset here.together first) ++ loads_word 6 (offset here.together second)) x y
  both_loaded first second x y ka kb ff ss is_x is_y low =
      let wx = word_there here.together first ka x ff is_x in
      let r = room here.together first ff in
      let r1 = r.short in
      let r2 = r.inside in
      then_second wx (loads (in_current here.together) 5 (offset here.together first) r1 (let one = wx.1 in omega arith) refl (omega arith) (omega arith))
    where
      then_second : (mem_of s.stack (base here.together + offset here.together first) ≡ x) × (1 ≤ width here.together first) → Set s (loads_word 5 (offset here.together first)) 5 (mem_of s.stack (base here.together + offset here.together first)) →
          (t : ThreadData) × Both t (loads_word 5 (offset here.together first) ++ loads_word 6 (offset here.together second)) x y
      then_second wx a =
          let pc = run_pc a.run in
          let few = loads_short 5 (offset here.together first) in
          let wy = word_there here.together second kb y ss is_y in
          let r = room here.together second ss in
          let r1 = r.short in
          let r2 = r.inside in
          let f' = in_frame (in_current here.together) (a.others 8 (λ z. omega (arith, z)) (λ z. omega (arith, z))) (ap (λ (k : StackWords). length k.words) a.stack) a.sized in
          last wx wy a (loads f' 6 (offset here.together second) r1 (subst (λ (k : StackWords). base here.together + offset here.together second < length k.words) (sym a.stack) (let one = wy.1 in omega arith)) refl (omega arith) (omega arith))
        where
          last : (mem_of s.stack (base here.together + offset here.together first) ≡ x) × (1 ≤ width here.together first) → (mem_of s.stack (base here.together + offset here.together second) ≡ y) × (1 ≤ width here.together second) →
              (a : Set s (loads_word 5 (offset here.together first)) 5 (mem_of s.stack (base here.together + offset here.together first))) → Set a.t (loads_word 6 (offset here.together second)) 6 (mem_of a.t.stack (base here.together + offset here.together second)) →
              (t : ThreadData) × Both t (loads_word 5 (offset here.together first) ++ loads_word 6 (offset here.together second)) x y
          last wx wy a d = (
            d.t,
            record {
              run = run_then a.run d.run;
              ran = record { eight = d.others 8 (λ z. omega (arith, z)) (λ z. omega (arith, z)) ∙ a.others 8 (λ z. omega (arith, z)) (λ z. omega (arith, z)); stack = d.stack ∙ a.stack; doing = run_doing d.run ∙ run_doing a.run; sized = d.sized };
              five = d.others 5 (λ z. omega (arith, z)) (λ z. omega (arith, z)) ∙ a.value ∙ wx.0;
              six = d.value ∙ ap (λ (k : StackWords). mem_of k (base here.together + offset here.together second)) a.stack ∙ wy.0;
            },
          )

  abbrev loads_both : ℕ → ℕ → List Instr
  loads_both first second = loads_word 5 first ++ loads_word 6 second

  -- where two values compare so
  pub jumps_by_kept : (form : Comparison) (to : ℕ) → to < length b.labels → Begins_here → StandFrom im places from (branch_items b at ts_here (JumpsBy form to)) → Past (loads_both (offset_of b (from_top b at ts_here 2)) (offset_of b (from_top b at ts_here 1))) →
      K (does b.program Site_here [] f.stack (OnBranches (JumpsBy form to)))
  jumps_by_kept form to is pc st past =
      words_kept b at op im c row from places body is_op naming gain w f around q outer s here f.stack _ (λ ka x kb y us e.
      if_kept b at op im c row from places body is_op naming gain w f around q outer s here (are_compared form ka kb) _ (λ t. by_values ka kb x y us e))
    where
      unless_b : (is_signed : Bool) (u : ThreadData) (x y : ℕ) → register_of u.core 5 ≡ x → register_of u.core 6 ≡ y → effect_of (unless_below is_signed 5 6) u.core ≡ Goes 0 (cond (not (is_below is_signed x y)) (sum_of u.core.pc (extended 13 12)) (next_pc u.core))
      unless_b true u x y five six = ap₂ (λ a d. Goes 0 (cond (not (int_lt (signed a) (signed d))) (sum_of u.core.pc (extended 13 12)) (next_pc u.core))) five six
      unless_b false u x y five six = ap₂ (λ a d. Goes 0 (cond (not (nat_lt a d)) (sum_of u.core.pc (extended 13 12)) (next_pc u.core))) five six

      unless_a : (is_signed : Bool) (u : ThreadData) (x y : ℕ) → register_of u.core 5 ≡ x → register_of u.core 6 ≡ y → effect_of (unless_below is_signed 6 5) u.core ≡ Goes 0 (cond (not (is_below is_signed y x)) (sum_of u.core.pc (extended 13 12)) (next_pc u.core))
      unless_a true u x y five six = ap₂ (λ a d. Goes 0 (cond (not (int_lt (signed d) (signed a))) (sum_of u.core.pc (extended 13 12)) (next_pc u.core))) five six
      unless_a false u x y five six = ap₂ (λ a d. Goes 0 (cond (not (nat_lt d a)) (sum_of u.core.pc (extended 13 12)) (next_pc u.core))) five six

      where_b : (is_signed : Bool) (u : ThreadData) (x y : ℕ) → register_of u.core 5 ≡ x → register_of u.core 6 ≡ y → effect_of (where_below is_signed 5 6) u.core ≡ Goes 0 (cond (is_below is_signed x y) (sum_of u.core.pc (extended 13 12)) (next_pc u.core))
      where_b true u x y five six = ap₂ (λ a d. Goes 0 (cond (int_lt (signed a) (signed d)) (sum_of u.core.pc (extended 13 12)) (next_pc u.core))) five six
      where_b false u x y five six = ap₂ (λ a d. Goes 0 (cond (nat_lt a d) (sum_of u.core.pc (extended 13 12)) (next_pc u.core))) five six

      where_a : (is_signed : Bool) (u : ThreadData) (x y : ℕ) → register_of u.core 5 ≡ x → register_of u.core 6 ≡ y → effect_of (where_below is_signed 6 5) u.core ≡ Goes 0 (cond (is_below is_signed y x) (sum_of u.core.pc (extended 13 12)) (next_pc u.core))
      where_a true u x y five six = ap₂ (λ a d. Goes 0 (cond (int_lt (signed d) (signed a)) (sum_of u.core.pc (extended 13 12)) (next_pc u.core))) five six
      where_a false u x y five six = ap₂ (λ a d. Goes 0 (cond (nat_lt d a) (sum_of u.core.pc (extended 13 12)) (next_pc u.core))) five six

      as_not : (u : ThreadData) (k : Bool) → Goes 0 (cond k (sum_of u.core.pc (extended 13 12)) (next_pc u.core)) ≡ Goes 0 (cond (not (not k)) (sum_of u.core.pc (extended 13 12)) (next_pc u.core))
      as_not u k = ap (λ z. Goes 0 (cond z (sum_of u.core.pc (extended 13 12)) (next_pc u.core))) (not_not k)

      skips : (k : Comparison) (u : ThreadData) (x y : ℕ) → register_of u.core 5 ≡ x → register_of u.core 6 ≡ y → effect_of (unless_instr k) u.core ≡ Goes 0 (cond (not (holds k x y)) (sum_of u.core.pc (extended 13 12)) (next_pc u.core))
      skips Equal u x y five six = ap₂ (λ a d. Goes 0 (cond (not (a == d)) (sum_of u.core.pc (extended 13 12)) (next_pc u.core))) five six
      skips Unequal u x y five six = ap₂ (λ a d. Goes 0 (cond (a == d) (sum_of u.core.pc (extended 13 12)) (next_pc u.core))) five six ∙ as_not u (x == y)
      skips (Less is_signed) u x y five six = unless_b is_signed u x y five six
      skips (LessOrEqual is_signed) u x y five six = where_a is_signed u x y five six ∙ as_not u (is_below is_signed y x)
      skips (Greater is_signed) u x y five six = unless_a is_signed u x y five six
      skips (GreaterOrEqual is_signed) u x y five six = where_b is_signed u x y five six ∙ as_not u (is_below is_signed x y)

      unless_rows : (is_signed : Bool) (a d : ℕ) → a < 32 → d < 32 → IsRow (unless_below is_signed a d)
      unless_rows true a d la ld = (omega arith, refl, ld, la)
      unless_rows false a d la ld = (omega arith, refl, ld, la)

      where_rows : (is_signed : Bool) (a d : ℕ) → a < 32 → d < 32 → IsRow (where_below is_signed a d)
      where_rows true a d la ld = (omega arith, refl, ld, la)
      where_rows false a d la ld = (omega arith, refl, ld, la)

      row_of_test : (k : Comparison) → IsRow (unless_instr k)
      row_of_test Equal = (omega arith, refl, omega arith, omega arith)
      row_of_test Unequal = (omega arith, refl, omega arith, omega arith)
      row_of_test (Less is_signed) = unless_rows is_signed 5 6 (omega arith) (omega arith)
      row_of_test (LessOrEqual is_signed) = where_rows is_signed 6 5 (omega arith) (omega arith)
      row_of_test (Greater is_signed) = unless_rows is_signed 6 5 (omega arith) (omega arith)
      row_of_test (GreaterOrEqual is_signed) = where_rows is_signed 5 6 (omega arith) (omega arith)

      by_values : (ka kb : Kind) (x y : ℕ) (us : List Value) → f.stack ≡ Plain kb (y ∷ []) ∷ Plain ka (x ∷ []) ∷ us → K (jumps_if Site_here (holds form x y) to us)
      by_values ka kb x y us e =
          let d = depth_is b at op im c row from places body is_op naming gain w f around q outer s here in
          let a = first_held b at op im c row from places body is_op naming gain w f around q outer s here in
          let n : length f.stack ≡ suc (suc (length us)) = ap length e in
          let k1 : from_top b at ts_here 2 ≡ length q.held + length us = omega arith in
          let k2 : from_top b at ts_here 1 ≡ length q.held + length (Plain ka (x ∷ []) ∷ us) = omega arith in
          let ff = inside_plan b at op im c row from places body is_op naming gain w f around q outer s here (from_top b at ts_here 2) (omega arith) in
          let ss = inside_plan b at op im c row from places body is_op naming gain w f around q outer s here (from_top b at ts_here 1) (omega arith) in
          let same1 : offset here.together (from_top b at ts_here 2) ≡ offset_of b (from_top b at ts_here 2) = ap (λ (p : Plan). slice_index p.offsets (from_top b at ts_here 2)) (plan_here b at op im c row from places body is_op naming gain w f around q outer s here) in
          let same2 : offset here.together (from_top b at ts_here 1) ≡ offset_of b (from_top b at ts_here 1) = ap (λ (p : Plan). slice_index p.offsets (from_top b at ts_here 1)) (plan_here b at op im c row from places body is_op naming gain w f around q outer s here) in
          let r1 = (room here.together (from_top b at ts_here 2) ff).short in
          let r2 = (room here.together (from_top b at ts_here 1) ss).short in
          let rows = rows_both (loads_word 5 (offset_of b (from_top b at ts_here 2))) (loads_word 6 (offset_of b (from_top b at ts_here 1))) (loads_rows 5 (offset_of b (from_top b at ts_here 2)) (omega arith) (omega arith)) (loads_rows 6 (offset_of b (from_top b at ts_here 1)) (omega arith) (omega arith)) in
          let split = split_here (loads_both (offset_of b (from_top b at ts_here 2)) (offset_of b (from_top b at ts_here 1))) (unless_instr form) to rows (row_of_test form) pc st in
          let inside = split.inside in
          let fits = body.short in
          let begin = pc_is b at op im c row from places body is_op naming gain w f around q outer s here pc in
          let l = both_loaded (from_top b at ts_here 2) (from_top b at ts_here 1) x y ka kb ff ss
          (ap (now here.together top) k1 ∙ stands_there b at op im c row from places body is_op naming gain w f around q outer s here (Plain kb (y ∷ []) ∷ []) us (Plain ka (x ∷ [])) e)
          (ap (now here.together top) k2 ∙ stands_there b at op im c row from places body is_op naming gain w f around q outer s here [] (Plain ka (x ∷ []) ∷ us) (Plain kb (y ∷ [])) e)
          (omega arith) in
          then_branch split l.0 (subst (λ o. Both l.0 (loads_both o (offset_of b (from_top b at ts_here 1))) x y) same1 (subst (λ o. Both l.0 (loads_both (offset here.together (from_top b at ts_here 2)) o) x y) same2 l.1))
        where
          then_branch : Split (loads_both (offset_of b (from_top b at ts_here 2)) (offset_of b (from_top b at ts_here 1))) (unless_instr form) to → (t : ThreadData) → Both t (loads_both (offset_of b (from_top b at ts_here 2)) (offset_of b (from_top b at ts_here 1))) x y → K (jumps_if Site_here (holds form x y) to us)
          then_branch split t l =
              let begin = pc_is b at op im c row from places body is_op naming gain w f around q outer s here pc in
              let at_branch : t.core.pc ≡ code_address (from + length (loads_both (offset_of b (from_top b at ts_here 2)) (offset_of b (from_top b at ts_here 1)))) = let h = run_pc l.run in omega arith in
              let few1 = loads_short 5 (offset_of b (from_top b at ts_here 2)) in
              let few2 = loads_short 6 (offset_of b (from_top b at ts_here 1)) in
              let some = loads_some 5 (offset_of b (from_top b at ts_here 2)) in
              let long = length-append (loads_word 5 (offset_of b (from_top b at ts_here 2))) (loads_word 6 (offset_of b (from_top b at ts_here 1))) in
              run_first l.run (omega arith) 3 1024 split.stands
              (jumped_if t l.ran (unless_instr form) (not (holds form x y)) to (from + length (loads_both (offset_of b (from_top b at ts_here 2)) (offset_of b (from_top b at ts_here 1)))) us (skips form t x y l.five l.six)
              (subst (λ n. HasInstr im n (unless_instr form)) (sym at_branch) split.instr) at_branch split.inside is split.behind (split.past past) (gone_keeps (Plain kb (y ∷ []) ∷ Plain ka (x ∷ []) ∷ []) us e) (holds form x y) refl)
              (omega arith)
