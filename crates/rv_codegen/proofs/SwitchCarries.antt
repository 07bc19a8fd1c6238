-- The jump through a table: its code keeps to the instruction.
use Rattle.std.proofs.Common.{◌≡◌, ◌⊎◌, ℕ, zero, suc, ◌+◌, ◌*◌, ◌%◌, ◌^◌, ◌<◌, ◌≤◌, Bool, true, false, cond, nat_lt, ◌==◌, List, [], ◌∷◌, ◌++◌, length, reverse, flat_map, slice_get, slice_index, Option, Some, None, Result, Ok, Err, refl, sym, ap, ap₂, ◌∙◌, subst, arith, ltb-true, ltb-false}
use Rattle.std.proofs.lemmas.List.{append_assoc, length-append}
use Rattle.type_tree.specs.declared.tree.TExpr.{TExpr}
use Rattle.mn_outside.specs.declared.places.Label.{Label}
use Rattle.il_model.specs.declared.op.Op.{Op}
use Rattle.interaction.specs.Process.{Naming}
use Rattle.interaction.specs.Simulation.{Sides, Keeps, Onward}
use Rattle.interaction.specs.Simulation as simulation
use Rattle.store_object.specs.declared.request.Request.{Request}
use Rattle.store_object.specs.declared.reply.Reply.{Reply}
use Rattle.cil_flow.specs.declared.plan.Plan.{Plan}
use Rattle.cil_flow.specs.declared.state.StackType.{StackType}
use Rattle.cil_meaning.specs.Words.{narrow}
use Rattle.cil_meaning.specs.Values.{Kind, Value, Plain, is_int32}
use Rattle.cil_meaning.specs.Naming.{Mention}
use Rattle.cil_meaning.specs.Frames.{Frame, Places, Frames}
use Rattle.cil_meaning.specs.Replies.{Left}
use Rattle.cil_meaning.specs.Site.{Site, goes, goes_to, op_at}
use Rattle.cil_meaning.specs.Groups.{Chooses, OnBranches}
use Rattle.cil_meaning.specs.Branches.{chooses}
use Rattle.cil_meaning.specs.Meaning.{does}
use Rattle.rgctx_words.specs.Stacks.{mem_of}
use Rattle.rv_isa.specs.declared.instr.Instr.{Instr}
use Rattle.rv_isa.specs.declared.instr.Instr.TheVariants as rv
use Rattle.rv_isa.specs.declared.item.Item.{Item}
use Rattle.rv_isa.specs.declared.item.Item.TheVariants as item
use Rattle.rv_isa.specs.declared.fault.AsmFault.{AsmFault}
use Rattle.rv_isa.specs.Assembly.{words_from, joined, far_words, place_of as label_place}
use Rattle.rv_isa.specs.Word.{word_of}
use Rattle.rv_machine.specs.Arithmetic.{extended, sum_of, left_shift_of}
use Rattle.rv_machine.specs.declared.effect.Effect.TheVariants.{Sets, Goes}
use Rattle.rv_machine.specs.Effect.{effect_of, even}
use Rattle.rv_machine.specs.Registers.{register_of, next_pc}
use Rattle.rgctx_fill.specs.declared.doing.Doing.TheVariants.{Runs}
use Rattle.rgctx_fill.specs.ThreadStates.{ImageData, ThreadData}
use Rattle.rgctx_fill.specs.ThreadStates.{plain as plain_move}
use Rattle.rgctx_fill.specs.MachineTurns.{sets, does as machine_does}
use Rattle.rgctx_fill.specs.Constructed.{IsSized}
use Rattle.rgctx_fill.specs.Standing.{Compiled, At, sides}
use Rattle.rgctx_fill.proofs.MachineLemmas.{HasInstr, turn_is, Stands, stands_front, stands_back, Run, stop, step, run_then, run_pc, run_keeps, register_same, register_other}
use Rattle.rv_codegen.specs.FrameWords.{loads_word}
use Rattle.rv_codegen.specs.Constants.{sets_word, sets_narrow, sets_wide}
use Rattle.rv_codegen.specs.Carried.{StandFrom, code_address, IsBodyOf, StandsAt, AreLabelled}
use Rattle.rv_codegen.specs.PlainItems.{BodyData, label_of, jump_items, switch_items, plain, stack_of, offset_of, from_top}
use Rattle.rv_codegen.proofs.StraightLemmas.{Set, by_if, next_is, set_by, sized_sets, loads, small_mod, loads_short, loads_some}
use Rattle.rv_codegen.proofs.ItemLemmas.{AreRows, rows_both, loads_rows, front_items, fetched_at, there_below}
use Rattle.rv_codegen.proofs.FormLemmas.{run_doing}
use Rattle.rv_codegen.proofs.PlaceLemmas.{now, places as place_count, offset, room, word_there, in_current, base}
use Rattle.rv_codegen.proofs.CalcLemmas.{mod_small}
use Rattle.rv_codegen.proofs.ConstantLemmas.{word_set, word_few, narrow_rows}
use Rattle.rv_codegen.proofs.JumpCarries.{Far, first_far, upper_part, lower_part, Ran, jumped, goes_far, run_first, gone_keeps}
use Rattle.rv_codegen.proofs.NumberCarries.{pops_kept, word_kept, if_kept, plan_here, depth_is, first_held, inside_plan, stands_there}
use Rattle.rv_codegen.proofs.CarryLemmas.{site, Kept_to, pc_is}

-- what stands behind a far jump
behind_far : (im : ImageData) (places : List (Option ℕ)) (from : ℕ) (l : Label) (items : List Item) → StandFrom im places from (item.Far l ∷ items) → StandFrom im places (from + 2) items
behind_far im places from l items st = by_place (label_place places l.number) refl (words_from places (from + 2) items) refl st.assembled
  where
    by_place : (o : Option ℕ) → label_place places l.number ≡ o → (r : Result (List ℕ) AsmFault) → words_from places (from + 2) items ≡ r → joined (far_words from l.number o) r ≡ Ok st.words → StandFrom im places (from + 2) items
    by_place None e r e' j = absurd (cc j)
    by_place (Some to) e (Err fault) e' j = absurd (cc j)
    by_place (Some to) e (Ok more) e' j =
        let words : word_of (rv.Auipc 6 (upper_part from to)) ∷ word_of (rv.Jalr 0 6 (lower_part from to)) ∷ more ≡ st.words = cc j in
        record {
          words = more;
          assembled = e';
          there = λ k word is.
              let n : from + suc (suc k) ≡ from + 2 + k = omega arith in
              subst (λ m. slice_get im.code m ≡ Some word) n (st.there (suc (suc k)) word (ap (λ (ws : List ℕ). slice_get ws (suc (suc k))) (sym words) ∙ is));
        }

far_within : (im : ImageData) (places : List (Option ℕ)) (from : ℕ) (l : Label) → Far im places from l → from + 2 ≤ length im.code
far_within im places from l x = let h = there_below im.code (from + 1) x.lower.word (sym (fetched_at im.code (from + 1)) ∙ x.lower.fetches) in omega arith

-- the jumps of a table, two code words each
module _ (b : BodyData) (at : ℕ) (types : List StackType) (im : ImageData) (places : List (Option ℕ)) where
  table_within : (from : ℕ) (targets : List ℕ) → from ≤ length im.code → StandFrom im places from (flat_map (jump_items b at types) targets) → from + 2 * length targets ≤ length im.code
  table_within from [] le st = omega arith
  table_within from (to ∷ targets) le st =
      let h = far_within im places from (label_of b to) (first_far im places from (label_of b to) (flat_map (jump_items b at types) targets) st) in
      let r = table_within (from + 2) targets h (behind_far im places from (label_of b to) (flat_map (jump_items b at types) targets) st) in
      omega arith

  table_at : (from : ℕ) (targets : List ℕ) (n to : ℕ) → StandFrom im places from (flat_map (jump_items b at types) targets) → slice_get targets n ≡ Some to → Far im places (from + 2 * n) (label_of b to)
  table_at from [] n to st is = absurd (cc is)
  table_at from (t ∷ targets) zero to st is =
      let e : t ≡ to = cc is in
      let z : from ≡ from + 2 * 0 = omega arith in
      subst (λ k. Far im places k (label_of b to)) z (subst (λ k. Far im places from (label_of b k)) e (first_far im places from (label_of b t) (flat_map (jump_items b at types) targets) st))
  table_at from (t ∷ targets) (suc n) to st is =
      let z : from + 2 + 2 * n ≡ from + 2 * suc n = omega arith in
      subst (λ k. Far im places k (label_of b to)) z (table_at (from + 2) targets n to (behind_far im places from (label_of b t) (flat_map (jump_items b at types) targets) st) is)

labelled_at : (b : BodyData) (targets : List ℕ) (n to : ℕ) → AreLabelled b targets → slice_get targets n ≡ Some to → to < length b.labels
labelled_at b [] n to all is = absurd (cc is)
labelled_at b (t ∷ targets) zero to all is = let e : t ≡ to = cc is in subst (λ k. k < length b.labels) e all.0
labelled_at b (t ∷ targets) (suc n) to all is = labelled_at b targets n to all.1 is

-- a table has a target for each number below its length, and no other
there_or_past : (xs : List ℕ) (n : ℕ) (t : Bool) → nat_lt n (length xs) ≡ t → (slice_get xs n ≡ cond t (slice_get xs n) None)
there_or_past xs n true e = refl
there_or_past xs n false e = past xs n (ltb-false n (length xs) e)
  where
    past : (ys : List ℕ) (k : ℕ) → length ys ≤ k → slice_get ys k ≡ None
    past [] k le = refl
    past (y ∷ ys) zero le = absurd (omega arith)
    past (y ∷ ys) (suc k) le = past ys k (omega arith)

there_is : (xs : List ℕ) (n : ℕ) → n < length xs → (x : ℕ) × (slice_get xs n ≡ Some x)
there_is [] n low = absurd (omega arith)
there_is (x ∷ xs) zero low = (x, refl)
there_is (x ∷ xs) (suc n) low = there_is xs n (omega arith)

constant_rows : (rd word : ℕ) → rd < 32 → AreRows (sets_word rd word)
constant_rows rd word lt =
    by_if AreRows (narrow word == word) (sets_narrow rd (word % 2 ^ 32)) (sets_wide rd word)
    (λ t. narrow_rows rd (word % 2 ^ 32) lt)
    (λ t. ((omega arith, lt), ((omega arith, lt, lt), ((omega arith, lt, lt), ((omega arith, lt, lt), ((omega arith, lt, lt), ((omega arith, lt, lt), ((omega arith, lt, lt), ((omega arith, lt, lt), tt)))))))))

-- eight bytes for each target before it
table_target : (pc n : ℕ) → pc < 2 ^ 40 → n < 2 ^ 40 → (pc + n * 2 ^ 3 % 2 ^ 64) % 2 ^ 64 ≡ pc + 8 * n
table_target pc n small few = omega arith

even_target : (at n : ℕ) → at ≤ 268435456 → n ≤ 268435456 → even (sum_of (code_address (at + 3) + 8 * n) 16) ≡ code_address (at + 7 + 2 * n)
even_target at n small few = omega arith

-- the code of the table's jump, behind the test
abbrev into_table : List Instr
into_table = rv.Auipc 7 0 ∷ rv.Slli 5 5 3 ∷ rv.Add 7 7 5 ∷ rv.Jalr 0 7 16 ∷ []

table_rows : AreRows into_table
table_rows = ((omega arith, omega arith), ((omega arith, omega arith, omega arith), ((omega arith, omega arith, omega arith), ((omega arith, omega arith, omega arith), tt))))

module _ (b : BodyData) (at : ℕ) (op : Op) (im : ImageData) (c : Compiled) (row from : ℕ) (places : List (Option ℕ)) (body : IsBodyOf b im c row places) (is_op : op_at b.method at ≡ Some op)
    (naming : Naming Mention TExpr) (gain : ThreadData → ℕ) (w : ℕ → ℕ) (f : Frame) (around : List Frame) (q : Places) (outer : List Places) (s : ThreadData)
    (here : StandsAt b at op im c row from w f around q outer s) where
  abbrev K : Left → Type 0
  K left = Kept_to b at op im c row from places body is_op naming gain w f around q outer s here left

  abbrev top : ℕ
  top = here.together.top

  abbrev ts_here : List StackType
  ts_here = stack_of (slice_get b.states at)

  abbrev Site_here : Site
  Site_here = site b at op im c row from places body is_op naming gain w f around q outer s here

  abbrev Begins_here : Type 0
  Begins_here = c.pc row at ≡ code_address from

  abbrev on : Sides Mention TExpr Request Reply Frames ThreadData
  on = sides im naming gain w

  abbrev HasRun : ThreadData → Type 0
  HasRun t = Ran b at op im c row from places body is_op naming gain w f around q outer s here t

  abbrev went : ThreadData → ℕ → ThreadData
  went t target = jumped b at op im c row from places body is_op naming gain w f around q outer s here t target

  abbrev front : ℕ → ℕ → List Instr
  front off many = loads_word 5 off ++ sets_word 6 many

  -- a turn of an instruction that jumps
  goes_by : (t : ThreadData) (i : Instr) (target m : ℕ) (left : Left) → t.doing ≡ Runs → HasInstr im t.core.pc i → effect_of i t.core ≡ Goes 0 target → Keeps on (At im w c) false m left (went t target) → Keeps on (At im w c) false (suc m) left t
  goes_by t i target m left runs h move k =
      simulation.turns m (omega arith) (subst (Onward on (At im w c) m left) (sym (turn_is im t i h runs ∙ ap (λ x. plain_move (machine_does t h.word x)) move)) (simulation.goes k))

  -- where the parts of the code stand
  record Parts (off : ℕ) (targets : List ℕ) : Type 0 where
    begins : Stands im s.core.pc (front off (length targets))
    test : HasInstr im (code_address (from + length (front off (length targets)))) (rv.Bltu 5 6 12)
    past : Far im places (from + length (front off (length targets)) + 1) (label_of b (suc at))
    into : Stands im (code_address (from + length (front off (length targets)) + 3)) into_table
    table : StandFrom im places (from + length (front off (length targets)) + 7) (flat_map (jump_items b at ts_here) targets)
    within : from + length (front off (length targets)) + 7 + 2 * length targets ≤ length im.code

  parts_of : (targets : List ℕ) → offset_of b (from_top b at ts_here 1) < 65536 → Begins_here → StandFrom im places from (switch_items b at ts_here targets) → Parts (offset_of b (from_top b at ts_here 1)) targets
  parts_of targets low pc st =
      let off = offset_of b (from_top b at ts_here 1) in
      let first = front off (length targets) ++ rv.Bltu 5 6 12 ∷ [] in
      let table = flat_map (jump_items b at ts_here) targets in
      let rows : AreRows first = rows_both (front off (length targets)) (rv.Bltu 5 6 12 ∷ []) (rows_both (loads_word 5 off) (sets_word 6 (length targets)) (loads_rows 5 off (omega arith) low) (constant_rows 6 (length targets) (omega arith))) ((omega arith, refl, omega arith, omega arith), tt) in
      let nested : StandFrom im places from (plain first ++ (item.Far (label_of b (suc at)) ∷ (plain into_table ++ table))) =
      subst (StandFrom im places from) (append_assoc (plain first ++ jump_items b at ts_here (suc at)) (plain into_table) table ∙ append_assoc (plain first) (jump_items b at ts_here (suc at)) (plain into_table ++ table)) st in
      let all = front_items im places from first (item.Far (label_of b (suc at)) ∷ (plain into_table ++ table)) rows nested in
      let long : length first ≡ length (front off (length targets)) + 1 = length-append (front off (length targets)) (rv.Bltu 5 6 12 ∷ []) in
      let n : from + length first ≡ from + length (front off (length targets)) + 1 = omega arith in
      let behind = subst (λ k. StandFrom im places k (item.Far (label_of b (suc at)) ∷ (plain into_table ++ table))) n all.behind in
      let jump = first_far im places (from + length (front off (length targets)) + 1) (label_of b (suc at)) (plain into_table ++ table) behind in
      let n' : from + length (front off (length targets)) + 1 + 2 ≡ from + length (front off (length targets)) + 3 = omega arith in
      let rest = subst (λ k. StandFrom im places k (plain into_table ++ table)) n' (behind_far im places (from + length (front off (length targets)) + 1) (label_of b (suc at)) (plain into_table ++ table) behind) in
      let last = front_items im places (from + length (front off (length targets)) + 3) into_table table table_rows rest in
      let n'' : from + length (front off (length targets)) + 3 + 4 ≡ from + length (front off (length targets)) + 7 = omega arith in
      let behind' = subst (λ k. StandFrom im places k table) n'' last.behind in
      let e : code_address from + 4 * length (front off (length targets)) ≡ code_address (from + length (front off (length targets))) = omega arith in
      let a6 : code_address (from + length (front off (length targets)) + 3) + 4 + 4 + 4 ≡ code_address (from + length (front off (length targets)) + 6) = omega arith in
      let h6 = subst (λ k. HasInstr im k (rv.Jalr 0 7 16)) a6 last.stands.1.1.1.0 in
      let below = there_below im.code (from + length (front off (length targets)) + 6) h6.word (sym (fetched_at im.code (from + length (front off (length targets)) + 6)) ∙ h6.fetches) in
      record {
        begins = subst (λ k. Stands im k (front off (length targets))) (sym (pc_is b at op im c row from places body is_op naming gain w f around q outer s here pc)) (stands_front im (code_address from) (front off (length targets)) (rv.Bltu 5 6 12 ∷ []) all.stands);
        test = subst (λ k. HasInstr im k (rv.Bltu 5 6 12)) e (stands_back im (code_address from) (front off (length targets)) (rv.Bltu 5 6 12 ∷ []) all.stands).0;
        past = jump;
        into = last.stands;
        table = behind';
        within = table_within b at ts_here im places (from + length (front off (length targets)) + 7) targets (omega arith) behind';
      }

  -- the number and the length of the table are in registers
  record Readied (t : ThreadData) (off many x : ℕ) : Type 0 where
    run : Run s (front off many) t
    ran : HasRun t
    five : register_of t.core 5 ≡ x
    six : register_of t.core 6 ≡ many

  readied : (k x many : ℕ) (kind : Kind) → k < place_count here.together → now here.together top k ≡ Some (Plain kind (x ∷ [])) → many < 2 ^ 64 → s.core.pc < 2 ^ 40 → (t : ThreadData) × Readied t (offset here.together k) many x
  readied k x many kind kk is small low =
      let r = room here.together k kk in
      let r1 = r.short in
      let r2 = r.inside in
      let there = word_there here.together k kind x kk is in
      then_set there (loads (in_current here.together) 5 (offset here.together k) r1 (let one = there.1 in omega arith) refl (omega arith) (omega arith))
    where
      then_set : (mem_of s.stack (base here.together + offset here.together k) ≡ x) × (1 ≤ slice_index (c.plan here.together.row).widths k) → Set s (loads_word 5 (offset here.together k)) 5 (mem_of s.stack (base here.together + offset here.together k)) → (t : ThreadData) × Readied t (offset here.together k) many x
      then_set there y =
          let pc = run_pc y.run in
          let few = loads_short 5 (offset here.together k) in
          both there y (word_set y.t y.sized 6 refl (omega arith) many small (omega arith))
        where
          both : (mem_of s.stack (base here.together + offset here.together k) ≡ x) × (1 ≤ slice_index (c.plan here.together.row).widths k) → (y : Set s (loads_word 5 (offset here.together k)) 5 (mem_of s.stack (base here.together + offset here.together k))) → Set y.t (sets_word 6 many) 6 many → (t : ThreadData) × Readied t (offset here.together k) many x
          both there y z = (
            z.t,
            record {
              run = run_then y.run z.run;
              ran = record { eight = z.others 8 (λ e. omega (arith, e)) (λ e. omega (arith, e)) ∙ y.others 8 (λ e. omega (arith, e)) (λ e. omega (arith, e)); stack = z.stack ∙ y.stack; doing = run_doing z.run ∙ run_doing y.run; sized = z.sized };
              five = z.others 5 (λ e. omega (arith, e)) (λ e. omega (arith, e)) ∙ y.value ∙ there.0;
              six = z.value;
            },
          )

  -- x7 is where the jump to a target stands, but for four code words
  record Led (t u : ThreadData) (n : ℕ) : Type 0 where
    run : Run t (rv.Auipc 7 0 ∷ rv.Slli 5 5 3 ∷ rv.Add 7 7 5 ∷ []) u
    ran : HasRun u
    seven : register_of u.core 7 ≡ t.core.pc + 8 * n

  led : (t : ThreadData) (n : ℕ) → HasRun t → register_of t.core 5 ≡ n → n < 2 ^ 40 → t.core.pc < 2 ^ 40 → (u : ThreadData) × Led t u n
  led t n r five few low =
      let zero_up : (t.core.pc + 0) % 2 ^ 64 ≡ t.core.pc = omega arith in
      first (set_by t r.sized (omega arith) (rv.Auipc 7 0) 7 t.core.pc (ap (Sets 7) zero_up) refl (omega arith) (omega arith))
    where
      first : Set t (rv.Auipc 7 0 ∷ []) 7 t.core.pc → (u : ThreadData) × Led t u n
      first y =
          let pc = run_pc y.run in
          second y
        where
          second : Set t (rv.Auipc 7 0 ∷ []) 7 t.core.pc → (u : ThreadData) × Led t u n
          second y =
              let pc = run_pc y.run in
              let is : effect_of (rv.Slli 5 5 3) y.t.core ≡ Sets 5 (left_shift_of n 3) = ap (λ v. Sets 5 (left_shift_of v 3)) (y.others 5 (λ e. omega (arith, e)) (λ e. omega (arith, e)) ∙ five) in
              let five' = register_same y.t.core 5 (left_shift_of n 3) refl (subst (λ k. 5 < k) (sym y.sized.registers) (omega arith)) in
              let seven' = register_other y.t.core 5 (left_shift_of n 3) refl 7 (λ e. omega (arith, e)) in
              let eight' = register_other y.t.core 5 (left_shift_of n 3) refl 8 (λ e. omega (arith, e)) in
              third y (sets y.t 5 (left_shift_of n 3)) (step (sets y.t 5 (left_shift_of n 3)) (λ word. ap (machine_does y.t word) is) (next_is y.t (omega arith)) refl stop)
              (seven' ∙ y.value) five' eight' refl (sized_sets y.t 5 (left_shift_of n 3) refl y.sized (omega arith) (mod_small (n * 2 ^ 3)))
            where
              third : (y : Set t (rv.Auipc 7 0 ∷ []) 7 t.core.pc) (z : ThreadData) → Run y.t (rv.Slli 5 5 3 ∷ []) z → register_of z.core 7 ≡ t.core.pc → register_of z.core 5 ≡ left_shift_of n 3 → register_of z.core 8 ≡ register_of y.t.core 8 → z.stack ≡ y.t.stack → IsSized z → (u : ThreadData) × Led t u n
              third y z run seven' five' eight' stack sized =
                  let pc = run_pc y.run in
                  let pc' = run_pc run in
                  let sum : sum_of (register_of z.core 7) (register_of z.core 5) ≡ t.core.pc + 8 * n = ap₂ sum_of seven' five' ∙ table_target t.core.pc n low few in
                  fourth y z run eight' stack (set_by z sized (omega arith) (rv.Add 7 7 5) 7 (t.core.pc + 8 * n) (ap (Sets 7) sum) refl (omega arith) (omega arith))
                where
                  fourth : (y : Set t (rv.Auipc 7 0 ∷ []) 7 t.core.pc) (z : ThreadData) → Run y.t (rv.Slli 5 5 3 ∷ []) z → register_of z.core 8 ≡ register_of y.t.core 8 → z.stack ≡ y.t.stack → Set z (rv.Add 7 7 5 ∷ []) 7 (t.core.pc + 8 * n) → (u : ThreadData) × Led t u n
                  fourth y z run eight' stack v = (
                    v.t,
                    record {
                      run = run_then y.run (run_then run v.run);
                      ran = record {
                        eight = v.others 8 (λ e. omega (arith, e)) (λ e. omega (arith, e)) ∙ eight' ∙ y.others 8 (λ e. omega (arith, e)) (λ e. omega (arith, e)) ∙ r.eight;
                        stack = v.stack ∙ stack ∙ y.stack ∙ r.stack;
                        doing = run_doing v.run ∙ run_doing run ∙ run_doing y.run ∙ r.doing;
                        sized = v.sized;
                      };
                      seven = v.value;
                    },
                  )

  -- The jump into the table, from behind the test.
  into_kept : (t : ThreadData) (targets : List ℕ) (off n to : ℕ) (after : List Value) → HasRun t → Parts off targets → t.core.pc ≡ code_address (from + length (front off (length targets)) + 3) → register_of t.core 5 ≡ n → n < length targets → slice_get targets n ≡ Some to → to < length b.labels →
      ((m : ℕ) → (slice_get (q.held ++ reverse after) m ≡ slice_get (q.held ++ reverse f.stack) m) ⊎ (slice_get (q.held ++ reverse after) m ≡ None)) →
      Keeps on (At im w c) false 6 (goes_to Site_here to after) t
  into_kept t targets off n to after r parts pc five low is labelled keeps =
      let fits = body.short in
      let within = parts.within in
      with_led (led t n r five (omega arith) (omega arith))
    where
      with_led : (u : ThreadData) × Led t u n → Keeps on (At im w c) false 6 (goes_to Site_here to after) t
      with_led x =
          let fits = body.short in
          let within = parts.within in
          let l = x.1 in
          let runs : t.doing ≡ Runs = r.doing ∙ here.together.goes in
          let runs' : x.0.doing ≡ Runs = l.ran.doing ∙ here.together.goes in
          let pc' = run_pc l.run in
          let all = subst (λ k. Stands im k into_table) (sym pc) parts.into in
          let jumps : HasInstr im x.0.core.pc (rv.Jalr 0 7 16) = subst (λ k. HasInstr im k (rv.Jalr 0 7 16)) (sym pc') (stands_back im t.core.pc (rv.Auipc 7 0 ∷ rv.Slli 5 5 3 ∷ rv.Add 7 7 5 ∷ []) (rv.Jalr 0 7 16 ∷ []) all).0 in
          let sixteen : extended 12 16 ≡ 16 = refl in
          let target : even (sum_of (register_of x.0.core 7) (extended 12 16)) ≡ code_address (from + length (front off (length targets)) + 7 + 2 * n) =
          ap (λ v. even (sum_of v 16)) (l.seven ∙ ap (λ v. v + 8 * n) pc) ∙ even_target (from + length (front off (length targets))) n (omega arith) (omega arith) in
          run_keeps im naming gain w (At im w c) l.run 3 6 runs (stands_front im t.core.pc (rv.Auipc 7 0 ∷ rv.Slli 5 5 3 ∷ rv.Add 7 7 5 ∷ []) (rv.Jalr 0 7 16 ∷ []) all)
          (goes_by x.0 (rv.Jalr 0 7 16) (even (sum_of (register_of x.0.core 7) (extended 12 16))) 2 (goes_to Site_here to after) runs' jumps refl
          (goes_far b at op im c row from places body is_op naming gain w f around q outer s here (went x.0 (even (sum_of (register_of x.0.core 7) (extended 12 16))))
          (record { eight = l.ran.eight; stack = l.ran.stack; doing = l.ran.doing; sized = record { registers = l.ran.sized.registers; register = l.ran.sized.register; word = l.ran.sized.word } })
          to (from + length (front off (length targets)) + 7 + 2 * n) after target (omega arith) labelled
          (table_at b at ts_here im places (from + length (front off (length targets)) + 7) targets n to parts.table is) keeps false 2 (omega arith)))
          (omega arith)

  -- The test, and then past the table or into it.
  tested : (t : ThreadData) (targets : List ℕ) (off x : ℕ) (after : List Value) → AreLabelled b (suc at ∷ targets) → Parts off targets → Readied t off (length targets) x →
      ((m : ℕ) → (slice_get (q.held ++ reverse after) m ≡ slice_get (q.held ++ reverse f.stack) m) ⊎ (slice_get (q.held ++ reverse after) m ≡ None)) →
      Begins_here → (k : Bool) → nat_lt x (length targets) ≡ k → Keeps on (At im w c) false 7 (chooses Site_here (slice_get targets x) after) t
  tested t targets off x after labelled parts r keeps pc true e =
      let fits = body.short in
      let within = parts.within in
      let begin = pc_is b at op im c row from places body is_op naming gain w f around q outer s here pc in
      let at_test : t.core.pc ≡ code_address (from + length (front off (length targets))) = let h = run_pc r.run in omega arith in
      let move : effect_of (rv.Bltu 5 6 12) t.core ≡ Goes 0 (sum_of t.core.pc (extended 13 12)) = ap₂ (λ a d. Goes 0 (cond (nat_lt a d) (sum_of t.core.pc (extended 13 12)) (next_pc t.core))) r.five r.six ∙ ap (λ z. Goes 0 (cond z (sum_of t.core.pc (extended 13 12)) (next_pc t.core))) e in
      let target : sum_of t.core.pc (extended 13 12) ≡ code_address (from + length (front off (length targets)) + 3) = small_mod (t.core.pc + 12) (omega arith) ∙ omega arith in
      let low = ltb-true x (length targets) e in
      let there = there_is targets x low in
      subst (λ o. Keeps on (At im w c) false 7 (chooses Site_here o after) t) (sym there.1)
      (goes_by t (rv.Bltu 5 6 12) (sum_of t.core.pc (extended 13 12)) 6 (goes_to Site_here there.0 after) (r.ran.doing ∙ here.together.goes) (subst (λ n. HasInstr im n (rv.Bltu 5 6 12)) (sym at_test) parts.test) move
      (into_kept (went t (sum_of t.core.pc (extended 13 12))) targets off x there.0 after
      (record { eight = r.ran.eight; stack = r.ran.stack; doing = r.ran.doing; sized = record { registers = r.ran.sized.registers; register = r.ran.sized.register; word = r.ran.sized.word } })
      parts target r.five low there.1 (labelled_at b targets x there.0 labelled.1 there.1) keeps))
  tested t targets off x after labelled parts r keeps pc false e =
      let fits = body.short in
      let within = parts.within in
      let begin = pc_is b at op im c row from places body is_op naming gain w f around q outer s here pc in
      let at_test : t.core.pc ≡ code_address (from + length (front off (length targets))) = let h = run_pc r.run in omega arith in
      let move : effect_of (rv.Bltu 5 6 12) t.core ≡ Goes 0 (next_pc t.core) = ap₂ (λ a d. Goes 0 (cond (nat_lt a d) (sum_of t.core.pc (extended 13 12)) (next_pc t.core))) r.five r.six ∙ ap (λ z. Goes 0 (cond z (sum_of t.core.pc (extended 13 12)) (next_pc t.core))) e in
      let target : next_pc t.core ≡ code_address (from + length (front off (length targets)) + 1) = let h = next_is t (omega arith) in omega arith in
      let next : suc at ≡ suc f.at = ap suc (sym here.at_is) in
      subst (λ o. Keeps on (At im w c) false 7 (chooses Site_here o after) t) (sym (there_or_past targets x false e))
      (goes_by t (rv.Bltu 5 6 12) (next_pc t.core) 6 (goes Site_here after) (r.ran.doing ∙ here.together.goes) (subst (λ n. HasInstr im n (rv.Bltu 5 6 12)) (sym at_test) parts.test) move
      (goes_far b at op im c row from places body is_op naming gain w f around q outer s here (went t (next_pc t.core))
      (record { eight = r.ran.eight; stack = r.ran.stack; doing = r.ran.doing; sized = record { registers = r.ran.sized.registers; register = r.ran.sized.register; word = r.ran.sized.word } })
      (suc f.at) (from + length (front off (length targets)) + 1) after target (omega arith) (subst (λ n. n < length b.labels) next labelled.0)
      (subst (λ n. Far im places (from + length (front off (length targets)) + 1) (label_of b n)) next parts.past) keeps false 6 (omega arith)))

  -- to a target of the table, or past it
  pub chooses_kept : (targets : List ℕ) → AreLabelled b (suc at ∷ targets) → Begins_here → StandFrom im places from (switch_items b at ts_here targets) → K (does b.program Site_here [] f.stack (OnBranches (Chooses targets)))
  chooses_kept targets labelled pc st =
      pops_kept b at op im c row from places body is_op naming gain w f around q outer s here f.stack _ (λ v us e.
      word_kept b at op im c row from places body is_op naming gain w f around q outer s here v _ (λ kind x ev.
      if_kept b at op im c row from places body is_op naming gain w f around q outer s here (is_int32 kind) _ (λ t.
      by_value kind x us (e ∙ ap (λ z. z ∷ us) ev))))
    where
      by_value : (kind : Kind) (x : ℕ) (us : List Value) → f.stack ≡ Plain kind (x ∷ []) ∷ us → K (chooses Site_here (slice_get targets x) us)
      by_value kind x us e =
          let d = depth_is b at op im c row from places body is_op naming gain w f around q outer s here in
          let a = first_held b at op im c row from places body is_op naming gain w f around q outer s here in
          let n : length f.stack ≡ suc (length us) = ap length e in
          let k : from_top b at ts_here 1 ≡ length q.held + length us = omega arith in
          let kk = inside_plan b at op im c row from places body is_op naming gain w f around q outer s here (from_top b at ts_here 1) (omega arith) in
          let r1 = (room here.together (from_top b at ts_here 1) kk).short in
          let same : offset here.together (from_top b at ts_here 1) ≡ offset_of b (from_top b at ts_here 1) = ap (λ (p : Plan). slice_index p.offsets (from_top b at ts_here 1)) (plan_here b at op im c row from places body is_op naming gain w f around q outer s here) in
          let parts = parts_of targets (omega arith) pc st in
          let within = parts.within in
          let fits = body.short in
          let begin = pc_is b at op im c row from places body is_op naming gain w f around q outer s here pc in
          with_parts parts (subst (λ o. (t : ThreadData) × Readied t o (length targets) x) same
          (readied (from_top b at ts_here 1) x (length targets) kind kk (ap (now here.together top) k ∙ stands_there b at op im c row from places body is_op naming gain w f around q outer s here [] us (Plain kind (x ∷ [])) e) (omega arith) (omega arith)))
        where
          with_parts : Parts (offset_of b (from_top b at ts_here 1)) targets → (t : ThreadData) × Readied t (offset_of b (from_top b at ts_here 1)) (length targets) x → K (chooses Site_here (slice_get targets x) us)
          with_parts parts y =
              let few = loads_short 5 (offset_of b (from_top b at ts_here 1)) in
              let some = loads_some 5 (offset_of b (from_top b at ts_here 1)) in
              let few' = word_few 6 (length targets) in
              let long = length-append (loads_word 5 (offset_of b (from_top b at ts_here 1))) (sets_word 6 (length targets)) in
              run_first b at op im c row from places body is_op naming gain w f around q outer s here y.1.run (omega arith) 7 1024 parts.begins
              (tested y.0 targets (offset_of b (from_top b at ts_here 1)) x us labelled parts y.1 (gone_keeps b at op im c row from places body is_op naming gain w f around q outer s here (Plain kind (x ∷ []) ∷ []) us e) pc (nat_lt x (length targets)) refl)
              (omega arith)
