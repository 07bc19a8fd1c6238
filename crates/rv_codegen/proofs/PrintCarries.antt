-- Printing a number: its code keeps to the instruction.
use Rattle.std.proofs.Common.{◌≡◌, ◌⊎◌, ℕ, zero, suc, ◌+◌, ◌-◌, ◌*◌, ◌^◌, ◌<◌, ◌≤◌, ◌==◌, ◌&&◌, Bool, true, false, nat_lt, nat_le, if◌then◌else◌, Result, Ok, Err, List, [], ◌∷◌, ◌++◌, length, reverse, slice_get, slice_index, Option, Some, None, refl, sym, ap, ◌∙◌, subst, arith}
use Rattle.std.proofs.lemmas.Bool.Decides.{nat_tests}
use Rattle.std.proofs.lemmas.List.{append_assoc, length-append}
use Rattle.type_tree.specs.declared.tree.TExpr.{TExpr}
use Rattle.il_model.specs.declared.op.Op.{Op}
use Rattle.il_model.specs.declared.program.Program.{Program}
use Rattle.interaction.specs.Process.{Naming, Ask, Spell, Stuck}
use Rattle.interaction.specs.Simulation.{Sides, Keeps, Onward}
use Rattle.interaction.specs.Simulation as simulation
use Rattle.store_object.specs.declared.request.Request.{Request}
use Rattle.store_object.specs.declared.request.Request.TheVariants as ask
use Rattle.store_object.specs.declared.request.Form.{Form}
use Rattle.store_object.specs.declared.request.Form.TheVariants as printed
use Rattle.store_object.specs.declared.reply.Reply.{Reply}
use Rattle.store_object.specs.declared.reply.Reply.TheVariants as says
use Rattle.cil_flow.specs.declared.state.StackType.{StackType}
use Rattle.cil_meaning.specs.Values.{Kind, Reference, Value, Plain, same_kind}
use Rattle.cil_meaning.specs.Naming.{Mention, strings_from, names_from}
use Rattle.cil_meaning.specs.Frames.{Frame, Places, Frames}
use Rattle.cil_meaning.specs.Replies.{Left, on_done}
use Rattle.cil_meaning.specs.Site.{Site, moved, goes, op_at}
use Rattle.cil_meaning.specs.Groups.{OnLibrary, Prints}
use Rattle.cil_meaning.specs.Meaning.{does}
use Rattle.cil_flow.specs.declared.plan.Plan.{Plan}
use Rattle.rgctx_words.specs.declared.node_word.Definition.{Definition}
use Rattle.rgctx_words.specs.declared.node_word.Definition.TheVariants as def
use Rattle.rgctx_words.specs.Regions.{node_count}
use Rattle.rgctx_words.specs.NodeWords.{node_read, definition_of}
use Rattle.rgctx_words.specs.Stacks.{StackWords, mem_of}
use Rattle.rv_isa.specs.declared.instr.Instr.{Instr}
use Rattle.rv_isa.specs.declared.instr.Instr.TheVariants as rv
use Rattle.rv_isa.specs.Assembly.{word_count}
use Rattle.rv_machine.specs.declared.registers.Core.{Core}
use Rattle.rv_machine.specs.declared.effect.Effect.TheVariants.{Sets}
use Rattle.rv_machine.specs.Effect.{effect_of}
use Rattle.rv_machine.specs.Registers.{register_of, next_pc, at_pc}
use Rattle.rgctx_fill.specs.declared.spelled.NodeTree.{NodeTree}
use Rattle.rgctx_fill.specs.declared.spelled.NodeTree.TheVariants as tree
use Rattle.rgctx_fill.specs.Spelled.{argument_fields, is_packed, type_or_stop, with_type, types_of, applied, applied_or_stop, spelled_from, spelled_below, spelled, type_in, naming_of}
use Rattle.rgctx_fill.specs.declared.doing.Doing.TheVariants.{Runs, Serves}
use Rattle.rgctx_fill.specs.ThreadStates.{ImageData, ThreadData, with_core, now_doing}
use Rattle.rgctx_fill.specs.ThreadStates.{plain as plain_move}
use Rattle.rgctx_fill.specs.ThreadTurns.{want}
use Rattle.rgctx_fill.specs.ThreadStates as move
use Rattle.rgctx_fill.specs.ThreadStates.{Move}
use Rattle.rgctx_fill.specs.ServiceReplies.{refuses, answered}
use Rattle.rgctx_fill.specs.NodeReadings.{is_type, is_type_word, with_type_node}
use Rattle.rgctx_fill.specs.StoreServices.{prints, with_string}
use Rattle.rgctx_fill.specs.Services.{serves}
use Rattle.rgctx_fill.specs.FrameMaps.{Stacked}
use Rattle.rgctx_fill.specs.Constructed.{IsSized}
use Rattle.rgctx_fill.specs.Standing.{Compiled, Together, At, running, fresh_at, sides}
use Rattle.rgctx_fill.proofs.MachineLemmas.{HasInstr, turn_is, Stands, stands_front, stands_back, Run, stop, step, run_then, run_pc, first_run}
use Rattle.rv_codegen.specs.FrameWords.{loads_word}
use Rattle.rv_codegen.specs.Carried.{StandFrom, code_address, IsBodyOf, StandsAt, NamesNodes, frames_with}
use Rattle.rv_codegen.specs.PlainItems.{BodyData, form_number, plain, stack_of, offset_of, from_top}
use Rattle.rv_codegen.proofs.StraightLemmas.{Set, next_is, set_by, loads, loads_short}
use Rattle.rv_codegen.proofs.ItemLemmas.{AreRows, rows_both, loads_rows, words_plain, plain_items_stand}
use Rattle.rv_codegen.proofs.FormLemmas.{form_done, run_doing, rest_frames, rest_places, leaves_all}
use Rattle.rv_codegen.proofs.StackLemmas.{dropped}
use Rattle.rv_codegen.proofs.PlaceLemmas.{now, places as place_count, offset, width, room, word_there, in_current, base, map}
use Rattle.rv_codegen.proofs.NumberCarries.{pops_kept, word_kept, if_kept, plan_here, depth_is, first_held, inside_plan, stands_there}
use Rattle.rv_codegen.proofs.CarryLemmas.{site, Kept_to, far_below, pc_is}

-- the number that says how PRINT takes its word
number_few : (form : Form) → form_number form ≤ 1
number_few printed.Number = omega arith
number_few printed.String = omega arith

number_set : (form : Form) (k : Core) → effect_of (rv.Addi 11 0 (form_number form)) k ≡ Sets 11 (form_number form)
number_set printed.Number k = refl
number_set printed.String k = refl

-- Nodes of types ---------------------------------------------------------------

-- what stops the reading of a list of arguments is no type
stops_none : (spells : ℕ → NodeTree) (ns : List ℕ) (halt : NodeTree) → types_of spells ns ≡ Err halt → type_in halt ≡ None
stops_none spells [] halt e = absurd (cc e)
stops_none spells (n ∷ ns) halt e = by_test (n == 0) (type_or_stop (spells n)) (types_of spells ns) (stopped (spells n)) (λ u. stops_none spells ns u) e
  where
    stopped : (t : NodeTree) (u : NodeTree) → type_or_stop t ≡ Err u → type_in u ≡ None
    stopped (tree.Kind t) u e = absurd (cc e)
    stopped (tree.Method m) u e = let h : tree.Other ≡ u = cc e in ap type_in (sym h)
    stopped tree.Other u e = let h : tree.Other ≡ u = cc e in ap type_in (sym h)
    stopped (tree.Zero i) u e = let h : tree.Zero i ≡ u = cc e in ap type_in (sym h)

    by_test : (zero : Bool) (first : Result TExpr NodeTree) (rest : Result (List TExpr) NodeTree) → ((u : NodeTree) → first ≡ Err u → type_in u ≡ None) → ((u : NodeTree) → rest ≡ Err u → type_in u ≡ None) →
        (if zero then Ok [] else with_type first rest) ≡ Err halt → type_in halt ≡ None
    by_test true first rest a b e = absurd (cc e)
    by_test false (Err u) rest a b e = let h : u ≡ halt = cc e in ap type_in (sym h) ∙ a u refl
    by_test false (Ok t) (Err u) a b e = let h : u ≡ halt = cc e in ap type_in (sym h) ∙ b u refl
    by_test false (Ok t) (Ok ts) a b e = absurd (cc e)

-- a definition that is applied to types and gives one is a type's
applied_type : (d : Option Definition) (ts : List TExpr) (t : TExpr) → type_in (applied d ts) ≡ Some t → is_type d ≡ true
applied_type (Some def.Int32) ts t e = refl
applied_type (Some def.Int64) ts t e = refl
applied_type (Some def.Bool) ts t e = refl
applied_type (Some def.Vector) ts t e = refl
applied_type (Some def.Image) ts t e = absurd (cc e)
applied_type (Some (def.Class number)) ts t e = refl
applied_type (Some (def.Method number)) [] t e = absurd (cc e)
applied_type (Some (def.Method number)) (class ∷ args) t e = absurd (cc e)
applied_type None ts t e = absurd (cc e)

spelled_type : (below : ℕ → NodeTree) (i word : ℕ) (t : TExpr) → type_in (spelled_from below i word) ≡ Some t → is_type_word word ≡ true
spelled_type below i word t e = by_test (word == 0) (is_packed (node_read word)) (types_of below (argument_fields (node_read word))) (λ halt. stops_none below (argument_fields (node_read word)) halt) e
  where
    by_test : (zero packed : Bool) (r : Result (List TExpr) NodeTree) → ((halt : NodeTree) → r ≡ Err halt → type_in halt ≡ None) →
        type_in (if zero then tree.Zero i else (if packed then applied_or_stop (definition_of (node_read word).definition) r else tree.Other)) ≡ Some t → is_type_word word ≡ true
    by_test true packed r stops e = absurd (cc e)
    by_test false false r stops e = absurd (cc e)
    by_test false true (Ok ts) stops e = applied_type (definition_of (node_read word).definition) ts t e
    by_test false true (Err halt) stops e = let h = stops halt refl in absurd (cc (e, h))

-- a number that names a type is that of a type's node
pub record TypeNode (w : ℕ → ℕ) (i : ℕ) : Type 0 where
  pub number : (nat_lt 0 i && nat_lt i node_count) ≡ true
  pub kind : is_type_word (w i) ≡ true

named_node : (w : ℕ → ℕ) (i : ℕ) (t : TExpr) → w 0 ≡ 0 → naming_of w i ≡ Some t → TypeNode w i
named_node w i t unused e = by_number i (nat_lt i node_count) refl e
  where
    by_number : (n : ℕ) (low : Bool) → nat_lt n node_count ≡ low → (if low then type_in (spelled w n) else None) ≡ Some t → TypeNode w n
    by_number n false l e = absurd (cc e)
    by_number zero true l e = absurd (cc (e, ap (λ word. type_in (spelled_from (spelled_below w 0) 0 word)) unused))
    by_number (suc n) true l e = record {
      number = let p : nat_lt 0 (suc n) ≡ true = grind (arith, nat_tests) in ap (λ x. x && nat_lt (suc n) node_count) p ∙ l;
      kind = spelled_type (spelled_below w (suc n)) (suc n) (w (suc n)) t e;
    }

-- the instructions before ECALL
abbrev before_call : ℕ → ℕ → List Instr
before_call offset number = loads_word 10 offset ++ rv.Addi 11 0 number ∷ rv.Addi 17 0 24 ∷ []

module _ (b : BodyData) (at : ℕ) (op : Op) (im : ImageData) (c : Compiled) (row from : ℕ) (places : List (Option ℕ)) (body : IsBodyOf b im c row places) (is_op : op_at b.method at ≡ Some op)
    (naming : Naming Mention TExpr) (gain : ThreadData → ℕ) (w : ℕ → ℕ) (f : Frame) (around : List Frame) (q : Places) (outer : List Places) (s : ThreadData)
    (here : StandsAt b at op im c row from w f around q outer s) where
  abbrev K : Left → Type 0
  K left = Kept_to b at op im c row from places body is_op naming gain w f around q outer s here left

  abbrev top : ℕ
  top = here.together.top

  abbrev ts_here : List StackType
  ts_here = stack_of (slice_get b.states at)

  abbrev Site_here : Site
  Site_here = site b at op im c row from places body is_op naming gain w f around q outer s here

  abbrev Stands_here : List Instr → Type 0
  Stands_here is = StandFrom im places from (plain is)

  abbrev Next_is : List Instr → Type 0
  Next_is is = c.pc row (suc at) ≡ code_address (from + word_count (plain is))

  abbrev Begins_here : Type 0
  Begins_here = c.pc row at ≡ code_address from

  -- the code begins far below the last address
  begins_low : (is : List Instr) → AreRows is → 0 < length is → Begins_here → Stands_here is → s.core.pc + 4 * length is < 2 ^ 40
  begins_low is rows some pc st = far_below b at op im c row from places body is_op naming gain w f around q outer s here is rows some st pc

  abbrev on : Sides Mention TExpr Request Reply Frames ThreadData
  on = sides im naming gain w

  -- code that runs to a state from which the thread keeps to the process
  run_first : {t : ThreadData} {is : List Instr} {left : Left} → Run s is t → 0 < length is → (m n : ℕ) → Stands im s.core.pc is → Keeps on (At im w c) false m left t → m + length is ≤ n → Keeps on (At im w c) true n left s
  run_first stop some m n st k le = absurd (omega arith)
  run_first (step u does_it pc doing r) some m n st k le = first_run im naming gain w (At im w c) (step u does_it pc doing r) true m n here.together.goes st k (omega arith)

  -- after ECALL
  abbrev called : ThreadData → ThreadData
  called t = now_doing (with_core t (at_pc t.core (next_pc t.core))) Serves

  abbrev printed_after : ThreadData → ThreadData
  printed_after t = now_doing (called t) Runs

  -- PRINT asks for this line
  abbrev Asks : Form → ℕ → Type 0
  Asks form v = (u : ThreadData) (left : Left) → ((y : Reply) → Keeps on (At im w c) false 0 (on_done left y) (answered u y)) →
      Onward on (At im w c) 0 (Ask (ask.Print form v) (on_done left)) (plain_move (prints im u v (form_number form)))

  -- the turns of ECALL and of PRINT
  print_turns : (form : Form) (t : ThreadData) (v : ℕ) (left : Left) → Asks form v → t.doing ≡ Runs → HasInstr im t.core.pc rv.Ecall → register_of t.core 17 ≡ 24 → register_of t.core 11 ≡ form_number form → register_of t.core 10 ≡ v →
      ((n : ℕ) → Keeps on (At im w c) false n left (printed_after t)) → Keeps on (At im w c) false 2 (Ask (ask.Print form v) (on_done left)) t
  print_turns form t v left asks runs h seventeen eleven ten next =
      simulation.turns 1 (omega arith) (subst (Onward on (At im w c) 1 (Ask (ask.Print form v) (on_done left))) (sym (turn_is im t rv.Ecall h runs)) (simulation.goes
      (simulation.turns 0 (omega arith) (subst (Onward on (At im w c) 0 (Ask (ask.Print form v) (on_done left))) (sym asks_now) (asks (called t) left (λ y. replied y))))))
    where
      asks_now : want im (called t) ≡ plain_move (prints im (called t) v (form_number form))
      asks_now =
          ap (λ n. plain_move (serves im (called t) n)) seventeen
          ∙ ap (λ n. plain_move (prints im (called t) (register_of t.core 10) n)) eleven
          ∙ ap (λ n. plain_move (prints im (called t) n (form_number form))) ten

      replied : (y : Reply) → Keeps on (At im w c) false 0 (on_done left y) (answered (called t) y)
      replied (says.Object number) = simulation.nowhere tt
      replied (says.Kind number) = simulation.nowhere tt
      replied (says.Word word) = simulation.nowhere tt
      replied (says.Thread number) = simulation.nowhere tt
      replied (says.Ended has_finished) = simulation.nowhere tt
      replied says.Unknown = simulation.nowhere tt
      replied says.Done = next 0
      replied (says.Stopped why) = simulation.nowhere tt
      replied says.Halted = simulation.nowhere tt
      replied says.Improper = simulation.nowhere tt

  -- the registers that PRINT takes
  pub record Readied (t : ThreadData) (form v : ℕ) (is : List Instr) : Type 0 where
    pub run : Run s is t
    pub ten : register_of t.core 10 ≡ v
    pub eleven : register_of t.core 11 ≡ form
    pub seventeen : register_of t.core 17 ≡ 24
    pub eight : register_of t.core 8 ≡ register_of s.core 8
    pub stack : t.stack ≡ s.stack
    pub sized : IsSized t

  readied : (form : Form) (k v : ℕ) (kind : Kind) → k < place_count here.together → now here.together top k ≡ Some (Plain kind (v ∷ [])) → s.core.pc < 2 ^ 40 → (t : ThreadData) × Readied t (form_number form) v (before_call (offset here.together k) (form_number form))
  readied form k v kind kk is low =
      let r = room here.together k kk in
      let r1 = r.short in
      let r2 = r.inside in
      let there = word_there here.together k kind v kk is in
      first there (loads (in_current here.together) 10 (offset here.together k) r1 (let one = there.1 in omega arith) refl (omega arith) (omega arith))
    where
      first : (mem_of s.stack (base here.together + offset here.together k) ≡ v) × (1 ≤ width here.together k) → Set s (loads_word 10 (offset here.together k)) 10 (mem_of s.stack (base here.together + offset here.together k)) → (t : ThreadData) × Readied t (form_number form) v (before_call (offset here.together k) (form_number form))
      first there x =
          let pc = run_pc x.run in
          let short = loads_short 10 (offset here.together k) in
          second there x (set_by x.t x.sized (omega arith) (rv.Addi 11 0 (form_number form)) 11 (form_number form) (number_set form x.t.core) refl (omega arith) (let few = number_few form in omega arith))
        where
          second : (mem_of s.stack (base here.together + offset here.together k) ≡ v) × (1 ≤ width here.together k) → (x : Set s (loads_word 10 (offset here.together k)) 10 (mem_of s.stack (base here.together + offset here.together k))) → Set x.t (rv.Addi 11 0 (form_number form) ∷ []) 11 (form_number form) → (t : ThreadData) × Readied t (form_number form) v (before_call (offset here.together k) (form_number form))
          second there x y =
              let pc = run_pc x.run in
              let pc' = run_pc y.run in
              let short = loads_short 10 (offset here.together k) in
              third there x y (set_by y.t y.sized (omega arith) (rv.Addi 17 0 24) 17 24 refl refl (omega arith) (omega arith))
            where
              third : (mem_of s.stack (base here.together + offset here.together k) ≡ v) × (1 ≤ width here.together k) → (x : Set s (loads_word 10 (offset here.together k)) 10 (mem_of s.stack (base here.together + offset here.together k))) → (y : Set x.t (rv.Addi 11 0 (form_number form) ∷ []) 11 (form_number form)) → Set y.t (rv.Addi 17 0 24 ∷ []) 17 24 → (t : ThreadData) × Readied t (form_number form) v (before_call (offset here.together k) (form_number form))
              third there x y z = (
                z.t,
                record {
                  run = run_then x.run (run_then y.run z.run);
                  ten = z.others 10 (λ e. omega (arith, e)) (λ e. omega (arith, e)) ∙ y.others 10 (λ e. omega (arith, e)) (λ e. omega (arith, e)) ∙ x.value ∙ there.0;
                  eleven = z.others 11 (λ e. omega (arith, e)) (λ e. omega (arith, e)) ∙ y.value;
                  seventeen = z.value;
                  eight = z.others 8 (λ e. omega (arith, e)) (λ e. omega (arith, e)) ∙ y.others 8 (λ e. omega (arith, e)) (λ e. omega (arith, e)) ∙ x.others 8 (λ e. omega (arith, e)) (λ e. omega (arith, e));
                  stack = z.stack ∙ y.stack ∙ x.stack;
                  sized = z.sized;
                },
              )

  abbrev print_code : Form → ℕ → List Instr
  print_code form k = loads_word 10 (offset_of b k) ++ rv.Addi 11 0 (form_number form) ∷ rv.Addi 17 0 24 ∷ rv.Ecall ∷ []

  -- the value on top is printed
  printed_kept : (form : Form) (k v : ℕ) (kind : Kind) (us : List Value) → f.stack ≡ Plain kind (v ∷ []) ∷ us → k ≡ length q.held + length us → Asks form v → k < place_count here.together → now here.together top k ≡ Some (Plain kind (v ∷ [])) →
      Begins_here → Stands_here (print_code form k) → Next_is (print_code form k) → K (Ask (ask.Print form v) (on_done (goes Site_here us)))
  printed_kept form k v kind us e at_k asks kk is pc st next =
      let short' = (room here.together k kk).short in
      let e_plan = plan_here b at op im c row from places body is_op naming gain w f around q outer s here in
      let same : offset here.together k ≡ offset_of b k = ap (λ (p : Plan). slice_index p.offsets k) e_plan in
      let rows : AreRows (print_code form k) = rows_both (loads_word 10 (offset_of b k)) (rv.Addi 11 0 (form_number form) ∷ rv.Addi 17 0 24 ∷ rv.Ecall ∷ []) (loads_rows 10 (offset_of b k) (omega arith) (omega arith)) ((let few = number_few form in omega arith, omega arith, omega arith), ((omega arith, omega arith, omega arith), (tt, tt))) in
      let long = length-append (loads_word 10 (offset_of b k)) (rv.Addi 11 0 (form_number form) ∷ rv.Addi 17 0 24 ∷ rv.Ecall ∷ []) in
      let end = begins_low (print_code form k) rows (omega arith) pc st in
      whole rows (omega arith) same (readied form k v kind kk is (omega arith))
    where
      whole : AreRows (print_code form k) → s.core.pc + 4 * length (print_code form k) < 2 ^ 40 → offset here.together k ≡ offset_of b k → (t : ThreadData) × Readied t (form_number form) v (before_call (offset here.together k) (form_number form)) → K (Ask (ask.Print form v) (on_done (goes Site_here us)))
      whole rows end same x =
          let t : ThreadData = x.0 in
          let r : Readied t (form_number form) v (before_call (offset_of b k) (form_number form)) = subst (λ o. Readied t (form_number form) v (before_call o (form_number form))) same x.1 in
          let all : Stands im s.core.pc (before_call (offset_of b k) (form_number form) ++ rv.Ecall ∷ []) =
          subst (λ (is : List Instr). Stands im s.core.pc is) (sym (append_assoc (loads_word 10 (offset_of b k)) (rv.Addi 11 0 (form_number form) ∷ rv.Addi 17 0 24 ∷ []) (rv.Ecall ∷ [])))
          (subst (λ n. Stands im n (print_code form k)) (sym (pc_is b at op im c row from places body is_op naming gain w f around q outer s here pc)) (plain_items_stand im places from (print_code form k) rows st)) in
          let front = stands_front im s.core.pc (before_call (offset_of b k) (form_number form)) (rv.Ecall ∷ []) all in
          let back = subst (λ n. Stands im n (rv.Ecall ∷ [])) (sym (run_pc r.run)) (stands_back im s.core.pc (before_call (offset_of b k) (form_number form)) (rv.Ecall ∷ []) all) in
          let long = length-append (loads_word 10 (offset_of b k)) (rv.Addi 11 0 (form_number form) ∷ rv.Addi 17 0 24 ∷ []) in
          let long' = length-append (loads_word 10 (offset_of b k)) (rv.Addi 11 0 (form_number form) ∷ rv.Addi 17 0 24 ∷ rv.Ecall ∷ []) in
          let few = loads_short 10 (offset_of b k) in
          run_first r.run (omega arith) 2 1024 front
          (print_turns form t v (goes Site_here us) asks (run_doing r.run ∙ here.together.goes) back.0 r.seventeen r.eleven r.ten (λ n. simulation.arrives (running (done t r end))))
          (omega arith)
        where
          done : (t : ThreadData) → Readied t (form_number form) v (before_call (offset_of b k) (form_number form)) → s.core.pc + 4 * length (print_code form k) < 2 ^ 40 → Together im w c (frames_with (moved f (suc f.at) us) around q outer) (printed_after t)
          done t r end =
              let pc' = run_pc r.run in
              let long = length-append (loads_word 10 (offset_of b k)) (rv.Addi 11 0 (form_number form) ∷ rv.Addi 17 0 24 ∷ []) in
              let long' = length-append (loads_word 10 (offset_of b k)) (rv.Addi 11 0 (form_number form) ∷ rv.Addi 17 0 24 ∷ rv.Ecall ∷ []) in
              let a = pc_is b at op im c row from places body is_op naming gain w f around q outer s here pc in
              let n = words_plain (print_code form k) in
              let to : c.pc here.together.row (suc f.at) ≡ code_address (from + word_count (plain (print_code form k))) = ap (λ m. c.pc m (suc f.at)) here.row_is ∙ ap (λ m. c.pc row (suc m)) here.at_is ∙ next in
              let last = next_is t (omega arith) in
              form_done here.together (moved f (suc f.at) us) q refl refl (printed_after t)
              (record {
                copy = r.eight;
                bases = ap (λ (x : StackWords). x.bases) r.stack;
                count = ap (λ (x : StackWords). length x.words) r.stack;
                doing = sym here.together.goes;
                sized = record { registers = r.sized.registers; register = r.sized.register; word = r.sized.word };
              })
              refl (now here.together)
              (subst (λ (x : StackWords). Stacked (map here.together) here.together.head (mem_of x) (length s.stack.words) top (now here.together) (fresh_at (frames_with f around q outer))) (sym r.stack) here.together.stacked)
              (leaves_all top around outer (rest_frames here.together) (rest_places here.together) f (moved f (suc f.at) us) q q
              (λ n. subst (λ (vs : List Value). (slice_get (q.held ++ reverse us) n ≡ slice_get (q.held ++ reverse vs) n) ⊎ (slice_get (q.held ++ reverse us) n ≡ None)) (sym e) (dropped q.held (Plain kind (v ∷ []) ∷ []) us n)))
              (omega arith)

  -- what is left, where the request is made of the value on top
  value_kept : (form : Form) (kind : Kind) (x : ℕ) (us : List Value) → f.stack ≡ Plain kind (x ∷ []) ∷ us → Asks form x → Begins_here → Stands_here (print_code form (from_top b at ts_here 1)) → Next_is (print_code form (from_top b at ts_here 1)) →
      K (Ask (ask.Print form x) (on_done (goes Site_here us)))
  value_kept form kind x us e asks pc st next =
      let d = depth_is b at op im c row from places body is_op naming gain w f around q outer s here in
      let a = first_held b at op im c row from places body is_op naming gain w f around q outer s here in
      let n : length f.stack ≡ suc (length us) = ap length e in
      let k : from_top b at ts_here 1 ≡ length q.held + length us = omega arith in
      printed_kept form (from_top b at ts_here 1) x kind us e k asks
      (inside_plan b at op im c row from places body is_op naming gain w f around q outer s here (from_top b at ts_here 1) (omega arith))
      (ap (now here.together top) k ∙ stands_there b at op im c row from places body is_op naming gain w f around q outer s here [] us (Plain kind (x ∷ [])) e)
      pc st next

  number_asks : (v : ℕ) → Asks printed.Number v
  number_asks v u left k = simulation.asks k

  -- a number on top is printed
  pub prints_kept : (kind : Kind) → Begins_here → Stands_here (print_code printed.Number (from_top b at ts_here 1)) → Next_is (print_code printed.Number (from_top b at ts_here 1)) → K (does b.program Site_here [] f.stack (OnLibrary (Prints printed.Number kind)))
  prints_kept kind pc st next =
      pops_kept b at op im c row from places body is_op naming gain w f around q outer s here f.stack _ (λ v us e.
      word_kept b at op im c row from places body is_op naming gain w f around q outer s here v _ (λ other x ev.
      if_kept b at op im c row from places body is_op naming gain w f around q outer s here (same_kind kind other) _ (λ t.
      value_kept printed.Number other x us (e ∙ ap (λ z. z ∷ us) ev) (number_asks x) pc st next)))

  -- Strings ------------------------------------------------------------------

  -- how PRINT comes to its request: null, a literal of the program, or the name of a type that is in use
  abbrev Asked : ThreadData → ℕ → Left → Move → Type 0
  Asked u v left m = Onward on (At im w c) 0 (Ask (ask.Print printed.String v) (on_done left)) (plain_move m)

  abbrev line : ThreadData → ℕ → Move
  line u v = move.Asks (ask.Print printed.String v) (answered u)

  null_asks : (v : ℕ) → (v == 0) ≡ true → Asks printed.String v
  null_asks v null u left k = subst (λ t. Asked u v left (if t then line u v else with_string im u v (line u v))) (sym null) (simulation.asks k)

  literal_asks : (v : ℕ) → (v == 0) ≡ false → nat_lt v strings_from ≡ false → nat_lt v names_from ≡ true → nat_lt (v - strings_from) (length b.program.literals) ≡ true → Asks printed.String v
  literal_asks v some high low there u left k =
      let le : nat_le strings_from v ≡ true = grind (arith, nat_tests) in
      let both : (nat_le strings_from v && nat_lt (v - strings_from) (length im.cat.program.literals)) ≡ true = ap (λ t. t && nat_lt (v - strings_from) (length im.cat.program.literals)) le ∙ ap (λ (p : Program). nat_lt (v - strings_from) (length p.literals)) body.program ∙ there in
      subst (λ t. Asked u v left (if t then line u v else with_string im u v (line u v))) (sym some)
      (subst (λ t. Asked u v left (if t then (if nat_le strings_from v && nat_lt (v - strings_from) (length im.cat.program.literals) then line u v else refuses u) else with_type_node u (v - names_from) (line u v))) (sym low)
      (subst (λ t. Asked u v left (if t then line u v else refuses u)) (sym both) (simulation.asks k)))

  name_asks : (v : ℕ) (t : TExpr) → (v == 0) ≡ false → nat_lt v names_from ≡ false → NamesNodes naming w → naming.tree_at (v - names_from) ≡ Some t → Asks printed.String v
  name_asks v t some high names is u left k =
      let node = named_node w (v - names_from) t names.unused (names.trees (v - names_from) t is) in
      subst (λ t. Asked u v left (if t then line u v else with_string im u v (line u v))) (sym some)
      (subst (λ t. Asked u v left (if t then (if nat_le strings_from v && nat_lt (v - strings_from) (length im.cat.program.literals) then line u v else refuses u) else with_type_node u (v - names_from) (line u v))) (sym high)
      (subst (λ t. Asked u v left (if t then move.Reads (v - names_from) (λ word. if is_type_word word then line u v else refuses u) else refuses u)) (sym node.number)
      (simulation.reads (λ held. subst (λ t. Asked u v left (if t then line u v else refuses u)) (sym node.kind) (simulation.asks k)))))

  -- null, a literal or the name of a type on top is printed
  pub prints_string_kept : NamesNodes naming w → Begins_here → Stands_here (print_code printed.String (from_top b at ts_here 1)) → Next_is (print_code printed.String (from_top b at ts_here 1)) → K (does b.program Site_here [] f.stack (OnLibrary (Prints printed.String Reference)))
  prints_string_kept names pc st next =
      pops_kept b at op im c row from places body is_op naming gain w f around q outer s here f.stack _ (λ v us e.
      word_kept b at op im c row from places body is_op naming gain w f around q outer s here v _ (λ other x ev.
      if_kept b at op im c row from places body is_op naming gain w f around q outer s here (same_kind Reference other) _ (λ t.
      by_word other x us (e ∙ ap (λ z. z ∷ us) ev) (x == 0) refl (nat_lt x strings_from) refl (nat_lt x names_from) refl (nat_lt (x - strings_from) (length b.program.literals)) refl (naming.tree_at (x - names_from)) refl)))
    where
      by_word : (kind : Kind) (x : ℕ) (us : List Value) → f.stack ≡ Plain kind (x ∷ []) ∷ us → (null : Bool) → (x == 0) ≡ null → (low : Bool) → nat_lt x strings_from ≡ low → (short : Bool) → nat_lt x names_from ≡ short →
          (there : Bool) → nat_lt (x - strings_from) (length b.program.literals) ≡ there → (o : Option TExpr) → naming.tree_at (x - names_from) ≡ o →
          K (if null then Ask (ask.Print printed.String x) (on_done (goes Site_here us)) else (if low then Stuck else (if short then (if there then Ask (ask.Print printed.String x) (on_done (goes Site_here us)) else Stuck) else Spell (x - names_from) (λ t. Ask (ask.Print printed.String x) (on_done (goes Site_here us))))))
      by_word kind x us e true e0 low e1 short e2 there e3 o e4 = value_kept printed.String kind x us e (null_asks x e0) pc st next
      by_word kind x us e false e0 true e1 short e2 there e3 o e4 = simulation.nowhere tt
      by_word kind x us e false e0 false e1 true e2 true e3 o e4 = value_kept printed.String kind x us e (literal_asks x e0 e1 e2 e3) pc st next
      by_word kind x us e false e0 false e1 true e2 false e3 o e4 = simulation.nowhere tt
      by_word kind x us e false e0 false e1 false e2 there e3 None e4 = simulation.nowhere e4
      by_word kind x us e false e0 false e1 false e2 there e3 (Some t) e4 = simulation.spells e4 (value_kept printed.String kind x us e (name_asks x t e0 e2 names e4) pc st next)
