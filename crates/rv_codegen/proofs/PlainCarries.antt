-- The items of plain instructions carry them, form by form.
use Rattle.std.proofs.Common.{ℤ, FitsSigned, ◌≡◌, ℕ, suc, ◌+◌, ◌^◌, ◌<◌, List, [], ◌∷◌, ◌++◌, length, slice_get, Option, Some, true, false, refl, sym, ◌∙◌, subst, arith}
use Rattle.std.proofs.lemmas.List.{length-append}
use Rattle.std.proofs.lemmas.List.Sums.{sum_by-append}
use Rattle.type_tree.specs.declared.tree.TExpr.{TExpr}
use Rattle.il_model.specs.declared.op.Op.{Op}
use Rattle.il_model.specs.declared.op.Op.TheVariants as op
use Rattle.il_model.specs.Entries.{entries_of}
use Rattle.interaction.specs.Process.{Naming}
use Rattle.interaction.specs.Simulation.{Keeps}
use Rattle.cil_meaning.specs.Values.{Int32, Int64, Reference}
use Rattle.cil_meaning.specs.Naming.{Mention, literal_word}
use Rattle.cil_meaning.specs.Words.{int32_word, int64_word}
use Rattle.std.specs.Int.{w32, w64}
use Rattle.cil_meaning.specs.Frames.{Frame, Places}
use Rattle.cil_meaning.specs.Site.{op_at}
use Rattle.cil_meaning.specs.Groups.{Argument, Local, Negative, Complement, Sum, Difference, Product, Conjunction, Disjunction, Exclusive, Equal, Unequal, Less, LessOrEqual, Greater, GreaterOrEqual, group_of}
use Rattle.cil_meaning.specs.Meaning.{does}
use Rattle.rv_isa.specs.declared.instr.Instr.{Instr}
use Rattle.rv_isa.specs.Assembly.{item_len, word_count}
use Rattle.rgctx_fill.specs.ThreadStates.{ImageData, ThreadData}
use Rattle.rgctx_fill.specs.Standing.{Compiled, At, sides}
use Rattle.rv_codegen.specs.FrameWords.{loads_word}
use Rattle.rv_codegen.specs.Carried.{StandFrom, code_address, IsBodyOf, StandsAt, NamesNodes, Carries}
use Rattle.rv_codegen.specs.PlainItems.{BodyData, plain, plain_items, stack_of, offset_of, from_top, jump_items, unless_true, unless_instr}
use Rattle.rv_codegen.proofs.ItemLemmas.{words_plain}
use Rattle.rv_codegen.proofs.CarryLemmas.{site, Kept_to, does_is}
use Rattle.rv_codegen.proofs.NumberCarries.{wraps_kept, compares_kept}
use Rattle.rv_codegen.proofs.StackCarries.{rests_kept, drops_kept, pushes_kept, copies_kept, reads_kept}
use Rattle.rv_codegen.proofs.CastLemmas.{wide_small, int32_small}
use Rattle.rv_codegen.proofs.UnaryCarries.{turns_kept, to_int32_kept, to_int64_kept, to_unsigned64_kept, lefts_kept, rights_kept, signed_rights_kept}
use Rattle.rv_codegen.proofs.WriteCarries.{writes_kept, points_kept}
use Rattle.rv_codegen.proofs.PrintCarries.{prints_kept, prints_string_kept}
use Rattle.rv_codegen.proofs.JumpCarries.{jumps_kept, leaves_kept, jumps_where_kept, jumps_by_kept}
use Rattle.rv_codegen.proofs.SwitchCarries.{chooses_kept}
use Rattle.rv_codegen.proofs.ReturnCarries.{ret_kept}

-- an instruction without entries is carried where its code keeps to what it does
carried_with : (b : BodyData) (at : ℕ) (op : Op) → entries_of b.program op ≡ [] →
    ((im : ImageData) (c : Compiled) (row from : ℕ) (places : List (Option ℕ)) (body : IsBodyOf b im c row places) (is_op : op_at b.method at ≡ Some op)
    (naming : Naming Mention TExpr) (gain : ThreadData → ℕ) (w : ℕ → ℕ) (names : NamesNodes naming w) (f : Frame) (around : List Frame) (q : Places) (outer : List Places) (s : ThreadData)
    (here : StandsAt b at op im c row from w f around q outer s) →
    StandFrom im places from (plain_items b at op) → c.pc row at ≡ code_address from → c.pc row (suc at) ≡ code_address (from + word_count (plain_items b at op)) →
    Kept_to b at op im c row from places body is_op naming gain w f around q outer s here (does b.program (site b at op im c row from places body is_op naming gain w f around q outer s here) [] f.stack (group_of op))) →
    Carries b at op (plain_items b at op)
carried_with b at op none keeps im c row from places body is_op st pc next naming gain w names f around q outer s here =
    subst (λ left. Keeps (sides im naming gain w) (At im w c) true 1024 left s) (sym (does_is b at op im c row from places body is_op naming gain w f around q outer s here none)) (keeps im c row from places body is_op naming gain w names f around q outer s here st pc next)

-- the same where the code doesn't depend on what numbers name
carried_by : (b : BodyData) (at : ℕ) (op : Op) → entries_of b.program op ≡ [] →
    ((im : ImageData) (c : Compiled) (row from : ℕ) (places : List (Option ℕ)) (body : IsBodyOf b im c row places) (is_op : op_at b.method at ≡ Some op)
    (naming : Naming Mention TExpr) (gain : ThreadData → ℕ) (w : ℕ → ℕ) (f : Frame) (around : List Frame) (q : Places) (outer : List Places) (s : ThreadData)
    (here : StandsAt b at op im c row from w f around q outer s) →
    StandFrom im places from (plain_items b at op) → c.pc row at ≡ code_address from → c.pc row (suc at) ≡ code_address (from + word_count (plain_items b at op)) →
    Kept_to b at op im c row from places body is_op naming gain w f around q outer s here (does b.program (site b at op im c row from places body is_op naming gain w f around q outer s here) [] f.stack (group_of op))) →
    Carries b at op (plain_items b at op)
carried_by b at op none keeps = carried_with b at op none (λ im c row from places body is_op naming gain w names f around q outer s here st pc next. keeps im c row from places body is_op naming gain w f around q outer s here st pc next)

-- where the code behind a branch over a far jump is
past_jump : (from : ℕ) (front : List Instr) (i : Instr) (b : BodyData) (at to : ℕ) → word_count (plain (front ++ i ∷ []) ++ jump_items b at (stack_of (slice_get b.states at)) to) ≡ length front + 3
past_jump from front i b at to =
    let two : word_count (jump_items b at (stack_of (slice_get b.states at)) to) ≡ 2 = refl in
    let all : word_count (plain (front ++ i ∷ []) ++ jump_items b at (stack_of (slice_get b.states at)) to) ≡ word_count (plain (front ++ i ∷ [])) + word_count (jump_items b at (stack_of (slice_get b.states at)) to) = sum_by-append item_len (plain (front ++ i ∷ [])) (jump_items b at (stack_of (slice_get b.states at)) to) in
    let first = words_plain (front ++ i ∷ []) in
    let long = length-append front (i ∷ []) in
    omega arith

module _ (b : BodyData) (at : ℕ) where
  pub nop_carries : Carries b at op.Nop (plain_items b at op.Nop)
  nop_carries = carried_by b at op.Nop refl (λ im c row from places body is_op naming gain w f around q outer s here st pc next. rests_kept b at op.Nop im c row from places body is_op naming gain w f around q outer s here pc st next)

  pub pop_carries : Carries b at op.Pop (plain_items b at op.Pop)
  pop_carries = carried_by b at op.Pop refl (λ im c row from places body is_op naming gain w f around q outer s here st pc next. drops_kept b at op.Pop im c row from places body is_op naming gain w f around q outer s here pc st next)

  pub dup_carries : Carries b at op.Dup (plain_items b at op.Dup)
  dup_carries = carried_by b at op.Dup refl (λ im c row from places body is_op naming gain w f around q outer s here st pc next. copies_kept b at op.Dup im c row from places body is_op naming gain w f around q outer s here here.room pc st next)

  pub ldarg_carries : (n : ℕ) → Carries b at (op.Ldarg n) (plain_items b at (op.Ldarg n))
  ldarg_carries n = carried_by b at (op.Ldarg n) refl (λ im c row from places body is_op naming gain w f around q outer s here st pc next. reads_kept b at (op.Ldarg n) im c row from places body is_op naming gain w f around q outer s here (Argument n) here.room pc st next)

  pub ldloc_carries : (n : ℕ) → Carries b at (op.Ldloc n) (plain_items b at (op.Ldloc n))
  ldloc_carries n = carried_by b at (op.Ldloc n) refl (λ im c row from places body is_op naming gain w f around q outer s here st pc next. reads_kept b at (op.Ldloc n) im c row from places body is_op naming gain w f around q outer s here (Local n) here.room pc st next)

  pub ldnull_carries : Carries b at op.Ldnull (plain_items b at op.Ldnull)
  ldnull_carries = carried_by b at op.Ldnull refl (λ im c row from places body is_op naming gain w f around q outer s here st pc next. pushes_kept b at op.Ldnull im c row from places body is_op naming gain w f around q outer s here Reference 0 (omega arith) here.room pc st next)

  pub add_carries : Carries b at op.Add (plain_items b at op.Add)
  add_carries = carried_by b at op.Add refl (λ im c row from places body is_op naming gain w f around q outer s here st pc next. wraps_kept b at op.Add im c row from places body is_op naming gain w f around q outer s here Sum here.operands pc st next)

  pub sub_carries : Carries b at op.Sub (plain_items b at op.Sub)
  sub_carries = carried_by b at op.Sub refl (λ im c row from places body is_op naming gain w f around q outer s here st pc next. wraps_kept b at op.Sub im c row from places body is_op naming gain w f around q outer s here Difference here.operands pc st next)

  pub mul_carries : Carries b at op.Mul (plain_items b at op.Mul)
  mul_carries = carried_by b at op.Mul refl (λ im c row from places body is_op naming gain w f around q outer s here st pc next. wraps_kept b at op.Mul im c row from places body is_op naming gain w f around q outer s here Product here.operands pc st next)

  pub and_carries : Carries b at op.And (plain_items b at op.And)
  and_carries = carried_by b at op.And refl (λ im c row from places body is_op naming gain w f around q outer s here st pc next. wraps_kept b at op.And im c row from places body is_op naming gain w f around q outer s here Conjunction here.operands pc st next)

  pub or_carries : Carries b at op.Or (plain_items b at op.Or)
  or_carries = carried_by b at op.Or refl (λ im c row from places body is_op naming gain w f around q outer s here st pc next. wraps_kept b at op.Or im c row from places body is_op naming gain w f around q outer s here Disjunction here.operands pc st next)

  pub xor_carries : Carries b at op.Xor (plain_items b at op.Xor)
  xor_carries = carried_by b at op.Xor refl (λ im c row from places body is_op naming gain w f around q outer s here st pc next. wraps_kept b at op.Xor im c row from places body is_op naming gain w f around q outer s here Exclusive here.operands pc st next)

  pub ceq_carries : Carries b at op.Ceq (plain_items b at op.Ceq)
  ceq_carries = carried_by b at op.Ceq refl (λ im c row from places body is_op naming gain w f around q outer s here st pc next. compares_kept b at op.Ceq im c row from places body is_op naming gain w f around q outer s here Equal pc st next)

  pub cgt_carries : Carries b at op.Cgt (plain_items b at op.Cgt)
  cgt_carries = carried_by b at op.Cgt refl (λ im c row from places body is_op naming gain w f around q outer s here st pc next. compares_kept b at op.Cgt im c row from places body is_op naming gain w f around q outer s here (Greater true) pc st next)

  pub cgt_un_carries : Carries b at op.CgtUn (plain_items b at op.CgtUn)
  cgt_un_carries = carried_by b at op.CgtUn refl (λ im c row from places body is_op naming gain w f around q outer s here st pc next. compares_kept b at op.CgtUn im c row from places body is_op naming gain w f around q outer s here (Greater false) pc st next)

  pub clt_carries : Carries b at op.Clt (plain_items b at op.Clt)
  clt_carries = carried_by b at op.Clt refl (λ im c row from places body is_op naming gain w f around q outer s here st pc next. compares_kept b at op.Clt im c row from places body is_op naming gain w f around q outer s here (Less true) pc st next)

  pub clt_un_carries : Carries b at op.CltUn (plain_items b at op.CltUn)
  clt_un_carries = carried_by b at op.CltUn refl (λ im c row from places body is_op naming gain w f around q outer s here st pc next. compares_kept b at op.CltUn im c row from places body is_op naming gain w f around q outer s here (Less false) pc st next)

  pub write_int32_carries : Carries b at op.WriteLineInt32 (plain_items b at op.WriteLineInt32)
  write_int32_carries = carried_by b at op.WriteLineInt32 refl (λ im c row from places body is_op naming gain w f around q outer s here st pc next. prints_kept b at op.WriteLineInt32 im c row from places body is_op naming gain w f around q outer s here Int32 pc st next)

  pub write_int64_carries : Carries b at op.WriteLineInt64 (plain_items b at op.WriteLineInt64)
  write_int64_carries = carried_by b at op.WriteLineInt64 refl (λ im c row from places body is_op naming gain w f around q outer s here st pc next. prints_kept b at op.WriteLineInt64 im c row from places body is_op naming gain w f around q outer s here Int64 pc st next)

  pub br_carries : (to : ℕ) → Carries b at (op.Br to) (plain_items b at (op.Br to))
  br_carries to = carried_by b at (op.Br to) refl (λ im c row from places body is_op naming gain w f around q outer s here st pc next. jumps_kept b at (op.Br to) im c row from places body is_op naming gain w f around q outer s here to here.targets.0 pc st)

  pub leave_carries : (to : ℕ) → Carries b at (op.Leave to) (plain_items b at (op.Leave to))
  leave_carries to = carried_by b at (op.Leave to) refl (λ im c row from places body is_op naming gain w f around q outer s here st pc next. leaves_kept b at (op.Leave to) im c row from places body is_op naming gain w f around q outer s here to here.targets.0 pc st)

  pub brtrue_carries : (to : ℕ) → Carries b at (op.Brtrue to) (plain_items b at (op.Brtrue to))
  brtrue_carries to = carried_by b at (op.Brtrue to) refl (λ im c row from places body is_op naming gain w f around q outer s here st pc next. jumps_where_kept b at (op.Brtrue to) im c row from places body is_op naming gain w f around q outer s here true to here.targets.0 pc st (let n = past_jump from (loads_word 5 (offset_of b (from_top b at (stack_of (slice_get b.states at)) 1))) (unless_true true) b at to in next ∙ omega arith))

  pub brfalse_carries : (to : ℕ) → Carries b at (op.Brfalse to) (plain_items b at (op.Brfalse to))
  brfalse_carries to = carried_by b at (op.Brfalse to) refl (λ im c row from places body is_op naming gain w f around q outer s here st pc next. jumps_where_kept b at (op.Brfalse to) im c row from places body is_op naming gain w f around q outer s here false to here.targets.0 pc st (let n = past_jump from (loads_word 5 (offset_of b (from_top b at (stack_of (slice_get b.states at)) 1))) (unless_true false) b at to in next ∙ omega arith))

  pub beq_carries : (to : ℕ) → Carries b at (op.Beq to) (plain_items b at (op.Beq to))
  beq_carries to = carried_by b at (op.Beq to) refl (λ im c row from places body is_op naming gain w f around q outer s here st pc next. jumps_by_kept b at (op.Beq to) im c row from places body is_op naming gain w f around q outer s here Equal to here.targets.0 pc st (let n = past_jump from (loads_word 5 (offset_of b (from_top b at (stack_of (slice_get b.states at)) 2)) ++ loads_word 6 (offset_of b (from_top b at (stack_of (slice_get b.states at)) 1))) (unless_instr Equal) b at to in next ∙ omega arith))

  pub bne_un_carries : (to : ℕ) → Carries b at (op.BneUn to) (plain_items b at (op.BneUn to))
  bne_un_carries to = carried_by b at (op.BneUn to) refl (λ im c row from places body is_op naming gain w f around q outer s here st pc next. jumps_by_kept b at (op.BneUn to) im c row from places body is_op naming gain w f around q outer s here Unequal to here.targets.0 pc st (let n = past_jump from (loads_word 5 (offset_of b (from_top b at (stack_of (slice_get b.states at)) 2)) ++ loads_word 6 (offset_of b (from_top b at (stack_of (slice_get b.states at)) 1))) (unless_instr Unequal) b at to in next ∙ omega arith))

  pub bge_carries : (to : ℕ) → Carries b at (op.Bge to) (plain_items b at (op.Bge to))
  bge_carries to = carried_by b at (op.Bge to) refl (λ im c row from places body is_op naming gain w f around q outer s here st pc next. jumps_by_kept b at (op.Bge to) im c row from places body is_op naming gain w f around q outer s here (GreaterOrEqual true) to here.targets.0 pc st (let n = past_jump from (loads_word 5 (offset_of b (from_top b at (stack_of (slice_get b.states at)) 2)) ++ loads_word 6 (offset_of b (from_top b at (stack_of (slice_get b.states at)) 1))) (unless_instr (GreaterOrEqual true)) b at to in next ∙ omega arith))

  pub bgt_carries : (to : ℕ) → Carries b at (op.Bgt to) (plain_items b at (op.Bgt to))
  bgt_carries to = carried_by b at (op.Bgt to) refl (λ im c row from places body is_op naming gain w f around q outer s here st pc next. jumps_by_kept b at (op.Bgt to) im c row from places body is_op naming gain w f around q outer s here (Greater true) to here.targets.0 pc st (let n = past_jump from (loads_word 5 (offset_of b (from_top b at (stack_of (slice_get b.states at)) 2)) ++ loads_word 6 (offset_of b (from_top b at (stack_of (slice_get b.states at)) 1))) (unless_instr (Greater true)) b at to in next ∙ omega arith))

  pub ble_carries : (to : ℕ) → Carries b at (op.Ble to) (plain_items b at (op.Ble to))
  ble_carries to = carried_by b at (op.Ble to) refl (λ im c row from places body is_op naming gain w f around q outer s here st pc next. jumps_by_kept b at (op.Ble to) im c row from places body is_op naming gain w f around q outer s here (LessOrEqual true) to here.targets.0 pc st (let n = past_jump from (loads_word 5 (offset_of b (from_top b at (stack_of (slice_get b.states at)) 2)) ++ loads_word 6 (offset_of b (from_top b at (stack_of (slice_get b.states at)) 1))) (unless_instr (LessOrEqual true)) b at to in next ∙ omega arith))

  pub blt_carries : (to : ℕ) → Carries b at (op.Blt to) (plain_items b at (op.Blt to))
  blt_carries to = carried_by b at (op.Blt to) refl (λ im c row from places body is_op naming gain w f around q outer s here st pc next. jumps_by_kept b at (op.Blt to) im c row from places body is_op naming gain w f around q outer s here (Less true) to here.targets.0 pc st (let n = past_jump from (loads_word 5 (offset_of b (from_top b at (stack_of (slice_get b.states at)) 2)) ++ loads_word 6 (offset_of b (from_top b at (stack_of (slice_get b.states at)) 1))) (unless_instr (Less true)) b at to in next ∙ omega arith))

  pub bge_un_carries : (to : ℕ) → Carries b at (op.BgeUn to) (plain_items b at (op.BgeUn to))
  bge_un_carries to = carried_by b at (op.BgeUn to) refl (λ im c row from places body is_op naming gain w f around q outer s here st pc next. jumps_by_kept b at (op.BgeUn to) im c row from places body is_op naming gain w f around q outer s here (GreaterOrEqual false) to here.targets.0 pc st (let n = past_jump from (loads_word 5 (offset_of b (from_top b at (stack_of (slice_get b.states at)) 2)) ++ loads_word 6 (offset_of b (from_top b at (stack_of (slice_get b.states at)) 1))) (unless_instr (GreaterOrEqual false)) b at to in next ∙ omega arith))

  pub bgt_un_carries : (to : ℕ) → Carries b at (op.BgtUn to) (plain_items b at (op.BgtUn to))
  bgt_un_carries to = carried_by b at (op.BgtUn to) refl (λ im c row from places body is_op naming gain w f around q outer s here st pc next. jumps_by_kept b at (op.BgtUn to) im c row from places body is_op naming gain w f around q outer s here (Greater false) to here.targets.0 pc st (let n = past_jump from (loads_word 5 (offset_of b (from_top b at (stack_of (slice_get b.states at)) 2)) ++ loads_word 6 (offset_of b (from_top b at (stack_of (slice_get b.states at)) 1))) (unless_instr (Greater false)) b at to in next ∙ omega arith))

  pub ble_un_carries : (to : ℕ) → Carries b at (op.BleUn to) (plain_items b at (op.BleUn to))
  ble_un_carries to = carried_by b at (op.BleUn to) refl (λ im c row from places body is_op naming gain w f around q outer s here st pc next. jumps_by_kept b at (op.BleUn to) im c row from places body is_op naming gain w f around q outer s here (LessOrEqual false) to here.targets.0 pc st (let n = past_jump from (loads_word 5 (offset_of b (from_top b at (stack_of (slice_get b.states at)) 2)) ++ loads_word 6 (offset_of b (from_top b at (stack_of (slice_get b.states at)) 1))) (unless_instr (LessOrEqual false)) b at to in next ∙ omega arith))

  pub blt_un_carries : (to : ℕ) → Carries b at (op.BltUn to) (plain_items b at (op.BltUn to))
  blt_un_carries to = carried_by b at (op.BltUn to) refl (λ im c row from places body is_op naming gain w f around q outer s here st pc next. jumps_by_kept b at (op.BltUn to) im c row from places body is_op naming gain w f around q outer s here (Less false) to here.targets.0 pc st (let n = past_jump from (loads_word 5 (offset_of b (from_top b at (stack_of (slice_get b.states at)) 2)) ++ loads_word 6 (offset_of b (from_top b at (stack_of (slice_get b.states at)) 1))) (unless_instr (Less false)) b at to in next ∙ omega arith))

  pub ldc_i4_carries : (n : ℤ) → FitsSigned w32 n → Carries b at (op.LdcI4 n) (plain_items b at (op.LdcI4 n))
  ldc_i4_carries n fits = carried_by b at (op.LdcI4 n) refl (λ im c row from places body is_op naming gain w f around q outer s here st pc next. pushes_kept b at (op.LdcI4 n) im c row from places body is_op naming gain w f around q outer s here Int32 (int32_word n) (int32_small n fits) here.room pc st next)

  pub ldc_i8_carries : (n : ℤ) → FitsSigned w64 n → Carries b at (op.LdcI8 n) (plain_items b at (op.LdcI8 n))
  ldc_i8_carries n fits = carried_by b at (op.LdcI8 n) refl (λ im c row from places body is_op naming gain w f around q outer s here st pc next. pushes_kept b at (op.LdcI8 n) im c row from places body is_op naming gain w f around q outer s here Int64 (int64_word n) (wide_small n fits) here.room pc st next)

  pub ldstr_carries : (n : ℕ) → n < 2 ^ 32 → Carries b at (op.Ldstr n) (plain_items b at (op.Ldstr n))
  ldstr_carries n small = carried_by b at (op.Ldstr n) refl (λ im c row from places body is_op naming gain w f around q outer s here st pc next. pushes_kept b at (op.Ldstr n) im c row from places body is_op naming gain w f around q outer s here Reference (literal_word n) (omega arith) here.room pc st next)

  pub neg_carries : Carries b at op.Neg (plain_items b at op.Neg)
  neg_carries = carried_by b at op.Neg refl (λ im c row from places body is_op naming gain w f around q outer s here st pc next. turns_kept b at op.Neg im c row from places body is_op naming gain w f around q outer s here Negative here.operands pc st next)

  pub not_carries : Carries b at op.Not (plain_items b at op.Not)
  not_carries = carried_by b at op.Not refl (λ im c row from places body is_op naming gain w f around q outer s here st pc next. turns_kept b at op.Not im c row from places body is_op naming gain w f around q outer s here Complement here.operands pc st next)

  pub conv_i4_carries : Carries b at op.ConvI4 (plain_items b at op.ConvI4)
  conv_i4_carries = carried_by b at op.ConvI4 refl (λ im c row from places body is_op naming gain w f around q outer s here st pc next. to_int32_kept b at op.ConvI4 im c row from places body is_op naming gain w f around q outer s here pc st next)

  pub conv_i8_carries : Carries b at op.ConvI8 (plain_items b at op.ConvI8)
  conv_i8_carries = carried_by b at op.ConvI8 refl (λ im c row from places body is_op naming gain w f around q outer s here st pc next. to_int64_kept b at op.ConvI8 im c row from places body is_op naming gain w f around q outer s here pc st next)

  pub conv_u8_carries : Carries b at op.ConvU8 (plain_items b at op.ConvU8)
  conv_u8_carries = carried_by b at op.ConvU8 refl (λ im c row from places body is_op naming gain w f around q outer s here st pc next. to_unsigned64_kept b at op.ConvU8 im c row from places body is_op naming gain w f around q outer s here here.operands pc st next)

  pub shl_carries : Carries b at op.Shl (plain_items b at op.Shl)
  shl_carries = carried_by b at op.Shl refl (λ im c row from places body is_op naming gain w f around q outer s here st pc next. lefts_kept b at op.Shl im c row from places body is_op naming gain w f around q outer s here here.operands pc st next)

  pub shr_un_carries : Carries b at op.ShrUn (plain_items b at op.ShrUn)
  shr_un_carries = carried_by b at op.ShrUn refl (λ im c row from places body is_op naming gain w f around q outer s here st pc next. rights_kept b at op.ShrUn im c row from places body is_op naming gain w f around q outer s here here.operands pc st next)

  pub starg_carries : (n : ℕ) → Carries b at (op.Starg n) (plain_items b at (op.Starg n))
  starg_carries n = carried_by b at (op.Starg n) refl (λ im c row from places body is_op naming gain w f around q outer s here st pc next. writes_kept b at (op.Starg n) im c row from places body is_op naming gain w f around q outer s here (Argument n) here.kinds pc st next)

  pub stloc_carries : (n : ℕ) → Carries b at (op.Stloc n) (plain_items b at (op.Stloc n))
  stloc_carries n = carried_by b at (op.Stloc n) refl (λ im c row from places body is_op naming gain w f around q outer s here st pc next. writes_kept b at (op.Stloc n) im c row from places body is_op naming gain w f around q outer s here (Local n) here.kinds pc st next)

  pub ldarga_carries : (n : ℕ) → Carries b at (op.Ldarga n) (plain_items b at (op.Ldarga n))
  ldarga_carries n = carried_by b at (op.Ldarga n) refl (λ im c row from places body is_op naming gain w f around q outer s here st pc next. points_kept b at (op.Ldarga n) im c row from places body is_op naming gain w f around q outer s here (Argument n) here.room pc st next)

  pub ldloca_carries : (n : ℕ) → Carries b at (op.Ldloca n) (plain_items b at (op.Ldloca n))
  ldloca_carries n = carried_by b at (op.Ldloca n) refl (λ im c row from places body is_op naming gain w f around q outer s here st pc next. points_kept b at (op.Ldloca n) im c row from places body is_op naming gain w f around q outer s here (Local n) here.room pc st next)

  pub shr_carries : Carries b at op.Shr (plain_items b at op.Shr)
  shr_carries = carried_by b at op.Shr refl (λ im c row from places body is_op naming gain w f around q outer s here st pc next. signed_rights_kept b at op.Shr im c row from places body is_op naming gain w f around q outer s here here.operands pc st next)

  pub switch_carries : (targets : List ℕ) → Carries b at (op.Switch targets) (plain_items b at (op.Switch targets))
  switch_carries targets = carried_by b at (op.Switch targets) refl (λ im c row from places body is_op naming gain w f around q outer s here st pc next. chooses_kept b at (op.Switch targets) im c row from places body is_op naming gain w f around q outer s here targets here.targets pc st)

  pub write_string_carries : Carries b at op.WriteLineString (plain_items b at op.WriteLineString)
  write_string_carries = carried_with b at op.WriteLineString refl (λ im c row from places body is_op naming gain w names f around q outer s here st pc next. prints_string_kept b at op.WriteLineString im c row from places body is_op naming gain w f around q outer s here names pc st next)

  pub ret_carries : Carries b at op.Ret (plain_items b at op.Ret)
  ret_carries = carried_by b at op.Ret refl (λ im c row from places body is_op naming gain w f around q outer s here st pc next. ret_kept b at op.Ret im c row from places body is_op naming gain w f around q outer s here here.caller here.kinds pc st)
