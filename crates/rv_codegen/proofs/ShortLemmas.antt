-- How many code words instructions have.
use Rattle.std.proofs.Common.{flat_map, ◌≡◌, ℕ, zero, suc, ◌+◌, ◌*◌, ◌≤◌, ◌==◌, Bool, true, false, min, if◌then◌else◌, List, [], ◌∷◌, ◌++◌, length, slice_index, Option, Some, None, refl, arith}
use Rattle.std.proofs.lemmas.List.{length-append}
use Rattle.std.proofs.lemmas.List.Sums.{sum_by-append}
use Rattle.cil_flow.specs.declared.plan.Plan.{Plan}
use Rattle.cil_flow.specs.declared.state.StackType.{StackType}
use Rattle.store_object.specs.declared.request.Form.{Form}
use Rattle.cil_meaning.specs.Values.{Kind, Plain, Managed}
use Rattle.cil_meaning.specs.Groups.{Conversion, ToInt32, ToInt64, ToUnsigned64, ToInt32Checked, NumberForm, Wraps, Checks, Divides, Shifts, Turns, Converts, Compares, StackForm, Rests, Copies, Drops, Pushes, PlaceForm, Reads, Points, Writes, BranchForm, Jumps, JumpsWhere, JumpsBy, Chooses, Leaves, CallForm, Calls, CallsSlot, CallsConstrained, Creates, Returns, LibraryForm, Prints, Swaps, Names, Starts, Joins, Group, OnStack, OnPlaces, OnNumbers, OnBranches, OnCalls, OnMembers, OnArrays, OnBoxes, OnThrow, OnLibrary, Excluded}
use Rattle.cil_meaning.specs.Types.{is_bool}
use Rattle.type_tree.specs.declared.tree.TExpr.{TExpr}
use Rattle.il_model.specs.Layouts.{words_of}
use Rattle.il_model.specs.Admission.{most_words}
use Rattle.rv_isa.specs.declared.instr.Instr.{Instr}
use Rattle.rv_isa.specs.declared.instr.Instr.TheVariants as rv
use Rattle.rv_isa.specs.Assembly.{item_len, word_count}
use Rattle.cil_flow.specs.FramePlans.{IsPlan}
use Rattle.rv_codegen.specs.FrameWords.{loads_word, stores_word, moves_words, addresses_word}
use Rattle.rv_codegen.specs.Constants.{sets_word}
use Rattle.rv_codegen.specs.PlainItems.{BodyData, group_items, print_instrs, form_number, group_targets, give_words, leave_instrs, return_instrs, target_count, plain, rest, moving, offset_of, from_top, type_from_top, next_place, is_int32, store_instrs, stack_instrs, place_instrs, binary_instrs, unary_instrs, number_instrs, conversion_instrs, comparison_instrs, wrapping_instr, shift_instr, unary_instr, jump_items, unless_true, unless_instr, place_number, is_bool_place, place_type}
use Rattle.rv_codegen.proofs.StraightLemmas.{by_if, loads_short, stores_short, moves_short}
use Rattle.rv_codegen.proofs.ItemLemmas.{words_plain, addresses_short}
use Rattle.rv_codegen.proofs.ConstantLemmas.{word_few}
use Rattle.rv_codegen.proofs.NumberCarries.{comparison_few}
use Rattle.rv_codegen.proofs.PlanLemmas.{all_narrow}

moving_short : (k : Plan) → IsPlan k → (one other : ℕ) → length (moving k one other) ≤ 96
moving_short k plan one other =
    let a = all_narrow k plan one in
    by_if (λ is. length is ≤ 96) (min (slice_index k.widths one) (slice_index k.widths other) == 0) rest (moves_words (min (slice_index k.widths one) (slice_index k.widths other)) (slice_index k.offsets one) (slice_index k.offsets other))
    (λ t. omega arith)
    (λ t. let h = moves_short (min (slice_index k.widths one) (slice_index k.widths other)) (slice_index k.offsets one) (slice_index k.offsets other) in omega arith)

module _ (b : BodyData) (plan : IsPlan b.plan) (at : ℕ) (types : List StackType) where
  binary_short : (is : List Instr) → length is ≤ 4 → length (binary_instrs b at types is) ≤ 13
  binary_short is few =
      let x1 = length-append (loads_word 5 (offset_of b (from_top b at types 2)) ++ loads_word 6 (offset_of b (from_top b at types 1)) ++ is) (stores_word 5 (offset_of b (from_top b at types 2))) in
      let x2 = length-append (loads_word 5 (offset_of b (from_top b at types 2)) ++ loads_word 6 (offset_of b (from_top b at types 1))) is in
      let x3 = length-append (loads_word 5 (offset_of b (from_top b at types 2))) (loads_word 6 (offset_of b (from_top b at types 1))) in
      let l1 = loads_short 5 (offset_of b (from_top b at types 2)) in
      let l2 = loads_short 6 (offset_of b (from_top b at types 1)) in
      let l3 = stores_short 5 (offset_of b (from_top b at types 2)) in
      omega arith

  unary_short : (is : List Instr) → length is ≤ 4 → length (unary_instrs b at types is) ≤ 10
  unary_short is few =
      let x1 = length-append (loads_word 5 (offset_of b (from_top b at types 1)) ++ is) (stores_word 5 (offset_of b (from_top b at types 1))) in
      let x2 = length-append (loads_word 5 (offset_of b (from_top b at types 1))) is in
      let l1 = loads_short 5 (offset_of b (from_top b at types 1)) in
      let l3 = stores_short 5 (offset_of b (from_top b at types 1)) in
      omega arith

  stack_short : (form : StackForm) → length (stack_instrs b at types form) ≤ 96
  stack_short Rests = omega arith
  stack_short Copies = moving_short b.plan plan (from_top b at types 1) (next_place b at types)
  stack_short Drops = omega arith
  stack_short (Pushes (Plain kind words)) =
      let x1 = length-append (sets_word 5 (slice_index words 0)) (stores_word 5 (offset_of b (next_place b at types))) in
      let l1 = word_few 5 (slice_index words 0) in
      let l2 = stores_short 5 (offset_of b (next_place b at types)) in
      omega arith
  stack_short (Pushes (Managed q)) = omega arith

  store_short : (one other : ℕ) (t : Bool) → length (store_instrs b one other t) ≤ 96
  store_short one other true =
      let x1 = length-append (loads_word 5 (offset_of b one)) (rv.Andi 5 5 255 ∷ stores_word 5 (offset_of b other)) in
      let l1 = loads_short 5 (offset_of b one) in
      let l2 = stores_short 5 (offset_of b other) in
      omega arith
  store_short one other false = moving_short b.plan plan one other

  place_short : (form : PlaceForm) → length (place_instrs b at types form) ≤ 96
  place_short (Reads slot) = moving_short b.plan plan (place_number b slot) (next_place b at types)
  place_short (Points slot) =
      let x1 = length-append (addresses_word 5 (offset_of b (place_number b slot))) (stores_word 5 (offset_of b (next_place b at types))) in
      let l1 = addresses_short 5 (offset_of b (place_number b slot)) in
      let l2 = stores_short 5 (offset_of b (next_place b at types)) in
      omega arith
  place_short (Writes slot) = store_short (from_top b at types 1) (place_number b slot) (is_bool_place (place_type b slot))

  conversion_short : (form : Conversion) → length (conversion_instrs b at types form) ≤ 96
  conversion_short ToInt32 = let h = unary_short (rv.Addiw 5 5 0 ∷ []) (omega arith) in omega arith
  conversion_short ToInt64 = omega arith
  conversion_short ToUnsigned64 =
      by_if (λ is. length is ≤ 96) (is_int32 (type_from_top b at types 1)) (unary_instrs b at types (rv.Slli 5 5 32 ∷ rv.Srli 5 5 32 ∷ [])) rest
      (λ t. let h = unary_short (rv.Slli 5 5 32 ∷ rv.Srli 5 5 32 ∷ []) (omega arith) in omega arith) (λ t. omega arith)
  conversion_short ToInt32Checked = omega arith

  number_short : (form : NumberForm) → length (number_instrs b at types form) ≤ 96
  number_short (Wraps form) = let h = binary_short (wrapping_instr form (is_int32 (type_from_top b at types 2)) ∷ []) (omega arith) in omega arith
  number_short (Checks form) = omega arith
  number_short (Divides form) = omega arith
  number_short (Shifts form) = let h = binary_short (shift_instr form (is_int32 (type_from_top b at types 2)) ∷ []) (omega arith) in omega arith
  number_short (Turns form) = let h = unary_short (unary_instr form (is_int32 (type_from_top b at types 1)) ∷ []) (omega arith) in omega arith
  number_short (Converts form) = conversion_short form
  number_short (Compares form) = let k = comparison_few form in let h = binary_short (comparison_instrs form) (omega arith) in omega arith

  few_words : (is : List Instr) → length is ≤ 96 → word_count (plain is) ≤ 256
  few_words is few = let h = words_plain is in omega arith

  stack_few : (form : StackForm) → word_count (group_items b at types (OnStack form)) ≤ 256
  stack_few form = few_words (stack_instrs b at types form) (stack_short form)

  place_few : (form : PlaceForm) → word_count (group_items b at types (OnPlaces form)) ≤ 256
  place_few form = few_words (place_instrs b at types form) (place_short form)

  number_few : (form : NumberForm) → word_count (group_items b at types (OnNumbers form)) ≤ 256
  number_few form = few_words (number_instrs b at types form) (number_short form)

  print_few : (form : Form) (kind : Kind) → word_count (group_items b at types (OnLibrary (Prints form kind))) ≤ 256
  print_few form kind =
      few_words (print_instrs b at types form)
      (let x1 = length-append (loads_word 10 (offset_of b (from_top b at types 1))) (rv.Addi 11 0 (form_number form) ∷ rv.Addi 17 0 24 ∷ rv.Ecall ∷ []) in
      let l1 = loads_short 10 (offset_of b (from_top b at types 1)) in
      omega arith)

  jumps_few : (targets : List ℕ) → word_count (flat_map (jump_items b at types) targets) ≡ 2 * length targets
  jumps_few [] = refl
  jumps_few (to ∷ targets) =
      let two : word_count (jump_items b at types to) ≡ 2 = refl in
      let all : word_count (flat_map (jump_items b at types) (to ∷ targets)) ≡ word_count (jump_items b at types to) + word_count (flat_map (jump_items b at types) targets) = sum_by-append item_len (jump_items b at types to) (flat_map (jump_items b at types) targets) in
      let rest' = jumps_few targets in
      omega arith

  give_short : (n offset word : ℕ) (t : Bool) → length (give_words b at types n offset word t) ≤ 5 * n
  give_short zero offset word t = omega arith
  give_short (suc n) offset word t =
      let few = by_if (λ is. length is ≤ 1) t (rv.Andi 6 6 255 ∷ []) [] (λ h. omega arith) (λ h. omega arith) in
      let x1 = length-append (loads_word 6 offset ++ (if t then rv.Andi 6 6 255 ∷ [] else [])) (rv.Sd 6 5 (8 * word) ∷ give_words b at types n (offset + 1) (word + 1) t) in
      let x2 = length-append (loads_word 6 offset) (if t then rv.Andi 6 6 255 ∷ [] else []) in
      let l1 = loads_short 6 offset in
      let x3 = give_short n (offset + 1) (word + 1) t in
      omega arith

  return_short : (result : Option TExpr) → length (return_instrs b at types result) ≤ 96
  return_short None = omega arith
  return_short (Some t) =
      let few : min (words_of b.program t) most_words ≤ 16 = omega arith in
      let front = loads_word 5 3 ++ give_words b at types (min (words_of b.program t) most_words) (offset_of b (from_top b at types 1)) 0 (is_bool t) in
      let x1 = length-append front (leave_instrs b at types) in
      let x2 = length-append (loads_word 5 3) (give_words b at types (min (words_of b.program t) most_words) (offset_of b (from_top b at types 1)) 0 (is_bool t)) in
      let x3 = give_short (min (words_of b.program t) most_words) (offset_of b (from_top b at types 1)) 0 (is_bool t) in
      let l1 = loads_short 5 3 in
      let l2 : length (leave_instrs b at types) ≡ 2 = refl in
      omega arith

  call_few : (form : CallForm) → word_count (group_items b at types (OnCalls form)) ≤ 256
  call_few (Calls m) = omega arith
  call_few (CallsSlot m) = omega arith
  call_few (CallsConstrained t m) = omega arith
  call_few (Creates m) = omega arith
  call_few Returns = few_words (return_instrs b at types b.method.result) (return_short b.method.result)

  library_few : (form : LibraryForm) → word_count (group_items b at types (OnLibrary form)) ≤ 256
  library_few (Prints form kind) = print_few form kind
  library_few (Swaps form kind) = omega arith
  library_few Names = omega arith
  library_few Starts = omega arith
  library_few Joins = omega arith

  branch_few : (form : BranchForm) → word_count (group_items b at types (OnBranches form)) ≤ 256 + 256 * target_count form
  branch_few (Jumps to) = let two : word_count (jump_items b at types to) ≡ 2 = refl in omega arith
  branch_few (JumpsWhere wanted to) =
      let front = loads_word 5 (offset_of b (from_top b at types 1)) ++ unless_true wanted ∷ [] in
      let two : word_count (jump_items b at types to) ≡ 2 = refl in
      let x1 = sum_by-append item_len (plain front) (jump_items b at types to) in
      let x2 = words_plain front in
      let x3 = length-append (loads_word 5 (offset_of b (from_top b at types 1))) (unless_true wanted ∷ []) in
      let l1 = loads_short 5 (offset_of b (from_top b at types 1)) in
      omega arith
  branch_few (JumpsBy form to) =
      let front = loads_word 5 (offset_of b (from_top b at types 2)) ++ loads_word 6 (offset_of b (from_top b at types 1)) ++ unless_instr form ∷ [] in
      let two : word_count (jump_items b at types to) ≡ 2 = refl in
      let x1 = sum_by-append item_len (plain front) (jump_items b at types to) in
      let x2 = words_plain front in
      let x3 = length-append (loads_word 5 (offset_of b (from_top b at types 2)) ++ loads_word 6 (offset_of b (from_top b at types 1))) (unless_instr form ∷ []) in
      let x4 = length-append (loads_word 5 (offset_of b (from_top b at types 2))) (loads_word 6 (offset_of b (from_top b at types 1))) in
      let l1 = loads_short 5 (offset_of b (from_top b at types 2)) in
      let l2 = loads_short 6 (offset_of b (from_top b at types 1)) in
      omega arith
  branch_few (Chooses targets) =
      let front = loads_word 5 (offset_of b (from_top b at types 1)) ++ sets_word 6 (length targets) ++ rv.Bltu 5 6 12 ∷ [] in
      let middle = rv.Auipc 7 0 ∷ rv.Slli 5 5 3 ∷ rv.Add 7 7 5 ∷ rv.Jalr 0 7 16 ∷ [] in
      let two : word_count (jump_items b at types (suc at)) ≡ 2 = refl in
      let a1 = sum_by-append item_len (plain front ++ jump_items b at types (suc at) ++ plain middle) (flat_map (jump_items b at types) targets) in
      let a2 = sum_by-append item_len (plain front ++ jump_items b at types (suc at)) (plain middle) in
      let a3 = sum_by-append item_len (plain front) (jump_items b at types (suc at)) in
      let x2 = words_plain front in
      let x5 = words_plain middle in
      let x3 = length-append (loads_word 5 (offset_of b (from_top b at types 1)) ++ sets_word 6 (length targets)) (rv.Bltu 5 6 12 ∷ []) in
      let x4 = length-append (loads_word 5 (offset_of b (from_top b at types 1))) (sets_word 6 (length targets)) in
      let l1 = loads_short 5 (offset_of b (from_top b at types 1)) in
      let l2 = word_few 6 (length targets) in
      let l3 = jumps_few targets in
      omega arith
  branch_few (Leaves to) = let two : word_count (jump_items b at types to) ≡ 2 = refl in omega arith

  pub all_few : (group : Group) → word_count (group_items b at types group) ≤ 256 + 256 * group_targets group
  all_few (OnStack form) = let h = stack_few form in omega arith
  all_few (OnPlaces form) = let h = place_few form in omega arith
  all_few (OnNumbers form) = let h = number_few form in omega arith
  all_few (OnBranches form) = branch_few form
  all_few (OnCalls form) = let h = call_few form in omega arith
  all_few (OnMembers form) = omega arith
  all_few (OnArrays form) = omega arith
  all_few (OnBoxes form) = omega arith
  all_few OnThrow = omega arith
  all_few (OnLibrary form) = let h = library_few form in omega arith
  all_few Excluded = omega arith
