-- The machine's turns keep to the process, one instruction after another.
use Rattle.std.proofs.Common.{◌≡◌, ◌≢◌, ℕ, ℤ, ◌+◌, ◌-◌, ◌*◌, ◌%◌, ◌<◌, ◌≤◌, List, [], ◌∷◌, ◌++◌, map, length, Bool, true, false, Some, refl, sym, ap, ◌∙◌, subst, arith, lit<}
use Rattle.std.specs.Prelude.{slice_get, slice_index, slice_set}
use Rattle.std.proofs.lemmas.List.{get_or-set_other, get_or-set_same, length-set}
use Rattle.run_top.specs.declared.first.FirstOp.{FirstOp}
use Rattle.run_top.specs.declared.first.FirstOp.TheVariants.{Push, Add, Print, Ret}
use Rattle.run_top.specs.WellFormed.{IsFine, deepest}
use Rattle.rv_isa.specs.declared.instr.Instr.TheVariants.{Addi, Addiw, Lui, Ld, Sd, Addw, Ecall}
use Rattle.rv_isa.specs.Word.{word_of}
use Rattle.interaction.specs.declared.turn.What.{What}
use Rattle.interaction.specs.declared.turn.What.TheVariants.{Action}
use Rattle.interaction.specs.Process.{Next, Ask as ProcessAsk, Over as ProcessOver}
use Rattle.interaction.specs.Thread.{Go, Ask}
use Rattle.interaction.specs.Simulation.{Sides, Keeps, Onward}
use Rattle.interaction.specs.Simulation as keeps
use Rattle.store_object.specs.declared.request.Form.TheVariants.{Number}
use Rattle.store_object.specs.declared.request.Request.{Request}
use Rattle.store_object.specs.declared.request.Request.TheVariants.{Print as PrintRequest, Finish}
use Rattle.store_object.specs.declared.reply.Reply.{Reply}
use Rattle.run_top.specs.declared.machine.Mode.TheVariants.{Code, Service, Leaving}
use Rattle.run_top.specs.Values.{sign_extended, low_32, int32_word, int32_sum}
use Rattle.run_top.specs.Process.{Frame, Doing, next, act_of, meaning, naming}
use Rattle.run_top.specs.Machine.{Thread, extended_12, served, want}
use Rattle.run_top.specs.Code.{instrs_of, high_bits, offset}
use Rattle.run_top.proofs.OneTurn.{at_word, frame_place_at, sets, loads, stores, calls}

-- a list's elements stand in another from a place on
abbrev pub HasAt : {X : Type 0} → List X → ℕ → List X → Type 0
HasAt code p [] = Unit {0}
HasAt code p (i ∷ is) = (slice_get code p ≡ Some i) × HasAt code (p + 1) is

-- LUI and ADDIW make the number
li_value : (b : ℕ) → b < 4294967296 → (sign_extended (4096 * high_bits b) + extended_12 (b % 4096)) % 4294967296 ≡ b
li_value b l = grind arith

-- the stack's values stand in the frame, from its stack places on
abbrev pub Stands : List ℕ → List ℕ → Type 0
Stands f [] = Unit {0}
Stands f (v ∷ s) = (slice_index f (8 + length s) ≡ v) × Stands f s

stands_set : (f s : List ℕ) (j v : ℕ) → 8 + length s ≤ j → Stands f s → Stands (slice_set f j v) s
stands_set f [] j v l h = tt
stands_set f (w ∷ s) j v l h =
    let ne : 8 + length s ≢ j = λ e. omega arith in
    (get_or-set_other f j (8 + length s) v 0 ne ∙ h.0, stands_set f s j v (omega arith) h.1)

-- the registers and the frame of a thread between two instructions
pub record Rests (x f stack : List ℕ) : Type 0 where
  pub base : slice_index x 8 ≡ 1073741824
  pub registers : length x ≡ 32
  pub stands : Stands f stack

-- a register other than x8 is written
written : (x f stack : List ℕ) (r v : ℕ) → r ≢ 8 → Rests x f stack → Rests (slice_set x r v) f stack
written x f stack r v ne h = record {
  base = get_or-set_other x r 8 v 0 (λ e. ne (sym e)) ∙ h.base;
  registers = length-set x r v ∙ h.registers;
  stands = h.stands;
}

-- a value is put on the stack
pushed : (x f stack : List ℕ) (v w : ℕ) → 8 + length stack < length f → v ≡ w → Rests x f stack → Rests x (slice_set f (8 + length stack) v) (w ∷ stack)
pushed x f stack v w within e h = record {
  base = h.base;
  registers = h.registers;
  stands = (get_or-set_same f (8 + length stack) v 0 within ∙ e, stands_set f stack (8 + length stack) v (omega arith) h.stands);
}

-- the topmost value is taken off
popped : (x f stack : List ℕ) (v : ℕ) → Rests x f (v ∷ stack) → Rests x f stack
popped x f stack v h = record { base = h.base; registers = h.registers; stands = h.stands.1 }

has_front : (code : List ℕ) (p : ℕ) (a b : List ℕ) → HasAt code p (a ++ b) → HasAt code p a
has_front code p [] b h = tt
has_front code p (i ∷ a) b h = (h.0, has_front code (p + 1) a b h.1)

has_back : (code : List ℕ) (p : ℕ) (a b : List ℕ) → HasAt code p (a ++ b) → HasAt code (p + length a) b
has_back code p [] b h = let e : p ≡ p + 0 = omega arith in subst (λ n. HasAt code n b) e h
has_back code p (i ∷ a) b h =
    let e : p + 1 + length a ≡ p + length (i ∷ a) = omega arith in
    subst (λ n. HasAt code n b) e (has_back code (p + 1) a b h.1)

below : (a b : ℕ) → a < b → a ≢ b
below a b l e = omega arith

above : (a b : ℕ) → b < a → a ≢ b
above a b l e = omega arith

deep : (depth : ℕ) (ops : List FirstOp) → depth ≤ deepest depth ops
deep depth [] = omega arith
deep depth (op ∷ ops) = omega arith

served_print : (p : ℕ) (x f : List ℕ) (v : ℕ) → slice_index x 17 ≡ 24 → slice_index x 11 ≡ 0 → slice_index x 10 ≡ v → served (at_word p x f Service) ≡ Ask (PrintRequest Number v) (λ reply. at_word p x f Code)
served_print p x f v a b c = rw (a, b, c) refl

served_return : (p : ℕ) (x f : List ℕ) → slice_index x 17 ≡ 2 → served (at_word p x f Service) ≡ Go Action (at_word p x f Leaving)
served_return p x f a = rw a refl

module _ (ops : List FirstOp) (image : List ℕ) where
  -- the instructions from a place on, and their words from a code word on; the frame has room for their stack
  pub record Before (rest : List FirstOp) (place p : ℕ) (x f stack : List ℕ) : Type 0 where
    pub code : HasAt ops place rest
    pub has : HasAt image p (map word_of (instrs_of (length stack) rest))
    pub fine : IsFine (length stack) rest
    pub low : p + 4 * length rest < 1048576
    pub few : length stack ≤ 120
    pub room : 8 + deepest (length stack) rest < length f
    pub rests : Rests x f stack

  -- process and thread are before the same instruction
  pub data At : Doing → Thread → Type 0 where
    before : {rest : List FirstOp} {place p : ℕ} {x f stack : List ℕ} → Before rest place p x f stack → At (Next (record { place = place; stack = stack })) (at_word p x f Code)

module _ (ops : List FirstOp) (image : List ℕ) (context : List ℕ) where
  abbrev Here : Doing → Thread → Type 0
  Here = At ops image

  -- nothing is named, and no turn gains others
  abbrev pub sides : Sides ⊥ ⊥ Request Reply Frame Thread
  sides = record { naming = naming; meaning = meaning ops; want = want image; gain = λ t. 0; words = slice_index context }

  -- a private turn
  went : {b : Bool} {n : ℕ} {q : Doing} {s t : Thread} (m : ℕ) (what : What) → want image s ≡ Go what t → m < n → Keeps sides Here false m q t → Keeps sides Here b n q s
  went {q = q} m what e l k = keeps.turns m (omega arith) (subst (Onward sides Here m q) (sym e) (keeps.goes k))

  -- the process begins the instruction
  begun : {place : ℕ} {stack : List ℕ} {s : Thread} (op : FirstOp) (q : Doing) → slice_get ops place ≡ Some op → act_of (Some op) place stack ≡ q → Keeps sides Here true 8 q s → Keeps sides Here true 0 (Next (record { place = place; stack = stack })) s
  begun {place = place} {stack = stack} {s = s} op q here is k =
      let same : meaning ops (record { place = place; stack = stack }) ≡ q = ap (λ o. act_of o place stack) here ∙ is in
      keeps.begins 8 (omega arith) (subst (λ a. Keeps sides Here true 8 a s) (sym same) k)

  push_keeps : (n : ℤ) (rest : List FirstOp) (place p : ℕ) (x f stack : List ℕ) → Before ops image (Push n ∷ rest) place p x f stack → Keeps sides Here true 0 (Next (record { place = place; stack = stack })) (at_word p x f Code)
  push_keeps n rest place p x f stack b =
      let k = length stack in
      let words = b.has in
      let high = sign_extended (4096 * high_bits (low_32 n)) in
      let x1 = slice_set x 5 high in
      let number = sign_extended ((slice_index x1 5 + extended_12 (low_32 n % 4096)) % 4294967296) in
      let x2 = slice_set x1 5 number in
      let r1 : Rests x1 f stack = written x f stack 5 high (below 5 8 (lit< tt)) b.rests in
      let r2 : Rests x2 f stack = written x1 f stack 5 number (below 5 8 (lit< tt)) r1 in
      let read1 : slice_index x1 5 ≡ high = get_or-set_same x 5 high 0 (omega (arith, b.rests.registers)) in
      let read2 : slice_index x2 5 ≡ number = get_or-set_same x1 5 number 0 (omega (arith, r1.registers)) in
      let bits : low_32 n < 4294967296 = omega arith in
      let value : number ≡ int32_word n = ap (λ v. sign_extended ((v + extended_12 (low_32 n % 4096)) % 4294967296)) read1 ∙ ap sign_extended (li_value (low_32 n) bits) in
      let after = deep (k + 1) rest in
      let within : 8 + k < length f = omega (arith, b.room) in
      let r3 : Rests x2 (slice_set f (8 + k) (slice_index x2 5)) (int32_word n ∷ stack) = pushed x2 f stack (slice_index x2 5) (int32_word n) within (read2 ∙ value) r2 in
      let f3 = slice_set f (8 + k) (slice_index x2 5) in
      let three : p + 3 ≡ p + 1 + 1 + 1 = omega arith in
      let d : k + 1 ≡ length (int32_word n ∷ stack) = omega arith in
      let later : Before ops image rest (place + 1) (p + 1 + 1 + 1) x2 f3 (int32_word n ∷ stack) = record {
        code = b.code.1;
        has = subst (λ e. HasAt image (p + 1 + 1 + 1) (map word_of (instrs_of e rest))) d words.1.1.1;
        fine = subst (λ e. IsFine e rest) d b.fine.1;
        low = omega (arith, b.low);
        few = omega (arith, b.fine.0);
        room = let l = length-set f (8 + k) (slice_index x2 5) in let same = ap (λ e. deepest e rest) d in omega (arith, b.room);
        rests = r3;
      } in
      begun (Push n) (next place (int32_word n ∷ stack)) b.code.0 refl
      (went 7 _ (sets image p x f (omega (arith, b.low)) (Lui 5 (high_bits (low_32 n))) (omega arith, omega arith) words.0 5 high refl) (omega arith)
      (went 6 _ (sets image (p + 1) x1 f (omega (arith, b.low)) (Addiw 5 5 (low_32 n % 4096)) (omega arith, omega arith, omega arith) words.1.0 5 number refl) (omega arith)
      (went 5 _ (stores image (p + 1 + 1) x2 f (omega (arith, b.low)) (Sd 5 8 (offset k)) (omega arith, omega arith, omega arith) words.1.1.0 _ (slice_index x2 5) (8 + k) refl (frame_place_at (length f) (slice_index x2 8) k r2.base (omega (arith, b.fine.0)) within)) (omega arith)
      (keeps.arrives (before later)))))

  add_keeps : (rest : List FirstOp) (place p : ℕ) (x f : List ℕ) (v u : ℕ) (stack : List ℕ) → Before ops image (Add ∷ rest) place p x f (v ∷ u ∷ stack) → Keeps sides Here true 0 (Next (record { place = place; stack = v ∷ u ∷ stack })) (at_word p x f Code)
  add_keeps rest place p x f v u stack b =
      let i = length stack in
      let j = length (u ∷ stack) in
      let i_is : length (v ∷ u ∷ stack) - 2 ≡ i = omega arith in
      let j_is : length (v ∷ u ∷ stack) - 1 ≡ j = omega arith in
      let words = subst (λ e. HasAt image p (map word_of (Ld 5 8 (offset e) ∷ Ld 6 8 (offset j) ∷ Addw 5 5 6 ∷ Sd 5 8 (offset e) ∷ instrs_of j rest))) i_is (subst (λ e. HasAt image p (map word_of (Ld 5 8 (offset (length (v ∷ u ∷ stack) - 2)) ∷ Ld 6 8 (offset e) ∷ Addw 5 5 6 ∷ Sd 5 8 (offset (length (v ∷ u ∷ stack) - 2)) ∷ instrs_of e rest))) j_is b.has) in
      let deepest_is = ap (λ e. deepest e rest) j_is in
      let many = deep (length (v ∷ u ∷ stack)) (Add ∷ rest) in
      let within : 8 + j < length f = omega (arith, b.room) in
      let x1 = slice_set x 5 (slice_index f (8 + i)) in
      let x2 = slice_set x1 6 (slice_index f (8 + j)) in
      let sum = sign_extended ((slice_index x2 5 + slice_index x2 6) % 4294967296) in
      let x3 = slice_set x2 5 sum in
      let r1 : Rests x1 f (v ∷ u ∷ stack) = written x f (v ∷ u ∷ stack) 5 (slice_index f (8 + i)) (below 5 8 (lit< tt)) b.rests in
      let r2 : Rests x2 f (v ∷ u ∷ stack) = written x1 f (v ∷ u ∷ stack) 6 (slice_index f (8 + j)) (below 6 8 (lit< tt)) r1 in
      let r3 : Rests x3 f (v ∷ u ∷ stack) = written x2 f (v ∷ u ∷ stack) 5 sum (below 5 8 (lit< tt)) r2 in
      let r4 : Rests x3 f stack = popped x3 f stack u (popped x3 f (u ∷ stack) v r3) in
      let read5 : slice_index x2 5 ≡ u = get_or-set_other x1 6 5 (slice_index f (8 + j)) 0 (below 5 6 (lit< tt)) ∙ get_or-set_same x 5 (slice_index f (8 + i)) 0 (omega (arith, b.rests.registers)) ∙ b.rests.stands.1.0 in
      let read6 : slice_index x2 6 ≡ v = get_or-set_same x1 6 (slice_index f (8 + j)) 0 (omega (arith, r1.registers)) ∙ b.rests.stands.0 in
      let value : sum ≡ int32_sum u v = ap (λ w. sign_extended ((w + slice_index x2 6) % 4294967296)) read5 ∙ ap (λ w. sign_extended ((u + w) % 4294967296)) read6 in
      let f4 = slice_set f (8 + i) (slice_index x3 5) in
      let r5 : Rests x3 f4 (int32_sum u v ∷ stack) = pushed x3 f stack (slice_index x3 5) (int32_sum u v) (omega arith) (get_or-set_same x2 5 sum 0 (omega (arith, r2.registers)) ∙ value) r4 in
      let later : Before ops image rest (place + 1) (p + 1 + 1 + 1 + 1) x3 f4 (int32_sum u v ∷ stack) = record {
        code = b.code.1;
        has = words.1.1.1.1;
        fine = subst (λ e. IsFine e rest) j_is b.fine.1;
        low = omega (arith, b.low);
        few = omega (arith, b.few);
        room = let l = length-set f (8 + i) (slice_index x3 5) in omega (arith, b.room);
        rests = r5;
      } in
      begun Add (next place (int32_sum u v ∷ stack)) b.code.0 refl
      (went 7 _ (loads image p x f (omega (arith, b.low)) (Ld 5 8 (offset i)) (omega arith, omega arith, omega (arith, b.few)) words.0 5 _ (8 + i) refl (frame_place_at (length f) (slice_index x 8) i b.rests.base (omega (arith, b.few)) (omega arith))) (omega arith)
      (went 6 _ (loads image (p + 1) x1 f (omega (arith, b.low)) (Ld 6 8 (offset j)) (omega arith, omega arith, omega (arith, b.few)) words.1.0 6 _ (8 + j) refl (frame_place_at (length f) (slice_index x1 8) j r1.base (omega (arith, b.few)) within)) (omega arith)
      (went 5 _ (sets image (p + 1 + 1) x2 f (omega (arith, b.low)) (Addw 5 5 6) (omega arith, omega arith, omega arith) words.1.1.0 5 sum refl) (omega arith)
      (went 4 _ (stores image (p + 1 + 1 + 1) x3 f (omega (arith, b.low)) (Sd 5 8 (offset i)) (omega arith, omega arith, omega (arith, b.few)) words.1.1.1.0 _ (slice_index x3 5) (8 + i) refl (frame_place_at (length f) (slice_index x3 8) i r3.base (omega (arith, b.few)) (omega arith))) (omega arith)
      (keeps.arrives (before later))))))

  print_keeps : (rest : List FirstOp) (place p : ℕ) (x f : List ℕ) (v : ℕ) (stack : List ℕ) → Before ops image (Print ∷ rest) place p x f (v ∷ stack) → Keeps sides Here true 0 (Next (record { place = place; stack = v ∷ stack })) (at_word p x f Code)
  print_keeps rest place p x f v stack b =
      let i = length stack in
      let i_is : length (v ∷ stack) - 1 ≡ i = omega arith in
      let words = subst (λ e. HasAt image p (map word_of (Ld 10 8 (offset e) ∷ Addi 11 0 0 ∷ Addi 17 0 24 ∷ Ecall ∷ instrs_of e rest))) i_is b.has in
      let deepest_is = ap (λ e. deepest e rest) i_is in
      let many = deep (length (v ∷ stack)) (Print ∷ rest) in
      let a = slice_index f (8 + i) in
      let x1 = slice_set x 10 a in
      let x2 = slice_set x1 11 0 in
      let x3 = slice_set x2 17 24 in
      let r1 : Rests x1 f (v ∷ stack) = written x f (v ∷ stack) 10 a (above 10 8 (lit< tt)) b.rests in
      let r2 : Rests x2 f (v ∷ stack) = written x1 f (v ∷ stack) 11 0 (above 11 8 (lit< tt)) r1 in
      let r3 : Rests x3 f (v ∷ stack) = written x2 f (v ∷ stack) 17 24 (above 17 8 (lit< tt)) r2 in
      let read17 : slice_index x3 17 ≡ 24 = get_or-set_same x2 17 24 0 (omega (arith, r2.registers)) in
      let read11 : slice_index x3 11 ≡ 0 = get_or-set_other x2 17 11 24 0 (below 11 17 (lit< tt)) ∙ get_or-set_same x1 11 0 0 (omega (arith, r1.registers)) in
      let read10 : slice_index x3 10 ≡ v = get_or-set_other x2 17 10 24 0 (below 10 17 (lit< tt)) ∙ get_or-set_other x1 11 10 0 0 (below 10 11 (lit< tt)) ∙ get_or-set_same x 10 a 0 (omega (arith, b.rests.registers)) ∙ b.rests.stands.0 in
      let later : Before ops image rest (place + 1) (p + 1 + 1 + 1 + 1) x3 f stack = record {
        code = b.code.1;
        has = words.1.1.1.1;
        fine = subst (λ e. IsFine e rest) i_is b.fine.1;
        low = omega (arith, b.low);
        few = omega (arith, b.few);
        room = omega (arith, b.room);
        rests = popped x3 f stack v r3;
      } in
      begun Print (ProcessAsk (PrintRequest Number v) (λ reply. next place stack)) b.code.0 refl
      (went 7 _ (loads image p x f (omega (arith, b.low)) (Ld 10 8 (offset i)) (omega arith, omega arith, omega (arith, b.few)) words.0 10 _ (8 + i) refl (frame_place_at (length f) (slice_index x 8) i b.rests.base (omega (arith, b.few)) (omega (arith, b.room)))) (omega arith)
      (went 6 _ (sets image (p + 1) x1 f (omega (arith, b.low)) (Addi 11 0 0) (omega arith, omega arith, omega arith) words.1.0 11 0 refl) (omega arith)
      (went 5 _ (sets image (p + 1 + 1) x2 f (omega (arith, b.low)) (Addi 17 0 24) (omega arith, omega arith, omega arith) words.1.1.0 17 24 refl) (omega arith)
      (went 4 _ (calls image (p + 1 + 1 + 1) x3 f (omega (arith, b.low)) Ecall tt words.1.1.1.0 refl) (omega arith)
      (keeps.turns 3 (omega arith) (subst (Onward sides Here 3 (ProcessAsk (PrintRequest Number v) (λ reply. next place stack))) (sym (served_print (p + 1 + 1 + 1 + 1) x3 f v read17 read11 read10)) (keeps.asks (λ reply. keeps.arrives (before later)))))))))

  ret_keeps : (place p : ℕ) (x f : List ℕ) → Before ops image (Ret ∷ []) place p x f [] → Keeps sides Here true 0 (Next (record { place = place; stack = [] })) (at_word p x f Code)
  ret_keeps place p x f b =
      let words = b.has in
      let x1 = slice_set x 17 2 in
      let read17 : slice_index x1 17 ≡ 2 = get_or-set_same x 17 2 0 (omega (arith, b.rests.registers)) in
      begun Ret (ProcessAsk Finish (λ reply. ProcessOver)) b.code.0 refl
      (went 7 _ (sets image p x f (omega (arith, b.low)) (Addi 17 0 2) (omega arith, omega arith, omega arith) words.0 17 2 refl) (omega arith)
      (went 6 _ (calls image (p + 1) x1 f (omega (arith, b.low)) Ecall tt words.1.0 refl) (omega arith)
      (went 5 Action (served_return (p + 1 + 1) x1 f read17) (omega arith)
      (keeps.turns 4 (omega arith) (keeps.asks (λ reply. keeps.turns 3 (omega arith) keeps.ends))))))

  -- at each place where both have arrived the next instruction keeps to the process
  by_rest : (rest : List FirstOp) (place p : ℕ) (x f stack : List ℕ) → Before ops image rest place p x f stack → Keeps sides Here true 0 (Next (record { place = place; stack = stack })) (at_word p x f Code)
  by_rest [] place p x f stack b = absurd b.fine
  by_rest (Push n ∷ rest) place p x f stack b = push_keeps n rest place p x f stack b
  by_rest (Add ∷ rest) place p x f [] b = absurd (omega (arith, b.fine.0))
  by_rest (Add ∷ rest) place p x f (v ∷ []) b = absurd (omega (arith, b.fine.0))
  by_rest (Add ∷ rest) place p x f (v ∷ u ∷ stack) b = add_keeps rest place p x f v u stack b
  by_rest (Print ∷ rest) place p x f [] b = absurd (omega (arith, b.fine.0))
  by_rest (Print ∷ rest) place p x f (v ∷ stack) b = print_keeps rest place p x f v stack b
  by_rest (Ret ∷ []) place p x f [] b = ret_keeps place p x f b
  by_rest (Ret ∷ []) place p x f (v ∷ stack) b = absurd (omega (arith, b.fine))
  by_rest (Ret ∷ op ∷ rest) place p x f stack b = absurd b.fine

  pub goes_on : (q : Doing) (s : Thread) → Here q s → Keeps sides Here true 0 q s
  goes_on q s (before {rest = rest} {place = place} {p = p} {x = x} {f = f} {stack = stack} b) = by_rest rest place p x f stack b
