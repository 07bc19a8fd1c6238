-- Assemblies that grow by instructions.
use Rattle.std.proofs.Common.{◌≡◌, ℕ, zero, suc, ◌+◌, ◌*◌, Bool, if◌then◌else◌, List, [], ◌∷◌, ◌++◌, map, refl, sym, ap, ◌∙◌, arith}
use Rattle.std.proofs.lemmas.List.{append-nil, append_assoc, map-append}
use Rattle.rv_isa.specs.declared.instr.Instr.{Instr}
use Rattle.rv_isa.specs.declared.item.Item.{Item}
use Rattle.rv_isa.specs.declared.item.Item.TheVariants as item
use Rattle.rv_isa.specs.Assembly.{Assembly}
use Rattle.rv_codegen.specs.FrameWords.{loads_word, stores_word, moves_words}
use Rattle.rv_codegen.specs.Emitted.{with_instrs, with_items}
use Rattle.rv_codegen.specs.PlainItems.{BodyData, plain, give_words, take_words, copies_arguments}
use Rattle.rv_codegen.specs.Forms.{given_word, gives, taken_word, copied_argument}
use Rattle.cil_flow.specs.declared.state.StackType.{StackType}
use Rattle.rv_isa.specs.declared.instr.Instr.TheVariants as rv

-- some instructions, and then others
pub grown_twice : (asm : Assembly) (a b : List Instr) → with_instrs (with_instrs asm a) b ≡ with_instrs asm (a ++ b)
grown_twice asm a b =
    ap (λ (items : List Item). record asm { items = items })
    (append_assoc asm.items (map item.Plain a) (map item.Plain b) ∙ ap (λ (items : List Item). asm.items ++ items) (sym (map-append item.Plain a b)))

-- the moves of so many words, and then of the next one
moves_more : (n from to : ℕ) → moves_words n from to ++ (loads_word 6 (from + n) ++ stores_word 6 (to + n)) ≡ moves_words (suc n) from to
moves_more zero from to =
    let f : from + 0 ≡ from = omega arith in
    let t : to + 0 ≡ to = omega arith in
    ap (λ k. loads_word 6 k ++ stores_word 6 (to + 0)) f ∙ ap (λ k. loads_word 6 from ++ stores_word 6 k) t ∙ sym (append-nil (loads_word 6 from ++ stores_word 6 to))
moves_more (suc n) from to =
    let f : from + suc n ≡ from + 1 + n = omega arith in
    let t : to + suc n ≡ to + 1 + n = omega arith in
    append_assoc (loads_word 6 from ++ stores_word 6 to) (moves_words n (from + 1) (to + 1)) (loads_word 6 (from + suc n) ++ stores_word 6 (to + suc n))
    ∙ ap (λ k. (loads_word 6 from ++ stores_word 6 to) ++ (moves_words n (from + 1) (to + 1) ++ (loads_word 6 k ++ stores_word 6 (to + suc n)))) f
    ∙ ap (λ k. (loads_word 6 from ++ stores_word 6 to) ++ (moves_words n (from + 1) (to + 1) ++ (loads_word 6 (from + 1 + n) ++ stores_word 6 k))) t
    ∙ ap (λ is. (loads_word 6 from ++ stores_word 6 to) ++ is) (moves_more n (from + 1) (to + 1))

pub moves_grown : (asm : Assembly) (n from to : ℕ) → with_instrs (with_instrs (with_instrs asm (moves_words n from to)) (loads_word 6 (from + n))) (stores_word 6 (to + n)) ≡ with_instrs asm (moves_words (n + 1) from to)
moves_grown asm n from to =
    let s : suc n ≡ n + 1 = omega arith in
    grown_twice (with_instrs asm (moves_words n from to)) (loads_word 6 (from + n)) (stores_word 6 (to + n))
    ∙ grown_twice asm (moves_words n from to) (loads_word 6 (from + n) ++ stores_word 6 (to + n))
    ∙ ap (with_instrs asm) (moves_more n from to ∙ ap (λ k. moves_words k from to) s)

-- operands, an operation, and the store of its result
pub binary_grown : (asm : Assembly) (a b i d : List Instr) → with_instrs (with_instrs (with_instrs (with_instrs asm a) b) i) d ≡ with_instrs asm (a ++ b ++ i ++ d)
binary_grown asm a b i d =
    ap (λ x. with_instrs (with_instrs x i) d) (grown_twice asm a b)
    ∙ ap (λ x. with_instrs x d) (grown_twice asm (a ++ b) i)
    ∙ grown_twice asm (a ++ b ++ i) d

-- a load, and three instructions
pub printed_grown : (asm : Assembly) (a : List Instr) (i j k : Instr) → with_instrs (with_instrs (with_instrs (with_instrs asm a) (i ∷ [])) (j ∷ [])) (k ∷ []) ≡ with_instrs asm (a ++ i ∷ j ∷ k ∷ [])
printed_grown asm a i j k =
    ap (λ x. with_instrs (with_instrs x (j ∷ [])) (k ∷ [])) (grown_twice asm a (i ∷ []))
    ∙ ap (λ x. with_instrs x (k ∷ [])) (grown_twice asm (a ++ i ∷ []) (j ∷ []))
    ∙ grown_twice asm (a ++ i ∷ [] ++ j ∷ []) (k ∷ [])
    ∙ ap (with_instrs asm) (append_assoc (a ++ i ∷ []) (j ∷ []) (k ∷ []) ∙ append_assoc a (i ∷ []) (j ∷ k ∷ []))

pub unary_grown : (asm : Assembly) (a i d : List Instr) → with_instrs (with_instrs (with_instrs asm a) i) d ≡ with_instrs asm (a ++ i ++ d)
unary_grown asm a i d = ap (λ x. with_instrs x d) (grown_twice asm a i) ∙ grown_twice asm (a ++ i) d

-- a load, an instruction, and a store to another place
pub stored_grown : (asm : Assembly) (a : List Instr) (i : Instr) (d : List Instr) → with_instrs (with_instrs (with_instrs asm a) (i ∷ [])) d ≡ with_instrs asm (a ++ i ∷ d)
stored_grown asm a i d =
    ap (λ x. with_instrs x d) (grown_twice asm a (i ∷ []))
    ∙ grown_twice asm (a ++ i ∷ []) d
    ∙ ap (with_instrs asm) (append_assoc a (i ∷ []) d)

-- some items, and then others
pub items_twice : (asm : Assembly) (a b : List Item) → with_items (with_items asm a) b ≡ with_items asm (a ++ b)
items_twice asm a b = ap (λ (items : List Item). record asm { items = items }) (append_assoc asm.items a b)

-- a load, and a jump past which a branch leads
pub jump_grown : (asm : Assembly) (a : List Instr) (i : Instr) (j : List Item) → with_items (with_instrs (with_instrs asm a) (i ∷ [])) j ≡ with_items asm (plain (a ++ i ∷ []) ++ j)
jump_grown asm a i j = ap (λ x. with_items x j) (grown_twice asm a (i ∷ [])) ∙ items_twice asm (plain (a ++ i ∷ [])) j

pub compared_jump_grown : (asm : Assembly) (a b : List Instr) (i : Instr) (j : List Item) → with_items (with_instrs (with_instrs (with_instrs asm a) b) (i ∷ [])) j ≡ with_items asm (plain (a ++ b ++ i ∷ []) ++ j)
compared_jump_grown asm a b i j = ap (λ x. with_items (with_instrs x (i ∷ [])) j) (grown_twice asm a b) ∙ jump_grown asm (a ++ b) i j

-- a load, instructions, and one more
pub stored_after : (asm : Assembly) (a i : List Instr) (j : Instr) → with_instrs (with_instrs (with_instrs asm a) i) (j ∷ []) ≡ with_instrs asm (a ++ i ++ j ∷ [])
stored_after asm a i j = ap (λ x. with_instrs x (j ∷ [])) (grown_twice asm a i) ∙ grown_twice asm (a ++ i) (j ∷ [])

pub four_grown : (asm : Assembly) (i j k l : Instr) → with_instrs (with_instrs (with_instrs (with_instrs asm (i ∷ [])) (j ∷ [])) (k ∷ [])) (l ∷ []) ≡ with_instrs asm (i ∷ j ∷ k ∷ l ∷ [])
four_grown asm i j k l =
    ap (λ x. with_instrs (with_instrs x (k ∷ [])) (l ∷ [])) (grown_twice asm (i ∷ []) (j ∷ []))
    ∙ ap (λ x. with_instrs x (l ∷ [])) (grown_twice asm (i ∷ j ∷ []) (k ∷ []))
    ∙ grown_twice asm (i ∷ j ∷ k ∷ []) (l ∷ [])

-- a test and a jump, more instructions, and a table
pub switch_grown : (asm : Assembly) (a b : List Item) (i : List Instr) (t : List Item) → with_items (with_instrs (with_items asm (a ++ b)) i) t ≡ with_items asm (a ++ b ++ plain i ++ t)
switch_grown asm a b i t = ap (λ x. with_items x t) (items_twice asm (a ++ b) (plain i)) ∙ items_twice asm (a ++ b ++ plain i) t

-- words given, and the next one
give_more : (n offset word : ℕ) (t : Bool) → gives n offset word t ++ given_word (offset + n) (word + n) t ≡ gives (suc n) offset word t
give_more zero offset word t =
    let f : offset + 0 ≡ offset = omega arith in
    let g : word + 0 ≡ word = omega arith in
    ap (λ k. given_word k (word + 0) t) f ∙ ap (λ k. given_word offset k t) g ∙ sym (append-nil (given_word offset word t))
give_more (suc n) offset word t =
    let f : offset + suc n ≡ offset + 1 + n = omega arith in
    let g : word + suc n ≡ word + 1 + n = omega arith in
    append_assoc (given_word offset word t) (gives n (offset + 1) (word + 1) t) (given_word (offset + suc n) (word + suc n) t)
    ∙ ap (λ k. given_word offset word t ++ (gives n (offset + 1) (word + 1) t ++ given_word k (word + suc n) t)) f
    ∙ ap (λ k. given_word offset word t ++ (gives n (offset + 1) (word + 1) t ++ given_word (offset + 1 + n) k t)) g
    ∙ ap (λ is. given_word offset word t ++ is) (give_more n (offset + 1) (word + 1) t)

pub given_grown : (asm : Assembly) (n offset : ℕ) (t : Bool) → with_instrs (with_instrs asm (gives n offset 0 t)) (given_word (offset + n) n t) ≡ with_instrs asm (gives (n + 1) offset 0 t)
given_grown asm n offset t =
    let s : suc n ≡ n + 1 = omega arith in
    let z : n ≡ 0 + n = omega arith in
    grown_twice asm (gives n offset 0 t) (given_word (offset + n) n t)
    ∙ ap (with_instrs asm) (ap (λ k. gives n offset 0 t ++ given_word (offset + n) k t) z ∙ give_more n offset 0 t ∙ ap (λ k. gives k offset 0 t) s)

gives_same : (b : BodyData) (at : ℕ) (types : List StackType) (n offset word : ℕ) (t : Bool) → gives n offset word t ≡ give_words b at types n offset word t
gives_same b at types zero offset word t = refl
gives_same b at types (suc n) offset word t =
    append_assoc (loads_word 6 offset ++ (if t then rv.Andi 6 6 255 ∷ [] else [])) (rv.Sd 6 5 (8 * word) ∷ []) (gives n (offset + 1) (word + 1) t)
    ∙ ap (λ is. loads_word 6 offset ++ (if t then rv.Andi 6 6 255 ∷ [] else []) ++ rv.Sd 6 5 (8 * word) ∷ is) (gives_same b at types n (offset + 1) (word + 1) t)

-- the address of the result, its words, and the return
pub returned_grown : (b : BodyData) (at : ℕ) (types : List StackType) (asm : Assembly) (a l : List Instr) (n offset : ℕ) (t : Bool) →
    with_instrs (with_instrs (with_instrs asm a) (gives n offset 0 t)) l ≡ with_instrs asm (a ++ give_words b at types n offset 0 t ++ l)
returned_grown b at types asm a l n offset t =
    unary_grown asm a (gives n offset 0 t) l ∙ ap (λ is. with_instrs asm (a ++ is ++ l)) (gives_same b at types n offset 0 t)

-- a load, instructions, and a store
pub taken_grown : (asm : Assembly) (i : Instr) (a d : List Instr) → with_instrs (with_instrs (with_instrs asm (i ∷ [])) a) d ≡ with_instrs asm (i ∷ a ++ d)
taken_grown asm i a d = ap (λ x. with_instrs x d) (grown_twice asm (i ∷ []) a) ∙ grown_twice asm (i ∷ a) d

-- words taken, and the next one
take_more : (b : BodyData) (adapt : List Instr) (n word offset : ℕ) → take_words b adapt n word offset ++ taken_word adapt (word + n) (offset + n) ≡ take_words b adapt (suc n) word offset
take_more b adapt zero word offset =
    let f : offset + 0 ≡ offset = omega arith in
    let g : word + 0 ≡ word = omega arith in
    ap (λ k. taken_word adapt (word + 0) k) f ∙ ap (λ k. taken_word adapt k offset) g ∙ sym (append-nil (taken_word adapt word offset))
take_more b adapt (suc n) word offset =
    let f : offset + suc n ≡ offset + 1 + n = omega arith in
    let g : word + suc n ≡ word + 1 + n = omega arith in
    append_assoc (taken_word adapt word offset) (take_words b adapt n (word + 1) (offset + 1)) (taken_word adapt (word + suc n) (offset + suc n))
    ∙ ap (λ k. taken_word adapt word offset ++ (take_words b adapt n (word + 1) (offset + 1) ++ taken_word adapt (word + suc n) k)) f
    ∙ ap (λ k. taken_word adapt word offset ++ (take_words b adapt n (word + 1) (offset + 1) ++ taken_word adapt k (offset + 1 + n))) g
    ∙ ap (λ is. taken_word adapt word offset ++ is) (take_more b adapt n (word + 1) (offset + 1))

pub words_taken_grown : (asm : Assembly) (b : BodyData) (adapt : List Instr) (n offset : ℕ) → with_instrs (with_instrs asm (take_words b adapt n 0 offset)) (taken_word adapt n (offset + n)) ≡ with_instrs asm (take_words b adapt (n + 1) 0 offset)
words_taken_grown asm b adapt n offset =
    let s : suc n ≡ n + 1 = omega arith in
    let z : n ≡ 0 + n = omega arith in
    grown_twice asm (take_words b adapt n 0 offset) (taken_word adapt n (offset + n))
    ∙ ap (with_instrs asm) (ap (λ k. take_words b adapt n 0 offset ++ taken_word adapt k (offset + n)) z ∙ take_more b adapt n 0 offset ∙ ap (λ k. take_words b adapt k 0 offset) s)

-- arguments copied, and the next one
copy_more : (b : BodyData) (n first : ℕ) → copies_arguments b n first ++ copied_argument b (first + n) ≡ copies_arguments b (suc n) first
copy_more b zero first =
    let f : first + 0 ≡ first = omega arith in
    ap (λ k. copied_argument b k) f ∙ sym (append-nil (copied_argument b first))
copy_more b (suc n) first =
    let f : first + suc n ≡ first + 1 + n = omega arith in
    append_assoc (copied_argument b first) (copies_arguments b n (first + 1)) (copied_argument b (first + suc n))
    ∙ ap (λ k. copied_argument b first ++ (copies_arguments b n (first + 1) ++ copied_argument b k)) f
    ∙ ap (λ is. copied_argument b first ++ is) (copy_more b n (first + 1))

pub copied_grown : (asm : Assembly) (b : BodyData) (n : ℕ) → with_instrs (with_instrs asm (copies_arguments b n 0)) (copied_argument b n) ≡ with_instrs asm (copies_arguments b (n + 1) 0)
copied_grown asm b n =
    let s : suc n ≡ n + 1 = omega arith in
    let z : n ≡ 0 + n = omega arith in
    grown_twice asm (copies_arguments b n 0) (copied_argument b n)
    ∙ ap (with_instrs asm) (ap (λ k. copies_arguments b n 0 ++ copied_argument b k) z ∙ copy_more b n 0 ∙ ap (λ k. copies_arguments b k 0) s)
