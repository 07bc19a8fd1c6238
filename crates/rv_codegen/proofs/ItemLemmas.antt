-- Items that are assembled in an image, as instructions that stand there.
use Rattle.std.proofs.Common.{◌≡◌, ℕ, zero, suc, ◌+◌, ◌-◌, ◌*◌, ◌/◌, ◌%◌, ◌<◌, ◌≤◌, true, nat_le, List, [], ◌∷◌, ◌++◌, length, slice_get, Option, Some, Result, Ok, Err, refl, sym, ap, ◌∙◌, subst, arith, ltb-true}
use Rattle.std.proofs.lemmas.Bool.Decides.{nat_tests}
use Rattle.std.proofs.lemmas.List.Sums.{sum_by-append}
use Rattle.rv_isa.specs.declared.instr.Instr.{Instr}
use Rattle.rv_isa.specs.declared.instr.Instr.TheVariants.{Ld, Sd, Addi}
use Rattle.rv_isa.specs.declared.item.Item.{Item}
use Rattle.rv_isa.specs.declared.item.Item.TheVariants as item
use Rattle.rv_isa.specs.declared.fault.AsmFault.{AsmFault}
use Rattle.rv_isa.specs.Row.{IsRow}
use Rattle.rv_isa.specs.Word.{word_of}
use Rattle.rv_isa.specs.Assembly.{item_len, word_count, words_from, joined}
use Rattle.rv_isa.proofs.RowLemmas.{decodes}
use Rattle.rv_machine.specs.Steps.{fetched}
use Rattle.rgctx_fill.specs.ThreadStates.{ImageData}
use Rattle.rgctx_fill.proofs.MachineLemmas.{Stands}
use Rattle.rv_codegen.specs.FrameWords.{is_near, far_base, loads_word, stores_word, moves_words, addresses_word}
use Rattle.rv_codegen.specs.PlainItems.{plain}
use Rattle.rv_codegen.specs.Carried.{StandFrom, code_address}
use Rattle.rv_codegen.proofs.StraightLemmas.{by_if}

-- each of the instructions has operands in their ranges
abbrev pub AreRows : List Instr → Type 0
AreRows [] = Unit {0}
AreRows (i ∷ is) = IsRow i × AreRows is

pub rows_both : (a b : List Instr) → AreRows a → AreRows b → AreRows (a ++ b)
rows_both [] b ra rb = rb
rows_both (i ∷ a) b ra rb = (ra.0, rows_both a b ra.1 rb)

pub words_plain : (is : List Instr) → word_count (plain is) ≡ length is
words_plain [] = refl
words_plain (i ∷ is) =
    let one : word_count (item.Plain i ∷ []) ≡ 1 = refl in
    let all : word_count (plain (i ∷ is)) ≡ word_count (item.Plain i ∷ []) + word_count (plain is) = sum_by-append item_len (item.Plain i ∷ []) (plain is) in
    let h = words_plain is in
    omega arith

-- code words --------------------------------------------------------------

pub fetched_at : (code : List ℕ) (from : ℕ) → fetched code (code_address from) ≡ slice_get code from
fetched_at code from =
    let low : nat_le 65536 (65536 + 4 * from) ≡ true = grind (arith, nat_tests) in
    let even : (65536 + 4 * from) % 4 ≡ 0 = omega arith in
    let back : (65536 + 4 * from - 65536) / 4 ≡ from = omega arith in
    rw (low, even, back) refl

module _ (im : ImageData) (places : List (Option ℕ)) where
  pub record First (from : ℕ) (i : Instr) (items : List Item) : Type 0 where
    pub word : slice_get im.code from ≡ Some (word_of i)
    pub behind : StandFrom im places (from + 1) items

  -- an instruction stands first, and the other items behind it
  pub first_item : (from : ℕ) (i : Instr) (items : List Item) → StandFrom im places from (item.Plain i ∷ items) → First from i items
  first_item from i items st = split (words_from places (from + 1) items) refl st.assembled
    where
      split : (r : Result (List ℕ) AsmFault) → words_from places (from + 1) items ≡ r → joined (Ok (word_of i ∷ [])) r ≡ Ok st.words → First from i items
      split (Err fault) e j = absurd (cc j)
      split (Ok more) e j =
          let words : word_of i ∷ more ≡ st.words = cc j in
          let z : from ≡ from + 0 = omega arith in
          record {
            word = subst (λ n. slice_get im.code n ≡ Some (word_of i)) (sym z) (st.there 0 (word_of i) (ap (λ (ws : List ℕ). slice_get ws 0) (sym words)));
            behind = record {
              words = more;
              assembled = e;
              there = λ k word is.
                  let n : from + suc k ≡ from + 1 + k = omega arith in
                  subst (λ m. slice_get im.code m ≡ Some word) n (st.there (suc k) word (ap (λ (ws : List ℕ). slice_get ws (suc k)) (sym words) ∙ is));
            };
          }

  pub record Front (from : ℕ) (is : List Instr) (items : List Item) : Type 0 where
    pub stands : Stands im (code_address from) is
    pub behind : StandFrom im places (from + length is) items

  -- instructions stand in front, and other items behind them
  pub front_items : (from : ℕ) (is : List Instr) (items : List Item) → AreRows is → StandFrom im places from (plain is ++ items) → Front from is items
  front_items from [] items rows st = let e : from ≡ from + 0 = omega arith in record { stands = tt; behind = subst (λ n. StandFrom im places n items) e st }
  front_items from (i ∷ is) items rows st = both (first_item from i (plain is ++ items) st) (λ b. front_items (from + 1) is items rows.1 b)
    where
      both : First from i (plain is ++ items) → (StandFrom im places (from + 1) (plain is ++ items) → Front (from + 1) is items) → Front from (i ∷ is) items
      both a next =
          let b = next a.behind in
          let e : code_address (from + 1) ≡ code_address from + 4 = omega arith in
          let n : from + 1 + length is ≡ from + suc (length is) = omega arith in
          record {
            stands = (record { word = word_of i; fetches = fetched_at im.code from ∙ a.word; decodes = decodes i rows.0 }, subst (λ q. Stands im q is) e b.stands);
            behind = subst (λ q. StandFrom im places q items) n b.behind;
          }

  -- the same where they are all
  pub plain_items_stand : (from : ℕ) (is : List Instr) → AreRows is → StandFrom im places from (plain is) → Stands im (code_address from) is
  plain_items_stand from [] rows st = tt
  plain_items_stand from (i ∷ is) rows st = both (first_item from i (plain is) st) (λ b. plain_items_stand (from + 1) is rows.1 b)
    where
      both : First from i (plain is) → (StandFrom im places (from + 1) (plain is) → Stands im (code_address (from + 1)) is) → Stands im (code_address from) (i ∷ is)
      both a next =
          let e : code_address (from + 1) ≡ code_address from + 4 = omega arith in
          (record { word = word_of i; fetches = fetched_at im.code from ∙ a.word; decodes = decodes i rows.0 }, subst (λ q. Stands im q is) e (next a.behind))

-- a code word that is there has a number below the length of the code
pub there_below : (code : List ℕ) (n word : ℕ) → slice_get code n ≡ Some word → n < length code
there_below [] n word is = absurd (cc is)
there_below (x ∷ code) zero word is = omega arith
there_below (x ∷ code) (suc n) word is = let h = there_below code n word is in omega arith

-- instructions that stand in an image end within its code
pub stand_within : (im : ImageData) (pc : ℕ) (from : ℕ) (is : List Instr) → pc ≡ code_address from → Stands im pc is → 0 < length is → from + length is ≤ length im.code
stand_within im pc from [] e st some = absurd (omega arith)
stand_within im pc from (i ∷ []) e st some =
    let h = there_below im.code from st.0.word (sym (fetched_at im.code from) ∙ ap (fetched im.code) (sym e) ∙ st.0.fetches) in
    omega arith
stand_within im pc from (i ∷ j ∷ is) e st some = let h = stand_within im (pc + 4) (from + 1) (j ∷ is) (omega arith) st.1 (omega arith) in omega arith

-- rows of loads, stores and moves ------------------------------------------

module _ (r offset : ℕ) (lt : r < 32) (low : offset < 65536) where
  pub loads_rows : AreRows (loads_word r offset)
  loads_rows =
      by_if AreRows (is_near offset) (Ld r 8 (8 * offset) ∷ []) (far_base offset ++ Ld r 7 (8 * offset % 4096) ∷ [])
      (λ t. ((near t, omega arith, lt), tt))
      (λ t. ((omega arith, omega arith), ((omega arith, omega arith, omega arith), ((omega arith, omega arith, lt), tt))))
    where
      near : is_near offset ≡ true → 8 * offset < 4096
      near t = let h = ltb-true offset 256 t in omega arith

  pub stores_rows : AreRows (stores_word r offset)
  stores_rows =
      by_if AreRows (is_near offset) (Sd r 8 (8 * offset) ∷ []) (far_base offset ++ Sd r 7 (8 * offset % 4096) ∷ [])
      (λ t. ((near t, lt, omega arith), tt))
      (λ t. ((omega arith, omega arith), ((omega arith, omega arith, omega arith), ((omega arith, lt, omega arith), tt))))
    where
      near : is_near offset ≡ true → 8 * offset < 4096
      near t = let h = ltb-true offset 256 t in omega arith

pub moves_rows : (n from to : ℕ) → from + n ≤ 65536 → to + n ≤ 65536 → AreRows (moves_words n from to)
moves_rows zero from to lf lt = tt
moves_rows (suc n) from to lf lt =
    rows_both (loads_word 6 from ++ stores_word 6 to) (moves_words n (from + 1) (to + 1))
    (rows_both (loads_word 6 from) (stores_word 6 to) (loads_rows 6 from (omega arith) (omega arith)) (stores_rows 6 to (omega arith) (omega arith)))
    (moves_rows n (from + 1) (to + 1) (omega arith) (omega arith))

pub addresses_rows : (r offset : ℕ) → r < 32 → offset < 65536 → AreRows (addresses_word r offset)
addresses_rows r offset lt low =
    by_if AreRows (is_near offset) (Addi r 8 (8 * offset) ∷ []) (far_base offset ++ Addi r 7 (8 * offset % 4096) ∷ [])
    (λ t. ((let h = ltb-true offset 256 t in omega arith, omega arith, lt), tt))
    (λ t. ((omega arith, omega arith), ((omega arith, omega arith, omega arith), ((omega arith, omega arith, lt), tt))))

pub addresses_short : (r offset : ℕ) → length (addresses_word r offset) ≤ 3
addresses_short r offset = by_if (λ is. length is ≤ 3) (is_near offset) (Addi r 8 (8 * offset) ∷ []) (far_base offset ++ Addi r 7 (8 * offset % 4096) ∷ []) (λ t. omega arith) (λ t. omega arith)
