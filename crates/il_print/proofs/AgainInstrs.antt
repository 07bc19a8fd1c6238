-- An instruction that a text gives can be written in a canonical text.
use Rattle.std.proofs.Common.{◌≡◌, ℕ, zero, suc, ◌<◌, ◌≤◌, ◌^◌, Bool, true, false, if◌then◌else◌, List, [], ◌∷◌, length, Some, None, refl, sym, ap, ◌∙◌, subst, codes, arith, Contains, All, unwrap_or, is_some}
use Rattle.std.specs.List.{AllByRecursion}
use Rattle.std.specs.Int.Signed.{mag}
use Rattle.std.proofs.lemmas.Bool.{true≢false}
use Rattle.il_text.specs.Spelling.{is_negative, magnitude_of}
use Rattle.il_model.specs.declared.form.Form.{Form}
use Rattle.il_model.specs.declared.member.MRef.{MRef}
use Rattle.il_model.specs.declared.written.WrittenName.{WrittenName}
use Rattle.il_model.specs.declared.written.WrittenOperand.{WrittenOperand}
use Rattle.il_model.specs.declared.written.WrittenOperand.TheVariants as operand
use Rattle.il_model.specs.declared.written.WrittenInstr.{WrittenInstr}
use Rattle.il_model.specs.Lexemes.{Lexeme, Separated, last as last_part, next as next_part}
use Rattle.il_model.specs.Forms.{OperandKind, called_method, word, no_text, FormWord, library_call, word_of, operand_kind}
use Rattle.il_model.specs.Ops.{Operand, targets, method}
use Rattle.il_model.specs.Spellings.{short_words, Shortened, shortened}
use Rattle.il_model.specs.Instructions.{IsLabel, IsInside, nothing_inside, type_inside, IsLibraryCall, library_words, IsOperand, nothing as spelled_nothing, int32_number, int64_number, text, place_number, target as spelled_target, targets as spelled_targets, type as spelled_type, called, method as spelled_method, field as spelled_field, constrained as spelled_constrained, IsInstr, long, library, short, short_whole}
use Rattle.il_model.specs.Names.{Scope, Each, end, both}
use Rattle.il_model.specs.LookUp.{NamesLabel, NamesOperand, names_int32, names_int64, names_literal, names_place, names_target, names_targets, names_type, names_method, names_field, names_constrained}
use Rattle.il_model.specs.Canonical.{Printing, targets_of}
use Rattle.il_print.proofs.AgainNumbers.{int32_low, int64_low}
use Rattle.il_print.proofs.AgainMembers.{AreGenuine, genuine_back, genuine_rest, FitsRef, ref_fits, named_ref}
use Rattle.il_print.proofs.AgainForms.{Suits, suits_nothing, suits_int32, suits_int64, suits_text, suits_place, suits_target, suits_targets, suits_type, suits_call, suits_method, suits_field, suits_constrained}
use Rattle.il_print.proofs.AgainOps.{IsLabelled, IsOwnCall, IsWritable, can_nothing, can_int32, can_int64, can_text, can_place, can_target, can_targets, can_type, can_call, can_method, can_field, can_constrained}

-- ---- lists of which each item is known

pub all_at : {X : Type 0} (P : X → Type 0) (xs : List X) → AllByRecursion P xs → All P xs
all_at P [] all k d inside = absurd (omega (arith, inside))
all_at P (x ∷ xs) all zero d inside = all.0
all_at P (x ∷ xs) all (suc k) d inside = all_at P xs all.1 k d (omega (arith, inside))

pub all_contained : {X : Type 0} (P : X → Type 0) (xs : List X) (x : X) → AllByRecursion P xs → Contains xs x → P x
all_contained P xs x all (k, inside, is) = subst P is (all_at P xs all k x inside)

-- ---- what an instruction of an accepted text holds

abbrev pub FitsOperand : WrittenOperand → Type 0
FitsOperand operand.Nothing = Unit {0}
FitsOperand (operand.Int32 n) = mag n < 2 ^ 31
FitsOperand (operand.Int64 n) = mag n < 2 ^ 63
FitsOperand (operand.Text bytes) = Unit {0}
FitsOperand (operand.Place n) = n < 2 ^ 64
FitsOperand (operand.Label to) = Unit {0}
FitsOperand (operand.Labels to) = 1 ≤ length to
FitsOperand (operand.Type t) = Unit {0}
FitsOperand (operand.Method m) = FitsRef m
FitsOperand (operand.Field f) = Unit {0}
FitsOperand (operand.Constrained t m) = FitsRef m

place_is : (b : Bool) (m n : ℕ) → (if b then None else Some m) ≡ Some n → m ≡ n
place_is true m n e = absurd (true≢false (sym (ap is_some e)))
place_is false m n e = ap (λ o. unwrap_or o m) e

some_labels : (mark : List ℕ) (ls : List Lexeme) (to : List WrittenName) → Separated mark IsLabel ls to → 1 ≤ length to
some_labels mark ls to (last_part ws x is) = omega arith
some_labels mark ls to (next_part ws front back l x xs split is same are) = omega arith

operand_fits : (kind : OperandKind) (ls : List Lexeme) (o : WrittenOperand) → IsOperand kind ls o → AreGenuine ls → FitsOperand o
operand_fits kind ls o spelled_nothing genuine = tt
operand_fits kind ls o (int32_number l n is value) genuine = int32_low l.bytes n value
operand_fits kind ls o (int64_number l n is value) genuine = int64_low l.bytes n value
operand_fits kind ls o (text l is) genuine = tt
operand_fits kind ls o (place_number l n is value) genuine =
    subst (λ m. m < 2 ^ 64) (place_is (is_negative l.bytes) (magnitude_of l.bytes) n value) (genuine.numbers.0 is)
operand_fits kind ls o (spelled_target ws to is) genuine = tt
operand_fits kind ls o (spelled_targets ws inner left right to split opens are closes) genuine = some_labels (codes ",") inner to are
operand_fits kind ls o (spelled_type ws t is) genuine = tt
operand_fits kind ls o (called ws m is own) genuine = ref_fits ws m is genuine
operand_fits kind ls o (spelled_method ws m is) genuine = ref_fits ws m is genuine
operand_fits kind ls o (spelled_field ws f is) genuine = tt
operand_fits kind ls o (spelled_constrained ws front named l t m split is same ref) genuine =
    ref_fits named m ref (genuine_rest l named (genuine_back front (l ∷ named) (subst AreGenuine split genuine)))

inside_fits : (kind : OperandKind) (ls : List Lexeme) (o : WrittenOperand) → IsInside kind ls o → FitsOperand o
inside_fits kind ls o nothing_inside = tt
inside_fits kind ls o (type_inside ws t is) = tt

call_fits : (ls : List Lexeme) (f : Form) (o : WrittenOperand) → IsLibraryCall ls f o → FitsOperand o
call_fits ls f o (library_words ws front inner back g u before behind split is a inside b) = inside_fits (operand_kind g) inner u inside

shortened_fit : AllByRecursion (λ (row : Shortened). FitsOperand row.operand) shortened
shortened_fit = (
  omega arith,
  (
    omega arith,
    (
      omega arith,
      (
        omega arith,
        (
          omega arith,
          (
            omega arith,
            (
              omega arith,
              (
                omega arith,
                (
                  omega arith,
                  (
                    omega arith,
                    (
                      omega arith,
                      (
                        omega arith,
                        (
                          omega arith,
                          (
                            omega arith,
                            (
                              omega arith,
                              (
                                omega arith,
                                (
                                  omega arith,
                                  (
                                    omega arith,
                                    (
                                      omega arith,
                                      (
                                        omega arith,
                                        (
                                          omega arith,
                                          (
                                            omega arith,
                                            (tt, (tt, (tt, (tt, (tt, (tt, (tt, (tt, (tt, (tt, tt)))))))))),
                                          ),
                                        ),
                                      ),
                                    ),
                                  ),
                                ),
                              ),
                            ),
                          ),
                        ),
                      ),
                    ),
                  ),
                ),
              ),
            ),
          ),
        ),
      ),
    ),
  ),
)

pub instr_fits : (ls : List Lexeme) (i : WrittenInstr) → IsInstr ls i → AreGenuine ls → FitsOperand i.operand
instr_fits ls i (long l ws f o is are) genuine = operand_fits (operand_kind f) ws o are (genuine_rest l ws genuine)
instr_fits ls i (library l ws f o is are) genuine = call_fits ws f o are
instr_fits ls i (short l ws f o is are) genuine = operand_fits (operand_kind f) ws o are (genuine_rest l ws genuine)
instr_fits ls i (short_whole l row among is) genuine = all_contained (λ row. FitsOperand row.operand) shortened row shortened_fit among

-- ---- its form is written somehow

is_some_word : FormWord → Bool
is_some_word (word w) = true
is_some_word (library_call before behind) = true
is_some_word no_text = false

rows_written : AllByRecursion (λ (row : List ℕ × Form). is_some_word (word_of row.1) ≡ true) short_words
unfolding is_some_word
rows_written =
    (refl, (refl, (refl, (refl, (refl, (refl, (refl, (refl, (refl, (refl, (refl, (refl, (refl, (refl, (refl, (refl, (refl, (refl, (refl, (refl, (refl, tt)))))))))))))))))))))

shortened_written : AllByRecursion (λ (row : Shortened). is_some_word (word_of row.form) ≡ true) shortened
unfolding is_some_word
shortened_written = (
  refl,
  (
    refl,
    (
      refl,
      (
        refl,
        (
          refl,
          (
            refl,
            (
              refl,
              (
                refl,
                (
                  refl,
                  (
                    refl,
                    (
                      refl,
                      (
                        refl,
                        (
                          refl,
                          (
                            refl,
                            (
                              refl,
                              (
                                refl,
                                (
                                  refl,
                                  (
                                    refl,
                                    (
                                      refl,
                                      (
                                        refl,
                                        (
                                          refl,
                                          (
                                            refl,
                                            (refl, (refl, (refl, (refl, (refl, (refl, (refl, (refl, (refl, (refl, tt)))))))))),
                                          ),
                                        ),
                                      ),
                                    ),
                                  ),
                                ),
                              ),
                            ),
                          ),
                        ),
                      ),
                    ),
                  ),
                ),
              ),
            ),
          ),
        ),
      ),
    ),
  ),
)

call_written : (ls : List Lexeme) (f : Form) (o : WrittenOperand) → IsLibraryCall ls f o → is_some_word (word_of f) ≡ true
unfolding is_some_word
call_written ls f o (library_words ws front inner back g u before behind split is a inside b) = ap is_some_word is

form_is_written : (ls : List Lexeme) (i : WrittenInstr) → IsInstr ls i → is_some_word (word_of i.form) ≡ true
unfolding is_some_word
form_is_written ls i (long l ws f o is are) = ap is_some_word is
form_is_written ls i (library l ws f o is are) = call_written ws f o are
form_is_written ls i (short l ws f o is are) = all_contained (λ (row : List ℕ × Form). is_some_word (word_of row.1) ≡ true) short_words (l.bytes, f) rows_written is
form_is_written ls i (short_whole l row among is) = all_contained (λ (row : Shortened). is_some_word (word_of row.form) ≡ true) shortened row shortened_written among

pub form_has_text : (ls : List Lexeme) (i : WrittenInstr) → IsInstr ls i → (f : Form) → f ≡ i.form → ¬ (word_of f ≡ no_text)
unfolding is_some_word
form_has_text ls i is f same none = true≢false (sym (form_is_written ls i is) ∙ ap (λ g. is_some_word (word_of g)) (sym same) ∙ ap is_some_word none)

-- ---- so it can be written again

-- a place that the labels of the text reach has its label
abbrev pub IsReached : Printing → List (List ℕ × ℕ) → ℕ → ℕ → Type 0
IsReached p marks most to = to ≤ most → IsLabelled p marks to

-- every label of the text stands before a place up to this one
abbrev pub AreBefore : ℕ → List (List ℕ × ℕ) → Type 0
AreBefore most labels = (name : List ℕ) (to : ℕ) → Contains labels (name, to) → to ≤ most

reached_each : (p : Printing) (marks labels : List (List ℕ × ℕ)) (most : ℕ) → AreBefore most labels → (written : List WrittenName) (to : List ℕ) →
    Each (NamesLabel labels) written to → AllByRecursion (IsReached p marks most) to → AllByRecursion (IsLabelled p marks) to
reached_each p marks labels most before written to end all = tt
reached_each p marks labels most before written to (both w n ws ns is are) all = (all.0 (before w.name n is), reached_each p marks labels most before ws ns are all.1)

module _ (s : Scope) (p : Printing) (marks labels : List (List ℕ × ℕ)) (most : ℕ) (before : AreBefore most labels) where
  targets_can : (written : List WrittenName) (to : List ℕ) → Each (NamesLabel labels) written to → 1 ≤ length written → AllByRecursion (IsLabelled p marks) to →
      IsWritable s p marks Rattle.il_model.specs.Forms.labels (targets to)
  targets_can written to end some all = absurd (omega (arith, some))
  targets_can written to (both w n ws ns is are) some all = can_targets n ns all.0 all.1

  pub can_write : (kind : OperandKind) (o : Operand) → Suits kind o → (written : WrittenOperand) → NamesOperand s p.literals labels written o → FitsOperand written →
      AllByRecursion (IsReached p marks most) (targets_of o) → ((m : MRef) → kind ≡ called_method → o ≡ method m → IsOwnCall s.names m) → IsWritable s p marks kind o
  can_write kind o suits_nothing written names fits reached own = can_nothing
  can_write kind o (suits_int32 n) written (names_int32 k) fits reached own = can_int32 k fits
  can_write kind o (suits_int64 n) written (names_int64 k) fits reached own = can_int64 k fits
  can_write kind o (suits_text n) written (names_literal bytes k found) fits reached own = can_text k bytes found
  can_write kind o (suits_place n) written (names_place k) fits reached own = can_place k fits
  can_write kind o (suits_target n) written (names_target w to found) fits reached own = can_target to (reached.0 (before w.name to found))
  can_write kind o (suits_targets ns) written (names_targets ws to are) fits reached own = targets_can ws to are fits (reached_each p marks labels most before ws to are reached)
  can_write kind o (suits_type t) written (names_type w u is) fits reached own = can_type w u is
  can_write kind o (suits_call m) written (names_method w u is) fits reached own = can_call w u (named_ref s w u fits is) (own u refl refl)
  can_write kind o (suits_method m) written (names_method w u is) fits reached own = can_method w u (named_ref s w u fits is)
  can_write kind o (suits_field f) written (names_field w u is) fits reached own = can_field w u is
  can_write kind o (suits_constrained t m) written (names_constrained w n u v is ref) fits reached own = can_constrained w n u v is (named_ref s n v fits ref)
