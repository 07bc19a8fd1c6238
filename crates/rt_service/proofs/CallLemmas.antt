-- What a call has found of its arguments, and the state behind it.
use Rattle.std.proofs.Common.{◌≡◌, ◌≢◌, ⊎_elim, ℕ, zero, suc, ◌+◌, ◌*◌, ◌<◌, ◌≤◌, ◌==◌, ◌&&◌, Bool, true, false, List, [], ◌∷◌, length, map, Option, Some, None, if◌then◌else◌, refl, sym, ap, ◌∙◌, subst, arith, length-append, eq-eqb}
use Rattle.std.specs.Prelude.{is_some, find, slice_index, slice_get}
use Rattle.std.specs.List.{list_all, range_with_len}
use Rattle.std.proofs.lemmas.Bool.{cases_eq}
use Rattle.std.proofs.lemmas.Bool.Decides.{nat_tests}
use Rattle.std.proofs.lemmas.List.{length-set}
use Rattle.std.proofs.lemmas.List.FromFn.{length-map-range_with_len}
use Rattle.il_model.specs.declared.key.BodyRow.{BodyRow}
use Rattle.il_model.specs.declared.layout.MethodTree.{MethodTree}
use Rattle.il_model.specs.declared.method.MethodDef.{MethodDef}
use Rattle.il_model.specs.declared.method.PType.{PType}
use Rattle.interaction.specs.declared.turn.What.TheVariants as noted
use Rattle.store_object.specs.declared.request.Cause.TheVariants as cause
use Rattle.rgctx_words.specs.Frames.{frame_address, frame_index, place_offset, most_frames, interpreted_length}
use Rattle.rgctx_words.specs.Stacks.{StackWords, mem_of, with_word}
use Rattle.crossings.specs.declared.call.CallWords.{CallWords}
use Rattle.crossings.specs.declared.call.Entered.{Entered}
use Rattle.crossings.specs.declared.call.Entered.TheVariants.{Machine, Interp, Deep}
use Rattle.crossings.specs.Calls.{Lies, AreListed, argument_at, called, after_call, entered_as, code_address, interpreted_word, callee_frame}
use Rattle.rgctx_template.specs.Catalogue.{CatData}
use Rattle.cil_meaning.specs.Types.{argument_places}
use Rattle.rgctx_fill.specs.declared.thread.Want.{Want}
use Rattle.rgctx_fill.specs.declared.thread.Want.TheVariants as answers
use Rattle.rgctx_fill.specs.declared.image.FrameCount.{FrameCount}
use Rattle.rgctx_fill.specs.declared.doing.Doing.TheVariants.{Runs, Interprets, Stops}
use Rattle.rgctx_fill.specs.ThreadStates.{ImageData, ThreadData, Move, with_stack, now_doing}
use Rattle.rgctx_fill.specs.ServiceReplies.{refuses}
use Rattle.rgctx_fill.specs.CallServices.{argument_widths, do_lie, are_there, takes_result, argument_kept, with_kept, with_object_pointer, is_struct_method, count_in, row_entered, call_words, calls_body, calls_row, calls_interpreter, enters, calls_entry, calls_method}
use Rattle.rgctx_fill.specs.Moves.{Span, IsMade}
use Rattle.rt_service.specs.Refusals.{refused}
use Rattle.rt_service.specs.Resuming.{resumed, with_interpreted, entered_interpreted}

-- Tests over numbers in a row --------------------------------------------------

both_of : (a b : Bool) → (a && b) ≡ true → (a ≡ true) × (b ≡ true)
both_of true b e = (refl, e)
both_of false b e = cc

both_are : (a b : Bool) → a ≡ true → b ≡ true → (a && b) ≡ true
both_are a b p q = cc

same_truth : (a b : Bool) → (a ≡ true → b ≡ true) → (b ≡ true → a ≡ true) → a ≡ b
same_truth true b p q = sym (p refl)
same_truth false true p q = q refl
same_truth false false p q = refl

all_from : (p : ℕ → Bool) (first count : ℕ) → list_all p (range_with_len first count) ≡ true → (i : ℕ) → first ≤ i → i < first + count → p i ≡ true
all_from p first zero e i low high = absurd (omega arith)
all_from p first (suc count) e i low high =
    let two : (p first ≡ true) × (list_all p (range_with_len (first + 1) count) ≡ true) = both_of (p first) (list_all p (range_with_len (first + 1) count)) e in
    ⊎_elim
    (λ (is : i ≡ first). subst (λ (n : ℕ). p n ≡ true) (sym is) two.0)
    (λ (other : i ≢ first). all_from p (first + 1) count two.1 i (omega arith) (omega arith))
    (cases_eq i first)

from_all : (p : ℕ → Bool) (first count : ℕ) → ((i : ℕ) → first ≤ i → i < first + count → p i ≡ true) → list_all p (range_with_len first count) ≡ true
from_all p first zero each = refl
from_all p first (suc count) each =
    both_are (p first) (list_all p (range_with_len (first + 1) count)) (each first (omega arith) (omega arith))
    (from_all p (first + 1) count (λ i low high. each i (omega arith) (omega arith)))

module _ (words : List ℕ) where
  pub lie_of : (address count : ℕ) → do_lie words address count ≡ true → Lies words address count
  lie_of address count e = record { each = λ j less. all_from (λ j. is_some (frame_index (length words) (address + 8 * j))) 0 count e j (omega arith) (omega arith) }

  pub of_lie : (address count : ℕ) → Lies words address count → do_lie words address count ≡ true
  of_lie address count lies = from_all (λ j. is_some (frame_index (length words) (address + 8 * j))) 0 count (λ j low less. lies.each j (omega arith))

  -- a test of whether words lie in the frames
  pub lie_is : (b : Bool) (address count : ℕ) → (b ≡ true → Lies words address count) → (Lies words address count → b ≡ true) → b ≡ do_lie words address count
  lie_is b address count p q = same_truth b (do_lie words address count) (λ e. of_lie address count (p e)) (λ e. q (lie_of address count e))

  module _ (list : ℕ) (widths : List ℕ) where
    listed_of : are_there words list widths ≡ true → AreListed words list widths
    listed_of e =
        let two = both_of (do_lie words list (length widths)) (list_all (λ i. do_lie words (argument_at words list i) (slice_index widths i)) (range_with_len 0 (length widths))) e in
        record {
          addresses = lie_of list (length widths) two.0;
          each = λ i less. lie_of (argument_at words list i) (slice_index widths i) (all_from (λ i. do_lie words (argument_at words list i) (slice_index widths i)) 0 (length widths) two.1 i (omega arith) (omega arith));
        }

    of_listed : AreListed words list widths → are_there words list widths ≡ true
    of_listed listed =
        both_are (do_lie words list (length widths)) (list_all (λ i. do_lie words (argument_at words list i) (slice_index widths i)) (range_with_len 0 (length widths)))
        (of_lie list (length widths) listed.addresses)
        (from_all (λ i. do_lie words (argument_at words list i) (slice_index widths i)) 0 (length widths) (λ i low less. of_lie (argument_at words list i) (slice_index widths i) (listed.each i (omega arith))))

    -- a test of whether arguments are listed
    pub there_is : (b : Bool) → (b ≡ true → AreListed words list widths) → (AreListed words list widths → b ≡ true) → b ≡ are_there words list widths
    there_is b p q = same_truth b (are_there words list widths) (λ e. of_listed (p e)) (λ e. q (listed_of e))

-- The frame of an interpreted callee ---------------------------------------------

pub word_count : (s : StackWords) (i w : ℕ) → length (with_word s i w).words ≡ length s.words
word_count s i w = length-set s.words i w

pub kept_count : (base place : ℕ) (ps : List PType) (s : StackWords) → length (with_kept base place ps s).words ≡ length s.words
kept_count base place [] s = refl
kept_count base place (p ∷ ps) s =
    let next : StackWords = with_word s (base + place_offset place) (argument_kept p (mem_of s (base + place_offset place))) in
    kept_count base (place + 1) ps next ∙ word_count s (base + place_offset place) (argument_kept p (mem_of s (base + place_offset place)))

pub called_count : (s : StackWords) (call : CallWords) (places list : ℕ) (widths : List ℕ) → length (called s call None places list widths).words ≡ length s.words + interpreted_length places list
called_count s call places list widths =
    length-append s.words (map (interpreted_word s call.list widths (callee_frame call (interpreted_length places list))) (range_with_len 0 (interpreted_length places list)))
    ∙ ap (λ (n : ℕ). length s.words + n) (length-map-range_with_len (interpreted_word s call.list widths (callee_frame call (interpreted_length places list))) 0 (interpreted_length places list))

-- Whether the thread has as many frames as it may have ---------------------------

pub deep_if : (b : Bool) (e : Entered) → (if b then Deep else e) ≡ Deep → (e ≡ Deep → ⊥) → b ≡ true
deep_if true e is other = refl
deep_if false e is other = absurd (other is)

pub machine_if : (b : Bool) (target pc : ℕ) → (if b then Deep else Machine target) ≡ Machine pc → (b ≡ false) × (target ≡ pc)
machine_if true target pc e = cc
machine_if false target pc e = (refl, cc)

pub interp_if : (b : Bool) → (if b then Deep else Interp) ≡ Interp → b ≡ false
interp_if true e = cc
interp_if false e = refl

-- The state behind a call --------------------------------------------------------

abbrev is_deep : StackWords → Bool
is_deep s = length s.bases == most_frames

module _ (s : ThreadData) (call : CallWords) (count : FrameCount) (widths : List ℕ) (after : StackWords) where
  after_is : entered_as s.stack None ≡ Interp → after ≡ after_call s.stack call None count.places count.list widths → after ≡ called s.stack call None count.places count.list widths
  after_is e is = is ∙ ap (λ (b : Bool). if b then s.stack else called s.stack call None count.places count.list widths) (interp_if (is_deep s.stack) e)

  pub after_count : entered_as s.stack None ≡ Interp → after ≡ after_call s.stack call None count.places count.list widths
      → length after.words ≡ length s.stack.words + interpreted_length count.places count.list
  after_count e is = ap (λ (t : StackWords). length t.words) (after_is e is) ∙ called_count s.stack call count.places count.list widths

  pub few_frames : entered_as s.stack None ≡ Interp → length s.stack.bases ≢ most_frames
  few_frames e deep = let t : is_deep s.stack ≡ true = eq-eqb (length s.stack.bases) most_frames deep in let f : is_deep s.stack ≡ false = interp_if (is_deep s.stack) e in cc

  -- the interpreter goes on
  pub interpreted_state : (places : List PType) (flag : Bool) (base address : ℕ) (kept pointed : StackWords) → entered_as s.stack None ≡ Interp → after ≡ after_call s.stack call None count.places count.list widths
      → base ≡ length s.stack.words → kept ≡ with_kept base 0 places after → pointed ≡ with_object_pointer flag base kept → address ≡ frame_address base
      → resumed (with_stack s pointed) address s.core.pc Interprets ≡ entered_interpreted s call count places widths flag
  interpreted_state places flag base address kept pointed e is at k p a =
      let begin : ℕ = length s.stack.words in
      let top : StackWords = called s.stack call None count.places count.list widths in
      ap (λ (t : StackWords). resumed (with_stack s t) address s.core.pc Interprets) (p ∙ ap (with_object_pointer flag base) (k ∙ ap (with_kept base 0 places) (after_is e is)))
      ∙ ap (λ (n : ℕ). resumed (with_stack s (with_object_pointer flag base (with_kept base 0 places top))) n s.core.pc Interprets) a
      ∙ ap (λ (n : ℕ). resumed (with_stack s (with_object_pointer flag n (with_kept n 0 places top))) (frame_address n) s.core.pc Interprets) at
      ∙ ap (λ (b : Bool). if b then now_doing s (Stops cause.Depth) else resumed (with_stack s (with_interpreted s.stack call count places widths flag)) (frame_address begin) s.core.pc Interprets) (sym (interp_if (is_deep s.stack) e))

  -- the run is to stop
  pub deep_state : (places : List PType) (flag : Bool) → entered_as s.stack None ≡ Deep → after ≡ after_call s.stack call None count.places count.list widths
      → now_doing (with_stack s after) (Stops cause.Depth) ≡ entered_interpreted s call count places widths flag
  deep_state places flag e is =
      let deep : is_deep s.stack ≡ true = deep_if (is_deep s.stack) Interp e (λ q. cc) in
      ap (λ (t : StackWords). now_doing (with_stack s t) (Stops cause.Depth)) (is ∙ ap (λ (b : Bool). if b then s.stack else called s.stack call None count.places count.list widths) deep)
      ∙ ap (λ (b : Bool). if b then now_doing s (Stops cause.Depth) else resumed (with_stack s (with_interpreted s.stack call count places widths flag)) (frame_address (length s.stack.words)) s.core.pc Interprets) (sym deep)

module _ (im : ImageData) (s : ThreadData) (node target list : ℕ) where
  -- a body goes on
  pub body_state : (row : BodyRow) (call : CallWords) (after : StackWords) (base address pc : ℕ) → call ≡ call_words im s node target list → entered_as s.stack (Some row) ≡ Machine pc
      → after ≡ after_call s.stack call (Some row) 0 0 [] → base ≡ length s.stack.words → address ≡ frame_address base
      → resumed (with_stack s after) address pc Runs ≡ (if is_deep s.stack then now_doing s (Stops cause.Depth) else calls_body im s node target list row)
  body_state row call after base address pc is_call e is at a =
      let two : (is_deep s.stack ≡ false) × (code_address row.entry ≡ pc) = machine_if (is_deep s.stack) (code_address row.entry) pc e in
      let own : CallWords = call_words im s node target list in
      ap (λ (t : StackWords). resumed (with_stack s t) address pc Runs) (is ∙ ap (λ (b : Bool). if b then s.stack else called s.stack call (Some row) 0 0 []) two.0)
      ∙ ap (λ (w : CallWords). resumed (with_stack s (called s.stack w (Some row) 0 0 [])) address pc Runs) is_call
      ∙ ap (λ (n : ℕ). resumed (with_stack s (called s.stack own (Some row) 0 0 [])) n pc Runs) (a ∙ ap frame_address at)
      ∙ ap (λ (n : ℕ). resumed (with_stack s (called s.stack own (Some row) 0 0 [])) (frame_address (length s.stack.words)) n Runs) (sym two.1)
      ∙ ap (λ (b : Bool). if b then now_doing s (Stops cause.Depth) else calls_body im s node target list row) (sym two.0)

  module _ (m : MethodTree) (d : MethodDef) where
    abbrev there : Bool
    there = are_there s.stack.words list (argument_widths im.cat.program m d)

    abbrev takes : Bool
    takes = takes_result s.stack.words target im.cat.program m d.result

    module _ (cat : CatData) (h : Span) (kept : h.relisted ≡ h.listed) where
      refused_if : (a b : Bool) (next : Move) → (a && b) ≡ false → IsMade cat h s (if a && b then next else refuses s) (refused s) s
      refused_if a b next e = subst (λ (t : Bool). IsMade cat h s (if t then next else refuses s) (refused s) s) (sym e) (record { says = refl; state = refl; claims = kept })

      first_false : (a b : Bool) → a ≡ false → (a && b) ≡ false
      first_false a b e = cc

      second_false : (a b : Bool) → b ≡ false → (a && b) ≡ false
      second_false true b e = e
      second_false false b e = refl

      -- the words of an argument, or of the result, are not there
      pub not_there : there ≡ false → IsMade cat h s (calls_entry im s node target list 0 m d) (refused s) s
      not_there e = refused_if there takes (enters im s node target list (calls_interpreter im s node target list m d)) (first_false there takes e)

      pub takes_none : takes ≡ false → IsMade cat h s (calls_entry im s node target list 0 m d) (refused s) s
      takes_none e = refused_if there takes (enters im s node target list (calls_interpreter im s node target list m d)) (second_false there takes e)

      -- they are there
      pub interpreted : (call : CallWords) (count : FrameCount) (places : List PType) (widths : List ℕ) (flag : Bool) (said : Want) (new : ThreadData)
          → there ≡ true → takes ≡ true → call ≡ call_words im s node target list → count ≡ count_in (slice_get im.frames m.method)
          → places ≡ argument_places im.cat.program m d → widths ≡ argument_widths im.cat.program m d → flag ≡ is_struct_method im.cat.program m d
          → said ≡ answers.Did noted.Action → new ≡ entered_interpreted s call count places widths flag
          → IsMade cat h s (calls_entry im s node target list 0 m d) said new
      interpreted call count places widths flag said new t k is_call is_count is_places is_widths is_flag says is =
          let own : CallWords = call_words im s node target list in
          let counted : FrameCount = count_in (slice_get im.frames m.method) in
          let ps : List PType = argument_places im.cat.program m d in
          let ws : List ℕ = argument_widths im.cat.program m d in
          subst (λ (b : Bool). IsMade cat h s (if b then enters im s node target list (calls_interpreter im s node target list m d) else refuses s) said new) (sym (both_are there takes t k))
          (record {
            says = says;
            state = is
                ∙ ap (λ (w : CallWords). entered_interpreted s w count places widths flag) is_call
                ∙ ap (λ (n : FrameCount). entered_interpreted s own n places widths flag) is_count
                ∙ ap (λ (xs : List PType). entered_interpreted s own counted xs widths flag) is_places
                ∙ ap (λ (xs : List ℕ). entered_interpreted s own counted ps xs flag) is_widths
                ∙ ap (λ (b : Bool). entered_interpreted s own counted ps ws b) is_flag;
            claims = kept;
          })

-- Rows -------------------------------------------------------------------------

found_if : (r row : BodyRow) (rows : List BodyRow) (b : Bool) (found : Option BodyRow) → (found ≡ Some row → (number : ℕ) × (slice_get rows number ≡ Some row))
    → (if b then Some r else found) ≡ Some row → (number : ℕ) × (slice_get (r ∷ rows) number ≡ Some row)
found_if r row rows true found rest is = (0, is)
found_if r row rows false found rest is = let later = rest is in (suc later.0, later.1)

-- what is found among the rows stands there
pub row_listed : (test : BodyRow → Bool) (rows : List BodyRow) (row : BodyRow) → find test rows ≡ Some row → (number : ℕ) × (slice_get rows number ≡ Some row)
row_listed test [] row e = cc
row_listed test (r ∷ rows) row e = found_if r row rows (test r) (find test rows) (λ is. row_listed test rows row is) e

-- Which body goes on -------------------------------------------------------------

module _ (im : ImageData) (cat : CatData) (h : Span) (s : ThreadData) (said : Want) (new : ThreadData) (node target list : ℕ) (m : MethodTree) (d : MethodDef) where
  -- a method with a body goes on at its entry word
  pub method_goes : (word : ℕ) (found : Option MethodDef) → found ≡ Some d → is_some d.body ≡ true → IsMade cat h s (calls_entry im s node target list word m d) said new
      → IsMade cat h s (calls_method im s node target list word m found) said new
  method_goes word found is has made =
      subst (λ (o : Option MethodDef). IsMade cat h s (calls_method im s node target list word m o) said new) (sym is)
      (subst (λ (b : Bool). IsMade cat h s (if b then calls_entry im s node target list word m d else refuses s) said new) (sym has) made)

  -- a body of its own goes on
  pub row_goes : (word : ℕ) (row : BodyRow) → word ≢ 0 → row_entered im.cat.bodies m.method word ≡ Some row → IsMade cat h s (enters im s node target list (calls_body im s node target list row)) said new
      → IsMade cat h s (calls_entry im s node target list word m d) said new
  row_goes word row other is made =
      let test : (word == 0) ≡ false = grind (arith, nat_tests) in
      subst (λ (b : Bool). IsMade cat h s (if b then calls_entry im s node target list 0 m d else calls_row im s node target list (row_entered im.cat.bodies m.method word)) said new) (sym test)
      (subst (λ (o : Option BodyRow). IsMade cat h s (calls_row im s node target list o) said new) (sym is) made)
