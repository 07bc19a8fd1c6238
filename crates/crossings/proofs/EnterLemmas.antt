-- An interpreted frame is entered with zeros, and then the arguments are put.
use Rattle.std.proofs.Common.{◌≡◌, ℕ, ◌+◌, ◌-◌, ◌≤◌, List, ◌++◌, length, take, replicate, sym, ap, ◌∙◌, arith, subst, length-append}
use Rattle.std.proofs.lemmas.List.{length-replicate}
use Rattle.std.proofs.Math.Seq.{take-append_seam}
use Rattle.rgctx_words.specs.declared.frame.NewFrame.{NewFrame}
use Rattle.rgctx_words.specs.Frames.{header, header_words, header_count}
use Rattle.rgctx_words.specs.Memory.{beyond}
use Rattle.rgctx_words.specs.Stacks.{StackWords, mem_of, current_address, entered}
use Rattle.crossings.specs.declared.call.CallWords.{CallWords}
use Rattle.crossings.specs.Calls.{AreListed, callee_frame, interpreted_word, called_interpreted}
use Rattle.crossings.specs.Copies.{with_arguments}
use Rattle.crossings.proofs.CopyLemmas.{arguments-arrive, words-of_memory, same_stack}

abbrev zeros : ℕ → List ℕ
zeros n = replicate n 0

-- the words below a frame that was entered are those of before
pub below-entered : (s : StackWords) (f : NewFrame) (now : StackWords) → now ≡ entered s f → take (length s.words) now.words ≡ s.words
below-entered s f now is =
    ap (λ (t : StackWords). take (length s.words) t.words) is
    ∙ take-append_seam s.words (header_words (current_address s) f ++ replicate (f.words - header_count) 0)

pub listed-entered : (s : StackWords) (f : NewFrame) (now : StackWords) (list : ℕ) (widths : List ℕ) → now ≡ entered s f → AreListed s.words list widths → AreListed (take (length s.words) now.words) list widths
listed-entered s f now list widths is listed = subst (λ (words : List ℕ). AreListed words list widths) (sym (below-entered s f now is)) listed

pub length-entered : (s : StackWords) (f : NewFrame) (now : StackWords) → now ≡ entered s f → header_count ≤ f.words → length now.words ≡ length s.words + f.words
length-entered s f now is low =
    let all : length now.words ≡ length (s.words ++ (header_words (current_address s) f ++ zeros (f.words - header_count))) = ap (λ (t : StackWords). length t.words) is in
    let a : length (s.words ++ (header_words (current_address s) f ++ zeros (f.words - header_count))) ≡ length s.words + length (header_words (current_address s) f ++ zeros (f.words - header_count)) = length-append s.words (header_words (current_address s) f ++ zeros (f.words - header_count)) in
    let b : length (header_words (current_address s) f ++ zeros (f.words - header_count)) ≡ 8 + length (zeros (f.words - header_count)) = length-append (header_words (current_address s) f) (zeros (f.words - header_count)) in
    let c : length (zeros (f.words - header_count)) ≡ f.words - header_count = length-replicate {A = ℕ} (f.words - header_count) 0 in
    omega (arith, all, a, b, c, low)

pub memory-called : (s mid new : StackWords) (list : ℕ) (widths : List ℕ) (f : NewFrame) → mid ≡ entered s f → mem_of mid ≡ beyond (length s.words) (header (current_address s) f) (mem_of s)
    → mem_of new ≡ with_arguments (length s.words) (take (length s.words) mid.words) list widths (length widths) (mem_of mid)
    → mem_of new ≡ beyond (length s.words) (interpreted_word s list widths f) (mem_of s)
memory-called s mid new list widths f is memory then_is =
    then_is
    ∙ ap (λ (words : List ℕ). with_arguments (length s.words) words list widths (length widths) (mem_of mid)) (below-entered s f mid is)
    ∙ ap (λ (mem : ℕ → ℕ). with_arguments (length s.words) s.words list widths (length widths) mem) memory
    ∙ arguments-arrive s list widths f

pub stack-called : (s mid new : StackWords) (call : CallWords) (words : ℕ) (widths : List ℕ) → header_count ≤ words → mid ≡ entered s (callee_frame call words) → length new.words ≡ length mid.words → new.bases ≡ mid.bases
    → mem_of new ≡ beyond (length s.words) (interpreted_word s call.list widths (callee_frame call words)) (mem_of s)
    → new ≡ called_interpreted s call words widths
stack-called s mid new call words widths low is size bases memory =
    let mid_size : length mid.words ≡ length s.words + words = length-entered s (callee_frame call words) mid is low in
    same_stack new (called_interpreted s call words widths)
    (words-of_memory new.words s.words words (interpreted_word s call.list widths (callee_frame call words)) (omega arith) memory)
    (bases ∙ ap (λ (t : StackWords). t.bases) is)
