-- A text has one list of tokens at most, and none where it has a fault.
use Rattle.std.proofs.Common.{◌≡◌, ◌<◌, ◌≤◌, ◌+◌, ◌-◌, ◌++◌, ℕ, zero, suc, true, false, List, [], ◌∷◌, length, take, drop, None, refl, sym, ap, subst, ◌∙◌, arith, if◌then◌else◌, nat_lt, append_assoc, get_or, ◌==◌, eqb-true}
use Rattle.std.specs.List.{prefix_len}
use Rattle.std.proofs.Math.Seq.{drop-append_seam}
use Rattle.std.proofs.lemmas.Bool.{true≢false, lt-ltb, false_from_ne_true}
use Rattle.std.proofs.lemmas.List.{take-append-drop, drop-drop, length-drop, length-take-le, length-append, append-nil}
use Rattle.il_text.specs.declared.token.TokenKind.{TokenKind}
use Rattle.il_text.specs.declared.token.Token.{Token}
use Rattle.il_text.specs.Bytes.{is_blank, is_comment_byte}
use Rattle.il_text.specs.Spelling.{spells}
use Rattle.il_text.specs.Tokens.{IsGap, nothing, blank, comment, IsLastGap, ended, unended, IsNext, AreTokensFrom, AreTokens, IsSlice}
use Rattle.il_text.specs.Faults.{is_token, token_len, gap_len, cause_of, first_refusal}
use Rattle.il_text.specs.Fronts.{kind_for}
use Rattle.il_text.proofs.Longest.{longest_front-is}
use Rattle.il_text.proofs.FrontLemmas.{any_kind, token_kind, spells-kind, cause_of-gap, cause_of-token, limit_cause-within}
use Rattle.il_text.proofs.Gaps.{TokenFirst, token_first, gap_len-none, gap_len-blank, prefix_len-all, prefix_len-whole}
use Rattle.il_text.proofs.Steps.{first_refusal-step, front_len-gap, front_len-token, two_more}

-- the tokens in bytes that begin at this place, the first of which, so many, belong to what began before
abbrev tokens_in : ℕ → ℕ → List ℕ → List Token
tokens_in at inside [] = []
tokens_in at (suc inside) (b ∷ bs) = tokens_in (at + 1) inside bs
tokens_in at zero (b ∷ bs) = if nat_lt 0 (gap_len (b ∷ bs)) then tokens_in (at + 1) (gap_len (b ∷ bs) - 1) bs
    else record { kind = kind_for b; from = at; to = at + token_len (b ∷ bs) } ∷ tokens_in (at + 1) (token_len (b ∷ bs) - 1) bs

skip : (at inside : ℕ) (bytes : List ℕ) → tokens_in at inside bytes ≡ tokens_in (at + inside) 0 (drop inside bytes)
skip at zero bytes = ap (λ n. tokens_in n 0 bytes) (omega arith)
skip at (suc inside) [] = refl
skip at (suc inside) (b ∷ bytes) = skip (at + 1) inside bytes ∙ ap (λ n. tokens_in n 0 (drop inside bytes)) (omega arith)

-- what is left to read has the same first refusal and the same tokens
record Same (at : ℕ) (bytes : List ℕ) (later : ℕ) (left : List ℕ) : Type 0 where
  faults : first_refusal at 0 bytes ≡ first_refusal later 0 left
  tokens : tokens_in at 0 bytes ≡ tokens_in later 0 left

then_same : (a : ℕ) (first : List ℕ) (b : ℕ) (second : List ℕ) (c : ℕ) (third : List ℕ) → Same a first b second → Same b second c third → Same a first c third
then_same a first b second c third s t = record { faults = s.faults ∙ t.faults; tokens = s.tokens ∙ t.tokens }

same_place : (at later : ℕ) (bytes left : List ℕ) → at ≡ later → bytes ≡ left → Same at bytes later left
same_place at later bytes left e f = record { faults = ap (λ n. first_refusal n 0 bytes) e ∙ ap (first_refusal later 0) f; tokens = ap (λ n. tokens_in n 0 bytes) e ∙ ap (tokens_in later 0) f }

pass_front : (at len : ℕ) (bytes : List ℕ) → gap_len bytes ≡ suc len → Same at bytes (at + suc len) (drop (suc len) bytes)
pass_front at len [] e = record { faults = refl; tokens = refl }
pass_front at len (b ∷ bytes) e =
    let some : 0 < gap_len (b ∷ bytes) = omega (arith, e) in
    record {
      faults = first_refusal-step at (b ∷ bytes) (suc len) (cause_of-gap (b ∷ bytes) some) (front_len-gap (b ∷ bytes) some ∙ e) (omega arith);
      tokens = ap (λ t. if t then tokens_in (at + 1) (gap_len (b ∷ bytes) - 1) bytes else record { kind = kind_for b; from = at; to = at + token_len (b ∷ bytes) } ∷ tokens_in (at + 1) (token_len (b ∷ bytes) - 1) bytes) (lt-ltb 0 (gap_len (b ∷ bytes)) some)
          ∙ ap (λ n. tokens_in (at + 1) (n - 1) bytes) e ∙ ap (λ n. tokens_in (at + 1) n bytes) (omega arith) ∙ skip (at + 1) len bytes ∙ ap (λ n. tokens_in n 0 (drop len bytes)) (omega arith);
    }

pass_blank : (at b : ℕ) (rest : List ℕ) → is_blank b ≡ true → Same at (b ∷ rest) (at + 1) rest
pass_blank at b rest e = pass_front at 0 (b ∷ rest) (gap_len-blank b rest e)

-- a comment up to a byte that can't go on with it, or up to the end
pass_comment : (at : ℕ) (inside left : List ℕ) → prefix_len is_comment_byte (inside ++ left) ≡ length inside → Same at (47 ∷ 47 ∷ inside ++ left) (at + (2 + length inside)) left
pass_comment at inside left e =
    then_same at (47 ∷ 47 ∷ inside ++ left) (at + suc (suc (length inside))) (drop (length inside) (inside ++ left)) (at + (2 + length inside)) left
    (pass_front at (suc (length inside)) (47 ∷ 47 ∷ inside ++ left) (ap (λ n. 2 + n) e ∙ two_more (length inside)))
    (same_place (at + suc (suc (length inside))) (at + (2 + length inside)) (drop (length inside) (inside ++ left)) left (omega arith) (drop-append_seam inside left))

pass_gap : (gap : List ℕ) → IsGap gap → (at : ℕ) (tail : List ℕ) → Same at (gap ++ tail) (at + length gap) tail
pass_gap gap nothing at tail = same_place at (at + 0) tail tail (omega arith) refl
pass_gap gap (blank b rest e g) at tail =
    then_same at (b ∷ rest ++ tail) (at + 1) (rest ++ tail) (at + length (b ∷ rest)) tail (pass_blank at b (rest ++ tail) e)
    (then_same (at + 1) (rest ++ tail) (at + 1 + length rest) tail (at + length (b ∷ rest)) tail (pass_gap rest g (at + 1) tail) (same_place (at + 1 + length rest) (at + length (b ∷ rest)) tail tail (omega arith) refl))
pass_gap gap (comment inside rest same e f g) at tail =
    let whole : gap ++ tail ≡ 47 ∷ 47 ∷ inside ++ (10 ∷ rest ++ tail) = ap (λ x. x ++ tail) f ∙ ap (λ x. 47 ∷ 47 ∷ x) (append_assoc inside (10 ∷ rest) tail) in
    let long : length gap ≡ suc (suc (length inside + suc (length rest))) = ap length f ∙ ap (λ n. suc (suc n)) (length-append inside (10 ∷ rest)) in
    let place : at + (2 + length inside) + 1 + length rest ≡ at + length gap = omega (arith, long) in
    then_same at (gap ++ tail) at (47 ∷ 47 ∷ inside ++ (10 ∷ rest ++ tail)) (at + length gap) tail (same_place at at (gap ++ tail) (47 ∷ 47 ∷ inside ++ (10 ∷ rest ++ tail)) refl whole)
    (then_same at (47 ∷ 47 ∷ inside ++ (10 ∷ rest ++ tail)) (at + (2 + length inside)) (10 ∷ rest ++ tail) (at + length gap) tail (pass_comment at inside (10 ∷ rest ++ tail) (prefix_len-all is_comment_byte inside 10 (rest ++ tail) e refl))
    (then_same (at + (2 + length inside)) (10 ∷ rest ++ tail) (at + (2 + length inside) + 1) (rest ++ tail) (at + length gap) tail (pass_blank (at + (2 + length inside)) 10 (rest ++ tail) refl)
    (then_same (at + (2 + length inside) + 1) (rest ++ tail) (at + (2 + length inside) + 1 + length rest) tail (at + length gap) tail (pass_gap rest g (at + (2 + length inside) + 1) tail) (same_place (at + (2 + length inside) + 1 + length rest) (at + length gap) tail tail place refl))))

-- what is read from a place: no refusal, and these tokens
record Read (at : ℕ) (bytes : List ℕ) (tokens : List Token) : Type 0 where
  no_fault : first_refusal at 0 bytes ≡ None
  found : tokens_in at 0 bytes ≡ tokens

same_read : (at : ℕ) (bytes : List ℕ) (later : ℕ) (left : List ℕ) (tokens : List Token) → Same at bytes later left → Read later left tokens → Read at bytes tokens
same_read at bytes later left tokens s r = record { no_fault = s.faults ∙ r.no_fault; found = s.tokens ∙ r.found }

read_end : (at : ℕ) → Read at [] []
read_end at = record { no_fault = refl; found = refl }

read_last : (at : ℕ) (bytes : List ℕ) → IsLastGap bytes → Read at bytes []
read_last at bytes (ended same g) =
    same_read at bytes (at + length bytes) [] [] (then_same at bytes at (bytes ++ []) (at + length bytes) [] (same_place at at bytes (bytes ++ []) refl (sym (append-nil bytes))) (pass_gap bytes g at [])) (read_end (at + length bytes))
read_last at bytes (unended front inside same g e f) =
    let tail : List ℕ = 47 ∷ 47 ∷ inside ++ [] in
    let whole : bytes ≡ front ++ tail = f ∙ ap (λ x. front ++ 47 ∷ 47 ∷ x) (sym (append-nil inside)) in
    let later = at + length front in
    same_read at bytes (later + (2 + length inside)) [] []
    (then_same at bytes at (front ++ tail) (later + (2 + length inside)) [] (same_place at at bytes (front ++ tail) refl whole)
    (then_same at (front ++ tail) later tail (later + (2 + length inside)) [] (pass_gap front g at tail)
    (pass_comment later inside [] (ap (prefix_len is_comment_byte) (append-nil inside) ∙ prefix_len-whole is_comment_byte inside e))))
    (read_end (later + (2 + length inside)))

-- the token in front is what is read first
read_token : (at len : ℕ) (b : ℕ) (bytes : List ℕ) (kind : TokenKind) (tokens : List Token) → gap_len (b ∷ bytes) ≡ 0 → token_len (b ∷ bytes) ≡ len → 0 < len → cause_of (b ∷ bytes) ≡ None → kind_for b ≡ kind → Read (at + len) (drop len (b ∷ bytes)) tokens → Read at (b ∷ bytes) (record { kind = kind; from = at; to = at + len } ∷ tokens)
read_token at zero b bytes kind tokens gap long some fine k rest = absurd (omega (arith, some))
read_token at (suc len) b bytes kind tokens gap long some fine k rest = record {
  no_fault = first_refusal-step at (b ∷ bytes) (suc len) fine (front_len-token (b ∷ bytes) gap ∙ long) some ∙ rest.no_fault;
  found = ap (λ n. if nat_lt 0 n then tokens_in (at + 1) (n - 1) bytes else record { kind = kind_for b; from = at; to = at + token_len (b ∷ bytes) } ∷ tokens_in (at + 1) (token_len (b ∷ bytes) - 1) bytes) gap
      ∙ ap (λ n. record { kind = kind_for b; from = at; to = at + n } ∷ tokens_in (at + 1) (n - 1) bytes) long
      ∙ ap (λ j. record { kind = j; from = at; to = at + suc len } ∷ tokens_in (at + 1) (suc len - 1) bytes) k
      ∙ ap (λ ts. record { kind = kind; from = at; to = at + suc len } ∷ ts) (ap (λ n. tokens_in (at + 1) n bytes) (omega arith) ∙ skip (at + 1) len bytes ∙ ap (λ n. tokens_in n 0 (drop len bytes)) (omega arith) ∙ rest.found);
}

read_here : (at len : ℕ) (bytes : List ℕ) (b : ℕ) (more : List ℕ) (kind : TokenKind) (tokens : List Token) → bytes ≡ b ∷ more → gap_len bytes ≡ 0 → token_len bytes ≡ len → 0 < len → cause_of bytes ≡ None → kind_for b ≡ kind → Read (at + len) (drop len bytes) tokens → Read at bytes (record { kind = kind; from = at; to = at + len } ∷ tokens)
read_here at len bytes b more kind tokens e gap long some fine k rest =
    let P : List ℕ → Type 0 = λ bs. gap_len bs ≡ 0 → token_len bs ≡ len → cause_of bs ≡ None → Read (at + len) (drop len bs) tokens → Read at bs (record { kind = kind; from = at; to = at + len } ∷ tokens) in
    subst P (sym e) (λ g l f r. read_token at len b more kind tokens g l some f k r) gap long fine rest

token_len_of : (bytes : List ℕ) (n : ℕ) → n ≤ length bytes → is_token (take n bytes) ≡ true → ((m : ℕ) → n < m → m ≤ length bytes → is_token (take m bytes) ≡ false) → token_len bytes ≡ n
unfolding token_len
token_len_of bytes n inside spelled longer = longest_front-is is_token (length bytes) bytes n inside (λ l. spelled) longer

first_kind : (b : ℕ) (bs : List ℕ) (n : ℕ) (k : TokenKind) → 0 < n → spells k (take n (b ∷ bs)) ≡ true → kind_for b ≡ k
first_kind b bs zero k l e = absurd (omega (arith, l))
first_kind b bs (suc n) k l e = spells-kind k b (take n bs) e

-- the next token is what is read first behind its gap
read_next : (text : List ℕ) (at : ℕ) (t : Token) (ts : List Token) → IsNext text at t → Read t.to (drop t.to text) ts → Read at (drop at text) (t ∷ ts)
read_next text at t ts next rest =
    let n = t.to - t.from in
    let bytes = drop t.from text in
    let here : TokenFirst bytes n = token_first t.kind n bytes next.spelled in
    let some : t.from < t.to = omega (arith, here.some) in
    let room : n ≤ length bytes = omega (arith, length-drop t.from text, next.inside, some) in
    let ends : t.from + n ≡ t.to = omega (arith, some) in
    let gap : gap_len bytes ≡ 0 = ap gap_len here.is ∙ gap_len-none here.first here.more here.no_blank here.no_slash in
    let longer : (m : ℕ) → n < m → m ≤ length bytes → is_token (take m bytes) ≡ false = λ m l h. false_from_ne_true (is_token (take m bytes)) (λ e.
    let k = token_kind (take m bytes) e in
    let cut : t.from + m - t.from ≡ m = omega arith in
    next.longest k.0 (t.from + m) (omega (arith, l, some)) (omega (arith, h, length-drop t.from text, next.inside, some)) (ap (λ j. spells k.0 (take j bytes)) cut ∙ k.1)) in
    let long : token_len bytes ≡ n = token_len_of bytes n room (any_kind t.kind (take n bytes) next.spelled) longer in
    let fine : cause_of bytes ≡ None = cause_of-token bytes n gap long here.some ∙ limit_cause-within t.kind (take n bytes) next.spelled next.within in
    let kind : kind_for here.first ≡ t.kind = first_kind here.first here.more n t.kind here.some (ap (λ bs. spells t.kind (take n bs)) (sym here.is) ∙ next.spelled) in
    let left : drop n bytes ≡ drop t.to text = drop-drop n t.from text ∙ ap (λ j. drop j text) ends in
    let after : Read (t.from + n) (drop n bytes) ts = subst (λ bs. Read (t.from + n) bs ts) (sym left) (subst (λ j. Read j (drop t.to text) ts) (sym ends) rest) in
    let token : Read t.from bytes (record { kind = t.kind; from = t.from; to = t.from + n } ∷ ts) = read_here t.from n bytes here.first here.more t.kind ts here.is gap long here.some fine kind after in
    let same : Read t.from bytes (t ∷ ts) = subst (λ j. Read t.from bytes (record { kind = t.kind; from = t.from; to = j } ∷ ts)) ends token in
    let g = t.from - at in
    let front : List ℕ = take g (drop at text) in
    let whole : drop at text ≡ front ++ bytes = sym (take-append-drop g (drop at text)) ∙ ap (λ bs. front ++ bs) (drop-drop g at text ∙ ap (λ j. drop j text) (omega (arith, next.later))) in
    let size : length front ≡ g = length-take-le g (drop at text) (omega (arith, length-drop at text, next.later, next.inside, some)) in
    same_read at (drop at text) t.from bytes (t ∷ ts)
    (then_same at (drop at text) at (front ++ bytes) t.from bytes (same_place at at (drop at text) (front ++ bytes) refl whole)
    (then_same at (front ++ bytes) (at + length front) bytes t.from bytes (pass_gap front next.apart at bytes) (same_place (at + length front) t.from bytes bytes (omega (arith, size, next.later)) refl)))
    same

read_all : (text : List ℕ) (at : ℕ) (tokens : List Token) → AreTokensFrom text at tokens → Read at (drop at text) tokens
read_all text at [] read = read_last at (drop at text) read
read_all text at (t ∷ ts) read = read_next text at t ts read.0 (read_all text t.to ts read.1)

-- a text has one list of tokens at most
pub one_reading : (text : List ℕ) (some others : List Token) → AreTokens text some → AreTokens text others → others ≡ some
one_reading text some others a b = sym (read_all text 0 others b.read).found ∙ (read_all text 0 some a.read).found

-- a text that has tokens has no refusal
pub first_refusal-read : (text : List ℕ) (tokens : List Token) → AreTokens text tokens → first_refusal 0 0 text ≡ None
first_refusal-read text tokens a = (read_all text 0 tokens a.read).no_fault

-- tokens are slices
pub slices : (text : List ℕ) (at : ℕ) (tokens : List Token) → AreTokensFrom text at tokens → (k : ℕ) (d : Token) → k < length tokens → IsSlice text (get_or tokens k d)
slices text at [] read k d l = absurd (omega (arith, l))
slices text at (t ∷ ts) read zero d l =
    let here = token_first t.kind (t.to - t.from) (drop t.from text) read.0.spelled in
    record { some = omega (arith, here.some); inside = read.0.inside }
slices text at (t ∷ ts) read (suc k) d l = slices text t.to ts read.1 k d (omega (arith, l))

no_bytes : (bytes : List ℕ) → length bytes ≡ 0 → IsLastGap bytes
no_bytes [] e = ended [] nothing
no_bytes (b ∷ bytes) e = absurd (omega (arith, e))

-- at the end of the text all of it is read
pub all_read : (text rest : List ℕ) (at : ℕ) (found : List Token) → rest ≡ drop at text → true ≡ (length rest == 0) → at ≤ 4194304 → at ≤ length text → ((tokens : List Token) → AreTokensFrom text at tokens → AreTokensFrom text 0 (found ++ tokens)) → AreTokens text found
all_read text rest at found place end short inside reads =
    let none : length rest ≡ 0 = eqb-true (length rest) 0 (sym end) in
    record {
      short = omega (arith, none, ap length place, length-drop at text, short, inside);
      read = subst (λ x. AreTokensFrom text 0 x) (append-nil found) (reads [] (no_bytes (drop at text) (sym (ap length place) ∙ none)));
    }

pub positive : (bytes : List ℕ) → false ≡ (length bytes == 0) → 0 < length bytes
positive [] e = absurd (true≢false (sym e))
positive (b ∷ bytes) e = omega arith
