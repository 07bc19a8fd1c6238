-- Words of a line, joined.
use Rattle.std.proofs.lemmas.List.{take_more}
use Rattle.std.proofs.lemmas.List.Concat.{flat_map-append}
use Rattle.std.proofs.Common.{◌≡◌, ℕ, ◌+◌, ◌<◌, length, get_or, take, true, false, List, [], ◌∷◌, ◌++◌, map, flat_map, codes, refl, sym, ap, ◌∙◌, append_assoc, append-nil}
use Rattle.il_model.specs.Forms.{FormWord, word, library_call, no_text}
use Rattle.il_model.specs.Canonical.{Word, spaced, spaced_after, between, comma, angled_words, form_words}
use Rattle.il_print.specs.Spaces.{behind}
use Rattle.il_print.specs.Forms.{is_spelled, text_before, text_behind}

pub spaced_after_append : (xs ys : List Word) → spaced_after (xs ++ ys) ≡ spaced_after xs ++ spaced_after ys
spaced_after_append [] ys = refl
spaced_after_append (x ∷ xs) ys = ap (λ rest. behind x ++ rest) (spaced_after_append xs ys) ∙ sym (append_assoc (behind x) (spaced_after xs) (spaced_after ys))

pub spaced_between : {X : Type 0} (mark : Word) (f : X → List Word) (x : X) (xs : List X) →
    spaced_after (between mark (map f (x ∷ xs))) ≡ spaced_after (f x) ++ flat_map (λ y. spaced_after (mark ∷ f y)) xs
spaced_between mark f x [] = sym (append-nil (spaced_after (f x)))
spaced_between mark f x (y ∷ ys) =
    spaced_after_append (f x) (mark ∷ between mark (map f (y ∷ ys)))
    ∙ ap (λ rest. spaced_after (f x) ++ (behind mark ++ rest)) (spaced_between mark f y ys)
    ∙ ap (λ rest. spaced_after (f x) ++ rest) (sym (append_assoc (behind mark) (spaced_after (f y)) (flat_map (λ z. spaced_after (mark ∷ f z)) ys)))

-- an instruction's words, around those of its operand
pub op_text : (f : FormWord) (operand : List Word) → is_spelled f ≡ true →
    spaced (form_words f operand) ≡ text_before f ++ (spaced_after operand ++ text_behind f)
op_text (word w) operand spelled = ap (λ rest. w ++ rest) (sym (append-nil (spaced_after operand)))
op_text (library_call first last) operand spelled =
    ap (λ rest. codes "call" ++ rest) (
    spaced_after_append (first ++ operand) last
    ∙ ap (λ rest. rest ++ spaced_after last) (spaced_after_append first operand)
    ∙ append_assoc (spaced_after first) (spaced_after operand) (spaced_after last))
op_text no_text operand spelled = cc

pub no_op_text : (f : FormWord) (operand : List Word) → is_spelled f ≡ false → spaced (form_words f operand) ≡ []
no_op_text (word w) operand unspelled = cc
no_op_text (library_call first last) operand unspelled = cc
no_op_text no_text operand unspelled = refl

-- what is written in two pieces
pub joined : (start mid now first second : List ℕ) → mid ≡ start ++ first → now ≡ mid ++ second → now ≡ start ++ (first ++ second)
joined start mid now first second is_first is_second = is_second ∙ ap (λ text. text ++ second) is_first ∙ append_assoc start first second

-- once the first part is written, and then the others
pub all_parts : {X : Type 0} (mark : Word) (f : X → List Word) (xs : List X) (x : X) (rest : List X) (start mid now : List ℕ) → xs ≡ x ∷ rest →
    mid ≡ start ++ spaced_after (f x) → now ≡ mid ++ flat_map (λ y. spaced_after (mark ∷ f y)) rest →
    now ≡ start ++ spaced_after (between mark (map f xs))
all_parts mark f xs x rest start mid now is first more =
    joined start mid now (spaced_after (f x)) (flat_map (λ y. spaced_after (mark ∷ f y)) rest) first more
    ∙ ap (λ text. start ++ text) (sym (spaced_between mark f x rest) ∙ ap (λ ys. spaced_after (between mark (map f ys))) (sym is))

-- behind a word of its own
pub led_parts : {X : Type 0} (lead mark : Word) (f : X → List Word) (x : X) (rest : List X) (start led mid now : List ℕ) →
    led ≡ start ++ behind lead → mid ≡ led ++ spaced_after (f x) → now ≡ mid ++ flat_map (λ y. spaced_after (mark ∷ f y)) rest →
    now ≡ start ++ spaced_after (lead ∷ between mark (map f (x ∷ rest)))
led_parts lead mark f x rest start led mid now is_led first more =
    joined start led now (behind lead) (spaced_after (between mark (map f (x ∷ rest)))) is_led
    (all_parts mark f (x ∷ rest) x rest led mid now refl first more)

-- between angle brackets
pub angled_parts : {X : Type 0} (f : X → List Word) (xs : List X) (x : X) (rest : List X) (start left mid more now : List ℕ) → xs ≡ x ∷ rest →
    left ≡ start ++ (32 ∷ 60 ∷ []) → mid ≡ left ++ spaced_after (f x) → more ≡ mid ++ flat_map (λ y. spaced_after (comma ∷ f y)) rest →
    now ≡ more ++ (32 ∷ 62 ∷ []) → now ≡ start ++ spaced_after (angled_words (map f xs))
angled_parts f xs x rest start left mid more now is is_left first others right =
    let parts = between comma (map f (x ∷ rest)) in
    joined start more now (32 ∷ 60 ∷ spaced_after parts) (32 ∷ 62 ∷ [])
    (joined start left more (32 ∷ 60 ∷ []) (spaced_after parts) is_left (all_parts comma f (x ∷ rest) x rest left mid more refl first others)) right
    ∙ ap (λ text. start ++ (32 ∷ 60 ∷ text)) (sym (spaced_after_append parts (codes ">" ∷ [])))
    ∙ ap (λ ys. start ++ spaced_after (angled_words (map f ys))) (sym is)

-- between parentheses
pub in_parentheses : (ws : List Word) (start left mid now : List ℕ) → left ≡ start ++ (32 ∷ 40 ∷ []) → mid ≡ left ++ spaced_after ws →
    now ≡ mid ++ (32 ∷ 41 ∷ []) → now ≡ start ++ spaced_after (codes "(" ∷ ws ++ codes ")" ∷ [])
in_parentheses ws start left mid now is_left inside right =
    joined start mid now (32 ∷ 40 ∷ spaced_after ws) (32 ∷ 41 ∷ []) (joined start left mid (32 ∷ 40 ∷ []) (spaced_after ws) is_left inside) right
    ∙ ap (λ text. start ++ (32 ∷ 40 ∷ text)) (sym (spaced_after_append ws (codes ")" ∷ [])))

-- one part further
pub one_more : (f : ℕ → List ℕ) (xs : List ℕ) (i : ℕ) (start before now : List ℕ) → i < length xs →
    before ≡ start ++ flat_map f (take i xs) → now ≡ before ++ f (get_or xs i 0) → now ≡ start ++ flat_map f (take (i + 1) xs)
one_more f xs i start before now inside so_far wrote =
    joined start before now (flat_map f (take i xs)) (f (get_or xs i 0)) so_far wrote
    ∙ ap (λ text. start ++ text) (
    ap (λ text. flat_map f (take i xs) ++ text) (sym (append-nil (f (get_or xs i 0))))
    ∙ sym (flat_map-append f (take i xs) (get_or xs i 0 ∷ []))
    ∙ ap (flat_map f) (sym (take_more xs i 0 inside)))

-- an instruction, before, at and behind its operand
pub op_written : (f : FormWord) (operand : List Word) (start s1 s2 now : List ℕ) → is_spelled f ≡ true → s1 ≡ start ++ text_before f →
    s2 ≡ s1 ++ spaced_after operand → now ≡ s2 ++ text_behind f → now ≡ start ++ spaced (form_words f operand)
op_written f operand start s1 s2 now spelled first second third =
    joined start s1 now (text_before f) (spaced_after operand ++ text_behind f) first (joined s1 s2 now (spaced_after operand) (text_behind f) second third)
    ∙ ap (λ text. start ++ text) (sym (op_text f operand spelled))

pub nothing_written : (f : FormWord) (operand : List Word) (start : List ℕ) → is_spelled f ≡ false → start ≡ start ++ spaced (form_words f operand)
nothing_written f operand start unspelled = sym (append-nil start) ∙ ap (λ text. start ++ text) (sym (no_op_text f operand unspelled))

-- one list of words after the other
pub joined_words : (first second : List Word) (start mid now : List ℕ) → mid ≡ start ++ spaced_after first → now ≡ mid ++ spaced_after second →
    now ≡ start ++ spaced_after (first ++ second)
joined_words first second start mid now is_first is_second =
    joined start mid now (spaced_after first) (spaced_after second) is_first is_second
    ∙ ap (λ text. start ++ text) (sym (spaced_after_append first second))

-- a comma and a word
pub comma_word : (w : Word) (start mid now : List ℕ) → mid ≡ start ++ (44 ∷ []) → now ≡ mid ++ behind w → now ≡ start ++ spaced_after (comma ∷ w ∷ [])
comma_word w start mid now is_comma is_word =
    joined start mid now (44 ∷ []) (behind w) is_comma is_word ∙ ap (λ rest. start ++ (44 ∷ rest)) (sym (append-nil (behind w)))
