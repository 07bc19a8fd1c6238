-- Reading types, by cases on the lexemes.
use Rattle.std.proofs.Common.{◌≡◌, ℕ, zero, suc, ◌-◌, true, false, List, [], ◌∷◌, drop, Option, Some, None, Ok, Err, refl, ap, ◌∙◌, arith}
use Rattle.std.proofs.lemmas.Bool.{eq-eqb, eqb-true, false_from_ne_true}
use Rattle.std.specs.Prelude.{if◌then◌else◌, codes, ◌==◌}
use Rattle.il_text.specs.declared.token.TokenKind.{TokenKind}
use Rattle.il_text.specs.declared.token.TokenKind.TheVariants as token
use Rattle.il_model.specs.declared.written.WrittenName.{WrittenName}
use Rattle.il_model.specs.declared.written.WrittenType.{WrittenType}
use Rattle.il_model.specs.declared.written.WrittenType.TheVariants as w
use Rattle.il_model.specs.Lexemes.{Lexeme, name_at}
use Rattle.il_parse.specs.declared.fault.ParseCause.TheVariants as cause
use Rattle.il_parse.specs.Reading.{sees, stuck_fault, fault_at}
use Rattle.il_parse.specs.Types.{Head, whole, class_name, no_type, keyword_type, head_of, head_by_kind, head_or_kind, behind, read_no_head, read_vectors, read_applied, read_type_within}
use Rattle.il_parse.specs.Cursor.{bytes_of_first, first_entry}
use Rattle.il_parse.specs.Heads.{head_of_kind, no_head_fault, inner}

abbrev pub head_of_entry : Option (TokenKind × WrittenName) → Head
head_of_entry None = no_type
head_of_entry (Some found) = head_of_kind found.1 found.0

abbrev pub head_parts : Option WrittenType → Option (TokenKind × WrittenName) → Head
head_parts (Some t) found = whole t
head_parts None found = head_of_entry found

by_kind : (l : Lexeme) (k : TokenKind) → head_by_kind l k ≡ head_of_kind (name_at l) k
by_kind l token.Word = refl
by_kind l token.Variable = refl
by_kind l token.Number = refl
by_kind l token.Text = refl
by_kind l token.Mark = refl

or_kind : (l : Lexeme) (o : Option WrittenType) → head_or_kind l o ≡ head_parts o (Some (l.kind, name_at l))
or_kind l (Some t) = refl
or_kind l None = by_kind l l.kind

-- how a type begins, by what the first lexeme shows
pub head_is : (ws : List Lexeme) → head_of ws ≡ head_parts (keyword_type (bytes_of_first ws)) (first_entry ws)
unfolding head_of keyword_type
head_is [] = refl
head_is (l ∷ ws) = or_kind l (keyword_type l.bytes)

-- a type before `[]`
pub vectors_go : (t : WrittenType) (left : ℕ) (ws : List Lexeme) → sees (codes "[]") ws ≡ true →
    read_vectors t left ws ≡ (if left == 0 then Err (fault_at ws cause.TooMany) else read_vectors (w.Vector t) (left - 1) (drop 1 ws))
unfolding read_vectors sees
vectors_go t left [] e = absurd cc
vectors_go t left (l ∷ ws) e = rw e refl

-- a type before anything else
pub vectors_end : (t : WrittenType) (left : ℕ) (ws : List Lexeme) → sees (codes "[]") ws ≡ false → read_vectors t left ws ≡ Ok ((t, left), ws)
unfolding read_vectors sees
vectors_end t left [] e = refl
vectors_end t left (l ∷ ws) e = rw e refl

pub head_whole : (ws : List Lexeme) (bytes : List ℕ) (t : WrittenType) → bytes ≡ bytes_of_first ws → Some t ≡ keyword_type bytes → whole t ≡ head_of ws
head_whole ws bytes t same is = rw (head_is ws, ← same, ← is) refl

pub head_named : (ws : List Lexeme) (bytes : List ℕ) (k : TokenKind) (name : WrittenName) → bytes ≡ bytes_of_first ws → None ≡ keyword_type bytes →
    Some (k, name) ≡ first_entry ws → head_of_kind name k ≡ head_of ws
head_named ws bytes k name same is entry = rw (head_is ws, ← same, ← is, ← entry) refl

pub head_none : (ws : List Lexeme) (bytes : List ℕ) → bytes ≡ bytes_of_first ws → None ≡ keyword_type bytes → None ≡ first_entry ws → no_type ≡ head_of ws
head_none ws bytes same is entry = rw (head_is ws, ← same, ← is, ← entry) refl

is_zero : (k : ℕ) → k ≡ 0 → (k == 0) ≡ true
is_zero k e = eq-eqb k 0 e

is_more : (k : ℕ) → (k ≡ 0 → ⊥) → (k == 0) ≡ false
is_more k ne = false_from_ne_true (k == 0) (λ e. ne (eqb-true k 0 e))

behind_is : (ws : List Lexeme) → behind ws ≡ drop 1 ws
behind_is [] = refl
behind_is (l ∷ ws) = refl

no_head_is : {A : Type 0} (h : Head) (ws : List Lexeme) → read_no_head {A = A} h ws ≡ Err (no_head_fault h ws)
no_head_is no_type ws = refl
no_head_is (whole t) ws = refl
no_head_is (class_name name) ws = refl

-- a type where it may nest no deeper
pub type_flat : (n left : ℕ) (h : Head) (ws : List Lexeme) → h ≡ head_of ws → n ≡ 0 → read_type_within n left ws ≡ Err (no_head_fault h ws)
unfolding read_type_within
type_flat zero left h ws is e = rw (is) (no_head_is (head_of ws) ws)
type_flat (suc n) left h ws is e = absurd omega arith

-- a type where no position may come any more
pub type_full : (n left : ℕ) (h : Head) (ws : List Lexeme) → h ≡ head_of ws → left ≡ 0 → read_type_within n left ws ≡ Err (no_head_fault h ws)
unfolding read_type_within
type_full zero left h ws is e = rw (is) (no_head_is (head_of ws) ws)
type_full (suc n) left h ws is e = rw (is_zero left e, is) (no_head_is (head_of ws) ws)

pub type_none : (n left : ℕ) (ws : List Lexeme) → (n ≡ 0 → ⊥) → (left ≡ 0 → ⊥) → no_type ≡ head_of ws → read_type_within n left ws ≡ Err (stuck_fault ws)
unfolding read_type_within
type_none zero left ws deep some is = absurd (deep refl)
type_none (suc n) left ws deep some is = rw (is_more left some, ← is) refl

pub type_whole : (n left : ℕ) (t : WrittenType) (ws : List Lexeme) → (n ≡ 0 → ⊥) → (left ≡ 0 → ⊥) → whole t ≡ head_of ws →
    read_type_within n left ws ≡ read_vectors t (left - 1) (drop 1 ws)
unfolding read_type_within
type_whole zero left t ws deep some is = absurd (deep refl)
type_whole (suc n) left t ws deep some is = rw (is_more left some, ← is) (ap (λ more. read_vectors t (left - 1) more) (behind_is ws))

pub type_named : (n left : ℕ) (name : WrittenName) (ws : List Lexeme) → (n ≡ 0 → ⊥) → (left ≡ 0 → ⊥) → class_name name ≡ head_of ws →
    read_type_within n left ws ≡ read_applied (inner n) n name (left - 1) (drop 1 ws)
unfolding read_type_within
type_named zero left name ws deep some is = absurd (deep refl)
type_named (suc n) left name ws deep some is =
    let less : n ≡ suc n - 1 = omega arith in
    rw (is_more left some, ← is) (ap (λ more. read_applied (λ k. read_type_within n k) (suc n) name (left - 1) more) (behind_is ws)
    ∙ ap (λ m. read_applied (λ k. read_type_within m k) (suc n) name (left - 1) (drop 1 ws)) less)
