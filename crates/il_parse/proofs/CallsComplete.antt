-- What follows `call` is read as itself: a method, or the call of the library that is spelled so.
use Rattle.std.proofs.Common.{◌≡◌, ℕ, Bool, true, not, ◌||◌, if◌then◌else◌, List, [], ◌∷◌, ◌++◌, find, option_map, Option, Some, None, Ok, refl, sym, ap, subst, ◌∙◌, codes, append_assoc, append-nil, inl, inr, slice_index_or}
use Rattle.std.specs.List.{list_all}
use Rattle.std.proofs.lemmas.Bool.{true≢false, cases_Bool, not-true}
use Rattle.il_model.specs.declared.form.Form.{Form}
use Rattle.il_model.specs.declared.form.Form.TheVariants as form
use Rattle.il_model.specs.declared.written.WrittenType.{WrittenType}
use Rattle.il_model.specs.declared.written.WrittenMethodRef.{WrittenMethodRef}
use Rattle.il_model.specs.declared.written.WrittenOperand.{WrittenOperand}
use Rattle.il_model.specs.declared.written.WrittenOperand.TheVariants as operand
use Rattle.il_model.specs.Lexemes.{Lexeme}
use Rattle.il_model.specs.Bounds.{types_of_method_ref, types_of_operand}
use Rattle.il_model.specs.Types.{IsType}
use Rattle.il_model.specs.Members.{IsMethodRef}
use Rattle.il_model.specs.Forms.{OperandKind, library_call, word_of, operand_kind}
use Rattle.il_model.specs.Instructions.{plain_words, IsInside, nothing_inside, type_inside, IsLibraryCall, library_words}
use Rattle.il_parse.specs.Members.{read_method_ref}
use Rattle.il_parse.specs.Mnemonics.{all_forms, or_else, begin_with, is_whole_call, words_before, only_argument, name_of_call, library_call_of}
use Rattle.il_parse.specs.Operands.{called, read_call}
use Rattle.il_parse.proofs.Finding.{found_in, none_is}
use Rattle.il_parse.proofs.Steps.{AreSpelled, spelled-append, by_step}
use Rattle.il_parse.proofs.ListsSound.{AreSmall}
use Rattle.il_parse.proofs.PartsComplete.{method_ref_complete}
use Rattle.il_parse.proofs.FormsListed.{every_form}
use Rattle.il_parse.proofs.NameOfCalls.{plain_is}
use Rattle.il_parse.proofs.CallsSound.{Found, has_no_end, whole_call_is, whole_call_sound, name_of_sound, name_made, name_words, name_end, name_parts, plain_last, no_lexemes, words-append, begins_itself, name_lexemes, end_lexemes, only_name_of, taken_is}
use Rattle.il_parse.proofs.WordsComplete.{call_found, ended_is_name}
use Rattle.il_parse.proofs.CallRefs.{is_ref, ref_of, is_head, head_ref}

none_if : {A : Type 0} (o : Option A) → ((x : A) → o ≡ Some x → ⊥) → o ≡ None
none_if None f = refl
none_if (Some x) f = absurd (f x refl)

-- a method that is read is what the words before what remains say
read_as : (front : List Lexeme) (m : WrittenMethodRef) (back : List Lexeme) (found : Option Found) → IsMethodRef front m → AreSmall (types_of_method_ref m) → AreSpelled front →
    library_call_of front m ≡ found → read_call (front ++ back) ≡ Ok (called found m, back)
unfolding read_call
read_as front m back found is small s e =
    by_step (read_method_ref (front ++ back)) _ _ m back (method_ref_complete front m back is small s)
    (ap (λ z. Ok (called (library_call_of z m) m, back)) (taken_is (front ++ back) front back refl) ∙ ap (λ z. Ok (called z m, back)) e)

read_alone : (front : List Lexeme) (m : WrittenMethodRef) → IsMethodRef front m → AreSmall (types_of_method_ref m) → AreSpelled front → read_method_ref front ≡ Ok (m, [])
read_alone front m is small s = ap read_method_ref (sym (append-nil front)) ∙ method_ref_complete front m [] is small s

-- what is found where no whole call is spelled
abbrev or_name : List Lexeme → WrittenMethodRef → Option Form → Option Found
or_name front m o = or_else (option_map (λ f. (f, operand.Nothing)) o) (name_of_call (plain_words front) m)

not_named : (front : List Lexeme) (m : WrittenMethodRef) → AreSpelled front → read_method_ref front ≡ Ok (m, []) → ((f : Form) (o : WrittenOperand) → ¬ (IsLibraryCall front f o)) →
    (found : Found) → name_of_call (plain_words front) m ≡ Some found → ⊥
not_named front m s alone none found name =
    elim (cases_Bool (begin_with name_words (plain_words front))) [
      | inl hit ↦
          let d = name_made (only_argument m.args m.params) found (ap (λ c. if c then option_map (λ u. (form.NameOf, operand.Type u)) (only_argument m.args m.params) else None) (sym hit) ∙ name) in
          none form.NameOf (operand.Type d.0) (name_of_sound front m d.0 s alone hit d.1)
      | inr miss ↦ none_is found (ap (λ c. if c then option_map (λ u. (form.NameOf, operand.Type u)) (only_argument m.args m.params) else None) (sym miss) ∙ name)
    ]

-- a method whose words spell no call of the library
pub method_called : (front : List Lexeme) (m : WrittenMethodRef) (back : List Lexeme) → IsMethodRef front m → AreSmall (types_of_method_ref m) → AreSpelled front →
    ((f : Form) (o : WrittenOperand) → ¬ (IsLibraryCall front f o)) → read_call (front ++ back) ≡ Ok ((form.Call, operand.Method m), back)
unfolding library_call_of
method_called front m back is small s none =
    let no_whole = none_if (find (λ g. is_whole_call (plain_words front) (word_of g)) all_forms) (λ f e. none f operand.Nothing (whole_call_sound front f e)) in
    let no_name = none_if (name_of_call (plain_words front) m) (not_named front m s (read_alone front m is small s) none) in
    read_as front m back None is small s (ap (or_name front m) no_whole ∙ no_name)

-- a call of the library is a method whose words spell it
pub record LibraryRef (front : List Lexeme) (f : Form) (o : WrittenOperand) : Type 0 where
  pub named : WrittenMethodRef
  pub is : IsMethodRef front named
  pub small : AreSmall (types_of_method_ref named)
  pub found : library_call_of front named ≡ Some (f, o)

-- the words of a call without an end spell a method
whole_ref : Form → Bool
whole_ref f = not (has_no_end (word_of f)) || is_ref (words_before (word_of f))

all_whole_refs : list_all whole_ref all_forms ≡ true
unfolding whole_ref
all_whole_refs = refl

whole_is_ref : (f : Form) (first : List (List ℕ)) → word_of f ≡ library_call first [] → is_ref first ≡ true
unfolding whole_ref
whole_is_ref f first is =
    let p : whole_ref f ≡ true = every_form whole_ref f all_whole_refs in
    ap (λ z. not (has_no_end z) || is_ref (words_before z)) (sym is) ∙ p

whole_library : (front : List Lexeme) (f : Form) → AreSpelled front → word_of f ≡ library_call (plain_words front) [] → LibraryRef front f operand.Nothing
unfolding library_call_of
whole_library front f s is =
    let r = ref_of front (whole_is_ref f (plain_words front) is) s in
    record { named = r.named; is = r.is; small = r.small; found = ap (or_name front r.named) (call_found f (plain_words front) is) }

-- no call without an end begins as `NameOf`
apart_from_name : Form → Bool
apart_from_name f = not (has_no_end (word_of f)) || not (begin_with name_words (words_before (word_of f)))

all_apart : list_all apart_from_name all_forms ≡ true
unfolding apart_from_name
all_apart = refl

not_whole : (words : List (List ℕ)) → begin_with name_words words ≡ true → (f : Form) → find (λ g. is_whole_call words (word_of g)) all_forms ≡ Some f → ⊥
unfolding apart_from_name
not_whole words begins f e =
    let hit = found_in (λ g. is_whole_call words (word_of g)) all_forms f e in
    let is = whole_call_is words (word_of f) hit.1 in
    let p : apart_from_name f ≡ true = every_form apart_from_name f all_apart in
    true≢false (sym begins ∙ not-true (begin_with name_words words) (ap (λ z. not (has_no_end z) || not (begin_with name_words (words_before z))) (sym is) ∙ p))

nth : ℕ → List (List ℕ) → List ℕ
nth k ws = slice_index_or ws k []

-- `NameOf` of a type
name_library : (front a inner b : List Lexeme) (t : WrittenType) → AreSpelled front → front ≡ a ++ inner ++ b → plain_words a ≡ name_words → IsType [] inner t →
    AreSmall (t ∷ []) → plain_words b ≡ name_end → LibraryRef front form.NameOf (operand.Type t)
unfolding library_call_of nth
name_library front a inner b t s split words_a is small words_b =
    let n = name_lexemes a words_a in
    let z = end_lexemes b words_b in
    let wa : plain_words (n.l0 ∷ n.l1 ∷ n.l2 ∷ n.l3 ∷ n.l4 ∷ []) ≡ name_words = ap plain_words (sym n.split) ∙ words_a in
    let wb : plain_words (z.g ∷ z.left ∷ z.right ∷ []) ≡ name_end = ap plain_words (sym z.split) ∙ words_b in
    let five : List Lexeme = n.l0 ∷ n.l1 ∷ n.l2 ∷ n.l3 ∷ n.l4 ∷ [] in
    let three : List Lexeme = z.g ∷ z.left ∷ z.right ∷ [] in
    let whole : front ≡ five ++ (inner ++ three) = split ∙ ap (λ y. y ++ inner ++ b) n.split ∙ ap (λ y. five ++ inner ++ y) z.split ∙ append_assoc five inner three in
    let sp = spelled-append five (inner ++ three) (subst AreSpelled whole s) in
    let r = head_ref n.l0 n.l1 n.l2 n.l3 n.l4 inner t z.g z.left z.right (ap is_head wa) sp.0 is small.0
    (plain_is z.g.bytes (codes ">") refl refl (ap (nth 0) wb)) (plain_is z.left.bytes (codes "(") refl refl (ap (nth 1) wb)) (plain_is z.right.bytes (codes ")") refl refl (ap (nth 2) wb)) in
    let is_ref_front : IsMethodRef front r.named = subst (λ y. IsMethodRef y r.named) (sym whole) r.is in
    let alone = read_alone front r.named is_ref_front r.small s in
    let only = only_name_of front r.named a inner b t s alone split words_a is words_b in
    let all : plain_words front ≡ name_words ++ plain_words (inner ++ b) =
    ap plain_words (split ∙ append_assoc a inner b) ∙ words-append a (inner ++ b) ∙ ap (λ y. y ++ plain_words (inner ++ b)) words_a in
    let begins : begin_with name_words (plain_words front) ≡ true = ap (begin_with name_words) all ∙ begins_itself name_words (plain_words (inner ++ b)) in
    let no_whole = none_if (find (λ g. is_whole_call (plain_words front) (word_of g)) all_forms) (not_whole (plain_words front) begins) in
    let name : name_of_call (plain_words front) r.named ≡ Some (form.NameOf, operand.Type t) =
    ap (λ c. if c then option_map (λ u. (form.NameOf, operand.Type u)) (only_argument r.named.args r.named.params) else None) begins
    ∙ ap (option_map (λ u. (form.NameOf, operand.Type u))) only in
    record { named = r.named; is = is_ref_front; small = r.small; found = ap (or_name front r.named) no_whole ∙ name }

ended_name : (f : Form) (first last : List (List ℕ)) → word_of f ≡ library_call first last → last ≡ name_end → form.NameOf ≡ f
ended_name f first last is e = sym (ended_is_name f first (codes ">") (codes "(" ∷ codes ")" ∷ []) (is ∙ ap (library_call first) e))

by_inside : (front a inner b : List Lexeme) (f : Form) (o : WrittenOperand) (first last : List (List ℕ)) → AreSpelled front → front ≡ a ++ inner ++ b →
    word_of f ≡ library_call first last → plain_words a ≡ first → (k : OperandKind) → operand_kind f ≡ k → IsInside k inner o → AreSmall (types_of_operand o) → plain_words b ≡ last →
    LibraryRef front f o
by_inside front a inner b f o first last s split is words_a k kind nothing_inside small words_b =
    let ended : last ≡ [] = plain_last f first last kind is in
    let none : b ≡ [] = no_lexemes b (words_b ∙ ended) in
    let all : plain_words front ≡ first = ap plain_words (split ∙ ap (λ z. a ++ [] ++ z) none ∙ append-nil (a ++ []) ∙ append-nil a) ∙ words_a in
    whole_library front f s (is ∙ ap (λ z. library_call z last) (sym all) ∙ ap (library_call (plain_words front)) ended)
by_inside front a inner b f o first last s split is words_a k kind (type_inside ws t is_t) small words_b =
    let parts = name_parts f first last kind is in
    subst (λ g. LibraryRef front g (operand.Type t)) (ended_name f first last is parts.1)
    (name_library front a inner b t s split (words_a ∙ parts.0) is_t small (words_b ∙ parts.1))

pub library_ref : (front : List Lexeme) (f : Form) (o : WrittenOperand) → IsLibraryCall front f o → AreSmall (types_of_operand o) → AreSpelled front → LibraryRef front f o
library_ref front f o (library_words ws a inner b g p first last split is words_a inside words_b) small s =
    by_inside front a inner b g p first last s split is words_a (operand_kind g) refl inside small words_b

pub library_called : (front : List Lexeme) (f : Form) (o : WrittenOperand) (back : List Lexeme) → LibraryRef front f o → AreSpelled front →
    read_call (front ++ back) ≡ Ok ((f, o), back)
library_called front f o back r s = read_as front r.named back (Some (f, o)) r.is r.small s r.found
