-- What follows `call` is read as a call of the library exactly where its words spell one.
use Rattle.std.proofs.Common.{◌≡◌, ℕ, ◌≤◌, Bool, true, false, not, ◌&&◌, ◌||◌, if◌then◌else◌, List, [], ◌∷◌, ◌++◌, length, drop, take, option_to_list, find, option_map, Option, Some, None, Ok, refl, sym, ap, subst, ◌∙◌, codes, append_assoc, append-nil, bytes_eq, inl, inr, arith, slice_index_or}
use Rattle.std.specs.List.{list_all}
use Rattle.std.proofs.lemmas.Bool.{true≢false, cases_Bool, and_parts, and_from}
use Rattle.std.proofs.lemmas.List.{length-append}
use Rattle.std.proofs.lemmas.Slice.Eq.{bytes_eq-Decides}
use Rattle.il_model.specs.declared.form.Form.{Form}
use Rattle.il_model.specs.declared.form.Form.TheVariants as form
use Rattle.il_model.specs.declared.written.WrittenType.{WrittenType}
use Rattle.il_model.specs.declared.written.WrittenParam.{WrittenParam}
use Rattle.il_model.specs.declared.written.WrittenMethodRef.{WrittenMethodRef}
use Rattle.il_model.specs.declared.written.WrittenOperand.{WrittenOperand}
use Rattle.il_model.specs.declared.written.WrittenOperand.TheVariants as operand
use Rattle.il_model.specs.Lexemes.{Lexeme, Is}
use Rattle.il_model.specs.Bounds.{written_positions, types_of_params, types_of_method_ref}
use Rattle.il_model.specs.Types.{IsType, AreTypes, last_type, next_type, AreArguments, no_arguments, arguments, AreParams, no_params, params}
use Rattle.il_model.specs.Spellings.{plain_name}
use Rattle.il_model.specs.Forms.{OperandKind, no_operand, int32_literal, int64_literal, text_literal, place, label, labels, type_operand, called_method, method_operand, field_operand, constrained_method, FormWord, word, library_call, no_text, word_of, operand_kind}
use Rattle.il_model.specs.Members.{IsMethodRef}
use Rattle.il_model.specs.Instructions.{plain_words, IsInside, nothing_inside, type_inside, IsLibraryCall, library_words, called as called_operand, long, library}
use Rattle.il_parse.specs.Members.{read_method_ref}
use Rattle.il_parse.specs.Mnemonics.{all_forms, or_else, same_words, begin_with, is_whole_call, words_before, only_argument, name_of_call, library_call_of}
use Rattle.il_parse.specs.Operands.{taken, called, read_call}
use Rattle.il_parse.proofs.Finding.{found_in, found_passes, some_is, none_is, made, none_found}
use Rattle.il_parse.proofs.Steps.{AreSpelled, spelled-append, value_of, rest_of, stepped}
use Rattle.il_parse.proofs.ListsSound.{AreSmall}
use Rattle.il_parse.proofs.MembersSound.{method_ref_sound}
use Rattle.il_parse.proofs.InstrsSound.{IsCalled, CallsAreSound}
use Rattle.il_parse.proofs.ListsComplete.{small-split}
use Rattle.il_parse.proofs.PartsComplete.{params_some, method_ref_complete}
use Rattle.il_parse.proofs.FormsListed.{any_form, every_form}
use Rattle.il_parse.proofs.NameOfCalls.{plain_is, name_of_read, args_unique}

pub words_same : (a b : List (List ℕ)) → same_words a b ≡ true → a ≡ b
words_same [] [] e = refl
words_same [] (y ∷ b) e = absurd (true≢false (sym e))
words_same (x ∷ a) [] e = absurd (true≢false (sym e))
words_same (x ∷ a) (y ∷ b) e =
    let parts = and_parts (bytes_eq x y) (same_words a b) e in
    ap (λ z. z ∷ a) ((bytes_eq-Decides x y).0 parts.0) ∙ ap (λ z. y ∷ z) (words_same a b parts.1)

pub same_itself : (a : List (List ℕ)) → same_words a a ≡ true
same_itself [] = refl
same_itself (x ∷ a) = and_from (bytes_eq x x) (same_words a a) ((bytes_eq-Decides x x).1 refl) (same_itself a)

pub whole_call_is : (words : List (List ℕ)) (f : FormWord) → is_whole_call words f ≡ true → f ≡ library_call words []
whole_call_is words (word s) e = absurd (true≢false (sym e))
whole_call_is words (library_call first []) e = ap (λ z. library_call z []) (words_same first words e)
whole_call_is words (library_call first (l ∷ ls)) e = absurd (true≢false (sym e))
whole_call_is words no_text e = absurd (true≢false (sym e))

abbrev takes_nothing : OperandKind → Bool
takes_nothing no_operand = true
takes_nothing int32_literal = false
takes_nothing int64_literal = false
takes_nothing text_literal = false
takes_nothing place = false
takes_nothing label = false
takes_nothing labels = false
takes_nothing type_operand = false
takes_nothing called_method = false
takes_nothing method_operand = false
takes_nothing field_operand = false
takes_nothing constrained_method = false

nothing_kind : (k : OperandKind) → takes_nothing k ≡ true → k ≡ no_operand
nothing_kind no_operand e = refl
nothing_kind int32_literal e = absurd (true≢false (sym e))
nothing_kind int64_literal e = absurd (true≢false (sym e))
nothing_kind text_literal e = absurd (true≢false (sym e))
nothing_kind place e = absurd (true≢false (sym e))
nothing_kind label e = absurd (true≢false (sym e))
nothing_kind labels e = absurd (true≢false (sym e))
nothing_kind type_operand e = absurd (true≢false (sym e))
nothing_kind called_method e = absurd (true≢false (sym e))
nothing_kind method_operand e = absurd (true≢false (sym e))
nothing_kind field_operand e = absurd (true≢false (sym e))
nothing_kind constrained_method e = absurd (true≢false (sym e))

abbrev pub has_no_end : FormWord → Bool
has_no_end (word s) = false
has_no_end (library_call first []) = true
has_no_end (library_call first (l ∷ ls)) = false
has_no_end no_text = false

-- a call of the library without an end takes nothing
plain_call : Form → Bool
plain_call f = not (has_no_end (word_of f)) || takes_nothing (operand_kind f)

all_plain_calls : list_all plain_call all_forms ≡ true
unfolding plain_call
all_plain_calls = refl

plain_call_nothing : (f : Form) (words : List (List ℕ)) → plain_call f ≡ true → word_of f ≡ library_call words [] → operand_kind f ≡ no_operand
unfolding plain_call
plain_call_nothing f words p e = nothing_kind (operand_kind f) (ap (λ z. not (has_no_end z) || takes_nothing (operand_kind f)) (sym e) ∙ p)

pub whole_call_sound : (front : List Lexeme) (f : Form) → find (λ g. is_whole_call (plain_words front) (word_of g)) all_forms ≡ Some f → IsLibraryCall front f operand.Nothing
whole_call_sound front f e =
    let hit = found_in (λ g. is_whole_call (plain_words front) (word_of g)) all_forms f e in
    let spelled = whole_call_is (plain_words front) (word_of f) hit.1 in
    let kind = plain_call_nothing f (plain_words front) (found_passes plain_call (λ g. is_whole_call (plain_words front) (word_of g)) all_forms f all_plain_calls e) spelled in
    library_words front front [] [] f operand.Nothing (plain_words front) [] (sym (append-nil front) ∙ sym (append-nil (front ++ []))) spelled refl
    (subst (λ k. IsInside k [] operand.Nothing) (sym kind) nothing_inside) refl

-- five words at least, the first of which are these
record Five (front : List Lexeme) : Type 0 where
  l0 : Lexeme
  l1 : Lexeme
  l2 : Lexeme
  l3 : Lexeme
  l4 : Lexeme
  rest : List Lexeme
  split : front ≡ l0 ∷ l1 ∷ l2 ∷ l3 ∷ l4 ∷ rest
  p0 : plain_name l0.bytes ≡ codes "string"
  p1 : plain_name l1.bytes ≡ codes "Rt.Types"
  p2 : plain_name l2.bytes ≡ codes "::"
  p3 : plain_name l3.bytes ≡ codes "NameOf"
  p4 : plain_name l4.bytes ≡ codes "<"

five_of : (front : List Lexeme) → begin_with (words_before (word_of form.NameOf)) (plain_words front) ≡ true → Five front
five_of [] e = absurd (true≢false (sym e))
five_of (a ∷ []) e = absurd (true≢false (sym (and_parts (bytes_eq (codes "string") (plain_name a.bytes)) false e).1))
five_of (a ∷ b ∷ []) e =
    let q0 = and_parts (bytes_eq (codes "string") (plain_name a.bytes)) _ e in
    absurd (true≢false (sym (and_parts (bytes_eq (codes "Rt.Types") (plain_name b.bytes)) false q0.1).1))
five_of (a ∷ b ∷ c ∷ []) e =
    let q0 = and_parts (bytes_eq (codes "string") (plain_name a.bytes)) _ e in
    let q1 = and_parts (bytes_eq (codes "Rt.Types") (plain_name b.bytes)) _ q0.1 in
    absurd (true≢false (sym (and_parts (bytes_eq (codes "::") (plain_name c.bytes)) false q1.1).1))
five_of (a ∷ b ∷ c ∷ d ∷ []) e =
    let q0 = and_parts (bytes_eq (codes "string") (plain_name a.bytes)) _ e in
    let q1 = and_parts (bytes_eq (codes "Rt.Types") (plain_name b.bytes)) _ q0.1 in
    let q2 = and_parts (bytes_eq (codes "::") (plain_name c.bytes)) _ q1.1 in
    absurd (true≢false (sym (and_parts (bytes_eq (codes "NameOf") (plain_name d.bytes)) false q2.1).1))
five_of (a ∷ b ∷ c ∷ d ∷ g ∷ rest) e =
    let q0 = and_parts (bytes_eq (codes "string") (plain_name a.bytes)) _ e in
    let q1 = and_parts (bytes_eq (codes "Rt.Types") (plain_name b.bytes)) _ q0.1 in
    let q2 = and_parts (bytes_eq (codes "::") (plain_name c.bytes)) _ q1.1 in
    let q3 = and_parts (bytes_eq (codes "NameOf") (plain_name d.bytes)) _ q2.1 in
    let q4 = and_parts (bytes_eq (codes "<") (plain_name g.bytes)) true q3.1 in
    record {
      l0 = a;
      l1 = b;
      l2 = c;
      l3 = d;
      l4 = g;
      rest = rest;
      split = refl;
      p0 = sym ((bytes_eq-Decides (codes "string") (plain_name a.bytes)).0 q0.0);
      p1 = sym ((bytes_eq-Decides (codes "Rt.Types") (plain_name b.bytes)).0 q1.0);
      p2 = sym ((bytes_eq-Decides (codes "::") (plain_name c.bytes)).0 q2.0);
      p3 = sym ((bytes_eq-Decides (codes "NameOf") (plain_name d.bytes)).0 q3.0);
      p4 = sym ((bytes_eq-Decides (codes "<") (plain_name g.bytes)).0 q4.0);
    }

-- the only type argument is the list of arguments, and there are no parameters
record Only (ts : List WrittenType) (ps : List WrittenParam) (t : WrittenType) : Type 0 where
  types : ts ≡ t ∷ []
  none : ps ≡ []

only_is : (ts : List WrittenType) (ps : List WrittenParam) (t : WrittenType) → only_argument ts ps ≡ Some t → Only ts ps t
only_is [] ps t e = none_is t e
only_is (u ∷ []) [] t e = record { types = ap (λ z. z ∷ []) (some_is u t e); none = refl }
only_is (u ∷ []) (p ∷ ps) t e = none_is t e
only_is (u ∷ v ∷ ts) ps t e = none_is t e

-- the argument in its angle brackets
record Bracketed (args : List Lexeme) (t : WrittenType) : Type 0 where
  left : Lexeme
  inner : List Lexeme
  right : Lexeme
  split : args ≡ left ∷ inner ++ right ∷ []
  opens : Is (codes "<") left
  is : IsType [] inner t
  closes : Is (codes ">") right

abbrev first_or : WrittenType → List WrittenType → WrittenType
first_or t [] = t
first_or t (u ∷ us) = u

no_more : {C : Type 0} {mark : List ℕ} {ws : List Lexeme} (us : List WrittenType) → us ≡ [] → AreTypes mark ws us → C
no_more us e (last_type m same u is) = absurd (omega (arith, ap length e))
no_more us e (next_type m same f b l u vs split is h rest) = absurd (omega (arith, ap length e))

one_type : (inner : List Lexeme) (ts : List WrittenType) (t : WrittenType) → AreTypes (codes ",") inner ts → ts ≡ t ∷ [] → IsType [] inner t
one_type inner ts t (last_type m ws u is) e = subst (IsType [] inner) (ap (λ zs. first_or t zs) e) is
one_type inner ts t (next_type m ws f b l u us split is h rest) e = no_more us (ap (drop 1) e) rest

bracketed : (args : List Lexeme) (ts : List WrittenType) (t : WrittenType) → AreArguments args ts → ts ≡ t ∷ [] → Bracketed args t
bracketed args ts t no_arguments e = absurd (omega (arith, ap length e))
bracketed args ts t (arguments ws inner left right us split opens are closes) e =
    record { left = left; inner = inner; right = right; split = split; opens = opens; is = one_type inner ts t are e; closes = closes }

no_inside : (inside : List Lexeme) (ps : List WrittenParam) → AreParams inside ps → ps ≡ [] → inside ≡ []
no_inside inside ps no_params e = refl
no_inside inside ps (params ws p qs s) e = absurd (omega (arith, ap length e))

plain_of : (l : Lexeme) (s : List ℕ) → Is s l → plain_name s ≡ s → plain_name l.bytes ≡ s
plain_of l s same e = ap plain_name same ∙ e

-- `NameOf` of a type
pub name_of_sound : (front : List Lexeme) (m : WrittenMethodRef) (t : WrittenType) → AreSpelled front → read_method_ref front ≡ Ok (m, []) →
    begin_with (words_before (word_of form.NameOf)) (plain_words front) ≡ true → only_argument m.args m.params ≡ Some t → IsLibraryCall front form.NameOf (operand.Type t)
name_of_sound front m t s e begins only =
    let f = five_of front begins in
    let o = only_is m.args m.params t only in
    let r = name_of_read f.l0 f.l1 f.l2 f.l3 (f.l4 ∷ f.rest) m [] (subst AreSpelled f.split s) f.p0 f.p1 f.p2 f.p3 (sym (ap read_method_ref f.split) ∙ e) in
    let b = bracketed r.args m.args t r.are_args o.types in
    let none = no_inside r.inside m.params r.are_params o.none in
    let five : List Lexeme = f.l0 ∷ f.l1 ∷ f.l2 ∷ f.l3 ∷ b.left ∷ [] in
    let three : List Lexeme = b.right ∷ r.left ∷ r.right ∷ [] in
    let tail : f.l4 ∷ f.rest ≡ (b.left ∷ b.inner) ++ three =
    r.split ∙ append-nil (r.args ++ (r.left ∷ r.inside ++ r.right ∷ []))
    ∙ ap (λ z. z ++ (r.left ∷ r.inside ++ r.right ∷ [])) b.split
    ∙ ap (λ z. (b.left ∷ b.inner ++ b.right ∷ []) ++ (r.left ∷ z ++ r.right ∷ [])) none
    ∙ append_assoc (b.left ∷ b.inner) (b.right ∷ []) (r.left ∷ r.right ∷ []) in
    let split : front ≡ five ++ b.inner ++ three = f.split ∙ ap (λ z. f.l0 ∷ f.l1 ∷ f.l2 ∷ f.l3 ∷ z) tail in
    let words : plain_words five ≡ codes "string" ∷ codes "Rt.Types" ∷ codes "::" ∷ codes "NameOf" ∷ codes "<" ∷ [] =
    ap (λ z. z ∷ plain_name f.l1.bytes ∷ plain_name f.l2.bytes ∷ plain_name f.l3.bytes ∷ plain_name b.left.bytes ∷ []) f.p0
    ∙ ap (λ z. codes "string" ∷ z ∷ plain_name f.l2.bytes ∷ plain_name f.l3.bytes ∷ plain_name b.left.bytes ∷ []) f.p1
    ∙ ap (λ z. codes "string" ∷ codes "Rt.Types" ∷ z ∷ plain_name f.l3.bytes ∷ plain_name b.left.bytes ∷ []) f.p2
    ∙ ap (λ z. codes "string" ∷ codes "Rt.Types" ∷ codes "::" ∷ z ∷ plain_name b.left.bytes ∷ []) f.p3
    ∙ ap (λ z. codes "string" ∷ codes "Rt.Types" ∷ codes "::" ∷ codes "NameOf" ∷ z ∷ []) (plain_of b.left (codes "<") b.opens refl) in
    let ends : plain_words three ≡ codes ">" ∷ codes "(" ∷ codes ")" ∷ [] =
    ap (λ z. z ∷ plain_name r.left.bytes ∷ plain_name r.right.bytes ∷ []) (plain_of b.right (codes ">") b.closes refl)
    ∙ ap (λ z. codes ">" ∷ z ∷ plain_name r.right.bytes ∷ []) (plain_of r.left (codes "(") r.opens refl)
    ∙ ap (λ z. codes ">" ∷ codes "(" ∷ z ∷ []) (plain_of r.right (codes ")") r.closes refl) in
    library_words front five b.inner three form.NameOf (operand.Type t) _ _ split refl words (type_inside b.inner t b.is) ends

abbrev is_type_kind : OperandKind → Bool
is_type_kind type_operand = true
is_type_kind no_operand = false
is_type_kind int32_literal = false
is_type_kind int64_literal = false
is_type_kind text_literal = false
is_type_kind place = false
is_type_kind label = false
is_type_kind labels = false
is_type_kind called_method = false
is_type_kind method_operand = false
is_type_kind field_operand = false
is_type_kind constrained_method = false

abbrev pub name_words : List (List ℕ)
name_words = codes "string" ∷ codes "Rt.Types" ∷ codes "::" ∷ codes "NameOf" ∷ codes "<" ∷ []

abbrev pub name_end : List (List ℕ)
name_end = codes ">" ∷ codes "(" ∷ codes ")" ∷ []

abbrev is_name_word : FormWord → Bool
is_name_word (word s) = true
is_name_word (library_call first last) = same_words first name_words && same_words last name_end
is_name_word no_text = true

-- of the calls of the library only `NameOf` has a type in it
only_name : Form → Bool
only_name f = not (is_type_kind (operand_kind f)) || is_name_word (word_of f)

all_only_name : list_all only_name all_forms ≡ true
unfolding only_name
all_only_name = refl

pub name_parts : (f : Form) (first last : List (List ℕ)) → operand_kind f ≡ type_operand → word_of f ≡ library_call first last → (first ≡ name_words) × (last ≡ name_end)
unfolding only_name
name_parts f first last kind e =
    let p : only_name f ≡ true = every_form only_name f all_only_name in
    let q : (same_words first name_words && same_words last name_end) ≡ true =
    ap is_name_word (sym e) ∙ ap (λ k. not (is_type_kind k) || is_name_word (word_of f)) (sym kind) ∙ p in
    let parts = and_parts (same_words first name_words) (same_words last name_end) q in
    (words_same first name_words parts.0, words_same last name_end parts.1)

abbrev ends_plainly : FormWord → Bool
ends_plainly (word s) = true
ends_plainly (library_call first []) = true
ends_plainly (library_call first (l ∷ ls)) = false
ends_plainly no_text = true

-- the other calls of the library end where they began
plain_end : Form → Bool
plain_end f = not (takes_nothing (operand_kind f)) || ends_plainly (word_of f)

all_plain_ends : list_all plain_end all_forms ≡ true
unfolding plain_end
all_plain_ends = refl

no_end : (first last : List (List ℕ)) → ends_plainly (library_call first last) ≡ true → last ≡ []
no_end first [] e = refl
no_end first (l ∷ ls) e = absurd (true≢false (sym e))

pub plain_last : (f : Form) (first last : List (List ℕ)) → operand_kind f ≡ no_operand → word_of f ≡ library_call first last → last ≡ []
unfolding plain_end
plain_last f first last kind e =
    let p : plain_end f ≡ true = every_form plain_end f all_plain_ends in
    no_end first last (ap ends_plainly (sym e) ∙ ap (λ k. not (takes_nothing k) || ends_plainly (word_of f)) (sym kind) ∙ p)

pub no_lexemes : (ws : List Lexeme) → plain_words ws ≡ [] → ws ≡ []
no_lexemes [] e = refl
no_lexemes (l ∷ ws) e = absurd (omega (arith, ap length e))

-- the words of `NameOf`, each a lexeme
pub record NameLexemes (ws : List Lexeme) : Type 0 where
  pub l0 : Lexeme
  pub l1 : Lexeme
  pub l2 : Lexeme
  pub l3 : Lexeme
  pub l4 : Lexeme
  pub split : ws ≡ l0 ∷ l1 ∷ l2 ∷ l3 ∷ l4 ∷ []

pub name_lexemes : (ws : List Lexeme) → plain_words ws ≡ name_words → NameLexemes ws
name_lexemes [] e = absurd (omega (arith, ap length e))
name_lexemes (a ∷ []) e = absurd (omega (arith, ap length e))
name_lexemes (a ∷ b ∷ []) e = absurd (omega (arith, ap length e))
name_lexemes (a ∷ b ∷ c ∷ []) e = absurd (omega (arith, ap length e))
name_lexemes (a ∷ b ∷ c ∷ d ∷ []) e = absurd (omega (arith, ap length e))
name_lexemes (a ∷ b ∷ c ∷ d ∷ g ∷ []) e = record { l0 = a; l1 = b; l2 = c; l3 = d; l4 = g; split = refl }
name_lexemes (a ∷ b ∷ c ∷ d ∷ g ∷ h ∷ ws) e = absurd (omega (arith, ap length e))

pub record EndLexemes (ws : List Lexeme) : Type 0 where
  pub g : Lexeme
  pub left : Lexeme
  pub right : Lexeme
  pub split : ws ≡ g ∷ left ∷ right ∷ []

pub end_lexemes : (ws : List Lexeme) → plain_words ws ≡ name_end → EndLexemes ws
end_lexemes [] e = absurd (omega (arith, ap length e))
end_lexemes (a ∷ []) e = absurd (omega (arith, ap length e))
end_lexemes (a ∷ b ∷ []) e = absurd (omega (arith, ap length e))
end_lexemes (a ∷ b ∷ c ∷ []) e = record { g = a; left = b; right = c; split = refl }
end_lexemes (a ∷ b ∷ c ∷ d ∷ ws) e = absurd (omega (arith, ap length e))

pub words-append : (a b : List Lexeme) → plain_words (a ++ b) ≡ plain_words a ++ plain_words b
words-append [] b = refl
words-append (l ∷ a) b = ap (λ z. plain_name l.bytes ∷ z) (words-append a b)

pub begins_itself : (a b : List (List ℕ)) → begin_with a (a ++ b) ≡ true
begins_itself [] b = refl
begins_itself (x ∷ a) b = and_from (bytes_eq x x) (begin_with a (a ++ b)) ((bytes_eq-Decides x x).1 refl) (begins_itself a b)

nth : ℕ → List (List ℕ) → List ℕ
nth k ws = slice_index_or ws k []

abbrev first_bytes : List Lexeme → List ℕ
first_bytes [] = []
first_bytes (l ∷ ws) = l.bytes

no_list : (inside : List Lexeme) (ps : List WrittenParam) → AreParams inside ps → length inside ≡ 0 → ps ≡ []
no_list inside ps no_params e = refl
no_list inside ps (params ws p qs sep) e = absurd (omega (arith, e, params_some ws (p ∷ qs) sep))

only_made : (ts : List WrittenType) (ps : List WrittenParam) (t : WrittenType) → t ∷ [] ≡ ts → ps ≡ [] → only_argument ts ps ≡ Some t
only_made ts ps t types none = ap (λ us. only_argument us ps) (sym types) ∙ ap (only_argument (t ∷ [])) none

only_by : (l4 : Lexeme) (inner : List Lexeme) (g left2 right2 : Lexeme) (ts : List WrittenType) (ps : List WrittenParam) (args : List Lexeme) (left : Lexeme) (inside : List Lexeme) (right : Lexeme)
    (t : WrittenType) → Is (codes "<") l4 → Is (codes ">") g → IsType [] inner t → AreSpelled (inner ++ g ∷ left2 ∷ right2 ∷ []) → AreArguments args ts → Is (codes "(") left →
    AreParams inside ps → l4 ∷ (inner ++ g ∷ left2 ∷ right2 ∷ []) ≡ args ++ (left ∷ inside ++ right ∷ []) → only_argument ts ps ≡ Some t
only_by l4 inner g left2 right2 ts ps args left inside right t opens closes is s no_arguments opens2 are tail =
    absurd (true≢false (ap (bytes_eq (codes "<")) (sym opens ∙ ap (λ ws. first_bytes ws) tail ∙ opens2)))
only_by l4 inner g left2 right2 ts ps args left inside right t opens closes is s (arguments ws inner2 lt gt us split lt_is are_types gt_is) opens2 are tail =
    let same : inner ++ g ∷ left2 ∷ right2 ∷ [] ≡ inner2 ++ gt ∷ (left ∷ inside ++ right ∷ []) =
    ap (drop 1) (tail ∙ ap (λ z. z ++ (left ∷ inside ++ right ∷ [])) split) ∙ append_assoc inner2 (gt ∷ []) (left ∷ inside ++ right ∷ []) in
    let s1 = spelled-append inner (g ∷ left2 ∷ right2 ∷ []) s in
    let s2 = spelled-append inner2 (gt ∷ (left ∷ inside ++ right ∷ [])) (subst AreSpelled same s) in
    let u = args_unique inner (t ∷ []) g (left2 ∷ right2 ∷ []) inner2 ts gt (left ∷ inside ++ right ∷ []) (last_type (codes ",") inner t is) s1.0 closes are_types s2.0 gt_is same in
    only_made ts ps t u.0 (no_list inside ps are (omega (arith, ap length u.1, length-append inside (right ∷ []))))

-- where the words spell `NameOf` of a type, the method has that argument alone
pub only_name_of : (front : List Lexeme) (m : WrittenMethodRef) (a inner b : List Lexeme) (t : WrittenType) → AreSpelled front → read_method_ref front ≡ Ok (m, []) →
    front ≡ a ++ inner ++ b → plain_words a ≡ name_words → IsType [] inner t → plain_words b ≡ name_end → only_argument m.args m.params ≡ Some t
unfolding nth
only_name_of front m a inner b t s e split words_a is words_b =
    let n = name_lexemes a words_a in
    let z = end_lexemes b words_b in
    let wa : plain_words (n.l0 ∷ n.l1 ∷ n.l2 ∷ n.l3 ∷ n.l4 ∷ []) ≡ name_words = ap plain_words (sym n.split) ∙ words_a in
    let wb : plain_words (z.g ∷ z.left ∷ z.right ∷ []) ≡ name_end = ap plain_words (sym z.split) ∙ words_b in
    let rest : List Lexeme = n.l4 ∷ (inner ++ z.g ∷ z.left ∷ z.right ∷ []) in
    let whole : front ≡ n.l0 ∷ n.l1 ∷ n.l2 ∷ n.l3 ∷ rest = split ∙ ap (λ y. y ++ inner ++ b) n.split
    ∙ ap (λ y. (n.l0 ∷ n.l1 ∷ n.l2 ∷ n.l3 ∷ n.l4 ∷ []) ++ inner ++ y) z.split in
    let sp : AreSpelled (n.l0 ∷ n.l1 ∷ n.l2 ∷ n.l3 ∷ rest) = subst AreSpelled whole s in
    let r = name_of_read n.l0 n.l1 n.l2 n.l3 rest m [] sp (ap (nth 0) wa) (ap (nth 1) wa) (ap (nth 2) wa) (ap (nth 3) wa) (sym (ap read_method_ref whole) ∙ e) in
    let opens : n.l4.bytes ≡ codes "<" = plain_is n.l4.bytes (codes "<") refl refl (ap (nth 4) wa) in
    let closes : z.g.bytes ≡ codes ">" = plain_is z.g.bytes (codes ">") refl refl (ap (nth 0) wb) in
    let tail : n.l4 ∷ (inner ++ z.g ∷ z.left ∷ z.right ∷ []) ≡ r.args ++ (r.left ∷ r.inside ++ r.right ∷ []) =
    r.split ∙ append-nil (r.args ++ (r.left ∷ r.inside ++ r.right ∷ [])) in
    only_by n.l4 inner z.g z.left z.right m.args m.params r.args r.left r.inside r.right t opens closes is sp.1.1.1.1.1 r.are_args r.opens r.are_params tail

whole_is : (words : List (List ℕ)) (w : FormWord) → w ≡ library_call words [] → is_whole_call words w ≡ true
whole_is words w e = ap (is_whole_call words) e ∙ same_itself words

by_inside : (front : List Lexeme) (m : WrittenMethodRef) → AreSpelled front → read_method_ref front ≡ Ok (m, []) →
    find (λ g. is_whole_call (plain_words front) (word_of g)) all_forms ≡ None → name_of_call (plain_words front) m ≡ None →
    (a inner b : List Lexeme) (f : Form) (o : WrittenOperand) (first last : List (List ℕ)) → front ≡ a ++ inner ++ b → word_of f ≡ library_call first last →
    plain_words a ≡ first → (k : OperandKind) → operand_kind f ≡ k → IsInside k inner o → plain_words b ≡ last → ⊥
by_inside front m s e no_whole no_name a inner b f o first last split spelled words_a k kind nothing_inside words_b =
    let ended : last ≡ [] = plain_last f first last kind spelled in
    let none : b ≡ [] = no_lexemes b (words_b ∙ ended) in
    let all : plain_words front ≡ first = ap plain_words (split ∙ ap (λ z. a ++ [] ++ z) none ∙ append-nil (a ++ []) ∙ append-nil a) ∙ words_a in
    let is : word_of f ≡ library_call (plain_words front) [] = spelled ∙ ap (λ z. library_call z last) (sym all) ∙ ap (library_call (plain_words front)) ended in
    true≢false (sym (any_form (λ g. is_whole_call (plain_words front) (word_of g)) f (whole_is (plain_words front) (word_of f) is))
    ∙ none_found (λ g. is_whole_call (plain_words front) (word_of g)) all_forms no_whole)
by_inside front m s e no_whole no_name a inner b f o first last split spelled words_a k kind (type_inside ws t is) words_b =
    let parts = name_parts f first last kind spelled in
    let only = only_name_of front m a inner b t s e split (words_a ∙ parts.0) is (words_b ∙ parts.1) in
    let all : plain_words front ≡ name_words ++ plain_words (inner ++ b) =
    ap plain_words (split ∙ append_assoc a inner b) ∙ words-append a (inner ++ b) ∙ ap (λ z. z ++ plain_words (inner ++ b)) (words_a ∙ parts.0) in
    let begins : begin_with name_words (plain_words front) ≡ true = ap (begin_with name_words) all ∙ begins_itself name_words (plain_words (inner ++ b)) in
    none_is (form.NameOf, operand.Type t) (sym no_name ∙ ap (λ c. if c then option_map (λ u. (form.NameOf, operand.Type u)) (only_argument m.args m.params) else None) begins
    ∙ ap (option_map (λ u. (form.NameOf, operand.Type u))) only)

-- no library call is spelled where none is found
no_library : (front : List Lexeme) (m : WrittenMethodRef) → AreSpelled front → read_method_ref front ≡ Ok (m, []) →
    find (λ g. is_whole_call (plain_words front) (word_of g)) all_forms ≡ None → name_of_call (plain_words front) m ≡ None → (f : Form) (o : WrittenOperand) → ¬ (IsLibraryCall front f o)
no_library front m s e no_whole no_name f o (library_words ws a inner b g p first last split spelled words_a inside words_b) =
    by_inside front m s e no_whole no_name a inner b g p first last split spelled words_a (operand_kind g) refl inside words_b

-- the argument is within the limit, as the types of the method are
arg_small : (m : WrittenMethodRef) (t : WrittenType) → Only m.args m.params t → AreSmall (types_of_method_ref m) → written_positions t ≤ 256
arg_small m t o small =
    let a = small-split (option_to_list m.result ++ m.class ∷ m.args) (types_of_params m.params) small in
    let b = small-split (option_to_list m.result) (m.class ∷ m.args) a.0 in
    (subst AreSmall o.types b.1.1).0

pub name_made : (o : Option WrittenType) (found : Form × WrittenOperand) → option_map (λ t. (form.NameOf, operand.Type t)) o ≡ Some found →
    (t : WrittenType) × (o ≡ Some t) × ((form.NameOf, operand.Type t) ≡ found)
name_made o found e = let d = made (λ t. (form.NameOf, operand.Type t)) o found e in (d.item, d.found, d.gives)

name_called : (front : List Lexeme) (m : WrittenMethodRef) → AreSpelled front → read_method_ref front ≡ Ok (m, []) → AreSmall (types_of_method_ref m) →
    (found : Form × WrittenOperand) → name_of_call (plain_words front) m ≡ Some found → IsCalled front found
name_called front m s e small found name =
    elim (cases_Bool (begin_with name_words (plain_words front))) [
      | inl hit ↦
          let d = name_made (only_argument m.args m.params) found (ap (λ c. if c then option_map (λ u. (form.NameOf, operand.Type u)) (only_argument m.args m.params) else None) (sym hit) ∙ name) in
          let is = name_of_sound front m d.0 s e hit d.1 in
          let o = only_is m.args m.params d.0 d.1 in
          subst (IsCalled front) d.2 (record { is = λ l same. library l front form.NameOf (operand.Type d.0) same is; small = (arg_small m d.0 o small, tt) })
      | inr miss ↦ none_is found (ap (λ c. if c then option_map (λ u. (form.NameOf, operand.Type u)) (only_argument m.args m.params) else None) (sym miss) ∙ name)
    ]

abbrev pub Found : Type 0
Found = Form × WrittenOperand

-- the call of the library that is found is one, and where none is found there is none
call_is : (front : List Lexeme) (m : WrittenMethodRef) → AreSpelled front → read_method_ref front ≡ Ok (m, []) → IsMethodRef front m → AreSmall (types_of_method_ref m) →
    (w : Option Form) → find (λ g. is_whole_call (plain_words front) (word_of g)) all_forms ≡ w → (n : Option Found) → name_of_call (plain_words front) m ≡ n →
    IsCalled front (called (or_else (option_map (λ f. (f, operand.Nothing)) w) n) m)
call_is front m s e is small (Some f) found n name =
    record { is = λ l same. library l front f operand.Nothing same (whole_call_sound front f found); small = tt }
call_is front m s e is small None none (Some found) name = name_called front m s e small found name
call_is front m s e is small None none None name =
    record { is = λ l same. long l front form.Call (operand.Method m) (ap word (sym same)) (called_operand front m is (no_library front m s e none name)); small = small }

take_front : (front mid : List Lexeme) → take (length front) (front ++ mid) ≡ front
take_front [] mid = refl
take_front (l ∷ front) mid = ap (λ z. l ∷ z) (take_front front mid)

pub taken_is : (ws front mid : List Lexeme) → ws ≡ front ++ mid → taken ws mid ≡ front
taken_is ws front mid split =
    ap (λ z. taken z mid) split ∙ ap (λ n. take n (front ++ mid)) (omega (arith, length-append front mid)) ∙ take_front front mid

pub calls_are_sound : CallsAreSound
unfolding read_call library_call_of
calls_are_sound ws found back s e =
    stepped (read_method_ref ws) _ found back e (λ m mid e0 f0.
    let t = method_ref_sound ws m mid e0 in
    let front : List Lexeme = t.front in
    let spelled = (spelled-append front mid (subst AreSpelled t.split s)).0 in
    let alone : read_method_ref front ≡ Ok (m, []) = ap read_method_ref (sym (append-nil front)) ∙ method_ref_complete front m [] t.holds.is t.holds.small spelled in
    let c = call_is front m spelled alone t.holds.is t.holds.small (find (λ g. is_whole_call (plain_words front) (word_of g)) all_forms) refl (name_of_call (plain_words front) m) refl in
    let same = taken_is ws front mid t.split in
    record {
      front = front;
      split = t.split ∙ ap (λ z. front ++ z) (rest_of (called (library_call_of (taken ws mid) m) m) found mid back f0);
      holds = subst (IsCalled front) (ap (λ z. called (library_call_of z m) m) (sym same) ∙ value_of (called (library_call_of (taken ws mid) m) m) found mid back f0) c;
    })
