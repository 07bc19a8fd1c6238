-- A call of a method that a text gives isn't spelled as a call of the library.
use Rattle.std.proofs.Common.{◌≡◌, ℕ, Bool, true, false, List, [], ◌∷◌, ◌++◌, refl, sym, ap, ◌∙◌, subst}
use Rattle.std.specs.List.{AllByRecursion, list_all}
use Rattle.std.proofs.lemmas.Bool.{true≢false, and_parts}
use Rattle.il_model.specs.declared.op.Op.{Op}
use Rattle.il_model.specs.declared.form.Form.{Form}
use Rattle.il_model.specs.declared.member.MRef.{MRef}
use Rattle.il_model.specs.declared.written.WrittenMethodRef.{WrittenMethodRef}
use Rattle.il_model.specs.declared.written.WrittenOperand.{WrittenOperand}
use Rattle.il_model.specs.declared.written.WrittenOperand.TheVariants as operand
use Rattle.il_model.specs.declared.written.WrittenInstr.{WrittenInstr}
use Rattle.il_model.specs.Lexemes.{Lexeme}
use Rattle.il_model.specs.Forms.{OperandKind, no_operand, called_method, FormWord, word, library_call, no_text, word_of, operand_kind}
use Rattle.il_model.specs.Ops.{Operand, method, form_of, operand_of}
use Rattle.il_model.specs.Spellings.{plain_name, Shortened, shortened}
use Rattle.il_model.specs.Members.{IsMethodRef}
use Rattle.il_model.specs.Instructions.{plain_words, IsInside, nothing_inside, type_inside, IsLibraryCall, library_words, IsOperand, called, IsInstr, long, library, short, short_whole}
use Rattle.il_model.specs.Names.{Scope, Each, end, both}
use Rattle.il_model.specs.LookUp.{NamesMethodRef, NamesOperand, names_method, NamesInstr}
use Rattle.il_model.specs.Canonical.{Word}
use Rattle.il_print.proofs.AgainScopes.{IsFair}
use Rattle.il_print.proofs.AgainMembers.{AreGenuine, genuine_rest}
use Rattle.il_print.proofs.AgainForms.{is_no_variable, FormWritten, by_word, by_call, never, form_written}
use Rattle.il_print.proofs.AgainOps.{IsOwnCall}
use Rattle.il_print.proofs.AgainInstrs.{all_contained}
use Rattle.il_print.proofs.AgainAlike.{alike_same, alike_object, alike_string, alike_variable}
use Rattle.il_print.proofs.AgainTokens.{AreAlike}
use Rattle.il_print.proofs.AgainRefs.{ref_alike}
use Rattle.il_print.proofs.AgainLikes.{IsLike, like_none, like_split, like_keys, type_back}

-- ---- a call of the library is spelled again

plain_back : (ls ks : List Lexeme) → list_all is_no_variable (plain_words ks) ≡ true → Each IsLike ls ks → plain_words ls ≡ plain_words ks
plain_back ls ks none end = refl
plain_back ls ks none (both l k us vs is are) =
    let parts = and_parts (is_no_variable (plain_name k.bytes)) (list_all is_no_variable (plain_words vs)) none in
    ap (λ x. x ∷ plain_words us) (one_plain l k is parts.0) ∙ ap (λ z. plain_name k.bytes ∷ z) (plain_back us vs parts.1 are) where
      one_plain : (l k : Lexeme) → IsLike l k → is_no_variable (plain_name k.bytes) ≡ true → plain_name l.bytes ≡ plain_name k.bytes
      one_plain l k (alike_same e f) none = ap plain_name e
      one_plain l k (alike_object e f g) none = ap plain_name f ∙ sym (ap plain_name g)
      one_plain l k (alike_string e f g) none = ap plain_name f ∙ sym (ap plain_name g)
      one_plain l k (alike_variable rest e f g) none = absurd (true≢false (sym none ∙ ap (λ b. is_no_variable (plain_name b)) g))

words_before : FormWord → List Word → List Word
words_before (word x) d = d
words_before (library_call before behind) d = before
words_before no_text d = d

words_behind : FormWord → List Word → List Word
words_behind (word x) d = d
words_behind (library_call before behind) d = behind
words_behind no_text d = d

is_call : FormWord → Bool
is_call (word x) = false
is_call (library_call before behind) = true
is_call no_text = false

no_variables : (f : Form) (before behind : List Word) → word_of f ≡ library_call before behind → FormWritten f →
    (list_all is_no_variable before ≡ true) × (list_all is_no_variable behind ≡ true)
unfolding words_before words_behind is_call
no_variables f before behind e (by_word x is) = absurd (true≢false (ap is_call (sym e ∙ is)))
no_variables f before behind e (by_call first last is a b c d inside) = (
  ap (list_all is_no_variable) (ap (λ fw. words_before fw []) (sym e ∙ is)) ∙ c,
  ap (list_all is_no_variable) (ap (λ fw. words_behind fw []) (sym e ∙ is)) ∙ d,
)
no_variables f before behind e (never is) = absurd (true≢false (ap is_call (sym e ∙ is)))

record SpellsInside (kind : OperandKind) (ls : List Lexeme) : Type 0 where
  operand : WrittenOperand
  is : IsInside kind ls operand

inside_back : (kind : OperandKind) (ks : List Lexeme) (o : WrittenOperand) → IsInside kind ks o → (ls : List Lexeme) → Each IsLike ls ks → SpellsInside kind ls
inside_back kind ks o nothing_inside ls are = subst (SpellsInside no_operand) (sym (like_none ls are)) (record { operand = operand.Nothing; is = nothing_inside })
inside_back kind ks o (type_inside ws t is) ls are =
    let r = type_back [] ws t is refl ls are in
    record { operand = operand.Type r.type; is = type_inside ls r.type r.is }

record SpellsCall (f : Form) (ls : List Lexeme) : Type 0 where
  operand : WrittenOperand
  is : IsLibraryCall ls f operand

call_back : (ks : List Lexeme) (f : Form) (o : WrittenOperand) → IsLibraryCall ks f o → (ls : List Lexeme) → Each IsLike ls ks → SpellsCall f ls
call_back ks f o (library_words ws front inner back g u before behind split is a inside b) ls are =
    let s1 = like_split ls (front ++ inner) back (subst (Each IsLike ls) split are) in
    let s2 = like_split s1.front front inner s1.first in
    let none = no_variables g before behind is (form_written g) in
    let r = inside_back (operand_kind g) inner u inside s2.back s2.second in
    record {
      operand = r.operand;
      is = library_words ls s2.front s2.back s1.back g r.operand before behind (s1.split ∙ ap (λ z. z ++ s1.back) s2.split) is
          (plain_back s2.front front (ap (list_all is_no_variable) a ∙ none.0) s2.first ∙ a) r.is
          (plain_back s1.back back (ap (list_all is_no_variable) b ∙ none.1) s1.second ∙ b);
    }

-- ---- a call of a text

is_called : OperandKind → Bool
is_called called_method = true
is_called _ = false

is_method : WrittenOperand → Bool
is_method (operand.Method m) = true
is_method _ = false

ref_or : WrittenMethodRef → WrittenOperand → WrittenMethodRef
ref_or d (operand.Method m) = m
ref_or d _ = d

-- the method's lexemes, which spell no call of the library
record CallSpelled (written : WrittenMethodRef) : Type 0 where
  lexemes : List Lexeme
  is : IsMethodRef lexemes written
  genuine : AreGenuine lexemes
  own : (f : Form) (o : WrittenOperand) → ¬ (IsLibraryCall lexemes f o)

of_operand : (kind : OperandKind) (ls : List Lexeme) (o : WrittenOperand) → IsOperand kind ls o → AreGenuine ls → kind ≡ called_method → (written : WrittenMethodRef) →
    o ≡ operand.Method written → CallSpelled written
unfolding is_called ref_or
of_operand kind ls o (called ws m is own) genuine e written same =
    record { lexemes = ws; is = subst (IsMethodRef ws) (ap (ref_or m) same) is; genuine = genuine; own = own }
of_operand kind ls o _ genuine e written same = absurd (true≢false (sym (ap is_called e)))

not_inside : (kind : OperandKind) (ls : List Lexeme) (o : WrittenOperand) → IsInside kind ls o → ¬ (kind ≡ called_method)
unfolding is_called
not_inside kind ls o nothing_inside e = true≢false (sym (ap is_called e))
not_inside kind ls o (type_inside ws t is) e = true≢false (sym (ap is_called e))

not_library : (ls : List Lexeme) (f : Form) (o : WrittenOperand) → IsLibraryCall ls f o → ¬ (operand_kind f ≡ called_method)
not_library ls f o (library_words ws front inner back g u before behind split is a inside b) e = not_inside (operand_kind g) inner u inside e

shortened_hold : AllByRecursion (λ (row : Shortened). is_method row.operand ≡ false) shortened
unfolding is_method
shortened_hold = (
  refl,
  (
    refl,
    (
      refl,
      (
        refl,
        (
          refl,
          (
            refl,
            (
              refl,
              (
                refl,
                (
                  refl,
                  (
                    refl,
                    (
                      refl,
                      (
                        refl,
                        (
                          refl,
                          (
                            refl,
                            (
                              refl,
                              (
                                refl,
                                (
                                  refl,
                                  (
                                    refl,
                                    (
                                      refl,
                                      (
                                        refl,
                                        (
                                          refl,
                                          (
                                            refl,
                                            (refl, (refl, (refl, (refl, (refl, (refl, (refl, (refl, (refl, (refl, tt)))))))))),
                                          ),
                                        ),
                                      ),
                                    ),
                                  ),
                                ),
                              ),
                            ),
                          ),
                        ),
                      ),
                    ),
                  ),
                ),
              ),
            ),
          ),
        ),
      ),
    ),
  ),
)

call_spelled : (ls : List Lexeme) (i : WrittenInstr) → IsInstr ls i → AreGenuine ls → operand_kind i.form ≡ called_method → (written : WrittenMethodRef) →
    i.operand ≡ operand.Method written → CallSpelled written
unfolding is_method
call_spelled ls i (long l ws f o is are) genuine e written same = of_operand (operand_kind f) ws o are (genuine_rest l ws genuine) e written same
call_spelled ls i (library l ws f o is are) genuine e written same = absurd (not_library ws f o are e)
call_spelled ls i (short l ws f o is are) genuine e written same = of_operand (operand_kind f) ws o are (genuine_rest l ws genuine) e written same
call_spelled ls i (short_whole l row among is) genuine e written same =
    absurd (true≢false (sym (ap is_method same) ∙ all_contained (λ (row : Shortened). is_method row.operand ≡ false) shortened row shortened_hold among))

record MethodNamed (s : Scope) (o : WrittenOperand) (m : MRef) : Type 0 where
  written : WrittenMethodRef
  is : o ≡ operand.Method written
  names : NamesMethodRef s written m

is_method_operand : Operand → Bool
is_method_operand (method m) = true
is_method_operand _ = false

mref_or : MRef → Operand → MRef
mref_or d (method m) = m
mref_or d _ = d

method_named : (s : Scope) (literals : List (List ℕ)) (labels : List (List ℕ × ℕ)) (written : WrittenOperand) (o : Operand) (m : MRef) → NamesOperand s literals labels written o →
    o ≡ method m → MethodNamed s written m
unfolding is_method_operand mref_or
method_named s literals labels written o m (names_method x y is) e = record { written = x; is = refl; names = subst (NamesMethodRef s x) (ap (mref_or y) e) is }
method_named s literals labels written o m _ e = absurd (true≢false (sym (ap is_method_operand e)))

-- the canonical spelling of a method that a text calls is no call of the library
pub own_call : (s : Scope) → IsFair s → (literals : List (List ℕ)) (labels : List (List ℕ × ℕ)) (ls : List Lexeme) (i : WrittenInstr) (made : Op) (m : MRef) →
    IsInstr ls i → AreGenuine ls → NamesInstr s literals labels i made → operand_kind (form_of made) ≡ called_method → operand_of made ≡ method m → IsOwnCall s.names m
own_call s fair literals labels ls i made m is genuine names kind holds ks keys f o call =
    let named = method_named s literals labels i.operand (operand_of made) m names.operand holds in
    let own = call_spelled ls i is genuine (ap operand_kind (sym names.form) ∙ kind) named.written named.is in
    let alike = ref_alike s fair.plain own.lexemes named.written own.is own.genuine m named.names in
    let like = like_keys own.lexemes ks (subst (AreAlike own.lexemes) (sym keys) alike) in
    let again = call_back ks f o call own.lexemes like in
    own.own f again.operand again.is
