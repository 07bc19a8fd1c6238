-- What is read as an operand is that of the grammar, within the limits.
use Rattle.std.proofs.Common.{◌≡◌, ℕ, false, List, [], ◌∷◌, ◌++◌, Option, Some, None, Ok, refl, sym, ap, subst, ◌∙◌, codes}
use Rattle.std.proofs.lemmas.Bool.{true≢false}
use Rattle.il_text.specs.declared.token.TokenKind.{TokenKind}
use Rattle.il_text.specs.declared.token.TokenKind.TheVariants as token
use Rattle.il_model.specs.declared.written.WrittenOperand.{WrittenOperand}
use Rattle.il_model.specs.declared.written.WrittenOperand.TheVariants as operand
use Rattle.il_model.specs.Lexemes.{Lexeme, Separated}
use Rattle.il_model.specs.Literals.{int32_value, int64_value, place_value, text_value}
use Rattle.il_model.specs.Bounds.{types_of_operand}
use Rattle.il_model.specs.Forms.{OperandKind, no_operand, int32_literal, int64_literal, text_literal, place, label, labels, type_operand, called_method, method_operand, field_operand, constrained_method}
use Rattle.il_model.specs.Instructions.{IsLabel, label_name, IsOperand, nothing, int32_number, int64_number, text, place_number, target, targets, type, method, field, constrained}
use Rattle.il_parse.specs.Reading.{Read, stuck_fault, read_name, read_separated}
use Rattle.il_parse.specs.Types.{read_type, read_enclosed}
use Rattle.il_parse.specs.Members.{read_method_ref, read_field_ref}
use Rattle.il_parse.specs.Operands.{value_or_stuck, number_value, read_number, literal_value, read_text, read_constrained, read_operand}
use Rattle.il_parse.proofs.Finding.{none_is, some_is}
use Rattle.il_parse.proofs.Steps.{Took, Sound, refusal, value_of, rest_of, stepped, stepped_over, joined, led}
use Rattle.il_parse.proofs.TypesSound.{no_quoted}
use Rattle.il_parse.proofs.ListsSound.{type_sound, name_sound, IsBoth, AreSmall, separated_sound}
use Rattle.il_parse.proofs.PartsSound.{enclosed_sound}
use Rattle.il_parse.proofs.MembersSound.{method_ref_sound, field_ref_sound}
use Rattle.il_parse.proofs.WordsSound.{is_called}

-- one lexeme that is read as a value
pub record ValueRead {A : Type 0} (value : TokenKind → List ℕ → Option A) (ws : List Lexeme) (x : A) (back : List Lexeme) : Type 0 where
  pub token : Lexeme
  pub split : ws ≡ token ∷ back
  pub is : value token.kind token.bytes ≡ Some x

value_read : {A : Type 0} (value : TokenKind → List ℕ → Option A) (o : Option A) (l : Lexeme) (ws : List Lexeme) (x : A) (back : List Lexeme) → value l.kind l.bytes ≡ o →
    value_or_stuck o l ws ≡ Ok (x, back) → ValueRead value (l ∷ ws) x back
value_read value None l ws x back is e = refusal (stuck_fault (l ∷ ws)) x back e
value_read value (Some y) l ws x back is e =
    record { token = l; split = ap (λ r. l ∷ r) (rest_of y x ws back e); is = is ∙ ap (λ z. Some z) (value_of y x ws back e) }

pub number_read : {A : Type 0} (value : List ℕ → Option A) (ws : List Lexeme) (x : A) (back : List Lexeme) → read_number value ws ≡ Ok (x, back) →
    ValueRead (number_value value) ws x back
unfolding read_number
number_read value [] x back e = refusal (stuck_fault []) x back e
number_read value (l ∷ ws) x back e = value_read (number_value value) (number_value value l.kind l.bytes) l ws x back refl e

pub text_read : (ws : List Lexeme) (x : List ℕ) (back : List Lexeme) → read_text ws ≡ Ok (x, back) → ValueRead literal_value ws x back
unfolding read_text
text_read [] x back e = refusal (stuck_fault []) x back e
text_read (l ∷ ws) x back e = value_read literal_value (literal_value l.kind l.bytes) l ws x back refl e

-- a number of a kind that has values
record IsNumber {A : Type 0} (value : List ℕ → Option A) (k : TokenKind) (bytes : List ℕ) (x : A) : Type 0 where
  kind : k ≡ token.Number
  is : value bytes ≡ Some x

is_number : {A : Type 0} (value : List ℕ → Option A) (k : TokenKind) (bytes : List ℕ) (x : A) → number_value value k bytes ≡ Some x → IsNumber value k bytes x
is_number value token.Number bytes x e = record { kind = refl; is = e }
is_number value token.Word bytes x e = none_is x e
is_number value token.Variable bytes x e = none_is x e
is_number value token.Text bytes x e = none_is x e
is_number value token.Mark bytes x e = none_is x e

record IsLiteral (k : TokenKind) (bytes x : List ℕ) : Type 0 where
  kind : k ≡ token.Text
  is : text_value bytes ≡ x

is_literal : (k : TokenKind) (bytes x : List ℕ) → literal_value k bytes ≡ Some x → IsLiteral k bytes x
is_literal token.Text bytes x e = record { kind = refl; is = some_is (text_value bytes) x e }
is_literal token.Word bytes x e = none_is x e
is_literal token.Variable bytes x e = none_is x e
is_literal token.Number bytes x e = none_is x e
is_literal token.Mark bytes x e = none_is x e

pub label_sound : Sound read_name IsLabel
unfolding read_name
label_sound ws to back e =
    let n = name_sound [] ws to back e in
    record { front = n.token ∷ []; split = n.split; holds = subst (IsLabel (n.token ∷ [])) (sym n.at) (label_name n.token n.is) }

abbrev pub OperandSound : OperandKind → Type 0
OperandSound k = Sound (read_operand k) (IsBoth (IsOperand k) types_of_operand)

-- what an operand is that is read as one part
one_part : {A : Type 0} (k : OperandKind) (make : A → WrittenOperand) (x : A) (ws mid front : List Lexeme) (o : WrittenOperand) (back : List Lexeme) →
    ws ≡ front ++ mid → IsOperand k front (make x) → AreSmall (types_of_operand (make x)) → (let r : Read WrittenOperand = Ok (make x, mid) in r ≡ Ok (o, back)) →
    Took (IsBoth (IsOperand k) types_of_operand) ws o back
one_part k make x ws mid front o back split is small e = record {
  front = front;
  split = split ∙ ap (λ z. front ++ z) (rest_of (make x) o mid back e);
  holds = subst (IsBoth (IsOperand k) types_of_operand front) (value_of (make x) o mid back e) (record { is = is; small = small });
}

number_sound : {A : Type 0} (k : OperandKind) (value : List ℕ → Option A) (make : A → WrittenOperand) →
    ((l : Lexeme) (n : A) → l.kind ≡ token.Number → value l.bytes ≡ Some n → IsOperand k (l ∷ []) (make n)) → ((n : A) → AreSmall (types_of_operand (make n))) →
    (ws : List Lexeme) (o : WrittenOperand) (back : List Lexeme) (n : A) (mid : List Lexeme) → read_number value ws ≡ Ok (n, mid) →
    (let r : Read WrittenOperand = Ok (make n, mid) in r ≡ Ok (o, back)) → Took (IsBoth (IsOperand k) types_of_operand) ws o back
number_sound k value make is small ws o back n mid e f =
    let v = number_read value ws n mid e in
    let i = is_number value v.token.kind v.token.bytes n v.is in
    one_part k make n ws mid (v.token ∷ []) o back v.split (is v.token n i.kind i.is) (small n) f

constrained_sound : Sound read_constrained (IsBoth (IsOperand constrained_method) types_of_operand)
unfolding read_constrained
constrained_sound ws o back e =
    stepped (read_type ws) _ o back e (λ t ws1 e0 f0.
    stepped_over (codes "callvirt") ws1 _ o back f0 (λ l ws2 s1 h1 f1.
    stepped (read_method_ref ws2) _ o back f1 (λ m ws3 e2 f2.
    let k = type_sound [] ws t ws1 (no_quoted ws) e0 in
    let n = method_ref_sound ws2 m ws3 e2 in
    let made : WrittenOperand = operand.Constrained t m in
    let whole : List Lexeme = k.front ++ l ∷ n.front in
    record {
      front = whole;
      split = joined ws k.front ws1 (l ∷ n.front) back k.split (led ws1 l ws2 n.front back s1 (n.split ∙ ap (λ z. n.front ++ z) (rest_of made o ws3 back f2)));
      holds = subst (IsBoth (IsOperand constrained_method) types_of_operand whole) (value_of made o ws3 back f2)
          (record { is = constrained whole k.front n.front l t m refl k.holds.is h1 n.holds.is; small = (k.holds.small, n.holds.small) });
    })))

pub operand_sound : (k : OperandKind) → is_called k ≡ false → OperandSound k
unfolding read_operand
operand_sound no_operand free ws o back e = record {
  front = [];
  split = rest_of operand.Nothing o ws back e;
  holds = subst (IsBoth (IsOperand no_operand) types_of_operand []) (value_of operand.Nothing o ws back e) (record { is = nothing; small = tt });
}
operand_sound int32_literal free ws o back e =
    stepped (read_number int32_value ws) _ o back e (λ n mid e0 f0.
    number_sound int32_literal int32_value operand.Int32 int32_number (λ _. tt) ws o back n mid e0 f0)
operand_sound int64_literal free ws o back e =
    stepped (read_number int64_value ws) _ o back e (λ n mid e0 f0.
    number_sound int64_literal int64_value operand.Int64 int64_number (λ _. tt) ws o back n mid e0 f0)
operand_sound text_literal free ws o back e =
    stepped (read_text ws) _ o back e (λ bytes mid e0 f0.
    let v = text_read ws bytes mid e0 in
    let i = is_literal v.token.kind v.token.bytes bytes v.is in
    one_part text_literal operand.Text bytes ws mid (v.token ∷ []) o back v.split
    (subst (λ b. IsOperand text_literal (v.token ∷ []) (operand.Text b)) i.is (text v.token i.kind)) tt f0)
operand_sound place free ws o back e =
    stepped (read_number place_value ws) _ o back e (λ n mid e0 f0.
    number_sound place place_value operand.Place place_number (λ _. tt) ws o back n mid e0 f0)
operand_sound label free ws o back e =
    stepped (read_name ws) _ o back e (λ to mid e0 f0.
    let n = label_sound ws to mid e0 in
    one_part label operand.Label to ws mid n.front o back n.split (target n.front to n.holds) tt f0)
operand_sound labels free ws o back e =
    stepped (read_enclosed (read_separated read_name (codes ",")) ws) _ o back e (λ to mid e0 f0.
    let n = enclosed_sound (read_separated read_name (codes ",")) (Separated (codes ",") IsLabel)
    (separated_sound read_name IsLabel label_sound (codes ",")) ws to mid e0 in
    let whole : List Lexeme = n.left ∷ n.inner ++ n.right ∷ [] in
    one_part labels operand.Labels to ws mid whole o back n.split (targets whole n.inner n.left n.right to refl n.opens n.holds n.closes) tt f0)
operand_sound type_operand free ws o back e =
    stepped (read_type ws) _ o back e (λ t mid e0 f0.
    let k = type_sound [] ws t mid (no_quoted ws) e0 in
    one_part type_operand operand.Type t ws mid k.front o back k.split (type k.front t k.holds.is) (k.holds.small, tt) f0)
operand_sound called_method free ws o back e = absurd (true≢false free)
operand_sound method_operand free ws o back e =
    stepped (read_method_ref ws) _ o back e (λ m mid e0 f0.
    let n = method_ref_sound ws m mid e0 in
    one_part method_operand operand.Method m ws mid n.front o back n.split (method n.front m n.holds.is) n.holds.small f0)
operand_sound field_operand free ws o back e =
    stepped (read_field_ref ws) _ o back e (λ m mid e0 f0.
    let n = field_ref_sound ws m mid e0 in
    one_part field_operand operand.Field m ws mid n.front o back n.split (field n.front m n.holds.is) n.holds.small f0)
operand_sound constrained_method free ws o back e = constrained_sound ws o back e
