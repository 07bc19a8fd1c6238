-- A method whose words begin as those of `NameOf`: what it has as arguments and parameters.
use Rattle.std.proofs.Common.{◌≡◌, ℕ, suc, ◌+◌, ◌-◌, ◌≤◌, true, false, List, [], ◌∷◌, ◌++◌, map, sum, Some, Ok, refl, sym, ap, subst, ◌∙◌, codes, append_assoc, bytes_eq, inl, inr, arith}
use Rattle.std.proofs.lemmas.Bool.{true≢false, cases_Bool}
use Rattle.std.proofs.lemmas.Slice.Eq.{bytes_eq-Decides}
use Rattle.il_text.specs.declared.token.TokenKind.{TokenKind}
use Rattle.il_text.specs.declared.token.TokenKind.TheVariants as token
use Rattle.il_text.specs.Spelling.{spells, is_variable, is_number, is_text, is_mark}
use Rattle.il_model.specs.declared.written.WrittenType.{WrittenType}
use Rattle.il_model.specs.declared.written.WrittenType.TheVariants as w
use Rattle.il_model.specs.declared.written.WrittenMethodRef.{WrittenMethodRef}
use Rattle.il_model.specs.Lexemes.{Lexeme, Is, IsName, is_among, name_at}
use Rattle.il_model.specs.Words.{type_keywords}
use Rattle.il_model.specs.Bounds.{written_positions, types_of_params}
use Rattle.il_model.specs.Types.{IsType, keyword, named, value, AreTypes, AreParams, AreArguments}
use Rattle.il_model.specs.Spellings.{plain_name}
use Rattle.il_parse.specs.Reading.{Reader, sees, expect}
use Rattle.il_parse.specs.Types.{read_type, read_type_within, read_result, read_params, read_enclosed, read_arguments, inner_types_from}
use Rattle.il_parse.specs.Members.{read_method_name, read_method_ref}
use Rattle.il_parse.proofs.Steps.{AreSpelled, value_of, rest_of, stepped, next_of}
use Rattle.il_parse.proofs.TypesSound.{positions-named, positions-string}
use Rattle.il_parse.proofs.ListsSound.{IsBoth}
use Rattle.il_parse.proofs.PartsSound.{arguments_sound, enclosed_sound, params_sound}
use Rattle.il_parse.proofs.TypesComplete.{sees-other, after-other, expect-is, type_goes, args_goes, InnerGoes}
use Rattle.il_parse.proofs.ListsComplete.{ends_at, type_complete}
use Rattle.il_parse.proofs.PartsComplete.{result_complete, method_name_complete}

pub word_only : (k : TokenKind) (bytes : List ℕ) → spells k bytes ≡ true → is_variable bytes ≡ false → is_number bytes ≡ false → is_text bytes ≡ false → is_mark bytes ≡ false → k ≡ token.Word
word_only token.Word bytes s a b c d = refl
word_only token.Variable bytes s a b c d = absurd (true≢false (sym s ∙ a))
word_only token.Number bytes s a b c d = absurd (true≢false (sym s ∙ b))
word_only token.Text bytes s a b c d = absurd (true≢false (sym s ∙ c))
word_only token.Mark bytes s a b c d = absurd (true≢false (sym s ∙ d))

-- a lexeme that spells this word is a word
word_kind : (l : Lexeme) (bytes : List ℕ) → Is bytes l → spells l.kind l.bytes ≡ true → is_variable bytes ≡ false → is_number bytes ≡ false → is_text bytes ≡ false → is_mark bytes ≡ false →
    l.kind ≡ token.Word
word_kind l bytes same s a b c d = word_only l.kind bytes (ap (spells l.kind) (sym same) ∙ s) a b c d

different : {C : Type 0} (a b : List ℕ) → bytes_eq a b ≡ false → a ≡ b → C
different a b apart same = absurd (true≢false (sym ((bytes_eq-Decides a b).1 same) ∙ apart))

-- a plain name that is neither of the two short ones is the name itself
pub plain_is : (bytes s : List ℕ) → bytes_eq (codes "object") s ≡ false → bytes_eq (codes "string") s ≡ false → plain_name bytes ≡ s → bytes ≡ s
plain_is bytes s no_object no_string e =
    elim (cases_Bool (bytes_eq bytes (codes "System.Object"))) [
      | inl hit ↦ different (codes "object") s no_object (rw hit at e)
      | inr miss ↦ elim (cases_Bool (bytes_eq bytes (codes "System.String"))) [
        | inl hit ↦ different (codes "string") s no_string (rw (miss, hit) at e)
        | inr other ↦ rw (miss, other) at e
      ]
    ]

-- a type that is written as `string` or as `System.String`
record StringType (l : Lexeme) : Type 0 where
  kind : WrittenType
  is : IsType (codes "void" ∷ codes "instance" ∷ []) (l ∷ []) kind
  small : written_positions kind ≤ 256

string_type : (l : Lexeme) → spells l.kind l.bytes ≡ true → plain_name l.bytes ≡ codes "string" → StringType l
string_type l s e =
    elim (cases_Bool (bytes_eq l.bytes (codes "System.Object"))) [
      | inl hit ↦ different (codes "object") (codes "string") refl (rw hit at e)
      | inr miss ↦ elim (cases_Bool (bytes_eq l.bytes (codes "System.String"))) [
        | inl hit ↦
            let same : l.bytes ≡ codes "System.String" = (bytes_eq-Decides l.bytes (codes "System.String")).0 hit in
            record {
              kind = w.Named (name_at l) [];
              is = named (codes "void" ∷ codes "instance" ∷ []) l (w.Named (name_at l) [])
                  (record { word = word_kind l (codes "System.String") same s refl refl refl refl; free = ap (is_among (type_keywords ++ codes "void" ∷ codes "instance" ∷ [])) same }) refl;
              small = omega (arith, positions-named (name_at l) []);
            }
        | inr other ↦
            let same : l.bytes ≡ codes "string" = rw (miss, other) at e in
            record {
              kind = w.String;
              is = keyword (codes "void" ∷ codes "instance" ∷ []) l w.String (4, omega arith, ap (λ b. (b, w.String)) (sym same));
              small = omega (arith, positions-string);
            }
      ]
    ]

not_instance : (l : Lexeme) (ws : List Lexeme) → plain_name l.bytes ≡ codes "string" → sees (codes "instance") (l ∷ ws) ≡ false
unfolding sees
not_instance l ws e =
    elim (cases_Bool (bytes_eq (codes "instance") l.bytes)) [
      | inl hit ↦ different (codes "instance") (codes "string") refl (ap plain_name ((bytes_eq-Decides (codes "instance") l.bytes).0 hit) ∙ e)
      | inr miss ↦ miss
    ]

-- the method that these words begin, read up to this place
pub record NameOfRead (rest : List Lexeme) (m : WrittenMethodRef) (mid : List Lexeme) : Type 0 where
  pub args : List Lexeme
  pub left : Lexeme
  pub inside : List Lexeme
  pub right : Lexeme
  pub split : rest ≡ args ++ (left ∷ inside ++ right ∷ []) ++ mid
  pub are_args : AreArguments args m.args
  pub opens : Is (codes "(") left
  pub are_params : AreParams inside m.params
  pub closes : Is (codes ")") right

pub name_of_read : (l0 l1 l2 l3 : Lexeme) (rest : List Lexeme) (m : WrittenMethodRef) (mid : List Lexeme) → AreSpelled (l0 ∷ l1 ∷ l2 ∷ l3 ∷ rest) →
    plain_name l0.bytes ≡ codes "string" → plain_name l1.bytes ≡ codes "Rt.Types" → plain_name l2.bytes ≡ codes "::" → plain_name l3.bytes ≡ codes "NameOf" →
    read_method_ref (l0 ∷ l1 ∷ l2 ∷ l3 ∷ rest) ≡ Ok (m, mid) → NameOfRead rest m mid
unfolding read_method_ref
name_of_read l0 l1 l2 l3 rest m mid s p0 p1 p2 p3 e =
    let k = string_type l0 s.0 p0 in
    let b1 : l1.bytes ≡ codes "Rt.Types" = plain_is l1.bytes (codes "Rt.Types") refl refl p1 in
    let b2 : l2.bytes ≡ codes "::" = plain_is l2.bytes (codes "::") refl refl p2 in
    let b3 : l3.bytes ≡ codes "NameOf" = plain_is l3.bytes (codes "NameOf") refl refl p3 in
    let w3 : List Lexeme = l3 ∷ rest in
    let w2 : List Lexeme = l2 ∷ w3 in
    let w1 : List Lexeme = l1 ∷ w2 in
    let no_instance : sees (codes "instance") (l0 ∷ w1) ≡ false = not_instance l0 w1 p0 in
    let n1 : IsName (type_keywords ++ []) l1 = record { word = word_kind l1 (codes "Rt.Types") b1 s.1.0 refl refl refl refl; free = ap (is_among (type_keywords ++ [])) b1 } in
    let n3 : IsName (codes ".cctor" ∷ []) l3 = record { word = word_kind l3 (codes "NameOf") b3 s.1.1.1.0 refl refl refl refl; free = ap (is_among (codes ".cctor" ∷ [])) b3 } in
    let e1 = next_of (read_result (l0 ∷ w1)) _ _ (Some k.kind) w1
    (result_complete (codes "instance" ∷ []) (l0 ∷ []) (Some k.kind) w1 (value (l0 ∷ []) k.kind k.is) (k.small, tt) (s.0, tt)
    (ends_at (codes "Rt.Types") l1 w2 b1 refl refl)) (rw (no_instance, after-other (codes "instance") (l0 ∷ w1) no_instance) at e) in
    let e2 = next_of (read_type w1) _ _ (w.Named (name_at l1) []) w2
    (type_complete [] (l1 ∷ []) (w.Named (name_at l1) []) w2 (named [] l1 (w.Named (name_at l1) []) n1 refl) (omega (arith, positions-named (name_at l1) [])) (s.1.0, tt)
    (ends_at (codes "::") l2 w3 b2 refl refl)) e1 in
    let e3 = next_of (expect (codes "::") w2) _ _ tt w3 (expect-is (codes "::") l2 w3 b2) e2 in
    let e4 = next_of (read_method_name w3) _ _ (name_at l3) rest (method_name_complete l3 rest n3) e3 in
    stepped (read_arguments rest) _ m mid e4 (λ args ws5 a5 f5.
    stepped (read_enclosed read_params ws5) _ m mid f5 (λ ps ws6 a6 f6.
    let a = arguments_sound rest args ws5 a5 in
    let p = enclosed_sound read_params (IsBoth AreParams types_of_params) params_sound ws5 ps ws6 a6 in
    let made : WrittenMethodRef = record { instance = false; result = Some k.kind; class = w.Named (name_at l1) []; name = l3.bytes; args = args; params = ps } in
    let is : made ≡ m = value_of made m ws6 mid f6 in
    record {
      args = a.front;
      left = p.left;
      inside = p.inner;
      right = p.right;
      split = a.split ∙ ap (λ z. a.front ++ z) (p.split ∙ ap (λ z. (p.left ∷ p.inner ++ p.right ∷ []) ++ z) (rest_of made m ws6 mid f6)) ∙ sym (append_assoc a.front (p.left ∷ p.inner ++ p.right ∷ []) mid);
      are_args = subst (AreArguments a.front) (ap (λ (x : WrittenMethodRef). x.args) is) a.holds.is;
      opens = p.opens;
      are_params = subst (AreParams p.inner) (ap (λ (x : WrittenMethodRef). x.params) is) p.holds.is;
      closes = p.closes;
    }))

-- the types between `<` and `>` are what they are, and end where they end
pub args_unique : (a : List Lexeme) (xs : List WrittenType) (g : Lexeme) (u b : List Lexeme) (ys : List WrittenType) (h : Lexeme) (v : List Lexeme) →
    AreTypes (codes ",") a xs → AreSpelled a → Is (codes ">") g → AreTypes (codes ",") b ys → AreSpelled b → Is (codes ">") h → a ++ g ∷ u ≡ b ++ h ∷ v →
    (xs ≡ ys) × (g ∷ u ≡ h ∷ v)
args_unique a xs g u b ys h v are_a s_a same_g are_b s_b same_h e =
    let n = sum (map written_positions xs) + sum (map written_positions ys) in
    let inner : ℕ → Reader (WrittenType × ℕ) = λ more. read_type_within n more in
    let goes : InnerGoes inner n = λ left front t back is p f r k. type_goes n [] left front t back is p f r k in
    let one = args_goes inner n goes (suc n) [] n a xs (g ∷ u) are_a s_a (sees-other (codes "<") (codes ">") g u same_g refl) (sees-other (codes "[]") (codes ">") g u same_g refl)
    (sees-other (codes ",") (codes ">") g u same_g refl) (omega arith) (omega arith) (omega arith) in
    let two = args_goes inner n goes (suc n) [] n b ys (h ∷ v) are_b s_b (sees-other (codes "<") (codes ">") h v same_h refl) (sees-other (codes "[]") (codes ">") h v same_h refl)
    (sees-other (codes ",") (codes ">") h v same_h refl) (omega arith) (omega arith) (omega arith) in
    let both = sym one ∙ ap (inner_types_from inner (suc n) [] n) e ∙ two in (
      ap (λ q. q.0) (value_of (xs, n - sum (map written_positions xs)) (ys, n - sum (map written_positions ys)) (g ∷ u) (h ∷ v) both),
      rest_of (xs, n - sum (map written_positions xs)) (ys, n - sum (map written_positions ys)) (g ∷ u) (h ∷ v) both,
    )
