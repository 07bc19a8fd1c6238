-- Literals as tokens: what one holds can be written again.
use Rattle.std.proofs.Common.{◌≡◌, ℕ, zero, suc, ◌-◌, ◌==◌, ◌&&◌, ◌||◌, Bool, true, false, List, [], ◌∷◌, ◌++◌, length, take, flat_map, refl, sym, ap, ◌∙◌, subst, append_assoc, arith, eqb-true, if◌then◌else◌, inl, inr}
use Rattle.std.specs.List.{list_all}
use Rattle.std.proofs.lemmas.Bool.{true≢false, cases_Bool, or_cases, and_parts, and_from, or_left, both_ways, false_from_ne_true}
use Rattle.il_text.specs.declared.token.TokenKind.TheVariants as token
use Rattle.il_text.specs.Bytes.{is_plain, is_escape}
use Rattle.il_text.specs.Spelling.{is_text, is_text_end}
use Rattle.il_model.specs.Canonical.{escaped, literal_text}
use Rattle.il_model.specs.Literals.{escaped_byte, unescaped, text_value}
use Rattle.il_print.proofs.TokenReads.{IsToken}

-- a byte that a literal can hold
abbrev pub is_writable : ℕ → Bool
is_writable b = is_plain b || ((b == 10) || ((b == 9) || ((b == 34) || (b == 92))))

-- ---- such bytes are written as a literal

not_at : (b n : ℕ) → is_plain b ≡ true → is_plain n ≡ false → (b == n) ≡ false
not_at b n e f = false_from_ne_true (b == n) (λ same. both_ways (is_plain n) f (ap is_plain (sym (eqb-true b n same)) ∙ e))

plain_escaped : (b : ℕ) → is_plain b ≡ true → escaped b ≡ b ∷ []
plain_escaped b e =
    ap (λ t. if t then 92 ∷ 110 ∷ [] else (if b == 9 then 92 ∷ 116 ∷ [] else (if (b == 34) || (b == 92) then 92 ∷ b ∷ [] else b ∷ []))) (not_at b 10 e refl)
    ∙ ap (λ t. if t then 92 ∷ 116 ∷ [] else (if (b == 34) || (b == 92) then 92 ∷ b ∷ [] else b ∷ [])) (not_at b 9 e refl)
    ∙ ap (λ t. if t || (b == 92) then 92 ∷ b ∷ [] else b ∷ []) (not_at b 34 e refl)
    ∙ ap (λ t. if t then 92 ∷ b ∷ [] else b ∷ []) (not_at b 92 e refl)

-- one byte more in front
end_behind : (b : ℕ) (rest : List ℕ) → is_writable b ≡ true → is_text_end rest ≡ true → is_text_end (escaped b ++ rest) ≡ true
end_behind b [] w e = absurd (true≢false (sym e))
end_behind b (r ∷ rs) w e =
    let at : (n : ℕ) → (b == n) ≡ true → is_text_end (escaped n ++ r ∷ rs) ≡ true → is_text_end (escaped b ++ r ∷ rs) ≡ true =
    λ n same here. subst (λ m. is_text_end (escaped m ++ r ∷ rs) ≡ true) (sym (eqb-true b n same)) here in
    elim (or_cases (is_plain b) _ w) [
      | inl plain ↦
          ap (λ bs. is_text_end (bs ++ r ∷ rs)) (plain_escaped b plain)
          ∙ ap (λ t. if t then is_escape r && is_text_end rs else is_plain b && is_text_end (r ∷ rs)) (not_at b 92 plain refl)
          ∙ and_from (is_plain b) (is_text_end (r ∷ rs)) plain e
      | inr more ↦ elim (or_cases (b == 10) _ more) [
        | inl same ↦ at 10 same e
        | inr more ↦ elim (or_cases (b == 9) _ more) [
          | inl same ↦ at 9 same e
          | inr more ↦ elim (or_cases (b == 34) _ more) [
            | inl same ↦ at 34 same e
            | inr same ↦ at 92 same e
          ]
        ]
      ]
    ]

written_end : (bytes : List ℕ) → list_all is_writable bytes ≡ true → is_text_end (flat_map escaped bytes ++ 34 ∷ []) ≡ true
written_end [] e = refl
written_end (b ∷ bs) e =
    let parts = and_parts (is_writable b) (list_all is_writable bs) e in
    ap is_text_end (append_assoc (escaped b) (flat_map escaped bs) (34 ∷ []))
    ∙ end_behind b (flat_map escaped bs ++ 34 ∷ []) parts.0 (written_end bs parts.1)

pub literal_token : (bytes : List ℕ) → list_all is_writable bytes ≡ true → IsToken token.Text (literal_text bytes)
literal_token bytes e =
    record { first = 34; rest = flat_map escaped bytes ++ 34 ∷ []; is = refl; spelled = written_end bytes e; within = tt }

-- ---- a literal of a text holds such bytes

escape_writable : (c : ℕ) → is_escape c ≡ true → is_writable (escaped_byte c) ≡ true
escape_writable c e =
    let at : (n : ℕ) → (c == n) ≡ true → is_writable (escaped_byte n) ≡ true → is_writable (escaped_byte c) ≡ true =
    λ n same here. subst (λ m. is_writable (escaped_byte m) ≡ true) (sym (eqb-true c n same)) here in
    elim (or_cases (c == 110) _ e) [
      | inl same ↦ at 110 same refl
      | inr more ↦ elim (or_cases (c == 116) _ more) [
        | inl same ↦ at 116 same refl
        | inr more ↦ elim (or_cases (c == 34) _ more) [
          | inl same ↦ at 34 same refl
          | inr same ↦ at 92 same refl
        ]
      ]
    ]

abbrev AreWritable : List ℕ → Type 0
AreWritable bytes = list_all is_writable bytes ≡ true

abbrev unescaped_from : ℕ → List ℕ → Bool → List ℕ
unescaped_from b rest escapes = if escapes then unescaped true rest else b ∷ unescaped false rest

plain_writable : (b : ℕ) (rest : List ℕ) → is_plain b ≡ true → AreWritable rest → AreWritable (b ∷ rest)
plain_writable b rest e f = and_from (is_writable b) (list_all is_writable rest) (or_left (is_plain b) _ e) f

read_writable : (n : ℕ) (bs : List ℕ) → length bs ≡ suc n → is_text_end bs ≡ true → AreWritable (unescaped false (take n bs))
read_writable n [] size e = absurd (true≢false (sym e))
read_writable zero (b ∷ bs) size e = refl
read_writable (suc n) (b ∷ []) size e = absurd (omega (arith, size))
read_writable (suc zero) (b ∷ c ∷ bs) size e =
    elim (cases_Bool (b == 92)) [
      | inl escape ↦ ap (λ t. list_all is_writable (unescaped_from b [] t)) escape
      | inr plain ↦
          let parts = and_parts (is_plain b) (is_text_end (c ∷ bs)) (sym (ap (λ t. if t then is_escape c && is_text_end bs else is_plain b && is_text_end (c ∷ bs)) plain) ∙ e) in
          ap (λ t. list_all is_writable (unescaped_from b [] t)) plain ∙ plain_writable b [] parts.0 refl
    ]
read_writable (suc (suc n)) (b ∷ c ∷ bs) size e =
    let shorter : length bs ≡ suc n = omega (arith, size) in
    let short : length (c ∷ bs) ≡ suc (suc n) = omega (arith, size) in
    elim (cases_Bool (b == 92)) [
      | inl escape ↦
          let parts = and_parts (is_escape c) (is_text_end bs) (sym (ap (λ t. if t then is_escape c && is_text_end bs else is_plain b && is_text_end (c ∷ bs)) escape) ∙ e) in
          ap (λ t. list_all is_writable (unescaped_from b (c ∷ take n bs) t)) escape
          ∙ and_from (is_writable (escaped_byte c)) (list_all is_writable (unescaped false (take n bs))) (escape_writable c parts.0)
          (read_writable n bs shorter parts.1)
      | inr plain ↦
          let parts = and_parts (is_plain b) (is_text_end (c ∷ bs)) (sym (ap (λ t. if t then is_escape c && is_text_end bs else is_plain b && is_text_end (c ∷ bs)) plain) ∙ e) in
          ap (λ t. list_all is_writable (unescaped_from b (c ∷ take n bs) t)) plain
          ∙ plain_writable b (unescaped false (c ∷ take n bs)) parts.0 (read_writable (suc n) (c ∷ bs) short parts.1)
    ]

pub text_value_writable : (bytes : List ℕ) → is_text bytes ≡ true → list_all is_writable (text_value bytes) ≡ true
text_value_writable [] e = absurd (true≢false (sym e))
text_value_writable (b ∷ []) e = absurd (true≢false (sym (and_parts (b == 34) false e).1))
text_value_writable (b ∷ c ∷ bs) e =
    let size : length (b ∷ c ∷ bs) - 2 ≡ length bs = omega arith in
    ap (λ n. list_all is_writable (unescaped false (take n (c ∷ bs)))) size
    ∙ read_writable (length bs) (c ∷ bs) refl (and_parts (b == 34) (is_text_end (c ∷ bs)) e).1
