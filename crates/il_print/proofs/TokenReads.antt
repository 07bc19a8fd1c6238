-- Texts that have tokens with these keys, up to the end; and texts that bring such keys with them, before others.
use Rattle.std.proofs.Common.{◌≡◌, ℕ, ◌&&◌, ◌||◌, Bool, true, false, nat_le, List, [], ◌∷◌, ◌++◌, length, map, codes, refl, sym, ap, subst, append_assoc, inl, inr}
use Rattle.std.specs.List.{list_all}
use Rattle.std.proofs.lemmas.Bool.{true≢false, and_parts, and_from, or_cases, leb-true}
use Rattle.il_text.specs.declared.token.TokenKind.{TokenKind}
use Rattle.il_text.specs.declared.token.TokenKind.TheVariants as token
use Rattle.il_text.specs.Bytes.{is_blank}
use Rattle.il_text.specs.Spelling.{spells, is_word, is_mark, IsWithinLimit}
use Rattle.il_text.proofs.FrontLemmas.{spells-kind}
use Rattle.il_model.specs.Canonical.{Word}
use Rattle.il_print.proofs.Keys.{Key, kind_of, quoted}
use Rattle.il_print.proofs.StopLemmas.{IsStop, comma_stops, space_stops, less_stops, greater_stops, bracket_stops}
use Rattle.il_print.proofs.PieceLemmas.{Piece, token_bytes, pieces_text, IsStopped, IsEnd, ends_at_stop, ArePieces}

abbrev pub piece_key : Piece → Key
piece_key p = record { kind = p.kind; bytes = token_bytes p }

-- the bytes are a token of this kind, within its limit
pub record IsToken (k : TokenKind) (w : Word) : Type 0 where
  pub first : ℕ
  pub rest : List ℕ
  pub is : w ≡ first ∷ rest
  pub spelled : spells k w ≡ true
  pub within : IsWithinLimit k w

-- the bytes have tokens with just these keys
pub record Has (bytes : List ℕ) (ks : List Key) : Type 0 where
  pub pieces : List Piece
  pub last : List ℕ
  pub text : bytes ≡ pieces_text pieces last
  pub are : ArePieces pieces last
  pub keys : map piece_key pieces ≡ ks

-- and may stand close behind any token
pub record Fits (bytes : List ℕ) (ks : List Key) : Type 0 where
  pub has : Has bytes ks
  pub stop : IsStopped bytes

-- the text brings these keys, before what may stand close behind a token
abbrev pub Opens : List ℕ → List Key → Type 0
Opens text ks = (last : List ℕ) (more : List Key) → Fits last more → Has (text ++ last) (ks ++ more)

-- and may stand close behind any token itself
abbrev pub Reads : List ℕ → List Key → Type 0
Reads text ks = (last : List ℕ) (more : List Key) → Fits last more → Fits (text ++ last) (ks ++ more)

pub nothing_has : Has [] []
nothing_has = record { pieces = []; last = []; text = refl; are = refl; keys = refl }

blank_before : (b : ℕ) (bytes : List ℕ) (ks : List Key) (ps : List Piece) (last : List ℕ) → is_blank b ≡ true → bytes ≡ pieces_text ps last →
    ArePieces ps last → map piece_key ps ≡ ks → Has (b ∷ bytes) ks
blank_before b bytes ks [] last e text are keys =
    record { pieces = []; last = b ∷ last; text = ap (λ bs. b ∷ bs) text; are = and_from (is_blank b) (list_all is_blank last) e are; keys = keys }
blank_before b bytes ks (p ∷ ps) last e text are keys =
    let led : Piece = record p { blanks = b ∷ p.blanks } in
    record {
      pieces = led ∷ ps;
      last = last;
      text = ap (λ bs. b ∷ bs) text;
      are = (
        record {
          blank = and_from (is_blank b) (list_all is_blank p.blanks) e are.0.blank;
          spelled = are.0.spelled;
          within = are.0.within;
          end = are.0.end;
        },
        are.1,
      );
      keys = keys;
    }

-- blanks bring no keys
pub blank_has : (b : ℕ) (bytes : List ℕ) (ks : List Key) → is_blank b ≡ true → Has bytes ks → Has (b ∷ bytes) ks
blank_has b bytes ks e h = blank_before b bytes ks h.pieces h.last e h.text h.are h.keys

-- one token before others
piece_before : (k : TokenKind) (b : ℕ) (bs after : List ℕ) (ks : List Key) → spells k (b ∷ bs) ≡ true → IsWithinLimit k (b ∷ bs) →
    IsEnd k (b ∷ bs) after → Has after ks → Has ((b ∷ bs) ++ after) (record { kind = k; bytes = b ∷ bs } ∷ ks)
piece_before k b bs after ks spelled within end h =
    let p : Piece = record { blanks = []; kind = k; first = b; rest = bs } in
    record {
      pieces = p ∷ h.pieces;
      last = h.last;
      text = ap (λ more. (b ∷ bs) ++ more) h.text;
      are = (record { blank = refl; spelled = spelled; within = within; end = subst (IsEnd k (b ∷ bs)) h.text end }, h.are);
      keys = ap (λ more. record { kind = k; bytes = b ∷ bs } ∷ more) h.keys;
    }

pub token_has : (k : TokenKind) (w : Word) (after : List ℕ) (ks : List Key) → IsToken k w → IsEnd k w after → Has after ks →
    Has (w ++ after) (record { kind = k; bytes = w } ∷ ks)
token_has k w after ks t end h =
    subst (λ bytes. Has (bytes ++ after) (record { kind = k; bytes = bytes } ∷ ks)) (sym t.is)
    (piece_before k t.first t.rest after ks (subst (λ bytes. spells k bytes ≡ true) t.is t.spelled) (subst (IsWithinLimit k) t.is t.within)
    (subst (λ bytes. IsEnd k bytes after) t.is end) h)

token_ends : (k : TokenKind) (w after : List ℕ) → IsToken k w → IsStopped after → IsEnd k w after
token_ends k w after t s =
    subst (λ bytes. IsEnd k bytes after) (sym t.is)
    (ends_at_stop k t.first t.rest after (subst (λ bytes. spells k bytes ≡ true) t.is t.spelled) s)

-- ---- texts before others

pub token_opens : (k : TokenKind) (w : Word) → IsToken k w → Opens w (record { kind = k; bytes = w } ∷ [])
token_opens k w t last more fits = token_has k w last more t (token_ends k w last t fits.stop) fits.has

pub nothing_reads : Reads [] []
nothing_reads last more fits = fits

pub opens_then : (t u : List ℕ) (j k : List Key) → Opens t j → Reads u k → Opens (t ++ u) (j ++ k)
opens_then t u j k first second last more fits =
    subst (λ bytes. Has bytes ((j ++ k) ++ more)) (sym (append_assoc t u last))
    (subst (Has (t ++ (u ++ last))) (sym (append_assoc j k more)) (first (u ++ last) (k ++ more) (second last more fits)))

pub reads_then : (t u : List ℕ) (j k : List Key) → Reads t j → Reads u k → Reads (t ++ u) (j ++ k)
reads_then t u j k first second last more fits =
    subst (λ bytes. Fits bytes ((j ++ k) ++ more)) (sym (append_assoc t u last))
    (subst (Fits (t ++ (u ++ last))) (sym (append_assoc j k more)) (first (u ++ last) (k ++ more) (second last more fits)))

pub reads_open : (t : List ℕ) (ks : List Key) → Reads t ks → Opens t ks
reads_open t ks reads last more fits = (reads last more fits).has

-- behind a space
pub spaced_reads : (t : List ℕ) (ks : List Key) → Opens t ks → Reads (32 ∷ t) ks
spaced_reads t ks opens last more fits = record { has = blank_has 32 (t ++ last) (ks ++ more) refl (opens last more fits); stop = space_stops }

-- ---- quoted words and marks

-- whether the bytes are a mark, or a word that isn't long
abbrev pub is_short_word : Word → Bool
is_short_word w = is_word w && nat_le (length w) 255

abbrev pub is_quotable : Word → Bool
is_quotable [] = false
is_quotable (b ∷ bs) = is_short_word (b ∷ bs) || is_mark (b ∷ bs)

pub short_word : (w : Word) → is_short_word w ≡ true → IsToken token.Word w
short_word [] e = absurd (true≢false (sym e))
short_word (b ∷ bs) e =
    let parts = and_parts (is_word (b ∷ bs)) (nat_le (length (b ∷ bs)) 255) e in
    record { first = b; rest = bs; is = refl; spelled = parts.0; within = leb-true (length (b ∷ bs)) 255 parts.1 }

mark_token : (b : ℕ) (bs : List ℕ) → is_mark (b ∷ bs) ≡ true → IsToken token.Mark (b ∷ bs)
mark_token b bs e = record { first = b; rest = bs; is = refl; spelled = e; within = tt }

pub quoted_token : (w : Word) → is_quotable w ≡ true → IsToken (kind_of w) w
quoted_token [] e = absurd (true≢false (sym e))
quoted_token (b ∷ bs) e =
    elim (or_cases (is_short_word (b ∷ bs)) (is_mark (b ∷ bs)) e) [
      | inl is ↦
          let t = short_word (b ∷ bs) is in
          subst (λ k. IsToken k (b ∷ bs)) (sym (spells-kind token.Word b bs t.spelled)) t
      | inr is ↦ subst (λ k. IsToken k (b ∷ bs)) (sym (spells-kind token.Mark b bs is)) (mark_token b bs is)
    ]

pub quoted_opens : (w : Word) → is_quotable w ≡ true → Opens w (quoted w ∷ [])
quoted_opens w e = token_opens (kind_of w) w (quoted_token w e)

-- a mark that no longer one begins with, before any token
abbrev pub IsLone : ℕ → Type 0
IsLone b = (c : ℕ) (more : List ℕ) → is_mark (b ∷ c ∷ more) ≡ false

lone_ends : (b : ℕ) (after : List ℕ) → IsLone b → IsEnd token.Mark (b ∷ []) after
lone_ends b [] lone = tt
lone_ends b (c ∷ after) lone = λ more. lone c more

led_by_mark : (b : ℕ) (t : List ℕ) (ks : List Key) → is_mark (b ∷ []) ≡ true → IsLone b → IsStop b → Opens t ks →
    Reads (b ∷ t) (record { kind = token.Mark; bytes = b ∷ [] } ∷ ks)
led_by_mark b t ks e lone stop opens last more fits =
    record {
      has = token_has token.Mark (b ∷ []) (t ++ last) (ks ++ more) (mark_token b [] e) (lone_ends b (t ++ last) lone) (opens last more fits);
      stop = stop;
    }

pub comma_reads : (t : List ℕ) (ks : List Key) → Opens t ks → Reads (44 ∷ t) (quoted (codes ",") ∷ ks)
comma_reads t ks = led_by_mark 44 t ks refl (λ c more. refl) comma_stops

pub less_reads : (t : List ℕ) (ks : List Key) → Opens t ks → Reads (60 ∷ t) (quoted (codes "<") ∷ ks)
less_reads t ks = led_by_mark 60 t ks refl (λ c more. refl) less_stops

-- `>` and `[]` close behind a token
pub greater_reads : Reads (codes ">") (quoted (codes ">") ∷ [])
greater_reads last more fits = record { has = quoted_opens (codes ">") refl last more fits; stop = greater_stops }

pub brackets_read : Reads (codes "[]") (quoted (codes "[]") ∷ [])
brackets_read last more fits = record { has = quoted_opens (codes "[]") refl last more fits; stop = bracket_stops }
