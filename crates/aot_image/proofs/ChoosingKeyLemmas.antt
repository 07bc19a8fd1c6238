-- The words of a line as keys, one after another.
use Rattle.std.proofs.Common.{◌≡◌, ◌∙◌, ◌+◌, ◌&&◌, ◌||◌, ℕ, Bool, true, false, List, [], ◌∷◌, ◌++◌, length, take, drop, Option, Some, None, refl, sym, ap, true≢false, arith}
use Rattle.std.specs.Prelude.{◌==◌, ◌-◌, option_map, option_and_then}
use Rattle.std.specs.List.{position_or_len, list_all, list_any}
use Rattle.std.proofs.lemmas.Bool.{lt-ltb}
use Rattle.std.proofs.lemmas.List.{length-append}
use Rattle.std.proofs.lemmas.List.Folds.{list_all-append, list_any-append}
use Rattle.type_tree.specs.declared.tree.TExpr.{TExpr}
use Rattle.type_tree.specs.Positions.{positions_of}
use Rattle.il_model.specs.declared.key.KeyPart.{KeyPart}
use Rattle.il_model.specs.declared.key.KeyPart.TheVariants.{Exact}
use Rattle.il_model.specs.declared.program.Program.{Program}
use Rattle.aot_image.specs.declared.choice_keys.Keys.{Keys}
use Rattle.aot_image.specs.declared.choice_sizes.Extent.{Extent}
use Rattle.aot_image.specs.ChoosingParts.{words_of, parts_behind}
use Rattle.aot_image.specs.ChoosingBounds.{is_closed_part}
use Rattle.rgctx_template.specs.BodyRows.{is_any}
use Rattle.aot_image.specs.ChoosingKeys.{key_of, with_key, keys_of, keys_behind}
use Rattle.aot_image.specs.ChoosingSizes.{extent_of, is_large_part, IsLargeKey, StandFor, AreSome}
use Rattle.aot_image.proofs.ChoosingPartLemmas.{parts_at_is}

-- ---- one key more

and_true : (b : Bool) → (b && true) ≡ b
and_true true = refl
and_true false = refl

or_false : (b : Bool) → (b || false) ≡ b
or_false true = refl
or_false false = refl

all_push : {A : Type 0} (test : A → Bool) (xs : List A) (x : A) → list_all test (xs ++ x ∷ []) ≡ (list_all test xs && test x)
all_push test xs x = list_all-append test xs (x ∷ []) ∙ ap (λ b. list_all test xs && b) (and_true (test x))

any_push : {A : Type 0} (test : A → Bool) (xs : List A) (x : A) → list_any test (xs ++ x ∷ []) ≡ (list_any test xs || test x)
any_push test xs x = list_any-append test xs (x ∷ []) ∙ ap (λ b. list_any test xs || b) (or_false (test x))

count_push : {A : Type 0} (xs : List A) (x : A) → length (xs ++ x ∷ []) ≡ length xs + 1
count_push xs x = length-append xs (x ∷ []) ∙ omega arith

or_true : (b : Bool) → (b || true) ≡ true
or_true true = refl
or_true false = refl

and_false : (b : Bool) → (b && false) ≡ false
and_false true = refl
and_false false = refl

module _ (old new : Keys) (before : List KeyPart) (part : KeyPart) (stands : StandFor old before) where
  pub part_stands : new.parts ≡ old.parts ++ part ∷ [] → new.count ≡ old.count + 1 → new.closed ≡ (old.closed && is_closed_part part) →
      new.some_any ≡ (old.some_any || is_any part) → new.all_any ≡ (old.all_any && is_any part) → new.small ≡ old.small →
      StandFor new (before ++ part ∷ [])
  part_stands parts count closed some all small = record {
    count = count ∙ ap (λ n. n + 1) stands.count ∙ sym (count_push before part);
    closed = closed ∙ ap (λ b. b && is_closed_part part) stands.closed ∙ sym (all_push is_closed_part before part);
    some_any = some ∙ ap (λ b. b || is_any part) stands.some_any ∙ sym (any_push is_any before part);
    all_any = all ∙ ap (λ b. b && is_any part) stands.all_any ∙ sym (all_push is_any before part);
    small = λ is. parts ∙ ap (λ ps. ps ++ part ∷ []) (stands.small (sym small ∙ is));
    large = λ not. any_push is_large_part before part ∙ ap (λ b. b || is_large_part part) (stands.large (sym small ∙ not));
  }

module _ (old new : Keys) (before : List KeyPart) (key : Option KeyPart) (is_closed_key : Bool) (stands : StandFor old before) (large : IsLargeKey key is_closed_key) where
  pub large_stands : new.count ≡ old.count + 1 → new.closed ≡ (old.closed && is_closed_key) → new.some_any ≡ old.some_any → new.all_any ≡ false → new.small ≡ false →
      AreSome (with_key before key) new
  large_stands count closed some all small = record {
    parts = before ++ Exact large.kind ∷ [];
    is = ap (with_key before) large.is;
    stands = record {
      count = count ∙ ap (λ n. n + 1) stands.count ∙ sym (count_push before (Exact large.kind));
      closed = closed ∙ ap (λ b. b && is_closed_key) stands.closed ∙ ap (λ b. list_all is_closed_part before && b) (sym large.closed_is)
          ∙ sym (all_push is_closed_part before (Exact large.kind));
      some_any = some ∙ stands.some_any ∙ sym (or_false (list_any is_any before)) ∙ sym (any_push is_any before (Exact large.kind));
      all_any = all ∙ sym (and_false (list_all is_any before)) ∙ sym (all_push is_any before (Exact large.kind));
      small = λ is. absurd (true≢false (sym is ∙ small));
      large = λ not. any_push is_large_part before (Exact large.kind) ∙ ap (λ b. list_any is_large_part before || b) large.large ∙ or_true (list_any is_large_part before);
    };
  }

-- a word that is a key, or none
pub word_part : (before : List KeyPart) (key : Option KeyPart) (part : KeyPart) (more : Keys) → key ≡ Some part → StandFor more (before ++ part ∷ []) →
    AreSome (with_key before key) more
word_part before key part more is stands = record { parts = before ++ part ∷ []; is = ap (with_key before) is; stands = stands }

pub word_none : (before : List KeyPart) (key : Option KeyPart) → key ≡ None → with_key before key ≡ None
word_none before key is = ap (with_key before) is

-- ---- large types

-- a type that leaves no room has too many positions
pub no_room : (written : Option TExpr) (e : Extent) → option_map extent_of written ≡ Some e → e.room ≡ 0 → IsLargeKey (option_map Exact written) e.closed
no_room None e is none = absurd cc
no_room (Some t) e is none =
    let room : 257 - positions_of t ≡ e.room = ap (λ o. room_in o) is in
    record {
      kind = t;
      is = refl;
      large = lt-ltb 256 (positions_of t) (omega arith);
      closed_is = ap (λ o. closed_in o) is;
    }
  where
    room_in : Option Extent → ℕ
    room_in None = 0
    room_in (Some e) = e.room

    closed_in : Option Extent → Bool
    closed_in None = false
    closed_in (Some e) = e.closed

-- ---- word by word

-- what words still to be taken give is what all give
pub record TakesWords (program : Program) (text : List ℕ) (keys : Keys) (rest : List ℕ) : Type 0 where
  pub found : List KeyPart
  pub stands : StandFor keys found
  pub left : keys_of program (words_of text) ≡ keys_behind program found (words_of rest)

pub words_first : (program : Program) (text : List ℕ) (keys : Keys) → StandFor keys [] → TakesWords program text keys text
words_first program text keys stands = record { found = []; stands = stands; left = refl }

module _ (program : Program) (found : List KeyPart) where
  -- the first word, and those behind it
  pub key_by_key : (bytes word behind : List ℕ) → word ≡ take (position_or_len (λ b. b == 32) bytes) bytes → behind ≡ drop (position_or_len (λ b. b == 32) bytes) bytes →
      keys_behind program found (words_of bytes) ≡
      option_and_then (λ more. keys_behind program more (parts_behind 32 behind)) (with_key found (key_of program word))
  key_by_key bytes word behind first rest =
      ap (keys_behind program found) (parts_at_is 32 bytes)
      ∙ (λ i. option_and_then (λ more. keys_behind program more (parts_behind 32 (sym rest i))) (with_key found (key_of program (sym first i))))

module _ (program : Program) (text : List ℕ) (keys : Keys) (rest word behind : List ℕ) (takes : TakesWords program text keys rest)
    (first : word ≡ take (position_or_len (λ b. b == 32) rest) rest) (second : behind ≡ drop (position_or_len (λ b. b == 32) rest) rest) where
  pub words_none : with_key takes.found (key_of program word) ≡ None → keys_of program (words_of text) ≡ None
  words_none none =
      takes.left ∙ key_by_key program takes.found rest word behind first second
      ∙ ap (option_and_then (λ more. keys_behind program more (parts_behind 32 behind))) none

  module _ (more : Keys) (some : AreSome (with_key takes.found (key_of program word)) more) where
    words_more : keys_of program (words_of text) ≡ keys_behind program some.parts (parts_behind 32 behind)
    words_more =
        takes.left ∙ key_by_key program takes.found rest word behind first second
        ∙ ap (option_and_then (λ more. keys_behind program more (parts_behind 32 behind))) some.is

    pub words_go : (b : ℕ) (next : List ℕ) → behind ≡ b ∷ next → TakesWords program text more next
    words_go b next split = record {
      found = some.parts;
      stands = some.stands;
      left = words_more ∙ ap (λ bs. keys_behind program some.parts (parts_behind 32 bs)) split;
    }

    pub words_end : behind ≡ [] → AreSome (keys_of program (words_of text)) more
    words_end split = record {
      parts = some.parts;
      is = words_more ∙ ap (λ bs. keys_behind program some.parts (parts_behind 32 bs)) split;
      stands = some.stands;
    }
