-- Lists of parts in a canonical text: parts with a mark between each two, parts one after another, parts in brackets.
use Rattle.std.proofs.Common.{◌≡◌, List, [], ◌∷◌, ◌++◌, map, flat_map, sym, ap, ◌∙◌, subst}
use Rattle.std.specs.List.{AllByRecursion}
use Rattle.il_model.specs.Lexemes.{Lexeme, Is, Many, none, more, Separated, last, next}
use Rattle.il_model.specs.Names.{Each, end, both}
use Rattle.il_model.specs.Canonical.{Word}
use Rattle.il_print.proofs.Keys.{Key, key_of, quoted, keys_between}
use Rattle.il_print.proofs.AgainKeys.{keys_first, keys_split, keys_one, keys_none, is_quoted}

-- a written part that the lexemes spell and that stands for what was printed
pub record ItemAgain {A X : Type 0} (P : List Lexeme → A → Type 0) (N : A → X → Type 0) (ls : List Lexeme) (x : X) : Type 0 where
  pub item : A
  pub is : P ls item
  pub names : N item x

-- whatever lexemes have the keys of the part spell it
abbrev pub Reads : {A X : Type 0} → (List Lexeme → A → Type 0) → (A → X → Type 0) → (X → List Key) → X → Type 0
Reads P N keys x = (ls : List Lexeme) → map key_of ls ≡ keys x → ItemAgain P N ls x

-- one part or several
pub record SeparatedAgain {A X : Type 0} (mark : Word) (P : List Lexeme → A → Type 0) (N : A → X → Type 0) (ls : List Lexeme) (xs : List X) : Type 0 where
  pub first : A
  pub rest : List A
  pub are : Separated mark P ls (first ∷ rest)
  pub names : Each N (first ∷ rest) xs

-- as many parts as there are
pub record ManyAgain {A X : Type 0} (P : List Lexeme → A → Type 0) (N : A → X → Type 0) (ls : List Lexeme) (xs : List X) : Type 0 where
  pub items : List A
  pub are : Many P ls items
  pub names : Each N items xs

module _ {A X : Type 0} (P : List Lexeme → A → Type 0) (N : A → X → Type 0) (keys : X → List Key) where
  pub separated_again : (mark : Word) (x : X) (xs : List X) → Reads P N keys x → AllByRecursion (Reads P N keys) xs → (ls : List Lexeme) →
      map key_of ls ≡ keys_between mark (map keys (x ∷ xs)) → SeparatedAgain mark P N ls (x ∷ xs)
  separated_again mark x [] reads all ls e =
      let a = reads ls e in
      record { first = a.item; rest = []; are = last ls a.item a.is; names = both a.item x [] [] a.names end }
  separated_again mark x (y ∷ ys) reads all ls e =
      let s = keys_split ls (keys x) (quoted mark ∷ keys_between mark (map keys (y ∷ ys))) e in
      let m = keys_first s.back (quoted mark) (keys_between mark (map keys (y ∷ ys))) s.second in
      let a = reads s.front s.first in
      let r = separated_again mark y ys all.0 all.1 m.rest m.are in
      record {
        first = a.item;
        rest = r.first ∷ r.rest;
        are = next ls s.front m.rest m.lexeme a.item (r.first ∷ r.rest) (s.split ∙ ap (λ z. s.front ++ z) m.split) a.is (is_quoted mark m.lexeme m.is) r.are;
        names = both a.item x (r.first ∷ r.rest) (y ∷ ys) a.names r.names;
      }

  pub many_again : (xs : List X) → AllByRecursion (Reads P N keys) xs → (ls : List Lexeme) → map key_of ls ≡ flat_map keys xs → ManyAgain P N ls xs
  many_again [] all ls e = record { items = []; are = subst (λ z. Many P z []) (sym (keys_none ls e)) none; names = end }
  many_again (x ∷ xs) all ls e =
      let s = keys_split ls (keys x) (flat_map keys xs) e in
      let a = all.0 s.front s.first in
      let r = many_again xs all.1 s.back s.second in
      record {
        items = a.item ∷ r.items;
        are = more ls s.front s.back a.item r.items s.split a.is r.are;
        names = both a.item x r.items xs a.names r.names;
      }

  -- where each part is named by a written one
  pub all_read : {B : Type 0} (R : B → X → Type 0) → ((b : B) (x : X) → R b x → Reads P N keys x) → (bs : List B) (xs : List X) → Each R bs xs →
      AllByRecursion (Reads P N keys) xs
  all_read R reads bs xs end = tt
  all_read R reads bs xs (both b x cs ys is are) = (reads b x is, all_read R reads cs ys are)

-- what stands between an opening and a closing mark
pub record Enclosed (before after : Word) (inside : List Key) (ls : List Lexeme) : Type 0 where
  pub left : Lexeme
  pub inner : List Lexeme
  pub right : Lexeme
  pub split : ls ≡ left ∷ inner ++ right ∷ []
  pub opens : Is before left
  pub closes : Is after right
  pub are : map key_of inner ≡ inside

pub enclosed : (before after : Word) (inside : List Key) (ls : List Lexeme) → map key_of ls ≡ quoted before ∷ inside ++ quoted after ∷ [] →
    Enclosed before after inside ls
enclosed before after inside ls e =
    let l = keys_first ls (quoted before) (inside ++ quoted after ∷ []) e in
    let s = keys_split l.rest inside (quoted after ∷ []) l.are in
    let r = keys_one s.back (quoted after) s.second in
    record {
      left = l.lexeme;
      inner = s.front;
      right = r.lexeme;
      split = l.split ∙ ap (λ z. l.lexeme ∷ z) (s.split ∙ ap (λ z. s.front ++ z) r.split);
      opens = is_quoted before l.lexeme l.is;
      closes = is_quoted after r.lexeme r.is;
      are = s.first;
    }
