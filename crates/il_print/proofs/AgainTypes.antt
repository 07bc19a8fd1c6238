-- Types of a canonical text: they are written so, and stand for the types that were printed.
use Rattle.std.proofs.Common.{◌≡◌, false, ℕ, zero, suc, ◌<◌, ◌^◌, List, [], ◌∷◌, ◌++◌, map, Some, refl, sym, ap, ◌∙◌, subst, codes, decimal, slice_get, unwrap_or, Contains, append-nil, arith}
use Rattle.type_tree.specs.declared.tree.TExpr.{TExpr}
use Rattle.type_tree.specs.declared.tree.Head.{Head}
use Rattle.type_tree.specs.declared.tree.Head.TheVariants as head
use Rattle.type_tree.specs.declared.tree.TNode.TheVariants.{Node}
use Rattle.type_tree.specs.Tree.{node}
use Rattle.type_tree.specs.Printed.{class_name}
use Rattle.type_tree.proofs.TreeLemmas.{folded-node, folded-class_var, folded-method_var}
use Rattle.il_model.specs.declared.written.WrittenType.{WrittenType}
use Rattle.il_model.specs.declared.written.WrittenType.TheVariants as w
use Rattle.il_model.specs.Lexemes.{Lexeme, name_at, is_among}
use Rattle.il_model.specs.Words.{type_words, type_keywords, quoted_words}
use Rattle.il_model.specs.Types.{IsType, keyword, variable, named, applied, vector, AreTypes, last_type, next_type}
use Rattle.il_model.specs.Names.{Scope, IsVariable, class_number, NamesType, int32, int64, bool, object, string, class_variable, method_variable, class, vector as of_elements, NamesTypes, no_types, more_types}
use Rattle.il_model.specs.Canonical.{Word, long_names}
use Rattle.il_print.proofs.Keys.{Key, key_of, quoted, name_key, variable_key, keys_between, level_keys, type_keys}
use Rattle.il_print.proofs.NumberTokens.{decimal_run, decimal_value}
use Rattle.il_print.proofs.AgainKeys.{keys_first, keys_split, keys_one, keys_none, is_quoted, is_name}
use Rattle.il_print.proofs.AgainScopes.{IsFair, AreQuoted, none_quoted, class_found, same_class, long_name}

-- ---- the keys of types

pub node_keys : (names : List Word) (h : Head) (parts : List TExpr) → type_keys names (node h parts) ≡ level_keys names (Node h (map (type_keys names) parts))
node_keys names h parts = folded-node (level_keys names) h parts

-- the parts behind a first one, each behind the mark
abbrev pub keys_after : Word → List (List Key) → List Key
keys_after mark [] = []
keys_after mark (part ∷ parts) = quoted mark ∷ part ++ keys_after mark parts

pub between-after : (mark : Word) (part : List Key) (parts : List (List Key)) → keys_between mark (part ∷ parts) ≡ part ++ keys_after mark parts
between-after mark part [] = sym (append-nil part)
between-after mark part (next ∷ parts) = ap (λ z. part ++ quoted mark ∷ z) (between-after mark next parts)

-- ---- types

-- a written type that the lexemes spell and that stands for the type
pub record TypeAgain (words : List Word) (s : Scope) (ls : List Lexeme) (t : TExpr) : Type 0 where
  pub type : WrittenType
  pub is : IsType words ls type
  pub names : NamesType s type t

-- the types behind a first one
pub record RestAgain (s : Scope) (mark : Word) (ls : List Lexeme) (ts : List TExpr) : Type 0 where
  pub types : List WrittenType
  pub are : (front : List Lexeme) (first : WrittenType) → IsType [] front first → AreTypes mark (front ++ ls) (first ∷ types)
  pub names : NamesTypes s types ts

by_keyword : (words : List Word) (s : Scope) (ls : List Lexeme) (t : TExpr) (word : Word) (k : Key) (type : WrittenType) → map key_of ls ≡ k ∷ [] →
    k.bytes ≡ word → Contains type_words (word, type) → NamesType s type t → TypeAgain words s ls t
by_keyword words s ls t word k type e same among names =
    let one = keys_one ls k e in
    let at : one.lexeme.bytes ≡ word = ap (λ x. x.bytes) one.is ∙ same in
    record {
      type = type;
      is = subst (λ z. IsType words z type) (sym one.split) (keyword words one.lexeme type (subst (λ b. Contains type_words (b, type)) (sym at) among));
      names = names;
    }

by_variable : (words : List Word) (s : Scope) (ls : List Lexeme) (t : TExpr) (mark : Word) (n : ℕ) → map key_of ls ≡ variable_key (mark ++ decimal n) ∷ [] →
    n < 2 ^ 64 → ((l : Lexeme) → IsVariable mark l.bytes n → NamesType s (w.Variable (name_at l)) t) → TypeAgain words s ls t
by_variable words s ls t mark n e low names =
    let one = keys_one ls (variable_key (mark ++ decimal n)) e in
    let is : IsVariable mark one.lexeme.bytes n =
    record { digits = decimal n; spelled = ap (λ k. k.bytes) one.is; are_digits = decimal_run n; gives = decimal_value n low }
    in
    record {
      type = w.Variable (name_at one.lexeme);
      is = subst (λ z. IsType words z (w.Variable (name_at one.lexeme))) (sym one.split) (variable words one.lexeme (w.Variable (name_at one.lexeme)) (ap (λ k. k.kind) one.is) refl);
      names = names one.lexeme is;
    }

by_name : (words : List Word) (s : Scope) (ls : List Lexeme) (t : TExpr) (name : Word) (number : ℕ) → map key_of ls ≡ name_key name ∷ [] →
    AreQuoted words → is_among quoted_words name ≡ false → class_number s.names name ≡ Some number → t ≡ node (head.Class number) [] → TypeAgain words s ls t
by_name words s ls t name number e are free found f =
    let one = keys_one ls (name_key name) e in
    let at : one.lexeme.bytes ≡ name = ap (λ k. k.bytes) one.is in
    record {
      type = w.Named (name_at one.lexeme) [];
      is = subst (λ z. IsType words z (w.Named (name_at one.lexeme) [])) (sym one.split)
          (named words one.lexeme (w.Named (name_at one.lexeme) []) (is_name (type_keywords ++ words) name one.lexeme one.is (none_quoted (type_keywords ++ words) name are free)) refl);
      names = class s (w.Named (name_at one.lexeme) []) t (name_at one.lexeme) [] [] number refl (ap (class_number s.names) at ∙ found) (no_types s) f;
    }

-- a class without arguments
by_class : (words : List Word) (s : Scope) (ls : List Lexeme) (t : TExpr) (name canonical : Word) (number : ℕ) → IsFair s → AreQuoted words →
    class_number s.names name ≡ Some number → slice_get s.names number ≡ Some canonical → map key_of ls ≡ name_key (class_name s.names number) ∷ [] →
    t ≡ node (head.Class number) [] → TypeAgain words s ls t
by_class words s ls t name canonical zero fair are found is e f =
    let at : class_name s.names 0 ≡ codes "object" = ap (λ ns. class_name ns 0) fair.plain.begins in
    by_keyword words s ls t (codes "object") (name_key (class_name s.names 0)) w.Object e at (3, omega arith, refl) (object s w.Object t refl f)
by_class words s ls t name canonical (suc zero) fair are found is e f =
    let at : class_name s.names 1 ≡ codes "string" = ap (λ ns. class_name ns 1) fair.plain.begins in
    by_keyword words s ls t (codes "string") (name_key (class_name s.names 1)) w.String e at (4, omega arith, refl) (string s w.String t refl f)
by_class words s ls t name canonical (suc (suc k)) fair are found is e f =
    let c = class_found s.names name (suc (suc k)) found in
    let own : slice_get fair.plain.rest k ≡ Some c.canonical = ap (λ ns. slice_get ns (suc (suc k))) (sym fair.plain.begins) ∙ c.is in
    let at : class_name s.names (suc (suc k)) ≡ c.canonical = ap (λ o. unwrap_or o []) c.is in
    by_name words s ls t c.canonical (suc (suc k)) (e ∙ ap (λ n. name_key n ∷ []) at) are (fair.plain.free k c.canonical own)
    (same_class s.names name c.canonical (suc (suc k)) found c.same) f

-- what stands behind the name of a class with arguments
abbrev TypeHas : Scope → TExpr → Type 0
TypeHas s t = (words : List Word) → AreQuoted words → (ls : List Lexeme) → map key_of ls ≡ type_keys s.names t → TypeAgain words s ls t

abbrev RestHas : Scope → List TExpr → Type 0
RestHas s ts = (mark : Word) (ls : List Lexeme) → map key_of ls ≡ keys_after mark (map (type_keys s.names) ts) → RestAgain s mark ls ts

by_arguments : (s : Scope) (t first : TExpr) (rest : List TExpr) (name : Word) (number : ℕ) → IsFair s → class_number s.names name ≡ Some number →
    TypeHas s first → RestHas s rest → t ≡ node (head.Class number) (first ∷ rest) → TypeHas s t
by_arguments s t first rest name number fair found has_first has_rest f words are ls e =
    let long = long_name s.names fair.plain name number found in
    let own = class_name (long_names s.names) number in
    let inside = keys_between (codes ",") (map (type_keys s.names) (first ∷ rest)) in
    let whole : map key_of ls ≡ name_key own ∷ quoted (codes "<") ∷ inside ++ quoted (codes ">") ∷ [] =
    e ∙ ap (type_keys s.names) f ∙ node_keys s.names (head.Class number) (first ∷ rest)
    in
    let l = keys_first ls (name_key own) _ whole in
    let left = keys_first l.rest (quoted (codes "<")) _ l.are in
    let split = keys_split left.rest inside (quoted (codes ">") ∷ []) left.are in
    let right = keys_one split.back (quoted (codes ">")) split.second in
    let parts = keys_split split.front (type_keys s.names first) (keys_after (codes ",") (map (type_keys s.names) rest))
    (split.first ∙ between-after (codes ",") (type_keys s.names first) (map (type_keys s.names) rest))
    in
    let a = has_first [] refl parts.front parts.first in
    let b = has_rest (codes ",") parts.back parts.second in
    let at : l.lexeme.bytes ≡ own = ap (λ k. k.bytes) l.is in
    let type = w.Named (name_at l.lexeme) (a.type ∷ b.types) in
    let spelled : ls ≡ l.lexeme ∷ left.lexeme ∷ split.front ++ right.lexeme ∷ [] =
    l.split ∙ ap (λ z. l.lexeme ∷ z) (left.split ∙ ap (λ z. left.lexeme ∷ z) (split.split ∙ ap (λ z. split.front ++ z) right.split))
    in
    record {
      type = type;
      is = applied words ls split.front l.lexeme left.lexeme right.lexeme type (a.type ∷ b.types) spelled
          (is_name (type_keywords ++ words) own l.lexeme l.is (none_quoted (type_keywords ++ words) own are long.free))
          (is_quoted (codes "<") left.lexeme left.is)
          (subst (λ z. AreTypes (codes ",") z (a.type ∷ b.types)) (sym parts.split) (b.are parts.front a.type a.is))
          (is_quoted (codes ">") right.lexeme right.is) refl;
      names = class s type t (name_at l.lexeme) (a.type ∷ b.types) (first ∷ rest) number refl (ap (class_number s.names) at ∙ long.found)
          (more_types s a.type first b.types rest a.names b.names) f;
    }

by_element : (s : Scope) (t of : TExpr) → TypeHas s of → t ≡ node head.Vector (of ∷ []) → TypeHas s t
by_element s t of has f words are ls e =
    let whole : map key_of ls ≡ type_keys s.names of ++ quoted (codes "[]") ∷ [] = e ∙ ap (type_keys s.names) f ∙ node_keys s.names head.Vector (of ∷ []) in
    let split = keys_split ls (type_keys s.names of) (quoted (codes "[]") ∷ []) whole in
    let last = keys_one split.back (quoted (codes "[]")) split.second in
    let a = has words are split.front split.first in
    record {
      type = w.Vector a.type;
      is = vector words ls split.front last.lexeme (w.Vector a.type) a.type (split.split ∙ ap (λ z. split.front ++ z) last.split) a.is (is_quoted (codes "[]") last.lexeme last.is) refl;
      names = of_elements s (w.Vector a.type) a.type t of refl a.names f;
    }

by_rest : (s : Scope) (t : TExpr) (ts : List TExpr) → TypeHas s t → RestHas s ts → RestHas s (t ∷ ts)
by_rest s t ts has has_rest mark ls e =
    let comma = keys_first ls (quoted mark) _ e in
    let split = keys_split comma.rest (type_keys s.names t) _ comma.are in
    let a = has [] refl split.front split.first in
    let b = has_rest mark split.back split.second in
    let spelled : ls ≡ comma.lexeme ∷ split.front ++ split.back = comma.split ∙ ap (λ z. comma.lexeme ∷ z) split.split in
    record {
      types = a.type ∷ b.types;
      are = λ front first is. next_type mark (front ++ ls) front (split.front ++ split.back) comma.lexeme first (a.type ∷ b.types)
          (ap (λ z. front ++ z) spelled) is (is_quoted mark comma.lexeme comma.is) (b.are split.front a.type a.is);
      names = more_types s a.type t b.types ts a.names b.names;
    }

by_end : (s : Scope) → RestHas s []
by_end s mark ls e =
    record {
      types = [];
      are = λ front first is. subst (λ z. AreTypes mark z (first ∷ [])) (sym (ap (λ z. front ++ z) (keys_none ls e) ∙ append-nil front)) (last_type mark front first is);
      names = no_types s;
    }

mutual
  -- a type that some written type stands for is written as it is printed
  pub type_again : (s : Scope) → IsFair s → (written : WrittenType) (t : TExpr) → NamesType s written t → TypeHas s t
  type_again s fair written t (int32 s' w' t' e f) words are ls k =
      by_keyword words s ls t (codes "int32") (quoted (codes "int32")) w.Int32 (k ∙ ap (type_keys s.names) f ∙ node_keys s.names head.Int32 []) refl (0, omega arith, refl) (int32 s w.Int32 t refl f)
  type_again s fair written t (int64 s' w' t' e f) words are ls k =
      by_keyword words s ls t (codes "int64") (quoted (codes "int64")) w.Int64 (k ∙ ap (type_keys s.names) f ∙ node_keys s.names head.Int64 []) refl (1, omega arith, refl) (int64 s w.Int64 t refl f)
  type_again s fair written t (bool s' w' t' e f) words are ls k =
      by_keyword words s ls t (codes "bool") (quoted (codes "bool")) w.Bool (k ∙ ap (type_keys s.names) f ∙ node_keys s.names head.Bool []) refl (2, omega arith, refl) (bool s w.Bool t refl f)
  type_again s fair written t (object s' w' t' e f) words are ls k =
      let at : class_name s.names 0 ≡ codes "object" = ap (λ ns. class_name ns 0) fair.plain.begins in
      by_keyword words s ls t (codes "object") (name_key (class_name s.names 0)) w.Object (k ∙ ap (type_keys s.names) f ∙ node_keys s.names (head.Class 0) []) at (3, omega arith, refl) (object s w.Object t refl f)
  type_again s fair written t (string s' w' t' e f) words are ls k =
      let at : class_name s.names 1 ≡ codes "string" = ap (λ ns. class_name ns 1) fair.plain.begins in
      by_keyword words s ls t (codes "string") (name_key (class_name s.names 1)) w.String (k ∙ ap (type_keys s.names) f ∙ node_keys s.names (head.Class 1) []) at (4, omega arith, refl) (string s w.String t refl f)
  type_again s fair written t (class_variable s' w' t' v n e is below f) words are ls k =
      by_variable words s ls t (codes "!") n (k ∙ ap (type_keys s.names) f ∙ folded-class_var (level_keys s.names) n) (omega (arith, below, fair.of_class))
      (λ l found. class_variable s (w.Variable (name_at l)) t (name_at l) n refl found below f)
  type_again s fair written t (method_variable s' w' t' v n e is below f) words are ls k =
      by_variable words s ls t (codes "!!") n (k ∙ ap (type_keys s.names) f ∙ folded-method_var (level_keys s.names) n) (omega (arith, below, fair.of_method))
      (λ l found. method_variable s (w.Variable (name_at l)) t (name_at l) n refl found below f)
  type_again s fair written t (class s' w' t' name args ts n e found (no_types s2) f) words are ls k =
      let c = class_found s.names name.name n found in
      by_class words s ls t name.name c.canonical n fair are found c.is (k ∙ ap (type_keys s.names) f ∙ node_keys s.names (head.Class n) []) f
  type_again s fair written t (class s' w' t' name args ts n e found (more_types s2 w2 t2 ws2 ts2 is2 are2) f) words are ls k =
      by_arguments s t t2 ts2 name.name n fair found (type_again s fair w2 t2 is2) (rest_again s fair ws2 ts2 are2) f words are ls k
  type_again s fair written t (of_elements s' w' element t' of e is f) words are ls k =
      by_element s t of (type_again s fair element of is) f words are ls k

  -- and so are those behind a first one
  pub rest_again : (s : Scope) → IsFair s → (written : List WrittenType) (ts : List TExpr) → NamesTypes s written ts → RestHas s ts
  rest_again s fair written ts (no_types s') = by_end s
  rest_again s fair written ts (more_types s' w1 t ws us is are) = by_rest s t us (type_again s fair w1 t is) (rest_again s fair ws us are)
