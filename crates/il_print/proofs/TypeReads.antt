-- Types with the keys that they bring, where a written type names them.
use Rattle.std.proofs.Common.{◌≡◌, ℕ, zero, suc, ◌<◌, List, [], ◌∷◌, map, length, codes, Some, refl, sym, subst, arith}
use Rattle.std.specs.Prelude.{bytes_eq}
use Rattle.std.specs.List.{AllByRecursion}
use Rattle.std.proofs.lemmas.List.{length-map}
use Rattle.std.proofs.lemmas.List.Quantifiers.{position-Some}
use Rattle.type_tree.specs.declared.tree.Head.{Head}
use Rattle.type_tree.specs.declared.tree.Head.TheVariants as head
use Rattle.type_tree.specs.declared.tree.TExpr.{TExpr}
use Rattle.type_tree.specs.declared.tree.TNode.TheVariants.{Node, ClassVar, MethodVar}
use Rattle.type_tree.specs.Tree.{node, class_var, method_var}
use Rattle.type_tree.specs.Printed.{listed, angled, class_name}
use Rattle.type_tree.proofs.TreeLemmas.{folded-node, folded-class_var, folded-method_var}
use Rattle.il_text.specs.declared.token.TokenKind.TheVariants as token
use Rattle.il_model.specs.declared.written.WrittenType.{WrittenType}
use Rattle.il_model.specs.Spellings.{plain_name}
use Rattle.il_model.specs.Names.{Scope, class_number, NamesType, NamesTypes, int32, int64, bool, object, string, class_variable, method_variable, class, vector, no_types, more_types}
use Rattle.il_model.specs.Canonical.{Word, long_names, level_text, type_text}
use Rattle.il_print.proofs.Keys.{Key, quoted, name_key, keys_between, angled_keys, level_keys, type_keys}
use Rattle.il_print.proofs.TokenReads.{IsToken, short_word, Opens, Reads, nothing_reads, opens_then, reads_then, token_opens, quoted_opens, comma_reads, less_reads, greater_reads, brackets_read}
use Rattle.il_print.proofs.NumberTokens.{class_variable_token, method_variable_token}

-- each name is a word, and not too long
abbrev pub AreNames : List Word → Type 0
AreNames names = AllByRecursion (IsToken token.Word) names

module _ {X : Type 0} (f : X → Word) (g : X → List Key) where
  -- with a comma between each two
  listed_opens : (x : X) (xs : List X) → AllByRecursion (λ y. Opens (f y) (g y)) (x ∷ xs) →
      Opens (listed (map f (x ∷ xs))) (keys_between (codes ",") (map g (x ∷ xs)))
  listed_opens x [] all = all.0
  listed_opens x (y ∷ ys) all =
      opens_then (f x) (44 ∷ listed (map f (y ∷ ys))) (g x) (quoted (codes ",") ∷ keys_between (codes ",") (map g (y ∷ ys))) all.0
      (comma_reads (listed (map f (y ∷ ys))) (keys_between (codes ",") (map g (y ∷ ys))) (listed_opens y ys all.1))

  angled_reads : (xs : List X) → AllByRecursion (λ y. Opens (f y) (g y)) xs → Reads (angled (map f xs)) (angled_keys (map g xs))
  angled_reads [] all = nothing_reads
  angled_reads (x ∷ xs) all =
      reads_then (60 ∷ listed (map f (x ∷ xs))) (codes ">") (quoted (codes "<") ∷ keys_between (codes ",") (map g (x ∷ xs))) (quoted (codes ">") ∷ [])
      (less_reads (listed (map f (x ∷ xs))) (keys_between (codes ",") (map g (x ∷ xs))) (listed_opens x xs all)) greater_reads

-- the name at a place within the list
name_at_place : (names : List Word) (number : ℕ) → AreNames names → number < length names → IsToken token.Word (class_name names number)
name_at_place [] number all inside = absurd (omega (arith, inside))
name_at_place (name ∷ names) zero all inside = all.0
name_at_place (name ∷ names) (suc number) all inside = name_at_place names number all.1 (omega (arith, inside))

long_are : (names : List Word) → AreNames names → AreNames (long_names names)
long_are [] all = all
long_are (first ∷ []) all = all
long_are (first ∷ second ∷ names) all = (short_word (codes "System.Object") refl, (short_word (codes "System.String") refl, all.1.1))

length-long_names : (names : List Word) → length (long_names names) ≡ length names
length-long_names [] = refl
length-long_names (first ∷ []) = refl
length-long_names (first ∷ second ∷ names) = refl

-- the type brings the keys that are defined for it
abbrev pub IsRead : List Word → TExpr → Type 0
IsRead names t = Opens (type_text names t) (type_keys names t)

module _ (names : List Word) where
  node_read : (h : Head) (parts : List TExpr) →
      Opens (level_text names (Node h (map (type_text names) parts))) (level_keys names (Node h (map (type_keys names) parts))) → IsRead names (node h parts)
  node_read h parts opens =
      subst (λ text. Opens text (type_keys names (node h parts))) (sym (folded-node (level_text names) h parts))
      (subst (Opens (level_text names (Node h (map (type_text names) parts)))) (sym (folded-node (level_keys names) h parts)) opens)

  pub class_read : (number : ℕ) (parts : List TExpr) → AreNames names → number < length names → AllByRecursion (IsRead names) parts →
      IsRead names (node (head.Class number) parts)
  class_read number [] all inside read =
      node_read (head.Class number) []
      (opens_then (class_name names number) [] (name_key (class_name names number) ∷ []) []
      (token_opens token.Word (class_name names number) (name_at_place names number all inside)) nothing_reads)
  class_read number (t ∷ ts) all inside read =
      let long = class_name (long_names names) number in
      node_read (head.Class number) (t ∷ ts)
      (opens_then long (angled (map (type_text names) (t ∷ ts))) (name_key long ∷ []) (angled_keys (map (type_keys names) (t ∷ ts)))
      (token_opens token.Word long (name_at_place (long_names names) number (long_are names all) (omega (arith, inside, length-long_names names))))
      (angled_reads (type_text names) (type_keys names) (t ∷ ts) read))

  vector_read : (t : TExpr) → IsRead names t → IsRead names (node head.Vector (t ∷ []))
  vector_read t read =
      node_read head.Vector (t ∷ []) (opens_then (type_text names t) (codes "[]") (type_keys names t) (quoted (codes "[]") ∷ []) read brackets_read)

  int32_read : IsRead names (node head.Int32 [])
  int32_read = node_read head.Int32 [] (quoted_opens (codes "int32") refl)

  int64_read : IsRead names (node head.Int64 [])
  int64_read = node_read head.Int64 [] (quoted_opens (codes "int64") refl)

  bool_read : IsRead names (node head.Bool [])
  bool_read = node_read head.Bool [] (quoted_opens (codes "bool") refl)

  class_var_read : (n : ℕ) → IsRead names (class_var n)
  class_var_read n =
      subst (λ text. Opens text (type_keys names (class_var n))) (sym (folded-class_var (level_text names) n))
      (subst (Opens (level_text names (ClassVar n))) (sym (folded-class_var (level_keys names) n))
      (token_opens token.Variable (level_text names (ClassVar n)) (class_variable_token n)))

  method_var_read : (n : ℕ) → IsRead names (method_var n)
  method_var_read n =
      subst (λ text. Opens text (type_keys names (method_var n))) (sym (folded-method_var (level_text names) n))
      (subst (Opens (level_text names (MethodVar n))) (sym (folded-method_var (level_keys names) n))
      (token_opens token.Variable (level_text names (MethodVar n)) (method_variable_token n)))

-- a class that a name stands for has a name
number_inside : (names : List Word) (name : Word) (number : ℕ) → class_number names name ≡ Some number → number < length names
number_inside names name number is =
    let found = position-Some (λ known. bytes_eq (plain_name name) known) (map plain_name names) number [] is in
    let inside : number < length (map plain_name names) = found.0 in
    omega (arith, inside, length-map names plain_name)

-- the classes by which types are read have names that are words; object and string are among them
pub record IsReadable (s : Scope) : Type 0 where
  pub names : AreNames s.names
  pub some : 1 < length s.names

mutual
  pub type_read : (s : Scope) (written : WrittenType) (t : TExpr) → IsReadable s → NamesType s written t → IsRead s.names t
  type_read s written t r (int32 q w u e is) = subst (IsRead s.names) (sym is) (int32_read s.names)
  type_read s written t r (int64 q w u e is) = subst (IsRead s.names) (sym is) (int64_read s.names)
  type_read s written t r (bool q w u e is) = subst (IsRead s.names) (sym is) (bool_read s.names)
  type_read s written t r (object q w u e is) = subst (IsRead s.names) (sym is) (class_read s.names 0 [] r.names (omega (arith, r.some)) tt)
  type_read s written t r (string q w u e is) = subst (IsRead s.names) (sym is) (class_read s.names 1 [] r.names r.some tt)
  type_read s written t r (class_variable q w u v number e token below is) = subst (IsRead s.names) (sym is) (class_var_read s.names number)
  type_read s written t r (method_variable q w u v number e token below is) = subst (IsRead s.names) (sym is) (method_var_read s.names number)
  type_read s written t r (class q w u name args ts number e found named is) =
      subst (IsRead s.names) (sym is)
      (class_read s.names number ts r.names (number_inside s.names name.name number found) (types_read s args ts r named))
  type_read s written t r (vector q w element u of e named is) = subst (IsRead s.names) (sym is) (vector_read s.names of (type_read s element of r named))

  pub types_read : (s : Scope) (written : List WrittenType) (ts : List TExpr) → IsReadable s → NamesTypes s written ts → AllByRecursion (IsRead s.names) ts
  types_read s written ts r (no_types q) = tt
  types_read s written ts r (more_types q w t ws us named more) = (type_read s w t r named, types_read s ws us r more)
