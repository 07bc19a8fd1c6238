-- How the tokens of a text and those of its canonical text are alike: the same, or another name for `object` or `string`, or variables.
use Rattle.std.proofs.Common.{◌≡◌, ℕ, ◌&&◌, Bool, true, false, if◌then◌else◌, List, [], ◌∷◌, ◌++◌, map, drop, is_some, unwrap_or, refl, sym, ap, ◌∙◌, codes, decimal}
use Rattle.std.specs.List.{list_all}
use Rattle.std.proofs.lemmas.Bool.{true≢false, and_parts, and_from}
use Rattle.type_tree.specs.declared.tree.TExpr.{TExpr}
use Rattle.type_tree.specs.declared.tree.Head.TheVariants as head
use Rattle.type_tree.specs.Printed.{class_name}
use Rattle.type_tree.proofs.TreeLemmas.{folded-node, folded-class_var, folded-method_var}
use Rattle.il_text.specs.declared.token.TokenKind.{TokenKind}
use Rattle.il_text.specs.declared.token.TokenKind.TheVariants as token
use Rattle.il_text.specs.Bytes.{is_digit}
use Rattle.il_text.specs.Spelling.{is_method_variable, is_run, digits_value}
use Rattle.il_model.specs.declared.written.WrittenName.{WrittenName}
use Rattle.il_model.specs.declared.written.WrittenType.{WrittenType}
use Rattle.il_model.specs.declared.written.WrittenType as views
use Rattle.il_model.specs.declared.written.WrittenType.TheVariants as w
use Rattle.il_model.specs.declared.written.WrittenType.TheOpen.{WrittenType-F}
use Rattle.il_model.specs.declared.written.WrittenType.TheFolds.{fold-WrittenType, fold-roll-WrittenType}
use Rattle.il_model.specs.Lexemes.{Lexeme}
use Rattle.il_model.specs.Names.{Scope, class_number, NamesType, int32, int64, bool, object, string, class_variable, method_variable, class, vector, NamesTypes, no_types, more_types}
use Rattle.il_model.specs.Canonical.{long_names}
use Rattle.type_tree.specs.declared.tree.TNode.TheVariants.{Node}
use Rattle.il_print.proofs.NumberTokens.{no_digit}
use Rattle.il_print.proofs.Keys.{Key, quoted, name_key, variable_key, angled_keys, level_keys, type_keys}

abbrev pub is_no_mark : TokenKind → Bool
is_no_mark token.Word = true
is_no_mark token.Variable = true
is_no_mark token.Number = true
is_no_mark token.Text = true
is_no_mark token.Mark = false

-- the token of a text and the key of the canonical one
pub data IsAlike (l : Lexeme) (k : Key) : Type 0 where
  alike_same : l.bytes ≡ k.bytes → (is_no_mark k.kind ≡ true → l.kind ≡ k.kind) → IsAlike l k
  alike_object : l.kind ≡ token.Word → l.bytes ≡ codes "System.Object" → k.bytes ≡ codes "object" → IsAlike l k
  alike_string : l.kind ≡ token.Word → l.bytes ≡ codes "System.String" → k.bytes ≡ codes "string" → IsAlike l k
  alike_variable : (rest : List ℕ) → l.kind ≡ token.Variable → k.kind ≡ token.Variable → k.bytes ≡ 33 ∷ rest → IsAlike l k

-- ---- the keys of a written type, by the look-up of its names

abbrev pub number_of : Scope → List ℕ → ℕ
number_of s name = unwrap_or (class_number s.names name) 0

abbrev pub variable_text : Bool → List ℕ → List ℕ
variable_text of_method name = if of_method then codes "!!" ++ decimal (digits_value 10 (drop 2 name)) else codes "!" ++ decimal (digits_value 10 (drop 1 name))

abbrev pub named_keys : Scope → ℕ → List (List Key) → List Key
named_keys s number [] = name_key (class_name s.names number) ∷ []
named_keys s number (part ∷ parts) = name_key (class_name (long_names s.names) number) ∷ angled_keys (part ∷ parts)

abbrev written_level : Scope → WrittenType-F (List Key) → List Key
written_level s WrittenType-F.Int32 = quoted (codes "int32") ∷ []
written_level s WrittenType-F.Int64 = quoted (codes "int64") ∷ []
written_level s WrittenType-F.Bool = quoted (codes "bool") ∷ []
written_level s WrittenType-F.Object = name_key (class_name s.names 0) ∷ []
written_level s WrittenType-F.String = name_key (class_name s.names 1) ∷ []
written_level s (WrittenType-F.Variable v) = variable_key (variable_text (is_method_variable v.name) v.name) ∷ []
written_level s (WrittenType-F.Named name parts) = named_keys s (number_of s name.name) parts
written_level s (WrittenType-F.Vector part) = part ++ quoted (codes "[]") ∷ []

pub written_keys : Scope → WrittenType → List Key
written_keys s = fold-WrittenType (List Key) (written_level s)

-- whether each class that is named is found
abbrev found_level : Scope → WrittenType-F Bool → Bool
found_level s WrittenType-F.Int32 = true
found_level s WrittenType-F.Int64 = true
found_level s WrittenType-F.Bool = true
found_level s WrittenType-F.Object = true
found_level s WrittenType-F.String = true
found_level s (WrittenType-F.Variable v) = true
found_level s (WrittenType-F.Named name parts) = is_some (class_number s.names name.name) && list_all (λ b. b) parts
found_level s (WrittenType-F.Vector part) = part

pub is_found : Scope → WrittenType → Bool
is_found s = fold-WrittenType Bool (found_level s)

pub keys-int32 : (s : Scope) → written_keys s w.Int32 ≡ quoted (codes "int32") ∷ []
unfolding written_keys views.roll-WrittenType denote.Hole.Carrier.roll
keys-int32 s = fold-roll-WrittenType (List Key) (written_level s) WrittenType-F.Int32

pub keys-int64 : (s : Scope) → written_keys s w.Int64 ≡ quoted (codes "int64") ∷ []
unfolding written_keys views.roll-WrittenType denote.Hole.Carrier.roll
keys-int64 s = fold-roll-WrittenType (List Key) (written_level s) WrittenType-F.Int64

pub keys-bool : (s : Scope) → written_keys s w.Bool ≡ quoted (codes "bool") ∷ []
unfolding written_keys views.roll-WrittenType denote.Hole.Carrier.roll
keys-bool s = fold-roll-WrittenType (List Key) (written_level s) WrittenType-F.Bool

pub keys-object : (s : Scope) → written_keys s w.Object ≡ name_key (class_name s.names 0) ∷ []
unfolding written_keys views.roll-WrittenType denote.Hole.Carrier.roll
keys-object s = fold-roll-WrittenType (List Key) (written_level s) WrittenType-F.Object

pub keys-string : (s : Scope) → written_keys s w.String ≡ name_key (class_name s.names 1) ∷ []
unfolding written_keys views.roll-WrittenType denote.Hole.Carrier.roll
keys-string s = fold-roll-WrittenType (List Key) (written_level s) WrittenType-F.String

pub keys-variable : (s : Scope) (v : WrittenName) → written_keys s (w.Variable v) ≡ variable_key (variable_text (is_method_variable v.name) v.name) ∷ []
unfolding written_keys views.roll-WrittenType denote.Hole.Carrier.roll
keys-variable s v = fold-roll-WrittenType (List Key) (written_level s) (WrittenType-F.Variable v)

pub keys-named : (s : Scope) (name : WrittenName) (args : List WrittenType) →
    written_keys s (w.Named name args) ≡ named_keys s (number_of s name.name) (map (written_keys s) args)
unfolding written_keys views.roll-WrittenType denote.Hole.Carrier.roll
keys-named s name args = fold-roll-WrittenType (List Key) (written_level s) (WrittenType-F.Named name args)

pub keys-vector : (s : Scope) (t : WrittenType) → written_keys s (w.Vector t) ≡ written_keys s t ++ quoted (codes "[]") ∷ []
unfolding written_keys views.roll-WrittenType denote.Hole.Carrier.roll
keys-vector s t = fold-roll-WrittenType (List Key) (written_level s) (WrittenType-F.Vector t)

found-leaf : (s : Scope) → (is_found s w.Int32 ≡ true) × (is_found s w.Int64 ≡ true) × (is_found s w.Bool ≡ true) × (is_found s w.Object ≡ true) × (is_found s w.String ≡ true)
unfolding is_found views.roll-WrittenType denote.Hole.Carrier.roll
found-leaf s = (
  fold-roll-WrittenType Bool (found_level s) WrittenType-F.Int32,
  fold-roll-WrittenType Bool (found_level s) WrittenType-F.Int64,
  fold-roll-WrittenType Bool (found_level s) WrittenType-F.Bool,
  fold-roll-WrittenType Bool (found_level s) WrittenType-F.Object,
  fold-roll-WrittenType Bool (found_level s) WrittenType-F.String,
)

found-variable : (s : Scope) (v : WrittenName) → is_found s (w.Variable v) ≡ true
unfolding is_found views.roll-WrittenType denote.Hole.Carrier.roll
found-variable s v = fold-roll-WrittenType Bool (found_level s) (WrittenType-F.Variable v)

pub found-named : (s : Scope) (name : WrittenName) (args : List WrittenType) →
    is_found s (w.Named name args) ≡ (is_some (class_number s.names name.name) && list_all (λ b. b) (map (is_found s) args))
unfolding is_found views.roll-WrittenType denote.Hole.Carrier.roll
found-named s name args = fold-roll-WrittenType Bool (found_level s) (WrittenType-F.Named name args)

pub found-vector : (s : Scope) (t : WrittenType) → is_found s (w.Vector t) ≡ is_found s t
unfolding is_found views.roll-WrittenType denote.Hole.Carrier.roll
found-vector s t = fold-roll-WrittenType Bool (found_level s) (WrittenType-F.Vector t)

-- ---- they are those of the type that is named

class_mark : (name digits : List ℕ) (n : ℕ) → name ≡ codes "!" ++ digits → is_run is_digit digits ≡ true → digits_value 10 digits ≡ n →
    variable_text (is_method_variable name) name ≡ codes "!" ++ decimal n
class_mark name [] n e are is = absurd (true≢false (sym are))
class_mark name (d ∷ ds) n e are is =
    ap (λ x. variable_text (is_method_variable x) x) e
    ∙ ap (λ b. variable_text b (33 ∷ d ∷ ds)) (no_second d ds (and_parts (is_digit d) (list_all is_digit ds) are).0)
    ∙ ap (λ m. codes "!" ++ decimal m) is where
      no_second : (d : ℕ) (ds : List ℕ) → is_digit d ≡ true → is_method_variable (33 ∷ d ∷ ds) ≡ false
      no_second d ds e = ap (λ t. t && is_run is_digit ds) (no_digit d 33 e refl)

method_mark : (name digits : List ℕ) (n : ℕ) → name ≡ codes "!!" ++ digits → is_run is_digit digits ≡ true → digits_value 10 digits ≡ n →
    variable_text (is_method_variable name) name ≡ codes "!!" ++ decimal n
method_mark name digits n e are is =
    ap (λ x. variable_text (is_method_variable x) x) e ∙ ap (λ b. variable_text b (33 ∷ 33 ∷ digits)) are ∙ ap (λ m. codes "!!" ++ decimal m) is

-- the keys are those of the type, and each class is found
pub record SameKeys (s : Scope) (written : WrittenType) (t : TExpr) : Type 0 where
  pub keys : written_keys s written ≡ type_keys s.names t
  pub found : is_found s written ≡ true

pub record SameKeysAll (s : Scope) (written : List WrittenType) (ts : List TExpr) : Type 0 where
  pub keys : map (written_keys s) written ≡ map (type_keys s.names) ts
  pub found : list_all (λ b. b) (map (is_found s) written) ≡ true

by_level : (s : Scope) (number : ℕ) (parts : List (List Key)) → named_keys s number parts ≡ level_keys s.names (Node (head.Class number) parts)
by_level s number [] = refl
by_level s number (part ∷ parts) = refl

mutual
  pub same_keys : (s : Scope) (written : WrittenType) (t : TExpr) → NamesType s written t → SameKeys s written t
  same_keys s written t (int32 s' w' t' e f) = record {
    keys = ap (written_keys s) e ∙ keys-int32 s ∙ sym (ap (type_keys s.names) f ∙ folded-node (level_keys s.names) head.Int32 []);
    found = ap (is_found s) e ∙ (found-leaf s).0;
  }
  same_keys s written t (int64 s' w' t' e f) = record {
    keys = ap (written_keys s) e ∙ keys-int64 s ∙ sym (ap (type_keys s.names) f ∙ folded-node (level_keys s.names) head.Int64 []);
    found = ap (is_found s) e ∙ (found-leaf s).1;
  }
  same_keys s written t (bool s' w' t' e f) = record {
    keys = ap (written_keys s) e ∙ keys-bool s ∙ sym (ap (type_keys s.names) f ∙ folded-node (level_keys s.names) head.Bool []);
    found = ap (is_found s) e ∙ (found-leaf s).2;
  }
  same_keys s written t (object s' w' t' e f) = record {
    keys = ap (written_keys s) e ∙ keys-object s ∙ sym (ap (type_keys s.names) f ∙ folded-node (level_keys s.names) (head.Class 0) []);
    found = ap (is_found s) e ∙ (found-leaf s).3;
  }
  same_keys s written t (string s' w' t' e f) = record {
    keys = ap (written_keys s) e ∙ keys-string s ∙ sym (ap (type_keys s.names) f ∙ folded-node (level_keys s.names) (head.Class 1) []);
    found = ap (is_found s) e ∙ (found-leaf s).4;
  }
  same_keys s written t (class_variable s' w' t' v n e is below f) = record {
    keys = ap (written_keys s) e ∙ keys-variable s v ∙ ap (λ x. variable_key x ∷ []) (class_mark v.name is.digits n is.spelled is.are_digits is.gives)
        ∙ sym (ap (type_keys s.names) f ∙ folded-class_var (level_keys s.names) n);
    found = ap (is_found s) e ∙ found-variable s v;
  }
  same_keys s written t (method_variable s' w' t' v n e is below f) = record {
    keys = ap (written_keys s) e ∙ keys-variable s v ∙ ap (λ x. variable_key x ∷ []) (method_mark v.name is.digits n is.spelled is.are_digits is.gives)
        ∙ sym (ap (type_keys s.names) f ∙ folded-method_var (level_keys s.names) n);
    found = ap (is_found s) e ∙ found-variable s v;
  }
  same_keys s written t (class s' w' t' name args ts n e is are f) =
      let rest = same_keys_all s args ts are in
      record {
        keys = ap (written_keys s) e ∙ keys-named s name args ∙ ap (λ o. named_keys s (unwrap_or o 0) (map (written_keys s) args)) is
            ∙ ap (named_keys s n) rest.keys ∙ by_level s n (map (type_keys s.names) ts)
            ∙ sym (ap (type_keys s.names) f ∙ folded-node (level_keys s.names) (head.Class n) ts);
        found = ap (is_found s) e ∙ found-named s name args ∙ and_from _ _ (ap is_some is) rest.found;
      }
  same_keys s written t (vector s' w' element t' of e is f) =
      let inner = same_keys s element of is in
      record {
        keys = ap (written_keys s) e ∙ keys-vector s element ∙ ap (λ ks. ks ++ quoted (codes "[]") ∷ []) inner.keys
            ∙ sym (ap (type_keys s.names) f ∙ folded-node (level_keys s.names) head.Vector (of ∷ []));
        found = ap (is_found s) e ∙ found-vector s element ∙ inner.found;
      }

  pub same_keys_all : (s : Scope) (written : List WrittenType) (ts : List TExpr) → NamesTypes s written ts → SameKeysAll s written ts
  same_keys_all s written ts (no_types s') = record { keys = refl; found = refl }
  same_keys_all s written ts (more_types s' w1 t ws us is are) =
      let a = same_keys s w1 t is in
      let b = same_keys_all s ws us are in
      record {
        keys = ap (λ k. k ∷ map (written_keys s) ws) a.keys ∙ ap (λ ks. type_keys s.names t ∷ ks) b.keys;
        found = and_from _ _ a.found b.found;
      }
