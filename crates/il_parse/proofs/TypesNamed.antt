-- A written type stands for just what its look-up finds.
use Rattle.std.proofs.Common.{◌≡◌, ℕ, nat_lt, ◌<◌, ◌==◌, true, false, if◌then◌else◌, List, [], ◌∷◌, ◌++◌, drop, map, Ok, refl, sym, ap, subst, ◌∙◌, append_assoc, append-nil, codes, inl, inr}
use Rattle.std.specs.List.{AllByRecursion}
use Rattle.std.proofs.lemmas.Bool.{true≢false, cases_Bool, and_parts, eqb-true, ltb-true, lt-ltb}
use Rattle.type_tree.specs.declared.tree.TExpr.{TExpr}
use Rattle.type_tree.specs.declared.tree.Head.TheVariants as head
use Rattle.type_tree.specs.Tree.{node, class_var, method_var}
use Rattle.il_text.specs.Bytes.{is_digit}
use Rattle.il_text.specs.Spelling.{is_class_variable, is_method_variable, is_run, digits_value}
use Rattle.il_model.specs.declared.written.WrittenName.{WrittenName}
use Rattle.il_model.specs.declared.written.WrittenType.{WrittenType}
use Rattle.il_model.specs.declared.written.WrittenType as views
use Rattle.il_model.specs.declared.written.WrittenType.TheVariants as w
use Rattle.il_model.specs.declared.written.WrittenType.TheOpen.{WrittenType-F}
use Rattle.il_model.specs.declared.written.WrittenType.TheViews.{roll-WrittenType}
use Rattle.il_model.specs.declared.written.WrittenType.TheFolds.{ind-WrittenType, fold-roll-WrittenType, map-WrittenType}
use Rattle.il_model.specs.Names.{Scope, IsVariable, class_number, NamesType, int32, int64, bool, object, string, class_variable, method_variable, class, vector, NamesTypes, no_types, more_types}
use Rattle.il_parse.specs.Looking.{Look, unknown, found_or_unknown}
use Rattle.il_parse.specs.NamedTypes.{variable_below, variable_named, all_found, level_named, type_named}
use Rattle.il_parse.proofs.LookSteps.{refused, given, looked, by_look, known_is}

-- induction over written types
module _ (P : WrittenType → Type 0) (at_int32 : P w.Int32) (at_int64 : P w.Int64) (at_bool : P w.Bool) (at_object : P w.Object) (at_string : P w.String)
    (at_variable : (v : WrittenName) → P (w.Variable v)) (at_named : (name : WrittenName) (ts : List WrittenType) → AllByRecursion P ts → P (w.Named name ts))
    (at_vector : (t : WrittenType) → P t → P (w.Vector t)) where
  proofs_of : (es : List ((t : WrittenType) × P t)) → AllByRecursion P (map (λ e. e.0) es)
  proofs_of [] = tt
  proofs_of (e ∷ es) = (e.1, proofs_of es)

  holds_at : (y : WrittenType-F ((t : WrittenType) × P t)) → P (roll-WrittenType (map-WrittenType ((t : WrittenType) × P t) WrittenType (λ e. e.0) y))
  unfolding views.roll-WrittenType denote.Hole.Carrier.roll
  holds_at WrittenType-F.Int32 = at_int32
  holds_at WrittenType-F.Int64 = at_int64
  holds_at WrittenType-F.Bool = at_bool
  holds_at WrittenType-F.Object = at_object
  holds_at WrittenType-F.String = at_string
  holds_at (WrittenType-F.Variable v) = at_variable v
  holds_at (WrittenType-F.Named name es) = at_named name (map (λ e. e.0) es) (proofs_of es)
  holds_at (WrittenType-F.Vector e) = at_vector e.0 e.1

  pub holds_of_written : (t : WrittenType) → P t
  holds_of_written = ind-WrittenType P (λ x y is. subst (λ z. P (roll-WrittenType z)) is (holds_at y))

-- what the look-up finds at each kind of type

pub named-int32 : (s : Scope) → type_named s w.Int32 ≡ Ok (node head.Int32 [])
unfolding type_named views.roll-WrittenType denote.Hole.Carrier.roll
named-int32 s = fold-roll-WrittenType (Look TExpr) (level_named s) WrittenType-F.Int32

pub named-int64 : (s : Scope) → type_named s w.Int64 ≡ Ok (node head.Int64 [])
unfolding type_named views.roll-WrittenType denote.Hole.Carrier.roll
named-int64 s = fold-roll-WrittenType (Look TExpr) (level_named s) WrittenType-F.Int64

pub named-bool : (s : Scope) → type_named s w.Bool ≡ Ok (node head.Bool [])
unfolding type_named views.roll-WrittenType denote.Hole.Carrier.roll
named-bool s = fold-roll-WrittenType (Look TExpr) (level_named s) WrittenType-F.Bool

pub named-object : (s : Scope) → type_named s w.Object ≡ Ok (node (head.Class 0) [])
unfolding type_named views.roll-WrittenType denote.Hole.Carrier.roll
named-object s = fold-roll-WrittenType (Look TExpr) (level_named s) WrittenType-F.Object

pub named-string : (s : Scope) → type_named s w.String ≡ Ok (node (head.Class 1) [])
unfolding type_named views.roll-WrittenType denote.Hole.Carrier.roll
named-string s = fold-roll-WrittenType (Look TExpr) (level_named s) WrittenType-F.String

pub named-variable : (s : Scope) (v : WrittenName) → type_named s (w.Variable v) ≡ variable_named s v
unfolding type_named views.roll-WrittenType denote.Hole.Carrier.roll
named-variable s v = fold-roll-WrittenType (Look TExpr) (level_named s) (WrittenType-F.Variable v)

pub named-class : (s : Scope) (name : WrittenName) (args : List WrittenType) →
    type_named s (w.Named name args) ≡ level_named s (WrittenType-F.Named name (map (type_named s) args))
unfolding type_named views.roll-WrittenType denote.Hole.Carrier.roll
named-class s name args = fold-roll-WrittenType (Look TExpr) (level_named s) (WrittenType-F.Named name args)

pub named-vector : (s : Scope) (t : WrittenType) → type_named s (w.Vector t) ≡ level_named s (WrittenType-F.Vector (type_named s t))
unfolding type_named views.roll-WrittenType denote.Hole.Carrier.roll
named-vector s t = fold-roll-WrittenType (Look TExpr) (level_named s) (WrittenType-F.Vector t)

-- variables

-- the token is the mark of a variable of the class and digits
class_mark : (name : List ℕ) → is_class_variable name ≡ true → IsVariable (codes "!") name (digits_value 10 (drop 1 name))
class_mark [] e = absurd (true≢false (sym e))
class_mark (b ∷ bs) e =
    let parts = and_parts (b == 33) (is_run is_digit bs) e in
    record { digits = bs; spelled = ap (λ c. c ∷ bs) (eqb-true b 33 parts.0); are_digits = parts.1; gives = refl }

method_mark : (name : List ℕ) → is_method_variable name ≡ true → IsVariable (codes "!!") name (digits_value 10 (drop 2 name))
method_mark [] e = absurd (true≢false (sym e))
method_mark (b ∷ []) e = absurd (true≢false (sym (and_parts (b == 33) false e).1))
method_mark (b ∷ c ∷ bs) e =
    let parts = and_parts (b == 33) (is_class_variable (c ∷ bs)) e in
    let inner = and_parts (c == 33) (is_run is_digit bs) parts.1 in
    record {
      digits = bs;
      spelled = ap (λ x. x ∷ c ∷ bs) (eqb-true b 33 parts.0) ∙ ap (λ x. 33 ∷ x ∷ bs) (eqb-true c 33 inner.0);
      are_digits = inner.1;
      gives = refl;
    }

-- a variable that was found is below the number of those that there are
below_sound : (number most : ℕ) (variable : ℕ → TExpr) (v : WrittenName) (t : TExpr) → variable_below number most variable v ≡ Ok t →
    (number < most) × (t ≡ variable number)
below_sound number most variable v t e =
    elim (cases_Bool (nat_lt number most)) [
      | inl hit ↦ (ltb-true number most hit, sym (given (variable number) t (ap (λ b. if b then Ok (variable number) else unknown v) (sym hit) ∙ e)))
      | inr miss ↦ refused _ t (ap (λ b. if b then Ok (variable number) else unknown v) (sym miss) ∙ e)
    ]

below_complete : (number most : ℕ) (variable : ℕ → TExpr) (v : WrittenName) → number < most → variable_below number most variable v ≡ Ok (variable number)
below_complete number most variable v below = ap (λ b. if b then Ok (variable number) else unknown v) (lt-ltb number most below)

variable_sound : (s : Scope) (v : WrittenName) (t : TExpr) → variable_named s v ≡ Ok t → NamesType s (w.Variable v) t
unfolding variable_named
variable_sound s v t e =
    elim (cases_Bool (is_class_variable v.name)) [
      | inl of_class ↦
          let found = below_sound (digits_value 10 (drop 1 v.name)) s.of_class class_var v t (rw of_class at e) in
          class_variable s (w.Variable v) t v (digits_value 10 (drop 1 v.name)) refl (class_mark v.name of_class) found.0 found.1
      | inr other ↦ elim (cases_Bool (is_method_variable v.name)) [
        | inl of_method ↦
            let found = below_sound (digits_value 10 (drop 2 v.name)) s.of_method method_var v t (rw (other, of_method) at e) in
            method_variable s (w.Variable v) t v (digits_value 10 (drop 2 v.name)) refl (method_mark v.name of_method) found.0 found.1
        | inr neither ↦ refused _ t (rw (other, neither) at e)
      ]
    ]

class_spelled : (name digits : List ℕ) → name ≡ codes "!" ++ digits → is_run is_digit digits ≡ true → is_class_variable name ≡ true
class_spelled name digits spelled are = ap is_class_variable spelled ∙ are

-- a second mark is no digit
method_spelled : (name digits : List ℕ) → name ≡ codes "!!" ++ digits → is_run is_digit digits ≡ true →
    (is_class_variable name ≡ false) × (is_method_variable name ≡ true)
method_spelled name digits spelled are = (ap is_class_variable spelled, ap is_method_variable spelled ∙ are)

class_variable_complete : (s : Scope) (v : WrittenName) (number : ℕ) → IsVariable (codes "!") v.name number → number < s.of_class →
    variable_named s v ≡ Ok (class_var number)
unfolding variable_named
class_variable_complete s v number is below =
    let same : digits_value 10 (drop 1 v.name) ≡ number = ap (λ n. digits_value 10 (drop 1 n)) is.spelled ∙ is.gives in
    rw (class_spelled v.name is.digits is.spelled is.are_digits, same) (below_complete number s.of_class class_var v below)

method_variable_complete : (s : Scope) (v : WrittenName) (number : ℕ) → IsVariable (codes "!!") v.name number → number < s.of_method →
    variable_named s v ≡ Ok (method_var number)
unfolding variable_named
method_variable_complete s v number is below =
    let same : digits_value 10 (drop 2 v.name) ≡ number = ap (λ n. digits_value 10 (drop 2 n)) is.spelled ∙ is.gives in
    let m = method_spelled v.name is.digits is.spelled is.are_digits in
    rw (m.0, m.1, same) (below_complete number s.of_method method_var v below)

-- types

IsFound : Scope → WrittenType → Type 0
IsFound s written = (t : TExpr) → type_named s written ≡ Ok t → NamesType s written t

-- types that were found behind those found before
record Types (s : Scope) (found : List TExpr) (ws : List WrittenType) (ts : List TExpr) : Type 0 where
  items : List TExpr
  all : ts ≡ found ++ items
  are : NamesTypes s ws items

args_sound : (s : Scope) (found : List TExpr) (ws : List WrittenType) (ts : List TExpr) → AllByRecursion (IsFound s) ws →
    all_found found (map (type_named s) ws) ≡ Ok ts → Types s found ws ts
unfolding all_found IsFound
args_sound s found [] ts all e = record { items = []; all = sym (given found ts e) ∙ sym (append-nil found); are = no_types s }
args_sound s found (written ∷ ws) ts all e =
    looked (type_named s written) _ ts e (λ t e0 e1.
    let rest = args_sound s (found ++ t ∷ []) ws ts all.1 e1 in
    record { items = t ∷ rest.items; all = rest.all ∙ append_assoc found (t ∷ []) rest.items; are = more_types s written t ws rest.items (all.0 t e0) rest.are })

class_sound : (s : Scope) (name : WrittenName) (args : List WrittenType) → AllByRecursion (IsFound s) args → IsFound s (w.Named name args)
unfolding IsFound
class_sound s name args all t e =
    looked (found_or_unknown (class_number s.names name.name) name) _ t (sym (named-class s name args) ∙ e) (λ number e0 e1.
    looked (all_found [] (map (type_named s) args)) _ t e1 (λ ts e2 e3.
    let r = args_sound s [] args ts all e2 in
    class s (w.Named name args) t name args ts number refl (known_is (class_number s.names name.name) name number e0)
    (subst (NamesTypes s args) (sym r.all) r.are) (sym (given (node (head.Class number) ts) t e3))))

vector_sound : (s : Scope) (element : WrittenType) → IsFound s element → IsFound s (w.Vector element)
unfolding IsFound
vector_sound s element sound t e =
    looked (type_named s element) _ t (sym (named-vector s element) ∙ e) (λ of e0 e1.
    vector s (w.Vector element) element t of refl (sound of e0) (sym (given (node head.Vector (of ∷ [])) t e1)))

-- what is found is what the type stands for
pub type_sound : (s : Scope) (written : WrittenType) (t : TExpr) → type_named s written ≡ Ok t → NamesType s written t
unfolding IsFound
type_sound s = holds_of_written (IsFound s)
    (λ t e. int32 s w.Int32 t refl (sym (given (node head.Int32 []) t (sym (named-int32 s) ∙ e))))
    (λ t e. int64 s w.Int64 t refl (sym (given (node head.Int64 []) t (sym (named-int64 s) ∙ e))))
    (λ t e. bool s w.Bool t refl (sym (given (node head.Bool []) t (sym (named-bool s) ∙ e))))
    (λ t e. object s w.Object t refl (sym (given (node (head.Class 0) []) t (sym (named-object s) ∙ e))))
    (λ t e. string s w.String t refl (sym (given (node (head.Class 1) []) t (sym (named-string s) ∙ e))))
    (λ v t e. variable_sound s v t (sym (named-variable s v) ∙ e))
    (class_sound s)
    (vector_sound s)

mutual
  unfolding all_found

  -- what the type stands for is found
  pub type_complete : (s : Scope) (written : WrittenType) (t : TExpr) → NamesType s written t → type_named s written ≡ Ok t
  type_complete s written t (int32 s' written' t' e f) = ap (type_named s) e ∙ named-int32 s ∙ ap Ok (sym f)
  type_complete s written t (int64 s' written' t' e f) = ap (type_named s) e ∙ named-int64 s ∙ ap Ok (sym f)
  type_complete s written t (bool s' written' t' e f) = ap (type_named s) e ∙ named-bool s ∙ ap Ok (sym f)
  type_complete s written t (object s' written' t' e f) = ap (type_named s) e ∙ named-object s ∙ ap Ok (sym f)
  type_complete s written t (string s' written' t' e f) = ap (type_named s) e ∙ named-string s ∙ ap Ok (sym f)
  type_complete s written t (class_variable s' written' t' v number e is below f) =
      ap (type_named s) e ∙ named-variable s v ∙ class_variable_complete s v number is below ∙ ap Ok (sym f)
  type_complete s written t (method_variable s' written' t' v number e is below f) =
      ap (type_named s) e ∙ named-variable s v ∙ method_variable_complete s v number is below ∙ ap Ok (sym f)
  type_complete s written t (class s' written' t' name args ts number e is are f) =
      ap (type_named s) e ∙ named-class s name args ∙
      by_look (found_or_unknown (class_number s.names name.name) name) _ (Ok t) number (ap (λ o. found_or_unknown o name) is)
      (by_look (all_found [] (map (type_named s) args)) _ (Ok t) ts (args_complete s args ts are []) (ap Ok (sym f)))
  type_complete s written t (vector s' written' element t' of e is f) =
      ap (type_named s) e ∙ named-vector s element ∙ by_look (type_named s element) _ (Ok t) of (type_complete s element of is) (ap Ok (sym f))

  pub args_complete : (s : Scope) (ws : List WrittenType) (ts : List TExpr) → NamesTypes s ws ts → (found : List TExpr) →
      all_found found (map (type_named s) ws) ≡ Ok (found ++ ts)
  args_complete s ws ts (no_types s') found = ap Ok (sym (append-nil found))
  args_complete s ws ts (more_types s' written t vs us is are) found =
      by_look (type_named s written) _ _ t (type_complete s written t is) (args_complete s vs us are (found ++ t ∷ []) ∙ ap Ok (append_assoc found (t ∷ []) us))
