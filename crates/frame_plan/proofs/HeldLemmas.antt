-- Stand-ins for type variables against the arguments that a key serves.
use Rattle.std.proofs.Common.{◌≡◌, ℕ, zero, suc, ◌*◌, ◌≤◌, Bool, true, false, cond, ◌&&◌, ◌||◌, List, [], ◌∷◌, ◌++◌, length, map, take, drop, slice_get, Option, Some, None, option_and_then, refl, ap, sym, ◌∙◌, subst, arith, true≢false}
use Rattle.std.specs.List.{list_any, list_all, AllByRecursion}
use Rattle.type_tree.specs.declared.tree.Head.{Head}
use Rattle.type_tree.specs.declared.tree.Head.TheVariants as head
use Rattle.type_tree.specs.declared.tree.TExpr.{TExpr}
use Rattle.type_tree.specs.declared.tree.TNode.{TNode}
use Rattle.type_tree.specs.declared.tree.TNode.TheVariants.{Node, ClassVar, MethodVar}
use Rattle.type_tree.specs.Tree.{top_of, node, class_var, method_var}
use Rattle.type_tree.specs.Positions.{positions_of}
use Rattle.type_tree.specs.Substitution.{argument_or, substituted}
use Rattle.type_tree.proofs.TreeLemmas.{top_of-tree_of, holds_of_trees}
use Rattle.type_tree.proofs.SubstitutionLemmas.{substituted-node, substituted-class_var, substituted-method_var}
use Rattle.il_model.specs.declared.class.ClassDef.{ClassDef}
use Rattle.il_model.specs.declared.class.ClassKind.{ClassKind}
use Rattle.il_model.specs.declared.class.ClassKind.TheVariants as kind
use Rattle.il_model.specs.declared.key.KeyPart.{KeyPart}
use Rattle.il_model.specs.declared.key.KeyPart.TheVariants.{Ref, Any, Exact}
use Rattle.il_model.specs.declared.program.Program.{Program}
use Rattle.il_model.specs.Find.{class_in_top, class_of}
use Rattle.il_model.specs.Kinds.{is_reference_kind, is_reference_class, is_reference_top, is_reference, is_struct_kind, is_struct_class}
use Rattle.il_model.specs.ClassRules.{vars_in}
use Rattle.il_model.specs.Layouts.{most_trees, words_of}
use Rattle.il_model.specs.Admission.{most_words, limit_of}
use Rattle.share_canon.specs.Keys.{ServesPart, is_for_references}
use Rattle.frame_plan.specs.Widths.{stand_in, stand_ins_with, is_closed, width_unless, width_of, width_in}
use Rattle.frame_plan.specs.Held.{HasNoRef, PlacesHoldValues}
use Rattle.frame_plan.proofs.KindLemmas.{closed_arguments, closed_class_var}
use Rattle.frame_plan.proofs.AdmittedLemmas.{few_words, one_word}

both_of : (a b : Bool) → (a && b) ≡ true → (a ≡ true) × (b ≡ true)
both_of true b e = (refl, e)
both_of false b e = cc

-- References ---------------------------------------------------------------

kinds_apart : (k : ClassKind) → is_reference_kind k ≡ true → is_struct_kind k ≡ false
kinds_apart kind.Plain e = refl
kinds_apart kind.Abstract e = refl
kinds_apart kind.Interface e = refl
kinds_apart kind.Struct e = cc
kinds_apart kind.Delegate e = refl

class_apart : (c : Option ClassDef) → is_reference_class c ≡ true → is_struct_class c ≡ false
class_apart None e = refl
class_apart (Some c) e = kinds_apart c.kind e

module _ (program : Program) where
  abbrev found : TNode TExpr → Option ClassDef
  found top = option_and_then (λ number. slice_get program.classes number) (class_in_top top)

  no_struct : (t : TExpr) (top : TNode TExpr) → top_of t ≡ top → is_reference_top program t top ≡ true → is_struct_class (class_of program t) ≡ false
  no_struct t (Node head.Int32 parts) is e = cc
  no_struct t (Node head.Int64 parts) is e = cc
  no_struct t (Node head.Bool parts) is e = cc
  no_struct t (Node head.Vector parts) is e = ap (λ top. is_struct_class (found top)) is
  no_struct t (Node (head.Class number) parts) is e = class_apart (class_of program t) e
  no_struct t (ClassVar n) is e = cc
  no_struct t (MethodVar n) is e = cc

  -- a reference has one word
  reference_word : (t : TExpr) → is_reference program t ≡ true → words_of program t ≡ 1
  reference_word t e = one_word program t (most_trees * positions_of t) (no_struct t (top_of t) refl e)

  abbrev reference_head : Head → Bool
  reference_head head.Int32 = false
  reference_head head.Int64 = false
  reference_head head.Bool = false
  reference_head head.Vector = true
  reference_head (head.Class number) = is_reference_class (slice_get program.classes number)

  reference_top : (t : TExpr) (h : Head) (parts : List TExpr) → top_of t ≡ Node h parts → is_reference_top program t (Node h parts) ≡ reference_head h
  reference_top t head.Int32 parts is = refl
  reference_top t head.Int64 parts is = refl
  reference_top t head.Bool parts is = refl
  reference_top t head.Vector parts is = refl
  reference_top t (head.Class number) parts is = ap (λ top. is_reference_class (found top)) is

  -- whether a node is a reference type is said by its head
  reference_node : (h : Head) (parts : List TExpr) → is_reference program (node h parts) ≡ reference_head h
  reference_node h parts =
      let is = top_of-tree_of (Node h parts) in
      ap (is_reference_top program (node h parts)) is ∙ reference_top (node h parts) h parts is

  no_reference_var : (n : ℕ) → is_reference program (class_var n) ≡ false
  no_reference_var n = ap (is_reference_top program (class_var n)) (top_of-tree_of (ClassVar n))

  -- Variables ----------------------------------------------------------------

  -- what stands for a variable is its argument where it has no variables, and says whether that is a reference type
  pub record Alike (v a : TExpr) : Type 0 where
    pub closed : is_closed v ≡ true → a ≡ v
    pub reference : is_reference program v ≡ true → is_reference program a ≡ true

  same_alike : (v : TExpr) → Alike v v
  same_alike v = record { closed = λ e. refl; reference = λ e. e }

  part_alike : (p : KeyPart) (a : TExpr) → is_for_references p ≡ false → ServesPart program p a → Alike (stand_in p) a
  part_alike Ref a none serves = absurd (true≢false none)
  part_alike Any a none serves = record {
    closed = λ e. let has : is_closed (class_var 0) ≡ false = closed_class_var (class_var 0) 0 (top_of-tree_of (ClassVar 0)) in cc;
    reference = λ e. let has : is_reference program (class_var 0) ≡ false = no_reference_var 0 in cc;
  }
  part_alike (Exact tree) a none serves = record { closed = λ e. serves; reference = λ e. ap (is_reference program) serves ∙ e }

  abbrev ServesEach : List KeyPart → List TExpr → Type 0
  ServesEach [] [] = Unit {0}
  ServesEach [] (t ∷ ts) = ⊥
  ServesEach (p ∷ ps) [] = ⊥
  ServesEach (p ∷ ps) (t ∷ ts) = ServesPart program p t × ServesEach ps ts

  serves_each : (ps : List KeyPart) (ts : List TExpr) → length ps ≡ length ts →
      ((i : ℕ) (p : KeyPart) (t : TExpr) → slice_get ps i ≡ Some p → slice_get ts i ≡ Some t → ServesPart program p t) → ServesEach ps ts
  serves_each [] [] count each = tt
  serves_each [] (t ∷ ts) count each = absurd (omega (arith, count))
  serves_each (p ∷ ps) [] count each = absurd (omega (arith, count))
  serves_each (p ∷ ps) (t ∷ ts) count each = (each 0 p t refl refl, serves_each ps ts (omega (arith, count)) (λ i. each (suc i)))

  none_of_two : (a b : Bool) → (a || b) ≡ false → (a ≡ false) × (b ≡ false)
  none_of_two false b e = (refl, e)
  none_of_two true b e = cc

  -- the parts for the class, and those for the method
  pub record Split (ps : List KeyPart) (xs ys : List TExpr) : Type 0 where
    pub for_class : ServesEach (take (length xs) ps) xs
    pub no_class : HasNoRef (take (length xs) ps)
    pub for_method : ServesEach (drop (length xs) ps) ys
    pub no_method : HasNoRef (drop (length xs) ps)

  split : (ps : List KeyPart) (xs ys : List TExpr) → ServesEach ps (xs ++ ys) → HasNoRef ps → Split ps xs ys
  split ps [] ys serves none = record { for_class = tt; no_class = refl; for_method = serves; no_method = none }
  split [] (x ∷ xs) ys serves none = absurd serves
  split (p ∷ ps) (x ∷ xs) ys serves none =
      let two = none_of_two (is_for_references p) (list_any is_for_references ps) none in
      let rest = split ps xs ys serves.1 two.1 in
      record {
        for_class = (serves.0, rest.for_class);
        no_class = ap (λ b. b || list_any is_for_references (take (length xs) ps)) two.0 ∙ rest.no_class;
        for_method = rest.for_method;
        no_method = rest.no_method;
      }

  vars_alike : (ps : List KeyPart) (ts : List TExpr) → ServesEach ps ts → HasNoRef ps → (n : ℕ) (v : TExpr) →
      Alike (argument_or (map stand_in ps) n v) (argument_or ts n v)
  vars_alike [] [] serves none n v = same_alike v
  vars_alike [] (t ∷ ts) serves none n v = absurd serves
  vars_alike (p ∷ ps) [] serves none n v = absurd serves
  vars_alike (p ∷ ps) (t ∷ ts) serves none zero v = part_alike p t (none_of_two (is_for_references p) (list_any is_for_references ps) none).0 serves.0
  vars_alike (p ∷ ps) (t ∷ ts) serves none (suc n) v =
      vars_alike ps ts serves.1 (none_of_two (is_for_references p) (list_any is_for_references ps) none).1 n v

  -- Types --------------------------------------------------------------------

  module _ (ic im ac am : List TExpr) (in_class : (n : ℕ) (v : TExpr) → Alike (argument_or ic n v) (argument_or ac n v))
      (in_method : (n : ℕ) (v : TExpr) → Alike (argument_or im n v) (argument_or am n v)) where
    abbrev stands : TExpr → TExpr
    stands = substituted ic im

    abbrev given : TExpr → TExpr
    given = substituted ac am

    abbrev Same : TExpr → Type 0
    Same t = is_closed (stands t) ≡ true → given t ≡ stands t

    same_maps : (ts : List TExpr) → AllByRecursion Same ts → list_all is_closed (map stands ts) ≡ true → map given ts ≡ map stands ts
    same_maps [] all closed = refl
    same_maps (t ∷ ts) all closed =
        let two = both_of (is_closed (stands t)) (list_all is_closed (map stands ts)) closed in
        ap (λ u. u ∷ map given ts) (all.0 two.0) ∙ ap (λ us. stands t ∷ us) (same_maps ts all.1 two.1)

    -- where nothing open stands in a type, it is the type with the arguments put
    same_closed : (t : TExpr) → Same t
    same_closed =
        holds_of_trees Same
        (λ h parts all closed.
        substituted-node ac am h parts
        ∙ ap (node h) (same_maps parts all (sym (closed_arguments h (map stands parts)) ∙ sym (ap is_closed (substituted-node ic im h parts)) ∙ closed))
        ∙ sym (substituted-node ic im h parts))
        (λ n closed.
        substituted-class_var ac am n
        ∙ (in_class n (class_var n)).closed (sym (ap is_closed (substituted-class_var ic im n)) ∙ closed)
        ∙ sym (substituted-class_var ic im n))
        (λ n closed.
        substituted-method_var ac am n
        ∙ (in_method n (method_var n)).closed (sym (ap is_closed (substituted-method_var ic im n)) ∙ closed)
        ∙ sym (substituted-method_var ic im n))

    -- and a reference type stays one
    same_reference : (t : TExpr) → is_reference program (stands t) ≡ true → is_reference program (given t) ≡ true
    same_reference =
        holds_of_trees (λ t. is_reference program (stands t) ≡ true → is_reference program (given t) ≡ true)
        (λ h parts all e.
        ap (is_reference program) (substituted-node ac am h parts)
        ∙ reference_node h (map given parts)
        ∙ sym (reference_node h (map stands parts))
        ∙ sym (ap (is_reference program) (substituted-node ic im h parts))
        ∙ e)
        (λ n e.
        ap (is_reference program) (substituted-class_var ac am n)
        ∙ (in_class n (class_var n)).reference (sym (ap (is_reference program) (substituted-class_var ic im n)) ∙ e))
        (λ n e.
        ap (is_reference program) (substituted-method_var ac am n)
        ∙ (in_method n (method_var n)).reference (sym (ap (is_reference program) (substituted-method_var ic im n)) ∙ e))

    unless_wide : (t u : TExpr) → u ≡ t → limit_of program u ≡ None → words_of program u ≤ width_unless program t (limit_of program t)
    unless_wide t u same none =
        let limit : limit_of program t ≡ None = ap (limit_of program) (sym same) ∙ none in
        let words : words_of program u ≡ words_of program t = ap (words_of program) same in
        let width : width_unless program t (limit_of program t) ≡ words_of program t = ap (width_unless program t) limit in
        omega arith

    by_closed : (c r : Bool) (t u : TExpr) → (c ≡ true → u ≡ t) → (r ≡ true → is_reference program u ≡ true) → limit_of program u ≡ None →
        words_of program u ≤ cond c (width_unless program t (limit_of program t)) (cond r 1 most_words)
    by_closed true r t u closed reference none = unless_wide t u (closed refl) none
    by_closed false true t u closed reference none = let one : words_of program u ≡ 1 = reference_word u (reference refl) in omega arith
    by_closed false false t u closed reference none = few_words program u none

    wide_enough : (t : TExpr) → limit_of program (given t) ≡ None → words_of program (given t) ≤ width_of program (stands t)
    wide_enough t none =
        by_closed (is_closed (stands t)) (is_reference program (stands t)) (stands t) (given t) (same_closed t) (same_reference t) none

  enough_split : (count : ℕ) (key : List KeyPart) (ac am : List TExpr) → length ac ≡ count → ServesEach key (ac ++ am) → HasNoRef key → (t : TExpr) →
      limit_of program (substituted ac am t) ≡ None → words_of program (substituted ac am t) ≤ width_in program (stand_ins_with count key) t
  enough_split count key ac am is serves none t admitted =
      let two = split key ac am serves none in
      subst (λ n. words_of program (substituted ac am t) ≤ width_in program (stand_ins_with n key) t) is
      (wide_enough (map stand_in (take (length ac) key)) (map stand_in (drop (length ac) key)) ac am
      (vars_alike (take (length ac) key) ac two.for_class two.no_class)
      (vars_alike (drop (length ac) key) am two.for_method two.no_method) t admitted)

pub held : PlacesHoldValues
held program m key ac am t serves none admitted =
    enough_split program (length (vars_in (slice_get program.classes m.owner))) key ac am serves.vars
    (serves_each program key (ac ++ am) serves.serves.count serves.serves.each) none t admitted
