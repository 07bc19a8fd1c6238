-- Two nodes in use never spell the same: words that spell the same type or method, from the same reading of their arguments, are one word.
use Rattle.std.proofs.Common.{◌≡◌, ◌⊎◌, ⊎_elim, inl, inr, ℕ, ◌+◌, ◌-◌, ◌<◌, ◌≤◌, ◌==◌, Bool, true, false, not, ◌&&◌, ◌||◌, List, [], ◌∷◌, Option, Some, None, Result, Ok, Err, if◌then◌else◌, refl, sym, ap, ◌∙◌, arith, eqb-true}
use Rattle.std.specs.Prelude.{slice_index, nat_lt}
use Rattle.std.proofs.lemmas.Bool.{cases_lt}
use Rattle.std.proofs.lemmas.Bool.Decides.{nat_tests}
use Rattle.type_tree.specs.declared.tree.TExpr.{TExpr}
use Rattle.type_tree.specs.declared.tree.TNode.TheVariants.{Node}
use Rattle.type_tree.specs.declared.tree.Head.{Head}
use Rattle.type_tree.specs.declared.tree.Head.TheVariants as head
use Rattle.type_tree.specs.Tree.{top_of, node}
use Rattle.type_tree.proofs.TreeLemmas.{top_of-tree_of}
use Rattle.il_model.specs.declared.layout.MethodTree.{MethodTree}
use Rattle.rgctx_words.specs.declared.node_word.NodeWord.{NodeWord}
use Rattle.rgctx_words.specs.declared.node_word.Definition.{Definition}
use Rattle.rgctx_words.specs.declared.node_word.Definition.TheVariants as def
use Rattle.rgctx_words.specs.NodeWords.{node_word, node_read, number_of, below_classes, definition_of}
use Rattle.rgctx_fill.specs.declared.spelled.NodeTree.{NodeTree}
use Rattle.rgctx_fill.specs.declared.spelled.NodeTree.TheVariants as tree
use Rattle.rgctx_fill.specs.Spelled.{argument_fields, is_packed, type_or_stop, with_type, types_of, applied, applied_or_stop, spelled_by, spelled_from}

-- ---- definitions

chosen : (b : Bool) (x d : Definition) (rest : Option Definition) → (if b then Some x else rest) ≡ Some d → ((b ≡ true) × (x ≡ d)) ⊎ ((b ≡ false) × (rest ≡ Some d))
chosen true x d rest h = inl (refl, cc)
chosen false x d rest h = inr (refl, h)

numbered : (n k : ℕ) (x d : Definition) (rest : Option Definition) → number_of x ≡ k → (rest ≡ Some d → number_of d ≡ n) → (if n == k then Some x else rest) ≡ Some d → number_of d ≡ n
numbered n k x d rest is more h = ⊎_elim
    (λ (p : ((n == k) ≡ true) × (x ≡ d)). ap number_of (sym p.1) ∙ is ∙ sym (eqb-true n k p.0))
    (λ (p : ((n == k) ≡ false) × (rest ≡ Some d)). more p.1)
    (chosen (n == k) x d rest h)

nothing : {P : Type 0} (d : Definition) → None ≡ Some d → P
nothing d e = cc

small_number : (n : ℕ) (d : Definition) → below_classes n ≡ Some d → number_of d ≡ n
small_number n d h =
    numbered n 1 def.Int32 d _ refl
    (numbered n 2 def.Int64 d _ refl
    (numbered n 3 def.Bool d _ refl
    (numbered n 4 def.Vector d _ refl
    (numbered n 15 def.Image d None refl (λ e. nothing d e))))) h

large_number : (n : ℕ) (d : Definition) → 16 ≤ n → (if nat_lt n 0x8000 then Some (def.Class (n - 16)) else Some (def.Method (n - 0x8000))) ≡ Some d → number_of d ≡ n
large_number n d low h = ⊎_elim
    (λ (k : n < 0x8000).
    let t : nat_lt n 0x8000 ≡ true = grind (arith, nat_tests) in
    let e : def.Class (n - 16) ≡ d = let g = rw t at h in cc in
    ap number_of (sym e) ∙ (let s : 16 + (n - 16) ≡ n = omega arith in s))
    (λ (k : 0x8000 ≤ n).
    let t : nat_lt n 0x8000 ≡ false = grind (arith, nat_tests) in
    let e : def.Method (n - 0x8000) ≡ d = let g = rw t at h in cc in
    ap number_of (sym e) ∙ (let s : 0x8000 + (n - 0x8000) ≡ n = omega arith in s))
    (cases_lt n 0x8000)

-- a number is that of the definition that it stands for
pub number-is : (n : ℕ) (d : Definition) → definition_of n ≡ Some d → number_of d ≡ n
number-is n d h = ⊎_elim
    (λ (k : n < 16). let t : nat_lt n 16 ≡ true = grind (arith, nat_tests) in small_number n d (rw t at h))
    (λ (k : 16 ≤ n). let t : nat_lt n 16 ≡ false = grind (arith, nat_tests) in large_number n d k (rw t at h))
    (cases_lt n 16)

same_definition : (m n : ℕ) (d : Definition) → definition_of m ≡ Some d → definition_of n ≡ Some d → m ≡ n
same_definition m n d f g = sym (number-is m d f) ∙ number-is n d g

abbrev definition_with : Head → Definition
definition_with head.Int32 = def.Int32
definition_with head.Int64 = def.Int64
definition_with head.Bool = def.Bool
definition_with head.Vector = def.Vector
definition_with (head.Class number) = def.Class number

record IsKind (d : Option Definition) (ts : List TExpr) (t : TExpr) : Type 0 where
  at : Head
  is : d ≡ Some (definition_with at)
  made : t ≡ node at ts

kind_applied : (d : Option Definition) (ts : List TExpr) (t : TExpr) → applied d ts ≡ tree.Kind t → IsKind d ts t
kind_applied (Some def.Int32) ts t h = record { at = head.Int32; is = refl; made = cc }
kind_applied (Some def.Int64) ts t h = record { at = head.Int64; is = refl; made = cc }
kind_applied (Some def.Bool) ts t h = record { at = head.Bool; is = refl; made = cc }
kind_applied (Some def.Vector) ts t h = record { at = head.Vector; is = refl; made = cc }
kind_applied (Some def.Image) ts t h = cc
kind_applied (Some (def.Class number)) ts t h = record { at = head.Class number; is = refl; made = cc }
kind_applied (Some (def.Method number)) [] t h = cc
kind_applied (Some (def.Method number)) (c ∷ ts) t h = cc
kind_applied None ts t h = cc

record IsMethod (d : Option Definition) (ts : List TExpr) (m : MethodTree) : Type 0 where
  is : d ≡ Some (def.Method m.method)
  made : ts ≡ m.class ∷ m.args

method_applied : (d : Option Definition) (ts : List TExpr) (m : MethodTree) → applied d ts ≡ tree.Method m → IsMethod d ts m
method_applied (Some def.Int32) ts m h = cc
method_applied (Some def.Int64) ts m h = cc
method_applied (Some def.Bool) ts m h = cc
method_applied (Some def.Vector) ts m h = cc
method_applied (Some def.Image) ts m h = cc
method_applied (Some (def.Class number)) ts m h = cc
method_applied (Some (def.Method number)) [] m h = cc
method_applied (Some (def.Method number)) (c ∷ ts) m h =
    let e : record { method = number; class = c; args = ts } ≡ m = cc in
    record { is = ap (λ (x : MethodTree). Some (def.Method x.method)) e; made = ap (λ (x : MethodTree). x.class ∷ x.args) e }
method_applied None ts m h = cc

pub node-parts : (h k : Head) (ts us : List TExpr) → node h ts ≡ node k us → (h ≡ k) × (ts ≡ us)
node-parts h k ts us e =
    let d : Node h ts ≡ Node k us = sym (top_of-tree_of (Node h ts)) ∙ ap top_of e ∙ top_of-tree_of (Node k us) in
    (cc, cc)

-- ---- what a word reads as

-- a type or a method, and neither the image nor a word that is 0
abbrev pub is_named : NodeTree → Bool
is_named (tree.Kind t) = true
is_named (tree.Method m) = true
is_named tree.Other = false
is_named (tree.Zero n) = false

-- the word of a node reads as a definition with the types of its arguments
pub record Reads (f : ℕ → NodeTree) (n : NodeWord) (s : NodeTree) : Type 0 where
  pub packed : is_packed n ≡ true
  pub types : List TExpr
  pub read : types_of f (argument_fields n) ≡ Ok types
  pub is : applied (definition_of n.definition) types ≡ s

stop_step : (b : Bool) (s stop : NodeTree) (rest : Result (List TExpr) NodeTree) → (rest ≡ Err stop → is_named stop ≡ false) → (if b then Ok [] else with_type (type_or_stop s) rest) ≡ Err stop → is_named stop ≡ false
stop_step true s stop rest more h = cc
stop_step false (tree.Kind t) stop (Ok ts) more h = cc
stop_step false (tree.Kind t) stop (Err s) more h = more h
stop_step false (tree.Method m) stop rest more h = let e : tree.Other ≡ stop = cc in ap is_named (sym e)
stop_step false tree.Other stop rest more h = let e : tree.Other ≡ stop = cc in ap is_named (sym e)
stop_step false (tree.Zero n) stop rest more h = let e : tree.Zero n ≡ stop = cc in ap is_named (sym e)

stops_unnamed : (f : ℕ → NodeTree) (ns : List ℕ) (stop : NodeTree) → types_of f ns ≡ Err stop → is_named stop ≡ false
stops_unnamed f [] stop h = cc
stops_unnamed f (n ∷ ns) stop h = stop_step (n == 0) (f n) stop (types_of f ns) (λ e. stops_unnamed f ns stop e) h

no_name : {P : Type 0} (s : NodeTree) → is_named s ≡ true → is_named s ≡ false → P
no_name s e d = let h : true ≡ false = sym e ∙ d in cc

reads_step : (f : ℕ → NodeTree) (n : NodeWord) (s : NodeTree) (b : Bool) (x : Result (List TExpr) NodeTree) → is_packed n ≡ b → types_of f (argument_fields n) ≡ x → is_named s ≡ true
    → (if b then applied_or_stop (definition_of n.definition) x else tree.Other) ≡ s → Reads f n s
reads_step f n s false x packed read named h = no_name s named (ap is_named (sym h))
reads_step f n s true (Ok ts) packed read named h = record { packed = packed; types = ts; read = read; is = h }
reads_step f n s true (Err stop) packed read named h = no_name s named (ap is_named (sym h) ∙ stops_unnamed f (argument_fields n) stop read)

by_reads : (f : ℕ → NodeTree) (n : NodeWord) (s : NodeTree) → is_named s ≡ true → spelled_by f n ≡ s → Reads f n s
by_reads f n s named h = reads_step f n s (is_packed n) (types_of f (argument_fields n)) refl refl named h

from_step : (f : ℕ → NodeTree) (i : ℕ) (n : NodeWord) (s : NodeTree) (b : Bool) → is_named s ≡ true → (if b then tree.Zero i else spelled_by f n) ≡ s → (b ≡ false) × Reads f n s
from_step f i n s true named h = no_name s named (ap is_named (sym h))
from_step f i n s false named h = (refl, by_reads f n s named h)

-- a node that spells a type or a method has a word that is not 0, and reads so
pub from-reads : (f : ℕ → NodeTree) (i word : ℕ) (s : NodeTree) → is_named s ≡ true → spelled_from f i word ≡ s → ((word == 0) ≡ false) × Reads f (node_read word) s
from-reads f i word s named h = from_step f i (node_read word) s (word == 0) named h

-- ---- the types of the arguments

abbrev upto : List ℕ → List ℕ
upto [] = []
upto (n ∷ ns) = if n == 0 then [] else n ∷ upto ns

-- no two nodes read as one type
abbrev pub AreDifferent : (ℕ → NodeTree) → Type 0
AreDifferent f = (i j : ℕ) (t : TExpr) → f i ≡ tree.Kind t → f j ≡ tree.Kind t → i ≡ j

none_step : (b : Bool) (x : Result TExpr NodeTree) (rest : Result (List TExpr) NodeTree) (l : List ℕ) → (if b then Ok [] else with_type x rest) ≡ Ok [] → (if b then [] else l) ≡ []
none_step true x rest l h = refl
none_step false (Ok t) (Ok ts) l h = cc
none_step false (Ok t) (Err s) l h = cc
none_step false (Err s) rest l h = cc

none_read : (f : ℕ → NodeTree) (ns : List ℕ) → types_of f ns ≡ Ok [] → upto ns ≡ []
none_read f [] h = refl
none_read f (n ∷ ns) h = none_step (n == 0) (type_or_stop (f n)) (types_of f ns) (n ∷ upto ns) h

record IsFirst (f : ℕ → NodeTree) (ns : List ℕ) (t : TExpr) (ts : List TExpr) : Type 0 where
  place : ℕ
  rest : List ℕ
  is : upto ns ≡ place ∷ upto rest
  spells : f place ≡ tree.Kind t
  more : types_of f rest ≡ Ok ts

one_step : (b : Bool) (s : NodeTree) (rest : Result (List TExpr) NodeTree) (t : TExpr) (ts : List TExpr) → (if b then Ok [] else with_type (type_or_stop s) rest) ≡ Ok (t ∷ ts) → (b ≡ false) × (s ≡ tree.Kind t) × (rest ≡ Ok ts)
one_step true s rest t ts h = cc
one_step false (tree.Kind u) (Ok us) t ts h = (refl, cc, cc)
one_step false (tree.Kind u) (Err stop) t ts h = cc
one_step false (tree.Method m) rest t ts h = cc
one_step false tree.Other rest t ts h = cc
one_step false (tree.Zero n) rest t ts h = cc

one_read : (f : ℕ → NodeTree) (ns : List ℕ) (t : TExpr) (ts : List TExpr) → types_of f ns ≡ Ok (t ∷ ts) → IsFirst f ns t ts
one_read f [] t ts h = cc
one_read f (n ∷ ns) t ts h =
    let p : ((n == 0) ≡ false) × (f n ≡ tree.Kind t) × (types_of f ns ≡ Ok ts) = one_step (n == 0) (f n) (types_of f ns) t ts h in
    record { place = n; rest = ns; is = ap (λ (b : Bool). if b then [] else n ∷ upto ns) p.0; spells = p.1; more = p.2 }

same_types : (f : ℕ → NodeTree) → AreDifferent f → (ts : List TExpr) (ns ms : List ℕ) → types_of f ns ≡ Ok ts → types_of f ms ≡ Ok ts → upto ns ≡ upto ms
same_types f different [] ns ms h k = none_read f ns h ∙ sym (none_read f ms k)
same_types f different (t ∷ ts) ns ms h k =
    let a : IsFirst f ns t ts = one_read f ns t ts h in
    let b : IsFirst f ms t ts = one_read f ms t ts k in
    a.is ∙ ap (λ x. x ∷ upto a.rest) (different a.place b.place t a.spells b.spells) ∙ ap (λ l. b.place ∷ l) (same_types f different ts a.rest b.rest a.more b.more) ∙ sym b.is

-- ---- the fields of a word

implied : (p q r : Bool) → ((not p || q) && (not q || r)) ≡ true → (p ≡ true → q ≡ true) × (q ≡ true → r ≡ true)
implied true true true h = ((λ e. refl), (λ e. refl))
implied true true false h = cc
implied true false r h = cc
implied false true true h = ((λ e. refl), (λ e. refl))
implied false true false h = cc
implied false false r h = ((λ e. cc), (λ e. cc))

abbrev fields_upto : Bool → Bool → Bool → ℕ → ℕ → ℕ → List ℕ
fields_upto p q r a b c = if p then [] else a ∷ (if q then [] else b ∷ (if r then [] else c ∷ []))

record AreFields (l : List ℕ) (a b c : ℕ) : Type 0 where
  first : slice_index l 0 ≡ a
  second : slice_index l 1 ≡ b
  third : slice_index l 2 ≡ c

field_cases : (p q r : Bool) (a b c : ℕ) → (p ≡ true → a ≡ 0) → (q ≡ true → b ≡ 0) → (r ≡ true → c ≡ 0) → (p ≡ true → q ≡ true) → (q ≡ true → r ≡ true) → AreFields (fields_upto p q r a b c) a b c
field_cases true q r a b c x y z s t = record { first = sym (x refl); second = sym (y (s refl)); third = sym (z (t (s refl))) }
field_cases false true r a b c x y z s t = record { first = refl; second = sym (y refl); third = sym (z (t refl)) }
field_cases false false true a b c x y z s t = record { first = refl; second = refl; third = sym (z refl) }
field_cases false false false a b c x y z s t = record { first = refl; second = refl; third = refl }

fields_of : (n : NodeWord) → is_packed n ≡ true → AreFields (upto (argument_fields n)) n.first n.second n.third
fields_of n packed =
    let i : ((n.first == 0) ≡ true → (n.second == 0) ≡ true) × ((n.second == 0) ≡ true → (n.third == 0) ≡ true) = implied (n.first == 0) (n.second == 0) (n.third == 0) packed in
    field_cases (n.first == 0) (n.second == 0) (n.third == 0) n.first n.second n.third (eqb-true n.first 0) (eqb-true n.second 0) (eqb-true n.third 0) i.0 i.1

read_back : (w : ℕ) → node_word (node_read w) ≡ w
read_back w = omega arith

same_fields : (m n : NodeWord) → m.definition ≡ n.definition → m.first ≡ n.first → m.second ≡ n.second → m.third ≡ n.third → m ≡ n
same_fields m n d a b c = λ i. record { definition = d i; first = a i; second = b i; third = c i }

same_word : (v w : ℕ) → node_read v ≡ node_read w → v ≡ w
same_word v w e = sym (read_back v) ∙ ap node_word e ∙ read_back w

module _ (f : ℕ → NodeTree) (different : AreDifferent f) (m n : NodeWord) where
  same_arguments : (ts us : List TExpr) → ts ≡ us → is_packed m ≡ true → is_packed n ≡ true → types_of f (argument_fields m) ≡ Ok ts → types_of f (argument_fields n) ≡ Ok us → m.definition ≡ n.definition → m ≡ n
  same_arguments ts us e p q h k d =
      let l : upto (argument_fields m) ≡ upto (argument_fields n) = same_types f different us (argument_fields m) (argument_fields n) (h ∙ ap Ok e) k in
      let a : AreFields (upto (argument_fields m)) m.first m.second m.third = fields_of m p in
      let b : AreFields (upto (argument_fields n)) n.first n.second n.third = fields_of n q in
      same_fields m n d
      (sym a.first ∙ ap (λ x. slice_index x 0) l ∙ b.first)
      (sym a.second ∙ ap (λ x. slice_index x 1) l ∙ b.second)
      (sym a.third ∙ ap (λ x. slice_index x 2) l ∙ b.third)

  same_kind : (t : TExpr) → Reads f m (tree.Kind t) → Reads f n (tree.Kind t) → m ≡ n
  same_kind t a b =
      let x : IsKind (definition_of m.definition) a.types t = kind_applied (definition_of m.definition) a.types t a.is in
      let y : IsKind (definition_of n.definition) b.types t = kind_applied (definition_of n.definition) b.types t b.is in
      let p : (x.at ≡ y.at) × (a.types ≡ b.types) = node-parts x.at y.at a.types b.types (sym x.made ∙ y.made) in
      same_arguments a.types b.types p.1 a.packed b.packed a.read b.read
      (same_definition m.definition n.definition (definition_with x.at) x.is (y.is ∙ ap (λ h. Some (definition_with h)) (sym p.0)))

  same_method : (t : MethodTree) → Reads f m (tree.Method t) → Reads f n (tree.Method t) → m ≡ n
  same_method t a b =
      let x : IsMethod (definition_of m.definition) a.types t = method_applied (definition_of m.definition) a.types t a.is in
      let y : IsMethod (definition_of n.definition) b.types t = method_applied (definition_of n.definition) b.types t b.is in
      same_arguments a.types b.types (x.made ∙ sym y.made) a.packed b.packed a.read b.read
      (same_definition m.definition n.definition (def.Method t.method) x.is y.is)

  -- words that read as the same type or method are the same
  pub same-reads : (s : NodeTree) → is_named s ≡ true → Reads f m s → Reads f n s → m ≡ n
  same-reads (tree.Kind t) named a b = same_kind t a b
  same-reads (tree.Method t) named a b = same_method t a b
  same-reads tree.Other named a b = cc
  same-reads (tree.Zero i) named a b = cc

pub same-word : (f : ℕ → NodeTree) → AreDifferent f → (v w : ℕ) (s : NodeTree) → is_named s ≡ true → Reads f (node_read v) s → Reads f (node_read w) s → v ≡ w
same-word f different v w s named a b = same_word v w (same-reads f different (node_read v) (node_read w) s named a b)

-- ---- readings of more nodes

abbrev pub TellsMore : (ℕ → NodeTree) → (ℕ → NodeTree) → Type 0
TellsMore f g = (i : ℕ) (t : TExpr) → f i ≡ tree.Kind t → g i ≡ tree.Kind t

more_step : (b : Bool) (s u : NodeTree) (x y : Result (List TExpr) NodeTree) (ts : List TExpr) → ((t : TExpr) → s ≡ tree.Kind t → u ≡ tree.Kind t) → ((us : List TExpr) → x ≡ Ok us → y ≡ Ok us)
    → (if b then Ok [] else with_type (type_or_stop s) x) ≡ Ok ts → (if b then Ok [] else with_type (type_or_stop u) y) ≡ Ok ts
more_step true s u x y ts same rest h = h
more_step false (tree.Kind t) u (Ok us) y ts same rest h = ap (λ k. with_type (type_or_stop k) y) (same t refl) ∙ ap (with_type (Ok t)) (rest us refl) ∙ h
more_step false (tree.Kind t) u (Err stop) y ts same rest h = cc
more_step false (tree.Method m) u x y ts same rest h = cc
more_step false tree.Other u x y ts same rest h = cc
more_step false (tree.Zero n) u x y ts same rest h = cc

types_more : (f g : ℕ → NodeTree) → TellsMore f g → (ns : List ℕ) (ts : List TExpr) → types_of f ns ≡ Ok ts → types_of g ns ≡ Ok ts
types_more f g more [] ts h = h
types_more f g more (n ∷ ns) ts h = more_step (n == 0) (f n) (g n) (types_of f ns) (types_of g ns) ts (more n) (λ us e. types_more f g more ns us e) h

pub reads-more : (f g : ℕ → NodeTree) → TellsMore f g → (n : NodeWord) (s : NodeTree) → Reads f n s → Reads g n s
reads-more f g more n s r = record { packed = r.packed; types = r.types; read = types_more f g more (argument_fields n) r.types r.read; is = r.is }
