-- What fits: words, values, the store and the frames of a running program. This is what never breaks while it runs.
use Rattle.std.specs.Prelude.{◌≡◌, ℕ, suc, ◌+◌, ◌-◌, ◌*◌, ◌%◌, ◌^◌, ◌<◌, ◌≤◌, ◌==◌, ◌&&◌, nat_lt, Bool, true, false, not, All, List, [], ◌∷◌, ◌++◌, length, reverse, zip, Option, Some, None, option_and_then, option_map, slice_get, if◌then◌else◌}
use Rattle.std.specs.List.{list_all}
use Rattle.type_tree.specs.declared.tree.TExpr.{TExpr}
use Rattle.type_tree.specs.declared.tree.TNode.{TNode}
use Rattle.type_tree.specs.declared.tree.TNode.TheVariants.{Node, ClassVar, MethodVar}
use Rattle.type_tree.specs.declared.tree.Head.TheVariants as head
use Rattle.type_tree.specs.Tree.{top_of, IsClosed}
use Rattle.il_model.specs.declared.program.Program.{Program}
use Rattle.il_model.specs.declared.class.VarDef.{VarDef}
use Rattle.il_model.specs.declared.class.ClassDef.{ClassDef}
use Rattle.il_model.specs.declared.method.MethodDef.{MethodDef}
use Rattle.il_model.specs.declared.layout.MethodTree.{MethodTree}
use Rattle.il_model.specs.declared.op.Op.{Op}
use Rattle.il_model.specs.Find.{class_number_of, class_of}
use Rattle.il_model.specs.Found.{method_at}
use Rattle.il_model.specs.Entries.{arguments_of}
use Rattle.il_model.specs.Library.{plain}
use Rattle.il_model.specs.Layouts.{words_of, instance_words_of}
use Rattle.il_model.specs.Assignable.{element_of, meets_bound}
use Rattle.il_model.specs.ClassRules.{vars_in, has_objects, meets_bounds}
use Rattle.interaction.specs.Process.{Naming}
use Rattle.store_object.specs.declared.limits.TheConstants.{HEAP_LIMIT, INDEX_LIMIT}
use Rattle.store_object.specs.declared.place.Place.{Place}
use Rattle.store_object.specs.declared.place.Place.TheVariants as spot
use Rattle.store_object.specs.Store.{Store, Shape, shape_at, word_at}
use Rattle.cil_verify.specs.Places.{view_of}
use Rattle.cil_verify.specs.States.{stack_at, states_of}
use Rattle.cil_meaning.specs.Values.{Kind, Pointer, Null, InFrame, InFresh, InObject, InStatic, Value, Plain, Managed}
use Rattle.cil_meaning.specs.Values as kind
use Rattle.cil_meaning.specs.Naming.{Mention, put_type, strings_from, names_from}
use Rattle.cil_meaning.specs.Frames.{Awaited, Nothing, Result, Object, Built, Frame, Places, Frames}
use Rattle.cil_meaning.specs.Types.{passes_as}
use Rattle.cil_meaning.specs.Site.{op_at}
use Rattle.cil_safety.proofs.Sorts.{Scalar, Number32, Number64, Length, Truth, Ref, BoxOf, Nil, Sort, Words, To, scalars_of, instance_scalars_of, static_scalars_of, value_sort, sorts_of, held_sorts}

-- an int32 as it stands in a word, with its sign extended
pub data IsInt32 (w : ℕ) : Type 0 where
  plus : w < 2 ^ 31 → IsInt32 w
  minus : 2 ^ 64 ≤ w + 2 ^ 31 → w < 2 ^ 64 → IsInt32 w

-- these scalars stand from index i on
abbrev pub Spans : (ℕ → Option Scalar) → ℕ → List Scalar → Type 0
Spans g i [] = Unit {0}
Spans g i (a ∷ as') = (g i ≡ Some a) × Spans g (suc i) as'

-- these scalars stand among those from index i on
abbrev pub Lies : List Scalar → ℕ → List Scalar → Type 0
Lies us i as' = (i + length as' ≤ length us) × Spans (slice_get us) i as'

-- what the places of a frame are to hold, and the words of the struct that it has built
pub record Holds : Type 0 where
  pub held : List Sort
  pub fresh : List Scalar

-- the same for the frame's own values, which never point into the struct that it has built
abbrev pub inside : Holds → Holds
inside h = record { held = h.held; fresh = [] }

-- the same, while it has a struct of these scalars built
abbrev pub building : Holds → List Scalar → Holds
building h fr = record { held = h.held; fresh = fr }

abbrev pub holds_at : List Holds → ℕ → Option Holds
holds_at [] level = None
holds_at (h ∷ hs) level = if level == length hs then Some h else holds_at hs level

module _ (p : Program) where
  abbrev pub has_objects_in : Option ClassDef → Bool
  has_objects_in None = false
  has_objects_in (Some c) = has_objects c.kind

  -- whether objects may be of just this type: a vector, a scalar in a box, a struct in a box, or a class that is not abstract. Strings are no objects
  abbrev pub may_be_exact_top : TExpr → TNode TExpr → Bool
  may_be_exact_top t (Node head.Int32 parts) = true
  may_be_exact_top t (Node head.Int64 parts) = true
  may_be_exact_top t (Node head.Bool parts) = true
  may_be_exact_top t (Node head.Vector parts) = true
  may_be_exact_top t (Node (head.Class number) parts) = has_objects_in (class_of p t) && not (number == 1)
  may_be_exact_top t (ClassVar k) = false
  may_be_exact_top t (MethodVar k) = false

  -- a type without variables, whose arguments meet their bounds, that objects may be of
  pub record IsExact (e : TExpr) : Type 0 where
    pub objects : may_be_exact_top e (top_of e) ≡ true
    pub closed : IsClosed e
    pub bounds : meets_bounds p (record { of_class = []; of_method = [] }) e ≡ true

  -- A word of the first fits as one of the second. What is a reference to the first is an object whose exact type passes, or a string.
  pub data Wide : Scalar → Scalar → Type 0 where
    same : {a : Scalar} → Wide a a
    refs : {s t : TExpr} → ((e : TExpr) → IsExact e → passes_as p e s ≡ true → passes_as p e t ≡ true) → (passes_as p (plain 1) s ≡ true → passes_as p (plain 1) t ≡ true) → Wide (Ref s) (Ref t)
    boxes : {s t : TExpr} → (IsExact s → passes_as p s t ≡ true) → Wide (BoxOf s) (Ref t)
    nil_ref : {t : TExpr} → Wide Nil (Ref t)
    nil_box : {t : TExpr} → Wide Nil (BoxOf t)
    truth : Wide Truth Number32

  abbrev pub WideWords : List Scalar → List Scalar → Type 0
  WideWords [] [] = Unit {0}
  WideWords [] (b ∷ bs) = ⊥
  WideWords (a ∷ as') [] = ⊥
  WideWords (a ∷ as') (b ∷ bs) = Wide a b × WideWords as' bs

  abbrev pub WideSort : Sort → Sort → Type 0
  WideSort (Words k as') (Words l bs) = (k ≡ l) × WideWords as' bs
  WideSort (Words k as') (To bs) = ⊥
  WideSort (To as') (Words l bs) = ⊥
  WideSort (To as') (To bs) = as' ≡ bs

  abbrev pub WideSorts : List Sort → List Sort → Type 0
  WideSorts [] [] = Unit {0}
  WideSorts [] (b ∷ bs) = ⊥
  WideSorts (a ∷ as') [] = ⊥
  WideSorts (a ∷ as') (b ∷ bs) = WideSort a b × WideSorts as' bs

  -- ---- the store

  -- how many words an object of just this type has
  abbrev pub size_by : TExpr → ℕ → Option TExpr → ℕ
  size_by t len None = instance_words_of p t
  size_by t len (Some e) = len * words_of p e

  abbrev pub size_of : TExpr → ℕ → ℕ
  size_of t len = size_by t len (element_of t)

  -- which scalar a word of an object of just this type is
  abbrev pub scalar_by : TExpr → ℕ → Option TExpr → Option Scalar
  scalar_by t i None = slice_get (instance_scalars_of p t) i
  scalar_by t i (Some e) = slice_get (scalars_of p e) (i % length (scalars_of p e))

  abbrev pub scalar_in : TExpr → ℕ → Option Scalar
  scalar_in t i = scalar_by t i (element_of t)

  module _ (n : Naming Mention TExpr) where
    -- the object with this number is of just this type
    pub record ObjectOf (x : Store) (e : TExpr) (w : ℕ) : Type 0 where
      pub shape : Shape
      pub there : shape_at x w ≡ Some shape
      pub tree : n.tree_at shape.kind ≡ Some e
      pub exact : IsExact e
      pub size : shape.words ≡ size_of e shape.length
      pub small : w < 2 ^ 32
      pub few : shape.words ≤ HEAP_LIMIT
      pub short : shape.length < 2 ^ 32

    -- a string: a literal of the program, or the name of a type
    pub data IsString (w : ℕ) : Type 0 where
      literal : strings_from ≤ w → w < names_from → w - strings_from < length p.literals → IsString w
      name : names_from ≤ w → (t : TExpr) → n.tree_at (w - names_from) ≡ Some t → IsString w

    -- a reference to a type: null, an object whose exact type passes, or a string where strings pass
    pub data RefTo (x : Store) (t : TExpr) (w : ℕ) : Type 0 where
      null : w ≡ 0 → RefTo x t w
      object : (e : TExpr) → ObjectOf x e w → passes_as p e t ≡ true → RefTo x t w
      string : IsString w → passes_as p (plain 1) t ≡ true → RefTo x t w

    pub data BoxTo (x : Store) (t : TExpr) (w : ℕ) : Type 0 where
      no_box : w ≡ 0 → BoxTo x t w
      box : ObjectOf x t w → BoxTo x t w

    abbrev pub WordFits : Store → Scalar → ℕ → Type 0
    WordFits x Number32 w = IsInt32 w
    WordFits x Number64 w = w < 2 ^ 64
    WordFits x Length w = w < 2 ^ 32
    WordFits x Truth w = w < 256
    WordFits x (Ref t) w = RefTo x t w
    WordFits x (BoxOf t) w = BoxTo x t w
    WordFits x Nil w = w ≡ 0

    abbrev pub WordsFit : Store → List Scalar → List ℕ → Type 0
    WordsFit x [] [] = Unit {0}
    WordsFit x [] (w ∷ ws) = ⊥
    WordsFit x (a ∷ as') [] = ⊥
    WordsFit x (a ∷ as') (w ∷ ws) = WordFits x a w × WordsFit x as' ws

    -- Which scalar stands at a place of the store. It reads shapes and the naming alone, and no word.
    abbrev pub in_shape : ℕ → Shape → Option Scalar
    in_shape i s = if nat_lt i s.words && nat_lt i INDEX_LIMIT then option_and_then (λ t. scalar_in t i) (n.tree_at s.kind) else None

    abbrev pub in_statics : ℕ → TExpr → Option Scalar
    in_statics i t = if nat_lt i INDEX_LIMIT then slice_get (static_scalars_of p t) i else None

    abbrev pub scalar_at : Store → Place → Option Scalar
    scalar_at x (spot.Object o i) = option_and_then (in_shape i) (shape_at x o)
    scalar_at x (spot.Fixed k i) = option_and_then (in_statics i) (n.tree_at k)

    -- each word of the store fits its scalar
    pub record Typed (x : Store) : Type 0 where
      pub words : (pl : Place) (a : Scalar) → scalar_at x pl ≡ Some a → WordFits x a (word_at x pl)

    -- ---- values

    -- A pointer to these scalars; `env` says what the places of the frames hold, the innermost first.
    abbrev pub PointerFits : Store → List Holds → List Scalar → Pointer → Type 0
    PointerFits x env as' Null = Unit {0}
    PointerFits x env as' (InFrame level place i) = (h : Holds) × (k : Kind) × (us : List Scalar) × (holds_at env level ≡ Some h) × (slice_get h.held place ≡ Some (Words k us)) × Lies us i as'
    PointerFits x env as' (InFresh level i) = (h : Holds) × (holds_at env level ≡ Some h) × Lies h.fresh i as'
    PointerFits x env as' (InObject o i) = Spans (λ j. scalar_at x (spot.Object o j)) i as'
    PointerFits x env as' (InStatic k i) = Spans (λ j. scalar_at x (spot.Fixed k j)) i as'

    abbrev pub ValueFits : Store → List Holds → Sort → Value → Type 0
    ValueFits x env (Words k as') (Plain l ws) = (l ≡ k) × WordsFit x as' ws
    ValueFits x env (Words k as') (Managed q) = ⊥
    ValueFits x env (To as') (Plain l ws) = ⊥
    ValueFits x env (To as') (Managed q) = PointerFits x env as' q

    abbrev pub ValuesFit : Store → List Holds → List Sort → List Value → Type 0
    ValuesFit x env [] [] = Unit {0}
    ValuesFit x env [] (v ∷ vs) = ⊥
    ValuesFit x env (s ∷ ss) [] = ⊥
    ValuesFit x env (s ∷ ss) (v ∷ vs) = ValueFits x env s v × ValuesFit x env ss vs

    -- what the places of all frames hold fits; a frame's values point to this frame or outwards
    abbrev pub PlacesFit : Store → List Holds → List Places → Type 0
    PlacesFit x [] [] = Unit {0}
    PlacesFit x [] (q ∷ qs) = ⊥
    PlacesFit x (h ∷ hs) [] = ⊥
    PlacesFit x (h ∷ hs) (q ∷ qs) = ValuesFit x (inside h ∷ hs) h.held q.held × WordsFit x h.fresh q.fresh × PlacesFit x hs qs

    -- ---- frames

    -- the arguments of an instantiated method meet the bounds of its variables
    abbrev pub meets_put : MethodTree → VarDef × TExpr → Bool
    meets_put m pair = list_all (λ bound. meets_bound p (record { of_class = []; of_method = [] }) pair.1 (put_type m bound)) pair.0.bounds

    -- an instantiated method with this definition, at arguments without variables that meet their bounds
    pub record IsInstance (m : MethodTree) (d : MethodDef) : Type 0 where
      pub is : method_at p m.method ≡ Some d
      pub owner : class_number_of m.class ≡ Some d.owner
      pub class : IsClosed m.class
      pub args : All IsClosed m.args
      pub class_count : length (arguments_of m.class) ≡ length (vars_in (slice_get p.classes d.owner))
      pub count : length m.args ≡ length d.vars
      pub class_bounds : list_all (meets_put m) (zip (vars_in (slice_get p.classes d.owner)) (arguments_of m.class)) ≡ true
      pub bounds : list_all (meets_put m) (zip d.vars m.args) ≡ true

    -- the sorts of the stack before an instruction, the top first
    abbrev pub sorts_at : MethodTree → MethodDef → ℕ → List Sort
    sorts_at m d at = sorts_of p m (reverse (stack_at (states_of (view_of p d)) at))

    -- the instruction is there, and its state takes these
    pub record GoesOn (m : MethodTree) (d : MethodDef) (at : ℕ) (ss : List Sort) : Type 0 where
      pub op : Op
      pub code : op_at d at ≡ Some op
      pub wide : WideSorts ss (sorts_at m d at)

    -- what an instantiated method gives
    abbrev pub result_of : MethodTree → MethodDef → Option TExpr
    result_of m d = option_map (put_type m) d.result

    abbrev pub result_sorts : Option TExpr → List Sort
    result_sorts None = []
    result_sorts (Some t) = value_sort p t ∷ []

    -- what a return of this result puts on the stack of a frame that awaits so, and has built a struct of these scalars
    abbrev pub Pushed : Store → Awaited → Option TExpr → List Scalar → List Sort → Type 0
    Pushed x Nothing r fresh ss = ⊥
    Pushed x Result r fresh ss = (fresh ≡ []) × (ss ≡ result_sorts r)
    Pushed x (Object o) r fresh ss = (t : TExpr) × (fresh ≡ []) × RefTo x t o × (ss ≡ Words kind.Reference (Ref t ∷ []) ∷ [])
    Pushed x Built r fresh ss = ss ≡ Words kind.Struct fresh ∷ []

    -- a frame of an instantiated method with this definition
    pub record IsFrame (f : Frame) (h : Holds) (d : MethodDef) : Type 0 where
      pub instance : IsInstance f.method d
      pub held : h.held ≡ held_sorts p f.method d

    -- a frame that waits for this result
    pub record Suspended (x : Store) (r : Option TExpr) (f : Frame) (h : Holds) (hs : List Holds) (d : MethodDef) : Type 0 where
      pub frame : IsFrame f h d
      pub pushed : List Sort
      pub rest : List Sort
      pub pushes : Pushed x f.awaits r h.fresh pushed
      pub goes : GoesOn f.method d (suc f.at) (pushed ++ rest)
      pub stack : ValuesFit x (inside h ∷ hs) rest f.stack

    abbrev pub Waits : Store → Option TExpr → List Frame → List Holds → Type 0
    Waits x r [] [] = Unit {0}
    Waits x r [] (h ∷ hs) = ⊥
    Waits x r (f ∷ fs) [] = ⊥
    Waits x r (f ∷ fs) (h ∷ hs) = (d : MethodDef) × Suspended x r f h hs d × Waits x (result_of f.method d) fs hs

    -- the innermost frame, at its instruction
    pub record TopFits (x : Store) (f : Frame) (fs : List Frame) (h : Holds) (hs : List Holds) : Type 0 where
      pub definition : MethodDef
      pub frame : IsFrame f h definition
      pub fresh : h.fresh ≡ []
      pub op : Op
      pub code : op_at definition f.at ≡ Some op
      pub stack : ValuesFit x (h ∷ hs) (sorts_at f.method definition f.at) f.stack
      pub waits : Waits x (result_of f.method definition) fs hs

    abbrev pub Tops : Store → List Frame → List Holds → Type 0
    Tops x [] hs = ⊥
    Tops x (f ∷ fs) [] = ⊥
    Tops x (f ∷ fs) (h ∷ hs) = TopFits x f fs h hs

    -- the frames of a thread
    pub record FramesFit (x : Store) (s : Frames) : Type 0 where
      pub env : List Holds
      pub tops : Tops x s.frames env
      pub places : PlacesFit x env s.places
