-- Arguments and locals: read, written, and their addresses taken.
use Rattle.std.proofs.Common.{◌≡◌, ℕ, zero, suc, ◌+◌, List, [], ◌∷◌, ◌++◌, length, Bool, true, false, Option, Some, None, refl, sym, ap, ◌∙◌, subst, arith, eq-eqb}
use Rattle.std.proofs.lemmas.Option.{slice_get-map}
use Rattle.std.specs.Prelude.{◌==◌, if◌then◌else◌, map, flat_map, option_map, option_and_then, option_to_list, slice_get}
use Rattle.type_tree.specs.declared.tree.TExpr.{TExpr}
use Rattle.il_model.specs.declared.program.Program.{Program}
use Rattle.il_model.specs.declared.method.PType.{PType}
use Rattle.il_model.specs.declared.method.PType.TheVariants as ptype
use Rattle.il_model.specs.declared.method.Body.{Body}
use Rattle.il_model.specs.declared.method.MethodDef.{MethodDef}
use Rattle.il_model.specs.declared.layout.MethodTree.{MethodTree}
use Rattle.interaction.specs.Process.{Naming}
use Rattle.store_object.specs.Store.{Store}
use Rattle.cil_flow.specs.declared.state.StackType.{StackType}
use Rattle.cil_flow.specs.declared.state.StackType.TheVariants as stack
use Rattle.cil_verify.specs.Places.{View, view_of, locals_of, stack_of_place, addressed}
use Rattle.cil_verify.specs.Places as checked
use Rattle.cil_verify.specs.Fits.{fits_place}
use Rattle.cil_verify.specs.Rows.{Bank, arguments, locals}
use Rattle.cil_verify.specs.Admits.{Operands, places_in, load_place, address_of, store_place, take_one}
use Rattle.cil_meaning.specs.Values.{InFrame, Value, Managed}
use Rattle.cil_meaning.specs.Naming.{Mention, IsNaming, put_type}
use Rattle.cil_meaning.specs.Frames.{Frame, Places, innermost, with_innermost, with_held}
use Rattle.cil_meaning.specs.Types.{kind_of, put_place, argument_places, local_places}
use Rattle.cil_meaning.specs.Site.{Site, level_of, goes, goes_with}
use Rattle.cil_meaning.specs.Pieces as pieces
use Rattle.cil_meaning.specs.Groups.{Slot, Argument, Local, Reads, Points, Writes}
use Rattle.cil_meaning.specs.Places.{PlaceHere, place_of, points_to, on_place}
use Rattle.cil_safety.proofs.Sorts.{Scalar, Sort, scalars_of, place_sort, sort_of, sorts_of}
use Rattle.cil_safety.proofs.Fit.{Spans, Lies, Holds, inside, building, holds_at, ValueFits, ValuesFit, PlacesFit, GoesOn, Waits, result_of}
use Rattle.cil_safety.proofs.Words.{value_there, put_fits, value_wide}
use Rattle.cil_safety.proofs.Types.{place_stands}
use Rattle.cil_safety.proofs.Pieces.{Sits, Runs, IntoPlace, goes_on, goes_to_fits, where_given, popped, place_fits}

-- ---- lists

get_left : {A : Type 0} (xs ys : List A) (k : ℕ) (x : A) → slice_get xs k ≡ Some x → slice_get (xs ++ ys) k ≡ Some x
get_left [] ys k x e = absurd (cc e)
get_left (z ∷ xs) ys zero x e = e
get_left (z ∷ xs) ys (suc k) x e = get_left xs ys k x e

get_right : {A : Type 0} (xs ys : List A) (k : ℕ) → slice_get (xs ++ ys) (length xs + k) ≡ slice_get ys k
get_right [] ys k = let e : 0 + k ≡ k = omega arith in ap (slice_get ys) e
get_right (z ∷ xs) ys k = let e : suc (length xs) + k ≡ suc (length xs + k) = omega arith in ap (slice_get (z ∷ xs ++ ys)) e ∙ get_right xs ys k

mapped_get : {A B : Type 0} (f : A → B) (xs : List A) (k : ℕ) (x : A) → slice_get xs k ≡ Some x → slice_get (map f xs) k ≡ Some (f x)
mapped_get f xs k x e = slice_get-map f xs k ∙ ap (option_map f) e

append_none : {A : Type 0} (xs : List A) → xs ++ [] ≡ xs
append_none [] = refl
append_none (x ∷ xs) = ap (λ z. x ∷ z) (append_none xs)

-- a whole list of scalars lies in itself
span_shift : (a : Scalar) (us as' : List Scalar) (i : ℕ) → Spans (slice_get us) i as' → Spans (slice_get (a ∷ us)) (suc i) as'
span_shift a us [] i h = tt
span_shift a us (b ∷ bs) i h = (h.0, span_shift a us bs (suc i) h.1)

pub whole_span : (us : List Scalar) → Spans (slice_get us) 0 us
whole_span [] = tt
whole_span (a ∷ us) = (refl, span_shift a us us 0 (whole_span us))

pub lies_whole : (us : List Scalar) → Lies us 0 us
lies_whole us = (omega arith, whole_span us)

abbrev pub place_here : ℕ → PType → PlaceHere
place_here k t = record { number = k; kind = t }

-- The places of a body and those that its instantiation has are alike, the arguments put.
pub record PlacesAlike (p : Program) (d : MethodDef) (m : MethodTree) : Type 0 where
  pub args_are : argument_places p m d ≡ map (put_place m) (checked.argument_places p d)

-- An operand that fits a place, as the verifier judges it, goes into the place of the instantiation.
pub record FitsPlaces (p : Program) (d : MethodDef) (m : MethodTree) : Type 0 where
  pub into : (t : PType) (a : StackType) → fits_place (view_of p d) t a ≡ true → IntoPlace p (sort_of p m a) (put_place m t)

module _ (p : Program) (n : Naming Mention TExpr) (names : IsNaming n) where
  -- a frame's places and the frames around it are as many as what is known of them
  pub waits_length : (x : Store) (r : Option TExpr) (fs : List Frame) (hs : List Holds) → Waits p n x r fs hs → length fs ≡ length hs
  waits_length x r [] [] w = refl
  waits_length x r [] (h ∷ hs) w = absurd w
  waits_length x r (f ∷ fs) [] w = absurd w
  waits_length x r (f ∷ fs) (h ∷ hs) w = ap suc (waits_length x (result_of p n f.method w.0) fs hs w.2)

  module _ (u : ℕ) (x : Store) (s : Site) (h : Holds) (hs : List Holds) (c : Sits p n names x s h hs) (alike : PlacesAlike p s.definition s.frame.method) where
    abbrev pub m : MethodTree
    m = s.frame.method

    abbrev pub view : View
    view = view_of p s.definition

    -- the number that names a place in a bank, as the meaning has it
    abbrev pub slot_of : Bank → ℕ → Slot
    slot_of arguments k = Argument k
    slot_of locals k = Local k

    abbrev pub number_of : Bank → ℕ → ℕ
    number_of arguments k = k
    number_of locals k = length (argument_places p m s.definition) + k

    locals_are : local_places m s.definition ≡ map (put_place m) (locals_of s.definition.body)
    locals_are = by_body s.definition.body
      where
        by_body : (o : Option Body) → flat_map (λ (b : Body). map (put_place m) b.locals) (option_to_list o) ≡ map (put_place m) (locals_of o)
        by_body None = refl
        by_body (Some b) = append_none (map (put_place m) b.locals)

    -- a place of the body is one of the frame
    record Found (bank : Bank) (k : ℕ) (t : PType) : Type 0 where
      place : place_of p s (slot_of bank k) ≡ Some (place_here (number_of bank k) (put_place m t))
      held : slice_get h.held (number_of bank k) ≡ Some (place_sort p (put_place m t))

    found : (bank : Bank) (k : ℕ) (t : PType) → slice_get (places_in view bank) k ≡ Some t → Found bank k t
    found arguments k t e =
        let here : slice_get (argument_places p m s.definition) k ≡ Some (put_place m t) = ap (λ z. slice_get z k) alike.args_are ∙ mapped_get (put_place m) (checked.argument_places p s.definition) k t e in
        record {
          place = ap (option_map (place_here k)) here;
          held = ap (λ z. slice_get z k) c.frame.held ∙ mapped_get (place_sort p) (argument_places p m s.definition ++ local_places m s.definition) k (put_place m t) (get_left (argument_places p m s.definition) (local_places m s.definition) k (put_place m t) here);
        }
    found locals k t e =
        let here : slice_get (local_places m s.definition) k ≡ Some (put_place m t) = ap (λ z. slice_get z k) locals_are ∙ mapped_get (put_place m) (locals_of s.definition.body) k t e in
        record {
          place = ap (option_map (place_here (length (argument_places p m s.definition) + k))) here;
          held = ap (λ z. slice_get z (length (argument_places p m s.definition) + k)) c.frame.held ∙ mapped_get (place_sort p) (argument_places p m s.definition ++ local_places m s.definition) (length (argument_places p m s.definition) + k) (put_place m t) (get_right (argument_places p m s.definition) (local_places m s.definition) k ∙ here);
        }

    h_is : inside h ≡ h
    h_is = ap (building h) (sym c.fresh)

    abbrev pub Fit : List StackType → List Value → Type 0
    Fit os vs = ValuesFit p n x (h ∷ hs) (sorts_of p m os) vs

    abbrev pub Goes : List StackType → Type 0
    Goes os = GoesOn p n m s.definition (suc s.frame.at) (sorts_of p m os)

    -- what the innermost places hold
    record Innermost (pl : List Places) : Type 0 where
      values : ValuesFit p n x (h ∷ hs) h.held (innermost pl).held
      put : (k : ℕ) (t : Sort) (v : Value) → slice_get h.held k ≡ Some t → ValueFits p n x (h ∷ hs) t v → PlacesFit p n x (h ∷ hs) (with_innermost pl (with_held (innermost pl) k v))

    innermost_of : (pl : List Places) → PlacesFit p n x (h ∷ hs) pl → Innermost pl
    innermost_of [] f = absurd f
    innermost_of (q ∷ qs) f = record {
      values = subst (λ z. ValuesFit p n x (z ∷ hs) h.held q.held) h_is f.0;
      put = λ k t v is fits. (put_fits p n x (inside h ∷ hs) h.held q.held k t v f.0 is (subst (λ z. ValueFits p n x (z ∷ hs) t v) (sym h_is) fits), f.1, f.2);
    }

    pub reads_fit : (bank : Bank) (k : ℕ) (os out : Operands) (vs : List Value) → load_place (slice_get (places_in view bank) k) os ≡ Some out → Fit os vs → Goes out → Runs p n names u x (on_place p s (Reads (slot_of bank k)) vs)
    reads_fit bank k os out vs e fit g = by_place (slice_get (places_in view bank) k) refl e
      where
        by_place : (o : Option PType) → slice_get (places_in view bank) k ≡ o → load_place o os ≡ Some out → Runs p n names u x (on_place p s (Reads (slot_of bank k)) vs)
        by_place None is e' = absurd (cc e')
        by_place (Some t) is e' =
            let q : stack_of_place t ∷ os ≡ out = cc e' in
            let f = found bank k t is in
            let v = value_there p n x (h ∷ hs) h.held (innermost s.places).held (number_of bank k) (place_sort p (put_place m t)) (innermost_of s.places c.places).values f.held in
            where_given p n names u x (place_of p s (slot_of bank k)) (place_here (number_of bank k) (put_place m t)) (λ y. pieces.given (slice_get (innermost s.places).held y.number) (λ v'. goes s (v' ∷ vs))) f.place
            (where_given p n names u x (slice_get (innermost s.places).held (number_of bank k)) v.0 (λ v'. goes s (v' ∷ vs)) v.1
            (goes_to_fits p n names u x s h hs (suc s.frame.at) (sorts_of p m (stack_of_place t ∷ os)) (v.0 ∷ vs) c (subst (λ z. Goes z) (sym q) g) (value_wide p n x (h ∷ hs) (place_sort p (put_place m t)) (sort_of p m (stack_of_place t)) v.0 (place_stands p m t) v.2, fit)))

    pub writes_fit : FitsPlaces p s.definition m → (bank : Bank) (k : ℕ) (os out : Operands) (vs : List Value) → store_place view (slice_get (places_in view bank) k) os ≡ Some out → Fit os vs → Goes out → Runs p n names u x (on_place p s (Writes (slot_of bank k)) vs)
    writes_fit well bank k os out vs e fit g = by_place (slice_get (places_in view bank) k) refl e
      where
        by_operands : (t : PType) → slice_get (places_in view bank) k ≡ Some t → (os : Operands) → take_one (fits_place view t) Some os ≡ Some out → Fit os vs → Runs p n names u x (on_place p s (Writes (slot_of bank k)) vs)
        by_operands t is [] e' fit' = absurd (cc e')
        by_operands t is (a ∷ os') e' fit' = by_test (fits_place view t a) refl e'
          where
            by_test : (b : Bool) → fits_place view t a ≡ b → (if b then Some os' else None) ≡ Some out → Runs p n names u x (on_place p s (Writes (slot_of bank k)) vs)
            by_test false is' e'' = absurd (cc e'')
            by_test true is' e'' =
                let q : os' ≡ out = cc e'' in
                let f = found bank k t is in
                where_given p n names u x (place_of p s (slot_of bank k)) (place_here (number_of bank k) (put_place m t)) (λ y. pieces.pops vs (λ v ws. pieces.fits_place p y.kind v (λ w. goes_with s (with_innermost s.places (with_held (innermost s.places) y.number w)) ws))) f.place
                (popped p n names u x (h ∷ hs) (sort_of p m a) (sorts_of p m os') vs (λ v ws. pieces.fits_place p (put_place m t) v (λ w. goes_with s (with_innermost s.places (with_held (innermost s.places) (number_of bank k) w)) ws)) fit' (λ v ws fv fs.
                place_fits p n names u x (h ∷ hs) (sort_of p m a) (put_place m t) v (λ w. goes_with s (with_innermost s.places (with_held (innermost s.places) (number_of bank k) w)) ws) (well.into t a is') fv (λ w fw.
                goes_on p n names u x s h hs (with_innermost s.places (with_held (innermost s.places) (number_of bank k) w)) (suc s.frame.at) (sorts_of p m os') ws c ((innermost_of s.places c.places).put (number_of bank k) (place_sort p (put_place m t)) w f.held fw) (subst (λ z. Goes z) (sym q) g) fs)))

        by_place : (o : Option PType) → slice_get (places_in view bank) k ≡ o → store_place view o os ≡ Some out → Runs p n names u x (on_place p s (Writes (slot_of bank k)) vs)
        by_place None is e' = absurd (cc e')
        by_place (Some t) is e' = by_operands t is os e' fit

    -- the frame itself stands at its level
    level_is : holds_at (h ∷ hs) (level_of s) ≡ Some h
    level_is = let t : (length s.around == length hs) ≡ true = eq-eqb (length s.around) (length hs) (waits_length x (result_of p n m s.definition) s.around hs c.waits) in ap (λ b. if b then Some h else holds_at hs (level_of s)) t

    pub points_fit : (bank : Bank) (k : ℕ) (os out : Operands) (vs : List Value) → address_of (option_and_then addressed (slice_get (places_in view bank) k)) os ≡ Some out → Fit os vs → Goes out → Runs p n names u x (on_place p s (Points (slot_of bank k)) vs)
    points_fit bank k os out vs e fit g = by_place (slice_get (places_in view bank) k) refl e
      where
        by_place : (o : Option PType) → slice_get (places_in view bank) k ≡ o → address_of (option_and_then addressed o) os ≡ Some out → Runs p n names u x (on_place p s (Points (slot_of bank k)) vs)
        by_place None is e' = absurd (cc e')
        by_place (Some (ptype.Pointer t)) is e' = absurd (cc e')
        by_place (Some ptype.Native) is e' = absurd (cc e')
        by_place (Some (ptype.Value t)) is e' =
            let q : stack.Pointer t ∷ os ≡ out = cc e' in
            let f = found bank k (ptype.Value t) is in
            where_given p n names u x (place_of p s (slot_of bank k)) (place_here (number_of bank k) (put_place m (ptype.Value t))) (λ y. points_to p s y.number y.kind vs) f.place
            (goes_to_fits p n names u x s h hs (suc s.frame.at) (sorts_of p m (stack.Pointer t ∷ os)) (Managed (InFrame (level_of s) (number_of bank k) 0) ∷ vs) c (subst (λ z. Goes z) (sym q) g)
            ((h, kind_of p (put_type m t), scalars_of p (put_type m t), level_is, f.held, lies_whole (scalars_of p (put_type m t))), fit))
