-- The pieces of calls and returns: a frame more, and back to the frame around it.
use Rattle.std.proofs.Common.{◌≡◌, ℕ, suc, ◌+◌, ◌≤◌, List, [], ◌∷◌, ◌++◌, length, Bool, true, false, Option, Some, None, refl, sym, ap, ◌∙◌, subst, arith}
use Rattle.std.specs.Prelude.{◌==◌, if◌then◌else◌, nat_lt, map, option_map, slice_get}
use Rattle.type_tree.specs.declared.tree.TExpr.{TExpr}
use Rattle.il_model.specs.declared.program.Program.{Program}
use Rattle.il_model.specs.declared.method.PType.{PType}
use Rattle.il_model.specs.declared.method.Body.{Body}
use Rattle.il_model.specs.declared.method.MethodDef.{MethodDef}
use Rattle.il_model.specs.declared.layout.MethodTree.{MethodTree}
use Rattle.il_model.specs.Found.{method_at}
use Rattle.interaction.specs.Process.{Naming, Next, Ask}
use Rattle.store_object.specs.declared.request.Cause.TheVariants as cause
use Rattle.store_object.specs.declared.request.Request.TheVariants as ask
use Rattle.store_object.specs.Store.{Store}
use Rattle.cil_flow.specs.declared.state.StackType.{StackType}
use Rattle.cil_verify.specs.Places.{view_of}
use Rattle.cil_verify.specs.Fits.{fits}
use Rattle.cil_verify.specs.Admits.{Operands, return_value}
use Rattle.cil_meaning.specs.Values.{Kind, Pointer, Null, InFrame, InFresh, InObject, InStatic, Value, Plain, Managed}
use Rattle.cil_meaning.specs.Values as kind
use Rattle.cil_meaning.specs.Naming.{Mention, IsNaming, put_type}
use Rattle.cil_meaning.specs.Frames.{Awaited, Nothing, Result, Object, Built, Frame, Places, innermost, outer, with_innermost, with_fresh}
use Rattle.cil_meaning.specs.Types.{kind_of, argument_places}
use Rattle.cil_meaning.specs.Replies.{Left, on_stopped}
use Rattle.cil_meaning.specs.Calls.{most_frames, first_frame, first_places, waiting, enters, calls, resumes, returns_to, returns, returns_with}
use Rattle.cil_meaning.specs.Site.{Site, level_of}
use Rattle.cil_meaning.specs.Pieces.{given, keeps, fits_places}
use Rattle.cil_safety.proofs.Sorts.{Scalar, Ref, Sort, Words, To, place_sort, sort_of, sorts_of, held_sorts}
use Rattle.cil_safety.proofs.Fit.{Lies, Holds, inside, building, holds_at, WordsFit, ValueFits, ValuesFit, PlacesFit, IsFrame, sorts_at, GoesOn, result_of, result_sorts, Pushed, Waits}
use Rattle.cil_safety.proofs.Words.{values_append, values_wide, values_inner}
use Rattle.cil_safety.proofs.Requests.{finish, stop}
use Rattle.cil_safety.proofs.Laws.{BeginsAlone, first_places_fit}
use Rattle.cil_safety.proofs.Pieces.{Sits, Runs, IntoType, IntoPlace, by_if, where_given, popped, keeps_fits, place_fits}

-- An operand that fits a type, as the verifier judges it, goes into a place of the type, the arguments put.
pub record FitsTypes (p : Program) (d : MethodDef) (m : MethodTree) : Type 0 where
  pub into : (t : TExpr) (a : StackType) → fits (view_of p d) t a ≡ true → IntoType p (sort_of p m a) (put_type m t)

module _ (p : Program) (n : Naming Mention TExpr) (names : IsNaming n) where
  -- values that go into these places
  abbrev pub IntoPlaces : List Sort → List PType → Type 0
  IntoPlaces [] [] = Unit {0}
  IntoPlaces [] (t ∷ ts) = ⊥
  IntoPlaces (s ∷ ss) [] = ⊥
  IntoPlaces (s ∷ ss) (t ∷ ts) = IntoPlace p s t × IntoPlaces ss ts

  pub all_fit : (u : ℕ) (x : Store) (env : List Holds) (ss : List Sort) (ts : List PType) (vs : List Value) (k : List Value → Left) → IntoPlaces ss ts → ValuesFit p n x env ss vs → ((ws : List Value) → ValuesFit p n x env (map (place_sort p) ts) ws → Runs p n names u x (k ws)) → Runs p n names u x (fits_places p ts vs k)
  all_fit u x env [] [] [] k i f go = go [] tt
  all_fit u x env [] [] (v ∷ vs) k i f go = absurd f
  all_fit u x env [] (t ∷ ts) vs k i f go = absurd i
  all_fit u x env (s ∷ ss) [] vs k i f go = absurd i
  all_fit u x env (s ∷ ss) (t ∷ ts) [] k i f go = absurd f
  all_fit u x env (s ∷ ss) (t ∷ ts) (v ∷ vs) k i f go =
      place_fits p n names u x env s t v (λ w. fits_places p ts vs (λ ws. k (w ∷ ws))) i.0 f.0 (λ w fw.
      all_fit u x env ss ts vs (λ ws. k (w ∷ ws)) i.1 f.1 (λ ws fs. go (w ∷ ws) (fw, fs)))

  -- ---- the frame's own values, once it has a struct built

  held_still : (h : Holds) (fr : List Scalar) (hs : List Holds) (level : ℕ) (g : Holds) → holds_at (h ∷ hs) level ≡ Some g → (g' : Holds) × (holds_at (building h fr ∷ hs) level ≡ Some g') × (g'.held ≡ g.held)
  held_still h fr hs level g e = by_test (level == length hs) e
    where
      by_test : (b : Bool) → (if b then Some h else holds_at hs level) ≡ Some g → (g' : Holds) × ((if b then Some (building h fr) else holds_at hs level) ≡ Some g') × (g'.held ≡ g.held)
      by_test true e' = let q : h ≡ g = cc e' in (building h fr, refl, ap (λ (z : Holds). z.held) q)
      by_test false e' = (g, e', refl)

  fresh_still : (h : Holds) (fr : List Scalar) (hs : List Holds) (level i : ℕ) (as' : List Scalar) (g : Holds) → h.fresh ≡ [] → holds_at (h ∷ hs) level ≡ Some g → Lies g.fresh i as' → (g' : Holds) × (holds_at (building h fr ∷ hs) level ≡ Some g') × Lies g'.fresh i as'
  fresh_still h fr hs level i as' g none e l = by_test (level == length hs) e
    where
      nothing_there : (bs : List Scalar) → Lies [] i bs → Lies fr i bs
      nothing_there [] l' = (let z : i + 0 ≤ 0 = l'.0 in omega (arith, z), tt)
      nothing_there (b ∷ bs) l' = absurd (cc l'.1.0)

      by_test : (b : Bool) → (if b then Some h else holds_at hs level) ≡ Some g → (g' : Holds) × ((if b then Some (building h fr) else holds_at hs level) ≡ Some g') × Lies g'.fresh i as'
      by_test true e' = let q : h ≡ g = cc e' in (building h fr, refl, nothing_there as' (subst (λ z. Lies z i as') none (subst (λ (z : Holds). Lies z.fresh i as') (sym q) l)))
      by_test false e' = (g, e', l)

  pub value_building : (x : Store) (h : Holds) (fr : List Scalar) (hs : List Holds) (s : Sort) (v : Value) → h.fresh ≡ [] → ValueFits p n x (h ∷ hs) s v → ValueFits p n x (building h fr ∷ hs) s v
  value_building x h fr hs (Words k as') (Plain l ws) none f = f
  value_building x h fr hs (Words k as') (Managed q) none f = f
  value_building x h fr hs (To as') (Plain l ws) none f = f
  value_building x h fr hs (To as') (Managed Null) none f = tt
  value_building x h fr hs (To as') (Managed (InFrame l k i)) none f = let g = held_still h fr hs l f.0 f.3 in (g.0, f.1, f.2, g.1, ap (λ z. slice_get z k) g.2 ∙ f.4, f.5)
  value_building x h fr hs (To as') (Managed (InFresh l i)) none f = fresh_still h fr hs l i as' f.0 none f.1 f.2
  value_building x h fr hs (To as') (Managed (InObject o i)) none f = f
  value_building x h fr hs (To as') (Managed (InStatic k i)) none f = f

  pub values_building : (x : Store) (h : Holds) (fr : List Scalar) (hs : List Holds) (ss : List Sort) (vs : List Value) → h.fresh ≡ [] → ValuesFit p n x (h ∷ hs) ss vs → ValuesFit p n x (building h fr ∷ hs) ss vs
  values_building x h fr hs [] [] none f = tt
  values_building x h fr hs [] (v ∷ vs) none f = f
  values_building x h fr hs (s ∷ ss) [] none f = f
  values_building x h fr hs (s ∷ ss) (v ∷ vs) none f = (value_building x h fr hs s v none f.0, values_building x h fr hs ss vs none f.1)

  -- ---- calls

  module _ (u : ℕ) (x : Store) (s : Site) (h : Holds) (hs : List Holds) (c : Sits p n names x s h hs) where
    pub inside_is : inside h ≡ h
    inside_is = ap (building h) (sym c.fresh)

    fresh_places : (fr : List Scalar) (words : List ℕ) (pl : List Places) → WordsFit p n x fr words → PlacesFit p n x (h ∷ hs) pl → PlacesFit p n x (building h fr ∷ hs) (with_innermost pl (with_fresh (innermost pl) words))
    fresh_places fr words [] w f = absurd f
    fresh_places fr words (q ∷ qs) w f = (f.0, w, f.2)

    -- a frame more, or the end of the run
    pub enters_fit : (m : MethodTree) (d : MethodDef) (held : List Value) (rest : List Sort) (stack : List Value) (awaits : Awaited) (fr : List Scalar) (words : List ℕ) (pushed : List Sort) → BeginsAlone p n m d →
        ValuesFit p n x (record { held = held_sorts p m d; fresh = [] } ∷ building h fr ∷ hs) (map (place_sort p) (argument_places p m d)) held → ValuesFit p n x (h ∷ hs) rest stack → WordsFit p n x fr words →
        Pushed p n x awaits (result_of p n m d) fr pushed → GoesOn p n s.frame.method s.definition (suc s.frame.at) (pushed ++ rest) → Runs p n names u x (enters p s m d held stack awaits words)
    enters_fit m d held rest stack awaits fr words pushed b args below w pushes g =
        by_if p n names u x (nat_lt (level_of s + 1) most_frames) (Next (record { frames = first_frame m ∷ waiting s.frame stack awaits ∷ s.around; places = first_places p m d held ∷ with_innermost s.places (with_fresh (innermost s.places) words) })) (Ask (ask.Stop cause.Depth) on_stopped)
        (λ room. record {
          env = record { held = held_sorts p m d; fresh = [] } ∷ building h fr ∷ hs;
          tops = record {
            definition = d;
            frame = record { instance = b.instance; held = refl };
            fresh = refl;
            op = b.op;
            code = b.code;
            stack = subst (λ z. ValuesFit p n x (record { held = held_sorts p m d; fresh = [] } ∷ building h fr ∷ hs) z []) (sym b.empty) tt;
            waits = (s.definition, record { frame = record { instance = c.frame.instance; held = c.frame.held }; pushed = pushed; rest = rest; pushes = pushes; goes = g; stack = subst (λ z. ValuesFit p n x (z ∷ hs) rest stack) (sym inside_is) below }, c.waits);
          };
          places = (first_places_fit p n x (record { held = held_sorts p m d; fresh = [] } ∷ building h fr ∷ hs) m d held args, tt, fresh_places fr words s.places w c.places);
        })
        (λ full. stop p n u x cause.Depth)

    -- a call of a method that has a body; the arguments' sorts go into the places of its arguments
    pub calls_fit : (m : MethodTree) (d : MethodDef) (body : Body) (as' : List Sort) (arguments : List Value) (rest : List Sort) (stack : List Value) (awaits : Awaited) (fr : List Scalar) (words : List ℕ) (pushed : List Sort) → BeginsAlone p n m d → d.body ≡ Some body →
        IntoPlaces as' (argument_places p m d) → ValuesFit p n x (building h fr ∷ hs) as' arguments → ValuesFit p n x (h ∷ hs) rest stack → WordsFit p n x fr words →
        Pushed p n x awaits (result_of p n m d) fr pushed → GoesOn p n s.frame.method s.definition (suc s.frame.at) (pushed ++ rest) → Runs p n names u x (calls p s m arguments stack awaits words)
    calls_fit m d body as' arguments rest stack awaits fr words pushed b has into args below w pushes g =
        where_given p n names u x (method_at p m.method) d (λ d'. given d'.body (λ b'. fits_places p (argument_places p m d') arguments (λ held. enters p s m d' held stack awaits words))) b.instance.is
        (where_given p n names u x d.body body (λ b'. fits_places p (argument_places p m d) arguments (λ held. enters p s m d held stack awaits words)) has
        (all_fit u x (building h fr ∷ hs) as' (argument_places p m d) arguments (λ held. enters p s m d held stack awaits words) into args (λ held f.
        enters_fit m d held rest stack awaits fr words pushed b (values_inner p n x (record { held = held_sorts p m d; fresh = [] }) (building h fr ∷ hs) (map (place_sort p) (argument_places p m d)) held f) below w pushes g)))

    -- ---- returns

    -- the frame around goes on after its call
    resumed : (f : Frame) (fs : List Frame) (g : Holds) (gs : List Holds) (d : MethodDef) (pl : List Places) (pushed rest : List Sort) (new : List Value) → IsFrame p n f g d → GoesOn p n f.method d (suc f.at) (pushed ++ rest) → ValuesFit p n x (inside g ∷ gs) pushed new → ValuesFit p n x (inside g ∷ gs) rest f.stack → Waits p n x (result_of p n f.method d) fs gs → PlacesFit p n x (inside g ∷ gs) pl → Runs p n names u x (resumes p s f fs pl (new ++ f.stack))
    resumed f fs g gs d pl pushed rest new frame goes top below waits places = record {
      env = inside g ∷ gs;
      tops = record { definition = d; frame = record { instance = frame.instance; held = frame.held }; fresh = refl; op = goes.op; code = goes.code; stack = values_wide p n x (inside g ∷ gs) (pushed ++ rest) (sorts_at p n f.method d (suc f.at)) (new ++ f.stack) goes.wide (values_append p n x (inside g ∷ gs) pushed rest new f.stack top below); waits = waits };
      places = places;
    }

    -- a result is words, so it fits in any frame
    result_anywhere : (env env' : List Holds) (r : Option TExpr) (vs : List Value) → ValuesFit p n x env (result_sorts p n r) vs → ValuesFit p n x env' (result_sorts p n r) vs
    result_anywhere env env' None [] f = tt
    result_anywhere env env' None (v ∷ vs) f = f
    result_anywhere env env' (Some t) [] f = f
    result_anywhere env env' (Some t) (Plain l ws ∷ []) f = f
    result_anywhere env env' (Some t) (Managed q ∷ []) f = f
    result_anywhere env env' (Some t) (v ∷ w ∷ vs) f = absurd f.1

    at_rest : (g : Holds) (gs : List Holds) (pl : List Places) → g.fresh ≡ [] → PlacesFit p n x (g ∷ gs) pl → PlacesFit p n x (inside g ∷ gs) pl
    at_rest g gs pl none f = subst (λ z. PlacesFit p n x (z ∷ gs) pl) (ap (building g) none) f

    built_gone : (g : Holds) (gs : List Holds) (pl : List Places) → PlacesFit p n x (g ∷ gs) pl → PlacesFit p n x (inside g ∷ gs) (with_innermost pl (with_fresh (innermost pl) []))
    built_gone g gs [] f = absurd f
    built_gone g gs (q ∷ qs) f = (f.0, tt, f.2)

    built_words : (g : Holds) (gs : List Holds) (pl : List Places) → PlacesFit p n x (g ∷ gs) pl → WordsFit p n x g.fresh (innermost pl).fresh
    built_words g gs [] f = absurd f
    built_words g gs (q ∷ qs) f = f.1

    returns_by : (a : Awaited) (r : Option TExpr) (f : Frame) (fs : List Frame) (g : Holds) (gs : List Holds) (d : MethodDef) (pl : List Places) (pushed rest : List Sort) (vs : List Value) → Pushed p n x a r g.fresh pushed → IsFrame p n f g d → GoesOn p n f.method d (suc f.at) (pushed ++ rest) → ValuesFit p n x (inside g ∷ gs) rest f.stack → Waits p n x (result_of p n f.method d) fs gs → PlacesFit p n x (g ∷ gs) pl → ValuesFit p n x (h ∷ hs) (result_sorts p n r) vs → Runs p n names u x (returns_to p s a f fs pl vs)
    returns_by Nothing r f fs g gs d pl pushed rest vs is frame goes below waits places fits' = absurd is
    returns_by Result r f fs g gs d pl pushed rest vs is frame goes below waits places fits' = resumed f fs g gs d pl (result_sorts p n r) rest vs frame (subst (λ z. GoesOn p n f.method d (suc f.at) (z ++ rest)) is.1 goes) (result_anywhere (h ∷ hs) (inside g ∷ gs) r vs fits') below waits (at_rest g gs pl is.0 places)
    returns_by (Object o) r f fs g gs d pl pushed rest vs is frame goes below waits places fits' = resumed f fs g gs d pl (Words kind.Reference (Ref is.0 ∷ []) ∷ []) rest (Plain kind.Reference (o ∷ []) ∷ []) frame (subst (λ z. GoesOn p n f.method d (suc f.at) (z ++ rest)) is.3 goes) ((refl, (is.2, tt)), tt) below waits (at_rest g gs pl is.1 places)
    returns_by Built r f fs g gs d pl pushed rest vs is frame goes below waits places fits' = resumed f fs g gs d (with_innermost pl (with_fresh (innermost pl) [])) (Words kind.Struct g.fresh ∷ []) rest (Plain kind.Struct (innermost pl).fresh ∷ []) frame (subst (λ z. GoesOn p n f.method d (suc f.at) (z ++ rest)) is goes) ((refl, built_words g gs pl places), tt) below waits (built_gone g gs pl places)

    outer_places : (pl : List Places) → PlacesFit p n x (h ∷ hs) pl → PlacesFit p n x hs (outer pl)
    outer_places [] f = absurd f
    outer_places (q ∷ qs) f = f.2

    pub returns_fit : (vs : List Value) → ValuesFit p n x (h ∷ hs) (result_sorts p n (result_of p n s.frame.method s.definition)) vs → Runs p n names u x (returns p s s.around vs)
    returns_fit vs f = by_frames s.around hs c.waits (outer_places s.places c.places)
      where
        by_frames : (fs : List Frame) (gs : List Holds) → Waits p n x (result_of p n s.frame.method s.definition) fs gs → PlacesFit p n x gs (outer s.places) → Runs p n names u x (returns p s fs vs)
        by_frames [] gs w places = finish p n u x
        by_frames (g ∷ fs) [] w places = absurd w
        by_frames (g ∷ fs) (e ∷ gs) w places = returns_by g.awaits (result_of p n s.frame.method s.definition) g fs e gs w.0 (outer s.places) w.1.pushed w.1.rest vs w.1.pushes w.1.frame w.1.goes w.1.stack w.2 places f

    -- `ret`: the result, as its type keeps it
    pub ret_fits : FitsTypes p s.definition s.frame.method → (os out : Operands) (vs : List Value) → return_value (view_of p s.definition) s.definition.result os ≡ Some out → ValuesFit p n x (h ∷ hs) (sorts_of p s.frame.method os) vs → Runs p n names u x (returns_with p s s.definition.result vs)
    ret_fits well os out vs e fit = by_result s.definition.result refl os e fit
      where
        by_result : (r : Option TExpr) → s.definition.result ≡ r → (os : Operands) → return_value (view_of p s.definition) r os ≡ Some out → ValuesFit p n x (h ∷ hs) (sorts_of p s.frame.method os) vs → Runs p n names u x (returns_with p s r vs)
        by_result None is os' e' fit' = returns_fit [] (subst (λ z. ValuesFit p n x (h ∷ hs) (result_sorts p n (option_map (put_type s.frame.method) z)) []) (sym is) tt)
        by_result (Some t) is [] e' fit' = absurd (cc e')
        by_result (Some t) is (a ∷ os') e' fit' = by_test (fits (view_of p s.definition) t a) refl e'
          where
            by_test : (b : Bool) → fits (view_of p s.definition) t a ≡ b → (if b then Some os' else None) ≡ Some out → Runs p n names u x (returns_with p s (Some t) vs)
            by_test false q e'' = absurd (cc e'')
            by_test true q e'' =
                popped p n names u x (h ∷ hs) (sort_of p s.frame.method a) (sorts_of p s.frame.method os') vs (λ v ws. keeps p (put_type s.frame.method t) v (λ words. returns p s s.around (Plain (kind_of p (put_type s.frame.method t)) words ∷ []))) fit' (λ v ws fv fs.
                keeps_fits p n names u x (h ∷ hs) (sort_of p s.frame.method a) (put_type s.frame.method t) v (λ words. returns p s s.around (Plain (kind_of p (put_type s.frame.method t)) words ∷ [])) (well.into t a q) fv (λ words fw.
                returns_fit (Plain (kind_of p (put_type s.frame.method t)) words ∷ []) (subst (λ z. ValuesFit p n x (h ∷ hs) (result_sorts p n (option_map (put_type s.frame.method) z)) (Plain (kind_of p (put_type s.frame.method t)) words ∷ [])) (sym is) ((refl, fw), tt))))
