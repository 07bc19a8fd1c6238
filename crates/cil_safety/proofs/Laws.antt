-- What the language of CIL owes besides its instructions, and how the theorem follows from these.
use Rattle.std.proofs.Common.{◌≡◌, ℕ, List, [], ◌∷◌, ◌++◌, Option, Some, None, refl, sym, ap, subst}
use Rattle.std.specs.Prelude.{map}
use Rattle.type_tree.specs.declared.tree.TExpr.{TExpr}
use Rattle.il_model.specs.declared.program.Program.{Program}
use Rattle.il_model.specs.declared.method.PType.{PType}
use Rattle.il_model.specs.declared.method.PType.TheVariants as ptype
use Rattle.il_model.specs.declared.method.MethodDef.{MethodDef}
use Rattle.il_model.specs.declared.layout.MethodTree.{MethodTree}
use Rattle.il_model.specs.declared.op.Op.{Op}
use Rattle.il_model.specs.Found.{method_at}
use Rattle.interaction.specs.Process.{Naming}
use Rattle.interaction.specs.History.{part}
use Rattle.interaction.specs.History as history
use Rattle.interaction.specs.Safety.{SafetyLaws, SafeStart}
use Rattle.interaction.proofs.Talks.{talk_larger, legal_larger}
use Rattle.interaction.proofs.NeverStuck as general
use Rattle.store_object.specs.declared.request.Request.{Request}
use Rattle.store_object.specs.declared.request.Request.TheVariants as ask
use Rattle.store_object.specs.declared.reply.Reply.{Reply}
use Rattle.store_object.specs.declared.reply.Reply.TheVariants as says
use Rattle.store_object.specs.declared.place.Place.{Place}
use Rattle.store_object.specs.declared.place.Place.TheVariants as at
use Rattle.store_object.specs.Store.{Store, opening, word_at}
use Rattle.store_object.specs.Answer.{answer}
use Rattle.store_object.specs.Replay.{store}
use Rattle.store_object.proofs.StoreLaws.{grows_self, grows_then, grows_after, lives_below, lives_other, asks_alive, starts_next, starts_none, IsStart}
use Rattle.il_model.specs.Layouts.{words_of}
use Rattle.cil_meaning.specs.Values.{Value}
use Rattle.cil_meaning.specs.Naming.{Mention, IsNaming}
use Rattle.cil_meaning.specs.Frames.{Frames}
use Rattle.cil_meaning.specs.Types.{zero_of, argument_places, local_places}
use Rattle.cil_meaning.specs.Calls.{first_places}
use Rattle.cil_meaning.specs.Site.{op_at}
use Rattle.cil_meaning.specs.Meaning.{meaning}
use Rattle.cil_meaning.specs.Threads.{alone_in, method_tree, main_frames, started_by, starts, begin}
use Rattle.cil_meaning.specs.Language.{Talk, Legal}
use Rattle.cil_safety.specs.NeverStuck.{NeverStuck}
use Rattle.cil_safety.proofs.LivesOn.{lives_on}
use Rattle.cil_safety.proofs.Sorts.{Scalar, Length, scalars_of, place_sort, held_sorts}
use Rattle.cil_safety.proofs.Fit.{Holds, WordFits, Typed, ValueFits, ValuesFit, IsInstance, sorts_at, FramesFit}
use Rattle.cil_safety.proofs.Words.{zero_fits, zeros_fit, values_append}
use Rattle.cil_safety.proofs.Requests.{safety, Sound}
use Rattle.cil_safety.proofs.Pieces.{length-scalars_of, frames_later}

abbrev number_in : Option (ℕ × Frames) → ℕ
number_in None = 0
number_in (Some c) = c.0

module _ (p : Program) (n : Naming Mention TExpr) where
  -- a request with its reply starts a thread only as a start, with the number that the reply gives
  started_is : (object : ℕ) (y : Reply) (b : ℕ × Frames) → started_by p object y ≡ Some b → y ≡ says.Thread b.0
  started_is object (says.Object k) b e = absurd (cc e)
  started_is object (says.Kind k) b e = absurd (cc e)
  started_is object (says.Word k) b e = absurd (cc e)
  started_is object (says.Thread k) b e = let q : k ≡ b.0 = ap number_in e in ap says.Thread q
  started_is object (says.Ended k) b e = absurd (cc e)
  started_is object says.Unknown b e = absurd (cc e)
  started_is object says.Done b e = absurd (cc e)
  started_is object (says.Stopped k) b e = absurd (cc e)
  started_is object says.Halted b e = absurd (cc e)
  started_is object says.Improper b e = absurd (cc e)

  start_is : (r : Request) (y : Reply) (b : ℕ × Frames) → starts p r y ≡ Some b → y ≡ says.Thread b.0
  start_is (ask.Alloc kind count words) y b e = absurd (cc e)
  start_is (ask.TypeOf object) y b e = absurd (cc e)
  start_is (ask.Length object) y b e = absurd (cc e)
  start_is (ask.Load place) y b e = absurd (cc e)
  start_is (ask.Save place word) y b e = absurd (cc e)
  start_is (ask.Exchange place word) y b e = absurd (cc e)
  start_is (ask.CompareExchange place word comparand) y b e = absurd (cc e)
  start_is (ask.Add place word narrow) y b e = absurd (cc e)
  start_is (ask.Print form word) y b e = absurd (cc e)
  start_is (ask.Start object) y b e = started_is object y b e
  start_is (ask.Ended thread) y b e = absurd (cc e)
  start_is ask.Finish y b e = absurd (cc e)
  start_is (ask.Fall kind) y b e = absurd (cc e)
  start_is (ask.Stop why) y b e = absurd (cc e)

  -- what starts nobody leaves the count
  pub no_start : (x : Store) (t : ℕ) (r : Request) → starts p r (answer x t r).0 ≡ None → (k : ℕ) → (answer x t r).0 ≡ says.Thread k → ⊥
  no_start x t r e k is =
      let s : IsStart x (answer x t r).1 r k = starts_next x t r k is in
      let q : starts p (ask.Start s.object) (says.Thread k) ≡ None = subst (λ z. starts p z (says.Thread k) ≡ None) s.request (subst (λ z. starts p r z ≡ None) is e) in
      cc q

  pub one_start : (x : Store) (t : ℕ) (r : Request) (b : ℕ × Frames) → starts p r (answer x t r).0 ≡ Some b → IsStart x (answer x t r).1 r b.0
  one_start x t r b e = starts_next x t r b.0 (start_is r (answer x t r).0 b e)

  -- the laws, where each instruction of frames that fit is safe
  pub laws_from : IsNaming n → ((u : ℕ) (x : Store) (f : Frames) → FramesFit p n x f → Sound p n u x (meaning p f)) → SafetyLaws (safety p n)
  laws_from names steps = record {
    grows_self = grows_self;
    grows_then = grows_then;
    grows_after = grows_after;
    fits_later = λ x y f g h. frames_later p n names x y f g h;
    steps = steps;
    lives_below = lives_below;
    lives_other = lives_other;
    asks_alive = asks_alive;
    begins_none = λ x t r e. starts_none x t r (no_start x t r e);
    begins_one = λ x t r b l go e. let s = one_start x t r b e in (s.number, s.count);
    begun_lives = λ x t r b ty l go e. (one_start x t r b e).lives;
  }

  -- ---- where threads begin

  first_typed : Typed p n opening
  first_typed = record { words = λ pl a h. there pl a }
    where
      there : (pl : Place) (a : Scalar) → WordFits p n opening a (word_at opening pl)
      there (at.Object o i) a = zero_fits p n opening a
      there (at.Fixed k i) a = zero_fits p n opening a

  pub zero_value_fits : (x : Store) (env : List Holds) (t : PType) → ValueFits p n x env (place_sort p t) (zero_of p t)
  zero_value_fits x env (ptype.Value t) = (refl, zeros_fit p n x (scalars_of p t) (words_of p t) (sym (length-scalars_of p t)))
  zero_value_fits x env (ptype.Pointer t) = tt
  zero_value_fits x env ptype.Native = (refl, (zero_fits p n x Length, tt))

  pub zero_values_fit : (x : Store) (env : List Holds) (ts : List PType) → ValuesFit p n x env (map (place_sort p) ts) (map (zero_of p) ts)
  zero_values_fit x env [] = tt
  zero_values_fit x env (t ∷ ts) = (zero_value_fits x env t, zero_values_fit x env ts)

  map_append : (xs ys : List PType) → map (place_sort p) (xs ++ ys) ≡ map (place_sort p) xs ++ map (place_sort p) ys
  map_append [] ys = refl
  map_append (x ∷ xs) ys = ap (λ z. place_sort p x ∷ z) (map_append xs ys)

  -- the places of a method that begins: its arguments, and zeros
  pub first_places_fit : (x : Store) (env : List Holds) (m : MethodTree) (d : MethodDef) (vs : List Value) → ValuesFit p n x env (map (place_sort p) (argument_places p m d)) vs → ValuesFit p n x env (held_sorts p m d) (first_places p m d vs).held
  first_places_fit x env m d vs f =
      subst (λ z. ValuesFit p n x env z (vs ++ map (zero_of p) (local_places m d))) (sym (map_append (argument_places p m d) (local_places m d)))
      (values_append p n x env (map (place_sort p) (argument_places p m d)) (map (place_sort p) (local_places m d)) vs (map (zero_of p) (local_places m d)) f (zero_values_fit x env (local_places m d)))

  -- what is asked of a method that begins a thread alone: it has a first instruction with an empty stack
  pub record BeginsAlone (m : MethodTree) (d : MethodDef) : Type 0 where
    pub instance : IsInstance p n m d
    pub op : Op
    pub code : op_at d 0 ≡ Some op
    pub empty : sorts_at p n m d 0 ≡ []

  pub alone_fits : (x : Store) (m : MethodTree) (d : MethodDef) (vs : List Value) → BeginsAlone m d → ValuesFit p n x (record { held = held_sorts p m d; fresh = [] } ∷ []) (map (place_sort p) (argument_places p m d)) vs → FramesFit p n x (alone_in p m (Some d) vs)
  alone_fits x m d vs b f = record {
    env = record { held = held_sorts p m d; fresh = [] } ∷ [];
    tops = record { definition = d; frame = record { instance = b.instance; held = refl }; fresh = refl; op = b.op; code = b.code; stack = subst (λ z. ValuesFit p n x (record { held = held_sorts p m d; fresh = [] } ∷ []) z []) (sym b.empty) tt; waits = tt };
    places = (first_places_fit x (record { held = held_sorts p m d; fresh = [] } ∷ []) m d vs f, tt, tt);
  }

  -- Main takes nothing
  pub record BeginsMain : Type 0 where
    pub definition : MethodDef
    pub is : method_at p p.main ≡ Some definition
    pub begins : BeginsAlone (method_tree p p.main) definition
    pub takes : argument_places p (method_tree p p.main) definition ≡ []

  pub start_from : BeginsMain → SafeStart (safety p n) (main_frames p)
  start_from b = record {
    typed = first_typed;
    one = refl;
    lives = refl;
    fits = subst (λ o. FramesFit p n opening (alone_in p (method_tree p p.main) o [])) (sym b.is)
        (alone_fits opening (method_tree p p.main) b.definition [] b.begins (subst (λ z. ValuesFit p n opening (record { held = held_sorts p (method_tree p p.main) b.definition; fresh = [] } ∷ []) (map (place_sort p) z) []) (sym b.takes) tt));
  }

-- ---- the theorem, from the laws under each naming

pub never_stuck_from : (p : Program) → ((n : Naming Mention TExpr) → IsNaming n → SafetyLaws (safety p n) × SafeStart (safety p n) (main_frames p)) → NeverStuck p
never_stuck_from p owed = record {
  each = λ n later names names' larger h legal u from left begun talk.
      let o = owed later names' in
      let all' : history.NeverStuck store later (meaning p) (begin p) = general.never_stuck (safety p later) o.0 (main_frames p) o.1 in
      let legal' : Legal p later h = legal_larger larger legal in
      let talk' : Talk p later from (part u h) left = talk_larger larger talk in
      record {
        goes = all'.goes_on h legal' u from begun left talk';
        proper = λ r k is. all'.taken h legal' u from begun r k (subst (λ z. Talk p later from (part u h) z) is talk');
      };
  lives_on = λ n h legal u from left begun talk lives. lives_on p n h legal u from left begun talk lives;
}
