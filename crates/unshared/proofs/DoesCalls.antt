-- Calls, new objects and returns, against what they come to.
use Rattle.std.proofs.Common.{◌≡◌, ◌∙◌, ℕ, zero, suc, ◌+◌, ◌==◌, Bool, true, false, List, [], ◌∷◌, ◌++◌, take, drop, length, Option, Some, None, Ok, Err, if◌then◌else◌, nat_lt, nat_le, slice_get, refl, sym, ap, subst, arith, add-one, append_assoc, append-nil, eqb-true}
use Rattle.std.specs.Prelude.{reverse, replicate, ◌<◌}
use Rattle.std.proofs.lemmas.Bool.Decides.{nat_tests}
use Rattle.std.proofs.lemmas.List.{reverse-append}
use Rattle.std.proofs.lemmas.Option.{slice_get_within}
use Rattle.type_tree.specs.declared.tree.TExpr.{TExpr}
use Rattle.il_model.specs.declared.program.Program.{Program}
use Rattle.il_model.specs.declared.method.MethodDef.{MethodDef}
use Rattle.il_model.specs.declared.method.PType.{PType}
use Rattle.il_model.specs.declared.member.MRef.{MRef}
use Rattle.il_model.specs.declared.layout.MethodTree.{MethodTree}
use Rattle.il_model.specs.Entries.{has_slot}
use Rattle.il_model.specs.Found.{method_at, method_found}
use Rattle.il_model.specs.Kinds.{is_reference, is_value}
use Rattle.il_model.specs.Layouts.{words_of, instance_words_of}
use Rattle.il_model.specs.Methods.{limit_of_method}
use Rattle.il_model.specs.Slots.{slots_of}
use Rattle.interaction.specs.Process.{Naming, Next, Settle, Ask, Over, Stuck}
use Rattle.store_object.specs.declared.request.Cause.TheVariants as cause
use Rattle.store_object.specs.declared.request.Request.TheVariants as ask
use Rattle.cil_meaning.specs.Naming.{Mention, OfSlot, put_type}
use Rattle.cil_meaning.specs.Boxes.{boxes}
use Rattle.cil_meaning.specs.Calls as meant
use Rattle.cil_meaning.specs.Calls.{most_frames, slot_found, object_for}
use Rattle.cil_meaning.specs.Frames.{Awaited, Nothing, Result as Returned, Object, Built, Frame, Places, outer}
use Rattle.cil_meaning.specs.Groups.{CallForm, Calls, CallsSlot, CallsConstrained, Creates, Returns}
use Rattle.cil_meaning.specs.Pieces.{given, pops, takes, as_reference, as_pointer, one_word, not_null, keeps, fits_place, fits_places, types, spells, reads}
use Rattle.cil_meaning.specs.Replies.{Left, on_object, on_stopped}
use Rattle.cil_meaning.specs.Search.{null_reference}
use Rattle.cil_meaning.specs.Site.{Site, throws, moved}
use Rattle.cil_meaning.specs.Types.{argument_places, kind_of}
use Rattle.cil_meaning.specs.Values.{Reference, Pointer, Null, InFrame, InFresh, InObject, InStatic, Value, Plain, Managed}
use Rattle.type_inst.specs.Opening.{Extends}
use Rattle.unshared.specs.declared.frames.Frames.{Frames as FramesHere}
use Rattle.unshared.specs.declared.pause.Halt.TheVariants as halt
use Rattle.unshared.specs.Acted as acted
use Rattle.unshared.specs.Acted.{calls_it, calls_virtually, calls_constrained, creates_as, creates}
use Rattle.unshared.specs.Called as called
use Rattle.unshared.specs.Called.{callee_of, entered, has_room, finishes, returns_to, returns_from}
use Rattle.unshared.specs.Constrained.{calls_led, by_reference, calls_boxed, by_box, by_slot, constrained}
use Rattle.unshared.specs.Going.{Did, Goes}
use Rattle.unshared.specs.Held.{frames_around, places_of, stack_of, site_of, awaited_of}
use Rattle.unshared.specs.Kept.{place_kept, value_kept, words_kept}
use Rattle.unshared.specs.Listed.{naming_of}
use Rattle.unshared.specs.Objects.{pointed}
use Rattle.unshared.specs.Operands.{value_at, reference_of, pointer_of, reference_at, pointer_at}
use Rattle.unshared.specs.Owners.{owner_pointer}
use Rattle.unshared.specs.Settled.{settles_method}
use Rattle.unshared.specs.Silent.{Silent, there, where_so}
use Rattle.unshared.specs.Taken.{values_taken, has_values, taken_behind, kept_from, all_kept, kept_result, result_kept}
use Rattle.unshared.specs.Talk.{Talk, ◌>>=◌, pure, say, over, stops}
use Rattle.unshared.proofs.Doing.{Does, finish, does_stuck}
use Rattle.unshared.proofs.DoesBoxes.{box}
use Rattle.unshared.proofs.DoesForms.{level_is, mute_place}
use Rattle.unshared.proofs.Muting.{SilentMet, Mute, mute_bind, mute_so}
use Rattle.unshared.proofs.MuteOperands.{mute_reference, mute_pointer}
use Rattle.unshared.proofs.Sayings.{after}
use Rattle.unshared.proofs.Steps.{same, either, either_then, silently, silent_both, look, pop, tested, one_of, stuck_by, mute_kept, ask_object, ask_done, stop, limit, comes}
use Rattle.unshared.proofs.StepsOfPlaces.{Leads, read}
use Rattle.unshared.proofs.TiedExacts.{settled, exact, spell}
use Rattle.unshared.proofs.Tying.{Met, over_meets}

-- Arguments. ---------------------------------------------------------------------

turned : (v : Value) (xs taken : List Value) → reverse xs ++ v ∷ taken ≡ reverse (v ∷ xs) ++ taken
turned v xs taken = sym (ap (λ l. l ++ taken) (reverse-append (v ∷ []) xs) ∙ append_assoc (reverse xs) (v ∷ []) taken)

less : (m n : ℕ) → nat_le m n ≡ nat_le (suc m) (suc n)
less m n = grind (arith, nat_tests)

takes_all : (m : ℕ) (stack taken : List Value) (k : List Value → List Value → Left) → takes m stack taken k ≡ (if nat_le m (length stack) then k (reverse (take m stack) ++ taken) (drop m stack) else Stuck)
takes_all zero stack taken k = let all : nat_le 0 (length stack) ≡ true = grind (arith, nat_tests) in sym (ap (λ b. if b then k taken stack else Stuck) all)
takes_all (suc m) [] taken k = let none : nat_le (suc m) 0 ≡ false = grind (arith, nat_tests) in sym (ap (λ b. if b then k (reverse (take (suc m) []) ++ taken) (drop (suc m) []) else Stuck) none)
takes_all (suc m) (v ∷ vs) taken k =
    takes_all m vs (v ∷ taken) k
    ∙ ap (λ l. if nat_le m (length vs) then k l (drop m vs) else Stuck) (turned v (take m vs) taken)
    ∙ ap (λ b. if b then k (reverse (take (suc m) (v ∷ vs)) ++ taken) (drop m vs) else Stuck) (less m (length vs))

takes_first : (m : ℕ) (stack taken : List Value) (k : List Value → List Value → Left) → takes (suc m) stack taken k ≡ given (slice_get stack m) (λ x. k (x ∷ (reverse (take m stack) ++ taken)) (drop (suc m) stack))
takes_first zero [] taken k = refl
takes_first zero (v ∷ vs) taken k = refl
takes_first (suc m) [] taken k = refl
takes_first (suc m) (v ∷ vs) taken k = takes_first m vs (v ∷ taken) k ∙ ap (λ l. given (slice_get vs m) (λ x. k (x ∷ l) (drop (suc m) vs))) (turned v (take m vs) taken)

-- What places keep of arguments. ----------------------------------------------------

alike_by : {A : Type 0} (tree other : (A → Left) → Left) (r : Silent A) → ((k : A → Left) → tree k ≡ other k) → SilentMet other r → SilentMet tree r
alike_by tree other (Ok a) e m = λ k. e k ∙ m k
alike_by tree other (Err (halt.Asks r)) e m = m
alike_by tree other (Err halt.Over) e m = m
alike_by tree other (Err halt.Stuck) e m = λ k. e k ∙ m k
alike_by tree other (Err halt.Unnamed) e m = m

mute_alike : {A : Type 0} (tree other : (A → Left) → Left) (r : Silent A) → ((k : A → Left) → tree k ≡ other k) → Mute other r → Mute tree r
mute_alike tree other r e m = record { met = alike_by tree other r e m.met }

keep_from : (p : Program) (ts : List PType) (vs found : List Value) → length ts ≡ length vs → Mute (λ k. fits_places p ts vs (λ us. k (found ++ us))) (kept_from p ts vs found)
unfolding kept_from
keep_from p [] [] found e = record { met = λ k. ap k (append-nil found) }
keep_from p [] (v ∷ vs) found e = absurd (omega (arith, e))
keep_from p (t ∷ ts) [] found e = record { met = λ k. refl }
keep_from p (t ∷ ts) (v ∷ vs) found e =
    let rest : length ts ≡ length vs = omega (arith, e) in
    mute_bind (fits_place p t v) (λ u k. fits_places p ts vs (λ us. k (found ++ u ∷ us))) (place_kept p t v) (λ u. kept_from p ts vs (found ++ u ∷ [])) (mute_place p t v)
    (λ u. mute_alike (λ k. fits_places p ts vs (λ us. k (found ++ u ∷ us))) (λ k. fits_places p ts vs (λ us. k ((found ++ u ∷ []) ++ us))) (kept_from p ts vs (found ++ u ∷ [])) (λ k. simp append_assoc) (keep_from p ts vs (found ++ u ∷ []) rest))

none_fit : (p : Program) (ts : List PType) (vs : List Value) (k : List Value → Left) → (length ts == length vs) ≡ false → fits_places p ts vs k ≡ Stuck
none_fit p [] [] k e = absurd (cc e)
none_fit p [] (v ∷ vs) k e = refl
none_fit p (t ∷ ts) [] k e = refl
none_fit p (t ∷ ts) (v ∷ vs) k e = let rest : (length ts == length vs) ≡ false = grind (arith, nat_tests) in stuck_by (fits_place p t v) (place_kept p t v) (λ u. fits_places p ts vs (λ us. k (u ∷ us))) (mute_place p t v).met (λ u. none_fit p ts vs (λ us. k (u ∷ us)) rest)

pub mute_places : (p : Program) (ts : List PType) (vs : List Value) → Mute (fits_places p ts vs) (all_kept p ts vs)
unfolding all_kept
mute_places p ts vs = mute_so (fits_places p ts vs) (length ts == length vs) (kept_from p ts vs []) (λ e. keep_from p ts vs [] (eqb-true (length ts) (length vs) e)) (λ e k. none_fit p ts vs k e)

module _ (kinds later : List TExpr) (ext : Extends kinds later) (p : Program) (d : MethodDef) (f : FramesHere) where
  abbrev n : Naming Mention TExpr
  n = naming_of later

  abbrev s : Site
  s = site_of d f

  -- so many arguments behind others
  all_taken : (k : List Value → List Value → Left) (v : List Value → Talk Did) (front : List Value) (m : ℕ) → Does n p s (k (reverse (take m (stack_of f))) (drop m (stack_of f))) (v (front ++ reverse (take m (stack_of f)))) →
      Does n p s (takes m (stack_of f) [] k) (say (taken_behind front f m) >>= v)
  unfolding taken_behind values_taken
  all_taken k v front m more =
      same (if nat_le m (length (stack_of f)) then k (reverse (take m (stack_of f))) (drop m (stack_of f)) else Stuck)
      (takes_all m (stack_of f) [] k ∙ ap (λ l. if nat_le m (length (stack_of f)) then k l (drop m (stack_of f)) else Stuck) (append-nil (reverse (take m (stack_of f)))))
      (silent_both (values_taken f m) (λ values. Ok (front ++ values)) v (tested _ (nat_le m (length (stack_of f))) (reverse (take m (stack_of f))) (record { meets = more.meets })))

  -- the same where there are as many
  known_taken : (q : Left) (v : List Value → Talk Did) (front : List Value) (m : ℕ) → nat_le m (length (stack_of f)) ≡ true → Does n p s q (v (front ++ reverse (take m (stack_of f)))) → Does n p s q (say (taken_behind front f m) >>= v)
  unfolding taken_behind values_taken
  known_taken q v front m e more = same (if nat_le m (length (stack_of f)) then q else Stuck) (sym (ap (λ b. if b then q else Stuck) e))
      (silent_both (values_taken f m) (λ values. Ok (front ++ values)) v (tested _ (nat_le m (length (stack_of f))) (reverse (take m (stack_of f))) (record { meets = more.meets })))

  enough : (m : ℕ) (x : Value) → slice_get (stack_of f) m ≡ Some x → nat_le m (length (stack_of f)) ≡ true
  enough m x e = let inside : m < length (stack_of f) = slice_get_within (stack_of f) m x e in grind (arith, nat_tests)

  -- the object stands below the other arguments
  object_first : (k : List Value → List Value → Left) (m : ℕ) → takes (m + 1) (stack_of f) [] k ≡ given (slice_get (stack_of f) m) (λ x. k (x ∷ reverse (take m (stack_of f))) (drop (m + 1) (stack_of f)))
  object_first k m =
      ap (λ i. takes i (stack_of f) [] k) (add-one m) ∙ takes_first m (stack_of f) [] k
      ∙ ap (λ l. given (slice_get (stack_of f) m) (λ x. k (x ∷ l) (drop (suc m) (stack_of f)))) (append-nil (reverse (take m (stack_of f))))
      ∙ ap (λ i. given (slice_get (stack_of f) m) (λ x. k (x ∷ reverse (take m (stack_of f))) (drop i (stack_of f)))) (sym (add-one m))

  reference_first : (k : ℕ → List Value → List Value → Left) (v : ℕ → Talk Did) (m : ℕ) → ((w : ℕ) → nat_le m (length (stack_of f)) ≡ true → Does n p s (k w (reverse (take m (stack_of f))) (drop (m + 1) (stack_of f))) (v w)) →
      Does n p s (takes (m + 1) (stack_of f) [] (λ arguments rest. pops arguments (λ object others. as_reference object (λ w. k w others rest)))) (say (reference_at f m) >>= v)
  unfolding reference_at
  reference_first k v m more = same (given (slice_get (stack_of f) m) (λ x. as_reference x (λ w. k w (reverse (take m (stack_of f))) (drop (m + 1) (stack_of f)))))
      (object_first (λ arguments rest. pops arguments (λ object others. as_reference object (λ w. k w others rest))) m)
      (silent_both (value_at f m) reference_of v (look (slice_get (stack_of f) m) (λ x e. silently (as_reference x) (mute_reference x) (λ w. more w (enough m x e)))))

  pointer_first : (k : Pointer → List Value → List Value → Left) (v : Pointer → Talk Did) (m : ℕ) → ((q : Pointer) → nat_le m (length (stack_of f)) ≡ true → Does n p s (k q (reverse (take m (stack_of f))) (drop (m + 1) (stack_of f))) (v q)) →
      Does n p s (takes (m + 1) (stack_of f) [] (λ arguments rest. pops arguments (λ object others. as_pointer object (λ q. k q others rest)))) (say (pointer_at f m) >>= v)
  unfolding pointer_at
  pointer_first k v m more = same (given (slice_get (stack_of f) m) (λ x. as_pointer x (λ q. k q (reverse (take m (stack_of f))) (drop (m + 1) (stack_of f)))))
      (object_first (λ arguments rest. pops arguments (λ object others. as_pointer object (λ q. k q others rest))) m)
      (silent_both (value_at f m) pointer_of v (look (slice_get (stack_of f) m) (λ x e. silently (as_pointer x) (mute_pointer x) (λ q. more q (enough m x e)))))

  -- Calls. -----------------------------------------------------------------------------

  enter : (m : MethodTree) (of_callee : MethodDef) (held : List Value) (taken : ℕ) (awaits : Awaited) (fresh : List ℕ) →
      Does n p s (meant.enters p s m of_callee held (drop taken (stack_of f)) awaits fresh) (has_room f >>= (λ u. pure (Goes (entered p m of_callee held f taken awaits fresh))))
  unfolding has_room
  enter m of_callee held taken awaits fresh =
      same (if nat_lt (length f.around.items + 1) most_frames then Next (entered p m of_callee held f taken awaits fresh) else Ask (ask.Stop cause.Depth) on_stopped)
      (ap (λ l. if nat_lt (l + 1) most_frames then Next (entered p m of_callee held f taken awaits fresh) else Ask (ask.Stop cause.Depth) on_stopped) (level_is d f))
      (either_then (pure tt) (stops cause.Depth) _ (nat_lt (length f.around.items + 1) most_frames) (λ e. comes) (λ e. stop _ cause.Depth))

  call : (m : MethodTree) (arguments : List Value) (taken : ℕ) (awaits : Awaited) (fresh : List ℕ) → Does n p s (meant.calls p s m arguments (drop taken (stack_of f)) awaits fresh) (called.calls p m arguments f taken awaits fresh)
  unfolding called.calls
  call m arguments taken awaits fresh = look (method_at p m.method) (λ of_callee e. look of_callee.body (λ b e2.
      silently (fits_places p (argument_places p m of_callee) arguments) (mute_places p (argument_places p m of_callee) arguments) (λ held. enter m of_callee held taken awaits fresh)))

  -- what has the number 0 is settled at once
  settle : (exact : TExpr) (slot : ℕ) (q : Left) (t : Talk Did) → Does n p s q t → Does n p s (Settle (OfSlot exact slot) (λ v. q)) t
  settle own slot q t more = record { meets = λ ys. subst (λ z. Met n z (finish p s) (t ys)) (sym (settled n ys (OfSlot own slot) 0 (λ v. q) refl)) (more.meets ys) }

  call_slot : (own : TExpr) (slot : ℕ) (object : MethodTree → Value) (m : ℕ) → nat_le m (length (stack_of f)) ≡ true →
      Does n p s (meant.calls_slot p s own slot object (reverse (take m (stack_of f))) (drop (m + 1) (stack_of f))) (called.calls_slot p own slot object f m)
  unfolding called.calls_slot settles_method
  call_slot own slot object m e = look (slice_get (slots_of p own) slot) (λ callee e2. limit _ (limit_of_method p callee) (settle own slot _ _
      (known_taken _ _ (object callee ∷ []) m e (call callee (object callee ∷ reverse (take m (stack_of f))) (m + 1) Returned []))))

  call_exact : (class : TExpr) (number w m : ℕ) → nat_le m (length (stack_of f)) ≡ true →
      Does n p s (types p w (λ e. spells e (λ own. given (slot_found p own class number) (λ slot. meant.calls_slot p s own slot (λ callee. object_for (is_value p callee.class) w) (reverse (take m (stack_of f))) (drop (m + 1) (stack_of f))))))
      (called.calls_exact p kinds class number w f m)
  unfolding called.calls_exact
  call_exact class number w m e = exact kinds later ext p w (λ x. spell kinds later ext x (λ own. look (slot_found p own class number) (λ slot e2. call_slot own slot (λ callee. object_for (is_value p callee.class) w) m e)))

  call_object : (class : TExpr) (number w m : ℕ) → nat_le m (length (stack_of f)) ≡ true →
      Does n p s (meant.calls_object p s class number w (reverse (take m (stack_of f))) (drop (m + 1) (stack_of f))) (called.calls_object p kinds class number w f m)
  call_object class number w m e = either (w == 0) (λ null. comes) (λ other. call_exact class number w m e)

  does_calls : (numbers : List ℕ) (named : MRef) → Does n p s (meant.on_call p s numbers (Calls named) (stack_of f)) (calls_it p named f)
  unfolding calls_it called.calls_named
  does_calls numbers named = look (method_found p named) (λ number e. look (method_at p number) (λ of_callee e2.
      all_taken (λ arguments rest. meant.calls p s (callee_of f.top.method named number) arguments rest Returned []) _ [] (length (argument_places p (callee_of f.top.method named number) of_callee))
      (call (callee_of f.top.method named number) (reverse (take (length (argument_places p (callee_of f.top.method named number) of_callee)) (stack_of f))) (length (argument_places p (callee_of f.top.method named number) of_callee)) Returned [])))

  call_plainly : (callee : MethodTree) (w m : ℕ) → nat_le m (length (stack_of f)) ≡ true →
      Does n p s (not_null w (throws p s null_reference) (meant.calls p s callee (Plain Reference (w ∷ []) ∷ reverse (take m (stack_of f))) (drop (m + 1) (stack_of f)) Returned [])) (called.calls_plainly p callee w f m)
  unfolding called.calls_plainly
  call_plainly callee w m e = either (w == 0) (λ null. comes) (λ other. known_taken _ _ (Plain Reference (w ∷ []) ∷ []) m e (call callee (Plain Reference (w ∷ []) ∷ reverse (take m (stack_of f))) (m + 1) Returned []))

  call_reference : (b : Bool) (named : MRef) (number w m : ℕ) → nat_le m (length (stack_of f)) ≡ true →
      Does n p s (meant.calls_reference p s b named number w (reverse (take m (stack_of f))) (drop (m + 1) (stack_of f)))
      (if b then called.calls_object p kinds (put_type f.top.method named.class) number w f m else called.calls_plainly p (callee_of f.top.method named number) w f m)
  call_reference true named number w m e = call_object (put_type f.top.method named.class) number w m e
  call_reference false named number w m e = call_plainly (callee_of f.top.method named number) w m e

  does_calls_slot : (numbers : List ℕ) (named : MRef) → Does n p s (meant.on_call p s numbers (CallsSlot named) (stack_of f)) (calls_virtually p kinds named f)
  unfolding calls_virtually
  does_calls_slot numbers named = look (method_found p named) (λ number e. look (method_at p number) (λ of_callee e2.
      reference_first (λ w others rest. meant.calls_reference p s (has_slot of_callee.shape) named number w others rest) _ (length of_callee.params) (λ w e3. call_reference (has_slot of_callee.shape) named number w (length of_callee.params) e3)))

  -- Calls through a pointer of a type that is known. --------------------------------------

  call_led : (class : TExpr) (number m : ℕ) (q : Pointer) → Leads q → nat_le m (length (stack_of f)) ≡ true →
      Does n p s (reads (places_of f) q 1 (throws p s null_reference) (λ words. one_word words (λ w. meant.calls_object p s class number w (reverse (take m (stack_of f))) (drop (m + 1) (stack_of f))))) (calls_led p kinds class number q f m)
  unfolding calls_led
  call_led class number m q leads e = read _ _ _ (places_of f) q 1 leads (λ words. one_of words (λ w. call_object class number w m e))

  call_by_reference : (class : TExpr) (number m : ℕ) (q : Pointer) → nat_le m (length (stack_of f)) ≡ true →
      Does n p s (reads (places_of f) q 1 (throws p s null_reference) (λ words. one_word words (λ w. meant.calls_object p s class number w (reverse (take m (stack_of f))) (drop (m + 1) (stack_of f))))) (by_reference p kinds class number f m (owner_pointer q))
  call_by_reference class number m Null e = comes
  call_by_reference class number m (InFrame level place i) e = call_led class number m (InFrame level place i) tt e
  call_by_reference class number m (InFresh level i) e = call_led class number m (InFresh level i) tt e
  call_by_reference class number m (InObject object index) e = call_led class number m (InObject object index) tt e
  call_by_reference class number m (InStatic kind index) e = call_led class number m (InStatic kind index) tt e

  call_boxed : (v : ℕ) (t class : TExpr) (number m : ℕ) (q : Pointer) → Leads q → nat_le m (length (stack_of f)) ≡ true →
      Does n p s (reads (places_of f) q (words_of p t) (throws p s null_reference) (λ words. boxes v words (λ o. meant.calls_object p s class number o (reverse (take m (stack_of f))) (drop (m + 1) (stack_of f))))) (calls_boxed p kinds v t class number q f m)
  unfolding calls_boxed
  call_boxed v t class number m q leads e = read _ _ _ (places_of f) q (words_of p t) leads (λ words. box v words (λ o. call_object class number o m e))

  call_by_box : (v : ℕ) (t class : TExpr) (number m : ℕ) (q : Pointer) → nat_le m (length (stack_of f)) ≡ true →
      Does n p s (reads (places_of f) q (words_of p t) (throws p s null_reference) (λ words. boxes v words (λ o. meant.calls_object p s class number o (reverse (take m (stack_of f))) (drop (m + 1) (stack_of f))))) (by_box p kinds v t class number f m (owner_pointer q))
  call_by_box v t class number m Null e = comes
  call_by_box v t class number m (InFrame level place i) e = call_boxed v t class number m (InFrame level place i) tt e
  call_by_box v t class number m (InFresh level i) e = call_boxed v t class number m (InFresh level i) tt e
  call_by_box v t class number m (InObject object index) e = call_boxed v t class number m (InObject object index) tt e
  call_by_box v t class number m (InStatic kind index) e = call_boxed v t class number m (InStatic kind index) tt e

  call_by_slot : (numbers : List ℕ) (t class : TExpr) (number m : ℕ) (q : Pointer) (slot : Option ℕ) → nat_le m (length (stack_of f)) ≡ true →
      Does n p s (meant.calls_value p s t class number numbers q (reverse (take m (stack_of f))) (drop (m + 1) (stack_of f)) slot) (by_slot p kinds numbers t class number q f m slot)
  unfolding pointed
  call_by_slot numbers t class number m q (Some slot) e = call_slot t slot (λ callee. Managed q) m e
  call_by_slot [] t class number m q None e = does_stuck n p s
  call_by_slot (v ∷ numbers) t class number m q None e = call_by_box v t class number m q e

  call_constrained : (b : Bool) (numbers : List ℕ) (t class : TExpr) (number m : ℕ) (q : Pointer) → nat_le m (length (stack_of f)) ≡ true →
      Does n p s (meant.calls_constrained p s b t class number numbers q (reverse (take m (stack_of f))) (drop (m + 1) (stack_of f)))
      (if b then by_reference p kinds class number f m (owner_pointer q) else by_slot p kinds numbers t class number q f m (slot_found p t class number))
  call_constrained true numbers t class number m q e = call_by_reference class number m q e
  call_constrained false numbers t class number m q e = call_by_slot numbers t class number m q (slot_found p t class number) e

  does_calls_constrained : (numbers : List ℕ) (t : TExpr) (named : MRef) → Does n p s (meant.on_call p s numbers (CallsConstrained t named) (stack_of f)) (calls_constrained p kinds numbers t named f)
  unfolding calls_constrained constrained
  does_calls_constrained numbers t named = look (method_found p named) (λ number e. look (method_at p number) (λ of_callee e2.
      pointer_first (λ q others rest. meant.calls_constrained p s (is_reference p (put_type f.top.method t)) (put_type f.top.method t) (put_type f.top.method named.class) number numbers q others rest) _ (length of_callee.params)
      (λ q e3. call_constrained (is_reference p (put_type f.top.method t)) numbers (put_type f.top.method t) (put_type f.top.method named.class) number (length of_callee.params) q e3)))

  -- New objects. ------------------------------------------------------------------------------

  build : (callee : MethodTree) (numbers : List ℕ) (m : ℕ) → Does n p s (takes m (stack_of f) [] (λ arguments rest. meant.creates p s true callee numbers arguments rest)) (called.builds p callee f m)
  unfolding called.builds
  build callee numbers m = all_taken (λ arguments rest. meant.creates p s true callee numbers arguments rest) _ (Managed (InFresh (length f.around.items) 0) ∷ []) m
      (same (meant.calls p s callee (Managed (InFresh (length f.around.items) 0) ∷ reverse (take m (stack_of f))) (drop m (stack_of f)) Built (replicate (words_of p callee.class) 0))
      (ap (λ l. meant.calls p s callee (Managed (InFresh l 0) ∷ reverse (take m (stack_of f))) (drop m (stack_of f)) Built (replicate (words_of p callee.class) 0)) (level_is d f))
      (call callee (Managed (InFresh (length f.around.items) 0) ∷ reverse (take m (stack_of f))) m Built (replicate (words_of p callee.class) 0)))

  -- there are as many values, or no rule
  has : (b : Bool) (next : Left) (v : Unit {0} → Talk Did) → (b ≡ true → Does n p s next (v tt)) → Does n p s (if b then next else Stuck) (say (where_so b (Ok tt)) >>= v)
  has true next v more = record { meets = (more refl).meets }
  has false next v more = record { meets = (does_stuck n p s).meets }

  allocate : (callee : MethodTree) (v m : ℕ) → Does n p s (takes m (stack_of f) [] (λ arguments rest. Ask (ask.Alloc v 0 (instance_words_of p callee.class)) (on_object (λ o. meant.calls p s callee (Plain Reference (o ∷ []) ∷ arguments) rest (Object o) [])))) (called.allocates p callee v f m)
  unfolding called.allocates has_values
  allocate callee v m = same (if nat_le m (length (stack_of f)) then Ask (ask.Alloc v 0 (instance_words_of p callee.class)) (on_object (λ o. meant.calls p s callee (Plain Reference (o ∷ []) ∷ reverse (take m (stack_of f))) (drop m (stack_of f)) (Object o) [])) else Stuck)
      (takes_all m (stack_of f) [] (λ arguments rest. Ask (ask.Alloc v 0 (instance_words_of p callee.class)) (on_object (λ o. meant.calls p s callee (Plain Reference (o ∷ []) ∷ arguments) rest (Object o) [])))
      ∙ ap (λ l. if nat_le m (length (stack_of f)) then Ask (ask.Alloc v 0 (instance_words_of p callee.class)) (on_object (λ o. meant.calls p s callee (Plain Reference (o ∷ []) ∷ l) (drop m (stack_of f)) (Object o) [])) else Stuck) (append-nil (reverse (take m (stack_of f)))))
      (has (nat_le m (length (stack_of f))) _ _ (λ e. ask_object (ask.Alloc v 0 (instance_words_of p callee.class)) (λ o.
      known_taken _ _ (Plain Reference (o ∷ []) ∷ []) m e (call callee (Plain Reference (o ∷ []) ∷ reverse (take m (stack_of f))) m (Object o) []))))

  none_taken : (m : ℕ) (stack taken : List Value) → takes m stack taken (λ arguments rest. Stuck) ≡ Stuck
  none_taken zero stack taken = refl
  none_taken (suc m) [] taken = refl
  none_taken (suc m) (v ∷ vs) taken = none_taken m vs (v ∷ taken)

  create_object : (callee : MethodTree) (m : ℕ) (o : Option ℕ) → Does n p s (takes m (stack_of f) [] (λ arguments rest. given o (λ v. Ask (ask.Alloc v 0 (instance_words_of p callee.class)) (on_object (λ o. meant.calls p s callee (Plain Reference (o ∷ []) ∷ arguments) rest (Object o) [])))))
      (say (there o) >>= (λ v. called.allocates p callee v f m))
  create_object callee m None = same Stuck (none_taken m (stack_of f) []) (record { meets = (does_stuck n p s).meets })
  create_object callee m (Some v) = record { meets = (allocate callee v m).meets }

  create : (b : Bool) (callee : MethodTree) (numbers : List ℕ) (m : ℕ) → Does n p s (takes m (stack_of f) [] (λ arguments rest. meant.creates p s b callee numbers arguments rest))
      (if b then called.builds p callee f m else (say (there (slice_get numbers 1)) >>= (λ v. called.allocates p callee v f m)))
  create true callee numbers m = build callee numbers m
  create false callee numbers m = create_object callee m (slice_get numbers 1)

  does_creates : (numbers : List ℕ) (named : MRef) → Does n p s (meant.on_call p s numbers (Creates named) (stack_of f)) (creates p numbers named f)
  unfolding creates
  does_creates numbers named = look (method_found p named) (λ number e. look (method_at p number) (λ of_callee e2.
      create (is_value p (put_type f.top.method named.class)) (callee_of f.top.method named number) numbers (length of_callee.params)))

  -- Returns. ------------------------------------------------------------------------------------

  does_over : Does n p s Over over
  does_over = record { meets = λ ys. over_meets n ys (finish p s) }

  resume : (fr : Frame) (fs : List Frame) (pl : List Places) (stack : List Value) → Does n p s (meant.resumes p s fr fs pl stack) (pure (Goes (record { frames = moved fr (fr.at + 1) stack ∷ fs; places = pl })))
  resume fr fs pl stack = same (Next (record { frames = moved fr (fr.at + 1) stack ∷ fs; places = pl })) (ap (λ i. Next (record { frames = moved fr i stack ∷ fs; places = pl })) (sym (add-one fr.at))) comes

  return_to : (a : Awaited) (fr : Frame) (fs : List Frame) (pl : List Places) (result : List Value) → Does n p s (meant.returns_to p s a fr fs pl result) (say (returns_to a (fr ∷ fs) pl result))
  return_to Nothing fr fs pl result = does_stuck n p s
  return_to Returned fr fs pl result = resume fr fs pl _
  return_to (Object o) fr fs pl result = resume fr fs pl _
  return_to Built fr fs pl result = resume fr fs _ _

  back : (fs : List Frame) (result : List Value) → Does n p s (meant.returns p s fs result) (returns_from (awaited_of fs) fs (outer (places_of f)) result)
  unfolding finishes
  back [] result = ask_done _ ask.Finish does_over
  back (fr ∷ fs) result = return_to fr.awaits fr fs (outer (places_of f)) result

  back_with : (t : Option TExpr) → Does n p s (meant.returns_with p s t (stack_of f)) (say (result_kept p f.top.method f t) >>= returns_from (awaited_of (frames_around f)) (frames_around f) (outer (places_of f)))
  unfolding kept_result value_kept
  back_with None = record { meets = (back (frames_around f) []).meets }
  back_with (Some t) =
      silent_both (value_at f 0) (λ v. after (value_kept p (put_type f.top.method t) v) (λ u. Ok (u ∷ []))) _ (pop _ _ f 0 (λ v e.
      silent_both (value_kept p (put_type f.top.method t) v) (λ u. Ok (u ∷ [])) _
      (silent_both (words_kept p (put_type f.top.method t) v) (λ words. Ok (Plain (kind_of p (put_type f.top.method t)) words)) _
      (silently (keeps p (put_type f.top.method t) v) (mute_kept p (put_type f.top.method t) v) (λ words. record { meets = (back (frames_around f) (Plain (kind_of p (put_type f.top.method t)) words ∷ [])).meets })))))

  does_returns : (numbers : List ℕ) → Does n p s (meant.on_call p s numbers Returns (stack_of f)) (called.returns p d f)
  unfolding called.returns
  does_returns numbers = back_with d.result

  pub does_call_forms : (numbers : List ℕ) (form : CallForm) → Does n p s (meant.on_call p s numbers form (stack_of f)) (acted.on_call p kinds d numbers form f)
  does_call_forms numbers (Calls named) = does_calls numbers named
  does_call_forms numbers (CallsSlot named) = does_calls_slot numbers named
  does_call_forms numbers (CallsConstrained t named) = does_calls_constrained numbers t named
  does_call_forms numbers (Creates named) = does_creates numbers named
  does_call_forms numbers Returns = does_returns numbers
