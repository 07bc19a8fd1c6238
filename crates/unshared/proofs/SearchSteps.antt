-- What the code of the search tells, one call behind another.
use Rattle.std.proofs.Common.{◌≡◌, ◌∙◌, ℕ, zero, suc, ◌+◌, Bool, true, false, List, [], ◌∷◌, drop, length, map, ◌≤◌, arith, Some, Result, Ok, Err, if◌then◌else◌, slice_get, refl, sym, ap, subst, add-one}
use Rattle.std.specs.Prelude.{OnOk}
use Rattle.mn_outside.specs.declared.outside.NoMemory.{NoMemory}
use Rattle.std.specs.Result.{IsErr, IsErrAnd}
use Rattle.std.proofs.lemmas.List.{length-reverse, length-map, drop_all}
use Rattle.type_tree.specs.declared.tree.TExpr.{TExpr}
use Rattle.il_model.specs.declared.program.Program.{Program}
use Rattle.il_model.specs.declared.entry.Entry.TheVariants as entry
use Rattle.il_model.specs.declared.layout.MethodTree.{MethodTree}
use Rattle.il_model.specs.declared.method.Clause.{Clause}
use Rattle.il_model.specs.declared.method.Sort.TheVariants as sort
use Rattle.il_model.specs.Library.{plain}
use Rattle.store_object.specs.declared.reply.Reply.{Reply}
use Rattle.store_object.specs.declared.request.Request.TheVariants as ask
use Rattle.cil_meaning.specs.Frames.{Frame, Places, Frames, outer}
use Rattle.cil_meaning.specs.Naming.{put_type}
use Rattle.cil_meaning.specs.Search.{Thrown, covers, clauses_of}
use Rattle.cil_meaning.specs.Types.{passes_as}
use Rattle.unshared.specs.declared.frames.Frames.{Frames as FramesHere}
use Rattle.unshared.specs.declared.pause.Halt.{Halt}
use Rattle.unshared.specs.declared.pause.Halt.TheVariants as halt
use Rattle.unshared.specs.declared.pause.Pause.{Pause}
use Rattle.unshared.specs.declared.pause.Pause.TheVariants as pause
use Rattle.unshared.specs.Growing.{Grown, Grows}
use Rattle.unshared.specs.Held.{the_frame, the_frames}
use Rattle.unshared.specs.Listed.{number_in}
use Rattle.unshared.specs.Searched.{Tells, sort_takes, takes, finds, handled, or_else, searched, raised, left_places}
use Rattle.unshared.specs.Settled.{settles_entry}
use Rattle.unshared.specs.Silent.{named}
use Rattle.unshared.specs.Talk.{Came, Talk, Talks, ◌>>=◌, and_then, pure, said, say, over, asks_done, asks_object}
use Rattle.unshared.proofs.NumberLemmas.{grown_both}

-- The first piece of two stops.
talks_on : {A B C D : Type 0} (seen : A → B) (see : C → D) (first : Came B) (next : B → Talk D) (whole : Came D) (zs us : List Reply) (x : Pause) → whole ≡ and_then first next → Talks seen first (Err x) zs → Tells see whole (Err x) us
talks_on seen see first next whole zs us (pause.Halts (halt.Asks r)) e is = e ∙ ap (λ c. and_then c next) is
talks_on seen see first next whole zs us (pause.Halts halt.Over) e is = e ∙ ap (λ c. and_then c next) is
talks_on seen see first next whole zs us (pause.Halts halt.Stuck) e is = e ∙ ap (λ c. and_then c next) is
talks_on seen see first next whole zs us (pause.Halts halt.Unnamed) e is = tt
talks_on seen see first next whole zs us pause.NoMemory e is = tt

pub talk_stops : {A B C D : Type 0} (seen : A → B) (see : C → D) (first : Came B) (next : B → Talk D) (whole : Came D) (zs us : List Reply) (r : Result C Pause) (x : Pause) → IsErr r × IsErrAnd r (λ e. e ≡ x) → whole ≡ and_then first next → Talks seen first (Err x) zs → Tells see whole r us
talk_stops seen see first next whole zs us (Ok v) x h e is = absurd h.1
talk_stops seen see first next whole zs us (Err y) x h e is = subst (λ z. Tells see whole (Err z) us) (sym h.1) (talks_on seen see first next whole zs us x e is)

tells_on : {A B C D : Type 0} (seen : A → B) (see : C → D) (first : Came B) (next : B → Talk D) (whole : Came D) (zs us : List Reply) (before after : List TExpr) (x : Pause) → Grows {A = A} before after (Err x) → (Grown before after → whole ≡ and_then first next) → Tells seen first (Err x) zs → Tells see whole (Err x) us
tells_on seen see first next whole zs us before after (pause.Halts (halt.Asks r)) grown e is = e grown ∙ ap (λ c. and_then c next) is
tells_on seen see first next whole zs us before after (pause.Halts halt.Over) grown e is = e grown ∙ ap (λ c. and_then c next) is
tells_on seen see first next whole zs us before after (pause.Halts halt.Stuck) grown e is = e grown ∙ ap (λ c. and_then c next) is
tells_on seen see first next whole zs us before after (pause.Halts halt.Unnamed) grown e is = tt
tells_on seen see first next whole zs us before after pause.NoMemory grown e is = tt

-- the same where types got numbers before it stopped
pub tell_stops : {A B C D : Type 0} (seen : A → B) (see : C → D) (first : Came B) (next : B → Talk D) (whole : Came D) (zs us : List Reply) (before after : List TExpr) (r : Result C Pause) (x : Pause) → IsErr r × IsErrAnd r (λ e. e ≡ x) → Grows {A = A} before after (Err x) →
    (Grown before after → whole ≡ and_then first next) → Tells seen first (Err x) zs → Tells see whole r us
tell_stops seen see first next whole zs us before after (Ok v) x h grown e is = absurd h.1
tell_stops seen see first next whole zs us before after (Err y) x h grown e is = subst (λ z. Tells see whole (Err z) us) (sym h.1) (tells_on seen see first next whole zs us before after x grown e is)

module _ (p : Program) (later : List TExpr) (m : MethodTree) (kind at : ℕ) (c : Clause) (ys : List Reply) where
  pub uncovered : covers c at ≡ false → takes p later m kind at c ys ≡ Ok (false, ys)
  unfolding takes
  uncovered e = ap (λ b. (if b then sort_takes p later m kind c.sort else pure false) ys) e

  pub finally_is : covers c at ≡ true → c.sort ≡ sort.Finally → takes p later m kind at c ys ≡ Err halt.Stuck
  unfolding takes
  finally_is e is = ap (λ b. (if b then sort_takes p later m kind c.sort else pure false) ys) e ∙ ap (λ s. sort_takes p later m kind s ys) is

  pub caught : (t u : TExpr) → covers c at ≡ true → c.sort ≡ sort.Catch t → u ≡ t → takes p later m kind at c ys ≡ and_then (settles_entry p later m (entry.Kind u) ys) (λ v. say (named (slice_get later kind)) >>= (λ exact. pure (passes_as p exact (put_type m t))))
  unfolding takes
  caught t u e is copy =
      ap (λ b. (if b then sort_takes p later m kind c.sort else pure false) ys) e ∙ ap (λ s. sort_takes p later m kind s ys) is
      ∙ ap (λ w. and_then (settles_entry p later m (entry.Kind w) ys) (λ v. say (named (slice_get later kind)) >>= (λ exact. pure (passes_as p exact (put_type m t))))) (sym copy)

  pub passes : (t u exact : TExpr) (v : ℕ) (b : Bool) (zs : List Reply) → covers c at ≡ true → c.sort ≡ sort.Catch t → u ≡ t → settles_entry p later m (entry.Kind u) ys ≡ Ok (v, zs) → slice_get later kind ≡ Some exact → b ≡ passes_as p exact (put_type m t) →
      takes p later m kind at c ys ≡ Ok (b, zs)
  passes t u exact v b zs e is copy settles named_so so =
      caught t u e is copy ∙ ap (λ r. and_then r (λ v. say (named (slice_get later kind)) >>= (λ exact. pure (passes_as p exact (put_type m t))))) settles
      ∙ ap (λ o. and_then (said (named o) zs) (λ exact. pure (passes_as p exact (put_type m t)))) named_so ∙ ap (λ b. Ok (b, zs)) (sym so)

-- Frames that are left. ---------------------------------------------------------

drop_one : {X : Type 0} (i : ℕ) (xs : List X) → drop 1 (drop i xs) ≡ drop (suc i) xs
drop_one zero xs = refl
drop_one (suc i) [] = refl
drop_one (suc i) (x ∷ xs) = drop_one i xs

pub frames_left : (i : ℕ) (whole old new : List Frame) → old ≡ drop i whole → drop 1 old ≡ new → new ≡ drop (i + 1) whole
frames_left i whole old new e left = sym left ∙ ap (drop 1) e ∙ drop_one i whole ∙ ap (λ k. drop k whole) (sym (add-one i))

pub places_left : (i : ℕ) (whole old new : List Places) → old ≡ left_places i whole → outer old ≡ new → new ≡ left_places (i + 1) whole
places_left i whole old new e left = sym left ∙ ap outer e ∙ ap (λ k. left_places k whole) (sym (add-one i))

pub handled_there : (r : Result (Unit {0}) NoMemory) (x : Thrown) (handler i n : ℕ) (now : Frames) (g f : Frame) (gs fs whole : List Frame) (pl whole_places : List Places) → i ≡ n → OnOk r (now ≡ handled x g gs pl handler) → g ∷ gs ≡ drop i whole → pl ≡ left_places i whole_places → drop n whole ≡ f ∷ fs →
    OnOk r (now ≡ handled x f fs (left_places n whole_places) handler)
handled_there (Err e) x handler i n now g f gs fs whole pl whole_places count is at places there_is = tt
handled_there (Ok u) x handler i n now g f gs fs whole pl whole_places count is at places there_is =
    let lists : g ∷ gs ≡ f ∷ fs = at ∙ ap (λ k. drop k whole) count ∙ there_is in
    let first : g ≡ f = cc lists in
    let rest : gs ≡ fs = cc lists in
    is ∙ ap (λ y. handled x y gs pl handler) first ∙ ap (λ ys. handled x f ys pl handler) rest ∙ ap (λ ps. handled x f fs ps handler) (places ∙ ap (λ k. left_places k whole_places) count)

-- The search, one frame after another. ---------------------------------------------

module _ (p : Program) (later : List TExpr) (x : Thrown) where
  pub searched_next : (f : Frame) (fs whole : List Frame) (pl : List Places) (ys : List Reply) → whole ≡ f ∷ fs →
      searched p later x whole pl ys ≡ and_then (finds p later f.method x.kind f.at (clauses_of p f.method) ys) (λ o. or_else o (handled x f fs pl) (searched p later x fs (outer pl)))
  unfolding searched
  searched_next f fs whole pl ys e = ap (λ l. searched p later x l pl ys) e

  pub searched_none : (whole : List Frame) (pl : List Places) (ys : List Reply) → whole ≡ [] → searched p later x whole pl ys ≡ and_then (asks_done (ask.Fall x.kind) ys) (λ u. over)
  unfolding searched
  searched_none whole pl ys e = ap (λ l. searched p later x l pl ys) e

drop_there : {X : Type 0} (i : ℕ) (xs : List X) (y : X) → slice_get xs i ≡ Some y → drop i xs ≡ y ∷ drop (suc i) xs
drop_there i [] y e = absurd (cc e)
drop_there zero (x ∷ xs) y e = let same : x ≡ y = cc e in ap (λ z. z ∷ xs) same
drop_there (suc i) (x ∷ xs) y e = drop_there i xs y e

module _ (p : Program) (later : List TExpr) (x : Thrown) where
  -- at the frame around so many others
  pub searched_at : (whole : Came Frames) (i : ℕ) (frames : List Frame) (places : List Places) (ys : List Reply) (f : Frame) → whole ≡ searched p later x (drop i frames) (left_places i places) ys → slice_get frames i ≡ Some f →
      whole ≡ and_then (finds p later f.method x.kind f.at (clauses_of p f.method) ys) (λ o. or_else o (handled x f (drop (i + 1) frames) (left_places i places)) (searched p later x (drop (i + 1) frames) (left_places (i + 1) places)))
  searched_at whole i frames places ys f e there_is =
      e ∙ searched_next p later x f (drop (suc i) frames) (drop i frames) (left_places i places) ys (drop_there i frames f there_is)
      ∙ ap (λ k. and_then (finds p later f.method x.kind f.at (clauses_of p f.method) ys) (λ o. or_else o (handled x f (drop k frames) (left_places i places)) (searched p later x (drop k frames) (left_places k places)))) (sym (add-one i))

pub drop_at : {X : Type 0} (i : ℕ) (xs : List X) (y : X) → slice_get xs i ≡ Some y → drop i xs ≡ y ∷ drop (i + 1) xs
drop_at i xs y e = drop_there i xs y e ∙ ap (λ k. y ∷ drop k xs) (sym (add-one i))

pub past_all : (f : FramesHere) (i k : ℕ) → k ≡ length f.around.items → k + 1 ≤ i → drop i (the_frames f).frames ≡ []
past_all f i k e far = let few : length (the_frames f).frames ≤ i = omega (arith, e, far, length-reverse (map the_frame f.around.items), length-map f.around.items the_frame) in drop_all i (the_frames f).frames few

pub halts_so : {C D : Type 0} (see : C → D) (whole : Came D) (h k : Halt) (us : List Reply) → whole ≡ Err k → h ≡ k → Tells see whole (Err (pause.Halts h)) us
halts_so see whole (halt.Asks r) k us e same = e ∙ ap Err (sym same)
halts_so see whole halt.Over k us e same = e ∙ ap Err (sym same)
halts_so see whole halt.Stuck k us e same = e ∙ ap Err (sym same)
halts_so see whole halt.Unnamed k us e same = tt

-- A new exception, and the search behind it. -----------------------------------------

pub grows_both : {A : Type 0} (xs ys zs : List TExpr) (r : Result A Pause) → Grown xs ys → Grows ys zs r → Grows xs zs r
grows_both xs ys zs (Ok a) first more = grown_both xs ys zs first more
grows_both xs ys zs (Err (pause.Halts h)) first more = grown_both xs ys zs first more
grows_both xs ys zs (Err pause.NoMemory) first more = tt

pub tells_by : {A B : Type 0} (see : A → B) (whole came : Came B) (r : Result A Pause) (rest : List Reply) (before after : List TExpr) → Grows before after r → (Grown before after → whole ≡ came) → Tells see came r rest → Tells see whole r rest
tells_by see whole came (Ok x) rest before after grown e is = e grown ∙ is
tells_by see whole came (Err (pause.Halts (halt.Asks r))) rest before after grown e is = e grown ∙ is
tells_by see whole came (Err (pause.Halts halt.Over)) rest before after grown e is = e grown ∙ is
tells_by see whole came (Err (pause.Halts halt.Stuck)) rest before after grown e is = e grown ∙ is
tells_by see whole came (Err (pause.Halts halt.Unnamed)) rest before after grown e is = tt
tells_by see whole came (Err pause.NoMemory) rest before after grown e is = tt

module _ (p : Program) (later : List TExpr) (class : ℕ) (s : Frames) (ys : List Reply) (kind : ℕ) (numbered : number_in later (plain class) ≡ Some kind) where
  pub raised_asks : raised p later class s ys ≡ and_then (asks_object (ask.Alloc kind 0 0) ys) (λ o. searched p later (record { object = o; kind = kind }) s.frames s.places)
  unfolding raised
  raised_asks = ap (λ n. and_then (said (named n) ys) (λ v. asks_object (ask.Alloc v 0 0) >>= (λ o. searched p later (record { object = o; kind = v }) s.frames s.places))) numbered

  pub raised_searches : (object : ℕ) (zs : List Reply) → asks_object (ask.Alloc kind 0 0) ys ≡ Ok (object, zs) → raised p later class s ys ≡ searched p later (record { object = object; kind = kind }) s.frames s.places zs
  raised_searches object zs given = raised_asks ∙ ap (λ r. and_then r (λ o. searched p later (record { object = o; kind = kind }) s.frames s.places)) given
