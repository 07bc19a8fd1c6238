-- A compiled program's image is sound: what its instance owes, and what each of its runs has.
use Rattle.std.proofs.Common.{◌≡◌, ◌<◌, ℕ, zero, suc, ◌+◌, ◌-◌, List, [], ◌∷◌, ◌++◌, map, length, length-append, Bool, true, false, Option, Some, None, refl, sym, ap, ◌∙◌, subst, arith, append_assoc, inl, inr}
use Rattle.std.specs.Prelude.{◌⊎◌, ◌&&◌, ◌==◌, if◌then◌else◌, slice_get}
use Rattle.std.proofs.Math.Seq.{get_or-append_seam}
use Rattle.std.proofs.lemmas.Option.{slice_get-get_or}
use Rattle.std.proofs.lemmas.List.{length-replicate}
use Rattle.run_top.specs.declared.first.FirstOp.{FirstOp}
use Rattle.run_top.specs.declared.first.FirstOp.TheVariants.{Push, Add, Print as PrintOp, Ret}
use Rattle.run_top.specs.WellFormed.{IsFine, IsWellFormed}
use Rattle.rv_isa.specs.declared.instr.Instr.TheVariants.{Ebreak}
use Rattle.rv_isa.specs.Word.{word_of}
use Rattle.interaction.specs.declared.history.Event.{Event}
use Rattle.interaction.specs.Thread.{Turn}
use Rattle.interaction.specs.History.{Begins, NeverStuck}
use Rattle.interaction.specs.Process.{Next, Over}
use Rattle.interaction.specs.Starts.{as_process, begun_by, begun_in}
use Rattle.interaction.specs.Safety.{FitsBegun, IsKept, Language, Safe, SafetyLaws, SafeStart}
use Rattle.interaction.specs.Run.{Machine}
use Rattle.interaction.specs.RunLaws.{RunLaws, ClaimsRight}
use Rattle.interaction.specs.Simulation as keeps
use Rattle.interaction.specs.Sound.{Sound, RunsWell}
use Rattle.interaction.proofs.Starting.{begin-grows}
use Rattle.interaction.proofs.NeverStuck.{language_begins, never_stuck}
use Rattle.interaction.proofs.Joining.{Together}
use Rattle.interaction.proofs.SoundRuns.{kept_is_sound, sound_runs_well}
use Rattle.store_object.specs.declared.request.Request.{Request}
use Rattle.store_object.specs.declared.request.Request.TheVariants.{Print, Finish}
use Rattle.store_object.specs.declared.request.Form.TheVariants.{Number}
use Rattle.store_object.specs.declared.reply.Reply.{Reply}
use Rattle.store_object.specs.declared.reply.Reply.TheVariants as says
use Rattle.store_object.specs.Answer.{is_named, served, answer}
use Rattle.store_object.specs.Replay.{store, is_halted, is_improper}
use Rattle.store_object.specs.Store.{Store, is_live}
use Rattle.store_object.proofs.StoreLaws.{asks_alive, lives_below, lives_other, starts_next, starts_none}
use Rattle.run_top.specs.Process.{Frame, Doing, act_of, meaning, naming, main, begun, starts, begin}
use Rattle.run_top.specs.Machine.{Thread, Wish, want, start}
use Rattle.run_top.specs.Code.{instrs_of, image_of, frame_words}
use Rattle.run_top.specs.Run.{machine_of, numbers, image_run}
use Rattle.run_top.proofs.TurnKinds.{Kind, goes, prints, leaves, faults, over, kind_of}
use Rattle.run_top.proofs.Follows.{HasAt, Before, At, before, sides, goes_on}

-- a list's elements stand behind others
has_all : {A : Type 0} (is front : List A) → HasAt (front ++ is) (length front) is
has_all [] front = tt
has_all {A} (i ∷ is) front =
    let within : length front < length (front ++ i ∷ is) = omega (arith, length-append front (i ∷ is)) in
    let here = slice_get-get_or (front ++ i ∷ is) (length front) i within ∙ ap Some (get_or-append_seam front i is i) in
    let n : length (front ++ i ∷ []) ≡ length front + 1 = omega (arith, length-append front (i ∷ [])) in
    let rest = subst (λ l. HasAt l (length (front ++ i ∷ [])) is) (append_assoc front (i ∷ []) is) (has_all is (front ++ i ∷ [])) in
    (here, subst (λ m. HasAt (front ++ i ∷ is) m is) n rest)

-- only the reply Thread starts a thread
begun_thread : {A : Type 0} (place : A) (y : Reply) (b : ℕ × A) → begun place y ≡ Some b → y ≡ says.Thread b.0
begun_thread place (says.Object object) b e = absurd (cc e)
begun_thread place (says.Kind kind) b e = absurd (cc e)
begun_thread place (says.Word word) b e = absurd (cc e)
begun_thread place (says.Thread thread) b e = ap (λ o. says.Thread (number_of o)) e
  where
    number_of : {A : Type 0} → Option (ℕ × A) → ℕ
    number_of None = 0
    number_of (Some b) = b.0
begun_thread place (says.Ended has_finished) b e = absurd (cc e)
begun_thread place says.Unknown b e = absurd (cc e)
begun_thread place says.Done b e = absurd (cc e)
begun_thread place (says.Stopped why) b e = absurd (cc e)
begun_thread place says.Halted b e = absurd (cc e)
begun_thread place says.Improper b e = absurd (cc e)

begun_no_thread : {A : Type 0} (place : A) (y : Reply) → begun place y ≡ None → (n : ℕ) → y ≡ says.Thread n → ⊥
begun_no_thread place y e n is = let some : begun place y ≡ Some (n, place) = ap (begun place) is in absurd (cc (some, e))

-- this machine touches no word of the context
pub claims_none : (image context : List ℕ) (t : Thread) → ClaimsRight context (want image t)
claims_none image context t = by_kind (want image t) (kind_of image t)
  where
    by_kind : (w : Wish) → Kind image t w → ClaimsRight context w
    by_kind _ (goes e g) = tt
    by_kind _ (prints g) = tt
    by_kind _ leaves = tt
    by_kind _ faults = tt
    by_kind _ (over g) = tt

abbrev pub Fit : List ℕ → Type 0
Fit context = Unit {0}

abbrev pub Held : List ℕ → Thread → Type 0
Held context t = Unit {0}

abbrev pub Known : List ℕ → List (Turn Request Reply) → ℕ → Type 0
Known context turns i = ⊥

-- a fact on how a live thread's request is answered, where all that it names is there
on_live : (P : Reply × Store → Type 0) (y : Store) (u : ℕ) (r : Request) → is_live y u ≡ true → is_named y r ≡ true → P (says.Halted, y) → P (served y u r) → P (answer y u r)
on_live P y u r live named halted given = by_two y.is_over (is_live y u && is_named y r) (rw (live, named) refl)
  where
    by_two : (is_over test : Bool) → test ≡ true → P (if is_over then (says.Halted, y) else (if test then served y u r else (says.Improper, y)))
    by_two true test e = halted
    by_two false true e = given
    by_two false false e = absurd (cc e)

pub machine_laws : (image : List ℕ) (words : ℕ) → RunLaws (machine_of image words) Fit Held Known
machine_laws image words = record {
  begin_grows = λ d r u s e. begin-grows (start words) (starts (start words)) d r u s e;
  begin_holds = λ w h u s f e. tt;
  later_holds = λ w v s g h. tt;
  turn_fits = λ w v s t turn f h g m wr silent. (tt, tt);
  claims_right = λ w s f h. claims_none image w s;
  known_stands = λ w v s t turns i f g ts k. absurd k;
}

-- the rest of the instructions, from a place on, in order at the stack
pub record Fits (ops : List FirstOp) (frame : Frame) : Type 0 where
  pub rest : List FirstOp
  pub stand : HasAt ops frame.place rest
  pub fine : IsFine (length frame.stack) rest

module _ (ops : List FirstOp) where
  abbrev pub language : Language ⊥ ⊥ Request Reply Frame Store
  language = record {
    object = store;
    naming = naming;
    meaning = meaning ops;
    starts = starts main;
    Typed = λ x. Unit {0};
    Grows = λ x y. Unit {0};
    Fits = λ x frame. Fits ops frame;
  }

  -- a live thread's request is answered, or all has ended; what comes after it is safe
  safe_ask : (u : ℕ) (y : Store) (r : Request) (left : Doing) → is_live y u ≡ true → is_named y r ≡ true → begun main (served y u r).0 ≡ None → is_improper (served y u r).0 ≡ false → ((left ≡ Over) ⊎ (is_live (served y u r).1 u ≡ true)) → ((x : Store) → Safe language u x left)
      → (is_improper (answer y u r).0 ≡ false) × (is_halted (answer y u r).0 ≡ false → IsKept language u (answer y u r).1 r (answer y u r).0 left (Safe language u (answer y u r).1 left))
  safe_ask u y r left live named none proper lives safe =
      on_live (λ (p : Reply × Store). (is_improper p.0 ≡ false) × (is_halted p.0 ≡ false → IsKept language u p.1 r p.0 left (Safe language u p.1 left))) y u r live named
      (refl, λ halted. absurd (cc halted))
      (proper, λ halted. (tt, subst (FitsBegun language (served y u r).1) (sym none) tt, lives, safe (served y u r).1))

  safe_act : (u : ℕ) (x : Store) (place : ℕ) (stack : List ℕ) (rest : List FirstOp) → HasAt ops place rest → IsFine (length stack) rest → Safe language u x (act_of (slice_get ops place) place stack)
  safe_act u x place stack [] has fine = absurd fine
  safe_act u x place stack (Push n ∷ rest) has fine =
      let d : length stack + 1 ≡ suc (length stack) = omega arith in
      rw has.0 (record { rest = rest; stand = has.1; fine = subst (λ e. IsFine e rest) d fine.1 })
  safe_act u x place [] (Add ∷ rest) has fine = absurd (omega (arith, fine.0))
  safe_act u x place (b ∷ []) (Add ∷ rest) has fine = absurd (omega (arith, fine.0))
  safe_act u x place (b ∷ a ∷ stack) (Add ∷ rest) has fine =
      let d : length (b ∷ a ∷ stack) - 1 ≡ suc (length stack) = omega arith in
      rw has.0 (record { rest = rest; stand = has.1; fine = subst (λ e. IsFine e rest) d fine.1 })
  safe_act u x place [] (PrintOp ∷ rest) has fine = absurd (omega (arith, fine.0))
  safe_act u x place (a ∷ stack) (PrintOp ∷ rest) has fine =
      let d : length (a ∷ stack) - 1 ≡ length stack = omega arith in
      rw has.0 (λ y g typed live. safe_ask u y (Print Number a) (Next (record { place = place + 1; stack = stack })) live refl refl refl (inr live) (λ x. record { rest = rest; stand = has.1; fine = subst (λ e. IsFine e rest) d fine.1 }))
  safe_act u x place [] (Ret ∷ []) has fine = rw has.0 (λ y g typed live. safe_ask u y Finish Over live refl refl refl (inl refl) (λ x. tt))
  safe_act u x place (a ∷ stack) (Ret ∷ []) has fine = absurd (omega (arith, fine))
  safe_act u x place stack (Ret ∷ op ∷ rest) has fine = absurd fine

  begins_none : (x : Store) (t : ℕ) (r : Request) → starts main r (answer x t r).0 ≡ None → length (answer x t r).1.finished ≡ length x.finished
  begins_none x t r none = starts_none x t r (begun_no_thread main (answer x t r).0 none)

  begins_one : (x : Store) (t : ℕ) (r : Request) (b : ℕ × Frame) → starts main r (answer x t r).0 ≡ Some b → (b.0 ≡ length x.finished) × (length (answer x t r).1.finished ≡ suc (length x.finished))
  begins_one x t r b is = let start = starts_next x t r b.0 (begun_thread main (answer x t r).0 b is) in (start.number, start.count)

  pub laws : SafetyLaws language
  laws = record {
    grows_self = λ x. tt;
    grows_then = λ x y z g h. tt;
    grows_after = λ x t r. tt;
    fits_later = λ x y f g h. h;
    steps = λ u x f h. safe_act u x f.place f.stack h.rest h.stand h.fine;
    lives_below = lives_below;
    lives_other = lives_other;
    asks_alive = asks_alive;
    begins_none = begins_none;
    begins_one = λ x t r b live halted is. begins_one x t r b is;
    begun_lives = λ x t r b typed live halted is. (starts_next x t r b.0 (begun_thread main (answer x t r).0 b is)).lives;
  }

module _ (ops : List FirstOp) (well : IsWellFormed ops) where
  abbrev image : List ℕ
  image = image_of ops

  abbrev words : ℕ
  words = frame_words ops

  abbrev pub machine : Machine Request Reply Thread Store
  machine = machine_of image words

  safe_start : SafeStart (language ops) main
  safe_start = record { typed = tt; one = refl; lives = refl; fits = record { rest = ops; stand = has_all ops []; fine = well.fine } }

  -- process and thread begin together
  starts_before : Before ops image ops 0 1 (start words).x (start words).frame []
  starts_before = record {
    code = has_all ops [];
    has = has_all (map word_of (instrs_of 0 ops)) (word_of Ebreak ∷ []);
    fine = well.fine;
    low = omega (arith, well.few);
    few = omega arith;
    room = let l = length-replicate {A = ℕ} (words - 8) 0 in omega (arith, l);
    rests = record { base = refl; registers = refl; stands = tt };
  }

  -- a reply that starts a thread, before those that begin so
  begin_more : (context : List ℕ) (y : Reply) (u : ℕ) (op : Option Frame) (os : Option Thread) → Together (sides ops image context) (At ops image) store begin (as_process op) os
      → Together (sides ops image context) (At ops image) store begin (as_process (begun_by u (begun main y) op)) (begun_by u (begun (start words) y) os)
  begin_more context (says.Object object) u op os later = later
  begin_more context (says.Kind kind) u op os later = later
  begin_more context (says.Word word) u op os later = later
  begin_more context (says.Thread thread) u op os later = by_number (thread == u)
    where
      by_number : (test : Bool) → Together (sides ops image context) (At ops image) store begin (as_process (if test then Some main else op)) (if test then Some (start words) else os)
      by_number true = keeps.arrives (before starts_before)
      by_number false = later
  begin_more context (says.Ended has_finished) u op os later = later
  begin_more context says.Unknown u op os later = later
  begin_more context says.Done u op os later = later
  begin_more context (says.Stopped why) u op os later = later
  begin_more context says.Halted u op os later = later
  begin_more context says.Improper u op os later = later

  -- every thread begins so
  all_begin : (context : List ℕ) (h : List (Event Request Reply)) (u : ℕ) → Together (sides ops image context) (At ops image) store begin (as_process (begun_in (starts main) h u)) (begun_in (starts (start words)) h u)
  all_begin context [] u = tt
  all_begin context (e ∷ h) u = begin_more context e.reply u (begun_in (starts main) h u) (begun_in (starts (start words)) h u) (all_begin context h u)

  pub together : (context : List ℕ) (h : List (Event Request Reply)) (u : ℕ) → Together (sides ops image context) (At ops image) store begin (begin h u) (machine.begin h u)
  together context h zero = keeps.arrives (before starts_before)
  together context h (suc u) = all_begin context h (suc u)

  pub begins_so : Begins store begin
  begins_so = language_begins (language ops) (laws ops) main safe_start

  pub stuck_never : NeverStuck store naming (meaning ops) begin
  stuck_never = never_stuck (language ops) (laws ops) main safe_start

  -- the image is sound
  pub image_sound : Sound machine Fit Known (λ context. naming) (meaning ops) begin
  image_sound = kept_is_sound machine Fit Known (λ context. naming) (meaning ops) begin (λ t. 0) (At ops image) begins_so (λ context fits q s at. goes_on ops image context q s at) (λ context fits. stuck_never) (λ context fits h u. together context h u)

  -- each run has a legal history, and does not end as stuck
  pub runs_well : (limit : ℕ) → RunsWell machine Fit (λ context. naming) (meaning ops) begin (image_run image words limit)
  runs_well limit = sound_runs_well machine Fit Known (λ context. naming) (meaning ops) begin Held (machine_laws image words) image_sound (start words) (numbers 0 limit) [] tt
