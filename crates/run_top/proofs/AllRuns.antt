-- Facts of every run of one thread, whatever the image.
use Rattle.std.proofs.Common.{◌≡◌, ◌<◌, ℕ, zero, suc, ◌+◌, List, [], ◌∷◌, ◌++◌, Bool, true, false, Some, None, length, length-append, get_or, refl, sym, subst, arith}
use Rattle.interaction.specs.declared.history.Event.{Event}
use Rattle.interaction.specs.Thread.{Turn, Did, Asked, what_of}
use Rattle.interaction.specs.Run.{Taken, World, Outcome, Ending, Done as AllDone, TurnsUsed, StuckAt, FullAt, Idle, with_value}
use Rattle.store_object.specs.declared.request.Form.TheVariants.{Number}
use Rattle.store_object.specs.declared.request.Request.{Request}
use Rattle.store_object.specs.declared.request.Request.TheVariants.{Print, Finish}
use Rattle.store_object.specs.declared.reply.Reply.{Reply}
use Rattle.store_object.specs.declared.reply.Reply.TheVariants.{Done}
use Rattle.store_object.specs.Store.{Store}
use Rattle.run_top.specs.declared.machine.Mode.TheVariants.{Gone}
use Rattle.run_top.specs.Machine.{Thread, Wish, want, start}
use Rattle.run_top.specs.Run.{image_run, notes_of, numbers}
use Rattle.run_top.specs.Executed.{IsExecuted, AllExecuted, IsFirst, IsFirstEvent, AllFirst}
use Rattle.run_top.specs.Executed as first
use Rattle.run_top.proofs.TurnKinds.{Kind, goes, prints, leaves, faults, over as is_over, kind_of}
use Rattle.run_top.proofs.OneThread.{Moves, lone, store_of, taken, event, IsNow, from, did, asked, faulted, over}
use Rattle.run_top.proofs.Running.{length-numbers}

-- each turn is thread 0's, and an executed word is a code word of the image
abbrev pub AllSound : List ℕ → List (Taken Request Reply) → Type 0
AllSound image [] = Unit {0}
AllSound image (t ∷ ts) = (t.thread ≡ 0) × IsExecuted image (what_of t.turn) × AllSound image ts

sound_snoc : (image : List ℕ) (ts : List (Taken Request Reply)) (turn : Turn Request Reply) → IsExecuted image (what_of turn) → AllSound image ts → AllSound image (ts ++ taken turn ∷ [])
sound_snoc image [] turn h all = (refl, h, tt)
sound_snoc image (t ∷ ts) turn h all = (all.0, all.1, sound_snoc image ts turn h all.2)

-- what an ending says of the last world; `total` is the number of turns that the schedule has
abbrev pub Closes : ℕ → World Request Reply Thread Store → Ending Thread → Type 0
Closes total y AllDone = y.store ≡ store_of false
Closes total y TurnsUsed = (length y.turns ≡ total) × (y.store ≡ store_of true)
Closes total y (StuckAt u s) = Unit {0}
Closes total y (FullAt u s) = ⊥
Closes total y (Idle u) = ⊥

-- each event is one of the first form
abbrev pub AllAsked : List (Event Request Reply) → Type 0
AllAsked [] = Unit {0}
AllAsked (e ∷ es) = IsFirstEvent e × AllAsked es

asked_snoc : (es : List (Event Request Reply)) (r : Request) → IsFirst r → AllAsked es → AllAsked (es ++ event r ∷ [])
asked_snoc [] r h all = (record { thread = refl; request = h; reply = refl }, tt)
asked_snoc (e ∷ es) r h all = (all.0, asked_snoc es r h all.1)

pub record Ended (image : List ℕ) (total : ℕ) (o : Outcome Request Reply Thread Store) : Type 0 where
  pub sound : AllSound image o.world.turns
  pub asks : AllAsked o.world.history
  pub closes : Closes total o.world o.ending

module _ (image : List ℕ) (words : ℕ) where
  -- a thread that has finished isn't live
  pub record Past (moved : Moves) (live : Bool) (history : List (Event Request Reply)) (turns : List (Taken Request Reply)) (t : Thread) : Type 0 where
    pub now : IsNow image words moved t
    pub sound : AllSound image turns
    pub asks : AllAsked history
    pub gone : t.mode ≡ Gone → live ≡ false

  ends_over : (ks : List ℕ) (moved : Moves) (history : List (Event Request Reply)) (turns : List (Taken Request Reply)) (total : ℕ) → AllSound image turns → AllAsked history → Ended image total (from image words ks (lone moved false history turns))
  ends_over ks moved history turns total all asks = subst (Ended image total) (sym (over image words moved history turns ks)) (record { sound = all; asks = asks; closes = refl })

  pub ends : (ks : List ℕ) (moved : Moves) (live : Bool) (history : List (Event Request Reply)) (turns : List (Taken Request Reply)) (t : Thread) (total : ℕ) → length turns + length ks ≡ total → Past moved live history turns t → Ended image total (from image words ks (lone moved live history turns))
  ends ks moved false history turns t total sum past = ends_over ks moved history turns total past.sound past.asks
  ends [] moved true history turns t total sum past = record { sound = past.sound; asks = past.asks; closes = (omega (arith, sum), refl) }
  ends (k ∷ ks) moved true history turns t total sum past = by_kind (λ moved' live' history' turns' t'. ends ks moved' live' history' turns' t' total) (want image t) refl (kind_of image t)
    where
      longer : (turn : Turn Request Reply) → length (turns ++ taken turn ∷ []) + length ks ≡ total
      longer turn = omega (arith, sum, length-append turns (taken turn ∷ []))

      by_kind : ((moved' : Moves) (live' : Bool) (history' : List (Event Request Reply)) (turns' : List (Taken Request Reply)) (t' : Thread) → length turns' + length ks ≡ total → Past moved' live' history' turns' t' → Ended image total (from image words ks (lone moved' live' history' turns'))) → (w : Wish) → want image t ≡ w → Kind image t w → Ended image total (from image words (k ∷ ks) (lone moved true history turns))
      by_kind go _ is (goes {what = what} {next = next} e g) =
          subst (Ended image total) (sym (did image words moved history turns k ks t past.now what next is))
          (go (with_value moved 0 (Some next)) true history (turns ++ taken (Did what) ∷ []) next (longer (Did what)) (record { now = refl; sound = sound_snoc image turns (Did what) e past.sound; asks = past.asks; gone = λ h. absurd (g h) }))
      by_kind go _ is (prints {word = word} {next = next} g) =
          let turn = Asked (record { request = Print Number word; reply = Done }) in
          subst (Ended image total) (sym (asked image words moved history turns k ks t past.now (Print Number word) next (first.prints word) is))
          (go (with_value moved 0 (Some (next Done))) true (history ++ event (Print Number word) ∷ []) (turns ++ taken turn ∷ []) (next Done) (longer turn) (record { now = refl; sound = sound_snoc image turns turn tt past.sound; asks = asked_snoc history (Print Number word) (first.prints word) past.asks; gone = λ h. absurd (g Done h) }))
      by_kind go _ is (leaves {next = next}) =
          let turn = Asked (record { request = Finish; reply = Done }) in
          subst (Ended image total) (sym (asked image words moved history turns k ks t past.now Finish next first.leaves is))
          (ends_over ks (with_value moved 0 (Some (next Done))) (history ++ event Finish ∷ []) (turns ++ taken turn ∷ []) total (sound_snoc image turns turn tt past.sound) (asked_snoc history Finish first.leaves past.asks))
      by_kind go _ is faults = subst (Ended image total) (sym (faulted image words moved history turns k ks t past.now is)) (record { sound = past.sound; asks = past.asks; closes = tt })
      by_kind go _ is (is_over g) = absurd (let dead = past.gone g in cc dead)

  -- every run of the image
  pub run_ended : (limit : ℕ) → Ended image limit (image_run image words limit)
  run_ended limit = ends (numbers 0 limit) (λ u. None) true [] [] (start words) limit (let l = length-numbers 0 limit in omega arith) (record { now = refl; sound = tt; asks = tt; gone = λ h. cc h })

-- as they are noted
pub executed : (image : List ℕ) (ts : List (Taken Request Reply)) → AllSound image ts → AllExecuted image (notes_of ts)
executed image [] all k d lt = absurd (omega (arith, lt))
executed image (t ∷ ts) all k d lt = by_place k lt (λ j lt'. executed image ts all.2 j d lt')
  where
    by_place : (k : ℕ) → k < length (notes_of (t ∷ ts)) → ((j : ℕ) → j < length (notes_of ts) → IsExecuted image (get_or (notes_of ts) j d).what) → IsExecuted image (get_or (notes_of (t ∷ ts)) k d).what
    by_place zero lt later = all.1
    by_place (suc j) lt later = later j (omega (arith, lt))

-- as a fact on each place
pub all_first : (es : List (Event Request Reply)) → AllAsked es → AllFirst es
all_first [] all k d lt = absurd (omega (arith, lt))
all_first (e ∷ es) all k d lt = by_place k lt (λ j lt'. all_first es all.1 j d lt')
  where
    by_place : (k : ℕ) → k < length (e ∷ es) → ((j : ℕ) → j < length es → IsFirstEvent (get_or es j d)) → IsFirstEvent (get_or (e ∷ es) k d)
    by_place zero lt later = all.0
    by_place (suc j) lt later = later j (omega (arith, lt))
