-- Lemmas on one write after another.
use Rattle.std.proofs.Common.{◌≡◌, ℕ, List, [], ◌++◌, Option, Result, Ok, Err, refl, sym, ap, ◌∙◌, append_assoc, arith, ◌≤◌, length, take, drop, get_or, ◌<◌, suc, drop-cons}
use Rattle.interaction.specs.declared.history.Event.{Event}
use Rattle.store_object.specs.declared.reply.Reply.{Reply}
use Rattle.store_object.specs.declared.request.Request.{Request}
use Rattle.run_top.specs.History.{line_of, output}
use Rattle.std.proofs.lemmas.Grind.{flat_map-append}
use Rattle.std.proofs.lemmas.List.{take-append-drop}
use Rattle.std.proofs.lemmas.List.{append-nil}
use Rattle.std.proofs.KnownBytes.{Appends-nil, Appends-trans}
use Rattle.std.specs.Io.KnownBytes.{Appends}
use Rattle.mn_outside.specs.declared.outside.Refused.{Refused}
use Rattle.mn_outside.specs.declared.outside.Refused.TheVariants.{Fault, NoMemory}
use Rattle.mn_outside.specs.declared.outside.Failed.{Failed}
use Rattle.mn_outside.specs.Causes.{AppendsPrefix, Wrote}

-- the bytes were put at the end, and no count fell
pub record Grew (before now : Option (List ℕ)) (faults_before faults_now : ℕ) (bytes : List ℕ) : Type 0 where
  pub grew : Appends before now bytes
  pub later : faults_before ≤ faults_now

pub whole : (a b : Option (List ℕ)) (x : List ℕ) → Appends a b x → AppendsPrefix a b x
whole a b x h = (x, [], sym (append-nil x), h)

pub nothing : (a : Option (List ℕ)) (x : List ℕ) → AppendsPrefix a a x
nothing a x = ([], x, refl, Appends-nil a)

pub longer : (a b : Option (List ℕ)) (x y : List ℕ) → AppendsPrefix a b x → AppendsPrefix a b (x ++ y)
longer a b x y h = (h.0, h.1 ++ y, ap (λ l. l ++ y) h.2 ∙ append_assoc h.0 h.1 y, h.3)

pub after : (a b c : Option (List ℕ)) (x y : List ℕ) → Appends a b x → AppendsPrefix b c y → AppendsPrefix a c (x ++ y)
after a b c x y g h = (x ++ h.0, h.1, ap (λ l. x ++ l) h.2 ∙ sym (append_assoc x h.0 h.1), Appends-trans a b c x h.0 g h.3)

pub grew_nothing : (a : Option (List ℕ)) (f : ℕ) → Grew a a f f []
grew_nothing a f = record { grew = Appends-nil a; later = omega arith }

module _ {T : Type 0} where
  -- a write that was done, and then another
  pub grew_wrote : (a b c : Option (List ℕ)) (f g h : ℕ) (r : Result T (Refused Failed)) (x y : List ℕ) → Grew a b f g x → Wrote b c g h r y → Wrote a c f h r (x ++ y)
  grew_wrote a b c f g h (Ok u) x y grew wrote = record { ok = Appends-trans a b c x y grew.grew wrote.ok; err = tt; cause = record { later = omega (arith, grew.later, wrote.cause.later); failed = tt } }
  grew_wrote a b c f g h (Err (Fault e)) x y grew wrote = record { ok = tt; err = after a b c x y grew.grew wrote.err; cause = record { later = omega (arith, grew.later, wrote.cause.later); failed = omega (arith, grew.later, wrote.cause.failed) } }
  grew_wrote a b c f g h (Err NoMemory) x y grew wrote = record { ok = tt; err = after a b c x y grew.grew wrote.err; cause = record { later = omega (arith, grew.later, wrote.cause.later); failed = tt } }

  -- a write that was refused stands for more bytes too
  pub refused : (a b : Option (List ℕ)) (f g : ℕ) (e : Refused Failed) (x y : List ℕ) → Wrote {T = T} a b f g (Err e) x → Wrote {T = T} a b f g (Err e) (x ++ y)
  refused a b f g e x y w = record { ok = w.ok; err = longer a b x y w.err; cause = w.cause }

  pub done : (a b c : Option (List ℕ)) (f g h : ℕ) (u : T) (x y : List ℕ) → Grew a b f g x → Wrote b c g h (Ok u) y → Grew a c f h (x ++ y)
  done a b c f g h u x y grew wrote = record { grew = Appends-trans a b c x y grew.grew wrote.ok; later = omega (arith, grew.later, wrote.cause.later) }

-- the output up to a line, the line, and the rest
pub output_at : (h : List (Event Request Reply)) (i : ℕ) (d : Event Request Reply) → i < length h → output h ≡ (output (take i h) ++ line_of (get_or h i d).request) ++ output (drop (suc i) h)
output_at h i d l =
    ap output (sym (take-append-drop i h)) ∙ flat_map-append (λ (e : Event Request Reply). line_of e.request) (take i h) (drop i h)
    ∙ ap (λ r. output (take i h) ++ output r) (drop-cons h i d l)
    ∙ sym (append_assoc (output (take i h)) (line_of (get_or h i d).request) (output (drop (suc i) h)))
