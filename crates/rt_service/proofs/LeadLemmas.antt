-- Where a turn leads, whatever node words it reads first.
use Rattle.std.proofs.Common.{◌≡◌, ℕ, ⊎_elim, sym, subst}
use Rattle.store_object.specs.declared.reply.Reply.{Reply}
use Rattle.rgctx_template.specs.Catalogue.{CatData}
use Rattle.rgctx_fill.specs.declared.thread.Want.{Want}
use Rattle.rgctx_fill.specs.ThreadStates.{ThreadData, Move}
use Rattle.rgctx_fill.specs.ThreadStates as move
use Rattle.rgctx_fill.specs.Moves.{Span, IsMade, IsReplied}
use Rattle.rt_service.specs.GoingOn.{HasNoFill}

-- a private turn leads to states of one kind, and a request has a reply of another; no word is loaded or claimed, and the thread isn't over
abbrev pub Leads : (ThreadData → Type 0) → ((Reply → ThreadData) → Type 0) → Move → Type 0
Leads P Q (move.Goes what t) = P t
Leads P Q (move.Reads i next) = (word : ℕ) → Leads P Q (next word)
Leads P Q (move.Loads what i next) = ⊥
Leads P Q (move.Claims i word next) = ⊥
Leads P Q (move.Asks request next) = Q next
Leads P Q (move.IsFull region key) = Unit {0}
Leads P Q (move.Faults fault) = Unit {0}
Leads P Q move.IsOver = ⊥

abbrev pub Any : ThreadData → Type 0
Any t = Unit {0}

abbrev pub Quiet : ThreadData → Type 0
Quiet t = HasNoFill t.doing

abbrev pub Gives : Reply → ThreadData → (Reply → ThreadData) → Type 0
Gives reply new next = new ≡ next reply

abbrev pub AnyReply : (Reply → ThreadData) → Type 0
AnyReply next = Unit {0}

pub replied_of : (reply : Reply) (new : ThreadData) (m : Move) → Leads Any (Gives reply new) m → IsReplied m reply new
replied_of reply new (move.Goes what t) p = tt
replied_of reply new (move.Reads i next) p = λ word. replied_of reply new (next word) (p word)
replied_of reply new (move.Loads what i next) p = tt
replied_of reply new (move.Claims i word next) p = tt
replied_of reply new (move.Asks request next) p = p
replied_of reply new (move.IsFull region key) p = tt
replied_of reply new (move.Faults fault) p = tt
replied_of reply new move.IsOver p = tt

-- a turn that leads to no fill makes none
pub quiet_made : (cat : CatData) (h : Span) (s : ThreadData) (said : Want) (new : ThreadData) (m : Move) → Leads Quiet AnyReply m → IsMade cat h s m said new → HasNoFill s.doing → HasNoFill new.doing
quiet_made cat h s said new (move.Goes what t) p made none = subst Quiet (sym made.state) p
quiet_made cat h s said new (move.Reads i next) p made none =
    ⊎_elim (λ tried. subst Quiet (sym tried.same.state) none) (λ later. quiet_made cat h s said new (next (h.after i)) (p (h.after i)) later.1 none) made
quiet_made cat h s said new (move.Loads what i next) p made none = absurd p
quiet_made cat h s said new (move.Claims i word next) p made none = absurd p
quiet_made cat h s said new (move.Asks request next) p made none = subst Quiet (sym made.state) none
quiet_made cat h s said new (move.IsFull region key) p made none = subst Quiet (sym made.state) none
quiet_made cat h s said new (move.Faults fault) p made none = subst Quiet (sym made.state) none
quiet_made cat h s said new move.IsOver p made none = absurd made
