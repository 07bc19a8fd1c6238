-- What a call that makes the next turn of a thread answers and leaves, and a call that takes the reply to a request. This project's own.
use Rattle.std.specs.Prelude.{◌≡◌, ◌≢◌, ◌⊎◌, ℕ, Bool, List, Option}
use Rattle.store_object.specs.declared.reply.Reply.{Reply}
use Rattle.interaction.specs.declared.turn.What.{What}
use Rattle.interaction.specs.declared.turn.What.TheVariants as noted
use Rattle.rgctx_words.specs.Held.{Grows}
use Rattle.rgctx_template.specs.Catalogue.{CatData}
use Rattle.rgctx_fill.specs.declared.stage.FillNext.TheVariants as fill
use Rattle.rgctx_fill.specs.declared.thread.Want.{Want}
use Rattle.rgctx_fill.specs.declared.thread.Want.TheVariants as answers
use Rattle.rgctx_fill.specs.Ready.{IsLoaded, IsClaimed, claims_after}
use Rattle.rgctx_fill.specs.Reading.{IsUnknown}
use Rattle.rgctx_fill.specs.ThreadStates.{ThreadData, Move, Goes, Reads, Loads, Claims, Asks, IsFull, Faults, IsOver}

-- the words that are held before and after a call, with the claims that are listed, and whether nobody else writes them
pub record Span : Type 0 where
  pub alone : Bool
  pub before : ℕ → ℕ
  pub after : ℕ → ℕ
  pub listed : Option (List (ℕ × ℕ))
  pub relisted : Option (List (ℕ × ℕ))

abbrev pub span : Bool → (ℕ → ℕ) → (ℕ → ℕ) → Option (List (ℕ × ℕ)) → Option (List (ℕ × ℕ)) → Span
span alone before after listed relisted = record { alone = alone; before = before; after = after; listed = listed; relisted = relisted }

-- a part of the call began with these held words and ended with those
pub record Within (h : Span) (before after : ℕ → ℕ) : Type 0 where
  pub later : Grows h.before before
  pub sooner : Grows after h.after

-- the state is the one before
pub record IsSame (h : Span) (s : ThreadData) (answer said : Want) (new : ThreadData) : Type 0 where
  pub says : said ≡ answer
  pub state : new ≡ s
  pub claims : h.relisted ≡ h.listed

-- a turn that takes nothing
pub record IsGone (h : Span) (what : What) (t : ThreadData) (said : Want) (new : ThreadData) : Type 0 where
  pub says : said ≡ answers.Did what
  pub state : new ≡ t
  pub claims : h.relisted ≡ h.listed

-- a node's word, which a turn needs first, was answered as 0: the turn is that load, and the state stays
pub record IsTried (cat : CatData) (h : Span) (s : ThreadData) (i : ℕ) (said : Want) (new : ThreadData) : Type 0 where
  pub same : IsSame h s (answers.Did (noted.Load i)) said new
  pub unknown : IsUnknown cat h.before i

pub record HasLoaded (h : Span) (what : What) (i : ℕ) (next : ℕ → ThreadData) (said : Want) (new : ThreadData) : Type 0 where
  pub answer : ℕ
  pub loaded : IsLoaded h.alone h.before h.after i answer
  pub gone : IsGone h what (next answer) said new

pub record HasClaimed (h : Span) (i word : ℕ) (next : ℕ → ThreadData) (said : Want) (new : ThreadData) : Type 0 where
  pub answer : ℕ
  pub claimed : IsClaimed h.alone h.before h.after i word answer
  pub says : said ≡ answers.Did (noted.Claim i)
  pub state : new ≡ next answer
  pub claims : h.relisted ≡ claims_after h.listed (fill.Claim i word) answer

-- The call answers the turn, or why there is none, and the state afterwards is the turn's. A request leaves the state: its reply is still to come.
abbrev pub IsMade : CatData → Span → ThreadData → Move → Want → ThreadData → Type 0
IsMade cat h s (Goes what t) said new = IsGone h what t said new
IsMade cat h s (Reads i next) said new = IsTried cat h s i said new ⊎ ((h.after i ≢ 0) × IsMade cat h s (next (h.after i)) said new)
IsMade cat h s (Loads what i next) said new = HasLoaded h what i next said new
IsMade cat h s (Claims i word next) said new = HasClaimed h i word next said new
IsMade cat h s (Asks request next) said new = IsSame h s (answers.Ask request) said new
IsMade cat h s (IsFull region key) said new = IsSame h s (answers.Full region key) said new
IsMade cat h s (Faults fault) said new = IsSame h s (answers.Fault fault) said new
IsMade cat h s IsOver said new = ⊥

-- Whatever words were read first: where the turn is a request, the state is the one behind this reply.
abbrev pub IsReplied : Move → Reply → ThreadData → Type 0
IsReplied (Goes what t) reply new = Unit {0}
IsReplied (Reads i next) reply new = (word : ℕ) → IsReplied (next word) reply new
IsReplied (Loads what i next) reply new = Unit {0}
IsReplied (Claims i word next) reply new = Unit {0}
IsReplied (Asks request next) reply new = new ≡ next reply
IsReplied (IsFull region key) reply new = Unit {0}
IsReplied (Faults fault) reply new = Unit {0}
IsReplied IsOver reply new = Unit {0}
