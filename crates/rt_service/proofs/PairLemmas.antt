-- Turns that need the types of two nodes.
use Rattle.std.proofs.Common.{◌≡◌, ℕ, Bool, true, false, Some, None, if◌then◌else◌, sym, ◌∙◌}
use Rattle.std.specs.Prelude.{is_some}
use Rattle.rgctx_words.specs.Held.{Grows}
use Rattle.rgctx_template.specs.Catalogue.{CatData}
use Rattle.rgctx_fill.specs.declared.thread.Want.{Want}
use Rattle.rgctx_fill.specs.ThreadStates.{ThreadData, Move}
use Rattle.rgctx_fill.specs.ServiceReplies.{refuses}
use Rattle.rgctx_fill.specs.NodeReadings.{is_node_number, numbered}
use Rattle.rgctx_fill.specs.Moves.{Span, Within, IsMade}
use Rattle.rt_service.specs.Numbers.{node_number}

module _ (cat : CatData) (h : Span) (s : ThreadData) (said : Want) (new : ThreadData) where
  -- the number is that of a node, in use or not
  pub numbered_made : (n : ℕ) (next : Move) → is_some (node_number n) ≡ true → IsMade cat h s next said new → IsMade cat h s (numbered s n next) said new
  numbered_made n next = by_number (is_node_number n)
    where
      by_number : (b : Bool) → is_some (if b then Some n else None) ≡ true → IsMade cat h s next said new → IsMade cat h s (if b then next else refuses s) said new
      by_number true e made = made
      by_number false e made = cc

-- more words are held after each part of a call
pub grows_on : (first second third : ℕ → ℕ) → Grows first second → Grows second third → Grows first third
grows_on first second third more most = λ j used. most j (λ none. used (sym (more j used) ∙ none)) ∙ more j used

pub first_part : (h : Span) (first second third : ℕ → ℕ) → Within h first third → Grows second third → Within h first second
first_part h first second third within more = record { later = within.later; sooner = grows_on second third h.after more within.sooner }

pub second_part : (h : Span) (first second third : ℕ → ℕ) → Within h first third → Grows first second → Within h second third
second_part h first second third within more = record { later = grows_on h.before first second within.later more; sooner = within.sooner }
