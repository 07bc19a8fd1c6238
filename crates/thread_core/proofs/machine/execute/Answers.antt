use Rattle.std.proofs.Common.{◌≡◌, ℕ, Bool, Option, refl, ap}
use Rattle.rgctx_words.specs.Held.{Grows}
use Rattle.rgctx_template.specs.declared.catalogue.Catalogue.{Catalogue}
use Rattle.rv_machine.specs.Steps.{Steps}
use Rattle.rgctx_fill.specs.Moves.{Span, span}
use Rattle.thread_core.specs.declared.memory.Memory.{Memory}
use Rattle.thread_core.specs.Memory.{Reads, Writes}
use Rattle.thread_core.proofs.StepLemmas.{steps-made, steps-keep}
use Rattle.thread_core.proofs.machine.execute.Given.{Over}
use Rattle.thread_core.proofs.machine.execute.Goals as goal

module _ (g : Over) where
  abbrev Bus : Type 0
  Bus = Memory g.row.W.Denot

  abbrev spans : Bus → Bus → Span
  spans before after = span (g.W.Words.alone before.words.now) (g.W.Words.held before.words.now) (g.W.Words.held after.words.now) (g.W.Words.claims before.words.now) (g.W.Words.claims after.words.now)

  -- what every access keeps
  abbrev Keeps : Bus → Bus → Type 0
  Keeps before after =
      ((after.stack.ghost_name ≡ before.stack.ghost_name) × (after.words.ghost_name ≡ before.words.ghost_name))
      × ((g.W.Words.place after.words.now ≡ g.W.Words.place before.words.now) × (g.W.Words.alone after.words.now ≡ g.W.Words.alone before.words.now)
      × Grows (g.W.Words.held before.words.now) (g.W.Words.held after.words.now) × ((cat : Catalogue) → g.W.Words.meets cat before.words.now → g.W.Words.meets cat after.words.now))

  abbrev reads : Bus → ℕ → ℕ → Option ℕ → Bus → Type 0
  reads before address size answer after = Reads (spans before after) size address before.stack.now answer after.stack.now × Keeps before after

  abbrev writes : Bus → ℕ → ℕ → ℕ → Bool → Bus → Type 0
  writes before address size value done after = Writes (spans before after) size address before.stack.now value done after.stack.now × Keeps before after

  module _ (c : goal.After-step g) where
    steps : Steps reads writes c.args.code.now c.args.core.now c.args.memory.now c.step.result c.step.new.core c.step.new.bus
    steps = c.step.ensures

    keeps : Keeps c.args.memory.now c.step.new.bus
    keeps = steps-keep reads writes c.args.core.now c.step.new.core c.args.memory.now c.step.new.bus c.step.result (Keeps c.args.memory.now)
        ((refl, refl), (refl, refl, (λ j used. refl), λ cat met. met)) (λ address bytes answer r. r.1) (λ address bytes value done w. w.1) c.args.code.now steps

pub returns-clause-same_stack : goal.returns-clause-same_stack
returns-clause-same_stack g c = (keeps g c).0.0

pub returns-clause-same_words : goal.returns-clause-same_words
returns-clause-same_words g c = (keeps g c).0.1

pub returns-clause-place : goal.returns-clause-place
returns-clause-place g c = (keeps g c).1.0

pub returns-clause-alone : goal.returns-clause-alone
returns-clause-alone g c = (keeps g c).1.1

pub returns-clause-grows : goal.returns-clause-grows
returns-clause-grows g c = (keeps g c).1.2

pub returns-clause-met : goal.returns-clause-met
returns-clause-met g c = (keeps g c).1.3

pub returns-clause-turn : goal.returns-clause-turn
returns-clause-turn g c = λ cat doing word is.
    steps-made cat (spans g c.args.memory.now c.step.new.bus) c.args.core.now c.args.memory.now.stack.now doing word c.step.new.core c.step.new.bus.stack.now
    (reads g) (writes g) c.args.memory.now c.step.new.bus
    (λ e. (ap (λ (b : Bus g). b.stack.now) e, ap (λ (b : Bus g). g.W.Words.claims b.words.now) e))
    (λ address bytes answer r. r.0) (λ address bytes value done w. w.0)
    c.step.result c.args.code.now is (steps g c)
