use Rattle.std.proofs.Common.{◌≡◌, ℕ, ◌+◌, ◌*◌, true, drop}
use Rattle.rgctx_words.specs.Held.{Grows}
use Rattle.rgctx_template.specs.declared.catalogue.Catalogue.{Catalogue}
use Rattle.rgctx_fill.proofs.ReadingLemmas.{Continues}
use Rattle.rgctx_fill.proofs.reading.+reading.Given as goal

abbrev pub decreases-node_tree : goal.decreases-node_tree
decreases-node_tree g l = 2 * l.node + 1

abbrev pub decreases-argument_types : goal.decreases-argument_types
decreases-argument_types g l = 2 * l.node

abbrev pub invariant-argument_types-loop-field : goal.invariant-argument_types-loop-field
invariant-argument_types-loop-field g l = record {
  place : g.W.Words.place l.words ≡ g.W.Words.place l.fn.words;
  alone : g.W.Words.alone l.words ≡ g.W.Words.alone l.fn.words;
  claims : g.W.Words.claims l.words ≡ g.W.Words.claims l.fn.words;
  grows : Grows (g.W.Words.held l.fn.words) (g.W.Words.held l.words);
  only : g.W.Words.alone l.fn.words ≡ true → (j : ℕ) → g.W.Words.held l.words j ≡ g.W.Words.held l.fn.words j;
  met : (under : Catalogue) → g.W.Words.meets under l.fn.words → g.W.Words.meets under l.words;
  reads : g.W.Words.meets l.cat l.fn.words → Continues (g.W.Words.held l.words) l.node l.fields l.types (drop l.field-index l.fields);
}
