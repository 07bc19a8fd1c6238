use Rattle.std.proofs.Common.{◌+◌, ◌<◌, length, refl, sym, ap, ◌∙◌, subst}
use Rattle.std.specs.Prelude.{slice_index}
use Rattle.rgctx_fill.proofs.TextLeaves.{text-leaves}
use Rattle.rgctx_fill.proofs.OpeningWords.{main-small, owner-small, opening-list}
use Rattle.rgctx_fill.proofs.beginning.opening_words.Goals as goal

pub main_class-owner-requires : goal.main_class-owner-requires
main_class-owner-requires c = text-leaves c.args.program.now c.requires.text

pub leaf_words-leaves-requires : goal.leaf_words-leaves-requires
leaf_words-leaves-requires c = record {
  main = main-small c.args.program.now (text-leaves c.args.program.now c.requires.text);
  owner = subst (λ n. 16 + n < 0x8000) (sym c.main_class-owner.ensures) (owner-small c.args.program.now (text-leaves c.args.program.now c.requires.text));
}

pub returns-in_err-words-clause-leaves : goal.returns-in_err-words-clause-leaves
returns-in_err-words-clause-leaves c = text-leaves c.args.program.now c.requires.text

pub returns-clause-leaves : goal.returns-clause-leaves
returns-clause-leaves c = text-leaves c.args.program.now c.requires.text

pub returns-clause-fit : goal.returns-clause-fit
returns-clause-fit c =
    opening-list c.args.program.now c.requires.text c.requires.main c.of.result
    (ap length c.of.ensures ∙ c.in_ok-words.ensures.count)
    (λ i. ap (λ words. slice_index words i) c.of.ensures ∙ c.in_ok-words.ensures.words i ∙ ap (λ words. slice_index words i) (c.leaf_words-leaves.ensures c.args.program.now refl (sym c.main_class-owner.ensures)))
