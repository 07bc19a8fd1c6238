use Rattle.std.proofs.Common.{◌∙◌, [], flat_map, sym, ap}
use Rattle.std.proofs.Math.ListN.{drop_of_length-le}
use Rattle.il_model.specs.LookUp.{texts_of_method}
use Rattle.il_model.specs.Bounds.{all_methods}
use Rattle.il_parse.specs.Literals.{with_texts, texts_of_class}
use Rattle.il_parse.proofs.LiteralLemmas.{classes_texts, first_uses_is}
use Rattle.il_parse.proofs.literal_table.literals_of.Goals as goal

pub returns-clause-ok : goal.returns-clause-ok
returns-clause-ok c =
    sym (ap (λ cs. with_texts c.loop-class.literals (flat_map texts_of_class cs)) (drop_of_length-le c.args.classes.now c.loop-class-test.false))
    ∙ c.loop-class.invariant ∙ ap (with_texts []) (classes_texts c.args.classes.now)
    ∙ first_uses_is (flat_map texts_of_method (all_methods c.args.classes.now))
