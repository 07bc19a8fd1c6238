use Rattle.std.proofs.Common.{◌∙◌, [], sym, rules, arith}
use Rattle.std.proofs.lemmas.Grind.{common_steps}
use Rattle.aot_image.specs.ChoosingMethods.{full_texts}
use Rattle.aot_image.proofs.ChoosingNameLemmas.{place_within, texts_count}
use Rattle.aot_image.proofs.choice_names.method_with.Goals as goal

pub number_of-requires : goal.number_of-requires
number_of-requires c =
    let found = (c.in-Some.ensures {u = tt}).value ∙ c.requires.methods.place c.args.text.now in
    let within = place_within (full_texts c.args.program.now) c.args.text.now c.in-Some.number.now (sym found) in
    let few = c.requires.few_methods in
    let count = texts_count c.args.program.now [] c.args.program.now.methods in
    first_of (search rules, grind (arith, common_steps))
