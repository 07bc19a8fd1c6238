use Rattle.std.proofs.Common.{◌∙◌, Some, sym, ap, bytes_eq, rules, arith}
use Rattle.std.proofs.lemmas.Grind.{common_steps}
use Rattle.std.specs.HashMap.{get_by}
use Rattle.il_model.specs.Spellings.{plain_name}
use Rattle.il_model.specs.Names.{plain_names}
use Rattle.aot_image.proofs.ChoosingNameLemmas.{place_within, length_plain}
use Rattle.aot_image.proofs.choice_names.class_named.Goals as goal

pub number_of-requires : goal.number_of-requires
number_of-requires c =
    let found = (c.in-Some.ensures {u = tt}).value ∙ ap (λ n. get_by (λ k. bytes_eq n k.items) c.args.tables.now.classes) c.plain_name.ensures ∙ c.requires.classes.place (plain_name c.args.name.now) in
    let within = place_within (plain_names c.args.program.now.classes) (plain_name c.args.name.now) c.in-Some.number.now (sym found) in
    let few = c.requires.few_classes in
    let count = length_plain c.args.program.now.classes in
    first_of (search rules, grind (arith, common_steps))

pub returns-in-Some : goal.returns-in-Some
returns-in-Some c =
    ap Some c.number_of.ensures ∙ (c.in-Some.ensures {u = tt}).value ∙ ap (λ n. get_by (λ k. bytes_eq n k.items) c.args.tables.now.classes) c.plain_name.ensures ∙ c.requires.classes.place (plain_name c.args.name.now)

pub returns-in-None : goal.returns-in-None
returns-in-None c =
    (c.in-None.ensures {u = tt}).value ∙ ap (λ n. get_by (λ k. bytes_eq n k.items) c.args.tables.now.classes) c.plain_name.ensures ∙ c.requires.classes.place (plain_name c.args.name.now)
