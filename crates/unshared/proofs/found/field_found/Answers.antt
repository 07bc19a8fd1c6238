use Rattle.rgctx_template.proofs.FoundLemmas.{field_is_found}
use Rattle.unshared.proofs.found.field_found.Goals as goal

pub returns : goal.returns
returns c = field_is_found c.args.program.now c.args.named.now c.find_field.result c.find_field.ensures
