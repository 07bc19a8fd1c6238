use Rattle.rgctx_template.proofs.FoundLemmas.{method_is_found}
use Rattle.unshared.proofs.found.method_found.Goals as goal

pub returns : goal.returns
returns c = method_is_found c.args.program.now c.args.named.now c.find_method.result c.find_method.ensures
