use Rattle.std.proofs.Common.{refl}
use Rattle.service_cases.proofs.images.opened.Goals as goal

pub returns : goal.returns
returns c = c.in_ok-words.ensures.fit c.args.view.now.cat refl
