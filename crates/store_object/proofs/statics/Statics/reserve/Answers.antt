use Rattle.std.proofs.Common.{ap, unwrap_or}
use Rattle.store_object.proofs.statics.Statics.reserve.Goals as goal

pub returns-clause-same : goal.returns-clause-same
returns-clause-same c = λ kind index. ap (λ word. unwrap_or word 0) (c.reserve.ensures.entries.2 (record { kind = kind; index = index }))
