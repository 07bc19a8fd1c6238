use Rattle.unshared.proofs.Naming.{list_names}
use Rattle.unshared.proofs.laws.lists_name_types.Goals as goal

pub returns : goal.returns
returns c = λ trees once few. list_names trees once few
