use Rattle.std.proofs.Common.{◌∙◌, bytes_eq}
use Rattle.il_model.proofs.NamesLemmas.{position_of_map}
use Rattle.il_model.proofs.names.place.Goals as goal

pub returns-clause-place : goal.returns-clause-place
returns-clause-place c =
    c.get_index_of.ensures.index ∙ position_of_map (λ k. k.items) (λ known. bytes_eq c.args.name.now known) c.args.known.now.keys
