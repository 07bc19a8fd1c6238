use Rattle.std.proofs.Common.{◌∙◌, ap, bytes_eq}
use Rattle.il_model.specs.Names.{place_of}
use Rattle.il_model.proofs.NamesLemmas.{position_of_map}
use Rattle.il_parse.proofs.literal_table.Literals.place.Goals as goal

pub returns : goal.returns
returns c =
    c.get_index_of.ensures.index ∙ position_of_map (λ k. k.items) (λ known. bytes_eq c.args.text.now known) c.self.inside.known.keys
    ∙ ap (λ known. place_of known c.args.text.now) c.self.view_is
