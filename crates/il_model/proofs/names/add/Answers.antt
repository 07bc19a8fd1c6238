use Rattle.std.proofs.Common.{◌∙◌, ap, map, refl, bytes_eq}
use Rattle.il_model.proofs.NamesLemmas.{items_after}
use Rattle.il_model.proofs.names.add.Goals as goal
use Rattle.il_model.proofs.names.add.Goals.{in-Ok, in-Err}

pub returns : goal.returns
returns c = elim c.match-insert.branch [ in-Ok w ↦ rw w.result-is (ap (λ ks. map (λ k. k.items) ks) (w.in-Ok.ensures {u = tt}).keys ∙ items_after (λ k. k.items) (λ a b. bytes_eq a.items b.items) (λ a b. refl) c.args.known.now.keys c.args.name c.requires) | in-Err w ↦ rw w.result-is tt ]
