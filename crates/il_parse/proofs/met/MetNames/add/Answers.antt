use Rattle.std.proofs.Common.{◌∙◌, map, reverse, ap}
use Rattle.il_parse.specs.Scopes.{met_with}
use Rattle.il_parse.proofs.KeyLemmas.{met_with_is}
use Rattle.il_parse.proofs.met.MetNames.add.Goals as goal

pub returns-clause-ok : goal.returns-clause-ok
returns-clause-ok c =
    ap (λ ks. reverse (map (λ k. k.items) ks)) (c.in_ok-insert.ensures {u = tt}).keys
    ∙ met_with_is (λ k. k.items) c.self.inside.known.keys c.in_ok-bytes.bytes
    ∙ (λ i. met_with (c.self.view_is i) ((c.in_ok-bytes.ensures {u = tt}).items i))
