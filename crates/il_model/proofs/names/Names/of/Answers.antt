use Rattle.std.proofs.Common.{◌∙◌, ap, take}
use Rattle.il_model.proofs.NamesLemmas.{distinct_take, keys_few}
use Rattle.il_model.proofs.names.Names.of.Goals as goal

pub known_names-requires : goal.known_names-requires
known_names-requires c = record {
  distinct = distinct_take 65536 c.args.program.now.classes c.front_of-classes.result.now (c.front_of-classes.ensures.front ∙ ap (λ xs. take 65536 xs) c.as_slice.ensures) c.requires.distinct;
}

pub invariant_of-result : goal.invariant_of-result
invariant_of-result c =
    keys_few (λ k. k.items) c.in_ok-known.known.keys c.front_of-classes.result.now 65536 (c.in_ok-known.ensures {u = tt}) c.front_of-classes.ensures.few
