use Rattle.std.proofs.Common.{◌≡◌, drop, flat_map, fold}
use Rattle.il_parse.specs.Signatures.{param_writes}
use Rattle.il_parse.proofs.hashing.feed_params.Given as goal

abbrev pub invariant-loop-param : goal.invariant-loop-param
invariant-loop-param g l =
    fold g.H.Hasher.write l.state (flat_map param_writes (drop l.param-index l.params)) ≡ fold g.H.Hasher.write l.initial.state (flat_map param_writes l.params)
