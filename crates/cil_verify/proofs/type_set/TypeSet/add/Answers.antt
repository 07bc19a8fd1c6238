use Rattle.std.proofs.Common.{List, map, ap, ◌∙◌}
use Rattle.cil_verify.specs.declared.type_set.TypeKey.{TypeKey}
use Rattle.cil_verify.proofs.ItemsLemmas.{inserted}
use Rattle.cil_verify.proofs.type_set.TypeSet.add.Goals as goal
use Rattle.cil_verify.proofs.type_set.TypeSet.add.Goals.{in-Ok, in-Err}

pub returns : goal.returns
returns c =
    let kind = λ (k : TypeKey). k.kind in
    elim c.match-insert.branch [
      | in-Ok w ↦
          rw w.result-is
          (ap (λ (ks : List TypeKey). map kind ks) (w.in-Ok.ensures {u = tt}).keys
          ∙ inserted kind c.args.self.now.known.keys (record { kind = c.args.kind }))
      | in-Err w ↦ rw w.result-is tt
    ]
