use Rattle.std.proofs.Common.{◌∙◌, Some, map, ap}
use Rattle.il_model.specs.Trees.{with_new}
use Rattle.type_inst.proofs.KnownLemmas.{found_key, inserted}
use Rattle.type_inst.proofs.known.place_of.Goals as goal
use Rattle.type_inst.proofs.known.place_of.Goals.{in-Ok, in-Err}

pub returns-clause-list : goal.returns-clause-list
returns-clause-list c =
    elim c.match-insert_full.branch [
      | in-Ok w ↦
          rw w.result-is
          (ap (λ ks. map (λ k. k.kind) ks) (w.in-Ok.ensures {u = tt}).keys
          ∙ inserted (λ k. k.kind) c.all.inside.known.keys (record { kind = c.in_ok-kind.kind })
          ∙ ap (λ ts. with_new ts c.in_ok-kind.kind) c.all.view_is
          ∙ ap (λ t. with_new c.args.all.now t) (c.in_ok-kind.ensures {u = tt}))
      | in-Err w ↦ rw w.result-is tt
    ]

pub returns-clause-place : goal.returns-clause-place
returns-clause-place c =
    elim c.match-insert_full.branch [
      | in-Ok w ↦
          let stored = (w.in-Ok.ensures {u = tt}).stored in
          rw w.result-is
          (found_key (λ k. k.kind) c.insert_full.new.self.keys c.in_ok-kind.kind _ stored.0 stored.1 stored.2 ∙ ap Some (c.in_ok-kind.ensures {u = tt}))
      | in-Err w ↦ rw w.result-is tt
    ]
