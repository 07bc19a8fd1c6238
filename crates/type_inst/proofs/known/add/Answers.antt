use Rattle.std.proofs.Common.{◌∙◌, not, map, ap}
use Rattle.il_model.specs.Trees.{is_among, with_new}
use Rattle.type_inst.proofs.KnownLemmas.{any_key, inserted}
use Rattle.type_inst.proofs.known.add.Goals as goal
use Rattle.type_inst.proofs.known.add.Goals.{in-Ok, in-Err}

pub returns-clause-list : goal.returns-clause-list
returns-clause-list c =
    elim c.match-insert_full.branch [
      | in-Ok w ↦
          rw w.result-is
          (ap (λ ks. map (λ k. k.kind) ks) (w.in-Ok.ensures {u = tt}).keys
          ∙ inserted (λ k. k.kind) c.all.inside.known.keys (record { kind = c.in_ok-kind.kind })
          ∙ ap (λ ts. with_new ts c.in_ok-kind.kind) c.all.view_is
          ∙ ap (λ t. with_new c.args.all.now t) (c.in_ok-kind.ensures {u = tt}))
      | in-Err w ↦ rw w.result-is tt
    ]

pub returns-clause-fresh : goal.returns-clause-fresh
returns-clause-fresh c =
    elim c.match-insert_full.branch [
      | in-Ok w ↦
          rw w.result-is
          ((w.in-Ok.ensures {u = tt}).added
          ∙ ap not
          (any_key (λ k. k.kind) c.all.inside.known.keys c.in_ok-kind.kind
          ∙ ap (λ ts. is_among ts c.in_ok-kind.kind) c.all.view_is
          ∙ ap (λ t. is_among c.args.all.now t) (c.in_ok-kind.ensures {u = tt})))
      | in-Err w ↦ rw w.result-is tt
    ]
