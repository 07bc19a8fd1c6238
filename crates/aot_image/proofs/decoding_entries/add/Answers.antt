use Rattle.std.proofs.Common.{◌∙◌, not, map, ap}
use Rattle.il_model.specs.Entries.{is_listed}
use Rattle.rgctx_template.specs.Collected.{added}
use Rattle.rgctx_template.proofs.KnownLemmas.{any_key, inserted}
use Rattle.aot_image.proofs.decoding_entries.add.Goals as goal
use Rattle.aot_image.proofs.decoding_entries.add.Goals.{in-Ok, in-Err}

pub returns-clause-list : goal.returns-clause-list
returns-clause-list c =
    elim c.match-insert_full.branch [
      | in-Ok w ↦
          rw w.result-is
          (ap (λ ks. map (λ k. k.entry) ks) (w.in-Ok.ensures {u = tt}).keys
          ∙ inserted (λ k. k.entry) c.entries.inside.known.keys (record { entry = c.args.entry })
          ∙ ap (λ listed. added listed c.args.entry) c.entries.view_is)
      | in-Err w ↦ rw w.result-is tt
    ]

pub returns-clause-fresh : goal.returns-clause-fresh
returns-clause-fresh c =
    elim c.match-insert_full.branch [
      | in-Ok w ↦
          rw w.result-is
          ((w.in-Ok.ensures {u = tt}).added
          ∙ ap not
          (any_key (λ k. k.entry) c.entries.inside.known.keys c.args.entry
          ∙ ap (λ es. is_listed es c.args.entry) c.entries.view_is))
      | in-Err w ↦ rw w.result-is tt
    ]
