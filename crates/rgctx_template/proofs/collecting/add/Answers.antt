use Rattle.std.proofs.Common.{◌∙◌, ap, map}
use Rattle.rgctx_template.specs.Collected.{added}
use Rattle.rgctx_template.proofs.KnownLemmas.{inserted}
use Rattle.rgctx_template.proofs.collecting.add.Goals as goal
use Rattle.rgctx_template.proofs.collecting.add.Goals.{in-Ok, in-Err}

pub returns : goal.returns
returns c =
    elim c.match-insert.branch [
      | in-Ok w ↦
          rw w.result-is
          (ap (λ ks. map (λ k. k.entry) ks) (w.in-Ok.ensures {u = tt}).keys
          ∙ inserted (λ k. k.entry) c.entries.inside.known.keys (record { entry = c.args.entry })
          ∙ ap (λ listed. added listed c.args.entry) c.entries.view_is)
      | in-Err w ↦ rw w.result-is tt
    ]
