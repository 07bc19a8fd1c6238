use Rattle.std.proofs.Common.{◌∙◌, sym}
use Rattle.aot_image.proofs.ChoosingNameLemmas.{counts_more}
use Rattle.aot_image.proofs.choice_names.count_more.Goals as goal
use Rattle.aot_image.proofs.choice_names.count_more.Goals.{in-Ok, in-Err}

pub returns-clause-counts : goal.returns-clause-counts
returns-clause-counts c =
    elim c.match-insert.branch [
      | in-Ok w ↦
          rw w.result-is
          (λ texts counts.
          counts_more (λ k. k.items) c.args.counts.now c.insert.new.self c.args.text c.count_of-before.result texts
          (sym c.count_of-before.ensures) (w.in-Ok.ensures {u = tt}).updates.0 counts)
      | in-Err w ↦ rw w.result-is tt
    ]

pub returns-clause-before : goal.returns-clause-before
returns-clause-before c =
    elim c.match-insert.branch [
      | in-Ok w ↦ rw w.result-is (λ texts counts. c.count_of-before.ensures ∙ counts.count c.args.text)
      | in-Err w ↦ rw w.result-is tt
    ]
