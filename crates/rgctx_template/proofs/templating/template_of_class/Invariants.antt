use Rattle.std.proofs.Common.{◌≡◌, ◌-◌, ◌++◌}
use Rattle.il_model.specs.Entries.{slots_from}
use Rattle.rgctx_template.proofs.templating.template_of_class.Given as goal

abbrev pub invariant-loop-number : goal.invariant-loop-number
invariant-loop-number l = l.entries ++ slots_from l.number (l.count - l.number) ≡ slots_from 0 l.count
