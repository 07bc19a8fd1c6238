use Rattle.std.proofs.Common.{◌∙◌, ap, sym, bytes_eq}
use Rattle.std.specs.Map.{lookup}
use Rattle.indexmap.proofs.CallerLemmas.{insert_entry-new}
use Rattle.il_parse.proofs.LabelLemmas.{new_noted, none_noted, none_there}
use Rattle.il_parse.proofs.labels.note.Goals as goal

pub returns-then-contains_key : goal.returns-then-contains_key
returns-then-contains_key c = λ other. none_noted (λ k. k.now) c.args.table.now.entries c.args.name.now c.args.number (sym c.contains_key.ensures ∙ c.if-contains_key.true) other

pub returns-in-Ok : goal.returns-in-Ok
returns-in-Ok c = λ other.
    ap (lookup (λ k. bytes_eq other k.now)) ((c.in-Ok.ensures {u = tt}).entries ∙ insert_entry-new _ c.args.table.now c.args.name c.args.number (none_there _ (sym c.contains_key.ensures ∙ c.if-contains_key.false)))
    ∙ new_noted (λ k. k.now) c.args.table.now.entries c.args.name c.args.number other
