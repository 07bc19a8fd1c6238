use Rattle.std.proofs.Common.{◌∙◌, is_some, sym, ap, bytes_eq}
use Rattle.std.specs.HashMap.{get_by}
use Rattle.indexmap.proofs.CallerLemmas.{insert_entry-new}
use Rattle.il_model.specs.Spellings.{plain_name}
use Rattle.il_parse.proofs.PlaceLemmas.{places_kept, places_added, none_of}
use Rattle.il_parse.proofs.class_places.add_name.Goals as goal

pub returns-then-contains_key-clause-ok : goal.returns-then-contains_key-clause-ok
returns-then-contains_key-clause-ok c = λ names long finds.
    places_kept (λ k. k.items) c.args.places.now names (plain_name c.args.name.now)
    (ap (λ n. is_some (get_by (λ k. bytes_eq n k.items) c.args.places.now)) (sym c.plain_name-name.ensures) ∙ sym c.contains_key.ensures ∙ c.if-contains_key.true)
    finds

pub returns-clause-ok : goal.returns-clause-ok
returns-clause-ok c = λ names long finds.
    places_added (λ k. k.items) c.args.places.now c.insert.new.self names (plain_name c.args.name.now) c.in_ok-key.key c.args.number
    ((c.in_ok-insert.ensures {u = tt}).entries
    ∙ insert_entry-new (λ a b. bytes_eq a.items b.items) c.args.places.now c.in_ok-key.key c.args.number
    (none_of (get_by (λ k. bytes_eq c.in_ok-key.key.items k.items) c.args.places.now)
    (ap (λ n. is_some (get_by (λ k. bytes_eq n k.items) c.args.places.now)) (c.in_ok-key.ensures {u = tt}).items ∙ sym c.contains_key.ensures ∙ c.if-contains_key.false)))
    ((c.in_ok-key.ensures {u = tt}).items ∙ c.plain_name-name.ensures) long finds
