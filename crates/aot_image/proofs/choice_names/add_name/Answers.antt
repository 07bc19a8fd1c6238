use Rattle.std.proofs.Common.{◌∙◌, is_some, refl, sym, ap, bytes_eq}
use Rattle.std.specs.HashMap.{get_by}
use Rattle.indexmap.proofs.CallerLemmas.{insert_entry-new}
use Rattle.aot_image.proofs.ChoosingNameLemmas.{places_kept, places_added, none_of}
use Rattle.aot_image.proofs.choice_names.add_name.Goals as goal
use Rattle.aot_image.proofs.choice_names.add_name.Goals.{in-Ok, in-Err}

pub returns-then-contains_key : goal.returns-then-contains_key
returns-then-contains_key c = λ names long finds.
    places_kept (λ k. k.items) c.args.places.now names c.args.name.items
    (ap (λ n. is_some (get_by (λ k. bytes_eq n k.items) c.args.places.now)) (sym c.as_slice.ensures.value) ∙ sym c.contains_key.ensures ∙ c.if-contains_key.true)
    finds

pub returns : goal.returns
returns c =
    elim c.match-insert.branch [
      | in-Ok w ↦
          rw w.result-is
          (λ names long finds.
          places_added (λ k. k.items) c.args.places.now c.insert.new.self names c.args.name.items c.args.name c.args.number
          ((w.in-Ok.ensures {u = tt}).entries
          ∙ insert_entry-new (λ a b. bytes_eq a.items b.items) c.args.places.now c.args.name c.args.number
          (none_of (get_by (λ k. bytes_eq c.args.name.items k.items) c.args.places.now)
          (ap (λ n. is_some (get_by (λ k. bytes_eq n k.items) c.args.places.now)) (sym c.as_slice.ensures.value) ∙ sym c.contains_key.ensures ∙ c.if-contains_key.false)))
          refl long finds)
      | in-Err w ↦ rw w.result-is tt
    ]
