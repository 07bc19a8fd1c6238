use Rattle.std.proofs.Common.{ℕ, ◌+◌, ◌/◌, [], ap}
use Rattle.rv_isa.specs.Assembly.{Assembly}
use Rattle.got_plt.specs.declared.emitting.Labels.{Labels}
use Rattle.got_plt.specs.Fetches.{root_items, link_items, round_items, entry_items, fill_items}
use Rattle.got_plt.specs.Labels.{four_labels}
use Rattle.got_plt.proofs.FetchLemmas.{Grown, emitted, put, first_number, second_number, missing_number, done_number, fetch_is, fetch-count}
use Rattle.got_plt.proofs.fetching.fetch.Goals as goal

pub returns-clause-items : goal.returns-clause-items
returns-clause-items c =
    let old : Assembly = c.args.asm.now in
    let labels : Labels = c.in_ok-labels.labels in
    let rounds : ℕ = (c.depth_of.result + 2) / 2 in
    let made : Grown old c.make_labels.new.asm labels [] four_labels = record { are = c.in_ok-labels.ensures.labels; is = c.in_ok-labels.ensures.made } in
    let root = emitted (root_items rounds c.start_of.result) made (c.in_ok-emit_root.ensures {u = tt}) in
    let first = put root (first_number root) c.put_label.ensures in
    let link = emitted (link_items labels.missing) first (c.in_ok-emit_link.ensures {u = tt}) in
    let second = put link (second_number link) c.put_label-2.ensures in
    let next = emitted (link_items labels.missing) second (c.in_ok-emit_link-2.ensures {u = tt}) in
    let round = emitted (round_items labels.first) next (c.in_ok-emit_round.ensures {u = tt}) in
    let found = emitted (entry_items c.slot_of.result labels.done) round (c.in_ok-emit_entry.ensures {u = tt}) in
    let missing = put found (missing_number found) c.put_label-3.ensures in
    let fill = emitted (fill_items c.args.place) missing (c.in_ok-emit_fill.ensures {u = tt}) in
    let done = put fill (done_number fill) c.put_label-4.ensures in
    fetch_is c.args.place rounds c.slot_of.result c.start_of.result done c.start_of.ensures (ap (λ (depth : ℕ). (depth + 2) / 2) c.depth_of.ensures) c.slot_of.ensures.slot

pub returns-clause-count : goal.returns-clause-count
returns-clause-count c = fetch-count c.args.asm.now c.put_label-4.new.asm c.args.place (returns-clause-items c)
