use Rattle.got_plt.proofs.FetchLemmas.{stub_is, stub-count}
use Rattle.got_plt.proofs.fetching.stub.Goals as goal

pub returns-clause-items : goal.returns-clause-items
returns-clause-items c =
    stub_is c.args.asm.now c.emit_keep.new.asm c.fetch.new.asm c.emit_call.new.asm c.args.place (c.in_ok-emit_keep.ensures {u = tt}) c.in_ok-fetch.ensures.items (c.in_ok-emit_call.ensures {u = tt})

pub returns-clause-count : goal.returns-clause-count
returns-clause-count c = stub-count c.args.asm.now c.emit_call.new.asm c.args.place (returns-clause-items c)
