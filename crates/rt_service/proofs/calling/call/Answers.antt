use Rattle.std.proofs.Common.{ℕ, ◌%◌, subst}
use Rattle.std.specs.Prelude.{slice_index}
use Rattle.rgctx_template.specs.Catalogue.{data_of}
use Rattle.rt_service.specs.Readings.{IsSpelled, IsRead}
use Rattle.rt_service.proofs.FillLemmas.{method_read}
use Rattle.rt_service.proofs.calling.call.Goals as goal

pub call_method-requires-clause-admitted : goal.call_method-requires-clause-admitted
call_method-requires-clause-admitted g c =
    let held : ℕ → ℕ = g.W.Words.held c.tree_at.new.words in
    let number : ℕ = c.args.value % 65536 in
    let s = g.met.W.Words.sound c.args.image.now.cat c.tree_at.new.words (c.tree_at.ensures.met c.args.image.now.cat c.requires.met) in
    let read : IsSpelled held number c.in-Spells-Method.field-0 = subst (IsRead held number) c.in-Spells-Method.is (c.in_ok-method.ensures {u = tt}).read in
    method_read (data_of c.args.image.now.cat) held (λ k. slice_index s.words k) s.fit.fits s.within number c.in-Spells-Method.method
    (subst (IsSpelled held number) c.in-Spells-Method.field-0-is read)
