use Rattle.std.proofs.Common.{◌≡◌, ◌∙◌, ℕ, ap, sym}
use Rattle.type_inst.proofs.OpeningLemmas.{extends_both}
use Rattle.store_object.specs.declared.request.Request.TheVariants as ask
use Rattle.il_model.specs.Library.{plain}
use Rattle.unshared.specs.Faults.{the_fault}
use Rattle.unshared.specs.Held.{the_frames}
use Rattle.unshared.specs.Listed.{number_in}
use Rattle.unshared.specs.Searched.{searched}
use Rattle.unshared.specs.Talk.{asks_object}
use Rattle.unshared.proofs.SearchSteps.{talk_stops, grows_both, tells_by, raised_asks, raised_searches}
use Rattle.unshared.proofs.search.throws.Goals as goal

pub returns-in_err-object-clause-tells : goal.returns-in_err-object-clause-tells
returns-in_err-object-clause-tells c = λ later ext.
    let class_is : c.plain-class.result ≡ plain (the_fault c.args.fault) = c.plain-class.ensures ∙ ap plain c.class_of_fault.ensures in
    let kind = c.in_ok-kind.kind in
    let s = the_frames c.args.frames.now in
    talk_stops {A = ℕ} (λ number. number) _ (asks_object (ask.Alloc kind 0 0) c.args.replies.now) (λ o. searched c.args.program.now later (record { object = o; kind = kind }) s.frames s.places) _ c.object.new.self c.object.new.self _ c.in_err-object.field-0.0 c.from_residual-in_err-object.ensures
    (raised_asks c.args.program.now later (the_fault c.args.fault) s c.args.replies.now kind (ap (number_in later) (sym class_is) ∙ (c.in_ok-kind.ensures {u = tt}).number later ext))
    (c.in_err-object.ensures {u = tt})

pub returns-clause-grows : goal.returns-clause-grows
returns-clause-grows c = grows_both _ _ _ c.searches.result (c.in_ok-kind.ensures {u = tt}).grows c.searches.ensures.grows

pub returns-clause-tells : goal.returns-clause-tells
returns-clause-tells c = λ later ext.
    let class_is : c.plain-class.result ≡ plain (the_fault c.args.fault) = c.plain-class.ensures ∙ ap plain c.class_of_fault.ensures in
    tells_by _ _ _ c.searches.result _ _ _ c.searches.ensures.grows
    (λ grown. raised_searches c.args.program.now later (the_fault c.args.fault) (the_frames c.args.frames.now) c.args.replies.now c.in_ok-kind.kind (ap (number_in later) (sym class_is) ∙ (c.in_ok-kind.ensures {u = tt}).number later (extends_both _ _ _ grown.extends ext)) c.in_ok-object.object c.object.new.self (c.in_ok-object.ensures {u = tt}))
    (c.searches.ensures.tells later ext)
