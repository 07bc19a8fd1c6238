use Rattle.std.proofs.Common.{◌-◌, ◌^◌, min, sum_by, drop, length, sym, ap, ◌∙◌}
use Rattle.std.proofs.lemmas.List.{take_all}
use Rattle.il_model.specs.Library.{library_classes}
use Rattle.il_model.specs.Canonical.{class_lines}
use Rattle.il_model.proofs.CanonicalLemmas.{length-canonical_text}
use Rattle.il_print.specs.ClassNames.{names_of}
use Rattle.il_print.specs.Parts.{lines_text}
use Rattle.il_print.proofs.LineLemmas.{lines_length}
use Rattle.il_print.proofs.printing.canonical_length.Goals as goal

pub returns : goal.returns
returns c =
    let p = c.args.program.now in
    let own = drop (length library_classes) p.classes in
    let f = class_lines p (names_of p.classes) in
    c.loop-class.invariant
    ∙ ap (λ cs. min (sum_by (λ class. length (lines_text (f class))) cs) (2 ^ 64 - 1))
    (take_all c.loop-class.class-index c.own_classes-classes.result.now c.loop-class-test.false ∙ c.own_classes-classes.ensures)
    ∙ ap (λ n. min n (2 ^ 64 - 1)) (sym (lines_length f own) ∙ length-canonical_text p)
