use Rattle.std.proofs.Common.{rules, ◌≡◌, ◌++◌, [], ◌∷◌, arith, ap, ◌∙◌}
use Rattle.il_model.specs.Canonical.{type_text}
use Rattle.type_tree.proofs.PrintedLemmas.{written_first, written_later}
use Rattle.il_print.specs.ClassNames.{names_of}
use Rattle.il_print.proofs.types.+write.Goals as goal
use Rattle.il_print.proofs.types.+write.Goals.{write_list-then-i-ne0+in_ok-put, write_list-else-i-ne0}

pub write_list-loop-i-preserved : goal.write_list-loop-i-preserved
write_list-loop-i-preserved t c =
    let inside = c.loop-i-test.true in
    let f = type_text (names_of c.args.classes.now) in
    elim c.if-i-ne0.branch [
      | write_list-then-i-ne0+in_ok-put w ↦
          let mid : c.if-i-ne0.text ≡ c.loop-i.text ++ (44 ∷ []) = search rules in
          written_later f c.args.parts.now c.loop-i.i c.index-parts-i.result c.args.text.now
          c.loop-i.text c.write_type.new.text inside (omega arith) c.index-parts-i.is c.loop-i.invariant
          (c.in_ok-write_type.ensures ∙ ap (λ text. text ++ f c.index-parts-i.result) mid)
      | write_list-else-i-ne0 w ↦
          let mid : c.if-i-ne0.text ≡ c.loop-i.text = search rules in
          written_first f c.args.parts.now c.loop-i.i c.index-parts-i.result c.args.text.now
          c.loop-i.text c.write_type.new.text inside (omega arith) c.index-parts-i.is c.loop-i.invariant
          (c.in_ok-write_type.ensures ∙ ap (λ text. text ++ f c.index-parts-i.result) mid)
    ]
