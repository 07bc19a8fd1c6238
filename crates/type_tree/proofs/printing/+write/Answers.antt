use Rattle.std.proofs.Common.{rules, ◌≡◌, ◌++◌, [], ◌∷◌, arith, ap, ◌∙◌}
use Rattle.type_tree.specs.Printed.{printed}
use Rattle.type_tree.proofs.PrintedLemmas.{written_first, written_later}
use Rattle.type_tree.proofs.printing.+write.Goals as goal
use Rattle.type_tree.proofs.printing.+write.Goals.{write_list-then-i-ne0+in_ok-extend_from_slice, write_list-else-i-ne0}

pub write_list-loop-i-preserved : goal.write_list-loop-i-preserved
write_list-loop-i-preserved t c =
    let inside = c.loop-i-test.true in
    elim c.if-i-ne0.branch [
      | write_list-then-i-ne0+in_ok-extend_from_slice w ↦
          let mid : c.if-i-ne0.text.items ≡ c.loop-i.text.items ++ (44 ∷ []) = search rules in
          written_later (printed c.args.names.now) c.args.parts.now c.loop-i.i c.index-parts-i.result c.args.text.now.items
          c.loop-i.text.items c.write_tree.new.text.items inside (omega arith) c.index-parts-i.is c.loop-i.invariant
          (c.in_ok-write_tree.ensures ∙ ap (λ text. text ++ printed c.args.names.now c.index-parts-i.result) mid)
      | write_list-else-i-ne0 w ↦
          let mid : c.if-i-ne0.text.items ≡ c.loop-i.text.items = search rules in
          written_first (printed c.args.names.now) c.args.parts.now c.loop-i.i c.index-parts-i.result c.args.text.now.items
          c.loop-i.text.items c.write_tree.new.text.items inside (omega arith) c.index-parts-i.is c.loop-i.invariant
          (c.in_ok-write_tree.ensures ∙ ap (λ text. text ++ printed c.args.names.now c.index-parts-i.result) mid)
    ]
