use Rattle.std.proofs.Common.{rules, [], ◌∷◌, codes}
use Rattle.il_model.specs.Canonical.{label_text, type_text}
use Rattle.il_print.proofs.LineLemmas.{three_lists}
use Rattle.il_print.proofs.bodies.put_catch.Goals as goal

pub returns : goal.returns
returns c =
    let p = c.args.scope.now in
    let clause = c.args.clause.now in
    three_lists (codes ".try") (label_text p.places clause.from ∷ codes "to" ∷ label_text p.places clause.to ∷ [])
    (codes "catch" ∷ type_text p.names c.args.kind.now ∷ codes "handler" ∷ [])
    (label_text p.places clause.handler ∷ codes "to" ∷ label_text p.places clause.end ∷ [])
    c.args.text.now c.put.new.self c.put_range.new.text c.put_caught.new.text c.put_range-2.new.text
    c.in_ok-put.ensures (search rules) (search rules) (search rules)
