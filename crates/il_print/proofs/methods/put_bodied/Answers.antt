use Rattle.il_model.specs.Canonical.{method_head}
use Rattle.il_print.specs.ClassNames.{names_of}
use Rattle.il_print.proofs.LineLemmas.{bodiless, bodied}
use Rattle.il_print.proofs.methods.put_bodied.Goals as goal

pub returns-in_ok-put-in-Some : goal.returns-in_ok-put-in-Some
returns-in_ok-put-in-Some c =
    let names = names_of c.args.classes.now in
    let m = c.args.method.now in
    bodied names c.args.literals.now c.args.is_entry (method_head names m) m.body c.in-Some.body c.args.text.now
    c.put_head_line-in-Some.new.text c.put_body.new.text c.put.new.self c.in-Some.is
    c.in_ok-put_head_line-in-Some.ensures c.in_ok-put_body-in-Some.ensures c.in_ok-put-in-Some.ensures

pub returns-in_ok-put_head_line-in-None : goal.returns-in_ok-put_head_line-in-None
returns-in_ok-put_head_line-in-None c =
    let names = names_of c.args.classes.now in
    let m = c.args.method.now in
    bodiless names c.args.literals.now c.args.is_entry (method_head names m) m.body c.args.text.now c.put_head_line.new.text c.in-None.is
    c.in_ok-put_head_line-in-None.ensures
