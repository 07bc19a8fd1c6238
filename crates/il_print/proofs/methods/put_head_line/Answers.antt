use Rattle.std.proofs.Common.{[], ◌∷◌, ◌++◌, codes, replicate, ap, ◌∙◌}
use Rattle.il_model.specs.Canonical.{spaced, shape_text, params_words, method_head}
use Rattle.il_print.specs.ClassNames.{names_of}
use Rattle.il_print.specs.Parts.{named_words}
use Rattle.il_print.proofs.LineLemmas.{one_line, marked_head}
use Rattle.il_print.proofs.methods.put_head_line.Goals as goal

pub returns : goal.returns
returns c =
    let names = names_of c.args.classes.now in
    let m = c.args.method.now in
    one_line 1 c.args.text.now c.word.new.self c.put-2.new.self (method_head names m ++ c.args.mark.now ∷ [])
    (marked_head (codes ".method") ((shape_text m.shape ++ named_words names m) ++ params_words names m.params) c.args.mark.now
    (c.args.text.now ++ replicate 2 32) c.put_method_head.new.text c.word.new.self
    (c.in_ok-put_method_head.ensures ∙ ap (λ text. text ++ spaced (method_head names m)) c.in_ok-put.ensures) c.in_ok-word.ensures)
    c.in_ok-put-2.ensures
