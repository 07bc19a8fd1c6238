use Rattle.std.proofs.Common.{◌∙◌, Option, option_to_list, flat_map, sym, ap}
use Rattle.std.proofs.lemmas.List.{append-nil}
use Rattle.il_model.specs.declared.class.ClassDef.{ClassDef}
use Rattle.aot_image.proofs.decoding_bodies.vars_of_owner.Goals as goal

pub returns-in-Some : goal.returns-in-Some
returns-in-Some c =
    c.as_slice.ensures
    ∙ sym (append-nil c.in-Some.class.now.vars)
    ∙ ap (λ (o : Option ClassDef). flat_map (λ (d : ClassDef). d.vars) (option_to_list o)) (c.in-Some.ensures {u = tt})

pub returns-in-None : goal.returns-in-None
returns-in-None c = ap (λ (o : Option ClassDef). flat_map (λ (d : ClassDef). d.vars) (option_to_list o)) (c.in-None.ensures {u = tt})
