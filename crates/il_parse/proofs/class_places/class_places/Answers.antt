use Rattle.std.proofs.Common.{◌≡◌, ◌∙◌, [], ◌∷◌, ◌++◌, map, take, sym, ap, subst}
use Rattle.il_model.specs.declared.written.WrittenClass.{WrittenClass}
use Rattle.il_model.specs.Spellings.{plain_name}
use Rattle.il_parse.specs.Scopes.{FindsPlaces, declared_names, library_names}
use Rattle.il_parse.proofs.PlaceLemmas.{names_next, names_count, take_all}
use Rattle.il_parse.proofs.class_places.class_places.Goals as goal

pub loop-i-preserved : goal.loop-i-preserved
loop-i-preserved c =
    let name : c.as_bytes-name.result.now ≡ c.index-classes-i.result.name.name = c.as_bytes-name.ensures.value ∙ c.text.ensures ∙ ap (λ (d : WrittenClass). d.name.name) (sym c.index-classes-i.is) in
    let next = names_next plain_name library_names (λ (d : WrittenClass). d.name.name) c.args.classes.now c.loop-i.i c.index-classes-i.result c.loop-i-test.true c.index-classes-i.is in
    let count = names_count plain_name library_names (λ (d : WrittenClass). d.name.name) c.args.classes.now c.loop-i.i c.loop-i-test.true in
    subst (FindsPlaces (λ k. k.items) c.add_name.new.places) (ap (λ n. map plain_name (declared_names (take c.loop-i.i c.args.classes.now)) ++ plain_name n ∷ []) name ∙ next)
    ((c.in_ok-add_name.ensures {u = tt}).ok (map plain_name (declared_names (take c.loop-i.i c.args.classes.now))) count c.loop-i.invariant)

pub returns-clause-ok : goal.returns-clause-ok
returns-clause-ok c =
    subst (λ cs. FindsPlaces (λ k. k.items) c.loop-i.places (map plain_name (declared_names cs))) (take_all c.args.classes.now c.loop-i.i c.loop-i-test.false) c.loop-i.invariant
