use Rattle.std.proofs.Common.{◌≡◌, ℕ, List, Some, slice_get, sym, ap, ◌∙◌}
use Rattle.il_model.specs.declared.class.FieldDef.{FieldDef}
use Rattle.cil_verify.specs.TypeSets.{listed_in}
use Rattle.cil_verify.proofs.LayoutLemmas.{few_variables, own_fits, field_fits}
use Rattle.cil_verify.proofs.layouts.has_layout.Goals as goal

pub own_of-requires : goal.own_of-requires
own_of-requires c = few_variables c.args.program.now c.args.number c.args.class.now c.requires.at c.requires.hierarchy

pub comes_back-requires-clause-few : goal.comes_back-requires-clause-few
comes_back-requires-clause-few c =
    own_fits c.args.program.now c.args.number c.args.class.now (listed_in c.args.whole.now) c.requires.at c.requires.hierarchy c.requires.closure

pub has_own_struct-requires : goal.has_own_struct-requires
has_own_struct-requires c = λ place f is.
    let here : slice_get c.args.class.now.fields place ≡ Some f = ap (λ (fs : List FieldDef). slice_get fs place) (sym c.as_slice.ensures) ∙ is in
    field_fits c.args.program.now c.args.number c.args.class.now (listed_in c.args.whole.now) c.requires.at c.requires.hierarchy c.requires.closure place f here
