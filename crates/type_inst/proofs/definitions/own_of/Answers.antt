use Rattle.std.proofs.Common.{sym, ap, ◌∙◌}
use Rattle.type_tree.specs.declared.tree.Head.TheVariants as head
use Rattle.type_tree.specs.Tree.{node}
use Rattle.il_model.specs.Bases.{own_of_class}
use Rattle.type_inst.proofs.DefinitionLemmas.{few_variables}
use Rattle.type_inst.proofs.definitions.own_of.Goals as goal

pub variables-requires : goal.variables-requires
variables-requires c = few_variables c.args.program.now c.args.number c.in-Some.class.now c.requires (sym (c.in-Some.ensures {u = tt}))

pub returns-in_ok-vars-in-Some : goal.returns-in_ok-vars-in-Some
returns-in_ok-vars-in-Some c =
    c.node.ensures
    ∙ ap (node (head.Class c.args.number)) (c.in_ok-vars-in-Some.ensures {u = tt})
    ∙ ap (own_of_class c.args.number) (c.in-Some.ensures {u = tt})

pub returns-in-None : goal.returns-in-None
returns-in-None c = c.plain.ensures ∙ ap (own_of_class c.args.number) (c.in-None.ensures {u = tt})
