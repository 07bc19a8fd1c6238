use Rattle.std.proofs.Common.{◌∙◌, rules, arith}
use Rattle.std.proofs.lemmas.Grind.{common_steps}
use Rattle.il_parse.specs.Looking.{each_of}
use Rattle.il_parse.specs.NamedTypes.{type_named, types_named}
use Rattle.il_parse.proofs.EachLemmas.{each_end, each_next}
use Rattle.il_parse.proofs.NamedTypeLemmas.{int32_is, int64_is, bool_is, object_is, string_is, variable_is, class_is, vector_is}
use Rattle.il_parse.proofs.named_types.+named.Goals as goal

pub type_named-returns-in-Int32 : goal.type_named-returns-in-Int32
type_named-returns-in-Int32 t c = rw (int32_is c.args.scope.now c.args.written.now c.in-Int32.is) (first_of (search rules, grind (arith, common_steps)))

pub type_named-returns-in-Int64 : goal.type_named-returns-in-Int64
type_named-returns-in-Int64 t c = rw (int64_is c.args.scope.now c.args.written.now c.in-Int64.is) (first_of (search rules, grind (arith, common_steps)))

pub type_named-returns-in-Bool : goal.type_named-returns-in-Bool
type_named-returns-in-Bool t c = rw (bool_is c.args.scope.now c.args.written.now c.in-Bool.is) (first_of (search rules, grind (arith, common_steps)))

pub type_named-returns-in-Object : goal.type_named-returns-in-Object
type_named-returns-in-Object t c = rw (object_is c.args.scope.now c.args.written.now c.in-Object.is) (first_of (search rules, grind (arith, common_steps)))

pub type_named-returns-in-String : goal.type_named-returns-in-String
type_named-returns-in-String t c = rw (string_is c.args.scope.now c.args.written.now c.in-String.is) (first_of (search rules, grind (arith, common_steps)))

pub type_named-returns-in-Variable : goal.type_named-returns-in-Variable
type_named-returns-in-Variable t c = rw (variable_is c.args.scope.now c.args.written.now c.in-Variable.v c.in-Variable.is) c.variable_named.ensures

pub type_named-returns-in-Named : goal.type_named-returns-in-Named
type_named-returns-in-Named t c =
    rw (class_is c.args.scope.now c.args.written.now c.in-Named.name c.in-Named.args c.in-Named.is, ← c.as_slice.ensures) c.class_type.ensures

pub type_named-returns-in-Vector : goal.type_named-returns-in-Vector
type_named-returns-in-Vector t c =
    rw (vector_is c.args.scope.now c.args.written.now c.in-Vector.element c.in-Vector.is, ← c.get.ensures) c.vector_type.ensures

pub types_named-loop-each-init : goal.types_named-loop-each-init
unfolding types_named each_of
types_named-loop-each-init t c = first_of (search rules, grind (arith, common_steps))

pub types_named-returns-in_err-type_named : goal.types_named-returns-in_err-type_named
types_named-returns-in_err-type_named t c =
    let e = c.loop-each.invariant ∙ each_next (type_named c.args.scope.now) c.loop-each.found c.args.written.now c.loop-each.each-index c.each-item.result c.loop-each-test.true c.each-item.is in
    first_of (search rules, grind (arith, common_steps))

pub types_named-loop-each-preserved : goal.types_named-loop-each-preserved
types_named-loop-each-preserved t c =
    let e = c.loop-each.invariant ∙ each_next (type_named c.args.scope.now) c.loop-each.found c.args.written.now c.loop-each.each-index c.each-item.result c.loop-each-test.true c.each-item.is in
    first_of (search rules, grind (arith, common_steps))

pub types_named-returns : goal.types_named-returns
types_named-returns t c =
    c.loop-each.invariant ∙ each_end (type_named c.args.scope.now) c.loop-each.found c.args.written.now c.loop-each.each-index c.loop-each-test.false
