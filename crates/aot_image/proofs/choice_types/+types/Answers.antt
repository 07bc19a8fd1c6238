use Rattle.std.proofs.Common.{◌≡◌, ◌-◌, take, rules, arith}
use Rattle.std.proofs.lemmas.Grind.{common_steps}
use Rattle.aot_image.specs.declared.choice_start.Start.TheVariants as start
use Rattle.aot_image.specs.ChoosingTypes.{arguments_from, start_of, word_len, read_within}
use Rattle.aot_image.proofs.ChoosingTurns.{turn_left, none_left}
use Rattle.aot_image.proofs.ChoosingTypeLemmas.{type_flat, type_none, type_scalar, type_variable, type_class}
use Rattle.aot_image.proofs.choice_types.+types.Goals as goal

pub read_arguments-returns-in_err-kind : goal.read_arguments-returns-in_err-kind
unfolding arguments_from
read_arguments-returns-in_err-kind t c =
    let e = turn_left (λ n. arguments_from (read_within c.args.program.now (c.args.depth - 1)) n c.loop-turn.found c.loop-turn.cursor) _ c.loop-turn.turn c.loop-turn-test.true c.loop-turn.invariant in
    first_of (search rules, grind (arith, common_steps))

pub read_arguments-returns-in_err-expect : goal.read_arguments-returns-in_err-expect
unfolding arguments_from
read_arguments-returns-in_err-expect t c =
    let e = turn_left (λ n. arguments_from (read_within c.args.program.now (c.args.depth - 1)) n c.loop-turn.found c.loop-turn.cursor) _ c.loop-turn.turn c.loop-turn-test.true c.loop-turn.invariant in
    first_of (search rules, grind (arith, common_steps))

pub read_arguments-loop-turn-preserved : goal.read_arguments-loop-turn-preserved
unfolding arguments_from
read_arguments-loop-turn-preserved t c =
    let e = turn_left (λ n. arguments_from (read_within c.args.program.now (c.args.depth - 1)) n c.loop-turn.found c.loop-turn.cursor) _ c.loop-turn.turn c.loop-turn-test.true c.loop-turn.invariant in
    first_of (search rules, grind (arith, common_steps))

pub read_arguments-returns : goal.read_arguments-returns
unfolding arguments_from
read_arguments-returns t c =
    let e = none_left (λ n. arguments_from (read_within c.args.program.now (c.args.depth - 1)) n c.loop-turn.found c.loop-turn.cursor) _ c.loop-turn.turn c.loop-turn-test.false c.loop-turn.invariant in
    first_of (search rules, grind (arith, common_steps))

pub read_within-returns-then-depth-eq0 : goal.read_within-returns-then-depth-eq0
read_within-returns-then-depth-eq0 t c = type_flat c.args.program.now c.args.depth c.args.cursor.now c.if-depth-eq0.true

pub read_within-returns-in-NoType : goal.read_within-returns-in-NoType
read_within-returns-in-NoType t c =
    let is : start.NoType ≡ start_of c.args.program.now (take (word_len c.args.cursor.now) c.args.cursor.now) = first_of (search rules, grind (arith, common_steps)) in
    type_none c.args.program.now c.args.depth c.args.cursor.now c.if-depth-eq0.false is

pub read_within-returns-in-Scalar : goal.read_within-returns-in-Scalar
read_within-returns-in-Scalar t c =
    let is : start.Scalar c.in-Scalar.head ≡ start_of c.args.program.now (take (word_len c.args.cursor.now) c.args.cursor.now) = first_of (search rules, grind (arith, common_steps)) in
    let whole = type_scalar c.args.program.now c.args.depth c.in-Scalar.head c.args.cursor.now c.if-depth-eq0.false is in
    first_of (search rules, grind (arith, common_steps))

pub read_within-returns-in-Variable : goal.read_within-returns-in-Variable
read_within-returns-in-Variable t c =
    let is : start.Variable ≡ start_of c.args.program.now (take (word_len c.args.cursor.now) c.args.cursor.now) = first_of (search rules, grind (arith, common_steps)) in
    let whole = type_variable c.args.program.now c.args.depth c.args.cursor.now c.if-depth-eq0.false is in
    first_of (search rules, grind (arith, common_steps))

pub read_within-returns-in-Class : goal.read_within-returns-in-Class
read_within-returns-in-Class t c =
    let is : start.Class c.in-Class.number c.in-Class.arity ≡ start_of c.args.program.now (take (word_len c.args.cursor.now) c.args.cursor.now) = first_of (search rules, grind (arith, common_steps)) in
    let whole = type_class c.args.program.now c.args.depth c.in-Class.number c.in-Class.arity c.args.cursor.now c.if-depth-eq0.false is in
    first_of (search rules, grind (arith, common_steps))
