use Rattle.std.proofs.Common.{◌≡◌, ◌-◌, ap, ◌∙◌, sym, rules, arith}
use Rattle.std.proofs.lemmas.Grind.{common_steps}
use Rattle.il_parse.specs.Types.{inner_types_from, whole, class_name, no_type, head_of, read_vectors, read_applied}
use Rattle.il_parse.specs.Heads.{inner, head_view}
use Rattle.il_parse.proofs.Turns.{turn_left, none_left}
use Rattle.il_parse.proofs.ReadLemmas.{reads_as, refused}
use Rattle.il_parse.proofs.TypeLemmas.{type_flat, type_full, type_none, type_whole, type_named}
use Rattle.il_parse.proofs.types.+types.Goals as goal

pub inner_types-returns-in_err-kind : goal.inner_types-returns-in_err-kind
unfolding inner_types_from
inner_types-returns-in_err-kind t c =
    let e = turn_left (λ n. inner_types_from (inner c.args.depth) n c.loop-turn.found c.loop-turn.left c.loop-turn.cursor) _ c.loop-turn._turn c.loop-turn-test.true c.loop-turn.invariant in
    first_of (search rules, grind (arith, common_steps))

pub inner_types-returns-then-not-eat : goal.inner_types-returns-then-not-eat
unfolding inner_types_from
inner_types-returns-then-not-eat t c =
    let e = turn_left (λ n. inner_types_from (inner c.args.depth) n c.loop-turn.found c.loop-turn.left c.loop-turn.cursor) _ c.loop-turn._turn c.loop-turn-test.true c.loop-turn.invariant in
    first_of (search rules, grind (arith, common_steps))

pub inner_types-loop-turn-preserved : goal.inner_types-loop-turn-preserved
unfolding inner_types_from
inner_types-loop-turn-preserved t c =
    let e = turn_left (λ n. inner_types_from (inner c.args.depth) n c.loop-turn.found c.loop-turn.left c.loop-turn.cursor) _ c.loop-turn._turn c.loop-turn-test.true c.loop-turn.invariant in
    first_of (search rules, grind (arith, common_steps))

pub inner_types-returns : goal.inner_types-returns
unfolding inner_types_from
inner_types-returns t c =
    let e = none_left (λ n. inner_types_from (inner c.args.depth) n c.loop-turn.found c.loop-turn.left c.loop-turn.cursor) _ c.loop-turn._turn c.loop-turn-test.false c.loop-turn.invariant in
    first_of (search rules, grind (arith, common_steps))

pub read_type_within-returns-then-depth-eq0 : goal.read_type_within-returns-then-depth-eq0
read_type_within-returns-then-depth-eq0 t c =
    let head : head_view c.in_ok-start.start ≡ head_of c.args.cursor.now = first_of (search rules, grind (arith, common_steps)) in
    refused _ _ _ _ c.no_head.ensures (type_flat c.args.depth c.args.left (head_view c.in_ok-start.start) c.args.cursor.now head c.if-depth-eq0.true)

pub read_type_within-returns-then-left-eq0 : goal.read_type_within-returns-then-left-eq0
read_type_within-returns-then-left-eq0 t c =
    let head : head_view c.in_ok-start.start ≡ head_of c.args.cursor.now = first_of (search rules, grind (arith, common_steps)) in
    refused _ _ _ _ c.no_head-then-left-eq0.ensures (type_full c.args.depth c.args.left (head_view c.in_ok-start.start) c.args.cursor.now head c.if-left-eq0.true)

pub read_type_within-returns-in-Whole : goal.read_type_within-returns-in-Whole
read_type_within-returns-in-Whole t c =
    let head : whole c.in-Whole.kind ≡ head_of c.args.cursor.now = first_of (search rules, grind (arith, common_steps)) in
    reads_as _ _ _ _ (type_whole c.args.depth c.args.left c.in-Whole.kind c.args.cursor.now c.if-depth-eq0.false c.if-left-eq0.false head
    ∙ ap (λ ws. read_vectors c.in-Whole.kind (c.args.left - 1) ws) (sym c.advance.ensures)) c.read_vectors.ensures

pub read_type_within-returns-in-ClassName : goal.read_type_within-returns-in-ClassName
read_type_within-returns-in-ClassName t c =
    let head : class_name c.in-ClassName.name ≡ head_of c.args.cursor.now = first_of (search rules, grind (arith, common_steps)) in
    reads_as _ _ _ _ (type_named c.args.depth c.args.left c.in-ClassName.name c.args.cursor.now c.if-depth-eq0.false c.if-left-eq0.false head
    ∙ ap (λ ws. read_applied (inner c.args.depth) c.args.depth c.in-ClassName.name (c.args.left - 1) ws) (sym c.advance-in-ClassName.ensures)) c.read_applied.ensures

pub read_type_within-returns-in-NoType : goal.read_type_within-returns-in-NoType
read_type_within-returns-in-NoType t c =
    let head : no_type ≡ head_of c.args.cursor.now = first_of (search rules, grind (arith, common_steps)) in
    refused _ _ _ _ c.stuck.ensures (type_none c.args.depth c.args.left c.args.cursor.now c.if-depth-eq0.false c.if-left-eq0.false head)
