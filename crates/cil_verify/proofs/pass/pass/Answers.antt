use Rattle.std.proofs.Common.{◌≡◌, ◌∙◌, ◌<◌, ◌+◌, List, length, take, slice_get, get_or, Option, Some, None, sym, ap, arith, refl}
use Rattle.std.proofs.lemmas.Option.{slice_get_read}
use Rattle.il_model.specs.declared.op.Op.{Op}
use Rattle.il_model.specs.declared.method.Clause.{Clause}
use Rattle.cil_verify.specs.declared.arrival.Arrival.{Arrival}
use Rattle.cil_verify.specs.Places.{view_of, code_of, clauses_of}
use Rattle.cil_verify.specs.States.{Stack, state_given, states_of, cause_of_instr}
use Rattle.cil_verify.specs.Arrivals.{stacks_of, known, state_from}
use Rattle.cil_verify.proofs.StatesLemmas.{states_next, all_states, refused_next, refused_is}
use Rattle.cil_verify.proofs.pass.pass.Goals as goal

pub judge-requires-clause-so_far : goal.judge-requires-clause-so_far
judge-requires-clause-so_far c =
    let v = view_of c.args.program.now c.args.method.now in
    let code : code_of c.args.method.now.body ≡ c.args.body.now.code = ap code_of c.requires.body in
    let read : c.as_slice-code.result.now ≡ code_of c.args.method.now.body = c.as_slice-code.ensures ∙ sym code in
    let within : c.loop-at.at < length (code_of c.args.method.now.body) = omega (arith, ap (λ (ops : List Op). length ops) read) in
    let state : c.in_ok-stack.stack ≡ state_given v (states_of v) c.loop-at.at =
    c.in_ok-stack.ensures {u = tt}
    ∙ ap (λ (cs : List Clause). state_from cs (known c.as_slice-in-loop-at.result.now c.loop-at.at) c.loop-at.at) (c.as_slice.ensures ∙ sym (ap clauses_of c.requires.body))
    ∙ ap (λ (all : List Arrival). state_from (clauses_of c.args.method.now.body) (known all c.loop-at.at) c.loop-at.at) c.as_slice-in-loop-at.ensures
    ∙ ap (λ (o : Option Stack). state_from (clauses_of c.args.method.now.body) o c.loop-at.at) (c.loop-at.invariant.0.ahead c.loop-at.at (omega arith) within) in
    let next : stacks_of c.put_state.new.states ≡ take (c.loop-at.at + 1) (states_of v) =
    c.in_ok-put_state.ensures {u = tt} ∙ states_next v c.loop-at.at c.in_ok-stack.stack (stacks_of c.loop-at.states) within c.loop-at.invariant.1 state in
    ap stacks_of c.as_slice-in-loop-at-2.ensures ∙ next

pub returns-in-Some-clause-fault : goal.returns-in-Some-clause-fault
returns-in-Some-clause-fault c =
    let v = view_of c.args.program.now c.args.method.now in
    let code : code_of c.args.method.now.body ≡ c.args.body.now.code = ap code_of c.requires.body in
    let read : c.as_slice-code.result.now ≡ code_of c.args.method.now.body = c.as_slice-code.ensures ∙ sym code in
    let within : c.loop-at.at < length (code_of c.args.method.now.body) = omega (arith, ap (λ (ops : List Op). length ops) read) in
    let state : c.in_ok-stack.stack ≡ state_given v (states_of v) c.loop-at.at =
    c.in_ok-stack.ensures {u = tt}
    ∙ ap (λ (cs : List Clause). state_from cs (known c.as_slice-in-loop-at.result.now c.loop-at.at) c.loop-at.at) (c.as_slice.ensures ∙ sym (ap clauses_of c.requires.body))
    ∙ ap (λ (all : List Arrival). state_from (clauses_of c.args.method.now.body) (known all c.loop-at.at) c.loop-at.at) c.as_slice-in-loop-at.ensures
    ∙ ap (λ (o : Option Stack). state_from (clauses_of c.args.method.now.body) o c.loop-at.at) (c.loop-at.invariant.0.ahead c.loop-at.at (omega arith) within) in
    let next : stacks_of c.put_state.new.states ≡ take (c.loop-at.at + 1) (states_of v) =
    c.in_ok-put_state.ensures {u = tt} ∙ states_next v c.loop-at.at c.in_ok-stack.stack (stacks_of c.loop-at.states) within c.loop-at.invariant.1 state in
    let is : slice_get (code_of c.args.method.now.body) c.loop-at.at ≡ Some c.index-code-at.result =
    slice_get_read (code_of c.args.method.now.body) (length (code_of c.args.method.now.body)) c.loop-at.at c.index-code-at.result refl within
    (c.index-code-at.is ∙ ap (λ (ops : List Op). get_or ops c.loop-at.at c.index-code-at.result) read) in
    let here : Some c.in-Some.cause ≡ cause_of_instr v (states_of v) c.loop-at.at c.index-code-at.result = sym c.in-Some.is ∙ (c.in_ok-cause.ensures {u = tt}).cause in
    sym (refused_is v c.loop-at.at c.index-code-at.result c.in-Some.cause within is c.loop-at.invariant.2 here)

pub loop-at-preserved : goal.loop-at-preserved
loop-at-preserved c =
    let v = view_of c.args.program.now c.args.method.now in
    let code : code_of c.args.method.now.body ≡ c.args.body.now.code = ap code_of c.requires.body in
    let read : c.as_slice-code.result.now ≡ code_of c.args.method.now.body = c.as_slice-code.ensures ∙ sym code in
    let within : c.loop-at.at < length (code_of c.args.method.now.body) = omega (arith, ap (λ (ops : List Op). length ops) read) in
    let state : c.in_ok-stack.stack ≡ state_given v (states_of v) c.loop-at.at =
    c.in_ok-stack.ensures {u = tt}
    ∙ ap (λ (cs : List Clause). state_from cs (known c.as_slice-in-loop-at.result.now c.loop-at.at) c.loop-at.at) (c.as_slice.ensures ∙ sym (ap clauses_of c.requires.body))
    ∙ ap (λ (all : List Arrival). state_from (clauses_of c.args.method.now.body) (known all c.loop-at.at) c.loop-at.at) c.as_slice-in-loop-at.ensures
    ∙ ap (λ (o : Option Stack). state_from (clauses_of c.args.method.now.body) o c.loop-at.at) (c.loop-at.invariant.0.ahead c.loop-at.at (omega arith) within) in
    let next : stacks_of c.put_state.new.states ≡ take (c.loop-at.at + 1) (states_of v) =
    c.in_ok-put_state.ensures {u = tt} ∙ states_next v c.loop-at.at c.in_ok-stack.stack (stacks_of c.loop-at.states) within c.loop-at.invariant.1 state in
    let is : slice_get (code_of c.args.method.now.body) c.loop-at.at ≡ Some c.index-code-at.result =
    slice_get_read (code_of c.args.method.now.body) (length (code_of c.args.method.now.body)) c.loop-at.at c.index-code-at.result refl within
    (c.index-code-at.is ∙ ap (λ (ops : List Op). get_or ops c.loop-at.at c.index-code-at.result) read) in
    let here : None ≡ cause_of_instr v (states_of v) c.loop-at.at c.index-code-at.result = sym c.in_default.is ∙ (c.in_ok-cause.ensures {u = tt}).cause in (
      (c.in_ok-cause.ensures {u = tt}).knows c.in_default.is,
      next,
      refused_next v (states_of v) c.loop-at.at c.index-code-at.result None is c.loop-at.invariant.2 here,
    )

pub returns-clause-states : goal.returns-clause-states
returns-clause-states c =
    let v = view_of c.args.program.now c.args.method.now in
    let read : c.as_slice-code.result.now ≡ code_of c.args.method.now.body = c.as_slice-code.ensures ∙ sym (ap code_of c.requires.body) in
    let end : c.loop-at.at ≡ length (code_of c.args.method.now.body) = omega (arith, ap (λ (ops : List Op). length ops) read) in
    (λ _. all_states v c.loop-at.at (stacks_of c.loop-at.states) end c.loop-at.invariant.1)
