use Rattle.service_cases.proofs.answers.check_next.Goals as goal

pub check_turn-requires-clause-ready : goal.check_turn-requires-clause-ready
check_turn-requires-clause-ready g c = λ f e. absurd (cc (c.ask.ensures, c.answer.ensures.fill f e))
