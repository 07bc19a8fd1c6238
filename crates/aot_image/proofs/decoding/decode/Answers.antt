use Rattle.std.proofs.Common.{arith}
use Rattle.aot_image.proofs.WholeLaws.{found_of}
use Rattle.aot_image.proofs.WholeComplete.{only_of}
use Rattle.aot_image.proofs.decoding.decode.Goals as goal

pub returns-clause-found : goal.returns-clause-found
returns-clause-found c = found_of c.args.bytes.now c.answered.result (λ i. omega (arith, c.type_inv.bytes i)) c.answered.ensures.exact

pub returns-clause-only : goal.returns-clause-only
returns-clause-only c = λ image good is. only_of c.texts_give_one_answer.ensures.program c.args.bytes.now image c.answered.result good is c.answered.ensures.exact
