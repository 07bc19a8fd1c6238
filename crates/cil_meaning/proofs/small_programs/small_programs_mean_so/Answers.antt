use Rattle.cil_meaning.proofs.NumberPrograms.{sums_mean, shifts_mean, division_means, least_means, checked_sum_means, joins_nobody_means}
use Rattle.cil_meaning.proofs.CatchProgram.{catches_mean}
use Rattle.cil_meaning.proofs.CallProgram.{calls_mean}
use Rattle.cil_meaning.proofs.ExchangeProgram.{exchanges_mean}
use Rattle.cil_meaning.proofs.WideProgram.{wide_means}
use Rattle.cil_meaning.proofs.PointerProgram.{points_mean}
use Rattle.cil_meaning.proofs.SlotExample.{finds_slots}
use Rattle.cil_meaning.proofs.small_programs.small_programs_mean_so.Goals as goal

pub returns-clause-sums : goal.returns-clause-sums
returns-clause-sums c = sums_mean

pub returns-clause-shifts : goal.returns-clause-shifts
returns-clause-shifts c = shifts_mean

pub returns-clause-division : goal.returns-clause-division
returns-clause-division c = division_means

pub returns-clause-least : goal.returns-clause-least
returns-clause-least c = least_means

pub returns-clause-checked_sum : goal.returns-clause-checked_sum
returns-clause-checked_sum c = checked_sum_means

pub returns-clause-joins_nobody : goal.returns-clause-joins_nobody
returns-clause-joins_nobody c = joins_nobody_means

pub returns-clause-catches : goal.returns-clause-catches
returns-clause-catches c = catches_mean

pub returns-clause-calls : goal.returns-clause-calls
returns-clause-calls c = calls_mean

pub returns-clause-exchanges : goal.returns-clause-exchanges
returns-clause-exchanges c = exchanges_mean

pub returns-clause-wide : goal.returns-clause-wide
returns-clause-wide c = wide_means

pub returns-clause-points : goal.returns-clause-points
returns-clause-points c = points_mean

pub returns-clause-slots : goal.returns-clause-slots
returns-clause-slots c = finds_slots
