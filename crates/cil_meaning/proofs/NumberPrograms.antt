-- The small programs on numbers mean what was written by hand.
use Rattle.std.proofs.Common.{refl}
use Rattle.interaction.specs.Process.{rests, begins, settles, asks}
use Rattle.cil_meaning.specs.SmallPrograms.{Means, faults_named, sums, sums_history, shifts, shifts_history, division, division_history, least, checked_sum, overflow_history, joins_nobody, joins_nobody_history}

pub sums_mean : Means sums faults_named sums_history
sums_mean = record {
  replays = (record { given = refl; goes_on = refl; proper = refl }, (record { given = refl; goes_on = refl; proper = refl }, (record { given = refl; goes_on = refl; proper = refl }, tt)));
  talk = begins (begins (begins (begins (asks (begins (begins (begins (begins (asks (begins (asks rests)))))))))));
}

pub shifts_mean : Means shifts faults_named shifts_history
shifts_mean = record {
  replays = (record { given = refl; goes_on = refl; proper = refl }, (record { given = refl; goes_on = refl; proper = refl }, (record { given = refl; goes_on = refl; proper = refl }, tt)));
  talk = begins (begins (begins (begins (asks (begins (begins (begins (begins (asks (begins (asks rests)))))))))));
}

pub division_means : Means division faults_named division_history
division_means = record {
  replays = (record { given = refl; goes_on = refl; proper = refl }, (record { given = refl; goes_on = refl; proper = refl }, (record { given = refl; goes_on = refl; proper = refl }, tt)));
  talk = begins (begins (begins (begins (asks (begins (begins (begins (settles refl (asks (asks rests))))))))));
}

pub least_means : Means least faults_named overflow_history
least_means = record {
  replays = (record { given = refl; goes_on = refl; proper = refl }, (record { given = refl; goes_on = refl; proper = refl }, tt));
  talk = begins (begins (begins (settles refl (asks (asks rests)))));
}

pub checked_sum_means : Means checked_sum faults_named overflow_history
checked_sum_means = record {
  replays = (record { given = refl; goes_on = refl; proper = refl }, (record { given = refl; goes_on = refl; proper = refl }, tt));
  talk = begins (begins (begins (settles refl (asks (asks rests)))));
}

pub joins_nobody_means : Means joins_nobody faults_named joins_nobody_history
joins_nobody_means = record {
  replays = (record { given = refl; goes_on = refl; proper = refl }, (record { given = refl; goes_on = refl; proper = refl }, (record { given = refl; goes_on = refl; proper = refl }, tt)));
  talk = begins (begins (asks (settles refl (asks (asks rests)))));
}
