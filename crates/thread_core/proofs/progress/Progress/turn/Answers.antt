use Rattle.std.proofs.Common.{refl}
use Rattle.rgctx_fill.specs.ThreadStates.{image_of}
use Rattle.thread_core.specs.declared.progress.Progress.{Progress as ProgressHere}
use Rattle.thread_core.proofs.AtLemmas.{went_at, full_at, fault_at, asked_at}
use Rattle.thread_core.proofs.progress.Progress.turn.Goals as goal

pub turn_at-requires-clause-going : goal.turn_at-requires-clause-going
turn_at-requires-clause-going c = λ s there. c.requires.ready.busy c.args.thread s there c.requires.lives

pub returns-in_ok-note-in-Did-clause-turn : goal.returns-in_ok-note-in-Did-clause-turn
returns-in_ok-note-in-Did-clause-turn c = λ ks made number at split choice.
    let r = c.args.self.now in
    let mid : ProgressHere = record { words = c.turn_at.new.words; world = r.world; started = r.started; threads = c.turn_at.new.threads; schedule = r.schedule; turns = r.turns } in
    went_at (image_of c.args.image.now) ks made number c.args.thread r at split choice mid c.in_ok-what.field-0 (c.in_ok-what.ensures {u = tt}) refl refl refl refl c.in-Did.what c.in-Did.is c.note.new.self (c.in_ok-note-in-Did.ensures {u = tt})

pub returns-in_ok-ending-in-Ask-clause-turn : goal.returns-in_ok-ending-in-Ask-clause-turn
returns-in_ok-ending-in-Ask-clause-turn c = λ ks made number at split choice.
    let r = c.args.self.now in
    let mid : ProgressHere = record { words = c.turn_at.new.words; world = r.world; started = r.started; threads = c.turn_at.new.threads; schedule = r.schedule; turns = r.turns } in
    asked_at (image_of c.args.image.now) ks made number c.args.thread r at split choice mid c.in_ok-what.field-0 (c.in_ok-what.ensures {u = tt}) refl refl refl refl c.in-Ask.request c.in-Ask.is c.ask.new.self c.in_ok-ending-in-Ask.ending (c.in_ok-ending-in-Ask.ensures {u = tt})

pub returns-in-Full-clause-turn : goal.returns-in-Full-clause-turn
returns-in-Full-clause-turn c = λ ks made number at split choice.
    let r = c.args.self.now in
    let mid : ProgressHere = record { words = c.turn_at.new.words; world = r.world; started = r.started; threads = c.turn_at.new.threads; schedule = r.schedule; turns = r.turns } in
    full_at (image_of c.args.image.now) ks made number c.args.thread r at split choice mid c.in_ok-what.field-0 (c.in_ok-what.ensures {u = tt}) refl refl refl refl c.in-Full.region c.in-Full.key c.in-Full.is

pub returns-in-Fault-clause-turn : goal.returns-in-Fault-clause-turn
returns-in-Fault-clause-turn c = λ ks made number at split choice.
    let r = c.args.self.now in
    let mid : ProgressHere = record { words = c.turn_at.new.words; world = r.world; started = r.started; threads = c.turn_at.new.threads; schedule = r.schedule; turns = r.turns } in
    fault_at (image_of c.args.image.now) ks made number c.args.thread r at split choice mid c.in_ok-what.field-0 (c.in_ok-what.ensures {u = tt}) refl refl refl refl c.in-Fault.fault c.in-Fault.is
