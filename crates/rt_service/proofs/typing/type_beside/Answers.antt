use Rattle.std.proofs.Common.{sym, subst}
use Rattle.rgctx_template.specs.Catalogue.{data_of}
use Rattle.rt_service.specs.declared.reading.TypeRead.{TypeRead}
use Rattle.rt_service.specs.Readings.{GoesOnType}
use Rattle.rt_service.proofs.typing.type_beside.Goals as goal

pub returns-in-Spells-clause-goes : goal.returns-in-Spells-clause-goes
returns-in-Spells-clause-goes g c = λ h within s next said new made.
    c.in_ok-second.ensures.goes h within s (next c.args.first) said new
    (subst (λ (r : TypeRead). GoesOnType (data_of c.args.image.now.cat) h s r (next c.args.first) said new) (sym c.in-Spells.is) made)

pub returns-in-Unread-clause-goes : goal.returns-in-Unread-clause-goes
returns-in-Unread-clause-goes g c = λ h within s next said new made.
    c.in_ok-second.ensures.goes h within s (next c.args.first) said new
    (subst (λ (r : TypeRead). GoesOnType (data_of c.args.image.now.cat) h s r (next c.args.first) said new) (sym c.in-Unread.is) made)

pub returns-in-Refused-clause-goes : goal.returns-in-Refused-clause-goes
returns-in-Refused-clause-goes g c = λ h within s next said new made.
    c.in_ok-second.ensures.goes h within s (next c.args.first) said new
    (subst (λ (r : TypeRead). GoesOnType (data_of c.args.image.now.cat) h s r (next c.args.first) said new) (sym c.in-Refused.is) made)
