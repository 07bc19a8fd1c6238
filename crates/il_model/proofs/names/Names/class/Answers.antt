use Rattle.std.proofs.Common.{◌∙◌, sym}
use Rattle.il_model.specs.Names.{place_of}
use Rattle.il_model.proofs.names.Names.class.Goals as goal

pub returns-in-Some : goal.returns-in-Some
returns-in-Some c = sym c.in-Some.is ∙ c.place.ensures.place ∙ (λ i. place_of (c.self.view_is i) (c.plain_name.ensures i))

pub returns-in-None : goal.returns-in-None
returns-in-None c = sym c.in-None.is ∙ c.place.ensures.place ∙ (λ i. place_of (c.self.view_is i) (c.plain_name.ensures i))
