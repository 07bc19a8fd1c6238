use Rattle.std.proofs.Common.{◌∙◌, map, sym, ap}
use Rattle.std.specs.Option.{option_copied}
use Rattle.il_model.specs.Spellings.{plain_name}
use Rattle.il_model.specs.Names.{place_of}
use Rattle.il_parse.proofs.scope.Scope.class.Goals as goal

pub returns-in-Some : goal.returns-in-Some
returns-in-Some c =
    ap option_copied (sym c.in-Some.is) ∙ c.get.ensures.value ∙ c.self.invariant.place c.plain_name.result.now
    ∙ (λ i. place_of (map plain_name (c.self.view_is i).names) (c.plain_name.ensures i))

pub returns-in-None : goal.returns-in-None
returns-in-None c =
    ap option_copied (sym c.in-None.is) ∙ c.get.ensures.value ∙ c.self.invariant.place c.plain_name.result.now
    ∙ (λ i. place_of (map plain_name (c.self.view_is i).names) (c.plain_name.ensures i))
