-- A service that goes on may make its turn.
use Rattle.std.proofs.Common.{◌≡◌, ℕ, true, List, slice_index, refl}
use Rattle.rgctx_template.specs.declared.catalogue.Catalogue.{Catalogue}
use Rattle.rgctx_template.specs.Catalogue.{data_of}
use Rattle.rgctx_fill.specs.declared.doing.Doing.{Doing}
use Rattle.rgctx_fill.specs.declared.doing.Doing.TheVariants.{Runs, Serves, Fills, Interprets, Throws, Searches, Refuses, Stops, Finishes, Ended}
use Rattle.rgctx_fill.specs.Serving.{IsServing}
use Rattle.service_cases.specs.Served.{is_serving, IsReadyOn}

pub serves_on : (cat : Catalogue) (words : List ℕ) (doing : Doing) → is_serving doing ≡ true → IsReadyOn cat words doing → IsServing (data_of cat) (λ i. slice_index words i) doing
serves_on cat words Runs on ready = absurd (cc on)
serves_on cat words Serves on ready = tt
serves_on cat words (Fills f) on ready = ready f refl
serves_on cat words Interprets on ready = absurd (cc on)
serves_on cat words (Throws x) on ready = tt
serves_on cat words (Searches x) on ready = absurd (cc on)
serves_on cat words Refuses on ready = tt
serves_on cat words (Stops why) on ready = tt
serves_on cat words Finishes on ready = tt
serves_on cat words Ended on ready = absurd (cc on)

-- code has come to an ECALL, so no fill is under way
pub no_fill : (cat : Catalogue) (words : List ℕ) (doing : Doing) → doing ≡ Serves → IsReadyOn cat words doing
no_fill cat words doing serves f fills = absurd (cc (serves, fills))
