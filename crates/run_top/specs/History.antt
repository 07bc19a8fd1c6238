-- What a history shows.
use Rattle.std.specs.Prelude.{ℕ, List, [], ◌∷◌, ◌++◌}
use Rattle.std.specs.Int.{w64, cast_signed}
use Rattle.std.specs.List.{flat_map}
use Rattle.std.specs.Fmt.{signed_decimal}
use Rattle.interaction.specs.declared.history.Event.{Event}
use Rattle.store_object.specs.declared.reply.Reply.{Reply}
use Rattle.store_object.specs.declared.request.Form.TheVariants.{Number}
use Rattle.store_object.specs.declared.request.Request.{Request}
use Rattle.store_object.specs.declared.request.Request.TheVariants.{Print}

-- The line of a request: a printed number is a signed one of 64 bits, and a line's end follows. Every other request of
-- the first form shows nothing; a string, which the program would hold, is never printed in it.
abbrev pub line_of : Request → List ℕ
line_of (Print Number word) = signed_decimal (cast_signed w64 word) ++ 10 ∷ []
line_of request = []

-- the output that a history shows: a line for each print, in order
abbrev pub output : List (Event Request Reply) → List ℕ
output history = flat_map (λ e. line_of e.request) history
