-- Numbers of nodes and objects among words. This project's own.
use Rattle.std.specs.Prelude.{ℕ, ◌&&◌, nat_lt, Option, Some, None, if◌then◌else◌}
use Rattle.cil_meaning.specs.Naming.{strings_from}
use Rattle.rgctx_fill.specs.NodeReadings.{is_node_number}

-- the node with a number, where there may be one
abbrev pub node_number : ℕ → Option ℕ
node_number n = if is_node_number n then Some n else None

-- the object with a number, where a word may name one
abbrev pub object_of : ℕ → Option ℕ
object_of w = if nat_lt 0 w && nat_lt w strings_from then Some w else None
