use Rattle.std.proofs.lemmas.Str.{IsUtf8-from_ascii}
use Rattle.il_parse.proofs.cursor.name_of.Goals as goal

pub unreachable-requires : goal.unreachable-requires
unreachable-requires c = (c.in-Err.ensures {u = tt}).cases.0 (IsUtf8-from_ascii c.args.bytes.now c.requires)
