use Rattle.il_parse.proofs.TextsComplete.{read_is_written, written_once}
use Rattle.il_parse.proofs.laws.written_texts_are_read.Goals as goal

pub returns : goal.returns
returns c = record {
  spelled = λ text tokens are classes. (read_is_written text tokens are classes).0;
  found = λ text tokens are classes. (read_is_written text tokens are classes).1;
  one = written_once;
}
