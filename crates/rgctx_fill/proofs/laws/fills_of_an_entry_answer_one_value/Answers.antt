use Rattle.rgctx_fill.proofs.InterleavedLaws.{one-value, turn-turned, interleaved-on, interleaved-one}
use Rattle.rgctx_fill.proofs.laws.fills_of_an_entry_answer_one_value.Goals as goal

pub returns : goal.returns
returns c = record {
  held = one-value;
  turn = λ before after listed relisted f new gives made. turn-turned before after f new listed relisted gives made;
  stays = λ cat s ks way. interleaved-on cat ks s way;
  one = λ cat s ks way. interleaved-one cat s way ks;
}
