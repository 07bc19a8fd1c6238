use Rattle.std.proofs.Common.{◌∷◌, ◌∙◌, sym, ap, length, arith}
use Rattle.il_text.specs.Spelling.{is_text_end}
use Rattle.il_text.specs.Faults.{longest_front}
use Rattle.il_text.proofs.Longest.{shifted}
use Rattle.il_text.proofs.KindLemmas.{longest_front-quote, longest_front-plain, longest_front-escape, longest_front-bad, longest_front-bad_escape, shifted-shifted}
use Rattle.il_text.proofs.lengths.text_end_len.Goals as goal

pub returns-then-b-eq34-clause-value : goal.returns-then-b-eq34-clause-value
returns-then-b-eq34-clause-value c =
    sym (c.loop-b.invariant.shift ∙ ap (shifted c.loop-b.len) (longest_front-quote c.loop-b.rest.now c.in-Some.tail.now ((c.in-Some.ensures {u = tt}).cases.0 ∙ ap (λ b. b ∷ c.in-Some.tail.now) c.if-b-eq34.true)))

pub returns-then-not-is_escape-clause-value : goal.returns-then-not-is_escape-clause-value
returns-then-not-is_escape-clause-value c =
    sym (c.loop-b.invariant.shift ∙ ap (shifted c.loop-b.len) (longest_front-bad_escape c.loop-b.rest.now c.in-Some.tail.now c.in-Some-split_first.tail.now c.in-Some-split_first.c.now
    ((c.in-Some.ensures {u = tt}).cases.0 ∙ ap (λ b. b ∷ c.in-Some.tail.now) c.if-b-eq92.true) (c.in-Some-split_first.ensures {u = tt}).cases.0 (sym (c.if-not-is_escape.ensures {u = tt}))))

pub loop-b-preserved-then-b-eq92 : goal.loop-b-preserved-then-b-eq92
loop-b-preserved-then-b-eq92 c = record {
  shift = c.loop-b.invariant.shift ∙ ap (shifted c.loop-b.len) (longest_front-escape c.loop-b.rest.now c.in-Some.tail.now c.in-Some-split_first.tail.now c.in-Some-split_first.c.now
      ((c.in-Some.ensures {u = tt}).cases.0 ∙ ap (λ b. b ∷ c.in-Some.tail.now) c.if-b-eq92.true) (c.in-Some-split_first.ensures {u = tt}).cases.0 (sym (c.if-not-is_escape.ensures {u = tt})))
      ∙ shifted-shifted c.loop-b.len 2 (longest_front is_text_end (length c.in-Some-split_first.tail.now) c.in-Some-split_first.tail.now);
  inside = omega (arith, c.loop-b.invariant.inside, (c.in-Some.ensures {u = tt}).cases, (c.in-Some-split_first.ensures {u = tt}).cases);
}

pub returns-then-not-is_plain-clause-value : goal.returns-then-not-is_plain-clause-value
returns-then-not-is_plain-clause-value c =
    sym (c.loop-b.invariant.shift ∙ ap (shifted c.loop-b.len) (longest_front-bad c.loop-b.rest.now c.in-Some.tail.now c.in-Some.b.now (c.in-Some.ensures {u = tt}).cases.0
    c.if-b-eq34.false c.if-b-eq92.false (sym (c.if-not-is_plain.ensures {u = tt}))))

pub loop-b-preserved : goal.loop-b-preserved
loop-b-preserved c = record {
  shift = c.loop-b.invariant.shift ∙ ap (shifted c.loop-b.len) (longest_front-plain c.loop-b.rest.now c.in-Some.tail.now c.in-Some.b.now (c.in-Some.ensures {u = tt}).cases.0 (sym (c.if-not-is_plain.ensures {u = tt})))
      ∙ shifted-shifted c.loop-b.len 1 (longest_front is_text_end (length c.in-Some.tail.now) c.in-Some.tail.now);
  inside = omega (arith, c.loop-b.invariant.inside, (c.in-Some.ensures {u = tt}).cases);
}
