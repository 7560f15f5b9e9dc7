use Rattle.summary.specs.Lines.{is_place, is_refused, outcome_of, refusal_of}
use Rattle.summary.proofs.CountLemmas.{line-more, one-more, word-more}
use Rattle.summary.proofs.counts.Counts.count.Goals as goal

pub returns : goal.returns
returns c lines was =
    let line = c.args.line.now in
    let is = c.is_refused-is_refused.ensures in
    record {
      lines = line-more lines line _ _ was.lines c.raise_if.ensures;
      places = one-more is_place lines line _ _ was.places (rw is at c.raise_if-2.ensures);
      refused = one-more is_refused lines line _ _ was.refused (rw is at c.raise_if-3.ensures);
      outcomes = word-more outcome_of lines line _ _ c.raise_at.auto.counts was.outcomes (rw c.outcome_of.ensures at c.raise_at.ensures);
      refusals = word-more refusal_of lines line _ _ c.raise_at-2.auto.counts was.refusals (rw c.refusal_of.ensures at c.raise_at-2.ensures);
    }
