use Rattle.read_ahead.proofs.Cut.{line_at}
use Rattle.batched_text.proofs.foretold.take_next.Goals as goal

pub returns-clause-ok : goal.returns-clause-ok
returns-clause-ok c =
    let took = c.in_ok-take.ensures.ok in
    let cut = c.in-Some.ensures in
    record {
      line = c.in-Some.line.now;
      at = line_at c.args.bytes.now c.in-Some.line.now c.args.from c.in-Some.count c.requires.within cut.line cut.within.0 cut.within.1;
      reading = took.0;
      reads = took.1.0;
      takes = took.1.1;
    }
