use Rattle.read_ahead.specs.Ahead.{line_from}
use Rattle.report.specs.Report.{faulty}
use Rattle.batched_text.specs.Batching.{next_line}
use Rattle.batched_text.specs.Foretold.{log_names}
use Rattle.batched_text.proofs.ForetoldLines.{faulty_at, reads_later}
use Rattle.batched_text.proofs.foretold.take_ahead.Goals as goal

pub returns-in_ok-take_faulty-in-Faulty-clause-ok : goal.returns-in_ok-take_faulty-in-Faulty-clause-ok
returns-in_ok-take_faulty-in-Faulty-clause-ok c = record {
  line = line_from c.args.bytes.now c.args.ahead.now.from;
  at = c.requires.ahead.ahead.at;
  reading = faulty c.in-Faulty.fault;
  reads = reads_later (next_line c.args.run.now) (log_names c.args.run.now).version (line_from c.args.bytes.now c.args.ahead.now.from) (faulty c.in-Faulty.fault) c.requires.begun
      (faulty_at (log_names c.args.run.now) c.args.bytes.now c.args.ahead.now c.in-Faulty.fault c.requires.ahead c.in-Faulty.is);
  takes = c.in_ok-take_faulty-in-Faulty.ensures.ok;
}
