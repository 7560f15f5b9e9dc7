use Rattle.std.proofs.Common.{rules, ap, refl, ◌∙◌, subst}
use Rattle.log_text.specs.LineBuffers.{sentence_of}
use Rattle.log_text.specs.declared.version.Version.{Version}
use Rattle.report.specs.Report.{the_heading}
use Rattle.bohm_base.specs.Collecting.{ReadsAs, reading_by}
use Rattle.bohm_base.proofs.LinesRead.{reads_by, reads_heading}
use Rattle.bohm_base.proofs.Logs.{headed}
use Rattle.bohm_base.proofs.lines.take_text.Goals as goal

pub returns-then-is_heading_line-clause-line : goal.returns-then-is_heading_line-clause-line
returns-then-is_heading_line-clause-line g c =
    let log = g.L.LineLog.log c.args.log.now in (
      the_heading,
      (
        reads_heading c.args.is_first log.names.version c.args.line.now (search rules),
        (refl, c.set_version.ensures ∙ ap (g.L.LineLog.with_log c.args.log.now) (headed log)),
      ),
    )

pub returns-clause-line : goal.returns-clause-line
returns-clause-line g c =
    let read = c.read_into-found in
    let sentence = sentence_of read.new.room in
    let took = c.in_ok-line.ensures in
    let reading = reading_by read.result sentence in (
      reading,
      (
        subst (λ (v : Version). ReadsAs c.args.is_first v c.args.line.now reading) c.version-version.ensures
            (reads_by c.args.is_first c.version-version.result c.args.line.now read.result sentence (search rules)
            read.ensures.read read.ensures.sound read.ensures.fault took.told),
        (took.line, took.log),
      ),
    )
