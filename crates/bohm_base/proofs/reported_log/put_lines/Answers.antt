use Rattle.std.proofs.Common.{◌≡◌, ◌+◌, length, ap, ◌∙◌, subst, arith}
use Rattle.sequencer.specs.Log.{Accepted}
use Rattle.bohm_base.specs.declared.collecting.LineOutcome.{LineOutcome}
use Rattle.bohm_base.specs.Collecting.{places_in, places_of}
use Rattle.bohm_base.proofs.Beginnings.{line_put, next_line}
use Rattle.bohm_base.proofs.reported_log.put_lines.Goals as goal

pub put_line-requires : goal.put_line-requires
put_line-requires g c = λ accepted.
    let next = ap places_in (next_line c.args.lines.now c.loop-line.line-index LineOutcome.Heading c.loop-line-test.true) in
    let here : c.loop-line.place + 0 ≡ c.loop-line.place = omega arith in
    subst (g.L.ReportedLog.is_kept c.args.log.now) here (c.loop-line.invariant.kept 0 (omega (arith, next, ap places_of accepted)))

pub loop-line-preserved : goal.loop-line-preserved
loop-line-preserved g c =
    let log : Accepted = g.L.ReportedLog.log c.args.log.now in
    let at = c.loop-line.line-index in
    let place = c.loop-line.place in
    let places = c.places-place.result in
    let next = next_line c.args.lines.now at LineOutcome.Heading c.loop-line-test.true in
    record {
      text = line_put log.statements log.names (c.loop-line.number + 1) place places c.args.lines.now at LineOutcome.Heading
          c.loop-line.text.items c.put_line.new.text.items c.loop-line-test.true c.places-place.ensures.count c.in_ok-put_line.ensures.ok
          ∙ c.loop-line.invariant.text;
      kept = λ k less.
          let same : place + (places + k) ≡ place + places + k = omega arith in
          subst (g.L.ReportedLog.is_kept c.args.log.now) same (c.loop-line.invariant.kept (places + k) (omega (arith, less, ap places_in next, c.places-place.ensures.count)));
      places = omega (arith, ap places_in next, c.places-place.ensures.count, c.loop-line.invariant.places);
      number = omega (arith, ap length next, c.loop-line.invariant.number);
    }
