use Rattle.std.proofs.Common.{◌≡◌, ◌≤◌, ◌+◌, ◌-◌, ◌++◌, ℕ, List, drop, length, take, ap, sym, ◌∙◌, subst, arith}
use Rattle.line_io.specs.Known.{MovesOut}
use Rattle.bohm_base.specs.declared.collecting.LineOutcome.{LineOutcome}
use Rattle.bohm_base.specs.Collecting.{log_text, places_in, report_text}
use Rattle.bohm_base.proofs.Beginnings.{begun_then, few_places, lines_between, moves_on, moves_then}
use Rattle.bohm_base.proofs.serial_run.report_lines.Goals as goal

pub report_lines-requires-clause-places : goal.report_lines-requires-clause-places
report_lines-requires-clause-places g c =
    let at = c.loop-done.done in
    let next = at + c.min.result in
    let lines = c.as_slice-lines.result.now in
    let same : lines ≡ c.args.collected.now.lines.items = c.as_slice-lines.ensures.value in
    let later : at ≤ next = omega arith in
    let within : next ≤ length c.args.collected.now.lines.items = omega (arith, c.min.ensures, ap length same) in
    let some = lines_between c.args.collected.now.lines.items lines at next same later within in
    omega (arith, few_places (take (next - at) (drop at lines)), some.1, c.loop-done.invariant.places, c.as_slice-lines.ensures.len)

pub returns-in_err-place-clause-begun : goal.returns-in_err-place-clause-begun
returns-in_err-place-clause-begun g c =
    let at = c.loop-done.done in
    let next = at + c.min.result in
    let lines = c.as_slice-lines.result.now in
    let same : lines ≡ c.args.collected.now.lines.items = c.as_slice-lines.ensures.value in
    let later : at ≤ next = omega arith in
    let within : next ≤ length c.args.collected.now.lines.items = omega (arith, c.min.ensures, ap length same) in
    let some = lines_between c.args.collected.now.lines.items lines at next same later within in
    begun_then _ (g.W.Write.contents c.loop-done.writer.inner) _ _ _ c.report_lines.new.pending.items _
    (moves_on _ _ c.args.collected.now.log _ (at + 1) c.loop-done.place _ (take (next - at) (drop at lines)) (drop next c.args.collected.now.lines.items)
    c.loop-done.pending.items some.0 c.loop-done.invariant.written)
    c.report_lines.ensures.begun

pub loop-done-preserved : goal.loop-done-preserved
loop-done-preserved g c =
    let at = c.loop-done.done in
    let next = at + c.min.result in
    let all : List LineOutcome = c.args.collected.now.lines.items in
    let lines = c.as_slice-lines.result.now in
    let same : lines ≡ all = c.as_slice-lines.ensures.value in
    let later : at ≤ next = omega arith in
    let within : next ≤ length all = omega (arith, c.min.ensures, ap length same) in
    let some = lines_between all lines at next same later within in
    let few = take (next - at) (drop at lines) in
    let rest : ℕ → ℕ → List ℕ = λ number place. report_text c.args.collected.now.log.statements c.args.collected.now.log.names number place (drop next all) in
    let moves : ℕ → ℕ → Type 0 = λ number place. MovesOut (g.W.Write.contents c.args.writer.now.inner) (g.W.Write.contents c.report_lines.new.writer.inner)
    (log_text c.args.collected.now.log all) (c.report_lines.new.pending.items ++ rest number place) in
    let moved : moves (at + 1 + length few) (c.loop-done.place + places_in few) =
    moves_then _ (g.W.Write.contents c.loop-done.writer.inner) _ _ _ c.report_lines.new.pending.items _
    (moves_on _ _ c.args.collected.now.log _ (at + 1) c.loop-done.place _ few (drop next all) c.loop-done.pending.items some.0 c.loop-done.invariant.written)
    c.in_ok-place.ensures.ok in
    let number : at + 1 + length few ≡ next + 1 = omega (arith, some.1, later) in
    record {
      written = subst (moves (next + 1)) (sym c.in_ok-place.ensures.end) (subst (λ (n : ℕ). moves n (c.loop-done.place + places_in few)) number moved);
      places = omega (arith, c.in_ok-place.ensures.end, few_places few, some.1, c.loop-done.invariant.places);
      within = within;
      write_errors = c.in_ok-place.ensures.errors ∙ c.loop-done.invariant.write_errors;
      flushes = c.report_lines.ensures.flushes ∙ c.loop-done.invariant.flushes;
    }
