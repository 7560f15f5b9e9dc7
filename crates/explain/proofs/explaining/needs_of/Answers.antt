use Rattle.std.proofs.Common.{◌≡◌, ap, arith, length, sym, ◌∙◌}
use Rattle.std.specs.Prelude.{slice_get}
use Rattle.model_base.specs.Outcomes.{needs}
use Rattle.explain.proofs.Indexing.{ends_before}
use Rattle.explain.proofs.Lines.{needs_end, needs_go_on}
use Rattle.explain.proofs.explaining.needs_of.Goals as goal

pub loop-need-preserved : goal.loop-need-preserved
loop-need-preserved c =
    let all = needs c.args.form.now in
    let found = c.loop-need.found.items in
    let count : c.len.result ≡ length found = omega (arith, c.len.ensures) in
    needs_go_on all found c.push.new.self.items c.in-Some.need c.loop-need.invariant (ap (slice_get all) (sym count) ∙ sym c.in-Some.ensures) c.in_ok-push.ensures.items

pub returns : goal.returns
returns c =
    let all = needs c.args.form.now in
    let found = c.loop-need.found.items in
    let count : c.len.result ≡ length found = omega (arith, c.len.ensures) in
    needs_end all found c.loop-need.invariant (ends_before all (length found) (ap (slice_get all) (sym count) ∙ sym c.in_default.ensures))
