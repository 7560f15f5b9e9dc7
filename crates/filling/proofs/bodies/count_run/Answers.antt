use Rattle.std.proofs.Common.{◌≡◌, ◌<◌, Bool, refl, sym, ap, ◌∙◌, subst}
use Rattle.std.specs.Prelude.{if◌then◌else◌}
use Rattle.bohm_core_base.specs.Serial.{serial_words}
use Rattle.log_batch.specs.Supplied.{LogRange, batch_of}
use Rattle.filling.specs.Bodies.{runs_at}
use Rattle.filling.proofs.Admitting.{counted-none, counted-run, runs-told}
use Rattle.filling.proofs.bodies.count_run.Goals as goal

pub returns-then-runs_body-clause-bodies : goal.returns-then-runs_body-clause-bodies
returns-then-runs_body-clause-bodies c =
    let ranged = c.batch-batch.result.now in
    let index = c.args.index in
    let same = c.batch-batch.ensures in
    let within : index < ranged.size = subst (λ (r : LogRange). index < r.size) (sym same) c.requires.within in
    let own : c.args.own.now ≡ serial_words (batch_of ranged) index = c.requires.own ∙ ap (λ (r : LogRange). serial_words (batch_of r) index) (sym same) in
    let told = runs-told ranged c.statement-statement.ensures.of_log index within c.statement-statement.result.now c.statement-statement.ensures.at c.args.own.now own in
    let runs : runs_at c.args.key.now.batch index ≡ (if c.runs_body.result then 1 else 0)
    = ap (λ (r : LogRange). runs_at r index) (sym same) ∙ told ∙ ap (λ (b : Bool). if b then 1 else 0) (sym c.runs_body.ensures) in
    counted-run c.args.holding.now c.count_body.new.self (runs_at c.args.key.now.batch index) c.runs_body.result runs c.if-runs_body.true c.count_body.ensures.counted

pub returns-else-runs_body-clause-bodies : goal.returns-else-runs_body-clause-bodies
returns-else-runs_body-clause-bodies c =
    let ranged = c.batch-batch.result.now in
    let index = c.args.index in
    let same = c.batch-batch.ensures in
    let within : index < ranged.size = subst (λ (r : LogRange). index < r.size) (sym same) c.requires.within in
    let own : c.args.own.now ≡ serial_words (batch_of ranged) index = c.requires.own ∙ ap (λ (r : LogRange). serial_words (batch_of r) index) (sym same) in
    let told = runs-told ranged c.statement-statement.ensures.of_log index within c.statement-statement.result.now c.statement-statement.ensures.at c.args.own.now own in
    let runs : runs_at c.args.key.now.batch index ≡ (if c.runs_body.result then 1 else 0)
    = ap (λ (r : LogRange). runs_at r index) (sym same) ∙ told ∙ ap (λ (b : Bool). if b then 1 else 0) (sym c.runs_body.ensures) in
    counted-none c.args.holding.now c.args.holding.now (runs_at c.args.key.now.batch index) c.runs_body.result runs c.if-runs_body.false refl
