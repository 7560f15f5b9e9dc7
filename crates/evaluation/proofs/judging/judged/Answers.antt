use Rattle.std.proofs.Common.{sym, ◌∙◌, refl, arith}
use Rattle.evaluation.proofs.Denying.{admitted_tells, denied_below, denied_tells}
use Rattle.evaluation.proofs.Executing.{completed_keeps, completed_tells}
use Rattle.evaluation.proofs.judging.judged.Goals as goal

pub returns-in-Denied : goal.returns-in-Denied
returns-in-Denied g c = record {
  tells = λ owners deeds rows shown shows.
      denied_tells owners (g.V.Records.shown c.args.view.now).place (record { rows = rows; deeds = deeds }) c.args.statement.now c.in_default.not-Create
      c.args.window.now c.in-Denied.need c.in-Denied.cause shows (sym c.in-Denied.is ∙ c.admit.ensures.value owners deeds shown);
  shaped = λ columns fits shaped. shaped;
  detail = omega (arith, c.at.ensures.value, denied_below (g.V.Records.shown c.args.view.now) c.args.statement.now.user _ c.in-Denied.need c.in-Denied.cause c.at.ensures.lawful (sym c.in-Denied.is ∙ c.admit.ensures.told));
  outputs = omega arith;
  same = c.admit.ensures.same;
}

pub returns-in-Completed-clause-tells : goal.returns-in-Completed-clause-tells
returns-in-Completed-clause-tells g c owners deeds rows shown shows =
    admitted_tells owners (g.V.Records.shown c.args.view.now).place (record { rows = rows; deeds = deeds }) c.args.statement.now c.in_default.not-Create
    _ c.run.new.window (sym c.in-Admitted.is ∙ c.admit.ensures.value owners deeds shown)
    (completed_tells c.args.statement.now c.args.window.now c.run.new.window c.requires.runnable c.has_all_rows.ensures c.requires.apart c.outputs-outputs.result
    (rw (c.in-Completed.is, ← c.outputs-outputs.ensures) at c.run.ensures.ends)
    owners (g.V.Records.shown c.args.view.now).place (record { rows = rows; deeds = deeds }) shows)

pub returns-in-Completed-clause-shaped : goal.returns-in-Completed-clause-shaped
returns-in-Completed-clause-shaped g c =
    completed_keeps c.args.statement.now c.args.window.now c.run.new.window c.requires.runnable c.has_all_rows.ensures c.requires.apart c.outputs-outputs.result
    (rw (c.in-Completed.is, ← c.outputs-outputs.ensures) at c.run.ensures.ends)

pub returns-in-Aborted-clause-tells : goal.returns-in-Aborted-clause-tells
returns-in-Aborted-clause-tells g c owners deeds rows shown shows =
    admitted_tells owners (g.V.Records.shown c.args.view.now).place (record { rows = rows; deeds = deeds }) c.args.statement.now c.in_default.not-Create
    _ c.args.window.now (sym c.in-Admitted.is ∙ c.admit.ensures.value owners deeds shown)
    (rw (rw c.in-Aborted.is at c.run.ensures.ends rows shows) (record { told = refl; rows = shows }))

pub returns-in-Undeclared-clause-tells : goal.returns-in-Undeclared-clause-tells
returns-in-Undeclared-clause-tells g c owners deeds rows shown shows =
    admitted_tells owners (g.V.Records.shown c.args.view.now).place (record { rows = rows; deeds = deeds }) c.args.statement.now c.in_default.not-Create
    _ c.args.window.now (sym c.in-Admitted.is ∙ c.admit.ensures.value owners deeds shown)
    (rw (rw c.in-Undeclared.is at c.run.ensures.ends rows shows) (record { told = refl; rows = shows }))
