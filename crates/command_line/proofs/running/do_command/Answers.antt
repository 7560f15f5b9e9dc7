use Rattle.std.proofs.Common.{◌≡◌, List, Option, subst, sym}
use Rattle.std.specs.Prelude.{ℕ, IfSome}
use Rattle.audit_text.specs.Texts.{BeginsText, WritesText}
use Rattle.command_line.specs.Running.{AnswersCommand, CommandLacks}
use Rattle.command_line.specs.Tasks.{IsLack}
use Rattle.command_line.proofs.Told.{begins_as, lacks_as, writes_as}
use Rattle.command_line.proofs.running.do_command.Goals as goal

pub returns-clause-lacks : goal.returns-clause-lacks
returns-clause-lacks g c = λ fault is lack.
    let same : c.in-Err-work.fault ≡ fault = cc in
    let lacks = c.in-Err-work.ensures.lacks (subst IsLack (sym same) lack) in (
      lacks.0,
      subst (λ (bytes : Option (List ℕ)). IfSome bytes (CommandLacks c.args.command.now fault)) c.in-Ok.ensures.bytes
          (lacks_as c.in-Ok.opened.arrival c.args.command.now c.task_of-task.result c.in-Err-work.fault fault _ c.task_of-task.ensures.task same lacks.1),
    )

pub returns-in-Ok-work-clause-begun : goal.returns-in-Ok-work-clause-begun
returns-in-Ok-work-clause-begun g c =
    let old = g.W.Write.contents c.args.told.now.inner in
    let new = g.W.Write.contents c.work.new.told.inner in
    subst (λ (bytes : Option (List ℕ)). BeginsText (AnswersCommand c.args.command.now) bytes old new) c.in-Ok.ensures.bytes
    (begins_as c.in-Ok.opened.arrival c.args.command.now c.task_of-task.result _ old new c.task_of-task.ensures.task c.in-Ok-work.ensures.text.1)

pub returns-clause-begun : goal.returns-clause-begun
returns-clause-begun g c =
    let old = g.W.Write.contents c.args.told.now.inner in
    let new = g.W.Write.contents c.work.new.told.inner in
    subst (λ (bytes : Option (List ℕ)). BeginsText (AnswersCommand c.args.command.now) bytes old new) c.in-Ok.ensures.bytes
    (begins_as c.in-Ok.opened.arrival c.args.command.now c.task_of-task.result _ old new c.task_of-task.ensures.task c.in-Err-work.ensures.text.1)

pub returns-in-Ok-work-clause-done : goal.returns-in-Ok-work-clause-done
returns-in-Ok-work-clause-done g c =
    let old = g.W.Write.contents c.args.told.now.inner in
    let new = g.W.Write.contents c.work.new.told.inner in
    subst (λ (bytes : Option (List ℕ)). WritesText (AnswersCommand c.args.command.now) bytes old new) c.in-Ok.ensures.bytes
    (writes_as c.in-Ok.opened.arrival c.args.command.now c.task_of-task.result _ old new c.task_of-task.ensures.task c.in-Ok-work.ensures.text.0)
