use Rattle.std.proofs.Common.{◌≡◌, refl, subst, sym}
use Rattle.std.specs.Prelude.{ℕ, IfSome, Option}
use Rattle.audit_text.specs.Faults.{IsOfAnswer, IsOfPlace}
use Rattle.audit_text.specs.Picture.{EndsBefore, IsPicture}
use Rattle.audit_text.specs.RowsBefore.{IsRows, LacksTable}
use Rattle.audit_text.specs.Texts.{SaysText}
use Rattle.audit_text.specs.declared.fault.WorkFault.{WorkFault}
use Rattle.summary.specs.Summary.{IsOfSummary}
use Rattle.command_line.specs.Options.{rows_named}
use Rattle.command_line.specs.Tasks.{AnswersTask, TaskLacks}
use Rattle.command_line.specs.declared.work.Task.{Task}
use Rattle.command_line.proofs.Lacking.{lacking, not_by}
use Rattle.command_line.proofs.work.SeededJobJob.work.Goals as goal

pub returns-in-Explain-clause-lacks : goal.returns-in-Explain-clause-lacks
returns-in-Explain-clause-lacks g c =
    let log = g.R.Read.remaining c.args.log.now.inner in
    let ended = c.explain_places.result in
    lacking ended (λ fault. (c.explain_places.new.writer ≡ c.args.told.now) × IfSome log (TaskLacks c.args.task fault)) (λ places is.
    let none = c.explain_places.ensures.none places is in
    (none.0, subst (λ (task : Task). IfSome log (TaskLacks task (WorkFault.NoSuchPlace places))) (sym c.in-Explain.is) none.1))
    (λ is. absurd ((not_by ended IsOfPlace WorkFault.NoSuchTable c.explain_places.ensures.alone is).1 refl))
    (λ is. absurd ((not_by ended IsOfPlace WorkFault.NoSuchUser c.explain_places.ensures.alone is).0.1 refl))

pub returns-in-Denials-clause-lacks : goal.returns-in-Denials-clause-lacks
returns-in-Denials-clause-lacks g c =
    let log = g.R.Read.remaining c.args.log.now.inner in
    let ended = c.explain_denied.result in
    lacking ended (λ fault. (c.explain_denied.new.writer ≡ c.args.told.now) × IfSome log (TaskLacks c.args.task fault))
    (λ places is. absurd (c.explain_denied.ensures.none places is))
    (λ is. absurd ((not_by ended IsOfPlace WorkFault.NoSuchTable c.explain_denied.ensures.alone is).1 refl))
    (λ is. absurd ((not_by ended IsOfPlace WorkFault.NoSuchUser c.explain_denied.ensures.alone is).0.1 refl))

pub returns-in-Picture-clause-text : goal.returns-in-Picture-clause-text
returns-in-Picture-clause-text g c =
    let log = g.R.Read.remaining c.args.log.now.inner in
    let old = g.W.Write.contents c.args.told.now.inner in
    let new = g.W.Write.contents c.grants_text.new.writer.inner in
    subst (λ (task : Task). SaysText (AnswersTask task) log old new c.grants_text.result) (sym c.in-Picture.is)
    (subst (λ (place : Option ℕ). SaysText (λ input text. IsPicture input place text) log old new c.grants_text.result) c.place.ensures
    c.grants_text.ensures.text)

pub returns-in-Picture-clause-lacks : goal.returns-in-Picture-clause-lacks
returns-in-Picture-clause-lacks g c =
    let log = g.R.Read.remaining c.args.log.now.inner in
    let ended = c.grants_text.result in
    lacking ended (λ fault. (c.grants_text.new.writer ≡ c.args.told.now) × IfSome log (TaskLacks c.args.task fault)) (λ places is.
    let none = c.grants_text.ensures.none places is in (
      none.0,
      subst (λ (task : Task). IfSome log (TaskLacks task (WorkFault.NoSuchPlace places))) (sym c.in-Picture.is)
          (subst (λ (place : Option ℕ). IfSome log (λ input. EndsBefore input place places)) c.place.ensures none.1),
    ))
    (λ is. absurd ((not_by ended IsOfPlace WorkFault.NoSuchTable c.grants_text.ensures.alone is).1 refl))
    (λ is. absurd ((not_by ended IsOfPlace WorkFault.NoSuchUser c.grants_text.ensures.alone is).0.1 refl))

pub returns-in-List-clause-text : goal.returns-in-List-clause-text
returns-in-List-clause-text g c =
    let log = g.R.Read.remaining c.args.log.now.inner in
    let old = g.W.Write.contents c.args.told.now.inner in
    let new = g.W.Write.contents c.rows_text.new.writer.inner in
    let name = (rows_named c.in-List.asked).0 in
    subst (λ (task : Task). SaysText (AnswersTask task) log old new c.rows_text.result) (sym c.in-List.is)
    (subst (λ (place : Option ℕ). SaysText (λ input text. IsRows input name place text) log old new c.rows_text.result) c.place-in-List.ensures
    c.rows_text.ensures.text)

pub returns-in-List-clause-lacks : goal.returns-in-List-clause-lacks
returns-in-List-clause-lacks g c =
    let log = g.R.Read.remaining c.args.log.now.inner in
    let ended = c.rows_text.result in
    let name = (rows_named c.in-List.asked).0 in
    lacking ended (λ fault. (c.rows_text.new.writer ≡ c.args.told.now) × IfSome log (TaskLacks c.args.task fault)) (λ places is.
    let none = c.rows_text.ensures.none places is in (
      none.0,
      subst (λ (task : Task). IfSome log (TaskLacks task (WorkFault.NoSuchPlace places))) (sym c.in-List.is)
          (subst (λ (place : Option ℕ). IfSome log (λ input. EndsBefore input place places)) c.place-in-List.ensures none.1),
    )) (λ is.
    let none = c.rows_text.ensures.table is in (
      none.0,
      subst (λ (task : Task). IfSome log (TaskLacks task WorkFault.NoSuchTable)) (sym c.in-List.is)
          (subst (λ (place : Option ℕ). IfSome log (λ input. LacksTable input name place)) c.place-in-List.ensures none.1),
    ))
    (λ is. absurd ((not_by ended IsOfAnswer WorkFault.NoSuchUser c.rows_text.ensures.alone is).1 refl))

pub returns-in-Holders-clause-lacks : goal.returns-in-Holders-clause-lacks
returns-in-Holders-clause-lacks g c =
    let log = g.R.Read.remaining c.args.log.now.inner in
    let ended = c.holders_text.result in
    lacking ended (λ fault. (c.holders_text.new.writer ≡ c.args.told.now) × IfSome log (TaskLacks c.args.task fault)) (λ places is.
    let none = c.holders_text.ensures.none places is in
    (none.0, subst (λ (task : Task). IfSome log (TaskLacks task (WorkFault.NoSuchPlace places))) (sym c.in-Holders.is) none.1)) (λ is.
    let none = c.holders_text.ensures.table is in
    (none.0, subst (λ (task : Task). IfSome log (TaskLacks task WorkFault.NoSuchTable)) (sym c.in-Holders.is) none.1))
    (λ is. absurd ((not_by ended IsOfAnswer WorkFault.NoSuchUser c.holders_text.ensures.alone is).1 refl))

pub returns-in-History-clause-lacks : goal.returns-in-History-clause-lacks
returns-in-History-clause-lacks g c =
    let log = g.R.Read.remaining c.args.log.now.inner in
    let ended = c.history_text.result in
    lacking ended (λ fault. (c.history_text.new.writer ≡ c.args.told.now) × IfSome log (TaskLacks c.args.task fault))
    (λ places is. absurd (c.history_text.ensures.none places is)) (λ is.
    let none = c.history_text.ensures.table is in
    (none.0, subst (λ (task : Task). IfSome log (TaskLacks task WorkFault.NoSuchTable)) (sym c.in-History.is) none.1)) (λ is.
    let none = c.history_text.ensures.user is in
    (none.0, subst (λ (task : Task). IfSome log (TaskLacks task WorkFault.NoSuchUser)) (sym c.in-History.is) none.1))

pub returns-in-Summary-clause-lacks : goal.returns-in-Summary-clause-lacks
returns-in-Summary-clause-lacks g c =
    let log = g.R.Read.remaining c.args.log.now.inner in
    let ended = c.summary_text.result in
    lacking ended (λ fault. (c.summary_text.new.writer ≡ c.args.told.now) × IfSome log (TaskLacks c.args.task fault))
    (λ places is. absurd (not_by ended IsOfSummary (WorkFault.NoSuchPlace places) c.summary_text.ensures.alone is))
    (λ is. absurd (not_by ended IsOfSummary WorkFault.NoSuchTable c.summary_text.ensures.alone is))
    (λ is. absurd (not_by ended IsOfSummary WorkFault.NoSuchUser c.summary_text.ensures.alone is))

pub returns-in-Holders-clause-text : goal.returns-in-Holders-clause-text
returns-in-Holders-clause-text g c =
    let log = g.R.Read.remaining c.args.log.now.inner in
    let old = g.W.Write.contents c.args.told.now.inner in
    let new = g.W.Write.contents c.holders_text.new.writer.inner in
    subst (λ (task : Task). SaysText (AnswersTask task) log old new c.holders_text.result) (sym c.in-Holders.is) c.holders_text.ensures.text

pub returns-in-Summary-clause-text : goal.returns-in-Summary-clause-text
returns-in-Summary-clause-text g c =
    let log = g.R.Read.remaining c.args.log.now.inner in
    let old = g.W.Write.contents c.args.told.now.inner in
    let new = g.W.Write.contents c.summary_text.new.writer.inner in
    subst (λ (task : Task). SaysText (AnswersTask task) log old new c.summary_text.result) (sym c.in-Summary.is) c.summary_text.ensures.text
