use Rattle.std.proofs.Common.{◌≡◌, ◌≤◌, ◌+◌, Some, refl, ap, subst, sym, ◌∙◌, length, arith}
use Rattle.model_base.specs.declared.outcome.Outcome.{Outcome}
use Rattle.model_base.specs.declared.statement.Statement.{Statement}
use Rattle.model_base.specs.Outcomes.{World, deeds_before, deeds_of, owners, rows_before, world_before}
use Rattle.model_base.specs.Rows.{Rows}
use Rattle.model_base.specs.Versions.{accesses_of}
use Rattle.model_base.proofs.Made.{deeds_of-one, deeds_of-placed}
use Rattle.body.specs.declared.ending.BodyEnd.{BodyEnd}
use Rattle.body.specs.Shown.{WindowShows}
use Rattle.engine.specs.RunState.{AreOwnDeeds, IsBookState}
use Rattle.filling.proofs.Making.{shows-past}
use Rattle.engine.proofs.Running.{Ends, completed-deeds, covers-needs, denied-leads, ended-leads, few_accesses, lacks-none, same-booked}
use Rattle.filling.proofs.Stepping.{Leads, created-leads, make_owners, make_table}
use Rattle.engine.proofs.in_order.judge.Given.{Over}
use Rattle.engine.proofs.in_order.judge.Goals as goal
use Rattle.engine.proofs.in_order.judge.Goals.{After-run, In-Denied}

pub admit-requires-clause-covered : goal.admit-requires-clause-covered
admit-requires-clause-covered g c =
    covers-needs g.log.statements c.args.place c.args.statement.now c.requires.at
    c.args.book.now c.requires.stands.booked c.requires.named

-- what a denied place results in
denied : (g : Over) (c : In-Denied g) → Leads g.log.statements c.args.place c.args.statement.now c.requires.at
    (Outcome.Denied c.in-Denied.need c.in-Denied.cause, world_before g.log.statements c.args.place)
denied g c =
    let log = g.log.statements in
    denied-leads log c.args.place c.args.statement.now c.requires.at (sym c.creates.ensures ∙ c.if-creates.false)
    c.in-Denied.need c.in-Denied.cause
    (sym c.in-Denied.is
    ∙ c.admit.ensures.value (owners log) (deeds_before log c.args.place) (shows-past log c.args.place c.args.book.now c.requires.stands.booked))

-- what an admitted place results in, by how its body ended
ran : (g : Over) (c : After-run g) (end : BodyEnd) → c.run.result ≡ end
    → Ends g.log.statements c.args.place c.args.statement.now c.requires.at c.run.new.window end
ran g c end is =
    let log = g.log.statements in
    ended-leads log c.args.place c.args.statement.now c.requires.at (sym c.creates.ensures ∙ c.if-creates.false)
    (lacks-none (owners log) (deeds_before log c.args.place) c.args.statement.now.user _
    (sym c.in-Admitted.is
    ∙ c.admit.ensures.value (owners log) (deeds_before log c.args.place) (shows-past log c.args.place c.args.book.now c.requires.stands.booked)))
    c.args.chains.now c.mark-mark.ensures.within c.args.book.now c.requires.stands c.fill_window.new.window c.run.new.window
    c.fill_window.ensures.shows c.run.result end is c.run.ensures.ends

-- the book stays that of a place that leaves the world as it is
booked-after-run : (g : Over) (c : After-run g) → world_before g.log.statements (c.args.place + 1) ≡ world_before g.log.statements c.args.place
    → IsBookState g.log.statements (c.args.place + 1) c.admit.new.self
booked-after-run g c same =
    let log = g.log.statements in
    subst (IsBookState log (c.args.place + 1)) (sym c.admit.ensures.same)
    (same-booked log c.args.place c.args.statement.now c.requires.at c.args.book.now c.requires.stands.booked
    c.requires.known (sym c.creates.ensures ∙ c.if-creates.false) same)

pub returns-then-creates-clause-same : goal.returns-then-creates-clause-same
returns-then-creates-clause-same g c = λ failed.
    ap (λ (world : World). world.rows)
    (created-leads g.log.statements c.args.place c.args.statement.now c.requires.at
    (sym c.creates.ensures ∙ c.if-creates.true)).1

pub returns-in-Denied-clause-came : goal.returns-in-Denied-clause-came
returns-in-Denied-clause-came g c = (denied g (goal.at.returns-in-Denied-clause-came g c).In-Denied).0

pub returns-in-Denied-clause-same : goal.returns-in-Denied-clause-same
returns-in-Denied-clause-same g c = λ failed. ap (λ (world : World). world.rows) (denied g (goal.at.returns-in-Denied-clause-same g c).In-Denied).1

pub returns-in-Denied-clause-booked : goal.returns-in-Denied-clause-booked
returns-in-Denied-clause-booked g c =
    let log = g.log.statements in
    subst (IsBookState log (c.args.place + 1)) (sym c.admit.ensures.same)
    (same-booked log c.args.place c.args.statement.now c.requires.at c.args.book.now c.requires.stands.booked
    c.requires.known (sym c.creates.ensures ∙ c.if-creates.false) (denied g (goal.at.returns-in-Denied-clause-booked g c).In-Denied).1)

pub make_deeds-requires : goal.make_deeds-requires
make_deeds-requires g c =
    let log = g.log.statements in
    let statement : Statement = c.args.statement.now in
    let deeds = deeds_of c.args.place statement.user statement.form in
    let leads = ran g (goal.at.make_deeds-requires g c).After-run BodyEnd.Completed c.in-Completed.is in
    let due : AreOwnDeeds log c.args.place deeds c.args.book.now =
    record {
      stands = c.requires.stands.booked;
      next = completed-deeds log c.args.place statement c.requires.at _ c.run.new.window.outputs deeds leads.1 refl;
      owners = make_owners log c.args.place statement c.requires.at c.args.book.now c.requires.stands.booked c.requires.known
          (sym c.creates.ensures ∙ c.if-creates.false);
      at = deeds_of-placed c.args.place statement.user statement.form;
      one = deeds_of-one c.args.place statement.user statement.form;
      tables = make_table log c.args.place statement c.requires.at c.args.book.now c.requires.stands.booked c.requires.known;
    } in
    subst (AreOwnDeeds log c.args.place deeds) (sym c.admit.ensures.same) due

pub returns-in_ok-deed-in-Completed-clause-came : goal.returns-in_ok-deed-in-Completed-clause-came
returns-in_ok-deed-in-Completed-clause-came g c =
    (ran g (goal.at.returns-in_ok-deed-in-Completed-clause-came g c).After-run BodyEnd.Completed c.in-Completed.is).0
    ∙ (λ i. Some (Outcome.Done (sym c.outputs-outputs.ensures i) (sym c.in_ok-deed-in-Completed.ensures.told i)))

pub returns-in_ok-deed-in-Completed-clause-changed : goal.returns-in_ok-deed-in-Completed-clause-changed
returns-in_ok-deed-in-Completed-clause-changed g c = λ completed.
    let log = g.log.statements in
    let place = c.args.place in
    let statement = c.args.statement.now in
    let rows : Rows = rows_before log place in
    let left = c.run.new.window in
    let taken = c.requires.taken in
    let few : length (accesses_of statement.form) ≤ length left.rows = omega (arith, c.row-row.ensures.whole, few_accesses statement.form taken.runnable) in
    let after = ap (λ (world : World). world.rows)
    (ran g (goal.at.returns-in_ok-deed-in-Completed-clause-changed g c).After-run BodyEnd.Completed c.in-Completed.is).1 in
    subst (WindowShows (accesses_of statement.form) left) (sym after) (c.shows_rows.ensures (accesses_of statement.form) left.rows rows taken.apart few)

pub returns-in-Aborted-clause-came : goal.returns-in-Aborted-clause-came
returns-in-Aborted-clause-came g c =
    (ran g (goal.at.returns-in-Aborted-clause-came g c).After-run (BodyEnd.Aborted c.in-Aborted.step c.in-Aborted.reason) c.in-Aborted.is).0

pub returns-in-Aborted-clause-same : goal.returns-in-Aborted-clause-same
returns-in-Aborted-clause-same g c = λ failed.
    ap (λ (world : World). world.rows)
    (ran g (goal.at.returns-in-Aborted-clause-same g c).After-run (BodyEnd.Aborted c.in-Aborted.step c.in-Aborted.reason) c.in-Aborted.is).1

pub returns-in-Aborted-clause-booked : goal.returns-in-Aborted-clause-booked
returns-in-Aborted-clause-booked g c =
    let at = (goal.at.returns-in-Aborted-clause-booked g c).After-run in
    booked-after-run g at (ran g at (BodyEnd.Aborted c.in-Aborted.step c.in-Aborted.reason) c.in-Aborted.is).1

pub returns-in-Undeclared-clause-came : goal.returns-in-Undeclared-clause-came
returns-in-Undeclared-clause-came g c =
    (ran g (goal.at.returns-in-Undeclared-clause-came g c).After-run (BodyEnd.Undeclared c.in-Undeclared.step) c.in-Undeclared.is).0

pub returns-in-Undeclared-clause-same : goal.returns-in-Undeclared-clause-same
returns-in-Undeclared-clause-same g c = λ failed.
    ap (λ (world : World). world.rows)
    (ran g (goal.at.returns-in-Undeclared-clause-same g c).After-run (BodyEnd.Undeclared c.in-Undeclared.step) c.in-Undeclared.is).1

pub returns-in-Undeclared-clause-booked : goal.returns-in-Undeclared-clause-booked
returns-in-Undeclared-clause-booked g c =
    let at = (goal.at.returns-in-Undeclared-clause-booked g c).After-run in
    booked-after-run g at (ran g at (BodyEnd.Undeclared c.in-Undeclared.step) c.in-Undeclared.is).1
