use Rattle.std.proofs.Common.{◌≡◌, ◌+◌, ◌++◌, ℕ, List, refl, ap, sym, ◌∙◌}
use Rattle.model_base.specs.Outcomes.{rows_before}
use Rattle.model_base.specs.Versions.{accesses_of}
use Rattle.body.specs.Shown.{WindowShows}
use Rattle.chains.specs.declared.version.Version.{Version}
use Rattle.chains.specs.Store.{of_key, versions_at, versions_by}
use Rattle.engine.proofs.Running.{placed-versions, rows-are}
use Rattle.engine.proofs.in_order.run_place.Given.{Over}
use Rattle.engine.proofs.in_order.run_place.Goals as goal
use Rattle.engine.proofs.in_order.run_place.Goals.{After-show_rows_after}

-- the window has the rows after the place
shows : (g : Over) (c : After-show_rows_after g) → WindowShows (accesses_of c.args.statement.now.form) c.show_rows_after.new.window
    (rows_before g.log.statements (c.args.place + 1))
shows g c =
    let log = g.log.statements in
    let stands = c.requires.stands in
    c.show_rows_after.ensures (rows_before log (c.args.place + 1))
    (λ completed. c.in_ok-found.ensures.changed completed)
    (λ failed. rows-are log c.args.state.now.chains c.args.place c.mark-mark.ensures.within stands.ends stands.right ∙ sym (c.in_ok-found.ensures.same failed))

-- so the versions that it puts are those of the place
left : (g : Over) (c : After-show_rows_after g) → versions_by c.args.place (accesses_of c.args.statement.now.form) c.show_rows_after.new.window.rows
    ≡ versions_at g.log.statements c.args.place
left g c =
    placed-versions g.log.statements c.args.place c.args.statement.now c.requires.at
    (rows_before g.log.statements (c.args.place + 1)) c.show_rows_after.new.window.rows refl (shows g c)

pub returns-clause-stands : goal.returns-clause-stands
returns-clause-stands g c =
    let stands = c.requires.stands in
    record {
      ends = c.put_place.ensures.end ∙ ap (λ (n : ℕ). n + 1) stands.ends;
      right = c.in_ok-put_place.ensures.right g.log.statements
          (rw (stands.ends, c.accesses.ensures) (left g (goal.at.returns-clause-stands g c).After-show_rows_after)) stands.right;
      booked = c.in_ok-found.ensures.booked;
    }

pub returns-clause-versions : goal.returns-clause-versions
returns-clause-versions g c = λ key.
    let old = c.args.state.now.chains.versions in
    c.in_ok-put_place.ensures.versions key
    ∙ (λ i. of_key key (old ++ versions_by (c.requires.stands.ends i) (c.accesses.ensures i) c.show_rows_after.new.window.rows))
    ∙ ap (λ (versions : List Version). of_key key (old ++ versions)) (left g (goal.at.returns-clause-versions g c).After-show_rows_after)
