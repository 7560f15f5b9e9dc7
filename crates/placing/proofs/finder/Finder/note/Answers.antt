use Rattle.std.proofs.Common.{◌≡◌, sym, ◌∙◌}
use Rattle.std.specs.Prelude.{Some}
use Rattle.placing.proofs.Writers.{latest_next, left_again, noted_again}
use Rattle.std.specs.Prelude.{ℕ, ◌≤◌, ◌+◌, List, OnOk, Result, Ok, Err, slice_get}
use Rattle.model_base.specs.declared.statement.Statement.{Statement}
use Rattle.placing.specs.Latest.{IsBehind, IsLatest, Notes}
use Rattle.placing.proofs.finder.Finder.note.Goals as goal

pub returns-clause-behind : goal.returns-clause-behind
returns-clause-behind c log first behind at =
    let old = c.args.self.now.latest in
    let new = c.note.new.self in
    let others = c.note.ensures.others in
    record {
      exact = behind.exact;
      noted = behind.noted;
      partition = others.partition ∙ behind.partition;
      partitions = others.partitions ∙ behind.partitions;
      part = λ statement here.
          let both : Some statement ≡ Some c.args.statement.now = sym here ∙ at in
          let same : statement ≡ c.args.statement.now = cc in
          rw same (left_again behind.exact old new c.args.statement.now (behind.part c.args.statement.now at) others);
    }

on_ok : {A E : Type 0} (r : Result A E) (P Q : Type 0) → (P → Q) → OnOk r P → OnOk r Q
on_ok (Ok x) P Q to holds = to holds
on_ok (Err e) P Q to holds = holds

pub returns-clause-noted : goal.returns-clause-noted
returns-clause-noted c =
    let old = c.args.self.now.latest in
    let new = c.note.new.self in
    let statement = c.args.statement.now in
    let place = c.args.place in
    on_ok c.note.result (Notes old new statement place)
    ((log : List Statement) (first : ℕ) → first ≤ place → IsBehind old log first place → slice_get log place ≡ Some statement → IsLatest new log first (place + 1))
    (λ notes log first above behind at.
    latest_next behind.exact new log first place statement above at behind.noted (noted_again behind.exact old new statement place (behind.part statement at) notes))
    c.note.ensures.noted
