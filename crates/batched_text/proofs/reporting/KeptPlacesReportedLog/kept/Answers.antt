use Rattle.std.proofs.Common.{◌≡◌, ◌≤◌, ◌+◌, ◌-◌, ℕ, List, Some, drop, get_or, ap, sym, ◌∙◌, arith}
use Rattle.std.proofs.lemmas.List.{get_or-drop}
use Rattle.std.proofs.lemmas.Option.{slice_get-get_or}
use Rattle.model_base.specs.declared.outcome.Outcome.{Outcome}
use Rattle.model_base.specs.declared.statement.Statement.{Statement}
use Rattle.engine.proofs.Advanced.{finished_at}
use Rattle.engine.specs.Engine.{Run}
use Rattle.batched_text.proofs.reporting.KeptPlacesReportedLog.kept.Goals as goal

-- what is at an index of those that are kept
kept_at : {X : Type 0} (kept all : List X) (dropped place index : ℕ) (found : X) → kept ≡ drop dropped all → dropped ≤ place → index ≡ place - dropped
    → found ≡ get_or kept index found → found ≡ get_or all place found
kept_at kept all dropped place index found is within at here =
    let sum : dropped + index ≡ place = omega (arith, within, at) in
    here ∙ ap (λ xs. get_or xs index found) is ∙ get_or-drop dropped all index found ∙ ap (λ (n : ℕ). get_or all n found) sum

pub returns : goal.returns
returns c =
    let kept = c.args.self.now in
    let run : Run = kept.engine.now in
    let place = c.args.place in
    let statement : Statement = c.index-statements-index.result in
    let found : Outcome = c.index-outcomes-index.result in
    let index : place - kept.dropped ≡ place - run.dropped = ap (λ (n : ℕ). place - n) kept.since in (
      c.requires.1,
      record {
        there = slice_get-get_or run.log.statements place statement (omega (arith, c.requires.1, c.finished-finished.ensures.run.within))
            ∙ ap Some (sym (kept_at kept.statements.now run.log.statements run.dropped place (place - kept.dropped) statement kept.of_log c.requires.0 index c.index-statements-index.is));
        came = finished_at run c.finished-finished.ensures.run place found c.requires.1
            (kept_at kept.outcomes.now run.outcomes run.dropped place (place - kept.dropped) found kept.of_run c.requires.0 index c.index-outcomes-index.is);
      },
    )
