use Rattle.std.proofs.Common.{◌++◌, ◌∷◌, [], List, ap, refl, subst, ◌∙◌}
use Rattle.std.specs.Prelude.{Bool}
use Rattle.sequencer.specs.Whole.{IsWhole}
use Rattle.bohm_base.specs.Collecting.{ReadsAs}
use Rattle.bohm_base.specs.declared.collecting.LineOutcome.{LineOutcome}
use Rattle.batched_text.specs.Foretold.{log_names}
use Rattle.batched_text.proofs.line_run.LineRun.take.Goals as goal

pub returns-clause-ok : goal.returns-clause-ok
returns-clause-ok c =
    let old = c.args.self.now in
    let took = c.in_ok-line.ensures.line in (
      took.0,
      (
        subst (λ (first : Bool). ReadsAs first (log_names old).version c.args.line.now took.0) c.is_first-is_first.ensures took.1.0,
        record {
          engine = took.1.1.1;
          waiting = c.push_reserved.ensures.items ∙ ap (λ (ls : List LineOutcome). ls ++ c.in_ok-line.line ∷ []) c.reserve.ensures.items
              ∙ ap (λ (line : LineOutcome). old.waiting.items ++ line ∷ []) took.1.1.0;
          lines = refl;
          reported = refl;
          pending = refl;
          whole = subst IsWhole c.log.ensures.value c.dropped-dropped.ensures.whole;
        },
      ),
    )
