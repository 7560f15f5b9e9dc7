use Rattle.std.proofs.Common.{◌≡◌, ◌<◌, ◌+◌, ◌++◌, ℕ, List, [], ap, refl, sym, ◌∙◌, subst}
use Rattle.engine.specs.Engine.{Run, finished}
use Rattle.bohm_base.specs.Places.{IsFinishedAs}
use Rattle.log_text.specs.Statement.{Sentence}
use Rattle.report.specs.Report.{place_text}
use Rattle.sequencer.specs.Foretelling.{IsForetold}
use Rattle.sequencer.specs.Whole.{IsWhole}
use Rattle.batched_text.specs.declared.line_run.LineRun.{LineRun}
use Rattle.batched_text.proofs.Singles.{finished_next, none_waits, single_dealt}
use Rattle.batched_text.proofs.line_run.LineRun.report_single.Goals as goal

-- what was made in an empty text is appended
appended : (old new made text empty line : List ℕ) → new ≡ old ++ made → made ≡ text → text ≡ empty ++ line → empty ≡ [] → new ≡ old ++ line
appended old new made text empty line is same put none =
    is ∙ ap (λ (xs : List ℕ). old ++ xs) (same ∙ put ∙ ap (λ (xs : List ℕ). xs ++ line) none)

pub put_finished-requires : goal.put_finished-requires
put_finished-requires g c =
    let sentence : Sentence = c.requires.foretold.0 in
    let foretold = c.requires.foretold.1.1 in
    let next =
    finished_next sentence c.args.statement.now c.in_ok-outcome.outcome c.args.self.now.engine c.run_foretold.new.self foretold
    (c.in_ok-outcome.ensures.runs sentence foretold) (none_waits c.args.runner.now.plan c.args.self.now c.requires.open c.requires.none)
    c.trim_to.new.engine c.finished-place.result c.trim_to.ensures.rest c.finished-place.ensures.count in
    let same : c.trim_to.new.engine ≡ c.new-kept.result.engine.now = sym c.new-kept.ensures in
    record {
      finished = subst (λ (run : Run). c.finished-place.result < finished run) same next.0;
      came = subst (λ (run : Run). IsFinishedAs run.log c.finished-place.result c.args.statement.now c.in_ok-outcome.outcome) same next.1;
    }

pub returns : goal.returns
returns g c =
    let old : LineRun = c.args.self.now in
    let run : Run = c.trim_to.new.engine in
    let line : List ℕ = place_text run.log.statements run.log.names c.finished-place.result in
    let told : c.extend_from_slice.new.self.items ≡ old.pending.items ++ line =
    appended old.pending.items c.extend_from_slice.new.self.items c.deref.result.now c.put_finished.new.text.items c.clear.new.self.items line
    c.in_ok-extend_from_slice.ensures.items c.deref.ensures.value (rw c.new-kept.ensures at c.in_ok-put_finished.ensures) c.clear.ensures.items in
    let single =
    λ (sentence : Sentence) (foretold : IsForetold old.engine.log.names sentence c.args.statement.now).
    single_dealt c.args.runner.now.plan sentence c.args.statement.now c.in_ok-outcome.outcome old
    (record old { engine = run; lines = old.lines + 1; reported = c.finished-place.result + 1; pending = c.extend_from_slice.new.self; text = c.put_finished.new.text }) c.run_foretold.new.self
    c.finished-place.result c.requires.open c.requires.cut c.requires.dropped c.requires.none foretold (c.in_ok-outcome.ensures.runs sentence foretold)
    c.finished-place.ensures.count c.trim_to.ensures.rest (c.trim_to.ensures.mark ∙ c.mark_behind-mark.ensures) c.trim_to.ensures.swept
    (subst IsWhole c.log.ensures.value c.dropped-dropped.ensures.whole) c.requires.number refl c.requires.none refl told in
    record {
      deals = λ sentence foretold. (single sentence foretold).0;
      room = (single c.requires.foretold.0 c.requires.foretold.1.1).1;
      err = tt;
    }
