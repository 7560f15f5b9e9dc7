use Rattle.std.proofs.Common.{◌<◌, ◌+◌, ◌++◌, ◌∷◌, [], List, length, ap, sym, ◌∙◌, subst, arith}
use Rattle.std.specs.declared.vec.Vec.{Vec}
use Rattle.std.specs.declared.alloc.Global.{Global}
use Rattle.chains.specs.declared.version.Version.{Version}
use Rattle.chains.specs.Store.{versions_at}
use Rattle.model_base.specs.declared.outcome.Outcome.{Outcome}
use Rattle.log_batch.specs.Supplied.{range_of}
use Rattle.filling.specs.Finished.{AreOutcomes}
use Rattle.filling.proofs.Grouped.{there}
use Rattle.filling.proofs.Ranges.{outcomes_more, versions_more}
use Rattle.filling.proofs.completion.finished.Finished.of.Goals as goal

pub loop-index-init : goal.loop-index-init
loop-index-init c =
    c.new-done.ensures c.args.batch.now.log.statements c.args.batch.now.first c.args.book.now c.requires.stands c.tables-tables.ensures.sound

pub loop-index-preserved : goal.loop-index-preserved
loop-index-preserved c =
    let log = c.args.batch.now.log.statements in
    let first = c.args.batch.now.first in
    let index = c.loop-index.index in
    let before = c.loop-index.invariant in
    record {
      outcomes = subst (λ (os : List Outcome). AreOutcomes log first (index + 1) os)
          (sym (c.in_ok-push.ensures.items ∙ ap (λ (v : Vec Outcome Global). v.items ++ c.outcome_of-came.result ∷ []) c.in_ok-push_changes.ensures.outcomes))
          (outcomes_more log first index c.loop-index.done.outcomes.items c.outcome_of-came.result before.outcomes c.outcome_of-came.ensures);
      versions = c.in_ok-push_left.ensures
          ∙ ap (λ (v : Vec Version Global). v.items ++ versions_at log (first + index)) c.in_ok-push_changes.ensures.versions
          ∙ ap (λ (vs : List Version). vs ++ versions_at log (first + index)) before.versions
          ∙ sym (versions_more log first index);
      changes = c.in_ok-push_changes.ensures.changes;
    }

pub outcome_of-came-requires-clause-words : goal.outcome_of-came-requires-clause-words
outcome_of-came-requires-clause-words c =
    let ranged = c.args.batch.now in
    let index = c.loop-index.index in
    let within : index < ranged.size = omega (arith, c.loop-index-test.true) in
    let low : ranged.first + index < length ranged.log.statements = omega (arith, within, c.log-log.ensures.within) in
    let at = there ranged.log.statements (ranged.first + index) low in
    c.at-own.ensures ∙ c.requires.done.own index within ∙ c.serial_words_are_of_the_log.ensures (range_of ranged) c.log-log.ensures.of_log index at.0 at.1

pub outcome_of-came-requires-clause-ended : goal.outcome_of-came-requires-clause-ended
outcome_of-came-requires-clause-ended c =
    λ found is.
    let ranged = c.args.batch.now in
    let index = c.loop-index.index in
    let within : index < ranged.size = omega (arith, c.loop-index-test.true) in
    c.in_ok-names.ensures.items ∙ c.at.ensures ∙ c.in_ok-ended.ensures index within
    ∙ c.serial_ends_are_of_the_log.ensures (range_of ranged) c.log-log.ensures.of_log index found within is

pub push_left-requires-clause-words : goal.push_left-requires-clause-words
push_left-requires-clause-words c =
    let ranged = c.args.batch.now in
    let index = c.loop-index.index in
    let within : index < ranged.size = omega (arith, c.loop-index-test.true) in
    let low : ranged.first + index < length ranged.log.statements = omega (arith, within, c.log-log.ensures.within) in
    let at = there ranged.log.statements (ranged.first + index) low in
    c.at-own.ensures ∙ c.requires.done.own index within ∙ c.serial_words_are_of_the_log.ensures (range_of ranged) c.log-log.ensures.of_log index at.0 at.1
