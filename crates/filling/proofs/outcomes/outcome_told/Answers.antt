use Rattle.std.proofs.Common.{◌≡◌, ◌<◌, ◌+◌, ◌^◌, Some, List, ℕ, take, sym, ap, ◌∙◌, subst, arith}
use Rattle.bohm_core_base.specs.Serial.{serial_words}
use Rattle.log_batch.specs.Supplied.{LogRange, batch_of}
use Rattle.filling.specs.Keys.{Key}
use Rattle.filling.specs.Outcomes.{IsEndedList, outcome_in}
use Rattle.filling.proofs.Decoding.{told-outcome}
use Rattle.filling.proofs.outcomes.outcome_told.Goals as goal

pub load_own-own-requires-clause-pass : goal.load_own-own-requires-clause-pass
load_own-own-requires-clause-pass c = record { same_table = c.requires.done.same_table; key = c.requires.done.key }

pub returns-clause-value : goal.returns-clause-value
returns-clause-value c =
    let ranged = c.batch-batch.result.now in
    let index = c.args.index in
    let same = c.batch-batch.ensures in
    let within : index < ranged.size = subst (λ (r : LogRange). index < r.size) (sym same) c.requires.done.within in
    let low = c.first_place-first.ensures.small in
    let small : ranged.first + index < 2 ^ 64 = omega arith in
    let own : List ℕ = take c.words_length-count.result c.load_own-own.result in
    let is : own ≡ serial_words (batch_of ranged) index
    = c.load_own-own.ensures.value ∙ ap (λ (k : Key). serial_words (batch_of k.batch) index) c.requires.done.key ∙ ap (λ (r : LogRange). serial_words (batch_of r) index) (sym same) in
    let right = subst (λ (r : LogRange). IsEndedList r index c.args.ended) (sym same) c.requires.ended in
    let told = told-outcome ranged c.statement-statement.ensures.of_log index within c.statement-statement.result.now c.statement-statement.ensures.at c.statement-statement.ensures.taken small
    c.words_tell_outcomes.ensures own c.args.ended is right in
    ap (λ (r : LogRange). outcome_in r index) (sym same) ∙ told ∙ ap Some (sym c.decoded.ensures)
