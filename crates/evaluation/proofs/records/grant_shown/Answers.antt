use Rattle.std.proofs.Common.{◌≡◌, ◌<◌, ◌≤◌, ◌+◌, ◌-◌, ◌&&◌, true, false, refl, sym, ap, ◌∙◌, subst, arith}
use Rattle.std.specs.Prelude.{nat_lt}
use Rattle.std.proofs.lemmas.Bool.{le-ltb, lt-ltb}
use Rattle.model_base.proofs.Replay.{by_cases}
use Rattle.grants_base.specs.View.{grant_in, slot_at}
use Rattle.bohm_core_base.specs.Batch.{is_listed, was_done}
use Rattle.bohm_core_base.specs.Serial.{serial_words}
use Rattle.log_batch.specs.Supplied.{batch_of}
use Rattle.evaluation.specs.Seen.{seen_at, seen_view}
use Rattle.evaluation.specs.ReadSource.{IsDeedBefore, Reader, made_whole}
use Rattle.evaluation.proofs.Shown.{reader-is}
use Rattle.evaluation.proofs.Slots.{grant-none, grant-some, listed, made-early, made-late, slot-deed}
use Rattle.evaluation.proofs.records.grant_shown.Goals as goal
use Rattle.evaluation.proofs.records.grant_shown.Goals.{then-not-is_on-via-then-not-is_on, then-not-is_on-via-else-not-is_on+then-grant-first, then-grant-first-2, else-grant-first-2}

pub returns-then-not-is_on-clause-value : goal.returns-then-not-is_on-clause-value
returns-then-not-is_on-clause-value g c =
    let ranged = c.args.batch.now in
    let batch = batch_of ranged in
    let index = c.reader-index.result in
    let grant = c.grant-grant.result in
    let statement = c.statement.result.now in
    let on : is_listed (batch.tables index) grant.table ≡ c.is_on.result =
    ap (λ tables. is_listed tables grant.table) (listed ranged c.statement.ensures.whole index statement c.statement.ensures.at) ∙ sym c.is_on.ensures in
    let first = c.first_place-first.ensures.value in
    let seen : (is_listed (batch.tables index) grant.table && (nat_lt grant.place (ranged.first + index) && made_whole batch grant.place)) ≡ false =
    elim c.then-not-is_on.branch [
      | then-not-is_on-via-then-not-is_on w ↦
          let off : c.is_on.result ≡ false = cc in
          rw (on, off) refl
      | then-not-is_on-via-else-not-is_on+then-grant-first w ↦
          let over : ranged.first + index ≤ grant.place = omega (arith, first, w.if-grant-first.true) in
          rw (le-ltb grant.place (ranged.first + index) over)
          (by_cases (is_listed (batch.tables index) grant.table) (λ yes. rw yes refl) (λ no. rw no refl))
    ] in
    grant-none ranged c.first_place-first.ensures.of_log index c.args.slot grant c.grant-grant.ensures seen
    ∙ ap (λ mine. grant_in (slot_at (seen_view (seen_at ranged mine)) c.args.slot)) c.reader-index.ensures.value

pub was_done-requires : goal.was_done-requires
was_done-requires g c =
    let ranged = c.args.batch.now in
    let batch = batch_of ranged in
    let index = c.reader-index.result in
    let grant = c.grant-grant.result in
    let statement = c.statement.result.now in
    let yes : c.is_on.result ≡ true = cc in
    let on : is_listed (batch.tables index) grant.table ≡ true =
    ap (λ tables. is_listed tables grant.table) (listed ranged c.statement.ensures.whole index statement c.statement.ensures.at) ∙ sym c.is_on.ensures ∙ yes in
    let first = c.first_place-first.ensures.value in
    let from : ranged.first ≤ grant.place = omega (arith, first, c.if-grant-first-2.false) in
    let below : grant.place < ranged.first + index = omega (arith, first, c.if-grant-first.false) in
    let reader = reader-is (g.T.ReadSource.as_reader c.args.source.now) batch index c.requires.batch c.reader-index.ensures.value in
    record {
      deed =
          subst (λ (reader : Reader). IsDeedBefore reader (grant.place - c.first_place-first.result)) (sym reader)
          (subst (λ first. IsDeedBefore (record { batch = batch; index = index }) (grant.place - first)) (sym first)
          (slot-deed ranged c.first_place-first.ensures.of_log index c.args.slot grant c.grant-grant.ensures on from below));
    }

pub returns-then-was_done-clause-value : goal.returns-then-was_done-clause-value
returns-then-was_done-clause-value g c =
    let ranged = c.args.batch.now in
    let batch = batch_of ranged in
    let index = c.reader-index.result in
    let grant = c.grant-grant.result in
    let statement = c.statement.result.now in
    let yes : c.is_on.result ≡ true = cc in
    let on : is_listed (batch.tables index) grant.table ≡ true =
    ap (λ tables. is_listed tables grant.table) (listed ranged c.statement.ensures.whole index statement c.statement.ensures.at) ∙ sym c.is_on.ensures ∙ yes in
    let first = c.first_place-first.ensures.value in
    let below : grant.place < ranged.first + index = omega (arith, first, c.if-grant-first.false) in
    let made : made_whole batch grant.place ≡ c.if-grant-first-2.value =
    elim c.if-grant-first-2.branch [
      | then-grant-first-2 w ↦
          made-early ranged c.first_place-first.ensures.of_log grant.place (omega (arith, first, w.if-grant-first-2.true)) ∙ sym (lt-ltb grant.place c.first_place-first.result w.if-grant-first-2.true) ∙ sym w.value-is
      | else-grant-first-2 w ↦
          made-late ranged c.first_place-first.ensures.of_log grant.place (omega (arith, first, w.if-grant-first-2.false))
          ∙ ap (λ first. was_done (serial_words batch (grant.place - first))) (sym first)
          ∙ ap (λ b. was_done (serial_words b (grant.place - c.first_place-first.result))) (sym c.requires.batch)
          ∙ sym w.was_done.ensures.value ∙ sym w.value-is
    ] in
    grant-some ranged c.first_place-first.ensures.of_log index c.args.slot grant c.grant-grant.ensures (rw (on, lt-ltb grant.place (ranged.first + index) below, made) c.if-was_done.true)
    ∙ ap (λ mine. grant_in (slot_at (seen_view (seen_at ranged mine)) c.args.slot)) c.reader-index.ensures.value

pub returns-else-was_done-clause-value : goal.returns-else-was_done-clause-value
returns-else-was_done-clause-value g c =
    let ranged = c.args.batch.now in
    let batch = batch_of ranged in
    let index = c.reader-index.result in
    let grant = c.grant-grant.result in
    let statement = c.statement.result.now in
    let yes : c.is_on.result ≡ true = cc in
    let on : is_listed (batch.tables index) grant.table ≡ true =
    ap (λ tables. is_listed tables grant.table) (listed ranged c.statement.ensures.whole index statement c.statement.ensures.at) ∙ sym c.is_on.ensures ∙ yes in
    let first = c.first_place-first.ensures.value in
    let below : grant.place < ranged.first + index = omega (arith, first, c.if-grant-first.false) in
    let made : made_whole batch grant.place ≡ c.if-grant-first-2.value =
    elim c.if-grant-first-2.branch [
      | then-grant-first-2 w ↦
          made-early ranged c.first_place-first.ensures.of_log grant.place (omega (arith, first, w.if-grant-first-2.true)) ∙ sym (lt-ltb grant.place c.first_place-first.result w.if-grant-first-2.true) ∙ sym w.value-is
      | else-grant-first-2 w ↦
          made-late ranged c.first_place-first.ensures.of_log grant.place (omega (arith, first, w.if-grant-first-2.false))
          ∙ ap (λ first. was_done (serial_words batch (grant.place - first))) (sym first)
          ∙ ap (λ b. was_done (serial_words b (grant.place - c.first_place-first.result))) (sym c.requires.batch)
          ∙ sym w.was_done.ensures.value ∙ sym w.value-is
    ] in
    grant-none ranged c.first_place-first.ensures.of_log index c.args.slot grant c.grant-grant.ensures (rw (on, lt-ltb grant.place (ranged.first + index) below, made) c.if-was_done.false)
    ∙ ap (λ mine. grant_in (slot_at (seen_view (seen_at ranged mine)) c.args.slot)) c.reader-index.ensures.value
