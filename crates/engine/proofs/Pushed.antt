-- One statement more.
use Rattle.std.proofs.Common.{◌≡◌, ℕ, List, [], ◌∷◌, None, length, ap, sym, ◌∙◌, subst, arith}
use Rattle.std.specs.Prelude.{Result, Ok, Err}
use Rattle.std.proofs.lemmas.List.{length-append}
use Rattle.model_base.specs.declared.outcome.Outcome.{Outcome}
use Rattle.model_base.specs.Outcomes.{owners}
use Rattle.chains.specs.Store.{Store}
use Rattle.grants_base.specs.Book.{Entries}
use Rattle.log_text.specs.Statement.{Sentence}
use Rattle.log_text.specs.declared.version.Version.{Version}
use Rattle.sequencer.specs.Catalog.{numbered}
use Rattle.sequencer.specs.Log.{Accepted, in_version, with_accepted}
use Rattle.sequencer.specs.Pushing.{Pushes}
use Rattle.sequencer.specs.Refusal.{refusal}
use Rattle.sequencer.specs.Tail.{Tail}
use Rattle.sequencer.specs.Whole.{IsWhole}
use Rattle.sequencer.specs.declared.refused.Refused.{Refused}
use Rattle.engine.specs.Known.{IsKnown}
use Rattle.engine.specs.Engine.{IsRunKept, IsRun, Run}
use Rattle.model_base.specs.Growing.{NeedsOwnTables, NeedsWithin}
use Rattle.engine.proofs.Grown.{known_grown, outcomes_grown, stands_grown}
use Rattle.engine.proofs.Named.{known_new, named_grown}
use Rattle.sequencer.proofs.KnownTables.{known_names}

abbrev pub run_of : Store → Entries → List Outcome → ℕ → Accepted → Run
run_of store book outcomes dropped log = record { log = log; store = store; book = book; outcomes = outcomes; dropped = dropped }

module _ (tail : Tail) (store : Store) (book : Entries) (outcomes : List Outcome) (run : IsRun (run_of store book outcomes tail.dropped tail.log)) (whole : IsWhole tail.log) (own : NeedsOwnTables tail.log.statements) where
  pub one-more : (sentence : Sentence) → refusal tail.log.names sentence ≡ None → IsRun (run_of store book outcomes tail.dropped (with_accepted tail.log sentence))
  one-more sentence passes =
      let log : Accepted = tail.log in
      let statement = numbered log.names sentence in
      let tables : length log.names.tables ≡ length (owners log.statements) = sym whole.owned ∙ ap length whole.owners in
      let here : IsKnown (length (owners log.statements)) statement.form = subst (λ (n : ℕ). IsKnown n statement.form) tables (known_new log.names sentence passes) in
      let needed : NeedsWithin (length (owners log.statements)) statement = subst (λ (n : ℕ). NeedsWithin n statement) tables (known_names log.names sentence passes).needs in
      record {
        within = omega (arith, run.within, length-append log.statements (statement ∷ []));
        known = known_grown log.statements statement run.known here;
        named = named_grown log.statements statement run.named needed;
        stands = stands_grown log.statements (statement ∷ []) own (length outcomes) run.within store book run.stands;
        came = outcomes_grown log.statements (statement ∷ []) own 0 (length outcomes) outcomes (omega (arith, run.within)) run.came;
        dropped = run.dropped;
      }

  -- so it is with the answer that takes it, or refuses it
  pub pushed : (past : List Outcome) → length past ≡ tail.dropped → (sentence : Sentence) (after : Tail) (result : Result ℕ Refused)
      → Pushes tail.log sentence result tail after (record tail { log = with_accepted tail.log sentence })
      → IsRunKept (run_of store book outcomes after.dropped after.log) past
  pushed past same sentence after (Ok place) pushes =
      subst (λ (t : Tail). IsRunKept (run_of store book outcomes t.dropped t.log) past) (sym pushes.accepted)
      (record { is = one-more sentence pushes.passes; same = same })
  pushed past same sentence after (Err refused) pushes =
      subst (λ (t : Tail). IsRunKept (run_of store book outcomes t.dropped t.log) past) (sym pushes.err) (record { is = run; same = same })

-- what is pushed onto the log is pushed onto the run
pub run_pushes : (tail after : Tail) (store : Store) (book : Entries) (outcomes : List Outcome) (run : Run) → run_of store book outcomes tail.dropped tail.log ≡ run
    → (sentence : Sentence) (result : Result ℕ Refused) → Pushes tail.log sentence result tail after (record tail { log = with_accepted tail.log sentence })
    → Pushes run.log sentence result run (run_of store book outcomes after.dropped after.log) (record run { log = with_accepted run.log sentence })
run_pushes tail after store book outcomes run is sentence (Ok place) pushes =
    subst (λ (r : Run). Pushes r.log sentence (Ok place) r (run_of store book outcomes after.dropped after.log) (record r { log = with_accepted r.log sentence })) is
    (record {
      place = pushes.place;
      accepted = ap (λ (t : Tail). run_of store book outcomes t.dropped t.log) pushes.accepted;
      passes = pushes.passes;
      refused = tt;
      err = tt;
    })
run_pushes tail after store book outcomes run is sentence (Err refused) pushes =
    subst (λ (r : Run). Pushes r.log sentence (Err refused) r (run_of store book outcomes after.dropped after.log) (record r { log = with_accepted r.log sentence })) is
    (record {
      place = tt;
      accepted = tt;
      passes = tt;
      refused = pushes.refused;
      err = ap (λ (t : Tail). run_of store book outcomes t.dropped t.log) pushes.err;
    })

-- the version of the log says nothing of its places
pub versioned : (tail : Tail) (store : Store) (book : Entries) (outcomes past : List Outcome) (version : Version)
    → IsRunKept (run_of store book outcomes tail.dropped tail.log) past → (after : Tail) → after ≡ record tail { log = in_version version tail.log }
    → IsRunKept (run_of store book outcomes after.dropped after.log) past
versioned tail store book outcomes past version kept after set =
    subst (λ (t : Tail). IsRunKept (run_of store book outcomes t.dropped t.log) past) (sym set)
    (record {
      is = record {
        within = kept.is.within;
        known = kept.is.known;
        named = kept.is.named;
        stands = kept.is.stands;
        came = kept.is.came;
        dropped = kept.is.dropped;
      };
      same = kept.same;
    })
