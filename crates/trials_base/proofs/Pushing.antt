-- One statement more.
use Rattle.std.proofs.Common.{◌≡◌, ℕ, None, length, ap, sym, ◌∙◌, subst}
use Rattle.std.specs.Prelude.{OnErr, OnOk, Result, Ok, Err}
use Rattle.model_base.specs.Growing.{NeedsWithin}
use Rattle.model_base.specs.Outcomes.{owners}
use Rattle.log_text.specs.Statement.{Sentence}
use Rattle.sequencer.specs.Catalog.{numbered}
use Rattle.sequencer.specs.Log.{Accepted, with_accepted}
use Rattle.sequencer.specs.Refusal.{refusal}
use Rattle.sequencer.specs.Tail.{Tail}
use Rattle.sequencer.specs.Whole.{IsWhole}
use Rattle.sequencer.specs.declared.refused.Refused.{Refused}
use Rattle.sequencer.proofs.KnownTables.{known_names}
use Rattle.engine.specs.Known.{IsKnown}
use Rattle.engine.proofs.Grown.{known_grown}
use Rattle.engine.proofs.Named.{known_new, named_grown}
use Rattle.trials_base.specs.Undropped.{IsUndropped}

module _ (tail : Tail) (is : IsUndropped tail) (whole : IsWhole tail.log) (sentence : Sentence) where
  one-more : refusal tail.log.names sentence ≡ None → IsUndropped (record tail { log = with_accepted tail.log sentence })
  one-more passes =
      let log : Accepted = tail.log in
      let statement = numbered log.names sentence in
      let tables : length log.names.tables ≡ length (owners log.statements) = sym whole.owned ∙ ap length whole.owners in
      let here : IsKnown (length (owners log.statements)) statement.form = subst (λ (n : ℕ). IsKnown n statement.form) tables (known_new log.names sentence passes) in
      let needed : NeedsWithin (length (owners log.statements)) statement = subst (λ (n : ℕ). NeedsWithin n statement) tables (known_names log.names sentence passes).needs in
      record {
        whole = is.whole;
        known = known_grown log.statements statement is.known here;
        named = named_grown log.statements statement is.named needed;
      }

  -- so it is with the answer that takes it, or refuses it
  pub pushed : (after : Tail) (result : Result ℕ Refused) → OnOk result (after ≡ record tail { log = with_accepted tail.log sentence })
      → OnOk result (refusal tail.log.names sentence ≡ None) → OnErr result (after ≡ tail) → IsUndropped after
  pushed after (Ok place) accepted passes err = subst IsUndropped (sym accepted) (one-more passes)
  pushed after (Err refused) accepted passes err = subst IsUndropped (sym err) is
