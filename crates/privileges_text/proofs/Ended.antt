-- A log that is run to its end: what its book shows, and which grants a way names.
use Rattle.std.proofs.Common.{◌≡◌, ◌<◌, ◌≤◌, ◌∙◌, ℕ, List, Some, ap, arith, length, refl, subst, sym}
use Rattle.std.specs.Prelude.{All, slice_get, take}
use Rattle.std.proofs.lemmas.List.{length-map, take_all}
use Rattle.std.proofs.lemmas.List.Elements.{All-nil}
use Rattle.model_base.specs.declared.deed.Cause.{Cause}
use Rattle.model_base.specs.declared.deed.Cause.TheVariants.{Never, Taken}
use Rattle.model_base.specs.declared.deed.Deed.{Deed}
use Rattle.model_base.specs.declared.deed.Grant.{Grant}
use Rattle.model_base.specs.declared.deed.Need.{Need}
use Rattle.model_base.specs.declared.deed.Record.{Record}
use Rattle.model_base.specs.declared.statement.Statement.{Statement}
use Rattle.model_base.specs.Outcomes.{deeds_before, owners}
use Rattle.model_base.specs.Paths.{path}
use Rattle.model_base.specs.Privileges.{deeds_below, kept, owns}
use Rattle.model_base.specs.RecordGrantees.{WereGranted}
use Rattle.model_base.proofs.Granted.{granted-later, kept-granted}
use Rattle.model_base.proofs.Logs.{deeds_before-below}
use Rattle.model_base.proofs.Paths.{part-path}
use Rattle.model_base.proofs.Replay.{by_cases}
use Rattle.grants_base.specs.Book.{Entries, ShowsBook, owners_of}
use Rattle.grants_base.specs.declared.entries.Creation.{Creation}
use Rattle.engine.specs.RunState.{IsBookState}
use Rattle.sequencer.specs.Log.{Accepted}
use Rattle.sequencer.specs.Whole.{IsWhole}
use Rattle.explain.specs.Lines.{cause_before, holds_before, path_before, ranks_of, ranks_shown, shown_lost, shown_of}
use Rattle.explain.proofs.Below.{taken-below}

-- all deeds of a log lie below its end
pub all_below : (log : List Statement) → deeds_below (length log) (deeds_before log (length log)) ≡ deeds_before log (length log)
all_below log = deeds_before-below log (length log) (length log) (omega arith)

-- the book of a log that is finished
module _ (log : Accepted) (book : Entries) (places : ℕ) (all : places ≡ length log.statements) (stands : IsBookState log.statements places book) where
  pub book-tables : IsWhole log → length book.tables ≡ length log.names.tables
  book-tables whole =
      sym (length-map book.tables (λ (creation : Creation). creation.owner))
      ∙ ap length (stands.owned ∙ ap owners (take_all places log.statements (omega (arith, all))) ∙ sym whole.owners)
      ∙ whole.owned

  pub book-below : All (λ (entry : Record). entry.grant.place < length log.statements) book.records
  book-below = subst (λ (n : ℕ). All (λ (entry : Record). entry.grant.place < n) book.records) all stands.later.grants

  pub book-shows : ShowsBook book (owners log.statements) (deeds_before log.statements (length log.statements))
  book-shows = subst (λ (n : ℕ). ShowsBook book (owners log.statements) (deeds_before log.statements n)) all stands.shown

-- what there is to show of a need names grants that were made before
module _ (log : List Statement) (end user : ℕ) (need : Need) where
  abbrev own : List ℕ
  own = owners log

  abbrev deeds : List Deed
  deeds = deeds_before log end

  path-granted : (at : ℕ) → at ≤ end → WereGranted log end (path_before own deeds at user need)
  path-granted at less =
      let below : deeds_below at deeds ≡ deeds_before log at = deeds_before-below log at end less in
      let grants : List Grant = path own (kept own (deeds_before log at)) user need in
      let same : path_before own deeds at user need ≡ ranks_of grants = ap (λ (ds : List Deed). ranks_of (path own (kept own ds) user need)) below in
      granted-later log at end (path_before own deeds at user need) less
      (kept-granted log at (path_before own deeds at user need) grants (part-path own (kept own (deeds_before log at)) user need) same)

  lost-granted : (place : ℕ) (why : Cause) → place ≤ end → cause_before own deeds place user need ≡ why
      → WereGranted log end (ranks_shown (shown_lost own deeds user need why))
  lost-granted place Never less is = All-nil _
  lost-granted place (Taken lost) less is = path-granted lost (omega (arith, less, taken-below own deeds place user need lost is))

  pub shown-granted : (place : ℕ) → place ≤ end → WereGranted log end (ranks_shown (shown_of own deeds place user need))
  shown-granted place less =
      by_cases (owns own user need.table)
      (λ owned. rw owned (All-nil _))
      (λ other.
      by_cases (holds_before own deeds place user need)
      (λ held. rw (other, held) (path-granted place less))
      (λ missing. rw (other, missing) (lost-granted place (cause_before own deeds place user need) less refl)))
