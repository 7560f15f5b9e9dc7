-- The records that explain a place are of grants that were made before it.
use Rattle.std.proofs.Common.{◌≡◌, ◌≤◌, ℕ, List, Option, None, Some, ap, arith, get_or, refl, subst}
use Rattle.std.specs.Prelude.{slice_get}
use Rattle.std.specs.Option.{option_map}
use Rattle.std.proofs.lemmas.List.Elements.{All-map, All-nil}
use Rattle.model_base.specs.declared.deed.Cause.{Cause}
use Rattle.model_base.specs.declared.deed.Cause.TheVariants.{Never, Taken}
use Rattle.model_base.specs.declared.deed.Deed.{Deed}
use Rattle.model_base.specs.declared.deed.Grant.{Grant}
use Rattle.model_base.specs.declared.deed.Need.{Need}
use Rattle.model_base.specs.declared.statement.Statement.{Statement}
use Rattle.model_base.specs.Outcomes.{deeds_before, needs, owners}
use Rattle.model_base.specs.Paths.{path}
use Rattle.model_base.specs.Privileges.{deeds_below, kept, owns}
use Rattle.model_base.specs.RecordGrantees.{WereGranted}
use Rattle.model_base.proofs.Granted.{granted-later, kept-granted}
use Rattle.model_base.proofs.Logs.{deeds_before-below}
use Rattle.model_base.proofs.Paths.{part-path}
use Rattle.model_base.proofs.Replay.{by_cases}
use Rattle.explain.specs.declared.line.Line.{Line}
use Rattle.explain.specs.Explained.{LinesAreGranted, explained, lines_for}
use Rattle.explain.specs.ExplainedNeeds.{line_of, needs_asked}
use Rattle.explain.specs.Lines.{cause_before, holds_before, path_before, ranks_of, ranks_shown, shown_lost, shown_of}
use Rattle.explain.proofs.Below.{taken-below}

module _ (log : List Statement) (place user : ℕ) (need : Need) where
  abbrev own : List ℕ
  own = owners log

  abbrev deeds : List Deed
  deeds = deeds_before log place

  -- those of a path by the grants in force before an earlier place
  path-granted : (at : ℕ) → at ≤ place → WereGranted log place (path_before own deeds at user need)
  path-granted at less =
      let below : deeds_below at deeds ≡ deeds_before log at = deeds_before-below log at place less in
      let grants : List Grant = path own (kept own (deeds_before log at)) user need in
      let same : path_before own deeds at user need ≡ ranks_of grants = ap (λ (ds : List Deed). ranks_of (path own (kept own ds) user need)) below in
      granted-later log at place (path_before own deeds at user need) less
      (kept-granted log at (path_before own deeds at user need) grants (part-path own (kept own (deeds_before log at)) user need) same)

  lost-granted : (why : Cause) → cause_before own deeds place user need ≡ why → WereGranted log place (ranks_shown (shown_lost own deeds user need why))
  lost-granted Never is = All-nil _
  lost-granted (Taken lost) is = path-granted lost (omega (arith, taken-below own deeds place user need lost is))

  -- and all that there is to show of a need
  shown-granted : WereGranted log place (ranks_shown (shown_of own deeds place user need))
  shown-granted =
      by_cases (owns own user need.table)
      (λ owned. rw owned (All-nil _))
      (λ other. by_cases (holds_before own deeds place user need)
      (λ held. rw (other, held) (path-granted place (omega arith)))
      (λ missing. rw (other, missing) (lost-granted (cause_before own deeds place user need) refl)))

module _ (log : List Statement) (place : ℕ) where
  lines-granted : (statement : Statement) → LinesAreGranted log place (lines_for log place statement)
  lines-granted statement =
      let own = owners log in
      let deeds = deeds_before log place in
      let user = statement.user in
      let asked : List Need = needs_asked own deeds place user (needs statement.form) in
      All-map (λ (line : Line). WereGranted log place (ranks_shown line.shown)) (line_of own deeds place user) asked
      (λ k d less. shown-granted log place user (get_or asked k d))

  pub explained-granted : (lines : List Line) → explained log place ≡ Some lines → LinesAreGranted log place lines
  explained-granted lines is = by_statement (slice_get log place) is
    where
      by_statement : (found : Option Statement) → option_map (lines_for log place) found ≡ Some lines → LinesAreGranted log place lines
      by_statement None is = absurd (cc)
      by_statement (Some statement) is =
          let same : lines_for log place statement ≡ lines = cc in
          subst (LinesAreGranted log place) same (lines-granted statement)

  -- and so before each later place
  pub explained-later : (later : ℕ) (lines : List Line) → explained log place ≡ Some lines → place ≤ later → LinesAreGranted log later lines
  explained-later later lines is less =
      let granted = explained-granted lines is in
      λ k d low. granted-later log place later (ranks_shown (get_or lines k d).shown) less (granted k d low)
