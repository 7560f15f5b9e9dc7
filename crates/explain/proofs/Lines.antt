-- What explains a place, by the book of an engine that has gone on.
use Rattle.std.proofs.Common.{◌≡◌, ◌↔◌, ◌<◌, ◌≤◌, ◌+◌, ◌∷◌, ◌++◌, ℕ, true, false, List, [], Option, None, Some, drop, length, refl, sym, ◌∙◌, ap, subst, append_assoc}
use Rattle.std.specs.Prelude.{All, slice_get}
use Rattle.std.specs.Option.{option_map}
use Rattle.std.proofs.Math.ListN.{drop_of_length-le}
use Rattle.std.proofs.lemmas.List.{append-nil, length-append}
use Rattle.std.proofs.lemmas.List.Elements.{All-cons, All-head, All-map, All-nil, All-tail, All-weaker}
use Rattle.std.proofs.lemmas.Option.{get_or_from_slice_get, slice_get_within}
use Rattle.model_base.specs.declared.deed.Deed.{Deed}
use Rattle.model_base.specs.declared.deed.Need.{Need}
use Rattle.model_base.specs.declared.statement.Statement.{Statement}
use Rattle.model_base.specs.Admitted.{IsPrivileged}
use Rattle.model_base.specs.Outcomes.{deeds_before, needs, owners}
use Rattle.model_base.specs.Privileges.{holds}
use Rattle.model_base.proofs.Admitted.{held-holds, holds-held}
use Rattle.model_base.proofs.Cuts.{deeds_below-whole}
use Rattle.model_base.proofs.Growth.{deeds_before-stands}
use Rattle.model_base.proofs.Logs.{deeds_before-below}
use Rattle.model_base.proofs.Replay.{by_cases}
use Rattle.explain.specs.declared.line.Line.{Line}
use Rattle.explain.specs.Lines.{IsSound, holds_before}
use Rattle.sequencer.specs.Log.{Accepted}
use Rattle.sequencer.specs.Whole.{IsAccepted, IsWhole}
use Rattle.explain.specs.ExplainedNeeds.{AreSound, needs_asked, line_of, explaining_lines, tells_held}
use Rattle.explain.proofs.Asked.{lines-sound}
use Rattle.explain.proofs.RisingPlaces.{one-before}
use Rattle.explain.proofs.Passing.{held_sound}
use Rattle.explain.proofs.Below.{are_sound-below, lines-below}
use Rattle.explain.specs.Explained.{LinesAreNamed, IsExplainedBy, explained, lines_for}
use Rattle.explain.proofs.Indexing.{from_item}

-- one more need
pub needs_go_on : (all found more : List Need) (need : Need) → found ++ drop (length found) all ≡ all → slice_get all (length found) ≡ Some need → more ≡ found ++ need ∷ []
    → more ++ drop (length more) all ≡ all
needs_go_on all found more need so_far there pushed =
    let count : length more ≡ length found + 1 = ap length pushed ∙ length-append found (need ∷ []) in
    rw (count, pushed)
    (append_assoc found (need ∷ []) (drop (length found + 1) all)
    ∙ ap (λ (rest : List Need). found ++ rest) (sym (from_item all (length found) need there))
    ∙ so_far)

-- and once there is none
pub needs_end : (all found : List Need) → found ++ drop (length found) all ≡ all → length all ≤ length found → found ≡ all
needs_end all found so_far past =
    sym (append-nil found) ∙ ap (λ (rest : List Need). found ++ rest) (sym (drop_of_length-le all past)) ∙ so_far

module _ (log : List Statement) (place end user : ℕ) (less : place ≤ end) where
  -- the deeds before a later place explain what those before this one do
  pub lines_later : (needs_asked : List Need) → explaining_lines (owners log) (deeds_before log end) place user needs_asked ≡ explaining_lines (owners log) (deeds_before log place) place user needs_asked
  lines_later needs_asked =
      sym (lines-below (owners log) (deeds_before log end) place user needs_asked)
      ∙ ap (λ (deeds : List Deed). explaining_lines (owners log) deeds place user needs_asked) (deeds_before-below log place end less)

  pub sound_later : (needs_asked : List Need) (lines : List Line)
      → AreSound (owners log) (deeds_before log place) place user needs_asked lines ↔ AreSound (owners log) (deeds_before log end) place user needs_asked lines
  sound_later needs_asked lines =
      subst (λ (deeds : List Deed). AreSound (owners log) deeds place user needs_asked lines ↔ AreSound (owners log) (deeds_before log end) place user needs_asked lines)
      (deeds_before-below log place end less) (are_sound-below (owners log) (deeds_before log end) place user needs_asked lines)

-- the lines of a place
pub explained-at : (log : List Statement) (place : ℕ) (statement : Statement) → slice_get log place ≡ Some statement → explained log place ≡ Some (lines_for log place statement)
explained-at log place statement there = ap (option_map (lines_for log place)) there

-- lines are of tables of which the needs are
module _ (tables : ℕ) (owners : List ℕ) (deeds : List Deed) (place user : ℕ) where
  abbrev IsBelow : Need → Type 0
  IsBelow need = need.table < tables

  asked-held : (need : Need) (all : List Need) → holds_before owners deeds place user need ≡ true
      → needs_asked owners deeds place user (need ∷ all) ≡ need ∷ needs_asked owners deeds place user all
  asked-held need all held = rw held refl

  asked-missing : (need : Need) (all : List Need) → holds_before owners deeds place user need ≡ false → needs_asked owners deeds place user (need ∷ all) ≡ need ∷ []
  asked-missing need all missing = rw missing refl

  asked-named : (all : List Need) → All IsBelow all → All IsBelow (needs_asked owners deeds place user all)
  asked-named [] named = All-nil IsBelow
  asked-named (need ∷ all) named =
      let here = All-head IsBelow need all named in
      by_cases (holds_before owners deeds place user need)
      (λ held.
      subst (All IsBelow) (sym (asked-held need all held))
      (All-cons IsBelow need (needs_asked owners deeds place user all) here (asked-named all (All-tail IsBelow need all named))))
      (λ missing. subst (All IsBelow) (sym (asked-missing need all missing)) (All-cons IsBelow need [] here (All-nil IsBelow)))

  pub lines-named : (all : List Need) → All IsBelow all → LinesAreNamed tables (explaining_lines owners deeds place user all)
  lines-named all named =
      All-map (λ (line : Line). line.need.table < tables) (line_of owners deeds place user) (needs_asked owners deeds place user all) (asked-named all named)

-- a statement of the log needs what is on tables of the log
pub needs_named : (log : Accepted) → IsWhole log → (place : ℕ) (statement : Statement) → slice_get log.statements place ≡ Some statement
    → All (λ (need : Need). need.table < length log.names.tables) (needs statement.form)
needs_named log whole place statement there =
    let within = slice_get_within log.statements place statement there in
    let taken = subst (IsAccepted log.names) (get_or_from_slice_get log.statements place statement statement there) (whole.taken place statement within) in
    taken.needs

-- what explains a place is sound
pub explained-sound : (log : List Statement) (place : ℕ) (lines : List Line) → explained log place ≡ Some lines → IsExplainedBy log place lines
explained-sound log place lines is = by_statement (slice_get log place) refl is
  where
    by_statement : (found : Option Statement) → slice_get log place ≡ found → option_map (lines_for log place) found ≡ Some lines → IsExplainedBy log place lines
    by_statement None there is = absurd (cc)
    by_statement (Some statement) there is =
        let same : lines_for log place statement ≡ lines = cc in
        record {
          statement = statement;
          there = there;
          sound =
              subst (AreSound (owners log) (deeds_before log place) place statement.user (needs statement.form)) same
              (lines-sound (owners log) (deeds_before log place) place statement.user (deeds_before-stands log place).proper (one-before log place) (needs statement.form));
        }

-- what is accepted says who holds what
module _ (log : List Statement) (place : ℕ) (statement : Statement) (lines : List Line) (there : slice_get log place ≡ Some statement)
    (accepted : IsExplainedBy log place lines) where
  pub accepted-held : All (λ (line : Line). tells_held line.shown ≡ holds (owners log) (deeds_before log place) statement.user line.need) lines
  accepted-held =
      All-weaker (λ (line : Line). IsSound (owners log) (deeds_before log place) place accepted.statement.user line.need line.shown)
      (λ (line : Line). tells_held line.shown ≡ holds (owners log) (deeds_before log place) statement.user line.need)
      (λ line sound.
      held_sound (owners log) (deeds_before log place) place accepted.statement.user line.need line.shown sound
      ∙ ap (λ (deeds : List Deed). holds (owners log) deeds accepted.statement.user line.need)
      (deeds_below-whole place (deeds_before log place) (deeds_before-stands log place).below)
      ∙ ap (λ (s : Statement). holds (owners log) (deeds_before log place) s.user line.need) same)
      lines accepted.sound.so
    where
      same : accepted.statement ≡ statement
      same = let both : Some accepted.statement ≡ Some statement = sym accepted.there ∙ there in cc

  pub accepted-privileged : All (λ (line : Line). (tells_held line.shown ≡ true) ↔ IsPrivileged (owners log) (deeds_before log place) statement.user line.need) lines
  accepted-privileged =
      All-weaker (λ (line : Line). tells_held line.shown ≡ holds (owners log) (deeds_before log place) statement.user line.need)
      (λ (line : Line). (tells_held line.shown ≡ true) ↔ IsPrivileged (owners log) (deeds_before log place) statement.user line.need)
      (λ line same. (
        λ tells. holds-held (owners log) (deeds_before log place) statement.user line.need (sym same ∙ tells),
        λ held. same ∙ held-holds (owners log) (deeds_before log place) statement.user line.need held,
      ))
      lines accepted-held

-- what the lines by a later book are
module _ (place user : ℕ) (all : List Need) (lines : List Line) where
  pub lines_told : (log : List Statement) (end : ℕ) (statement : Statement) → place ≤ end → slice_get log place ≡ Some statement → user ≡ statement.user → all ≡ needs statement.form
      → lines ≡ explaining_lines (owners log) (deeds_before log end) place user all → explained log place ≡ Some lines
  lines_told log end statement less there who same told =
      let at : explaining_lines (owners log) (deeds_before log place) place user all ≡ lines_for log place statement =
      ap (λ (u : ℕ). explaining_lines (owners log) (deeds_before log place) place u all) who
      ∙ ap (λ (ns : List Need). explaining_lines (owners log) (deeds_before log place) place statement.user ns) same in
      explained-at log place statement there ∙ ap (λ (ls : List Line). Some ls) (sym (told ∙ lines_later log place end user less all ∙ at))

  pub named_told : (log : Accepted) (statement : Statement) (owned : List ℕ) (deeds : List Deed) → IsWhole log → slice_get log.statements place ≡ Some statement → all ≡ needs statement.form
      → lines ≡ explaining_lines owned deeds place user all → LinesAreNamed (length log.names.tables) lines
  named_told log statement owned deeds whole there same told =
      subst (LinesAreNamed (length log.names.tables)) (sym told)
      (lines-named (length log.names.tables) owned deeds place user all
      (subst (λ (ns : List Need). All (λ (need : Need). need.table < length log.names.tables) ns) (sym same) (needs_named log whole place statement there)))
