-- A denial's cause lies below the place, and what is admitted or denied by the view is so by the definition.
use Rattle.std.proofs.Common.{◌≡◌, ◌<◌, ◌≤◌, ℕ, List, [], ◌∷◌, Bool, true, false, Option, Some, None, refl, ◌∙◌, ap, arith, cond}
use Rattle.std.specs.Prelude.{All, IfSome, nat_lt}
use Rattle.std.specs.Option.{option_map_or}
use Rattle.std.proofs.lemmas.List.Elements.{All-head, All-tail}
use Rattle.model_base.specs.declared.deed.Cause.{Cause}
use Rattle.model_base.specs.declared.deed.Cause.TheVariants.{Never, Taken}
use Rattle.model_base.specs.declared.deed.Need.{Need}
use Rattle.model_base.specs.declared.deed.Record.{Record}
use Rattle.model_base.specs.declared.outcome.Outcome.{Outcome}
use Rattle.model_base.specs.declared.statement.Form.{Form}
use Rattle.model_base.specs.declared.statement.Statement.{Statement}
use Rattle.model_base.specs.Outcomes.{World, at_place, cause, judged, missing, step_form}
use Rattle.model_base.specs.Privileges.{gives}
use Rattle.model_base.specs.Versions.{accesses_of}
use Rattle.body.specs.declared.window.Window.{Window}
use Rattle.body.specs.Shown.{WindowShows}
use Rattle.grants_base.specs.Force.{later_of}
use Rattle.grants.specs.Loss.{last_end, loss_of}
use Rattle.grants_base.specs.View.{IsLawful, View, entries}
use Rattle.checker.specs.Admission.{admission, admitted_if, told_if}
use Rattle.checker.specs.declared.admission.Admission.{Admission}
use Rattle.own_words.specs.Words.{cause_word}
use Rattle.evaluation.specs.Judged.{Tells}

-- of two places below a third, so is the later
later_below : (place : ℕ) (first other : Option ℕ) → IfSome first (λ end. end < place) → IfSome other (λ end. end < place)
    → IfSome (later_of first other) (λ end. end < place)
later_below place None other below also = also
later_below place (Some first) None below also = below
later_below place (Some first) (Some other) below also = by_order (nat_lt first other)
  where
    by_order : (b : Bool) → IfSome (cond b (Some other) (Some first)) (λ end. end < place)
    by_order true = also
    by_order false = below

-- so is the end of a record, if it counts
loss_below : (place : ℕ) (entry : Record) (user : ℕ) (need : Need) → IfSome entry.end (λ end. (entry.grant.place < end) × (end < place))
    → IfSome (loss_of entry user need) (λ end. end < place)
loss_below place entry user need ends = by_test (gives entry.grant user need)
  where
    by_end : (end : Option ℕ) → IfSome end (λ e. (entry.grant.place < e) × (e < place)) → IfSome end (λ e. e < place)
    by_end None below = tt
    by_end (Some end) below = below.1

    by_test : (b : Bool) → IfSome (cond b entry.end None) (λ end. end < place)
    by_test true = by_end entry.end ends
    by_test false = tt

-- the greatest end of some records lies below the place if each does
last_below : (place : ℕ) (records : List Record) (user : ℕ) (need : Need)
    → All (λ (entry : Record). IfSome entry.end (λ end. (entry.grant.place < end) × (end < place))) records
    → IfSome (last_end records user need) (λ end. end < place)
last_below place [] user need ends = tt
last_below place (entry ∷ records) user need ends =
    let P : Record → Type 0 = λ e. IfSome e.end (λ end. (e.grant.place < end) × (end < place)) in
    later_below place (loss_of entry user need) (last_end records user need)
    (loss_below place entry user need (All-head P entry records ends))
    (last_below place records user need (All-tail P entry records ends))

-- a cause that is given by places below a place has a word that is at most the place
cause_below : (place : ℕ) (last : Option ℕ) → IfSome last (λ end. end < place) → cause_word (option_map_or Taken last Never) ≤ place
cause_below place None below = omega arith
cause_below place (Some end) below = omega arith

-- so is the cause of each denial by the records of a view
pub denied_below : (view : View) (user : ℕ) (found : Option Need) (need : Need) (why : Cause) → IsLawful view
    → Admission.Denied need why ≡ told_if view user found → cause_word why ≤ view.place
denied_below view user None need why lawful is = absurd (cc)
denied_below view user (Some other) need why lawful is =
    let told : why ≡ option_map_or Taken (last_end (entries view) user other) Never = cc in
    rw told (cause_below view.place (last_end (entries view) user other) (last_below view.place (entries view) user other lawful.ends))

module _ (owners : List ℕ) (place : ℕ) (world : World) (statement : Statement) where
  -- a statement that creates no table is judged
  by_form : (form : Form) → ((table columns : ℕ) → form ≡ Form.Create table columns → ⊥)
      → step_form owners place world statement form ≡ judged owners place world statement (missing owners world statement.user form)
  by_form (Form.Create table columns) other = absurd (other table columns refl)
  by_form (Form.Run accesses steps deed) other = refl
  by_form (Form.Deed deed) other = refl

  -- what an admission says of the first missing need
  denied_is : (found : Option Need) (need : Need) (why : Cause) → Admission.Denied need why ≡ admitted_if owners world.deeds statement.user found
      → judged owners place world statement found ≡ (Outcome.Denied need why, world)
  denied_is None need why is = absurd (cc)
  denied_is (Some other) need why is =
      let same : need ≡ other = cc in
      let told : why ≡ cause owners world.deeds statement.user other = cc in
      rw (same, told) refl

  admitted_is : (found : Option Need) → Admission.Admitted ≡ admitted_if owners world.deeds statement.user found → found ≡ None
  admitted_is None is = refl
  admitted_is (Some other) is = absurd (cc)

  module _ (other : (table columns : ℕ) → statement.form ≡ Form.Create table columns → ⊥) where
    -- a denial leaves the rows that were found
    pub denied_tells : (window : Window) (need : Need) (why : Cause) → WindowShows (accesses_of statement.form) window world.rows
        → Admission.Denied need why ≡ admission owners world.deeds statement.user statement.form
        → Tells statement (at_place owners place world statement) (Outcome.Denied need why) window
    denied_tells window need why shows is =
        let comes : at_place owners place world statement ≡ (Outcome.Denied need why, world) =
        by_form statement.form other ∙ denied_is (missing owners world statement.user statement.form) need why is in
        rw comes (record { told = refl; rows = shows })

    -- a statement that is admitted results in what its body and its deed result in
    pub admitted_tells : (outcome : Outcome) (after : Window)
        → Admission.Admitted ≡ admission owners world.deeds statement.user statement.form
        → Tells statement (judged owners place world statement None) outcome after
        → Tells statement (at_place owners place world statement) outcome after
    admitted_tells outcome after is tells =
        let comes : at_place owners place world statement ≡ judged owners place world statement None =
        by_form statement.form other
        ∙ ap (judged owners place world statement) (admitted_is (missing owners world statement.user statement.form) is) in
        rw comes tells
