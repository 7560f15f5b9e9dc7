-- The outcome of a place of a log fits its statement's form, so that its words tell it.
use Rattle.std.proofs.Common.{◌≡◌, ◌<◌, ◌≤◌, ◌++◌, ◌^◌, ℕ, ℤ, pos, negsuc, Bool, false, not, List, [], ◌∷◌, Option, Some, None, length, map, refl, ap, sym, ◌∙◌, subst, arith}
use Rattle.std.specs.Prelude.{All, Contains, slice_get}
use Rattle.std.specs.Int.{w64}
use Rattle.std.specs.Int.RustNames.{FitsSigned}
use Rattle.std.specs.List.{find, sum_by}
use Rattle.std.specs.Option.{option_map, option_map_or}
use Rattle.std.proofs.lemmas.Bool.{ltb-true}
use Rattle.std.proofs.lemmas.List.Elements.{All-contains, All-contains_itself, All-get_or, All-head, All-tail, All-weaker}
use Rattle.std.proofs.lemmas.Option.{get_or_from_slice_get, slice_get_within}
use Rattle.model_base.specs.declared.deed.Cause.{Cause}
use Rattle.model_base.specs.declared.deed.Cause.TheVariants.{Never, Taken}
use Rattle.model_base.specs.declared.deed.Deed.{Deed}
use Rattle.model_base.specs.declared.deed.Deed.TheVariants.{Granting, Revoking}
use Rattle.model_base.specs.declared.deed.Grantee.{Grantee}
use Rattle.model_base.specs.declared.deed.Kind.{Kind}
use Rattle.model_base.specs.declared.deed.Need.{Need}
use Rattle.model_base.specs.declared.outcome.Outcome.{Outcome}
use Rattle.model_base.specs.declared.statement.DeedForm.{DeedForm}
use Rattle.model_base.specs.declared.statement.Form.{Form}
use Rattle.model_base.specs.declared.statement.Statement.{Statement}
use Rattle.model_base.specs.Body.{Ending, aborted, completed, undeclared}
use Rattle.model_base.specs.Outcomes.{World, at_place, body, cause, deed_done, deeds_at, deeds_of, ended, grants_at, judged, kinds_in, missing, needs, outcome, owners, step_form, world_before}
use Rattle.model_base.specs.Privileges.{holds, place_of}
use Rattle.model_base.proofs.Causes.{cause-revocation}
use Rattle.model_base.proofs.Growth.{deeds_before-stands}
use Rattle.model_base.proofs.Replay.{by_cases}
use Rattle.body.specs.Premises.{HasFittingBody, IsRunnable, outputs_of_step}
use Rattle.body.specs.Shape.{FormFits, HaveShape, IsNumber}
use Rattle.body.specs.Steps.{EndsWithin, steps_of}
use Rattle.body.proofs.Shapes.{keeps_shape, logs_have_shape}
use Rattle.body.proofs.Within.{ends_within}
use Rattle.own_words.specs.Places.{cells, own_words, words_at}
use Rattle.own_words.specs.Words.{FitsDetails, FitsForm, cause_word, creates, deed_form, deed_told, deeds_told, ranks_ended_by, ended_in, header, is_created, outcome_from, outputs_of}
use Rattle.own_words.proofs.Undoing.{details_told}
use Rattle.evaluation.specs.Keeping.{KeepsToSteps}
use Rattle.evaluation.proofs.Room.{few_outputs, outputs_counted}

-- as many outputs as the steps make at most are as many as there are OUT steps
outputs_room : (form : Form) → sum_by outputs_of_step (steps_of form) ≤ outputs_of form
outputs_room (Form.Create table columns) = omega arith
outputs_room (Form.Run accesses steps deed) = omega (arith, outputs_counted steps)
outputs_room (Form.Deed deed) = omega arith

module _ (own : List ℕ) (place : ℕ) (world : World) (statement : Statement) where
  -- a place keeps to the steps of its statement
  ended_keeps : (deeds : List Deed) (ending : Ending) → EndsWithin (steps_of statement.form) ending → KeepsToSteps statement.form (ended own world deeds ending)
  ended_keeps deeds (completed rows outputs) within = omega (arith, within, outputs_room statement.form)
  ended_keeps deeds (aborted step reason) within = within
  ended_keeps deeds (undeclared step) within = within

  judged_keeps : (lack : Option Need) → KeepsToSteps statement.form (judged own place world statement lack).0
  judged_keeps (Some need) = tt
  judged_keeps None = ended_keeps (deeds_of place statement.user statement.form) (body world.rows statement.form) (ends_within statement.form world.rows)

  form_keeps : (form : Form) → KeepsToSteps statement.form (step_form own place world statement form).0
  form_keeps (Form.Create table columns) = tt
  form_keeps (Form.Run accesses steps deed) = judged_keeps (missing own world statement.user (Form.Run accesses steps deed))
  form_keeps (Form.Deed deed) = judged_keeps (missing own world statement.user (Form.Deed deed))

  -- only a CREATE is created
  ended_plain : (deeds : List Deed) (ending : Ending) → is_created (ended own world deeds ending) ≡ false
  ended_plain deeds (completed rows outputs) = refl
  ended_plain deeds (aborted step reason) = refl
  ended_plain deeds (undeclared step) = refl

  judged_plain : (lack : Option Need) → is_created (judged own place world statement lack).0 ≡ false
  judged_plain (Some need) = refl
  judged_plain None = ended_plain (deeds_of place statement.user statement.form) (body world.rows statement.form)

  created_fits : (form : Form) → is_created (step_form own place world statement form).0 ≡ creates form
  created_fits (Form.Create table width) = refl
  created_fits (Form.Run accesses steps deed) = judged_plain (missing own world statement.user (Form.Run accesses steps deed))
  created_fits (Form.Deed deed) = judged_plain (missing own world statement.user (Form.Deed deed))

  -- there are grants at one place by one user exactly if there are at another by another
  grants_told : (table : ℕ) (option : Bool) (grantees : List Grantee) (kinds : List Kind) (ranks : List ℕ)
      → deed_done own world (map Granting (grants_at place statement.user table option grantees kinds))
      ≡ deeds_told ranks (map Granting (grants_at 0 0 table option grantees kinds))
  grants_told table option grantees [] ranks = refl
  grants_told table option [] (kind ∷ kinds) ranks = grants_told table option [] kinds ranks
  grants_told table option (grantee ∷ grantees) (kind ∷ kinds) ranks = refl

  -- what a deed results in is of its kind
  deed_kind : (deed : DeedForm) → deed_done own world (deeds_at place statement.user deed)
      ≡ deed_told (ranks_ended_by (deed_done own world (deeds_at place statement.user deed))) (Some deed)
  deed_kind (DeedForm.Grant kinds table grantees option) =
      grants_told table option grantees (kinds_in kinds)
      (ranks_ended_by (deed_done own world (deeds_at place statement.user (DeedForm.Grant kinds table grantees option))))
  deed_kind (DeedForm.Revoke kinds table grantees) = refl

  form_kind : (form : Form) → deed_done own world (deeds_of place statement.user form) ≡ deed_told (ranks_ended_by (deed_done own world (deeds_of place statement.user form))) (deed_form form)
  form_kind (Form.Create table columns) = refl
  form_kind (Form.Run accesses steps None) = refl
  form_kind (Form.Run accesses steps (Some deed)) = deed_kind deed
  form_kind (Form.Deed deed) = deed_kind deed

-- numbers of 64 bits
number_fits : (value : ℤ) → IsNumber value → FitsSigned w64 value
number_fits (pos n) fit = record { sfits = ltb-true n 9223372036854775808 fit }
number_fits (negsuc n) fit = record { sfits = ltb-true n 9223372036854775808 fit }

-- what is found is there
found_there : {X : Type 0} (P : X → Type 0) (test : X → Bool) (xs : List X) (y : X) → All P xs → find test xs ≡ Some y → P y
found_there P test [] y all is = absurd (cc)
found_there P test (x ∷ xs) y all is =
    by_cases (test x)
    (λ yes. let same : Some x ≡ Some y = rw yes at is in let eq : x ≡ y = cc in subst P eq (All-head P x xs all))
    (λ no. found_there P test xs y (All-tail P x xs all) (rw no at is))

module _ (columns : ℕ → ℕ) (own : List ℕ) (place : ℕ) (world : World) (statement : Statement)
    (fits : FormFits columns statement.form) (runnable : HasFittingBody statement.form) (short : length (steps_of statement.form) < 2 ^ 64) (low : place < 2 ^ 64)
    (shaped : HaveShape columns world.rows) (below : All (λ deed. place_of deed < place) world.deeds) where
  ended_fits : (ending : Ending) → body world.rows statement.form ≡ ending → KeepsToSteps statement.form (ended own world (deeds_of place statement.user statement.form) ending)
      → FitsDetails statement.form (ended own world (deeds_of place statement.user statement.form) ending)
  ended_fits (completed rows outputs) is keeps = record {
    room = keeps;
    few = omega (arith, keeps, few_outputs statement.form runnable);
    range = All-weaker IsNumber (FitsSigned w64) number_fits outputs (keeps_shape columns statement.form world.rows rows outputs fits shaped is).1;
    kind = form_kind own place world statement statement.form;
  }
  ended_fits (aborted step reason) is keeps = omega (arith, keeps, short)
  ended_fits (undeclared step) is keeps = omega (arith, keeps, short)

  cause_fits : (need : Need) (why : Cause) → cause own world.deeds statement.user need ≡ why → cause_word why < 2 ^ 64
  cause_fits need Never is = omega arith
  cause_fits need (Taken m) is =
      let taken = cause-revocation own statement.user need world.deeds m is in
      let less : place_of (Revoking taken.0) < place = All-contains (λ deed. place_of deed < place) world.deeds (Revoking taken.0) below taken.1 in
      omega (arith, less, low, taken.2)

  judged_fits : (lack : Option Need) → missing own world statement.user statement.form ≡ lack
      → FitsDetails statement.form (judged own place world statement lack).0
  judged_fits (Some need) is = (
    found_there (Contains (needs statement.form)) (λ other. not (holds own world.deeds statement.user other)) (needs statement.form) need (All-contains_itself (needs statement.form)) is,
    cause_fits need (cause own world.deeds statement.user need) refl,
  )
  judged_fits None is = ended_fits (body world.rows statement.form) refl (judged_keeps own place world statement None)

  form_fits : (form : Form) → statement.form ≡ form → FitsDetails statement.form (step_form own place world statement form).0
  form_fits (Form.Create table width) is = tt
  form_fits (Form.Run accesses steps deed) is =
      judged_fits (missing own world statement.user (Form.Run accesses steps deed)) (ap (missing own world statement.user) is)
  form_fits (Form.Deed deed) is = judged_fits (missing own world statement.user (Form.Deed deed)) (ap (missing own world statement.user) is)

  place_fits : FitsForm statement.form (at_place own place world statement).0
  place_fits = record { created = created_fits own place world statement statement.form; details = form_fits statement.form refl }

module _ (log : List Statement) (place : ℕ) (statement : Statement) (found : Outcome) (at : slice_get log place ≡ Some statement) (comes : outcome log place ≡ Some found) where
  -- the outcome is what the place results in
  found_is : (at_place (owners log) place (world_before log place) statement).0 ≡ found
  found_is =
      let comes_to : Statement → Outcome = λ one. (at_place (owners log) place (world_before log place) one).0 in
      let both : Some (comes_to statement) ≡ Some found = sym (ap (option_map comes_to) at) ∙ comes in
      cc

  pub outcome_keeps : KeepsToSteps statement.form found
  outcome_keeps = subst (KeepsToSteps statement.form) found_is (form_keeps (owners log) place (world_before log place) statement statement.form)

-- so does each outcome of a log whose statements fit
pub outcome_fits : (columns : ℕ → ℕ) (log : List Statement) (place : ℕ) (statement : Statement) (found : Outcome)
    → slice_get log place ≡ Some statement → outcome log place ≡ Some found
    → All (λ (one : Statement). FormFits columns one.form) log → IsRunnable statement → length (steps_of statement.form) < 2 ^ 64 → place < 2 ^ 64
    → FitsForm statement.form found
outcome_fits columns log place statement found at comes fit runnable short low =
    let P : Statement → Type 0 = λ one. FormFits columns one.form in
    let own = subst P (get_or_from_slice_get log place statement statement at) (All-get_or P log place statement (slice_get_within log place statement at) fit) in
    subst (FitsForm statement.form) (found_is log place statement found at comes)
    (place_fits columns (owners log) place (world_before log place) statement own runnable short low (logs_have_shape columns log place fit) (deeds_before-stands log place).below)

-- and its words tell it
pub words_tell : (columns : ℕ → ℕ) (log : List Statement) (place : ℕ) (statement : Statement) (found : Outcome)
    → slice_get log place ≡ Some statement → outcome log place ≡ Some found
    → All (λ (one : Statement). FormFits columns one.form) log → IsRunnable statement → length (steps_of statement.form) < 2 ^ 64 → place < 2 ^ 64
    → outcome_from statement.form (words_at columns log place) (ended_in found) ≡ found
words_tell columns log place statement found at comes fit runnable short low =
    let result = at_place (owners log) place (world_before log place) statement in
    let words : words_at columns log place ≡ own_words columns statement.form result =
    ap (λ (one : Option Statement). option_map_or (λ (s : Statement). own_words columns s.form (at_place (owners log) place (world_before log place) s)) one []) at in
    ap (λ told. outcome_from statement.form told (ended_in found))
    (words ∙ ap (λ (one : Outcome). header statement.form one ++ cells columns statement.form result.1.rows) (found_is log place statement found at comes))
    ∙ details_told statement.form found (cells columns statement.form result.1.rows) (outcome_fits columns log place statement found at comes fit runnable short low).details
