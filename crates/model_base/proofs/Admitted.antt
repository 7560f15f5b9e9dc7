-- Who is admitted: the tests of the definitions say who holds what, and what a denial says.
use Rattle.std.proofs.Common.{◌≡◌, ℕ, zero, suc, ◌&&◌, ◌||◌, not, Bool, true, false, List, [], ◌∷◌, ◌++◌, Option, Some, None, refl, sym, ◌∙◌, ap, arith, inl, inr, eq-eqb}
use Rattle.std.specs.Prelude.{◌==◌, All, Any, slice_get, take}
use Rattle.std.specs.List.{find, list_any}
use Rattle.std.specs.Option.{option_map_or}
use Rattle.std.proofs.lemmas.Bool.{and_parts, and_from, or_cases, or_left, or_right, eqb-true, false_from_ne_true, true≢false}
use Rattle.std.proofs.lemmas.List.Elements.{All-cons, All-contains, All-head, All-nil, All-tail}
use Rattle.std.proofs.lemmas.List.Folds.{Any-from_list_any, list_any-from_Any}
use Rattle.model_base.specs.declared.deed.Kind.{Kind}
use Rattle.model_base.specs.declared.deed.Kind.TheVariants.{Read, Insert, Update, Delete}
use Rattle.model_base.specs.declared.deed.Grantee.{Grantee}
use Rattle.model_base.specs.declared.deed.Grantee.TheVariants.{Public, User}
use Rattle.model_base.specs.declared.deed.Grant.{Grant}
use Rattle.model_base.specs.declared.deed.Need.{Need}
use Rattle.model_base.specs.declared.deed.Cause.{Cause}
use Rattle.model_base.specs.declared.deed.Cause.TheVariants.{Never, Taken}
use Rattle.model_base.specs.declared.deed.Deed.{Deed}
use Rattle.model_base.specs.declared.deed.Deed.TheVariants.{Granting, Revoking}
use Rattle.model_base.specs.declared.statement.Form.{Form}
use Rattle.model_base.specs.declared.statement.Statement.{Statement}
use Rattle.model_base.specs.declared.outcome.Outcome.{Outcome}
use Rattle.model_base.specs.Privileges.{gives, has, holds, kept, owns, place_of, reaches, same_kind}
use Rattle.model_base.specs.Body.{Ending, completed, aborted, undeclared}
use Rattle.model_base.specs.Outcomes.{World, body, cause, deeds_of, ended, judged, missing, needs, outcome, owners, step_form, world_before}
use Rattle.model_base.specs.Laws.{IsLastLoss}
use Rattle.model_base.specs.Admitted.{AsksForPrivileges, IsAsked, IsCause, IsDenial, IsFirstMissing, GivesNeed, IsPrivileged, IsTo, WasAdmitted, WasDenied, WasTaken}
use Rattle.model_base.proofs.Reaching.{kind-same}
use Rattle.model_base.proofs.Replay.{by_cases}
use Rattle.model_base.proofs.Causes.{cause-never, cause-taken, holds-granting}

kind-true : (a b : Kind) → same_kind a b ≡ true → a ≡ b
kind-true Read Read is = refl
kind-true Insert Insert is = refl
kind-true Update Update is = refl
kind-true Delete Delete is = refl
kind-true Read Insert is = absurd (cc)
kind-true Read Update is = absurd (cc)
kind-true Read Delete is = absurd (cc)
kind-true Insert Read is = absurd (cc)
kind-true Insert Update is = absurd (cc)
kind-true Insert Delete is = absurd (cc)
kind-true Update Read is = absurd (cc)
kind-true Update Insert is = absurd (cc)
kind-true Update Delete is = absurd (cc)
kind-true Delete Read is = absurd (cc)
kind-true Delete Insert is = absurd (cc)
kind-true Delete Update is = absurd (cc)

-- whom a grantee reaches
reaches-to : (grantee : Grantee) (user : ℕ) (need : Need) → reaches grantee user need.option ≡ true → IsTo grantee user need
reaches-to (User grantee) user need is = eqb-true grantee user is
reaches-to Public user need is = not_true need.option is
  where
    not_true : (option : Bool) → not option ≡ true → option ≡ false
    not_true true h = absurd (cc)
    not_true false h = refl

to-reaches : (grantee : Grantee) (user : ℕ) (need : Need) → IsTo grantee user need → reaches grantee user need.option ≡ true
to-reaches (User grantee) user need is = eq-eqb grantee user is
to-reaches Public user need is = ap not is

-- an option that is there where it is needed
option-from : (given needed : Bool) → (given || not needed) ≡ true → needed ≡ true → given ≡ true
option-from true needed h is = refl
option-from false true h is = absurd (cc)
option-from false false h is = absurd (cc)

option-to : (given needed : Bool) → (needed ≡ true → given ≡ true) → (given || not needed) ≡ true
option-to true needed h = refl
option-to false true h = h refl
option-to false false h = refl

-- what a grant gives
gives-given : (grant : Grant) (user : ℕ) (need : Need) → gives grant user need ≡ true → GivesNeed grant user need
unfolding gives
gives-given grant user need is =
    let first = and_parts (reaches grant.grantee user need.option) (same_kind grant.kind need.kind && ((grant.table == need.table) && (grant.option || not need.option))) is in
    let second = and_parts (same_kind grant.kind need.kind) ((grant.table == need.table) && (grant.option || not need.option)) first.1 in
    let third = and_parts (grant.table == need.table) (grant.option || not need.option) second.1 in
    record {
      grantee = reaches-to grant.grantee user need first.0;
      kind = kind-true grant.kind need.kind second.0;
      table = eqb-true grant.table need.table third.0;
      option = option-from grant.option need.option third.1;
    }

given-gives : (grant : Grant) (user : ℕ) (need : Need) → GivesNeed grant user need → gives grant user need ≡ true
unfolding gives
given-gives grant user need given =
    let kind : same_kind grant.kind need.kind ≡ true = rw given.kind (kind-same need.kind) in
    let last = and_from (grant.table == need.table) (grant.option || not need.option)
    (eq-eqb grant.table need.table given.table) (option-to grant.option need.option given.option) in
    and_from (reaches grant.grantee user need.option) (same_kind grant.kind need.kind && ((grant.table == need.table) && (grant.option || not need.option)))
    (to-reaches grant.grantee user need given.grantee)
    (and_from (same_kind grant.kind need.kind) ((grant.table == need.table) && (grant.option || not need.option)) kind last)

-- whether one of a list has a property does not change where the property is another's
any-weaker : {X : Type 0} (P Q : X → Type 0) → ((x : X) → P x → Q x) → (xs : List X) → Any P xs → Any Q xs
any-weaker P Q weaker xs any = (any.0, any.1, any.2, any.3, weaker any.1 any.4)

owner-true : (owner : Option ℕ) (user : ℕ) → option_map_or (λ (o : ℕ). o == user) owner false ≡ true → owner ≡ Some user
owner-true None user is = absurd (cc)
owner-true (Some owner) user is = ap Some (eqb-true owner user is)

owns-true : (owners : List ℕ) (user table : ℕ) → owns owners user table ≡ true → slice_get owners table ≡ Some user
unfolding owns
owns-true owners user table is = owner-true (slice_get owners table) user is

true-owns : (owners : List ℕ) (user table : ℕ) → slice_get owners table ≡ Some user → owns owners user table ≡ true
unfolding owns
true-owns owners user table is = rw is (eq-eqb user user refl)

module _ (owners : List ℕ) (deeds : List Deed) (user : ℕ) where
  -- who holds a need
  pub holds-held : (need : Need) → holds owners deeds user need ≡ true → IsPrivileged owners deeds user need
  unfolding has
  holds-held need is =
      elim (or_cases (owns owners user need.table) (list_any (λ grant. gives grant user need) (kept owners deeds)) is) [
        | inl owned ↦ inl (owns-true owners user need.table owned)
        | inr given ↦ inr (any-weaker (λ grant. gives grant user need ≡ true) (λ grant. GivesNeed grant user need)
            (λ grant. gives-given grant user need) (kept owners deeds) (Any-from_list_any (λ grant. gives grant user need) (kept owners deeds) given))
      ]

  pub held-holds : (need : Need) → IsPrivileged owners deeds user need → holds owners deeds user need ≡ true
  unfolding has
  held-holds need (inl owned) =
      or_left (owns owners user need.table) (list_any (λ grant. gives grant user need) (kept owners deeds)) (true-owns owners user need.table owned)
  held-holds need (inr given) =
      or_right (owns owners user need.table) (list_any (λ grant. gives grant user need) (kept owners deeds))
      (list_any-from_Any (λ grant. gives grant user need) (kept owners deeds)
      (any-weaker (λ grant. GivesNeed grant user need) (λ grant. gives grant user need ≡ true) (λ grant. given-gives grant user need) (kept owners deeds) given))

  pub missing-unheld : (need : Need) → holds owners deeds user need ≡ false → ¬ IsPrivileged owners deeds user need
  missing-unheld need is held = true≢false (sym (held-holds need held) ∙ is)

  pub unheld-missing : (need : Need) → ¬ IsPrivileged owners deeds user need → holds owners deeds user need ≡ false
  unheld-missing need none = false_from_ne_true (holds owners deeds user need) (λ is. none (holds-held need is))

  -- of the needs, none is missing exactly where all are held
  none-all : (asked : List Need) → find (λ need. not (holds owners deeds user need)) asked ≡ None → All (IsPrivileged owners deeds user) asked
  none-all [] is = All-nil (IsPrivileged owners deeds user)
  none-all (need ∷ asked) is =
      by_cases (holds owners deeds user need)
      (λ held. All-cons (IsPrivileged owners deeds user) need asked (holds-held need held) (none-all asked (rw held at is)))
      (λ out. let some = rw out at is in absurd (cc))

  all-none : (asked : List Need) → All (IsPrivileged owners deeds user) asked → find (λ need. not (holds owners deeds user need)) asked ≡ None
  all-none [] all = refl
  all-none (need ∷ asked) all =
      rw (held-holds need (All-head (IsPrivileged owners deeds user) need asked all)) (all-none asked (All-tail (IsPrivileged owners deeds user) need asked all))

  -- what is found missing is the first of them
  found-first : (asked : List Need) (found : Need) → find (λ need. not (holds owners deeds user need)) asked ≡ Some found
      → IsFirstMissing owners deeds user asked found
  found-first [] found is = absurd (cc)
  found-first (need ∷ asked) found is =
      by_cases (holds owners deeds user need)
      (λ held. let rest = found-first asked found (rw held at is) in
      record {
        earlier = need ∷ rest.earlier;
        later = rest.later;
        in_order = ap (λ ns. need ∷ ns) rest.in_order;
        held = All-cons (IsPrivileged owners deeds user) need rest.earlier (holds-held need held) rest.held;
        missing = rest.missing;
      })
      (λ out. let here : Some need ≡ Some found = rw out at is in
      let same : need ≡ found = cc in
      record {
        earlier = [];
        later = asked;
        in_order = ap (λ n. n ∷ asked) same;
        held = All-nil (IsPrivileged owners deeds user);
        missing = missing-unheld found (rw (← same) out);
      })

  first-found_in : (earlier later : List Need) (found : Need) → All (IsPrivileged owners deeds user) earlier → holds owners deeds user found ≡ false
      → find (λ need. not (holds owners deeds user need)) (earlier ++ found ∷ later) ≡ Some found
  first-found_in [] later found all out = rw out refl
  first-found_in (need ∷ earlier) later found all out =
      rw (held-holds need (All-head (IsPrivileged owners deeds user) need earlier all))
      (first-found_in earlier later found (All-tail (IsPrivileged owners deeds user) need earlier all) out)

  first-found : (asked : List Need) (found : Need) → IsFirstMissing owners deeds user asked found
      → find (λ need. not (holds owners deeds user need)) asked ≡ Some found
  first-found asked found first =
      ap (find (λ need. not (holds owners deeds user need))) first.in_order
      ∙ first-found_in first.earlier first.later found first.held (unheld-missing found first.missing)

  -- one that is missing is one of them
  first-any : (asked : List Need) (found : Need) → IsFirstMissing owners deeds user asked found → Any (λ need. ¬ IsPrivileged owners deeds user need) asked
  first-any asked found first = rw first.in_order (any_at first.earlier)
    where
      any_at : (earlier : List Need) → Any (λ need. ¬ IsPrivileged owners deeds user need) (earlier ++ found ∷ first.later)
      any_at [] = (0, found, omega arith, refl, first.missing)
      any_at (need ∷ earlier) = let rest = any_at earlier in (suc rest.0, rest.1, omega (arith, rest.2), rest.3, rest.4)

  any-not_all : (asked : List Need) → Any (λ need. ¬ IsPrivileged owners deeds user need) asked → ¬ All (IsPrivileged owners deeds user) asked
  any-not_all asked any all = any.4 (All-contains (IsPrivileged owners deeds user) asked any.1 all (any.0, any.2, any.3))

-- what is in a list at a place, up to which it is taken
took : {X : Type 0} (n : ℕ) (xs : List X) (x : X) → slice_get xs n ≡ Some x → take (suc n) xs ≡ take n xs ++ x ∷ []
took n [] x at = absurd (cc)
took zero (y ∷ xs) x at = let same : y ≡ x = cc in ap (λ z. z ∷ []) same
took (suc n) (y ∷ xs) x at = ap (λ zs. y ∷ zs) (took n xs x at)

module _ (owners : List ℕ) (deeds : List Deed) (user : ℕ) (need : Need) where
  -- the last loss is by a revocation
  loss-taken : (place : ℕ) → IsLastLoss owners deeds user need place → WasTaken owners deeds user need place
  loss-taken place lost = by_deed lost.deed lost.there lost.here
    where
      gone : holds owners (take (suc lost.index) deeds) user need ≡ false
      gone = lost.after (suc lost.index) (omega arith)

      by_deed : (deed : Deed) → slice_get deeds lost.index ≡ Some deed → place_of deed ≡ place → WasTaken owners deeds user need place
      by_deed (Granting grant) there here =
          let still = holds-granting owners (take lost.index deeds) grant user need lost.before in
          absurd (true≢false (sym still ∙ ap (λ ds. holds owners ds user need) (sym (took lost.index deeds (Granting grant) there)) ∙ gone))
      by_deed (Revoking revocation) there here = record {
        index = lost.index;
        revocation = revocation;
        there = there;
        here = here;
        before = holds-held owners (take lost.index deeds) user need lost.before;
        after = λ n less. missing-unheld owners (take n deeds) user need (lost.after n less);
      }

  taken-loss : (place : ℕ) → WasTaken owners deeds user need place → IsLastLoss owners deeds user need place
  taken-loss place taken = record {
    index = taken.index;
    deed = Revoking taken.revocation;
    there = taken.there;
    here = taken.here;
    before = held-holds owners (take taken.index deeds) user need taken.before;
    after = λ n less. unheld-missing owners (take n deeds) user need (taken.after n less);
  }

  -- the cause of a need that isn't held
  cause-is : (why : Cause) → holds owners deeds user need ≡ false → cause owners deeds user need ≡ why → IsCause owners deeds user need why
  cause-is Never out is = λ n. missing-unheld owners (take n deeds) user need ((cause-never owners user need deeds out).0 is n)
  cause-is (Taken place) out is = loss-taken place ((cause-taken owners user need deeds place out).0 is)

  is-cause : (why : Cause) → holds owners deeds user need ≡ false → IsCause owners deeds user need why → cause owners deeds user need ≡ why
  is-cause Never out is = (cause-never owners user need deeds out).1 (λ n. unheld-missing owners (take n deeds) user need (is n))
  is-cause (Taken place) out is = (cause-taken owners user need deeds place out).1 (taken-loss place is)

-- a body that is run has an outcome, whatever it results in
ran : (owners : List ℕ) (world : World) (deeds : List Deed) (ending : Ending) → WasAdmitted (Some (ended owners world deeds ending))
ran owners world deeds (completed rows outputs) = tt
ran owners world deeds (aborted step reason) = tt
ran owners world deeds (undeclared step) = tt

-- what is admitted isn't denied
not-both : (outcome : Option Outcome) → WasAdmitted outcome → WasDenied outcome → ⊥
not-both None admitted denied = admitted
not-both (Some Outcome.Created) admitted denied = admitted
not-both (Some (Outcome.Done outputs deed)) admitted denied = denied
not-both (Some (Outcome.Denied need cause)) admitted denied = admitted
not-both (Some (Outcome.Aborted step reason)) admitted denied = denied
not-both (Some (Outcome.Undeclared step)) admitted denied = denied

-- a RUN or a deed is judged
form-judged : (own : List ℕ) (place : ℕ) (world : World) (statement : Statement) (form : Form) → AsksForPrivileges form
    → step_form own place world statement form ≡ judged own place world statement (missing own world statement.user form)
form-judged own place world statement (Form.Create table columns) asks = absurd asks
form-judged own place world statement (Form.Run accesses steps deed) asks = refl
form-judged own place world statement (Form.Deed deed) asks = refl

-- what a place results in, by the first need that is missing
module _ (log : List Statement) (place : ℕ) (statement : Statement) (asked : IsAsked log place statement) where
  abbrev world : World
  world = world_before log place

  abbrev lacking : Option Need
  lacking = missing (owners log) world statement.user statement.form

  outcome-judged : outcome log place ≡ Some (judged (owners log) place world statement lacking).0
  outcome-judged = rw (asked.there, form-judged (owners log) place world statement statement.form asked.asks) refl

  none-admitted : lacking ≡ None → WasAdmitted (outcome log place)
  none-admitted none =
      rw (outcome-judged, none)
      (ran (owners log) world (deeds_of place statement.user statement.form) (body world.rows statement.form))

  some-denied : (need : Need) → lacking ≡ Some need
      → outcome log place ≡ Some (Outcome.Denied need (cause (owners log) world.deeds statement.user need))
  some-denied need some = rw (outcome-judged, some) refl

  -- by whether a need is missing
  by_lacking : {G : Type 0} → (lacking ≡ None → G) → ((need : Need) → lacking ≡ Some need → G) → G
  by_lacking {G} none some = by_option lacking refl
    where
      by_option : (found : Option Need) → lacking ≡ found → G
      by_option None is = none is
      by_option (Some need) is = some need is

  pub admitted-held : WasAdmitted (outcome log place) → All (IsPrivileged (owners log) world.deeds statement.user) (needs statement.form)
  admitted-held admitted =
      by_lacking
      (λ none. none-all (owners log) world.deeds statement.user (needs statement.form) none)
      (λ need some. absurd (rw (some-denied need some) at admitted))

  pub held-admitted : All (IsPrivileged (owners log) world.deeds statement.user) (needs statement.form) → WasAdmitted (outcome log place)
  held-admitted all = none-admitted (all-none (owners log) world.deeds statement.user (needs statement.form) all)

  pub denied-unheld : WasDenied (outcome log place) → Any (λ need. ¬ IsPrivileged (owners log) world.deeds statement.user need) (needs statement.form)
  denied-unheld denied =
      by_lacking
      (λ none. absurd (not-both (outcome log place) (none-admitted none) denied))
      (λ need some. first-any (owners log) world.deeds statement.user (needs statement.form) need
      (found-first (owners log) world.deeds statement.user (needs statement.form) need some))

  pub unheld-denied : Any (λ need. ¬ IsPrivileged (owners log) world.deeds statement.user need) (needs statement.form) → WasDenied (outcome log place)
  unheld-denied any =
      by_lacking
      (λ none. absurd (any-not_all (owners log) world.deeds statement.user (needs statement.form) any
      (none-all (owners log) world.deeds statement.user (needs statement.form) none)))
      (λ need some. rw (some-denied need some) tt)

  pub denial-told : (need : Need) (why : Cause) → outcome log place ≡ Some (Outcome.Denied need why)
      → IsDenial (owners log) world.deeds statement.user (needs statement.form) need why
  denial-told need why is =
      by_lacking
      (λ none. let admitted : WasAdmitted (outcome log place) = none-admitted none in absurd (rw is at admitted))
      (λ found some.
      let told = some-denied found some in
      let same : found ≡ need = cc in
      let reason : cause (owners log) world.deeds statement.user need ≡ why = cc in
      let first : IsFirstMissing (owners log) world.deeds statement.user (needs statement.form) need =
      found-first (owners log) world.deeds statement.user (needs statement.form) need (some ∙ ap Some same) in
      record {
        first = first;
        cause = cause-is (owners log) world.deeds statement.user need why
            (unheld-missing (owners log) world.deeds statement.user need first.missing) reason;
      })

  pub told-denial : (need : Need) (why : Cause) → IsDenial (owners log) world.deeds statement.user (needs statement.form) need why
      → outcome log place ≡ Some (Outcome.Denied need why)
  told-denial need why denial =
      some-denied need (first-found (owners log) world.deeds statement.user (needs statement.form) need denial.first)
      ∙ ap (λ (c : Cause). Some (Outcome.Denied need c))
      (is-cause (owners log) world.deeds statement.user need why
      (unheld-missing (owners log) world.deeds statement.user need denial.first.missing) denial.cause)
