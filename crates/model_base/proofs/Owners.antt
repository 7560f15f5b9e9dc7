-- Of the owners only those of the tables that the grants are on matter: who owns other tables changes nothing in force.
use Rattle.std.proofs.Common.{◌≡◌, ℕ, zero, suc, ◌||◌, ◌&&◌, not, Bool, List, [], ◌∷◌, ◌++◌, map, refl, sym, ◌∙◌, ap, append_assoc, filter}
use Rattle.std.specs.Prelude.{All, if◌then◌else◌}
use Rattle.std.specs.List.{list_any}
use Rattle.std.proofs.lemmas.List.{append-nil}
use Rattle.std.proofs.lemmas.List.Elements.{All-head, All-tail, All-contains, Contains-push, All-filter}
use Rattle.model_base.specs.declared.deed.Cause.{Cause}
use Rattle.model_base.specs.declared.deed.Cause.TheVariants.{Never, Taken}
use Rattle.model_base.specs.declared.deed.Grant.{Grant}
use Rattle.model_base.specs.declared.deed.Record.{Record}
use Rattle.model_base.specs.declared.deed.Revocation.{Revocation}
use Rattle.model_base.specs.declared.deed.Need.{Need}
use Rattle.model_base.specs.declared.deed.Deed.{Deed}
use Rattle.model_base.specs.declared.deed.Deed.TheVariants.{Granting, Revoking}
use Rattle.model_base.specs.Ranks.{rank}
use Rattle.model_base.specs.Privileges.{owns, gives, has, option_of, erased, replayed, kept, holds, is_among, lost, ended_by, place_of, deeds_below, IsProper, IsProperAfter, names}
use Rattle.model_base.specs.Outcomes.{cause, cause_after}
use Rattle.model_base.specs.Records.{grants_of, end_after, record_of, records, in_force, ended_by_records, holds_by, cut, last_loss_by}
use Rattle.model_base.proofs.Replay.{by_cases}
use Rattle.model_base.proofs.Parts.{part-all, part-beginning}
use Rattle.model_base.proofs.Records.{grants-append}
use Rattle.model_base.proofs.Recorded.{part-erased_grants, part-grants_below}

module _ (first second : List ℕ) where
  -- both have the same owner of the table
  pub record IsSameOwner (table : ℕ) : Type 0 where
    pub same : (user : ℕ) → owns first user table ≡ owns second user table

  -- both have the same owners of the grants' tables
  abbrev pub AreSameOwners : List Grant → Type 0
  AreSameOwners grants = All (λ grant. IsSameOwner grant.table) grants

  -- what is needed on such a table is held with both owners, or with neither
  has-owners : (grants : List Grant) (user : ℕ) (need : Need) → IsSameOwner need.table → has first grants user need ≡ has second grants user need
  unfolding has
  has-owners grants user need agree = ap (λ b. b || list_any (λ grant. gives grant user need) grants) (agree.same user)

  -- the replay of grants on tables with the same owners is the same
  pub replayed-owners : (standing grants : List Grant) → AreSameOwners grants → replayed first standing grants ≡ replayed second standing grants
  replayed-owners standing [] agree = refl
  replayed-owners standing (grant ∷ grants) agree =
      let rest = All-tail (λ x. IsSameOwner x.table) grant grants agree in
      let here = has-owners standing grant.grantor (option_of grant) (All-head (λ x. IsSameOwner x.table) grant grants agree) in
      by_cases (has second standing grant.grantor (option_of grant))
      (λ stands. rw (here, stands) (ap (λ r. grant ∷ r) (replayed-owners (standing ++ grant ∷ []) grants rest)))
      (λ falls. rw (here, falls) (replayed-owners standing grants rest))

  -- so are the grants in force
  pub kept-owners : (deeds : List Deed) → AreSameOwners (grants_of deeds) → kept first deeds ≡ kept second deeds
  kept-owners deeds agree = replayed-owners [] (erased deeds) (part-all (λ x. IsSameOwner x.table) (part-erased_grants deeds) agree)

  -- and who holds what on such a table
  pub holds-owners : (deeds : List Deed) (user : ℕ) (need : Need) → AreSameOwners (grants_of deeds) → IsSameOwner need.table
      → holds first deeds user need ≡ holds second deeds user need
  holds-owners deeds user need agree on =
      ap (λ grants. has first grants user need) (kept-owners deeds agree) ∙ has-owners (kept second deeds) user need on

  -- the grants of the first deeds are some of all
  front-owners : (past later : List Deed) → AreSameOwners (grants_of (past ++ later)) → AreSameOwners (grants_of past)
  front-owners past later agree =
      let whole : AreSameOwners (grants_of past ++ grants_of later) = rw (← grants-append past later) agree in
      part-all (λ x. IsSameOwner x.table) (part-beginning (grants_of past) (grants_of later)) whole

  -- a grant gets the same end
  end-owners : (past later : List Deed) (place : ℕ) → AreSameOwners (grants_of (past ++ later)) → end_after first past later place ≡ end_after second past later place
  end-owners past [] place agree = refl
  end-owners past (deed ∷ later) place agree =
      let next : AreSameOwners (grants_of ((past ++ deed ∷ []) ++ later)) = rw append_assoc agree in
      let before = kept-owners past (front-owners past (deed ∷ later) agree) in
      let after = kept-owners (past ++ deed ∷ []) (front-owners (past ++ deed ∷ []) later next) in
      let here : (is_among place (kept first past) && not (is_among place (kept first (past ++ deed ∷ []))))
      ≡ (is_among place (kept second past) && not (is_among place (kept second (past ++ deed ∷ []))))
      = ap (λ grants. is_among place grants && not (is_among place (kept first (past ++ deed ∷ [])))) before
      ∙ ap (λ grants. is_among place (kept second past) && not (is_among place grants)) after in
      rw (here, end-owners (past ++ deed ∷ []) later place next) refl

  -- so are the records of any grants
  same_records : (deeds : List Deed) (grants : List Grant) → AreSameOwners (grants_of deeds)
      → map (record_of first deeds) grants ≡ map (record_of second deeds) grants
  same_records deeds [] agree = refl
  same_records deeds (grant ∷ grants) agree = rw (end-owners [] deeds (rank grant) agree, same_records deeds grants agree) refl

  -- the records are the same
  pub records-owners : (deeds : List Deed) → AreSameOwners (grants_of deeds) → records first deeds ≡ records second deeds
  records-owners deeds agree = same_records deeds (grants_of deeds) agree

  -- a revocation ends the same
  pub ended_by-owners : (deeds : List Deed) (revocation : Revocation) → AreSameOwners (grants_of deeds)
      → ended_by first deeds revocation ≡ ended_by second deeds revocation
  ended_by-owners deeds revocation agree =
      let next : AreSameOwners (grants_of (deeds ++ Revoking revocation ∷ [])) =
      rw (grants-append deeds (Revoking revocation ∷ []), append-nil (grants_of deeds)) agree in
      ap (λ grants. lost grants (kept first (deeds ++ Revoking revocation ∷ []))) (kept-owners deeds agree)
      ∙ ap (lost (kept second deeds)) (kept-owners (deeds ++ Revoking revocation ∷ []) next)

  -- the same was lost last
  same_cause : (user : ℕ) (need : Need) (past later : List Deed) (found : Cause) → AreSameOwners (grants_of (past ++ later)) → IsSameOwner need.table
      → cause_after first user need past later found ≡ cause_after second user need past later found
  same_cause user need past [] found agree on = refl
  same_cause user need past (deed ∷ later) found agree on =
      let next : AreSameOwners (grants_of ((past ++ deed ∷ []) ++ later)) = rw append_assoc agree in
      let before = holds-owners past user need (front-owners past (deed ∷ later) agree) on in
      let after = holds-owners (past ++ deed ∷ []) user need (front-owners (past ++ deed ∷ []) later next) on in
      let rest = same_cause user need (past ++ deed ∷ []) later in
      let test : Bool → Bool → Cause = λ held still. if held && not still then Taken (place_of deed) else found in
      ap (λ b. cause_after first user need (past ++ deed ∷ []) later (test b (holds first (past ++ deed ∷ []) user need))) before
      ∙ ap (λ b. cause_after first user need (past ++ deed ∷ []) later (test (holds second past user need) b)) after
      ∙ rest (test (holds second past user need) (holds second (past ++ deed ∷ []) user need)) next on

  -- so the cause of a denial is the same
  pub cause-owners : (deeds : List Deed) (user : ℕ) (need : Need) → AreSameOwners (grants_of deeds) → IsSameOwner need.table
      → cause first deeds user need ≡ cause second deeds user need
  cause-owners deeds user need agree on = same_cause user need [] deeds Never agree on

  -- by any records the same is held on such a table
  pub holds_by-owners : (entries : List Record) (user : ℕ) (need : Need) → IsSameOwner need.table
      → holds_by first entries user need ≡ holds_by second entries user need
  holds_by-owners entries user need on = has-owners (in_force entries) user need on

  -- and was lost last at the same place
  pub last_loss-owners : (entries : List Record) (user : ℕ) (need : Need) (place : ℕ) → IsSameOwner need.table
      → last_loss_by first entries user need place ≡ last_loss_by second entries user need place
  last_loss-owners entries user need zero on = refl
  last_loss-owners entries user need (suc place) on =
      rw (holds_by-owners (cut place entries) user need on, holds_by-owners (cut (suc place) entries) user need on, last_loss-owners entries user need place on)
      refl

  -- deeds that are proper for the one are so for the other
  proper_after-owners : (past deeds : List Deed) → AreSameOwners (grants_of (past ++ deeds)) → IsProperAfter first past deeds → IsProperAfter second past deeds
  proper_after-owners past [] agree proper = tt
  proper_after-owners past (Granting grant ∷ deeds) agree proper =
      let next : AreSameOwners (grants_of ((past ++ Granting grant ∷ []) ++ deeds)) = rw append_assoc agree in
      let one = front-owners (past ++ Granting grant ∷ []) deeds next in
      let last : AreSameOwners (grants_of past ++ grant ∷ []) = rw (← grants-append past (Granting grant ∷ [])) one in
      let on : IsSameOwner grant.table = All-contains (λ x. IsSameOwner x.table) (grants_of past ++ grant ∷ []) grant last (Contains-push (grants_of past) grant) in
      let low = part-all (λ x. IsSameOwner x.table) (part-grants_below grant.place past) (front-owners past (Granting grant ∷ deeds) agree) in
      let same = holds-owners (deeds_below grant.place past) grant.grantor (option_of grant) low on in
      ((proper.0.0, sym same ∙ proper.0.1), proper_after-owners (past ++ Granting grant ∷ []) deeds next proper.1)
  proper_after-owners past (Revoking revocation ∷ deeds) agree proper =
      let next : AreSameOwners (grants_of ((past ++ Revoking revocation ∷ []) ++ deeds)) = rw append_assoc agree in
      (proper.0, proper_after-owners (past ++ Revoking revocation ∷ []) deeds next proper.1)

  -- so from the first deed on
  pub proper-owners : (deeds : List Deed) → AreSameOwners (grants_of deeds) → IsProper first deeds → IsProper second deeds
  proper-owners deeds agree proper = proper_after-owners [] deeds agree proper

  -- and of records with grants in force on such tables a revocation ends the same
  pub ended_by_records-owners : (entries : List Record) (revocation : Revocation) → AreSameOwners (in_force entries)
      → ended_by_records first entries revocation ≡ ended_by_records second entries revocation
  ended_by_records-owners entries revocation agree =
      let unnamed : Grant → Bool = λ grant. not (names revocation grant) in
      let left : AreSameOwners (filter unnamed (in_force entries)) = All-filter unnamed (λ x. IsSameOwner x.table) (in_force entries) agree in
      ap (lost (in_force entries)) (replayed-owners [] (filter unnamed (in_force entries)) left)
