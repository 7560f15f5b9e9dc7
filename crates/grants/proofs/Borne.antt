-- In a view that shows some deeds each grant in force is borne by an earlier one.
use Rattle.std.proofs.Common.{◌≡◌, ℕ, zero, suc, ◌<◌, ◌||◌, ◌&&◌, Bool, true, false, List, [], ◌∷◌, ◌++◌, Option, Some, None, is_none, take, refl, sym, ◌∙◌, ap, subst, arith, inl, inr, append_assoc}
use Rattle.std.specs.Prelude.{◌==◌, ◌⊎◌, slice_get}
use Rattle.std.specs.List.{flat_map, list_any}
use Rattle.std.specs.Option.{option_to_list}
use Rattle.std.proofs.lemmas.Bool.{true≢false, and_parts, or_cases, or_right, ne_eqb}
use Rattle.std.proofs.lemmas.List.{append-nil}
use Rattle.std.proofs.lemmas.List.Folds.{list_any-append}
use Rattle.model_base.specs.declared.deed.Grant.{Grant}
use Rattle.model_base.specs.declared.deed.Kind.{Kind}
use Rattle.model_base.specs.declared.deed.Record.{Record}
use Rattle.model_base.specs.declared.deed.Revocation.{Revocation}
use Rattle.model_base.specs.declared.deed.Need.{Need}
use Rattle.model_base.specs.declared.deed.Deed.{Deed}
use Rattle.model_base.specs.Privileges.{concerns, erased, gives, has, kept, lends_to, option_of, same_kind}
use Rattle.model_base.specs.Records.{covered, in_force, records}
use Rattle.model_base.proofs.Replay.{by_cases}
use Rattle.model_base.proofs.Reaching.{gives_option}
use Rattle.model_base.proofs.Records.{in_force-records}
use Rattle.grants_base.specs.View.{View, ShowsDeeds, covers, entries, flatten}
use Rattle.grants.specs.Pass.{concerned, lends_of_kind}
use Rattle.grants.specs.Work.{AreBorne, bears}
use Rattle.grants.proofs.Passing.{IsBorne, given, owns_owner, replayed_borne, same_kind-same, same_need}
use Rattle.grants.proofs.SlotLaws.{off_table}
use Rattle.grants.proofs.Asked.{or_first}

-- what passes one test passes another
any_implies : {X : Type 0} (p q : X → Bool) → ((x : X) → p x ≡ true → q x ≡ true) → (xs : List X) → list_any p xs ≡ true → list_any q xs ≡ true
any_implies p q implies [] is = absurd (true≢false (sym is))
any_implies p q implies (x ∷ xs) is =
    elim (or_cases (p x) (list_any p xs) is) [
      | inl here ↦ or_first (q x) (list_any q xs) (implies x here)
      | inr later ↦ or_right (q x) (list_any q xs) (any_implies p q implies xs later)
    ]

-- of a list with one more, either the list or the last passes
any_more : {X : Type 0} (p : X → Bool) (xs : List X) (x : X) → list_any p (xs ++ x ∷ []) ≡ true → (list_any p xs ≡ true) ⊎ (p x ≡ true)
any_more p xs x is =
    elim (or_cases (list_any p xs) (p x || false) (sym (list_any-append p xs (x ∷ [])) ∙ is)) [
      | inl before ↦ inl before
      | inr last ↦ inr (alone (p x) last)
    ]
  where
    alone : (b : Bool) → (b || false) ≡ true → b ≡ true
    alone true e = refl
    alone false e = absurd (true≢false (sym e))

any_before : {X : Type 0} (p : X → Bool) (xs : List X) (x : X) → list_any p xs ≡ true → list_any p (xs ++ x ∷ []) ≡ true
any_before p xs x is = list_any-append p xs (x ∷ []) ∙ or_first (list_any p xs) (p x || false) is

any_last : {X : Type 0} (p : X → Bool) (xs : List X) (x : X) → p x ≡ true → list_any p (xs ++ x ∷ []) ≡ true
any_last p xs x is = list_any-append p xs (x ∷ []) ∙ or_right (list_any p xs) (p x || false) (or_first (p x) false is)

module _ (owner : ℕ) (revocation : Revocation) where
  -- a grant that the revocation speaks of and that gives the user the option of the kind
  abbrev lends_here : ℕ → Kind → Grant → Bool
  lends_here user kind grant = concerns revocation grant && lends_of_kind user kind grant

  -- each grant that it speaks of is by the owner, or by one who has the option of its kind by an earlier one
  abbrev AreLent : List Grant → List Grant → Type 0
  AreLent before [] = Unit {0}
  AreLent before (grant ∷ grants) =
      (concerns revocation grant ≡ true → ((owner == grant.grantor) || list_any (lends_here grant.grantor grant.kind) before) ≡ true) × AreLent (before ++ grant ∷ []) grants

  -- so with slots
  abbrev AreSlotsLent : List (Option Record) → List (Option Record) → Type 0
  AreSlotsLent before [] = Unit {0}
  AreSlotsLent before (slot ∷ slots) =
      ((grant : Grant) → concerned slot revocation ≡ Some grant → ((owner == grant.grantor) || list_any (bears revocation grant.grantor grant.kind) before) ≡ true)
      × AreSlotsLent (before ++ slot ∷ []) slots

  or_more : (a b c : Bool) → (b ≡ true → c ≡ true) → (a || b) ≡ true → (a || c) ≡ true
  or_more true b c implies is = refl
  or_more false b c implies is = implies is

  module _ (owners : List ℕ) (owner_is : slice_get owners revocation.table ≡ Some owner) where
    lent_from : (before grants : List Grant) → IsBorne owners before grants → AreLent before grants
    unfolding has
    lent_from before [] borne = tt
    lent_from before (grant ∷ grants) borne = (first, lent_from (before ++ grant ∷ []) grants borne.1)
      where
        first : concerns revocation grant ≡ true → ((owner == grant.grantor) || list_any (lends_here grant.grantor grant.kind) before) ≡ true
        first about =
            let table : revocation.table ≡ grant.table = sym (ap (λ (n : Need). n.table) (same_need owners revocation owner owner_is grant about)) in
            let here : slice_get owners grant.table ≡ Some owner = ap (slice_get owners) (sym table) ∙ owner_is in
            let held : ((owner == grant.grantor) || list_any (λ g. gives g grant.grantor (option_of grant)) before) ≡ true =
            ap (λ b. b || list_any (λ g. gives g grant.grantor (option_of grant)) before) (sym (owns_owner owners grant.grantor grant.table owner here)) ∙ borne.0 in
            or_more (owner == grant.grantor) (list_any (λ g. gives g grant.grantor (option_of grant)) before) (list_any (lends_here grant.grantor grant.kind) before)
            (any_implies (λ g. gives g grant.grantor (option_of grant)) (lends_here grant.grantor grant.kind) (lending grant about) before) held
          where
            lending : (grant : Grant) → concerns revocation grant ≡ true
                → (g : Grant) → gives g grant.grantor (option_of grant) ≡ true → lends_here grant.grantor grant.kind g ≡ true
            lending grant about g is =
                let parts = given g grant.grantor (option_of grant) is in
                let here : concerns revocation g ≡ true = rw (parts.kind, parts.table) about in
                let lent : lends_to g grant.grantor ≡ true = sym (gives_option g grant.grantor (option_of grant) parts.kind parts.table refl) ∙ is in
                let kind : same_kind grant.kind g.kind ≡ true = rw parts.kind (same_kind-same grant.kind) in
                rw (here, kind) lent

  -- of the records of some tables
  lent_covered : (tells : ℕ → Bool) → tells revocation.table ≡ true → (before more : List Grant) (all : List Record)
      → ((user : ℕ) (kind : Kind) → list_any (lends_here user kind) before ≡ true → list_any (lends_here user kind) more ≡ true)
      → AreLent before (in_force all) → AreLent more (in_force (covered tells all))
  lent_covered tells here before more [] implies lent = tt
  lent_covered tells here before more (entry ∷ all) implies lent =
      by_cases (is_none entry.end)
      (λ stands.
      let parts : AreLent before (entry.grant ∷ in_force all) = rw stands at lent in
      by_cases (tells entry.grant.table)
      (λ inside. rw (inside, stands) (
        (λ about. or_more (owner == entry.grant.grantor) (list_any (lends_here entry.grant.grantor entry.grant.kind) before) (list_any (lends_here entry.grant.grantor entry.grant.kind) more) (implies entry.grant.grantor entry.grant.kind) (parts.0 about)),
        lent_covered tells here (before ++ entry.grant ∷ []) (more ++ entry.grant ∷ []) all
            (λ user kind is. elim (any_more (lends_here user kind) before entry.grant is) [
              | inl old ↦ any_before (lends_here user kind) more entry.grant (implies user kind old)
              | inr new ↦ any_last (lends_here user kind) more entry.grant new
            ]) parts.1,
      ))
      (λ outside. rw outside
      (lent_covered tells here (before ++ entry.grant ∷ []) more all
      (λ user kind is. elim (any_more (lends_here user kind) before entry.grant is) [
        | inl old ↦ implies user kind old
        | inr new ↦
            let about = (and_parts (concerns revocation entry.grant) (lends_of_kind user kind entry.grant) new).0 in
            let apart : concerns revocation entry.grant ≡ false =
            off_table owner revocation entry.grant (ne_eqb entry.grant.table revocation.table (λ same. true≢false (sym here ∙ sym (ap tells same) ∙ outside))) in
            absurd (true≢false (sym about ∙ apart))
      ]) parts.1)))
      (λ ended.
      let rest : AreLent before (in_force all) = rw ended at lent in
      by_cases (tells entry.grant.table)
      (λ inside. rw (inside, ended) (lent_covered tells here before more all implies rest))
      (λ outside. rw outside (lent_covered tells here before more all implies rest)))

  -- of the slots of the records
  lent_slots : (before : List Grant) (more slots : List (Option Record))
      → ((user : ℕ) (kind : Kind) → list_any (lends_here user kind) before ≡ true → list_any (bears revocation user kind) more ≡ true)
      → AreLent before (in_force (flat_map option_to_list slots)) → AreSlotsLent more slots
  lent_slots before more [] implies lent = tt
  lent_slots before more (None ∷ slots) implies lent =
      ((λ grant is. absurd (cc)), lent_slots before (more ++ None ∷ []) slots (λ user kind is. any_before (bears revocation user kind) more None (implies user kind is)) lent)
  lent_slots before more (Some entry ∷ slots) implies lent =
      by_cases (is_none entry.end)
      (λ stands.
      let parts : AreLent before (entry.grant ∷ in_force (flat_map option_to_list slots)) = rw stands at lent in (
        one parts.0,
        lent_slots (before ++ entry.grant ∷ []) (more ++ Some entry ∷ []) slots
            (λ user kind is. elim (any_more (lends_here user kind) before entry.grant is) [
              | inl old ↦ any_before (bears revocation user kind) more (Some entry) (implies user kind old)
              | inr new ↦
                  let both = and_parts (concerns revocation entry.grant) (lends_of_kind user kind entry.grant) new in
                  any_last (bears revocation user kind) more (Some entry) (rw (stands, both.0) both.1)
            ]) parts.1,
      ))
      (λ ended.
      let rest : AreLent before (in_force (flat_map option_to_list slots)) = rw ended at lent in (
        (λ grant is. let none : None ≡ Some grant = rw ended at is in absurd (cc)),
        lent_slots before (more ++ Some entry ∷ []) slots (λ user kind is. any_before (bears revocation user kind) more (Some entry) (implies user kind is)) rest,
      ))
    where
      one : (concerns revocation entry.grant ≡ true → ((owner == entry.grant.grantor) || list_any (lends_here entry.grant.grantor entry.grant.kind) before) ≡ true)
          → (grant : Grant) → concerned (Some entry) revocation ≡ Some grant → ((owner == grant.grantor) || list_any (bears revocation grant.grantor grant.kind) more) ≡ true
      one lent_here grant is =
          by_cases (is_none entry.end && concerns revocation entry.grant)
          (λ passes.
          let found : Some entry.grant ≡ Some grant = rw passes at is in
          let same : entry.grant ≡ grant = cc in
          let held = lent_here (and_parts (is_none entry.end) (concerns revocation entry.grant) passes).1 in
          subst (λ (g : Grant). ((owner == g.grantor) || list_any (bears revocation g.grantor g.kind) more) ≡ true) same
          (or_more (owner == entry.grant.grantor) (list_any (lends_here entry.grant.grantor entry.grant.kind) before) (list_any (bears revocation entry.grant.grantor entry.grant.kind) more)
          (implies entry.grant.grantor entry.grant.kind) held))
          (λ fails. let none : None ≡ Some grant = rw fails at is in absurd (cc))

  -- by the index of a slot
  lent_at : (before slots : List (Option Record)) (j : ℕ) (grant : Grant) → AreSlotsLent before slots → concerned (flatten (slice_get slots j)) revocation ≡ Some grant
      → ((owner == grant.grantor) || list_any (bears revocation grant.grantor grant.kind) (before ++ take j slots)) ≡ true
  lent_at before [] j grant lent is = absurd (cc)
  lent_at before (slot ∷ slots) zero grant lent is =
      ap (λ xs. (owner == grant.grantor) || list_any (bears revocation grant.grantor grant.kind) xs) (append-nil before) ∙ lent.0 grant is
  lent_at before (slot ∷ slots) (suc j) grant lent is =
      ap (λ xs. (owner == grant.grantor) || list_any (bears revocation grant.grantor grant.kind) xs) (sym (append_assoc before (slot ∷ []) (take j slots)))
      ∙ lent_at (before ++ slot ∷ []) slots j grant lent.1 is

-- one of the first slots passes
any_taken : (p : Option Record → Bool) (slots : List (Option Record)) (j : ℕ) → list_any p (take j slots) ≡ true
    → (k : ℕ) × (k < j) × (p (flatten (slice_get slots k)) ≡ true)
any_taken p [] zero is = absurd (true≢false (sym is))
any_taken p [] (suc j) is = absurd (true≢false (sym is))
any_taken p (slot ∷ slots) zero is = absurd (true≢false (sym is))
any_taken p (slot ∷ slots) (suc j) is =
    elim (or_cases (p slot) (list_any p (take j slots)) is) [
      | inl here ↦ (zero, omega arith, here)
      | inr later ↦ let by = any_taken p slots j later in (suc by.0, omega (arith, by.1), by.2)
    ]

-- what a view shows is borne
pub shows_borne : (view : View) (owners : List ℕ) (deeds : List Deed) (revocation : Revocation) (owner : ℕ) → ShowsDeeds view owners deeds
    → view.owner revocation.table ≡ Some owner → AreBorne owner revocation view
shows_borne view owners deeds revocation owner shows owned = record {
  each = λ j grant is.
      elim (or_cases (owner == grant.grantor) (list_any (bears revocation grant.grantor grant.kind) (take j view.slots)) (lent_at owner revocation [] view.slots j grant lent is)) [
        | inl own ↦ inl own
        | inr by ↦ inr (any_taken (bears revocation grant.grantor grant.kind) view.slots j by)
      ];
}
  where
    here : covers view revocation.table ≡ true
    here = rw owned refl

    owner_is : slice_get owners revocation.table ≡ Some owner
    owner_is = shows.owned revocation.table here ∙ owned

    all : AreLent owner revocation [] (in_force (records owners deeds))
    all = subst (AreLent owner revocation []) (sym (in_force-records owners deeds shows.proper)) (lent_from owner revocation owners owner_is [] (kept owners deeds) (replayed_borne owners revocation owner owner_is [] (erased deeds)))

    seen : AreLent owner revocation [] (in_force (entries view))
    seen = subst (λ (es : List Record). AreLent owner revocation [] (in_force es)) (sym shows.same) (lent_covered owner revocation (covers view) here [] [] (records owners deeds) (λ user kind is. is) all)

    lent : AreSlotsLent owner revocation [] view.slots
    lent = lent_slots owner revocation [] [] view.slots (λ user kind is. is) seen
