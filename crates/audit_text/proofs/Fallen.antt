-- Which of the drawn grants fell at the place.
use Rattle.std.proofs.Common.{◌≡◌, ◌≢◌, ◌↔◌, ℕ, true, false, not, Option, Some, None, List, [], ◌∷◌, ◌++◌, filter, map, refl, sym, ◌∙◌, ap, subst}
use Rattle.std.specs.Prelude.{◌==◌, All, Contains, get_or}
use Rattle.std.specs.Option.{option_map_or}
use Rattle.std.proofs.lemmas.Bool.{both_ways, eq-eqb, eqb-true, false≢true, false_from_ne_true, or_right}
use Rattle.std.proofs.lemmas.List.Elements.{All-cons, All-filter, All-head, All-map, All-nil, All-tail, All-weaker}
use Rattle.model_base.specs.declared.deed.Grant.{Grant}
use Rattle.model_base.specs.declared.deed.Record.{Record}
use Rattle.model_base.specs.declared.deed.Revocation.{Revocation}
use Rattle.model_base.specs.declared.deed.Deed.{Deed}
use Rattle.model_base.specs.declared.deed.Deed.TheVariants.{Revoking}
use Rattle.model_base.specs.Privileges.{ended_by, is_among, kept, lost}
use Rattle.model_base.specs.Ranks.{rank}
use Rattle.model_base.specs.Records.{end_after, grants_of, is_in_force_at, record_of, recorded, records}
use Rattle.audit_text.specs.Drawn.{drawn, fallen, fell_at}
use Rattle.model_base.proofs.Replay.{by_cases}

-- a grant fell at a place exactly if its end is the place
end-is : (place : ℕ) (end : Option ℕ) → option_map_or (λ e. e == place) end false ≡ true → end ≡ Some place
end-is place None fell = absurd (false≢true fell)
end-is place (Some end) fell = ap (λ (e : ℕ). Some e) (eqb-true end place fell)

fell-end : (place : ℕ) (entry : Record) → fell_at place entry ≡ true → entry.end ≡ Some place
fell-end place entry fell = end-is place entry.end fell

end-fell : (place : ℕ) (entry : Record) → entry.end ≡ Some place → fell_at place entry ≡ true
end-fell place entry is = rw is (eq-eqb place place refl)

-- each record's grant is among those of the records
among-own : (entries : List Record) → All (λ entry. is_among (rank entry.grant) (recorded entries) ≡ true) entries
among-own [] = All-nil (λ entry. is_among (rank entry.grant) [] ≡ true)
among-own (entry ∷ entries) =
    let P : Record → Type 0 = λ other. is_among (rank other.grant) (recorded (entry ∷ entries)) ≡ true in
    All-cons P entry entries (rw (eq-eqb (rank entry.grant) (rank entry.grant) refl) refl)
    (All-weaker (λ other. is_among (rank other.grant) (recorded entries) ≡ true) P
    (λ other there. or_right (rank entry.grant == rank other.grant) (is_among (rank other.grant) (recorded entries)) there) entries (among-own entries))

-- where a grant fell exactly if it isn't among those that stay, the fallen ones are those that are lost
lost-told : (place : ℕ) (after : List Grant) (entries : List Record) → All (λ entry. fell_at place entry ≡ not (is_among (rank entry.grant) after)) entries
    → map (λ (entry : Record). rank entry.grant) (filter (fell_at place) entries) ≡ lost (recorded entries) after
lost-told place after [] all = refl
lost-told place after (entry ∷ entries) all =
    let P : Record → Type 0 = λ entry. fell_at place entry ≡ not (is_among (rank entry.grant) after) in
    let first : fell_at place entry ≡ not (is_among (rank entry.grant) after) = All-head P entry entries all in
    let rest = lost-told place after entries (All-tail P entry entries all) in
    by_cases (is_among (rank entry.grant) after)
    (λ among. let stays : fell_at place entry ≡ false = first ∙ ap not among in rw (stays, among) rest)
    (λ out. let fell : fell_at place entry ≡ true = first ∙ ap not out in rw (fell, out) (ap (λ (ranks : List ℕ). rank entry.grant ∷ ranks) rest))

-- of records that didn't fall at the place none is found
none-fell : (place : ℕ) (entries : List Record) → All (λ entry. fell_at place entry ≡ false) entries → filter (fell_at place) entries ≡ []
none-fell place [] all = refl
none-fell place (entry ∷ entries) all =
    let P : Record → Type 0 = λ entry. fell_at place entry ≡ false in
    rw (All-head P entry entries all) (none-fell place entries (All-tail P entry entries all))

module _ (owners : List ℕ) (deeds : List Deed) where
  -- the end of a record is that of its grant by the deeds
  ends-of : All (λ (entry : Record). entry.end ≡ end_after owners [] deeds (rank entry.grant)) (records owners deeds)
  ends-of = All-map (λ (entry : Record). entry.end ≡ end_after owners [] deeds (rank entry.grant)) (record_of owners deeds) (grants_of deeds) (λ k d less. refl)

  module _ (past : List Deed) (revocation : Revocation)
      (falls : (ranked : ℕ) → (end_after owners [] deeds ranked ≡ Some revocation.place)
      ↔ ((is_among ranked (kept owners past) ≡ true) × (is_among ranked (kept owners (past ++ Revoking revocation ∷ [])) ≡ false)))
      (force : recorded (drawn revocation.place (records owners deeds)) ≡ kept owners past) where
    abbrev after : List Grant
    after = kept owners (past ++ Revoking revocation ∷ [])

    abbrev found : List Record
    found = drawn revocation.place (records owners deeds)

    -- a grant in force before the revocation fell at its place exactly if it isn't so after it
    tells : (entry : Record) → entry.end ≡ end_after owners [] deeds (rank entry.grant) → is_among (rank entry.grant) (kept owners past) ≡ true
        → fell_at revocation.place entry ≡ not (is_among (rank entry.grant) after)
    tells entry is before =
        by_cases (is_among (rank entry.grant) after)
        (λ among.
        let stays = false_from_ne_true (fell_at revocation.place entry)
        (λ fell. both_ways (is_among (rank entry.grant) after) ((falls (rank entry.grant)).0 (sym is ∙ fell-end revocation.place entry fell)).1 among) in
        stays ∙ sym (ap not among))
        (λ out. end-fell revocation.place entry (is ∙ (falls (rank entry.grant)).1 (before, out)) ∙ sym (ap not out))

    pub fallen-lost : fallen revocation.place (records owners deeds) ≡ ended_by owners past revocation
    fallen-lost =
        let P : Record → Type 0 = λ entry. entry.end ≡ end_after owners [] deeds (rank entry.grant) in
        let Q : Record → Type 0 = λ entry. is_among (rank entry.grant) (recorded found) ≡ true in
        let ends : All P found = All-filter (is_in_force_at revocation.place) P (records owners deeds) ends-of in
        let own : All Q found = among-own found in
        let told : All (λ entry. fell_at revocation.place entry ≡ not (is_among (rank entry.grant) after)) found =
        λ k d less. tells (get_or found k d) (ends k d less) (subst (λ (grants : List Grant). is_among (rank (get_or found k d).grant) grants ≡ true) force (own k d less)) in
        lost-told revocation.place after found told ∙ ap (λ (grants : List Grant). lost grants after) force

  -- where no revocation has the place, none fell there
  pub fallen-none : (place : ℕ)
      → All (λ entry. (end : ℕ) → entry.end ≡ Some end → (revocation : Revocation) × Contains deeds (Revoking revocation) × (end ≡ revocation.place)) (records owners deeds)
      → ((revocation : Revocation) → Contains deeds (Revoking revocation) → revocation.place ≢ place)
      → fallen place (records owners deeds) ≡ []
  fallen-none place ends others =
      let P : Record → Type 0 = λ entry. (end : ℕ) → entry.end ≡ Some end → (revocation : Revocation) × Contains deeds (Revoking revocation) × (end ≡ revocation.place) in
      let Q : Record → Type 0 = λ entry. fell_at place entry ≡ false in
      let stay : All Q (records owners deeds) =
      All-weaker P Q (λ entry by. false_from_ne_true (fell_at place entry)
      (λ fell. let by_one = by place (fell-end place entry fell) in others by_one.0 by_one.1 (sym by_one.2))) (records owners deeds) ends in
      ap (map (λ (entry : Record). rank entry.grant)) (none-fell place (drawn place (records owners deeds)) (All-filter (is_in_force_at place) Q (records owners deeds) stay))
