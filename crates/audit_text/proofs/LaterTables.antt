-- Tables that are created later explain nothing: with their owners after the others the same lines explain some needs.
use Rattle.std.proofs.Common.{◌≡◌, ◌<◌, ◌++◌, ◌∷◌, [], ℕ, List, length, refl, sym, ◌∙◌, ap}
use Rattle.std.specs.Prelude.{◌||◌, All, reverse}
use Rattle.std.specs.List.{list_any}
use Rattle.std.proofs.lemmas.List.Elements.{All-head, All-tail}
use Rattle.model_base.specs.declared.deed.Cause.{Cause}
use Rattle.model_base.specs.declared.deed.Cause.TheVariants.{Never, Taken}
use Rattle.model_base.specs.declared.deed.Deed.{Deed}
use Rattle.model_base.specs.declared.deed.Grant.{Grant}
use Rattle.model_base.specs.declared.deed.Need.{Need}
use Rattle.model_base.specs.Paths.{path, path_back}
use Rattle.model_base.specs.Privileges.{IsProper, deeds_below, gives, has, kept, option_of, owns}
use Rattle.model_base.specs.Records.{grants_of}
use Rattle.model_base.proofs.MoreOwners.{IsOnTable, all_same-more, same-more, tables-proper}
use Rattle.model_base.proofs.Owners.{AreSameOwners, cause-owners, holds-owners, kept-owners}
use Rattle.model_base.proofs.Parts.{part-all}
use Rattle.model_base.proofs.Recorded.{part-grants_below, part-kept_grants}
use Rattle.model_base.proofs.Replay.{by_cases}
use Rattle.explain.specs.declared.line.Line.{Line}
use Rattle.explain.specs.declared.line.Shown.{Shown}
use Rattle.explain.specs.Lines.{cause_before, holds_before, ranks_of, path_before, shown_lost, shown_of}
use Rattle.explain.specs.ExplainedNeeds.{explaining_lines, line_of}
use Rattle.explain.proofs.Asked.{lines-held, lines-missing}
use Rattle.explain.proofs.RisingPlaces.{all-reverse}

module _ (own more : List ℕ) where
  -- who has what of the tables that there are
  has-more : (grants : List Grant) (user : ℕ) (need : Need) → need.table < length own → has (own ++ more) grants user need ≡ has own grants user need
  unfolding has
  has-more grants user need low = ap (λ b. b || list_any (λ grant. gives grant user need) grants) ((same-more own more need.table low).same user)

  -- and by which path
  back-more : (grants : List Grant) (user : ℕ) (need : Need) → All (IsOnTable own) grants → need.table < length own
      → path_back (own ++ more) grants user need ≡ path_back own grants user need
  back-more [] user need on low = refl
  back-more (grant ∷ earlier) user need on low =
      let rest = All-tail (IsOnTable own) grant earlier on in
      let here : grant.table < length own = All-head (IsOnTable own) grant earlier on in
      by_cases (has own earlier user need)
      (λ held. rw (has-more earlier user need low, held) (back-more earlier user need rest low))
      (λ lacks. rw (has-more earlier user need low, lacks)
      (by_cases (gives grant user need)
      (λ given. rw given (ap (λ (before : List Grant). before ++ grant ∷ []) (back-more earlier grant.grantor (option_of grant) rest here)))
      (λ other. rw other refl)))

  path-more : (grants : List Grant) (user : ℕ) (need : Need) → All (IsOnTable own) grants → need.table < length own
      → path (own ++ more) grants user need ≡ path own grants user need
  path-more grants user need on low = back-more (reverse grants) user need (all-reverse (IsOnTable own) grants on) low

  module _ (deeds : List Deed) (proper : IsProper own deeds) (user : ℕ) (need : Need) (low : need.table < length own) where
    on-below : (place : ℕ) → All (IsOnTable own) (grants_of (deeds_below place deeds))
    on-below place = part-all (IsOnTable own) (part-grants_below place deeds) (tables-proper own deeds proper)

    same-below : (place : ℕ) → AreSameOwners (own ++ more) own (grants_of (deeds_below place deeds))
    same-below place = all_same-more own more (grants_of (deeds_below place deeds)) (on-below place)

    pub holds-more : (place : ℕ) → holds_before (own ++ more) deeds place user need ≡ holds_before own deeds place user need
    holds-more place = holds-owners (own ++ more) own (deeds_below place deeds) user need (same-below place) (same-more own more need.table low)

    cause-more : (place : ℕ) → cause_before (own ++ more) deeds place user need ≡ cause_before own deeds place user need
    cause-more place = cause-owners (own ++ more) own (deeds_below place deeds) user need (same-below place) (same-more own more need.table low)

    ranks-more : (place : ℕ) → path_before (own ++ more) deeds place user need ≡ path_before own deeds place user need
    ranks-more place =
        let standing : All (IsOnTable own) (kept own (deeds_below place deeds)) =
        part-all (IsOnTable own) (part-kept_grants own (deeds_below place deeds)) (on-below place) in
        ap (λ (grants : List Grant). ranks_of (path (own ++ more) grants user need)) (kept-owners (own ++ more) own (deeds_below place deeds) (same-below place))
        ∙ ap ranks_of (path-more (kept own (deeds_below place deeds)) user need standing low)

    lost-more : (why : Cause) → shown_lost (own ++ more) deeds user need why ≡ shown_lost own deeds user need why
    lost-more Never = refl
    lost-more (Taken lost) = ap (Shown.Taken lost) (ranks-more lost)

    -- what there is to show of a need
    shown-more : (place : ℕ) → shown_of (own ++ more) deeds place user need ≡ shown_of own deeds place user need
    shown-more place =
        by_cases (owns own user need.table)
        (λ owned. rw ((same-more own more need.table low).same user, owned) refl)
        (λ other. rw ((same-more own more need.table low).same user, other)
        (by_cases (holds_before own deeds place user need)
        (λ held. rw (holds-more place, held) (ap Shown.Grants (ranks-more place)))
        (λ lacks. rw (holds-more place, lacks)
        (ap (shown_lost (own ++ more) deeds user need) (cause-more place) ∙ lost-more (cause_before own deeds place user need)))))

    pub line-more : (place : ℕ) → line_of (own ++ more) deeds place user need ≡ line_of own deeds place user need
    line-more place = ap (λ (s : Shown). let line : Line = record { need = need; shown = s } in line) (shown-more place)

  -- the lines that explain needs of the tables that there are
  pub lines-more : (deeds : List Deed) (place user : ℕ) (needed : List Need) → IsProper own deeds → All (λ (need : Need). need.table < length own) needed
      → explaining_lines (own ++ more) deeds place user needed ≡ explaining_lines own deeds place user needed
  lines-more deeds place user [] proper low = refl
  lines-more deeds place user (need ∷ needed) proper low =
      let P : Need → Type 0 = λ n. n.table < length own in
      let here : need.table < length own = All-head P need needed low in
      let line = line-more deeds proper user need here place in
      let same = holds-more deeds proper user need here place in
      let rest = lines-more deeds place user needed proper (All-tail P need needed low) in
      by_cases (holds_before own deeds place user need)
      (λ held.
      lines-held (own ++ more) deeds place user need needed (same ∙ held)
      ∙ ap (λ (l : Line). l ∷ explaining_lines (own ++ more) deeds place user needed) line
      ∙ ap (λ (ls : List Line). line_of own deeds place user need ∷ ls) rest
      ∙ sym (lines-held own deeds place user need needed held))
      (λ lacks.
      lines-missing (own ++ more) deeds place user need needed (same ∙ lacks)
      ∙ ap (λ (l : Line). l ∷ []) line
      ∙ sym (lines-missing own deeds place user need needed lacks))
