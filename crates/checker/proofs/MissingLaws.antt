-- What the first need is that a view doesn't show as held.
use Rattle.std.proofs.Common.{◌≡◌, ℕ, suc, drop, drop-cons, add-one, slice_index_or, ◌+◌, ◌<◌, true, false, not, List, [], ◌∷◌, ◌++◌, Option, Some, None, map, length, refl, sym, ◌∙◌, ap}
use Rattle.std.specs.Prelude.{All, IsSome, IsTrue, is_some}
use Rattle.std.specs.List.{find}
use Rattle.std.specs.Option.{option_map}
use Rattle.std.proofs.lemmas.Bool.{true≢false}
use Rattle.std.proofs.lemmas.List.{map-append}
use Rattle.std.proofs.lemmas.List.Folds.{find-append}
use Rattle.std.proofs.lemmas.List.Elements.{All-cons, All-head, All-nil, All-tail}
use Rattle.model_base.specs.declared.deed.Deed.{Deed}
use Rattle.model_base.specs.declared.deed.Kind.{Kind}
use Rattle.model_base.specs.declared.deed.Kind.TheVariants.{Read, Insert, Update, Delete}
use Rattle.model_base.specs.declared.deed.Need.{Need}
use Rattle.model_base.specs.declared.statement.Access.{Access}
use Rattle.model_base.specs.Outcomes.{kind_if, need_of, needs_of_access}
use Rattle.model_base.specs.Privileges.{has_kind, holds}
use Rattle.model_base.proofs.Replay.{by_cases}
use Rattle.grants_base.specs.View.{ShowsDeeds, View, covers, holds_in}
use Rattle.grants.proofs.ViewLaws.{held_after}
use Rattle.checker.specs.Missing.{Covers, first_lack, first_lacking, lack_of, lacks}

-- what is there is so
pub some_is : {X : Type 0} (o : Option X) → IsTrue (is_some o) → IsSome o
some_is (Some x) is = refl
some_is None is = absurd (true≢false (sym is))

module _ (view : View) where
  -- the table of a need is covered
  pub covers_one : (need : Need) → Covers view (need ∷ []) → IsSome (view.owner need.table)
  covers_one need covered = some_is (view.owner need.table) (All-head (λ (n : Need). IsTrue (covers view n.table)) need [] covered)

  module _ (user : ℕ) where
    -- the first of two lists is one of the first list, or else of the second
    pub first-left : (xs ys : List Need) (need : Need) → first_lacking view user xs ≡ Some need → first_lacking view user (xs ++ ys) ≡ Some need
    first-left xs ys need is = find-append (lacks view user) xs ys ∙ rw is refl

    pub first-right : (xs ys : List Need) → first_lacking view user xs ≡ None → first_lacking view user (xs ++ ys) ≡ first_lacking view user ys
    first-right xs ys none = find-append (lacks view user) xs ys ∙ rw none refl

    -- and so with its cause
    pub lack-left : (xs ys : List Need) → is_some (first_lack view user xs) ≡ true → first_lack view user (xs ++ ys) ≡ first_lack view user xs
    lack-left xs ys some = by_found (first_lacking view user xs) refl
      where
        by_found : (found : Option Need) → first_lacking view user xs ≡ found → first_lack view user (xs ++ ys) ≡ first_lack view user xs
        by_found (Some need) is = ap (option_map (lack_of view user)) (first-left xs ys need is ∙ sym is)
        by_found None is = absurd (true≢false (sym some ∙ ap (λ o. is_some (option_map (lack_of view user) o)) is))

    pub lack-right : (xs ys : List Need) → is_some (first_lack view user xs) ≡ false → first_lack view user (xs ++ ys) ≡ first_lack view user ys
    lack-right xs ys none = by_found (first_lacking view user xs) refl
      where
        by_found : (found : Option Need) → first_lacking view user xs ≡ found → first_lack view user (xs ++ ys) ≡ first_lack view user ys
        by_found None is = ap (option_map (lack_of view user)) (first-right xs ys is)
        by_found (Some need) is = absurd (true≢false (sym (ap (λ o. is_some (option_map (lack_of view user) o)) is) ∙ none))

    -- where none is missing, each is held
    pub none_missing : (needed : List Need) → first_lacking view user needed ≡ None → All (λ need. holds_in view user need ≡ true) needed
    none_missing [] none = All-nil (λ need. holds_in view user need ≡ true)
    none_missing (need ∷ needed) none =
        let Held : Need → Type 0 = λ n. holds_in view user n ≡ true in
        by_cases (holds_in view user need)
        (λ held. All-cons Held need needed held (none_missing needed (rw held at none)))
        (λ lost. absurd (other (rw lost at none)))
      where
        other : Some need ≡ None → ⊥
        other e = cc

    -- the one that is missing isn't held, and its table is covered
    pub missing_is : (needed : List Need) (need : Need) → first_lacking view user needed ≡ Some need → Covers view needed
        → (holds_in view user need ≡ false) × IsSome (view.owner need.table)
    missing_is [] need is covered = absurd (cc)
    missing_is (first ∷ needed) need is covered =
        let P : Need → Type 0 = λ n. IsTrue (covers view n.table) in
        by_cases (holds_in view user first)
        (λ held. missing_is needed need (rw held at is) (All-tail P first needed covered))
        (λ lost.
        let same : Some first ≡ Some need = rw lost at is in
        let here : first ≡ need = cc in
        rw (← here) (lost, some_is (view.owner first.table) (All-head P first needed covered)))

    -- the view's first missing need is that after the deeds that it shows
    pub first_shown : (owners : List ℕ) (deeds : List Deed) → ShowsDeeds view owners deeds → (needed : List Need) → Covers view needed
        → first_lacking view user needed ≡ find (λ need. not (holds owners deeds user need)) needed
    first_shown owners deeds shows [] covered = refl
    first_shown owners deeds shows (need ∷ needed) covered =
        let P : Need → Type 0 = λ n. IsTrue (covers view n.table) in
        let same = held_after view owners deeds user need shows (some_is (view.owner need.table) (All-head P need needed covered)) in
        rw (same, first_shown owners deeds shows needed (All-tail P need needed covered)) refl
