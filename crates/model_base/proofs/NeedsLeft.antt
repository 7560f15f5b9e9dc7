-- The needs of a statement that are left, once one access has none left.
use Rattle.std.proofs.Common.{◌≡◌, ℕ, Option, Some, None, MatchOption, List, [], ◌∷◌, ◌++◌, map, refl, sym, ap, ◌∙◌, append_assoc, arith, length}
use Rattle.std.specs.List.{flat_map}
use Rattle.model_base.specs.declared.deed.Kinds.{Kinds}
use Rattle.model_base.specs.declared.deed.Need.{Need}
use Rattle.model_base.specs.declared.statement.Access.{Access}
use Rattle.model_base.specs.Outcomes.{kinds_in, needs_of_access}
use Rattle.model_base.specs.NeedsLeft.{need_on, needs_left}

-- those of the next access are the first that are left
pub needs_left-next : (table : ℕ) (kinds : Kinds) (access : Access) (accesses later : List Access) (deed : List Need) → kinds_in kinds ≡ [] → accesses ≡ access ∷ later
    → needs_left access.key.table access.kinds later deed ≡ needs_left table kinds accesses deed
needs_left-next table kinds access accesses later deed none split =
    sym (ap (λ kinds'. map (need_on table) kinds' ++ (flat_map needs_of_access accesses ++ deed)) none
    ∙ ap (λ xs. flat_map needs_of_access xs ++ deed) split
    ∙ append_assoc (needs_of_access access) (flat_map needs_of_access later) deed)

no-access : (accesses : List Access) → length accesses ≡ 0 → accesses ≡ []
no-access [] none = refl
no-access (access ∷ accesses) none = absurd (omega arith)

only-deed : (table : ℕ) (kinds : Kinds) (accesses : List Access) (deed : List Need) → kinds_in kinds ≡ [] → length accesses ≡ 0
    → needs_left table kinds accesses deed ≡ deed
only-deed table kinds accesses deed none past =
    ap (λ kinds'. map (need_on table) kinds' ++ (flat_map needs_of_access accesses ++ deed)) none
    ∙ ap (λ xs. flat_map needs_of_access xs ++ deed) (no-access accesses past)

given : (need : Option Need) (whole left deed deed' : List Need) → MatchOption need ((deed ≡ []) × (deed' ≡ [])) (λ first. deed ≡ first ∷ deed')
    → whole ≡ deed → left ≡ deed'
    → MatchOption need ((whole ≡ []) × (left ≡ [])) (λ first. whole ≡ first ∷ left)
given None whole left deed deed' none all rest = (all ∙ none.0, rest ∙ none.1)
given (Some need) whole left deed deed' first all rest = all ∙ first ∙ ap (λ needs. need ∷ needs) (sym rest)

-- those of the deed are the last
pub needs_left-last : (table : ℕ) (kinds kinds' : Kinds) (accesses : List Access) (deed deed' : List Need) (need : Option Need) (whole : List Need)
    → needs_left table kinds accesses deed ≡ whole → kinds_in kinds ≡ [] → kinds_in kinds' ≡ [] → length accesses ≡ 0
    → MatchOption need ((deed ≡ []) × (deed' ≡ [])) (λ first. deed ≡ first ∷ deed')
    → MatchOption need ((whole ≡ []) × (needs_left table kinds' accesses deed' ≡ [])) (λ first. whole ≡ first ∷ needs_left table kinds' accesses deed')
needs_left-last table kinds kinds' accesses deed deed' need whole same none none' past found =
    given need whole (needs_left table kinds' accesses deed') deed deed' found
    (sym same ∙ only-deed table kinds accesses deed none past)
    (only-deed table kinds' accesses deed' none' past)
