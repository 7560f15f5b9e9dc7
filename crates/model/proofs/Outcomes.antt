-- The outcomes of a log, one after another, and each by itself.
use Rattle.std.proofs.Common.{◌≡◌, ℕ, zero, suc, ◌+◌, ◌≤◌, List, [], ◌∷◌, ◌++◌, length, take, drop, Some, refl, sym, ◌∙◌, ap, arith}
use Rattle.std.specs.Prelude.{slice_get}
use Rattle.std.specs.Option.{option_map}
use Rattle.std.proofs.lemmas.List.{append-nil, drop_all}
use Rattle.model_base.specs.declared.statement.Statement.{Statement}
use Rattle.model_base.specs.declared.outcome.Outcome.{Outcome}
use Rattle.model_base.specs.Outcomes.{World, at_place, empty_world, outcome, owners, world_after}

-- the outcomes of the statements, of which the first has this place and is before this world
abbrev pub outcomes_from : List ℕ → ℕ → World → List Statement → List Outcome
outcomes_from owners place world [] = []
outcomes_from owners place world (statement ∷ statements) =
    (at_place owners place world statement).0 ∷ outcomes_from owners (place + 1) (at_place owners place world statement).1 statements

-- each of them is what its statement results in after those before it
pub slice_get-outcomes_from : (owners : List ℕ) (first : ℕ) (world : World) (statements : List Statement) (place : ℕ)
    → slice_get (outcomes_from owners first world statements) place
    ≡ option_map (λ statement. (at_place owners (first + place) (world_after owners first world (take place statements)) statement).0) (slice_get statements place)
slice_get-outcomes_from owners first world [] place = refl
slice_get-outcomes_from owners first world (statement ∷ statements) zero =
    let same : first ≡ first + 0 = omega arith in
    ap (λ place. Some (at_place owners place world statement).0) same
slice_get-outcomes_from owners first world (statement ∷ statements) (suc place) =
    let next = (at_place owners first world statement).1 in
    let same : (first + 1) + place ≡ first + suc place = omega arith in
    slice_get-outcomes_from owners (first + 1) next statements place
    ∙ ap (λ at. option_map (λ s. (at_place owners at (world_after owners (first + 1) next (take place statements)) s).0) (slice_get statements place)) same

-- those of a whole log
pub slice_get-outcomes : (statements : List Statement) (place : ℕ)
    → slice_get (outcomes_from (owners statements) 0 empty_world statements) place ≡ outcome statements place
slice_get-outcomes statements place =
    let same : 0 + place ≡ place = omega arith in
    slice_get-outcomes_from (owners statements) 0 empty_world statements place
    ∙ ap (λ at. option_map (λ s. (at_place (owners statements) at (world_after (owners statements) 0 empty_world (take place statements)) s).0) (slice_get statements place)) same

-- once no statement is left, all are found
pub all_found : (owners : List ℕ) (count : ℕ) (world : World) (statements : List Statement) (found : List Outcome) → length statements ≤ count
    → found ++ outcomes_from owners count world (drop count statements) ≡ outcomes_from owners 0 empty_world statements
    → found ≡ outcomes_from owners 0 empty_world statements
all_found owners count world statements found done whole =
    let none : drop count statements ≡ [] = drop_all count statements done in
    sym (append-nil found) ∙ ap (λ left. found ++ outcomes_from owners count world left) (sym none) ∙ whole
