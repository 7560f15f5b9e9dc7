-- The deeds of a statement that are left, drawn down from the front.
use Rattle.std.proofs.Common.{◌≡◌, ℕ, zero, suc, ◌+◌, ◌≤◌, Bool, Some, List, [], ◌∷◌, ◌++◌, drop, length, ap, ◌∙◌, add-one, arith}
use Rattle.std.specs.Prelude.{slice_get}
use Rattle.std.proofs.lemmas.List.{drop_all}
use Rattle.model_base.specs.declared.deed.Kind.{Kind}
use Rattle.model_base.specs.declared.deed.Position.{Position}
use Rattle.model_base.specs.declared.deed.Grantee.{Grantee}
use Rattle.model_base.specs.declared.deed.Grant.{Grant}
use Rattle.model_base.specs.Outcomes.{grant_to, grants_at, grants_of_kind, positions}

module _ (place user table : ℕ) (option : Bool) where
  -- there is no grant where there is no grantee
  grants-few : (kind : Kind) (order : List Position) (grantees : List Grantee)
      → length (grants_of_kind place user kind table option order grantees) ≤ length grantees
  grants-few kind [] grantees = omega arith
  grants-few kind (position ∷ later) [] = omega arith
  grants-few kind (position ∷ later) (grantee ∷ grantees) = let rest = grants-few kind later grantees in omega arith

  pub grants-past : (kind : Kind) (order : List Position) (grantees : List Grantee) (index : ℕ) → length grantees ≤ index
      → drop index (grants_of_kind place user kind table option order grantees) ≡ []
  grants-past kind order grantees index past =
      let few = grants-few kind order grantees in
      drop_all index (grants_of_kind place user kind table option order grantees) (omega arith)

  -- the grant to the grantee of an index has the position of this index
  pub grants-next : (kind : Kind) (order : List Position) (grantees : List Grantee) (index : ℕ) (position : Position) (grantee : Grantee)
      → slice_get order index ≡ Some position → slice_get grantees index ≡ Some grantee
      → drop index (grants_of_kind place user kind table option order grantees)
      ≡ grant_to place user kind table option position grantee ∷ drop (suc index) (grants_of_kind place user kind table option order grantees)
  grants-next kind [] grantees index position grantee at to = absurd (cc)
  grants-next kind (one ∷ later) [] index position grantee at to = absurd (cc)
  grants-next kind (one ∷ later) (first ∷ grantees) zero position grantee at to =
      let same : one ≡ position = cc in
      let same' : first ≡ grantee = cc in
      ap (λ (p : Position). grant_to place user kind table option p first ∷ grants_of_kind place user kind table option later grantees) same
      ∙ ap (λ (g : Grantee). grant_to place user kind table option position g ∷ grants_of_kind place user kind table option later grantees) same'
  grants-next kind (one ∷ later) (first ∷ grantees) (suc index) position grantee at to = grants-next kind later grantees index position grantee at to

  -- so it is the first that is left
  pub left-next : (kind : Kind) (grantees : List Grantee) (kinds : List Kind) (index : ℕ) (position : Position) (grantee : Grantee)
      → slice_get positions index ≡ Some position → slice_get grantees index ≡ Some grantee
      → drop index (grants_of_kind place user kind table option positions grantees) ++ grants_at place user table option grantees kinds
      ≡ grant_to place user kind table option position grantee
      ∷ (drop (index + 1) (grants_of_kind place user kind table option positions grantees) ++ grants_at place user table option grantees kinds)
  left-next kind grantees kinds index position grantee at to =
      rw (add-one index)
      (ap (λ (gs : List Grant). gs ++ grants_at place user table option grantees kinds) (grants-next kind positions grantees index position grantee at to))

  -- after the last grantee come the grants of the next kind
  pub left-kind : (kind next : Kind) (grantees : List Grantee) (kinds later : List Kind) (index : ℕ) → length grantees ≤ index → kinds ≡ next ∷ later
      → drop index (grants_of_kind place user kind table option positions grantees) ++ grants_at place user table option grantees kinds
      ≡ drop 0 (grants_of_kind place user next table option positions grantees) ++ grants_at place user table option grantees later
  left-kind kind next grantees kinds later index past is =
      ap (λ (gs : List Grant). gs ++ grants_at place user table option grantees kinds) (grants-past kind positions grantees index past)
      ∙ ap (grants_at place user table option grantees) is
