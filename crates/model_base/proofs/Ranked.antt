-- A rank is that of one place, kind and position, and orders by the place first.
use Rattle.std.proofs.Common.{◌≡◌, ℕ, ◌<◌, ◌≤◌, ◌+◌, ◌*◌, ◌/◌, ◌%◌, ◌&&◌, nat_eq, nat_lt, false, ap, refl, sym, ◌∙◌, arith, eq-eqb}
use Rattle.std.specs.Prelude.{◌==◌}
use Rattle.std.proofs.lemmas.Bool.{eqb-true, le-ltb, lt-ltb, ltb-false, ltb-true, ne_eqb}
use Rattle.model_base.specs.declared.deed.RecordName.TheInside.{Inside}
use Rattle.model_base.specs.declared.deed.Grant.{Grant}
use Rattle.model_base.specs.Ranks.{kind_code, place_of_rank, position_code, position_of_rank, rank, rank_of}
use Rattle.model_base.proofs.Replay.{by_cases}
use Rattle.model_base.specs.RecordNames.{few_kinds, few_positions, kind-back, kind_of_code, kind_of_rank, position-back, position_of_code}

pub rank-place : (grant : Grant) → place_of_rank (rank grant) ≡ grant.place
unfolding rank_of
rank-place grant = let kinds = few_kinds grant.kind in let positions = few_positions grant.position in omega arith

pub rank-kind : (grant : Grant) → kind_of_rank (rank grant) ≡ grant.kind
unfolding rank_of
rank-kind grant =
    let kinds = few_kinds grant.kind in let positions = few_positions grant.position in
    let code : rank grant / 8 % 4 ≡ kind_code grant.kind = omega arith in
    ap kind_of_code code ∙ kind-back grant.kind

pub rank-position : (grant : Grant) → position_of_rank (rank grant) ≡ position_code grant.position
unfolding rank_of
rank-position grant = let kinds = few_kinds grant.kind in let positions = few_positions grant.position in omega arith

pub rank-places : (grant other : Grant) → rank grant < rank other → grant.place ≤ other.place
unfolding rank_of
rank-places grant other less =
    let kinds = few_kinds grant.kind in let positions = few_positions grant.position in
    let kinds' = few_kinds other.kind in let positions' = few_positions other.position in
    omega arith

pub rank-one : (grant other : Grant) → rank grant ≡ rank other
    → (grant.place ≡ other.place) × (grant.kind ≡ other.kind) × (grant.position ≡ other.position)
unfolding rank_of
rank-one grant other same =
    let kinds = few_kinds grant.kind in let positions = few_positions grant.position in
    let kinds' = few_kinds other.kind in let positions' = few_positions other.position in
    let place : grant.place ≡ other.place = omega arith in
    let kind : kind_code grant.kind ≡ kind_code other.kind = omega arith in
    let position : position_code grant.position ≡ position_code other.position = omega arith in (
      place,
      sym (kind-back grant.kind) ∙ (ap kind_of_code kind ∙ kind-back other.kind),
      sym (position-back grant.position) ∙ (ap position_of_code position ∙ position-back other.position),
    )

-- two names are the same exactly if their parts are
pub same_parts : (a b : Inside)
    → (((a.place == b.place) && (kind_code a.kind == kind_code b.kind)) && (position_code a.position == position_code b.position))
    ≡ (rank_of a.place a.kind a.position == rank_of b.place b.kind b.position)
unfolding rank_of
same_parts a b =
    let kinds = few_kinds a.kind in let positions = few_positions a.position in
    let kinds' = few_kinds b.kind in let positions' = few_positions b.position in
    by_cases (rank_of a.place a.kind a.position == rank_of b.place b.kind b.position)
    (λ same.
    let at : rank_of a.place a.kind a.position ≡ rank_of b.place b.kind b.position = eqb-true (rank_of a.place a.kind a.position) (rank_of b.place b.kind b.position) same in
    rw (eq-eqb a.place b.place (omega arith), eq-eqb (kind_code a.kind) (kind_code b.kind) (omega arith), eq-eqb (position_code a.position) (position_code b.position) (omega arith), same) refl)
    (λ other. apart kinds positions kinds' positions' other)
  where
    apart : kind_code a.kind < 4 → position_code a.position < 8 → kind_code b.kind < 4 → position_code b.position < 8
        → (rank_of a.place a.kind a.position == rank_of b.place b.kind b.position) ≡ false
        → (((a.place == b.place) && (kind_code a.kind == kind_code b.kind)) && (position_code a.position == position_code b.position))
        ≡ (rank_of a.place a.kind a.position == rank_of b.place b.kind b.position)
    apart kinds positions kinds' positions' other =
        by_cases (a.place == b.place)
        (λ p. by_cases (kind_code a.kind == kind_code b.kind)
        (λ k. by_cases (position_code a.position == position_code b.position)
        (λ q.
        let place : a.place ≡ b.place = eqb-true a.place b.place p in
        let kind : kind_code a.kind ≡ kind_code b.kind = eqb-true (kind_code a.kind) (kind_code b.kind) k in
        let position : position_code a.position ≡ position_code b.position = eqb-true (position_code a.position) (position_code b.position) q in
        let same : rank_of a.place a.kind a.position ≡ rank_of b.place b.kind b.position = omega arith in
        rw (p, k, q) (sym (eq-eqb (rank_of a.place a.kind a.position) (rank_of b.place b.kind b.position) same)))
        (λ q. rw (p, k, q, other) refl))
        (λ k. rw (p, k, other) refl))
        (λ p. rw (p, other) refl)

-- the number of a record among those of its place
pub number-at : (name : Inside) (ranked : ℕ) → rank_of name.place name.kind name.position ≡ ranked
    → kind_code name.kind * 8 + position_code name.position ≡ ranked % 32
unfolding rank_of
number-at name ranked is = let kinds = few_kinds name.kind in let positions = few_positions name.position in omega arith

pub place-at : (name : Inside) (ranked : ℕ) → rank_of name.place name.kind name.position ≡ ranked → place_of_rank ranked ≡ name.place
unfolding rank_of
place-at name ranked is = let kinds = few_kinds name.kind in let positions = few_positions name.position in omega arith

pub kind-at : (name : Inside) (ranked : ℕ) → rank_of name.place name.kind name.position ≡ ranked → kind_of_rank ranked ≡ name.kind
unfolding rank_of
kind-at name ranked is =
    let kinds = few_kinds name.kind in let positions = few_positions name.position in
    let code : ranked / 8 % 4 ≡ kind_code name.kind = omega arith in
    ap kind_of_code code ∙ kind-back name.kind

pub position-at : (name : Inside) (ranked : ℕ) → rank_of name.place name.kind name.position ≡ ranked
    → position_of_rank ranked ≡ position_code name.position
unfolding rank_of
position-at name ranked is = let kinds = few_kinds name.kind in let positions = few_positions name.position in omega arith

-- records are in the order of their places, and those of one place in the order of their numbers there
module _ (one other : Inside) (first second : ℕ) (is : rank_of one.place one.kind one.position ≡ first)
    (is' : rank_of other.place other.kind other.position ≡ second) where
  pub lower-place : one.place < other.place → nat_lt one.place other.place ≡ nat_lt first second
  lower-place less =
      let at = place-at one first is in
      let at' = place-at other second is' in
      lt-ltb one.place other.place less ∙ sym (lt-ltb first second (omega arith))

  pub same-place : (m n : ℕ) → one.place ≡ other.place → m ≡ first % 32 → n ≡ second % 32 → nat_lt m n ≡ nat_lt first second
  same-place m n same here here' =
      let at = place-at one first is in
      let at' = place-at other second is' in
      by_cases (nat_lt m n)
      (λ yes. let less = ltb-true m n yes in yes ∙ sym (lt-ltb first second (omega arith)))
      (λ no. let more = ltb-false m n no in no ∙ sym (le-ltb first second (omega arith)))

  pub higher-place : other.place ≤ one.place → (one.place ≡ other.place → ⊥) → nat_eq one.place other.place ≡ nat_lt first second
  higher-place more differ =
      let at = place-at one first is in
      let at' = place-at other second is' in
      ne_eqb one.place other.place differ ∙ sym (le-ltb first second (omega arith))
