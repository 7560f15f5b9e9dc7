use Rattle.std.proofs.Common.{◌≡◌, ℕ, zero, suc, ◌+◌, ◌-◌, ◌++◌, ◌<◌, ◌≤◌, List, [], map, length, ap, sym, ◌∙◌, refl, arith}
use Rattle.std.specs.List.{flat_map, range_with_len}
use Rattle.std.specs.Option.{option_map_or}
use Rattle.model_base.specs.declared.statement.Access.{Access}
use Rattle.model_base.specs.declared.statement.Statement.{Statement}
use Rattle.model_base.specs.Growing.{NeedsOwnTables}
use Rattle.model_base.specs.Outcomes.{World}
use Rattle.model_base.specs.Versions.{writes_of}
use Rattle.model_base.proofs.Growing.{get-front, world-stands}
use Rattle.chains.specs.Store.{versions_at}
use Rattle.chains.proofs.laws.right_stores_stay_right.Goals as goal

-- the versions of the same accesses and the same rows
at-stands : (log more : List Statement) (place : ℕ) → NeedsOwnTables log → place < length log
    → versions_at (log ++ more) place ≡ versions_at log place
at-stands log more place own low =
    let world = world-stands log more (place + 1) own (omega arith) in
    let found = get-front log more place low in
    λ i. map (λ (access : Access). record { place = place; key = access.key; row = (world i).rows access.key.table access.key.row })
    (option_map_or writes_of (found i) [])

range-stands : (log more : List Statement) (first count end : ℕ) → NeedsOwnTables log → end ≤ length log → (0 < count → first + count ≤ end)
    → flat_map (versions_at (log ++ more)) (range_with_len first count) ≡ flat_map (versions_at log) (range_with_len first count)
range-stands log more first zero end own low within = refl
range-stands log more first (suc count) end own low within =
    let until : first + suc count ≤ end = within (omega arith) in
    let here = at-stands log more first own (omega arith) in
    let rest = range-stands log more (first + 1) count end own low (λ some. omega arith) in
    λ i. here i ++ rest i

pub returns : goal.returns
returns c = record {
  at = at-stands;
  between = λ log more first end own low. range-stands log more first (end - first) end own low (λ some. omega arith);
  right = λ log more store own low is place key above below.
      is place key above below
      ∙ ap (λ (world : World). world.rows key.table key.row) (sym (world-stands log more place own (omega arith)));
}
