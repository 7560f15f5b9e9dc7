use Rattle.std.proofs.Common.{◌≡◌, ◌-◌, ◌^◌, ℕ, min, add-one, ap, ◌∙◌, subst}
use Rattle.words.specs.Passes.{PassState, counted}
use Rattle.words.proofs.table.Holding.count_body.Goals as goal

pub returns-clause-counted : goal.returns-clause-counted
returns-clause-counted c =
    let seat = c.self.inside.seat in
    let passed : PassState = record { table = seat.table_id; number = seat.id; view = seat.me.0; bodies = c.saturating_add-self-inside.result } in
    let one = c.saturating_add-self-inside.ensures ∙ ap (λ (n : ℕ). min n (2 ^ 64 - 1)) (add-one c.self.inside.bodies) in
    subst (λ (p : PassState). passed ≡ counted p) c.self.view_is
    (λ t. record { table = seat.table_id; number = seat.id; view = seat.me.0; bodies = one t })
