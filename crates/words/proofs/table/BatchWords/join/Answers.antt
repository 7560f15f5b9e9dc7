use Rattle.std.proofs.Common.{◌≡◌, ap, ◌∙◌, subst}
use Rattle.words.specs.Passes.{PassState, joined_pass}
use Rattle.words.proofs.table.BatchWords.join.Goals as goal

pub returns : goal.returns
returns g c =
    let same = c.take_in-seat.ensures.same in
    let view = c.take_in-seat.ensures.view in
    let seat = c.pass.inside.seat in
    let first : PassState = record { table = seat.table_id; number = seat.id; view = seat.me.0; bodies = c.pass.inside.bodies } in
    let passed : PassState = record { table = c.take_in-seat.result.table_id; number = c.take_in-seat.result.id; view = c.take_in-seat.result.me.0; bodies = c.saturating_add.result } in
    subst (λ (p : PassState). passed ≡ joined_pass p c.args.other) c.pass.view_is
    (subst (λ (p : PassState). passed ≡ joined_pass first p) c.other.view_is
    (λ t. record { table = same.0 t; number = same.1 t; view = (view t).0; bodies = c.saturating_add.ensures t }))

pub take_in-seat-requires : goal.take_in-seat-requires
take_in-seat-requires g c = record {
  same_table = (ap (λ (p : PassState). p.table) c.pass.view_is ∙ c.requires.first, ap (λ (p : PassState). p.table) c.other.view_is ∙ c.requires.second);
  bare = c.other.invariant.bare;
  alive = (c.pass.invariant.alive, c.other.invariant.alive);
  pass = (c.pass.invariant.pass, c.other.invariant.pass);
}
