use Rattle.std.proofs.Common.{add-one, arith, sym, ap, ◌∙◌}
use Rattle.std.specs.Prelude.{is_some}
use Rattle.std.proofs.lemmas.Bool.{true≢false}
use Rattle.log_batch.specs.Earlier.{earlier_count}
use Rattle.log_batch.specs.Supplied.{batch_of}
use Rattle.log_batch.specs.Listing.{is_reached}
use Rattle.log_batch.proofs.Reaching.{IsFirst, first-due, none-due, skip}
use Rattle.log_batch.proofs.reach.Reach.take_all_earlier.Goals as goal
use Rattle.grants_base.proofs.Walks.{nothing}
use Rattle.model_base.proofs.Replay.{by_cases}

pub overflow_add-low : goal.overflow_add-low
overflow_add-low c =
    let b = batch_of c.args.batch.now in
    let first : IsFirst b c.loop-slot.low c.loop-slot.self.slots.items c.pop_first.new.self.keys c.in-Some.slot
    = first-due b _ _ _ _ _ c.loop-slot.invariant.due c.in-Some.ensures.removal c.in-Some.ensures.all_above in
    omega (arith, first.within, c.earlier_count-slots.ensures.value, c.earlier_count-slots.type_inv)

pub take_earlier-requires-clause-within : goal.take_earlier-requires-clause-within
take_earlier-requires-clause-within c =
    let b = batch_of c.args.batch.now in
    let first : IsFirst b c.loop-slot.low c.loop-slot.self.slots.items c.pop_first.new.self.keys c.in-Some.slot
    = first-due b _ _ _ _ _ c.loop-slot.invariant.due c.in-Some.ensures.removal c.in-Some.ensures.all_above in
    first.within

pub take_earlier-requires-clause-reach : goal.take_earlier-requires-clause-reach
take_earlier-requires-clause-reach c =
    let b = batch_of c.args.batch.now in
    let reach = c.loop-slot.invariant.reach in
    let first : IsFirst b c.loop-slot.low c.loop-slot.self.slots.items c.pop_first.new.self.keys c.in-Some.slot
    = first-due b _ _ _ _ _ c.loop-slot.invariant.due c.in-Some.ensures.removal c.in-Some.ensures.all_above in
    record {
      slots = skip b c.loop-slot.self.slots.items c.loop-slot.low c.in-Some.slot first.above reach.slots first.free;
      lent = reach.lent;
      revoked = reach.revoked;
    }

pub take_earlier-requires-clause-due : goal.take_earlier-requires-clause-due
take_earlier-requires-clause-due c =
    let b = batch_of c.args.batch.now in
    let first : IsFirst b c.loop-slot.low c.loop-slot.self.slots.items c.pop_first.new.self.keys c.in-Some.slot
    = first-due b _ _ _ _ _ c.loop-slot.invariant.due c.in-Some.ensures.removal c.in-Some.ensures.all_above in
    rw (add-one c.in-Some.slot) first.after

pub returns : goal.returns
returns c =
    let b = batch_of c.args.batch.now in
    let listed = c.loop-slot.self.slots.items in
    let reach = c.loop-slot.invariant.reach in
    let due = c.loop-slot.due.keys in
    let none = none-due due (λ more. true≢false (sym (c.pop_first.ensures.variant.1 more) ∙ ap is_some (nothing c.pop_first.result c.in_default.not-Some))) in
    record {
      slots =
          skip b listed c.loop-slot.low (earlier_count b) c.loop-slot.invariant.low reach.slots
          (λ j above below.
          by_cases (is_reached b listed j)
          (λ is. absurd (true≢false (sym (c.loop-slot.invariant.due.all j above below is) ∙ none j)))
          (λ out. out));
      lent = reach.lent;
      revoked = reach.revoked;
    }
