use Rattle.std.proofs.Common.{refl, arith, ap, ◌∙◌, inl, inr, length}
use Rattle.std.proofs.lemmas.Option.{slice_get_read}
use Rattle.workers.proofs.Dealing.{set_or_old}
use Rattle.workers.proofs.placing.give.Goals as goal

pub returns-clause-given : goal.returns-clause-given
returns-clause-given g c = λ other hand is.
    elim (set_or_old c.args.hands.now.items c.args.worker other c.push.new.self hand is) [
      | inl here ↦ (
        c.index_mut-hand.result.now,
        rw here.0 (slice_get_read c.args.hands.now.items (length c.args.hands.now.items) c.args.worker c.index_mut-hand.result.now refl (omega arith) c.index_mut-hand.ensures.value),
        inl (here.0, ap (λ (mine : _). mine.items) here.1 ∙ c.in_ok-push.ensures.items),
      )
      | inr there ↦ (hand, there.1, inr (there.0, refl))
    ]
