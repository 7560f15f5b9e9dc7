use Rattle.std.proofs.Common.{◌≡◌, ◌≤◌, Some, arith, length, subst}
use Rattle.std.specs.Prelude.{slice_get}
use Rattle.model_base.specs.declared.limits.TheConstants.{MOST_PLACES}
use Rattle.sequencer.specs.Log.{Accepted}
use Rattle.sequencer.specs.Whole.{IsAccepted, IsWhole}
use Rattle.filling.proofs.Told.{got}
use Rattle.engine.proofs.in_order.run_kept.Goals as goal

pub run_place-requires : goal.run_place-requires
run_place-requires g c =
    let same = c.requires.same in
    let at = c.statement-statement.ensures in
    let here = subst (λ (log : Accepted). slice_get log.statements c.args.place ≡ Some c.statement-statement.result.now) same at.at in
    let most : length g.all.statements ≤ MOST_PLACES = subst (λ (log : Accepted). length log.statements ≤ MOST_PLACES) same c.len-len.ensures.most in
    record {
      few = omega (arith, c.requires.within, most);
      at = here;
      taken = got (IsAccepted g.all.names) g.all.statements c.args.place c.statement-statement.result.now (subst IsWhole same at.whole).taken here;
      known = c.requires.known;
      named = c.requires.named;
      stands = c.requires.stands;
    }
