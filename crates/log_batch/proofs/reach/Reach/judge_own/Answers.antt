use Rattle.std.proofs.Common.{◌≡◌, ◌||◌, ◌&&◌, not, ℕ, Bool, true, false, Option, Some, None, inl, inr, is_none, refl, sym, ap, ◌∙◌}
use Rattle.std.specs.Prelude.{is_some}
use Rattle.std.proofs.lemmas.Bool.{and_from, or_left, or_right}
use Rattle.log_batch.specs.Supplied.{batch_of}
use Rattle.log_batch.specs.Holders.{has_holder}
use Rattle.log_batch.specs.Listing.{is_open, is_reached}
use Rattle.log_batch.proofs.Reaching.{reach-more, reached-by}
use Rattle.log_batch.proofs.reach.Reach.judge_own.Goals as goal

none-not_some : (end : Option ℕ) (none : Bool) → is_some end ≡ not none → none ≡ is_none end
none-not_some None true is = refl
none-not_some None false is = cc
none-not_some (Some place) true is = cc
none-not_some (Some place) false is = refl

pub returns-in_ok-_found : goal.returns-in_ok-_found
returns-in_ok-_found c =
    let b = batch_of c.args.batch.now in
    let old = c.args.self.now in
    let is_open_here : c.is_none-is_open.result ≡ is_open b c.args.slot = none-not_some c.end_at_first.result c.is_none-is_open.result c.is_none-is_open.ensures ∙ ap is_none c.end_at_first.ensures in
    let either : (c.names-is_revoked.result || c.has-is_lent.result) ≡ true =
    elim c.if-is_lent.either [
      | inl revoked ↦ or_left c.names-is_revoked.result _ revoked
      | inr lent ↦ or_right c.names-is_revoked.result _ lent.1
    ] in
    let test : (c.is_none-is_open.result && (c.names-is_revoked.result || c.has-is_lent.result)) ≡ true = and_from c.is_none-is_open.result _ c.if-is_open.true either in
    let reached : is_reached b old.slots.items c.args.slot ≡ true =
    sym (reached-by b c.args.slot c.grant-grant.result c.grant-grant.ensures old c.is_none-is_open.result c.names-is_revoked.result c.has-is_lent.result
    is_open_here c.requires.reach.lent c.requires.reach.revoked c.names-is_revoked.ensures (c.has-is_lent.ensures ∙ ap (has_holder old.lent) c.holder_of.ensures))
    ∙ test in
    reach-more b c.args.slot c.grant-grant.result c.grant-grant.ensures old c.take.new.self reached c.requires.reach
    c.in_ok-_found.ensures.slots c.in_ok-_found.ensures.lent c.in_ok-_found.ensures.revoked
