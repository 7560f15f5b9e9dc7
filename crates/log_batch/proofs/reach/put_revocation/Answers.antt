use Rattle.std.proofs.Common.{◌≡◌, ◌<◌, ◌+◌, ◌∷◌, [], ◌++◌, length, take, sym, ◌∙◌, ap, subst, arith}
use Rattle.std.proofs.lemmas.List.{take_all, take_more}
use Rattle.std.proofs.lemmas.Option.{get_or_from_slice_get}
use Rattle.std.specs.Prelude.{List}
use Rattle.model_base.specs.declared.deed.Grantee.{Grantee}
use Rattle.log_batch.specs.Supplied.{batch_of}
use Rattle.log_batch.specs.Reach.{AddsGrantees}
use Rattle.log_batch.proofs.Reaching.{grantees-more, grantees-none}
use Rattle.log_batch.proofs.reach.put_revocation.Goals as goal

pub loop-index-init : goal.loop-index-init
loop-index-init c = grantees-none (batch_of c.args.batch.now) c.args.revocation.now c.args.revoked.now c.args.due.now.keys

pub loop-index-preserved : goal.loop-index-preserved
loop-index-preserved c =
    let b = batch_of c.args.batch.now in
    let revocation = c.args.revocation.now in
    let grantees = revocation.grantees in
    let i = c.loop-index.index in
    let grantee = c.at-grantee.result in
    let here : i < length grantees = omega (arith, c.loop-index-test.true, c.len-index-end.ensures.length) in
    let more : take (i + 1) grantees ≡ take i grantees ++ grantee ∷ [] =
    take_more grantees i grantee here ∙ ap (λ (g : Grantee). take i grantees ++ g ∷ []) (get_or_from_slice_get grantees i grantee grantee c.at-grantee.ensures) in
    subst (λ (gs : List Grantee). AddsGrantees b revocation gs c.args.revoked.now c.put_grantee.new.revoked c.args.due.now.keys c.put_grantee.new.due.keys) (sym more)
    (grantees-more b revocation (take i grantees) grantee c.args.revoked.now c.loop-index.revoked c.put_grantee.new.revoked
    c.args.due.now.keys c.loop-index.due.keys c.put_grantee.new.due.keys c.loop-index.invariant c.in_ok-put_grantee.ensures)

pub returns : goal.returns
returns c =
    let b = batch_of c.args.batch.now in
    let grantees = c.args.revocation.now.grantees in
    subst (λ (gs : List Grantee). AddsGrantees b c.args.revocation.now gs c.args.revoked.now c.loop-index.revoked c.args.due.now.keys c.loop-index.due.keys)
    (take_all c.loop-index.index grantees (omega (arith, c.loop-index-test.false, c.len-index-end.ensures.length))) c.loop-index.invariant
