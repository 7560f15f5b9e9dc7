use Rattle.std.proofs.Common.{rules, sym, ap, ◌∙◌, subst, inl, inr}
use Rattle.log_batch.specs.Supplied.{batch_of}
use Rattle.filling.specs.Keys.{Key}
use Rattle.words.specs.declared.knowledge.Knowledge.{Knowledge}
use Rattle.words.specs.Passes.{PassState, Words}
use Rattle.words.specs.Views.{In, with_known, with_sighting}
use Rattle.filling_base.specs.References.{IsRevocation}
use Rattle.filling_base.specs.Tries.{IsKnownDone}
use Rattle.filling_base.proofs.Seeing.{untold-free, untold-held}
use Rattle.filling.specs.Outcomes.{outcome_in}
use Rattle.filling.proofs.Lists.{in-back}
use Rattle.filling.proofs.Telling.{found-held, found-learns, looked}
use Rattle.filling.proofs.outcomes.outcome.Goals as goal

pub outcome_known-requires : goal.outcome_known-requires
outcome_known-requires c = record {
  done = record {
    same_table = search rules;
    key = search rules;
    within = search rules;
    known = subst (λ (v : Knowledge). In c.args.index v.known) (sym c.in-Done.ensures.tells) (in-back c.args.index c.begin-holding.result.view.known);
  };
}

pub returns-in-Ok-clause-tells : goal.returns-in-Ok-clause-tells
returns-in-Ok-clause-tells c =
    let pass = c.args.pass in
    let index = c.args.index in
    let begun = c.begin-holding.result in
    let view = c.in-Done.ensures.tells ∙ ap (λ (p : PassState). with_known p.view index) c.begin-holding.ensures.same in
    let after = looked pass begun c.look.new.pass c.end.result (with_known pass.view index) c.begin-holding.ensures.same c.look.ensures.same view (c.end.ensures ∙ c.outcome_known.ensures.same) in
    let learns = found-learns pass c.end.result index after in
    (learns.0, learns.1, ap (λ (k : Key). outcome_in k.batch index) (sym c.key.ensures) ∙ c.in-Ok.ensures.value)

pub returns-in-Err-clause-tells : goal.returns-in-Err-clause-tells
returns-in-Err-clause-tells c =
    let pass = c.args.pass in
    let index = c.args.index in
    let begun = c.begin-holding.result in
    let view = c.in-Done.ensures.tells ∙ ap (λ (p : PassState). with_known p.view index) c.begin-holding.ensures.same in
    let after = looked pass begun c.look.new.pass c.end-in-Err.result (with_known pass.view index) c.begin-holding.ensures.same c.look.ensures.same view (c.end-in-Err.ensures ∙ c.outcome_known.ensures.same) in
    let learns = found-learns pass c.end-in-Err.result index after in
    (learns.0, learns.1, subst (λ (k : Key). IsRevocation (batch_of k.batch) index) c.key.ensures c.in-Err.ensures.revokes)

pub returns-in-Free-clause-tells : goal.returns-in-Free-clause-tells
returns-in-Free-clause-tells c =
    let pass = c.args.pass in
    let index = c.args.index in
    let begun = c.begin-holding.result in
    let view = c.in-Free.ensures.tells ∙ ap (λ (p : PassState). p.view) c.begin-holding.ensures.same in
    let after = looked pass begun c.look.new.pass c.end-in-Free.result pass.view c.begin-holding.ensures.same c.look.ensures.same view c.end-in-Free.ensures in
    let untold = untold-free (batch_of c.words.result.now.key.batch) begun.view index c.look.result c.in-Free.is c.look.ensures.known c.look.ensures.settled in
    let told = subst (λ (w : Words Key). ¬ (IsKnownDone (batch_of w.key.batch) begun.view index)) c.words.ensures untold in
    (inl (ap (λ (p : PassState). p.view) after), subst (λ (p : PassState). ¬ (IsKnownDone (batch_of c.args.batch.now.key.batch) p.view index)) c.begin-holding.ensures.same told)

pub returns-in-Held-clause-tells : goal.returns-in-Held-clause-tells
returns-in-Held-clause-tells c =
    let pass = c.args.pass in
    let index = c.args.index in
    let begun = c.begin-holding.result in
    let held = found-held begun.view c.look.new.pass.view index c.begin-holding.ensures.idle c.in-Held.ensures.tells in
    let view = held ∙ ap (λ (p : PassState). with_sighting p.view index) c.begin-holding.ensures.same in
    let after = looked pass begun c.look.new.pass c.end-in-Held.result (with_sighting pass.view index) c.begin-holding.ensures.same c.look.ensures.same view c.end-in-Held.ensures in
    let untold = untold-held (batch_of c.words.result.now.key.batch) begun.view index c.look.result c.in-Held.is c.look.ensures.known c.look.ensures.settled in
    let told = subst (λ (w : Words Key). ¬ (IsKnownDone (batch_of w.key.batch) begun.view index)) c.words.ensures untold in
    (inr (ap (λ (p : PassState). p.view) after), subst (λ (p : PassState). ¬ (IsKnownDone (batch_of c.args.batch.now.key.batch) p.view index)) c.begin-holding.ensures.same told)
