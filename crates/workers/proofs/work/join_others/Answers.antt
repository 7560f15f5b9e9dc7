use Rattle.std.proofs.Common.{◌≡◌, sym, subst, ◌∙◌}
use Rattle.std.specs.Prelude.{is_ok}
use Rattle.std.proofs.lemmas.Bool.{and_parts}
use Rattle.std.proofs.lemmas.List.Elements.{All-pop}
use Rattle.words.specs.Passes.{PassState, joined_pass}
use Rattle.workers.specs.Working.{GoesOn}
use Rattle.workers.proofs.Going.{joined_on, on_and_on}
use Rattle.workers.proofs.work.join_others.Goals as goal

pub threads-preserved : goal.threads-preserved
threads-preserved g c =
    let invariant = c.threads.invariant in
    let fewer = All-pop (λ thread. thread.promise.0.now ≡ c.args.shared.now) c.threads.threads.items c.pop.new.self.items c.pop.result c.pop.ensures.items
    invariant.helpers in
    record {
      on = subst (λ (after : PassState). GoesOn c.args.pass after) (sym c.join-known.ensures)
          (on_and_on c.args.pass c.threads.known (joined_pass c.threads.known c.join-other.result.0) invariant.on (joined_on c.threads.known c.join-other.result.0));
      done = λ done. invariant.done (and_parts (is_ok c.threads.worst) (is_ok c.join-other.result.1) (sym c.both-worst.ensures ∙ done)).0;
      helpers = fewer.0;
    }
