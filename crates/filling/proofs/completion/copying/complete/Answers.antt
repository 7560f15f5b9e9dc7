use Rattle.std.proofs.Common.{arith}
use Rattle.std.proofs.lemmas.Result.{on_ok_weaker}
use Rattle.log_batch.specs.Supplied.{batch_of}
use Rattle.filling.specs.Ends.{KeepsNoted}
use Rattle.filling.specs.BatchProgress.{NotesEndsOfDone}
use Rattle.filling.proofs.EndsTelling.{tells-kept}
use Rattle.filling.proofs.completion.copying.complete.Goals as goal

pub returns-then-claim-ne-DONE-clause-done : goal.returns-then-claim-ne-DONE-clause-done
returns-then-claim-ne-DONE-clause-done c =
    let b = batch_of c.args.completion.now.batch.now in
    let old = c.args.progress.now.ends in
    let new = c.judge.new.progress.ends in
    on_ok_weaker {P = KeepsNoted old new} {Q = NotesEndsOfDone b c.args.completion.now.closed.now new} c.judge.result
    (λ keeps index within done. tells-kept b index old new keeps (c.requires.done index within done)) c.judge.ensures.kept

pub copy_words-requires-clause-done : goal.copy_words-requires-clause-done
copy_words-requires-clause-done c = omega arith
