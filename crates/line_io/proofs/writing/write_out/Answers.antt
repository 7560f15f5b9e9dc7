-- Writing piece by piece: one more piece.
use Rattle.std.proofs.Common.{◌≡◌, ◌-◌, length, take, drop, ◌∙◌, arith}
use Rattle.std.proofs.lemmas.List.{length-drop, take_all}
use Rattle.line_io.proofs.Written.{appends_more}
use Rattle.line_io.proofs.writing.write_out.Goals as goal

pub loop-done-preserved : goal.loop-done-preserved
loop-done-preserved g c =
    let bytes = c.args.bytes.now in
    let done = c.loop-done.done in
    let piece : take (length bytes - done) (drop done bytes) ≡ drop done bytes = take_all (length bytes - done) (drop done bytes) (omega (arith, length-drop done bytes)) in
    let bound = rw piece at c.in-Ok.ensures.bound in
    let wrote = rw piece at c.in-Ok.ensures.bytes in
    record {
      within = omega (arith, bound, length-drop done bytes);
      written = appends_more _ _ _ bytes done c.in-Ok.n c.loop-done.invariant.written wrote;
      errors = c.in-Ok.ensures.ok.0 (omega arith) ∙ c.loop-done.invariant.errors;
      flushes = c.in-Ok.ensures.flushes ∙ c.loop-done.invariant.flushes;
    }
