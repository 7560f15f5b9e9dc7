use Rattle.std.proofs.Common.{◌∙◌, arith, rules}
use Rattle.line_io.specs.Ahead.{ahead, found_line}
use Rattle.line_io.proofs.Pieces.{read_none}
use Rattle.log_text.proofs.Total.{total_in}
use Rattle.batched_text.proofs.Faults.{reads_told, writes_never}
use Rattle.batched_text.proofs.ForetoldLines.{begins_dealt}
use Rattle.batched_text.proofs.ReadSofar.{gathers_end, read_begun}
use Rattle.batched_text.proofs.Sofar.{batched_step, begun_batched}
use Rattle.batched_text.proofs.running.report_line.Goals as goal

pub returns-in_err-next_line-clause-turn : goal.returns-in_err-next_line-clause-turn
returns-in_err-next_line-clause-turn g c = λ held. record {
  taken = search rules;
  room = search rules;
  ended = search rules;
  begun = λ input out so. begun_batched total_in input _ out _ _ _ _ _ _ so;
  begun_read = λ input out so. read_begun _ _ _ _ _ _ _ total_in input _ _ (ahead c.args.lines.now) so c.in_err-next_line.ensures.left;
}

pub returns-then-not-branch-clause-turn : goal.returns-then-not-branch-clause-turn
returns-then-not-branch-clause-turn g c = λ held. record {
  taken = search rules;
  room = λ _. c.requires.ready.room;
  ended = λ _ input out so. gathers_end input _ _ out _ (ahead c.args.lines.now) c.args.run.now so c.in_ok-next_line.ensures.left
      (rw c.if-not-branch.true at c.in_ok-next_line.ensures.line);
  begun = λ input out so. begun_batched total_in input _ out _ _ _ _ _ _ so;
  begun_read = λ input out so. read_begun _ _ _ _ _ _ _ total_in input _ _ (ahead c.args.lines.now) so c.in_ok-next_line.ensures.left;
}

pub returns-in_err-deal-clause-turn : goal.returns-in_err-deal-clause-turn
returns-in_err-deal-clause-turn g c = λ held. record {
  taken = search rules;
  room = search rules;
  ended = search rules;
  begun = λ input out so. rw c.in_err-deal.ensures.err.pending (begun_batched total_in input _ out _ _ _ _ _ _ so);
  begun_read = λ input out so. rw c.in_err-deal.ensures.err.pending
      (read_begun _ _ _ _ _ _ _ total_in input _ _ (ahead c.args.lines.now) so c.in_ok-next_line.ensures.left);
}

pub returns-clause-turn : goal.returns-clause-turn
returns-clause-turn g c = λ held.
    let given = rw c.if-not-branch.false at c.in_ok-next_line.ensures.given in
    let dealt = rw c.line.ensures at c.in_ok-deal.ensures.dealt in
    let room = c.in_ok-deal.ensures.room.filling in
    let before = c.requires.ready.room.filling in
    record {
      taken = λ _. record {
        ready = record {
          room = c.in_ok-deal.ensures.room;
          bounded = λ _. given.1;
          numbered = omega (arith, given.0, dealt.1.1.number, c.requires.ready.numbered);
        };
        begun = omega (arith, dealt.1.1.number);
        forward = given.0;
        most = given.1;
        batched = λ input out so. batched_step input _ _ out _ (found_line c.next_line.new.self) dealt.0 c.args.run.now c.deal.new.self so
            (rw c.if-not-branch.false at c.in_ok-next_line.ensures.line) dealt.1.0 dealt.1.1 (omega (arith, before.steady.counted))
            (record { whole = room.whole; within = omega (arith, room.steady.counted) });
      };
      room = search rules;
      ended = search rules;
      begun = λ input out so. begun_batched total_in input _ out _ _ _ _ _ _
          (batched_step input _ _ out _ (found_line c.next_line.new.self) dealt.0 c.args.run.now c.deal.new.self so
          (rw c.if-not-branch.false at c.in_ok-next_line.ensures.line) dealt.1.0 dealt.1.1 (omega (arith, before.steady.counted))
          (record { whole = room.whole; within = omega (arith, room.steady.counted) }));
      begun_read = λ input out so. read_begun _ _ _ _ _ _ _ total_in input _ _ (ahead c.next_line.new.self)
          (batched_step input _ _ out _ (found_line c.next_line.new.self) dealt.0 c.args.run.now c.deal.new.self so
          (rw c.if-not-branch.false at c.in_ok-next_line.ensures.line) dealt.1.0 dealt.1.1 (omega (arith, before.steady.counted))
          (record { whole = room.whole; within = omega (arith, room.steady.counted) })) (read_none _);
    }

pub returns-clause-begins : goal.returns-clause-begins
returns-clause-begins g c =
    let dealt = c.in_ok-deal.ensures.dealt in
    begins_dealt dealt.0 c.args.run.now c.deal.new.self dealt.1.1

pub returns-in_err-deal-clause-reads : goal.returns-in_err-deal-clause-reads
returns-in_err-deal-clause-reads g c =
    c.in_ok-next_line.ensures.other (λ is. cc is)
    ∙ reads_told _ c.in_err-deal.field-0.0 c.from_residual-in_err-deal.result c.args.reader.now.errors c.from_residual-in_err-deal.ensures.1 c.in_err-deal.ensures.err.stops

pub returns-in_err-deal-clause-err : goal.returns-in_err-deal-clause-err
returns-in_err-deal-clause-err g c =
    writes_never c.in_err-deal.field-0.0 c.from_residual-in_err-deal.result c.from_residual-in_err-deal.ensures.1 c.in_err-deal.ensures.err.stops
