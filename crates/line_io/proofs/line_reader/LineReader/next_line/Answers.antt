-- Finding the next line: it lies whole among the bytes ahead, and nothing is read where it does.
use Rattle.std.proofs.Common.{◌≡◌, ℕ, ◌<◌, ◌≤◌, ◌+◌, ◌-◌, length, drop, min, ap, sym, ◌∙◌, length-drop, arith}
use Rattle.std.proofs.lemmas.List.{length-take}
use Rattle.line_io.specs.Ahead.{ahead}
use Rattle.line_io.proofs.Pieces.{drop_range, line_whole, took_kept, had_some, none_ahead, read_more, some_ahead}
use Rattle.line_io.proofs.line_reader.LineReader.next_line.Goals as goal

less_ahead : (given all old new fewer n : ℕ) → new + all ≡ given + old → fewer ≡ old - (n + 1) → n < old → given + fewer < new + all
less_ahead given all old new fewer n so less low = omega arith

still_less : (given all between ahead now next : ℕ) → between + all ≡ given + ahead → between + next < now + ahead → given + next < now + all
still_less given all between ahead now next so less = omega arith

pub returns-in-Some-clause-line : goal.returns-in-Some-clause-line
returns-in-Some-clause-line g c =
    let lines = c.look_ahead.new.self in
    let some = rw c.if-not-branch.false at c.in_ok-look_ahead.ensures.some in
    let least : c.min.result ≡ min c.in-Some.n 4097 = omega arith in (
      rw least (took_kept _ _ _ _ _ c.in_ok-look_ahead.ensures.bytes (line_whole _ lines.buffer.items lines.start lines.end c.in-Some.n (omega arith) (omega arith) c.in-Some.ensures)),
      had_some _ _ (ahead lines) c.in_ok-look_ahead.ensures.bytes some,
    )

pub returns-in-Some-clause-unread : goal.returns-in-Some-clause-unread
returns-in-Some-clause-unread g c = λ some. (c.look_ahead.ensures.unread (some_ahead _ some)).0

pub returns-clause-unread : goal.returns-clause-unread
returns-clause-unread g c = λ some.
    absurd (none_ahead _ _ some (c.look_ahead.ensures.unread (some_ahead _ some)).1 c.in_default.ensures)

pub returns-in-Some-clause-given : goal.returns-in-Some-clause-given
returns-in-Some-clause-given g c =
    let lines = c.look_ahead.new.self in
    let n : ℕ = c.in-Some.n in
    let some = rw c.if-not-branch.false at c.in_ok-look_ahead.ensures.some in
    let within : lines.start + (n + 1) ≤ lines.end = omega (arith, c.in-Some.ensures.0.high, length-take (lines.end - lines.start) (drop lines.start lines.buffer.items)) in (
      less_ahead c.args.reader.now.given (length (ahead c.args.self.now)) (length (ahead lines)) c.look_ahead.new.reader.given _ n c.in_ok-look_ahead.ensures.given
          (ap length (sym (drop_range lines.buffer.items lines.start lines.end (n + 1) within)) ∙ length-drop (n + 1) (ahead lines)) c.in-Some.ensures.0.high,
      c.look_ahead.ensures.bound some,
    )

pub returns-in-Some-clause-bound : goal.returns-in-Some-clause-bound
returns-in-Some-clause-bound g c = λ _. c.look_ahead.ensures.bound (rw c.if-not-branch.false at c.in_ok-look_ahead.ensures.some)

pub returns-in_err-look_ahead-clause-read : goal.returns-in_err-look_ahead-clause-read
returns-in_err-look_ahead-clause-read g c = λ _. c.in_err-look_ahead.ensures.err.1

pub returns-in_err-look_ahead-clause-bound : goal.returns-in_err-look_ahead-clause-bound
returns-in_err-look_ahead-clause-bound g c = c.look_ahead.ensures.bound

pub returns-in_err-look_ahead-clause-unread : goal.returns-in_err-look_ahead-clause-unread
returns-in_err-look_ahead-clause-unread g c = λ some. (c.look_ahead.ensures.unread (some_ahead _ some)).0

pub returns-then-not-branch-clause-given : goal.returns-then-not-branch-clause-given
returns-then-not-branch-clause-given g c = let end = rw c.if-not-branch.true at c.in_ok-look_ahead.ensures.some in end.2

pub returns-then-not-branch-clause-bound : goal.returns-then-not-branch-clause-bound
returns-then-not-branch-clause-bound g c = c.look_ahead.ensures.bound

pub returns-then-not-branch-clause-unread : goal.returns-then-not-branch-clause-unread
returns-then-not-branch-clause-unread g c = λ some. (c.look_ahead.ensures.unread (some_ahead _ some)).0

pub rest_of_line-requires : goal.rest_of_line-requires
rest_of_line-requires g c =
    let some = rw c.if-not-branch.false at c.in_ok-look_ahead.ensures.some in
    record { some = some; given = c.look_ahead.ensures.bound some }

pub returns-in_err-rest_of_line-clause-bound : goal.returns-in_err-rest_of_line-clause-bound
returns-in_err-rest_of_line-clause-bound g c = c.rest_of_line.ensures.bound

pub returns-in_err-rest_of_line-clause-unread : goal.returns-in_err-rest_of_line-clause-unread
returns-in_err-rest_of_line-clause-unread g c = λ some.
    absurd (none_ahead _ _ some (c.look_ahead.ensures.unread (some_ahead _ some)).1 c.in_default.ensures)

pub returns-clause-given : goal.returns-clause-given
returns-clause-given g c =
    let forward = c.in_ok-rest_of_line.ensures.forward in (
      still_less c.args.reader.now.given (length (ahead c.args.self.now)) c.look_ahead.new.reader.given (length (ahead c.look_ahead.new.self))
          c.rest_of_line.new.reader.given (length (ahead c.rest_of_line.new.self)) c.in_ok-look_ahead.ensures.given forward.0,
      forward.1,
    )

pub returns-clause-bound : goal.returns-clause-bound
returns-clause-bound g c = c.rest_of_line.ensures.bound

pub returns-in_err-rest_of_line-clause-left : goal.returns-in_err-rest_of_line-clause-left
returns-in_err-rest_of_line-clause-left g c = read_more _ _ _ c.look_ahead.ensures.left c.rest_of_line.ensures.left

pub returns-clause-left : goal.returns-clause-left
returns-clause-left g c = read_more _ _ _ c.look_ahead.ensures.left c.rest_of_line.ensures.left
