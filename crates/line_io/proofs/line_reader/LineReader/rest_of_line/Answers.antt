-- Taking the rest of a line: it ends among the bytes ahead, with the input, or further on.
use Rattle.std.proofs.Common.{◌≡◌, ℕ, ◌<◌, ◌≤◌, ◌+◌, ◌-◌, ◌++◌, List, length, take, drop, refl, ap, sym, subst, ◌∙◌, slice_range, length-drop, arith}
use Rattle.std.proofs.lemmas.List.{length-take}
use Rattle.line_io.specs.Ahead.{ahead}
use Rattle.line_io.specs.Known.{raised}
use Rattle.line_io.proofs.Pieces.{line_start, line_cut, line_piece, line_over, drop_range, empty_range, keeps_empty, piece_kept, read_more, read_none}
use Rattle.line_io.specs.declared.limits.TheConstants.{BUFFER_BYTES, MOST_GIVEN_BYTES}
use Rattle.line_io.proofs.line_reader.LineReader.rest_of_line.Goals as goal

less_ahead : (given all old new fewer n : ℕ) → given + old ≤ new + all → fewer ≡ old - (n + 1) → n < old → given + fewer < new + all
less_ahead given all old new fewer n so less low = omega arith

none_left : (given all old now new none : ℕ) → given + old ≤ now + all → 0 < old → none ≡ 0 → new ≡ now → given + none < new + all
none_left given all old now new none so some is same = omega arith

goes_down : (most given now ahead next none : ℕ) → 0 < ahead → none ≡ 0 → now + none ≡ given + next → now ≤ most → most + next - now < most + ahead - given
goes_down most given now ahead next none some is more low = omega arith

as_before : (a b : ℕ) → a + b ≤ a + b
as_before a b = omega arith

pub returns-in-Some-clause-line : goal.returns-in-Some-clause-line
returns-in-Some-clause-line g c =
    let bytes : List ℕ = ahead c.pieces.self in
    let n : ℕ = c.in-Some.n in
    let kept = c.keep.new.self in
    let within : kept.start + (n + 1) ≤ kept.end = omega (arith, c.in-Some.ensures.0.high, length-take (c.pieces.self.end - c.pieces.self.start) (drop c.pieces.self.start c.pieces.self.buffer.items)) in
    line_cut _ _ _ c.pieces.self.kept.items bytes _ _ n c.pieces.invariant.kept c.in-Some.ensures c.in_ok-keep.ensures.kept
    (sym (drop_range kept.buffer.items kept.start kept.end (n + 1) within) ∙ ap (drop (n + 1)) c.keep.ensures.ahead)

pub returns-then-not-branch-clause-line : goal.returns-then-not-branch-clause-line
returns-then-not-branch-clause-line g c =
    let lines = c.pieces.self in
    let bytes : List ℕ = ahead lines in
    let kept = c.keep-in-pieces.new.self in
    let e : c.look_ahead.new.self.kept.items ≡ take 4097 (lines.kept.items ++ bytes) =
    piece_kept _ _ lines.kept.items lines.buffer.items lines.start lines.end c.look_ahead.ensures.kept c.in_ok-keep-2.ensures.kept in
    let end = rw c.if-not-branch.true at c.in_ok-look_ahead.ensures.some in
    line_over _ _ _ c.look_ahead.new.self.kept.items _
    (line_piece _ _ _ _ lines.kept.items bytes _ _ c.pieces.invariant.kept c.in_default.ensures e (keeps_empty _ _ (slice_range kept.buffer.items kept.end kept.end) (empty_range kept.buffer.items kept.end) c.in_ok-look_ahead.ensures.bytes))
    end.0 end.1 (omega arith)

pub pieces-preserved : goal.pieces-preserved
pieces-preserved g c =
    let lines = c.pieces.self in
    let bytes : List ℕ = ahead lines in
    let kept = c.keep-in-pieces.new.self in
    let e : c.look_ahead.new.self.kept.items ≡ take 4097 (lines.kept.items ++ bytes) =
    piece_kept _ _ lines.kept.items lines.buffer.items lines.start lines.end c.look_ahead.ensures.kept c.in_ok-keep-2.ensures.kept in
    let some = rw c.if-not-branch.false at c.in_ok-look_ahead.ensures.some in
    let nothing : length (slice_range kept.buffer.items kept.end kept.end) ≡ 0 = ap length (empty_range kept.buffer.items kept.end) in
    let read = c.in_ok-look_ahead.ensures.given in
    record {
      kept = line_piece _ _ _ _ lines.kept.items bytes _ _ c.pieces.invariant.kept c.in_default.ensures e (keeps_empty _ _ (slice_range kept.buffer.items kept.end kept.end) (empty_range kept.buffer.items kept.end) c.in_ok-look_ahead.ensures.bytes);
      some = some;
      given = c.look_ahead.ensures.bound some;
      forward = omega (arith, read, nothing, c.pieces.invariant.forward);
      left = read_more _ _ _ c.pieces.invariant.left c.look_ahead.ensures.left;
      errors = c.in_ok-look_ahead.ensures.ok ∙ c.pieces.invariant.errors;
      is_kept = c.look_ahead.ensures.is_kept ∙ c.keep-in-pieces.ensures.is_kept ∙ c.pieces.invariant.is_kept;
      most = c.look_ahead.ensures.most ∙ c.keep-in-pieces.ensures.most ∙ c.pieces.invariant.most;
    }

pub pieces-init : goal.pieces-init
pieces-init g c = record {
  kept = line_start _ _;
  some = c.requires.some;
  given = c.requires.given;
  forward = as_before c.args.reader.now.given (length (ahead c.args.self.now));
  left = read_none _;
  errors = refl;
  is_kept = refl;
  most = refl;
}

pub pieces-smaller : goal.pieces-smaller
pieces-smaller g c =
    let kept = c.keep-in-pieces.new.self in
    let some = rw c.if-not-branch.false at c.in_ok-look_ahead.ensures.some in
    let nothing : length (slice_range kept.buffer.items kept.end kept.end) ≡ 0 = ap length (empty_range kept.buffer.items kept.end) in
    goes_down (MOST_GIVEN_BYTES + BUFFER_BYTES) c.pieces.reader.given c.look_ahead.new.reader.given (length (ahead c.pieces.self)) (length (ahead c.look_ahead.new.self)) _
    c.pieces.invariant.some nothing c.in_ok-look_ahead.ensures.given (c.look_ahead.ensures.bound some)

pub returns-in-Some-clause-forward : goal.returns-in-Some-clause-forward
returns-in-Some-clause-forward g c =
    let bytes : List ℕ = ahead c.pieces.self in
    let n : ℕ = c.in-Some.n in
    let kept = c.keep.new.self in
    let within : kept.start + (n + 1) ≤ kept.end = omega (arith, c.in-Some.ensures.0.high, length-take (c.pieces.self.end - c.pieces.self.start) (drop c.pieces.self.start c.pieces.self.buffer.items)) in
    let rest = sym (drop_range kept.buffer.items kept.start kept.end (n + 1) within) ∙ ap (drop (n + 1)) c.keep.ensures.ahead in (
      less_ahead c.args.reader.now.given (length (ahead c.args.self.now)) (length bytes) c.pieces.reader.given _ n
          c.pieces.invariant.forward (ap length rest ∙ length-drop (n + 1) bytes) c.in-Some.ensures.0.high,
      c.pieces.invariant.given,
    )

pub returns-in-Some-clause-bound : goal.returns-in-Some-clause-bound
returns-in-Some-clause-bound g c = λ _. c.pieces.invariant.given

pub returns-then-not-branch-clause-forward : goal.returns-then-not-branch-clause-forward
returns-then-not-branch-clause-forward g c =
    let end = rw c.if-not-branch.true at c.in_ok-look_ahead.ensures.some in (
      none_left c.args.reader.now.given (length (ahead c.args.self.now)) (length (ahead c.pieces.self)) c.pieces.reader.given c.look_ahead.new.reader.given
          (length (ahead c.look_ahead.new.self)) c.pieces.invariant.forward c.pieces.invariant.some (ap length end.0) end.2,
      subst (λ (m : ℕ). m ≤ MOST_GIVEN_BYTES + BUFFER_BYTES) (sym end.2) c.pieces.invariant.given,
    )

pub returns-then-not-branch-clause-bound : goal.returns-then-not-branch-clause-bound
returns-then-not-branch-clause-bound g c = c.look_ahead.ensures.bound

pub returns-in_err-keep-clause-bound : goal.returns-in_err-keep-clause-bound
returns-in_err-keep-clause-bound g c = λ _. c.pieces.invariant.given

pub returns-in_err-keep-2-clause-bound : goal.returns-in_err-keep-2-clause-bound
returns-in_err-keep-2-clause-bound g c = λ _. c.pieces.invariant.given

pub returns-in_err-look_ahead-clause-bound : goal.returns-in_err-look_ahead-clause-bound
returns-in_err-look_ahead-clause-bound g c = c.look_ahead.ensures.bound

pub returns-in_err-look_ahead-clause-read : goal.returns-in_err-look_ahead-clause-read
returns-in_err-look_ahead-clause-read g c = λ _. c.in_err-look_ahead.ensures.err.1 ∙ ap raised c.pieces.invariant.errors

pub returns-in_err-look_ahead-clause-left : goal.returns-in_err-look_ahead-clause-left
returns-in_err-look_ahead-clause-left g c = read_more _ _ _ c.pieces.invariant.left c.look_ahead.ensures.left
