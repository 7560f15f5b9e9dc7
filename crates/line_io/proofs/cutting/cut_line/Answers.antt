use Rattle.std.proofs.Common.{◌≡◌, min, arith}
use Rattle.line_io.proofs.Pieces.{line_at}
use Rattle.line_io.proofs.cutting.cut_line.Goals as goal

pub returns-clause-line : goal.returns-clause-line
returns-clause-line c =
    let least : c.min.result ≡ min c.in_ok-feed.feed 4097 = omega arith in
    line_at c.args.bytes.now c.min.result c.in_ok-feed.feed least c.in_ok-feed.ensures
