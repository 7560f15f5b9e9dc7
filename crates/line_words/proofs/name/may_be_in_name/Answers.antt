use Rattle.std.proofs.Common.{arith}
use Rattle.line_words.proofs.NameTable.{looked_up}
use Rattle.line_words.proofs.name.may_be_in_name.Goals as goal

pub returns : goal.returns
returns c = looked_up c.args.byte c.from.result (omega (arith, c.ranges.byte.fits)) c.from.ensures
