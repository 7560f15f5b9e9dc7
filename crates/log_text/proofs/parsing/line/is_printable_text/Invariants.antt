use Rattle.std.proofs.Common.{◌≡◌, take}
use Rattle.std.specs.List.{list_all}
use Rattle.line_words.specs.Words.{is_printable}
use Rattle.log_text.proofs.parsing.line.is_printable_text.Given as goal

abbrev pub invariant-loop-byte : goal.invariant-loop-byte
invariant-loop-byte l = l.printable ≡ list_all is_printable (take l.byte-index l.line)
