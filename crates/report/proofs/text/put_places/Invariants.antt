use Rattle.std.proofs.Common.{◌≡◌, ◌++◌, take}
use Rattle.report.specs.Records.{places_text}
use Rattle.report.proofs.text.put_places.Given as goal

abbrev pub invariant-loop-name : goal.invariant-loop-name
invariant-loop-name l = l.text.items ≡ l.initial.text.items ++ places_text (take l.name-index l.names)
