use Rattle.std.proofs.Common.{◌≡◌, ◌++◌, take}
use Rattle.std.specs.List.{flat_map}
use Rattle.privileges_text.specs.HistoryText.{span_text}
use Rattle.privileges_text.proofs.history.put_each.Given as goal

abbrev pub invariant-loop-span : goal.invariant-loop-span
invariant-loop-span l = l.text.items ≡ l.initial.text.items ++ flat_map (span_text l.engine.log l.of) (take l.span-index l.spans)
