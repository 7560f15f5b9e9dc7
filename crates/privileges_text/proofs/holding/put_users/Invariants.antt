use Rattle.std.proofs.Common.{◌≡◌, ◌++◌, take}
use Rattle.std.specs.List.{flat_map}
use Rattle.privileges_text.specs.HoldersText.{holder_lines}
use Rattle.privileges_text.proofs.holding.put_users.Given as goal

abbrev pub invariant-loop-user : goal.invariant-loop-user
invariant-loop-user l = l.text.items ≡ l.initial.text.items ++ flat_map (holder_lines l.engine.log l.need) (take l.user-index l.users)
