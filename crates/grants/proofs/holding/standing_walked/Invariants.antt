use Rattle.std.proofs.Common.{◌-◌, ◌≡◌, ◌≤◌, length, drop}
use Rattle.std.specs.List.{flat_map, list_any}
use Rattle.std.specs.Option.{option_to_list}
use Rattle.grants_base.specs.Force.{later_of}
use Rattle.grants.specs.Loss.{last_end, narrowed}
use Rattle.grants_base.specs.View.{entries, slot_gives}
use Rattle.grants.proofs.holding.standing_walked.Given as goal

-- the slots that are left give what all give, and the last loss so far, or a later one in them, is that of all
abbrev pub invariant-loop-from : goal.invariant-loop-from
invariant-loop-from g l = record {
  same : g.V.Records.shown l.view ≡ g.V.Records.shown l.initial.view;
  slots : l.end ≡ length (g.V.Records.shown l.initial.view).slots;
  within : l.from ≤ l.end;
  any :
      list_any (λ slot. slot_gives slot l.user l.need) (drop l.from (narrowed l.grantee (g.V.Records.shown l.initial.view)).slots)
      ≡ list_any (λ slot. slot_gives slot l.user l.need) (narrowed l.grantee (g.V.Records.shown l.initial.view)).slots;
  last :
      later_of l.last (last_end (flat_map option_to_list (drop l.from (narrowed l.grantee (g.V.Records.shown l.initial.view)).slots)) l.user l.need)
      ≡ last_end (entries (narrowed l.grantee (g.V.Records.shown l.initial.view))) l.user l.need;
}

abbrev pub decreases-loop-from : goal.decreases-loop-from
decreases-loop-from g l = l.end - l.from
