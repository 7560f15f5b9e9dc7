use Rattle.std.proofs.Common.{◌≡◌, ◌&&◌, false, take}
use Rattle.std.specs.List.{list_any}
use Rattle.model_base.specs.declared.deed.Record.{Record}
use Rattle.model_base.specs.Records.{is_in_force_at}
use Rattle.privileges.specs.Holders.{gives_everyone}
use Rattle.privileges.proofs.holding.is_given_to_all.Given as goal

-- no record so far gives everyone what is needed
abbrev pub invariant-loop-record : goal.invariant-loop-record
invariant-loop-record l =
    list_any (λ (entry : Record). is_in_force_at l.place entry && gives_everyone entry.grant l.need) (take l.record-index l.book.records) ≡ false
