use Rattle.std.proofs.Common.{◌≡◌, ◌&&◌, ℕ, take}
use Rattle.std.specs.List.{list_any}
use Rattle.model_base.specs.declared.deed.Record.{Record}
use Rattle.model_base.specs.Records.{is_in_force_at}
use Rattle.grants_base.specs.Index.{is_one_of}
use Rattle.privileges.specs.Holders.{gives_by_name}
use Rattle.privileges.proofs.holding.named.Given as goal

-- the users are those whom the records so far name
abbrev pub invariant-loop-record : goal.invariant-loop-record
invariant-loop-record l =
    (user : ℕ) → is_one_of l.users.keys user
    ≡ list_any (λ (entry : Record). is_in_force_at l.place entry && gives_by_name entry.grant user l.need) (take l.record-index l.book.records)
