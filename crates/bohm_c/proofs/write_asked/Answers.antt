use Rattle.std.proofs.Common.{◌≡◌, ℕ, List, Some, rules, subst, take}
use Rattle.log_text.specs.Fault.{kind_named}
use Rattle.fed_run.specs.Stands.{TextLacksTable, TextListsHolders}
use Rattle.bohm_c.specs.declared.TheConstants.{DONE, NO_TABLE, ROOM}
use Rattle.bohm_c.proofs.write_asked.Goals as goal

pub returns-in-Ok-clause-told : goal.returns-in-Ok-clause-told
returns-in-Ok-clause-told c = λ is.
    let done : c.write_holders.result ≡ DONE = search rules in
    let same : c.in-Ok.name.now ≡ c.args.table.now = search rules in
    let named : kind_named c.args.kind.now ≡ Some c.in-Some.kind = search rules in
    let told = c.write_holders.ensures.told done in (
      (
        c.in-Some.kind,
        (
          named,
          subst (λ (name : List ℕ). TextListsHolders c.args.run.now c.in-Some.kind name (take c.write_holders.new.made c.write_holders.new.out)) same told.0,
        ),
      ),
      told.1,
    )

pub returns-in-Ok-clause-room : goal.returns-in-Ok-clause-room
returns-in-Ok-clause-room c = λ is.
    let room : c.write_holders.result ≡ ROOM = search rules in
    let same : c.in-Ok.name.now ≡ c.args.table.now = search rules in
    let named : kind_named c.args.kind.now ≡ Some c.in-Some.kind = search rules in
    let told = c.write_holders.ensures.room room in
    let text : List ℕ = told.1.0 in (
      told.0,
      (
        text,
        (
          (c.in-Some.kind, (named, subst (λ (name : List ℕ). TextListsHolders c.args.run.now c.in-Some.kind name text) same told.1.1.0)),
          told.1.1.1,
        ),
      ),
    )

pub returns-in-Ok-clause-lacks : goal.returns-in-Ok-clause-lacks
returns-in-Ok-clause-lacks c = λ is utf8.
    let none : c.write_holders.result ≡ NO_TABLE = search rules in
    let same : c.in-Ok.name.now ≡ c.args.table.now = search rules in
    subst (λ (name : List ℕ). TextLacksTable c.args.run.now (Some name)) same (c.write_holders.ensures.lacks none)
