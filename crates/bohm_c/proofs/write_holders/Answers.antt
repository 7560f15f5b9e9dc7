use Rattle.std.proofs.Common.{◌≡◌, ◌∙◌, ℕ, List, Err, ap, arith, inl, inr, length, rules, subst, sym, take}
use Rattle.std.specs.Prelude.{pos}
use Rattle.std.proofs.lemmas.Bool.{cases_lt}
use Rattle.fed_run.specs.Stands.{TextListsHolders}
use Rattle.bohm_c.specs.Statuses.{ask_status}
use Rattle.bohm_c.specs.declared.TheConstants.{DONE, ROOM}
use Rattle.bohm_c.proofs.AskFaults.{no_table}
use Rattle.bohm_c.proofs.write_holders.Goals as goal

pub returns-in-Ok-clause-told : goal.returns-in-Ok-clause-told
returns-in-Ok-clause-told c = λ is.
    let wrote = c.write_whole.ensures in
    let made = c.write_whole.new.made in
    let done : c.write_whole.result ≡ DONE = search rules in
    let whole : take made c.write_whole.new.out ≡ c.holders.new.text.items = wrote.whole done ∙ c.deref.ensures.value in (
      subst (TextListsHolders c.args.run.now c.args.kind c.args.name.now) (sym whole) c.in-Ok.ensures.told,
      omega (arith, wrote.made, wrote.room.0 done),
    )

pub returns-in-Ok-clause-room : goal.returns-in-Ok-clause-room
returns-in-Ok-clause-room c = λ is.
    let wrote = c.write_whole.ensures in
    let text : List ℕ = c.holders.new.text.items in
    let room : c.write_whole.result ≡ ROOM = search rules in
    let size : length text ≡ c.write_whole.new.made = ap length (sym c.deref.ensures.value) ∙ sym wrote.made in
    elim (cases_lt (length c.args.out.now) c.write_whole.new.made) [
      | inl less ↦ (less, (text, (c.in-Ok.ensures.told, size)))
      | inr more ↦ absurd (let done : c.write_whole.result ≡ DONE = wrote.room.1 (omega (arith, wrote.made, more)) in cc)
    ]

pub returns-clause-lacks : goal.returns-clause-lacks
returns-clause-lacks c = λ is.
    let status : ask_status c.in-Err.fault ≡ pos 11 = search rules in
    c.in-Err.ensures.lacks (ap Err (no_table c.in-Err.fault status))
