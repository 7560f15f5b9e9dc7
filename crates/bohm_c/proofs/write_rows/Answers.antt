use Rattle.std.proofs.Common.{◌≡◌, ◌∙◌, ℕ, List, Option, Err, ap, arith, inl, inr, length, rules, subst, sym, take}
use Rattle.std.specs.Prelude.{pos}
use Rattle.std.proofs.lemmas.Bool.{cases_lt}
use Rattle.fed_run.specs.Stands.{TextLacksTable, TextListsRows}
use Rattle.bohm_c.specs.Asked.{asked_name}
use Rattle.bohm_c.specs.Statuses.{ask_status}
use Rattle.bohm_c.specs.declared.TheConstants.{DONE, ROOM}
use Rattle.bohm_c.proofs.AskFaults.{no_table}
use Rattle.bohm_c.proofs.write_rows.Goals as goal

pub returns-in-Ok-rows-clause-told : goal.returns-in-Ok-rows-clause-told
returns-in-Ok-rows-clause-told c = λ is.
    let wrote = c.write_whole.ensures in
    let made = c.write_whole.new.made in
    let text : List ℕ = c.rows.new.text.items in
    let done : c.write_whole.result ≡ DONE = search rules in
    let whole : take made c.write_whole.new.out ≡ text = wrote.whole done ∙ c.deref.ensures.value in
    let rows : TextListsRows c.args.run.now (asked_name c.args.table.now) text =
    subst (λ (name : Option (List ℕ)). TextListsRows c.args.run.now name text) c.in-Ok.ensures.named c.in-Ok-rows.ensures.told in (
      subst (TextListsRows c.args.run.now (asked_name c.args.table.now)) (sym whole) rows,
      omega (arith, wrote.made, wrote.room.0 done),
    )

pub returns-in-Ok-rows-clause-room : goal.returns-in-Ok-rows-clause-room
returns-in-Ok-rows-clause-room c = λ is.
    let wrote = c.write_whole.ensures in
    let text : List ℕ = c.rows.new.text.items in
    let room : c.write_whole.result ≡ ROOM = search rules in
    let size : length text ≡ c.write_whole.new.made = ap length (sym c.deref.ensures.value) ∙ sym wrote.made in
    let rows : TextListsRows c.args.run.now (asked_name c.args.table.now) text =
    subst (λ (name : Option (List ℕ)). TextListsRows c.args.run.now name text) c.in-Ok.ensures.named c.in-Ok-rows.ensures.told in
    elim (cases_lt (length c.args.out.now) c.write_whole.new.made) [
      | inl less ↦ (less, (text, (rows, size)))
      | inr more ↦ absurd (let done : c.write_whole.result ≡ DONE = wrote.room.1 (omega (arith, wrote.made, more)) in cc)
    ]

pub returns-clause-lacks : goal.returns-clause-lacks
returns-clause-lacks c = λ is utf8.
    let status : ask_status c.in-Err.fault ≡ pos 11 = search rules in
    subst (λ (name : Option (List ℕ)). TextLacksTable c.args.run.now name) c.in-Ok.ensures.named
    (c.in-Err.ensures.lacks (ap Err (no_table c.in-Err.fault status)))
