use Rattle.std.proofs.Common.{◌<◌, ◌≡◌, ◌-◌, get_or, length, ap, sym, arith}
use Rattle.std.proofs.lemmas.Bool.Decides.{nat_tests}
use Rattle.std.proofs.lemmas.Option.{get_or_from_slice_get, slice_get_within}
use Rattle.model_base.specs.declared.deed.Record.{Record}
use Rattle.grants_base.proofs.Indexing.{none_there}
use Rattle.grants_base.proofs.Lookups.{records_rise}
use Rattle.grants_base.proofs.indexed.made_below.Goals as goal

pub returns-in-Some : goal.returns-in-Some
returns-in-Some c = λ is slot entry at.
    let entries = c.args.records.now in
    let low : c.in-Some.last.now.grant.place < c.args.place = grind (arith, nat_tests, is) in
    let less = slice_get_within entries slot entry at in
    let there : get_or entries (length entries - 1) entry ≡ c.in-Some.last.now = get_or_from_slice_get entries (length entries - 1) c.in-Some.last.now entry (sym c.in-Some.ensures.value) in
    let last : (get_or entries (length entries - 1) entry).grant.place ≡ c.in-Some.last.now.grant.place = ap (λ (e : Record). e.grant.place) there in
    let here : (get_or entries slot entry).grant.place ≡ entry.grant.place = ap (λ (e : Record). e.grant.place) (get_or_from_slice_get entries slot entry entry at) in
    let up = records_rise entries c.requires slot (length entries - 1) entry (omega (arith, less)) (omega (arith, less)) in
    omega (arith, up, low, last, here)

pub returns-in-None : goal.returns-in-None
returns-in-None c = λ is slot entry at. absurd (none_there c.args.records.now (sym c.in-None.ensures.value) slot (slice_get_within c.args.records.now slot entry at))
