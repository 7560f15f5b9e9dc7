use Rattle.std.proofs.Common.{◌≡◌, ◌+◌, ℕ, Some, sym, ap, ◌∙◌}
use Rattle.std.proofs.lemmas.Option.{slice_get_within}
use Rattle.bohm_core_base.specs.Batch.{batch_slots}
use Rattle.bohm_core_base.specs.Serial.{whole_end}
use Rattle.bohm_core_base.proofs.Whole.{ends-whole}
use Rattle.log_batch.specs.Supplied.{batch_of}
use Rattle.filling.proofs.EndsTelling.{told-keeps, told-more}
use Rattle.filling.proofs.completion.places.note_end.Goals as goal

pub returns-in_ok-tell-clause-told : goal.returns-in_ok-tell-clause-told
returns-in_ok-tell-clause-told c =
    let b = batch_of c.args.batch.now in
    let found = c.in-Some.ensures.found in
    let end : ℕ = c.first_place.result + c.args.index in
    let whole : whole_end b c.in-Some.slot ≡ Some end =
    ends-whole b c.args.index c.in-Some.slot (c.requires.ends c.in-Some.slot found.0 found.1 found.2) ∙ ap (λ (first : ℕ). Some (first + c.args.index)) (sym c.first_place.ensures.value) in
    told-more b c.args.ends.now c.tell.new.self c.in-Some.slot end c.requires.told (slice_get_within (batch_slots b) c.in-Some.slot found.0 found.1) whole c.in_ok-tell.ensures

pub returns-in_ok-tell-clause-kept : goal.returns-in_ok-tell-clause-kept
returns-in_ok-tell-clause-kept c =
    let b = batch_of c.args.batch.now in
    let found = c.in-Some.ensures.found in
    let end : ℕ = c.first_place.result + c.args.index in
    let whole : whole_end b c.in-Some.slot ≡ Some end =
    ends-whole b c.args.index c.in-Some.slot (c.requires.ends c.in-Some.slot found.0 found.1 found.2) ∙ ap (λ (first : ℕ). Some (first + c.args.index)) (sym c.first_place.ensures.value) in
    told-keeps b c.args.ends.now c.tell.new.self c.in-Some.slot end c.requires.told (slice_get_within (batch_slots b) c.in-Some.slot found.0 found.1) whole c.in_ok-tell.ensures
