use Rattle.std.proofs.Common.{◌≡◌, ◌<◌, ◌+◌, length, sym, ap, ◌∙◌, subst}
use Rattle.model_base.specs.Records.{end_below}
use Rattle.bohm_core_base.specs.Batch.{batch_slots}
use Rattle.bohm_core_base.specs.Serial.{whole_end}
use Rattle.log_batch.specs.Supplied.{batch_of}
use Rattle.log_batch.proofs.Counted.{sound_batch}
use Rattle.evaluation.specs.ReadSource.{RangePlace}
use Rattle.filling.proofs.EndsTelling.{told-below, untold-below}
use Rattle.filling.proofs.completion.below.BelowReadSource.end.Goals as goal
use Rattle.filling.proofs.completion.below.BelowReadSource.end.Goals.{in-Some, in-None}

pub returns-clause-value : goal.returns-clause-value
returns-clause-value c =
    let s = c.self.inside in
    let slot = c.args.slot in
    let b = batch_of s.batch.now in
    let place = s.batch.now.first + s.index in
    let stands = c.self.invariant.0 in
    let within : slot < length (batch_slots b) = subst (λ (place : RangePlace). slot < length (batch_slots (batch_of place.ranged))) (sym c.self.view_is) c.requires.slot in
    let here : end_below place c.match-of.result ≡ end_below place (whole_end b slot) =
    elim c.match-of.branch [
      | in-Some w ↦
          ap (end_below place) w.result-is
          ∙ told-below b place s.progress.now.ends slot w.in-Some.end stands.told (sym w.in-Some.ensures)
      | in-None w ↦
          ap (end_below place) (w.result-is ∙ w.end_at_first.ensures)
          ∙ untold-below b (sound_batch s.batch.now c.self.invariant.2) s.index s.progress.now.ends stands.ended slot within (sym w.in-None.ensures)
    ] in
    subst (λ (place : RangePlace). end_below (place.ranged.first + place.index) c.match-of.result ≡ end_below (place.ranged.first + place.index) (whole_end (batch_of place.ranged) slot)) c.self.view_is here
