use Rattle.model_base.proofs.Places.{rising-part}
use Rattle.model_base.proofs.Recorded.{recorded-records, rising-grants, part-in_force, part-covered, part-cut}
use Rattle.model_base.proofs.record_laws.records_rise.Goals as goal

pub returns : goal.returns
returns c = record {
  grants = recorded-records;
  rises = λ owners deeds proper. rw (recorded-records owners deeds) (rising-grants owners deeds proper);
  part = λ part grants. rising-part;
  in_force = part-in_force;
  covered = part-covered;
  cut = part-cut;
}
