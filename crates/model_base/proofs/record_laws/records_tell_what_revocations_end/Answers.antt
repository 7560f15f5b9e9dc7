use Rattle.model_base.proofs.Ended.{ended_by-concerned, ended_by-covered, ended_by-covered_records, ended_by-records, stands-in_force, stands-in_force_covered}
use Rattle.model_base.proofs.record_laws.records_tell_what_revocations_end.Goals as goal

pub returns : goal.returns
returns c = record {
  all = λ owners deeds revocation. ended_by-records owners revocation deeds;
  tables = ended_by-covered_records;
  covered = λ owners covers entries revocation. ended_by-covered owners revocation covers entries;
  concerned = λ owners entries revocation. ended_by-concerned owners revocation entries;
  stand = stands-in_force;
  stand_covered = stands-in_force_covered;
}
