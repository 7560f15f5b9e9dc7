use Rattle.model_base.proofs.Records.{in_force-records, holds_by-records}
use Rattle.model_base.proofs.Unended.{holds_by-each, records-unended}
use Rattle.model_base.proofs.record_laws.unended_records_are_in_force.Goals as goal

pub returns : goal.returns
returns c = record {
  in_force = in_force-records;
  each = records-unended;
  held = holds_by-records;
  given = holds_by-each;
}
