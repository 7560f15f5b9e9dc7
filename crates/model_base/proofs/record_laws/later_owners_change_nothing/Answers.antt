use Rattle.std.proofs.Common.{◌++◌}
use Rattle.model_base.specs.Records.{grants_of, in_force}
use Rattle.model_base.proofs.Owners.{kept-owners, records-owners, ended_by-owners, holds-owners, cause-owners, holds_by-owners, last_loss-owners, ended_by_records-owners}
use Rattle.model_base.proofs.MoreOwners.{all_same-more, proper-more, same-more, tables-proper}
use Rattle.model_base.proofs.record_laws.later_owners_change_nothing.Goals as goal

pub returns : goal.returns
returns c = record {
  tables = tables-proper;
  proper = proper-more;
  kept = λ owners more deeds on. kept-owners (owners ++ more) owners deeds (all_same-more owners more (grants_of deeds) on);
  records = λ owners more deeds on. records-owners (owners ++ more) owners deeds (all_same-more owners more (grants_of deeds) on);
  ended = λ owners more deeds revocation on. ended_by-owners (owners ++ more) owners deeds revocation (all_same-more owners more (grants_of deeds) on);
  held = λ owners more deeds user need on here.
      holds-owners (owners ++ more) owners deeds user need (all_same-more owners more (grants_of deeds) on) (same-more owners more need.table here);
  cause = λ owners more deeds user need on here.
      cause-owners (owners ++ more) owners deeds user need (all_same-more owners more (grants_of deeds) on) (same-more owners more need.table here);
  held_by = λ owners more entries user need here. holds_by-owners (owners ++ more) owners entries user need (same-more owners more need.table here);
  lost_by = λ owners more entries user need place here.
      last_loss-owners (owners ++ more) owners entries user need place (same-more owners more need.table here);
  ended_by = λ owners more entries revocation on.
      ended_by_records-owners (owners ++ more) owners entries revocation (all_same-more owners more (in_force entries) on);
}
