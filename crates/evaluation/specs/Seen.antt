-- The view of the records of grants that a place of a batch is shown.
use Rattle.std.specs.Prelude.{◌+◌, ◌&&◌, nat_lt, ℕ, Bool, Option, Some, None, List, [], ◌∷◌, slice_get, if◌then◌else◌}
use Rattle.model_base.specs.declared.deed.Grant.{Grant}
use Rattle.model_base.specs.declared.deed.Record.{Record}
use Rattle.model_base.specs.Outcomes.{owners}
use Rattle.model_base.specs.Records.{end_below}
use Rattle.grants_base.specs.View.{View}
use Rattle.bohm_core_base.specs.Batch.{is_listed, batch_slots}
use Rattle.log_batch.specs.Supplied.{LogRange, batch_of}
use Rattle.evaluation.specs.ReadSource.{Reader, ends_whole, made_whole}

-- the record of a slot as a place is shown it, if its grant is on one of the tables, was made, and is below the place
abbrev pub slot_seen : List ℕ → ℕ → (ℕ → Bool) → Grant → Option ℕ → Option Record
slot_seen tables place made grant end =
    if is_listed tables grant.table && (nat_lt grant.place place && made grant.place)
    then Some (record { grant = grant; end = end_below place end })
    else None

-- those of all slots: an empty slot where the place is shown no record
abbrev pub slots_seen : List ℕ → ℕ → (ℕ → Bool) → List Grant → List (Option ℕ) → List (Option Record)
slots_seen tables place made [] ends = []
slots_seen tables place made (grant ∷ grants) [] = []
slots_seen tables place made (grant ∷ grants) (end ∷ ends) =
    slot_seen tables place made grant end ∷ slots_seen tables place made grants ends

-- what a view shows, as data: its place, the tables that it covers, the owner of each table, and its slots
pub record Seen : Type 0 where
  pub place : ℕ
  pub tables : List ℕ
  pub owners : List ℕ
  pub slots : List (Option Record)

-- the view that shows it
abbrev pub seen_view : Seen → View
seen_view seen = record {
  place = seen.place;
  owner = λ table. if is_listed seen.tables table then slice_get seen.owners table else None;
  slots = seen.slots;
}

-- what an index of the batch is shown by the serial run
abbrev pub seen_at : LogRange → ℕ → Seen
seen_at ranged index = record {
  place = ranged.first + index;
  tables = (batch_of ranged).tables index;
  owners = owners ranged.log.statements;
  slots = slots_seen ((batch_of ranged).tables index) (ranged.first + index) (made_whole (batch_of ranged))
      (batch_slots (batch_of ranged)) (ends_whole (batch_of ranged));
}

-- the view that a reader is shown, in a range of a log
abbrev pub shown_to : LogRange → Reader → View
shown_to ranged reader = seen_view (seen_at ranged reader.index)
