use Rattle.grants_base.proofs.SlotEnds.{put_end}
use Rattle.grants_base.proofs.entries.set_end.Goals as goal

pub returns : goal.returns
returns c = put_end c.args.records.now c.args.slot c.args.place c.index-records-slot.result c.requires
