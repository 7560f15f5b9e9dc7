use Rattle.checker.proofs.MissingLaws.{covers_one}
use Rattle.checker.proofs.missing.lack_of.Goals as goal

pub denial-requires : goal.denial-requires
denial-requires g c = record { covered = covers_one (g.V.Records.shown c.args.view.now) c.args.need c.requires }
