use Rattle.filling.proofs.Advancing.{advances}
use Rattle.filling.proofs.placer.PlacerBatchPlacerRangeKey.advance.Goals as goal

pub returns-clause-advances : goal.returns-clause-advances
returns-clause-advances c = advances c.args.batch.now.key.batch c.args.self.now c.place_next.result c.place_next.new.self c.place_next.ensures.tells
