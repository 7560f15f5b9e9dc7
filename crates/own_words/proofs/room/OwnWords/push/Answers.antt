use Rattle.std.proofs.Common.{◌≡◌, ◌<◌, ◌≤◌, length, take, ap, arith}
use Rattle.std.proofs.lemmas.List.{length-take-le}
use Rattle.own_words.proofs.Padding.{padded_more}
use Rattle.own_words.proofs.room.OwnWords.push.Goals as goal

pub invariant_of-self : goal.invariant_of-self
invariant_of-self c =
    let v = c.self.inside in
    let fits : v.len ≤ length v.words = omega (arith, c.self.invariant.within, c.self.invariant.whole) in
    let long : length (take v.len v.words) ≡ v.len = length-take-le v.len v.words fits in
    let seen : length (take v.len v.words) ≡ length c.args.self.now = ap length c.self.view_is in
    let room : v.len < 156 = omega (arith, c.requires) in
    padded_more v.len v.words c.self.invariant.within c.self.invariant.whole c.self.invariant.zeros c.args.word room
