use Rattle.std.proofs.Common.{◌≡◌, ◌<◌, ℕ, length, rules}
use Rattle.std.specs.Prelude.{slice_index}
use Rattle.std.proofs.lemmas.List.{places}
use Rattle.own_words.proofs.Padding.{padded_none}
use Rattle.own_words.proofs.room.OwnWords.clear.Goals as goal

pub invariant_of-self : goal.invariant_of-self
invariant_of-self c =
    let v = c.self.inside in
    let front = c.fill.new.self in
    let long : length front ≡ v.len = search rules in
    let each : (k : ℕ) → k < v.len → slice_index front k ≡ 0 = search (rules, places) in
    padded_none v.len v.words c.self.invariant.within c.self.invariant.whole c.self.invariant.zeros front long each
