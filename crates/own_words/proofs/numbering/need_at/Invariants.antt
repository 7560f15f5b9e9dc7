use Rattle.std.proofs.Common.{◌≡◌, length, slice_get}
use Rattle.own_words.proofs.numbering.need_at.Given as goal

-- the need that is looked for is among those that are left, after this many
abbrev pub invariant-needs : goal.invariant-needs
invariant-needs l = slice_get l.needs l.later ≡ slice_get l.initial.needs l.initial.later

abbrev pub decreases-needs : goal.decreases-needs
decreases-needs l = length l.needs
