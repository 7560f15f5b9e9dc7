use Rattle.std.proofs.Common.{◌≡◌, ◌+◌, length}
use Rattle.std.specs.List.{position_or_len}
use Rattle.own_words.specs.Words.{same_need}
use Rattle.own_words.proofs.numbering.need_number.Given as goal

-- those that are left are counted on from the number, and none of those before is the need
abbrev pub invariant-needs : goal.invariant-needs
invariant-needs l = record {
  number : l.number + position_or_len (same_need l.need) l.needs ≡ position_or_len (same_need l.need) l.initial.needs;
  counted : l.number + length l.needs ≡ length l.initial.needs;
}

abbrev pub decreases-needs : goal.decreases-needs
decreases-needs l = length l.needs
