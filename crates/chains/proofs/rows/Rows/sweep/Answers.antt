use Rattle.std.proofs.Common.{◌≡◌, ℕ, List, ◌∷◌, sym, ◌∙◌, subst, arith}
use Rattle.model_base.specs.declared.row.Key.{Key}
use Rattle.chains.specs.declared.writes.Written.{Written}
use Rattle.chains.specs.Kept.{AreNoted, IsStoreKept}
use Rattle.chains.specs.Store.{of_key}
use Rattle.chains.proofs.Sweeping.{IsLeft, left-kept, left-newest, left-swept, next-left, next-noted, note-out, nothing-spent}
use Rattle.chains.proofs.Order.{rising-from}
use Rattle.chains.proofs.rows.Rows.sweep.Goals as goal

pub loop-write-preserved : goal.loop-write-preserved
loop-write-preserved c =
    let now = c.loop-write.self in
    let new = c.take_spent-gone.new.self in
    let mark = c.args.mark in
    let write = c.in-Some.write in
    let later = c.take_write_below.new.writes.items in
    let invariant = c.loop-write.invariant in
    let is : c.loop-write.absent.items ≡ write ∷ later = c.in-Some.ensures.items in
    let left : (key : Key) → IsLeft mark (of_key key now.versions) (of_key key new.versions) =
    λ key. subst (IsLeft mark (of_key key now.versions)) (sym (c.take_spent-gone.ensures.left key)) (next-left mark now.versions write.key key) in
    let kept : (end : ℕ) → IsStoreKept c.args.self.now c.args.absent.now.items mark end → IsStoreKept new later mark end =
    λ end at_first. note-out mark end new write later c.in-Some.ensures.below
    (left-kept mark now new left (write ∷ later) end c.take_spent-gone.ensures.replacing
    (subst (λ (absent : List Written). IsStoreKept now absent mark end) is (invariant.kept end at_first))) in
    record {
      left = λ key. left-swept mark now new left key ∙ invariant.left key;
      newest = λ place key. left-newest mark now new left place key ∙ invariant.newest place key;
      kept = kept;
      noted =
          next-noted mark c.requires.kept.0 now new write later c.take_spent-gone.ensures.left (kept c.requires.kept.0 c.requires.kept.1)
          (subst (λ (absent : List Written). AreNoted now absent) is invariant.noted);
      fewer = omega (arith, invariant.fewer, c.in-Some.ensures.len, c.take_spent-gone.ensures.one);
      gone = omega (arith, invariant.gone, c.take_spent-gone.ensures.gone);
    }

pub returns-clause-left : goal.returns-clause-left
returns-clause-left c = λ key.
    let now = c.loop-write.self in
    let mark = c.args.mark in
    let end = c.requires.kept.0 in
    let notes = c.take_write_below.new.writes.items in
    let is : c.loop-write.absent.items ≡ notes = c.in_default.ensures.items in
    let kept : IsStoreKept now notes mark end =
    subst (λ (absent : List Written). IsStoreKept now absent mark end) is (c.loop-write.invariant.kept end c.requires.kept.1) in
    let noted : AreNoted now notes = subst (λ (absent : List Written). AreNoted now absent) is c.loop-write.invariant.noted in
    let rising = rising-from mark 0 end notes c.in_default.ensures.rest kept.within kept.falling in
    sym (nothing-spent mark end (of_key key now.versions) notes rising (noted key))
    ∙ c.loop-write.invariant.left key
