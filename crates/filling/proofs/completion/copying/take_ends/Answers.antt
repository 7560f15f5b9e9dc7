use Rattle.std.proofs.Common.{◌≡◌, ◌<◌, ◌≤◌, ℕ, List, get_or, length, ap, subst, arith}
use Rattle.log_batch.specs.Supplied.{batch_of}
use Rattle.words.specs.Layout.{listed_slot_at, optional_word}
use Rattle.filling.specs.Ends.{NotesWord}
use Rattle.filling.proofs.Kept.{Told, told-done, told-next}
use Rattle.filling.proofs.completion.copying.take_ends.Goals as goal

pub loop-number-preserved : goal.loop-number-preserved
loop-number-preserved c =
    let b = batch_of c.args.key.now.batch in
    let listed = c.args.key.now.slots in
    let n = c.loop-number.number in
    let items = c.slots-slot-items.ensures.value in
    let long : length c.slots-slot-items.result.now ≡ length listed = ap (λ (list : List ℕ). length list) items in
    let within : n < length listed = omega arith in
    let same : get_or c.slots-slot-items.result.now n 0 ≡ listed_slot_at listed n = ap (λ (list : List ℕ). get_or list n 0) items in
    let takes = subst (λ slot. NotesWord slot (optional_word c.end.result) c.loop-number.ends c.take_end.new.ends) same c.in_ok-take_end.ensures in
    let next : Told b listed c.args.closed.now c.requires.settled c.ends-listed.ensures.listed _ c.take_end.new.ends =
    told-next b listed c.args.closed.now c.requires.settled c.ends-listed.ensures.listed n (optional_word c.end.result) c.loop-number.ends c.take_end.new.ends within c.end.ensures
    (record { told = c.loop-number.invariant.told; taken = c.loop-number.invariant.taken }) takes in
    record { told = next.told; taken = next.taken }

pub returns-clause-done : goal.returns-clause-done
returns-clause-done c =
    let b = batch_of c.args.key.now.batch in
    let listed = c.args.key.now.slots in
    let long : length c.slots-slot-items.result.now ≡ length listed = ap (λ (list : List ℕ). length list) c.slots-slot-items.ensures.value in
    let all : length listed ≤ c.loop-number.number = omega arith in
    told-done b listed c.args.closed.now c.requires.settled c.ends-listed.ensures.listed c.loop-number.ends
    (record { told = c.loop-number.invariant.told; taken = λ end place less set. c.loop-number.invariant.taken end place (omega arith) set })
