use Rattle.std.proofs.Common.{◌≡◌, ap, false, sym, ◌∙◌, refl, arith}
use Rattle.std.specs.Prelude.{bytes_eq}
use Rattle.line_words.specs.Access.{access_word}
use Rattle.log_text.specs.Fault.{is_bar}
use Rattle.log_text.proofs.AccessFit.{access_fits}
use Rattle.log_text.proofs.Bars.{access_ne_bar, no_bar}
use Rattle.log_text.proofs.TakenAccesses.{one_more, each_more, some_more, room_more, fits_more}
use Rattle.log_text.proofs.parsing.accesses.accesses.Goals.{then-len-lt-MOST_ACCESSES+in_default, else-len-lt-MOST_ACCESSES}
use Rattle.log_text.proofs.parsing.accesses.accesses.Goals as goal

pub accesses-preserved-in-Some : goal.accesses-preserved-in-Some
accesses-preserved-in-Some c =
    let now = c.accesses.found in
    let a = c.in-Some.access in
    let word = access_word a in
    let is = c.in-Some.ensures in
    let push = c.push_reserved-in-Some in
    let next = sym c.if-next_bar.ensures ∙ is.0 in
    let other : is_bar word ≡ false = no_bar word (access_ne_bar a is.1) in
    record {
      same = one_more c.args.words.now c.accesses.words c.next_access.new.self word now.items push.new.self.items a c.accesses.invariant.same next refl push.ensures.items;
      some = some_more _ _ c.accesses.invariant.some push.ensures.len;
      room = room_more _ _ _ c.if-len-lt-MOST_ACCESSES.true c.len.ensures push.ensures.len;
      reserved = omega (arith, c.accesses.invariant.reserved, push.ensures.capacity);
      each = each_more now.items push.new.self.items a c.accesses.invariant.each is.1 push.ensures.items;
      fits = λ v. fits_more v c.args.words.now c.accesses.words c.next_access.new.self word _ _ _ (c.accesses.invariant.fits v) next other c.if-len-lt-MOST_ACCESSES.true c.len.ensures push.ensures.len (access_fits a is.1);
    }

pub accesses-preserved : goal.accesses-preserved
accesses-preserved c =
    let now = c.accesses.found in
    let a = c.in_ok-access.access in
    let word = c.in-Some-next.word.now in
    let more = c.push.new.self.items in
    let stays : c.if-len-lt-MOST_ACCESSES.words ≡ c.accesses.words = elim c.if-len-lt-MOST_ACCESSES.branch [
      | then-len-lt-MOST_ACCESSES+in_default w ↦ w.words-is ∙ w.in_default.ensures ∙ c.if-next_bar.ensures
      | else-len-lt-MOST_ACCESSES w ↦ w.words-is ∙ c.if-next_bar.ensures
    ] in
    let next = sym stays ∙ c.in-Some-next.ensures in
    let is = c.in_ok-access.ensures in
    let pushed = c.in_ok-push.ensures in
    let other : is_bar word ≡ false = ap (bytes_eq word) (sym c.as_slice.ensures) ∙ sym c.eq.ensures ∙ c.if-eq.false in
    let few = c.if-len-ge-MOST_ACCESSES.false in
    record {
      same = one_more c.args.words.now c.accesses.words c.next.new.self word now.items more a c.accesses.invariant.same next is.ok.0 pushed.items;
      some = some_more _ _ c.accesses.invariant.some pushed.len;
      room = room_more _ _ _ few c.len-in-accesses.ensures pushed.len;
      reserved = omega (arith, c.accesses.invariant.reserved, pushed.capacity);
      each = each_more now.items more a c.accesses.invariant.each is.ok.1 pushed.items;
      fits = λ v. fits_more v c.args.words.now c.accesses.words c.next.new.self word _ _ _ (c.accesses.invariant.fits v) next other few c.len-in-accesses.ensures pushed.len is.fits;
    }
