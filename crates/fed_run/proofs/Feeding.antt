-- Bytes that are taken and given, one step after another.
use Rattle.std.proofs.Common.{true, ◌≡◌, ◌≤◌, ◌<◌, ◌+◌, ◌-◌, ◌++◌, ℕ, List, [], length, take, drop, refl, ap, sym, ◌∙◌, subst, arith, append_assoc, take-add}
use Rattle.std.specs.Prelude.{Err, OnErr, OnOk, Ok, Result}
use Rattle.report.specs.Report.{IsReport}
use Rattle.std.proofs.lemmas.List.{append-nil, length-append, length-drop, length-take-le, take-append-drop}
use Rattle.std.proofs.lemmas.Slice.{take-put_mid}
use borrow.Rule.Slice.PartMut.{put_mid}
use Rattle.batched_text.specs.Batching.{KeepsLines}
use Rattle.fed_run.specs.Stands.{Feeds, Gives, IsGivenOut, IsFed, TakesBytes, unsent}
use Rattle.fed_run.specs.declared.fed.FedRun.{FedRun}
use Rattle.fed_run.proofs.FedTexts.{report_given, stands_given, stands_told}

-- nothing was given
pub gives_none : (old new : FedRun) (out : List ℕ) (made : ℕ) → made ≤ length out → ((input written : List ℕ) → IsFed old input written → IsFed new input written)
    → new.is_ended ≡ old.is_ended → Gives old new out out made made
gives_none old new out made within stands ended = record {
  made = within;
  len = refl;
  stands = λ input written so. stands input (written ++ take made out) so;
  ended = ended;
}

-- one step after another
pub gives_then : (old mid new : FedRun) (out_old out_mid out_new : List ℕ) (made_old made_mid made_new : ℕ)
    → Gives old mid out_old out_mid made_old made_mid → Gives mid new out_mid out_new made_mid made_new → Gives old new out_old out_new made_old made_new
gives_then old mid new out_old out_mid out_new made_old made_mid made_new first next = record {
  made = next.made;
  len = next.len ∙ first.len;
  stands = λ input written so. next.stands input written (first.stands input written so);
  ended = next.ended ∙ first.ended;
}

-- bytes were given at first
pub feeds_given : (input out_old out_new : List ℕ) (old new : FedRun) (made : ℕ) → Gives old new out_old out_new 0 made → Feeds input out_new old new 0 made
feeds_given input out_old out_new old new made gives = record {
  in_input = omega arith;
  in_out = gives.made;
  stands = λ text written so.
      subst (λ (w : List ℕ). IsFed new w (written ++ take made out_new)) (sym (append-nil text))
      (gives.stands text written (subst (IsFed old text) (sym (append-nil written)) so));
  ended = gives.ended;
}

-- and further ones
pub feeds_gives : (input out_old out_new : List ℕ) (old mid new : FedRun) (used made_old made_new : ℕ)
    → Feeds input out_old old mid used made_old → Gives mid new out_old out_new made_old made_new → Feeds input out_new old new used made_new
feeds_gives input out_old out_new old mid new used made_old made_new feeds gives = record {
  in_input = feeds.in_input;
  in_out = gives.made;
  stands = λ text written so. gives.stands (text ++ take used input) written (feeds.stands text written so);
  ended = gives.ended ∙ feeds.ended;
}

-- none was taken, and the run is as far as before
pub feeds_same : (input out : List ℕ) (old mid new : FedRun) (used made : ℕ) → Feeds input out old mid used made
    → ((text written : List ℕ) → IsFed mid text written → IsFed new text written) → new.is_ended ≡ mid.is_ended → Feeds input out old new used made
feeds_same input out old mid new used made feeds stands ended = record {
  in_input = feeds.in_input;
  in_out = feeds.in_out;
  stands = λ text written so. stands (text ++ take used input) (written ++ take made out) (feeds.stands text written so);
  ended = ended ∙ feeds.ended;
}

-- what holds at each exit holds at an error
pub on_err : {T E : Type 0} (P : Type 0) (r : Result T E) → P → OnErr r P
on_err P (Ok x) p = tt
on_err P (Err e) p = p

-- what follows holds where the call was done
pub on_ok : {T E : Type 0} {P Q : Type 0} (r : Result T E) → OnOk r P → (P → Q) → OnOk r Q
on_ok (Ok x) p then = then p
on_ok (Err e) p then = tt

-- waiting bytes were given
pub gives_more : (old new : FedRun) (out copied : List ℕ) (made count : ℕ) → made ≤ length out → made + count ≤ length out → count ≤ length (unsent old)
    → copied ≡ take count (unsent old) → unsent new ≡ drop count (unsent old)
    → new.begun.items ≡ old.begun.items → new.is_ended ≡ old.is_ended → KeepsLines old.run new.run
    → Gives old new out (put_mid made (made + count - made) out copied) made (made + count)
gives_more old new out copied made count before within few is left begun ended keeps =
    let long : length copied ≡ count = ap length is ∙ length-take-le count (unsent old) few in
    let size : made + count - made ≡ count = omega arith in
    let whole : length (put_mid made (made + count - made) out copied) ≡ length out =
    omega (
      arith,
      size,
      long,
      before,
      within,
      length-append (take made out) (copied ++ drop (made + count - made) (drop made out)),
      length-append copied (drop (made + count - made) (drop made out)),
      length-drop (made + count - made) (drop made out),
      length-drop made out,
      length-take-le made out before,
    ) in
    let front : take (made + count) (put_mid made (made + count - made) out copied) ≡ take made out ++ copied =
    take-put_mid made (made + count - made) out copied (made + count) (omega (arith, long)) before in
    let all : copied ++ unsent new ≡ unsent old =
    ap (λ (w : List ℕ). w ++ unsent new) is ∙ ap (λ (w : List ℕ). take count (unsent old) ++ w) left ∙ take-append-drop count (unsent old) in
    record {
      made = omega (arith, whole, within);
      len = whole;
      stands = λ input written so.
          subst (IsFed new input) (append_assoc written (take made out) copied ∙ ap (λ (w : List ℕ). written ++ w) (sym front))
          (stands_given old new begun ended keeps copied all input (written ++ take made out) so);
      ended = ended;
    }

-- no input was taken, as there is none
pub feeds_nothing : (out : List ℕ) (old new : FedRun) (used made : ℕ) → Feeds [] out old new used made → (text written : List ℕ) → IsFed old text written
    → IsFed new text (written ++ take made out)
feeds_nothing out old new used made feeds text written stands =
    let nothing : List ℕ = [] in
    let none : used ≡ 0 = omega (arith, feeds.in_input) in
    let same : text ++ take used nothing ≡ text = ap (λ (n : ℕ). text ++ take n nothing) none ∙ append-nil text in
    subst (λ (w : List ℕ). IsFed new w (written ++ take made out)) same (feeds.stands text written stands)

-- once there is room all was given, and it is the report
pub reports : {T E : Type 0} (r : Result T E) (old new : FedRun) (out : List ℕ) (size used made : ℕ) → Feeds [] out old new used made → OnOk r (IsGivenOut new out made)
    → OnOk r (unsent new ≡ [] → new.begun.items ≡ []) → length out ≡ size
    → OnOk r (made < size → (text written : List ℕ) → IsFed old text written → IsReport text (written ++ take made out))
reports (Err e) old new out size used made feeds settled none same = tt
reports (Ok x) old new out size used made feeds settled none same = λ room text written stands.
    let all : unsent new ≡ [] = settled.full (omega (arith, room, same)) in
    report_given new (none all) all (settled.settled all) text (written ++ take made out) (feeds_nothing out old new used made feeds text written stands)

-- bytes were given, and none taken
pub feeds_started : (input out_old out_new : List ℕ) (old new : FedRun) (used made : ℕ) → used ≡ 0 → Gives old new out_old out_new 0 made
    → Feeds input out_new old new used made
feeds_started input out_old out_new old new used made none gives =
    subst (λ (n : ℕ). Feeds input out_new old new n made) (sym none) (feeds_given input out_old out_new old new made gives)

-- no byte was taken yet
pub takes_none : (input : List ℕ) (run : FedRun) (used : ℕ) → used ≤ length input → TakesBytes input run run used used
takes_none input run used within = record { forward = omega arith; within = within; stands = λ text written so. so }

-- and further ones
pub takes_more : (input bytes : List ℕ) (old mid new : FedRun) (used now count : ℕ) → TakesBytes input old mid used now → bytes ≡ drop now input → count ≤ length bytes
    → ((text written : List ℕ) → IsFed mid text written → IsFed new (text ++ take count bytes) written) → TakesBytes input old new used (now + count)
takes_more input bytes old mid new used now count takes is less stands = record {
  forward = omega (arith, takes.forward);
  within = omega (arith, takes.within, less, ap length is, length-drop now input);
  stands = λ text written so.
      let piece : take now input ++ take count bytes ≡ take (now + count) input =
      ap (λ (w : List ℕ). take now input ++ take count w) is ∙ sym (take-add now count input) in
      subst (λ (w : List ℕ). IsFed new w written) (append_assoc text (take now input) (take count bytes) ∙ ap (λ (w : List ℕ). text ++ w) piece)
      (stands (text ++ take now input) written (takes.stands text written so));
}

-- lines were taken
pub feeds_takes : (input out : List ℕ) (old mid new : FedRun) (used now made told : ℕ) → Feeds input out old mid used made → TakesBytes input mid new used now
    → new.is_ended ≡ mid.is_ended → told ≡ made → Feeds input out old new now told
feeds_takes input out old mid new used now made told feeds takes ended same = subst (Feeds input out old new now) (sym same) (record {
  in_input = takes.within;
  in_out = feeds.in_out;
  stands = λ text written so. takes.stands text (written ++ take made out) (feeds.stands text written so);
  ended = ended ∙ feeds.ended;
})

-- and bytes given
pub feeds_lines : (input out_old out_new : List ℕ) (old mid next new : FedRun) (used now made_old made_mid made_new : ℕ) → Feeds input out_old old mid used made_old
    → TakesBytes input mid next used now → next.is_ended ≡ mid.is_ended → made_mid ≡ made_old → Gives next new out_old out_new made_mid made_new
    → Feeds input out_new old new now made_new
feeds_lines input out_old out_new old mid next new used now made_old made_mid made_new feeds takes ended same gives =
    feeds_gives input out_old out_new old next new now made_mid made_new (feeds_takes input out_old old mid next used now made_old made_mid feeds takes ended same) gives

-- the last line was taken, and bytes were given
pub feeds_last : (input out_old out_new : List ℕ) (old mid next new : FedRun) (used made_old made_new : ℕ) → Feeds input out_old old mid used made_old
    → ((text written : List ℕ) → IsFed mid text written → IsFed next text written) → next.is_ended ≡ mid.is_ended
    → Gives next new out_old out_new made_old made_new → Feeds input out_new old new used made_new
feeds_last input out_old out_new old mid next new used made_old made_new feeds stands ended gives =
    feeds_gives input out_old out_new old next new used made_old made_new (feeds_same input out_old old mid next used made_old feeds stands ended) gives

-- the text was ended first
module _ (out : List ℕ) (old mid new : FedRun) (used made : ℕ) (feeds : Feeds [] out mid new used made) (begun : mid.begun.items ≡ old.begun.items)
    (ended : mid.is_ended ≡ true) (same_run : mid.run ≡ old.run) (unsent_is : unsent mid ≡ unsent old) where
  pub told_stands : (text written : List ℕ) → IsFed old text written → IsFed new text (written ++ take made out)
  told_stands text written stands =
      feeds_nothing out mid new used made feeds text written (stands_told old mid begun ended same_run unsent_is text written stands)

  on_told : {T E : Type 0} (r : Result T E) (size : ℕ)
      → OnOk r (made < size → (text written : List ℕ) → IsFed mid text written → IsReport text (written ++ take made out))
      → OnOk r (made < size → (text written : List ℕ) → IsFed old text written → IsReport text (written ++ take made out))
  on_told (Err e) size is = tt
  on_told (Ok x) size is = λ room text written stands. is room text written (stands_told old mid begun ended same_run unsent_is text written stands)

  pub told_reports : {T E : Type 0} (r : Result T E) (size : ℕ) → OnOk r (IsGivenOut new out made) → OnOk r (unsent new ≡ [] → new.begun.items ≡ []) → length out ≡ size
      → OnOk r (made < size → (text written : List ℕ) → IsFed old text written → IsReport text (written ++ take made out))
  told_reports r size settled none same = on_told r size (reports r mid new out size used made feeds settled none same)
