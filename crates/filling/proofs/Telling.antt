-- What a pass reads for a place of which it knows all references done.
use Rattle.std.proofs.Common.{◌≡◌, ◌<◌, ◌+◌, ℕ, false, Option, Some, List, [], ◌∷◌, length, refl, sym, ap, ◌∙◌, subst, arith, ⊎_elim}
use Rattle.std.proofs.lemmas.List.{append-nil}
use Rattle.model_base.specs.Records.{end_below}
use Rattle.model_base.proofs.Replay.{by_cases}
use Rattle.bohm_core_base.specs.Batch.{Batch, reference_words, batch_slots}
use Rattle.bohm_core_base.specs.Machine.{end_of, start}
use Rattle.bohm_core_base.specs.Serial.{is_end, serial_ends, whole_end}
use Rattle.bohm_core_base.proofs.Whole.{is_end-some}
use Rattle.log_batch.specs.Supplied.{batch_of}
use Rattle.filling.specs.Keys.{Key}
use Rattle.evaluation.specs.ReadSource.{IsDeedBefore, IsReferred, PassWork}
use Rattle.words.specs.declared.knowledge.Knowledge.{Knowledge}
use Rattle.words.specs.Layout.{IsListed}
use Rattle.words.specs.Passes.{IsPassOf, PassState, Words, gone_on}
use Rattle.words.specs.Meanings.{EndMeans, FoundHeld}
use Rattle.words.specs.Views.{HoldsNone, In, IsSettled, KnowsPast, KnowsReferences, with_known, with_sighting}
use Rattle.filling_base.specs.Extending.{IsSamePass, OnlyLearns}
use Rattle.filling.specs.Readings.{CanRead, IsEndBelow, IsReadingPass, KeepsKnown, work_of}
use Rattle.filling.proofs.Lists.{at-in, in-back, in-front}

-- what a place is referred to is known done
pub referred-known : (b : Batch) (v : Knowledge) (i other : ℕ) → KnowsReferences b v i → IsReferred (record { batch = b; index = i }) other → In other v.known
referred-known b v i other knows is =
    knows other (subst (λ word. In word (reference_words b i)) is.here (at-in (reference_words b i) is.number is.within))

-- an earlier place with a deed on a table of the place is settled
pub deed-settled : (b : Batch) (v : Knowledge) (i other : ℕ) → i < b.size → KnowsReferences b v i → IsDeedBefore (record { batch = b; index = i }) other → IsSettled b v other
deed-settled b v i other within knows is = (i, is.table, is.before, within, knows, is.listed, is.deed)

-- an end that is known, and one that a load gives
pub end-early : (b : Batch) (v : Knowledge) (slot : ℕ) (end : Option ℕ) → whole_end b slot ≡ end → IsEndBelow b v slot end
end-early b v slot end is index within knows listed = ap (end_below (b.first + index)) (sym is)

pub end-word : (b : Batch) (v : Knowledge) (slot at : ℕ) (end : Option ℕ) → at ≡ slot → EndMeans b at v end → IsEndBelow b v slot end
end-word b v slot at end same tells = subst (λ s. IsEndBelow b v s end) same tells.below

-- a slot without a word has the end that it has before the batch
pub end-unlisted : (b : Batch) (listed : List ℕ) (slot : ℕ) → IsListed b listed → slot < length (batch_slots b)
    → (((index : ℕ) → serial_ends b index slot ≡ false) → whole_end b slot ≡ end_of (start b) slot)
    → ¬ (In slot listed) → whole_end b slot ≡ end_of (start b) slot
end-unlisted b listed slot right within keeps out =
    keeps (λ index. by_cases (serial_ends b index slot) (λ ends. absurd (out (right.every index slot within ends))) (λ none. none))

-- a reading goes on where the pass only finds a place done, and where it stays
pub reading-found : (words : Words Key) (key : Key) (pass after : PassState) (index other : ℕ) (named : Option (Words Key)) (known : List ℕ)
    → after ≡ gone_on pass (with_known pass.view other)
    → IsReadingPass words key pass index named known → IsReadingPass words key after index named known
reading-found words key pass after index other named known is reading =
    subst (λ p. IsReadingPass words key p index named known) (sym is)
    (record {
      reads = record {
        same_table = reading.reads.same_table;
        key = reading.reads.key;
        within = reading.reads.within;
        past = reading.reads.past;
        ready = λ one has. in-front one pass.view.known (other ∷ []) (reading.reads.ready one has);
      };
      named = reading.named;
      knows = λ one has. in-front one pass.view.known (other ∷ []) (reading.knows one has);
    })

-- a pass that learnt more can read as before
pub reads-later : (words : Words Key) (key : Key) (pass after : PassState) (index : ℕ) → ((one : ℕ) → In one pass.view.known → In one after.view.known)
    → after.table ≡ pass.table → KnowsPast (batch_of key.batch) after.view index → CanRead words key pass index → CanRead words key after index
reads-later words key pass after index more same past reads = record {
  same_table = same ∙ reads.same_table;
  key = reads.key;
  within = reads.within;
  past = past;
  ready = λ one has. more one (reads.ready one has);
}

-- the words that a reading is of are those that were named
pub named-words : (words words' : Words Key) (named : Option (Words Key)) (pass : PassState) → Some words ≡ named → Some words' ≡ named → IsPassOf words' pass → IsPassOf words pass
named-words words words' named pass is is' same_table =
    let both : Some words' ≡ Some words = is' ∙ sym is in
    let same : words' ≡ words = cc in
    same_table ∙ ap (λ (w : Words Key). w.table) same

-- a pass of the same work is the same, and it only learnt
pub same-pass : (words : Words Key) (pass after : PassState) → IsPassOf words pass → IsPassOf words after → work_of after ≡ work_of pass → IsSamePass pass after
same-pass words pass after same_table ours' work =
    let bodies = ap (λ (w : PassWork). w.bodies) work in record {
      table = ours' ∙ sym same_table;
      number = ap (λ (w : PassWork). w.number) work;
      bodies = omega arith;
    }

pub only-learns : (pass after : PassState) → KeepsKnown pass.view.known after.view.known → work_of after ≡ work_of pass → OnlyLearns pass.view after.view
only-learns pass after knows work =
    let events = ap (λ (w : PassWork). w.events) work in record {
      goes = record {
        knows = knows;
        events = [];
        adds = events ∙ sym (append-nil pass.view.events);
        gives_back = λ actor index has. absurd has;
        kept = ap (λ (w : PassWork). w.taken) work;
        sole = ap (λ (w : PassWork). w.sole) work;
        fronts = (
          (λ all. ap (λ (w : PassWork). w.placed) work ∙ all),
          (λ partition count has. subst (λ (l : List (ℕ × ℕ)). In (partition, count) l) (sym (ap (λ (w : PassWork). w.fronts) work)) has),
        );
      };
      events = events;
      sightings = ap (λ (w : PassWork). w.sightings) work;
    }

-- whether a place that is known done ended the record, by the end that a load gives
pub record-ended : (b : Batch) (v : Knowledge) (slot index : ℕ) (end : Option ℕ) → EndMeans b slot v end → In index v.known
    → is_end (b.first + index) end ≡ serial_ends b index slot
unfolding serial_ends
record-ended b v slot index end tells known =
    let place = b.first + index in
    ⊎_elim
    (λ none.
    let stays : is_end place end ≡ false = ap (is_end place) none in
    by_cases (is_end place (whole_end b slot))
    (λ ends. ap (is_end place) (tells.ended index (is_end-some place (whole_end b slot) ends) known ∙ sym (is_end-some place (whole_end b slot) ends)))
    (λ other. stays ∙ sym other))
    (λ some. ap (is_end place) (some.1 ∙ sym some.2))
    tells.none_or

-- and where it finds a place done it only learns that
pub found-learns : (pass after : PassState) (index : ℕ) → after ≡ gone_on pass (with_known pass.view index) → OnlyLearns pass.view after.view × In index after.view.known
found-learns pass after index is =
    subst (λ (p : PassState). OnlyLearns pass.view p.view × In index p.view.known) (sym is)
    (only-learns pass (gone_on pass (with_known pass.view index)) (λ one has. in-front one pass.view.known (index ∷ []) has) refl, in-back index pass.view.known)

-- a pass that holds no place finds one held by another
pub found-held : (v w : Knowledge) (index : ℕ) → HoldsNone v → FoundHeld index v w → w ≡ with_sighting v index
found-held v w index idle found = ⊎_elim (λ mine. absurd (idle index mine.1.0 mine.1.1 mine.1.2)) (λ other. other.0) found

-- through the steps of a look
pub looked : (pass begun seen after : PassState) (view : Knowledge) → begun ≡ pass → seen ≡ gone_on begun seen.view → seen.view ≡ view → after ≡ seen → after ≡ gone_on pass view
looked pass begun seen after view first goes is last = last ∙ goes ∙ ap (λ p. gone_on p seen.view) first ∙ ap (gone_on pass) is
