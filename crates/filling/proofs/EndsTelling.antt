-- Ends that are given are those of the serial run.
use Rattle.std.proofs.Common.{◌≡◌, ◌<◌, ◌≤◌, ◌+◌, ◌-◌, ℕ, zero, suc, true, false, Option, Some, None, [], length, refl, ap, sym, ◌∙◌, subst, arith, inl, inr}
use Rattle.std.specs.Prelude.{◌==◌, nat_lt}
use Rattle.std.proofs.lemmas.Bool.{cases_lt, eq-eqb, eqb-true}
use Rattle.std.proofs.lemmas.Bool.Decides.{nat_tests}
use Rattle.model_base.specs.Records.{end_below}
use Rattle.model_base.proofs.Replay.{by_cases}
use Rattle.bohm_core_base.specs.Batch.{Batch, IsSoundBatch, batch_slots}
use Rattle.bohm_core_base.specs.Machine.{end_of, start}
use Rattle.bohm_core_base.specs.Serial.{serial_ends, whole_end}
use Rattle.bohm_core_base.proofs.Reach.{ends-right, unended-stays}
use Rattle.bohm_core_base.proofs.Whole.{ends-whole, serial-ends-from}
use Rattle.filling.specs.declared.completion.ends.Ends.{Ends}
use Rattle.filling.specs.Ends.{AreSerialEnds, NotesWord, KeepsNoted, NotesOneMore, NotesEndsOf, noted_end}

-- one more end that is the serial run's
module _ (b : Batch) (old new : Ends) (slot end : ℕ) (told : AreSerialEnds b old) (within : slot < length (batch_slots b)) (whole : whole_end b slot ≡ Some end) (changes : NotesOneMore slot end old new) where
  pub told-here : noted_end new slot ≡ Some end
  told-here = let same : (slot == slot) ≡ true = eq-eqb slot slot refl in changes slot ∙ rw same refl

  told-at : (other place : ℕ) → noted_end new other ≡ Some place → (other < length (batch_slots b)) × (whole_end b other ≡ Some place)
  told-at other place is =
      by_cases (slot == other)
      (λ same.
      let is-slot : slot ≡ other = eqb-true slot other same in
      let now : noted_end new other ≡ Some end = changes other ∙ rw same refl in
      let both : Some end ≡ Some place = sym now ∙ is in
      (subst (λ k. k < length (batch_slots b)) is-slot within, subst (λ k. whole_end b k ≡ Some place) is-slot (whole ∙ both)))
      (λ differs.
      let now : noted_end new other ≡ noted_end old other = changes other ∙ rw differs refl in
      let before : noted_end old other ≡ Some place = sym now ∙ is in
      (told.slots other place before, told.whole other place before))

  pub told-more : AreSerialEnds b new
  told-more = record { slots = λ other place is. (told-at other place is).0; whole = λ other place is. (told-at other place is).1 }

  pub told-keeps : KeepsNoted old new
  told-keeps other place is =
      by_cases (slot == other)
      (λ same.
      let is-slot : slot ≡ other = eqb-true slot other same in
      let now : noted_end new other ≡ Some end = changes other ∙ rw same refl in
      now ∙ sym whole ∙ ap (whole_end b) is-slot ∙ told.whole other place is)
      (λ differs.
      let now : noted_end new other ≡ noted_end old other = changes other ∙ rw differs refl in
      now ∙ is)

-- what a word says
pub record Takes (b : Batch) (slot word : ℕ) (old new : Ends) : Type 0 where
  pub told : AreSerialEnds b new
  pub keeps : KeepsNoted old new
  pub here : (end : ℕ) → word ≡ suc end → noted_end new slot ≡ Some end

pub taken-word : (b : Batch) (old new : Ends) (slot word : ℕ) → AreSerialEnds b old → slot < length (batch_slots b)
    → ((end : ℕ) → word ≡ suc end → whole_end b slot ≡ Some end) → NotesWord slot word old new → Takes b slot word old new
taken-word b old new slot zero told within whole is =
    record {
      told = record {
        slots = λ other place now. told.slots other place (sym (is other) ∙ now);
        whole = λ other place now. told.whole other place (sym (is other) ∙ now);
      };
      keeps = λ other place before. is other ∙ before;
      here = λ end none. absurd (omega arith);
    }
taken-word b old new slot (suc word) told within whole is =
    record {
      told = told-more b old new slot word told within (whole word refl) is;
      keeps = told-keeps b old new slot word told within (whole word refl) is;
      here = λ end same. (let one : word ≡ end = omega arith in told-here b old new slot word told within (whole word refl) is ∙ ap (λ (n : ℕ). Some n) one);
    }

-- what was told of a place is given still
pub tells-kept : (b : Batch) (index : ℕ) (old new : Ends) → KeepsNoted old new → NotesEndsOf b index old → NotesEndsOf b index new
tells-kept b index old new keeps tells slot within ends = keeps slot (b.first + index) (tells slot within ends)

-- where no end is told of a slot, that before the batch is that of the serial run below a place of which all below it is given
module _ (b : Batch) (sound : IsSoundBatch b) (index : ℕ) (ends : Ends) (all : (earlier : ℕ) → earlier < index → NotesEndsOf b earlier ends) (slot : ℕ) (within : slot < length (batch_slots b)) (none : noted_end ends slot ≡ None) where
  abbrev place : ℕ
  place = b.first + index

  unended : (end : ℕ) → whole_end b slot ≡ Some end → end_of (start b) slot ≡ None → nat_lt end place ≡ false
  unended end whole free =
      by_cases (nat_lt end place)
      (λ less. absurd (elim (cases_lt end b.first) [ inl before ↦ earlier before | inr from ↦ here less from ]))
      (λ above. above)
    where
      earlier : end < b.first → ⊥
      earlier before =
          let stays : whole_end b slot ≡ end_of (start b) slot =
          unended-stays b sound slot within
          (λ n. by_cases (serial_ends b n slot)
          (λ ends-there. (let at : Some end ≡ Some (b.first + n) = sym whole ∙ ends-whole b n slot ends-there in let same : end ≡ b.first + n = cc in absurd (omega arith)))
          (λ not. not)) in
          let no : Some end ≡ None = sym whole ∙ stays ∙ free in
          absurd (cc)

      here : nat_lt end place ≡ true → b.first ≤ end → ⊥
      here less from =
          let low : end < place = grind (arith, nat_tests) in
          let at : b.first + (end - b.first) ≡ end = omega arith in
          let set = serial-ends-from b (end - b.first) slot end whole at in
          let told : noted_end ends slot ≡ Some (b.first + (end - b.first)) = all (end - b.first) (omega arith) slot within set in
          let no : None ≡ Some (b.first + (end - b.first)) = sym none ∙ told in
          absurd (cc)

  pub untold-below : end_below place (end_of (start b) slot) ≡ end_below place (whole_end b slot)
  untold-below = by_start (end_of (start b) slot) refl
    where
      by_whole : (end : Option ℕ) → whole_end b slot ≡ end → end_of (start b) slot ≡ None → end_below place None ≡ end_below place (whole_end b slot)
      by_whole None whole free = ap (end_below place) (sym whole)
      by_whole (Some end) whole free =
          let above = unended end whole free in
          let gone : None ≡ end_below place (Some end) = rw above refl in
          gone ∙ ap (end_below place) (sym whole)

      by_start : (end : Option ℕ) → end_of (start b) slot ≡ end → end_below place (end_of (start b) slot) ≡ end_below place (whole_end b slot)
      by_start None free = ap (end_below place) free ∙ by_whole (whole_end b slot) refl free
      by_start (Some end) set = ap (end_below place) (set ∙ sym (ends-right b sound [] slot end set))

-- an end that is given is that of the serial run at any place
pub told-below : (b : Batch) (place : ℕ) (ends : Ends) (slot end : ℕ) → AreSerialEnds b ends → noted_end ends slot ≡ Some end
    → end_below place (Some end) ≡ end_below place (whole_end b slot)
told-below b place ends slot end told is = ap (end_below place) (sym (told.whole slot end is))
