-- What a revocation ended, by the listed ends that are at its place.
use Rattle.std.proofs.Common.{◌≡◌, ℕ, suc, ◌+◌, ◌<◌, ◌≤◌, ◌==◌, Bool, true, Option, Some, None, List, [], ◌∷◌, ◌++◌, length, get_or, map, drop, drop-cons, add-one, append_assoc, refl, sym, ap, ◌∙◌, subst, arith, inl, inr, ⊎_elim}
use Rattle.std.specs.Prelude.{slice_get, ◌⊎◌}
use Rattle.std.specs.Option.{option_map, option_map_or}
use Rattle.std.specs.List.Sorted.{IsStrictlyIncreasing}
use Rattle.std.proofs.lemmas.Bool.{eqb-true}
use Rattle.std.proofs.lemmas.List.{append-nil, drop_all, length-map}
use Rattle.model_base.specs.declared.deed.Deed.{Deed}
use Rattle.model_base.specs.declared.deed.Deed.TheVariants.{Granting, Revoking}
use Rattle.model_base.specs.declared.deed.Grant.{Grant}
use Rattle.model_base.specs.declared.deed.Need.{Need}
use Rattle.model_base.specs.declared.outcome.Outcome.{Outcome}
use Rattle.model_base.specs.declared.statement.Form.{Form}
use Rattle.model_base.specs.declared.statement.Statement.{Statement}
use Rattle.model_base.specs.Body.{Ending, aborted, completed, undeclared}
use Rattle.model_base.specs.Ranks.{rank}
use Rattle.model_base.specs.Laws.{IsPart, left_out, none, stays}
use Rattle.model_base.specs.Outcomes.{World, at_place, body, deeds_before, deeds_of, ended, judged, missing, owners, step_form, world_before}
use Rattle.model_base.specs.Privileges.{is_among, kept, lost, place_of}
use Rattle.model_base.specs.Records.{grants_of}
use Rattle.model_base.proofs.Growth.{deeds_before-stands}
use Rattle.model_base.proofs.Parts.{part-beginning, part-part}
use Rattle.model_base.proofs.Recorded.{part-kept_grants}
use Rattle.model_base.proofs.Records.{grants-append}
use Rattle.model_base.proofs.Replay.{by_cases}
use Rattle.own_words.specs.Places.{own_words}
use Rattle.own_words.specs.Words.{ended_in, outcome_word}
use Rattle.evaluation.specs.Answering.{ended_by_deeds}
use Rattle.bohm_core_base.specs.Batch.{Batch, IsSoundBatch, rank_at, batch_slots, was_done}
use Rattle.bohm_core_base.specs.Deeds.{is_made, made_before, named_before}
use Rattle.bohm_core_base.specs.Serial.{serial_ends, serial_words, batch_world_before}
use Rattle.bohm_core_base.proofs.Slots.{made-named, made-split}
use Rattle.bohm_core_base.proofs.Whole.{deeds-made, part-grants_filter, serial-placed, serial_deeds}
use Rattle.log_batch.specs.Laws.{IsOfLog}
use Rattle.log_batch.specs.Supplied.{LogRange, batch_of, range_of}
use Rattle.log_batch.proofs.SerialRuns.{serial_runs_agree, serial_words_are}
use Rattle.log_batch.proofs.Sound.{batches_are_sound}
use Rattle.evaluation.proofs.Comes.{ends-told}
use Rattle.evaluation.proofs.Rising.{ended-rises}
use Rattle.words.specs.Layout.{IsListed}
use Rattle.words.specs.Views.{In}
use Rattle.filling.specs.Outcomes.{ended_ranks_at, outcome_in}
use Rattle.filling.proofs.Lists.{Above, Rises, above-at, any-in, in-any, in-at, rises-by, same-members}
use Rattle.filling.proofs.Numbered.{grant-there}

module _ (b : Batch) (index : ℕ) where
  -- it is the rank of one of these slots that is ended
  abbrev Comes : List ℕ → ℕ → Type 0
  Comes slots x = (slot : ℕ) × In slot slots × (serial_ends b index slot ≡ true) × (rank_at b slot ≡ x)

  comes-later : (slot : ℕ) (slots : List ℕ) (x : ℕ) → Comes slots x → Comes (slot ∷ slots) x
  comes-later slot slots x comes = (comes.0, inr comes.1, comes.2, comes.3)

  ended-comes : (slots : List ℕ) (x : ℕ) → In x (ended_ranks_at b slots index) → Comes slots x
  ended-comes [] x has = absurd has
  ended-comes (slot ∷ slots) x has =
      by_cases (serial_ends b index slot)
      (λ ends.
      let split : (x ≡ rank_at b slot) ⊎ In x (ended_ranks_at b slots index) = rw ends at has in
      ⊎_elim (λ is. (slot, inl refl, ends, sym is)) (λ more. comes-later slot slots x (ended-comes slots x more)) split)
      (λ stays. comes-later slot slots x (ended-comes slots x (rw stays at has)))

  comes-ended : (slots : List ℕ) (slot : ℕ) → In slot slots → serial_ends b index slot ≡ true → In (rank_at b slot) (ended_ranks_at b slots index)
  comes-ended [] slot has ends = absurd has
  comes-ended (one ∷ slots) slot has ends =
      ⊎_elim
      (λ is. let here : serial_ends b index one ≡ true = ap (serial_ends b index) (sym is) ∙ ends in rw here (inl (ap (rank_at b) is)))
      (λ more.
      by_cases (serial_ends b index one)
      (λ here. rw here (inr (comes-ended slots slot more ends)))
      (λ stays. rw stays (comes-ended slots slot more ends)))
      has

  -- the ranks of slots that rise do so too
  above-ended : (p : ℕ) (slots : List ℕ) → ((slot : ℕ) → In slot slots → p < rank_at b slot) → Above p (ended_ranks_at b slots index)
  above-ended p [] all = tt
  above-ended p (slot ∷ slots) all =
      let rest = above-ended p slots (λ one has. all one (inr has)) in
      by_cases (serial_ends b index slot)
      (λ ends. rw ends (all slot (inl refl), rest))
      (λ stays. rw stays rest)

  ended-rise : (slots : List ℕ) → Rises slots → ((slot later : ℕ) → In slot slots → In later slots → slot < later → rank_at b slot < rank_at b later) → Rises (ended_ranks_at b slots index)
  ended-rise [] rise order = tt
  ended-rise (slot ∷ slots) rise order =
      let rest = ended-rise slots rise.1 (λ one later has has' less. order one later (inr has) (inr has') less) in
      by_cases (serial_ends b index slot)
      (λ ends. rw ends (above-ended (rank_at b slot) slots (λ one has. order slot one (inl refl) (inr has) (above-at slot one slots rise.0 has)), rest))
      (λ stays. rw stays rest)

  -- the next slot
  pub ended-more : (slots before after whole : List ℕ) (k : ℕ) → k < length slots → after ≡ before ++ ended_ranks_at b (get_or slots k 0 ∷ []) index
      → before ++ ended_ranks_at b (drop k slots) index ≡ whole → after ++ ended_ranks_at b (drop (k + 1) slots) index ≡ whole
  ended-more slots before after whole k within is all =
      let one = get_or slots k 0 in
      let split : drop k slots ≡ one ∷ drop (suc k) slots = drop-cons slots k 0 within in
      let next : drop (k + 1) slots ≡ drop (suc k) slots = ap (λ n. drop n slots) (add-one k) in
      let both : ended_ranks_at b (one ∷ []) index ++ ended_ranks_at b (drop (suc k) slots) index ≡ ended_ranks_at b (one ∷ drop (suc k) slots) index =
      by_cases (serial_ends b index one) (λ ends. rw ends refl) (λ stays. rw stays refl) in
      ap (λ rest. after ++ ended_ranks_at b rest index) next
      ∙ ap (λ front. front ++ ended_ranks_at b (drop (suc k) slots) index) is
      ∙ append_assoc before (ended_ranks_at b (one ∷ []) index) (ended_ranks_at b (drop (suc k) slots) index)
      ∙ ap (λ rest. before ++ rest) (both ∙ ap (λ rest. ended_ranks_at b rest index) (sym split))
      ∙ all

  -- and after the last slot they are all
  pub ended-all : (slots names whole : List ℕ) (k : ℕ) → length slots ≤ k → names ++ ended_ranks_at b (drop k slots) index ≡ whole → names ≡ whole
  ended-all slots names whole k past all =
      sym (append-nil names) ∙ subst (λ rest. names ++ ended_ranks_at b rest index ≡ whole) (drop_all k slots past) all

-- a lost grant's rank is that of one of the grants
lost-in : (x : ℕ) (before after : List Grant) → In x (lost before after) → In x (map rank before)
lost-in x [] after has = absurd has
lost-in x (grant ∷ before) after has =
    by_cases (is_among (rank grant) after)
    (λ stays. inr (lost-in x before after (rw stays at has)))
    (λ gone.
    let split : (x ≡ rank grant) ⊎ In x (lost before after) = rw gone at has in
    ⊎_elim (λ is. inl is) (λ more. inr (lost-in x before after more)) split)

part-in : {part grants : List Grant} → IsPart part grants → (x : ℕ) → In x (map rank part) → In x (map rank grants)
part-in none x has = has
part-in (left_out p) x has = inr (part-in p x has)
part-in (stays p) x has = ⊎_elim (λ is. inl is) (λ more. inr (part-in p x more)) has

-- the grants of the deeds before an index have slots
granted-slots : (b : Batch) → IsSoundBatch b → (n : ℕ) → n ≤ b.size → IsPart (grants_of (batch_world_before b n).deeds) (batch_slots b)
unfolding batch_slots
granted-slots b sound n within =
    let d = serial_deeds b in
    let placed = serial-placed b sound in
    let split = made-split d placed b.size n within in
    let first = grants_of (made_before d n) in
    let test : Deed → Bool = λ deed. is_made d (place_of deed) in
    let beginning : IsPart first (grants_of (made_before d b.size)) =
    rw (split.1, grants-append (made_before d n) split.0) (part-beginning first (grants_of split.0)) in
    let all : IsPart (grants_of (made_before d b.size)) (grants_of (named_before d b.size)) =
    rw (made-named d placed b.size) (part-grants_filter test (named_before d b.size)) in
    rw (deeds-made b sound n) (part-part beginning all)

-- what a done place ended is what its deeds end
ended-body : (owned : List ℕ) (world : World) (made : List Deed) (ending : Ending) → outcome_word (ended owned world made ending) ≡ 1
    → ended_in (ended owned world made ending) ≡ ended_by_deeds owned world.deeds made
ended-body owned world [] (completed rows outputs) done = refl
ended-body owned world (Granting grant ∷ made) (completed rows outputs) done = refl
ended-body owned world (Revoking revocation ∷ made) (completed rows outputs) done = refl
ended-body owned world made (aborted step reason) done = absurd (omega arith)
ended-body owned world made (undeclared step) done = absurd (omega arith)

ended-judged : (owned : List ℕ) (place : ℕ) (world : World) (statement : Statement) (lack : Option Need) → outcome_word (judged owned place world statement lack).0 ≡ 1
    → ended_in (judged owned place world statement lack).0 ≡ ended_by_deeds owned world.deeds (deeds_of place statement.user statement.form)
ended-judged owned place world statement None done =
    ended-body owned world (deeds_of place statement.user statement.form) (body world.rows statement.form) done
ended-judged owned place world statement (Some need) done = absurd (omega arith)

ended-form : (owned : List ℕ) (place : ℕ) (world : World) (statement : Statement) (form : Form) → outcome_word (step_form owned place world statement form).0 ≡ 1
    → ended_in (step_form owned place world statement form).0 ≡ ended_by_deeds owned world.deeds (deeds_of place statement.user statement.form)
ended-form owned place world statement (Form.Create table columns) done = absurd (omega arith)
ended-form owned place world statement (Form.Run accesses steps deed) done =
    ended-judged owned place world statement (missing owned world statement.user (Form.Run accesses steps deed)) done
ended-form owned place world statement (Form.Deed deed) done =
    ended-judged owned place world statement (missing owned world statement.user (Form.Deed deed)) done

module _ (ranged : LogRange) (is : IsOfLog (range_of ranged)) (index : ℕ) (within : index < ranged.size) (statement : Statement)
    (at : slice_get ranged.log.statements (ranged.first + index) ≡ Some statement) where
  abbrev place : ℕ
  place = ranged.first + index

  abbrev log : List Statement
  log = ranged.log.statements

  abbrev pub comes : Outcome
  comes = (at_place (owners log) place (world_before log place) statement).0

  -- a place of the log has an outcome
  pub outcome-there : outcome_in ranged index ≡ Some comes
  outcome-there = ap (option_map (λ (s : Statement). (at_place (owners log) place (world_before log place) s).0)) at

  -- the serial run says that the place is done if its outcome does
  done-told : was_done (serial_words (batch_of ranged) index) ≡ (outcome_word comes == 1)
  unfolding was_done
  done-told =
      let words : Option Statement → List ℕ =
      λ one. option_map_or (λ (s : Statement). own_words (range_of ranged).columns s.form (at_place (owners log) place (world_before log place) s)) one [] in
      ap was_done (serial_words_are (range_of ranged) is index statement at) ∙ ap (λ (one : Option Statement). was_done (words one)) at

  -- what the deeds end was granted
  ended-granted : (made : List Deed) (x : ℕ) → In x (ended_by_deeds (owners log) (deeds_before log place) made) → In x (map rank (batch_slots (batch_of ranged)))
  ended-granted [] x has = absurd has
  ended-granted (Granting grant ∷ made) x has = absurd has
  ended-granted (Revoking revocation ∷ made) x has =
      let b = batch_of ranged in
      let before = deeds_before log place in
      let same : (batch_world_before b index).deeds ≡ before = (serial_runs_agree (range_of ranged) is index).deeds in
      let first = part-kept_grants (owners log) before in
      let second = subst (λ (deeds : List Deed). IsPart (grants_of deeds) (batch_slots b)) same (granted-slots b (batches_are_sound (range_of ranged) is) index (omega arith)) in
      part-in (part-part first second) x (lost-in x (kept (owners log) before) (kept (owners log) (before ++ Revoking revocation ∷ [])) has)

  -- so the listed ends at the place are those of the records that its outcome says that it ended
  pub endings-told : (listed : List ℕ) → IsStrictlyIncreasing listed → IsListed (batch_of ranged) listed
      → ((slot other : ℕ) (grant later : Grant) → slot < other → slice_get (batch_slots (batch_of ranged)) slot ≡ Some grant
      → slice_get (batch_slots (batch_of ranged)) other ≡ Some later → rank grant < rank later)
      → was_done (serial_words (batch_of ranged) index) ≡ true → (found : Outcome) → outcome_in ranged index ≡ Some found
      → ended_ranks_at (batch_of ranged) listed index ≡ ended_in found
  endings-told listed rise right order done found told =
      let b = batch_of ranged in
      let made = deeds_of place statement.user statement.form in
      let ends = ended_by_deeds (owners log) (deeds_before log place) made in
      let one : outcome_word comes ≡ 1 = eqb-true (outcome_word comes) 1 (sym done-told ∙ done) in
      let both : Some found ≡ Some comes = sym told ∙ outcome-there in
      let same : found ≡ comes = cc in
      let proper = (deeds_before-stands log place).proper in
      let there : (x : ℕ) → In x (ended_ranks_at b listed index) → In x ends =
      λ x has.
      (let ender = ended-comes b index listed x has in
      let slot = in-at ender.0 listed ender.1 in
      let low : ender.0 < length (batch_slots b) = subst (λ s. s < length (batch_slots b)) slot.2 (right.within slot.0 slot.1) in
      let grant = grant-there b ender.0 low in
      let listed-there = any-in (rank grant.0) ends (ends-told ranged is index within statement at done ender.0 grant.0 grant.1 ∙ ender.2) in
      subst (λ p. In p ends) (sym grant.2 ∙ ender.3) listed-there) in
      let back : (x : ℕ) → In x ends → In x (ended_ranks_at b listed index) =
      λ x has.
      (let slot = in-at x (map rank (batch_slots b)) (ended-granted made x has) in
      let count = length-map (batch_slots b) rank in
      let low : slot.0 < length (batch_slots b) = (let below = slot.1 in omega arith) in
      let grant = grant-there b slot.0 low in
      let is-rank : rank_at b slot.0 ≡ x = slot.2 in
      let ends-it = sym (ends-told ranged is index within statement at done slot.0 grant.0 grant.1)
      ∙ in-any (rank grant.0) ends (subst (λ p. In p ends) (sym is-rank ∙ grant.2) has) in
      subst (λ p. In p (ended_ranks_at b listed index)) is-rank (comes-ended b index listed slot.0 (right.every index slot.0 low ends-it) ends-it)) in
      let up : Rises (ended_ranks_at b listed index) =
      ended-rise b index listed (rises-by listed rise)
      (λ s t has has' less.
      let first = in-at s listed has in
      let second = in-at t listed has' in
      let low : s < length (batch_slots b) = subst (λ n. n < length (batch_slots b)) first.2 (right.within first.0 first.1) in
      let high : t < length (batch_slots b) = subst (λ n. n < length (batch_slots b)) second.2 (right.within second.0 second.1) in
      let mine = grant-there b s low in
      let theirs = grant-there b t high in
      let below = order s t mine.0 theirs.0 less mine.1 theirs.1 in
      let mine-is = mine.2 in
      let theirs-is = theirs.2 in
      omega arith) in
      same-members (ended_ranks_at b listed index) ends up (rises-by ends (ended-rises (owners log) (deeds_before log place) made proper)) there back
      ∙ sym (ended-form (owners log) place (world_before log place) statement statement.form one)
      ∙ ap ended_in (sym same)
