-- The numbers of the listed ends of some records.
use Rattle.std.proofs.Common.{◌≡◌, ◌≢◌, ℕ, zero, suc, ◌+◌, ◌<◌, ◌==◌, true, false, cond, Option, Some, None, List, [], ◌∷◌, ◌++◌, length, get_or, drop, drop-cons, add-one, append_assoc, refl, sym, ap, ◌∙◌, subst, arith, inl, inr, ⊎_elim}
use Rattle.std.specs.Prelude.{nat_lt, slice_get}
use Rattle.std.specs.List.{position_or_len}
use Rattle.std.specs.Option.{MatchOption, option_to_list}
use Rattle.std.proofs.lemmas.Bool.{cases_lt, eq-eqb, eqb-true, le-ltb, lt-ltb, true≢false}
use Rattle.std.proofs.lemmas.List.{get_or-map}
use Rattle.std.proofs.lemmas.List.Quantifiers.{position-Some}
use Rattle.std.proofs.lemmas.List.Sums.{fails_before_first, position_or_len_is}
use Rattle.std.proofs.lemmas.Option.{slice_get-get_or, slice_get_within}
use Rattle.model_base.specs.declared.deed.Grant.{Grant}
use Rattle.model_base.specs.Ranks.{rank}
use Rattle.model_base.proofs.Replay.{by_cases}
use Rattle.bohm_core_base.specs.Batch.{Batch, rank_at, batch_slots}
use Rattle.bohm_core_base.specs.Serial.{serial_ends}
use Rattle.bohm_core_base.proofs.Whole.{no_grant}
use Rattle.words.specs.Layout.{IsListed, listed_slot_at}
use Rattle.words.specs.Views.{In}
use Rattle.filling_base.specs.Storing.{IsEnding, slot_of}
use Rattle.filling.specs.Ends.{AreEndedBy}
use Rattle.filling.specs.Numbers.{number_at, numbers_at}
use Rattle.filling.proofs.Lists.{Rises, above-at, any-in, at-in, in-any, in-at}

-- the grant of a slot, with its rank
pub grant-there : (b : Batch) (slot : ℕ) → slot < length (batch_slots b) → (grant : Grant) × (slice_get (batch_slots b) slot ≡ Some grant) × (rank_at b slot ≡ rank grant)
grant-there b slot within =
    (get_or (batch_slots b) slot no_grant, slice_get-get_or (batch_slots b) slot no_grant within, get_or-map rank (batch_slots b) slot no_grant 0 within)

-- the rank of a slot whose grant is given
pub grant-rank : (b : Batch) (slot : ℕ) (grant : Grant) → slice_get (batch_slots b) slot ≡ Some grant → rank_at b slot ≡ rank grant
grant-rank b slot grant at =
    let there = grant-there b slot (slice_get_within (batch_slots b) slot grant at) in
    let both : Some there.0 ≡ Some grant = sym there.1 ∙ at in
    let same : there.0 ≡ grant = cc in
    there.2 ∙ ap rank same

module _ (b : Batch) (listed : List ℕ) (ranked : ℕ) where
  at-fails : (n : ℕ) → rank_at b (listed_slot_at listed n) ≢ ranked → (rank_at b (get_or listed n 0) == ranked) ≡ false
  at-fails n other = by_cases (rank_at b (get_or listed n 0) == ranked) (λ is. absurd (other (eqb-true (rank_at b (get_or listed n 0)) ranked is))) (λ is. is)

  -- no listed end is of the record
  pub number-none : ((n : ℕ) → n < length listed → rank_at b (listed_slot_at listed n) ≢ ranked) → None ≡ number_at b listed ranked
  number-none none =
      let last = position_or_len_is (λ slot. rank_at b slot == ranked) listed (length listed) 0 (omega arith) (λ k low. at-fails k (none k low)) (λ low. absurd (omega arith)) in
      sym (ap (λ n. cond (nat_lt n (length listed)) (Some n) None) last ∙ ap (λ test. cond test (Some (length listed)) None) (le-ltb (length listed) (length listed) (omega arith)))

  -- just one is
  pub number-some : (m : ℕ) → m < length listed → rank_at b (listed_slot_at listed m) ≡ ranked → ((n : ℕ) → n < length listed → rank_at b (listed_slot_at listed n) ≡ ranked → n ≡ m)
      → Some m ≡ number_at b listed ranked
  number-some m within is only =
      let here = position_or_len_is (λ slot. rank_at b slot == ranked) listed m 0 (omega arith)
      (λ k low. at-fails k (λ also. let same = only k (omega arith) also in omega arith))
      (λ low. eq-eqb (rank_at b (get_or listed m 0)) ranked is) in
      sym (ap (λ n. cond (nat_lt n (length listed)) (Some n) None) here ∙ ap (λ test. cond test (Some m) None) (lt-ltb m (length listed) within))

  -- what a number found says
  pub number-right : (m : ℕ) → number_at b listed ranked ≡ Some m → (m < length listed) × (rank_at b (listed_slot_at listed m) ≡ ranked)
  number-right m found =
      let told = position-Some (λ slot. rank_at b slot == ranked) listed m 0 found in
      (told.0, eqb-true (rank_at b (get_or listed m 0)) ranked told.1)

  -- a listed end of the record has a number
  pub number-there : (n : ℕ) → n < length listed → rank_at b (listed_slot_at listed n) ≡ ranked → (m : ℕ) × (number_at b listed ranked ≡ Some m)
  number-there n within is =
      elim (cases_lt (position_or_len (λ slot. rank_at b slot == ranked) listed) (length listed)) [
        | inl less ↦ (position_or_len (λ slot. rank_at b slot == ranked) listed, ap (λ test. cond test (Some (position_or_len (λ slot. rank_at b slot == ranked) listed)) None) (lt-ltb (position_or_len (λ slot. rank_at b slot == ranked) listed) (length listed) less))
        | inr more ↦ absurd (let fails = fails_before_first (λ slot. rank_at b slot == ranked) listed n 0 (omega arith) in true≢false (sym (eq-eqb (rank_at b (get_or listed n 0)) ranked is) ∙ fails))
      ]

  -- the number, by the slot of the record and its number in the list
  module _ (right : IsListed b listed) (found : Option ℕ)
      (tells : MatchOption found ((slot : ℕ) (grant : Grant) → slice_get (batch_slots b) slot ≡ Some grant → rank grant ≢ ranked)
      (λ slot. (grant : Grant) × (slice_get (batch_slots b) slot ≡ Some grant) × (rank grant ≡ ranked)))
      (only : (slot : ℕ) (grant : Grant) → slice_get (batch_slots b) slot ≡ Some grant → rank grant ≡ ranked → found ≡ Some slot) where
    listed-only : (n : ℕ) → n < length listed → rank_at b (listed_slot_at listed n) ≡ ranked → found ≡ Some (listed_slot_at listed n)
    listed-only n within is =
        let there = grant-there b (listed_slot_at listed n) (right.within n within) in
        only (listed_slot_at listed n) there.0 there.1 (sym there.2 ∙ is)

    pub number-unslotted : found ≡ None → None ≡ number_at b listed ranked
    number-unslotted is = number-none (λ n within at. let both : Some (listed_slot_at listed n) ≡ None = sym (listed-only n within at) ∙ is in cc)

    pub number-unlisted : (slot : ℕ) → found ≡ Some slot → ¬ (In slot listed) → None ≡ number_at b listed ranked
    number-unlisted slot is out =
        number-none (λ n within at.
        let both : Some (listed_slot_at listed n) ≡ Some slot = sym (listed-only n within at) ∙ is in
        let same : listed_slot_at listed n ≡ slot = cc in
        out (subst (λ s. In s listed) same (at-in listed n within)))

    pub number-listed : (slot m : ℕ) → found ≡ Some slot → m < length listed → listed_slot_at listed m ≡ slot → Some m ≡ number_at b listed ranked
    number-listed slot m is within at =
        let here = rw is at tells in
        number-some m within (ap (rank_at b) at ∙ grant-rank b slot here.0 here.1 ∙ here.2)
        (λ n low also.
        let both : Some (listed_slot_at listed n) ≡ Some slot = sym (listed-only n low also) ∙ is in
        let same : listed_slot_at listed n ≡ slot = cc in
        right.apart n m low within (same ∙ sym at))

    -- so it is what a search for the slot gives
    pub number-searched : (slot : ℕ) (number : Option ℕ) → found ≡ Some slot
        → MatchOption number (¬ (In slot listed)) (λ m. (m < length listed) × (listed_slot_at listed m ≡ slot)) → number ≡ number_at b listed ranked
    number-searched slot None is out = number-unlisted slot is out
    number-searched slot (Some m) is at = number-listed slot m is at.0 at.1

-- the ranks of numbered ends
abbrev end_rank : Batch → List ℕ → ℕ → ℕ
end_rank b listed number = rank_at b (listed_slot_at listed number)

module _ (b : Batch) (listed : List ℕ) where
  -- the first of a list, and the others, of an option before a list
  numbers-some : (ranked : ℕ) (ranks : List ℕ) (m : ℕ) → number_at b listed ranked ≡ Some m → numbers_at b listed (ranked ∷ ranks) ≡ m ∷ numbers_at b listed ranks
  numbers-some ranked ranks m found = ap (λ one. option_to_list one ++ numbers_at b listed ranks) found

  numbers-none : (ranked : ℕ) (ranks : List ℕ) → number_at b listed ranked ≡ None → numbers_at b listed (ranked ∷ ranks) ≡ numbers_at b listed ranks
  numbers-none ranked ranks found = ap (λ one. option_to_list one ++ numbers_at b listed ranks) found

  by-number : {G : Type 0} (ranked : ℕ) → ((m : ℕ) → number_at b listed ranked ≡ Some m → G) → (number_at b listed ranked ≡ None → G) → G
  by-number {G} ranked found none = cases (number_at b listed ranked) refl
    where
      cases : (one : Option ℕ) → number_at b listed ranked ≡ one → G
      cases (Some m) is = found m is
      cases None is = none is

  -- each is the number of a listed end, whose rank is one of the ranks
  pub record IsOne (ranks : List ℕ) (number : ℕ) : Type 0 where
    pub within : number < length listed
    pub here : In (end_rank b listed number) ranks

  one-later : (ranked : ℕ) (ranks : List ℕ) (number : ℕ) → IsOne ranks number → IsOne (ranked ∷ ranks) number
  one-later ranked ranks number one = record { within = one.within; here = inr one.here }

  one-first : (ranked : ℕ) (ranks : List ℕ) (m : ℕ) (rest : List ℕ) → number_at b listed ranked ≡ Some m
      → ((k : ℕ) → k < length rest → IsOne ranks (get_or rest k 0)) → (k : ℕ) → k < length (m ∷ rest) → IsOne (ranked ∷ ranks) (get_or (m ∷ rest) k 0)
  one-first ranked ranks m rest found each zero low = let right = number-right b listed ranked m found in record { within = right.0; here = inl right.1 }
  one-first ranked ranks m rest found each (suc k) low = one-later ranked ranks (get_or rest k 0) (each k (omega arith))

  pub each-one : (ranks : List ℕ) → (k : ℕ) → k < length (numbers_at b listed ranks) → IsOne ranks (get_or (numbers_at b listed ranks) k 0)
  each-one [] = λ k low. absurd (omega arith)
  each-one (ranked ∷ ranks) =
      by-number {G = (k : ℕ) → k < length (numbers_at b listed (ranked ∷ ranks)) → IsOne (ranked ∷ ranks) (get_or (numbers_at b listed (ranked ∷ ranks)) k 0)} ranked
      (λ m found. rw (numbers-some ranked ranks m found) (one-first ranked ranks m (numbers_at b listed ranks) found (each-one ranks)))
      (λ none. rw (numbers-none ranked ranks none) (λ k low. one-later ranked ranks (get_or (numbers_at b listed ranks) k 0) (each-one ranks k low)))

  -- the ranks of the ends rise with the ranks
  abbrev EndsRise : List ℕ → Type 0
  EndsRise numbers = (k j : ℕ) → k < j → j < length numbers → end_rank b listed (get_or numbers k 0) < end_rank b listed (get_or numbers j 0)

  rise-first : (m : ℕ) (rest : List ℕ) → ((j : ℕ) → j < length rest → end_rank b listed m < end_rank b listed (get_or rest j 0)) → EndsRise rest → EndsRise (m ∷ rest)
  rise-first m rest above rise zero zero less low = absurd (omega arith)
  rise-first m rest above rise zero (suc j) less low = above j (omega arith)
  rise-first m rest above rise (suc k) zero less low = absurd (omega arith)
  rise-first m rest above rise (suc k) (suc j) less low = rise k j (omega arith) (omega arith)

  pub ends-rise : (ranks : List ℕ) → Rises ranks → EndsRise (numbers_at b listed ranks)
  ends-rise [] rise = λ k j less low. absurd (omega arith)
  ends-rise (ranked ∷ ranks) rise =
      by-number {G = EndsRise (numbers_at b listed (ranked ∷ ranks))} ranked
      (λ m found. rw (numbers-some ranked ranks m found)
      (rise-first m (numbers_at b listed ranks)
      (λ j low.
      let right = number-right b listed ranked m found in
      let above = above-at ranked (end_rank b listed (get_or (numbers_at b listed ranks) j 0)) ranks rise.0 (each-one ranks j low).here in
      let is = right.1 in
      omega arith)
      (ends-rise ranks rise.1)))
      (λ none. rw (numbers-none ranked ranks none) (ends-rise ranks rise.1))

  -- the number of each rank is among them
  abbrev IsAmong : ℕ → List ℕ → Type 0
  IsAmong m numbers = (k : ℕ) × (k < length numbers) × (get_or numbers k 0 ≡ m)

  among-later : (m n : ℕ) (rest : List ℕ) → IsAmong m rest → IsAmong m (n ∷ rest)
  among-later m n rest at = let low = at.1 in (suc at.0, omega arith, at.2)

  pub number-among : (ranks : List ℕ) (ranked m : ℕ) → In ranked ranks → number_at b listed ranked ≡ Some m → IsAmong m (numbers_at b listed ranks)
  number-among [] ranked m has found = absurd has
  number-among (other ∷ ranks) ranked m has found =
      by-number {G = IsAmong m (numbers_at b listed (other ∷ ranks))} other
      (λ n here. rw (numbers-some other ranks n here)
      (⊎_elim
      (λ is. let both : Some n ≡ Some m = sym here ∙ ap (number_at b listed) (sym is) ∙ found in let same : n ≡ m = cc in (0, omega arith, same))
      (λ more. among-later m n (numbers_at b listed ranks) (number-among ranks ranked m more found))
      has))
      (λ none. rw (numbers-none other ranks none)
      (⊎_elim
      (λ is. let both : Some m ≡ None = sym found ∙ ap (number_at b listed) is ∙ none in absurd (let no : ⊥ = cc in no))
      (λ more. number-among ranks ranked m more found)
      has))

  -- one step further through the ranks
  pub numbers-more : (ranks before after whole : List ℕ) (k : ℕ) → k < length ranks → after ≡ before ++ option_to_list (number_at b listed (get_or ranks k 0))
      → before ++ numbers_at b listed (drop k ranks) ≡ whole → after ++ numbers_at b listed (drop (k + 1) ranks) ≡ whole
  numbers-more ranks before after whole k within is all =
      let split : drop k ranks ≡ get_or ranks k 0 ∷ drop (suc k) ranks = drop-cons ranks k 0 within in
      let next : drop (k + 1) ranks ≡ drop (suc k) ranks = ap (λ n. drop n ranks) (add-one k) in
      ap (λ rest. after ++ numbers_at b listed rest) next
      ∙ ap (λ front. front ++ numbers_at b listed (drop (suc k) ranks)) is
      ∙ append_assoc before (option_to_list (number_at b listed (get_or ranks k 0))) (numbers_at b listed (drop (suc k) ranks))
      ∙ ap (λ rest. before ++ numbers_at b listed rest) (sym split)
      ∙ all

-- the numbers of the records that a place ends are those of the ends that it sets
pub ends-of_ranks : (b : Batch) (listed ranks : List ℕ) (index : ℕ) → IsListed b listed → Rises ranks
    → AreEndedBy b index ranks
    → ((slot other : ℕ) (grant later : Grant) → slot < other → slice_get (batch_slots b) slot ≡ Some grant → slice_get (batch_slots b) other ≡ Some later → rank grant < rank later)
    → IsEnding b listed index (numbers_at b listed ranks)
ends-of_ranks b listed ranks index right rise ends order = record {
  within = λ k low. (each-one b listed ranks k low).within;
  right = λ k low.
      let one = each-one b listed ranks k low in
      let slot = listed_slot_at listed (get_or (numbers_at b listed ranks) k 0) in
      let there = grant-there b slot (right.within (get_or (numbers_at b listed ranks) k 0) one.within) in
      sym (ends slot there.0 there.1) ∙ in-any (rank there.0) ranks (subst (λ p. In p ranks) there.2 one.here);
  once = λ k j less low same.
      let rise = ends-rise b listed ranks rise k j less low in
      let equal = ap (rank_at b) same in
      omega arith;
  all = λ slot within sets.
      let there = grant-there b slot within in
      let has = any-in (rank there.0) ranks (ends slot there.0 there.1 ∙ sets) in
      let at = in-at slot listed (right.every index slot within sets) in
      let named : rank_at b (listed_slot_at listed at.0) ≡ rank there.0 = ap (rank_at b) at.2 ∙ there.2 in
      let number = number-there b listed (rank there.0) at.0 at.1 named in
      let among = number-among b listed ranks (rank there.0) number.0 has number.1 in
      let told = number-right b listed (rank there.0) number.0 number.1 in
      let found : slot_of listed (numbers_at b listed ranks) among.0 ≡ listed_slot_at listed number.0 = ap (listed_slot_at listed) among.2 in
      (among.0, among.1, found ∙ same-slot (listed_slot_at listed number.0) slot (right.within number.0 told.0) within (told.1 ∙ sym there.2));
}
  where
    -- no two slots have one rank
    same-slot : (s t : ℕ) → s < length (batch_slots b) → t < length (batch_slots b) → rank_at b s ≡ rank_at b t → s ≡ t
    same-slot s t low high same =
        let one = grant-there b s low in
        let two = grant-there b t high in
        elim (cases_lt s t) [
          | inl less ↦ absurd (let up = order s t one.0 two.0 less one.1 two.1 in let a = one.2 in let c = two.2 in omega arith)
          | inr more ↦ elim (cases_lt t s) [
            | inl less ↦ absurd (let up = order t s two.0 one.0 less two.1 one.1 in let a = one.2 in let c = two.2 in omega arith)
            | inr more' ↦ omega arith
          ]
        ]

-- a place that wasn't done, or has no revocation, sets none
pub ends-none : (b : Batch) (listed : List ℕ) (index : ℕ) → ((slot : ℕ) → slot < length (batch_slots b) → serial_ends b index slot ≡ true → ⊥) → IsEnding b listed index []
ends-none b listed index none = record {
  within = λ k low. absurd (omega arith);
  right = λ k low. absurd (omega arith);
  once = λ k j less low. absurd (omega arith);
  all = λ slot within sets. absurd (none slot within sets);
}
