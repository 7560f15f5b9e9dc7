-- The slots whose records the batch may reach are listed rightly, and are all that it ends.
use Rattle.std.proofs.Common.{◌≡◌, ℕ, zero, suc, ◌+◌, ◌<◌, ◌||◌, not, Bool, true, false, List, [], ◌∷◌, ◌++◌, length, get_or, replicate, refl, sym, ◌∙◌, ap, arith, inl, inr}
use Rattle.std.specs.Prelude.{◌==◌, is_none, is_some, Option, Some, None, slice_get}
use Rattle.std.specs.List.{list_any}
use Rattle.std.specs.Option.{option_map_or}
use Rattle.std.proofs.lemmas.Bool.{and_from, and_parts, cases_lt, eq-eqb, eqb-true, or_left, or_right, true≢false}
use Rattle.std.proofs.lemmas.List.{get_or_append_left, get_or_push, length-append, length_push}
use Rattle.model_base.specs.declared.deed.Deed.TheVariants.{Revoking}
use Rattle.model_base.specs.declared.deed.Grant.{Grant}
use Rattle.model_base.specs.Privileges.{gives, lends_to, option_of, reaches, revokes, same_kind}
use Rattle.grants_base.specs.Index.{is_by}
use Rattle.bohm_core_base.specs.declared.event.Event.{Event}
use Rattle.bohm_core_base.specs.Batch.{Batch, IsSoundBatch, batch_slots, words_by}
use Rattle.bohm_core_base.specs.Cascades.{EndsByCascade}
use Rattle.bohm_core_base.specs.Machine.{end_of, own_of, reach, start}
use Rattle.bohm_core_base.specs.Serial.{records_in, rows_at, serial_ends, serial_words, whole_end, batch_world_before}
use Rattle.words.specs.Layout.{IsListed, listed_slot_at}
use Rattle.words.specs.Views.{In}
use Rattle.log_batch.specs.Listing.{is_lent, is_open, is_reached, is_revoked, lends, listed_below, listed_slots}
use Rattle.model_base.proofs.Covered.{same_kind-true}
use Rattle.model_base.proofs.Reaching.{gives_option, lends_is}
use Rattle.model_base.proofs.Replay.{by_cases}

in_front : (x : ℕ) (l m : List ℕ) → In x l → In x (l ++ m)
in_front x [] m has = absurd has
in_front x (y ∷ l) m has = elim has [ inl is ↦ inl is | inr more ↦ inr (in_front x l m more) ]

in_back : (x : ℕ) (l m : List ℕ) → In x m → In x (l ++ m)
in_back x [] m has = has
in_back x (y ∷ l) m has = inr (in_back x l m has)

is-none : (end : Option ℕ) → is_none end ≡ true → end ≡ None
is-none None none = refl
is-none (Some q) none = absurd (true≢false (sym none))

-- the place that ends the record of a slot by the serial run
end-place : (b : Batch) (index slot q : ℕ) → serial_ends b index slot ≡ true → whole_end b slot ≡ Some q → q ≡ b.first + index
unfolding serial_ends
end-place b index slot q ends whole = let is : (q == b.first + index) ≡ true = rw whole at ends in eqb-true q (b.first + index) is

-- whether there is no end
pub none-told : (end : Option ℕ) (none : Bool) → is_some end ≡ not none → is_none end ≡ none
none-told None true is = refl
none-told None false is = absurd (true≢false (sym is))
none-told (Some q) true is = absurd (true≢false is)
none-told (Some q) false is = refl

-- who is given the option by a grant that falls
lends-given : (giver grant : Grant) → gives giver grant.grantor (option_of grant) ≡ true → lends giver grant ≡ true
unfolding gives
lends-given giver grant given =
    let one = and_parts (reaches giver.grantee grant.grantor true) _ given in
    let two = and_parts (same_kind giver.kind grant.kind) _ one.1 in
    let three = and_parts (giver.table == grant.table) _ two.1 in
    let lent : lends_to giver grant.grantor ≡ true =
    sym (gives_option giver grant.grantor (option_of grant) (same_kind-true giver.kind grant.kind two.0) (eqb-true giver.table grant.table three.0) refl) ∙ given in
    ap (λ holder. option_map_or (λ user. is_by user giver.kind giver.table grant) holder false) (lends_is giver grant.grantor lent)
    ∙ rw (eq-eqb grant.grantor grant.grantor refl, two.0, three.0) refl

module _ (b : Batch) where
  -- the listed are below, have no end, and each number lists another
  record IsGood (n : ℕ) (l : List ℕ) : Type 0 where
    pub below : (r : ℕ) → r < length l → get_or l r 0 < n
    pub endless : (r : ℕ) → r < length l → is_open b (get_or l r 0) ≡ true
    pub apart : (q r : ℕ) → q < length l → r < length l → get_or l q 0 ≡ get_or l r 0 → q ≡ r

  pushed : (n : ℕ) (l : List ℕ) → IsGood n l → is_open b n ≡ true → IsGood (suc n) (l ++ n ∷ [])
  pushed n l good may =
      let wide = length_push l n in
      let at : (r : ℕ) → r < length l → get_or (l ++ n ∷ []) r 0 ≡ get_or l r 0 = λ r less. get_or_append_left l (n ∷ []) 0 r less in
      let last : get_or (l ++ n ∷ []) (length l) 0 ≡ n = get_or_push l n 0 (length l) refl in
      record {
        below = λ r has. elim (cases_lt r (length l)) [
          | inl less ↦ (let is = at r less in let low = good.below r less in omega arith)
          | inr more ↦ (let same : r ≡ length l = omega arith in let is : get_or (l ++ n ∷ []) r 0 ≡ n = rw same last in omega arith)
        ];
        endless = λ r has. elim (cases_lt r (length l)) [
          | inl less ↦ rw (at r less) (good.endless r less)
          | inr more ↦ (let same : r ≡ length l = omega arith in rw (same, last) may)
        ];
        apart = λ q r has has' same. elim (cases_lt q (length l)) [
          | inl less ↦ elim (cases_lt r (length l)) [
            | inl less' ↦ good.apart q r less less' (sym (at q less) ∙ same ∙ at r less')
            | inr more' ↦ absurd (let is : r ≡ length l = omega arith in let top : get_or (l ++ n ∷ []) r 0 ≡ n = rw is last in let low = good.below q less in let here = at q less in omega arith)
          ]
          | inr more ↦ elim (cases_lt r (length l)) [
            | inl less' ↦ absurd (let is : q ≡ length l = omega arith in let top : get_or (l ++ n ∷ []) q 0 ≡ n = rw is last in let low = good.below r less' in let here = at r less' in omega arith)
            | inr more' ↦ omega arith
          ]
        ];
      }

  good-below : (n : ℕ) → IsGood n (listed_below b n)
  good-below zero = record {
    below = λ r has. absurd (omega arith);
    endless = λ r has. absurd (omega arith);
    apart = λ q r has. absurd (omega arith);
  }
  good-below (suc n) =
      by_cases (is_reached b (listed_below b n) n)
      (λ may. rw may (pushed n (listed_below b n) (good-below n) (and_parts (is_open b n) _ may).0))
      (λ fails.
      let good = good-below n in
      rw fails record { below = λ r has. (let low = good.below r has in omega arith); endless = good.endless; apart = good.apart })

  listed-all : (n slot : ℕ) → slot < n → is_reached b (listed_below b slot) slot ≡ true → In slot (listed_below b n)
  listed-all zero slot below may = absurd (omega arith)
  listed-all (suc n) slot below may =
      elim (cases_lt slot n) [
        | inl less ↦
            by_cases (is_reached b (listed_below b n) n)
            (λ here. rw here (in_front slot (listed_below b n) (n ∷ []) (listed-all n slot less may)))
            (λ fails. rw fails (listed-all n slot less may))
        | inr more ↦
            (let same : slot ≡ n = omega arith in
            rw (rw same at may) (in_back slot (listed_below b n) (n ∷ []) (inl same)))
      ]

  revokes-below : (n index : ℕ) (grant : Grant) → index < n → list_any (λ deed. revokes deed grant) (b.deeds index) ≡ true → is_revoked b n grant ≡ true
  revokes-below zero index grant below named = absurd (omega arith)
  revokes-below (suc n) index grant below named =
      elim (cases_lt index n) [
        | inl less ↦ by_cases (list_any (λ deed. revokes deed grant) (b.deeds n)) (λ here. rw here refl) (λ fails. rw fails (revokes-below n index grant less named))
        | inr more ↦ (let same : index ≡ n = omega arith in rw (rw same at named) refl)
      ]

  -- a listed slot lends what its grant gives
  lent-in : (l : List ℕ) (slot : ℕ) (giver grant : Grant) → In slot l → slice_get (batch_slots b) slot ≡ Some giver → lends giver grant ≡ true → is_lent b l grant ≡ true
  lent-in [] slot giver grant has at lent = absurd has
  lent-in (first ∷ l) slot giver grant has at lent =
      elim has [
        | inl here ↦
            let test : ℕ → Bool = λ k. option_map_or (λ (g : Grant). lends g grant) (slice_get (batch_slots b) k) false in
            let passes : test first ≡ true = ap test (sym here) ∙ ap (λ found. option_map_or (λ (g : Grant). lends g grant) found false) at ∙ lent in
            rw passes refl
        | inr later ↦ or_right _ (is_lent b l grant) (lent-in l slot giver grant later at lent)
      ]

  module _ (sound : IsSoundBatch b)
      (ender : (batch : Batch) (events : List Event) (slot index : ℕ) → IsSoundBatch batch → end_of (reach batch events) slot ≡ Some (batch.first + index)
      → own_of (reach batch events) index ≡ serial_words batch index)
      (ended : (batch : Batch) (events : List Event) (slot end : ℕ) → IsSoundBatch batch → end_of (reach batch events) slot ≡ Some end → whole_end batch slot ≡ Some end)
      (cascades : (batch : Batch) (index slot : ℕ) → IsSoundBatch batch → slot < length (batch_slots batch) → serial_ends batch index slot ≡ true → EndsByCascade batch index slot) where
    -- a place has a word
    serial-some : (n : ℕ) → 0 < length (serial_words b n)
    unfolding serial_words words_by
    serial-some n =
        let rows = rows_at (b.accesses n) (batch_world_before b n).rows in
        let entries = records_in b n (batch_world_before b n) in
        let some = sound.outcome n in
        let wide = sound.header n rows entries in
        rw (length-append (b.answer n rows entries).header _) (omega arith)

    -- a record that a place ends has no end before the batch
    unended : (index slot : ℕ) → serial_ends b index slot ≡ true → is_none (end_of (start b) slot) ≡ true
    unended index slot ends = by_end (end_of (start b) slot) refl
      where
        none-own : (own : List (List ℕ)) (i : ℕ) → own ≡ replicate b.size [] → length (get_or own i []) ≡ 0
        none-own own i is = rw is (blank b.size i)
          where
            blank : (n i : ℕ) → length (get_or {A = List ℕ} (replicate n []) i []) ≡ 0
            blank zero i = refl
            blank (suc n) zero = refl
            blank (suc n) (suc i) = blank n i

        by_end : (end : Option ℕ) → end_of (start b) slot ≡ end → is_none (end_of (start b) slot) ≡ true
        by_end None is = rw is refl
        by_end (Some q) is =
            let place = end-place b index slot q ends (ended b [] slot q sound is) in
            let all = ender b [] slot index sound (is ∙ ap Some place) in
            let some = serial-some index in
            let none = none-own (start b).own index refl in
            let same : length (own_of (start b) index) ≡ length (serial_words b index) = ap (λ (own : List ℕ). length own) all in
            absurd (omega arith)

    -- every record that the serial run ends in the batch may be reached
    ended-reached : (n index slot : ℕ) → slot < n → slot < length (batch_slots b) → serial_ends b index slot ≡ true
        → is_reached b (listed_below b slot) slot ≡ true
    ended-reached zero index slot below within ends = absurd (omega arith)
    ended-reached (suc n) index slot below within ends =
        let by = cascades b index slot sound within ends in
        let grant = by.grant in
        let test : Grant → Bool = λ g. is_revoked b b.size g || is_lent b (listed_below b slot) g in
        let passes : test grant ≡ true
        = elim by.cause [
          | inl named ↦
              let against : list_any (λ deed. revokes deed grant) (b.deeds index) ≡ true = rw by.deed (or_left (revokes (Revoking by.revocation) grant) false named) in
              rw (revokes-below b.size index grant by.within against) refl
          | inr falls ↦
              let earlier = falls.earlier in
              let reached = ended-reached n index falls.bearer (omega arith) (omega arith) falls.ends in
              let listed = listed-all slot falls.bearer earlier reached in
              or_right (is_revoked b b.size grant) _ (lent-in (listed_below b slot) falls.bearer falls.giver grant listed falls.at (lends-given falls.giver grant falls.lends))
        ] in
        and_from (is_open b slot) _ (unended index slot ends) (ap (λ found. option_map_or test found false) by.at ∙ passes)

    -- so it is listed
    ended-listed : (index slot : ℕ) → slot < length (batch_slots b) → serial_ends b index slot ≡ true → In slot (listed_slots b)
    ended-listed index slot within ends =
        listed-all (length (batch_slots b)) slot within (ended-reached (suc slot) index slot (omega arith) within ends)

    -- so they may have the words of the batch's ends
    pub listed-right : IsListed b (listed_slots b)
    listed-right =
        let good = good-below (length (batch_slots b)) in record {
          within = good.below;
          unended = λ r has. is-none (end_of (start b) (listed_slot_at (listed_slots b) r)) (good.endless r has);
          apart = good.apart;
          every = ended-listed;
        }
