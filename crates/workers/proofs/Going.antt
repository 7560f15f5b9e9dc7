-- A pass that goes on, and what it knows of the places.
use Rattle.std.proofs.Common.{◌≡◌, ◌≢◌, ◌⊎◌, ◌<◌, ◌≤◌, ◌+◌, ◌++◌, ℕ, Bool, true, false, true≢false, List, [], ◌∷◌, length, get_or, drop, All, IsPermutation, ap, refl, subst, sym, ◌∙◌, arith, inl, inr}
use Rattle.std.specs.Prelude.{Result, Ok, Err, IfErr, OnOk, is_ok}
use Rattle.std.specs.declared.alloc.AllocError.{AllocError}
use Rattle.line_io.specs.declared.fault.EngineFault.{EngineFault}
use Rattle.std.proofs.lemmas.List.{append-nil, append_assoc}
use Rattle.std.proofs.lemmas.List.Elements.{All-nil, All-push, All-same}
use Rattle.std.proofs.lemmas.List.Sorted.{IsPermutation-append_right, IsPermutation-refl, IsPermutation-sym, IsPermutation-to_front, IsPermutation-trans}
use Rattle.words.specs.declared.knowledge.Knowledge.{Knowledge}
use Rattle.words.specs.Passes.{PassState, cut_first, joined_pass}
use Rattle.words.specs.Views.{In, KeepsFronts}
use Rattle.bohm_core_base.specs.Batch.{Batch}
use Rattle.filling_base.specs.declared.run.Tried.{Tried}
use Rattle.filling_base.specs.declared.run.Tried.TheVariants.{Done, Busy, NotPlaced}
use Rattle.filling_base.specs.Extending.{IsSamePass, OnlyLearns}
use Rattle.filling_base.specs.Tries.{PlacedMeans, TriedMeans, UnplacedMeans}
use Rattle.workers.specs.Working.{AreLeft, GoesOn, HasAsked, IsAnswered, IsMissed, IsStopped, KnowsAll}
use Rattle.workers.specs.Faults.{IsRunFault, run_outcome}

pub stays : (pass : PassState) → GoesOn pass pass
stays pass = record { table = refl; number = refl; knows = λ index known. known; fronts = ((λ placed. placed), (λ partition count has. has)) }

pub on_and_on : (pass middle after : PassState) → GoesOn pass middle → GoesOn middle after → GoesOn pass after
on_and_on pass middle after first second = record {
  table = second.table ∙ first.table;
  number = second.number ∙ first.number;
  knows = λ index known. second.knows index (first.knows index known);
  fronts = (
    (λ placed. second.fronts.0 (first.fronts.0 placed)),
    (λ partition count has. second.fronts.1 partition count (first.fronts.1 partition count has)),
  );
}

in_first : {A : Type 0} (x : A) (xs ys : List A) → In x xs → In x (xs ++ ys)
in_first x [] ys none = absurd none
in_first x (z ∷ xs) ys (inl here) = inl here
in_first x (z ∷ xs) ys (inr there) = inr (in_first x xs ys there)

-- the first part of a pass that was cut
pub cut_on : (pass : PassState) → GoesOn pass (cut_first pass)
cut_on pass = record { table = refl; number = refl; knows = λ index known. known; fronts = ((λ placed. placed), (λ partition count has. has)) }

-- a pass that was joined with another
pub joined_on : (pass other : PassState) → GoesOn pass (joined_pass pass other)
joined_on pass other = record {
  table = refl;
  number = refl;
  knows = λ index known. in_first index pass.view.known other.view.known known;
  fronts = (
    (λ placed. rw placed refl),
    (λ partition count has. in_first (partition, count) pass.view.fronts other.view.fronts has),
  );
}

-- one more at the end of a list
in_second : {A : Type 0} (x : A) (xs ys : List A) → In x ys → In x (xs ++ ys)
in_second x [] ys there = there
in_second x (z ∷ xs) ys there = inr (in_second x xs ys there)

in_either : {A : Type 0} (x : A) (xs ys : List A) → In x (xs ++ ys) → In x xs ⊎ In x ys
in_either x [] ys there = inr there
in_either x (z ∷ xs) ys (inl here) = inl (inl here)
in_either x (z ∷ xs) ys (inr there) = elim (in_either x xs ys there) [ inl first ↦ inl (inr first) | inr second ↦ inr second ]

pub in_old : {A : Type 0} (x y : A) (xs after : List A) → after ≡ xs ++ y ∷ [] → In x xs → In x after
in_old x y xs after is there = rw is (in_first x xs (y ∷ []) there)

pub in_last : {A : Type 0} (x : A) (xs after : List A) → after ≡ xs ++ x ∷ [] → In x after
in_last x xs after is = rw is (in_second x xs (x ∷ []) (inl refl))

pub in_old_or_last : {A : Type 0} (x y : A) (xs after : List A) → after ≡ xs ++ y ∷ [] → In x after → In x xs ⊎ (x ≡ y)
in_old_or_last x y xs after is there =
    let found : In x (xs ++ y ∷ []) = rw is at there in
    elim (in_either x xs (y ∷ []) found) [ inl old ↦ inl old | inr last ↦ inr (elim last [ inl same ↦ same | inr none ↦ absurd none ]) ]

pub in_none : {A : Type 0} (x : A) (xs : List A) → xs ≡ [] → In x xs → ⊥
in_none x xs is there =
    let none : In x [] = rw is at there in
    none

pub none_of : {A : Type 0} (xs : List A) → length xs ≡ 0 → xs ≡ []
none_of [] is = refl
none_of (x ∷ xs) is = absurd (omega (arith, is))

-- the first of the rest is known done
pub left_done : (size index : ℕ) (known after rest then : List ℕ) → ((other : ℕ) → In other known → In other after)
    → rest ≡ index ∷ then → AreLeft size known rest → In index after → AreLeft size after then
left_done size index known after rest then keeps is left done =
    let all : AreLeft size known (index ∷ then) = rw is at left in
    record {
      within = λ other there. all.within other (inr there);
      every = λ other less. elim (all.every other less) [
        | inl before ↦ inl (keeps other before)
        | inr there ↦ elim there [ inl same ↦ inl (rw same done) | inr later ↦ inr later ]
      ];
    }

-- the first of the rest goes to its end
pub left_open : (size index : ℕ) (known after rest then turned : List ℕ) → ((other : ℕ) → In other known → In other after)
    → rest ≡ index ∷ then → turned ≡ then ++ index ∷ [] → AreLeft size known rest → AreLeft size after turned
left_open size index known after rest then turned keeps is turns left =
    let all : AreLeft size known (index ∷ then) = rw is at left in
    record {
      within = λ other there. elim (in_old_or_last other index then turned turns there) [ inl old ↦ all.within other (inr old) | inr same ↦ all.within other (inl same) ];
      every = λ other less. elim (all.every other less) [
        | inl before ↦ inl (keeps other before)
        | inr there ↦ inr (elim there [ inl same ↦ rw same (in_last index then turned turns) | inr later ↦ in_old other index then turned turns later ])
      ];
    }

-- the first of the rest is a place
pub left_first : (size index : ℕ) (known rest then : List ℕ) → rest ≡ index ∷ then → AreLeft size known rest → index < size
left_first size index known rest then is left =
    let all : AreLeft size known (index ∷ then) = rw is at left in
    all.within index (inl refl)

-- where there is no rest, each place is known done
pub left_none : (size : ℕ) (view : Knowledge) (rest : List ℕ) → rest ≡ [] → AreLeft size view.known rest → KnowsAll size view
left_none size view rest is left index less =
    let all : AreLeft size view.known [] = rw is at left in
    elim (all.every index less) [ inl known ↦ known | inr none ↦ absurd none ]

-- where nothing is known, all is left
pub left_all : (size : ℕ) (known rest : List ℕ) → AreLeft size [] rest → AreLeft size known rest
left_all size known rest left = record {
  within = left.within;
  every = λ index less. elim (left.every index less) [ inl none ↦ absurd none | inr there ↦ inr there ];
}

-- whatever came of a place that was asked for, the pass knows what it knew; and the place, if it is done
tells_on : (batch : Batch) (index : ℕ) (view after : Knowledge) (tried : Result Tried AllocError) → TriedMeans batch index view tried after
    → ((other : ℕ) → In other view.known → In other after.known) × KeepsFronts view after
tells_on batch index view after (Ok Done) tells = (tells.0.knows, tells.0.fronts)
tells_on batch index view after (Ok (Busy held)) tells = (tells.0.knows, tells.0.fronts)
tells_on batch index view after (Ok (NotPlaced partition)) tells = (tells.learns.goes.knows, tells.learns.goes.fronts)
tells_on batch index view after (Err error) tells = (tells.0.knows, tells.0.fronts)

pub tells_done : (batch : Batch) (index : ℕ) (view after : Knowledge) (tried : Result Tried AllocError) → TriedMeans batch index view tried after
    → tried ≡ Ok Done → In index after.known
tells_done batch index view after tried tells is = (rw is at tells).2

pub asked_on : (batch : Batch) (index : ℕ) (pass after : PassState) (tried : Result Tried AllocError) → IsSamePass pass after → TriedMeans batch index pass.view tried after.view
    → GoesOn pass after
asked_on batch index pass after tried same tells =
    record {
      table = same.table;
      number = same.number;
      knows = (tells_on batch index pass.view after.view tried tells).0;
      fronts = (tells_on batch index pass.view after.view tried tells).1;
    }

-- in a round, after this many places: which were found done, which weren't asked for yet, and which were missed
pub record IsAsking (batch : Batch) (pass after : PassState) (rest now : List ℕ) (count : ℕ) : Type 0 where
  pub done : List ℕ
  pub unasked : List ℕ
  pub missed : List ℕ
  pub each : IsPermutation rest (done ++ now)
  pub is : now ≡ unasked ++ missed
  pub all : count + length unasked ≡ length rest
  pub found : All (IsAnswered batch pass after (Ok Done)) done
  pub vain : All (IsMissed batch pass after) missed

pub asking_none : (batch : Batch) (pass : PassState) (rest : List ℕ) → IsAsking batch pass pass rest rest 0
asking_none batch pass rest = record {
  done = [];
  unasked = rest;
  missed = [];
  each = IsPermutation-refl rest;
  is = sym (append-nil rest);
  all = omega arith;
  found = All-nil (IsAnswered batch pass pass (Ok Done));
  vain = All-nil (IsMissed batch pass pass);
}

answered_on : (batch : Batch) (pass before after : PassState) (answer : Result Tried AllocError) (index : ℕ) → GoesOn before after
    → IsAnswered batch pass before answer index → IsAnswered batch pass after answer index
answered_on batch pass before after answer index goes was =
    record { asks = was.asks; finds = was.finds; from = was.from; means = was.means; to = on_and_on was.finds before after was.to goes }

missed_on : (batch : Batch) (pass before after : PassState) (index : ℕ) → GoesOn before after → IsMissed batch pass before index
    → IsMissed batch pass after index
missed_on batch pass before after index goes was =
    elim was [
      | inl held ↦ inl (held.0, answered_on batch pass before after (Ok (Busy held.0)) index goes held.1)
      | inr unplaced ↦ inr (unplaced.0, answered_on batch pass before after (Ok (NotPlaced unplaced.0)) index goes unplaced.1)
    ]

found_on : (batch : Batch) (pass before after : PassState) (done : List ℕ) → GoesOn before after → All (IsAnswered batch pass before (Ok Done)) done
    → All (IsAnswered batch pass after (Ok Done)) done
found_on batch pass before after done goes found = λ k d less. answered_on batch pass before after (Ok Done) (get_or done k d) goes (found k d less)

vain_on : (batch : Batch) (pass before after : PassState) (missed : List ℕ) → GoesOn before after → All (IsMissed batch pass before) missed
    → All (IsMissed batch pass after) missed
vain_on batch pass before after missed goes vain = λ k d less. missed_on batch pass before after (get_or missed k d) goes (vain k d less)

-- the first of what is left wasn't asked for yet
first_unasked : (index : ℕ) (then unasked missed : List ℕ) (count size : ℕ) → index ∷ then ≡ unasked ++ missed → count + length unasked ≡ size
    → count < size → (others : List ℕ) × (then ≡ others ++ missed) × (count + 1 + length others ≡ size)
first_unasked index then [] missed count size is all less = absurd (omega (arith, all, less))
first_unasked index then (x ∷ others) missed count size is all less = (others, ap (drop 1) is, omega (arith, all))

-- the pass asked for the first, with this outcome
pub asked_first : (batch : Batch) (pass before after : PassState) (answer : Result Tried AllocError) (index : ℕ) → GoesOn pass before
    → GoesOn before after → TriedMeans batch index before.view answer after.view → IsAnswered batch pass after answer index
asked_first batch pass before after answer index from goes means =
    record { asks = before; finds = after; from = from; means = means; to = stays after }

pub asking_done : (batch : Batch) (pass before after : PassState) (index : ℕ) (rest now then : List ℕ) (count : ℕ)
    → IsAsking batch pass before rest now count → count < length rest → now ≡ index ∷ then → GoesOn before after
    → IsAnswered batch pass after (Ok Done) index → IsAsking batch pass after rest then (count + 1)
asking_done batch pass before after index rest now then count asking less is goes answered =
    let one = first_unasked index then asking.unasked asking.missed count (length rest) (sym is ∙ asking.is) asking.all less in
    record {
      done = asking.done ++ index ∷ [];
      unasked = one.0;
      missed = asking.missed;
      each = subst (IsPermutation rest) (sym (append_assoc asking.done (index ∷ []) then))
          (subst (λ (xs : List ℕ). IsPermutation rest (asking.done ++ xs)) is asking.each);
      is = one.1;
      all = one.2;
      found = All-push (IsAnswered batch pass after (Ok Done)) asking.done index (found_on batch pass before after asking.done goes asking.found) answered;
      vain = vain_on batch pass before after asking.missed goes asking.vain;
    }

pub asking_missed : (batch : Batch) (pass before after : PassState) (index : ℕ) (rest now then turned : List ℕ) (count : ℕ)
    → IsAsking batch pass before rest now count → count < length rest → now ≡ index ∷ then → turned ≡ then ++ index ∷ []
    → GoesOn before after → IsMissed batch pass after index → IsAsking batch pass after rest turned (count + 1)
asking_missed batch pass before after index rest now then turned count asking less is turns goes missed =
    let one = first_unasked index then asking.unasked asking.missed count (length rest) (sym is ∙ asking.is) asking.all less in
    record {
      done = asking.done;
      unasked = one.0;
      missed = asking.missed ++ index ∷ [];
      each = subst (λ (xs : List ℕ). IsPermutation rest (asking.done ++ xs)) (sym turns)
          (IsPermutation-trans rest (asking.done ++ index ∷ then) (asking.done ++ (then ++ index ∷ []))
          (subst (λ (xs : List ℕ). IsPermutation rest (asking.done ++ xs)) is asking.each)
          (IsPermutation-append_right asking.done (index ∷ then) (then ++ index ∷ [])
          (IsPermutation-sym (then ++ index ∷ []) (index ∷ then) (IsPermutation-to_front then index))));
      is = turns ∙ (ap (λ (xs : List ℕ). xs ++ index ∷ []) one.1 ∙ append_assoc one.0 asking.missed (index ∷ []));
      all = one.2;
      found = found_on batch pass before after asking.done goes asking.found;
      vain = All-push (IsMissed batch pass after) asking.missed index (vain_on batch pass before after asking.missed goes asking.vain) missed;
    }

-- all were asked for, since there was none more or since they were this many
pub asked_none : (batch : Batch) (pass after : PassState) (rest now left : List ℕ) (count : ℕ) → IsAsking batch pass after rest now count
    → now ≡ left → length now ≡ 0 → HasAsked batch pass rest after left
asked_none batch pass after rest now left count asking same empty =
    let none : now ≡ [] = none_of now empty in
    record {
      done = asking.done;
      each = subst (λ (xs : List ℕ). IsPermutation rest (asking.done ++ xs)) same asking.each;
      found = asking.found;
      missed = All-same (IsMissed batch pass after) left [] (sym same ∙ none) (All-nil (IsMissed batch pass after));
    }

pub asked_all : (batch : Batch) (pass after : PassState) (rest now : List ℕ) (count : ℕ) → IsAsking batch pass after rest now count
    → length rest ≤ count → HasAsked batch pass rest after now
asked_all batch pass after rest now count asking all =
    let none : asking.unasked ≡ [] = none_of asking.unasked (omega (arith, asking.all, all)) in
    record {
      done = asking.done;
      each = asking.each;
      found = asking.found;
      missed = All-same (IsMissed batch pass after) now asking.missed (asking.is ∙ ap (λ (xs : List ℕ). xs ++ asking.missed) none) asking.vain;
    }

-- the pass was stopped before the next, or for lack of memory for it
pub stopped_before : (batch : Batch) (pass after : PassState) (rest now : List ℕ) (count : ℕ) → IsAsking batch pass after rest now count
    → IsStopped batch pass rest after now
stopped_before batch pass after rest now count asking = record { done = asking.done; found = asking.found; each = inl asking.each }

pub stopped_at : (batch : Batch) (pass before after : PassState) (index : ℕ) (rest now then : List ℕ) (count : ℕ) (error : AllocError)
    → IsAsking batch pass before rest now count → now ≡ index ∷ then → GoesOn before after → IsAnswered batch pass after (Err error) index
    → IsStopped batch pass rest after then
stopped_at batch pass before after index rest now then count error asking is goes refused = record {
  done = asking.done;
  found = found_on batch pass before after asking.done goes asking.found;
  each = inr (index, error, refused, subst (λ (xs : List ℕ). IsPermutation rest (asking.done ++ xs)) is asking.each);
}

-- the run came to its end only if the work did, and failed as a run may
pub run_worked : {S : Type 0} (started worked : Result (Unit {0}) S) → run_outcome started worked ≡ Ok tt → is_ok worked ≡ true
run_worked (Err stopped) worked is = absurd (cc is)
run_worked (Ok end) (Err stopped) is = absurd (cc is)
run_worked (Ok end) (Ok done) is = refl

pub run_faults : {S : Type 0} (started worked : Result (Unit {0}) S) → IfErr (run_outcome started worked) IsRunFault
run_faults (Err stopped) worked = inr refl
run_faults (Ok end) (Err stopped) = inl refl
run_faults (Ok end) (Ok done) = tt

pub run_started : {S : Type 0} (worked : Result (Unit {0}) S) → run_outcome (Ok tt) worked ≢ Err EngineFault.Spawn
run_started (Err stopped) is = cc is
run_started (Ok end) is = cc is

-- what holds of what came to its end
pub at_end : {A S P : Type 0} (ended : Result A S) → is_ok ended ≡ true → OnOk ended P → P
at_end (Ok end) is ok = ok
at_end (Err stopped) is ok = absurd (true≢false (sym is))

-- a pass that only learnt goes on, and so does one that looked whether all is placed
learnt_on : (pass after : PassState) → IsSamePass pass after → OnlyLearns pass.view after.view → GoesOn pass after
learnt_on pass after same learns =
    record { table = same.table; number = same.number; knows = learns.goes.knows; fronts = learns.goes.fronts }

pub looked_on : (batch : Batch) (pass after : PassState) (is_placed : Bool) → IsSamePass pass after
    → (is_placed ≡ true → PlacedMeans batch pass.view after.view) → (is_placed ≡ false → UnplacedMeans batch pass.view after.view)
    → GoesOn pass after
looked_on batch pass after true same all short = learnt_on pass after same (all refl).learns
looked_on batch pass after false same all short = learnt_on pass after same (short refl).3.learns

-- who knows more has no more left
pub left_more : (size : ℕ) (known after rest : List ℕ) → ((other : ℕ) → In other known → In other after) → AreLeft size known rest
    → AreLeft size after rest
left_more size known after rest keeps left = record {
  within = left.within;
  every = λ index less. elim (left.every index less) [ inl before ↦ inl (keeps index before) | inr there ↦ inr there ];
}
