use Rattle.std.proofs.Common.{◌≡◌, ◌<◌, ◌≤◌, List, ℕ, get_or, length, sym, subst}
use Rattle.std.specs.Option.{MatchOption}
use Rattle.std.specs.Result.{result_ok}
use Rattle.std.proofs.lemmas.List.Sorted.{searched}
use Rattle.words.specs.Layout.{listed_slot_at}
use Rattle.words.specs.Views.{In}
use Rattle.filling.proofs.InOrder.{found-number}
use Rattle.filling.proofs.Lists.{rises-far}
use Rattle.filling.proofs.key.RangeKey.number_of.Goals as goal

pub returns : goal.returns
returns c =
    let slots = c.slots.result.now in
    let slot = c.args.slot in
    let found = c.binary_search.result in
    let rise = subst (λ (list : List ℕ). (i j : ℕ) → i ≤ j → j < length list → get_or list i 0 ≤ get_or list j 0) (sym c.slots.ensures.value) (rises-far c.args.self.now.slots c.slots.ensures.order) in
    let told = found-number slots slot found (searched slots slot found c.binary_search.ensures.position rise) in
    rw c.ok.ensures.value
    (subst (λ (list : List ℕ). MatchOption (result_ok found) (¬ (In slot list)) (λ number. (number < length list) × (listed_slot_at list number ≡ slot))) c.slots.ensures.value told)
