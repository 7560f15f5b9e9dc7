-- How the state of a batch is stored: for each place a vector of references and one of own words, beside who holds it.
-- What the state is, is said by Machine.antt of `bohm_core_base`, after J. M. Faleiro and D. J. Abadi, "Rethinking
-- Serializable Multiversion Concurrency Control", PVLDB 8 (2015), section 3.
use Rattle.std.specs.Prelude.{◌≡◌, ℕ, ◌&&◌, Bool, true, false, suc, List, length, map, nat_lt, slice_set}
use Rattle.std.specs.declared.vec.Vec.{Vec}
use Rattle.std.specs.declared.alloc.Global.{Global}
use Rattle.bohm_core_base.specs.declared.event.Event.{Event}
use Rattle.bohm_core_base.specs.declared.event.Event.TheVariants.{Place, Claim, Fill, End, Finish, GiveBack}
use Rattle.bohm_core_base.specs.Machine.{State, front_of}

-- there are one hold and one list of own words for each list of references
pub record OneEach (references holds own : ℕ) : Type 0 where
  pub holds_too : holds ≡ references
  pub own_too : own ≡ references

-- the lists that the vectors hold
abbrev pub lists_of : List (Vec ℕ Global) → List (List ℕ)
lists_of vectors = map (λ (vector : Vec ℕ Global). vector.items) vectors

-- whether there is such a partition, and a place that it hasn't placed
abbrev pub has_next_place : State → ℕ → Bool
has_next_place state partition =
    nat_lt partition (length state.fronts) && nat_lt (front_of state partition) (length state.references)

-- the state with these references stored for the next place of a partition, which has then placed one more
abbrev pub with_next_place : State → ℕ → List ℕ → State
with_next_place state partition references =
    record state {
      fronts = slice_set state.fronts partition (suc (front_of state partition));
      references = slice_set state.references (front_of state partition) references;
    }

-- whether an event may be refused for lack of memory; an actor takes a place and gives it back without any
abbrev pub takes_memory : Event → Bool
takes_memory (Place partition) = true
takes_memory (Claim actor index) = false
takes_memory (Fill actor index) = true
takes_memory (End actor index slot) = true
takes_memory (Finish actor index) = true
takes_memory (GiveBack actor index) = false
