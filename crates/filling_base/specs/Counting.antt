-- How many bodies were run through a pass. A transaction is run by the one thread that took it to be executing, so once for all
-- threads: J. M. Faleiro and D. J. Abadi, "Rethinking Serializable Multiversion Concurrency Control", PVLDB 8 (2015), section 3.
-- That a pass carries the count, and that it stops at the greatest number of a word, is this project's own.
use Rattle.std.specs.Prelude.{◌≡◌, ◌+◌, ◌-◌, ◌^◌, ℕ, zero, suc, min, sum_by, Result, Ok, Err, List, [], ◌∷◌, ◌++◌}
use Rattle.bohm_core_base.specs.declared.event.Event.{Event}
use Rattle.bohm_core_base.specs.declared.event.Event.TheVariants.{Place, Claim, Fill, End, Finish, GiveBack}
use Rattle.words.specs.Passes.{PassState}

-- the place that an event finishes, if any
abbrev pub finish_of : Event → List ℕ
finish_of (Place partition) = []
finish_of (Claim actor index) = []
finish_of (Fill actor index) = []
finish_of (End actor index slot) = []
finish_of (Finish actor index) = index ∷ []
finish_of (GiveBack actor index) = []

-- the places that these events finish, in their order
abbrev pub finished_places : List Event → List ℕ
finished_places [] = []
finished_places (event ∷ events) = finish_of event ++ finished_places events

-- the count after this many more bodies: it stops at the greatest number, as where each is counted by itself
abbrev pub counted_more : ℕ → ℕ → ℕ
counted_more bodies zero = bodies
counted_more bodies (suc more) = min (bodies + suc more) (2 ^ 64 - 1)

-- the pass has finished these places meanwhile, and has counted this many bodies for each of them, and none besides
pub record CountsBodies (runs : ℕ → ℕ) (pass after : PassState) : Type 0 where
  pub places : List ℕ
  pub finishes : finished_places after.view.events ≡ finished_places pass.view.events ++ places
  pub bodies : after.bodies ≡ counted_more pass.bodies (sum_by runs places)

-- who filled a place that this many bodies are run for has counted them; where memory ran out, none was counted
abbrev pub FillCounts : {A E : Type 0} → ℕ → ℕ → Result A E → ℕ → Type 0
FillCounts runs bodies (Ok _) after = after ≡ counted_more bodies runs
FillCounts runs bodies (Err _) after = after ≡ bodies
