-- What a call asks for.
use Rattle.std.specs.Prelude.{◌≡◌, ◌∷◌, [], ℕ, List, None, Option, Some}
use Rattle.model_base.specs.declared.deed.Kind.{Kind}
use Rattle.log_text.specs.Fault.{kind_named}
use Rattle.fed_run.specs.Stands.{TextListsHolders}
use Rattle.fed_run.specs.declared.fed.FedRun.{FedRun}

-- the name of the table, if there are bytes of one
abbrev pub asked_name : List ℕ → Option (List ℕ)
asked_name [] = None
asked_name (b ∷ bytes) = Some (b ∷ bytes)

-- the word names a kind, and the text lists who holds that on the table of the name
abbrev pub TextListsAsked : FedRun → List ℕ → List ℕ → List ℕ → Type 0
TextListsAsked run word name text = (kind : Kind) × ((kind_named word ≡ Some kind) × TextListsHolders run kind name text)
