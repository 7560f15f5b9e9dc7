-- Which needs a view of the records doesn't show as held.
use Rattle.std.specs.Prelude.{ℕ, not, All, Bool, IsTrue, Option, List}
use Rattle.std.specs.List.{find}
use Rattle.std.specs.Option.{option_map}
use Rattle.model_base.specs.declared.deed.Need.{Need}
use Rattle.grants.specs.Loss.{cause_in}
use Rattle.grants_base.specs.View.{View, covers, holds_in}
use Rattle.checker.specs.declared.missing.Lack.{Lack}

-- whether the user doesn't hold the need by the records of the view
abbrev pub lacks : View → ℕ → Need → Bool
lacks view user need = not (holds_in view user need)

-- the first of the needs that the user doesn't hold by the records of the view
abbrev pub first_lacking : View → ℕ → List Need → Option Need
first_lacking view user needed = find (lacks view user) needed

-- a need that the user doesn't hold by the records of the view, with its cause
abbrev pub lack_of : View → ℕ → Need → Lack
lack_of view user need = record { need = need; cause = cause_in view user need }

-- the first of the needs that the user doesn't hold by the records of the view, with its cause
abbrev pub first_lack : View → ℕ → List Need → Option Lack
first_lack view user needed = option_map (lack_of view user) (first_lacking view user needed)

-- the view covers the tables of the needs
abbrev pub Covers : View → List Need → Type 0
Covers view needed = All (λ (need : Need). IsTrue (covers view need.table)) needed
