-- The lines that explain why a statement is admitted or denied: one for each of its needs in order, up to and with the first that
-- isn't held, as the check of privileges stops there. Why each is held or was lost is after P. P. Griffiths and B. W. Wade, "An
-- Authorization Mechanism for a Relational Database System", ACM Transactions on Database Systems 1 (1976).
use Rattle.std.specs.Prelude.{◌≡◌, ◌∷◌, [], ℕ, Bool, true, false, List, All, map, if◌then◌else◌}
use Rattle.model_base.specs.declared.deed.Deed.{Deed}
use Rattle.model_base.specs.declared.deed.Need.{Need}
use Rattle.explain.specs.declared.line.Line.{Line}
use Rattle.explain.specs.declared.line.Shown.{Shown}
use Rattle.explain.specs.Lines.{IsSound, holds_before, shown_of}

-- the needs that are asked for in order: all if all are held, else up to and with the first that isn't
abbrev pub needs_asked : List ℕ → List Deed → ℕ → ℕ → List Need → List Need
needs_asked owners deeds place user [] = []
needs_asked owners deeds place user (need ∷ needs) =
    need ∷ (if holds_before owners deeds place user need then needs_asked owners deeds place user needs else [])

-- a need with what there is to show of it
abbrev pub line_of : List ℕ → List Deed → ℕ → ℕ → Need → Line
line_of owners deeds place user need = record { need = need; shown = shown_of owners deeds place user need }

-- the lines that explain the needs
abbrev pub explaining_lines : List ℕ → List Deed → ℕ → ℕ → List Need → List Line
explaining_lines owners deeds place user needs = map (line_of owners deeds place user) (needs_asked owners deeds place user needs)

-- the lines are of the needs that are asked for, and what each shows holds
pub record AreSound (owners : List ℕ) (deeds : List Deed) (place user : ℕ) (needs : List Need) (lines : List Line) : Type 0 where
  pub of : map (λ (line : Line). line.need) lines ≡ needs_asked owners deeds place user needs
  pub so : All (λ (line : Line). IsSound owners deeds place user line.need line.shown) lines

-- the line is of the need, and what it shows holds
abbrev pub Explains : List ℕ → List Deed → ℕ → ℕ → Need → Line → Type 0
Explains owners deeds place user need line = (line.need ≡ need) × IsSound owners deeds place user need line.shown

-- whether it is shown that the need is held
abbrev pub tells_held : Shown → Bool
tells_held Shown.Owner = true
tells_held (Shown.Grants ranks) = true
tells_held Shown.Never = false
tells_held (Shown.Taken lost ranks) = false
