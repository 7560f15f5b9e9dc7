-- The spans of places in which a user held a privilege. That each grant is kept with its own time is R. Fagin's correction, "On an
-- Authorization Mechanism", ACM Transactions on Database Systems 3 (1978). That these times are joined to spans is this project's own.
use Rattle.std.specs.Prelude.{◌≡◌, ◌<◌, ◌&&◌, nat_lt, nat_le, ℕ, Bool, true, List, [], ◌∷◌, All, IfSome}
use Rattle.std.specs.List.{list_any}
use Rattle.std.specs.Option.{IsSomeAnd, option_map_or}
use Rattle.model_base.specs.declared.deed.Deed.{Deed}
use Rattle.model_base.specs.declared.deed.Need.{Need}
use Rattle.model_base.specs.Privileges.{deeds_below, holds}
use Rattle.privileges.specs.declared.spanning.Span.{Span}

-- whether the place lies in the span: after the place that began it, and up to the one that ended it, if one did
abbrev pub is_within : ℕ → Span → Bool
is_within place span = nat_lt span.from place && option_map_or (λ to. nat_le place to) span.to true

-- the span ends below the beginning of a later one
abbrev pub IsOverBefore : Span → Span → Type 0
IsOverBefore span later = IsSomeAnd span.to (λ to. to < later.from)

-- each span ends above its beginning, and below those after it; so only the last may be open
abbrev pub AreSeparate : List Span → Type 0
AreSeparate [] = Unit {0}
AreSeparate (span ∷ later) = IfSome span.to (λ to. span.from < to) × All (IsOverBefore span) later × AreSeparate later

-- the spans are those in which the user holds what is needed: it is held by the deeds below a place exactly if the place lies in one
pub record AreSpans (owners : List ℕ) (deeds : List Deed) (user : ℕ) (need : Need) (spans : List Span) : Type 0 where
  pub apart : AreSeparate spans
  pub tells : (place : ℕ) → holds owners (deeds_below place deeds) user need ≡ list_any (is_within place) spans
