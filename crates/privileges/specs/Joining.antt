-- How spans are joined.
use Rattle.std.specs.Prelude.{nat_le, ℕ, Bool, true, Option, Some, None, max}
use Rattle.std.specs.Option.{option_map_or}
use Rattle.model_base.specs.declared.deed.Record.{Record}
use Rattle.privileges.specs.declared.spanning.Span.{Span}

-- the span in which the grant of the record was in force
abbrev pub span_of : Record → Span
span_of entry = record { from = entry.grant.place; to = entry.end }

-- whether the span lasts until the place
abbrev pub lasts_until : Span → ℕ → Bool
lasts_until span place = option_map_or (λ to. nat_le place to) span.to true

-- the later of two ends, of which none is the latest
abbrev pub later_end : Option ℕ → Option ℕ → Option ℕ
later_end (Some first) (Some second) = Some (max first second)
later_end _ _ = None
