-- The words that name the places to be explained.
use Rattle.std.specs.Prelude.{[], ◌∷◌, ℕ, List, Option, Some, codes, option_and_then, option_map, unwrap_or}
use Rattle.clap.specs.Words.{Row, Text, all_of}
use Rattle.command_line.specs.Options.{number_within}
use Rattle.command_line.specs.declared.options.TheConstants.{MOST_PLACE}

-- the places that some words give, if each is a place within the limits
abbrev pub places_told : List Text → Option (List ℕ)
places_told [] = Some []
places_told (word ∷ words) =
    option_and_then (λ place. option_map (λ places. place ∷ places) (places_told words)) (number_within 0 MOST_PLACE word)

-- and so by the words PLACE
abbrev pub places_among : List Row → Option (List ℕ)
places_among rows = places_told (unwrap_or (all_of (codes "PLACE") rows) [])
