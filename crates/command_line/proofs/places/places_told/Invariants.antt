use Rattle.std.proofs.Common.{◌≡◌, drop, map}
use Rattle.command_line.specs.Places.{places_told}
use Rattle.command_line.proofs.Several.{after}
use Rattle.command_line.proofs.places.places_told.Given as goal

abbrev pub invariant-loop-word : goal.invariant-loop-word
invariant-loop-word l =
    after l.places.items (places_told (map (λ word. word.now) (drop l.word-index l.words))) ≡ places_told (map (λ word. word.now) l.words)
