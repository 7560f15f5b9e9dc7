use Rattle.std.proofs.Common.{string_bytes, ◌∙◌, sym, ap, map, List, ℕ}
use Rattle.sequencer.specs.Names.{number_of, with_name}
use Rattle.sequencer.proofs.NameLemmas.{number_of-map, with_name-map}
use Rattle.sequencer.proofs.names.NameTable.add.Goals as goal

pub returns-clause-number : goal.returns-clause-number
returns-clause-number c =
    c.in_ok-index.ensures.index ∙ sym (number_of-map string_bytes (string_bytes c.in_ok-name.name) c.self.inside.names.keys)
    ∙ ap (λ (names : List (List ℕ)). number_of names (string_bytes c.in_ok-name.name)) c.self.view_is
    ∙ ap (number_of c.args.self.now) c.in_ok-name.ensures.ok

pub returns-clause-added : goal.returns-clause-added
returns-clause-added c =
    ap (map string_bytes) c.in_ok-index.ensures.keys ∙ with_name-map string_bytes c.in_ok-name.name c.self.inside.names.keys
    ∙ ap (λ (names : List (List ℕ)). with_name names (string_bytes c.in_ok-name.name)) c.self.view_is
    ∙ ap (with_name c.args.self.now) c.in_ok-name.ensures.ok
