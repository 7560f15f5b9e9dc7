use Rattle.std.proofs.Common.{string_bytes, ◌∙◌, sym, ap, List, ℕ}
use Rattle.std.specs.Prelude.{is_some}
use Rattle.sequencer.specs.Names.{is_known, known_number}
use Rattle.sequencer.proofs.NameLemmas.{known_number-map, is_known-map}
use Rattle.sequencer.proofs.names.NameTable.find.Goals as goal

pub returns-in_err-index-clause-number : goal.returns-in_err-index-clause-number
returns-in_err-index-clause-number c =
    c.from_residual.ensures ∙ c.in_err-index.ensures.index ∙ sym (known_number-map string_bytes c.args.name.now c.self.inside.names.keys)
    ∙ ap (λ (names : List (List ℕ)). known_number names c.args.name.now) c.self.view_is

pub returns-clause-number : goal.returns-clause-number
returns-clause-number c =
    c.in_ok-index.ensures.index ∙ sym (known_number-map string_bytes c.args.name.now c.self.inside.names.keys)
    ∙ ap (λ (names : List (List ℕ)). known_number names c.args.name.now) c.self.view_is

pub returns-in_err-index-clause-known : goal.returns-in_err-index-clause-known
returns-in_err-index-clause-known c =
    ap is_some c.from_residual.ensures ∙ c.in_err-index.ensures.found ∙ sym (is_known-map string_bytes c.args.name.now c.self.inside.names.keys)
    ∙ ap (λ (names : List (List ℕ)). is_known names c.args.name.now) c.self.view_is

pub returns-clause-known : goal.returns-clause-known
returns-clause-known c =
    c.in_ok-index.ensures.found ∙ sym (is_known-map string_bytes c.args.name.now c.self.inside.names.keys)
    ∙ ap (λ (names : List (List ℕ)). is_known names c.args.name.now) c.self.view_is
