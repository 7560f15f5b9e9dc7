use Rattle.std.proofs.Common.{string_bytes, ◌≡◌, ◌∙◌, sym, ap, refl, true, List, ℕ, Some}
use Rattle.std.proofs.lemmas.Bool.{OnTrue_at, OnTrue_from}
use Rattle.std.proofs.lemmas.Option.{slice_get_read}
use Rattle.sequencer.specs.Names.{is_known, known_number}
use Rattle.sequencer.proofs.NameLemmas.{own_known, own_number}
use Rattle.sequencer.proofs.names.NameTable.is_name.Goals as goal

pub returns-in-Some-clause-number : goal.returns-in-Some-clause-number
returns-in-Some-clause-number c =
    OnTrue_from c.same_text.result (known_number c.args.self.now c.args.name.now ≡ Some c.args.number) (λ same.
    ap (λ (names : List (List ℕ)). known_number names c.args.name.now) (sym c.self.view_is)
    ∙ own_number string_bytes c.self.inside.names.keys c.args.number c.in-Some.own.now c.args.name.now c.as_slice.ensures.unique
    (rw (sym c.as_slice.ensures.keys)
    (slice_get_read c.as_slice.result.now _ c.args.number c.in-Some.own.now refl c.in-Some.ensures.lookup.3.0 c.in-Some.ensures.lookup.1))
    (sym c.as_bytes.ensures.value ∙ OnTrue_at same c.same_text.ensures ∙ c.as_bytes-in-Some.ensures.value))

pub returns-in-Some-clause-known : goal.returns-in-Some-clause-known
returns-in-Some-clause-known c =
    OnTrue_from c.same_text.result (is_known c.args.self.now c.args.name.now ≡ true) (λ same.
    ap (λ (names : List (List ℕ)). is_known names c.args.name.now) (sym c.self.view_is)
    ∙ own_known string_bytes c.self.inside.names.keys c.args.number c.in-Some.own.now c.args.name.now
    (rw (sym c.as_slice.ensures.keys)
    (slice_get_read c.as_slice.result.now _ c.args.number c.in-Some.own.now refl c.in-Some.ensures.lookup.3.0 c.in-Some.ensures.lookup.1))
    (sym c.as_bytes.ensures.value ∙ OnTrue_at same c.same_text.ensures ∙ c.as_bytes-in-Some.ensures.value))
