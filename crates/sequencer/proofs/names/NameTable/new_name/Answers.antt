use Rattle.std.proofs.Common.{◌≡◌, ◌<◌, string_bytes, length, take, slice_get, Some, ◌∙◌, sym, ap, arith, List, ℕ}
use Rattle.std.proofs.lemmas.List.{length-map}
use Rattle.std.proofs.lemmas.Option.{slice_get-get_or}
use Rattle.sequencer.specs.Names.{is_known}
use Rattle.sequencer.proofs.NameLemmas.{own_new}
use Rattle.sequencer.proofs.names.NameTable.new_name.Goals as goal

pub returns-clause-is_new : goal.returns-clause-is_new
returns-clause-is_new c =
    let keys = c.self.inside.names.keys in
    let own = c.index-names-number.result in
    let low : c.args.number < length keys = omega (arith, c.requires, ap length c.self.view_is, length-map keys string_bytes) in
    let at : slice_get keys c.args.number ≡ Some own =
    slice_get-get_or keys c.args.number own low ∙ ap Some (sym (rw c.as_slice-names.ensures.keys at c.index-names-number.is)) in
    ap (λ (names : List (List ℕ)). is_known (take c.args.number names) c.as_str.result.now) (sym c.self.view_is)
    ∙ own_new string_bytes keys c.args.number own c.as_str.result.now c.as_slice-names.ensures.unique at (sym c.as_str.ensures.value)
