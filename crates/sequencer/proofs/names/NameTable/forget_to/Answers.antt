use Rattle.std.proofs.Common.{string_bytes, map, take, sym, ap, ◌∙◌}
use Rattle.std.proofs.lemmas.List.{take-map}
use Rattle.sequencer.proofs.names.NameTable.forget_to.Goals as goal

pub returns : goal.returns
returns c =
    ap (λ keys. map string_bytes keys) c.truncate.ensures.keys ∙ sym (take-map string_bytes c.args.len c.self.inside.names.keys)
    ∙ ap (take c.args.len) c.self.view_is
