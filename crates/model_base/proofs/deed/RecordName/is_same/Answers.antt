use Rattle.model_base.proofs.Ranked.{same_parts}
use Rattle.model_base.proofs.deed.RecordName.is_same.Goals as goal

pub returns : goal.returns
returns c =
    rw (c.code.ensures, c.code-2.ensures, c.code-3.ensures, c.code-4.ensures, ← c.self.view_is, ← c.other.view_is)
    (same_parts c.self.inside c.other.inside)
