-- A deed on the way through a list of them.
use Rattle.std.specs.Prelude.{Option, Some, None, List, if◌then◌else◌}
use Rattle.std.specs.List.{list_any}
use Rattle.model_base.specs.declared.deed.Grant.{Grant}
use Rattle.model_base.specs.declared.deed.Deed.{Deed}
use Rattle.model_base.specs.declared.deed.Deed.TheVariants.{Granting, Revoking}
use Rattle.model_base.specs.Privileges.{revokes}

-- the deed's grant, if it has one that no later deed names
abbrev pub unerased : Deed → List Deed → Option Grant
unerased (Granting grant) later = if list_any (λ deed. revokes deed grant) later then None else Some grant
unerased (Revoking _) later = None
