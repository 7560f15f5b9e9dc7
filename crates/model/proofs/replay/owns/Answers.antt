use Rattle.std.proofs.Common.{◌≡◌, ◌<◌, length, sym, ◌∙◌, ap, Some, None}
use Rattle.std.specs.Prelude.{slice_get}
use Rattle.std.proofs.lemmas.Option.{slice_get-get_or, slice_get_past}
use Rattle.std.proofs.lemmas.Bool.{le-ltb}
use Rattle.model_base.specs.Privileges.{owns}
use Rattle.model.proofs.replay.owns.Goals as goal

pub returns-then-index-owners : goal.returns-then-index-owners
unfolding owns
returns-then-index-owners c =
    let at : c.table.inside.0 ≡ c.args.table = c.table.view_is in
    let within : c.args.table < length c.args.owners.now = rw (← at) c.if-index-owners.true in
    let found : slice_get c.args.owners.now c.args.table ≡ Some c.index-owners-index.result = slice_get-get_or c.args.owners.now c.args.table c.index-owners-index.result within ∙ ap Some (sym (rw at at c.index-owners-index.is)) in
    rw found c.eq.ensures

pub returns-else-index-owners : goal.returns-else-index-owners
unfolding owns
returns-else-index-owners c =
    let at : c.table.inside.0 ≡ c.args.table = c.table.view_is in
    let past : slice_get c.args.owners.now c.args.table ≡ None = slice_get_past c.args.owners.now c.args.table (rw (← at) c.if-index-owners.false) in
    rw past (le-ltb c.table.inside.0 (length c.args.owners.now) c.if-index-owners.false)
