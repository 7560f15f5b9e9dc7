use Rattle.std.proofs.Common.{◌≡◌, sym, subst, Option}
use Rattle.std.specs.Prelude.{IfSome}
use Rattle.std.proofs.lemmas.Map.Made.{lookup_key_passes}
use Rattle.model_base.specs.declared.row.Key.{Key}
use Rattle.body.specs.RowMap.{key_eq}
use Rattle.chains.specs.declared.replaced.Dated.{Dated as Newest}
use Rattle.chains.proofs.Keyed.{key-is}
use Rattle.chains.proofs.finding.index_by_hash.Goals as goal

pub returns-in-Some-clause-there : goal.returns-in-Some-clause-there
returns-in-Some-clause-there c =
    let key = c.args.key.now in
    let at = c.in-Some._at.now in
    let is : key ≡ at = key-is key at (lookup_key_passes (key_eq key) c.args.newest.now.entries at (sym c.in-Some.ensures.key)) in
    subst (λ (one : Option (Key × Newest)). IfSome one (λ entry. entry.0 ≡ key)) (sym c.in-Some.ensures.entry) (sym is)
