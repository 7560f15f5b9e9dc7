use Rattle.std.proofs.Common.{◌≤◌, List, subst, sym}
use Rattle.chains.specs.declared.writes.Written.{Written}
use Rattle.chains.specs.Keyed.{Held, held_below}
use Rattle.chains.specs.Kept.{IsStoreKept}
use Rattle.chains.specs.Store.{Store}
use Rattle.chains.proofs.Placed.{cut-kept, kept-chained}
use Rattle.chains.proofs.store.Chains.cut.Goals as goal

pub cut-requires : goal.cut-requires
cut-requires c = (c.self.inside.end, kept-chained c.self.invariant.0)

pub invariant_of-self : goal.invariant_of-self
invariant_of-self c =
    let inside = c.self.inside in
    let first = c.args.first in
    let least = subst (λ (store : Store). store.mark ≤ first) (sym c.self.view_is) c.requires.mark in
    let kept = cut-kept first least c.self.invariant.0 in (
      subst (λ (held : Held). IsStoreKept held c.cut_writes.new.writes.items inside.mark first) (sym c.cut.ensures)
          (subst (λ (absent : List Written). IsStoreKept (held_below first inside.rows) absent inside.mark first) (sym c.cut_writes.ensures) kept),
      λ is. cc,
    )
