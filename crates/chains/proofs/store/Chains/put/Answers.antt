use Rattle.std.proofs.Common.{◌≡◌, ◌+◌, ◌≤◌, List, refl, subst, sym, ◌∙◌, ap}
use Rattle.chains.specs.declared.version.Version.{Version}
use Rattle.chains.specs.declared.writes.Written.{Written}
use Rattle.chains.specs.Kept.{AreNoted, IsStoreKept, is_absent}
use Rattle.chains.specs.Store.{Store}
use Rattle.chains.proofs.Placed.{noted, put-kept, put-noted}
use Rattle.chains.proofs.store.Chains.put.Goals as goal

pub invariant_of-self-2 : goal.invariant_of-self-2
invariant_of-self-2 c =
    let inside = c.self.inside in
    let version : Version = record { place = c.args.place; key = c.args.access.now.key; row = c.args.row.now } in
    let gone = is_absent version in
    let items : c.note_if_absent.new.writes.items ≡ noted gone inside.absent.items version =
    c.note_if_absent.ensures.items ∙ ap (λ (writes : List Written). noted gone writes version) c.in_ok-reserve.ensures.items in
    let last : c.args.place + 1 ≡ inside.end = c.requires.last ∙ sym (ap (λ (store : Store). store.end) c.self.view_is) in
    let least : inside.mark ≤ c.args.place = subst (λ (store : Store). store.mark ≤ c.args.place) (sym c.self.view_is) c.requires.mark in
    let old = inside.absent.items in
    let added = c.in_ok-put.ensures.added in (
      subst (λ (notes : List Written). IsStoreKept c.put.new.self notes inside.mark inside.end) (sym items)
          (put-kept inside.rows c.put.new.self old inside.mark inside.end version gone refl added c.self.invariant.0 least last
          c.in_ok-put.ensures.replacing),
      λ all. subst (AreNoted c.put.new.self) (sym items)
          (put-noted inside.rows c.put.new.self old inside.mark inside.end version gone refl added c.self.invariant.0 (c.self.invariant.1 all)),
    )
