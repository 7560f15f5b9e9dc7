use Rattle.std.proofs.Common.{◌≡◌, ◌+◌, Some, None, true, [], length, refl, sym, ◌∙◌, ap, arith}
use Rattle.std.specs.Prelude.{if◌then◌else◌, is_some}
use Rattle.std.specs.Map.{lookup}
use Rattle.body.specs.RowMap.{key_eq}
use Rattle.chains.specs.declared.replaced.Dated.{Dated}
use Rattle.chains.specs.Keyed.{Held, replaced_of, versions_in}
use Rattle.chains.specs.Kept.{next_swept}
use Rattle.chains.specs.Store.{is_spent, of_key}
use Rattle.chains.proofs.Entries.{backed-by}
use Rattle.chains.proofs.Sweeping.{spent-alone, swept-left, swept-length}
use Rattle.chains.proofs.rows.Rows.take_spent.Goals as goal

spent : (c : goal.After-swap_remove)
    → is_spent c.args.mark (of_key c.args.key (versions_in c.self.inside.older.items c.self.inside.newest.entries)) ≡ true
spent c =
    ap (λ (held : Held). is_spent c.args.mark (of_key c.args.key held.versions)) c.self.view_is ∙ sym c.is_spent.ensures ∙ c.if-not-is_spent.false

alone : (c : goal.After-swap_remove) → (newest : Dated) × (lookup (key_eq c.args.key) c.self.inside.newest.entries ≡ Some newest)
    × (replaced_of c.args.key c.self.inside.older.items ≡ [])
alone c = spent-alone c.args.mark c.self.inside.older.items c.self.inside.newest.entries c.args.key c.self.invariant (spent c)

pub invariant_of-self : goal.invariant_of-self
invariant_of-self c = record {
  distinct = c.swap_remove.ensures.unique;
  backed =
      backed-by c.self.inside.older.items c.self.inside.older.items c.args.key (λ q. lookup (key_eq q) c.self.inside.newest.entries)
      (λ q. lookup (key_eq q) c.swap_remove.new.self.entries) None c.swap_remove.ensures.updates.0
      (λ none. (alone c).2) (λ q differ. refl) c.self.invariant.backed;
}

pub returns-clause-left : goal.returns-clause-left
returns-clause-left c = λ other.
    swept-left c.args.mark c.self.inside.older.items c.self.inside.newest.entries c.swap_remove.new.self.entries c.args.key c.self.invariant
    (invariant_of-self c) c.swap_remove.ensures.updates.0 (spent c) other
    ∙ ap (λ (held : Held). of_key other (next_swept c.args.mark held.versions c.args.key)) c.self.view_is

pub returns-clause-gone : goal.returns-clause-gone
returns-clause-gone c =
    let entries = c.self.inside.newest.entries in
    let older = c.self.inside.older.items in
    let new = c.swap_remove.new.self.entries in
    let some : is_some c.swap_remove.result ≡ true = ap is_some (c.swap_remove.ensures.value ∙ (alone c).1) in
    let shorter : length new + 1 ≡ length entries = ap (λ b. length new + (if b then 1 else 0)) (sym some) ∙ c.swap_remove.ensures.len in
    let count : length (versions_in older new) + 1 ≡ length (versions_in older entries) =
    swept-length older entries new c.args.key (alone c).2 c.swap_remove.ensures.entries shorter in
    omega (arith, count, ap (λ (held : Held). length held.versions) c.self.view_is)
