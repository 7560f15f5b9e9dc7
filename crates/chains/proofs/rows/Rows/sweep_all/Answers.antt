use Rattle.std.proofs.Common.{◌≡◌, ◌+◌, rules, length, refl, subst, sym, ◌∙◌, ap, arith}
use Rattle.std.specs.Map.{lookup}
use Rattle.body.specs.RowMap.{key_eq}
use Rattle.indexmap.proofs.CallerLemmas.{filter-RetainsPairs}
use Rattle.model_base.specs.declared.row.Key.{Key}
use Rattle.chains.specs.Keyed.{AreBacked, Held, held_in, versions_in}
use Rattle.chains.specs.Kept.{IsStoreKept}
use Rattle.chains.specs.Store.{is_spent, of_key, swept}
use Rattle.chains.proofs.Keeping.{alive-backed, alive-count, alive-left, is_alive, passing}
use Rattle.chains.proofs.Sweeping.{IsLeft, kept-noted, left-kept, left-newest, swept-alive, swept-is}
use Rattle.chains.proofs.rows.Rows.sweep_all.Goals as goal
use Rattle.chains.proofs.rows.Rows.sweep_all.Goals.{After-retain}

passes : (c : After-retain) → c.retain.new.self.entries ≡ passing (is_alive c.args.mark) c.self.inside.newest.entries
passes c = filter-RetainsPairs _ _ _ (λ k v b w g call. search rules) _ _ c.retain.ensures.filtered

kept : (c : After-retain) → IsStoreKept (held_in c.self.inside.older.items c.self.inside.newest.entries) c.requires.kept.0 c.args.mark c.requires.kept.1
kept c = subst (λ (held : Held). IsStoreKept held c.requires.kept.0 c.args.mark c.requires.kept.1) (sym c.self.view_is) c.requires.kept.2

backed : (c : After-retain) → AreBacked c.self.inside.older.items c.retain.new.self.entries
backed c = record {
  distinct = c.retain.ensures.unique;
  backed = λ key none.
      alive-backed c.args.mark c.requires.kept.1 c.self.inside.older.items c.self.inside.newest.entries c.requires.kept.0 c.self.invariant (kept c) key
      (ap (lookup (key_eq key)) (sym (passes c)) ∙ none);
}

left : (c : After-retain) (key : Key)
    → of_key key (versions_in c.self.inside.older.items c.retain.new.self.entries) ≡ swept c.args.mark (of_key key c.args.self.now.versions)
left c key =
    let entries = c.self.inside.newest.entries in
    let older = c.self.inside.older.items in
    ap (λ es. of_key key (versions_in older es)) (passes c)
    ∙ alive-left c.args.mark c.requires.kept.1 older entries c.requires.kept.0 c.self.invariant (kept c) (subst (AreBacked older) (passes c) (backed c)) key
    ∙ ap (λ (held : Held). swept c.args.mark (of_key key held.versions)) c.self.view_is

pub invariant_of-self : goal.invariant_of-self
invariant_of-self c = backed (goal.at.invariant_of-self c).After-retain

pub returns : goal.returns
returns c =
    let retained = (goal.at.returns c).After-retain in
    let mark = c.args.mark in
    let entries = c.self.inside.newest.entries in
    let older = c.self.inside.older.items in
    let old = c.args.self.now in
    let new : Held = held_in older c.retain.new.self.entries in
    let is_left : (key : Key) → IsLeft mark (of_key key old.versions) (of_key key new.versions) = λ key. swept-is mark _ _ (left retained key) in
    let writes : new.replacing ≡ old.replacing = ap (λ (held : Held). held.replacing) c.self.view_is in
    let count : length (versions_in older entries) + length c.retain.new.self.entries ≡ length new.versions + length entries =
    subst (λ es. length (versions_in older entries) + length es ≡ length (versions_in older es) + length entries) (sym (passes retained))
    (alive-count mark c.requires.kept.1 older entries c.requires.kept.0 c.self.invariant (kept retained)) in
    record {
      left = left retained;
      newest = left-newest mark old new is_left;
      kept = λ absent end kept. left-kept mark old new is_left absent end writes kept;
      noted = λ absent end kept key.
          kept-noted mark end new absent (left-kept mark old new is_left absent end writes kept) key
          (ap (is_spent mark) (left retained key) ∙ swept-alive mark (of_key key old.versions));
      whole = refl;
      gone = omega (arith, count, ap (λ (held : Held). length held.versions) c.self.view_is, c.retain.ensures.bound, c.len-before.ensures);
    }
