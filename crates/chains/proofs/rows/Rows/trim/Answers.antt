use Rattle.std.proofs.Common.{◌≡◌, ◌+◌, ◌++◌, List, length, sym, ◌∙◌, ap, subst}
use Rattle.chains.specs.declared.replaced.Replaced.{Replaced}
use Rattle.chains.specs.Keyed.{AreBacked, Held, held_in}
use Rattle.chains.specs.Kept.{IsStoreKept}
use Rattle.chains.proofs.Entries.{backed-behind}
use Rattle.chains.proofs.Dropping.{IsTrimmed, trimmed-all}
use Rattle.chains.proofs.rows.Rows.trim.Goals as goal
use Rattle.chains.proofs.rows.Rows.trim.Goals.{After-take_below}

parted : (c : After-take_below) → AreBacked (c.take_below.ensures.taken.0 ++ c.take_below.new.older.items) c.self.inside.newest.entries
parted c = subst (λ (items : List Replaced). AreBacked items c.self.inside.newest.entries) c.take_below.ensures.taken.1 c.self.invariant

pub invariant_of-self : goal.invariant_of-self
invariant_of-self c =
    backed-behind c.take_below.ensures.taken.0 c.take_below.new.older.items c.self.inside.newest.entries
    (parted (goal.at.invariant_of-self c).After-take_below)

pub returns : goal.returns
returns c =
    let taken = c.take_below.ensures.taken.0 in
    let rest = c.take_below.new.older.items in
    let entries = c.self.inside.newest.entries in
    let whole : held_in (taken ++ rest) entries ≡ c.args.self.now =
    ap (λ (items : List Replaced). held_in items entries) (sym c.take_below.ensures.taken.1) ∙ c.self.view_is in
    let trims =
    subst (λ (held : Held). IsTrimmed c.args.mark held (held_in rest entries) (length taken)) whole
    (trimmed-all c.args.mark taken rest entries c.requires.0 c.requires.1 c.requires.2 (parted (goal.at.returns c).After-take_below)
    c.take_below.ensures.taken.3 c.take_below.ensures.rest c.requires.3
    (subst (λ (held : Held). IsStoreKept held c.requires.0 c.requires.1 c.requires.2) (sym whole) c.requires.4)) in
    record {
      left = trims.left;
      newest = trims.newest;
      kept = trims.kept;
      noted = trims.noted;
      gone = ap (λ n. n + length (held_in rest entries).versions) c.take_below.ensures.taken.2 ∙ trims.gone;
    }
