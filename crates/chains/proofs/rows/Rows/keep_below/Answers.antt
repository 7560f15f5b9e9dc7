use Rattle.std.proofs.Common.{◌≡◌, ltb, rules, subst, sym, ◌∙◌, ap}
use Rattle.indexmap.proofs.CallerLemmas.{filter-RetainsPairs}
use Rattle.chains.specs.declared.replaced.Dated.{Dated}
use Rattle.chains.specs.Kept.{AreChained, AreWrittenBelow}
use Rattle.chains.specs.Keyed.{Held, held_below}
use Rattle.chains.proofs.Keeping.{IsKeptBelow, keep-below, passing}
use Rattle.chains.proofs.rows.Rows.keep_below.Goals as goal

left : (c : goal.After-retain) → IsKeptBelow c.args.first c.self.inside.older.items c.self.inside.newest.entries c.retain.new.self.entries
left c =
    let is : c.retain.new.self.entries ≡ passing (λ (dated : Dated). ltb dated.place c.args.first) c.self.inside.newest.entries =
    filter-RetainsPairs _ _ _ (λ k v b w g call. search rules) _ _ c.retain.ensures.filtered in
    subst (IsKeptBelow c.args.first c.self.inside.older.items c.self.inside.newest.entries) (sym is)
    (keep-below c.args.first c.requires.chained.0 c.self.inside.older.items c.self.inside.newest.entries c.self.invariant
    (subst (λ (held : Held). AreChained held c.requires.chained.0) (sym c.self.view_is) c.requires.chained.1)
    (subst (λ (held : Held). AreWrittenBelow c.args.first held.replacing) (sym c.self.view_is) c.requires.gone))

pub invariant_of-self : goal.invariant_of-self
invariant_of-self c = record { distinct = c.retain.ensures.unique; backed = (left c).backed }

pub returns : goal.returns
returns c = (left c).held ∙ ap (held_below c.args.first) c.self.view_is
