use Rattle.std.proofs.Common.{◌++◌, ◌∷◌, [], List, subst}
use Rattle.model_base.specs.declared.deed.Record.{Record}
use Rattle.grants_base.specs.Index.{is_to}
use Rattle.grants_base.specs.InForce.{made_under}
use Rattle.grants_base.specs.Marks.{AreIndexed}
use Rattle.grants_base.specs.Sides.{IsPopped, by_side, is_made_by, slots_under, to_side}
use Rattle.grants_base.specs.declared.index.HolderKey.{HolderKey}
use Rattle.grants_base.proofs.Indexing.{ends_less}
use Rattle.grants_base.proofs.SideLaws.{by_side-same, indexes_less, to_side-same}
use Rattle.grants_base.proofs.indexed.IndexedRecords.pop.Goals as goal

pub invariant_of-self : goal.invariant_of-self
invariant_of-self c =
    let entries = c.pop.new.self.items in
    let last = c.in-Some.record in
    let was : AreIndexed (entries ++ last ∷ []) c.self.inside.by c.self.inside.last_end c.self.inside.in_force =
    subst (λ (es : List Record). AreIndexed es c.self.inside.by c.self.inside.last_end c.self.inside.in_force) c.in-Some.ensures.items c.self.invariant in
    record {
      grantees = indexes_less is_to to_side to_side-same (made_under c.self.inside.in_force) (made_under c.pop-in-Some.new.self) entries last was.grantees c.pop-in-Some.ensures.made;
      grantors =
          indexes_less is_made_by by_side by_side-same (slots_under c.self.inside.by) (slots_under c.pop-in-Some-2.new.self) entries last was.grantors
          (subst (λ (side : HolderKey). IsPopped side (slots_under c.self.inside.by) (slots_under c.pop-in-Some-2.new.self)) c.by_side.ensures c.pop-in-Some-2.ensures);
      last = ends_less c.self.inside.last_end entries last was.last;
      kept = c.pop-in-Some.ensures.kept entries;
    }
