use Rattle.std.proofs.Common.{◌≡◌, List, length, sym, ◌∙◌, ap, subst, vec_len}
use Rattle.std.proofs.lemmas.List.{with_items_is}
use Rattle.model_base.specs.declared.deed.Record.{Record}
use Rattle.grants_base.specs.Book.{end_slots}
use Rattle.grants_base.specs.Index.{is_to}
use Rattle.grants_base.specs.InForce.{KeepsInForce, made_under}
use Rattle.grants_base.specs.Marks.{AreIndexed, EndBy}
use Rattle.grants_base.specs.Sides.{is_made_by, side_of, slots_under}
use Rattle.grants_base.proofs.Indexing.{recorded-end_slots}
use Rattle.grants_base.proofs.SideLaws.{indexes_as}
use Rattle.grants_base.proofs.indexed.IndexedRecords.end.Goals as goal

pub invariant_of-self : goal.invariant_of-self
invariant_of-self c =
    let entries = c.self.inside.records.items in
    let ends = c.args.ends.now in
    let long : length c.end_each.new.records ≡ vec_len c.self.inside.records = c.end_each.auto.records ∙ c.deref_mut.ensures.len in
    let is = c.end_each.ensures.ended ∙ ap (λ (es : List Record). end_slots es ends) c.deref_mut.ensures.value in
    let now = with_items_is c.self.inside.records c.end_each.new.records long ∙ is in
    let grants = recorded-end_slots entries ends in
    subst (λ (es : List Record). AreIndexed es c.self.inside.by c.end_each.new.last_end c.end_each.new.in_force) (sym now)
    (record {
      grantees = indexes_as is_to (made_under c.end_each.new.in_force) entries (end_slots entries ends) grants
          (λ holder kind table. c.end_each.ensures.made (side_of holder kind table) ∙ c.self.invariant.grantees holder kind table);
      grantors = indexes_as is_made_by (slots_under c.self.inside.by) entries (end_slots entries ends) grants c.self.invariant.grantors;
      last = subst (EndBy c.end_each.new.last_end) is c.end_each.ensures.last;
      kept = subst (KeepsInForce c.end_each.new.in_force) is c.end_each.ensures.kept;
    })

pub end_each-requires-clause-kept : goal.end_each-requires-clause-kept
end_each-requires-clause-kept c = subst (KeepsInForce c.self.inside.in_force) (sym c.deref_mut.ensures.value) c.self.invariant.kept

pub end_each-requires-clause-last : goal.end_each-requires-clause-last
end_each-requires-clause-last c = subst (EndBy c.self.inside.last_end) (sym c.deref_mut.ensures.value) c.self.invariant.last
