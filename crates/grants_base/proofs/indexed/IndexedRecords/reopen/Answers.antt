use Rattle.std.proofs.Common.{◌≡◌, List, length, map, sym, ◌∙◌, ap, subst, vec_len}
use Rattle.std.proofs.lemmas.List.{with_items_is, length-map}
use Rattle.model_base.specs.declared.deed.Record.{Record}
use Rattle.grants_base.specs.Book.{reopened}
use Rattle.grants_base.specs.Index.{is_to}
use Rattle.grants_base.specs.InForce.{made_under}
use Rattle.grants_base.specs.Marks.{AreIndexed}
use Rattle.grants_base.specs.Sides.{is_made_by, side_of, slots_under}
use Rattle.grants_base.proofs.Indexing.{ends_reopened}
use Rattle.grants_base.proofs.Lookups.{recorded-reopened}
use Rattle.grants_base.proofs.SideLaws.{indexes_as}
use Rattle.grants_base.proofs.indexed.IndexedRecords.reopen.Goals as goal

pub invariant_of-self : goal.invariant_of-self
invariant_of-self c =
    let entries = c.self.inside.records.items in
    let place = c.args.place in
    let long : length c.reopen.new.records ≡ vec_len c.self.inside.records = ap length c.reopen.ensures ∙ length-map c.deref_mut.result.now (reopened place) ∙ c.deref_mut.ensures.len in
    let now = with_items_is c.self.inside.records c.reopen.new.records long in
    let is = c.reopen.ensures ∙ ap (map (reopened place)) c.deref_mut.ensures.value in
    let grants = recorded-reopened place entries in
    subst (λ (es : List Record). AreIndexed es c.self.inside.by c.self.inside.last_end c.forget.new.self) (sym (now ∙ is))
    (record {
      grantees = indexes_as is_to (made_under c.forget.new.self) entries (map (reopened place) entries) grants
          (λ holder kind table. c.forget.ensures.made (side_of holder kind table) ∙ c.self.invariant.grantees holder kind table);
      grantors = indexes_as is_made_by (slots_under c.self.inside.by) entries (map (reopened place) entries) grants c.self.invariant.grantors;
      last = ends_reopened c.self.inside.last_end place entries c.self.invariant.last;
      kept = c.forget.ensures.kept (map (reopened place) entries);
    })
