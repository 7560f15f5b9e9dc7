use Rattle.std.proofs.Common.{◌≡◌, ◌++◌, ◌∷◌, [], List, length, sym, ◌∙◌, ap, subst, arith}
use Rattle.model_base.specs.declared.deed.Record.{Record}
use Rattle.grants_base.specs.Book.{unended}
use Rattle.grants_base.specs.Index.{is_to}
use Rattle.grants_base.specs.InForce.{made_under}
use Rattle.grants_base.specs.Marks.{AreIndexed}
use Rattle.grants_base.specs.Sides.{by_side, is_made_by, slots_under, to_side}
use Rattle.grants_base.proofs.Indexing.{ends_more}
use Rattle.grants_base.proofs.IndexedLaws.{indexed_same}
use Rattle.grants_base.proofs.SideLaws.{by_side-same, indexes_more, to_side-same}
use Rattle.grants_base.proofs.indexed.IndexedRecords.push.Goals as goal

pub invariant_of-self-2 : goal.invariant_of-self-2
invariant_of-self-2 c =
    let entries = c.self.inside.records.items in
    let entry : Record = unended c.args.grant in
    let same : c.reserve.new.self.items ≡ entries = c.reserve.ensures.items in
    let long : length c.reserve.new.self.items ≡ length entries = ap length same in
    let count : c.len-slot.result ≡ length entries = omega (arith, c.len-slot.ensures, c.reserve.new.self.ok.0, long) in
    subst (λ (es : List Record). AreIndexed es c.push_slot.new.by c.self.inside.last_end c.push_slot.new.in_force) (ap (λ (es : List Record). es ++ entry ∷ []) (sym same) ∙ sym c.push_reserved.ensures.items)
    (record {
      grantees = indexes_more is_to to_side to_side-same (made_under c.self.inside.in_force) (made_under c.push_slot.new.in_force) entries entry c.len-slot.result count c.self.invariant.grantees c.in_ok-push_slot.ensures.to;
      grantors = indexes_more is_made_by by_side by_side-same (slots_under c.self.inside.by) (slots_under c.push_slot.new.by) entries entry c.len-slot.result count c.self.invariant.grantors c.in_ok-push_slot.ensures.by;
      last = ends_more c.self.inside.last_end entries c.args.grant c.self.invariant.last;
      kept = c.in_ok-push_slot.ensures.kept entries count c.self.invariant.kept;
    })

pub invariant_of-self-in_err-push_slot : goal.invariant_of-self-in_err-push_slot
invariant_of-self-in_err-push_slot c =
    indexed_same c.self.inside.records.items c.reserve.new.self.items c.self.inside.by c.push_slot.new.by c.self.inside.last_end c.self.inside.in_force c.push_slot.new.in_force
    c.self.invariant c.reserve.ensures.items c.in_err-push_slot.ensures.err_to c.in_err-push_slot.ensures.err_by c.in_err-push_slot.ensures.err_kept
