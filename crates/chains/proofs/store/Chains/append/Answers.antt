use Rattle.std.proofs.Common.{◌≡◌, ◌≤◌, List, true, ◌++◌, filter, map, ap, subst, sym, ◌∙◌}
use Rattle.std.proofs.lemmas.List.Elements.{filter-append}
use Rattle.model_base.specs.declared.row.Key.{Key}
use Rattle.chains.specs.declared.version.Version.{Version}
use Rattle.chains.specs.declared.writes.Written.{Written}
use Rattle.chains.specs.Kept.{AreNoted, AreWrittenInOrder, IsStoreKept, is_absent, written_by}
use Rattle.chains.specs.Store.{AreBetween, Gains, Store, is_version_of, of_key}
use Rattle.chains.proofs.Order.{between-bound, rising-append}
use Rattle.chains.proofs.Placed.{append-kept, kept-chained}
use Rattle.chains.proofs.Right.{append-gains, gains-right}
use Rattle.chains.proofs.Sweeping.{noted-put}
use Rattle.chains.proofs.store.Chains.append.Goals as goal
use Rattle.chains.proofs.store.Chains.append.Goals.{In_ok-put_all}

pub put_all-requires-clause-chained : goal.put_all-requires-clause-chained
put_all-requires-clause-chained c = kept-chained c.self.invariant.0

more : (c : In_ok-put_all) → AreBetween c.self.inside.end c.args.new_end c.args.cells.items
more c = subst (λ (store : Store). AreBetween store.end c.args.new_end c.args.cells.items) (sym c.self.view_is) c.requires

-- each key's versions are the old ones and the cells
added : (c : In_ok-put_all) (key : Key) → of_key key c.put_all.new.self.versions ≡ of_key key (c.self.inside.rows.versions ++ c.args.cells.items)
added c key =
    c.in_ok-put_all.ensures.added key
    ∙ ap (λ (cells : List Version). of_key key (c.self.inside.rows.versions ++ cells)) c.as_slice-versions.ensures.value

pub invariant_of-self-2 : goal.invariant_of-self-2
invariant_of-self-2 c =
    let at = (goal.at.invariant_of-self-2 c).In_ok-put_all in
    let inside = c.self.inside in
    let new = c.put_all.new.self in
    let cells = c.args.cells.items in
    let told = c.as_slice-versions.ensures.value in
    let put = c.in_ok-put_all.ensures in
    let absent_is : c.note_absent.new.writes.items ≡ inside.absent.items ++ map written_by (filter is_absent cells) =
    c.note_absent.ensures ∙ (λ i. c.in_ok-reserve.ensures.items i ++ map written_by (filter is_absent (told i))) in
    let rising : AreWrittenInOrder inside.mark c.args.new_end new.replacing =
    put.rising inside.mark c.args.new_end
    (subst (λ (versions : List Version). AreWrittenInOrder inside.mark c.args.new_end (inside.rows.replacing ++ map written_by versions)) (sym told)
    (rising-append inside.mark inside.end c.args.new_end inside.rows.replacing cells c.self.invariant.0.rising (more at))) in
    subst (λ (notes : List Written). IsStoreKept new notes inside.mark c.args.new_end × (inside.is_noted ≡ true → AreNoted new notes)) (sym absent_is) (
      append-kept inside.rows new inside.absent.items inside.mark inside.end c.args.new_end cells (added at) (more at)
          (put.chained c.args.new_end (subst (AreBetween inside.end c.args.new_end) (sym told) (more at))).replacing rising c.self.invariant.0,
      λ is key. noted-put key inside.rows.versions cells new.versions inside.absent.items
          (added at key ∙ filter-append (is_version_of key) inside.rows.versions cells) (c.self.invariant.1 is key),
    )

pub returns : goal.returns
returns c =
    let at = (goal.at.returns c).In_ok-put_all in
    let inside = c.self.inside in
    let old = c.args.self.now in
    let cells = c.args.cells.items in
    let end = c.args.new_end in
    let new : Store = record { versions = c.put_all.new.self.versions; mark = inside.mark; end = end } in
    let gains : Gains old new cells end =
    subst (λ (old : Store). Gains old new cells end) c.self.view_is
    (append-gains (record { versions = inside.rows.versions; mark = inside.mark; end = inside.end }) new.versions cells end
    c.self.invariant.0.ordered (more at) (added at)) in
    let known : old.mark ≤ old.end = subst (λ (store : Store). store.mark ≤ store.end) c.self.view_is c.self.invariant.0.within in
    record {
      ok = gains;
      versions = λ key. added at key ∙ ap (λ (old : Store). of_key key (old.versions ++ cells)) c.self.view_is;
      right = λ log right are. gains-right log old new cells end known (between-bound old.end end cells c.requires) gains right are;
      err = tt;
    }
