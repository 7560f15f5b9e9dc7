use Rattle.std.proofs.Common.{◌≡◌, ◌+◌, ltb, suc, List, ◌∷◌, [], ◌++◌, add-one, drop, drop-cons, length, map, take, subst, sym, ◌∙◌, ap, ℕ}
use Rattle.std.proofs.lemmas.List.{take-append-drop, take_more}
use Rattle.chains.specs.declared.version.Version.{Version}
use Rattle.chains.specs.declared.writes.Written.{Written}
use Rattle.chains.specs.Keyed.{held_below}
use Rattle.chains.specs.Kept.{AreChained, AreWrittenInOrder, written_by}
use Rattle.chains.specs.Store.{AreBetween, of_key}
use Rattle.chains.proofs.Cutting.{whole-below}
use Rattle.chains.proofs.Keyed.{more-behind}
use Rattle.chains.proofs.Order.{between-at}
use Rattle.chains.proofs.Placed.{chained-so-far, noted-rising, put-replacing}
use Rattle.chains.proofs.rows.Rows.put_all.Goals as goal
use Rattle.chains.proofs.rows.Rows.put_all.Goals.{At-loop-version}

so-far : (c : At-loop-version) (end : ℕ) → AreBetween c.args.first end c.args.versions.now → AreChained c.loop-version.self end
so-far c end between =
    let invariant = c.loop-version.invariant in
    chained-so-far c.args.self.now c.loop-version.self c.args.first end c.args.versions.now c.loop-version.version-index c.requires.chained between
    invariant.added invariant.replacing invariant.rising

pub cut-requires : goal.cut-requires
cut-requires c =
    let end = c.requires.between.0 in (
      end,
      subst (λ held. AreChained held end) (sym c.in-Err.ensures.err) (so-far (goal.at.cut-requires c).At-loop-version end c.requires.between.1),
    )

pub returns-in-Err-clause-err : goal.returns-in-Err-clause-err
returns-in-Err-clause-err c =
    c.cut.ensures
    ∙ ap (held_below c.args.first) c.in-Err.ensures.err
    ∙ c.loop-version.invariant.below
    ∙ whole-below c.args.first c.args.self.now c.requires.chained

pub loop-version-preserved : goal.loop-version-preserved
loop-version-preserved c =
    let i = c.loop-version.version-index in
    let versions = c.args.versions.now in
    let version = c.version-item.result in
    let old = c.args.self.now in
    let now = c.loop-version.self in
    let new = c.put.new.self in
    let invariant = c.loop-version.invariant in
    let put = c.in_default.ensures in
    let later = drop (i + 1) versions in
    let more : take (i + 1) versions ≡ take i versions ++ version ∷ [] =
    take_more versions i version c.loop-version-test.true ∙ ap (λ (v : Version). take i versions ++ v ∷ []) (sym c.version-item.is) in
    let behind : drop i versions ≡ version ∷ later =
    rw (add-one i) (drop-cons versions i version c.loop-version-test.true ∙ ap (λ v. v ∷ drop (suc i) versions) (sym c.version-item.is)) in
    let whole : versions ≡ take i versions ++ version ∷ later = sym (take-append-drop i versions) ∙ ap (λ vs. take i versions ++ vs) behind in
    let between = subst (AreBetween c.args.first c.requires.between.0) whole c.requires.between.1 in
    record {
      added = λ key.
          more-behind key old.versions now.versions new.versions (take i versions) (version ∷ []) (take (i + 1) versions)
          (put.added key) (invariant.added key) more;
      replacing = λ key. put-replacing now new version put.added put.replacing key (invariant.replacing key);
      rising = λ from end at_first.
          subst (λ (notes : List Written). AreWrittenInOrder from end (notes ++ map written_by later)) (sym put.replacing)
          (noted-rising from end now.replacing version (map written_by later) (ltb 0 (length (of_key version.key now.versions)))
          (subst (λ rest. AreWrittenInOrder from end (now.replacing ++ map written_by rest)) behind (invariant.rising from end at_first)));
      below = put.below c.args.first (between-at c.args.first c.requires.between.0 (take i versions) version later between) ∙ invariant.below;
    }

pub returns-clause-chained : goal.returns-clause-chained
returns-clause-chained c = so-far (goal.at.returns-clause-chained c).At-loop-version
