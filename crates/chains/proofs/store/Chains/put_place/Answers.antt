use Rattle.std.proofs.Common.{◌≡◌, ◌+◌, ◌-◌, ◌≤◌, ℕ, None, ◌∷◌, [], ◌++◌, get_or, length, take, subst, sym, ◌∙◌, ap, arith}
use Rattle.std.proofs.lemmas.List.{append-nil, get_or_default, take_all}
use Rattle.model_base.specs.declared.row.Key.{Key}
use Rattle.chains.specs.Store.{AreBetween, Gains, Store, of_key, versions_at, versions_by}
use Rattle.chains.proofs.Keyed.{more-behind}
use Rattle.chains.proofs.Placed.{by-between, by-more}
use Rattle.chains.proofs.Right.{append-gains, gains-right}
use Rattle.chains.proofs.store.Chains.put_place.Goals as goal

pub loop-index-preserved : goal.loop-index-preserved
loop-index-preserved c =
    let i = c.loop-index.index in
    let accesses = c.args.accesses.now in
    let rows = c.args.window.now.rows in
    let access = c.index-accesses-index.result in
    let row = c.row.result.now in
    let place = c.self.inside.end in
    let one = versions_by place (access ∷ []) (row ∷ []) in
    let invariant = c.loop-index.invariant in
    let put = c.in_ok-put.ensures in
    let fits : length accesses ≤ length rows = omega (arith, c.requires.places, c.row.ensures.whole) in
    let shows : get_or rows i row ≡ row =
    get_or_default rows i row None (omega (arith, fits, c.loop-index-test.true)) ∙ sym c.row.ensures.row in
    record {
      added = λ key.
          more-behind key c.pass.new.self.versions c.loop-index.self.versions c.put.new.self.versions
          (versions_by place (take i accesses) rows) one (versions_by place (take (i + 1) accesses) rows) (put.added key) (invariant.added key)
          (by-more place accesses rows i access row c.loop-index-test.true fits (sym c.index-accesses-index.is) shows);
      mark = put.mark ∙ invariant.mark;
      end = put.end ∙ invariant.end;
      cut = λ first least. put.cut first least ∙ invariant.cut first least;
    }

-- each key's versions are the old ones and those of the place
pub returns-clause-versions : goal.returns-clause-versions
returns-clause-versions c = λ key.
    let accesses = c.args.accesses.now in
    let here : c.self.inside.end ≡ c.args.self.now.end = ap (λ (store : Store). store.end) c.self.view_is in
    let all : take c.loop-index.index accesses ≡ accesses = take_all c.loop-index.index accesses (omega (arith, c.loop-index-test.false)) in
    c.loop-index.invariant.added key
    ∙ (λ i. of_key key ((c.pass.ensures i).versions ++ versions_by (here i) (all i) c.args.window.now.rows))

pub returns-clause-ok : goal.returns-clause-ok
returns-clause-ok c =
    let old = c.args.self.now in
    let invariant = c.loop-index.invariant in
    let here : c.self.inside.end ≡ old.end = ap (λ (store : Store). store.end) c.self.view_is in
    let mark : c.loop-index.self.mark ≡ old.mark = invariant.mark ∙ ap (λ (store : Store). store.mark) c.pass.ensures in
    let end : c.loop-index.self.end ≡ old.end + 1 = invariant.end ∙ ap (λ (n : ℕ). n + 1) here in
    let left = versions_by old.end c.args.accesses.now c.args.window.now.rows in
    let ordered : (key : Key) → AreBetween 0 old.end (of_key key old.versions) =
    subst (λ (store : Store). (key : Key) → AreBetween 0 store.end (of_key key store.versions)) c.self.view_is c.self.invariant.0.ordered in
    subst (λ (store : Store). Gains old store left (old.end + 1))
    (λ i. record { versions = c.loop-index.self.versions; mark = sym mark i; end = sym end i })
    (append-gains old c.loop-index.self.versions left (old.end + 1) ordered (by-between old.end c.args.accesses.now c.args.window.now.rows)
    (returns-clause-versions c))

pub returns-clause-right : goal.returns-clause-right
returns-clause-right c = λ log are right.
    let old = c.args.self.now in
    let one : (old.end + 1) - old.end ≡ 1 = omega arith in
    let known : old.mark ≤ old.end = subst (λ (store : Store). store.mark ≤ store.end) c.self.view_is c.self.invariant.0.within in
    gains-right log old _ (versions_by old.end c.args.accesses.now c.args.window.now.rows) (old.end + 1) known (omega arith)
    (returns-clause-ok c) right
    (are ∙ rw one (sym (append-nil (versions_at log old.end))))
