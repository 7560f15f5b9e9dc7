use Rattle.std.proofs.Common.{◌≡◌, ◌∙◌, ℕ, List, ap, sym, subst}
use Rattle.chains.specs.Store.{AreBetween}
use Rattle.chains.specs.declared.version.Version.{Version}
use Rattle.grants_base.specs.Book.{cut_book, extended}
use Rattle.filling.proofs.Cutting.{cut_whole}
use Rattle.chains.proofs.Order.{between-log}
use Rattle.engine.proofs.commit.advance.Goals as goal

pub append-moved-requires : goal.append-moved-requires
append-moved-requires c =
    let log = c.args.log.now.log.statements in
    subst (λ (at : ℕ). AreBetween at c.args.range.end c.args.done.versions.items) (sym c.requires.next.stands.ends)
    (subst (λ (vs : List Version). AreBetween c.args.range.start c.args.range.end vs) (sym c.requires.left) (between-log log c.args.range.start c.args.range.end c.requires.next.order))

pub returns-clause-err : goal.returns-clause-err
returns-clause-err c =
    let first = c.args.range.start in
    let book : c.cut.new.self ≡ c.args.state.now.book =
    c.cut.ensures.cut
    ∙ ap (cut_book first) (c.in_ok-extend.ensures.ok ∙ (λ i. extended c.args.state.now.book (c.as_slice.ensures.value i) (c.as_slice-2.ensures.value i) (c.as_slice-3.ensures.value i)))
    ∙ c.requires.changes.before
    ∙ cut_whole first c.args.state.now.book c.requires.next.stands.booked.later in
    λ i. record { chains = c.in-Err.ensures.err i; book = book i }
