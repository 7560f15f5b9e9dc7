use Rattle.std.proofs.Common.{◌≡◌, ◌++◌, ◌∙◌, ℕ, List, [], ap, length, subst, sym}
use Rattle.std.specs.List.{flat_map}
use Rattle.std.proofs.lemmas.Result.{on_ok_weaker}
use Rattle.model_base.specs.declared.deed.Deed.{Deed}
use Rattle.model_base.specs.Outcomes.{deeds_before, owners}
use Rattle.model_base.specs.Privileges.{deeds_below}
use Rattle.grants_base.specs.Book.{Entries, ShowsBook}
use Rattle.sequencer.specs.Log.{Accepted}
use Rattle.privileges.specs.Holders.{AreHolders}
use Rattle.privileges_text.specs.HoldersText.{holder_lines, holder_text, public_line}
use Rattle.privileges_text.proofs.Ended.{all_below}
use Rattle.privileges_text.proofs.holding.put_holders_of.Goals as goal

pub returns : goal.returns
returns c =
    let run = c.args.engine.now in
    let log = run.log.statements in
    let need = c.args.need.now in
    let deeds : List Deed = deeds_before log (length log) in
    let users = c.in_ok-users.users.items in
    let place : c.len.result ≡ length log = c.len.ensures.count ∙ ap (λ (l : Accepted). length l.statements) c.log.ensures.value in
    let shows : ShowsBook c.book_of.result.now (owners log) deeds =
    subst (λ (book : Entries). ShowsBook book (owners log) deeds) (sym c.book_of.ensures.value) c.book_of.ensures.shows in
    let holders : AreHolders (owners log) deeds need users =
    subst (λ (ds : List Deed). AreHolders (owners log) ds need users) (ap (λ (n : ℕ). deeds_below n deeds) place ∙ all_below log)
    (c.in_ok-users.ensures (owners log) deeds shows) in
    let first : c.put_holder.new.text.items ≡ holder_text run.log c.owner_of-owner.result need =
    c.in_ok-put_holder.ensures ∙ ap (λ (start : List ℕ). start ++ holder_text run.log c.owner_of-owner.result need) c.requires.empty in
    let lines : c.put_users.new.text.items ≡ holder_text run.log c.owner_of-owner.result need ++ flat_map (holder_lines run.log need) users =
    c.in_ok-put_users.ensures
    ∙ ap (λ (start : List ℕ). start ++ flat_map (holder_lines run.log need) c.deref.result.now) first
    ∙ ap (λ us. holder_text run.log c.owner_of-owner.result need ++ flat_map (holder_lines run.log need) us) c.deref.ensures.value in
    on_ok_weaker c.put_public.result
    (λ told. record {
      owner = c.owner_of-owner.result;
      owned = c.owner_of-owner.ensures;
      users = users;
      holders = holders;
      told = told ∙ ap (λ (start : List ℕ). start ++ public_line run.log need) lines;
    })
    c.put_public.ensures
