use Rattle.std.proofs.Common.{◌≡◌, ◌++◌, ◌∙◌, ℕ, Bool, true, false, List, [], ap, append_assoc, arith, length, refl, rules, subst, sym}
use Rattle.std.specs.Prelude.{codes}
use Rattle.std.proofs.lemmas.Grind.{common_steps}
use Rattle.std.proofs.lemmas.List.{append-nil}
use Rattle.std.proofs.lemmas.Result.{on_ok_weaker}
use Rattle.model_base.specs.declared.deed.Deed.{Deed}
use Rattle.model_base.specs.declared.deed.Need.{Need}
use Rattle.model_base.specs.Outcomes.{deeds_before, owners}
use Rattle.model_base.specs.Privileges.{deeds_below}
use Rattle.grants_base.specs.Book.{Entries, ShowsBook}
use Rattle.sequencer.specs.Log.{Accepted}
use Rattle.privileges.specs.Holders.{is_given_to_all}
use Rattle.privileges_text.specs.HoldersText.{public_line}
use Rattle.privileges_text.specs.Ways.{way_ending}
use Rattle.privileges_text.proofs.Ended.{all_below}
use Rattle.privileges_text.proofs.holding.put_public.Goals as goal

abbrev at_end : Accepted → Need → Bool
at_end log need = is_given_to_all (owners log.statements) (deeds_before log.statements (length log.statements)) need

public-none : (log : Accepted) (need : Need) → at_end log need ≡ false → public_line log need ≡ []
public-none log need is = rw is refl

public-some : (log : Accepted) (need : Need) → at_end log need ≡ true
    → public_line log need ≡ codes "PUBLIC" ++ way_ending log (length log.statements) (record { user = length log.names.users; need = need })
public-some log need is = rw is refl

-- the book tells of the end of the log
told_at : (log : Accepted) (need : Need) (book own : Entries) (place : ℕ) (result : Bool) → place ≡ length log.statements → book ≡ own
    → ShowsBook own (owners log.statements) (deeds_before log.statements (length log.statements))
    → ((owned : List ℕ) (deeds : List Deed) → ShowsBook book owned deeds → result ≡ is_given_to_all owned (deeds_below place deeds) need)
    → at_end log need ≡ result
told_at log need book own place result here same shows told =
    let deeds : List Deed = deeds_before log.statements (length log.statements) in
    sym (told (owners log.statements) deeds (subst (λ (b : Entries). ShowsBook b (owners log.statements) deeds) (sym same) shows)
    ∙ ap (λ (ds : List Deed). is_given_to_all (owners log.statements) ds need) (ap (λ (n : ℕ). deeds_below n deeds) here ∙ all_below log.statements))

pub returns-then-not-is_given_to_all : goal.returns-then-not-is_given_to_all
returns-then-not-is_given_to_all c =
    let run = c.args.engine.now in
    let need = c.args.need.now in
    let place : c.len-place.result ≡ length run.log.statements = c.len-place.ensures.count ∙ ap (λ (l : Accepted). length l.statements) c.log.ensures.value in
    let no : c.is_given_to_all.result ≡ false = grind (arith, common_steps) in
    let told : at_end run.log need ≡ c.is_given_to_all.result =
    told_at run.log need c.book_of.result.now run.book c.len-place.result c.is_given_to_all.result place c.book_of.ensures.value c.book_of.ensures.shows c.is_given_to_all.ensures in
    sym (ap (λ (text : List ℕ). c.args.text.now.items ++ text) (public-none run.log need (told ∙ no)) ∙ append-nil c.args.text.now.items)

pub returns : goal.returns
returns c =
    let run = c.args.engine.now in
    let need = c.args.need.now in
    let text : List ℕ = c.args.text.now.items in
    let place : c.len-place.result ≡ length run.log.statements = c.len-place.ensures.count ∙ ap (λ (l : Accepted). length l.statements) c.log.ensures.value in
    let yes : c.is_given_to_all.result ≡ true = grind (arith, common_steps) in
    let told : at_end run.log need ≡ c.is_given_to_all.result =
    told_at run.log need c.book_of.result.now run.book c.len-place.result c.is_given_to_all.result place c.book_of.ensures.value c.book_of.ensures.shows c.is_given_to_all.ensures in
    on_ok_weaker c.put_ending.result
    (λ put.
    put
    ∙ ap (λ (start : List ℕ). start ++ way_ending run.log c.len-place.result (record { user = c.nobody.result; need = need })) c.in_ok-extend_from_slice.ensures.items
    ∙ ap (λ (n : ℕ). (text ++ codes "PUBLIC") ++ way_ending run.log n (record { user = c.nobody.result; need = need })) place
    ∙ ap (λ (n : ℕ). (text ++ codes "PUBLIC") ++ way_ending run.log (length run.log.statements) (record { user = n; need = need })) c.nobody.ensures
    ∙ append_assoc text (codes "PUBLIC") (way_ending run.log (length run.log.statements) (record { user = length run.log.names.users; need = need }))
    ∙ ap (λ (line : List ℕ). text ++ line) (sym (public-some run.log need (told ∙ yes))))
    c.put_ending.ensures
