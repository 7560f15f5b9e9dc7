-- What the records of a book tell of the grants in force before a place, and so of who holds what.
use Rattle.std.proofs.Common.{◌≡◌, ℕ, ◌<◌, ◌++◌, ◌&&◌, ◌||◌, not, Bool, true, false, List, [], ◌∷◌, Some, is_none, length, get_or, refl, sym, ◌∙◌, ap, arith}
use Rattle.std.specs.Prelude.{◌==◌, nat_lt, slice_get}
use Rattle.std.specs.List.{list_any}
use Rattle.std.proofs.lemmas.Bool.Decides.{nat_tests}
use Rattle.std.proofs.lemmas.List.{length-map}
use Rattle.std.proofs.lemmas.Option.{slice_get-get_or}
use Rattle.model_base.specs.declared.deed.Deed.{Deed}
use Rattle.model_base.specs.declared.deed.Grant.{Grant}
use Rattle.model_base.specs.declared.deed.Grantee.{Grantee}
use Rattle.model_base.specs.declared.deed.Grantee.TheVariants.{Public, User}
use Rattle.model_base.specs.declared.deed.Kind.{Kind}
use Rattle.model_base.specs.declared.deed.Kind.TheVariants.{Read, Insert, Update, Delete}
use Rattle.model_base.specs.declared.deed.Need.{Need}
use Rattle.model_base.specs.declared.deed.Record.{Record}
use Rattle.model_base.specs.Privileges.{deeds_below, gives, has, holds, kept, owns, reaches, same_grantee, same_kind}
use Rattle.model_base.specs.Records.{cut, end_below, in_force, is_in_force_at}
use Rattle.model_base.proofs.Cuts.{deeds_below-proper, records-below}
use Rattle.model_base.proofs.Records.{in_force-records}
use Rattle.model_base.proofs.Replay.{by_cases}
use Rattle.grants_base.specs.Book.{Entries, ShowsBook, owners_of}
use Rattle.grants_base.specs.declared.entries.Creation.{Creation}
use Rattle.grants.proofs.BookLaws.{get_more}
use Rattle.grants.proofs.Passing.{owns_owner}
use Rattle.privileges.specs.Holders.{gives_by_name, gives_everyone, is_holder, is_given_to_all}

-- one of the grants in force at a place passes exactly if one of the records in force there does
any_at : (passes : Grant → Bool) (place : ℕ) (entries : List Record)
    → list_any passes (in_force (cut place entries)) ≡ list_any (λ (entry : Record). is_in_force_at place entry && passes entry.grant) entries
any_at passes place [] = refl
any_at passes place (entry ∷ entries) =
    by_cases (nat_lt entry.grant.place place)
    (λ made.
    by_cases (is_none (end_below place entry.end))
    (λ stands. rw (made, stands, any_at passes place entries) refl)
    (λ ended. rw (made, ended, any_at passes place entries) refl))
    (λ later. rw (later, any_at passes place entries) refl)

-- the grants in force before a place are those of the records, cut there
kept_at : (book : Entries) (owners : List ℕ) (deeds : List Deed) (place : ℕ) → ShowsBook book owners deeds
    → kept owners (deeds_below place deeds) ≡ in_force (cut place book.records)
kept_at book owners deeds place shows =
    sym (ap (λ (all : List Record). in_force (cut place all)) shows.same
    ∙ ap in_force (sym (records-below owners place deeds shows.proper))
    ∙ in_force-records owners (deeds_below place deeds) (deeds_below-proper owners place deeds shows.proper))

pub any_kept : (passes : Grant → Bool) (book : Entries) (owners : List ℕ) (deeds : List Deed) (place : ℕ) → ShowsBook book owners deeds
    → list_any passes (kept owners (deeds_below place deeds)) ≡ list_any (λ (entry : Record). is_in_force_at place entry && passes entry.grant) book.records
any_kept passes book owners deeds place shows = ap (list_any passes) (kept_at book owners deeds place shows) ∙ any_at passes place book.records

-- the owners begin with those of the book's tables, and so these tell who owns a table
owner_same : (xs more : List ℕ) (i : ℕ) → i < length xs → slice_get (xs ++ more) i ≡ slice_get xs i
owner_same xs more i less = get_more xs more i (get_or xs i 0) (slice_get-get_or xs i 0 less) ∙ sym (slice_get-get_or xs i 0 less)

owner_at : (book : Entries) (owners : List ℕ) (deeds : List Deed) (table : ℕ) → ShowsBook book owners deeds → table < length book.tables
    → slice_get owners table ≡ slice_get (owners_of book.tables) table
owner_at book owners deeds table shows less =
    let within : table < length (owners_of book.tables) = omega (arith, length-map book.tables (λ (creation : Creation). creation.owner)) in
    ap (λ owned. slice_get owned table) shows.begins ∙ owner_same (owners_of book.tables) shows.more table within

pub owns_at : (book : Entries) (owners : List ℕ) (deeds : List Deed) (user table owner : ℕ) → ShowsBook book owners deeds → table < length book.tables
    → slice_get (owners_of book.tables) table ≡ Some owner → owns owners user table ≡ (owner == user)
owns_at book owners deeds user table owner shows less is = owns_owner owners user table owner (owner_at book owners deeds table shows less ∙ is)

-- whoever is given what is needed is given it by name, or as everyone is
kind_flip : (a b : Kind) → same_kind a b ≡ same_kind b a
kind_flip Read Read = refl
kind_flip Read Insert = refl
kind_flip Read Update = refl
kind_flip Read Delete = refl
kind_flip Insert Read = refl
kind_flip Insert Insert = refl
kind_flip Insert Update = refl
kind_flip Insert Delete = refl
kind_flip Update Read = refl
kind_flip Update Insert = refl
kind_flip Update Update = refl
kind_flip Update Delete = refl
kind_flip Delete Read = refl
kind_flip Delete Insert = refl
kind_flip Delete Update = refl
kind_flip Delete Delete = refl

eq_flip : (a b : ℕ) → (a == b) ≡ (b == a)
eq_flip a b = grind (arith, nat_tests)

always : (kind table given : Bool) → (kind && (table && (given || true))) ≡ (kind && table)
always true true true = refl
always true true false = refl
always true false given = refl
always false table given = refl

named_all : (here rest : Bool) → (here && rest) ≡ ((here && (here && rest)) || (rest && false))
named_all true true = refl
named_all true false = refl
named_all false true = refl
named_all false false = refl

or_none : (b c : Bool) → b ≡ (b || (c && false))
or_none true c = refl
or_none false true = refl
or_none false false = refl

twice : (a b : Bool) → (a && b) ≡ (a && (a && b))
twice true b = refl
twice false b = refl

reached : (grantee : Grantee) (user : ℕ) (option kind table given : Bool)
    → (reaches grantee user option && (kind && (table && (given || not option))))
    ≡ ((same_grantee grantee (User user) && (reaches grantee user option && (kind && (table && (given || not option)))))
    || (not option && (same_grantee grantee Public && (kind && table))))
reached (User grantee) user option kind table given =
    twice (grantee == user) (kind && (table && (given || not option)))
    ∙ or_none ((grantee == user) && ((grantee == user) && (kind && (table && (given || not option))))) (not option)
reached Public user true kind table given = refl
reached Public user false kind table given = always kind table given

gives-either : (grant : Grant) (user : ℕ) (need : Need) → gives grant user need ≡ (gives_by_name grant user need || gives_everyone grant need)
unfolding gives
gives-either grant user need =
    reached grant.grantee user need.option (same_kind grant.kind need.kind) (grant.table == need.table) grant.option
    ∙ ap (λ (about : Bool). (gives_by_name grant user need || (not need.option && (same_grantee grant.grantee Public && about))))
    (ap (λ b. b && (grant.table == need.table)) (kind_flip grant.kind need.kind) ∙ ap (λ b. same_kind need.kind grant.kind && b) (eq_flip grant.table need.table))

or_swap : (a b c d : Bool) → ((a || b) || (c || d)) ≡ ((a || c) || (b || d))
or_swap true b c d = refl
or_swap false true true d = refl
or_swap false true false d = refl
or_swap false false true d = refl
or_swap false false false d = refl

any_either : (user : ℕ) (need : Need) (grants : List Grant)
    → list_any (λ grant. gives grant user need) grants
    ≡ (list_any (λ grant. gives_by_name grant user need) grants || list_any (λ grant. gives_everyone grant need) grants)
any_either user need [] = refl
any_either user need (grant ∷ grants) =
    ap (λ b. b || list_any (λ (other : Grant). gives other user need) grants) (gives-either grant user need)
    ∙ ap (λ b. (gives_by_name grant user need || gives_everyone grant need) || b) (any_either user need grants)
    ∙ or_swap (gives_by_name grant user need) (gives_everyone grant need) (list_any (λ other. gives_by_name other user need) grants) (list_any (λ other. gives_everyone other need) grants)

owned_or : (own named everyone : Bool) → (own || (named || everyone)) ≡ (own || ((not own && named) || everyone))
owned_or true named everyone = refl
owned_or false named everyone = refl

-- who holds a privilege owns the table, is a holder by name, or holds it as everyone does
pub holds-all : (owners : List ℕ) (deeds : List Deed) (user : ℕ) (need : Need)
    → holds owners deeds user need ≡ (owns owners user need.table || (is_holder owners deeds need user || is_given_to_all owners deeds need))
unfolding has
holds-all owners deeds user need =
    ap (λ b. owns owners user need.table || b) (any_either user need (kept owners deeds))
    ∙ owned_or (owns owners user need.table) (list_any (λ grant. gives_by_name grant user need) (kept owners deeds)) (is_given_to_all owners deeds need)

-- and the option by name
everyone-none : (grant : Grant) (need : Need) → need.option ≡ true → gives_everyone grant need ≡ false
everyone-none grant need option = rw option refl

public-none : (need : Need) (grants : List Grant) → need.option ≡ true → list_any (λ grant. gives_everyone grant need) grants ≡ false
public-none need [] option = refl
public-none need (grant ∷ grants) option = rw (everyone-none grant need option) (public-none need grants option)

pub holds-option : (owners : List ℕ) (deeds : List Deed) (user : ℕ) (need : Need) → need.option ≡ true
    → holds owners deeds user need ≡ (owns owners user need.table || is_holder owners deeds need user)
holds-option owners deeds user need option =
    holds-all owners deeds user need
    ∙ ap (λ b. owns owners user need.table || (is_holder owners deeds need user || b)) (public-none need (kept owners deeds) option)
    ∙ ap (λ b. owns owners user need.table || b) (or_false (is_holder owners deeds need user))
  where
    or_false : (b : Bool) → (b || false) ≡ b
    or_false true = refl
    or_false false = refl

-- what is held by who doesn't own the table is given by a record in force
pub holds-given : (book : Entries) (owners : List ℕ) (deeds : List Deed) (place user : ℕ) (need : Need) → ShowsBook book owners deeds
    → owns owners user need.table ≡ false
    → holds owners (deeds_below place deeds) user need
    ≡ list_any (λ (entry : Record). is_in_force_at place entry && gives entry.grant user need) book.records
unfolding has
holds-given book owners deeds place user need shows other =
    ap (λ b. b || list_any (λ grant. gives grant user need) (kept owners (deeds_below place deeds))) other
    ∙ any_kept (λ grant. gives grant user need) book owners deeds place shows
