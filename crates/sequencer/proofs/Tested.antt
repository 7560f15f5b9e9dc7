-- A user and the grantees of a deed, tested one after another without being entered.
use Rattle.std.proofs.Common.{◌≡◌, ◌≢◌, ℕ, ◌+◌, ◌<◌, ◌≤◌, true, false, not, List, [], ◌∷◌, ◌++◌, length, Some, None, refl, ap, sym, ◌∙◌, arith, length-append}
use Rattle.std.specs.Prelude.{bytes_eq}
use Rattle.std.specs.List.{AllByRecursion}
use Rattle.std.proofs.Math.Bool.{not-not}
use Rattle.std.proofs.lemmas.Bool.{false_from_ne_true, le-ltb, lt-ltb, true≢false}
use Rattle.std.proofs.lemmas.Slice.Eq.{bytes_eq-Decides}
use Rattle.model_base.proofs.Replay.{by_cases}
use Rattle.log_text.specs.Grantees.{AreGrantees, grantee_word}
use Rattle.log_text.specs.declared.grantees.RawGrantee.{RawGrantee}
use Rattle.sequencer.specs.Names.{is_known, with_name}
use Rattle.sequencer.specs.Foretelling.{is_known_grantee}
use Rattle.sequencer.specs.Refusal.{is_new_beside, name_refusal, named_refusals, parties_refusal}
use Rattle.sequencer.specs.declared.refused.Refused.TheVariants.{TooManyNames}
use Rattle.sequencer.proofs.Foretold.{grantee_known}
use Rattle.sequencer.proofs.NewNames.{known_behind, known_once_named}
use Rattle.sequencer.proofs.Parties.{AreApart, grantees_apart}

-- a grantee is known here exactly if it is the user or one of the users before
abbrev IsSeen : List (List ℕ) → List ℕ → List (List ℕ) → RawGrantee → Type 0
IsSeen users user here grantee = is_known_grantee here grantee ≡ not (is_new_beside users user grantee)

-- the user and the grantees before those that are left find room, with which there are this many users
pub record AreTested (known : List (List ℕ)) (user : List ℕ) (all left : List RawGrantee) (count : ℕ) : Type 0 where
  pub passes : name_refusal known user ≡ None
  pub here : List (List ℕ)
  pub users : count ≡ length here
  pub refusals : named_refusals here left ≡ named_refusals (with_name known user) all
  pub seen : AllByRecursion (IsSeen known user here) left
  pub apart : AreApart left

same_name : (name : List ℕ) → bytes_eq name name ≡ true
same_name name = (bytes_eq-Decides name name).1 refl

-- once the user is named, a grantee is known so
other_seen : (users : List (List ℕ)) (user name : List ℕ) → bytes_eq name user ≡ false → is_known (with_name users user) name ≡ is_known users name
other_seen users user name other =
    by_cases (is_known users user) (λ known. rw known refl) (λ new. rw new (known_behind users user name other))

first_seen : (users : List (List ℕ)) (user : List ℕ) (grantee : RawGrantee) → IsSeen users user (with_name users user) grantee
first_seen users user RawGrantee.Public = refl
first_seen users user (RawGrantee.Named name) =
    by_cases (bytes_eq name user)
    (λ same.
    let name_is = (bytes_eq-Decides name user).0 same in
    rw same (ap (is_known (with_name users user)) name_is ∙ known_once_named users user))
    (λ other. rw other (other_seen users user name other ∙ sym (not-not (is_known users name))))

all_seen : (users : List (List ℕ)) (user : List ℕ) (grantees : List RawGrantee) → AllByRecursion (IsSeen users user (with_name users user)) grantees
all_seen users user [] = tt
all_seen users user (grantee ∷ grantees) = (first_seen users user grantee, all_seen users user grantees)

-- another grantee is known so beside a further name
still_seen : (users : List (List ℕ)) (user : List ℕ) (here : List (List ℕ)) (name : List ℕ) (grantee : RawGrantee) → name ≢ grantee_word grantee
    → IsSeen users user here grantee → IsSeen users user (here ++ name ∷ []) grantee
still_seen users user here name RawGrantee.Public differ seen = refl
still_seen users user here name (RawGrantee.Named other) differ seen =
    known_behind here name other (false_from_ne_true (bytes_eq other name) (λ same. differ (sym ((bytes_eq-Decides other name).0 same)))) ∙ seen

all_still_seen : (users : List (List ℕ)) (user : List ℕ) (here : List (List ℕ)) (name : List ℕ) (grantees : List RawGrantee)
    → AllByRecursion (λ other. name ≢ grantee_word other) grantees → AllByRecursion (IsSeen users user here) grantees
    → AllByRecursion (IsSeen users user (here ++ name ∷ [])) grantees
all_still_seen users user here name [] differ seen = tt
all_still_seen users user here name (grantee ∷ grantees) differ seen =
    (still_seen users user here name grantee differ.0 seen.0, all_still_seen users user here name grantees differ.1 seen.1)

module _ (users : List (List ℕ)) (user : List ℕ) (all : List RawGrantee) where
  pub tested_first : (count : ℕ) → AreGrantees all → name_refusal users user ≡ None → count ≡ length (with_name users user) → AreTested users user all all count
  tested_first count grammar passes is = record {
    passes = passes;
    here = with_name users user;
    users = is;
    refusals = refl;
    seen = all_seen users user all;
    apart = grantees_apart all grammar;
  }

  module _ (grantee : RawGrantee) (left : List RawGrantee) (count : ℕ) (h : AreTested users user all (grantee ∷ left) count) where
    -- a grantee that is known needs no room
    pub tested_known : is_new_beside users user grantee ≡ false → AreTested users user all left count
    tested_known known =
        let same = grantee_known h.here grantee (h.seen.0 ∙ ap not known) in
        record {
          passes = h.passes;
          here = h.here;
          users = h.users;
          refusals = rw (same.0, same.1) at h.refusals;
          seen = h.seen.1;
          apart = h.apart.1;
        }

    -- one that is new goes last, or is refused
    pub tested_new : is_new_beside users user grantee ≡ true → count < 65536 → AreTested users user all left (count + 1)
    tested_new new low = by_grantee grantee h.seen.0 new h.refusals h.apart.0
      where
        by_grantee : (one : RawGrantee) → IsSeen users user h.here one → is_new_beside users user one ≡ true
            → named_refusals h.here (one ∷ left) ≡ named_refusals (with_name users user) all
            → AllByRecursion (λ other. grantee_word one ≢ grantee_word other) left → AreTested users user all left (count + 1)
        by_grantee RawGrantee.Public seen new refusals differ = absurd (true≢false (sym new))
        by_grantee (RawGrantee.Named name) seen new refusals differ =
            let unknown : is_known h.here name ≡ false = seen ∙ ap not new in
            record {
              passes = h.passes;
              here = h.here ++ name ∷ [];
              users = omega (arith, h.users, length-append h.here (name ∷ []));
              refusals = rw (unknown, lt-ltb (length h.here) 65536 (omega (arith, low, h.users))) at refusals;
              seen = all_still_seen users user h.here name left differ h.seen.1;
              apart = h.apart.1;
            }

    pub tested_full : is_new_beside users user grantee ≡ true → 65536 ≤ count → parties_refusal users user all ≡ Some TooManyNames
    tested_full new full = rw h.passes (by_grantee grantee h.seen.0 new h.refusals)
      where
        by_grantee : (one : RawGrantee) → IsSeen users user h.here one → is_new_beside users user one ≡ true
            → named_refusals h.here (one ∷ left) ≡ named_refusals (with_name users user) all → named_refusals (with_name users user) all ≡ Some TooManyNames
        by_grantee RawGrantee.Public seen new refusals = absurd (true≢false (sym new))
        by_grantee (RawGrantee.Named name) seen new refusals =
            let unknown : is_known h.here name ≡ false = seen ∙ ap not new in
            sym (rw (unknown, le-ltb (length h.here) 65536 (omega (arith, full, h.users))) at refusals)

  pub tested_all : (count : ℕ) → AreTested users user all [] count → parties_refusal users user all ≡ None
  tested_all count h = rw h.passes (sym h.refusals)
