-- The next slot that may have a grant in force to a grantee.
use Rattle.std.proofs.Common.{◌≡◌, ℕ, zero, suc, ◌<◌, ◌&&◌, ◌||◌, Bool, true, false, List, [], ◌∷◌, Option, Some, None, is_none, length, refl, sym, ◌∙◌, ap, arith}
use Rattle.std.specs.Prelude.{◌≢◌, slice_get}
use Rattle.std.specs.Option.{option_map_or}
use Rattle.std.proofs.lemmas.Bool.{and_parts}
use Rattle.model_base.specs.declared.deed.Grant.{Grant}
use Rattle.model_base.specs.declared.deed.Grantee.{Grantee}
use Rattle.model_base.specs.declared.deed.Grantee.TheVariants.{User}
use Rattle.model_base.specs.declared.deed.Kind.{Kind}
use Rattle.model_base.specs.declared.deed.Record.{Record}
use Rattle.model_base.specs.declared.deed.Revocation.{Revocation}
use Rattle.model_base.specs.Privileges.{concerns}
use Rattle.model_base.proofs.Replay.{by_cases}
use Rattle.grants_base.specs.Force.{gives_to, is_in_force}
use Rattle.grants_base.specs.Index.{AreAsked, IsFirst, IsNext, is_to}
use Rattle.grants_base.specs.View.{View, flatten, slot_at}
use Rattle.grants.specs.Pass.{concerned}
use Rattle.grants.specs.Work.{IsNextCandidate, IsOnlyBearer, IsOnlySlot, bears, has_in_force}
use Rattle.grants.proofs.Asked.{bears-skipped, candidate-skipped, found_within}

-- a slot with no such grant in force isn't open
closed : (revocation : Revocation) (grantee : Grantee) (kind : Kind) (option : Bool) (slot : Option Record) → is_in_force (gives_to grantee kind revocation.table option) slot ≡ false
    → has_in_force revocation grantee kind option slot ≡ false
closed revocation grantee kind option None is = refl
closed revocation grantee kind option (Some entry) is =
    by_cases (is_none entry.end && concerns revocation entry.grant)
    (λ both.
    let free = (and_parts (is_none entry.end) (concerns revocation entry.grant) both).0 in
    rw both (ap (λ b. b && gives_to grantee kind revocation.table option entry.grant) (sym free) ∙ is))
    (λ other. rw other refl)

-- nor is a slot besides the only one with a grant in force
pub closed_but : (revocation : Revocation) (grantee : Grantee) (kind : Kind) (option : Bool) (view : View) (slot : ℕ) → IsOnlySlot revocation grantee kind view slot
    → (k : ℕ) → k ≢ slot → has_in_force revocation grantee kind option (slot_at view k) ≡ false
closed_but revocation grantee kind option view slot only k other =
    by_option option (concerned (slot_at view k) revocation) (closed revocation grantee kind false (slot_at view k) (only k other))
  where
    weaker : (a b : Bool) → (a && (b || true)) ≡ false → (a && (b || false)) ≡ false
    weaker false b is = refl
    weaker true true is = is
    weaker true false is = refl

    by_option : (option : Bool) (found : Option Grant) → option_map_or (gives_to grantee kind revocation.table false) found false ≡ false
        → option_map_or (gives_to grantee kind revocation.table option) found false ≡ false
    by_option false found is = is
    by_option true None is = refl
    by_option true (Some grant) is = weaker (is_to grantee kind revocation.table grant) grant.option is

pub bears_but : (view : View) (revocation : Revocation) (user : ℕ) (kind : Kind) (slot : ℕ) → IsOnlyBearer revocation user kind view slot
    → (k : ℕ) → k ≢ slot → bears revocation user kind (slot_at view k) ≡ false
bears_but view revocation user kind slot only k other =
    bears-skipped view revocation user kind k (closed_but revocation (User user) kind true view slot only k other)

-- a slot with a grant in force is there
pub in_force-within : (slots : List (Option Record)) (passes : Grant → Bool) (i : ℕ) → is_in_force passes (flatten (slice_get slots i)) ≡ true → i < length slots
in_force-within [] passes i is = absurd (cc)
in_force-within (slot ∷ slots) passes zero is = omega arith
in_force-within (slot ∷ slots) passes (suc i) is = let less = in_force-within slots passes i is in omega arith

module _ (view : View) (revocation : Revocation) (grantee : Grantee) (kind : Kind) (option : Bool) (from : ℕ) where
  pub candidate_by_index : (found : Option ℕ) → IsFirst (λ k. is_in_force (gives_to grantee kind revocation.table option) (slot_at view k)) from found
      → IsNextCandidate revocation grantee kind option view from found
  candidate_by_index None none = record { there = tt; passed = λ k low before. closed revocation grantee kind option (slot_at view k) (none k low) }
  candidate_by_index (Some i) some = record {
    there = (some.0, in_force-within view.slots (gives_to grantee kind revocation.table option) i some.1);
    passed = λ k low before. closed revocation grantee kind option (slot_at view k) (some.2 k low before);
  }

  pub candidate_by_slots : (asked : List Grant) → AreAsked view asked → (found : Option ℕ) → IsNext (is_to grantee kind revocation.table) asked from found
      → IsNextCandidate revocation grantee kind option view from found
  candidate_by_slots asked are None none = record { there = tt; passed = λ k low before. candidate-skipped view asked are revocation grantee kind option k (none k low) }
  candidate_by_slots asked are (Some i) some = record {
    there = (some.0, found_within view asked are (is_to grantee kind revocation.table) i some.1);
    passed = λ k low before. candidate-skipped view asked are revocation grantee kind option k (some.2 k low before);
  }
