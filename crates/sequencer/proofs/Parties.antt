-- The grantees of a deed, numbered one after another.
use Rattle.std.proofs.Common.{◌≡◌, ◌≢◌, ℕ, zero, suc, ◌<◌, true, false, eqb, List, [], ◌∷◌, ◌++◌, length, map, take, None, refl, ap, sym, ◌∙◌, subst, arith, append_assoc, length-append}
use Rattle.std.specs.Prelude.{slice_index_or}
use Rattle.std.specs.List.{AllByRecursion, AllPairs}
use Rattle.std.proofs.Math.Seq.{take-length}
use Rattle.std.proofs.lemmas.Bool.{eqb-true}
use Rattle.std.proofs.lemmas.List.{append-nil, length-map, map-append}
use Rattle.model_base.specs.declared.deed.Grantee.{Grantee}
use Rattle.model_base.specs.Privileges.{has_grantee, same_grantee}
use Rattle.model_base.proofs.Replay.{by_cases}
use Rattle.log_text.specs.Grantees.{AreGrantees, grantee_word}
use Rattle.log_text.specs.declared.grantees.RawGrantee.{RawGrantee}
use Rattle.sequencer.specs.Names.{number_of, with_name}
use Rattle.sequencer.specs.Catalog.{numbered_grantee, with_all_named, with_named}
use Rattle.sequencer.specs.Foretelling.{is_known_grantee}
use Rattle.sequencer.specs.Refusal.{named_refusal, named_refusals}
use Rattle.sequencer.proofs.Apart.{one_name}
use Rattle.sequencer.proofs.Beginnings.{first_first, first_grantees, first_named, known_later}
use Rattle.sequencer.proofs.NewNames.{known_number_stays, known_once_named}

-- each grantee has another word than those after it
abbrev pub AreApart : List RawGrantee → Type 0
AreApart [] = Unit {0}
AreApart (grantee ∷ grantees) = AllByRecursion (λ other. grantee_word grantee ≢ grantee_word other) grantees × AreApart grantees

later_differ : (grantee : RawGrantee) (grantees : List RawGrantee)
    → ((k : ℕ) → k < length (map grantee_word grantees) → grantee_word grantee ≢ slice_index_or (map grantee_word grantees) k [])
    → AllByRecursion (λ other. grantee_word grantee ≢ grantee_word other) grantees
later_differ grantee [] h = tt
later_differ grantee (other ∷ grantees) h = (h 0 (omega arith), later_differ grantee grantees (λ k low. h (suc k) (omega (arith, low))))

pairs_apart : (grantees : List RawGrantee) → AllPairs (λ one other. one ≢ other) (map grantee_word grantees) → AreApart grantees
pairs_apart [] h = tt
pairs_apart (grantee ∷ grantees) h = (
  later_differ grantee grantees (λ k low. h zero (suc k) [] (omega arith) (omega (arith, low))),
  pairs_apart grantees (λ i j d before low. h (suc i) (suc j) d (omega (arith, before)) (omega (arith, low))),
)

pub grantees_apart : (grantees : List RawGrantee) → AreGrantees grantees → AreApart grantees
grantees_apart grantees h = pairs_apart grantees h.3

-- so those before it have another word than a grantee
one_of : (P : RawGrantee → Type 0) (before : List RawGrantee) (grantee : RawGrantee) (after : List RawGrantee) → AllByRecursion P (before ++ grantee ∷ after) → P grantee
one_of P [] grantee after h = h.0
one_of P (one ∷ before) grantee after h = one_of P before grantee after h.1

before_differ : (before : List RawGrantee) (grantee : RawGrantee) (after : List RawGrantee) → AreApart (before ++ grantee ∷ after)
    → AllByRecursion (λ other. grantee_word other ≢ grantee_word grantee) before
before_differ [] grantee after h = tt
before_differ (one ∷ before) grantee after h = (one_of (λ other. grantee_word one ≢ grantee_word other) before grantee after h.0, before_differ before grantee after h.1)

-- and another number, if the grantee is known
number_differs : (users : List (List ℕ)) (other grantee : RawGrantee) → is_known_grantee users grantee ≡ true → grantee_word other ≢ grantee_word grantee
    → same_grantee (numbered_grantee users other) (numbered_grantee users grantee) ≡ false
number_differs users (RawGrantee.Named name) (RawGrantee.Named own) known differ =
    by_cases (eqb (number_of users name) (number_of users own))
    (λ same. absurd (differ (sym (one_name users own name known (sym (eqb-true (number_of users name) (number_of users own) same))))))
    (λ other. other)
number_differs users RawGrantee.Public RawGrantee.Public known differ = absurd (differ refl)
number_differs users (RawGrantee.Named name) RawGrantee.Public known differ = refl
number_differs users RawGrantee.Public (RawGrantee.Named own) known differ = refl

numbers_differ : (users : List (List ℕ)) (before : List RawGrantee) (grantee : RawGrantee) → is_known_grantee users grantee ≡ true
    → AllByRecursion (λ other. grantee_word other ≢ grantee_word grantee) before
    → has_grantee (map (numbered_grantee users) before) (numbered_grantee users grantee) ≡ false
numbers_differ users [] grantee known differ = refl
numbers_differ users (other ∷ before) grantee known differ =
    rw (number_differs users other grantee known differ.0) (numbers_differ users before grantee known differ.1)

-- some of the grantees are left, and those before them have these numbers
pub record AreTaken (users : List (List ℕ)) (all left : List RawGrantee) (found : List Grantee) : Type 0 where
  pub grammar : AreGrantees all
  pub taken : List RawGrantee
  pub parts : all ≡ taken ++ left
  pub numbers : found ≡ map (numbered_grantee users) taken

module _ (users : List (List ℕ)) (all : List RawGrantee) where
  pub taken_first : (grantee : RawGrantee) (left : List RawGrantee) → AreGrantees all → all ≡ grantee ∷ left
      → AreTaken users all left (numbered_grantee users grantee ∷ [])
  taken_first grantee left grammar parts = record { grammar = grammar; taken = grantee ∷ []; parts = parts; numbers = refl }

  pub taken_next : (grantee : RawGrantee) (left : List RawGrantee) (found : List Grantee) → AreTaken users all (grantee ∷ left) found
      → AreTaken users all left (found ++ numbered_grantee users grantee ∷ [])
  taken_next grantee left found h = record {
    grammar = h.grammar;
    taken = h.taken ++ grantee ∷ [];
    parts = h.parts ∙ sym (append_assoc h.taken (grantee ∷ []) left);
    numbers = ap (λ (gs : List Grantee). gs ++ numbered_grantee users grantee ∷ []) h.numbers
        ∙ sym (map-append (numbered_grantee users) h.taken (grantee ∷ []));
  }

  pub taken_all : (found : List Grantee) → AreTaken users all [] found → found ≡ map (numbered_grantee users) all
  taken_all found h = h.numbers ∙ ap (map (numbered_grantee users)) (sym (append-nil h.taken) ∙ sym h.parts)

  -- there is room for the next, which none of these is
  pub taken_room : (grantee : RawGrantee) (left : List RawGrantee) (found : List Grantee) → AreTaken users all (grantee ∷ left) found → length found < 8
  taken_room grantee left found h =
      omega (arith, h.grammar, ap length h.parts, length-append h.taken (grantee ∷ left), ap length h.numbers, length-map h.taken (numbered_grantee users))

  pub taken_new : (grantee : RawGrantee) (left : List RawGrantee) (found : List Grantee) → AreTaken users all (grantee ∷ left) found
      → is_known_grantee users grantee ≡ true → has_grantee found (numbered_grantee users grantee) ≡ false
  taken_new grantee left found h known =
      ap (λ (gs : List Grantee). has_grantee gs (numbered_grantee users grantee)) h.numbers
      ∙ numbers_differ users h.taken grantee known (before_differ h.taken grantee left (subst AreApart h.parts (grantees_apart all h.grammar)))

-- a grantee that was named is known, and has its number
pub known_named : (users : List (List ℕ)) (grantee : RawGrantee) → is_known_grantee (with_named users grantee) grantee ≡ true
known_named users (RawGrantee.Named name) = known_once_named users name
known_named users RawGrantee.Public = refl

number_named : (users : List (List ℕ)) (grantee : RawGrantee) → numbered_grantee (with_named users grantee) grantee ≡ numbered_grantee users grantee
number_named users (RawGrantee.Named name) = ap (λ (n : ℕ). Grantee.User n) (known_number_stays users name)
number_named users RawGrantee.Public = refl

-- and so it is later
stays_named : (users later : List (List ℕ)) (grantee : RawGrantee) → take (length users) later ≡ users → is_known_grantee users grantee ≡ true
    → (is_known_grantee later grantee ≡ true) × (numbered_grantee later grantee ≡ numbered_grantee users grantee)
stays_named users later (RawGrantee.Named name) first known =
    let stays = known_later users later name first known in (stays.0, ap (λ (n : ℕ). Grantee.User n) stays.1)
stays_named users later RawGrantee.Public first known = (refl, refl)

known_at_last : (users : List (List ℕ)) (grantee : RawGrantee) (left : List RawGrantee)
    → (is_known_grantee (with_all_named (with_named users grantee) left) grantee ≡ true)
    × (numbered_grantee (with_all_named (with_named users grantee) left) grantee ≡ numbered_grantee users grantee)
known_at_last users grantee left =
    let named = with_named users grantee in
    let stays = stays_named named (with_all_named named left) grantee (first_grantees named named left (take-length named)) (known_named users grantee) in
    (stays.0, stays.1 ∙ number_named users grantee)

pub all_known : (users : List (List ℕ)) (grantees : List RawGrantee)
    → AllByRecursion (λ grantee. is_known_grantee (with_all_named users grantees) grantee ≡ true) grantees
all_known users [] = tt
all_known users (grantee ∷ grantees) = ((known_at_last users grantee grantees).0, all_known (with_named users grantee) grantees)

-- of the grantees, these first users and then the rest are entered, up to those that are left
pub record AreEntered (start here : List (List ℕ)) (all rest left : List RawGrantee) (found : List Grantee) : Type 0 where
  pub named : with_all_named here left ≡ with_all_named start rest
  pub refusals : named_refusals here left ≡ named_refusals start rest
  pub begins : take (length start) here ≡ start
  pub taken : AreTaken (with_all_named start rest) all left found

-- a grantee has the number that it has at last
number_at_last : (users last : List (List ℕ)) (grantee : RawGrantee) (left : List RawGrantee) (one : Grantee) → with_all_named (with_named users grantee) left ≡ last
    → one ≡ numbered_grantee users grantee → one ≡ numbered_grantee last grantee
number_at_last users last grantee left one is number =
    number ∙ sym (known_at_last users grantee left).1 ∙ ap (λ (names : List (List ℕ)). numbered_grantee names grantee) is

module _ (start here : List (List ℕ)) (all rest left : List RawGrantee) (grantee : RawGrantee) (one : Grantee) where
  module _ (found : List Grantee) (h : AreEntered start here all rest (grantee ∷ left) found) (number : one ≡ numbered_grantee here grantee) where
    known : is_known_grantee (with_all_named start rest) grantee ≡ true
    known = subst (λ (users : List (List ℕ)). is_known_grantee users grantee ≡ true) h.named (known_at_last here grantee left).0

    at_last : one ≡ numbered_grantee (with_all_named start rest) grantee
    at_last = number_at_last here (with_all_named start rest) grantee left one h.named number

    pub entered_new : has_grantee found one ≡ false
    entered_new = rw at_last (taken_new (with_all_named start rest) all grantee left found h.taken known)

    pub entered_next : (next : List (List ℕ)) (more : List Grantee) → next ≡ with_named here grantee → named_refusal here grantee ≡ None
        → more ≡ found ++ one ∷ [] → AreEntered start next all rest left more
    entered_next next more new passes pushed = record {
      named = rw new h.named;
      refusals = rw new (rw passes at h.refusals);
      begins = rw new (first_grantees start here (grantee ∷ []) h.begins);
      taken = rw (pushed, at_last) (taken_next (with_all_named start rest) all grantee left found h.taken);
    }

-- the first of the grantees is entered before the rest
module _ (old start : List (List ℕ)) (all rest : List RawGrantee) (grantee : RawGrantee) (parts : all ≡ grantee ∷ rest) (new : start ≡ with_named old grantee) where
  named_both : with_all_named start rest ≡ with_all_named old all
  named_both = rw (new, parts) refl

  begins_both : take (length old) start ≡ old
  begins_both = rw new (first_grantees old old (grantee ∷ []) (take-length old))

  pub entered_first : (one : Grantee) → AreGrantees all → one ≡ numbered_grantee old grantee → AreEntered start start all rest rest (one ∷ [])
  entered_first one grammar number =
      let last = number_at_last old (with_all_named start rest) grantee rest one (rw new refl) number in
      record {
        named = refl;
        refusals = refl;
        begins = take-length start;
        taken = rw last (taken_first (with_all_named start rest) all grantee rest grammar parts);
      }

  pub entered_begins : (here : List (List ℕ)) (left : List RawGrantee) (found : List Grantee) → AreEntered start here all rest left found → take (length old) here ≡ old
  entered_begins here left found h = first_first old start here begins_both h.begins

  refused_both : None ≡ named_refusals start rest → named_refusal old grantee ≡ None → named_refusals old all ≡ None
  refused_both refusals passes = rw (parts, passes, sym new) (sym refusals)

  pub entered_all : (here : List (List ℕ)) (found : List Grantee) → named_refusal old grantee ≡ None → AreEntered start here all rest [] found
      → (found ≡ map (numbered_grantee (with_all_named old all)) all) × (here ≡ with_all_named old all) × (named_refusals old all ≡ None)
  entered_all here found passes h = (
    rw (sym named_both) (taken_all (with_all_named start rest) all found h.taken),
    h.named ∙ named_both,
    refused_both h.refusals passes,
  )

-- the only grantee is entered
pub only_entered : (old new : List (List ℕ)) (all : List RawGrantee) (name : List ℕ) (number : ℕ) → all ≡ RawGrantee.Named name ∷ [] → new ≡ with_name old name
    → number ≡ number_of old name → Grantee.User number ∷ [] ≡ map (numbered_grantee new) all
only_entered old new all name number only named is =
    rw (only, named) (ap (λ (n : ℕ). Grantee.User n ∷ []) (is ∙ sym (known_number_stays old name)))

pub only_begins : (old : List (List ℕ)) (name : List ℕ) → take (length old) (with_name old name) ≡ old
only_begins old name = first_named old old name (take-length old)

-- a user is entered before them, and is forgotten with them
pub forgotten : (old one later last : List (List ℕ)) (user : List ℕ) (count : ℕ) → one ≡ with_name old user → take (length one) later ≡ one
    → count ≡ length old → last ≡ take count later → last ≡ old
forgotten old one later last user count new begins is forgot =
    rw (forgot, is) (first_first old one later (rw new (first_named old old user (take-length old))) begins)
