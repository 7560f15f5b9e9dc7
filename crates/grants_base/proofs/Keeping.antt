-- An index keeps what is in force with one grant more, and with one less.
use Rattle.std.proofs.Common.{◌≡◌, ℕ, ◌&&◌, ◌||◌, not, Bool, true, false, List, [], ◌∷◌, ◌++◌, Option, Some, None, length, refl, sym, ◌∙◌, ap, subst}
use Rattle.std.specs.Prelude.{Err, IfSome, Ok, OnOk, Result, if◌then◌else◌, is_err, is_some, slice_get, unwrap_or}
use Rattle.std.specs.Bool.{OnFalse, OnTrue}
use Rattle.model_base.specs.declared.deed.Grant.{Grant}
use Rattle.model_base.specs.declared.deed.Grantee.{Grantee}
use Rattle.model_base.specs.declared.deed.Kind.{Kind}
use Rattle.model_base.specs.declared.deed.Record.{Record}
use Rattle.model_base.proofs.Replay.{by_cases}
use Rattle.grants_base.specs.Book.{end_slot, unended}
use Rattle.grants_base.specs.Force.{AreByGrantors, Force, IsForceChanged, IsForceOf, IsGranted, IsWithSlot, IsWithdrawn, IsWithoutSlot, Privilege, force_of, gives_to}
use Rattle.grants_base.specs.InForce.{IsChanged, IsPrivilegeOf, KeepsInForce, privilege_under, side_under}
use Rattle.grants_base.specs.declared.grantor_set.Granted.{Granted}
use Rattle.grants_base.specs.Index.{is_to}
use Rattle.grants_base.specs.Sides.{side_of, to_side}
use Rattle.grants_base.specs.declared.in_force.GranteeIndex.{GranteeIndex}
use Rattle.grants_base.specs.declared.side.Several.{Several}
use Rattle.grants_base.specs.declared.index.HolderKey.{HolderKey}
use Rattle.grants_base.proofs.ForceLaws.{by_apart, by_ended, by_granted, by_other, force_apart, force_ended, force_granted, force_other}
use Rattle.grants_base.proofs.SideLaws.{to_side-same}

and-false : (a : Bool) → (a && false) ≡ false
and-false true = refl
and-false false = refl

-- a grant that stands under a side gives what is asked for without the option, or with it if it has that
gives-plain : (grantee : Grantee) (kind : Kind) (table : ℕ) (grant : Grant) → gives_to grantee kind table false grant ≡ is_to grantee kind table grant
gives-plain grantee kind table grant = plain (is_to grantee kind table grant) grant.option
  where
    plain : (a b : Bool) → (a && (b || true)) ≡ a
    plain true true = refl
    plain true false = refl
    plain false b = refl

gives-option : (grantee : Grantee) (kind : Kind) (table : ℕ) (grant : Grant) → gives_to grantee kind table true grant ≡ (is_to grantee kind table grant && grant.option)
gives-option grantee kind table grant = optional (is_to grantee kind table grant) grant.option
  where
    optional : (a b : Bool) → (a && (b || false)) ≡ (a && b)
    optional true true = refl
    optional true false = refl
    optional false b = refl

pub none_of : {X : Type 0} (found : Option X) → is_some found ≡ false → found ≡ None
none_of None is = refl
none_of (Some x) is = absurd (cc)

-- what holds where there is no error
pub of_ok : {A E : Type 0} (result : Result A E) (P : Type 0) → is_err result ≡ false → OnOk result P → P
of_ok (Ok value) P is holds = holds
of_ok (Err error) P is holds = absurd (cc)

pub when_ok : {A E : Type 0} (result : Result A E) (P Q : Type 0) → OnOk result P → (P → Q) → OnOk result Q
when_ok (Ok value) P Q holds gives = gives holds
when_ok (Err error) P Q holds gives = tt

-- what holds of what is found, if something is
pub next_told : {X : Type 0} (found : Option X) (W : Type 0) (S L Q : X → Type 0) → IfSome found (λ _. W) → IfSome found S → IfSome found L
    → ((x : X) → W → S x → L x → Q x) → IfSome found Q
next_told None W S L Q whole slot lost gives = tt
next_told (Some x) W S L Q whole slot lost gives = gives x whole slot lost

-- the same of one fact besides
pub next_by_told : {X : Type 0} (found : Option X) (W : Type 0) (S Q : X → Type 0) → IfSome found (λ _. W) → IfSome found S → ((x : X) → W → S x → Q x) → IfSome found Q
next_by_told None W S Q whole slot gives = tt
next_by_told (Some x) W S Q whole slot gives = gives x whole slot

-- what is put where there may have been something
pub put_into : {X : Type 0} (here : Bool) (none value : X) (Change : X → X → Type 0) (at was now : Option X) → Change (unwrap_or at none) value → (here ≡ true → at ≡ was)
    → now ≡ (if here then Some value else was) → OnTrue here (Change (unwrap_or was none) (unwrap_or now none)) × OnFalse here (unwrap_or now none ≡ unwrap_or was none)
put_into {X} true none value Change at was now is same told =
    (subst (λ (o : Option X). Change (unwrap_or o none) (unwrap_or now none)) (same refl) (subst (λ (o : Option X). Change (unwrap_or at none) (unwrap_or o none)) (sym told) is), tt)
put_into false none value Change at was now is same told = (tt, ap (λ found. unwrap_or found none) told)

-- or where there was something
pub put_changed : {X : Type 0} (here : Bool) (none was value : X) (Change : X → X → Type 0) (found now : Option X) → Change was value → (here ≡ true → found ≡ Some was)
    → now ≡ (if here then Some value else found) → OnTrue here (Change (unwrap_or found none) (unwrap_or now none)) × OnFalse here (unwrap_or now none ≡ unwrap_or found none)
put_changed {X} true none was value Change found now is there told =
    (subst (λ (o : Option X). Change (unwrap_or o none) (unwrap_or now none)) (sym (there refl)) (subst (λ (o : Option X). Change was (unwrap_or o none)) (sym told) is), tt)
put_changed false none was value Change found now is there told = (tt, ap (λ o. unwrap_or o none) told)

-- of what changed in one place, a part
pub changed_in : {X Y : Type 0} (f : X → Y) (here : Bool) (P : Type 0) (was now : X) → OnTrue here P × OnFalse here (now ≡ was) → OnTrue here P × OnFalse here (f now ≡ f was)
changed_in f true P was now both = (both.0, tt)
changed_in f false P was now both = (tt, ap f both.1)

pub made_in : (here : Bool) (change : List ℕ → List ℕ) (was now : Several) → OnTrue here (now.made ≡ change was.made) × OnFalse here (now ≡ was)
    → now.made ≡ (if here then change was.made else was.made)
made_in true change was now both = both.0
made_in false change was now both = ap (λ (side : Several). side.made) both.1

pub same_in : {X Y : Type 0} (f : X → Y) (here : Bool) (was now : X) → OnTrue here (f now ≡ f was) × OnFalse here (now ≡ was) → f now ≡ f was
same_in f true was now both = both.0
same_in f false was now both = ap f both.1

-- what holds of a flag that is set, or isn't
on_true : (b : Bool) (P Q : Type 0) → OnTrue b P × OnFalse b Q → b ≡ true → P
on_true true P Q both is = both.0
on_true false P Q both is = absurd (cc)

on_false : (b : Bool) (P Q : Type 0) → OnTrue b P × OnFalse b Q → b ≡ false → Q
on_false false P Q both is = both.1
on_false true P Q both is = absurd (cc)

-- of one grantee, kind and table
module _ (entries : List Record) (grantee : Grantee) (kind : Kind) (table : ℕ) (was now : Privilege)
    (before : (asked : Bool) → IsForceOf (gives_to grantee kind table asked) entries (force_of asked was)) where
  granted_here : (grant : Grant) (slot : ℕ) → slot ≡ length entries → is_to grantee kind table grant ≡ true → IsForceChanged grant.option (IsWithSlot slot) was now → (asked : Bool)
      → IsForceOf (gives_to grantee kind table asked) (entries ++ unended grant ∷ []) (force_of asked now)
  granted_here grant slot last here given false =
      force_granted (gives_to grantee kind table false) entries grant slot was.plain now.plain last (gives-plain grantee kind table grant ∙ here) (before false) given.0
  granted_here grant slot last here given true =
      by_cases grant.option
      (λ has.
      force_granted (gives_to grantee kind table true) entries grant slot was.with_option now.with_option last
      (gives-option grantee kind table grant ∙ ap (λ b. b && grant.option) here ∙ has) (before true)
      (on_true grant.option (IsWithSlot slot was.with_option now.with_option) (now.with_option ≡ was.with_option) (given.1, given.2) has))
      (λ lacks.
      subst (λ (force : Force). IsForceOf (gives_to grantee kind table true) (entries ++ unended grant ∷ []) force)
      (sym (on_false grant.option (IsWithSlot slot was.with_option now.with_option) (now.with_option ≡ was.with_option) (given.1, given.2) lacks))
      (force_apart (gives_to grantee kind table true) entries grant was.with_option
      (gives-option grantee kind table grant ∙ ap (λ b. is_to grantee kind table grant && b) lacks ∙ and-false (is_to grantee kind table grant)) (before true)))

  granted_apart : (grant : Grant) → is_to grantee kind table grant ≡ false → now ≡ was → (asked : Bool)
      → IsForceOf (gives_to grantee kind table asked) (entries ++ unended grant ∷ []) (force_of asked now)
  granted_apart grant apart same asked =
      subst (λ (p : Privilege). IsForceOf (gives_to grantee kind table asked) (entries ++ unended grant ∷ []) (force_of asked p)) (sym same)
      (force_apart (gives_to grantee kind table asked) entries grant (force_of asked was) (ap (λ b. b && (grant.option || not asked)) apart) (before asked))

  ended_here : (slot place : ℕ) (found : Record) → slice_get entries slot ≡ Some found → found.end ≡ None → is_to grantee kind table found.grant ≡ true
      → IsForceChanged found.grant.option (IsWithoutSlot slot place) was now → (asked : Bool)
      → IsForceOf (gives_to grantee kind table asked) (end_slot entries slot place) (force_of asked now)
  ended_here slot place found at free here taken false =
      force_ended (gives_to grantee kind table false) entries slot place found was.plain now.plain at free (gives-plain grantee kind table found.grant ∙ here) (before false) taken.0
  ended_here slot place found at free here taken true =
      by_cases found.grant.option
      (λ has.
      force_ended (gives_to grantee kind table true) entries slot place found was.with_option now.with_option at free
      (gives-option grantee kind table found.grant ∙ ap (λ b. b && found.grant.option) here ∙ has) (before true)
      (on_true found.grant.option (IsWithoutSlot slot place was.with_option now.with_option) (now.with_option ≡ was.with_option) (taken.1, taken.2) has))
      (λ lacks.
      subst (λ (force : Force). IsForceOf (gives_to grantee kind table true) (end_slot entries slot place) force)
      (sym (on_false found.grant.option (IsWithoutSlot slot place was.with_option now.with_option) (now.with_option ≡ was.with_option) (taken.1, taken.2) lacks))
      (force_other (gives_to grantee kind table true) entries slot place found was.with_option at free
      (gives-option grantee kind table found.grant ∙ ap (λ b. is_to grantee kind table found.grant && b) lacks ∙ and-false (is_to grantee kind table found.grant)) (before true)))

  ended_apart : (slot place : ℕ) (found : Record) → slice_get entries slot ≡ Some found → found.end ≡ None → is_to grantee kind table found.grant ≡ false → now ≡ was
      → (asked : Bool) → IsForceOf (gives_to grantee kind table asked) (end_slot entries slot place) (force_of asked now)
  ended_apart slot place found at free apart same asked =
      subst (λ (p : Privilege). IsForceOf (gives_to grantee kind table asked) (end_slot entries slot place) (force_of asked p)) (sym same)
      (force_other (gives_to grantee kind table asked) entries slot place found (force_of asked was) at free
      (ap (λ b. b && (found.grant.option || not asked)) apart) (before asked))

-- of one grantee, kind and table, with the grantors
abbrev made_at : Grant → ℕ → Granted
made_at grant slot = record { grantor = grant.grantor; slot = slot }

module _ (entries : List Record) (grantee : Grantee) (kind : Kind) (table : ℕ) (was now : Privilege) (before : IsPrivilegeOf grantee kind table entries was) where
  privilege_granted : (grant : Grant) (slot : ℕ) → slot ≡ length entries → is_to grantee kind table grant ≡ true → IsGranted (made_at grant slot) grant.option was now
      → IsPrivilegeOf grantee kind table (entries ++ unended grant ∷ []) now
  privilege_granted grant slot last here given = record {
    force = granted_here entries grantee kind table was now before.force grant slot last here given.0;
    by = by_granted (is_to grantee kind table) entries was.by now.by before.by grant slot last here given.1;
  }

  privilege_apart : (grant : Grant) → is_to grantee kind table grant ≡ false → now ≡ was → IsPrivilegeOf grantee kind table (entries ++ unended grant ∷ []) now
  privilege_apart grant apart same = record {
    force = granted_apart entries grantee kind table was now before.force grant apart same;
    by =
        subst (λ (p : Privilege). AreByGrantors (is_to grantee kind table) (entries ++ unended grant ∷ []) p.by) (sym same)
        (by_apart (is_to grantee kind table) entries was.by was.by before.by grant apart);
  }

  privilege_ended : (slot place : ℕ) (found : Record) → slice_get entries slot ≡ Some found → found.end ≡ None → is_to grantee kind table found.grant ≡ true
      → IsWithdrawn (made_at found.grant slot) place found.grant.option was now → IsPrivilegeOf grantee kind table (end_slot entries slot place) now
  privilege_ended slot place found at free here taken = record {
    force = ended_here entries grantee kind table was now before.force slot place found at free here taken.0;
    by = by_ended (is_to grantee kind table) entries was.by now.by before.by slot place found at taken.1;
  }

  privilege_other : (slot place : ℕ) (found : Record) → slice_get entries slot ≡ Some found → found.end ≡ None → is_to grantee kind table found.grant ≡ false → now ≡ was
      → IsPrivilegeOf grantee kind table (end_slot entries slot place) now
  privilege_other slot place found at free apart same = record {
    force = ended_apart entries grantee kind table was now before.force slot place found at free apart same;
    by =
        subst (λ (p : Privilege). AreByGrantors (is_to grantee kind table) (end_slot entries slot place) p.by) (sym same)
        (by_other (is_to grantee kind table) entries was.by was.by before.by slot place found at apart);
  }

-- of all
module _ (old new : GranteeIndex) (whole : new.is_whole ≡ old.is_whole) (entries : List Record) (keeps : KeepsInForce old entries) where
  -- what changed under the side of a grant is what changed under that of a grantee, kind and table, or nothing
  changed_at : (grant : Grant) (grantee : Grantee) (kind : Kind) (table : ℕ) (Change : Privilege → Privilege → Type 0) → IsChanged (to_side grant) Change old new
      → OnTrue (is_to grantee kind table grant) (Change (privilege_under old (side_of grantee kind table)) (privilege_under new (side_of grantee kind table)))
      × OnFalse (is_to grantee kind table grant) (privilege_under new (side_of grantee kind table) ≡ privilege_under old (side_of grantee kind table))
  changed_at grant grantee kind table Change changed =
      let side = side_of grantee kind table in
      subst (λ (b : Bool). OnTrue b (Change (privilege_under old side) (privilege_under new side)) × OnFalse b (privilege_under new side ≡ privilege_under old side))
      (to_side-same grantee kind table grant) (changed side)

  pub keeps_granted : (grant : Grant) (slot : ℕ) → slot ≡ length entries → IsChanged (to_side grant) (IsGranted (made_at grant slot) grant.option) old new
      → KeepsInForce new (entries ++ unended grant ∷ [])
  keeps_granted grant slot last changed is grantee kind table =
      let side = side_of grantee kind table in
      let was = privilege_under old side in
      let now = privilege_under new side in
      let before = keeps (sym whole ∙ is) grantee kind table in
      let told = changed_at grant grantee kind table (IsGranted (made_at grant slot) grant.option) changed in
      by_cases (is_to grantee kind table grant)
      (λ here. privilege_granted entries grantee kind table was now before grant slot last here (on_true (is_to grantee kind table grant) (IsGranted (made_at grant slot) grant.option was now) (now ≡ was) told here))
      (λ apart. privilege_apart entries grantee kind table was now before grant apart (on_false (is_to grantee kind table grant) (IsGranted (made_at grant slot) grant.option was now) (now ≡ was) told apart))

  pub keeps_ended : (slot place : ℕ) (found : Record) → slice_get entries slot ≡ Some found → found.end ≡ None
      → IsChanged (to_side found.grant) (IsWithdrawn (made_at found.grant slot) place found.grant.option) old new → KeepsInForce new (end_slot entries slot place)
  keeps_ended slot place found at free changed is grantee kind table =
      let side = side_of grantee kind table in
      let was = privilege_under old side in
      let now = privilege_under new side in
      let before = keeps (sym whole ∙ is) grantee kind table in
      let told = changed_at found.grant grantee kind table (IsWithdrawn (made_at found.grant slot) place found.grant.option) changed in
      by_cases (is_to grantee kind table found.grant)
      (λ here. privilege_ended entries grantee kind table was now before slot place found at free here (on_true (is_to grantee kind table found.grant) (IsWithdrawn (made_at found.grant slot) place found.grant.option was now) (now ≡ was) told here))
      (λ apart. privilege_other entries grantee kind table was now before slot place found at free apart (on_false (is_to grantee kind table found.grant) (IsWithdrawn (made_at found.grant slot) place found.grant.option was now) (now ≡ was) told apart))

-- where nothing changed it keeps what it kept
pub keeps_same : (old new : GranteeIndex) → new.is_whole ≡ old.is_whole → ((other : HolderKey) → side_under new other ≡ side_under old other)
    → (entries : List Record) → KeepsInForce old entries → KeepsInForce new entries
keeps_same old new whole same entries keeps is grantee kind table =
    subst (λ (side : Several). IsPrivilegeOf grantee kind table entries side.privilege) (sym (same (side_of grantee kind table))) (keeps (sym whole ∙ is) grantee kind table)
