-- A grantee appended to the others is apart from them, and packed beside them.
use Rattle.std.proofs.Common.{◌≡◌, ◌≢◌, ℕ, zero, suc, ◌+◌, ◌-◌, ◌<◌, ◌||◌, Bool, true, false, cond, eqb, List, [], ◌∷◌, ◌++◌, length, get_or, map, take, set, refl, sym, ◌∙◌, ap, arith, subst, append_assoc, length-append}
use Rattle.std.specs.Prelude.{replicate, is_none, unwrap_or}
use Rattle.std.specs.List.{position_or_len}
use Rattle.std.proofs.Math.Seq.{set-append_seam}
use Rattle.std.proofs.lemmas.Bool.{true≢false}
use Rattle.std.proofs.lemmas.Bool.Decides.{nat_tests}
use Rattle.std.proofs.lemmas.List.{length-map, length-replicate, map-append}
use Rattle.std.proofs.lemmas.List.Folds.{position_or_len_push}
use Rattle.std.proofs.lemmas.List.Sums.{position_or_len_is}
use Rattle.std.proofs.lemmas.List.Quantifiers.{all_pairs_push}
use Rattle.model_base.specs.declared.deed.Grantee.{Grantee}
use Rattle.model_base.specs.declared.deed.Grantee.TheVariants.{User, Public}
use Rattle.model_base.specs.declared.grantees.Grantees.TheInside.{Inside}
use Rattle.model_base.specs.Grantees.{AreDistinct, IsPacked, grantees_of, packed}
use Rattle.model_base.specs.Privileges.{has_grantee, same_grantee, user_of}

-- the number that is kept of a grantee
abbrev number : Grantee → ℕ
number grantee = unwrap_or (user_of grantee) 0

abbrev is_public : Grantee → Bool
is_public grantee = is_none (user_of grantee)

-- only PUBLIC is no user
a_user : (grantee : Grantee) → grantee ≢ Public → is_public grantee ≡ false
a_user (User user) other = refl
a_user Public other = absurd (other refl)

-- each grantee is the same as itself
same_as_itself : (grantee : Grantee) → same_grantee grantee grantee ≡ true
same_as_itself (User user) = grind (arith, nat_tests)
same_as_itself Public = refl

neither : (one other : Bool) → (one || other) ≡ false → other ≡ false
neither true other none = absurd (true≢false none)
neither false other none = none

-- none of the others is a grantee that isn't among them
others : (grantees : List Grantee) (grantee : Grantee) → has_grantee grantees grantee ≡ false
    → (k : ℕ) (d : Grantee) → k < length grantees → get_or grantees k d ≢ grantee
others [] grantee none k d inside = absurd (omega arith)
others (one ∷ grantees) grantee none zero d inside =
    λ same. true≢false (sym (ap (λ b. b || has_grantee grantees grantee) (ap (λ x. same_grantee x grantee) same ∙ same_as_itself grantee)) ∙ none)
others (one ∷ grantees) grantee none (suc k) d inside =
    others grantees grantee (neither (same_grantee one grantee) (has_grantee grantees grantee) none) k d (omega arith)

-- so they are apart with it
apart_more : (grantees : List Grantee) (grantee : Grantee) → AreDistinct grantees → has_grantee grantees grantee ≡ false
    → AreDistinct (grantees ++ grantee ∷ [])
apart_more grantees grantee apart none = all_pairs_push (λ one other. one ≢ other) grantees grantee apart (others grantees grantee none)

-- where PUBLIC isn't among the grantees, its index is their number
without_public : (grantees : List Grantee) → ((k : ℕ) → k < length grantees → get_or grantees k Public ≢ Public)
    → position_or_len is_public grantees ≡ length grantees
without_public grantees users =
    position_or_len_is is_public grantees (length grantees) Public (omega arith) (λ k inside. a_user (get_or grantees k Public) (users k inside))
    (λ inside. absurd (omega arith))

-- users alone are read from their numbers
users_unpacked : (grantees : List Grantee) (rest : List ℕ) → position_or_len is_public grantees ≡ length grantees
    → take (length grantees) (map (λ user. User user) (map number grantees ++ rest)) ≡ grantees
users_unpacked [] rest none = refl
users_unpacked (User user ∷ grantees) rest none = ap (λ later. User user ∷ later) (users_unpacked grantees rest (omega arith))
users_unpacked (Public ∷ grantees) rest none = absurd (omega arith)

-- grantees that are apart are read from their numbers and the index of PUBLIC
all_unpacked : (grantees : List Grantee) (rest : List ℕ) → AreDistinct grantees
    → take (length grantees) (set (map (λ user. User user) (map number grantees ++ rest)) (position_or_len is_public grantees) Public) ≡ grantees
all_unpacked [] rest apart = refl
all_unpacked (User user ∷ grantees) rest apart =
    let next : 1 + position_or_len is_public grantees ≡ suc (position_or_len is_public grantees) = omega arith in
    let later = all_unpacked grantees rest (λ i j d less inside. apart (suc i) (suc j) d (omega arith) (omega arith)) in
    ap (λ n. take (suc (length grantees)) (set (User user ∷ map (λ user. User user) (map number grantees ++ rest)) n Public)) next
    ∙ ap (λ later. User user ∷ later) later
all_unpacked (Public ∷ grantees) rest apart =
    let none = without_public grantees (λ k inside same. apart 0 (suc k) Public (omega arith) (omega arith) (sym same)) in
    ap (λ later. Public ∷ later) (users_unpacked grantees rest none)

unpacked : (grantees : List Grantee) → AreDistinct grantees → grantees_of (packed grantees) ≡ grantees
unpacked grantees apart = all_unpacked grantees (replicate (8 - length grantees) 0) apart

-- the numbers with one more, which is the next in the array
numbers_more : (grantees : List Grantee) (grantee : Grantee) → length grantees < 8
    → (packed (grantees ++ grantee ∷ [])).users ≡ map number grantees ++ number grantee ∷ replicate (8 - (length grantees + 1)) 0
numbers_more grantees grantee room =
    ap (λ front. front ++ replicate (8 - length (grantees ++ grantee ∷ [])) 0) (map-append number grantees (grantee ∷ []))
    ∙ append_assoc (map number grantees) (number grantee ∷ []) (replicate (8 - length (grantees ++ grantee ∷ [])) 0)
    ∙ ap (λ n. map number grantees ++ number grantee ∷ replicate (8 - n) 0) (length-append grantees (grantee ∷ []))

next_free : (grantees : List Grantee) → length grantees < 8
    → (packed grantees).users ≡ map number grantees ++ 0 ∷ replicate (8 - (length grantees + 1)) 0
next_free grantees room =
    let next : 8 - length grantees ≡ suc (8 - (length grantees + 1)) = omega arith in
    ap (λ n. map number grantees ++ replicate n 0) next

-- the value with one more counted
abbrev pub longer : Inside → Inside
longer inside = record { len = inside.len + 1; public = inside.public; users = inside.users }

same_inside : {one : Inside} {len public : ℕ} {users : List ℕ} → one.len ≡ len → one.public ≡ public → one.users ≡ users
    → one ≡ record { len = len; public = public; users = users }
same_inside {one} {len} {public} {users} lens publics numbers =
    let by_len : ℕ → Inside = λ x. record { len = x; public = one.public; users = one.users } in
    let by_public : ℕ → Inside = λ x. record { len = len; public = x; users = one.users } in
    let by_users : List ℕ → Inside = λ x. record { len = len; public = public; users = x } in
    ap by_len lens ∙ ap by_public publics ∙ ap by_users numbers

moved : (place len : ℕ) → place ≡ len → cond (eqb place len) (len + 1) place ≡ place + 1
moved place len same = grind (arith, nat_tests)

stayed : (place len : ℕ) → place ≢ len → cond (eqb place len) (len + 1) place ≡ place
stayed place len other = grind (arith, nat_tests)

counted : (place len : ℕ) → place ≡ len → cond (eqb place len) (len + 0) place ≡ place
counted place len same = grind (arith, nat_tests)

module _ (grantees : List Grantee) (room : length grantees < 8) where
  users_with_user : (user : ℕ) → (packed (grantees ++ User user ∷ [])).users ≡ set (packed grantees).users (length grantees) user
  users_with_user user =
      let rest = replicate (8 - (length grantees + 1)) 0 in
      numbers_more grantees (User user) room
      ∙ sym (set-append_seam (map number grantees) 0 rest user)
      ∙ ap (λ n. set (map number grantees ++ 0 ∷ rest) n user) (length-map grantees number)
      ∙ ap (λ users. set users (length grantees) user) (sym (next_free grantees room))

  -- a user that follows users alone moves the index that says that PUBLIC isn't there
  user_after_users : (user : ℕ) → (packed grantees).public ≡ (packed grantees).len
      → packed (grantees ++ User user ∷ [])
      ≡ longer (record { len = length grantees; public = (packed grantees).public + 1; users = set (packed grantees).users (length grantees) user })
  user_after_users user none =
      same_inside (length-append grantees (User user ∷ [])) (position_or_len_push is_public grantees (User user) ∙ moved _ _ none) (users_with_user user)

  -- a user after PUBLIC
  user_after_public : (user : ℕ) → (packed grantees).public ≢ (packed grantees).len
      → packed (grantees ++ User user ∷ [])
      ≡ longer (record { len = length grantees; public = (packed grantees).public; users = set (packed grantees).users (length grantees) user })
  user_after_public user there =
      same_inside (length-append grantees (User user ∷ [])) (position_or_len_push is_public grantees (User user) ∙ stayed _ _ there) (users_with_user user)

  -- PUBLIC after users alone
  public_after_users : has_grantee grantees Public ≡ false → packed (grantees ++ Public ∷ []) ≡ longer (packed grantees)
  public_after_users none =
      let last = without_public grantees (λ k inside. others grantees Public none k Public inside) in
      same_inside (length-append grantees (Public ∷ [])) (position_or_len_push is_public grantees Public ∙ counted _ _ last)
      (numbers_more grantees Public room ∙ sym (next_free grantees room))

  module _ (inside : Inside) (is_packed : packed grantees ≡ inside) (grantee : Grantee) where
    pub with_user_moved : (user : ℕ) → grantee ≡ User user → inside.public ≡ inside.len
        → packed (grantees ++ grantee ∷ [])
        ≡ longer (record { len = inside.len; public = inside.public + 1; users = set inside.users inside.len user })
    with_user_moved user same none =
        let after : Inside → Inside = λ x. longer (record { len = x.len; public = x.public + 1; users = set x.users x.len user }) in
        let lemma = subst (λ (x : Inside). x.public ≡ x.len → packed (grantees ++ User user ∷ []) ≡ after x) is_packed (user_after_users user) in
        ap (λ (x : Grantee). packed (grantees ++ x ∷ [])) same ∙ lemma none

    pub with_user : (user : ℕ) → grantee ≡ User user → inside.public ≢ inside.len
        → packed (grantees ++ grantee ∷ [])
        ≡ longer (record { len = inside.len; public = inside.public; users = set inside.users inside.len user })
    with_user user same there =
        let after : Inside → Inside = λ x. longer (record { len = x.len; public = x.public; users = set x.users x.len user }) in
        let lemma = subst (λ (x : Inside). x.public ≢ x.len → packed (grantees ++ User user ∷ []) ≡ after x) is_packed (user_after_public user) in
        ap (λ (x : Grantee). packed (grantees ++ x ∷ [])) same ∙ lemma there

    pub with_public : grantee ≡ Public → has_grantee grantees grantee ≡ false → packed (grantees ++ grantee ∷ []) ≡ longer inside
    with_public same none =
        ap (λ (x : Grantee). packed (grantees ++ x ∷ [])) same
        ∙ public_after_users (ap (has_grantee grantees) (sym same) ∙ none) ∙ ap longer is_packed

-- what is packed so is what the value has after the grantee is appended
module _ (grantees : List Grantee) (grantee : Grantee) (room : length grantees < 8) (apart : AreDistinct grantees)
    (new : has_grantee grantees grantee ≡ false) (after : Inside) (made : packed (grantees ++ grantee ∷ []) ≡ after) where
  pub pushed-view : grantees_of after ≡ grantees ++ grantee ∷ []
  pushed-view =
      sym (ap (λ (x : Inside). grantees_of x) made) ∙ unpacked (grantees ++ grantee ∷ []) (apart_more grantees grantee apart new)

  pub pushed-packed : IsPacked after
  pushed-packed =
      let more = grantees ++ grantee ∷ [] in
      let long : length more ≡ length grantees + 1 = length-append grantees (grantee ∷ []) in
      let len : length more ≡ after.len = ap (λ (x : Inside). x.len) made in
      let users : (packed more).users ≡ after.users = ap (λ (x : Inside). x.users) made in
      let rest : List ℕ = replicate (8 - length more) 0 in
      record {
        some = omega arith;
        within = omega arith;
        whole =
            ap length (sym users) ∙ omega (arith, length-append (map number more) rest, length-map more number, length-replicate {A = ℕ} (8 - length more) 0);
        only = ap packed pushed-view ∙ made;
        apart = subst AreDistinct (sym pushed-view) (apart_more grantees grantee apart new);
      }
