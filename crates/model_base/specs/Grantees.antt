-- From one to `MOST_GRANTEES` grantees, each once: the numbers of the users in an array of this many, and where PUBLIC is. What isn't a
-- user's is 0, so that equal lists of grantees are equal values.
use Rattle.std.specs.Prelude.{◌≡◌, ◌≢◌, ◌-◌, ◌≤◌, ◌++◌, List, AllPairs, length, map, take, set, replicate, is_none, unwrap_or}
use Rattle.std.specs.List.{position_or_len}
use Rattle.model_base.specs.declared.limits.TheConstants.{MOST_GRANTEES}
use Rattle.model_base.specs.declared.deed.Grantee.{Grantee}
use Rattle.model_base.specs.declared.deed.Grantee.TheVariants.{User, Public}
use Rattle.model_base.specs.declared.grantees.Grantees.TheInside.{Inside}
use Rattle.model_base.specs.Privileges.{user_of}

-- the grantees that are seen: PUBLIC at its index, and users
abbrev pub grantees_of : Inside → List Grantee
grantees_of g = take g.len (set (map (λ user. User user) g.users) g.public Public)

-- no grantee is there twice
abbrev pub AreDistinct : List Grantee → Type 0
AreDistinct grantees = AllPairs (λ one other. one ≢ other) grantees

-- the numbers of these users, and the index of the grantee that is none
abbrev pub packed : List Grantee → Inside
packed gs = record {
  len = length gs;
  public = position_or_len (λ grantee. is_none (user_of grantee)) gs;
  users = map (λ grantee. unwrap_or (user_of grantee) 0) gs ++ replicate (MOST_GRANTEES - length gs) 0;
}

-- there is a grantee, they are apart and fit the array, and nothing else is in it
pub record IsPacked (g : Inside) : Type 0 where
  pub some : 1 ≤ g.len
  pub within : g.len ≤ MOST_GRANTEES
  pub whole : length g.users ≡ MOST_GRANTEES
  pub only : packed (grantees_of g) ≡ g
  pub apart : AreDistinct (grantees_of g)

pub packed-undoes : (g : Inside) → IsPacked g → packed (grantees_of g) ≡ g
packed-undoes g ok = ok.only
