-- What the check of a chain decides.
use Rattle.std.proofs.Common.{◌≡◌, ℕ, suc, ◌<◌, ◌+◌, ◌&&◌, true, false, List, [], ◌∷◌, Option, Some, None, length, drop, drop-cons, add-one, get_or, refl, sym, ◌∙◌, ap, arith, eq-eqb}
use Rattle.std.specs.Prelude.{◌==◌, All, Contains, Decides, nat_lt, slice_get}
use Rattle.std.specs.Option.{option_map_or}
use Rattle.std.proofs.lemmas.Bool.{and_parts, eqb-true, lt-ltb, ltb-true, true≢false}
use Rattle.std.proofs.lemmas.List.Elements.{All-cons, All-head, All-nil, All-tail, All-weaker}
use Rattle.model_base.specs.declared.deed.Grant.{Grant}
use Rattle.model_base.specs.declared.deed.Need.{Need}
use Rattle.model_base.specs.Laws.{IsRising}
use Rattle.model_base.specs.Paths.{LeadsFrom, LeadsTo}
use Rattle.model_base.specs.Privileges.{gives, option_of, owns}
use Rattle.model_base.specs.Ranks.{rank}
use Rattle.grants.proofs.Passing.{given, owns_owner}
use Rattle.explain.specs.Lines.{IsChain, PlacesRise, ranks_of}
use Rattle.explain.specs.Steps.{bears_path, leads_to_next, grant_at, leads_on}
use Rattle.explain.proofs.Standing.{grant_at-among, grant_at-rising}

module _ (grants : List Grant) (user : ℕ) (need : Need) where
  -- a rank whose grant goes on is passed
  pub leads-next : (grant next : Grant) (ranks : List ℕ) (i ranked : ℕ) → i < length ranks → ranked ≡ get_or ranks i ranked → grant_at ranked grants ≡ Some next
      → leads_to_next grant next ≡ true
      → leads_on grants next (drop (i + 1) ranks) user need ≡ leads_on grants grant (drop i ranks) user need
  leads-next grant next ranks i ranked within is found on =
      sym (ap (λ left. leads_on grants grant left user need) (drop_at ranks i ranked within is) ∙ rw (found, on) refl)
    where
      drop_at : (all : List ℕ) (j first : ℕ) → j < length all → first ≡ get_or all j first → drop j all ≡ first ∷ drop (j + 1) all
      drop_at all j first less at = rw (add-one j) (drop-cons all j first less ∙ ap (λ x. x ∷ drop (suc j) all) (sym at))

  -- one that doesn't isn't
  pub leads-stops : (grant : Grant) (ranks : List ℕ) (i ranked : ℕ) → i < length ranks → ranked ≡ get_or ranks i ranked
      → ((next : Grant) → grant_at ranked grants ≡ Some next → leads_to_next grant next ≡ false)
      → leads_on grants grant (drop i ranks) user need ≡ false
  leads-stops grant ranks i ranked within is stops =
      ap (λ left. leads_on grants grant left user need) (drop_at ranks i ranked within is)
      ∙ by_found (grant_at ranked grants) refl
    where
      drop_at : (all : List ℕ) (j first : ℕ) → j < length all → first ≡ get_or all j first → drop j all ≡ first ∷ drop (suc j) all
      drop_at all j first less at = drop-cons all j first less ∙ ap (λ x. x ∷ drop (suc j) all) (sym at)

      by_found : (found : Option Grant) → grant_at ranked grants ≡ found
          → option_map_or (λ next. leads_to_next grant next && leads_on grants next (drop (suc i) ranks) user need) (grant_at ranked grants) false ≡ false
      by_found None at = rw at refl
      by_found (Some next) at = rw (at, stops next at) refl

  -- grants that lead on from one, with rising places, all of them among the grants
  pub record LeadOn (grant : Grant) (ranks : List ℕ) : Type 0 where
    pub chain : List Grant
    pub told : ranks_of chain ≡ ranks
    pub rising : PlacesRise (grant ∷ chain)
    pub among : All (Contains grants) chain
    pub leads : LeadsFrom grant chain user need

  after_all : (grant next : Grant) (chain : List Grant) → grant.place < next.place → All (λ (later : Grant). next.place < later.place) chain
      → All (λ (later : Grant). grant.place < later.place) (next ∷ chain)
  after_all grant next chain less above =
      All-cons (λ (later : Grant). grant.place < later.place) next chain less
      (All-weaker (λ (later : Grant). next.place < later.place) (λ (later : Grant). grant.place < later.place) (λ later more. omega arith) chain above)

  -- what the test says
  pub leads-found : (grant : Grant) (ranks : List ℕ) → leads_on grants grant ranks user need ≡ true → LeadOn grant ranks
  leads-found grant [] is = record {
    chain = [];
    told = refl;
    rising = (All-nil (λ (later : Grant). grant.place < later.place), tt);
    among = All-nil (Contains grants);
    leads = is;
  }
  leads-found grant (ranked ∷ ranks) is = by_found (grant_at ranked grants) refl (λ next on. leads-found next ranks on)
    where
      by_found : (found : Option Grant) → grant_at ranked grants ≡ found
          → ((next : Grant) → leads_on grants next ranks user need ≡ true → LeadOn next ranks) → LeadOn grant (ranked ∷ ranks)
      by_found None at again = absurd (true≢false (sym (rw at at is)))
      by_found (Some next) at again =
          let both : (leads_to_next grant next && leads_on grants next ranks user need) ≡ true = rw at at is in
          let parts = and_parts (leads_to_next grant next) (leads_on grants next ranks user need) both in
          let on = and_parts (nat_lt grant.place next.place) (gives grant next.grantor (option_of next)) parts.0 in
          let less : grant.place < next.place = ltb-true grant.place next.place on.0 in
          let there = grant_at-among ranked grants next at in
          let rest = again next parts.1 in
          record {
            chain = next ∷ rest.chain;
            told = ap (λ first. first ∷ ranks_of rest.chain) there.1 ∙ ap (λ later. ranked ∷ later) rest.told;
            rising = (after_all grant next rest.chain less rest.rising.0, rest.rising);
            among = All-cons (Contains grants) next rest.chain there.0 rest.among;
            leads = (on.1, rest.leads);
          }

  -- and what it doesn't miss
  pub leads-all : IsRising grants → (grant : Grant) (chain : List Grant) → PlacesRise (grant ∷ chain) → All (Contains grants) chain → LeadsFrom grant chain user need
      → leads_on grants grant (ranks_of chain) user need ≡ true
  leads-all rise grant [] rising among leads = leads
  leads-all rise grant (next ∷ chain) rising among leads =
      let less : grant.place < next.place = All-head (λ (later : Grant). grant.place < later.place) next chain rising.0 in
      let found = grant_at-rising grants next rise (All-head (Contains grants) next chain among) in
      let on : leads_to_next grant next ≡ true = rw (lt-ltb grant.place next.place less) leads.0 in
      rw (found, on) (leads-all rise next chain rising.1 (All-tail (Contains grants) next chain among) leads.1)

  -- all grants that lead to a need are on its table
  pub leads-table : (grant : Grant) (chain : List Grant) → LeadsFrom grant chain user need → grant.table ≡ need.table
  leads-table grant [] leads = (given grant user need leads).table
  leads-table grant (next ∷ chain) leads = (given grant next.grantor (option_of next) leads.0).table ∙ leads-table next chain leads.1

-- the test of the first grant, and of those after it, decides it
pub chain_decided : (owners : List ℕ) (grants : List Grant) (user owner : ℕ) (need : Need) (ranked : ℕ) (later : List ℕ)
    → slice_get owners need.table ≡ Some owner → IsRising grants
    → Decides (bears_path grants owner user need later (grant_at ranked grants)) (IsChain owners grants user need (ranked ∷ later))
chain_decided owners grants user owner need ranked later owned rise = (λ is. by_found (grant_at ranked grants) refl is, λ is. by_chain is.chain is.told is.rising is.among is.leads)
  where
    by_found : (found : Option Grant) → grant_at ranked grants ≡ found → bears_path grants owner user need later (grant_at ranked grants) ≡ true → IsChain owners grants user need (ranked ∷ later)
    by_found None at is = absurd (true≢false (sym (rw at at is)))
    by_found (Some first) at is =
        let all : bears_path grants owner user need later (Some first) ≡ true = rw at at is in
        let one = and_parts (first.table == need.table) ((first.grantor == owner) && leads_on grants first later user need) all in
        let two = and_parts (first.grantor == owner) (leads_on grants first later user need) one.1 in
        let there = grant_at-among ranked grants first at in
        let rest = leads-found grants user need first later two.1 in
        let table : first.table ≡ need.table = eqb-true first.table need.table one.0 in
        let by : first.grantor ≡ owner = eqb-true first.grantor owner two.0 in
        let owned_by : owns owners first.grantor first.table ≡ true =
        owns_owner owners first.grantor first.table owner (ap (slice_get owners) table ∙ owned) ∙ eq-eqb owner first.grantor (sym by) in
        record {
          chain = first ∷ rest.chain;
          told = ap (λ r. r ∷ ranks_of rest.chain) there.1 ∙ ap (λ rs. ranked ∷ rs) rest.told;
          some = omega arith;
          rising = rest.rising;
          among = All-cons (Contains grants) first rest.chain there.0 rest.among;
          leads = (owned_by, rest.leads);
        }

    by_chain : (chain : List Grant) → ranks_of chain ≡ ranked ∷ later → PlacesRise chain → All (Contains grants) chain → LeadsTo owners chain user need
        → bears_path grants owner user need later (grant_at ranked grants) ≡ true
    by_chain [] told rising among leads = absurd (cc)
    by_chain (first ∷ chain) told rising among leads =
        let at : rank first ≡ ranked = cc in
        let rest : ranks_of chain ≡ later = cc in
        let found : grant_at ranked grants ≡ Some first =
        ap (λ r. grant_at r grants) (sym at) ∙ grant_at-rising grants first rise (All-head (Contains grants) first chain among) in
        let table = leads-table grants user need first chain leads.1 in
        let by : (owner == first.grantor) ≡ true =
        sym (owns_owner owners first.grantor first.table owner (ap (slice_get owners) table ∙ owned)) ∙ leads.0 in
        let same : first.grantor ≡ owner = sym (eqb-true owner first.grantor by) in
        let on : leads_on grants first later user need ≡ true =
        ap (λ rs. leads_on grants first rs user need) (sym rest)
        ∙ leads-all grants user need rise first chain rising (All-tail (Contains grants) first chain among) leads.1 in
        rw (found, eq-eqb first.table need.table table, eq-eqb first.grantor owner same) on
