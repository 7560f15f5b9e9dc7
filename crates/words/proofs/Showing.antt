-- Where the words lie, and what they show after a store.
use Rattle.std.proofs.Common.{◌≡◌, ◌≢◌, ℕ, zero, suc, ◌+◌, ◌<◌, ◌≤◌, Bool, true, false, true≢false, List, [], ◌∷◌, ◌++◌, length, get_or, set, refl, sym, ap, ◌∙◌, subst, arith, inl, inr, length-set, get_or-set_same, replicate}
use Rattle.std.specs.Prelude.{Option, None}
use Rattle.std.proofs.lemmas.Bool.{cases_eq, cases_lt}
use Rattle.std.proofs.lemmas.List.{get_or-set_other, length-replicate}
use mathlib.Core.Logic.{dite}
use native.Mathlib.Decide.{ℕ_discrete}
use Rattle.bohm_core_base.specs.declared.hold.Hold.{Hold}
use Rattle.bohm_core_base.specs.declared.hold.Hold.TheVariants.{Free}
use Rattle.bohm_core_base.specs.Batch.{Batch, reference_words, words_length}
use Rattle.bohm_core_base.specs.Machine.{State, front_of, own_of, start, with_hold}
use Rattle.words.specs.Layout.{Meaning, claim_word, own_word, reference_word, front_word, end_word, claim_code, optional_word, listed_slot_at, IsListed, block_begin, block_length, reference_begin, front_begin, total, Counts, Has, position, partition_at, reference_at, shown, ShowsState}
use Rattle.words.specs.Legal.{IsStored}
use Rattle.words.proofs.Members.{replicate-same}

module _ (b : Batch) where
  -- a block has room for its claim and its own words
  pub block-room : (i : ℕ) → words_length b i < block_length b i
  block-room i = omega arith

  -- blocks begin after those of all places before them
  block-high : (i j : ℕ) → i < j → block_begin b i + block_length b i ≤ block_begin b j
  block-high i zero less = absurd (omega arith)
  block-high i (suc j) less =
      elim (cases_lt i j) [
        | inl before ↦ let high = block-high i j before in omega arith
        | inr not_before ↦ let same : i ≡ j = omega arith in rw same (omega arith)
      ]

  -- a word within a block lies before the references
  pub block-below : (i m : ℕ) → i < b.size → m ≤ words_length b i → block_begin b i + m < block_begin b b.size
  block-below i m below within = let high = block-high i b.size below in let room = block-room i in omega arith

  -- and in no other block
  block-apart : (i m j n : ℕ) → m ≤ words_length b i → n ≤ words_length b j → block_begin b i + m ≡ block_begin b j + n → i ≡ j
  block-apart i m j n within within' same =
      elim (cases_lt i j) [
        | inl less ↦ absurd (let high = block-high i j less in let room = block-room i in omega arith)
        | inr not_less ↦
            elim (cases_lt j i) [
              | inl more ↦ absurd (let high = block-high j i more in let room = block-room j in omega arith)
              | inr not_more ↦ omega arith
            ]
      ]

  -- references begin after all blocks, and after those of all places before them
  pub references-low : (i : ℕ) → block_begin b b.size ≤ reference_begin b i
  references-low zero = omega arith
  references-low (suc i) = let low = references-low i in omega arith

  references-high : (i j : ℕ) → i < j → reference_begin b i + length (reference_words b i) ≤ reference_begin b j
  references-high i zero less = absurd (omega arith)
  references-high i (suc j) less =
      elim (cases_lt i j) [
        | inl before ↦ let high = references-high i j before in omega arith
        | inr not_before ↦ let same : i ≡ j = omega arith in rw same (omega arith)
      ]

  -- a reference lies before the fronts
  pub reference-below : (i r : ℕ) → i < b.size → r < length (reference_words b i) → reference_begin b i + r < front_begin b
  reference-below i r below within = let high = references-high i b.size below in omega arith

  -- and is no other place's
  reference-apart : (i r j q : ℕ) → r < length (reference_words b i) → q < length (reference_words b j) → reference_begin b i + r ≡ reference_begin b j + q → i ≡ j
  reference-apart i r j q within within' same =
      elim (cases_lt i j) [
        | inl less ↦ absurd (let high = references-high i j less in omega arith)
        | inr not_less ↦
            elim (cases_lt j i) [
              | inl more ↦ absurd (let high = references-high j i more in omega arith)
              | inr not_more ↦ omega arith
            ]
      ]

  -- whether the word is a reference, and which reference it is
  abbrev pub is_reference : Meaning → Bool
  is_reference (claim_word i) = false
  is_reference (own_word i m) = false
  is_reference (reference_word i r) = true
  is_reference (front_word p) = false
  is_reference (end_word r) = false

  abbrev pub reference_value : Meaning → ℕ
  reference_value (claim_word i) = 0
  reference_value (own_word i m) = 0
  reference_value (reference_word i r) = reference_at b i r
  reference_value (front_word p) = 0
  reference_value (end_word r) = 0

  -- a state with the same fronts counts the same words
  pub counts-same : (s s' : State) → s'.fronts ≡ s.fronts → (o : Meaning) → Counts b s' o → Counts b s o
  counts-same s s' same (claim_word i) counts = tt
  counts-same s s' same (own_word i m) counts = tt
  counts-same s s' same (reference_word i r) counts = subst (λ (fronts : List ℕ). i < get_or fronts (partition_at b i r) 0) same counts
  counts-same s s' same (front_word p) counts = tt
  counts-same s s' same (end_word r) counts = tt

  -- the references stand as before
  abbrev pub SameReferences : List ℕ → List ℕ → Type 0
  SameReferences words words' =
      (i r : ℕ) → i < b.size → r < length (reference_words b i)
      → get_or words' (position b (reference_word i r)) 0 ≡ get_or words (position b (reference_word i r)) 0

  module _ (listed : List ℕ) where
    pub position-below : (m : Meaning) → Has b listed m → position b m < total b listed
    position-below (claim_word i) has = let low = block-below i 0 has (omega arith) in let more = references-low b.size in omega arith
    position-below (own_word i m) has =
        let low = block-below i (suc m) has.0 (let within = has.1 in omega arith) in let more = references-low b.size in omega arith
    position-below (reference_word i r) has = let low = reference-below i r has.0 has.1 in omega arith
    position-below (front_word p) has = omega arith
    position-below (end_word r) has = omega arith

    -- the claims and own words are before the references, these before the fronts, and these before the ends
    abbrev zone : Meaning → ℕ
    zone (claim_word i) = 0
    zone (own_word i m) = 0
    zone (reference_word i r) = 1
    zone (front_word p) = 2
    zone (end_word r) = 3

    zone-apart : (m n : Meaning) → Has b listed m → Has b listed n → position b m ≡ position b n → zone m ≢ zone n → ⊥
    zone-apart (claim_word i) (claim_word j) has has' same ne = ne refl
    zone-apart (claim_word i) (own_word j n) has has' same ne = ne refl
    zone-apart (own_word i m) (claim_word j) has has' same ne = ne refl
    zone-apart (own_word i m) (own_word j n) has has' same ne = ne refl
    zone-apart (reference_word i r) (reference_word j q) has has' same ne = ne refl
    zone-apart (front_word p) (front_word q) has has' same ne = ne refl
    zone-apart (end_word q) (end_word r) has has' same ne = ne refl
    zone-apart (claim_word i) (reference_word j q) has has' same ne = let low = block-below i 0 has (omega arith) in let more = references-low j in omega arith
    zone-apart (claim_word i) (front_word q) has has' same ne = let low = block-below i 0 has (omega arith) in let more = references-low b.size in omega arith
    zone-apart (claim_word i) (end_word r) has has' same ne = let low = block-below i 0 has (omega arith) in let more = references-low b.size in omega arith
    zone-apart (own_word i m) (reference_word j q) has has' same ne =
        let low = block-below i (suc m) has.0 (let within = has.1 in omega arith) in let more = references-low j in omega arith
    zone-apart (own_word i m) (front_word q) has has' same ne =
        let low = block-below i (suc m) has.0 (let within = has.1 in omega arith) in let more = references-low b.size in omega arith
    zone-apart (own_word i m) (end_word r) has has' same ne =
        let low = block-below i (suc m) has.0 (let within = has.1 in omega arith) in let more = references-low b.size in omega arith
    zone-apart (reference_word i r) (claim_word j) has has' same ne = let low = block-below j 0 has' (omega arith) in let more = references-low i in omega arith
    zone-apart (reference_word i r) (own_word j n) has has' same ne =
        let low = block-below j (suc n) has'.0 (let within = has'.1 in omega arith) in let more = references-low i in omega arith
    zone-apart (reference_word i r) (front_word q) has has' same ne = let low = reference-below i r has.0 has.1 in omega arith
    zone-apart (reference_word i r) (end_word q) has has' same ne = let low = reference-below i r has.0 has.1 in omega arith
    zone-apart (front_word p) (claim_word j) has has' same ne = let low = block-below j 0 has' (omega arith) in let more = references-low b.size in omega arith
    zone-apart (front_word p) (own_word j n) has has' same ne =
        let low = block-below j (suc n) has'.0 (let within = has'.1 in omega arith) in let more = references-low b.size in omega arith
    zone-apart (front_word p) (reference_word j q) has has' same ne = let low = reference-below j q has'.0 has'.1 in omega arith
    zone-apart (front_word p) (end_word r) has has' same ne = omega arith
    zone-apart (end_word r) (claim_word j) has has' same ne = let low = block-below j 0 has' (omega arith) in let more = references-low b.size in omega arith
    zone-apart (end_word r) (own_word j n) has has' same ne =
        let low = block-below j (suc n) has'.0 (let within = has'.1 in omega arith) in let more = references-low b.size in omega arith
    zone-apart (end_word r) (reference_word j q) has has' same ne = let low = reference-below j q has'.0 has'.1 in omega arith
    zone-apart (end_word r) (front_word q) has has' same ne = omega arith

    -- no two words lie in one place
    pub position-apart : (m n : Meaning) → Has b listed m → Has b listed n → position b m ≡ position b n → m ≡ n
    position-apart (claim_word i) (claim_word j) has has' same =
        ap claim_word (block-apart i 0 j 0 (omega arith) (omega arith) (omega arith))
    position-apart (claim_word i) (own_word j n) has has' same =
        let one = block-apart i 0 j (suc n) (omega arith) (let within = has'.1 in omega arith) (omega arith) in
        absurd (let begins : block_begin b i ≡ block_begin b j = ap (block_begin b) one in omega arith)
    position-apart (own_word i m) (claim_word j) has has' same =
        let one = block-apart i (suc m) j 0 (let within = has.1 in omega arith) (omega arith) (omega arith) in
        absurd (let begins : block_begin b i ≡ block_begin b j = ap (block_begin b) one in omega arith)
    position-apart (own_word i m) (own_word j n) has has' same =
        let one = block-apart i (suc m) j (suc n) (let within = has.1 in omega arith) (let within = has'.1 in omega arith) same in
        let other : m ≡ n = (let begins : block_begin b i ≡ block_begin b j = ap (block_begin b) one in omega arith) in
        λ t. own_word (one t) (other t)
    position-apart (reference_word i r) (reference_word j q) has has' same =
        let one = reference-apart i r j q has.1 has'.1 same in
        let other : r ≡ q = (let begins : reference_begin b i ≡ reference_begin b j = ap (reference_begin b) one in omega arith) in
        λ t. reference_word (one t) (other t)
    position-apart (front_word p) (front_word q) has has' same = ap front_word (omega arith)
    position-apart (end_word q) (end_word r) has has' same = ap end_word (omega arith)
    position-apart (claim_word i) (reference_word j q) has has' same = absurd (zone-apart (claim_word i) (reference_word j q) has has' same (λ is. absurd (omega arith)))
    position-apart (claim_word i) (front_word q) has has' same = absurd (zone-apart (claim_word i) (front_word q) has has' same (λ is. absurd (omega arith)))
    position-apart (claim_word i) (end_word r) has has' same = absurd (zone-apart (claim_word i) (end_word r) has has' same (λ is. absurd (omega arith)))
    position-apart (own_word i m) (reference_word j q) has has' same = absurd (zone-apart (own_word i m) (reference_word j q) has has' same (λ is. absurd (omega arith)))
    position-apart (own_word i m) (front_word q) has has' same = absurd (zone-apart (own_word i m) (front_word q) has has' same (λ is. absurd (omega arith)))
    position-apart (own_word i m) (end_word r) has has' same = absurd (zone-apart (own_word i m) (end_word r) has has' same (λ is. absurd (omega arith)))
    position-apart (reference_word i r) (claim_word j) has has' same = absurd (zone-apart (reference_word i r) (claim_word j) has has' same (λ is. absurd (omega arith)))
    position-apart (reference_word i r) (own_word j n) has has' same = absurd (zone-apart (reference_word i r) (own_word j n) has has' same (λ is. absurd (omega arith)))
    position-apart (reference_word i r) (front_word q) has has' same = absurd (zone-apart (reference_word i r) (front_word q) has has' same (λ is. absurd (omega arith)))
    position-apart (reference_word i r) (end_word q) has has' same = absurd (zone-apart (reference_word i r) (end_word q) has has' same (λ is. absurd (omega arith)))
    position-apart (front_word p) (claim_word j) has has' same = absurd (zone-apart (front_word p) (claim_word j) has has' same (λ is. absurd (omega arith)))
    position-apart (front_word p) (own_word j n) has has' same = absurd (zone-apart (front_word p) (own_word j n) has has' same (λ is. absurd (omega arith)))
    position-apart (front_word p) (reference_word j q) has has' same = absurd (zone-apart (front_word p) (reference_word j q) has has' same (λ is. absurd (omega arith)))
    position-apart (front_word p) (end_word r) has has' same = absurd (zone-apart (front_word p) (end_word r) has has' same (λ is. absurd (omega arith)))
    position-apart (end_word r) (claim_word j) has has' same = absurd (zone-apart (end_word r) (claim_word j) has has' same (λ is. absurd (omega arith)))
    position-apart (end_word r) (own_word j n) has has' same = absurd (zone-apart (end_word r) (own_word j n) has has' same (λ is. absurd (omega arith)))
    position-apart (end_word r) (reference_word j q) has has' same = absurd (zone-apart (end_word r) (reference_word j q) has has' same (λ is. absurd (omega arith)))
    position-apart (end_word r) (front_word q) has has' same = absurd (zone-apart (end_word r) (front_word q) has has' same (λ is. absurd (omega arith)))

    -- one word is stored, and the others show the new state already
    pub shows-set : (words : List ℕ) (s' : State) (m : Meaning) (word : ℕ) → length words ≡ total b listed → Has b listed m
        → (Counts b s' m → word ≡ shown listed s' m)
        → ((o : Meaning) → Has b listed o → Counts b s' o → o ≢ m → get_or words (position b o) 0 ≡ shown listed s' o)
        → ShowsState b listed (set words (position b m) word) s'
    shows-set words s' m word wide has is others = record {
      wide = length-set words (position b m) word ∙ wide;
      at = λ o here counts. dite (ℕ_discrete (position b o) (position b m))
          (λ same.
          let equal = position-apart o m here has same in
          let within : position b m < length words = (let below = position-below m has in omega arith) in
          ap (λ (w : ℕ). get_or (set words (position b m) word) w 0) same ∙ get_or-set_same words (position b m) word 0 within
          ∙ is (subst (Counts b s') equal counts) ∙ ap (shown listed s') (sym equal))
          (λ differ. get_or-set_other words (position b m) (position b o) word 0 differ ∙ others o here counts (λ same. differ (ap (position b) same)));
    }

    -- one word is stored, and the state changes in what that word shows, and in no front
    pub shows-store : (words : List ℕ) (s s' : State) (m : Meaning) (word : ℕ) → Has b listed m → ShowsState b listed words s → s'.fronts ≡ s.fronts
        → word ≡ shown listed s' m
        → ((o : Meaning) → Has b listed o → o ≢ m → shown listed s' o ≡ shown listed s o) → ShowsState b listed (set words (position b m) word) s'
    shows-store words s s' m word has shows fronts is others =
        shows-set words s' m word shows.wide has (λ _. is)
        (λ o here counts differ. shows.at o here (counts-same s s' fronts o counts) ∙ sym (others o here differ))

    -- a word that is no reference is stored
    pub references-stay : (words : List ℕ) (m : Meaning) (word : ℕ) → Has b listed m → is_reference m ≡ false → SameReferences words (set words (position b m) word)
    references-stay words m word has other i r below within =
        get_or-set_other words (position b m) (position b (reference_word i r)) word 0
        (λ same. true≢false (ap is_reference (position-apart (reference_word i r) m (below, within) has same) ∙ other))

    -- a reference is stored: those that stand stay
    pub stands-set : (words : List ℕ) (i r word p j q : ℕ) → length words ≡ total b listed → Has b listed (reference_word i r) → word ≡ reference_at b i r
        → IsStored b words p j q → IsStored b (set words (position b (reference_word i r)) word) p j q
    stands-set words i r word p j q wide has is stands = (
      stands.0,
      stands.1,
      stands.2,
      dite (ℕ_discrete (position b (reference_word j q)) (position b (reference_word i r)))
          (λ same.
          let equal = position-apart (reference_word j q) (reference_word i r) (stands.0, stands.1) has same in
          let within : position b (reference_word i r) < length words = (let below = position-below (reference_word i r) has in omega arith) in
          ap (λ (w : ℕ). get_or (set words (position b (reference_word i r)) word) w 0) same ∙ get_or-set_same words (position b (reference_word i r)) word 0 within
          ∙ is ∙ sym (ap reference_value equal))
          (λ differ. get_or-set_other words (position b (reference_word i r)) (position b (reference_word j q)) word 0 differ ∙ stands.3),
    )

    -- a claim changes
    pub hold-others : (s : State) (i : ℕ) (hold : Hold) (o : Meaning) → o ≢ claim_word i → shown listed (with_hold s i hold) o ≡ shown listed s o
    hold-others s i hold (claim_word j) other = ap claim_code (get_or-set_other s.holds i j hold Free (λ same. other (ap claim_word same)))
    hold-others s i hold (own_word j m) other = refl
    hold-others s i hold (reference_word j r) other = refl
    hold-others s i hold (front_word p) other = refl
    hold-others s i hold (end_word r) other = refl

    -- the next own word is stored
    pub own-others : (s : State) (i word : ℕ) → i < length s.own → (o : Meaning) → o ≢ own_word i (length (own_of s i))
        → shown listed (record s { own = set s.own i (own_of s i ++ word ∷ []) }) o ≡ shown listed s o
    own-others s i word within (claim_word j) other = refl
    own-others s i word within (reference_word j r) other = refl
    own-others s i word within (front_word p) other = refl
    own-others s i word within (end_word r) other = refl
    own-others s i word within (own_word j m) other =
        elim (cases_eq j i) [
          | inl same ↦
              rw (same, get_or-set_same s.own i (own_of s i ++ word ∷ []) [] within)
              (push-other (own_of s i) word m (λ last. other (λ t. own_word (same t) (last t))))
          | inr differ ↦ ap (λ (own : List ℕ). get_or own m 0) (get_or-set_other s.own i j (own_of s i ++ word ∷ []) [] differ)
        ]
      where
        push-other : (l : List ℕ) (x m : ℕ) → m ≢ length l → get_or (l ++ x ∷ []) m 0 ≡ get_or l m 0
        push-other [] x zero other = absurd (other refl)
        push-other [] x (suc m) other = refl
        push-other (y ∷ l) x zero other = refl
        push-other (y ∷ l) x (suc m) other = push-other l x m (λ same. other (ap suc same))

    -- a listed end is set
    pub end-others : (s : State) (r : ℕ) (end : Option ℕ) → IsListed b listed → r < length listed → (o : Meaning) → Has b listed o → o ≢ end_word r
        → shown listed (record s { ends = set s.ends (listed_slot_at listed r) end }) o ≡ shown listed s o
    end-others s r end apart within (claim_word j) has other = refl
    end-others s r end apart within (own_word j m) has other = refl
    end-others s r end apart within (reference_word j q) has other = refl
    end-others s r end apart within (front_word p) has other = refl
    end-others s r end apart within (end_word q) has other =
        ap optional_word (get_or-set_other s.ends (listed_slot_at listed r) (listed_slot_at listed q) end None (λ same. other (ap end_word (apart.apart q r has within same))))

    -- at first all words are 0
    pub shows-start : IsListed b listed → ShowsState b listed (replicate (total b listed) 0) (start b)
    shows-start apart = record {
      wide = length-replicate (total b listed) 0;
      at = λ m has counts. replicate-same (total b listed) (position b m) 0 ∙ sym (zero-shown m has counts);
    }
      where
        zero-shown : (m : Meaning) → Has b listed m → Counts b (start b) m → shown listed (start b) m ≡ 0
        zero-shown (claim_word i) has counts = ap claim_code (replicate-same b.size i Free)
        zero-shown (own_word i m) has counts = ap (λ (own : List ℕ). get_or own m 0) (replicate-same b.size i [])
        zero-shown (reference_word i r) has counts = absurd (let none : front_of (start b) (partition_at b i r) ≡ 0 = replicate-same b.partitions (partition_at b i r) 0 in omega arith)
        zero-shown (front_word p) has counts = replicate-same b.partitions p 0
        zero-shown (end_word r) has counts = ap optional_word (apart.unended r has)

pub push-at : (l : List ℕ) (x : ℕ) → get_or (l ++ x ∷ []) (length l) 0 ≡ x
push-at [] x = refl
push-at (y ∷ l) x = push-at l x
