-- Which slots have a word for their record's end: those without an end before the batch that its revocations may reach. They
-- reach the grants that they name, and with a grant that they reach the later ones by whom it gives the option: P. P. Griffiths
-- and B. W. Wade, "An Authorization Mechanism for a Relational Database System", ACM TODS 1 (1976). That each such grant has a
-- place for its end before anything runs is as each version has its placeholder: J. M. Faleiro and D. J. Abadi, "Rethinking
-- Serializable Multiversion Concurrency Control", PVLDB 8 (2015), section 3.
use Rattle.std.specs.Prelude.{◌&&◌, ◌||◌, ◌++◌, ℕ, zero, suc, Bool, false, is_none, List, [], ◌∷◌, length, slice_get, if◌then◌else◌}
use Rattle.std.specs.List.{list_any}
use Rattle.std.specs.Option.{option_map_or}
use Rattle.model_base.specs.declared.deed.Grant.{Grant}
use Rattle.grants_base.specs.Index.{is_by}
use Rattle.model_base.specs.Privileges.{option_holder, revokes}
use Rattle.bohm_core_base.specs.Batch.{Batch, batch_slots}
use Rattle.bohm_core_base.specs.Machine.{end_of, start}

-- whether one of this many places may make a revocation that names the grant
abbrev pub is_revoked : Batch → ℕ → Grant → Bool
is_revoked batch zero grant = false
is_revoked batch (suc index) grant = list_any (λ deed. revokes deed grant) (batch.deeds index) || is_revoked batch index grant

-- whether the first grant gives the grantor of the second the option, of its kind on its table
abbrev pub lends : Grant → Grant → Bool
lends giver grant = option_map_or (λ user. is_by user giver.kind giver.table grant) (option_holder giver) false

-- whether the grant of one of these slots does
abbrev pub is_lent : Batch → List ℕ → Grant → Bool
is_lent batch slots grant =
    list_any (λ slot. option_map_or (λ giver. lends giver grant) (slice_get (batch_slots batch) slot) false) slots

-- whether the record of a slot has no end before the batch
abbrev pub is_open : Batch → ℕ → Bool
is_open batch slot = is_none (end_of (start batch) slot)

-- whether the batch may reach the slot, where these are the slots below it that it may reach
abbrev pub is_reached : Batch → List ℕ → ℕ → Bool
is_reached batch listed slot =
    is_open batch slot
    && option_map_or (λ grant. is_revoked batch batch.size grant || is_lent batch listed grant) (slice_get (batch_slots batch) slot) false

-- those of this many slots that the batch may reach, in order
abbrev pub listed_below : Batch → ℕ → List ℕ
listed_below batch zero = []
listed_below batch (suc slot) =
    if is_reached batch (listed_below batch slot) slot then listed_below batch slot ++ slot ∷ [] else listed_below batch slot

-- all of them
abbrev pub listed_slots : Batch → List ℕ
listed_slots batch = listed_below batch (length (batch_slots batch))
