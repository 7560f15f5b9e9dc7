-- What the placer of one partition has noted before it places a place, and what it refers the place to.
use Rattle.std.proofs.Common.{◌≡◌, ◌==◌, ◌+◌, ℕ, zero, suc, Bool, true, List, refl, ap, arith, cond}
use Rattle.model_base.specs.declared.reference.Reference.{Reference}
use Rattle.model_base.specs.declared.reference.Reference.TheVariants.{Base}
use Rattle.model_base.specs.declared.statement.Access.{Access}
use Rattle.model_base.specs.declared.statement.Statement.{Statement}
use Rattle.model_base.specs.References.{prior, writer}
use Rattle.placing.specs.declared.latest.Latest.{Latest}
use Rattle.placing.specs.Latest.{IsBehind, IsLatest, IsUpTo, is_own_row, is_own_table, own_prior, own_writer}

-- who has noted all places below this one has maybe noted a part of its statement: none
pub behind-latest : (latest : Latest) (log : List Statement) (first place : ℕ) → IsLatest latest log first place → IsBehind latest log first place
behind-latest latest log first place is = record {
  exact = latest;
  noted = is;
  partition = refl;
  partitions = refl;
  part = λ statement here. record {
    partition = refl;
    partitions = refl;
    writers = λ table row other. refl;
    deeds = λ table other. refl;
  };
}

-- one place more was gone through
pub up-to-next : (latest : Latest) (log : List Statement) (first index : ℕ) → IsLatest latest log first (first + index)
    → IsUpTo latest log first (suc index)
up-to-next latest log first index is = behind-latest latest log first (first + index) is

-- the reference of an access into the partition is to the last writer of its row
pub own-writer-is : (latest : Latest) (log : List Statement) (first place : ℕ) (access : Access) → IsLatest latest log first place
    → is_own_row latest access.key.table access.key.row ≡ true → own_writer latest access ≡ writer log first place access
own-writer-is latest log first place access is own =
    rw (own, is.writers access.key.table access.key.row, own) refl

-- and the reference of a table into it is to the last place with a deed on it
pub own-prior-is : (latest : Latest) (log : List Statement) (first place table : ℕ) → IsLatest latest log first place
    → is_own_table latest table ≡ true → own_prior latest table ≡ prior log first place table
own-prior-is latest log first place table is own = rw (own, is.deeds table, own) refl
