-- What a partition's placer passes at a place is what there is of the partition.
use Rattle.std.proofs.Common.{◌≡◌, ℕ, Some, List, [], ◌∷◌, ◌++◌, map, refl, sym, ◌∙◌, ap, slice_get}
use Rattle.std.proofs.lemmas.List.{map-append}
use Rattle.model_base.proofs.Replay.{by_cases}
use Rattle.model_base.specs.declared.statement.Access.{Access}
use Rattle.model_base.specs.declared.statement.Statement.{Statement}
use Rattle.model_base.specs.References.{tables_of}
use Rattle.model_base.specs.Versions.{accesses_of}
use Rattle.placing.specs.declared.latest.Latest.{Latest}
use Rattle.placing.specs.Latest.{IsLatest, is_own_row, is_own_table, own_prior, own_writer}
use Rattle.placing.specs.Parts.{access_referral, own_reference, own_references, table_referral}

module _ (latest : Latest) (log : List Statement) (first place : ℕ) (is_latest : IsLatest latest log first place) where
  writer-own : (access : Access) → own_writer latest access ≡ own_reference latest.partition (access_referral latest.partitions log first place access)
  writer-own access =
      by_cases (is_own_row latest access.key.table access.key.row)
      (λ mine. rw mine (rw mine at (is_latest.writers access.key.table access.key.row)))
      (λ other. rw other refl)

  prior-own : (table : ℕ) → own_prior latest table ≡ own_reference latest.partition (table_referral latest.partitions log first place table)
  prior-own table =
      by_cases (is_own_table latest table)
      (λ mine. rw mine (rw mine at (is_latest.deeds table)))
      (λ other. rw other refl)

  writers-own : (accesses : List Access) → map (own_writer latest) accesses ≡ map (own_reference latest.partition) (map (access_referral latest.partitions log first place) accesses)
  writers-own [] = refl
  writers-own (access ∷ accesses) =
      ap (λ reference. reference ∷ map (own_writer latest) accesses) (writer-own access)
      ∙ ap (λ rest. own_reference latest.partition (access_referral latest.partitions log first place access) ∷ rest) (writers-own accesses)

  priors-own : (tables : List ℕ) → map (own_prior latest) tables ≡ map (own_reference latest.partition) (map (table_referral latest.partitions log first place) tables)
  priors-own [] = refl
  priors-own (table ∷ tables) =
      ap (λ reference. reference ∷ map (own_prior latest) tables) (prior-own table)
      ∙ ap (λ rest. own_reference latest.partition (table_referral latest.partitions log first place table) ∷ rest) (priors-own tables)

  -- at a place with this statement
  pub passed : (statement : Statement) → slice_get log place ≡ Some statement → map (own_writer latest) (accesses_of statement.form) ++ map (own_prior latest) (tables_of statement.form) ≡ own_references latest.partitions log first latest.partition place
  passed statement at =
      ap (λ front. front ++ map (own_prior latest) (tables_of statement.form)) (writers-own (accesses_of statement.form))
      ∙ ap (λ back. map (own_reference latest.partition) (map (access_referral latest.partitions log first place) (accesses_of statement.form)) ++ back) (priors-own (tables_of statement.form))
      ∙ sym (map-append (own_reference latest.partition) (map (access_referral latest.partitions log first place) (accesses_of statement.form)) (map (table_referral latest.partitions log first place) (tables_of statement.form)))
      ∙ rw at refl
