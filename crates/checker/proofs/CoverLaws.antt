-- Where a view covers the tables of a statement, it covers those of the statement's needs.
use Rattle.std.proofs.Common.{◌≡◌, true, List, [], ◌∷◌, ◌++◌, Option, map, sym}
use Rattle.std.specs.Prelude.{IsTrue}
use Rattle.std.specs.List.{flat_map, list_all}
use Rattle.std.specs.Option.{option_map_or}
use Rattle.std.proofs.lemmas.Bool.{true≢false}
use Rattle.std.proofs.lemmas.List.Elements.{All-append, All-cons, All-nil}
use Rattle.model_base.specs.declared.deed.Kind.{Kind}
use Rattle.model_base.specs.declared.deed.Need.{Need}
use Rattle.model_base.specs.declared.statement.Access.{Access}
use Rattle.model_base.specs.declared.statement.DeedForm.{DeedForm}
use Rattle.model_base.specs.Outcomes.{kinds_in, need_of, needs_of_access, needs_of_deed}
use Rattle.model_base.proofs.Replay.{by_cases}
use Rattle.grants_base.specs.View.{View, covers}
use Rattle.checker.specs.Missing.{Covers}

module _ (view : View) where
  -- needs of one covered table
  pub covers_kinds : (access : Access) (kinds : List Kind) → covers view access.key.table ≡ true → Covers view (map (need_of access) kinds)
  covers_kinds access [] covered = All-nil (λ (need : Need). IsTrue (covers view need.table))
  covers_kinds access (kind ∷ kinds) covered =
      All-cons (λ (need : Need). IsTrue (covers view need.table)) (need_of access kind) (map (need_of access) kinds)
      covered
      (covers_kinds access kinds covered)

  -- the needs of accesses whose tables are covered
  pub covers_needs : (accesses : List Access) → list_all (λ (access : Access). covers view access.key.table) accesses ≡ true
      → Covers view (flat_map needs_of_access accesses)
  covers_needs [] covered = All-nil (λ (need : Need). IsTrue (covers view need.table))
  covers_needs (access ∷ accesses) covered =
      by_cases (covers view access.key.table)
      (λ here.
      All-append (λ (need : Need). IsTrue (covers view need.table)) (needs_of_access access) (flat_map needs_of_access accesses)
      (covers_kinds access (kinds_in access.kinds) here)
      (covers_needs accesses (rw here at covered)))
      (λ missing. absurd (true≢false (sym (rw missing at covered))))

  -- the needs of accesses and of the deed after them
  pub covers_run : (accesses : List Access) (deed : Option DeedForm)
      → list_all (λ (access : Access). covers view access.key.table) accesses ≡ true
      → Covers view (option_map_or needs_of_deed deed [])
      → Covers view (flat_map needs_of_access accesses ++ option_map_or needs_of_deed deed [])
  covers_run accesses deed covered behind =
      All-append (λ (need : Need). IsTrue (covers view need.table)) (flat_map needs_of_access accesses) (option_map_or needs_of_deed deed [])
      (covers_needs accesses covered)
      behind
