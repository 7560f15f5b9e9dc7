use Rattle.std.proofs.Common.{Some, List, ◌∷◌, [], ◌++◌, map, refl, subst, sym, ◌∙◌, ap}
use Rattle.std.specs.Prelude.{IsSome}
use Rattle.std.specs.Map.{lookup}
use Rattle.std.proofs.lemmas.List.{map-append}
use Rattle.std.proofs.lemmas.Option.{none-some}
use Rattle.body.specs.RowMap.{key_eq}
use Rattle.chains.specs.declared.replaced.Replaced.{Replaced}
use Rattle.chains.specs.Keyed.{AreBacked, Held, replaced_of, replacing_write, versions_in, without_last}
use Rattle.chains.proofs.Entries.{backed-by, found, last-has, more-other, last-taken}
use Rattle.chains.proofs.Cutting.{last-write}
use Rattle.chains.proofs.rows.Rows.take_last.Goals as goal

pub returns-in_default-clause-none : goal.returns-in_default-clause-none
returns-in_default-clause-none c = last-write c.take_last_from.new.older.items c.args.first c.in_default.ensures.rest

pub returns-in-None : goal.returns-in-None
returns-in-None c =
    let older = c.take_last_from.new.older.items in
    let one = c.in-Some.last in
    let entries = c.self.inside.newest.entries in
    let has = last-has older one entries (subst (λ (items : List Replaced). AreBacked items entries) c.in-Some.ensures.items c.self.invariant) in
    absurd (none-some has.0 (c.in-None.ensures.value ∙ has.1))

pub invariant_of-self-2 : goal.invariant_of-self-2
invariant_of-self-2 c =
    let older = c.take_last_from.new.older.items in
    let one = c.in-Some.last in
    let entries = c.self.inside.newest.entries in
    let new = (c.get_mut.follows.lender one.version).entries in
    let written = c.get_mut.follows.holds one.version in
    record {
      distinct = written.4;
      backed =
          backed-by older (older ++ one ∷ []) one.key (λ key. lookup (key_eq key) entries) (λ key. lookup (key_eq key) new) (Some one.version)
          (written.3 (subst IsSome c.in-Some-get_mut.ensures.value refl)).0 (λ none. cc) (λ key differ. sym (more-other one older key differ))
          (λ key none. ap (replaced_of key) (sym c.in-Some.ensures.items) ∙ c.self.invariant.backed key none);
    }

pub returns-clause-taken : goal.returns-clause-taken
returns-clause-taken c =
    let older = c.take_last_from.new.older.items in
    let one = c.in-Some.last in
    let entries = c.self.inside.newest.entries in
    let new = (c.get_mut.follows.lender one.version).entries in (
      replacing_write one,
      c.in-Some.ensures.from,
      sym (ap (λ (held : Held). held.replacing) c.self.view_is)
          ∙ ap (map replacing_write) c.in-Some.ensures.items
          ∙ map-append replacing_write older (one ∷ []),
      last-taken older one c.in-Some-get_mut.newest.now entries new
          (found one.key c.in-Some-get_mut.newest.now entries c.self.invariant.distinct (sym c.in-Some-get_mut.ensures.value))
          (c.get_mut.follows.holds one.version).0
          ∙ ap (λ (items : List Replaced). without_last one.key (versions_in items entries)) (sym c.in-Some.ensures.items)
          ∙ ap (λ (held : Held). without_last one.key held.versions) c.self.view_is,
    )
