use Rattle.std.proofs.Common.{◌≡◌, Some, None, List, ◌∷◌, [], ◌++◌, sym, ◌∙◌, ap, refl, subst}
use Rattle.std.specs.Map.{lookup}
use Rattle.body.specs.RowMap.{key_eq}
use Rattle.indexmap.specs.IndexMap.{set_value_at}
use Rattle.indexmap.proofs.CallerLemmas.{insert_entry-new}
use Rattle.chains.specs.declared.replaced.Replaced.{Replaced}
use Rattle.chains.specs.declared.version.Version.{Version}
use Rattle.chains.specs.Keyed.{AreBacked, Held, held_in, replaced_of}
use Rattle.chains.proofs.Entries.{Entries, backed-by, IsPut, dated_of, put-new, replaced_by}
use Rattle.chains.proofs.Indexed.{backed-at, entry-at, none-at, put-at}
use Rattle.chains.proofs.rows.Rows.put.Goals as goal

-- what was put into the queue and the entries was put into what is held
put-in : (older items more : List Replaced) (entries new then' : Entries) (held : Held) (version : Version) → held_in older entries ≡ held
    → items ≡ more → new ≡ then' → IsPut version (held_in older entries) (held_in more then') → IsPut version held (held_in items new)
put-in older items more entries new then' held version is queue map put =
    subst (λ (old : Held). IsPut version old (held_in items new)) is
    (subst (λ (now : Held). IsPut version (held_in older entries) now) (sym (λ i. held_in (queue i) (map i))) put)

pub invariant_of-self-in_ok-insert-in-None : goal.invariant_of-self-in_ok-insert-in-None
invariant_of-self-in_ok-insert-in-None c =
    let inside = c.self.inside in
    let older = inside.older.items in
    let version : Version = record { place = c.args.place; key = c.args.key; row = c.args.row.now } in
    let dated = dated_of version in
    record {
      distinct = c.in_ok-insert-in-None.ensures.unique;
      backed = λ key none.
          ap (replaced_of key) c.in_ok-reserve.ensures.items
          ∙ backed-by older older version.key (λ q. lookup (key_eq q) inside.newest.entries) (λ q. lookup (key_eq q) c.insert.new.self.entries)
          (Some dated)
          (λ q. c.in_ok-insert-in-None.ensures.updates.0 q
          ∙ refl)
          (λ none. cc) (λ q differ. refl) c.self.invariant.backed key none;
    }

pub returns-in_ok-insert-in-None : goal.returns-in_ok-insert-in-None
returns-in_ok-insert-in-None c =
    let entries = c.self.inside.newest.entries in
    let older = c.self.inside.older.items in
    let version : Version = record { place = c.args.place; key = c.args.key; row = c.args.row.now } in
    let absent : lookup (key_eq version.key) entries ≡ None =
    none-at (lookup (key_eq version.key) entries ≡ None) entries c.index_of-index.result c.index_of-index.ensures.absent c.in-None.ensures.value in
    let is : c.insert.new.self.entries ≡ entries ++ (version.key, dated_of version) ∷ [] =
    c.in_ok-insert-in-None.ensures.entries
    ∙ insert_entry-new key_eq c.self.inside.newest version.key (dated_of version) absent in
    let put = put-in older c.reserve.new.self.items older entries c.insert.new.self.entries _ c.args.self.now version c.self.view_is
    c.in_ok-reserve.ensures.items is (put-new older version entries absent (c.self.invariant.backed version.key absent)) in
    record { added = put.added; replacing = put.replacing; below = put.below; err = tt }

pub invariant_of-self-in-Some : goal.invariant_of-self-in-Some
invariant_of-self-in-Some c =
    let entries = c.self.inside.newest.entries in
    let older = c.self.inside.older.items in
    let version : Version = record { place = c.args.place; key = c.args.key; row = c.args.row.now } in
    let old = c.in-Some.newest.now in
    let index = c.index_of-index.result in
    let same : c.push_back_reserved.new.self.items ≡ older ++ replaced_by version old ∷ [] =
    c.push_back_reserved.ensures.items ∙ ap (λ (items : List Replaced). items ++ replaced_by version old ∷ []) c.in_ok-reserve.ensures.items in
    let at = entry-at version.key old entries index c.index_of-index.ensures.there c.in-Some.ensures.value in
    subst (λ (items : List Replaced). AreBacked items (set_value_at entries index (dated_of version))) (sym same)
    (backed-at older version old entries index c.self.invariant at)

pub returns-in-Some : goal.returns-in-Some
returns-in-Some c =
    let entries = c.self.inside.newest.entries in
    let older = c.self.inside.older.items in
    let version : Version = record { place = c.args.place; key = c.args.key; row = c.args.row.now } in
    let old = c.in-Some.newest.now in
    let index = c.index_of-index.result in
    let same : c.push_back_reserved.new.self.items ≡ older ++ replaced_by version old ∷ [] =
    c.push_back_reserved.ensures.items ∙ ap (λ (items : List Replaced). items ++ replaced_by version old ∷ []) c.in_ok-reserve.ensures.items in
    let at = entry-at version.key old entries index c.index_of-index.ensures.there c.in-Some.ensures.value in
    let put = put-in older c.push_back_reserved.new.self.items _ entries (set_value_at entries index (dated_of version)) _ c.args.self.now version
    c.self.view_is same refl (put-at older version old entries index c.self.invariant at) in
    record { added = put.added; replacing = put.replacing; below = put.below; err = tt }
