use Rattle.std.proofs.Common.{◌≡◌, ◌++◌, ◌∷◌, [], false, slice_get, take, List, ℕ, Some, ap, ◌∙◌, subst}
use Rattle.sequencer.specs.Names.{is_known}
use Rattle.sequencer.specs.Catalog.{Names}
use Rattle.sequencer.proofs.Learned.{learned_name, learned_number, learned_table}
use Rattle.sequencer.proofs.catalog.Catalog.learn_table.Goals as goal

pub returns-clause-ok : goal.returns-clause-ok
returns-clause-ok c =
    let later : Names = c.args.later.now in
    let table : ℕ = c.args.table in
    let is = c.self.view_is in
    let first = is ∙ c.requires.next in
    let seen : c.later.inside.tables ≡ later.tables = ap (λ (names : Names). names.tables) c.later.view_is in
    let name : List ℕ = c.new_name.result.now in
    learned_table c.args.self.now later _ c.self.inside.users c.add.new.self c.push_reserved.new.self.items c.push_reserved-2.new.self.items
    c.self.inside.places c.self.inside.version (ap (λ (names : Names). names.users) is)
    (learned_name c.self.inside.tables later.tables c.add.new.self table name (ap (λ (names : Names). names.tables) first)
    (subst (λ (tables : List (List ℕ)). slice_get tables table ≡ Some name) seen (rw c.table.view_is at c.new_name.ensures.name))
    (subst (λ (tables : List (List ℕ)). is_known (take table tables) name ≡ false) seen (rw c.table.view_is at c.new_name.ensures.is_new))
    c.in_ok-add.ensures.added)
    (learned_number c.self.inside.owners.items later.owners c.push_reserved.new.self.items table c.owner.result
    (ap (λ (names : Names). names.owners) first) c.owner.ensures
    (c.push_reserved.ensures.items ∙ ap (λ (numbers : List ℕ). numbers ++ c.owner.result ∷ []) c.reserve.ensures.items))
    (learned_number c.self.inside.columns.items later.columns c.push_reserved-2.new.self.items table c.columns.result
    (ap (λ (names : Names). names.columns) first) c.columns.ensures.value
    (c.push_reserved-2.ensures.items ∙ ap (λ (numbers : List ℕ). numbers ++ c.columns.result ∷ []) c.reserve-2.ensures.items))
    (ap (λ (names : Names). names.places) is) (ap (λ (names : Names). names.version) is)
