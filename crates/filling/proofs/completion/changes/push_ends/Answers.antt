use Rattle.std.proofs.Common.{◌≡◌, ◌<◌, ◌+◌, ◌++◌, ◌∷◌, [], ℕ, true, List, length, map, take, ap, sym, ◌∙◌, subst, arith}
use Rattle.std.specs.Prelude.{All}
use Rattle.std.proofs.lemmas.List.{take_all, take_more}
use Rattle.std.proofs.lemmas.List.Elements.{All-get_or, All-push}
use Rattle.model_base.specs.declared.deed.Record.{Record}
use Rattle.model_base.specs.Privileges.{is_among}
use Rattle.model_base.specs.Records.{ended_at, in_force}
use Rattle.grants_base.specs.Book.{extended}
use Rattle.grants_base.specs.declared.entries.End.{End}
use Rattle.grants_base.proofs.Lookups.{ended_none}
use Rattle.filling.proofs.Changing.{ends_more}
use Rattle.filling.proofs.completion.changes.push_ends.Goals as goal

pub loop-name-init : goal.loop-name-init
loop-name-init c = record {
  ends = ended_none c.args.place (extended c.args.book.now [] c.args.grants.now c.args.ends.now.items).records;
  slots = λ all. all;
}

pub loop-name-preserved : goal.loop-name-preserved
loop-name-preserved c =
    let entries = c.args.book.now.records in
    let grants = c.args.grants.now in
    let ended = c.args.ended.now in
    let index = c.loop-name.name-index in
    let start : List Record = (extended c.args.book.now [] grants c.args.ends.now.items).records in
    let end : End = record { slot = c.slot_of-slot.result; place = c.args.place } in
    let Within : End → Type 0 = λ one. one.slot < length entries + length grants in
    let less : index < length ended = omega (arith, c.loop-name-test.true) in
    let name : ℕ = c.name-item.result in
    let among : is_among name (in_force start) ≡ true =
    subst (λ (r : ℕ). is_among r (in_force start) ≡ true) (sym c.name-item.is) (All-get_or (λ one. is_among one (in_force start) ≡ true) ended index name less c.requires.open) in
    let taken : take index ended ++ name ∷ [] ≡ take (index + 1) ended =
    ap (λ (r : ℕ). take index ended ++ r ∷ []) c.name-item.is ∙ sym (take_more ended index name less) in
    let more = ends_more entries grants c.args.ends.now.items c.loop-name.ends.items c.push.new.self.items c.args.place (take index ended) name c.slot_of-slot.result
    c.requires.rising among c.slot_of-slot.ensures c.loop-name.invariant.ends c.in_ok-push.ensures.items in
    record {
      ends = more.0 ∙ ap (λ (rs : List ℕ). map (ended_at c.args.place rs) start) taken;
      slots = λ all. subst (All Within) (sym c.in_ok-push.ensures.items) (All-push Within c.loop-name.ends.items end (c.loop-name.invariant.slots all) more.1);
    }

pub returns : goal.returns
returns c =
    let start : List Record = (extended c.args.book.now [] c.args.grants.now c.args.ends.now.items).records in
    record {
      ends = c.loop-name.invariant.ends ∙ ap (λ (rs : List ℕ). map (ended_at c.args.place rs) start) (take_all c.loop-name.name-index c.args.ended.now c.loop-name-test.false);
      slots = c.loop-name.invariant.slots;
    }
