use Rattle.std.proofs.Common.{◌≡◌, ◌+◌, List, ◌∷◌, [], ◌++◌, filter, map, take, refl, sym, ◌∙◌, ap, arith}
use Rattle.std.proofs.lemmas.List.{take_more}
use Rattle.chains.specs.declared.version.Version.{Version}
use Rattle.chains.specs.declared.writes.Written.{Written}
use Rattle.chains.specs.Kept.{is_absent, written_by}
use Rattle.chains.proofs.Placed.{noted, noted-absent}
use Rattle.chains.proofs.writes.note_absent.Goals as goal

pub loop-version-preserved : goal.loop-version-preserved
loop-version-preserved c =
    let i = c.loop-version.version-index in
    let versions = c.args.versions.now in
    let version = c.version-item.result in
    let before = c.args.writes.now.items in
    let more : take (i + 1) versions ≡ take i versions ++ version ∷ [] =
    take_more versions i version c.loop-version-test.true ∙ ap (λ (v : Version). take i versions ++ v ∷ []) (sym c.version-item.is) in
    record {
      items =
          c.note_if_absent.ensures.items
          ∙ ap (λ (writes : List Written). noted (is_absent version) writes version) c.loop-version.invariant.items
          ∙ noted-absent before (take i versions) version (is_absent version) refl
          ∙ ap (λ (done : List Version). before ++ map written_by (filter is_absent done)) (sym more);
      room = omega (arith, c.note_if_absent.ensures.len, c.note_if_absent.ensures.capacity, c.loop-version.invariant.room, c.loop-version-test.true);
    }
