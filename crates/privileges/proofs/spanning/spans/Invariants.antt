use Rattle.std.proofs.Common.{◌<◌, ◌≡◌, ◌≤◌, ◌&&◌, ℕ, Some, take}
use Rattle.std.specs.Prelude.{All, slice_get}
use Rattle.std.specs.List.{list_any}
use Rattle.model_base.specs.declared.deed.Record.{Record}
use Rattle.model_base.specs.Privileges.{gives}
use Rattle.privileges.specs.declared.spanning.Span.{Span}
use Rattle.privileges.specs.Joining.{span_of}
use Rattle.privileges.specs.Spans.{AreSeparate, is_within}
use Rattle.privileges.proofs.spanning.spans.Given as goal

-- the spans are those of the records so far, and none begins above the records to come
abbrev pub invariant-loop-record : goal.invariant-loop-record
invariant-loop-record l = record {
  apart : AreSeparate l.found.items;
  later :
      (k : ℕ) (entry : Record) → l.record-index ≤ k → slice_get l.book.records k ≡ Some entry
      → All (λ (span : Span). span.from ≤ entry.grant.place) l.found.items;
  begun :
      (place : ℕ) → All (λ (entry : Record). entry.grant.place < place) l.book.records
      → All (λ (span : Span). span.from < place) l.found.items;
  tells :
      (place : ℕ) → list_any (is_within place) l.found.items
      ≡ list_any (λ (entry : Record). is_within place (span_of entry) && gives entry.grant l.user l.need) (take l.record-index l.book.records);
}
