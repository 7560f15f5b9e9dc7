-- Records that are indexed: none, and the same ones by indexes that have the same.
use Rattle.std.proofs.Common.{◌≡◌, ◌∙◌, ℕ, List, [], Option, None, sym, subst}
use Rattle.model_base.specs.declared.deed.Record.{Record}
use Rattle.grants_base.specs.InForce.{KeepsInForce, made_under}
use Rattle.grants_base.specs.Marks.{AreIndexed}
use Rattle.grants_base.specs.Sides.{IsEmpty, IsSame, side_of, slots_under}
use Rattle.grants_base.specs.declared.in_force.GranteeIndex.{GranteeIndex}
use Rattle.grants_base.specs.declared.index.Index.{Index}

pub indexed_none : (entries : List Record) (by : Index) (in_force : GranteeIndex) → entries ≡ [] → IsEmpty (made_under in_force) → IsEmpty (slots_under by)
    → KeepsInForce in_force [] → AreIndexed entries by None in_force
indexed_none entries by in_force none no-to no-by keeps =
    subst (λ (es : List Record). AreIndexed es by None in_force) (sym none)
    (record {
      grantees = λ holder kind table. no-to (side_of holder kind table);
      grantors = λ holder kind table. no-by (side_of holder kind table);
      last = λ slot place entry is end. absurd (cc);
      kept = keeps;
    })

pub indexed_same : (entries now : List Record) (by by-now : Index) (last : Option ℕ) (in_force in_force-now : GranteeIndex) → AreIndexed entries by last in_force
    → now ≡ entries → IsSame (made_under in_force) (made_under in_force-now) → IsSame (slots_under by) (slots_under by-now)
    → ((es : List Record) → KeepsInForce in_force es → KeepsInForce in_force-now es) → AreIndexed now by-now last in_force-now
indexed_same entries now by by-now last in_force in_force-now are same same-to same-by keeps =
    subst (λ (es : List Record). AreIndexed es by-now last in_force-now) (sym same)
    (record {
      grantees = λ holder kind table. same-to (side_of holder kind table) ∙ are.grantees holder kind table;
      grantors = λ holder kind table. same-by (side_of holder kind table) ∙ are.grantors holder kind table;
      last = are.last;
      kept = keeps entries are.kept;
    })
