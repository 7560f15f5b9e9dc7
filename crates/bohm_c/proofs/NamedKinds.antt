-- A word that names a kind is text.
use Rattle.std.proofs.Common.{◌≡◌, IsUtf8, List, None, Option, Some, refl, subst, sym, ℕ}
use Rattle.std.specs.Prelude.{codes}
use Rattle.model_base.specs.declared.deed.Kind.{Kind}
use Rattle.model_base.specs.declared.deed.Kind.TheVariants.{Delete, Insert, Read, Update}
use Rattle.log_text.specs.Fault.{kind_named}
use Rattle.log_text.specs.Statement.{kind_word}
use Rattle.log_text.proofs.KindWords.{named_kind}

word_text : (kind : Kind) → IsUtf8 (kind_word kind)
unfolding lib.Utf8.encode
word_text Read = (codes "READ", (refl, refl))
word_text Insert = (codes "INSERT", (refl, refl))
word_text Update = (codes "UPDATE", (refl, refl))
word_text Delete = (codes "DELETE", (refl, refl))

named : (word : List ℕ) (found : Option Kind) → kind_named word ≡ found → (IsUtf8 word → ⊥) → None ≡ found
named word None is other = refl
named word (Some kind) is other = absurd (other (subst IsUtf8 (sym (named_kind word kind is).0) (word_text kind)))

-- bytes that aren't text name none
pub no_kind : (word : List ℕ) → (IsUtf8 word → ⊥) → None ≡ kind_named word
no_kind word other = named word (kind_named word) refl other
