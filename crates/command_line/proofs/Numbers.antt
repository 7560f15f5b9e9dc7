-- A number that is read from a text, against its limits, and from the matches of a command.
use Rattle.std.proofs.Common.{◌≡◌, ◌≤◌, ℕ, Bool, true, false, Option, Some, None, Ok, Err, refl, ap, codes, ◌∙◌}
use Rattle.std.specs.Prelude.{bytes_eq, option_and_then}
use Rattle.std.specs.Option.{option_map_or}
use Rattle.std.specs.Str.Parse.{ParsesUnsigned}
use Rattle.clap.specs.ValueTests.{is_unsigned_in}
use Rattle.clap.specs.Words.{Text, first_value, rows_of}
use Rattle.clap.specs.declared.builder.value_parser.ValueParser.TheVariants as vp
use Rattle.clap.specs.declared.parser.matches.Found.{Found}
use Rattle.clap.proofs.ValueTestLemmas.{Accepts-accepts, accepts-Accepts}
use Rattle.clap.proofs.WalkLemmas.{first_value-rows}
use Rattle.command_line.specs.Options.{has_flag, number_among, number_within}

-- a number within the limits
pub read_within : (least most : ℕ) (text : Text) (n : ℕ) → ParsesUnsigned {E = ℕ} 64 10 text (Ok n) → least ≤ n → n ≤ most
    → Some n ≡ number_within least most text
read_within least most text n h low high =
    let passes : is_unsigned_in least most text ≡ true =
    Accepts-accepts false (vp.Unsigned least most) text (h.0.0, h.0.1, rw h.1 at low, rw h.1 at high) in
    rw passes (ap (λ (m : ℕ). Some m) h.1)

-- a text that is no number
pub read_none : (E : Type 0) (least most : ℕ) (text : Text) (e : E) → ParsesUnsigned {E = E} 64 10 text (Err e) → None ≡ number_within least most text
read_none E least most text e h = go (is_unsigned_in least most text) refl
  where
    go : (b : Bool) → is_unsigned_in least most text ≡ b → None ≡ number_within least most text
    go true t =
        let p = accepts-Accepts false (vp.Unsigned least most) text t in
        absurd (h (p.0, p.1))
    go false t = rw t refl

-- the number of an option that has a value
pub among_some : (f : Found) (name : Text) (least most : ℕ) (text : Text) → Some text ≡ first_value f name
    → number_within least most text ≡ number_among name least most (rows_of f)
among_some f name least most text is = ap (option_and_then (number_within least most)) (is ∙ first_value-rows f name)

-- and of one that has none
pub among_none : (f : Found) (name : Text) (least most : ℕ) → None ≡ first_value f name → None ≡ number_among name least most (rows_of f)
among_none f name least most is = ap (option_and_then (number_within least most)) (is ∙ first_value-rows f name)

-- a flag that has a text
pub flag_some : (f : Found) (name text : Text) → Some text ≡ first_value f name → bytes_eq text (codes "true") ≡ has_flag name (rows_of f)
flag_some f name text is = ap (λ (o : Option Text). option_map_or (λ t. bytes_eq t (codes "true")) o false) (is ∙ first_value-rows f name)

-- and one that has none
pub flag_none : (f : Found) (name : Text) → None ≡ first_value f name → false ≡ has_flag name (rows_of f)
flag_none f name is = ap (λ (o : Option Text). option_map_or (λ t. bytes_eq t (codes "true")) o false) (is ∙ first_value-rows f name)
