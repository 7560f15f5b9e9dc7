-- What an error of the words is given as, and what words that are taken name.
use Rattle.std.proofs.Common.{◌≡◌, ◌&&◌, Bool, true, false, not, List, Option, Some, None, refl, ap, sym, ◌∙◌, codes, inl, inr}
use Rattle.std.specs.Prelude.{Box, option_map}
use Rattle.std.specs.Box.{box_value}
use Rattle.clap.specs.Words.{app_of, HasKind, Kinds, Row, Text, first_of, kind_of, subcommand_name_of, subcommand_rows, subcommand_rows_of}
use Rattle.clap.specs.declared.parser.matches.ArgMatches.{ArgMatches}
use Rattle.clap.specs.declared.parser.matches.ArgMatches.TheViews.{out-ArgMatches, out-SubCommand}
use Rattle.clap.specs.declared.parser.matches.SubCommand.{SubCommand}
use Rattle.clap.specs.declared.builder.command.Command.{Command}
use Rattle.clap.specs.declared.builder.command.Command.TheViews.{out-Command}
use Rattle.clap.specs.declared.error.Error.{Error}
use Rattle.clap.specs.declared.error.kind.ErrorKind.{ErrorKind}
use Rattle.command_line.specs.declared.command_words.Usage.{Usage}
use Rattle.command_line.specs.declared.command_words.Verb.{Verb}
use Rattle.command_line.specs.Words.{Asked, TellsError, TellsOneOf, asked_by, asked_in, path_named, verb_in, verb_named}

-- an error is given as one of the kinds that it may have, or as out of memory
pub told : (kinds : Kinds) (error : Error) (usage : Usage) → HasKind kinds error
    → (kind_of error ≡ ErrorKind.OutOfMemory → usage ≡ Usage.NoMemory) → TellsError usage (kind_of error) → TellsOneOf kinds usage
told kinds error usage has memory tells =
    elim has [
      | inl out ↦ inl (memory out)
      | inr among ↦ inr (kind_of error, (among, tells))
    ]

-- the name of what was entered
names_same : {Z : Type 0} (o : Option (Box SubCommand Z)) → option_map (λ b. (out-SubCommand (box_value b)).name.now) o ≡ option_map (λ p. p.0) (subcommand_rows o)
names_same None = refl
names_same (Some b) = refl

both : (o : Option (Text × List Row)) (name : Text) (rows : List Row) → Some name ≡ option_map (λ p. p.0) o → Some rows ≡ option_map (λ p. p.1) o → o ≡ Some (name, rows)
both None name rows n r = cc
both (Some p) name rows n r =
    let first : name ≡ p.0 = cc in
    let second : rows ≡ p.1 = cc in
    ap (λ (t : Text). Some (t, p.1)) (sym first) ∙ ap (λ (rs : List Row). Some (name, rs)) (sym second)

-- what was entered, by its name and its rows
pub entered : (matches : ArgMatches) (name : Text) (rows : List Row) → Some name ≡ subcommand_name_of matches → Some rows ≡ option_map (λ p. p.1) (subcommand_rows_of matches)
    → subcommand_rows_of matches ≡ Some (name, rows)
entered matches name rows n r = both (subcommand_rows_of matches) name rows (n ∙ names_same (out-ArgMatches matches).subcommand) r

-- what the words of a subcommand ask for, by the subcommand that its name is and the path that its word FILE names
pub asks_as : (given : Option (Text × List Row)) (name : Text) (rows : List Row) (verb : Verb) (path : Option Text) (found : Option Asked) → given ≡ Some (name, rows)
    → verb ≡ verb_named name → path ≡ path_named (first_of (codes "FILE") rows) → found ≡ asked_by verb path rows → found ≡ asked_in given
asks_as given name rows verb path found is named file so =
    so ∙ ap (λ (v : Verb). asked_by v path rows) named ∙ ap (λ (p : Option Text). asked_by (verb_named name) p rows) file ∙ ap asked_in (sym is)

-- and the subcommand
pub verb_as : (given : Option (Text × List Row)) (name : Text) (rows : List Row) (verb : Verb) → given ≡ Some (name, rows) → verb ≡ verb_named name → verb ≡ verb_in given
verb_as given name rows verb is named = named ∙ ap verb_in (sym is)

-- the parts of a test that passes
first_part : (a b : Bool) → (a && b) ≡ true → a ≡ true
first_part true b h = refl
first_part false b h = h

second_part : (a b : Bool) → (a && b) ≡ true → b ≡ true
second_part true b h = h
second_part false b h = cc

denied : (b : Bool) → not b ≡ true → b ≡ false
denied false h = refl
denied true h = cc

-- a command whose words are plain has no argument for all its subcommands
pub plain_is_local : (c : Command) → (app_of c).top.is_plain ≡ true → (out-Command c).has_globals ≡ false
plain_is_local c h = denied _ (first_part _ _ (second_part _ _ (second_part _ _ h)))
