-- The command `rsvpd VERB [--seed N]`, as clap has it.
use Rattle.std.specs.Prelude.{true, List, Option, Some, codes}
use Rattle.clap.specs.Words.{App, Kinds, Rule, Text, fault_of, first_of, matches_of, new_app, new_rule, with_rule}
use Rattle.clap.specs.declared.builder.action.ArgAction.TheVariants.{Set}

-- the verb: required, and found by its place
abbrev pub verb : Rule
verb = record (new_rule (codes "verb")) { required = true; action = Some Set }

-- the seed: an option with one value
abbrev pub seed : Rule
seed = record (new_rule (codes "seed")) { long = Some (codes "seed"); action = Some Set }

-- a command of this name, without flags for help and version
abbrev pub without_flags : App → App
without_flags a = record a { top = record a.top { disable_help_flag = true; disable_version_flag = true } }

abbrev pub rsvpd : App
rsvpd = with_rule (with_rule (without_flags (new_app (codes "rsvpd"))) verb) seed

-- the kinds of error that the command gives at a line, which begins with the program's name; it has matches where there
-- is none
unfoldable pub faults_at : List Text → Kinds
faults_at line = fault_of rsvpd line

-- the first value of an argument at a line where the command has matches
unfoldable pub value_at : Text → List Text → Option Text
value_at id line = first_of id (matches_of rsvpd line)
