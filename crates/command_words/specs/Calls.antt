-- What `clap` is told of each command: its name and its arguments.
use Rattle.std.specs.Prelude.{ℕ, List, [], ◌∷◌, Some, true, codes}
use Rattle.clap.specs.Walk.{Rule, Text}
use Rattle.clap.specs.Simple.{App, new_rule, new_shape}
use Rattle.clap.specs.declared.builder.action.ArgAction.TheVariants.{Set}
use Rattle.clap.specs.declared.builder.value_parser.ValueParser.TheVariants.{Unsigned}
use Rattle.command_words.specs.declared.calls.Verb.{Verb}
use Rattle.command_words.specs.declared.calls.Verb.TheVariants.{Plan, Check, Audit, Graph, Make}
use Rattle.cert_text.specs.declared.text.limits.TheConstants.{MOST_LABELS}
use Rattle.report_text.specs.declared.maker.TheConstants.{MOST_MADE}

-- a word that has to be there, in its place
abbrev pub place : Text → Rule
place id = record (new_rule id) { action = Some Set; required = true }

-- the same, a number up to the most that it may be
abbrev pub number_place : Text → ℕ → Rule
number_place id most = record (place id) { parser = Some (Unsigned 0 most) }

-- `--budget` with one value, a number from 1 on, which is the usual budget where the option is not used
abbrev pub budget_option : Rule
budget_option = record (new_rule (codes "budget")) {
  long = Some (codes "budget");
  action = Some Set;
  parser = Some (Unsigned 1 MOST_LABELS);
  defaults = codes "200000" ∷ [];
}

-- a command of this name with these arguments alone: it has no flag for help or a version
abbrev pub call : Text → List Rule → App
call name rules = record {
  top = record (new_shape name) { rules = rules; disable_help_flag = true; disable_version_flag = true };
  subs = [];
}

abbrev pub plan_call : App
plan_call = call (codes "plan") (place (codes "tour") ∷ place (codes "log") ∷ place (codes "cert") ∷ budget_option ∷ [])

abbrev pub check_call : App
check_call = call (codes "check") (place (codes "tour") ∷ place (codes "log") ∷ place (codes "cert") ∷ [])

abbrev pub audit_call : App
audit_call = call (codes "audit") (place (codes "tour") ∷ place (codes "log") ∷ [])

abbrev pub graph_call : App
graph_call = call (codes "graph") (place (codes "tour") ∷ place (codes "log") ∷ [])

abbrev pub make_call : App
make_call = call (codes "make") (number_place (codes "number") MOST_MADE ∷ place (codes "tour") ∷ place (codes "log") ∷ [])

-- what `clap` is told of the command of this name
abbrev pub call_of : Verb → App
call_of Plan = plan_call
call_of Check = check_call
call_of Audit = audit_call
call_of Graph = graph_call
call_of Make = make_call

abbrev pub calls : List App
calls = plan_call ∷ check_call ∷ audit_call ∷ graph_call ∷ make_call ∷ []
