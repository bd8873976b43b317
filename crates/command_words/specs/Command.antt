-- The command lines of the planner: which words ask for which command.
use Rattle.std.specs.Prelude.{◌≡◌, ◌≤◌, ℕ, List, [], Some, All, codes, slice_get}
use Rattle.std.specs.Str.Parse.{digits_value, without_leading_plus}
use Rattle.clap.specs.Walk.{Text, first_of}
use Rattle.clap.specs.Values.{IsUnsignedIn}
use Rattle.clap.specs.Simple.{App, matches_of}
use Rattle.clap.specs.Faults.{fault_of}
use Rattle.outside.specs.Outside.{Bytes}
use Rattle.cert_text.specs.declared.text.limits.TheConstants.{MOST_LABELS}
use Rattle.command_words.specs.declared.command.Command.{Command}
use Rattle.command_words.specs.declared.command.Command.TheVariants.{Plan, Check, Audit, Graph, Make}
use Rattle.report_text.specs.declared.maker.TheConstants.{MOST_MADE}
use Rattle.command_words.specs.Calls.{plan_call, check_call, audit_call, graph_call, make_call, calls}

-- The first word is the command's name, and `clap` finds no fault with the words after it.
abbrev pub Takes : App → List Bytes → Type 0
Takes call words = (slice_get words 0 ≡ Some call.top.name) × (fault_of call words ≡ [])

-- `clap` finds this word for the argument.
abbrev pub HasWord : App → List Bytes → Text → Bytes → Type 0
HasWord call words id word = first_of id (matches_of call words) ≡ Some word

-- The text is read as this number, which lies in the bounds: decimal digits after at most one sign of plus.
abbrev pub IsNumber : Bytes → ℕ → ℕ → ℕ → Type 0
IsNumber text least most number = IsUnsignedIn least most text × (number ≡ digits_value 10 (without_leading_plus text))

-- `clap` finds a text of this number for the argument.
abbrev pub HasNumber : App → List Bytes → Text → ℕ → ℕ → ℕ → Type 0
HasNumber call words id least most number = (text : Bytes) × HasWord call words id text × IsNumber text least most number

-- The words ask for this command.
abbrev pub IsCommandLine : List Bytes → Command → Type 0
IsCommandLine words (Plan tour log cert budget) = Takes plan_call words
    × HasWord plan_call words (codes "tour") tour × HasWord plan_call words (codes "log") log
    × HasWord plan_call words (codes "cert") cert × HasNumber plan_call words (codes "budget") 1 MOST_LABELS budget
IsCommandLine words (Check tour log cert) = Takes check_call words
    × HasWord check_call words (codes "tour") tour × HasWord check_call words (codes "log") log
    × HasWord check_call words (codes "cert") cert
IsCommandLine words (Audit tour log) = Takes audit_call words
    × HasWord audit_call words (codes "tour") tour × HasWord audit_call words (codes "log") log
IsCommandLine words (Graph tour log) = Takes graph_call words
    × HasWord graph_call words (codes "tour") tour × HasWord graph_call words (codes "log") log
IsCommandLine words (Make number tour log) = Takes make_call words
    × HasNumber make_call words (codes "number") 0 MOST_MADE number
    × HasWord make_call words (codes "tour") tour × HasWord make_call words (codes "log") log

-- The words ask for no command.
abbrev pub IsNoCommandLine : List Bytes → Type 0
IsNoCommandLine words = (command : Command) → IsCommandLine words command → ⊥

-- No command has the first word for its name and takes the words after it.
abbrev pub AreRefused : List Bytes → Type 0
AreRefused words = All (λ call. Takes call words → ⊥) calls

-- The numbers of a command are such as may be given.
abbrev pub HasBudget : Command → Type 0
HasBudget (Plan tour log cert budget) = (1 ≤ budget) × (budget ≤ MOST_LABELS)
HasBudget (Make number tour log) = number ≤ MOST_MADE
HasBudget (Check tour log cert) = Unit {0}
HasBudget (Audit tour log) = Unit {0}
HasBudget (Graph tour log) = Unit {0}
