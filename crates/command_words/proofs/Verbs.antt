-- What holds of each command's call.
use Rattle.std.proofs.Common.{◌≡◌, true, codes, is_some, refl}
use Rattle.clap.specs.Simple.{app_of}
use Rattle.clap.specs.Built.{IsParsedFrom}
use Rattle.clap.specs.Faults.{is_simple_and_free}
use Rattle.clap.specs.Matches.{first_value, found_of}
use Rattle.clap.specs.declared.builder.command.Command.{Command}
use Rattle.clap.specs.declared.parser.matches.ArgMatches.{ArgMatches}
use Rattle.command_words.specs.declared.calls.Verb.{Verb}
use Rattle.command_words.specs.declared.calls.Verb.TheVariants.{Plan, Check, Audit, Graph, Make}
use Rattle.command_words.specs.Calls.{call_of, plan_call, check_call, audit_call, graph_call, make_call}
use Rattle.command_words.proofs.CommandLines.{name_given}

pub simple_call : (v : Verb) → is_simple_and_free (call_of v) ≡ true
simple_call Plan = refl
simple_call Check = refl
simple_call Audit = refl
simple_call Graph = refl
simple_call Make = refl

-- each has a tour
pub tour_given : (v : Verb) (c : Command) (m : ArgMatches) → app_of c ≡ call_of v → IsParsedFrom c m → is_some (first_value (found_of m) (codes "tour")) ≡ true
tour_given Plan c m e p = name_given c plan_call m e refl p 0 (codes "tour") refl
tour_given Check c m e p = name_given c check_call m e refl p 0 (codes "tour") refl
tour_given Audit c m e p = name_given c audit_call m e refl p 0 (codes "tour") refl
tour_given Graph c m e p = name_given c graph_call m e refl p 0 (codes "tour") refl
tour_given Make c m e p = name_given c make_call m e refl p 1 (codes "tour") refl

-- and a log
pub log_given : (v : Verb) (c : Command) (m : ArgMatches) → app_of c ≡ call_of v → IsParsedFrom c m → is_some (first_value (found_of m) (codes "log")) ≡ true
log_given Plan c m e p = name_given c plan_call m e refl p 1 (codes "log") refl
log_given Check c m e p = name_given c check_call m e refl p 1 (codes "log") refl
log_given Audit c m e p = name_given c audit_call m e refl p 1 (codes "log") refl
log_given Graph c m e p = name_given c graph_call m e refl p 1 (codes "log") refl
log_given Make c m e p = name_given c make_call m e refl p 2 (codes "log") refl
