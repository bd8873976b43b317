use Rattle.std.proofs.Common.{◌≡◌, ℕ, true, List, Result, Ok, Err, sym, subst}
use Rattle.duty_core.specs.declared.activity.Activity.{Activity}
use Rattle.duty_core.specs.declared.params.Params.{Params}
use Rattle.duty_core.specs.declared.params.Params.TheVariants.{UsProperty}
use Rattle.duty_log.specs.declared.fault.LogFault.{LogFault}
use Rattle.duty_log.specs.Log.{ReadsLog}
use Rattle.duty_log.specs.Laws.LogLaws.{one_log}
use Rattle.report_text.specs.Made.{log_made}
use Rattle.made_tours.specs.Drawn.{log_drawn}
use Rattle.made_tours.proofs.LogTexts.{log_says}
use Rattle.made_tours.proofs.made.log_said.Goals as goal

-- the text, for these parameters and this start, says the week's log and no other
one_answer : (text : List ℕ) (params : Params) (start : ℕ) (answer : Result (List Activity) LogFault) → text ≡ log_made → params ≡ UsProperty true 8 0 → start ≡ 13_762_440 → ReadsLog text params start answer → answer ≡ Ok log_drawn
one_answer text params start answer e f g reads =
    let said : ReadsLog text params start (Ok log_drawn) =
    subst (λ t. ReadsLog t params start (Ok log_drawn)) (sym e) (subst (λ p. ReadsLog log_made p start (Ok log_drawn)) (sym f) (subst (λ s. ReadsLog log_made (UsProperty true 8 0) s (Ok log_drawn)) (sym g) log_says)) in
    one_log text params start answer (Ok log_drawn) reads said

pub returns-in-Ok-clause-drawn : goal.returns-in-Ok-clause-drawn
returns-in-Ok-clause-drawn c =
    let same : Ok c.in-Ok.log ≡ Ok log_drawn = one_answer c.args.text.now c.args.tour.now.params c.args.tour.now.start (Ok c.in-Ok.log) c.requires.text c.requires.params c.requires.start c.in-Ok.ensures.log in
    cc

pub no_log_memory-requires : goal.no_log_memory-requires
no_log_memory-requires c = λ other.
    (let same : Err c.in-Err.fault ≡ Ok log_drawn = one_answer c.args.text.now c.args.tour.now.params c.args.tour.now.start (Err c.in-Err.fault) c.requires.text c.requires.params c.requires.start (c.in-Err.ensures.fault other) in
    cc)
