use Rattle.rule_readings.specs.declared.measure.Since.TheVariants.{Break, Rest}
use Rattle.rule_readings.specs.Histories.{day_in, IsMarkedIn}
use Rattle.rule_readings.proofs.CountLaws.{found_as, break_found, rest_found}
use Rattle.rule_readings.proofs.driving.base_since.Goals as goal

pub returns-in-Break-clause-found : goal.returns-in-Break-clause-found
returns-in-Break-clause-found c =
    let h = c.args.history.now in
    let p = h.padded.now in
    found_as c.args.since Break (day_in h) p (IsMarkedIn h) c.args.i c.last_break.result c.whole.result c.in-Break.is c.whole.ensures (break_found p c.args.i c.last_break.result c.last_break.ensures)

pub returns-in-Rest-clause-found : goal.returns-in-Rest-clause-found
returns-in-Rest-clause-found c =
    let h = c.args.history.now in
    let p = h.padded.now in
    let least = c.in-Rest.least in
    found_as c.args.since (Rest least) (day_in h) p (IsMarkedIn h) c.args.i c.last_end.result c.whole-in-Rest.result c.in-Rest.is c.whole-in-Rest.ensures (rest_found least p c.args.i c.last_end.result c.last_end.ensures)
