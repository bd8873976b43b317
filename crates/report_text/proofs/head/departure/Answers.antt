use Rattle.std.proofs.Common.{◌≤◌, length, ◌∙◌, sym, subst}
use Rattle.report_text.proofs.Departure.{departure_at, departure_within}
use Rattle.report_text.proofs.head.departure.Goals as goal

pub returns : goal.returns
returns c =
    let e = c.unwrap_or.ensures ∙ departure_at c.args.schedule.now c.first_progress.result c.first_progress.ensures in
    record { value = e; inside = subst (λ n. n ≤ length c.args.schedule.now) (sym e) (departure_within c.args.schedule.now) }
