use Rattle.std.proofs.Common.{sym, subst}
use Rattle.cycles_deferral.specs.CycleRuns.{HasRoomFor}
use Rattle.canada_rules.specs.Laws.Stretch.{has_room_for}
use Rattle.canada_rules.proofs.book.CanadaBook.calendar_run.Goals as goal

-- minutes of duty fit in their day
pub run-requires-2-clause-room : goal.run-requires-2-clause-room
run-requires-2-clause-room c =
    let calendar = c.args.calendar.now in
    subst (λ b. HasRoomFor calendar.cycle c.args.act b c.args.n) (sym c.begins_day-new_day.ensures)
    (has_room_for c.args.self.now.day_start calendar.cycle c.args.at c.args.act c.args.n c.requires.inside c.requires.calendar.fits)
