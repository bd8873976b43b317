use Rattle.std.proofs.Common.{◌+◌, true, false, arith, subst, sym}
use Rattle.std.proofs.lemmas.Bool.{iff_false}
use Rattle.duty_core.specs.declared.params.Params.TheVariants.{Hvnl}
use Rattle.duty_core.specs.Params.{day_units}
use Rattle.rule_readings.proofs.AuNightLoop.{AreNightsYet, nights_none, nights_with, nights_without, nights_all, moved}
use Rattle.rule_readings.proofs.au_nights.nights_in.Goals as goal
use Rattle.rule_readings.proofs.au_nights.nights_in.Goals.{then-now, else-now}

pub loop-midnight-init : goal.loop-midnight-init
loop-midnight-init c =
    let n = c.next_midnight-midnight.ensures.near in
    record { yet = nights_none c.args.first c.requires.begins.units c.args.padded.now c.args.place c.args.units c.next_midnight-midnight.result c.requires.begins.whole c.next_midnight-midnight.ensures; near = omega arith }

pub loop-midnight-preserved : goal.loop-midnight-preserved
loop-midnight-preserved c =
    let f = c.requires.begins.whole in
    let y = c.loop-midnight.invariant.yet in
    let day = c.quarters_of_day-day.ensures in
    record {
      yet = elim c.if-now.branch [
        | then-now w ↦ moved c.args.first c.args.padded.now c.args.place c.args.units c.loop-midnight.midnight c.quarters_of_day-day.result c.if-now.broken c.if-now.consecutive true c.has_break-now.result day w.if-now.true
            (nights_with c.args.first c.requires.begins.units c.args.padded.now c.args.place c.args.units c.loop-midnight.midnight c.loop-midnight.broken c.if-now.broken c.loop-midnight.consecutive c.loop-midnight.last c.if-now.consecutive
            f c.loop-midnight-test.true (c.has_break-now.ensures.0 w.if-now.true) w.broken-is w.consecutive-is y)
        | else-now w ↦ moved c.args.first c.args.padded.now c.args.place c.args.units c.loop-midnight.midnight c.quarters_of_day-day.result c.if-now.broken c.if-now.consecutive false c.has_break-now.result day w.if-now.false
            (subst (λ b. AreNightsYet c.args.first c.args.padded.now c.args.place c.args.units (c.loop-midnight.midnight + day_units Hvnl) b c.if-now.consecutive false) (sym w.broken-is)
            (subst (λ b. AreNightsYet c.args.first c.args.padded.now c.args.place c.args.units (c.loop-midnight.midnight + day_units Hvnl) c.loop-midnight.broken b false) (sym w.consecutive-is)
            (nights_without c.args.first c.requires.begins.units c.args.padded.now c.args.place c.args.units c.loop-midnight.midnight c.loop-midnight.broken c.loop-midnight.consecutive c.loop-midnight.last
            f (iff_false c.has_break-now.ensures w.if-now.false) y)))
      ];
      near = omega arith;
    }

pub returns : goal.returns
returns c = nights_all c.args.first c.args.padded.now c.args.place c.args.units c.loop-midnight.midnight c.loop-midnight.broken c.loop-midnight.consecutive c.loop-midnight.last (omega arith) c.loop-midnight.invariant.yet
