use Rattle.std.proofs.Common.{◌+◌, length, arith, sym, ◌∙◌}
use Rattle.duty_core.specs.declared.activity.Activity.TheVariants.{Drive}
use Rattle.timeline.specs.Kinds.{test_of}
use Rattle.timeline.specs.Runs.{spread}
use Rattle.timeline.specs.declared.run.Run.{Run}
use Rattle.timeline.proofs.Count.{count_more_yes, count_more_no, count_small}
use Rattle.timeline.proofs.runs.count.Goals as goal
use Rattle.timeline.proofs.runs.count.Goals.{then-has, else-has}

pub overflow_add-total : goal.overflow_add-total
overflow_add-total c =
    let runs = c.args.runs.now in
    let d : Run = record { act = Drive; from = 0; to = 0 } in
    let more = count_more_yes (test_of c.args.kind) runs (length (spread runs)) c.loop-run.run-index c.args.from c.args.to d c.requires.runs.joined c.loop-run-test.true c.requires.order (sym c.has.ensures ∙ c.if-has.true) in
    omega (arith, more, c.loop-run.invariant, count_small (test_of c.args.kind) runs (c.loop-run.run-index + 1) c.args.from c.args.to)

pub loop-run-preserved : goal.loop-run-preserved
loop-run-preserved c =
    let runs = c.args.runs.now in
    let d : Run = record { act = Drive; from = 0; to = 0 } in
    elim c.if-has.branch [
      | then-has w ↦
          let more = count_more_yes (test_of c.args.kind) runs (length (spread runs)) c.loop-run.run-index c.args.from c.args.to d c.requires.runs.joined c.loop-run-test.true c.requires.order (sym c.has.ensures ∙ w.if-has.true) in
          omega (arith, more, c.loop-run.invariant)
      | else-has w ↦
          let same = count_more_no (test_of c.args.kind) runs c.loop-run.run-index c.args.from c.args.to d c.loop-run-test.true (sym c.has.ensures ∙ w.if-has.false) in
          omega (arith, same, c.loop-run.invariant)
    ]
