use Rattle.std.proofs.Common.{Some, None, sym, ◌∙◌, append-nil}
use Rattle.tour_reader.proofs.RoundingFacts.{windows_more}
use Rattle.tour_reader.proofs.rounding.windows_of.Goals as goal
use Rattle.tour_reader.proofs.rounding.windows_of.Goals.{in-Some+in_ok-push, in_default}

pub loop-span-preserved : goal.loop-span-preserved
loop-span-preserved c =
    elim c.match-window_of.branch [
      | in-Some+in_ok-push w ↦ windows_more c.args.grid c.args.start c.args.spans.now c.loop-span.span-index _ c.loop-span.windows c.match-window_of.windows (Some w.in-Some.window) c.loop-span-test.true w.in-Some.ensures c.loop-span.invariant (w.windows-is ∙ w.in_ok-push.ensures.ok)
      | in_default w ↦ windows_more c.args.grid c.args.start c.args.spans.now c.loop-span.span-index _ c.loop-span.windows c.match-window_of.windows None c.loop-span-test.true (sym w.in_default.is ∙ c.window_of.ensures) c.loop-span.invariant (w.windows-is ∙ sym (append-nil c.loop-span.windows))
    ]
