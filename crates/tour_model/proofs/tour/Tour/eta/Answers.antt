use Rattle.std.proofs.Common.{arith, ◌≡◌, ◌+◌, ◌-◌, drop, length, sym, ◌∙◌, ap, refl, subst}
use Rattle.std.specs.Prelude.{IfNone}
use Rattle.tour_model.specs.Word.{word_from, windows_at}
use Rattle.tour_model.specs.Way.{HasNoWay}
use Rattle.tour_model.specs.Eta.{end_after, eta_of}
use Rattle.tour_model.specs.Laws.EtaLaws.{eta_earliest, eta_none}
use Rattle.tour_model.specs.Laws.ServeLaws.{numbered}
use Rattle.tour_model.specs.Stop.{leaves_at}
use Rattle.tour_model.proofs.StopLaws.{stop_here, stop_of, leaves_soon}
use Rattle.tour_model.proofs.LeaveLaws.{end_now, end_later, numbers_later, end_over, end_never, end_then}
use Rattle.tour_model.proofs.tour.Tour.eta.Goals as goal
use Rattle.tour_model.proofs.tour.Tour.eta.Goals.{then-left-work+in_ok-at, else-left-work}

pub loop-stop-init : goal.loop-stop-init
unfolding eta_of
loop-stop-init c = let s = c.requires.step in record {
  all = c.items-stop-items.ensures;
  small = omega arith;
  numbers = numbered c.args.self.now.stops;
  end_left = refl;
}

pub returns-in_err-at-clause-value : goal.returns-in_err-at-clause-value
returns-in_err-at-clause-value c =
    let w = c.work-work.ensures in
    let is = stop_of c.args.self.now c.requires.tour c.items-stop-items.result.now c.loop-stop.stop-index c.stop-item.result c.loop-stop.invariant.all (omega arith) c.stop-item.is in
    c.from_residual.ensures
    ∙ sym (end_never (windows_at c.args.self.now.stops) (word_from (c.loop-stop.stop-index + 1) (drop (c.loop-stop.stop-index + 1) c.args.self.now.stops)) (leaves_at c.stop-item.result c.loop-stop.at c.loop-stop.left) (eta_of c.args.self.now c.args.step c.args.progress)
    (end_now (windows_at c.args.self.now.stops) (drop c.loop-stop.stop-index c.args.self.now.stops) (drop (c.loop-stop.stop-index + 1) c.args.self.now.stops) c.stop-item.result c.loop-stop.stop-index c.loop-stop.at c.loop-stop.left (eta_of c.args.self.now c.args.step c.args.progress)
    (stop_here c.items-stop-items.result.now c.args.self.now.stops c.loop-stop.stop-index c.stop-item.result c.loop-stop.invariant.all (omega arith) c.stop-item.is)
    c.loop-stop.invariant.numbers is.0.some_service c.loop-stop.invariant.end_left (omega arith))
    (sym c.in_err-at.ensures))

pub returns-in_err-at-clause-none : goal.returns-in_err-at-clause-none
returns-in_err-at-clause-none c =
    subst (λ o. IfNone o (HasNoWay c.args.self.now c.args.step c.args.progress)) (sym c.from_residual.ensures)
    (eta_none c.args.self.now c.args.step c.args.progress (sym (returns-in_err-at-clause-value c) ∙ c.from_residual.ensures))

pub loop-stop-preserved : goal.loop-stop-preserved
loop-stop-preserved c =
    let work = c.work-work.ensures in
    let is = stop_of c.args.self.now c.requires.tour c.items-stop-items.result.now c.loop-stop.stop-index c.stop-item.result c.loop-stop.invariant.all (omega arith) c.stop-item.is in
    let here = stop_here c.items-stop-items.result.now c.args.self.now.stops c.loop-stop.stop-index c.stop-item.result c.loop-stop.invariant.all (omega arith) c.stop-item.is in
    let numbers = numbers_later (windows_at c.args.self.now.stops) (drop c.loop-stop.stop-index c.args.self.now.stops) (drop (c.loop-stop.stop-index + 1) c.args.self.now.stops) c.stop-item.result c.loop-stop.stop-index here c.loop-stop.invariant.numbers in
    let small = c.loop-stop.invariant.small in
    elim c.if-left-work.branch [
      | then-left-work+in_ok-at w ↦ (
          let before = w.if-left-work.true in
          let left_then = sym w.in_ok-at.ensures in
          let soon = leaves_soon c.stop-item.result c.loop-stop.at c.loop-stop.left w.in_ok-at.at is.1 left_then in
          let at = w.at-is in
          record {
            all = c.loop-stop.invariant.all;
            small = omega arith;
            numbers = numbers;
            end_left =
                end_then (windows_at c.args.self.now.stops) (word_from (c.loop-stop.stop-index + 1) (drop (c.loop-stop.stop-index + 1) c.args.self.now.stops)) w.in_ok-at.at (leaves_at c.stop-item.result c.loop-stop.at c.loop-stop.left) (eta_of c.args.self.now c.args.step c.args.progress)
                (end_now (windows_at c.args.self.now.stops) (drop c.loop-stop.stop-index c.args.self.now.stops) (drop (c.loop-stop.stop-index + 1) c.args.self.now.stops) c.stop-item.result c.loop-stop.stop-index c.loop-stop.at c.loop-stop.left (eta_of c.args.self.now c.args.step c.args.progress) here c.loop-stop.invariant.numbers is.0.some_service c.loop-stop.invariant.end_left (omega arith))
                left_then
                ∙ (ap (λ n. end_after (windows_at c.args.self.now.stops) n (word_from (c.loop-stop.stop-index + 1) (drop (c.loop-stop.stop-index + 1) c.args.self.now.stops))) (sym w.at-is)
                ∙ ap (λ n. end_after (windows_at c.args.self.now.stops) c.if-left-work.at (drop n (word_from (c.loop-stop.stop-index + 1) (drop (c.loop-stop.stop-index + 1) c.args.self.now.stops)))) (sym w.left-is));
          }
          )
      | else-left-work w ↦ (
          let past = w.if-left-work.false in
          let at = w.at-is in
          record {
            all = c.loop-stop.invariant.all;
            small = omega arith;
            numbers = numbers;
            end_left =
                end_later (windows_at c.args.self.now.stops) (drop c.loop-stop.stop-index c.args.self.now.stops) (drop (c.loop-stop.stop-index + 1) c.args.self.now.stops) c.stop-item.result c.loop-stop.stop-index c.loop-stop.at c.loop-stop.left (eta_of c.args.self.now c.args.step c.args.progress) here c.loop-stop.invariant.end_left (omega arith)
                ∙ (ap (λ n. end_after (windows_at c.args.self.now.stops) n (drop (c.loop-stop.left - (c.stop-item.result.drive + c.stop-item.result.service)) (word_from (c.loop-stop.stop-index + 1) (drop (c.loop-stop.stop-index + 1) c.args.self.now.stops)))) (sym w.at-is)
                ∙ ap (λ n. end_after (windows_at c.args.self.now.stops) c.if-left-work.at (drop n (word_from (c.loop-stop.stop-index + 1) (drop (c.loop-stop.stop-index + 1) c.args.self.now.stops))))
                (let left = w.left-is in let e : c.loop-stop.left - (c.stop-item.result.drive + c.stop-item.result.service) ≡ c.if-left-work.left = omega arith in e));
          }
          )
    ]

pub returns-clause-earliest : goal.returns-clause-earliest
returns-clause-earliest c =
    let w = c.loop-stop-test.false in
    eta_earliest c.args.self.now c.args.step c.args.progress c.loop-stop.at c.requires.progress
    (end_over (windows_at c.args.self.now.stops) c.args.self.now.stops c.loop-stop.stop-index c.loop-stop.at c.loop-stop.left (eta_of c.args.self.now c.args.step c.args.progress) c.loop-stop.invariant.end_left (let a = ap length c.loop-stop.invariant.all in omega arith))
