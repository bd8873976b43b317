use Rattle.std.proofs.Common.{◌≡◌, ◌+◌, ◌*◌, ◌++◌, ◌∙◌, ap, arith}
use Rattle.report_text.specs.Draws.{next_number, drawn, number_after}
use Rattle.report_text.specs.Made.{count_drawn, stops_drawn, stop_text, stop_made}
use Rattle.report_text.proofs.Drawn.{stops_more, next_draws, stop_is, stops_all}
use Rattle.report_text.proofs.maker.push_stops.Goals as goal

pub loop-before-preserved : goal.loop-before-preserved
loop-before-preserved c =
    let seed = c.args.seed in
    let before = c.loop-before.before in
    let inv = c.loop-before.invariant in
    let d = next_draws seed before c.loop-before.number inv.number in
    let driving : c.next_number-driving.result ≡ number_after seed (2 * before + 2) = c.next_number-driving.ensures.value ∙ d.0 in
    let serving : c.next_number-serving.result ≡ number_after seed (2 * before + 3) = c.next_number-serving.ensures.value ∙ ap next_number c.next_number-driving.ensures.value ∙ d.1 in
    let stop : stop_text before c.drive_of-drive.result c.service_of-service.result ≡ stop_made seed before = rw (c.drive_of-drive.ensures, c.service_of-service.ensures) (stop_is seed before c.next_number-driving.result c.next_number-serving.result driving serving) in
    record {
      number = serving ∙ d.2;
      below = c.next_number-serving.ensures.below;
      text = c.in_ok-push_stop.ensures ∙ ap (λ s. c.loop-before.text ++ s) stop ∙ ap (λ t. t ++ stop_made seed before) inv.text ∙ stops_more (stop_made seed) c.args.text.now before;
    }

pub returns : goal.returns
returns c =
    let count : c.count_of-count.result ≡ stops_drawn c.args.seed = c.count_of-count.ensures ∙ ap (λ x. count_drawn (drawn x)) c.next_number-number.ensures.value in
    stops_all c.args.seed c.loop-before.before c.args.text.now c.loop-before.text (omega (arith, c.loop-before-test.false, c.loop-before.auto, count)) c.loop-before.invariant.text
