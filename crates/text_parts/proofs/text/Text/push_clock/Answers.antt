use Rattle.std.proofs.Common.{◌++◌, ◌∙◌, ap}
use Rattle.std.proofs.lemmas.Result.{on_ok_weaker}
use Rattle.text_parts.proofs.Clock.{clock_is}
use Rattle.text_parts.proofs.text.Text.push_clock.Goals as goal

pub returns : goal.returns
returns c =
    let clock = c.in_ok-clock.ensures.ok ∙ rw c.laid_out.ensures (clock_is c.args.minutes) in
    on_ok_weaker c.push_str.result (λ is. is ∙ ap (λ t. c.args.self.now ++ t) (c.as_str.ensures.value ∙ clock)) c.push_str.ensures
