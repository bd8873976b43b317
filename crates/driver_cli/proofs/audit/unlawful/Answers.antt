use Rattle.std.proofs.Common.{◌≡◌, ◌+◌, ◌*◌, refl, subst}
use Rattle.text_parts.specs.Parts.{IsText}
use Rattle.driver_cli.specs.Inputs.{log_minute}
use Rattle.driver_cli.specs.Texts.{unlawful_text}
use Rattle.driver_cli.proofs.Unlawful.{some_broken}
use Rattle.driver_cli.proofs.audit.unlawful.Goals as goal

pub returns : goal.returns
returns c =
    let tour = c.args.inputs.now.tour in
    let log = c.args.inputs.now.log in
    let unit = c.args.unit in
    let rules = c.in_ok-rules.rules in
    let text = c.in_ok-unlawful_text.field-0 in
    let at : c.log_start.result + c.unit_of.result * unit ≡ log_minute tour log unit = rw (c.log_start.ensures.value, c.unit_of.ensures) refl in (
      refl,
      record {
        unit = unit;
        first = c.requires.unit;
        rules = rules;
        broken = c.in_ok-rules.ensures;
        some = some_broken tour log unit rules c.requires.unit c.in_ok-rules.ensures;
        told =
            subst (λ m. IsText (unlawful_text m rules) text) at
            (subst (λ rs. IsText (unlawful_text (c.log_start.result + c.unit_of.result * unit) rs) text) c.items.ensures c.in_ok-unlawful_text.ensures);
      },
    )
