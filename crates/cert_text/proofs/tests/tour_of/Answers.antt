use Rattle.std.proofs.Common.{[], ◌∷◌, ◌++◌, length, All, arith, refl, sym, ◌∙◌, ap, subst}
use Rattle.std.proofs.lemmas.List.Elements.{All-nil, All-push}
use Rattle.tour_model.specs.Tour.{IsStop}
use Rattle.cert_text.proofs.tests.tour_of.Goals as goal

pub returns : goal.returns
returns c =
    let e = c.in_ok-push.ensures.ok ∙ ap (λ xs. xs ++ c.args.stop ∷ []) c.new-stops.ensures in
    let n = ap length e in
    record {
      params = (omega arith, omega arith, omega arith);
      grid = (3, omega arith, refl);
      whole_start = record { units = 13762080; whole = refl };
      not_early = omega arith;
      not_late = omega arith;
      some_stops = omega arith;
      few_stops = omega arith;
      stops = subst (All (IsStop 30)) (sym e) (All-push (IsStop 30) [] c.args.stop (All-nil (IsStop 30)) c.requires);
    }
