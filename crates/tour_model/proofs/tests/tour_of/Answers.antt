use Rattle.std.proofs.Common.{◌≡◌, List, [], ◌∷◌, ◌++◌, length, All, arith, refl, sym, ◌∙◌, ap, subst}
use Rattle.std.proofs.lemmas.List.Elements.{All-nil, All-push}
use Rattle.tour_model.specs.declared.stop.Stop.{Stop}
use Rattle.tour_model.specs.Tour.{IsStop}
use Rattle.tour_model.proofs.tests.tour_of.Goals as goal

-- the stops of the tour
stops_are : (start one two : List Stop) (first second : Stop) → start ≡ [] → one ≡ start ++ first ∷ [] → two ≡ one ++ second ∷ [] → two ≡ ([] ++ first ∷ []) ++ second ∷ []
stops_are start one two first second s a b = b ∙ ap (λ xs. xs ++ second ∷ []) (a ∙ ap (λ xs. xs ++ first ∷ []) s)

pub returns : goal.returns
returns c =
    let e = stops_are c.new-stops.result c.push.new.self c.push-2.new.self c.args.first c.args.second c.new-stops.ensures c.in_ok-push.ensures.ok c.in_ok-push-2.ensures.ok in
    let n = ap length e in
    record {
      params = (omega arith, omega arith, omega arith);
      grid = (3, omega arith, refl);
      whole_start = record { units = 1000000; whole = refl };
      not_early = omega arith;
      not_late = omega arith;
      some_stops = omega arith;
      few_stops = omega arith;
      stops = subst (All (IsStop 30)) (sym e) (All-push (IsStop 30) ([] ++ c.args.first ∷ []) c.args.second (All-push (IsStop 30) [] c.args.first (All-nil (IsStop 30)) c.requires.first) c.requires.second);
    }
