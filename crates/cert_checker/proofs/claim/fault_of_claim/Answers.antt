use Rattle.std.proofs.Common.{◌≡◌, ◌*◌, ◌<◌, ◌≤◌, length, ap, subst, arith}
use Rattle.std.specs.Prelude.{MatchOption}
use Rattle.std.proofs.Math.Nat.{le-mul_of_pos_right}
use Rattle.tour_model.specs.declared.limits.TheConstants.{LONGEST_TOUR}
use Rattle.tour_model.specs.Laws.LengthLaws.{tour_grid_some, serves_short}
use Rattle.cert_text.specs.Cert.{acts_of_runs}
use Rattle.cert_checker.proofs.claim.fault_of_claim.Goals as goal

pub returns-in-None : goal.returns-in-None
returns-in-None g c = (
  c.in-Shortest.is,
  (λ s. (
      let tour = c.args.tour.now in
      let xs = acts_of_runs c.args.cert.now.schedule in
      let some = tour_grid_some tour c.requires.tour in
      let short = serves_short tour c.requires.tour xs s in
      let less : length xs ≤ length xs * tour.grid = le-mul_of_pos_right (length xs) some in
      let many : LONGEST_TOUR < length (acts_of_runs c.items.result.now) = subst (λ o. MatchOption o (LONGEST_TOUR < length (acts_of_runs c.items.result.now)) (λ v. v.items ≡ acts_of_runs c.items.result.now)) c.in-None.is c.in_ok-steps_of-in-Shortest.ensures.steps in
      let same : length (acts_of_runs c.items.result.now) ≡ length xs = ap (λ runs. length (acts_of_runs runs)) c.items.ensures in
      absurd (omega arith)
      )),
)
