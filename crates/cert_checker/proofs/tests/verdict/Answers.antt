use Rattle.std.proofs.Common.{◌≡◌, ◌-◌, ◌*◌, ◌≤◌, false, length, sym, ◌∙◌, ap, subst, arith}
use Rattle.duty_core.specs.declared.params.Params.TheVariants.{UsProperty}
use Rattle.duty_core.specs.Lawful.{IsLawful}
use Rattle.duty_core.specs.Params.{unit_minutes}
use Rattle.rule_core.specs.Replay.{IfLawful}
use Rattle.cert_checker.proofs.tests.verdict.Goals as goal

-- the tour's start is a unit of the book
pub replay-requires : goal.replay-requires
replay-requires c =
    let none = ap length c.new-log.ensures in
    let late = c.requires.tour.not_late in
    record { timed = record { begins = record { units = c.args.tour.now.start; whole = omega arith }; long = omega arith; ends = omega arith } }

pub check_cert-requires-clause-short : goal.check_cert-requires-clause-short
check_cert-requires-clause-short c =
    let none = ap length c.new-log.ensures in
    let unit = ap (λ p. unit_minutes p * length c.new-log.result) c.requires.params in
    omega arith

-- an empty log is what its replay tells
pub check_cert-requires-clause-lawful : goal.check_cert-requires-clause-lawful
check_cert-requires-clause-lawful c =
    let tour = c.args.tour.now in
    let log = c.new-log.result in
    let book = c.new-book.result in
    let none = ap length c.new-log.ensures in
    let unit = ap (λ p. unit_minutes p * length log) c.requires.params in
    let start : tour.start ≡ tour.start - unit_minutes tour.params * length log = omega arith in
    subst (λ n. IsLawful tour.params n log) start
    (subst (λ p. IsLawful p tour.start log) (c.new-book.ensures ∙ sym c.requires.params)
    (subst (λ o. IfLawful o (λ _. IsLawful (UsProperty book.berth book.days book.day_start) tour.start log)) c.in-Lawful.is c.in_ok-replayed.ensures.lawful))
