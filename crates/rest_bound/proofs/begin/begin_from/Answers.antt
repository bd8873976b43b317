use Rattle.std.proofs.Common.{◌≡◌, ◌≤◌, true, arith}
use Rattle.std.proofs.lemmas.Bool.Decides.{nat_tests}
use Rattle.rest_bound.specs.Ends.{share, idle_by}
use Rattle.rest_bound.proofs.BeginLaws.{begin_late, begin_never, only_late}
use Rattle.rest_bound.proofs.begin.begin_from.Goals as goal

pub returns-then-idle-mode : goal.returns-then-idle-mode
returns-then-idle-mode g c =
    let d : (g.T.Tour.plan c.args.terms.now.tour.now).drives c.args.piece ≡ true = grind (arith, nat_tests) in
    begin_never _ _ _ _ _ _ c.in_ok-begin.begin c.requires.first c.in_ok-begin.ensures.later (λ u h f y. c.in_ok-begin.ensures.first u f.opened h y)
    (c.in_time.ensures.no c.if-in_time.false) (omega arith) d

pub returns-then-in_time-2 : goal.returns-then-in_time-2
returns-then-in_time-2 g c =
    let d : (g.T.Tour.plan c.args.terms.now.tour.now).drives c.args.piece ≡ true = grind (arith, nat_tests) in
    let s : share (g.T.Tour.plan c.args.terms.now.tour.now) c.args.piece ≤ c.args.walk.left = rw d (omega arith) in
    begin_late _ _ _ _ _ _ c.in_ok-begin.begin c.in_ok-late.late c.requires.first c.in_ok-begin.ensures.later c.in_ok-begin.ensures.first
    (c.in_time.ensures.no c.if-in_time.false) (omega arith) c.in_ok-late.ensures.opened c.in_ok-late.ensures.later c.in_ok-late.ensures.first
    c.in_ok-late.ensures.within d s (c.in_time-2.ensures.yes c.if-in_time-2.true)

pub returns-else-in_time-2 : goal.returns-else-in_time-2
returns-else-in_time-2 g c =
    let d : (g.T.Tour.plan c.args.terms.now.tour.now).drives c.args.piece ≡ true = grind (arith, nat_tests) in
    let x = c.in_ok-begin.ensures.later in let y = c.in_ok-late.ensures.later in let w = c.args.walk in
    begin_never _ _ _ _ _ _ c.in_ok-late.late c.requires.first (omega arith)
    (λ u h f z. let q = c.in_ok-begin.ensures.first u f.opened h z in c.in_ok-late.ensures.first u f.opened
    (only_late c.args.terms.now.mode c.in_ok-begin.begin u w.latest (idle_by w c.in_ok-begin.begin) (idle_by w u) (c.in_time.ensures.no c.if-in_time.false) (omega arith) q (omega arith) (f.within d)) z)
    (c.in_time-2.ensures.no c.if-in_time-2.false) (omega arith) d
