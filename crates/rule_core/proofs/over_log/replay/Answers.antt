use Rattle.std.proofs.Common.{◌≡◌, ℕ, ◌+◌, ◌*◌, ◌-◌, ◌<◌, length, get_or, sym, ◌∙◌, ap, subst, arith}
use Rattle.std.proofs.lemmas.Bool.{true≢false}
use Rattle.duty_core.specs.declared.activity.Activity.TheVariants.{Drive}
use Rattle.duty_core.specs.Params.{unit_minutes}
use Rattle.timeline.specs.declared.run.Run.{Run}
use Rattle.rule_core.specs.Replay.{MayAdvance, GoesOn, IsFirstRefused, IsFirstUnlawful}
use Rattle.rule_core.proofs.ReplayLaws.{IsReplaying, IsRunAt, AreEqual, place, run_at, equal_run, after_run, place_all, may_advance, replaying_first, replaying_more, replaying_ends, replayed_lawful, replayed_roots, replayed_states}
use Rattle.rule_core.proofs.over_log.replay.Goals as goal
use Rattle.rule_core.proofs.over_log.replay.Goals.{In-loop-run}

-- what an index past the runs reads
abbrev none : Run
none = record { act = Drive; from = 0; to = 0 }

pub loop-run-init : goal.loop-run-init
loop-run-init g c = replaying_first (g.B.RuleBook.machine c.args.book.now).params (g.B.RuleBook.machine c.args.book.now) c.args.first c.args.log.now c.in_ok-roots.roots c.in_ok-roots.ensures

-- the run of this turn lies in the log
part : (g : _) (c : In-loop-run g) → IsRunAt c.args.log.now c.runs-runs.result.now c.loop-run.run-index (get_or c.runs-runs.result.now c.loop-run.run-index none)
part g c = run_at c.runs-runs.result.now c.args.log.now c.loop-run.run-index none c.runs-runs.ensures c.loop-run-test.true

-- its units are equal ones of the log
equal : (g : _) (c : In-loop-run g) → AreEqual (g.B.RuleBook.machine c.args.book.now).params c.args.first c.args.log.now (place c.runs-runs.result.now c.loop-run.run-index)
    (c.args.first + c.unit_of-minutes.result * (get_or c.runs-runs.result.now c.loop-run.run-index none).from) (get_or c.runs-runs.result.now c.loop-run.run-index none).act
    ((get_or c.runs-runs.result.now c.loop-run.run-index none).to - (get_or c.runs-runs.result.now c.loop-run.run-index none).from)
equal g c =
    let run : Run = get_or c.runs-runs.result.now c.loop-run.run-index none in
    equal_run (g.B.RuleBook.machine c.args.book.now).params c.args.first c.args.log.now c.runs-runs.result.now c.loop-run.run-index (c.args.first + c.unit_of-minutes.result * run.from) run
    (ap (λ u. c.args.first + u * run.from) (c.unit_of-minutes.ensures ∙ ap unit_minutes c.params.ensures)) (part g c)

-- so the book may be asked what they make of the roots
may : (g : _) (c : In-loop-run g) → MayAdvance (g.B.RuleBook.machine c.args.book.now) (c.args.first + c.unit_of-minutes.result * (get_or c.runs-runs.result.now c.loop-run.run-index none).from)
    ((get_or c.runs-runs.result.now c.loop-run.run-index none).to - (get_or c.runs-runs.result.now c.loop-run.run-index none).from) c.loop-run.roots
may g c =
    let m = g.B.RuleBook.machine c.args.book.now in
    let run : Run = get_or c.runs-runs.result.now c.loop-run.run-index none in
    let some : run.from < run.to = (part g c).part.some in
    may_advance m c.args.first c.args.log.now (place c.runs-runs.result.now c.loop-run.run-index) (c.args.first + c.unit_of-minutes.result * run.from) run.act (run.to - run.from) c.loop-run.roots
    (g.met.B.RuleBook.laws c.args.book.now) c.requires.timed (equal g c) (omega arith) c.loop-run.invariant

pub goes_on-requires : goal.goes_on-requires
goes_on-requires g c = subst (MayAdvance _ _ _) (sym c.items.ensures) (may g (goal.at.goes_on-requires g c).In-loop-run)

pub first_refused-requires : goal.first_refused-requires
first_refused-requires g c =
    let m = g.B.RuleBook.machine c.args.book.now in
    let run : Run = get_or c.runs-runs.result.now c.loop-run.run-index none in
    let same : c.items-then-not-branch.result.now ≡ c.items.result.now = c.items-then-not-branch.ensures ∙ sym c.items.ensures in
    record {
      can = subst (MayAdvance _ _ _) (sym c.items-then-not-branch.ensures) (may g (goal.at.first_refused-requires g c).In-loop-run);
      refused = λ on. true≢false
          (sym (c.in_ok-goes_on.ensures.1 (subst (GoesOn m (c.args.first + c.unit_of-minutes.result * run.from) run.act (run.to - run.from)) same on)) ∙ c.if-not-branch.true);
    }

pub roots_on-requires : goal.roots_on-requires
roots_on-requires g c = may g (goal.at.roots_on-requires g c).In-loop-run

pub loop-run-preserved : goal.loop-run-preserved
loop-run-preserved g c =
    let m = g.B.RuleBook.machine c.args.book.now in
    let here = (goal.at.loop-run-preserved g c).In-loop-run in
    let run : Run = get_or c.runs-runs.result.now c.loop-run.run-index none in
    let e = after_run c.args.log.now c.runs-runs.result.now c.loop-run.run-index run (part g here) in
    subst (λ k. IsReplaying m.params m c.args.first c.args.log.now k c.in_ok-roots-2.roots) e
    (replaying_more m.params m c.args.first c.args.log.now (place c.runs-runs.result.now c.loop-run.run-index) (c.args.first + c.unit_of-minutes.result * run.from) run.act (run.to - run.from)
    c.loop-run.roots c.in_ok-roots-2.roots (g.met.B.RuleBook.laws c.args.book.now) c.requires.timed (equal g here) c.loop-run.invariant
    (subst (GoesOn m (c.args.first + c.unit_of-minutes.result * run.from) run.act (run.to - run.from)) c.items.ensures (c.in_ok-goes_on.ensures.0 c.if-not-branch.false)) c.in_ok-roots-2.ensures (omega arith))

pub overflow_mul-at : goal.overflow_mul-at
overflow_mul-at g c = let range = (may g (goal.at.overflow_mul-at g c).In-loop-run).range in omega arith

pub overflow_add-at : goal.overflow_add-at
overflow_add-at g c = let range = (may g (goal.at.overflow_add-at g c).In-loop-run).range in omega arith

pub overflow_sub-n : goal.overflow_sub-n
overflow_sub-n g c = let some = (part g (goal.at.overflow_sub-n g c).In-loop-run).part.some in omega arith

pub overflow_add-unit : goal.overflow_add-unit
overflow_add-unit g c =
    let inside = (part g (goal.at.overflow_add-unit g c).In-loop-run).part.inside in
    let less = c.in_ok-unit.ensures.inside in
    let long = c.requires.timed.long in
    omega arith

pub returns-then-not-branch-clause-unlawful : goal.returns-then-not-branch-clause-unlawful
returns-then-not-branch-clause-unlawful g c =
    let m = g.B.RuleBook.machine c.args.book.now in
    let here = (goal.at.returns-then-not-branch-clause-unlawful g c).In-loop-run in
    let run : Run = get_or c.runs-runs.result.now c.loop-run.run-index none in
    let at : ℕ = c.args.first + c.unit_of-minutes.result * run.from in
    subst (IsFirstUnlawful m.params c.args.first c.args.log.now) (ap (λ k. k + c.in_ok-unit.field-0) (part g here).from)
    (replaying_ends m.params m c.args.first c.args.log.now (place c.runs-runs.result.now c.loop-run.run-index) at run.act (run.to - run.from) c.loop-run.roots c.in_ok-unit.field-0
    (g.met.B.RuleBook.laws c.args.book.now) c.requires.timed (equal g here) c.loop-run.invariant
    (subst (λ rs. IsFirstRefused m at run.act (run.to - run.from) rs c.in_ok-unit.field-0) c.items-then-not-branch.ensures c.in_ok-unit.ensures))

-- the minute after the log
end_of : (first a b n k : ℕ) → a ≡ b → n ≡ k → first + a * n ≡ first + b * k
end_of first a b n k e f = ap (λ i. first + i * n) e ∙ ap (λ i. first + b * i) f

pub uncovered-requires : goal.uncovered-requires
uncovered-requires g c =
    let m = g.B.RuleBook.machine c.args.book.now in
    let all : place c.runs-runs.result.now c.loop-run.run-index ≡ length c.args.log.now =
    place_all c.runs-runs.result.now c.args.log.now c.loop-run.run-index c.runs-runs.ensures c.loop-run-test.false in
    record {
      states = replayed_states m.params m c.args.first c.args.log.now (place c.runs-runs.result.now c.loop-run.run-index) c.loop-run.roots (c.args.first + c.unit_of-minutes.result * c.len-2.result)
          (g.met.B.RuleBook.laws c.args.book.now) c.requires.timed (omega arith)
          (end_of c.args.first c.unit_of-minutes.result (unit_minutes m.params) c.len-2.result (length c.args.log.now) (c.unit_of-minutes.ensures ∙ ap unit_minutes c.params.ensures) c.len-2.ensures.value)
          c.loop-run.invariant;
    }

pub returns-clause-lawful : goal.returns-clause-lawful
returns-clause-lawful g c =
    let m = g.B.RuleBook.machine c.args.book.now in
    let all : place c.runs-runs.result.now c.loop-run.run-index ≡ length c.args.log.now =
    place_all c.runs-runs.result.now c.args.log.now c.loop-run.run-index c.runs-runs.ensures c.loop-run-test.false in
    replayed_lawful m.params m c.args.first c.args.log.now (place c.runs-runs.result.now c.loop-run.run-index) c.loop-run.roots (g.met.B.RuleBook.laws c.args.book.now) c.requires.timed
    (omega arith) c.loop-run.invariant

pub returns-clause-roots : goal.returns-clause-roots
returns-clause-roots g c =
    let m = g.B.RuleBook.machine c.args.book.now in
    let all : place c.runs-runs.result.now c.loop-run.run-index ≡ length c.args.log.now =
    place_all c.runs-runs.result.now c.args.log.now c.loop-run.run-index c.runs-runs.ensures c.loop-run-test.false in
    replayed_roots m.params m c.args.first c.args.log.now (place c.runs-runs.result.now c.loop-run.run-index) c.loop-run.roots c.in_ok-uncovered.field-0
    (c.args.first + c.unit_of-minutes.result * c.len-2.result) (omega arith)
    (end_of c.args.first c.unit_of-minutes.result (unit_minutes m.params) c.len-2.result (length c.args.log.now) (c.unit_of-minutes.ensures ∙ ap unit_minutes c.params.ensures) c.len-2.ensures.value)
    c.in_ok-uncovered.ensures.kept c.loop-run.invariant
