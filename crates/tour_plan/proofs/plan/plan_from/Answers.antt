use Rattle.std.proofs.Common.{◌≡◌, ◌^◌, ◌<◌, length, sym, subst, arith}
use Rattle.std.proofs.lemmas.Option.{slice_get_within}
use Rattle.rule_core.specs.Book.{IsBook}
use Rattle.rule_core.specs.Reach.{IsOneOf}
use Rattle.tour_model.specs.Schedule.{IsShortest}
use Rattle.tour_model.specs.Layer.{layer_at}
use Rattle.label_state.specs.Path.{HaveParents}
use Rattle.label_search.specs.Sound.{IsSound}
use Rattle.label_search.specs.Searched.{IsAnswer, layers_of}
use Rattle.cert_text.specs.CoverLists.Planning.{minute_of, problem_of, state_at, IsLogState}
use Rattle.cert_text.specs.CoverLists.Laws.SolutionLaws.{log_state}
use Rattle.tour_plan.proofs.Parents.{sound_parents}
use Rattle.tour_plan.proofs.Proven.{path_proven}
use Rattle.tour_plan.proofs.plan.plan_from.Goals as goal
use Rattle.tour_plan.proofs.plan.plan_from.Goals.{In_ok-layers}

pub search-requires-clause-roots : goal.search-requires-clause-roots
search-requires-clause-roots g c root o =
    let book = c.args.book.now in
    let tour = c.args.tour.now in
    let log = c.args.log.now in
    let m = g.B.RuleBook.machine book in
    let law = subst (λ params. IsBook params m) c.requires.params (g.met.B.RuleBook.laws book) in
    let r = c.requires.roots.reached root (subst (λ rs. IsOneOf rs root) c.items.ensures o) in
    subst (m.is_state root.state) (let z : minute_of tour 0 ≡ tour.start = omega arith in z) (log_state tour log m law c.requires.tour c.requires.short root.state (root.marks, r))

pub search-requires-clause-few : goal.search-requires-clause-few
search-requires-clause-few g c = subst (λ rs. length rs < 2 ^ 32) (sym c.items.ensures) c.requires.roots.few

-- what the search answers of this log
answer_of : (g : _) (c : In_ok-layers g) → IsAnswer (problem_of c.args.tour.now (g.B.RuleBook.machine c.args.book.now)) (state_at c.args.tour.now (g.B.RuleBook.machine c.args.book.now)) c.args.tour.now c.args.log.now
    (IsLogState c.args.tour.now c.args.log.now (g.B.RuleBook.machine c.args.book.now)) c.args.roots.now c.args.budget c.in_ok-layers.field-0
answer_of g c =
    let answer = rw c.items.ensures at c.in_ok-layers.ensures.answer in
    answer c.args.log.now c.requires.short c.requires.roots

sound_of : (g : _) (c : In_ok-layers g) → IsSound (problem_of c.args.tour.now (g.B.RuleBook.machine c.args.book.now)) c.args.roots.now (layers_of c.in_ok-layers.field-0)
sound_of g c = rw c.items.ensures at c.in_ok-layers.ensures.sound

pub rebuild-requires-clause-parents : goal.rebuild-requires-clause-parents
rebuild-requires-clause-parents g c =
    let problem = problem_of c.args.tour.now (g.B.RuleBook.machine c.args.book.now) in
    let sound = rw c.in-Found.is at (sound_of g (goal.at.rebuild-requires-clause-parents g c).In_ok-layers) in
    subst (λ rs. HaveParents (length rs) c.in-Found.layers) (sym c.items-in-Found.ensures) (sound_parents problem c.args.roots.now c.in-Found.layers sound)

pub rebuild-requires-clause-there : goal.rebuild-requires-clause-there
rebuild-requires-clause-there g c =
    let found = rw c.in-Found.is at (answer_of g (goal.at.rebuild-requires-clause-there g c).In_ok-layers) in
    slice_get_within (layer_at c.in-Found.layers c.in-Found.place.layer) c.in-Found.place.index found.best found.there

-- the path to the place that was found is proven by the layers
pub bytes_of-requires-clause-proven : goal.bytes_of-requires-clause-proven
bytes_of-requires-clause-proven g c =
    let tour = c.args.tour.now in
    let log = c.args.log.now in
    let book = c.args.book.now in
    let found = rw c.in-Found.is at (answer_of g (goal.at.bytes_of-requires-clause-proven g c).In_ok-layers) in
    path_proven tour log (g.B.RuleBook.machine book) c.args.roots.now c.in-Found.layers c.in-Found.place c.in_ok-schedule-in-Found.schedule found
    c.in_ok-schedule-in-Found.ensures.steps (rw c.items-in-Found.ensures at c.in_ok-schedule-in-Found.ensures.marks)

pub bytes_of-requires-clause-few : goal.bytes_of-requires-clause-few
bytes_of-requires-clause-few g c =
    let within = rw c.in-Found.is at c.in_ok-layers.ensures.within in
    let most = c.requires.budget.most in
    omega (arith, within)

pub bytes_of-requires-in-Never-clause-proven : goal.bytes_of-requires-in-Never-clause-proven
bytes_of-requires-in-Never-clause-proven g c =
    let never = rw c.in-Never.is at (answer_of g (goal.at.bytes_of-requires-in-Never-clause-proven g c).In_ok-layers) in
    never.covers

pub bytes_of-requires-in-Never-clause-few : goal.bytes_of-requires-in-Never-clause-few
bytes_of-requires-in-Never-clause-few g c =
    let within = rw c.in-Never.is at c.in_ok-layers.ensures.within in
    let most = c.requires.budget.most in
    omega (arith, within)

pub returns-in-Found : goal.returns-in-Found
returns-in-Found g c =
    let tour = c.args.tour.now in
    let log = c.args.log.now in
    let book = c.args.book.now in
    let found = rw c.in-Found.is at (answer_of g (goal.at.returns-in-Found g c).In_ok-layers) in
    let steps = c.in_ok-schedule-in-Found.ensures.steps in
    let proven = path_proven tour log (g.B.RuleBook.machine book) c.args.roots.now c.in-Found.layers c.in-Found.place c.in_ok-schedule-in-Found.schedule found
    steps (rw c.items-in-Found.ensures at c.in_ok-schedule-in-Found.ensures.marks) in
    let cert = c.in_ok-cert-in-Found.ensures in
    record {
      planned = record {
        lawful = c.requires.lawful;
        solves = proven.0;
        shortest = subst (IsShortest tour log) (sym steps) found.shortest;
        cert = cert.0;
        proof = cert.1;
        steps = cert.2;
        marks = cert.3;
      };
    }

pub returns-in-Never : goal.returns-in-Never
returns-in-Never g c =
    let never = rw c.in-Never.is at (answer_of g (goal.at.returns-in-Never g c).In_ok-layers) in
    let cert = c.in_ok-bytes_of-in-Never.ensures in
    record { planned = record { lawful = c.requires.lawful; infeasible = never.infeasible; cert = cert.0; proof = cert.1 } }

pub returns : goal.returns
returns g c =
    let some = (goal.at.returns g c).In_ok-layers in
    let spent = rw c.in-Spent.is at (answer_of g some) in
    let sound = rw c.in-Spent.is at (sound_of g some) in
    let full = rw c.in-Spent.is at c.in_ok-layers.ensures.within in
    record {
      planned = (
        c.requires.lawful,
        record {
          roots = c.args.roots.now;
          reached = λ r o. (r.marks, c.requires.roots.reached r o);
          layers = c.in-Spent.layers;
          sound = sound;
          worked = spent.worked;
          full = full;
          many = spent.many;
        },
      );
    }
