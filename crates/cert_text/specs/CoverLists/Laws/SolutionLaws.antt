-- What a cover list and a valid certificate tell of a tour after a log.
use Rattle.std.proofs.Common.{◌≡◌, ℕ, ◌+◌, ◌*◌, ◌≤◌, true, List, [], ◌∷◌, ◌++◌, length, sym, subst, arith}
use Rattle.std.specs.Prelude.{Option, None, Some, All}
use Rattle.std.proofs.lemmas.List.Elements.{All-nil, All-cons, All-head, All-tail}
use Rattle.duty_core.specs.declared.activity.Activity.{Activity}
use Rattle.duty_core.specs.declared.mark.Mark.{Mark}
use Rattle.duty_core.specs.Params.{unit_minutes, allows}
use Rattle.duty_core.specs.declared.limits.TheConstants.{LONGEST_LOG}
use Rattle.rule_core.specs.Reach.{Reaches}
use Rattle.rule_core.specs.Laws.ReachLaws.{reaches-append, reaches_parted, reached_state}
use Rattle.rule_core.specs.Machine.{Machine, LeadsTo}
use Rattle.rule_core.specs.Book.{IsBook}
use Rattle.tour_model.specs.declared.label.Label.{Label}
use Rattle.tour_model.specs.declared.tour.Tour.{Tour}
use Rattle.tour_model.specs.Tour.{IsTour}
use Rattle.tour_model.specs.Word.{word_length}
use Rattle.tour_model.specs.Way.{GoesFrom, done, done_after}
use Rattle.tour_model.specs.Schedule.{units_of, step_units, history_of, log_start, duration, IsSolution, IsSolutionWith, IsShortest, IsInfeasible}
use Rattle.tour_model.specs.Laws.ServeLaws.{way_serves, serves_way, serves_done}
use Rattle.tour_model.specs.Laws.LengthLaws.{begins_sooner, history_timed}
use Rattle.cert_text.specs.declared.cert.Cert.{Cert}
use Rattle.cert_text.specs.declared.cert.CertKind.TheVariants.{Shortest, Infeasible}
use Rattle.cert_text.specs.CoverLists.Planning.{minute_of, state_at, problem_by, problem_of, eta_bound, IsLogState}
use Rattle.cert_text.specs.CoverLists.Bound.{ObeysBound}
use Rattle.cert_text.specs.CoverLists.Cover.{IsAtLeast, IsCoverList}
use Rattle.cert_text.specs.CoverLists.Continuation.{IsAllowedFrom}
use Rattle.cert_text.specs.Cert.{acts_of_runs, IsClaim, IsValidCertBy, IsValidCert}
use Rattle.cert_text.specs.CoverLists.Laws.CoverLaws.{no_shorter}
use Rattle.cert_text.specs.CoverLists.Laws.ProblemOf.{problem_laws_by, eta_obeys}
use Rattle.cert_text.specs.CoverLists.Laws.UnitLaws.{units_reached, steps_reached}

-- a way through the problem is one through the tour, with activities that a schedule may hold
pub way_goes : {S : Type 0} (tour : Tour) (m : Machine S) (bound : ℕ → ℕ → S → Option ℕ) (xs : List Activity) (k p : ℕ) →
    IsAllowedFrom (problem_by tour m bound) (allows tour.params) k p xs → GoesFrom tour k p xs × All (λ x. allows tour.params x ≡ true) xs
way_goes tour m bound [] k p a = (tt, All-nil (λ x. allows tour.params x ≡ true))
way_goes tour m bound (x ∷ xs) k p a =
    let q = way_goes tour m bound xs (k + 1) (done p x) a.2 in
    ((a.0, q.0), All-cons (λ y. allows tour.params y ≡ true) x xs a.1 q.1)

pub goes_way : {S : Type 0} (tour : Tour) (m : Machine S) (bound : ℕ → ℕ → S → Option ℕ) (xs : List Activity) (k p : ℕ) →
    GoesFrom tour k p xs → All (λ x. allows tour.params x ≡ true) xs → IsAllowedFrom (problem_by tour m bound) (allows tour.params) k p xs
goes_way tour m bound [] k p g u = tt
goes_way tour m bound (x ∷ xs) k p g u =
    (g.0, All-head (λ y. allows tour.params y ≡ true) x xs u, goes_way tour m bound xs (k + 1) (done p x) g.1 (All-tail (λ y. allows tour.params y ≡ true) x xs u))

-- the log ends where the tour starts
pub log_ends : (tour : Tour) → IsTour tour → (log : List Activity) → unit_minutes tour.params * length log ≤ LONGEST_LOG → log_start tour log + unit_minutes tour.params * length log ≡ minute_of tour 0
log_ends tour t log l = let early = t.not_early in omega arith

-- a state that the log reaches is one of the start
pub log_state : {S : Type 0} (tour : Tour) (log : List Activity) (m : Machine S) → IsBook tour.params m → IsTour tour → unit_minutes tour.params * length log ≤ LONGEST_LOG →
    (s : S) → IsLogState tour log m s → state_at tour m s 0
log_state tour log m law t l s r =
    subst (m.is_state s) (log_ends tour t log l) (reached_state (unit_minutes tour.params) m.is_state m.nexts law.lasts.next_is_state log (m.root (log_start tour log)) (log_start tour log) r.0 s (law.root_is_state (log_start tour log) (begins_sooner tour.params tour.start (length log) t.whole_start)) r.1)

-- a solution with its marks is one
pub solution_by : (tour : Tour) (log xs : List Activity) (marks : List Mark) → IsSolutionWith tour log xs marks → IsSolution tour log xs
solution_by tour log xs marks s = record { serves = s.serves; lawful = record { marks = marks; keeps = s.lawful } }

-- a whole way through the problem from a state that the log reaches is a solution, with the marks of both
pub way_solves_by : {S : Type 0} (tour : Tour) (log : List Activity) (m : Machine S) (bound : ℕ → ℕ → S → Option ℕ) → IsBook tour.params m → IsTour tour → unit_minutes tour.params * length log ≤ LONGEST_LOG →
    (s : S) (before : List Mark) → LeadsTo (unit_minutes tour.params) m (log_start tour log) log before s →
    (xs : List Activity) (marks : List Mark) (u : S) → IsAllowedFrom (problem_by tour m bound) (allows tour.params) 0 0 xs → done_after 0 xs ≡ word_length tour →
    Reaches 1 (λ s k x. m.advances s (minute_of tour k) x (step_units tour)) s 0 xs marks u → IsSolutionWith tour log xs (before ++ marks)
way_solves_by tour log m bound law t l s before start xs marks u a d r =
    let unit = unit_minutes tour.params in
    let g = way_goes tour m bound xs 0 0 a in
    let serves = way_serves tour t xs g.0 d g.1 in
    let units = units_of (step_units tour) xs in
    let there = log_state tour log m law t l s (before, start) in
    let later = units_reached tour m law t xs s 0 marks u there r in
    let whole = reaches-append unit m.nexts log units (m.root (log_start tour log)) (log_start tour log) before s marks u start (subst (λ at. Reaches unit m.nexts s at units marks u) (sym (log_ends tour t log l)) later) in
    record { serves = serves; lawful = (law.exact (log_start tour log) (history_of tour log xs) (before ++ marks) (history_timed tour t log xs l serves)).0 (u, whole) }

-- with the earliest end as the bound
pub way_solves_with : {S : Type 0} (tour : Tour) (log : List Activity) (m : Machine S) → IsBook tour.params m → IsTour tour → unit_minutes tour.params * length log ≤ LONGEST_LOG →
    (s : S) (before : List Mark) → LeadsTo (unit_minutes tour.params) m (log_start tour log) log before s →
    (xs : List Activity) (marks : List Mark) (u : S) → IsAllowedFrom (problem_of tour m) (allows tour.params) 0 0 xs → done_after 0 xs ≡ word_length tour →
    Reaches 1 (λ s k x. m.advances s (minute_of tour k) x (step_units tour)) s 0 xs marks u → IsSolutionWith tour log xs (before ++ marks)
way_solves_with tour log m = way_solves_by tour log m (eta_bound tour)

-- A solution's way through the problem, from a state that the log reaches.
pub record HasWay {S : Type 0} (tour : Tour) (log : List Activity) (m : Machine S) (bound : ℕ → ℕ → S → Option ℕ) (xs : List Activity) : Type 0 where
  pub from : S
  pub start : IsLogState tour log m from
  pub goes : IsAllowedFrom (problem_by tour m bound) (allows tour.params) 0 0 xs
  pub whole : done_after 0 xs ≡ word_length tour
  pub marks : List Mark
  pub end : S
  pub path : Reaches 1 (λ s k x. m.advances s (minute_of tour k) x (step_units tour)) from 0 xs marks end

pub solution_way : {S : Type 0} (tour : Tour) (log : List Activity) (m : Machine S) (bound : ℕ → ℕ → S → Option ℕ) → IsBook tour.params m → IsTour tour → unit_minutes tour.params * length log ≤ LONGEST_LOG →
    (xs : List Activity) → IsSolution tour log xs → HasWay tour log m bound xs
solution_way tour log m bound law t l xs s =
    let unit = unit_minutes tour.params in
    let units = units_of (step_units tour) xs in
    let r = (law.exact (log_start tour log) (history_of tour log xs) s.lawful.marks (history_timed tour t log xs l s.serves)).1 s.lawful.keeps in
    let p = reaches_parted unit m.nexts log units (m.root (log_start tour log)) (log_start tour log) s.lawful.marks r.0 r.1 in
    let start : IsLogState tour log m p.between = (p.earlier, p.front) in
    let rest = subst (λ at. Reaches unit m.nexts p.between at units p.later r.0) (log_ends tour t log l) p.rest in
    record {
      from = p.between;
      start = start;
      goes = goes_way tour m bound xs 0 0 (serves_way tour t xs s.serves) s.serves.usable;
      whole = serves_done tour t xs s.serves;
      marks = p.later;
      end = r.0;
      path = steps_reached tour m law t xs p.between 0 p.later r.0 (log_state tour log m law t l p.between start) rest;
    }

-- no solution takes less than the target of a cover list, whoever made it, and whatever the bound
pub solution_at_least_by : {S : Type 0} (tour : Tour) (log : List Activity) (m : Machine S) (bound : ℕ → ℕ → S → Option ℕ) → IsBook tour.params m → IsTour tour → ObeysBound tour m bound → unit_minutes tour.params * length log ≤ LONGEST_LOG →
    (target : Option ℕ) (layers : List (List (Label S))) → IsCoverList (problem_by tour m bound) (state_at tour m) (IsLogState tour log m) target layers →
    (xs : List Activity) → IsSolution tour log xs → IsAtLeast target (duration xs)
solution_at_least_by tour log m bound law t obeys l target layers c xs s =
    let w = solution_way tour log m bound law t l xs s in
    no_shorter (problem_by tour m bound) (state_at tour m) (allows tour.params) (IsLogState tour log m) target layers
    (problem_laws_by tour m bound law t obeys) c
    w.from w.start (log_state tour log m law t l w.from w.start) xs w.marks w.end w.goes w.whole w.path

-- and where it has none, there is no solution
pub no_solution_by : {S : Type 0} (tour : Tour) (log : List Activity) (m : Machine S) (bound : ℕ → ℕ → S → Option ℕ) → IsBook tour.params m → IsTour tour → ObeysBound tour m bound → unit_minutes tour.params * length log ≤ LONGEST_LOG →
    (layers : List (List (Label S))) → IsCoverList (problem_by tour m bound) (state_at tour m) (IsLogState tour log m) None layers → IsInfeasible tour log
no_solution_by tour log m bound law t obeys l layers c xs s = solution_at_least_by tour log m bound law t obeys l None layers c xs s

-- a solution whose duration is the target of a cover list is shortest
pub solution_shortest_by : {S : Type 0} (tour : Tour) (log : List Activity) (m : Machine S) (bound : ℕ → ℕ → S → Option ℕ) → IsBook tour.params m → IsTour tour → ObeysBound tour m bound → unit_minutes tour.params * length log ≤ LONGEST_LOG →
    (layers : List (List (Label S))) (xs : List Activity) (target : Option ℕ) → target ≡ Some (duration xs) → IsSolution tour log xs →
    IsCoverList (problem_by tour m bound) (state_at tour m) (IsLogState tour log m) target layers → IsShortest tour log xs
solution_shortest_by tour log m bound law t obeys l layers xs target e s c = record {
  solves = s;
  least = λ other o. subst (λ n. IsAtLeast n (duration other)) e (solution_at_least_by tour log m bound law t obeys l target layers c other o);
}

-- what a valid certificate proves, by its kind
pub valid_shortest_by : {S : Type 0} (tour : Tour) (log : List Activity) (m : Machine S) (bound : ℕ → ℕ → S → Option ℕ) → IsBook tour.params m → IsTour tour → ObeysBound tour m bound → unit_minutes tour.params * length log ≤ LONGEST_LOG →
    (cert : Cert) → IsValidCertBy tour log m bound cert →
    cert.kind ≡ Shortest → IsShortest tour log (acts_of_runs cert.schedule)
valid_shortest_by tour log m bound law t obeys l cert v e =
    let claim = subst (λ kind. IsClaim tour log kind cert.target (acts_of_runs cert.schedule) cert.marks) e v.claim in
    solution_shortest_by tour log m bound law t obeys l v.layers (acts_of_runs cert.schedule) cert.target claim.1
    (solution_by tour log (acts_of_runs cert.schedule) cert.marks claim.0) v.covers

pub valid_infeasible_by : {S : Type 0} (tour : Tour) (log : List Activity) (m : Machine S) (bound : ℕ → ℕ → S → Option ℕ) → IsBook tour.params m → IsTour tour → ObeysBound tour m bound → unit_minutes tour.params * length log ≤ LONGEST_LOG →
    (cert : Cert) → IsValidCertBy tour log m bound cert →
    cert.kind ≡ Infeasible → IsInfeasible tour log
valid_infeasible_by tour log m bound law t obeys l cert v e =
    let claim = subst (λ kind. IsClaim tour log kind cert.target (acts_of_runs cert.schedule) cert.marks) e v.claim in
    no_solution_by tour log m bound law t obeys l v.layers
    (subst (λ target. IsCoverList (problem_by tour m bound) (state_at tour m) (IsLogState tour log m) target v.layers) claim.0 v.covers)

-- The same with the earliest end as the bound.
pub solution_at_least : {S : Type 0} (tour : Tour) (log : List Activity) (m : Machine S) → IsBook tour.params m → IsTour tour → unit_minutes tour.params * length log ≤ LONGEST_LOG →
    (target : Option ℕ) (layers : List (List (Label S))) → IsCoverList (problem_of tour m) (state_at tour m) (IsLogState tour log m) target layers →
    (xs : List Activity) → IsSolution tour log xs → IsAtLeast target (duration xs)
solution_at_least tour log m law t = solution_at_least_by tour log m (eta_bound tour) law t (eta_obeys tour m)

pub no_solution : {S : Type 0} (tour : Tour) (log : List Activity) (m : Machine S) → IsBook tour.params m → IsTour tour → unit_minutes tour.params * length log ≤ LONGEST_LOG →
    (layers : List (List (Label S))) → IsCoverList (problem_of tour m) (state_at tour m) (IsLogState tour log m) None layers → IsInfeasible tour log
no_solution tour log m law t = no_solution_by tour log m (eta_bound tour) law t (eta_obeys tour m)

pub solution_shortest : {S : Type 0} (tour : Tour) (log : List Activity) (m : Machine S) → IsBook tour.params m → IsTour tour → unit_minutes tour.params * length log ≤ LONGEST_LOG →
    (layers : List (List (Label S))) (xs : List Activity) (target : Option ℕ) → target ≡ Some (duration xs) → IsSolution tour log xs →
    IsCoverList (problem_of tour m) (state_at tour m) (IsLogState tour log m) target layers → IsShortest tour log xs
solution_shortest tour log m law t = solution_shortest_by tour log m (eta_bound tour) law t (eta_obeys tour m)

pub valid_shortest : {S : Type 0} (tour : Tour) (log : List Activity) (m : Machine S) → IsBook tour.params m → IsTour tour → unit_minutes tour.params * length log ≤ LONGEST_LOG →
    (cert : Cert) → IsValidCert tour log m cert → cert.kind ≡ Shortest → IsShortest tour log (acts_of_runs cert.schedule)
valid_shortest tour log m law t = valid_shortest_by tour log m (eta_bound tour) law t (eta_obeys tour m)

pub valid_infeasible : {S : Type 0} (tour : Tour) (log : List Activity) (m : Machine S) → IsBook tour.params m → IsTour tour → unit_minutes tour.params * length log ≤ LONGEST_LOG →
    (cert : Cert) → IsValidCert tour log m cert → cert.kind ≡ Infeasible → IsInfeasible tour log
valid_infeasible tour log m law t = valid_infeasible_by tour log m (eta_bound tour) law t (eta_obeys tour m)
