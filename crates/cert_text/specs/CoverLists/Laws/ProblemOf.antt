-- The search problem of a tour and a book has the laws that a search asks for.
use Rattle.std.proofs.Common.{◌≡◌, ℕ, ◌+◌, ◌*◌, ◌/◌, ◌<◌, ◌≤◌, Bool, true, false, not, cond, zero, suc, List, [], ◌∷◌, ◌++◌, length, length-append, replicate, refl, sym, ◌∙◌, ap, subst, arith}
use Rattle.std.specs.Prelude.{All, Contains, Option}
use Rattle.std.specs.Option.{option_to_list}
use Rattle.std.proofs.lemmas.List.{length-replicate}
use Rattle.std.proofs.lemmas.List.Elements.{All-nil, All-cons, All-head, All-tail, All-replicate, All-contains}
use Rattle.duty_core.specs.declared.activity.Activity.{Activity}
use Rattle.duty_core.specs.declared.activity.Activity.TheVariants.{Drive, Serve, Wait, Off, Berth}
use Rattle.duty_core.specs.declared.limits.TheConstants.{LONGEST_HISTORY}
use Rattle.duty_core.specs.declared.mark.Mark.{Mark}
use Rattle.duty_core.specs.declared.params.Params.{Params}
use Rattle.duty_core.specs.Activity.{idles}
use Rattle.duty_core.specs.Params.{BookUnit, InMinutes, InQuarters, minutes_in, terms_of, unit_minutes, has_berth, allows}
use Rattle.rule_core.specs.declared.nexts.Next.{Next}
use Rattle.rule_core.specs.Reach.{idle_list, IsOneOf, Reaches, IsAnswered}
use Rattle.rule_core.specs.Laws.ReachLaws.{reached_state}
use Rattle.rule_core.specs.TourRest.{tour_rest}
use Rattle.rule_core.specs.Machine.{Machine}
use Rattle.rule_core.specs.Book.{IsBook}
use Rattle.tour_model.specs.declared.tour.Tour.{Tour}
use Rattle.tour_model.specs.declared.label.Label.{Label}
use Rattle.tour_model.specs.declared.stop.Stop.{Stop}
use Rattle.tour_model.specs.declared.piece.Piece.TheVariants as piece
use Rattle.tour_model.specs.Tour.{grids_in, IsStop, IsTour}
use Rattle.tour_model.specs.Word.{service_word, word_from, word_length, may_do, may_idle}
use Rattle.tour_model.specs.Way.{progresses}
use Rattle.tour_model.specs.Laws.WayLaws.{may_before, may_idle_all}
use Rattle.tour_model.specs.Eta.{eta_of}
use Rattle.tour_model.specs.Laws.EtaLaws.{eta_full, eta_before}
use Rattle.tour_model.specs.Laws.LengthLaws.{tour_grid_some}
use Rattle.tour_model.specs.declared.limits.TheConstants.{MOST_DRIVE, MOST_SERVICE}
use Rattle.tour_model.proofs.PieceLaws.{length-word}
use Rattle.std.proofs.Math.Nat.{mul-le-mul_left}
use Rattle.tour_model.specs.Schedule.{step_units}
use Rattle.cert_text.specs.CoverLists.Planning.{minute_of, state_at, problem_by, problem_of, eta_bound}
use Rattle.cert_text.specs.CoverLists.Bound.{ObeysBound, IsBoundOf, eta_bounds}
use Rattle.cert_text.specs.CoverLists.Problem.{successors_of}
use Rattle.cert_text.specs.CoverLists.Laws.ProblemLaws.{IsProblem}

-- each step of driving or service is an activity that a schedule may hold
works_allowed : (params : Params) (x : Activity) → progresses x ≡ true → allows params x ≡ true
works_allowed params Drive w = refl
works_allowed params Serve w = refl
works_allowed params Wait w = absurd (let z : false ≡ true = w in cc)
works_allowed params Off w = absurd (let z : false ≡ true = w in cc)
works_allowed params Berth w = absurd (let z : false ≡ true = w in cc)

-- A step of so many minutes is a whole number of units of so many minutes, from 1 to 30.
record AreUnits (unit grid : ℕ) : Type 0 where
  whole : unit * (grid / unit) ≡ grid
  some : 1 ≤ grid / unit
  few : grid / unit ≤ 30

grid_units : (u : BookUnit) (grid : ℕ) → Contains (grids_in u) grid → AreUnits (minutes_in u) grid
grid_units InMinutes grid c =
    let P = λ (g : ℕ). AreUnits 1 g in
    let unit = λ (g : ℕ) (some : 1 ≤ g) (few : g ≤ 30). let r : AreUnits 1 g = record { whole = omega arith; some = omega arith; few = omega arith } in r in
    All-contains P (grids_in InMinutes) grid
    (All-cons P 1 (5 ∷ 15 ∷ 30 ∷ []) (unit 1 (omega arith) (omega arith)) (All-cons P 5 (15 ∷ 30 ∷ []) (unit 5 (omega arith) (omega arith)) (All-cons P 15 (30 ∷ []) (unit 15 (omega arith) (omega arith)) (All-cons P 30 [] (unit 30 (omega arith) (omega arith)) (All-nil P))))) c
grid_units InQuarters grid c =
    let P = λ (g : ℕ). AreUnits 15 g in
    All-contains P (grids_in InQuarters) grid
    (All-cons P 15 (30 ∷ []) (record { whole = refl; some = omega arith; few = omega arith }) (All-cons P 30 [] (record { whole = refl; some = omega arith; few = omega arith }) (All-nil P))) c

-- the steps of a tour are such
tour_units : (tour : Tour) → IsTour tour → AreUnits (unit_minutes tour.params) tour.grid
tour_units tour t = grid_units (terms_of tour.params).unit tour.grid t.grid

pub step_minutes : (tour : Tour) → IsTour tour → unit_minutes tour.params * step_units tour ≡ tour.grid
step_minutes tour t = (tour_units tour t).whole

pub step_some : (tour : Tour) → IsTour tour → 1 ≤ step_units tour
step_some tour t = (tour_units tour t).some

pub step_few : (tour : Tour) → IsTour tour → step_units tour ≤ 30
step_few tour t = (tour_units tour t).few

-- the minute at which the units of a step end
units_end : (tour : Tour) → IsTour tour → (k : ℕ) → minute_of tour k + unit_minutes tour.params * step_units tour ≡ minute_of tour (k + 1)
units_end tour t k = ap (λ n. minute_of tour k + n) (step_minutes tour t) ∙ (let f : minute_of tour k + tour.grid ≡ minute_of tour (k + 1) = omega arith in f)

-- the minute at which a path of the units of a step ends
pub minute_more : (tour : Tour) → IsTour tour → (k : ℕ) (x : Activity) → minute_of tour k + unit_minutes tour.params * length (replicate (step_units tour) x) ≡ minute_of tour (k + 1)
minute_more tour t k x =
    ap (λ m. minute_of tour k + unit_minutes tour.params * m) (length-replicate (step_units tour) x) ∙ units_end tour t k

-- A path from one state that ends in a state that covers t.
pub record Follows {S : Type 0} (unit : ℕ) (m : Machine S) (a : S) (at : ℕ) (xs : List Activity) (t : S) : Type 0 where
  pub marks : List Mark
  pub end : S
  pub path : Reaches unit m.nexts a at xs marks end
  pub over : m.covers end t (at + unit * length xs) ≡ true

-- a state that covers another goes along with it
pub follows : {S : Type 0} (params : Params) (m : Machine S) → IsBook params m →
    (xs : List Activity) (a b : S) (at : ℕ) (marks : List Mark) (t : S) → m.is_state a at → m.is_state b at → m.covers a b at ≡ true → All (λ x. allows params x ≡ true) xs →
    Reaches (unit_minutes params) m.nexts b at xs marks t → Follows (unit_minutes params) m a at xs t
follows params m law [] a b at marks t i j c u r =
    let e : at ≡ at + unit_minutes params * 0 = omega arith in
    record { marks = []; end = a; path = (refl, refl); over = subst (λ n. m.covers a t n ≡ true) e (subst (λ s. m.covers a s at ≡ true) r.0 c) }
follows params m law (x ∷ xs) a b at marks t i j c u r =
    let holds = λ (y : Activity). allows params y ≡ true in
    let unit = unit_minutes params in
    let s = law.lasts.simulation a b at x r.0 i j c (All-head holds x xs u) r.1 in
    let q = follows params m law xs s.0.state r.0.state (at + unit) r.2 t (law.lasts.next_is_state a at x s.0 i s.1) (law.lasts.next_is_state b at x r.0 j r.1) s.2 (All-tail holds x xs u) r.4 in
    let e : at + unit + unit * length xs ≡ at + unit * length (x ∷ xs) = omega arith in
    record { marks = option_to_list s.0.mark ++ q.marks; end = q.end; path = (s.0, s.1, q.marks, refl, q.path); over = subst (λ n. m.covers q.end t n ≡ true) e q.over }

-- what a step reaches is a state
pub step_state : {S : Type 0} (tour : Tour) (m : Machine S) → IsBook tour.params m → IsTour tour →
    (s : S) (k : ℕ) (x : Activity) (n : Next S) → m.is_state s (minute_of tour k) → IsOneOf (m.advances s (minute_of tour k) x (step_units tour)) n → m.is_state n.state (minute_of tour (k + 1))
step_state tour m law t s k x n i h =
    subst (m.is_state n.state) (minute_more tour t k x)
    (reached_state (unit_minutes tour.params) m.is_state m.nexts law.lasts.next_is_state (replicate (step_units tour) x) s (minute_of tour k) (option_to_list n.mark) n.state i (law.advances_reach s (minute_of tour k) x (step_units tour) n i h))

step_simulates : {S : Type 0} (tour : Tour) (m : Machine S) → IsBook tour.params m → IsTour tour →
    (a b : S) (k : ℕ) (x : Activity) (n : Next S) → m.is_state a (minute_of tour k) → m.is_state b (minute_of tour k) → m.covers a b (minute_of tour k) ≡ true → allows tour.params x ≡ true →
    IsOneOf (m.advances b (minute_of tour k) x (step_units tour)) n → IsAnswered (m.advances a (minute_of tour k) x (step_units tour)) (λ t. m.covers t n.state (minute_of tour (k + 1)))
step_simulates tour m law t a b k x n i j c u h =
    let each = step_units tour in
    let q = follows tour.params m law (replicate each x) a b (minute_of tour k) (option_to_list n.mark) n.state i j c
    (All-replicate (λ y. allows tour.params y ≡ true) each x u) (law.advances_reach b (minute_of tour k) x each n j h) in
    let s = law.advances_all a (minute_of tour k) x each q.marks q.end i q.path in
    (s.0, s.1, subst (λ u. m.covers u n.state (minute_of tour (k + 1)) ≡ true) (sym s.2) (subst (λ at. m.covers q.end n.state at ≡ true) (minute_more tour t k x) q.over))

step_tries : {S : Type 0} (tour : Tour) (m : Machine S) → IsBook tour.params m → IsTour tour →
    (s : S) (k : ℕ) (x : Activity) (t : Next S) → m.is_state s (minute_of tour k) → idles x ≡ true → allows tour.params x ≡ true → IsOneOf (m.advances s (minute_of tour k) x (step_units tour)) t →
    (y : Activity) × IsOneOf (idle_list (m.idles s)) y × IsAnswered (m.advances s (minute_of tour k) y (step_units tour)) (λ u. m.covers u t.state (minute_of tour (k + 1)))
step_tries tour m law i s k x t there d u h =
    let few : step_units tour ≤ LONGEST_HISTORY = (let l = step_few tour i in omega arith) in
    let q = law.idles_cover s (minute_of tour k) x (step_units tour) t there (step_some tour i) few d u h in
    (q.0, q.1, (q.2.0, q.2.1, subst (λ at. m.covers q.2.0.state t.state at ≡ true) (units_end tour i k) q.2.2))

-- where the tour allows to idle, it allows each idle activity
idles_there : (tour : Tour) (k p : ℕ) (x : Activity) → may_idle tour p ≡ true → idles x ≡ true → may_do tour k p x ≡ true
idles_there tour k p x h i = may_idle_all tour k p Wait x refl i h

rest_idle_if : (berth : Bool) → idles (cond berth Berth Off) ≡ true
rest_idle_if true = refl
rest_idle_if false = refl

rest_idle : (params : Params) → idles (tour_rest params) ≡ true
rest_idle params = rest_idle_if (has_berth params)

rest_allowed_if : (params : Params) (berth : Bool) → has_berth params ≡ berth → allows params (cond berth Berth Off) ≡ true
rest_allowed_if params true e = e
rest_allowed_if params false e = ap not e

rest_allowed : (params : Params) → allows params (tour_rest params) ≡ true
rest_allowed params = rest_allowed_if params (has_berth params) refl

-- Rest from one state for so many units that ends in a state where resting is still safe, and that covers t.
record RestsFor {S : Type 0} (params : Params) (m : Machine S) (a : S) (at n : ℕ) (t : S) : Type 0 where
  marks : List Mark
  end : S
  path : Reaches (unit_minutes params) m.nexts a at (replicate n (tour_rest params)) marks end
  ahead : m.ahead end ≡ true
  over : m.covers end t (at + unit_minutes params * n) ≡ true

-- a state where resting is safe, and that covers another, rests while the other does anything
rests_for : {S : Type 0} (params : Params) (m : Machine S) → IsBook params m →
    (n : ℕ) (a b : S) (at : ℕ) (x : Activity) (marks : List Mark) (t : S) → m.is_state a at → m.is_state b at → m.ahead a ≡ true → m.covers a b at ≡ true → allows params x ≡ true →
    Reaches (unit_minutes params) m.nexts b at (replicate n x) marks t → RestsFor params m a at n t
rests_for params m law zero a b at x marks t i j h c u r =
    let e : at ≡ at + unit_minutes params * 0 = omega arith in
    record { marks = []; end = a; path = (refl, refl); ahead = h; over = subst (λ k. m.covers a t k ≡ true) e (subst (λ s. m.covers a s at ≡ true) r.0 c) }
rests_for params m law (suc n) a b at x marks t i j h c u r =
    let unit = unit_minutes params in
    let s = law.lasts.simulation a b at x r.0 i j c u r.1 in
    let w = law.rests.ahead_rests a at x s.0 i h u s.1 in
    let is_w = law.lasts.next_is_state a at (tour_rest params) w.0 i w.1 in
    let is_r = law.lasts.next_is_state b at x r.0 j r.1 in
    let over = law.lasts.covers_on w.0.state s.0.state r.0.state (at + unit) is_w (law.lasts.next_is_state a at x s.0 i s.1) is_r w.3 s.2 in
    let q = rests_for params m law n w.0.state r.0.state (at + unit) x r.2 t is_w is_r w.2 over u r.4 in
    let e : at + unit + unit * n ≡ at + unit * suc n = omega arith in
    record { marks = option_to_list w.0.mark ++ q.marks; end = q.end; path = (w.0, w.1, q.marks, refl, q.path); ahead = q.ahead; over = subst (λ k. m.covers q.end t k ≡ true) e q.over }

step_rests : {S : Type 0} (tour : Tour) (m : Machine S) → IsBook tour.params m → IsTour tour →
    (a : S) (k : ℕ) (x : Activity) (n : Next S) → m.is_state a (minute_of tour k) → m.ahead a ≡ true → allows tour.params x ≡ true → IsOneOf (m.advances a (minute_of tour k) x (step_units tour)) n →
    (u : Next S) × IsOneOf (m.advances a (minute_of tour k) (tour_rest tour.params) (step_units tour)) u × (m.ahead u.state ≡ true) × (m.covers u.state n.state (minute_of tour (k + 1)) ≡ true)
step_rests tour m law t a k x n i h u o =
    let each = step_units tour in
    let at = minute_of tour k in
    let q = rests_for tour.params m law each a a at x (option_to_list n.mark) n.state i i h (law.covers_itself a at i) u (law.advances_reach a at x each n i o) in
    let s = law.advances_all a at (tour_rest tour.params) each q.marks q.end i q.path in
    (s.0, s.1, subst (λ v. m.ahead v ≡ true) (sym s.2) q.ahead, subst (λ v. m.covers v n.state (minute_of tour (k + 1)) ≡ true) (sym s.2) (subst (λ e. m.covers q.end n.state e ≡ true) (units_end tour t k) q.over))

-- a tour has something to do
service_some : (number n : ℕ) → 1 ≤ n → 0 < length (service_word number n)
service_some number zero l = absurd (omega arith)
service_some number (suc n) l = omega arith

word_from_some : (grid number : ℕ) (stops : List Stop) → 1 ≤ length stops → All (IsStop grid) stops → 0 < length (word_from number stops)
word_from_some grid number [] l a = absurd (omega arith)
word_from_some grid number (s ∷ stops) l a =
    let e = length-append (replicate s.drive (piece.Drive number)) (service_word number s.service ++ word_from (number + 1) stops) in
    let f = length-append (service_word number s.service) (word_from (number + 1) stops) in
    let some = service_some number s.service (All-head (IsStop grid) s stops a).some_service in
    omega arith

pub word_some : (tour : Tour) → IsTour tour → 0 < word_length tour
word_some tour t = word_from_some tour.grid 0 tour.stops t.some_stops t.stops

-- and no more than so many steps
le_times : (n grid : ℕ) → 1 ≤ grid → n ≤ n * grid
le_times n grid some = let h = mul-le-mul_left n some in omega arith

word_from_few : (grid number : ℕ) (stops : List Stop) → 1 ≤ grid → All (IsStop grid) stops → length (word_from number stops) ≤ (MOST_DRIVE + MOST_SERVICE) * length stops
word_from_few grid number [] some a = omega arith
word_from_few grid number (s ∷ stops) some a =
    let h = All-head (IsStop grid) s stops a in
    let d = le_times s.drive grid some in
    let e = le_times s.service grid some in
    let drive = h.drive in
    let service = h.service in
    let rest = word_from_few grid (number + 1) stops some (All-tail (IsStop grid) s stops a) in
    let whole = length-word s number stops in
    omega arith

pub word_few : (tour : Tour) → IsTour tour → word_length tour < 1000000
word_few tour t =
    let few = word_from_few tour.grid 0 tour.stops (tour_grid_some tour t) t.stops in
    let stops = t.few_stops in
    omega arith

-- the laws of the problem, by a bound that obeys its laws
pub problem_laws_by : {S : Type 0} (tour : Tour) (m : Machine S) (bound : ℕ → ℕ → S → Option ℕ) → IsBook tour.params m → IsTour tour → ObeysBound tour m bound →
    IsProblem (problem_by tour m bound) (state_at tour m) (allows tour.params)
problem_laws_by tour m bound law t obeys = record {
  goal_some = word_some tour t;
  next_is = step_state tour m law t;
  itself = λ s k i. law.covers_itself s (minute_of tour k) i;
  on = λ a b c k. law.lasts.covers_on a b c (minute_of tour k);
  simulates = step_simulates tour m law t;
  tries_idle = λ s k y i h. law.idles_allowed s (minute_of tour k) y i h;
  tries_cover = step_tries tour m law t;
  works_allowed = works_allowed tour.params;
  may_before = may_before tour;
  may_idle = may_idle_all tour;
  idles_there = idles_there tour;
  rest = tour_rest tour.params;
  rest_idle = rest_idle tour.params;
  rest_allowed = rest_allowed tour.params;
  ahead_rests = step_rests tour m law t;
  bounded = obeys;
}

-- the earliest end with no rules does
pub eta_obeys : {S : Type 0} (tour : Tour) (m : Machine S) → ObeysBound tour m (eta_bound tour)
eta_obeys tour m = record {
  full = λ k l ends. ap (eta_of tour k) ends ∙ eta_full tour k;
  before = λ k l x n e here may ok o by. (let q = eta_before tour k l.progress x e may by in record { at = q.0; is = q.1; by = q.2 });
}

-- and it is a bound of the tour
pub eta_is_bound : {S : Type 0} (tour : Tour) (m : Machine S) → IsTour tour → IsBoundOf tour m (eta_bounds tour)
eta_is_bound tour m t = record {
  asked_early = λ step progress few within. (t, within, few);
  asked = λ step progress s few within there. tt;
  sooner = λ step progress s e few within there is. record { at = e; is = is; by = omega arith };
}

pub problem_laws : {S : Type 0} (tour : Tour) (m : Machine S) → IsBook tour.params m → IsTour tour →
    IsProblem (problem_of tour m) (state_at tour m) (allows tour.params)
problem_laws tour m law t = problem_laws_by tour m (eta_bound tour) law t (eta_obeys tour m)

-- What does not read the bound is the same by each: a label's successors.
pub successors_by : {S : Type 0} (tour : Tour) (m : Machine S) (bound : ℕ → ℕ → S → Option ℕ) (step : ℕ) (l : Label S) → successors_of (problem_of tour m) step l ≡ successors_of (problem_by tour m bound) step l
unfolding successors_of
successors_by tour m bound step l = refl
