-- What the layers of a search tell of a tour after a log.
use Rattle.std.proofs.Common.{◌≡◌, ℕ, ◌+◌, ◌-◌, ◌*◌, ◌<◌, ◌≤◌, Bool, true, List, ◌++◌, length, refl, sym, ◌∙◌, ap, ap₂, subst, arith, inl, inr}
use Rattle.std.specs.Prelude.{Option, None, Some, unwrap_or}
use Rattle.duty_core.specs.declared.activity.Activity.{Activity}
use Rattle.duty_core.specs.Params.{unit_minutes, allows}
use Rattle.duty_core.specs.declared.limits.TheConstants.{LONGEST_LOG}
use Rattle.rule_core.specs.declared.roots.Root.{Root}
use Rattle.rule_core.specs.Reach.{IsOneOf}
use Rattle.rule_core.specs.Machine.{Machine, LeadsTo}
use Rattle.rule_core.specs.Book.{IsBook}
use Rattle.rule_core.specs.Replay.{AreRootsOf}
use Rattle.tour_model.specs.declared.label.Label.{Label}
use Rattle.tour_model.specs.declared.tour.Tour.{Tour}
use Rattle.tour_model.specs.Tour.{IsTour}
use Rattle.tour_model.specs.Word.{word_length}
use Rattle.tour_model.specs.Layer.{layer_at}
use Rattle.tour_model.specs.Schedule.{log_start, duration, IsSolutionWith}
use Rattle.cert_text.specs.CoverLists.Problem.{Problem, root_label}
use Rattle.cert_text.specs.CoverLists.Planning.{minute_of, state_at, problem_of, IsLogState}
use Rattle.cert_text.specs.CoverLists.Cover.{IsCovered, IsAtLeast, taken, IsCoverList}
use Rattle.cert_text.specs.CoverLists.Continuation.{takes}
use Rattle.cert_text.specs.CoverLists.Laws.ProblemLaws.{IsProblem}
use Rattle.cert_text.specs.CoverLists.Laws.BetterLaws.{better_from, better_on}
use Rattle.cert_text.specs.CoverLists.Laws.CoverLaws.{pruned_more, departed_from, no_shorter}
use Rattle.cert_text.specs.CoverLists.Laws.ProblemOf.{problem_laws}
use Rattle.cert_text.specs.CoverLists.Laws.SolutionLaws.{log_ends, log_state, solution_by, way_solves_with, no_solution, solution_shortest}
use Rattle.label_state.specs.declared.kept.Kept.{Kept}
use Rattle.label_state.specs.declared.kept.Place.{Place}
use Rattle.label_state.specs.Layers.{labels_of, label_layers, label_count}
use Rattle.label_state.specs.Laws.LayerLaws.{label_kept}
use Rattle.label_state.specs.Path.{kept_at, root_of, path_of, way_marks, root_marks, path_marks}
use Rattle.label_search.specs.declared.best.Best.{Best}
use Rattle.label_search.specs.Sound.{IsSound}
use Rattle.label_search.specs.Searched.{HasSolution, IsSpent, IsAnswer, IsWithin, layers_of}
use Rattle.label_search.specs.Searching.{IsRootState, IsSolved, IsLimit, ended_by}
use Rattle.label_search.specs.Laws.Searching.{IsFinishedAt}
use Rattle.label_search.proofs.SoundLaws.{sound_way, sound_labels}
use Rattle.label_search.proofs.SearchLaws.{IsSearching}
use Rattle.label_search.proofs.Places.{one_of_place}

-- a root's state is one of the start
pub root_state : {S : Type 0} (is_state : S → ℕ → Type 0) (roots : List (Root S)) (step : ℕ) → ((r : Root S) → IsOneOf roots r → is_state r.state step) → (s : S) → IsRootState roots s → is_state s step
root_state is_state roots step h s r = subst (λ t. is_state t step) r.2 (h r.0 r.1)

-- the duration of a continuation of the first label
takes_first : {S : Type 0} (s : S) (xs : List Activity) → takes 0 (root_label s) xs ≡ duration xs
takes_first s xs = ap₂ (λ n o. n - unwrap_or o 0) (let e : 0 + length xs ≡ length xs = omega arith in e) (departed_from 0 xs)

-- the path to a finished label of sound layers is a solution, with its marks
pub path_solves : {S : Type 0} (tour : Tour) (log : List Activity) (m : Machine S) → IsBook tour.params m → IsTour tour → unit_minutes tour.params * length log ≤ LONGEST_LOG →
    (roots : List (Root S)) → ((r : Root S) → IsOneOf roots r → LeadsTo (unit_minutes tour.params) m (log_start tour log) log r.marks r.state) →
    (layers : List (List (Kept S))) (step index : ℕ) (k : Kept S) → IsSound (problem_of tour m) roots layers → kept_at layers step index ≡ Some k → k.label.progress ≡ word_length tour →
    IsSolutionWith tour log (path_of layers step index) (path_marks layers roots step index) × (duration (path_of layers step index) ≡ taken step k.label)
path_solves tour log m law t l roots reached layers step index k sound there goal =
    let problem = problem_of tour m in
    let laws = problem_laws tour m law t in
    let states = log_state tour log m law t l in
    let b = sound_way problem (state_at tour m) (allows tour.params) (IsLogState tour log m) roots layers laws states (λ r o. (r.marks, reached r o)) sound step index k there in
    let w = b.way in
    let xs = path_of layers step index in
    let marked : b.root.marks ++ way_marks layers step index ≡ path_marks layers roots step index = sym (ap (λ o. root_marks o ++ way_marks layers step index) b.there) in (
      subst (IsSolutionWith tour log xs) marked
          (way_solves_with tour log m law t l b.root.state b.root.marks (reached b.root (one_of_place roots (root_of layers step index) b.root b.there)) xs (way_marks layers step index) k.label.state w.goes (sym w.progress ∙ goal) w.path),
      sym (ap₂ (λ n d. n - unwrap_or d 0) (sym w.long) w.depart),
    )

-- a cover list over the roots is one over all states that the log reaches
covers_log : {S : Type 0} (tour : Tour) (log : List Activity) (m : Machine S) → IsBook tour.params m → IsTour tour → unit_minutes tour.params * length log ≤ LONGEST_LOG →
    (roots : List (Root S)) → AreRootsOf (unit_minutes tour.params) m (log_start tour log) log roots →
    (layer : List (Label S)) → ((l : Label S) → IsOneOf layer l → state_at tour m l.state 0) →
    ((s : S) → IsRootState roots s → IsCovered (problem_of tour m) 0 layer (root_label s)) →
    (s : S) → IsLogState tour log m s → IsCovered (problem_of tour m) 0 layer (root_label s)
covers_log tour log m law t l roots h layer here started s r =
    let problem = problem_of tour m in
    let laws = problem_laws tour m law t in
    let states = log_state tour log m law t l in
    let q = h.all s r.0 r.1 in
    let d = started q.0.state (q.0, q.1, refl) in
    let over : m.covers q.0.state s (minute_of tour 0) ≡ true = subst (λ at. m.covers q.0.state s at ≡ true) (log_ends tour t log l) q.2 in
    let b = better_from problem 0 (root_label q.0.state) (root_label s) (record { depart = refl; progress = inl refl; state = over }) in (
      d.0,
      d.1,
      better_on problem (state_at tour m) (allows tour.params) laws 0 d.0 (root_label q.0.state) (root_label s) (here d.0 d.1) (states q.0.state (q.0.marks, h.reached q.0 q.1)) (states s r) refl d.2 b,
    )

cover_list_log : {S : Type 0} (tour : Tour) (log : List Activity) (m : Machine S) → IsBook tour.params m → IsTour tour → unit_minutes tour.params * length log ≤ LONGEST_LOG →
    (roots : List (Root S)) → AreRootsOf (unit_minutes tour.params) m (log_start tour log) log roots → (target : Option ℕ) (layers : List (List (Label S))) →
    IsCoverList (problem_of tour m) (state_at tour m) (IsRootState roots) target layers → IsCoverList (problem_of tour m) (state_at tour m) (IsLogState tour log m) target layers
cover_list_log tour log m law t l roots h target layers c = record {
  started = covers_log tour log m law t l roots h (layer_at layers 0) (λ k o. (c.labels 0 k o).state) c.started;
  labels = c.labels;
  finished = c.finished;
  better = c.better;
  answered = c.answered;
}

-- a whole way from a root is a solution
solved_log : {S : Type 0} (tour : Tour) (log : List Activity) (m : Machine S) → IsBook tour.params m → IsTour tour → unit_minutes tour.params * length log ≤ LONGEST_LOG →
    (roots : List (Root S)) → AreRootsOf (unit_minutes tour.params) m (log_start tour log) log roots → (n : ℕ) →
    IsSolved (problem_of tour m) (allows tour.params) (IsRootState roots) n → HasSolution tour log n
solved_log tour log m law t l roots h n s =
    let r = s.starts_there in
    let start = subst (λ u. LeadsTo (unit_minutes tour.params) m (log_start tour log) log r.0.marks u) r.2 (h.reached r.0 r.1) in
    record {
      schedule = s.way;
      solves = solution_by tour log s.way (r.0.marks ++ s.goes.marks) (way_solves_with tour log m law t l s.start r.0.marks start s.way s.goes.marks s.goes.end s.goes.goes s.goes.finishes s.goes.path);
      takes = subst (λ k. k ≤ n) (takes_first s.start s.way) s.within;
    }

-- where a cover list has a limit that a whole way stays below, that cannot be
limit_beaten : {S : Type 0} (problem : Problem S) (is_state : S → ℕ → Type 0) (allowed : Activity → Bool) (starts : S → Type 0) (first : Option ℕ) (layers : List (List (Label S))) → IsProblem problem is_state allowed →
    ((s : S) → starts s → is_state s 0) → IsLimit problem allowed starts first → IsCoverList problem is_state starts first layers → first ≡ None
limit_beaten problem is_state allowed starts None layers laws states limit c = refl
limit_beaten problem is_state allowed starts (Some t) layers laws states limit c =
    let s = limit.1 in
    let lt = limit.2 in
    let a : t ≤ duration s.way = no_shorter problem is_state allowed starts (Some t) layers laws c s.start s.starts_there (states s.start s.starts_there) s.way s.goes.marks s.goes.end s.goes.goes s.goes.finishes s.goes.path in
    let b : duration s.way ≤ limit.0 = subst (λ k. k ≤ limit.0) (takes_first s.start s.way) s.within in
    absurd (omega arith)

-- ---- the answers

-- what an ended search answers of each log
pub ended_answer : {S : Type 0} (tour : Tour) (log : List Activity) (m : Machine S) → IsBook tour.params m → IsTour tour → unit_minutes tour.params * length log ≤ LONGEST_LOG →
    (roots : List (Root S)) → AreRootsOf (unit_minutes tour.params) m (log_start tour log) log roots →
    (budget : ℕ) (first : Option ℕ) (limit : Option ℕ) (place : Option Place) (layers : List (List (Kept S))) → IsSound (problem_of tour m) roots layers →
    IsLimit (problem_of tour m) (allows tour.params) (IsRootState roots) first →
    ((p : Place) → place ≡ Some p → IsFinishedAt (word_length tour) layers p limit) → (place ≡ None → limit ≡ first) →
    IsCoverList (problem_of tour m) (state_at tour m) (IsRootState roots) limit (label_layers layers) →
    IsAnswer (problem_of tour m) (state_at tour m) tour log (IsLogState tour log m) roots budget (ended_by place layers)
ended_answer {S} tour log m law t l roots h budget first limit None layers sound least found unfound c =
    let problem = problem_of tour m in
    let laws = problem_laws tour m law t in
    let states = log_state tour log m law t l in
    let e : limit ≡ first = unfound refl in
    let cf = subst (λ o. IsCoverList problem (state_at tour m) (IsRootState roots) o (label_layers layers)) e c in
    let starts : (s : S) → IsRootState roots s → state_at tour m s 0 = (λ s r. states s (r.0.marks, subst (λ u. LeadsTo (unit_minutes tour.params) m (log_start tour log) log r.0.marks u) r.2 (h.reached r.0 r.1))) in
    let none = limit_beaten problem (state_at tour m) (allows tour.params) (IsRootState roots) first (label_layers layers) laws starts least cf in
    let cn = cover_list_log tour log m law t l roots h None (label_layers layers) (subst (λ o. IsCoverList problem (state_at tour m) (IsRootState roots) o (label_layers layers)) none cf) in
    record { infeasible = no_solution tour log m law t l (label_layers layers) cn; covers = cn }
ended_answer tour log m law t l roots h budget first limit (Some p) layers sound least found unfound c =
    let problem = problem_of tour m in
    let f = found p refl in
    let cl = cover_list_log tour log m law t l roots h (Some (taken p.layer f.kept.label)) (label_layers layers)
    (subst (λ o. IsCoverList problem (state_at tour m) (IsRootState roots) o (label_layers layers)) f.takes c) in
    let s = path_solves tour log m law t l roots h.reached layers p.layer p.index f.kept sound f.there f.finished in
    record {
      best = f.kept;
      there = f.there;
      finished = f.finished;
      solves = s.0;
      shortest = solution_shortest tour log m law t l (label_layers layers) (path_of layers p.layer p.index) (Some (taken p.layer f.kept.label)) (ap Some (sym s.1))
          (solution_by tour log (path_of layers p.layer p.index) (path_marks layers roots p.layer p.index) s.0) cl;
      takes = s.1;
      covers = cl;
    }

-- some solution takes no more than the limit
limit_backed : {S : Type 0} (tour : Tour) (log : List Activity) (m : Machine S) → IsBook tour.params m → IsTour tour → unit_minutes tour.params * length log ≤ LONGEST_LOG →
    (roots : List (Root S)) → AreRootsOf (unit_minutes tour.params) m (log_start tour log) log roots →
    (first limit : Option ℕ) (place : Option Place) (layers : List (List (Kept S))) → IsSound (problem_of tour m) roots layers →
    IsLimit (problem_of tour m) (allows tour.params) (IsRootState roots) first →
    ((p : Place) → place ≡ Some p → IsFinishedAt (word_length tour) layers p limit) → (place ≡ None → limit ≡ first) → (n : ℕ) → IsAtLeast limit n → HasSolution tour log n
limit_backed tour log m law t l roots h None limit None layers sound least found unfound n a =
    absurd (subst (λ o. IsAtLeast o n) (unfound refl) a)
limit_backed tour log m law t l roots h (Some u) limit None layers sound least found unfound n a =
    let b : u ≤ n = subst (λ o. IsAtLeast o n) (unfound refl) a in
    let s = solved_log tour log m law t l roots h least.0 least.1 in
    let lt = least.2 in
    record { schedule = s.schedule; solves = s.solves; takes = (let k = s.takes in omega arith) }
limit_backed tour log m law t l roots h first limit (Some p) layers sound least found unfound n a =
    let f = found p refl in
    let b : taken p.layer f.kept.label ≤ n = subst (λ o. IsAtLeast o n) f.takes a in
    let s = path_solves tour log m law t l roots h.reached layers p.layer p.index f.kept sound f.there f.finished in
    record {
      schedule = path_of layers p.layer p.index;
      solves = solution_by tour log (path_of layers p.layer p.index) (path_marks layers roots p.layer p.index) s.0;
      takes = subst (λ k. k ≤ n) (sym s.1) b;
    }

-- what a spent search answers of each log
pub spent_answer : {S : Type 0} (tour : Tour) (log : List Activity) (m : Machine S) → IsBook tour.params m → IsTour tour → unit_minutes tour.params * length log ≤ LONGEST_LOG →
    (roots : List (Root S)) → AreRootsOf (unit_minutes tour.params) m (log_start tour log) log roots →
    (budget step : ℕ) (first : Option ℕ) (best : Best) (layers : List (List (Kept S))) → IsLimit (problem_of tour m) (allows tour.params) (IsRootState roots) first →
    IsSearching (problem_of tour m) roots (state_at tour m) budget step first best layers → budget ≤ label_count layers →
    IsSpent (problem_of tour m) tour log (IsLogState tour log m) budget layers
spent_answer {S} tour log m law t l roots h budget step first best layers least s full =
    let problem = problem_of tour m in
    let laws = problem_laws tour m law t in
    let states = log_state tour log m law t l in
    let depth = s.depth in
    record {
      worked = record {
        started = λ two. covers_log tour log m law t l roots h (labels_of (layer_at layers 0))
            (λ k o. (let q = label_kept (layer_at layers 0) k o in subst (λ j. state_at tour m j.state 0) q.2 (s.labels 0 q.0 q.1).state)) (s.started (inl (omega arith)));
        answered = λ n less k o unfinished g p. elim (s.answered n (omega arith) (inl (omega arith)) k o g p) [
          | inl off ↦ inl (pruned_more (IsAtLeast best.limit) (HasSolution tour log) g.label.depart (problem.bound (n + 1) g.label)
              (limit_backed tour log m law t l roots h first best.limit best.place layers s.sound least s.found s.unfound) off)
          | inr c ↦ inr c
        ];
      };
      many = sound_labels problem (state_at tour m) (allows tour.params) (IsLogState tour log m) roots layers budget laws states (λ r o. (r.marks, h.reached r o)) s.sound full;
    }

-- ---- how many labels there are

pub ended_within : {S : Type 0} (budget : ℕ) (place : Option Place) (layers : List (List (Kept S))) → label_count layers < budget → IsWithin budget (ended_by place layers)
ended_within budget None layers lt = lt
ended_within budget (Some p) layers lt = lt

pub ended_layers : {S : Type 0} (place : Option Place) (layers : List (List (Kept S))) → layers_of (ended_by place layers) ≡ layers
ended_layers None layers = refl
ended_layers (Some p) layers = refl
