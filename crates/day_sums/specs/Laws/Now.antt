-- What the sums say of the days up to now, the day of the unit to come counted.
use Rattle.std.proofs.Common.{◌≡◌, ℕ, ◌+◌, ◌-◌, ◌<◌, ◌≤◌, Bool, List, [], ◌∷◌, ◌++◌, length, refl, subst, arith, inl, inr}
use Rattle.std.proofs.lemmas.Bool.{cases_lt}
use Rattle.duty_core.specs.declared.activity.Activity.{Activity}
use Rattle.duty_core.specs.declared.activity.Activity.TheVariants.{Serve}
use Rattle.duty_core.specs.Laws.HistoryLaws.{length-one_more, alike_back, alike_append}
use Rattle.duty_core.specs.RestRun.{IsLongRun}
use Rattle.duty_core.specs.RestRun.{EndsIn}
use Rattle.duty_core.specs.Laws.RunLaws.{run_inside, run_is_open, long_alike}
use Rattle.duty_core.specs.Counting.{duty, CountsInDays, IsDaysBase}
use Rattle.day_sums.specs.Sums.{first_days, added}
use Rattle.day_sums.specs.Laws.SumLaws.{first_added, length-added}
use Rattle.day_sums.specs.Counted.{TracksDays, IsDutyOfDays, turned}
use Rattle.day_sums.specs.Laws.Counted.{IsTurn, length-turned, count_more, tracks_duty}

-- After p, at the unit to come, w is the duty of so many days since the last restart.
pub record IsDutyNow (day : ℕ → ℕ) (days restart : ℕ) (p : List Activity) (w : ℕ) : Type 0 where
  pub from : ℕ
  pub base : IsDaysBase day days restart p (length p) from
  pub count : duty p from (length p) ≡ w

-- the run in progress is no restart, so that the unit to come ends none
no_restart : (restart : ℕ) (p : List Activity) (run a b : ℕ) → run < restart → EndsIn p run → b ≤ length p → IsLongRun restart (p ++ Serve ∷ []) a b → b < length p
no_restart restart p run a b l e m r = elim (cases_lt b (length p)) [
  | inl u ↦ u
  | inr u ↦
      let q : b ≡ length p = omega arith in
      let s : IsLongRun restart (p ++ Serve ∷ []) a (length p) = subst (IsLongRun restart (p ++ Serve ∷ []) a) q r in
      absurd (let y = run_is_open p (Serve ∷ []) run a e s.run in let z = s.long in omega arith)
]

counts_front : (day : ℕ → ℕ) (restart : ℕ) (p : List Activity) (n k : ℕ) → CountsInDays day n restart (p ++ Serve ∷ []) (length p) k → CountsInDays day n restart p (length p) k
counts_front day restart p n k h = record {
  before = h.before;
  inside = h.inside;
  after = λ a b r l. h.after a b (long_alike (alike_append p (Serve ∷ [])) (run_inside p a b r.run) r) l;
}

counts_again : (day : ℕ → ℕ) (restart : ℕ) (p : List Activity) (run n k : ℕ) → run < restart → EndsIn p run → CountsInDays day n restart p (length p) k → CountsInDays day n restart (p ++ Serve ∷ []) (length p) k
counts_again day restart p run n k l e h = record {
  before = h.before;
  inside = h.inside;
  after = λ a b r m. (let u = no_restart restart p run a b l e m r in h.after a b (long_alike (alike_back (alike_append p (Serve ∷ []))) u r) m);
}

-- The sums by the day of the unit to come are the duty of its days, while the run in progress is no restart.
pub duty_now : (day : ℕ → ℕ) (restart : ℕ) (p : List Activity) (turn : Bool) (run : ℕ) (sums : List ℕ) → 0 < length sums → ((j k : ℕ) → j ≤ k → day j ≤ day k) → IsTurn day p turn → TracksDays day restart p run sums → run < restart →
    (n : ℕ) → 0 < n → n ≤ length sums → IsDutyNow day n restart p (first_days n (turned turn sums))
duty_now day restart p turn run sums some on t h l n pos m =
    let new : List ℕ = turned turn sums in
    let len = length-turned turn sums in
    let end = length-one_more p Serve in
    let k : TracksDays day restart (p ++ Serve ∷ []) 0 (added 1 new) = tracks_duty day restart p Serve turn run sums (omega arith) refl some on t h in
    let d : IsDutyOfDays day n restart (p ++ Serve ∷ []) (first_days n (added 1 new)) = k.sums_are (omega arith) n pos (omega (arith, length-added 1 new)) in
    let last : length (p ++ Serve ∷ []) - 1 ≡ length p = omega arith in
    let b : IsDaysBase day n restart (p ++ Serve ∷ []) (length p) d.from = subst (λ i. IsDaysBase day n restart (p ++ Serve ∷ []) i d.from) last d.base in
    record {
      from = d.from;
      base = record {
        counts = counts_front day restart p n d.from b.counts;
        first = λ j c. b.first j (counts_again day restart p run n j l h.ends c);
      };
      count = let c = count_more p Serve d.from b.counts.before in let e = d.count in let f = first_added n 1 new pos (omega arith) in let w : duty (p ++ Serve ∷ []) d.from (length (p ++ Serve ∷ [])) ≡ duty p d.from (length p) + 1 = c in omega arith;
    }
