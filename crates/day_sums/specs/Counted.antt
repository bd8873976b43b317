-- What the sums of a history mean: the duty of the last days since the last restart. A history is seen as its units so far, p, and `day` tells the number of
-- the day of each place.
use Rattle.std.proofs.Common.{◌≡◌, ℕ, ◌-◌, ◌<◌, ◌≤◌, Bool, List, length}
use Rattle.std.specs.Prelude.{if◌then◌else◌, nat_lt}
use Rattle.duty_core.specs.declared.activity.Activity.{Activity}
use Rattle.duty_core.specs.RestRun.{EndsIn}
use Rattle.duty_core.specs.Counting.{duty, IsDaysBase}
use Rattle.day_sums.specs.Sums.{first_days, rolled, cleared}

-- At the last unit of p, w is the duty of so many days since the last restart: from the first place that counts.
pub record IsDutyOfDays (day : ℕ → ℕ) (days restart : ℕ) (p : List Activity) (w : ℕ) : Type 0 where
  pub from : ℕ
  pub base : IsDaysBase day days restart p (length p - 1) from
  pub count : duty p from (length p) ≡ w

-- At the last unit of p, for each n up to the number of the sums, the first n of them together are the duty of these n days since the last restart.
abbrev pub AreDaySums : (ℕ → ℕ) → ℕ → List Activity → List ℕ → Type 0
AreDaySums day restart p sums = (n : ℕ) → 0 < n → n ≤ length sums → IsDutyOfDays day n restart p (first_days n sums)

-- The sums of the units so far, which end with a run of rest: while that run is no restart they are the duty of the days, and from then on they are zeros.
pub record TracksDays (day : ℕ → ℕ) (restart : ℕ) (p : List Activity) (run : ℕ) (sums : List ℕ) : Type 0 where
  pub some : 0 < length p
  pub ends : EndsIn p run
  pub sums_are : run < restart → AreDaySums day restart p sums
  pub rested : restart ≤ run → sums ≡ cleared sums

-- the sums where a new day may begin
abbrev pub turned : Bool → List ℕ → List ℕ
turned turn sums = if turn then rolled sums else sums

-- the sums after a unit of rest, where the run in progress is `run` with it
abbrev pub after_rest : ℕ → ℕ → List ℕ → List ℕ
after_rest restart run sums = if nat_lt run restart then sums else cleared sums
