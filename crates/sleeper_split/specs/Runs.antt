-- Many equal units at once.
use Rattle.std.proofs.Common.{ℕ, ◌+◌, Bool, cond, zero, suc}
use Rattle.std.specs.Prelude.{min, max}
use Rattle.duty_core.specs.declared.limits.TheConstants.{COUNT_LIMIT}
use Rattle.sleeper_split.specs.declared.count.Used.{Used}
use Rattle.sleeper_split.specs.declared.count.OpenRun.{OpenRun}
use Rattle.sleeper_split.specs.declared.count.SplitCount.{SplitCount}

-- so many units, one by one
abbrev pub repeated : (SplitCount → SplitCount) → ℕ → SplitCount → SplitCount
repeated step zero s = s
repeated step (suc n) s = repeated step n (step s)

-- so many more, up to the greatest count
abbrev pub more : ℕ → ℕ → ℕ
more n count = min (count + n) COUNT_LIMIT

abbrev pub longer_run : Bool → ℕ → OpenRun → OpenRun
longer_run berth n r = record {
  long = more n r.long;
  stretch = cond berth (more n r.stretch) 0;
  longest = max r.longest (cond berth (more n r.stretch) 0);
}

abbrev pub rested_run : ℕ → Used → Used
rested_run n u = record { driving = u.driving; duty = u.duty; elapsed = more n u.elapsed }

abbrev pub worked_run : Bool → ℕ → Used → Used
worked_run drive n u = record {
  driving = cond drive (more n u.driving) u.driving;
  duty = more n u.duty;
  elapsed = more n u.elapsed;
}
