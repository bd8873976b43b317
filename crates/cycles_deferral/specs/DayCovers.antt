-- When the days of one history may stand for those of another of the same length and first minute, whatever comes next.
use Rattle.std.proofs.Common.{◌≡◌, ◌+◌, ◌≤◌, ◌⊎◌, true}
use Rattle.std.specs.Prelude.{Option, Some}
use Rattle.duty_core.specs.declared.mark.Mark.{Mark}
use Rattle.duty_core.specs.declared.limits.TheConstants.{CA_LOST_LIMIT, CA_BOTH_LOST_LIMIT}
use Rattle.cycles_deferral.specs.declared.days.DayCount.{DayCount}
use Rattle.cycles_deferral.specs.declared.days.CanadaDays.{CanadaDays}
use Rattle.cycles_deferral.specs.DayMachine.{needed}

-- no more minutes of the day are lost, both where rest follows for good and where duty follows
pub record LosesNoMore (a b : DayCount) : Type 0 where
  pub at_rest : a.lost ≤ b.lost
  pub at_duty : a.lost + a.short ≤ b.lost + b.short

-- today has had all the rest that yesterday defers to it, even where duty follows
abbrev pub HasRestToday : CanadaDays → Type 0
HasRestToday s = needed (s.yesterday.lost + s.yesterday.short) ≤ s.today.longest

-- Yesterday loses too little for a deferral and cannot lose more; or it loses no more than the other, and has its rest already or the longest rest with a minute in today is no shorter.
abbrev pub YesterdayCovers : CanadaDays → CanadaDays → Type 0
YesterdayCovers a b = (a.yesterday.lost + a.yesterday.short ≤ CA_LOST_LIMIT) ⊎ (LosesNoMore a.yesterday b.yesterday × (HasRestToday a ⊎ (b.today.longest ≤ a.today.longest)))

-- yesterday has had all the rest that the day before defers to it
abbrev pub HasRestYesterday : CanadaDays → Type 0
HasRestYesterday s = needed s.before ≤ s.yesterday.longest

-- a deferral from the day before yesterday is met already: yesterday has had its rest, and both lose no more than both may, even where duty follows
pub record IsMet (s : CanadaDays) : Type 0 where
  pub rest : HasRestYesterday s
  pub both : s.before + (s.yesterday.lost + s.yesterday.short) ≤ CA_BOTH_LOST_LIMIT

-- the longest rest with a minute in yesterday is no shorter, and grows on where that of the other does
pub record RestsAsLong (a b : CanadaDays) : Type 0 where
  pub longer : b.yesterday.longest ≤ a.yesterday.longest
  pub reaches : b.reaches ≡ true → a.reaches ≡ true

-- a deferral from the day before yesterday ends as well
pub record EndsAsWell (a b : CanadaDays) : Type 0 where
  pub fewer : a.before ≤ b.before
  pub yesterday : LosesNoMore a.yesterday b.yesterday
  pub rest : HasRestYesterday a ⊎ RestsAsLong a b

-- the day before yesterday defers nothing, or that is met already, or ends as well
abbrev pub EndsCover : CanadaDays → CanadaDays → Type 0
EndsCover a b = (a.before ≤ CA_LOST_LIMIT) ⊎ IsMet a ⊎ EndsAsWell a b

-- The days a, of the day of the next minute, may stand for b.
pub record DaysCover (a b : CanadaDays) : Type 0 where
  pub same_way : a.way ≡ b.way
  pub same_minute : a.minute ≡ b.minute
  pub rested : b.rest ≤ a.rest
  pub today_no_more : LosesNoMore a.today b.today
  pub yesterday : YesterdayCovers a b
  pub ends : EndsCover a b

-- # One more minute

-- the days go on, and may stand for those of the other
pub record CoversOn (got : Option (CanadaDays × Option Mark)) (u : CanadaDays) : Type 0 where
  pub days : CanadaDays
  pub mark : Option Mark
  pub is : got ≡ Some (days, mark)
  pub covers : DaysCover days u
