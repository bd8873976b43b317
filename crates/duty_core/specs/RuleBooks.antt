-- The rule books: which rules each has, in its order, and what keeping a rule is.
use Rattle.std.specs.Prelude.{ℕ, List, [], ◌∷◌, All}
use Rattle.duty_core.specs.declared.activity.Activity.{Activity}
use Rattle.duty_core.specs.declared.mark.Mark.{Mark}
use Rattle.duty_core.specs.declared.params.Params.{Params}
use Rattle.duty_core.specs.declared.params.Params.TheVariants.{UsProperty, Canada, Hvnl}
use Rattle.duty_core.specs.declared.rule.Rule.{Rule}
use Rattle.duty_core.specs.declared.rule.Rule.TheVariants.{UsWindow14, UsDrive11, UsBreak8, UsWeek, UsPair, CaDay13, CaDay14, CaShift13, CaShift14, CaElapsed16, CaOff10, CaDefer, CaPair, Ca24in14, CaCycle, Ca70without24, Au5h30, Au8h, Au11h, Au24h, Au24hRest, Au7d, Au7dRest, Au14d, Au14dNights}
use Rattle.duty_core.specs.History.{padded}
use Rattle.duty_core.specs.Day.{day_number}
use Rattle.duty_core.specs.Marks.{AreMarks, IsSplitAt, IsDeferred}
use Rattle.duty_core.specs.UsRules.{MeetsUsWindow14, MeetsUsDrive11, MeetsUsBreak8, MeetsUsWeek, MeetsUsPair}
use Rattle.duty_core.specs.CaDay.{MeetsCaDay13, MeetsCaDay14}
use Rattle.duty_core.specs.CaShift.{MeetsCaShift13, MeetsCaShift14, MeetsCaElapsed16, MeetsCaPair}
use Rattle.duty_core.specs.Deferral.{MeetsCaOff10, MeetsCaDefer}
use Rattle.duty_core.specs.CaCycle.{MeetsCa24in14, MeetsCaCycle, MeetsCa70without24}
use Rattle.duty_core.specs.AuPeriods.{MeetsAu5h30, MeetsAu8h, MeetsAu11h, MeetsAu24h, MeetsAu24hRest, MeetsAu7d, MeetsAu7dRest, MeetsAu14d}
use Rattle.duty_core.specs.AuNights.{MeetsAu14dNights}

-- the rules of the book, in its order
abbrev pub rules_of : Params → List Rule
rules_of (UsProperty berth days start) = UsWindow14 ∷ UsDrive11 ∷ UsBreak8 ∷ UsWeek ∷ UsPair ∷ []
rules_of (Canada berth way cycle start) =
    CaDay13 ∷ CaDay14 ∷ CaShift13 ∷ CaShift14 ∷ CaElapsed16 ∷ CaOff10 ∷ CaDefer ∷ CaPair ∷ Ca24in14 ∷ CaCycle ∷ Ca70without24 ∷ []
rules_of Hvnl = Au5h30 ∷ Au8h ∷ Au11h ∷ Au24h ∷ Au24hRest ∷ Au7d ∷ Au7dRest ∷ Au14d ∷ Au14dNights ∷ []

-- the days of a week in the United States, 7 or 8
abbrev pub week_days : Params → ℕ
week_days (UsProperty berth days start) = days
week_days (Canada berth way cycle start) = 0
week_days Hvnl = 0

-- the cycle of a Canadian tour, 1 or 2
abbrev pub cycle_of : Params → ℕ
cycle_of (UsProperty berth days start) = 0
cycle_of (Canada berth way cycle start) = cycle
cycle_of Hvnl = 0

-- The padded history p, whose history begins at the minute `first`, keeps the rule with these marks: at each place, or as a whole.
abbrev pub KeepsPadded : Params → ℕ → List Activity → List Mark → Rule → Type 0
KeepsPadded params first p marks UsWindow14 = (i : ℕ) → MeetsUsWindow14 p (IsSplitAt params first marks) i
KeepsPadded params first p marks UsDrive11 = (i : ℕ) → MeetsUsDrive11 p (IsSplitAt params first marks) i
KeepsPadded params first p marks UsBreak8 = (i : ℕ) → MeetsUsBreak8 p i
KeepsPadded params first p marks UsWeek = (i : ℕ) → MeetsUsWeek (week_days params) (day_number params first) p i
KeepsPadded params first p marks UsPair = MeetsUsPair params first p marks
KeepsPadded params first p marks CaDay13 = (i : ℕ) → MeetsCaDay13 (day_number params first) p i
KeepsPadded params first p marks CaDay14 = (i : ℕ) → MeetsCaDay14 (day_number params first) p i
KeepsPadded params first p marks CaShift13 = (i : ℕ) → MeetsCaShift13 p (IsSplitAt params first marks) i
KeepsPadded params first p marks CaShift14 = (i : ℕ) → MeetsCaShift14 p (IsSplitAt params first marks) i
KeepsPadded params first p marks CaElapsed16 = (i : ℕ) → MeetsCaElapsed16 p (IsSplitAt params first marks) i
KeepsPadded params first p marks CaOff10 = (j : ℕ) → MeetsCaOff10 (day_number params first) p (IsDeferred marks) j
KeepsPadded params first p marks CaDefer = MeetsCaDefer params (day_number params first) p marks
KeepsPadded params first p marks CaPair = MeetsCaPair params first p marks
KeepsPadded params first p marks Ca24in14 = (i : ℕ) → MeetsCa24in14 p i
KeepsPadded params first p marks CaCycle = (i : ℕ) → MeetsCaCycle (cycle_of params) (day_number params first) p i
KeepsPadded params first p marks Ca70without24 = (i : ℕ) → MeetsCa70without24 (cycle_of params) p i
KeepsPadded params first p marks Au5h30 = (i : ℕ) → MeetsAu5h30 p i
KeepsPadded params first p marks Au8h = (i : ℕ) → MeetsAu8h p i
KeepsPadded params first p marks Au11h = (i : ℕ) → MeetsAu11h p i
KeepsPadded params first p marks Au24h = (i : ℕ) → MeetsAu24h p i
KeepsPadded params first p marks Au24hRest = (i : ℕ) → MeetsAu24hRest p i
KeepsPadded params first p marks Au7d = (i : ℕ) → MeetsAu7d p i
KeepsPadded params first p marks Au7dRest = (i : ℕ) → MeetsAu7dRest p i
KeepsPadded params first p marks Au14d = (i : ℕ) → MeetsAu14d p i
KeepsPadded params first p marks Au14dNights = (i : ℕ) → MeetsAu14dNights first p i

-- The history, which begins at the minute `first`, keeps the rule with these marks.
abbrev pub Keeps : Params → ℕ → List Activity → List Mark → Rule → Type 0
Keeps params first h marks rule = KeepsPadded params first (padded params h) marks rule

-- It keeps every rule of the book, and the marks are marks of the book.
pub record KeepsAll (params : Params) (first : ℕ) (h : List Activity) (marks : List Mark) : Type 0 where
  pub marks_of_book : AreMarks params marks
  pub rules : All (Keeps params first h marks) (rules_of params)

-- A history is lawful by the whole book, where it keeps all of it with some marks.
pub record IsLawfulByBook (params : Params) (first : ℕ) (h : List Activity) : Type 0 where
  pub marks : List Mark
  pub keeps : KeepsAll params first h marks
