-- What a unit may lead to, and the paths of such choices along a history.
use Rattle.std.specs.Prelude.{◌≡◌, ℕ, ◌+◌, ◌-◌, Bool, true, false, cond, List, [], ◌∷◌, ◌++◌, Option, None, Some, Contains, nat_eq}
use Rattle.duty_core.specs.declared.activity.Activity.{Activity}
use Rattle.duty_core.specs.declared.activity.Activity.TheVariants.{Drive, Serve, Wait, Off, Berth}
use Rattle.duty_core.specs.Activity.{rests, drives}
use Rattle.sleeper_split.specs.declared.rule.SplitRule.{SplitRule}
use Rattle.sleeper_split.specs.declared.count.SplitCount.{SplitCount}
use Rattle.sleeper_split.specs.Machine.{after_rest, after_duty, end_undeclared, end_split, end_full, run_of}

-- What a unit may lead to: the count after it, and whether the run that it ended was declared as a split rest.
pub record Choice : Type 0 where
  pub count : SplitCount
  pub split : Bool

abbrev pub choice : SplitCount → Bool → Choice
choice s split = record { count = s; split = split }

-- whether the activity is in the berth
abbrev pub sleeps : Activity → Bool
sleeps Drive = false
sleeps Serve = false
sleeps Wait = false
sleeps Off = false
sleeps Berth = true

-- the unit of duty after what a run left, where a unit of driving keeps the limits
abbrev pub at_duty : (SplitCount → Bool) → Activity → Bool → SplitCount → List Choice
at_duty ok x split s = cond (cond (drives x) (ok (after_duty (drives x) s)) true) (choice (after_duty (drives x) s) split ∷ []) []

-- where the run may end so
abbrev pub after_run : (SplitCount → Bool) → Activity → Bool → Option SplitCount → List Choice
after_run ok x split None = []
after_run ok x split (Some s) = at_duty ok x split s

-- at a unit of duty after a run: not declared, a split rest where these are allowed, or a full rest
abbrev pub run_choices : SplitRule → Bool → (SplitCount → Bool) → SplitCount → Activity → List Choice
run_choices rule may ok s x =
    after_run ok x false (end_undeclared rule s)
    ++ (cond may (after_run ok x true (end_split rule s)) []
    ++ after_run ok x false (end_full rule s))

-- `may` tells whether rests may be split, and `ok` whether a count keeps the limits at a unit of driving.
abbrev pub choices : SplitRule → Bool → (SplitCount → Bool) → SplitCount → Activity → List Choice
choices rule may ok s x = cond (rests x) (choice (after_rest (sleeps x) s) false ∷ [])
    (cond (nat_eq (run_of s) 0) (at_duty ok x false s) (run_choices rule may ok s x))

-- the place that a choice declares
abbrev pub declared : Bool → ℕ → List ℕ
declared split start = cond split (start ∷ []) []

-- The count s, at place i, is led to t by the units xs, and split rests begin at the places `starts`.
abbrev pub Declares : SplitRule → Bool → (SplitCount → Bool) → SplitCount → ℕ → List Activity → List ℕ → SplitCount → Type 0
Declares rule may ok s i [] starts t = (s ≡ t) × (starts ≡ [])
Declares rule may ok s i (x ∷ xs) starts t =
    (c : Choice) × Contains (choices rule may ok s x) c × (later : List ℕ) × (starts ≡ declared c.split (i - run_of s) ++ later) × Declares rule may ok c.count (i + 1) xs later t
