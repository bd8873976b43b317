-- Least ends: what a table has for each progress and step, and what the walk that fills it finds on its way.
use Rattle.std.specs.Prelude.{◌≡◌, ℕ, ◌+◌, ◌-◌, ◌<◌, ◌≤◌, ◌⊎◌, true, List, length, Option, None, Some, slice_index_or, nat_le, if◌then◌else◌, nat_lt, cond}
use Rattle.std.specs.Global.{Vec}
use Rattle.rest_bound.specs.declared.limits.Limits.{Limits}
use Rattle.rest_bound.specs.declared.limits.TheConstants.{STEP_LIMIT}
use Rattle.rest_bound.specs.declared.mode.Mode.{Mode}
use Rattle.rest_bound.specs.declared.walk.Walk.{Walk}
use Rattle.rest_bound.specs.declared.table.Table.{Table}
use Rattle.rest_bound.specs.Ends.{Plan, Begins, KeepsBreak, Closes}
use Rattle.rest_bound.specs.CanEnd.{EndsFresh, ClosesRun}
use Rattle.rest_bound.specs.Runs.{AtMost}

-- The end is the least of those up to the horizon for which P holds. None: there is none of these.
pub record IsLeast (P : ℕ → Type 0) (horizon : ℕ) (o : Option ℕ) : Type 0 where
  pub below : (e : ℕ) → P e → e ≤ horizon → AtMost o e
  pub made : (b : ℕ) → o ≡ Some b → P b
  pub within : (b : ℕ) → o ≡ Some b → b ≤ horizon

-- the sooner of two ends
abbrev pub sooner : Option ℕ → Option ℕ → Option ℕ
sooner None b = b
sooner (Some x) None = Some x
sooner (Some x) (Some y) = if nat_le x y then Some x else Some y

-- the later of two ends
abbrev pub later : Option ℕ → Option ℕ → Option ℕ
later None b = None
later (Some x) None = None
later (Some x) (Some y) = if nat_le x y then Some y else Some x

-- the driving in a row before a piece that is done at step u, with only idle steps since the walk came where it is
abbrev pub streak_at : Walk → ℕ → ℕ
streak_at w u = cond (nat_lt w.at u) 0 w.streak

-- The first step before the horizon, and not before f, at which piece p may be done.
pub record IsFirst (plan : Plan) (m : Mode) (p : ℕ) (w : Walk) (f horizon : ℕ) (o : Option ℕ) : Type 0 where
  pub first : (u : ℕ) → f ≤ u → Begins plan m p w u → u < horizon → AtMost o u
  pub later : (u : ℕ) → o ≡ Some u → f ≤ u
  pub begins : (u : ℕ) → o ≡ Some u → Begins plan m p w u
  pub within : (u : ℕ) → o ≡ Some u → u < horizon

-- The first step before the horizon at which piece p may be done, with its break.
pub record IsBegin (plan : Plan) (m : Mode) (p : ℕ) (w : Walk) (horizon : ℕ) (o : Option ℕ) : Type 0 where
  pub first : (u c : ℕ) → w.at ≤ u → Begins plan m p w u → KeepsBreak plan m p w u c → u < horizon → AtMost o u
  pub later : (u : ℕ) → o ≡ Some u → w.at ≤ u
  pub begins : (u : ℕ) → o ≡ Some u → Begins plan m p w u
  pub keeps : (u : ℕ) → o ≡ Some u → KeepsBreak plan m p w u (streak_at w u)
  pub within : (u : ℕ) → o ≡ Some u → u < horizon

-- Step s is the first at which a rest from step t closes the base, after i idle steps.
pub record IsClose (m : Mode) (t i s : ℕ) : Type 0 where
  pub first : (v : ℕ) → Closes m t i v → s ≤ v
  pub closes : (v : ℕ) → s ≤ v → Closes m t i v

-- Step s is the first at which the run of r steps at step k closes it.
pub record IsRunClose (m : Mode) (k r s : ℕ) : Type 0 where
  pub first : (v : ℕ) → ClosesRun m k r v → s ≤ v
  pub closes : (v : ℕ) → s ≤ v → ClosesRun m k r v

-- The numbers of a mode are below the limit of steps, and some driving needs no break.
pub record IsSmallMode (m : Mode) : Type 0 where
  pub split_least : m.split_least < STEP_LIMIT
  pub split_most : m.split_most < STEP_LIMIT
  pub closing_least : m.closing_least < STEP_LIMIT
  pub idle_least : m.idle_least < STEP_LIMIT
  pub unbroken : m.unbroken < STEP_LIMIT
  pub some : 0 < m.unbroken

-- So are those of the limits of a shift, but for the driving, which no sum holds.
pub record AreSmall (l : Limits) : Type 0 where
  pub elapsed : l.elapsed < STEP_LIMIT
  pub full_rest : l.full_rest < STEP_LIMIT
  pub split_least : l.split_least < STEP_LIMIT
  pub split_most : l.split_most < STEP_LIMIT
  pub unbroken : l.unbroken < STEP_LIMIT
  pub some : 0 < l.unbroken

-- The new end is the sooner of the old one and of the least one after a full rest that is over at step k, where the driver may idle before piece p.
pub record IsWithRest (plan : Plan) (l : Limits) (n p k horizon : ℕ) (old new : Option ℕ) : Type 0 where
  pub keeps : (e : ℕ) → AtMost old e → AtMost new e
  pub below : (e : ℕ) → plan.idles p ≡ true → EndsFresh plan l n p k e → e ≤ horizon → AtMost new e
  pub made : (b : ℕ) → new ≡ Some b → (old ≡ Some b) ⊎ ((plan.idles p ≡ true) × (EndsFresh plan l n p k b × (b ≤ horizon)))

-- The least ends of the last n pieces, after a full rest that is over at the horizon, one step before it, and so on.
abbrev pub IsRow : Plan → Table → ℕ → List (Option ℕ) → Type 0
IsRow plan t n row = (j : ℕ) → j < length row → IsLeast (EndsFresh plan t.limits n (t.pieces - n) (t.horizon - j)) t.horizon (slice_index_or row j None)

-- A row goes back to step 0.
pub record IsWhole (plan : Plan) (t : Table) (n : ℕ) (row : List (Option ℕ)) : Type 0 where
  pub long : length row ≡ t.horizon + 1
  pub least : IsRow plan t n row

-- Each row that the table has is that of as many pieces as there are rows before it.
abbrev pub AreRows : Plan → Table → Type 0
AreRows plan t = (n : ℕ) (d : Vec (Option ℕ)) → n < length t.rows.items → IsWhole plan t n (slice_index_or t.rows.items n d).items

-- The table has all its rows.
pub record IsTable (plan : Plan) (t : Table) : Type 0 where
  pub filled : length t.rows.items ≡ t.pieces + 1
  pub rows : AreRows plan t
  pub small : AreSmall t.limits
  pub range : t.horizon < STEP_LIMIT

-- The table is for these limits, for so many pieces, and for ends up to this horizon.
pub record IsFor (l : Limits) (pieces horizon : ℕ) (t : Table) : Type 0 where
  pub limits_are : t.limits ≡ l
  pub pieces_are : t.pieces ≡ pieces
  pub horizon_is : t.horizon ≡ horizon
