-- What holds of each value that a reading can give.
use Rattle.std.proofs.Common.{◌≡◌, ◌≢◌, ℕ, ◌≤◌, Bool, true, false, cond, Option, Some, None, Result, Ok, Err, IfSome, IfOk, IfErr, option_and_then, refl, subst}
use Rattle.tour_reader.specs.declared.field.Field.{Field}
use Rattle.tour_reader.specs.declared.fault.TourFault.{TourFault}
use Rattle.tour_reader.specs.declared.fault.TourFault.TheVariants.{Memory}
use Rattle.tour_reader.specs.Gives.{◌>>=◌, good, Gives}
use Rattle.civil_minutes.specs.Laws.TimeOfLaws.{parts, le_from}
use Rattle.tour_reader.specs.Values.{within}

-- ---- options

pub any_some : {A : Type 0} (o : Option A) → IfSome o (λ _. Unit {0})
any_some None = tt
any_some (Some x) = tt

pub if_holds : {A : Type 0} (P : A → Type 0) (b : Bool) (x : A) → (b ≡ true → P x) → IfSome (cond b (Some x) None) P
if_holds P true x p = p refl
if_holds P false x p = tt

pub guard_holds : {A : Type 0} (P : A → Type 0) (b : Bool) (o : Option A) → (b ≡ true → IfSome o P) → IfSome (cond b o None) P
guard_holds P true o p = p refl
guard_holds P false o p = tt

pub then_holds : {A B : Type 0} (P : A → Type 0) (Q : B → Type 0) (f : A → Option B) (o : Option A) → IfSome o P → ((x : A) → P x → IfSome (f x) Q) → IfSome (option_and_then f o) Q
then_holds P Q f None p g = tt
then_holds P Q f (Some x) p g = g x p

pub within_holds : (low high n : ℕ) → IfSome (within low high n) (λ m. (low ≤ m) × (m ≤ high))
within_holds low high n = if_holds (λ m. (low ≤ m) × (m ≤ high)) _ n (λ b. let p = parts _ _ b in (le_from low n p.0, le_from n high p.1))

-- ---- results

pub any_ok : {A : Type 0} (r : Result A TourFault) → IfOk r (λ _. Unit {0})
any_ok (Ok x) = tt
any_ok (Err e) = tt

pub good_holds : {A : Type 0} (P : A → Type 0) (field : Field) (stop : Option ℕ) (o : Option A) → IfSome o P → IfOk (good field stop o) P
good_holds P field stop None p = tt
good_holds P field stop (Some x) p = p

pub else_holds : {A : Type 0} (P : A → Type 0) (b : Bool) (e : TourFault) (r : Result A TourFault) → (b ≡ false → IfOk r P) → IfOk (cond b (Err e) r) P
else_holds P true e r p = tt
else_holds P false e r p = p refl

pub then_ok_holds : {A : Type 0} (P : A → Type 0) (b : Bool) (e : TourFault) (r : Result A TourFault) → IfOk r P → IfOk (cond b r (Err e)) P
then_ok_holds P true e r p = p
then_ok_holds P false e r p = tt

pub bind_holds : {A B : Type 0} (P : A → Type 0) (Q : B → Type 0) (r : Result A TourFault) (f : A → Result B TourFault) → IfOk r P → ((x : A) → P x → IfOk (f x) Q) → IfOk (r >>= f) Q
bind_holds P Q (Ok x) f p g = g x p
bind_holds P Q (Err e) f p g = tt

-- ---- what a function answered

pub given_holds : {X Y : Type 0} (view : X → Y) (P : Y → Type 0) (r : Result X TourFault) (read : Result Y TourFault) → Gives view r read → IfOk read P → IfOk r (λ x. P (view x))
given_holds view P (Ok x) read given p = subst (λ (q : Result _ TourFault). IfOk q P) given p
given_holds view P (Err e) read given p = tt

pub given_ok : {X : Type 0} (r read : Result X TourFault) → Gives (λ x. x) r read → IfOk r (λ x. read ≡ Ok x)
given_ok (Ok x) read given = given
given_ok (Err e) read given = tt

pub given_err : {X : Type 0} (r read : Result X TourFault) → Gives (λ x. x) r read → IfErr r (λ e. e ≢ Memory → read ≡ Err e)
given_err (Ok x) read given = tt
given_err (Err e) read given = given
