-- There is one base, one last rest and one first day for a place.
use Rattle.std.proofs.Common.{◌≡◌, ℕ, ◌-◌, ◌<◌, true, false, List, sym, ◌∙◌, subst, arith, inl, inr}
use Rattle.std.proofs.lemmas.Bool.{cases_lt}
use Rattle.duty_core.specs.declared.activity.Activity.{Activity}
use Rattle.duty_core.specs.RestRun.{IsRun}
use Rattle.duty_core.specs.Day.{IsFirstOfDays}
use Rattle.duty_core.specs.Counting.{IsLastEnd, IsDaysBase}
use Rattle.duty_core.specs.DeclaredRest.{IsDeclared, IsLastDeclared}
use Rattle.duty_core.specs.Base.{IsFullBase, IsSplitBase, IsBase}
use Rattle.duty_core.specs.UsRules.{IsLastBreak}

no_earlier : (p : List Activity) (a b d : ℕ) → IsRun p a d → IsRun p b d → a < b → ⊥
no_earlier p a b d h g l = let y = g.some in let z : true ≡ false = sym (h.rest (b - 1) (omega arith) (omega arith)) ∙ g.starts (b - 1) (omega arith) in cc

-- two runs that end at one place are one
pub run_start : (p : List Activity) (a b d : ℕ) → IsRun p a d → IsRun p b d → a ≡ b
run_start p a b d h g = elim (cases_lt a b) [
  | inl l ↦ absurd (no_earlier p a b d h g l)
  | inr m ↦ elim (cases_lt b a) [
    | inl l ↦ absurd (no_earlier p b a d g h l)
    | inr n ↦ omega arith
  ]
]

pub declared_run : (full : ℕ) (p : List Activity) (Marked : ℕ → Type 0) (a b : ℕ) → IsDeclared full p Marked a b → IsRun p a b
declared_run full p Marked a b h = elim h [ inl f ↦ f.run | inr s ↦ s.run ]

pub last_declared_end : (full : ℕ) (p : List Activity) (Marked : ℕ → Type 0) (i a b c d : ℕ) → IsLastDeclared full p Marked i a b → IsLastDeclared full p Marked i c d → b ≡ d
last_declared_end full p Marked i a b c d h g = let x = h.last c d g.declared g.before in let y = g.last a b h.declared h.before in omega arith

pub last_declared_start : (full : ℕ) (p : List Activity) (Marked : ℕ → Type 0) (i a b c d : ℕ) → IsLastDeclared full p Marked i a b → IsLastDeclared full p Marked i c d → a ≡ c
last_declared_start full p Marked i a b c d h g =
    run_start p a c b (declared_run full p Marked a b h.declared)
    (subst (λ e. IsRun p c e) (sym (last_declared_end full p Marked i a b c d h g)) (declared_run full p Marked c d g.declared))

-- no place has a base of both kinds
full_or_split : (full : ℕ) (p : List Activity) (Marked : ℕ → Type 0) (i b u c v : ℕ) → IsFullBase full p Marked i b u → IsSplitBase full p Marked i c v → ⊥
full_or_split full p Marked i b u c v h g =
    let x = last_declared_end full p Marked i h.from b g.from g.to h.last g.waits.last in
    let y = last_declared_start full p Marked i h.from b g.from g.to h.last g.waits.last in
    let l = h.rest.long in let s = g.waits.split.short in omega arith

-- what two split bases have alike
record AreSame (b u c v : ℕ) : Type 0 where
  base : b ≡ c
  omitted : u ≡ v

split_same : (full : ℕ) (p : List Activity) (Marked : ℕ → Type 0) (i b u c v : ℕ) → IsSplitBase full p Marked i b u → IsSplitBase full p Marked i c v → AreSame b u c v
split_same full p Marked i b u c v h g =
    let x = last_declared_end full p Marked i h.from h.to g.from g.to h.waits.last g.waits.last in
    let y = last_declared_start full p Marked i h.from h.to g.from g.to h.waits.last g.waits.last in
    let k = h.omits in let l = g.omits in
    record {
      base = last_declared_end full p Marked h.from h.earlier b g.earlier c h.before (subst (λ e. IsLastDeclared full p Marked e g.earlier c) (sym y) g.before);
      omitted = omega arith;
    }

base_same : (full : ℕ) (p : List Activity) (Marked : ℕ → Type 0) (i b u c v : ℕ) → IsBase full p Marked i b u → IsBase full p Marked i c v → AreSame b u c v
base_same full p Marked i b u c v h g = elim h [
  | inl f ↦ elim g [
    | inl e ↦ (let x = f.none in let y = e.none in record { base = last_declared_end full p Marked i f.from b e.from c f.last e.last; omitted = omega arith })
    | inr s ↦ absurd (full_or_split full p Marked i b u c v f s)
  ]
  | inr s ↦ elim g [
    | inl e ↦ absurd (full_or_split full p Marked i c v b u e s)
    | inr t ↦ split_same full p Marked i b u c v s t
  ]
]

pub base_unique : (full : ℕ) (p : List Activity) (Marked : ℕ → Type 0) (i b u c v : ℕ) → IsBase full p Marked i b u → IsBase full p Marked i c v → b ≡ c
base_unique full p Marked i b u c v h g = (base_same full p Marked i b u c v h g).base

pub omitted_unique : (full : ℕ) (p : List Activity) (Marked : ℕ → Type 0) (i b u c v : ℕ) → IsBase full p Marked i b u → IsBase full p Marked i c v → u ≡ v
omitted_unique full p Marked i b u c v h g = (base_same full p Marked i b u c v h g).omitted

pub last_end_unique : (least : ℕ) (p : List Activity) (i b c : ℕ) → IsLastEnd least p i b → IsLastEnd least p i c → b ≡ c
last_end_unique least p i b c h g = let x = h.last g.from c g.rest g.before in let y = g.last h.from b h.rest h.before in omega arith

pub last_break_unique : (p : List Activity) (i b c : ℕ) → IsLastBreak p i b → IsLastBreak p i c → b ≡ c
last_break_unique p i b c h g = let x = h.last c g.ends g.before in let y = g.last b h.ends h.before in omega arith

pub days_base_unique : (day : ℕ → ℕ) (days restart : ℕ) (p : List Activity) (i b c : ℕ) → IsDaysBase day days restart p i b → IsDaysBase day days restart p i c → b ≡ c
days_base_unique day days restart p i b c h g = let x = h.first c g.counts in let y = g.first b h.counts in omega arith

pub first_of_days_unique : (day : ℕ → ℕ) (days i b c : ℕ) → IsFirstOfDays day days i b → IsFirstOfDays day days i c → b ≡ c
first_of_days_unique day days i b c h g = let x = h.first c g.inside in let y = g.first b h.inside in omega arith
