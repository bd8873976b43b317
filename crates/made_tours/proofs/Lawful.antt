-- A history without driving is lawful in the United States.
use Rattle.std.proofs.Common.{◌≡◌, ℕ, zero, suc, Bool, List, [], ◌∷◌, ◌++◌, replicate, arith}
use Rattle.std.specs.Prelude.{Contains}
use Rattle.std.proofs.lemmas.List.Elements.{All-nil, All-cons}
use Rattle.duty_core.specs.declared.activity.Activity.{Activity}
use Rattle.duty_core.specs.declared.activity.Activity.TheVariants.{Drive, Serve, Off}
use Rattle.duty_core.specs.declared.mark.Mark.{Mark}
use Rattle.duty_core.specs.declared.params.Params.{Params}
use Rattle.duty_core.specs.declared.params.Params.TheVariants.{UsProperty}
use Rattle.duty_core.specs.declared.rule.Rule.{Rule}
use Rattle.duty_core.specs.declared.rule.Rule.TheVariants.{UsWindow14, UsDrive11, UsBreak8, UsWeek, UsPair}
use Rattle.duty_core.specs.History.{pad_units, padding, padded, unit_at}
use Rattle.duty_core.specs.Lawful.{IsLawful}
use Rattle.duty_core.specs.RuleBooks.{Keeps}
use Rattle.duty_core.specs.UsRules.{MeetsUsPair}
use Rattle.made_tours.specs.Drawn.{work_and_rest, log_drawn}

-- no unit is driving
abbrev NeverDrives : List Activity → Type 0
NeverDrives p = (i : ℕ) → unit_at p i ≡ Drive → ⊥

never_none : NeverDrives []
never_none i e = absurd (let z : Off ≡ Drive = e in cc)

never-append : (xs ys : List Activity) → NeverDrives xs → NeverDrives ys → NeverDrives (xs ++ ys)
never-append [] ys p q i = q i
never-append (x ∷ xs) ys p q zero = p zero
never-append (x ∷ xs) ys p q (suc i) = never-append xs ys (λ k. p (suc k)) q i

never-replicate : (n : ℕ) (x : Activity) → (x ≡ Drive → ⊥) → NeverDrives (replicate n x)
never-replicate zero x other i = never_none i
never-replicate (suc n) x other zero = other
never-replicate (suc n) x other (suc i) = never-replicate n x other i

rests_then : Off ≡ Drive → ⊥
rests_then e = cc

serves_then : Serve ≡ Drive → ⊥
serves_then e = cc

never-padded : (params : Params) (h : List Activity) → NeverDrives h → NeverDrives (padded params h)
never-padded params h p =
    let pad = never-replicate (pad_units params) Off rests_then in
    never-append (padding params ++ h) (padding params) (never-append (padding params) h pad p) pad

never-day : (work rest : ℕ) → NeverDrives (work_and_rest work rest)
unfolding work_and_rest
never-day work rest = never-append (replicate work Serve) (replicate rest Off) (never-replicate work Serve serves_then) (never-replicate rest Off rests_then)

never-week : NeverDrives log_drawn
never-week =
    let day = never-day 540 900 in
    never-append _ _ (never-append _ _ (never-append _ _ (never-append _ _ day day) day) day) (never-day 540 3_660)

none_marked : (m : Mark) → Contains [] m → ⊥
none_marked m c = let inside = c.1 in omega arith

-- it is so with no marks
still_lawful : (berth : Bool) (days start first : ℕ) (h : List Activity) → NeverDrives h → IsLawful (UsProperty berth days start) first h
still_lawful berth days start first h never =
    let params = UsProperty berth days start in
    let still = never-padded params h never in
    let P : Rule → Type 0 = Keeps params first h [] in
    let pair : MeetsUsPair params first (padded params h) [] = record {
      splits = λ at c. absurd (none_marked _ c);
      none_deferred = λ day c. none_marked _ c;
      pairs = λ d a b c split next. absurd (none_marked _ split.marked.marked);
    } in
    record {
      marks = [];
      keeps = record {
        marks_of_book = λ i j d before inside. absurd (omega arith);
        rules =
            All-cons P UsWindow14 (UsDrive11 ∷ UsBreak8 ∷ UsWeek ∷ UsPair ∷ []) (λ i drives. absurd (still i drives))
            (All-cons P UsDrive11 (UsBreak8 ∷ UsWeek ∷ UsPair ∷ []) (λ i drives. absurd (still i drives))
            (All-cons P UsBreak8 (UsWeek ∷ UsPair ∷ []) (λ i drives. absurd (still i drives))
            (All-cons P UsWeek (UsPair ∷ []) (λ i drives. absurd (still i drives))
            (All-cons P UsPair [] pair (All-nil P)))));
      };
    }

-- the log before each tour is lawful
pub week_lawful : (berth : Bool) (days start first : ℕ) → IsLawful (UsProperty berth days start) first log_drawn
week_lawful berth days start first = still_lawful berth days start first log_drawn never-week
