-- Many equal units: a run ends at the first of them only, and a day is deferred at one of them at most.
use Rattle.std.proofs.Common.{◌≡◌, ℕ, ◌+◌, ◌-◌, ◌<◌, ◌≤◌, Bool, true, false, cond, ◌&&◌, List, [], ◌∷◌, ◌++◌, refl, sym, ◌∙◌, ap, subst, arith, append_assoc, append-nil, ◌⊎◌, inl, inr, zero, suc}
use Rattle.std.specs.Prelude.{ℤ, Option, None, Some, map, replicate, nat_eq, nat_le, nat_lt}
use Rattle.std.specs.Option.{option_to_list}
use Rattle.std.proofs.lemmas.Bool.{cases_lt, cases_Bool, cond-true, cond-false}
use Rattle.std.proofs.lemmas.Bool.Decides.{nat_tests}
use Rattle.duty_core.specs.declared.activity.Activity.{Activity}
use Rattle.duty_core.specs.declared.mark.Mark.{Mark}
use Rattle.duty_core.specs.declared.params.RestWay.{RestWay}
use Rattle.duty_core.specs.declared.params.RestWay.TheVariants.{Split, Defer}
use Rattle.duty_core.specs.declared.limits.TheConstants.{DAY_MINUTES, CA_FULL_REST, CA_LOST_LIMIT}
use Rattle.duty_core.specs.Activity.{rests, drives}
use Rattle.rule_core.specs.declared.nexts.Next.{Next}
use Rattle.rule_core.specs.Reach.{IsOneOf}
use Rattle.rule_core.specs.Laws.OneOf.{one_of-flat_map, one_of_flat_map}
use Rattle.sleeper_split.specs.declared.rule.TheConstants.SplitRule.{CANADA}
use Rattle.sleeper_split.specs.Machine.{after_rest, after_duty, run_of}
use Rattle.sleeper_split.specs.Choices.{Choice, choice, choices, sleeps, at_duty, run_choices}
use Rattle.cycles_deferral.specs.declared.days.CanadaDays.{CanadaDays}
use Rattle.cycles_deferral.specs.DayMachine.{IsCanadaDays, days_turned, days_begun, days_worked, keeps_defer, keeps_way, keeps_days, mark_between, days_after}
use Rattle.cycles_deferral.specs.DayRuns.{either}
use Rattle.cycles_deferral.specs.Laws.DeferLaws.{passes_means}
use Rattle.canada_rules.specs.declared.state.Calendar.{Calendar}
use Rattle.canada_rules.specs.declared.state.CanadaState.{CanadaState}
use Rattle.canada_rules.specs.Machine.{ca_fits, begins_day, ca_date, calendar_after, mark_of, ca_next, nexts_with, ca_nexts, first_of, carried, goes_on, ca_advances, day_so_far, IsSeen, IsCanadaState}
use Rattle.canada_rules.specs.Laws.CalendarSteps.{after_means, days_cases, days_way, split_unmarked}
use Rattle.canada_rules.specs.Laws.Paths.{IsMay, CaReaches, next_means, ca_choice, none_declared}
use Rattle.canada_rules.specs.Laws.States.{day_goes, so_far_most, begun_kept, begun_seen, next_is_ca_state}

-- # Marks of deferrals along duty

-- no short rest is in progress
pub record IsAtWork (d : CanadaDays) : Type 0 where
  pub today : d.today.short ≡ 0
  pub yesterday : d.yesterday.short ≡ 0

-- Yesterday loses too much, today has no rest that serves for the deferral, and its last minute has not come.
pub record IsSecond (start : ℕ) (d : CanadaDays) (at : ℕ) : Type 0 where
  pub lost : CA_LOST_LIMIT < d.yesterday.lost
  pub minutes : d.minute ≡ day_so_far start at
  pub more : d.minute < DAY_MINUTES
  pub none : d.today.longest < CA_FULL_REST

-- more duty defers no day
abbrev pub IsQuiet : ℕ → CanadaDays → ℕ → Type 0
IsQuiet start d at = (d.way ≡ Split) ⊎ (CA_LOST_LIMIT < d.today.lost) ⊎ IsSecond start d at

way_cases : (way : RestWay) → (way ≡ Split) ⊎ (way ≡ Defer)
way_cases Split = inl refl
way_cases Defer = inr refl

is_less : (n : ℕ) → n ≤ CA_LOST_LIMIT → nat_lt CA_LOST_LIMIT n ≡ false
is_less n l = grind (arith, nat_tests)

is_more : (n : ℕ) → CA_LOST_LIMIT < n → nat_le n CA_LOST_LIMIT ≡ false
is_more n l = grind (arith, nat_tests)

and_false : (a b : Bool) → (a ≡ false) ⊎ (b ≡ false) → (a && b) ≡ false
and_false true b h = elim h [ inl e ↦ absurd (let z : true ≡ false = e in cc) | inr e ↦ e ]
and_false false b h = refl

none_of : (a b : Bool) (m n : Option Mark) → a ≡ false → b ≡ false → cond a m (cond b n None) ≡ None
none_of true b m n e f = absurd (let z : true ≡ false = e in cc)
none_of false true m n e f = absurd (let z : true ≡ false = f in cc)
none_of false false m n e f = refl

-- a mark is chosen only where a day begins to lose too much
no_mark : (s u : CanadaDays) (date : ℤ) → (u.today.lost ≤ CA_LOST_LIMIT) ⊎ (CA_LOST_LIMIT < s.today.lost) → (u.yesterday.lost ≤ CA_LOST_LIMIT) ⊎ (CA_LOST_LIMIT < s.yesterday.lost) → mark_between s u date ≡ None
no_mark s u date a b =
    none_of (nat_le s.today.lost CA_LOST_LIMIT && nat_lt CA_LOST_LIMIT u.today.lost) (nat_le s.yesterday.lost CA_LOST_LIMIT && nat_lt CA_LOST_LIMIT u.yesterday.lost) _ _
    (and_false (nat_le s.today.lost CA_LOST_LIMIT) (nat_lt CA_LOST_LIMIT u.today.lost) (elim a [ inl l ↦ inr (is_less u.today.lost l) | inr l ↦ inl (is_more s.today.lost l) ]))
    (and_false (nat_le s.yesterday.lost CA_LOST_LIMIT) (nat_lt CA_LOST_LIMIT u.yesterday.lost) (elim b [ inl l ↦ inr (is_less u.yesterday.lost l) | inr l ↦ inl (is_more s.yesterday.lost l) ]))

a_mark : (s u : CanadaDays) (date : ℤ) (m : Mark) → mark_between s u date ≡ Some m → (CA_LOST_LIMIT < u.today.lost) ⊎ ((s.yesterday.lost ≤ CA_LOST_LIMIT) × (CA_LOST_LIMIT < u.yesterday.lost))
a_mark s u date m e = elim (cases_lt CA_LOST_LIMIT u.today.lost) [
  | inl l ↦ inl l
  | inr l ↦ elim (cases_lt CA_LOST_LIMIT u.yesterday.lost) [
    | inl k ↦ elim (cases_lt CA_LOST_LIMIT s.yesterday.lost) [
      | inl j ↦ absurd (let z : None ≡ Some m = sym (no_mark s u date (inl l) (inr j)) ∙ e in cc)
      | inr j ↦ inr (j, k)
    ]
    | inr k ↦ absurd (let z : None ≡ Some m = sym (no_mark s u date (inl l) (inl k)) ∙ e in cc)
  ]
]

is_last : (n : ℕ) → DAY_MINUTES ≤ n → nat_lt n DAY_MINUTES ≡ false
is_last n l = grind (arith, nat_tests)

-- a second day with no long rest is not at its last minute
is_second : (start : ℕ) (u : CanadaDays) (at : ℕ) → keeps_defer u ≡ true → CA_LOST_LIMIT < u.yesterday.lost → u.minute ≡ day_so_far start at → u.today.longest < CA_FULL_REST → IsSecond start u at
is_second start u at k l m n =
    let p = passes_means u k in
    record {
      lost = l;
      minutes = m;
      more = elim (cases_lt u.minute DAY_MINUTES) [ inl lt ↦ lt | inr le ↦ absurd (let r = p.rest (is_last u.minute le) l in omega arith) ];
      none = n;
    }

keeps_as : (u : CanadaDays) → u.way ≡ Defer → keeps_days u ≡ true → keeps_defer u ≡ true
keeps_as u w k = ap (λ v. keeps_way v u) (sym w) ∙ k

-- a later unit of duty in the same day
same_quiet : (start : ℕ) (s : CanadaDays) (at : ℕ) (date : ℤ) → day_so_far start at < DAY_MINUTES → day_so_far start (at + 1) ≡ day_so_far start at + 1 → IsAtWork s → keeps_defer (days_worked s) ≡ true →
    (CA_LOST_LIMIT < s.today.lost) ⊎ IsSecond start s at → (mark_between s (days_worked s) date ≡ None) × ((CA_LOST_LIMIT < (days_worked s).today.lost) ⊎ IsSecond start (days_worked s) (at + 1))
same_quiet start s at date below on w k h =
    let a = w.today in
    let b = w.yesterday in
    let rest : ((days_worked s).yesterday.lost ≤ CA_LOST_LIMIT) ⊎ (CA_LOST_LIMIT < s.yesterday.lost) = elim (cases_lt CA_LOST_LIMIT s.yesterday.lost) [ inl l ↦ inr l | inr l ↦ inl (omega arith) ] in
    elim h [
      | inl l ↦ (no_mark s (days_worked s) date (inr l) rest, inl (omega arith))
      | inr q ↦ (
          let lost = q.lost in
          let m = q.minutes in
          let more = q.more in
          let p = passes_means (days_worked s) k in
          let l : CA_LOST_LIMIT < (days_worked s).yesterday.lost = omega arith in
          let both = p.both l in
          (no_mark s (days_worked s) date (inl (omega arith)) rest, inr (is_second start (days_worked s) (at + 1) k l (omega arith) q.none)))
    ]

-- a unit of duty that begins a day
new_quiet : (start : ℕ) (s : CanadaDays) (at : ℕ) (date : ℤ) → day_so_far start at ≡ DAY_MINUTES → day_so_far start (at + 1) ≡ 1 → IsAtWork s → keeps_defer (days_worked (days_turned s)) ≡ true →
    (CA_LOST_LIMIT < s.today.lost) ⊎ IsSecond start s at →
    (mark_between (days_turned s) (days_worked (days_turned s)) date ≡ None) × ((CA_LOST_LIMIT < (days_worked (days_turned s)).today.lost) ⊎ IsSecond start (days_worked (days_turned s)) (at + 1))
new_quiet start s at date full on w k h = elim h [
  | inl l ↦ (no_mark (days_turned s) (days_worked (days_turned s)) date (inl (omega arith)) (inr l), inr (is_second start (days_worked (days_turned s)) (at + 1) k (omega arith) (omega arith) (omega arith)))
  | inr q ↦ absurd (let m = q.minutes in let more = q.more in omega arith)
]

-- where more duty defers no day, a unit of it defers none, and so it goes on
quiet_on : (start : ℕ) (s : CanadaDays) (at : ℕ) (x : Activity) (date : ℤ) (u : CanadaDays) (m : Option Mark) → rests x ≡ false → IsAtWork s → IsQuiet start s at → days_after s x (begins_day start at) date ≡ Some (u, m) →
    (m ≡ None) × IsQuiet start u (at + 1)
quiet_on start s at x date u m work w h e = elim (way_cases s.way) [
  | inl split ↦ (split_unmarked s x (begins_day start at) date u m split e, inl (days_way s x (begins_day start at) date u m e ∙ split))
  | inr defer ↦ elim (days_cases s x (begins_day start at) date u m e) [
    | inl r ↦ absurd (let z : true ≡ false = sym r.rest ∙ work in cc)
    | inr r ↦
        let way : u.way ≡ Defer = days_way s x (begins_day start at) date u m e ∙ defer in
        let k : keeps_defer u ≡ true = keeps_as u way r.keeps in
        let g : (CA_LOST_LIMIT < s.today.lost) ⊎ IsSecond start s at = (elim h [ inl z ↦ absurd (let y : Split ≡ Defer = sym z ∙ defer in cc) | inr q ↦ q ]) in
        let Goal : CanadaDays → Type 0 = λ t. keeps_defer (days_worked t) ≡ true → (mark_between t (days_worked t) date ≡ None) × ((CA_LOST_LIMIT < (days_worked t).today.lost) ⊎ IsSecond start (days_worked t) (at + 1)) in
        let t : CanadaDays = days_begun (begins_day start at) s in
        let both : Goal t = (elim (day_goes start at) [
          | inl d ↦ subst Goal (sym (cond-true (begins_day start at) (days_turned s) s d.0)) (λ z. new_quiet start s at date d.1 d.2 w z g)
          | inr d ↦ subst Goal (sym (cond-false (begins_day start at) (days_turned s) s d.0)) (λ z. same_quiet start s at date d.1 d.2 w z g)
        ]) in
        let q = both (ap keeps_defer (sym r.days) ∙ k) in (
          r.mark ∙ (ap (λ v. mark_between t v date) r.days ∙ q.0),
          inr (subst (λ (v : CanadaDays). (CA_LOST_LIMIT < v.today.lost) ⊎ IsSecond start v (at + 1)) (sym r.days) q.1),
        )
  ]
]

-- after the mark of a deferral more duty defers no day
marked_quiet : (start : ℕ) (s : CanadaDays) (at : ℕ) (x : Activity) (date : ℤ) (u : CanadaDays) (m : Option Mark) (k : Mark) → rests x ≡ false → IsCanadaDays s → (0 < s.yesterday.short → IsSeen start s at) →
    days_after s x (begins_day start at) date ≡ Some (u, m) → m ≡ Some k → IsQuiet start u (at + 1)
marked_quiet start s at x date u m k work good seen e f = elim (way_cases s.way) [
  | inl split ↦ inl (days_way s x (begins_day start at) date u m e ∙ split)
  | inr defer ↦ elim (days_cases s x (begins_day start at) date u m e) [
    | inl r ↦ absurd (let z : true ≡ false = sym r.rest ∙ work in cc)
    | inr r ↦
        let way : u.way ≡ Defer = days_way s x (begins_day start at) date u m e ∙ defer in
        let t : CanadaDays = days_begun (begins_day start at) s in
        let marked : mark_between t (days_worked t) date ≡ Some k = sym (ap (λ v. mark_between t v date) r.days) ∙ (sym r.mark ∙ f) in
        inr (subst (λ (v : CanadaDays). (CA_LOST_LIMIT < v.today.lost) ⊎ IsSecond start v (at + 1)) (sym r.days) (elim (a_mark t (days_worked t) date k marked) [
          | inl l ↦ inl l
          | inr l ↦ (
              let a = l.0 in
              let b = l.1 in
              let kept = begun_kept (begins_day start at) s good in
              let n = begun_seen start s at good seen (omega arith) in
              let minutes = n.minutes in
              let longest = n.longest in
              let most = so_far_most start (at + 1) in
              let short : t.rest < CA_FULL_REST = elim kept.run [ inl c ↦ (let z = c.3 in absurd (omega arith)) | inr c ↦ (let z = c.0 in omega arith) ] in
              inr (is_second start (days_worked t) (at + 1) (ap keeps_defer (sym r.days) ∙ keeps_as u way r.keeps) b (omega arith) (omega arith)))
        ]))
  ]
]

-- # States that go on without a choice

-- in rest, or in duty with no run of rest in progress
abbrev pub IsSteady : CanadaState → Activity → Type 0
IsSteady s x = (rests x ≡ true) ⊎ ((rests x ≡ false) × (run_of s.split ≡ 0) × IsAtWork s.calendar.days)

-- one choice at most, that declares nothing
abbrev pub IsOnly : List Choice → Type 0
IsOnly cs = (cs ≡ []) ⊎ ((c : Choice) × (cs ≡ c ∷ []))

only_test : (b : Bool) (c : Choice) → IsOnly (cond b (c ∷ []) [])
only_test true c = inr (c, refl)
only_test false c = inl refl

no_run : (n : ℕ) → n ≡ 0 → nat_eq n 0 ≡ true
no_run n e = grind (arith, nat_tests)

steady_choices : (may : Bool) (s : CanadaState) (x : Activity) → IsSteady s x → IsOnly (choices CANADA may ca_fits s.split x)
steady_choices may s x h = elim h [
  | inl r ↦ inr (choice (after_rest (sleeps x) s.split) false, ap (λ b. cond b (choice (after_rest (sleeps x) s.split) false ∷ []) (cond (nat_eq (run_of s.split) 0) (at_duty ca_fits x false s.split) (run_choices CANADA may ca_fits s.split x))) r)
  | inr d ↦
      let e : choices CANADA may ca_fits s.split x ≡ at_duty ca_fits x false s.split =
      ap (λ b. cond b (choice (after_rest (sleeps x) s.split) false ∷ []) (cond (nat_eq (run_of s.split) 0) (at_duty ca_fits x false s.split) (run_choices CANADA may ca_fits s.split x))) d.0
      ∙ ap (λ b. cond b (at_duty ca_fits x false s.split) (run_choices CANADA may ca_fits s.split x)) (no_run (run_of s.split) d.1) in
      subst IsOnly (sym e) (only_test (cond (drives x) (ca_fits (after_duty (drives x) s.split)) true) (choice (after_duty (drives x) s.split) false))
]

-- one successor at most
abbrev pub IsOnlyNext : List (Next CanadaState) → Type 0
IsOnlyNext ns = (ns ≡ []) ⊎ ((t : Next CanadaState) × (ns ≡ t ∷ []))

only_next : (o : Option (Calendar × Option Mark)) (start : ℕ) (cs : List Choice) → IsOnly cs → IsOnlyNext (nexts_with o start cs)
only_next None start cs h = inl refl
only_next (Some r) start cs h = elim h [ inl e ↦ inl (ap (map (ca_next r start)) e) | inr k ↦ inr (ca_next r start k.0, ap (map (ca_next r start)) k.1) ]

pub steady_nexts : (may : Bool) (start : ℕ) (s : CanadaState) (at : ℕ) (x : Activity) → IsSteady s x → IsOnlyNext (ca_nexts may start s at x)
steady_nexts may start s at x h = only_next (calendar_after start s.calendar at x) (at - run_of s.split) (choices CANADA may ca_fits s.split x) (steady_choices may s x h)

at_work : (s : CanadaDays) (x : Activity) (new : Bool) (date : ℤ) (u : CanadaDays) (m : Option Mark) → rests x ≡ false → days_after s x new date ≡ Some (u, m) → IsAtWork u
at_work s x new date u m work e = elim (days_cases s x new date u m e) [
  | inl r ↦ absurd (let z : true ≡ false = sym r.rest ∙ work in cc)
  | inr r ↦ subst IsAtWork (sym r.days) (record { today = refl; yesterday = refl })
]

-- after a unit the state goes on so
pub next_steady : (may : Bool) (start : ℕ) (s : CanadaState) (at : ℕ) (x : Activity) (n : Next CanadaState) → IsOneOf (ca_nexts may start s at x) n → IsSteady n.state x
next_steady may start s at x n o =
    let k = next_means may start s at x n o in
    let a = after_means start s.calendar at x k.got k.calendar in
    let e : run_of k.by.count ≡ run_of n.state.split = ap (λ (m : Next CanadaState). run_of m.state.split) k.is in
    let w : rests x ≡ false → IsAtWork n.state.calendar.days = (λ work. subst (λ (m : Next CanadaState). IsAtWork m.state.calendar.days) k.is (at_work s.calendar.days x (begins_day start at) (ca_date start at) k.got.0.days k.got.1 work a.days)) in
    elim (ca_choice may s.split x k.by k.chosen) [
      | inl r ↦ inl r.rest
      | inr l ↦ elim l [
        | inl r ↦ inr (r.work, sym e ∙ sym (ap (λ (c : Choice). run_of c.count) r.is), w r.work)
        | inr m ↦ elim m [
          | inl r ↦ inr (r.work, sym e ∙ sym (ap (λ (c : Choice). run_of c.count) r.is), w r.work)
          | inr r ↦ inr (r.work, sym e ∙ sym (ap (λ (c : Choice). run_of c.count) r.is), w r.work)
        ]
      ]
    ]

-- # One mark

-- no mark was chosen, or none is chosen any more
abbrev pub Carries : ℕ → Next CanadaState → ℕ → Activity → Type 0
Carries start t at x = (t.mark ≡ None) ⊎ ((rests x ≡ false) × IsQuiet start t.state.calendar.days at)

told : (o : Option Mark) → (o ≡ None) ⊎ ((m : Mark) × (o ≡ Some m))
told None = inl refl
told (Some m) = inr (m, refl)

not_declared : (split : Bool) (start : ℕ) (m o : Option Mark) → split ≡ false → mark_of split start m ≡ o → o ≡ m
not_declared split start m o f e = sym e ∙ ap (λ b. mark_of b start m) f

-- at rest nothing is marked
rest_unmarked : (may : Bool) (start : ℕ) (s : CanadaState) (at : ℕ) (x : Activity) (n : Next CanadaState) → rests x ≡ true → IsOneOf (ca_nexts may start s at x) n → n.mark ≡ None
rest_unmarked may start s at x n rest o =
    let k = next_means may start s at x n o in
    let a = after_means start s.calendar at x k.got k.calendar in
    let f : k.by.split ≡ false = (elim (ca_choice may s.split x k.by k.chosen) [
      | inl r ↦ sym (ap (λ (c : Choice). c.split) r.is)
      | inr l ↦ elim l [
        | inl r ↦ absurd (let z : true ≡ false = sym rest ∙ r.work in cc)
        | inr m ↦ elim m [
          | inl r ↦ absurd (let z : true ≡ false = sym rest ∙ r.work in cc)
          | inr r ↦ absurd (let z : true ≡ false = sym rest ∙ r.work in cc)
        ]
      ]
    ]) in
    let g : k.got.1 ≡ None = (elim (days_cases s.calendar.days x (begins_day start at) (ca_date start at) k.got.0.days k.got.1 a.days) [
      | inl r ↦ r.unmarked
      | inr r ↦ absurd (let z : true ≡ false = sym rest ∙ r.work in cc)
    ]) in
    not_declared k.by.split (at - run_of s.split) k.got.1 n.mark f (ap (λ (m : Next CanadaState). m.mark) k.is) ∙ g

-- a successor carries its mark
pub first_carries : (may : Bool) (way : RestWay) (start : ℕ) (s : CanadaState) (at : ℕ) (x : Activity) (n : Next CanadaState) → IsMay may way → IsCanadaState may way start s at → IsOneOf (ca_nexts may start s at x) n → Carries start n (at + 1) x
first_carries may way start s at x n allowed h o = elim (cases_Bool (rests x)) [
  | inl rest ↦ inl (rest_unmarked may start s at x n rest o)
  | inr work ↦
      let k = next_means may start s at x n o in
      let a = after_means start s.calendar at x k.got k.calendar in
      let quiet : IsQuiet start k.got.0.days (at + 1) → Carries start n (at + 1) x = (λ q. inr (work, subst (λ (m : Next CanadaState). IsQuiet start m.state.calendar.days (at + 1)) k.is q)) in
      elim (way_cases way) [
        | inl split ↦ quiet (inl (days_way s.calendar.days x (begins_day start at) (ca_date start at) k.got.0.days k.got.1 a.days ∙ (h.rest_way ∙ split)))
        | inr defer ↦
            let f : k.by.split ≡ false = none_declared may s.split x k.by (allowed defer) (ca_choice may s.split x k.by k.chosen) in
            let e : n.mark ≡ k.got.1 = not_declared k.by.split (at - run_of s.split) k.got.1 n.mark f (ap (λ (m : Next CanadaState). m.mark) k.is) in
            elim (told k.got.1) [
              | inl none ↦ inl (e ∙ none)
              | inr m ↦ quiet (marked_quiet start s.calendar.days at x (ca_date start at) k.got.0.days k.got.1 m.0 work h.days h.seen a.days m.1)
            ]
      ]
]

-- after a mark none is chosen any more
quiet_next : (may : Bool) (start : ℕ) (s : CanadaState) (at : ℕ) (x : Activity) (n : Next CanadaState) → rests x ≡ false → run_of s.split ≡ 0 → IsAtWork s.calendar.days → IsQuiet start s.calendar.days at →
    IsOneOf (ca_nexts may start s at x) n → (n.mark ≡ None) × IsQuiet start n.state.calendar.days (at + 1)
quiet_next may start s at x n work none w q o =
    let k = next_means may start s at x n o in
    let a = after_means start s.calendar at x k.got k.calendar in
    let g = quiet_on start s.calendar.days at x (ca_date start at) k.got.0.days k.got.1 work w q a.days in
    let f : k.by.split ≡ false = (elim (ca_choice may s.split x k.by k.chosen) [
      | inl r ↦ sym (ap (λ (c : Choice). c.split) r.is)
      | inr l ↦ elim l [
        | inl r ↦ sym (ap (λ (c : Choice). c.split) r.is)
        | inr m ↦ elim m [
          | inl r ↦ absurd (let z = r.some in omega arith)
          | inr r ↦ sym (ap (λ (c : Choice). c.split) r.is)
        ]
      ]
    ]) in (
      not_declared k.by.split (at - run_of s.split) k.got.1 n.mark f (ap (λ (m : Next CanadaState). m.mark) k.is) ∙ g.0,
      subst (λ (m : Next CanadaState). IsQuiet start m.state.calendar.days (at + 1)) k.is g.1,
    )

abbrev pub marked : Option Mark → Next CanadaState → Next CanadaState
marked mark n = record { state = n.state; mark = either mark n.mark }

either_none : (a b : Option Mark) → b ≡ None → either a b ≡ a
either_none None b e = e
either_none (Some m) b e = refl

either_second : (a b : Option Mark) → a ≡ None → either a b ≡ b
either_second None b e = refl
either_second (Some m) b e = absurd (let z : Some m ≡ None = e in cc)

-- what a carried successor and its one successor come to
record IsCarriedOn (start : ℕ) (t n : Next CanadaState) (at : ℕ) (x : Activity) : Type 0 where
  carries : Carries start (marked t.mark n) (at + 1) x
  marks : option_to_list (either t.mark n.mark) ≡ option_to_list t.mark ++ option_to_list n.mark

carried_on : (may : Bool) (way : RestWay) (start : ℕ) (t n : Next CanadaState) (at : ℕ) (x : Activity) → IsMay may way → IsCanadaState may way start t.state at → IsSteady t.state x → Carries start t at x →
    IsOneOf (ca_nexts may start t.state at x) n → IsCarriedOn start t n at x
carried_on may way start t n at x allowed h steady c o = elim c [
  | inl none ↦
      let e : either t.mark n.mark ≡ n.mark = either_second t.mark n.mark none in
      record {
        carries = elim (first_carries may way start t.state at x n allowed h o) [ inl z ↦ inl (e ∙ z) | inr z ↦ inr z ];
        marks = ap option_to_list e ∙ ap (λ m. option_to_list m ++ option_to_list n.mark) (sym none);
      }
  | inr q ↦ elim steady [
    | inl rest ↦ absurd (let z : true ≡ false = sym rest ∙ q.0 in cc)
    | inr d ↦
        let g = quiet_next may start t.state at x n q.0 d.1 d.2 q.1 o in
        record {
          carries = inr (q.0, g.1);
          marks = ap option_to_list (either_none t.mark n.mark g.0) ∙ sym (ap (λ m. option_to_list t.mark ++ option_to_list m) g.0 ∙ append-nil (option_to_list t.mark));
        }
  ]
]

-- # Paths of equal units

record HasPath (may : Bool) (start : ℕ) (t : Next CanadaState) (at : ℕ) (xs : List Activity) (u : Next CanadaState) : Type 0 where
  later : List Mark
  path : CaReaches may start t.state at xs later u.state
  marks : option_to_list u.mark ≡ option_to_list t.mark ++ later

goes_to : (may : Bool) (start : ℕ) (t n u : Next CanadaState) (at : ℕ) (x : Activity) (k : ℕ) → ca_nexts may start t.state at x ≡ n ∷ [] → goes_on may start (Some t) at x (suc k) ≡ goes_on may start (Some (marked t.mark n)) (at + 1) x k
goes_to may start t n u at x k e = ap (λ ns. goes_on may start (carried t.mark (first_of ns)) (at + 1) x k) e

path_steady : (may : Bool) (way : RestWay) (start : ℕ) (n : ℕ) (t : Next CanadaState) (at : ℕ) (x : Activity) (u : Next CanadaState) → IsMay may way → IsCanadaState may way start t.state at → IsSteady t.state x → Carries start t at x →
    goes_on may start (Some t) at x n ≡ Some u → HasPath may start t at (replicate n x) u
path_steady may way start zero t at x u allowed h steady c e = let q : t ≡ u = cc in record {
  later = [];
  path = (ap (λ (v : Next CanadaState). v.state) q, refl);
  marks = ap (λ (v : Next CanadaState). option_to_list v.mark) (sym q) ∙ sym (append-nil (option_to_list t.mark));
}
path_steady may way start (suc n) t at x u allowed h steady c e = elim (steady_nexts may start t.state at x steady) [
  | inl none ↦ absurd (let z : None ≡ Some u = sym (ap (λ ns. goes_on may start (carried t.mark (first_of ns)) (at + 1) x n) none) ∙ e in cc)
  | inr k ↦
      let m : Next CanadaState = k.0 in
      let o : IsOneOf (ca_nexts may start t.state at x) m = subst (λ ns. IsOneOf ns m) (sym k.1) (inl refl) in
      let on = carried_on may way start t m at x allowed h steady c o in
      let more = path_steady may way start n (marked t.mark m) (at + 1) x u allowed (next_is_ca_state may way start t.state at x m h o) (next_steady may start t.state at x m o) on.carries (sym (goes_to may start t m u at x n k.1) ∙ e) in
      record {
        later = option_to_list m.mark ++ more.later;
        path = (m, o, more.later, refl, more.path);
        marks = more.marks ∙ (ap (λ l. l ++ more.later) on.marks ∙ append_assoc (option_to_list t.mark) (option_to_list m.mark) more.later);
      }
]

record HasEnd (may : Bool) (start : ℕ) (t : Next CanadaState) (at : ℕ) (x : Activity) (n : ℕ) (later : List Mark) (v : CanadaState) : Type 0 where
  next : Next CanadaState
  goes : goes_on may start (Some t) at x n ≡ Some next
  state : next.state ≡ v
  marks : option_to_list next.mark ≡ option_to_list t.mark ++ later

steady_path : (may : Bool) (way : RestWay) (start : ℕ) (n : ℕ) (t : Next CanadaState) (at : ℕ) (x : Activity) (later : List Mark) (v : CanadaState) → IsMay may way → IsCanadaState may way start t.state at → IsSteady t.state x → Carries start t at x →
    CaReaches may start t.state at (replicate n x) later v → HasEnd may start t at x n later v
steady_path may way start zero t at x later v allowed h steady c r = record {
  next = t;
  goes = refl;
  state = r.0;
  marks = sym (ap (λ l. option_to_list t.mark ++ l) r.1 ∙ append-nil (option_to_list t.mark));
}
steady_path may way start (suc n) t at x later v allowed h steady c r = elim (steady_nexts may start t.state at x steady) [
  | inl none ↦ absurd (subst (λ ns. IsOneOf ns r.0) none r.1)
  | inr k ↦
      let m : Next CanadaState = r.0 in
      let one : k.0 ≡ m = (let o : IsOneOf (k.0 ∷ []) m = subst (λ ns. IsOneOf ns m) k.1 r.1 in elim o [ inl e ↦ e | inr z ↦ absurd z ]) in
      let on = carried_on may way start t m at x allowed h steady c r.1 in
      let more = steady_path may way start n (marked t.mark m) (at + 1) x r.2 v allowed (next_is_ca_state may way start t.state at x m h r.1) (next_steady may start t.state at x m r.1) on.carries r.4 in
      record {
        next = more.next;
        goes = goes_to may start t m t at x n (k.1 ∙ ap (λ z. z ∷ []) one) ∙ more.goes;
        state = more.state;
        marks = more.marks ∙ (ap (λ l. l ++ r.2) on.marks ∙ (append_assoc (option_to_list t.mark) (option_to_list m.mark) r.2 ∙ ap (λ l. option_to_list t.mark ++ l) (sym r.3)));
      }
]

some_of : (o : Option (Next CanadaState)) (t : Next CanadaState) → IsOneOf (option_to_list o) t → o ≡ Some t
some_of None t h = absurd h
some_of (Some s) t h = elim h [ inl e ↦ ap (λ v. Some v) e | inr z ↦ absurd z ]

of_some : (o : Option (Next CanadaState)) (t : Next CanadaState) → o ≡ Some t → IsOneOf (option_to_list o) t
of_some o t e = subst (λ v. IsOneOf (option_to_list v) t) (sym e) (inl refl)

pub ca_advances_reach : (may : Bool) (way : RestWay) (start : ℕ) (n : ℕ) (s : CanadaState) (at : ℕ) (x : Activity) (t : Next CanadaState) → IsMay may way → IsCanadaState may way start s at → IsOneOf (ca_advances may start s at x n) t →
    CaReaches may start s at (replicate n x) (option_to_list t.mark) t.state
ca_advances_reach may way start zero s at x t allowed h o = elim o [
  | inl e ↦ (ap (λ (m : Next CanadaState). m.state) e, ap (λ (m : Next CanadaState). option_to_list m.mark) (sym e))
  | inr z ↦ absurd z
]
ca_advances_reach may way start (suc n) s at x t allowed h o =
    let q = one_of-flat_map (λ r. option_to_list (goes_on may start (Some r) (at + 1) x n)) (ca_nexts may start s at x) t o in
    let p = path_steady may way start n q.0 (at + 1) x t allowed (next_is_ca_state may way start s at x q.0 h q.1) (next_steady may start s at x q.0 q.1) (first_carries may way start s at x q.0 allowed h q.1)
    (some_of (goes_on may start (Some q.0) (at + 1) x n) t q.2) in
    (q.0, q.1, p.later, p.marks, p.path)

pub ca_advances_all : (may : Bool) (way : RestWay) (start : ℕ) (n : ℕ) (s : CanadaState) (at : ℕ) (x : Activity) (marks : List Mark) (u : CanadaState) → IsMay may way → IsCanadaState may way start s at →
    CaReaches may start s at (replicate n x) marks u → (t : Next CanadaState) × IsOneOf (ca_advances may start s at x n) t × (t.state ≡ u) × (marks ≡ option_to_list t.mark)
ca_advances_all may way start zero s at x marks u allowed h r = (record { state = s; mark = None }, inl refl, r.0, r.1)
ca_advances_all may way start (suc n) s at x marks u allowed h r =
    let p = steady_path may way start n r.0 (at + 1) x r.2 u allowed (next_is_ca_state may way start s at x r.0 h r.1) (next_steady may start s at x r.0 r.1) (first_carries may way start s at x r.0 allowed h r.1) r.4 in (
      p.next,
      one_of_flat_map (λ v. option_to_list (goes_on may start (Some v) (at + 1) x n)) (ca_nexts may start s at x) r.0 p.next r.1 (of_some (goes_on may start (Some r.0) (at + 1) x n) p.next p.goes),
      p.state,
      r.3 ∙ sym p.marks,
    )
