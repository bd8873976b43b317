-- When the days of one history may stand for those of another of the same length and first minute, whatever comes next.
use Rattle.std.proofs.Common.{◌≡◌, ℕ, ◌+◌, ◌<◌, ◌≤◌, ◌⊎◌, max, Bool, true, false, cond, refl, sym, ◌∙◌, ap, subst, arith, inl, inr}
use Rattle.std.specs.Prelude.{nat_lt, ℤ, Option, None, Some}
use Rattle.std.proofs.lemmas.Bool.{cases_lt, cases_Bool, cond-true, cond-false}
use Rattle.std.proofs.lemmas.Bool.Decides.{nat_tests}
use Rattle.duty_core.specs.declared.activity.Activity.{Activity}
use Rattle.duty_core.specs.declared.mark.Mark.{Mark}
use Rattle.duty_core.specs.declared.params.RestWay.{RestWay}
use Rattle.duty_core.specs.declared.params.RestWay.TheVariants.{Split, Defer}
use Rattle.duty_core.specs.declared.limits.TheConstants.{DAY_MINUTES, CA_BLOCK_LEAST, CA_LOST_LIMIT}
use Rattle.duty_core.specs.Activity.{rests}
use Rattle.cycles_deferral.specs.declared.days.DayCount.{DayCount}
use Rattle.cycles_deferral.specs.declared.days.CanadaDays.{CanadaDays}
use Rattle.cycles_deferral.specs.DayMachine.{days_turned, days_begun, rest_on, days_rested, worked_day, days_worked, keeps_split, keeps_defer, keeps_way, keeps_days, mark_between, days_after}
use Rattle.cycles_deferral.specs.Laws.DeferLaws.{passes_means, passes_from}
use Rattle.cycles_deferral.specs.DayCovers.{LosesNoMore, YesterdayCovers, IsMet, EndsAsWell, EndsCover, DaysCover, CoversOn}

-- # An order

no_more_self : (a : DayCount) → LosesNoMore a a
no_more_self a = record { at_rest = omega arith; at_duty = omega arith }

pub days_cover_self : (a : CanadaDays) → DaysCover a a
days_cover_self a = record {
  same_way = refl;
  same_minute = refl;
  rested = omega arith;
  today_no_more = record { at_rest = omega arith; at_duty = omega arith };
  yesterday = inr (no_more_self a.yesterday, inr (omega arith));
  ends = inr (inr (record { fewer = omega arith; yesterday = no_more_self a.yesterday; rest = inr (record { longer = omega arith; reaches = λ e. e }) }));
}

no_more_over : (a b c : DayCount) → LosesNoMore a b → LosesNoMore b c → LosesNoMore a c
no_more_over a b c h g =
    let x = h.at_rest in
    let y = h.at_duty in
    let z = g.at_rest in
    let w = g.at_duty in
    record { at_rest = omega arith; at_duty = omega arith }

yesterday_over : (a b c : CanadaDays) → YesterdayCovers a b → YesterdayCovers b c → YesterdayCovers a c
yesterday_over a b c (inl h) g = inl h
yesterday_over a b c (inr h) (inl g) = inl (let z = h.0.at_duty in omega arith)
yesterday_over a b c (inr h) (inr g) = inr (
  no_more_over a.yesterday b.yesterday c.yesterday h.0 g.0,
  elim h.1 [
    | inl p ↦ inl p
    | inr p ↦ elim g.1 [ inl q ↦ inl (let z = h.0.at_duty in omega arith) | inr q ↦ inr (omega arith) ]
  ],
)

-- where the other's deferral is met already, so is this one, or it defers nothing
met_over : (a b : CanadaDays) → EndsAsWell a b → IsMet b → IsMet a
met_over a b h g =
    let f = h.fewer in
    let d = h.yesterday.at_duty in
    let m = g.rest in
    let n = g.both in
    record { rest = elim h.rest [ inl r ↦ r | inr r ↦ (let o = r.longer in omega arith) ]; both = omega arith }

ends_over : (a b c : CanadaDays) → EndsCover a b → EndsCover b c → EndsCover a c
ends_over a b c (inl h) g = inl h
ends_over a b c (inr (inl h)) g = inr (inl h)
ends_over a b c (inr (inr h)) (inl g) = inl (let f = h.fewer in omega arith)
ends_over a b c (inr (inr h)) (inr (inl g)) = inr (inl (met_over a b h g))
ends_over a b c (inr (inr h)) (inr (inr g)) =
    let f = h.fewer in
    let k = g.fewer in
    inr (inr (record {
      fewer = omega arith;
      yesterday = no_more_over a.yesterday b.yesterday c.yesterday h.yesterday g.yesterday;
      rest = elim h.rest [
        | inl p ↦ inl p
        | inr p ↦ (let o = p.longer in elim g.rest [
          | inl q ↦ inl (omega arith)
          | inr q ↦ inr (record { longer = (let z = q.longer in omega arith); reaches = λ e. p.reaches (q.reaches e) })
        ])
      ];
    }))

pub days_cover_over : (a b c : CanadaDays) → DaysCover a b → DaysCover b c → DaysCover a c
days_cover_over a b c h g =
    let x = h.rested in
    let y = g.rested in
    record {
      same_way = h.same_way ∙ g.same_way;
      same_minute = h.same_minute ∙ g.same_minute;
      rested = omega arith;
      today_no_more = no_more_over a.today b.today c.today h.today_no_more g.today_no_more;
      yesterday = yesterday_over a b c h.yesterday g.yesterday;
      ends = ends_over a b c h.ends g.ends;
    }

-- # A new day

pub cover_turned : (a b : CanadaDays) → DaysCover a b → DaysCover (days_turned a) (days_turned b)
cover_turned a b h =
    let r = h.rested in
    record {
      same_way = h.same_way;
      same_minute = refl;
      rested = h.rested;
      today_no_more = record { at_rest = omega arith; at_duty = omega arith };
      yesterday = inr (h.today_no_more, inr (omega arith));
      ends = elim h.yesterday [
        | inl l ↦ inl (omega arith)
        | inr l ↦ inr (inr (record {
          fewer = l.0.at_rest;
          yesterday = h.today_no_more;
          rest = elim l.1 [
            | inl k ↦ inl (omega arith)
            | inr k ↦ inr (record { longer = k; reaches = λ e. let m : 0 < b.rest = grind (arith, nat_tests) in grind (arith, nat_tests) })
          ];
        }))
      ];
    }

pub cover_begun : (new : Bool) (a b : CanadaDays) → DaysCover a b → DaysCover (days_begun new a) (days_begun new b)
cover_begun true a b h = cover_turned a b h
cover_begun false a b h = h

-- # Rest

-- the short part of a day at one more minute of rest
short_at : ℕ → ℕ → ℕ → ℕ
short_at rest c n = cond (nat_lt rest CA_BLOCK_LEAST) (c + n) 0

short_is : (rest c n : ℕ) → rest < CA_BLOCK_LEAST → short_at rest c n ≡ c + n
unfolding short_at
short_is rest c n l = cond-true (nat_lt rest CA_BLOCK_LEAST) (c + n) 0 (grind (arith, nat_tests))

long_is : (rest c n : ℕ) → CA_BLOCK_LEAST ≤ rest → short_at rest c n ≡ 0
unfolding short_at
long_is rest c n l = cond-false (nat_lt rest CA_BLOCK_LEAST) (c + n) 0 (grind (arith, nat_tests))

no_more_rested : (x y : ℕ) (n : ℕ) (a b : DayCount) → y ≤ x → LosesNoMore a b → a.lost + short_at x a.short n ≤ b.lost + short_at y b.short n
no_more_rested x y n a b l h =
    let r = h.at_rest in
    let d = h.at_duty in
    elim (cases_lt x CA_BLOCK_LEAST) [
      | inl k ↦ (let p = short_is x a.short n k in let q = short_is y b.short n (omega arith) in omega arith)
      | inr k ↦ (let p = long_is x a.short n k in omega arith)
    ]

-- the short part grows by the minute at most
short_most : (x n : ℕ) (a : DayCount) → short_at x a.short n ≤ a.short + n
short_most x n a = elim (cases_lt x CA_BLOCK_LEAST) [
  | inl k ↦ (let p = short_is x a.short n k in omega arith)
  | inr k ↦ (let p = long_is x a.short n k in omega arith)
]

longest_at : Bool → ℕ → ℕ → ℕ
longest_at holds longest rest = cond holds (max longest rest) longest

longest_more : (d e : Bool) (m n x y : ℕ) → (e ≡ true → d ≡ true) → n ≤ m → y ≤ x → longest_at e n y ≤ longest_at d m x
unfolding longest_at
longest_more true true m n x y h l k = omega arith
longest_more true false m n x y h l k = omega arith
longest_more false true m n x y h l k = absurd (let z : false ≡ true = h refl in cc)
longest_more false false m n x y h l k = l

longest_least : (d : Bool) (m x : ℕ) → m ≤ longest_at d m x
unfolding longest_at
longest_least true m x = omega arith
longest_least false m x = omega arith

pub cover_rested : (a b : CanadaDays) → DaysCover a b → DaysCover (days_rested a) (days_rested b)
unfolding short_at longest_at
cover_rested a b h =
    let r = h.rested in
    let m = h.same_minute in
    let l : rest_on b.rest ≤ rest_on a.rest = omega arith in
    let s = short_most (rest_on a.rest) 0 a.yesterday in
    let no_more : LosesNoMore a.yesterday b.yesterday → LosesNoMore (days_rested a).yesterday (days_rested b).yesterday = λ k.
    record { at_rest = k.at_rest; at_duty = no_more_rested (rest_on a.rest) (rest_on b.rest) 0 a.yesterday b.yesterday l k } in
    record {
      same_way = h.same_way;
      same_minute = omega arith;
      rested = l;
      today_no_more = record { at_rest = h.today_no_more.at_rest; at_duty = no_more_rested (rest_on a.rest) (rest_on b.rest) 1 a.today b.today l h.today_no_more };
      yesterday = elim h.yesterday [
        | inl k ↦ inl (omega arith)
        | inr k ↦ inr (
          no_more k.0,
          elim k.1 [
            | inl e ↦ inl (let m = longest_least true a.today.longest (rest_on a.rest) in omega arith)
            | inr e ↦ inr (longest_more true true a.today.longest b.today.longest (rest_on a.rest) (rest_on b.rest) (λ i. i) e l)
          ],
        )
      ];
      ends = elim h.ends [
        | inl k ↦ inl k
        | inr e ↦ elim e [
          | inl k ↦ inr (inl (let u = k.rest in let v = k.both in let w = longest_least a.reaches a.yesterday.longest (rest_on a.rest) in record { rest = omega arith; both = omega arith }))
          | inr k ↦ inr (inr (record {
            fewer = k.fewer;
            yesterday = no_more k.yesterday;
            rest = elim k.rest [
              | inl i ↦ inl (let w = longest_least a.reaches a.yesterday.longest (rest_on a.rest) in omega arith)
              | inr i ↦ inr (record { longer = longest_more a.reaches b.reaches a.yesterday.longest b.yesterday.longest (rest_on a.rest) (rest_on b.rest) i.reaches i.longer l; reaches = i.reaches })
            ];
          }))
        ]
      ];
    }

-- # Duty

no_more_worked : (n : ℕ) (a b : DayCount) → LosesNoMore a b → LosesNoMore (worked_day n a) (worked_day n b)
no_more_worked n a b h = let d = h.at_duty in record { at_rest = omega arith; at_duty = omega arith }

pub cover_worked : (a b : CanadaDays) → DaysCover a b → DaysCover (days_worked a) (days_worked b)
cover_worked a b h =
    let m = h.same_minute in
    let t = h.today_no_more.at_duty in
    record {
      same_way = h.same_way;
      same_minute = omega arith;
      rested = omega arith;
      today_no_more = no_more_worked 1 a.today b.today h.today_no_more;
      yesterday = elim h.yesterday [
        | inl l ↦ inl (omega arith)
        | inr l ↦ inr (no_more_worked 0 a.yesterday b.yesterday l.0, elim l.1 [ inl e ↦ inl (omega arith) | inr e ↦ inr e ])
      ];
      ends = elim h.ends [
        | inl l ↦ inl l
        | inr e ↦ elim e [
          | inl l ↦ inr (inl (let v = l.both in record { rest = l.rest; both = omega arith }))
          | inr l ↦ inr (inr (record {
            fewer = l.fewer;
            yesterday = no_more_worked 0 a.yesterday b.yesterday l.yesterday;
            rest = elim l.rest [ inl i ↦ inl i | inr i ↦ inr (record { longer = i.longer; reaches = λ f. f }) ];
          }))
        ]
      ];
    }

keeps_same : (a b : CanadaDays) → DaysCover a b → b.today.short ≡ 0 → b.yesterday.short ≡ 0 → a.yesterday.short ≡ 0 → keeps_defer b ≡ true → keeps_defer a ≡ true
keeps_same a b h s0 s1 s2 e =
    let p = passes_means b e in
    let t = h.today_no_more.at_rest in
    let m = p.today_most in
    passes_from a (record {
      before_both = λ l. elim h.ends [
        | inl k ↦ absurd (omega arith)
        | inr d ↦ elim d [
          | inl k ↦ (let v = k.both in omega arith)
          | inr k ↦ (let f = k.fewer in let y = k.yesterday.at_rest in let q = p.before_both (omega arith) in omega arith)
        ]
      ];
      before_rest = λ l. elim h.ends [
        | inl k ↦ absurd (omega arith)
        | inr d ↦ elim d [
          | inl k ↦ k.rest
          | inr k ↦ elim k.rest [ inl i ↦ i | inr i ↦ (let f = k.fewer in let o = i.longer in let q = p.before_rest (omega arith) in omega arith) ]
        ]
      ];
      most = λ l. elim h.yesterday [ inl k ↦ absurd (omega arith) | inr k ↦ (let y = k.0.at_rest in let q = p.most (omega arith) in omega arith) ];
      both = λ l. elim h.yesterday [ inl k ↦ absurd (omega arith) | inr k ↦ (let y = k.0.at_rest in let q = p.both (omega arith) in omega arith) ];
      rest = λ over l.
          let f : nat_lt b.minute DAY_MINUTES ≡ false = ap (λ n. nat_lt n DAY_MINUTES) (sym h.same_minute) ∙ over in
          elim h.yesterday [ inl k ↦ absurd (omega arith) | inr k ↦ elim k.1 [ inl i ↦ (let u : a.yesterday.short ≡ 0 = s2 in omega arith) | inr i ↦ (let y = k.0.at_rest in let q = p.rest f (omega arith) in omega arith) ] ];
      today_most = omega arith;
    })

keeps_split_same : (a b : CanadaDays) → YesterdayCovers a b → a.today.lost ≤ b.today.lost → keeps_split b ≡ true → keeps_split a ≡ true
keeps_split_same a b y t e =
    let p : b.yesterday.lost ≤ CA_LOST_LIMIT = grind (arith, nat_tests) in
    let q : b.today.lost ≤ CA_LOST_LIMIT = grind (arith, nat_tests) in
    let r : a.yesterday.lost ≤ CA_LOST_LIMIT = elim y [ inl k ↦ omega arith | inr k ↦ (let n = k.0.at_rest in omega arith) ] in
    let s : a.today.lost ≤ CA_LOST_LIMIT = omega arith in
    grind (arith, nat_tests)

keeps_way_same : (way : RestWay) (a b : CanadaDays) → DaysCover (days_worked a) (days_worked b) → keeps_way way (days_worked b) ≡ true → keeps_way way (days_worked a) ≡ true
keeps_way_same Split a b h e = keeps_split_same (days_worked a) (days_worked b) h.yesterday h.today_no_more.at_rest e
keeps_way_same Defer a b h e = keeps_same (days_worked a) (days_worked b) h refl refl refl e

keeps_covered : (a b : CanadaDays) → DaysCover a b → keeps_days (days_worked b) ≡ true → keeps_days (days_worked a) ≡ true
keeps_covered a b h e =
    let same : a.way ≡ b.way = h.same_way in
    ap (λ w. keeps_way w (days_worked a)) same ∙ keeps_way_same b.way a b (cover_worked a b h) e

-- what a step of the begun days says
pub days_on_cases : (s : CanadaDays) (x : Activity) (new : Bool) (date : ℤ) (u : CanadaDays) (m : Option Mark) → days_after s x new date ≡ Some (u, m) →
    ((rests x ≡ true) × (u ≡ days_rested (days_begun new s))) ⊎ ((rests x ≡ false) × (keeps_days (days_worked (days_begun new s)) ≡ true) × (u ≡ days_worked (days_begun new s)))
days_on_cases s x new date u m h =
    let t : CanadaDays = days_begun new s in
    let go : CanadaDays × Option Mark = (days_worked t, mark_between t (days_worked t) date) in
    let stay : CanadaDays × Option Mark = (days_rested t, None) in
    let worked : Option (CanadaDays × Option Mark) = cond (keeps_days (days_worked t)) (Some go) None in
    elim (cases_Bool (rests x)) [
      | inl r ↦ (
          let e : Some (u, m) ≡ Some stay = sym h ∙ cond-true (rests x) (Some stay) worked r in
          let f : (u, m) ≡ stay = cc in
          inl (r, ap (λ (z : CanadaDays × Option Mark). z.0) f))
      | inr r ↦ (
          let e : Some (u, m) ≡ worked = sym h ∙ cond-false (rests x) (Some stay) worked r in
          elim (cases_Bool (keeps_days (days_worked t))) [
            | inl k ↦ (
                let g : Some (u, m) ≡ Some go = e ∙ cond-true (keeps_days (days_worked t)) (Some go) None k in
                let f : (u, m) ≡ go = cc in
                inr (r, k, ap (λ (z : CanadaDays × Option Mark). z.0) f))
            | inr k ↦ absurd (let g : Some (u, m) ≡ None = e ∙ cond-false (keeps_days (days_worked t)) (Some go) None k in cc)
          ])
    ]

rest_on_covers : (s u : CanadaDays) (x : Activity) (new : Bool) (date : ℤ) → rests x ≡ true → DaysCover (days_rested (days_begun new s)) u → CoversOn (days_after s x new date) u
rest_on_covers s u x new date r h =
    let t : CanadaDays = days_begun new s in
    record {
      days = days_rested t;
      mark = None;
      is = cond-true (rests x) (Some (days_rested t, None)) (cond (keeps_days (days_worked t)) (Some (days_worked t, mark_between t (days_worked t) date)) None) r;
      covers = h;
    }

-- Where the days a of the next minute's day may stand for b, each step of b is matched by one of a, by the same activity.
pub days_simulate : (a b u : CanadaDays) (x : Activity) (new : Bool) (date : ℤ) (m : Option Mark) → DaysCover (days_begun new a) (days_begun new b) → days_after b x new date ≡ Some (u, m) → CoversOn (days_after a x new date) u
days_simulate a b u x new date m h e =
    let s : CanadaDays = days_begun new a in
    let t : CanadaDays = days_begun new b in
    let go : Option (CanadaDays × Option Mark) = Some (days_worked s, mark_between s (days_worked s) date) in
    elim (days_on_cases b x new date u m e) [
      | inl c ↦ rest_on_covers a u x new date c.0 (subst (DaysCover (days_rested s)) (sym c.1) (cover_rested s t h))
      | inr c ↦ (
          let k = keeps_covered s t h c.1 in
          record {
            days = days_worked s;
            mark = mark_between s (days_worked s) date;
            is = cond-false (rests x) (Some (days_rested s, None)) (cond (keeps_days (days_worked s)) go None) c.0 ∙ cond-true (keeps_days (days_worked s)) go None k;
            covers = subst (DaysCover (days_worked s)) (sym c.2) (cover_worked s t h);
          })
    ]

-- # Resting is safe

rested_covers_worked : (s : CanadaDays) → DaysCover (days_rested s) (days_worked s)
unfolding short_at longest_at
rested_covers_worked s =
    let a = short_most (rest_on s.rest) 1 s.today in
    let b = short_most (rest_on s.rest) 0 s.yesterday in
    let no_more : LosesNoMore (days_rested s).yesterday (days_worked s).yesterday = record { at_rest = omega arith; at_duty = omega arith } in
    record {
      same_way = refl;
      same_minute = refl;
      rested = omega arith;
      today_no_more = record { at_rest = omega arith; at_duty = omega arith };
      yesterday = inr (no_more, inr (longest_least true s.today.longest (rest_on s.rest)));
      ends = inr (inr (record {
        fewer = omega arith;
        yesterday = no_more;
        rest = inr (record { longer = longest_least s.reaches s.yesterday.longest (rest_on s.rest); reaches = λ e. absurd (let z : false ≡ true = e in cc) });
      }));
    }

-- What any activity leads to, rest may stand for.
pub days_rest_ahead : (s u : CanadaDays) (x y : Activity) (new : Bool) (date : ℤ) (m : Option Mark) → rests y ≡ true → days_after s x new date ≡ Some (u, m) → CoversOn (days_after s y new date) u
days_rest_ahead s u x y new date m r e =
    let t : CanadaDays = days_begun new s in
    rest_on_covers s u y new date r (elim (days_on_cases s x new date u m e) [
      | inl c ↦ subst (DaysCover (days_rested t)) (sym c.1) (days_cover_self (days_rested t))
      | inr c ↦ subst (DaysCover (days_rested t)) (sym c.2) (rested_covers_worked t)
    ])
