-- What can end after a lawful step can end before it; so each list of lawful deeds ends where its first counts can.
use Rattle.std.proofs.Common.{◌≡◌, ℕ, suc, zero, ◌+◌, ◌-◌, ◌<◌, ◌≤◌, true, List, [], ◌∷◌, refl, sym, subst, arith, cond, inl, inr, ◌⊎◌}
use Rattle.std.specs.Prelude.{Option, None, Some}
use Rattle.std.proofs.lemmas.Bool.{cases_lt}
use Rattle.rest_bound.specs.declared.limits.Limits.{Limits}
use Rattle.rest_bound.specs.declared.counts.Counts.{Counts}
use Rattle.rest_bound.specs.declared.mode.Mode.{Mode}
use Rattle.rest_bound.specs.declared.counts.Deed.{Deed}
use Rattle.rest_bound.specs.declared.counts.Deed.TheVariants.{Work, Split, Wait, SplitWait, Idle}
use Rattle.rest_bound.specs.Ends.{Plan, share, open_mode, credit_mode, fresh_walk, streak_after, Begins, Closes, Ends}
use Rattle.rest_bound.specs.CanEnd.{ClosesRun, EndsFresh, EndsBy, EndsWaiting, CanEnd, walk_from}
use Rattle.rest_bound.specs.Runs.{worked, split_worked, waited, split_waited, after_full, after_undeclared, idled, MayWork, MaySplit, Pairs, AreCounts, AreLimits, Reaches}
use Rattle.rest_bound.specs.Laws.EndsLaws.{walk, ends_by, serves_more, serves_credit, ends_later, ends_after}
use Rattle.rest_bound.specs.Laws.CountLaws.{duty_full, duty_on, counts_duty, counts_split, counts_idle}

-- what a full rest that is over at step v leaves open
abbrev Fresh : Plan → Limits → ℕ → ℕ → ℕ → ℕ → Type 0
Fresh plan l n p v e = Ends plan l (open_mode l) n p (fresh_walk l v) e

-- A piece that may be done at step k where the walk is leads to what is left after it.
ends_first : (plan : Plan) (l : Limits) (m : Mode) (n p k latest left r b e : ℕ) → Begins plan m p (walk k latest left r b) k → (plan.drives p ≡ true → b + 1 ≤ m.unbroken) →
    (Ends plan l m n (p + 1) (walk (k + 1) latest (left - share plan p) r (streak_after plan p b)) e ⊎ ((plan.idles (p + 1) ≡ true) × ((v : ℕ) × Closes m (k + 1) r v × Fresh plan l n (p + 1) v e))) →
    Ends plan l m (suc n) p (walk k latest left r b) e
unfolding Ends
ends_first plan l m n p k latest left r b e g d h =
    let q : r ≡ r + (k - k) = omega arith in (
      k,
      omega arith,
      g,
      b,
      record { counted = inr (omega arith); within = d },
      elim h [
        | inl f ↦ inl (subst (λ y. Ends plan l m n (p + 1) (walk (k + 1) latest (left - share plan p) y (streak_after plan p b)) e) q f)
        | inr f ↦ inr (f.0, (f.1.0, subst (λ y. Closes m (k + 1) y f.1.0) q f.1.1, f.1.2))
      ],
    )

closes_run : (m : Mode) (k r v : ℕ) → ClosesRun m k 0 v → Closes m k r v
closes_run m k r v h = record {
  split = (let a = h.split in omega arith);
  closing = (let a = h.closing in omega arith);
  idle = (let a = h.idle in let b = h.later in omega arith);
}

-- A step of work, from what the counts after it leave open, with c steps of driving in a row before.
work_core : (plan : Plan) (l : Limits) (m : Mode) (n p k latest left latest2 left2 r b c e : ℕ) → latest2 ≡ latest → left2 ≡ left - share plan p → b ≤ c →
    Begins plan m p (walk k latest left r c) k → (plan.drives p ≡ true → c + 1 ≤ m.unbroken) →
    (Ends plan l m n (p + 1) (walk (k + 1) latest2 left2 0 (streak_after plan p c)) e ⊎ ((plan.idles (p + 1) ≡ true) × ((v : ℕ) × ClosesRun m (k + 1) 0 v × Fresh plan l n (p + 1) v e))) →
    Ends plan l m (suc n) p (walk k latest left r b) e
work_core plan l m n p k latest left latest2 left2 r b c e q1 q2 bc g d h = ends_later plan l m (suc n) p k k latest left r r b c e (omega arith) (inr bc) refl (ends_first plan l m n p k latest left r c e g d (elim h [
  | inl f ↦ inl (ends_by plan l m m n (p + 1) (k + 1) latest latest (left - share plan p) r 0 (streak_after plan p c) e (serves_more m latest latest r 0 (omega arith) (omega arith))
      (subst (λ x. Ends plan l m n (p + 1) (walk (k + 1) x (left - share plan p) 0 (streak_after plan p c)) e) q1 (subst (λ y. Ends plan l m n (p + 1) (walk (k + 1) latest2 y 0 (streak_after plan p c)) e) q2 f)))
  | inr f ↦ inr (f.0, (f.1.0, closes_run m (k + 1) r f.1.0 f.1.1, f.1.2))
]))

-- what a streak within the limit says of the one before it
streak_before : (plan : Plan) (p c x : ℕ) → plan.drives p ≡ true → streak_after plan p c ≤ x → c + 1 ≤ x
streak_before plan p c x q h = subst (λ b. cond b (c + 1) 0 ≤ x) q h

by_work : (plan : Plan) (l : Limits) (m : Mode) (n p k elapsed driving r b e : ℕ) → plan.opens p k ≡ true →
    (plan.drives p ≡ true → elapsed + 1 ≤ l.elapsed) → (plan.drives p ≡ true → driving + share plan p ≤ l.driving) → (plan.drives p ≡ true → b + 1 ≤ m.unbroken) →
    EndsBy plan l m n (p + 1) (walk (k + 1) (k + 1 + l.elapsed - (elapsed + 1)) (l.driving - (driving + share plan p)) 0 (streak_after plan p b)) e →
    EndsBy plan l m (suc n) p (walk k (k + l.elapsed - elapsed) (l.driving - driving) r b) e
by_work plan l m n p k elapsed driving r b e o w s d h =
    let g : Begins plan m p (walk k (k + l.elapsed - elapsed) (l.driving - driving) r b) k = record {
      opened = o;
      within = λ q. inl (let x = w q in omega arith);
      spare = λ q. (let x = s q in omega arith);
    } in
    inl (work_core plan l m n p k (k + l.elapsed - elapsed) (l.driving - driving) (k + 1 + l.elapsed - (elapsed + 1)) (l.driving - (driving + share plan p)) r b b e (omega arith) (omega arith) (omega arith) g d h)

by_fresh : (plan : Plan) (l : Limits) (n p k c e : ℕ) → plan.opens p k ≡ true →
    (plan.drives p ≡ true → 1 ≤ l.elapsed) → (plan.drives p ≡ true → share plan p ≤ l.driving) → (plan.drives p ≡ true → c + 1 ≤ l.unbroken) →
    EndsBy plan l (open_mode l) n (p + 1) (walk (k + 1) (k + 1 + l.elapsed - 1) (l.driving - share plan p) 0 (streak_after plan p c)) e → Fresh plan l (suc n) p k e
by_fresh plan l n p k c e o w s d h =
    let g : Begins plan (open_mode l) p (walk k (k + l.elapsed) l.driving 0 c) k = record {
      opened = o;
      within = λ q. inl (let x = w q in omega arith);
      spare = s;
    } in
    work_core plan l (open_mode l) n p k (k + l.elapsed) l.driving (k + 1 + l.elapsed - 1) (l.driving - share plan p) 0 0 c e (omega arith) refl (omega arith) g d h

by_split : (plan : Plan) (l : Limits) (n p k since driven r b e : ℕ) → l.split_least ≤ r → r ≤ l.split_most → plan.opens p k ≡ true →
    (plan.drives p ≡ true → since - r + 1 ≤ l.elapsed) → (plan.drives p ≡ true → driven + share plan p ≤ l.driving) → (plan.drives p ≡ true → b + 1 ≤ l.unbroken) →
    EndsBy plan l (credit_mode l r) n (p + 1) (walk (k + 1) (k + 1 + l.elapsed - (since - r + 1)) (l.driving - (driven + share plan p)) 0 (streak_after plan p b)) e →
    EndsBy plan l (open_mode l) (suc n) p (walk k (k + l.elapsed - since) (l.driving - driven) r b) e
by_split plan l n p k since driven r b e a z o w s d h =
    let f : Begins plan (open_mode l) p (walk k (k + l.elapsed - since) (l.driving - driven) r b) k = record {
      opened = o;
      within = λ q. inr (r, a, z, omega arith, (let x = w q in omega arith));
      spare = λ q. (let x = s q in omega arith);
    } in
    let q2 : l.driving - (driven + share plan p) ≡ l.driving - driven - share plan p = omega arith in
    let q3 : k + 1 + l.elapsed - (since - r + 1) ≤ k + l.elapsed - since + r = omega arith in
    inl (ends_first plan l (open_mode l) n p k (k + l.elapsed - since) (l.driving - driven) r b e f d (elim h [
      | inl g ↦ inl (ends_by plan l (open_mode l) (credit_mode l r) n (p + 1) (k + 1) (k + l.elapsed - since) (k + 1 + l.elapsed - (since - r + 1)) (l.driving - driven - share plan p) r 0 (streak_after plan p b) e
          (serves_credit l (k + l.elapsed - since) (k + 1 + l.elapsed - (since - r + 1)) r a z q3)
          (subst (λ y. Ends plan l (credit_mode l r) n (p + 1) (walk (k + 1) (k + 1 + l.elapsed - (since - r + 1)) y 0 (streak_after plan p b)) e) q2 g))
      | inr g ↦ inr (
        g.0,
        (
          g.1.0,
          (let y = g.1.1 in let y2 : k + 1 + (l.full_rest - r) ≤ g.1.0 + 0 = y.closing in let y3 = y.later in let y4 : k + 1 + l.split_least ≤ g.1.0 + 0 = y.split in
              record { split = omega arith; closing = omega arith; idle = omega arith }),
          g.1.2,
        ),
      )
    ]))

by_idle : (plan : Plan) (l : Limits) (m : Mode) (n p k elapsed driving r b e : ℕ) → EndsBy plan l m n p (walk (k + 1) (k + 1 + l.elapsed - (elapsed + 1)) (l.driving - driving) (r + 1) 0) e →
    EndsBy plan l m n p (walk k (k + l.elapsed - elapsed) (l.driving - driving) r b) e
by_idle plan l m n p k elapsed driving r b e (inl h) =
    let q : k + 1 + l.elapsed - (elapsed + 1) ≡ k + l.elapsed - elapsed = omega arith in
    inl (ends_later plan l m n p k (k + 1) (k + l.elapsed - elapsed) (l.driving - driving) r (r + 1) b 0 e (omega arith) (inl (omega arith)) (omega arith)
    (subst (λ x. Ends plan l m n p (walk (k + 1) x (l.driving - driving) (r + 1) 0) e) q h))
by_idle plan l m n p k elapsed driving r b e (inr h) =
    let c = h.1.1 in
    inr (h.0, (h.1.0, record { later = (let a = c.later in omega arith); split = (let a = c.split in omega arith); closing = (let a = c.closing in omega arith); idle = (let a = c.idle in omega arith) }, h.1.2))

-- a run that becomes a full rest
by_full : (plan : Plan) (l : Limits) (m : Mode) (n p k latest left r b e : ℕ) → plan.idles p ≡ true → l.full_rest ≤ r + 1 → m.split_least ≤ l.full_rest → m.closing_least ≤ l.full_rest → m.idle_least ≤ l.full_rest →
    EndsFresh plan l n p (k + 1) e → EndsBy plan l m n p (walk k latest left r b) e
by_full plan l m n p k latest left r b e i f a z c h =
    inr (i, (h.0, (let d = h.1 in record { later = omega arith; split = omega arith; closing = omega arith; idle = omega arith }), h.2))

wait_idle : (plan : Plan) (l : Limits) (n p k e : ℕ) (c : Counts) (o : Option ℕ) → EndsWaiting plan l n p (k + 1) (idled c) o e → EndsWaiting plan l n p k c o e
wait_idle plan l n p k e c None h = tt
wait_idle plan l n p k e c (Some w) h = by_idle plan l (credit_mode l w) n p k c.elapsed c.driving c.run c.streak e h

wait_full : (plan : Plan) (l : Limits) (n p k e : ℕ) (c : Counts) (o : Option ℕ) → AreLimits l → plan.idles p ≡ true → l.full_rest ≤ c.run + 1 → EndsFresh plan l n p (k + 1) e → EndsWaiting plan l n p k c o e
wait_full plan l n p k e c None z i f h = tt
wait_full plan l n p k e c (Some w) z i f h = by_full plan l (credit_mode l w) n p k (k + l.elapsed - c.elapsed) (l.driving - c.driving) c.run c.streak e i f z.split (omega arith) (omega arith) h

pub step_idle : (plan : Plan) (l : Limits) (n p k e : ℕ) (c : Counts) → AreLimits l → plan.idles p ≡ true → CanEnd plan l n p (k + 1) (idled c) e → CanEnd plan l n p k c e
step_idle plan l n p k e c z i (inl h) = elim (cases_lt c.run l.full_rest) [
  | inl a ↦ (let f : l.full_rest ≤ c.run + 1 = h.0 in
      inr (a, (by_full plan l (open_mode l) n p k (k + l.elapsed - c.since) (l.driving - c.driven) c.run c.streak e i f z.split (omega arith) (omega arith) h.1, wait_full plan l n p k e c c.waiting z i f h.1)))
  | inr a ↦ inl (a, (h.1.0, (let v = h.1.1 in omega arith), h.1.2))
]
step_idle plan l n p k e c z i (inr h) =
    let a : c.run + 1 < l.full_rest = h.0 in
    inr (omega arith, (by_idle plan l (open_mode l) n p k c.since c.driven c.run c.streak e h.1.0, wait_idle plan l n p k e c c.waiting h.1.1))

-- just after work no rest is full
unrested : {A B : Type 0} (l : Limits) → AreLimits l → ((l.full_rest ≤ 0) × A) ⊎ ((0 < l.full_rest) × B) → B
unrested l z (inl h) = absurd (let a = h.0 in let b = z.some in let c = z.split in omega arith)
unrested l z (inr h) = h.1

step_full : (plan : Plan) (l : Limits) (n p k e : ℕ) (c : Counts) → AreLimits l → l.full_rest ≤ c.run → MayWork plan l p k (after_full (share plan p) (streak_after plan p c.streak)) → CanEnd plan l n (p + 1) (k + 1) (after_full (share plan p) (streak_after plan p c.streak)) e → CanEnd plan l (suc n) p k c e
step_full plan l n p k e c z a w h = inl (a, (k, omega arith, by_fresh plan l n p k c.streak e w.opened w.elapsed w.driving (λ q. streak_before plan p c.streak l.unbroken q (w.unbroken q)) (unrested l z h).0))

wait_work : (plan : Plan) (l : Limits) (n p k e : ℕ) (c : Counts) (o : Option ℕ) → MayWork plan l p k (after_undeclared (share plan p) (streak_after plan p c.streak) c) → EndsWaiting plan l n (p + 1) (k + 1) (after_undeclared (share plan p) (streak_after plan p c.streak) c) o e → EndsWaiting plan l (suc n) p k c o e
wait_work plan l n p k e c None w h = tt
wait_work plan l n p k e c (Some x) w h = by_work plan l (credit_mode l x) n p k c.elapsed c.driving c.run c.streak e w.opened w.elapsed w.driving (λ q. streak_before plan p c.streak l.unbroken q (w.unbroken q)) h

step_undeclared : (plan : Plan) (l : Limits) (n p k e : ℕ) (c : Counts) → AreLimits l → AreCounts plan p c → c.run < l.full_rest → MayWork plan l p k (after_undeclared (share plan p) (streak_after plan p c.streak) c) →
    CanEnd plan l n (p + 1) (k + 1) (after_undeclared (share plan p) (streak_after plan p c.streak) c) e → CanEnd plan l (suc n) p k c e
step_undeclared plan l n p k e c z i a w h =
    let g = unrested l z h in
    inr (
      a,
      (
        by_work plan l (open_mode l) n p k c.since c.driven c.run c.streak e w.opened (λ q. let x = w.elapsed q in let y = i.shorter in omega arith) (λ q. let x = w.driving q in let y = i.fewer in omega arith) (λ q. streak_before plan p c.streak l.unbroken q (w.unbroken q)) g.0,
        wait_work plan l n p k e c c.waiting w g.1,
      ),
    )

pub step_work : (plan : Plan) (l : Limits) (n p k e : ℕ) (c : Counts) → AreLimits l → AreCounts plan p c → MayWork plan l p k (worked plan l p c) → CanEnd plan l n (p + 1) (k + 1) (worked plan l p c) e → CanEnd plan l (suc n) p k c e
step_work plan l n p k e c z i w h = elim (cases_lt c.run l.full_rest) [
  | inl a ↦ step_undeclared plan l n p k e c z i a (subst (MayWork plan l p k) (duty_on l (share plan p) (streak_after plan p c.streak) c a) w) (subst (λ x. CanEnd plan l n (p + 1) (k + 1) x e) (duty_on l (share plan p) (streak_after plan p c.streak) c a) h)
  | inr a ↦ step_full plan l n p k e c z a (subst (MayWork plan l p k) (duty_full l (share plan p) (streak_after plan p c.streak) c a) w) (subst (λ x. CanEnd plan l n (p + 1) (k + 1) x e) (duty_full l (share plan p) (streak_after plan p c.streak) c a) h)
]

wait_split : (plan : Plan) (l : Limits) (n p k e : ℕ) (c : Counts) (o : Option ℕ) → l.split_least ≤ c.run → Pairs l c.run o → plan.idles p ≡ true → EndsFresh plan l n p k e → EndsWaiting plan l n p k c o e
wait_split plan l n p k e c None a f i h = tt
wait_split plan l n p k e c (Some w) a f i h = let g : l.full_rest ≤ w + c.run = f in let d = h.1 in
    inr (i, (h.0, record { later = d; split = omega arith; closing = omega arith; idle = omega arith }, h.2))

pub step_split : (plan : Plan) (l : Limits) (n p k e : ℕ) (c : Counts) → AreLimits l → AreCounts plan p c → MaySplit l c → MayWork plan l p k (split_worked plan p c) →
    CanEnd plan l n (p + 1) (k + 1) (split_worked plan p c) e → CanEnd plan l (suc n) p k c e
step_split plan l n p k e c z i s w h =
    let g = unrested l z h in
    let a = s.least in let b = z.some in
    inr (
      s.short,
      (
        by_split plan l n p k c.since c.driven c.run c.streak e s.least s.most w.opened w.elapsed w.driving (λ q. streak_before plan p c.streak l.unbroken q (w.unbroken q)) g.1,
        wait_split plan l (suc n) p k e c c.waiting s.least s.pairs (i.rests (omega arith)) (
          k,
          omega arith,
          by_fresh plan l n p k c.streak e w.opened (λ q. let x = w.elapsed q in omega arith) (λ q. let x = w.driving q in omega arith) (λ q. streak_before plan p c.streak l.unbroken q (w.unbroken q)) g.0,
        ),
      ),
    )

-- # Duty that does no piece

-- a run that has ended leaves no more open than one that goes on
more_idle : (plan : Plan) (l : Limits) (m : Mode) (n p k latest left r e : ℕ) → EndsBy plan l m n p (walk k latest left 0 0) e → EndsBy plan l m n p (walk k latest left r 0) e
more_idle plan l m n p k latest left r e (inl h) = inl (ends_by plan l m m n p k latest latest left r 0 0 e (serves_more m latest latest r 0 (omega arith) (omega arith)) h)
more_idle plan l m n p k latest left r e (inr h) =
    let c = h.1.1 in
    inr (h.0, (h.1.0, record { later = c.later; split = (let a = c.split in omega arith); closing = (let a = c.closing in omega arith); idle = (let a = c.idle in omega arith) }, h.1.2))

by_wait : (plan : Plan) (l : Limits) (m : Mode) (n p k elapsed driving r b e : ℕ) → EndsBy plan l m n p (walk (k + 1) (k + 1 + l.elapsed - (elapsed + 1)) (l.driving - (driving + 0)) 0 0) e →
    EndsBy plan l m n p (walk k (k + l.elapsed - elapsed) (l.driving - driving) r b) e
by_wait plan l m n p k elapsed driving r b e h =
    let q : l.driving - (driving + 0) ≡ l.driving - driving = omega arith in
    by_idle plan l m n p k elapsed driving r b e (more_idle plan l m n p (k + 1) (k + 1 + l.elapsed - (elapsed + 1)) (l.driving - driving) (r + 1) e
    (subst (λ y. EndsBy plan l m n p (walk (k + 1) (k + 1 + l.elapsed - (elapsed + 1)) y 0 0) e) q h))

wait_on : (plan : Plan) (l : Limits) (n p k e : ℕ) (c : Counts) (o : Option ℕ) → EndsWaiting plan l n p (k + 1) (after_undeclared 0 0 c) o e → EndsWaiting plan l n p k c o e
wait_on plan l n p k e c None h = tt
wait_on plan l n p k e c (Some w) h = by_wait plan l (credit_mode l w) n p k c.elapsed c.driving c.run c.streak e h

-- duty just after a rest leaves no more open than a rest that is over with it
fresh_wait : (plan : Plan) (l : Limits) (n p k e : ℕ) → EndsBy plan l (open_mode l) n p (walk (k + 1) (k + 1 + l.elapsed - 1) (l.driving - 0) 0 0) e → EndsFresh plan l n p k e
fresh_wait plan l n p k e (inl h) =
    let q : l.driving - 0 ≡ l.driving = omega arith in (
      k + 1,
      omega arith,
      ends_by plan l (open_mode l) (open_mode l) n p (k + 1) (k + 1 + l.elapsed) (k + 1 + l.elapsed - 1) l.driving 0 0 0 e (serves_more (open_mode l) (k + 1 + l.elapsed) (k + 1 + l.elapsed - 1) 0 0 (omega arith) (omega arith))
          (subst (λ y. Ends plan l (open_mode l) n p (walk (k + 1) (k + 1 + l.elapsed - 1) y 0 0) e) q h),
    )
fresh_wait plan l n p k e (inr h) = (h.1.0, (let a = h.1.1.later in omega arith), h.1.2)

pub step_wait : (plan : Plan) (l : Limits) (n p k e : ℕ) (c : Counts) → AreLimits l → CanEnd plan l n p (k + 1) (waited l c) e → CanEnd plan l n p k c e
step_wait plan l n p k e c z h = elim (cases_lt c.run l.full_rest) [
  | inl a ↦ (let g = unrested l z (subst (λ x. CanEnd plan l n p (k + 1) x e) (duty_on l 0 0 c a) h) in
      inr (a, (by_wait plan l (open_mode l) n p k c.since c.driven c.run c.streak e g.0, wait_on plan l n p k e c c.waiting g.1)))
  | inr a ↦ (let g = unrested l z (subst (λ x. CanEnd plan l n p (k + 1) x e) (duty_full l 0 0 c a) h) in inl (a, fresh_wait plan l n p k e g.0))
]

by_split_wait : (plan : Plan) (l : Limits) (n p k since driven r b e : ℕ) → l.split_least ≤ r → r ≤ l.split_most →
    EndsBy plan l (credit_mode l r) n p (walk (k + 1) (k + 1 + l.elapsed - (since - r + 1)) (l.driving - (driven + 0)) 0 0) e →
    EndsBy plan l (open_mode l) n p (walk k (k + l.elapsed - since) (l.driving - driven) r b) e
by_split_wait plan l n p k since driven r b e a z (inl h) =
    let q : l.driving - (driven + 0) ≡ l.driving - driven = omega arith in
    let q3 : k + 1 + l.elapsed - (since - r + 1) ≤ k + l.elapsed - since + r = omega arith in
    inl (ends_later plan l (open_mode l) n p k (k + 1) (k + l.elapsed - since) (l.driving - driven) r (r + 1) b 0 e (omega arith) (inl (omega arith)) (omega arith)
    (ends_by plan l (open_mode l) (open_mode l) n p (k + 1) (k + l.elapsed - since) (k + l.elapsed - since) (l.driving - driven) (r + 1) r 0 e
    (serves_more (open_mode l) (k + l.elapsed - since) (k + l.elapsed - since) (r + 1) r (omega arith) (omega arith))
    (ends_by plan l (open_mode l) (credit_mode l r) n p (k + 1) (k + l.elapsed - since) (k + 1 + l.elapsed - (since - r + 1)) (l.driving - driven) r 0 0 e
    (serves_credit l (k + l.elapsed - since) (k + 1 + l.elapsed - (since - r + 1)) r a z q3)
    (subst (λ y. Ends plan l (credit_mode l r) n p (walk (k + 1) (k + 1 + l.elapsed - (since - r + 1)) y 0 0) e) q h))))
by_split_wait plan l n p k since driven r b e a z (inr h) =
    let y = h.1.1 in let y2 : k + 1 + (l.full_rest - r) ≤ h.1.0 + 0 = y.closing in let y3 = y.later in let y4 : k + 1 + l.split_least ≤ h.1.0 + 0 = y.split in
    inr (h.0, (h.1.0, record { later = omega arith; split = omega arith; closing = omega arith; idle = omega arith }, h.1.2))

pub step_split_wait : (plan : Plan) (l : Limits) (n p k e : ℕ) (c : Counts) → AreLimits l → AreCounts plan p c → MaySplit l c → CanEnd plan l n p (k + 1) (split_waited c) e → CanEnd plan l n p k c e
step_split_wait plan l n p k e c z i s h =
    let g = unrested l z h in
    let a = s.least in let b = z.some in
    inr (
      s.short,
      (
        by_split_wait plan l n p k c.since c.driven c.run c.streak e s.least s.most g.1,
        wait_split plan l n p k e c c.waiting s.least s.pairs (i.rests (omega arith)) (fresh_wait plan l n p k e g.0),
      ),
    )

-- # Lists of deeds

wait_end : (plan : Plan) (l : Limits) (p k : ℕ) (c : Counts) (o : Option ℕ) → EndsWaiting plan l 0 p k c o k
unfolding Ends
wait_end plan l p k c None = tt
wait_end plan l p k c (Some w) = inl (omega arith)

pub at_end : (plan : Plan) (l : Limits) (p k : ℕ) (c : Counts) → CanEnd plan l 0 p k c k
unfolding Ends
at_end plan l p k c = elim (cases_lt c.run l.full_rest) [ inl a ↦ inr (a, (inl (omega arith), wait_end plan l p k c c.waiting)) | inr a ↦ inl (a, (k, omega arith, omega arith)) ]

-- nothing ends before the step that it is asked of
pub can_after : (plan : Plan) (l : Limits) (n p k e : ℕ) (c : Counts) → CanEnd plan l n p k c e → k ≤ e
can_after plan l n p k e c (inl h) = let r = h.1 in let a = r.1 in let b : r.0 ≤ e = ends_after plan l (open_mode l) n p (fresh_walk l r.0) e r.2 in omega arith
can_after plan l n p k e c (inr h) = elim h.1.0 [
  | inl r ↦ ends_after plan l (open_mode l) n p (walk_from l k c c.since c.driven) e r
  | inr r ↦ (let v = r.1.0 in let a = r.1.1.later in let b : v ≤ e = ends_after plan l (open_mode l) n p (fresh_walk l v) e r.1.2 in omega arith)
]

-- each lawful list of deeds ends where its first counts can
pub reaches_end : (plan : Plan) (l : Limits) (ds : List Deed) (n p k e : ℕ) (c : Counts) → AreLimits l → AreCounts plan p c → Reaches plan l ds n p k c e → CanEnd plan l n p k c e
reaches_end plan l [] n p k e c z i r = subst (λ x. CanEnd plan l x p k c e) (sym r.0) (subst (λ x. CanEnd plan l 0 p k c x) r.1 (at_end plan l p k c))
reaches_end plan l (Work ∷ ds) zero p k e c z i r = absurd r
reaches_end plan l (Work ∷ ds) (suc n) p k e c z i r = step_work plan l n p k e c z i r.0 (reaches_end plan l ds n (p + 1) (k + 1) e (worked plan l p c) z (counts_duty plan l p (p + 1) (share plan p) (streak_after plan p c.streak) c i) r.1)
reaches_end plan l (Split ∷ ds) zero p k e c z i r = absurd r
reaches_end plan l (Split ∷ ds) (suc n) p k e c z i r = step_split plan l n p k e c z i r.0 r.1.0 (reaches_end plan l ds n (p + 1) (k + 1) e (split_worked plan p c) z (counts_split plan (p + 1) (share plan p) (streak_after plan p c.streak) c) r.1.1)
reaches_end plan l (Wait ∷ ds) n p k e c z i r = step_wait plan l n p k e c z (reaches_end plan l ds n p (k + 1) e (waited l c) z (counts_duty plan l p p 0 0 c i) r.1)
reaches_end plan l (SplitWait ∷ ds) n p k e c z i r = step_split_wait plan l n p k e c z i r.1.0 (reaches_end plan l ds n p (k + 1) e (split_waited c) z (counts_split plan p 0 0 c) r.1.1)
reaches_end plan l (Idle ∷ ds) n p k e c z i r = step_idle plan l n p k e c z r.0 (reaches_end plan l ds n p (k + 1) e (idled c) z (counts_idle plan p c r.0 i) r.1)
