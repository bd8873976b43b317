-- Counts that are no worse leave no less open.
use Rattle.std.proofs.Common.{◌≡◌, ℕ, suc, zero, ◌+◌, ◌-◌, ◌≤◌, refl, sym, subst, arith, inl, inr}
use Rattle.std.specs.Prelude.{Option, None, Some}
use Rattle.rest_bound.specs.declared.limits.Limits.{Limits}
use Rattle.rest_bound.specs.declared.counts.Counts.{Counts}
use Rattle.rest_bound.specs.declared.mode.Mode.{Mode}
use Rattle.rest_bound.specs.Ends.{Plan, share, open_mode, credit_mode, streak_after, Ends}
use Rattle.rest_bound.specs.CanEnd.{EndsBy, EndsWaiting, CanEnd}
use Rattle.rest_bound.specs.Order.{IsNoWorse}
use Rattle.rest_bound.specs.Laws.EndsLaws.{walk, ends_by, serves_more, ends_later}

-- more driving that is left leaves more open
pub ends_left : (plan : Plan) (l : Limits) (m : Mode) (n p t latest left left2 i b e : ℕ) → left2 ≤ left →
    Ends plan l m n p (walk t latest left2 i b) e → Ends plan l m n p (walk t latest left i b) e
unfolding Ends
ends_left plan l m zero p t latest left left2 i b e h r = r
ends_left plan l m (suc n) p t latest left left2 i b e h r = (
  r.0,
  r.1,
  record { opened = r.2.opened; within = r.2.within; spare = λ q. (let x = r.2.spare q in omega arith) },
  r.3,
  record { counted = r.4.counted; within = r.4.within },
  elim r.5 [
    | inl g ↦ inl (ends_left plan l m n (p + 1) (r.0 + 1) latest (left - share plan p) (left2 - share plan p) (i + (r.0 - t)) (streak_after plan p r.3) e (omega arith) g)
    | inr g ↦ inr g
  ],
)

by_order : (plan : Plan) (l : Limits) (m : Mode) (n p k latest latest2 left left2 r b b2 e : ℕ) → latest2 ≤ latest → left2 ≤ left → b ≤ b2 →
    EndsBy plan l m n p (walk k latest2 left2 r b2) e → EndsBy plan l m n p (walk k latest left r b) e
by_order plan l m n p k latest latest2 left left2 r b b2 e x y z (inl h) =
    inl (ends_left plan l m n p k latest left left2 r b e y
    (ends_by plan l m m n p k latest latest2 left2 r r b e (serves_more m latest latest2 r r x (omega arith))
    (ends_later plan l m n p k k latest2 left2 r r b b2 e (omega arith) (inr z) refl h)))
by_order plan l m n p k latest latest2 left left2 r b b2 e x y z (inr h) = inr h

wait_order : (plan : Plan) (l : Limits) (n p k e : ℕ) (c d : Counts) (o : Option ℕ) → IsNoWorse l k c d → c.run ≡ d.run → EndsWaiting plan l n p k d o e → EndsWaiting plan l n p k c o e
wait_order plan l n p k e c d None z q h = tt
wait_order plan l n p k e c d (Some w) z q h =
    subst (λ r. EndsBy plan l (credit_mode l w) n p (walk k (k + l.elapsed - c.elapsed) (l.driving - c.driving) r c.streak) e) (sym q)
    (by_order plan l (credit_mode l w) n p k (k + l.elapsed - c.elapsed) (k + l.elapsed - d.elapsed) (l.driving - c.driving) (l.driving - d.driving) d.run c.streak d.streak e z.elapsed z.driving z.streak h)

pub no_worse_ends : (plan : Plan) (l : Limits) (n p k e : ℕ) (c d : Counts) → IsNoWorse l k c d → CanEnd plan l n p k d e → CanEnd plan l n p k c e
no_worse_ends plan l n p k e c d z (inl h) = elim z.run [ inl q ↦ inl ((let a = h.0 in omega arith), h.1) | inr x ↦ inl (x.0, h.1) ]
no_worse_ends plan l n p k e c d z (inr h) = elim z.run [
  | inl q ↦ inr (
    (let a = h.0 in omega arith),
    (
      subst (λ r. EndsBy plan l (open_mode l) n p (walk k (k + l.elapsed - c.since) (l.driving - c.driven) r c.streak) e) (sym q)
          (by_order plan l (open_mode l) n p k (k + l.elapsed - c.since) (k + l.elapsed - d.since) (l.driving - c.driven) (l.driving - d.driven) d.run c.streak d.streak e z.since z.driven z.streak h.1.0),
      elim z.waiting [
        | inl none ↦ subst (λ o. EndsWaiting plan l n p k c o e) (sym none) tt
        | inr same ↦ subst (λ o. EndsWaiting plan l n p k c o e) (sym same) (wait_order plan l n p k e c d d.waiting z q h.1.1)
      ],
    ),
  )
  | inr x ↦ absurd (let a = h.0 in let b = x.1 in omega arith)
]
