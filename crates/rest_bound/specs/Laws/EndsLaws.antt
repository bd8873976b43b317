-- When one walk can end wherever another can: by more idle steps, by a split rest taken out, or by an earlier begin.
use Rattle.std.proofs.Common.{◌≡◌, ℕ, suc, zero, ◌+◌, ◌-◌, ◌<◌, ◌≤◌, Bool, true, false, cond, subst, arith, inl, inr, ◌⊎◌}
use Rattle.rest_bound.specs.declared.limits.Limits.{Limits}
use Rattle.rest_bound.specs.declared.mode.Mode.{Mode}
use Rattle.rest_bound.specs.declared.walk.Walk.{Walk}
use Rattle.rest_bound.specs.Ends.{Plan, share, open_mode, credit_mode, fresh_walk, streak_after, walked, IsInTime, Begins, Closes, Ends}

-- a walk by its numbers
abbrev pub walk : ℕ → ℕ → ℕ → ℕ → ℕ → Walk
walk t d h i b = record { at = t; latest = d; left = h; idle = i; streak = b }

-- One base stands for another where each of its ways to be in time and to close serves there too.
pub record Serves (m : Mode) (latest i : ℕ) (m2 : Mode) (latest2 i2 : ℕ) : Type 0 where
  pub in_time : (u x : ℕ) → IsInTime m2 u latest2 (i2 + x) → IsInTime m u latest (i + x)
  pub closes : (t x v : ℕ) → Closes m2 t (i2 + x) v → Closes m t (i + x) v
  pub unbroken : m2.unbroken ≤ m.unbroken

begins_by : (plan : Plan) (m m2 : Mode) (p u t latest latest2 left i i2 b : ℕ) → Serves m latest i m2 latest2 i2 → Begins plan m2 p (walk t latest2 left i2 b) u → Begins plan m p (walk t latest left i b) u
begins_by plan m m2 p u t latest latest2 left i i2 b s g = record { opened = g.opened; within = λ q. s.in_time u (u - t) (g.within q); spare = g.spare }

serves_on : (m m2 : Mode) (latest latest2 i i2 y : ℕ) → Serves m latest i m2 latest2 i2 → Serves m latest (i + y) m2 latest2 (i2 + y)
serves_on m m2 latest latest2 i i2 y s = record {
  in_time = λ u x h. subst (IsInTime m u latest) (let e : i + (y + x) ≡ i + y + x = omega arith in e) (s.in_time u (y + x) (subst (IsInTime m2 u latest2) (let e : i2 + y + x ≡ i2 + (y + x) = omega arith in e) h));
  closes = λ t x v h. subst (λ j. Closes m t j v) (let e : i + (y + x) ≡ i + y + x = omega arith in e) (s.closes t (y + x) v (subst (λ j. Closes m2 t j v) (let e : i2 + y + x ≡ i2 + (y + x) = omega arith in e) h));
  unbroken = s.unbroken;
}

-- a walk from a base that stands for another can end where the other can
pub ends_by : (plan : Plan) (l : Limits) (m m2 : Mode) (n p t latest latest2 left i i2 b e : ℕ) → Serves m latest i m2 latest2 i2 →
    Ends plan l m2 n p (walk t latest2 left i2 b) e → Ends plan l m n p (walk t latest left i b) e
unfolding Ends
ends_by plan l m m2 zero p t latest latest2 left i i2 b e s r = r
ends_by plan l m m2 (suc n) p t latest latest2 left i i2 b e s r = (
  r.0,
  r.1,
  begins_by plan m m2 p r.0 t latest latest2 left i i2 b s r.2,
  r.3,
  record { counted = r.4.counted; within = λ q. (let x = r.4.within q in let y = s.unbroken in omega arith) },
  elim r.5 [
    | inl h ↦ inl (ends_by plan l m m2 n (p + 1) (r.0 + 1) latest latest2 (left - share plan p) (i + (r.0 - t)) (i2 + (r.0 - t)) (streak_after plan p r.3) e (serves_on m m2 latest latest2 i i2 (r.0 - t) s) h)
    | inr h ↦ inr (h.0, (h.1.0, s.closes (r.0 + 1) (r.0 - t) h.1.0 h.1.1, h.1.2))
  ],
)

-- more idle steps so far, and a later step by which driving has ended, leave more open
pub serves_more : (m : Mode) (latest latest2 i i2 : ℕ) → latest2 ≤ latest → i2 ≤ i → Serves m latest i m latest2 i2
serves_more m latest latest2 i i2 d q = record {
  in_time = λ u x h. elim h [ inl a ↦ inl (omega arith) | inr a ↦ inr (a.0, a.1, a.2, (let b = a.3 in omega arith), (let b = a.4 in omega arith)) ];
  closes = λ t x v h. record { split = h.split; closing = h.closing; idle = (let b = h.idle in omega arith) };
  unbroken = omega arith;
}

-- a split rest of w steps that waits, as w of the idle steps
pub serves_credit : (l : Limits) (latest latest2 w : ℕ) → l.split_least ≤ w → w ≤ l.split_most → latest2 ≤ latest + w → Serves (open_mode l) latest w (credit_mode l w) latest2 0
serves_credit l latest latest2 w a b q = record {
  in_time = λ u x h. elim h [ inl c ↦ inr (w, a, b, omega arith, omega arith) | inr c ↦ (let d = c.2 in let f = c.4 in inr (w, a, b, omega arith, omega arith)) ];
  closes = λ t x v h. (let c : t + (l.full_rest - w) ≤ v = h.closing in record { split = h.split; closing = (let d : t + l.split_least ≤ v = h.split in omega arith); idle = omega arith });
  unbroken = omega arith;
}

-- a later begin, with the steps between as idle ones, or the same one after less driving in a row
pub ends_later : (plan : Plan) (l : Limits) (m : Mode) (n p s t latest left i j b c e : ℕ) → s ≤ t → (s < t) ⊎ (b ≤ c) → j + s ≡ i + t →
    Ends plan l m n p (walk t latest left j c) e → Ends plan l m n p (walk s latest left i b) e
unfolding Ends
ends_later plan l m zero p s t latest left i j b c e h y q r = let a : t ≤ e = r in omega arith
ends_later plan l m (suc n) p s t latest left i j b c e h y q r =
    let a = r.1 in let x : j + (r.0 - t) ≡ i + (r.0 - s) = omega arith in (
      r.0,
      omega arith,
      record { opened = r.2.opened; within = λ d. subst (IsInTime m r.0 latest) x (r.2.within d); spare = r.2.spare },
      r.3,
      record { counted = elim y [ inl z ↦ inl (omega arith) | inr z ↦ elim r.4.counted [ inl w ↦ inl (omega arith) | inr w ↦ inr (omega arith) ] ]; within = r.4.within },
      elim r.5 [
        | inl g ↦ inl (subst (λ k. Ends plan l m n (p + 1) (walk (r.0 + 1) latest (left - share plan p) k (streak_after plan p r.3)) e) x g)
        | inr g ↦ inr (g.0, (g.1.0, subst (λ k. Closes m (r.0 + 1) k g.1.0) x g.1.1, g.1.2))
      ],
    )

-- less driving in a row before a piece leaves no more after it
pub streak_by : (d : Bool) (b c : ℕ) → b ≤ c → cond d (b + 1) 0 ≤ cond d (c + 1) 0
streak_by true b c h = omega arith
streak_by false b c h = omega arith

-- nothing ends before the step from which its next piece may be done
pub ends_after : (plan : Plan) (l : Limits) (m : Mode) (n p : ℕ) (w : Walk) (e : ℕ) → Ends plan l m n p w e → w.at ≤ e
unfolding Ends
ends_after plan l m zero p w e r = r
ends_after plan l m (suc n) p w e r = elim r.5 [
  | inl h ↦ (let a = r.1 in let z : r.0 + 1 ≤ e = ends_after plan l m n (p + 1) (walked plan p w r.0 r.3) e h in omega arith)
  | inr h ↦ (let a = r.1 in let v = h.1.1.split in let z : h.1.0 ≤ e = ends_after plan l (open_mode l) n (p + 1) (fresh_walk l h.1.0) e h.1.2 in omega arith)
]

-- what can end can end later
pub ends_up : (plan : Plan) (l : Limits) (m : Mode) (n p : ℕ) (w : Walk) (e f : ℕ) → e ≤ f → Ends plan l m n p w e → Ends plan l m n p w f
unfolding Ends
ends_up plan l m zero p w e f q r = let a : w.at ≤ e = r in omega arith
ends_up plan l m (suc n) p w e f q r = (
  r.0,
  r.1,
  r.2,
  r.3,
  r.4,
  elim r.5 [
    | inl h ↦ inl (ends_up plan l m n (p + 1) (walked plan p w r.0 r.3) e f q h)
    | inr h ↦ inr (h.0, (h.1.0, h.1.1, ends_up plan l (open_mode l) n (p + 1) (fresh_walk l h.1.0) e f q h.1.2))
  ],
)
