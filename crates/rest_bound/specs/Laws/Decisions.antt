-- Whether the rest of the work can end by a step is decided: no step that it asks for is after that end, so there are only so many to try.
use Rattle.std.proofs.Common.{◌≡◌, ℕ, suc, zero, ◌+◌, ◌-◌, ◌<◌, ◌≤◌, Bool, true, false, refl, subst, arith, inl, inr, ◌⊎◌}
use Rattle.std.specs.Prelude.{Option, None, Some}
use Rattle.std.proofs.lemmas.Bool.{cases_lt}
use Rattle.rest_bound.specs.declared.limits.Limits.{Limits}
use Rattle.rest_bound.specs.declared.counts.Counts.{Counts}
use Rattle.rest_bound.specs.declared.mode.Mode.{Mode}
use Rattle.rest_bound.specs.declared.walk.Walk.{Walk}
use Rattle.rest_bound.specs.Ends.{Plan, share, open_mode, credit_mode, fresh_walk, idle_by, streak_after, walked, IsInTime, Begins, KeepsBreak, Closes, Ends}
use Rattle.rest_bound.specs.CanEnd.{EndsFresh, ClosesRun, EndsBy, walk_from, EndsWaiting, CanEnd}
use Rattle.rest_bound.specs.Laws.EndsLaws.{ends_later, ends_after, streak_by}

-- P holds, or it does not.
abbrev pub Decided : Type 0 → Type 0
Decided P = P ⊎ (P → ⊥)

-- # Decisions of parts

carried : (A B : Type 0) → (A → B) → (B → A) → Decided A → Decided B
carried A B f g (inl a) = inl (f a)
carried A B f g (inr a) = inr (λ b. a (g b))

both : (A B : Type 0) → Decided A → Decided B → Decided (A × B)
both A B (inl a) (inl b) = inl (a, b)
both A B (inl a) (inr b) = inr (λ h. b h.1)
both A B (inr a) b = inr (λ h. a h.0)

either : (A B : Type 0) → Decided A → Decided B → Decided (A ⊎ B)
either A B (inl a) b = inl (inl a)
either A B (inr a) (inl b) = inl (inr b)
either A B (inr a) (inr b) = inr (λ h. elim h [ inl x ↦ a x | inr x ↦ b x ])

is_true : (b : Bool) → Decided (b ≡ true)
is_true true = inl refl
is_true false = inr (λ h. cc)

where_true : (A : Type 0) (b : Bool) → Decided A → Decided (b ≡ true → A)
where_true A false d = inl (λ h. absurd (let z : false ≡ true = h in cc))
where_true A true (inl a) = inl (λ h. a)
where_true A true (inr a) = inr (λ h. a (h refl))

at_most : (a b : ℕ) → Decided (a ≤ b)
at_most a b = elim (cases_lt b a) [ inl h ↦ inr (λ x. omega arith) | inr h ↦ inl h ]

less : (a b : ℕ) → Decided (a < b)
less a b = elim (cases_lt a b) [ inl h ↦ inl h | inr h ↦ inr (λ x. omega arith) ]

-- A search for a number up to n.
some_upto : (Q : ℕ → Type 0) → ((v : ℕ) → Decided (Q v)) → (n : ℕ) → Decided ((v : ℕ) × (v ≤ n) × Q v)
some_upto Q d zero = carried (Q 0) ((v : ℕ) × (v ≤ 0) × Q v) (λ h. (0, omega arith, h)) (λ h. let l = h.1 in subst Q (let q : h.0 ≡ 0 = omega arith in q) h.2) (d 0)
some_upto Q d (suc n) = carried (((v : ℕ) × (v ≤ n) × Q v) ⊎ Q (suc n)) ((v : ℕ) × (v ≤ suc n) × Q v)
    (λ h. elim h [ inl a ↦ (a.0, (let l = a.1 in omega arith), a.2) | inr a ↦ (suc n, omega arith, a) ])
    (λ h. let l = h.1 in elim (cases_lt n h.0) [ inl a ↦ inr (subst Q (let q : h.0 ≡ suc n = omega arith in q) h.2) | inr a ↦ inl (h.0, a, h.2) ])
    (either ((v : ℕ) × (v ≤ n) × Q v) (Q (suc n)) (some_upto Q d n) (d (suc n)))

-- A search for a number with two facts, of which the second tells that it is at most n.
some_with : (P Q : ℕ → Type 0) → ((v : ℕ) → Decided (P v)) → ((v : ℕ) → Decided (Q v)) → (n : ℕ) → ((v : ℕ) → Q v → v ≤ n) → Decided ((v : ℕ) × P v × Q v)
some_with P Q d f n up = carried ((v : ℕ) × (v ≤ n) × (P v × Q v)) ((v : ℕ) × P v × Q v)
    (λ h. (h.0, h.2.0, h.2.1))
    (λ h. (h.0, up h.0 h.2, (h.1, h.2)))
    (some_upto (λ v. P v × Q v) (λ v. both (P v) (Q v) (d v) (f v)) n)

-- # A piece

in_time : (m : Mode) (u latest i : ℕ) → Decided (IsInTime m u latest i)
in_time m u latest i = either (u + 1 ≤ latest) ((x : ℕ) × (m.split_least ≤ x) × (x ≤ m.split_most) × (x ≤ i) × (u + 1 ≤ latest + x)) (at_most (u + 1) latest)
    (carried ((x : ℕ) × (m.split_least ≤ x) × ((x ≤ i) × ((x ≤ m.split_most) × (u + 1 ≤ latest + x)))) ((x : ℕ) × (m.split_least ≤ x) × (x ≤ m.split_most) × (x ≤ i) × (u + 1 ≤ latest + x))
    (λ h. (h.0, h.1, h.2.1.0, h.2.0, h.2.1.1))
    (λ h. (h.0, h.1, (h.3, (h.2, h.4))))
    (some_with (λ x. m.split_least ≤ x) (λ x. (x ≤ i) × ((x ≤ m.split_most) × (u + 1 ≤ latest + x))) (λ x. at_most m.split_least x)
    (λ x. both (x ≤ i) ((x ≤ m.split_most) × (u + 1 ≤ latest + x)) (at_most x i) (both (x ≤ m.split_most) (u + 1 ≤ latest + x) (at_most x m.split_most) (at_most (u + 1) (latest + x)))) i (λ x h. h.0)))

begins : (plan : Plan) (m : Mode) (p : ℕ) (w : Walk) (u : ℕ) → Decided (Begins plan m p w u)
begins plan m p w u =
    let Within = plan.drives p ≡ true → IsInTime m u w.latest (idle_by w u) in
    let Spare = plan.drives p ≡ true → share plan p ≤ w.left in
    carried ((plan.opens p u ≡ true) × (Within × Spare)) (Begins plan m p w u)
    (λ h. record { opened = h.0; within = h.1.0; spare = h.1.1 })
    (λ h. (h.opened, (h.within, h.spare)))
    (both (plan.opens p u ≡ true) (Within × Spare) (is_true (plan.opens p u))
    (both Within Spare (where_true (IsInTime m u w.latest (idle_by w u)) (plan.drives p) (in_time m u w.latest (idle_by w u))) (where_true (share plan p ≤ w.left) (plan.drives p) (at_most (share plan p) w.left))))

keeps : (plan : Plan) (m : Mode) (p : ℕ) (w : Walk) (u c : ℕ) → Decided (KeepsBreak plan m p w u c)
keeps plan m p w u c =
    let Counted = (w.at < u) ⊎ (w.streak ≤ c) in
    let Within = plan.drives p ≡ true → c + 1 ≤ m.unbroken in
    carried (Counted × Within) (KeepsBreak plan m p w u c)
    (λ h. record { counted = h.0; within = h.1 })
    (λ h. (h.counted, h.within))
    (both Counted Within (either (w.at < u) (w.streak ≤ c) (less w.at u) (at_most w.streak c)) (where_true (c + 1 ≤ m.unbroken) (plan.drives p) (at_most (c + 1) m.unbroken)))

closes : (m : Mode) (t i v : ℕ) → Decided (Closes m t i v)
closes m t i v =
    let A = t + m.split_least ≤ v in let B = t + m.closing_least ≤ v in let C = m.idle_least ≤ i + (v - t) in
    carried (A × (B × C)) (Closes m t i v)
    (λ h. record { split = h.0; closing = h.1.0; idle = h.1.1 })
    (λ h. (h.split, (h.closing, h.idle)))
    (both A (B × C) (at_most (t + m.split_least) v) (both B C (at_most (t + m.closing_least) v) (at_most m.idle_least (i + (v - t)))))

closes_run : (m : Mode) (k r v : ℕ) → Decided (ClosesRun m k r v)
closes_run m k r v =
    let A = k ≤ v in let B = k + m.split_least ≤ v + r in let C = k + m.closing_least ≤ v + r in let D = k + m.idle_least ≤ v + r in
    carried (A × (B × (C × D))) (ClosesRun m k r v)
    (λ h. record { later = h.0; split = h.1.0; closing = h.1.1.0; idle = h.1.1.1 })
    (λ h. (h.later, (h.split, (h.closing, h.idle))))
    (both A (B × (C × D)) (at_most k v) (both B (C × D) (at_most (k + m.split_least) (v + r)) (both C D (at_most (k + m.closing_least) (v + r)) (at_most (k + m.idle_least) (v + r)))))

-- # The pieces after it

-- what is left to do after piece p at step u, with c steps of driving in a row before it
abbrev GoesOn : Plan → Limits → Mode → ℕ → ℕ → Walk → ℕ → ℕ → ℕ → Type 0
GoesOn plan l m n p w e u c =
    Ends plan l m n (p + 1) (walked plan p w u c) e
    ⊎ ((plan.idles (p + 1) ≡ true) × ((v : ℕ) × Closes m (u + 1) (idle_by w u) v × Ends plan l (open_mode l) n (p + 1) (fresh_walk l v) e))

-- it does not end before
goes_after : (plan : Plan) (l : Limits) (m : Mode) (n p : ℕ) (w : Walk) (e u c : ℕ) → GoesOn plan l m n p w e u c → u ≤ e
goes_after plan l m n p w e u c (inl g) = let z : u + 1 ≤ e = ends_after plan l m n (p + 1) (walked plan p w u c) e g in omega arith
goes_after plan l m n p w e u c (inr g) = let v = g.1.1.split in let z : g.1.0 ≤ e = ends_after plan l (open_mode l) n (p + 1) (fresh_walk l g.1.0) e g.1.2 in omega arith

goes_on : (plan : Plan) (l : Limits) (m : Mode) (n p : ℕ) (w : Walk) (e u c : ℕ) → ((m2 : Mode) (w2 : Walk) → Decided (Ends plan l m2 n (p + 1) w2 e)) → Decided (GoesOn plan l m n p w e u c)
goes_on plan l m n p w e u c d =
    let Rests = (v : ℕ) × Closes m (u + 1) (idle_by w u) v × Ends plan l (open_mode l) n (p + 1) (fresh_walk l v) e in
    either (Ends plan l m n (p + 1) (walked plan p w u c) e) ((plan.idles (p + 1) ≡ true) × Rests) (d m (walked plan p w u c))
    (both (plan.idles (p + 1) ≡ true) Rests (is_true (plan.idles (p + 1)))
    (some_with (λ v. Closes m (u + 1) (idle_by w u) v) (λ v. Ends plan l (open_mode l) n (p + 1) (fresh_walk l v) e) (λ v. closes m (u + 1) (idle_by w u) v) (λ v. d (open_mode l) (fresh_walk l v)) e
    (λ v h. ends_after plan l (open_mode l) n (p + 1) (fresh_walk l v) e h)))

abbrev KeepsOn : Plan → Limits → Mode → ℕ → ℕ → Walk → ℕ → ℕ → ℕ → Type 0
KeepsOn plan l m n p w e u c = KeepsBreak plan m p w u c × GoesOn plan l m n p w e u c

-- less driving in a row leaves no less open
less_streak : (plan : Plan) (l : Limits) (m : Mode) (n p : ℕ) (w : Walk) (e u b c : ℕ) → b ≤ c → (w.at < u) ⊎ (w.streak ≤ b) → KeepsOn plan l m n p w e u c → KeepsOn plan l m n p w e u b
less_streak plan l m n p w e u b c q f h = (
  record { counted = f; within = λ d. (let x = h.0.within d in omega arith) },
  elim h.1 [
    | inl g ↦ inl (ends_later plan l m n (p + 1) (u + 1) (u + 1) w.latest (w.left - share plan p) (idle_by w u) (idle_by w u) (streak_after plan p b) (streak_after plan p c) e (omega arith) (inr (streak_by (plan.drives p) b c q)) refl g)
    | inr g ↦ inr g
  ],
)

-- So one number of steps in a row is enough to try: none after a step between, else the streak.
keeps_on : (plan : Plan) (l : Limits) (m : Mode) (n p : ℕ) (w : Walk) (e u : ℕ) → ((m2 : Mode) (w2 : Walk) → Decided (Ends plan l m2 n (p + 1) w2 e)) → Decided ((c : ℕ) × KeepsOn plan l m n p w e u c)
keeps_on plan l m n p w e u d = elim (cases_lt w.at u) [
  | inl a ↦ carried (KeepsOn plan l m n p w e u 0) ((c : ℕ) × KeepsOn plan l m n p w e u c) (λ h. (0, h)) (λ h. less_streak plan l m n p w e u 0 h.0 (omega arith) (inl a) h.1)
      (both (KeepsBreak plan m p w u 0) (GoesOn plan l m n p w e u 0) (keeps plan m p w u 0) (goes_on plan l m n p w e u 0 d))
  | inr a ↦ carried (KeepsOn plan l m n p w e u w.streak) ((c : ℕ) × KeepsOn plan l m n p w e u c) (λ h. (w.streak, h))
      (λ h. less_streak plan l m n p w e u w.streak h.0 (elim h.1.0.counted [ inl x ↦ absurd (omega arith) | inr x ↦ x ]) (inr (omega arith)) h.1)
      (both (KeepsBreak plan m p w u w.streak) (GoesOn plan l m n p w e u w.streak) (keeps plan m p w u w.streak) (goes_on plan l m n p w e u w.streak d))
]

ends : (plan : Plan) (l : Limits) (m : Mode) (n p : ℕ) (w : Walk) (e : ℕ) → Decided (Ends plan l m n p w e)
unfolding Ends
ends plan l m zero p w e = at_most w.at e
ends plan l m (suc n) p w e =
    carried ((u : ℕ) × (w.at ≤ u) × (Begins plan m p w u × ((c : ℕ) × KeepsOn plan l m n p w e u c))) (Ends plan l m (suc n) p w e)
    (λ h. (h.0, h.1, h.2.0, h.2.1.0, h.2.1.1.0, h.2.1.1.1))
    (λ h. (h.0, h.1, (h.2, (h.3, (h.4, h.5)))))
    (some_with (λ u. w.at ≤ u) (λ u. Begins plan m p w u × ((c : ℕ) × KeepsOn plan l m n p w e u c)) (λ u. at_most w.at u)
    (λ u. both (Begins plan m p w u) ((c : ℕ) × KeepsOn plan l m n p w e u c) (begins plan m p w u) (keeps_on plan l m n p w e u (λ m2 w2. ends plan l m2 n (p + 1) w2 e))) e
    (λ u h. goes_after plan l m n p w e u h.1.0 h.1.1.1))

-- # From counts

ends_fresh : (plan : Plan) (l : Limits) (n p k e : ℕ) → Decided (EndsFresh plan l n p k e)
ends_fresh plan l n p k e = some_with (λ v. k ≤ v) (λ v. Ends plan l (open_mode l) n p (fresh_walk l v) e) (λ v. at_most k v) (λ v. ends plan l (open_mode l) n p (fresh_walk l v) e) e
    (λ v h. ends_after plan l (open_mode l) n p (fresh_walk l v) e h)

ends_base : (plan : Plan) (l : Limits) (m : Mode) (n p : ℕ) (w : Walk) (e : ℕ) → Decided (EndsBy plan l m n p w e)
ends_base plan l m n p w e =
    let Rests = (v : ℕ) × ClosesRun m w.at w.idle v × Ends plan l (open_mode l) n p (fresh_walk l v) e in
    either (Ends plan l m n p w e) ((plan.idles p ≡ true) × Rests) (ends plan l m n p w e)
    (both (plan.idles p ≡ true) Rests (is_true (plan.idles p))
    (some_with (λ v. ClosesRun m w.at w.idle v) (λ v. Ends plan l (open_mode l) n p (fresh_walk l v) e) (λ v. closes_run m w.at w.idle v) (λ v. ends plan l (open_mode l) n p (fresh_walk l v) e) e
    (λ v h. ends_after plan l (open_mode l) n p (fresh_walk l v) e h)))

ends_waiting : (plan : Plan) (l : Limits) (n p k : ℕ) (c : Counts) (o : Option ℕ) (e : ℕ) → Decided (EndsWaiting plan l n p k c o e)
ends_waiting plan l n p k c None e = inl tt
ends_waiting plan l n p k c (Some w) e = ends_base plan l (credit_mode l w) n p (walk_from l k c c.elapsed c.driving) e

-- Whether they can end by e from the counts c at step k.
pub can_end_or_not : (plan : Plan) (l : Limits) (n p k : ℕ) (c : Counts) (e : ℕ) → Decided (CanEnd plan l n p k c e)
can_end_or_not plan l n p k c e =
    let Fresh = EndsFresh plan l n p k e in
    let Base = EndsBy plan l (open_mode l) n p (walk_from l k c c.since c.driven) e in
    let Waiting = EndsWaiting plan l n p k c c.waiting e in
    either ((l.full_rest ≤ c.run) × Fresh) ((c.run < l.full_rest) × (Base × Waiting))
    (both (l.full_rest ≤ c.run) Fresh (at_most l.full_rest c.run) (ends_fresh plan l n p k e))
    (both (c.run < l.full_rest) (Base × Waiting) (less c.run l.full_rest) (both Base Waiting (ends_base plan l (open_mode l) n p (walk_from l k c c.since c.driven) e) (ends_waiting plan l n p k c c.waiting e)))
