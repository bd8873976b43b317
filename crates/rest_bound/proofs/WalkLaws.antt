-- The walk that begins each piece as early as may be finds the least end.
use Rattle.std.proofs.Common.{◌≡◌, ℕ, suc, ◌+◌, ◌-◌, ◌<◌, ◌≤◌, true, sym, subst, arith, inl, inr, ◌⊎◌}
use Rattle.std.specs.Prelude.{Option, None, Some}
use Rattle.std.proofs.lemmas.Bool.{cases_lt}
use Rattle.rest_bound.specs.declared.limits.Limits.{Limits}
use Rattle.rest_bound.specs.declared.mode.Mode.{Mode}
use Rattle.rest_bound.specs.declared.walk.Walk.{Walk}
use Rattle.rest_bound.specs.Ends.{Plan, share, open_mode, fresh_walk, idle_by, walked, streak_after, KeepsBreak, Closes, Ends}
use Rattle.rest_bound.specs.CanEnd.{EndsFresh}
use Rattle.rest_bound.specs.Runs.{AtMost}
use Rattle.rest_bound.specs.Table.{IsLeast, IsBegin, IsClose, IsWithRest, streak_at, sooner}
use Rattle.rest_bound.specs.Laws.EndsLaws.{ends_later, ends_after, streak_by}
use Rattle.rest_bound.proofs.SoonerLaws.{at_most_left, at_most_right, sooner_is}
use Rattle.rest_bound.proofs.BeginLaws.{streak_new, streak_most}

-- A walk from the ends P has n pieces from q on to come; `best` is the least end with a full rest on the way.
pub record IsWalk (P : ℕ → Type 0) (plan : Plan) (l : Limits) (m : Mode) (n q : ℕ) (w : Walk) (horizon : ℕ) (best : Option ℕ) : Type 0 where
  pub below : (e : ℕ) → P e → e ≤ horizon → AtMost best e ⊎ Ends plan l m n q w e
  pub goes : (e : ℕ) → Ends plan l m n q w e → P e
  pub made : (z : ℕ) → best ≡ Some z → P z
  pub within : (z : ℕ) → best ≡ Some z → z ≤ horizon

-- the step at which the next piece is done is before the end
begins_before : (plan : Plan) (l : Limits) (m : Mode) (n p : ℕ) (w : Walk) (u i e : ℕ) → u + 1 ≤ w.at →
    (Ends plan l m n p w e ⊎ ((plan.idles p ≡ true) × ((v : ℕ) × Closes m (u + 1) i v × Ends plan l (open_mode l) n p (fresh_walk l v) e))) → u < e
begins_before plan l m n p w u i e a (inl g) = let z = ends_after plan l m n p w e g in omega arith
begins_before plan l m n p w u i e a (inr g) = let v = g.1.1.split in let z : g.1.0 ≤ e = ends_after plan l (open_mode l) n p (fresh_walk l g.1.0) e g.1.2 in omega arith

pub walk_stop : (P : ℕ → Type 0) (plan : Plan) (l : Limits) (m : Mode) (j n q : ℕ) (w : Walk) (horizon : ℕ) (best o : Option ℕ) → j ≡ suc n →
    IsWalk P plan l m j q w horizon best → IsBegin plan m q w horizon o → o ≡ None → IsLeast P horizon best
unfolding Ends
walk_stop P plan l m j n q w horizon best o s k g0 none = record {
  below = λ e h z. elim (k.below e h z) [
    | inl a ↦ a
    | inr r ↦ (let r2 : Ends plan l m (suc n) q w e = subst (λ x. Ends plan l m x q w e) s r in
        let y = begins_before plan l m n (q + 1) (walked plan q w r2.0 r2.3) r2.0 (idle_by w r2.0) e (omega arith) r2.5 in
        absurd (subst (λ x. AtMost x r2.0) none (g0.first r2.0 r2.3 r2.1 r2.2 r2.4 (omega arith))))
  ];
  made = k.made;
  within = k.within;
}

pub walk_done : (P : ℕ → Type 0) (plan : Plan) (l : Limits) (m : Mode) (j q : ℕ) (w : Walk) (horizon : ℕ) (best : Option ℕ) → j ≡ 0 → w.at ≤ horizon →
    IsWalk P plan l m j q w horizon best → IsLeast P horizon (sooner best (Some w.at))
unfolding Ends
walk_done P plan l m j q w horizon best z early k = record {
  below = λ e h y. elim (k.below e h y) [
    | inl a ↦ at_most_left best (Some w.at) e a
    | inr r ↦ at_most_right best (Some w.at) e (subst (λ x. Ends plan l m x q w e) z r)
  ];
  made = λ x h. elim (sooner_is best (Some w.at) x h) [
    | inl a ↦ k.made x a
    | inr a ↦ k.goes x (subst (λ y. Ends plan l m y q w x) (sym z) (let c : Some w.at ≡ Some x = a in let d : w.at ≡ x = cc in omega arith))
  ];
  within = λ x h. elim (sooner_is best (Some w.at) x h) [ inl a ↦ k.within x a | inr a ↦ (let c : Some w.at ≡ Some x = a in let d : w.at ≡ x = cc in omega arith) ];
}

-- a rest after a later step closes the base no sooner
closes_on : (m : Mode) (w : Walk) (u x v : ℕ) → w.at ≤ u → u ≤ x → Closes m (x + 1) (idle_by w x) v → Closes m (u + 1) (idle_by w u) v
closes_on m w u x v a b h = record {
  split = (let c = h.split in omega arith);
  closing = (let c = h.closing in omega arith);
  idle = (let c = h.idle in let d = h.split in omega arith);
}

-- the first step at which a piece may be done comes before another such step, or has no longer streak
no_longer : (plan : Plan) (m : Mode) (p : ℕ) (w : Walk) (u x c : ℕ) → u ≤ x → KeepsBreak plan m p w x c → (u + 1 < x + 1) ⊎ (streak_after plan p (streak_at w u) ≤ streak_after plan p c)
no_longer plan m p w u x c q h = elim (cases_lt u x) [
  | inl y ↦ inl (omega arith)
  | inr y ↦ inr (streak_by (plan.drives p) (streak_at w u) c (elim h.counted [
    | inl z ↦ (let v = streak_new w u (omega arith) in omega arith)
    | inr z ↦ (let v = streak_most w u in omega arith)
  ]))
]

pub walk_more : (P : ℕ → Type 0) (plan : Plan) (l : Limits) (m : Mode) (j n q : ℕ) (w : Walk) (horizon u s : ℕ) (best o new : Option ℕ) → j ≡ suc n →
    IsWalk P plan l m j q w horizon best → IsBegin plan m q w horizon o → o ≡ Some u → IsClose m (u + 1) (idle_by w u) s →
    IsWithRest plan l n (q + 1) s horizon best new → IsWalk P plan l m n (q + 1) (walked plan q w u (streak_at w u)) horizon new
unfolding Ends
walk_more P plan l m j n q w horizon u s best o new one k g0 is close g = record {
  below = λ e h z. elim (k.below e h z) [
    | inl a ↦ inl (g.keeps e a)
    | inr r ↦ (let r2 : Ends plan l m (suc n) q w e = subst (λ x. Ends plan l m x q w e) one r in
        let y0 = begins_before plan l m n (q + 1) (walked plan q w r2.0 r2.3) r2.0 (idle_by w r2.0) e (omega arith) r2.5 in
        let y : u ≤ r2.0 = subst (λ x. AtMost x r2.0) is (g0.first r2.0 r2.3 r2.1 r2.2 r2.4 (omega arith)) in
        let x : w.at ≤ u = g0.later u is in
        elim r2.5 [
          | inl f ↦ inr (ends_later plan l m n (q + 1) (u + 1) (r2.0 + 1) w.latest (w.left - share plan q) (idle_by w u) (idle_by w r2.0) (streak_after plan q (streak_at w u)) (streak_after plan q r2.3) e
              (omega arith) (no_longer plan m q w u r2.0 r2.3 y r2.4) (omega arith) f)
          | inr f ↦ inl (g.below e f.0 (f.1.0, close.first f.1.0 (closes_on m w u r2.0 f.1.0 x y f.1.1), f.1.2) z)
        ])
  ];
  goes = λ e h. k.goes e (subst (λ x. Ends plan l m x q w e) (sym one) (u, g0.later u is, g0.begins u is, streak_at w u, g0.keeps u is, inl h));
  made = λ c h. elim (g.made c h) [
    | inl a ↦ k.made c a
    | inr a ↦ k.goes c (subst (λ x. Ends plan l m x q w c) (sym one) (u, g0.later u is, g0.begins u is, streak_at w u, g0.keeps u is, inr (a.0, (a.1.0.0, close.closes a.1.0.0 a.1.0.1, a.1.0.2))))
  ];
  within = λ c h. elim (g.made c h) [ inl a ↦ k.within c a | inr a ↦ a.1.1 ];
}

-- a full rest that may be taken
pub rest_taken : (plan : Plan) (l : Limits) (n p k horizon : ℕ) (best close : Option ℕ) → plan.idles p ≡ true →
    IsLeast (EndsFresh plan l n p k) horizon close → IsWithRest plan l n p k horizon best (sooner best close)
rest_taken plan l n p k horizon best close i f = record {
  keeps = λ e h. at_most_left best close e h;
  below = λ e q r g. at_most_right best close e (f.below e r g);
  made = λ b h. elim (sooner_is best close b h) [ inl a ↦ inl a | inr a ↦ inr (i, (f.made b a, f.within b a)) ];
}
