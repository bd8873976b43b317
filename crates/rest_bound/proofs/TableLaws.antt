-- Least ends after a full rest, row by row, and from counts.
use Rattle.std.proofs.Common.{◌≡◌, ℕ, ◌+◌, ◌-◌, ◌<◌, ◌≤◌, sym, subst, arith, inl, inr, length-append}
use Rattle.std.specs.Prelude.{Option, None, Some, slice_index_or, List, [], ◌∷◌, ◌++◌, length}
use Rattle.std.specs.Global.{Vec}
use Rattle.std.proofs.Math.ListN.{get_or-append}
use Rattle.std.proofs.Math.Seq.{get_or-append_seam}
use Rattle.std.proofs.lemmas.Bool.{cases_lt}
use Rattle.rest_bound.specs.declared.limits.Limits.{Limits}
use Rattle.rest_bound.specs.declared.counts.Counts.{Counts}
use Rattle.rest_bound.specs.declared.mode.Mode.{Mode}
use Rattle.rest_bound.specs.declared.walk.Walk.{Walk}
use Rattle.rest_bound.specs.declared.table.Table.{Table}
use Rattle.rest_bound.specs.Ends.{Plan, open_mode, credit_mode, fresh_walk, Ends}
use Rattle.rest_bound.specs.CanEnd.{EndsFresh, EndsBy, EndsWaiting, CanEnd, walk_from}
use Rattle.rest_bound.specs.Table.{IsLeast, IsRunClose, IsWithRest, IsRow, IsWhole, AreRows, sooner, later}
use Rattle.rest_bound.specs.Laws.EndsLaws.{ends_after, ends_up}
use Rattle.rest_bound.specs.Laws.StepLaws.{can_after}
use Rattle.rest_bound.proofs.SoonerLaws.{at_most_left, at_most_right, sooner_is, at_most_later, later_is, later_within}

-- after the horizon nothing ends by it
pub fresh_past : (plan : Plan) (l : Limits) (n p k horizon : ℕ) → horizon < k → IsLeast (EndsFresh plan l n p k) horizon None
fresh_past plan l n p k horizon h = record {
  below = λ e r i. (let a = r.1 in let b : r.0 ≤ e = ends_after plan l (open_mode l) n p (fresh_walk l r.0) e r.2 in absurd (omega arith));
  made = λ b q. absurd cc;
  within = λ b q. absurd cc;
}

-- a full rest that is over now, or later
pub fresh_now : (plan : Plan) (l : Limits) (n p k horizon : ℕ) (later now : Option ℕ) → IsLeast (EndsFresh plan l n p (k + 1)) horizon later →
    IsLeast (Ends plan l (open_mode l) n p (fresh_walk l k)) horizon now → IsLeast (EndsFresh plan l n p k) horizon (sooner later now)
fresh_now plan l n p k horizon later now f g = record {
  below = λ e r i. (let a = r.1 in elim (cases_lt k r.0) [
    | inl b ↦ at_most_left later now e (f.below e (r.0, omega arith, r.2) i)
    | inr b ↦ (let q : r.0 ≡ k = omega arith in at_most_right later now e (g.below e (subst (λ v. Ends plan l (open_mode l) n p (fresh_walk l v) e) q r.2) i))
  ]);
  made = λ b h. elim (sooner_is later now b h) [
    | inl a ↦ (let r = f.made b a in let z = r.1 in (r.0, omega arith, r.2))
    | inr a ↦ (k, omega arith, g.made b a)
  ];
  within = λ b h. elim (sooner_is later now b h) [ inl a ↦ f.within b a | inr a ↦ g.within b a ];
}

-- one step more in a row
pub row_more : (plan : Plan) (t : Table) (n : ℕ) (row : List (Option ℕ)) (o : Option ℕ) → IsRow plan t n row →
    IsLeast (EndsFresh plan t.limits n (t.pieces - n) (t.horizon - length row)) t.horizon o → IsRow plan t n (row ++ o ∷ [])
row_more plan t n row o f g j h = elim (cases_lt j (length row)) [
  | inl a ↦ subst (IsLeast (EndsFresh plan t.limits n (t.pieces - n) (t.horizon - j)) t.horizon) (sym (get_or-append row (o ∷ []) None j a)) (f j a)
  | inr a ↦ (let q : j ≡ length row = omega (arith, length-append row (o ∷ [])) in
      subst (λ i. IsLeast (EndsFresh plan t.limits n (t.pieces - n) (t.horizon - i)) t.horizon (slice_index_or (row ++ o ∷ []) i None)) (sym q)
      (subst (IsLeast (EndsFresh plan t.limits n (t.pieces - n) (t.horizon - length row)) t.horizon) (sym (get_or-append_seam row o [] None)) g))
]

-- the table with other rows
abbrev pub with_rows : Table → Vec (Vec (Option ℕ)) → Table
with_rows t v = record { limits = t.limits; pieces = t.pieces; horizon = t.horizon; rows = v }

row_added : (plan : Plan) (t : Table) (row : Vec (Option ℕ)) → AreRows plan t → IsWhole plan t (length t.rows.items) row.items →
    (n : ℕ) (d : Vec (Option ℕ)) → n < length (t.rows.items ++ row ∷ []) → IsWhole plan t n (slice_index_or (t.rows.items ++ row ∷ []) n d).items
row_added plan t row f g n d h = elim (cases_lt n (length t.rows.items)) [
  | inl a ↦ subst (λ v. IsWhole plan t n v.items) (sym (get_or-append t.rows.items (row ∷ []) d n a)) (f n d a)
  | inr a ↦ (let q : n ≡ length t.rows.items = omega (arith, length-append t.rows.items (row ∷ [])) in
      subst (λ i. IsWhole plan t i (slice_index_or (t.rows.items ++ row ∷ []) i d).items) (sym q)
      (subst (λ v. IsWhole plan t (length t.rows.items) v.items) (sym (get_or-append_seam t.rows.items row [] d)) g))
]

-- one row more
pub rows_more : (plan : Plan) (t : Table) (v : Vec (Vec (Option ℕ))) (row : Vec (Option ℕ)) → v.items ≡ t.rows.items ++ row ∷ [] →
    AreRows plan t → IsWhole plan t (length t.rows.items) row.items → AreRows plan (with_rows t v)
rows_more plan t v row e f g n d h = let a = subst (λ rows. IsWhole plan t n (slice_index_or rows n d).items) (sym e) (row_added plan t row f g n d (subst (λ rows. n < length rows) e h)) in
    record { long = a.long; least = a.least }

-- nothing ends by the horizon from a step after it
pub bound_past : (plan : Plan) (l : Limits) (n p k horizon : ℕ) (c : Counts) → horizon < k → IsLeast (CanEnd plan l n p k c) horizon None
bound_past plan l n p k horizon c h = record {
  below = λ e r i. (let a = can_after plan l n p k e c r in absurd (omega arith));
  made = λ b q. absurd cc;
  within = λ b q. absurd cc;
}

by_up : (plan : Plan) (l : Limits) (m : Mode) (n p : ℕ) (w : Walk) (e f : ℕ) → e ≤ f → EndsBy plan l m n p w e → EndsBy plan l m n p w f
by_up plan l m n p w e f q (inl h) = inl (ends_up plan l m n p w e f q h)
by_up plan l m n p w e f q (inr h) = inr (h.0, (h.1.0, h.1.1, ends_up plan l (open_mode l) n p (fresh_walk l h.1.0) e f q h.1.2))

-- from the counts of a base
pub by_least : (plan : Plan) (l : Limits) (m : Mode) (n p : ℕ) (w : Walk) (horizon s : ℕ) (best o : Option ℕ) →
    IsLeast (Ends plan l m n p w) horizon best → IsRunClose m w.at w.idle s →
    IsWithRest plan l n p s horizon best o → IsLeast (EndsBy plan l m n p w) horizon o
by_least plan l m n p w horizon s best o f close g = record {
  below = λ e h z. elim h [ inl q ↦ g.keeps e (f.below e q z) | inr q ↦ g.below e q.0 (q.1.0, close.first q.1.0 q.1.1, q.1.2) z ];
  made = λ x q. elim (g.made x q) [ inl a ↦ inl (f.made x a) | inr a ↦ inr (a.0, (a.1.0.0, close.closes a.1.0.0 a.1.0.1, a.1.0.2)) ];
  within = λ x q. elim (g.made x q) [ inl a ↦ f.within x a | inr a ↦ a.1.1 ];
}

-- from counts whose run is a full rest
pub bound_rested : (plan : Plan) (l : Limits) (n p k horizon : ℕ) (c : Counts) (o : Option ℕ) → l.full_rest ≤ c.run → IsLeast (EndsFresh plan l n p k) horizon o → IsLeast (CanEnd plan l n p k c) horizon o
bound_rested plan l n p k horizon c o h f = record {
  below = λ e r i. elim r [ inl a ↦ f.below e a.1 i | inr a ↦ absurd (let b = a.0 in omega arith) ];
  made = λ b q. inl (h, f.made b q);
  within = f.within;
}

-- where no split rest waits
pub bound_open : (plan : Plan) (l : Limits) (n p k horizon : ℕ) (c : Counts) (o : Option ℕ) → c.run < l.full_rest → c.waiting ≡ None →
    IsLeast (EndsBy plan l (open_mode l) n p (walk_from l k c c.since c.driven)) horizon o → IsLeast (CanEnd plan l n p k c) horizon o
bound_open plan l n p k horizon c o h none f = record {
  below = λ e r i. elim r [ inl a ↦ absurd (let b = a.0 in omega arith) | inr a ↦ f.below e a.1.0 i ];
  made = λ b q. inr (h, (f.made b q, subst (λ w. EndsWaiting plan l n p k c w b) (sym none) tt));
  within = f.within;
}

-- where one waits
pub bound_waiting : (plan : Plan) (l : Limits) (n p k horizon w : ℕ) (c : Counts) (a b : Option ℕ) → c.run < l.full_rest → c.waiting ≡ Some w →
    IsLeast (EndsBy plan l (open_mode l) n p (walk_from l k c c.since c.driven)) horizon a →
    IsLeast (EndsBy plan l (credit_mode l w) n p (walk_from l k c c.elapsed c.driving)) horizon b → IsLeast (CanEnd plan l n p k c) horizon (later a b)
bound_waiting plan l n p k horizon w c a b h some f g = record {
  below = λ e r i. elim r [
    | inl x ↦ absurd (let y = x.0 in omega arith)
    | inr x ↦ at_most_later a b e (f.below e x.1.0 i) (g.below e (subst (λ o. EndsWaiting plan l n p k c o e) some x.1.1) i)
  ];
  made = λ z q. (let y = later_is a b z q in inr (
    h,
    (
      by_up plan l (open_mode l) n p (walk_from l k c c.since c.driven) y.one z y.one_most (f.made y.one y.one_is),
      subst (λ o. EndsWaiting plan l n p k c o z) (sym some) (by_up plan l (credit_mode l w) n p (walk_from l k c c.elapsed c.driving) y.other z y.other_most (g.made y.other y.other_is)),
    ),
  ));
  within = λ z q. later_within a b z horizon q f.within g.within;
}
