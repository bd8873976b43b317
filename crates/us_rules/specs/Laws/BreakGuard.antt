-- The counts of breaks from driving mean the rule of eight hours.
use Rattle.std.proofs.Common.{◌≡◌, ℕ, ◌+◌, ◌<◌, ◌≤◌, Bool, true, false, List, [], ◌∷◌, ◌++◌, length, drop, zero, suc, refl, sym, ◌∙◌, ap, subst, cond, arith, zero-add, ◌⊎◌, inl, inr}
use Rattle.std.specs.Prelude.{count_by}
use Rattle.std.proofs.Math.Seq.{drop-length}
use Rattle.std.proofs.lemmas.Bool.{cases_lt}
use Rattle.std.proofs.lemmas.Bool.Decides.{nat_tests}
use Rattle.std.proofs.lemmas.List.{take_all, drop-append-le}
use Rattle.std.proofs.lemmas.List.Sums.{sum_by-append}
use Rattle.duty_core.specs.declared.activity.Activity.{Activity}
use Rattle.duty_core.specs.declared.activity.Activity.TheVariants.{Drive, Serve, Wait, Off, Berth}
use Rattle.duty_core.specs.declared.params.Params.TheVariants.{UsProperty}
use Rattle.duty_core.specs.declared.limits.TheConstants.{US_BREAK, US_UNBROKEN_LIMIT}
use Rattle.duty_core.specs.Activity.{drives}
use Rattle.duty_core.specs.History.{unit_at, padding}
use Rattle.duty_core.specs.Laws.HistoryLaws.{unit_at-append, unit_at-last, unit_at-replicate, length-one_more}
use Rattle.duty_core.specs.Counting.{driving}
use Rattle.duty_core.specs.UsRules.{IsBreak, IsLastBreak, MeetsUsBreak8}
use Rattle.duty_core.specs.Laws.UniqueLaws.{last_break_unique}
use Rattle.duty_core.specs.Laws.RuleLaws.{us_break8_is_rule}
use Rattle.rule_core.specs.Laws.Guard.{not_driving, IsGuard}
use Rattle.us_rules.specs.declared.state.BreakCount.{BreakCount}
use Rattle.us_rules.specs.Machine.{break_made, paused, break_after, break_ok}
use Rattle.us_rules.specs.Laws.Padding.{length_padding}

-- the last n units hold no driving
abbrev pub EndsStill : List Activity → ℕ → Type 0
EndsStill p n = (k : ℕ) → length p ≤ k + n → k < length p → drives (unit_at p k) ≡ false

-- the last break so far, and the driving since
pub record HasBreak (p : List Activity) (driven : ℕ) : Type 0 where
  pub at : ℕ
  pub ends : IsBreak p at
  pub inside : at ≤ length p
  pub last : (b : ℕ) → IsBreak p b → b ≤ length p → b ≤ at
  pub count : count_by drives (drop at p) ≡ driven

-- the counts of the units so far
pub record TracksBreak (p : List Activity) (c : BreakCount) : Type 0 where
  pub small : c.still ≤ US_BREAK
  pub there : c.still ≤ length p
  pub still : EndsStill p c.still
  pub longest : (n : ℕ) → n ≤ US_BREAK → n ≤ length p → EndsStill p n → n ≤ c.still
  pub since : HasBreak p c.driven

break_front : (p : List Activity) (x : Activity) (e : ℕ) → e ≤ length p → IsBreak (p ++ x ∷ []) e → IsBreak p e
break_front p x e l h = record { there = h.there; still = λ k a b. sym (ap drives (unit_at-append p (x ∷ []) k (omega arith))) ∙ h.still k a b }

break_more : (p : List Activity) (x : Activity) (e : ℕ) → e ≤ length p → IsBreak p e → IsBreak (p ++ x ∷ []) e
break_more p x e l h = record { there = h.there; still = λ k a b. ap drives (unit_at-append p (x ∷ []) k (omega arith)) ∙ h.still k a b }

still_more : (p : List Activity) (x : Activity) (n : ℕ) → drives x ≡ false → EndsStill p n → EndsStill (p ++ x ∷ []) (n + 1)
still_more p x n e h k a b = let z = length-one_more p x in elim (cases_lt k (length p)) [
  | inl l ↦ ap drives (unit_at-append p (x ∷ []) k l) ∙ h k (omega arith) l
  | inr l ↦ (let y : k ≡ length p = omega arith in ap (λ i. drives (unit_at (p ++ x ∷ []) i)) y ∙ (ap drives (unit_at-last p x) ∙ e))
]

still_less : (p : List Activity) (x : Activity) (n : ℕ) → EndsStill (p ++ x ∷ []) (n + 1) → EndsStill p n
still_less p x n h k a b = let z = length-one_more p x in sym (ap drives (unit_at-append p (x ∷ []) k b)) ∙ h k (omega arith) (omega arith)

driving_more : (p : List Activity) (x : Activity) (b : ℕ) → b ≤ length p → count_by drives (drop b (p ++ x ∷ [])) ≡ count_by drives (drop b p) + cond (drives x) 1 0
driving_more p x b l =
    ap (count_by drives) (drop-append-le b p (x ∷ []) l)
    ∙ (sum_by-append (λ y. cond (drives y) 1 0) (drop b p) (x ∷ []) ∙ ap (λ n. count_by drives (drop b p) + n) (zero-add (cond (drives x) 1 0)))

-- where no break ends with the last unit, the last one stays
break_on : (p : List Activity) (x : Activity) (n : ℕ) → (IsBreak (p ++ x ∷ []) (length p + 1) → ⊥) → HasBreak p n → HasBreak (p ++ x ∷ []) (n + cond (drives x) 1 0)
break_on p x n none h = let z = length-one_more p x in record {
  at = h.at;
  ends = break_more p x h.at h.inside h.ends;
  inside = let y = h.inside in omega arith;
  last = λ e b l. elim (cases_lt (length p) e) [
    | inr k ↦ h.last e (break_front p x e k b) k
    | inl k ↦ absurd (none (let y : e ≡ length p + 1 = omega arith in subst (IsBreak (p ++ x ∷ [])) y b))
  ];
  count = driving_more p x h.at h.inside ∙ ap (λ m. m + cond (drives x) 1 0) h.count;
}

longest_still : (p : List Activity) (x : Activity) (c : BreakCount) → TracksBreak p c → (n : ℕ) → n ≤ US_BREAK → n ≤ length (p ++ x ∷ []) → EndsStill (p ++ x ∷ []) n → n ≤ c.still + 1
longest_still p x c h zero l t s = omega arith
longest_still p x c h (suc n) l t s =
    let z = length-one_more p x in
    let k : n ≤ c.still = h.longest n (omega arith) (omega arith) (still_less p x n (subst (EndsStill (p ++ x ∷ [])) (let e : suc n ≡ n + 1 = omega arith in e) s)) in
    omega arith

pub paused_cases : (c : BreakCount) → ((c.still + 1 < US_BREAK) × (paused c ≡ break_made (c.still + 1) c.driven)) ⊎ ((US_BREAK ≤ c.still + 1) × (paused c ≡ break_made US_BREAK 0))
paused_cases c = elim (cases_lt (c.still + 1) US_BREAK) [ inl l ↦ inl (l, grind (arith, nat_tests)) | inr l ↦ inr (l, grind (arith, nat_tests)) ]

tracks_paused : (p : List Activity) (x : Activity) (c : BreakCount) → drives x ≡ false → TracksBreak p c → TracksBreak (p ++ x ∷ []) (paused c)
tracks_paused p x c d h = let z = length-one_more p x in let t = h.there in elim (paused_cases c) [
  | inl s ↦ subst (TracksBreak (p ++ x ∷ [])) (sym s.1) (record {
    small = let l = s.0 in omega arith;
    there = omega arith;
    still = still_more p x c.still d h.still;
    longest = longest_still p x c h;
    since = subst (HasBreak (p ++ x ∷ [])) (ap (λ b. c.driven + cond b 1 0) d ∙ (let e : c.driven + 0 ≡ c.driven = omega arith in e))
        (break_on p x c.driven (λ b.
        let l = s.0 in
        let u = b.there in
        let v = longest_still p x c h US_BREAK (omega arith) (omega arith) (λ k a e. b.still k (omega arith) (omega arith)) in
        absurd (omega arith)) h.since);
  })
  | inr s ↦ subst (TracksBreak (p ++ x ∷ [])) (sym s.1) (let l = s.0 in record {
    small = omega arith;
    there = omega arith;
    still = λ k a b. still_more p x c.still d h.still k (omega arith) b;
    longest = λ n a b e. a;
    since = record {
      at = length (p ++ x ∷ []);
      ends = record { there = omega arith; still = λ k a b. still_more p x c.still d h.still k (omega arith) b };
      inside = omega arith;
      last = λ e b u. u;
      count = ap (count_by drives) (drop-length (p ++ x ∷ []));
    };
  })
]

no_break : (p : List Activity) (x : Activity) → drives x ≡ true → IsBreak (p ++ x ∷ []) (length p + 1) → ⊥
no_break p x d b = let z : true ≡ false = sym d ∙ (sym (ap drives (unit_at-last p x)) ∙ b.still (length p) (omega arith) (omega arith)) in cc

tracks_drive : (p : List Activity) (x : Activity) (c : BreakCount) → drives x ≡ true → TracksBreak p c → TracksBreak (p ++ x ∷ []) (break_made 0 (c.driven + 1))
tracks_drive p x c d h = let z = length-one_more p x in record {
  small = omega arith;
  there = omega arith;
  still = λ k a b. absurd (omega arith);
  longest = λ n a b s. elim (cases_lt 0 n) [
    | inr k ↦ k
    | inl k ↦ absurd (let y : true ≡ false = sym d ∙ (sym (ap drives (unit_at-last p x)) ∙ s (length p) (omega arith) (omega arith)) in cc)
  ];
  since = subst (HasBreak (p ++ x ∷ [])) (ap (λ b. c.driven + cond b 1 0) d) (break_on p x c.driven (no_break p x d) h.since);
}

break_goes : (p : List Activity) (c : BreakCount) (at : ℕ) (x : Activity) → TracksBreak p c → TracksBreak (p ++ x ∷ []) (break_after c at x)
break_goes p c at Drive h = tracks_drive p Drive c refl h
break_goes p c at Serve h = tracks_paused p Serve c refl h
break_goes p c at Wait h = tracks_paused p Wait c refl h
break_goes p c at Off h = tracks_paused p Off c refl h
break_goes p c at Berth h = tracks_paused p Berth c refl h

-- at a unit of driving, the last break that has ended
break_at_drive : (p : List Activity) (n : ℕ) (h : HasBreak (p ++ Drive ∷ []) n) → IsLastBreak (p ++ Drive ∷ []) (length p) h.at
break_at_drive p n h =
    let z = length-one_more p Drive in
    let i = h.inside in
    record {
      ends = h.ends;
      before = elim (cases_lt (length p) h.at) [
        | inl k ↦ absurd (no_break p Drive refl (let y : h.at ≡ length p + 1 = omega arith in subst (IsBreak (p ++ Drive ∷ [])) y h.ends))
        | inr k ↦ k
      ];
      last = λ b e l. h.last b e (omega arith);
    }

driving_is : (p : List Activity) (n to : ℕ) → HasBreak (p ++ Drive ∷ []) n → IsLastBreak (p ++ Drive ∷ []) (length p) to → driving (p ++ Drive ∷ []) to (length p + 1) ≡ n
driving_is p n to h b =
    let e : to ≡ h.at = last_break_unique (p ++ Drive ∷ []) (length p) to h.at b (break_at_drive p n h) in
    ap (λ l. count_by drives (drop to l)) (take_all (length p + 1) (p ++ Drive ∷ []) (omega (arith, length-one_more p Drive))) ∙ (ap (λ a. count_by drives (drop a (p ++ Drive ∷ []))) e ∙ h.count)

break_sound : (p : List Activity) (c : BreakCount) (at : ℕ) (x : Activity) → TracksBreak p c → break_ok c at x ≡ true → MeetsUsBreak8 (p ++ x ∷ []) (length p)
break_sound p c at Drive h ok d = λ to b.
    let l : c.driven < US_UNBROKEN_LIMIT = grind (arith, nat_tests) in
    let e = driving_is p (c.driven + 1) to (tracks_drive p Drive c refl h).since b in omega arith
break_sound p c at Serve h ok d = absurd (not_driving p Serve refl d)
break_sound p c at Wait h ok d = absurd (not_driving p Wait refl d)
break_sound p c at Off h ok d = absurd (not_driving p Off refl d)
break_sound p c at Berth h ok d = absurd (not_driving p Berth refl d)

break_complete : (p : List Activity) (c : BreakCount) (at : ℕ) (x : Activity) → TracksBreak p c → MeetsUsBreak8 (p ++ x ∷ []) (length p) → break_ok c at x ≡ true
break_complete p c at Drive h g =
    let s = (tracks_drive p Drive c refl h).since in
    let l = break_at_drive p (c.driven + 1) s in
    let e = driving_is p (c.driven + 1) s.at s l in
    let m = g (unit_at-last p Drive) s.at l in
    let k : c.driven < US_UNBROKEN_LIMIT = omega arith in
    grind (arith, nat_tests)
break_complete p c at Serve h g = refl
break_complete p c at Wait h g = refl
break_complete p c at Off h g = refl
break_complete p c at Berth h g = refl

pub break_is_guard : (berth : Bool) (days day_start first : ℕ) → IsGuard (UsProperty berth days day_start) first MeetsUsBreak8 TracksBreak break_ok break_after
break_is_guard berth days day_start first = record {
  rule = us_break8_is_rule;
  on = λ p c at x e t. break_goes p c at x t;
  sound = λ p c at x e t ok. break_sound p c at x t ok;
  complete = λ p c at x e t g. break_complete p c at x t g;
}

-- the rest before a history
pub tracks_break_root : (berth : Bool) (days day_start : ℕ) → TracksBreak (padding (UsProperty berth days day_start)) (break_made US_BREAK 0)
tracks_break_root berth days day_start =
    let p : List Activity = padding (UsProperty berth days day_start) in
    let len = length_padding berth days day_start in
    let none : (k : ℕ) → drives (unit_at p k) ≡ false = λ k. ap drives (unit_at-replicate _ k) in
    record {
      small = omega arith;
      there = omega arith;
      still = λ k a b. none k;
      longest = λ n a b s. a;
      since = record {
        at = length p;
        ends = record { there = omega arith; still = λ k a b. none k };
        inside = omega arith;
        last = λ e b u. u;
        count = ap (count_by drives) (drop-length p);
      };
    }
