-- The book is exact: a history is reached by a path from the root exactly where it keeps every rule.
use Rattle.std.proofs.Common.{◌≡◌, ◌↔◌, ℕ, zero, suc, ◌+◌, ◌-◌, ◌*◌, ◌≤◌, true, false, cond, List, [], ◌∷◌, ◌++◌, length, refl, sym, ◌∙◌, ap, subst, arith, length-append, append_assoc, append-nil, inl, inr}
use Rattle.std.specs.Prelude.{None, replicate}
use Rattle.std.specs.Option.{option_to_list}
use Rattle.std.proofs.lemmas.Bool.{cases_lt, cases_Bool, and_parts, and_from}
use Rattle.std.proofs.lemmas.List.{length-replicate}
use Rattle.std.proofs.lemmas.List.Elements.{All-nil, All-cons}
use Rattle.duty_core.specs.declared.activity.Activity.{Activity}
use Rattle.duty_core.specs.declared.activity.Activity.TheVariants.{Off}
use Rattle.duty_core.specs.declared.mark.Mark.{Mark}
use Rattle.duty_core.specs.declared.params.Params.TheVariants.{Hvnl}
use Rattle.duty_core.specs.declared.rule.Rule.{Rule}
use Rattle.duty_core.specs.declared.rule.Rule.TheVariants.{Au5h30, Au8h, Au11h, Au24h, Au24hRest, Au7d, Au7dRest, Au14d, Au14dNights}
use Rattle.duty_core.specs.declared.limits.TheConstants.{AU_SHORT_START, AU_LONG_START, AU_14D_PERIOD}
use Rattle.duty_core.specs.Params.{unit_minutes}
use Rattle.duty_core.specs.Activity.{rests, works}
use Rattle.duty_core.specs.History.{pad_units, padding, padded, unit_at, IsTimed}
use Rattle.duty_core.specs.Laws.HistoryLaws.{unit_at-append, unit_at-last, unit_at-past, unit_at-replicate, length-one_more}
use Rattle.duty_core.specs.Laws.PrefixLaws.{IsFront}
use Rattle.duty_core.specs.Laws.AuFrontLaws.{front_start, front_nights, front_two_nights}
use Rattle.duty_core.specs.AuPeriods.{IsStart}
use Rattle.duty_core.specs.AuNights.{MeetsAu14dNights}
use Rattle.duty_core.specs.RuleBooks.{Keeps, KeepsAll}
use Rattle.allowance.specs.Allow.{may_spend}
use Rattle.allowance.specs.Laws.AllowLaws.{rests-works}
use Rattle.rule_core.specs.declared.nexts.Next.{Next}
use Rattle.rule_core.specs.Reach.{IsOneOf, Reaches}
use Rattle.hvnl_rules.specs.declared.state.HvnlState.{HvnlState}
use Rattle.hvnl_rules.specs.Laws.Counted.{IsShortKept, IsLongKept, IsCountedBefore, Tracks}
use Rattle.hvnl_rules.specs.Counted.{begun}
use Rattle.hvnl_rules.specs.Laws.CountedLaws.{tracks_rest, duty_allows, tracks_duty, tracks_start, counted_means, before_fewer}
use Rattle.hvnl_rules.specs.Nights.{minutes, nights_ok, pushed}
use Rattle.hvnl_rules.specs.Laws.Dates.{IsMinuteAt}
use Rattle.hvnl_rules.specs.Laws.NightLaws.{TracksNights, start_inside, start_cases, pushed_tracks, dated_tracks, open_tracks}
use Rattle.hvnl_rules.specs.Laws.NightTest.{ok_means, over_kept}
use Rattle.hvnl_rules.specs.Machine.{root_state, duty_ok, duty_state, rest_state, plain, hvnl_nexts}

-- # The state of a history

-- the units p, followed by rest for good, keep the book
pub record IsKept (first : ℕ) (p : List Activity) : Type 0 where
  pub counted : IsCountedBefore (length p) p
  pub nights : (i : ℕ) → MeetsAu14dNights first p i

-- the state is that of the units p, which keep the book
pub record TracksBook (first : ℕ) (p : List Activity) (s : HvnlState) : Type 0 where
  pub long : pad_units Hvnl ≤ length p
  pub counted : Tracks p s.held
  pub nights : TracksNights first (length p) p s.nights
  pub kept : (i : ℕ) → MeetsAu14dNights first p i

pub book_kept : (first : ℕ) (p : List Activity) (s : HvnlState) → TracksBook first p s → IsKept first p
book_kept first p s t = record { counted = counted_means p s.held t.counted; nights = t.kept }

-- nights that are kept in a history are kept in its front
nights_front : (first n : ℕ) (p q : List Activity) → IsFront n p q → ((i : ℕ) → MeetsAu14dNights first q i) → (i : ℕ) → MeetsAu14dNights first p i
nights_front first n p q f h i s = let b = h i (front_start n p q f AU_LONG_START i s) in (front_nights n p q f _ first i _ b.0, front_two_nights n p q f first i _ b.1)

rest_front : (p : List Activity) (x : Activity) → rests x ≡ true → IsFront (length p) (p ++ x ∷ []) p
rest_front p x r = record {
  same = λ k l. unit_at-append p (x ∷ []) k l;
  rest = λ k l. elim (cases_lt (length p) k) [
    | inl a ↦ ap rests (unit_at-past (p ++ x ∷ []) k (omega (arith, length-one_more p x)))
    | inr a ↦ (let same : k ≡ length p = omega arith in ap (λ j. rests (unit_at (p ++ x ∷ []) j)) same ∙ (ap rests (unit_at-last p x) ∙ r))
  ];
}

some_front : (p q : List Activity) → IsFront (length p) p (p ++ q)
some_front p q = record { same = λ k l. sym (unit_at-append p q k l); rest = λ k l. ap rests (unit_at-past p k l) }

-- one unit later
pub minute_on : (first at : ℕ) (p : List Activity) (x : Activity) → IsMinuteAt first (length p) at → IsMinuteAt first (length (p ++ x ∷ [])) (at + minutes 1)
minute_on first at p x e = omega (arith, length-one_more p x)

-- # One more unit

pub book_rest : (first units at : ℕ) (p : List Activity) (x : Activity) (s : HvnlState) → first ≡ 15 * units → works x ≡ false → IsMinuteAt first (length p) at → TracksBook first p s → TracksBook first (p ++ x ∷ []) (rest_state s at)
book_rest first units at p x s f w e t =
    let len = length-one_more p x in
    let l = t.long in
    let c = tracks_rest p s.held x w t.counted in
    record {
      long = omega arith;
      counted = c;
      nights = open_tracks first (at + minutes 1) (length p) (length (p ++ x ∷ [])) (p ++ x ∷ []) _ (minute_on first at p x e) (omega arith)
          (dated_tracks first units at _ p x s.nights f w t.long e c.rested t.nights);
      kept = nights_front first (length p) (p ++ x ∷ []) p (rest_front p x (rests-works x false w)) t.kept;
    }

-- a period of p with one duty unit more, before those that are over leave
pushed_book : (first at : ℕ) (p : List Activity) (x : Activity) (s : HvnlState) → works x ≡ true → IsMinuteAt first (length p) at → TracksBook first p s → TracksNights first (length p) (p ++ x ∷ []) (pushed at s.held.run s.nights)
pushed_book first at p x s w e t = pushed_tracks first at s.held.run p x s.nights w t.long e t.counted.rested t.nights

-- With a duty unit the nights are kept exactly where the test is passed.
pub duty_nights : (first units at : ℕ) (p : List Activity) (x : Activity) (s : HvnlState) → first ≡ 15 * units → works x ≡ true → IsMinuteAt first (length p) at → TracksBook first p s →
    (nights_ok (at + minutes 1) (pushed at s.held.run s.nights) ≡ true) ↔ ((i : ℕ) → MeetsAu14dNights first (p ++ x ∷ []) i)
duty_nights first units at p x s f w e t =
    let q : List Activity = p ++ x ∷ [] in
    let n = pushed_book first at p x s w e t in
    let m = ok_means first units (at + minutes 1) (length p) p x (pushed at s.held.run s.nights) f w (minute_on first at p x e) n in (
      (λ ok i long. elim (cases_lt (length p) (i + AU_14D_PERIOD)) [
        | inl l ↦
            let pad = n.past i long.works_there in
            m.0 ok i (first + minutes (i - pad_units Hvnl)) (record { long = long; minute = omega arith; running = l })
        | inr l ↦ over_kept first p (x ∷ []) i l (elim (start_cases p x AU_LONG_START i long) [
          | inl a ↦ t.kept i a
          | inr a ↦ absurd (let same = a.0 in omega arith)
        ])
      ]),
      (λ h. m.1 (λ i start o. h i o.long)),
    )

pub book_duty : (first units at : ℕ) (p : List Activity) (x : Activity) (s : HvnlState) → first ≡ 15 * units → works x ≡ true → IsMinuteAt first (length p) at → duty_ok s at ≡ true → TracksBook first p s → TracksBook first (p ++ x ∷ []) (duty_state s at)
book_duty first units at p x s f w e ok t =
    let len = length-one_more p x in
    let l = t.long in
    let b = and_parts (may_spend (begun s.held)) (nights_ok (at + minutes 1) (pushed at s.held.run s.nights)) ok in
    record {
      long = omega arith;
      counted = tracks_duty p s.held x w b.0 t.counted;
      nights = open_tracks first (at + minutes 1) (length p) (length (p ++ x ∷ [])) (p ++ x ∷ []) _ (minute_on first at p x e) (omega arith) (pushed_book first at p x s w e t);
      kept = (duty_nights first units at p x s f w e t).0 b.1;
    }

-- Where the whole keeps the book, a duty unit passes the test.
pub duty_passes : (first units at : ℕ) (p : List Activity) (x : Activity) (xs : List Activity) (s : HvnlState) → first ≡ 15 * units → works x ≡ true → IsMinuteAt first (length p) at → TracksBook first p s →
    IsKept first ((p ++ x ∷ []) ++ xs) → duty_ok s at ≡ true
duty_passes first units at p x xs s f w e t k =
    let q : List Activity = p ++ x ∷ [] in
    and_from (may_spend (begun s.held)) (nights_ok (at + minutes 1) (pushed at s.held.run s.nights))
    ((duty_allows p s.held x xs w t.counted).0 (before_fewer (length q) (length (q ++ xs)) (q ++ xs) (omega (arith, length-append q xs)) k.counted)).0
    ((duty_nights first units at p x s f w e t).1 (nights_front first (length q) q (q ++ xs) (some_front q xs) k.nights))

-- # The start

pub book_start : (first : ℕ) → TracksBook first (padding Hvnl) root_state
book_start first =
    let len = length-replicate (pad_units Hvnl) Off in
    let none : (i : ℕ) → works (unit_at (padding Hvnl) i) ≡ true → ⊥ = (λ i w. let z : false ≡ true = sym (elim (cases_lt i (length (padding Hvnl))) [ inl l ↦ ap works (unit_at-replicate (pad_units Hvnl) i) | inr l ↦ ap works (unit_at-past (padding Hvnl) i l) ]) ∙ w in absurd (cc)) in
    record {
      long = omega arith;
      counted = tracks_start;
      nights = record {
        past = λ i w. absurd (none i w);
        each_start = λ s o. absurd o;
        all_starts = λ i s o. absurd (none i o.long.works_there);
        each_date = λ d o. absurd o;
        all_dates = λ m d i s k o l. absurd (none i o.long.works_there);
      };
      kept = λ i long. absurd (none i long.works_there);
    }

-- # Paths

-- what is true of each list of successors
at_duty : (P : List (Next HvnlState) → Type 0) (s : HvnlState) (at : ℕ) (x : Activity) → works x ≡ true → (duty_ok s at ≡ true → P (plain (duty_state s at) ∷ [])) → (duty_ok s at ≡ false → P []) → P (hvnl_nexts s at x)
at_duty P s at x w some none = subst (λ b. P (cond b (cond (duty_ok s at) (plain (duty_state s at) ∷ []) []) (plain (rest_state s at) ∷ []))) (sym w)
    (elim (cases_Bool (duty_ok s at)) [
      | inl e ↦ subst (λ b. P (cond b (plain (duty_state s at) ∷ []) [])) (sym e) (some e)
      | inr e ↦ subst (λ b. P (cond b (plain (duty_state s at) ∷ []) [])) (sym e) (none e)
    ])

at_rest : (P : List (Next HvnlState) → Type 0) (s : HvnlState) (at : ℕ) (x : Activity) → works x ≡ false → P (plain (rest_state s at) ∷ []) → P (hvnl_nexts s at x)
at_rest P s at x w h = subst (λ b. P (cond b (cond (duty_ok s at) (plain (duty_state s at) ∷ []) []) (plain (rest_state s at) ∷ []))) (sym w) h

-- a successor is the state of one more unit, and has no mark
abbrev AreSteps : ℕ → List Activity → List (Next HvnlState) → Type 0
AreSteps first p ns = (n : Next HvnlState) → IsOneOf ns n → TracksBook first p n.state × (n.mark ≡ None)

one_step : (first : ℕ) (p : List Activity) (s : HvnlState) → TracksBook first p s → AreSteps first p (plain s ∷ [])
one_step first p s t n o = elim o [ inl e ↦ subst (λ k. TracksBook first p k.state × (k.mark ≡ None)) e (t, refl) | inr z ↦ absurd z ]

step_sound : (first units at : ℕ) (p : List Activity) (x : Activity) (s : HvnlState) → first ≡ 15 * units → IsMinuteAt first (length p) at → TracksBook first p s → AreSteps first (p ++ x ∷ []) (hvnl_nexts s at x)
step_sound first units at p x s f e t = elim (cases_Bool (works x)) [
  | inl w ↦ at_duty (AreSteps first (p ++ x ∷ [])) s at x w (λ ok. one_step first (p ++ x ∷ []) (duty_state s at) (book_duty first units at p x s f w e ok t)) (λ no n o. absurd o)
  | inr w ↦ at_rest (AreSteps first (p ++ x ∷ [])) s at x w (one_step first (p ++ x ∷ []) (rest_state s at) (book_rest first units at p x s f w e t))
]

abbrev HasPlain : List (Next HvnlState) → Type 0
HasPlain ns = (s : HvnlState) × IsOneOf {X = Next HvnlState} ns (plain s)

step_complete : (first units at : ℕ) (p : List Activity) (x : Activity) (xs : List Activity) (s : HvnlState) → first ≡ 15 * units → IsMinuteAt first (length p) at → TracksBook first p s → IsKept first ((p ++ x ∷ []) ++ xs) → HasPlain (hvnl_nexts s at x)
step_complete first units at p x xs s f e t k = elim (cases_Bool (works x)) [
  | inl w ↦
      let m = duty_passes first units at p x xs s f w e t k in
      at_duty HasPlain s at x w (λ ok. (duty_state s at, inl refl)) (λ no. absurd (let z : true ≡ false = sym m ∙ no in cc))
  | inr w ↦ at_rest HasPlain s at x w (rest_state s at, inl refl)
]

-- a path through the machine
abbrev pub HvnlReaches : HvnlState → ℕ → List Activity → List Mark → HvnlState → Type 0
HvnlReaches s at xs marks t = Reaches (unit_minutes Hvnl) hvnl_nexts s at xs marks t

pub path_sound : (first units at : ℕ) (p xs : List Activity) (s : HvnlState) (marks : List Mark) (u : HvnlState) → first ≡ 15 * units → IsMinuteAt first (length p) at → TracksBook first p s → HvnlReaches s at xs marks u →
    TracksBook first (p ++ xs) u × (marks ≡ [])
path_sound first units at p [] s marks u f e t r = (subst (λ q. TracksBook first q u) (sym (append-nil p)) (subst (TracksBook first p) r.0 t), r.1)
path_sound first units at p (x ∷ xs) s marks u f e t r =
    let k = step_sound first units at p x s f e t r.0 r.1 in
    let q = path_sound first units (at + unit_minutes Hvnl) (p ++ x ∷ []) xs r.0.state r.2 u f (minute_on first at p x e) k.0 r.4 in
    (subst (λ l. TracksBook first l u) (append_assoc p (x ∷ []) xs) q.0, r.3 ∙ (ap (λ m. option_to_list m ++ r.2) k.1 ∙ q.1))

path_complete : (first units at : ℕ) (p xs thereafter : List Activity) (s : HvnlState) → first ≡ 15 * units → IsMinuteAt first (length p) at → TracksBook first p s → IsKept first (p ++ (xs ++ thereafter)) → (u : HvnlState) × HvnlReaches s at xs [] u
path_complete first units at p [] thereafter s f e t k = (s, (refl, refl))
path_complete first units at p (x ∷ xs) thereafter s f e t k =
    let m : IsKept first ((p ++ x ∷ []) ++ (xs ++ thereafter)) = subst (IsKept first) (sym (append_assoc p (x ∷ []) (xs ++ thereafter))) k in
    let c = step_complete first units at p x (xs ++ thereafter) s f e t m in
    let n = step_sound first units at p x s f e t (plain c.0) c.1 in
    let q = path_complete first units (at + unit_minutes Hvnl) (p ++ x ∷ []) xs thereafter c.0 f (minute_on first at p x e) n.0 m in
    (q.0, (plain c.0, c.1, [], refl, q.1))

-- rest is always allowed
book_after : (first units at : ℕ) (p : List Activity) (n : ℕ) (s : HvnlState) → first ≡ 15 * units → IsMinuteAt first (length p) at → TracksBook first p s → (u : HvnlState) × TracksBook first (p ++ replicate n Off) u
book_after first units at p zero s f e t = (s, subst (λ q. TracksBook first q s) (sym (append-nil p)) t)
book_after first units at p (suc n) s f e t =
    let q = book_after first units (at + minutes 1) (p ++ Off ∷ []) n (rest_state s at) f (minute_on first at p Off e) (book_rest first units at p Off s f refl e t) in
    (q.0, subst (λ l. TracksBook first l q.0) (append_assoc p (Off ∷ []) (replicate n Off)) q.1)

-- # The rules

module _ (first : ℕ) (h : List Activity) (marks : List Mark) where
  rules_kept : marks ≡ [] → IsKept first (padded Hvnl h) → KeepsAll Hvnl first h marks
  rules_kept none k =
      let p : List Activity = padded Hvnl h in
      let K : Rule → Type 0 = Keeps Hvnl first h marks in
      let short : (i : ℕ) → IsStart AU_SHORT_START p i → IsShortKept p i = (λ i s. k.counted.short_starts i (start_inside p AU_SHORT_START i s) s) in
      let long : (i : ℕ) → IsStart AU_LONG_START p i → IsLongKept p i = (λ i s. k.counted.long_starts i (start_inside p AU_LONG_START i s) s) in
      let a : K Au5h30 = (λ i s. (short i s).half_past_five) in
      let b : K Au8h = (λ i s. (short i s).eight_hours) in
      let c : K Au11h = (λ i s. (short i s).eleven_hours) in
      let d : K Au24h = (λ i s. (long i s).day) in
      let e : K Au24hRest = (λ i s. (long i s).day_rest) in
      let f : K Au7d = (λ i s. (long i s).week) in
      let g : K Au7dRest = (λ i s. (long i s).week_rest) in
      let j : K Au14d = (λ i s. (long i s).fortnight) in
      let n : K Au14dNights = k.nights in
      record {
        marks_of_book = none;
        rules = All-cons K Au5h30 (Au8h ∷ Au11h ∷ Au24h ∷ Au24hRest ∷ Au7d ∷ Au7dRest ∷ Au14d ∷ Au14dNights ∷ []) a
            (All-cons K Au8h (Au11h ∷ Au24h ∷ Au24hRest ∷ Au7d ∷ Au7dRest ∷ Au14d ∷ Au14dNights ∷ []) b
            (All-cons K Au11h (Au24h ∷ Au24hRest ∷ Au7d ∷ Au7dRest ∷ Au14d ∷ Au14dNights ∷ []) c
            (All-cons K Au24h (Au24hRest ∷ Au7d ∷ Au7dRest ∷ Au14d ∷ Au14dNights ∷ []) d
            (All-cons K Au24hRest (Au7d ∷ Au7dRest ∷ Au14d ∷ Au14dNights ∷ []) e
            (All-cons K Au7d (Au7dRest ∷ Au14d ∷ Au14dNights ∷ []) f
            (All-cons K Au7dRest (Au14d ∷ Au14dNights ∷ []) g
            (All-cons K Au14d (Au14dNights ∷ []) j
            (All-cons K Au14dNights [] n (All-nil K)))))))));
      }

  kept_rules : KeepsAll Hvnl first h marks → IsKept first (padded Hvnl h)
  kept_rules k =
      let K : Rule → Type 0 = Keeps Hvnl first h marks in
      let a : K Au5h30 = k.rules 0 Au5h30 (omega arith) in
      let b : K Au8h = k.rules 1 Au5h30 (omega arith) in
      let c : K Au11h = k.rules 2 Au5h30 (omega arith) in
      let d : K Au24h = k.rules 3 Au5h30 (omega arith) in
      let e : K Au24hRest = k.rules 4 Au5h30 (omega arith) in
      let f : K Au7d = k.rules 5 Au5h30 (omega arith) in
      let g : K Au7dRest = k.rules 6 Au5h30 (omega arith) in
      let j : K Au14d = k.rules 7 Au5h30 (omega arith) in
      let n : K Au14dNights = k.rules 8 Au5h30 (omega arith) in
      record {
        counted = record {
          short_starts = λ i l s. record { half_past_five = a i s; eight_hours = b i s; eleven_hours = c i s };
          long_starts = λ i l s. record { day = d i s; week = f i s; fortnight = j i s; day_rest = e i s; week_rest = g i s };
        };
        nights = n;
      }

-- the minute of the start
start_minute : (first : ℕ) → IsMinuteAt first (length (padding Hvnl)) first
start_minute first = omega (arith, length-replicate (pad_units Hvnl) Off)

end_minute : (first : ℕ) (h : List Activity) → IsMinuteAt first (length (padding Hvnl ++ h)) (first + minutes (length h))
end_minute first h = omega (arith, length-replicate (pad_units Hvnl) Off, length-append (padding Hvnl) h)

-- # Exact

-- A history is reached by a path that chooses these marks exactly where it keeps every rule with them. The path chooses none.
pub hvnl_exact : (first : ℕ) (h : List Activity) (marks : List Mark) → IsTimed Hvnl first h → ((s : HvnlState) × HvnlReaches root_state first h marks s) ↔ KeepsAll Hvnl first h marks
hvnl_exact first h marks timed =
    let units = timed.begins.units in
    let f : first ≡ 15 * units = timed.begins.whole in (
      (λ r.
          let q = path_sound first units first (padding Hvnl) h root_state marks r.0 f (start_minute first) (book_start first) r.1 in
          let b = book_after first units (first + minutes (length h)) (padding Hvnl ++ h) (pad_units Hvnl) r.0 f (end_minute first h) q.0 in
          rules_kept first h marks q.1 (book_kept first (padded Hvnl h) b.0 b.1)),
      (λ k. subst (λ m. (s : HvnlState) × HvnlReaches root_state first h m s) (sym k.marks_of_book)
          (path_complete first units first (padding Hvnl) h (padding Hvnl) root_state f (start_minute first) (book_start first)
          (subst (IsKept first) (append_assoc (padding Hvnl) h (padding Hvnl)) (kept_rules first h marks k)))),
    )
