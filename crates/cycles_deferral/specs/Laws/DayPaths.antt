-- The paths of days: where they lead, which marks they choose, and which histories they take.
use Rattle.std.proofs.Common.{◌≡◌, ℕ, ◌+◌, ◌-◌, ◌<◌, ◌≤◌, List, [], ◌∷◌, ◌++◌, length, refl, sym, ◌∙◌, ap, subst, arith, append_assoc, append-nil, inl, inr, zero, suc, get_or}
use Rattle.std.specs.Prelude.{◌<ℤ◌, Option, None, Some, Contains, replicate}
use Rattle.std.specs.Option.{option_to_list}
use Rattle.std.proofs.lemmas.Bool.{cases_lt, cases_eq, cases_Bool}
use Rattle.std.proofs.lemmas.Int.{ints}
use Rattle.std.proofs.lemmas.List.Elements.{Contains-get_or}
use Rattle.std.proofs.lemmas.List.Kept.{AllPairs-cons}
use Rattle.duty_core.specs.declared.activity.Activity.{Activity}
use Rattle.duty_core.specs.declared.activity.Activity.TheVariants.{Off}
use Rattle.duty_core.specs.declared.mark.Mark.{Mark}
use Rattle.duty_core.specs.declared.params.Params.{Params}
use Rattle.duty_core.specs.declared.params.RestWay.{RestWay}
use Rattle.duty_core.specs.declared.limits.TheConstants.{CA_LOST_LIMIT}
use Rattle.duty_core.specs.Activity.{rests}
use Rattle.duty_core.specs.LostMinutes.{lost}
use Rattle.duty_core.specs.Marks.{mark_minute, AreInOrder}
use Rattle.duty_core.specs.Laws.MarkListLaws.{no_member, contains_head, contains_after, contains_cases}
use Rattle.cycles_deferral.specs.declared.days.CanadaDays.{CanadaDays}
use Rattle.cycles_deferral.specs.Paths.{AreDays, TakesDays}
use Rattle.cycles_deferral.specs.Laws.LostSteps.{length_more, lost_at_rest, lost_less}
use Rattle.cycles_deferral.specs.LostSteps.{IsOpenRun}
use Rattle.cycles_deferral.specs.Laws.Tracks.{run_at_rest, run_at_duty, lost_later, lost_earlier}
use Rattle.cycles_deferral.specs.DayMachine.{rest_on}
use Rattle.cycles_deferral.specs.Laws.DaySteps.{KeepsWay, AreApart, way_apart, way_less, way_at_rest, mark_at, IsNewlyLost, IsMarkOf, GoesOn, days_at, days_step}
use Rattle.cycles_deferral.specs.DaySteps.{Stands}

-- # More minutes

pub lost_front : (day : ℕ → ℕ) (p xs : List Activity) (j : ℕ) → lost day p j ≤ lost day (p ++ xs) j
lost_front day p [] j = let e : lost day (p ++ []) j ≡ lost day p j = ap (λ l. lost day l j) (append-nil p) in omega arith
lost_front day p (x ∷ xs) j =
    let a = lost_less day p x j in
    let b = lost_front day (p ++ x ∷ []) xs j in
    let e : lost day ((p ++ x ∷ []) ++ xs) j ≡ lost day (p ++ x ∷ xs) j = ap (λ l. lost day l j) (append_assoc p (x ∷ []) xs) in
    omega arith

-- the days before yesterday are settled
lost_settled : (day : ℕ → ℕ) → AreDays day → (xs p : List Activity) (r k : ℕ) → IsOpenRun p r → k + 1 < day (length p) → lost day (p ++ xs) k ≡ lost day p k
lost_settled day days [] p r k h l = ap (λ l. lost day l k) (append-nil p)
lost_settled day days (x ∷ xs) p r k h l =
    let e : lost day ((p ++ x ∷ []) ++ xs) k ≡ lost day (p ++ x ∷ xs) k = ap (λ l. lost day l k) (append_assoc p (x ∷ []) xs) in
    let n = length_more p x in
    let up = days.on (length p) in
    let z : day (length (p ++ x ∷ [])) ≡ day (length p + 1) = ap day (let z : length (p ++ x ∷ []) ≡ length p + 1 = omega arith in z) in
    elim (cases_Bool (rests x)) [
      | inl r1 ↦ (let a = lost_settled day days xs (p ++ x ∷ []) (rest_on r) k (run_at_rest p x r r1 h) (omega arith) in let b = lost_at_rest day p x k r1 in omega arith)
      | inr r1 ↦ (let a = lost_settled day days xs (p ++ x ∷ []) 0 k (run_at_duty p x r1) (omega arith) in let b = lost_earlier day days p x r k r1 h l in omega arith)
    ]

pub way_before : (way : RestWay) (day : ℕ → ℕ) (p xs : List Activity) → KeepsWay way day (p ++ xs) → KeepsWay way day p
way_before way day p [] h = subst (KeepsWay way day) (append-nil p) h
way_before way day p (x ∷ xs) h = way_less way day p x (way_before way day (p ++ x ∷ []) xs (subst (KeepsWay way day) (sym (append_assoc p (x ∷ []) xs)) h))

pub way_after : (way : RestWay) (day : ℕ → ℕ) (p : List Activity) (n : ℕ) → KeepsWay way day p → KeepsWay way day (p ++ replicate n Off)
way_after way day p zero h = subst (KeepsWay way day) (sym (append-nil p)) h
way_after way day p (suc n) h = subst (KeepsWay way day) (append_assoc p (Off ∷ []) (replicate n Off)) (way_after way day (p ++ Off ∷ []) n (way_at_rest way day p Off refl h))

pub lost_after : (day : ℕ → ℕ) (p : List Activity) (n j : ℕ) → lost day (p ++ replicate n Off) j ≡ lost day p j
lost_after day p zero j = ap (λ l. lost day l j) (append-nil p)
lost_after day p (suc n) j =
    let e : lost day ((p ++ Off ∷ []) ++ replicate n Off) j ≡ lost day (p ++ replicate (suc n) Off) j = ap (λ l. lost day l j) (append_assoc p (Off ∷ []) (replicate n Off)) in
    let a = lost_after day (p ++ Off ∷ []) n j in
    let b = lost_at_rest day p Off j refl in
    omega arith

-- # Marks

-- an earlier day's mark stands before a later one's
marks_rise : (params : Params) (i j : ℕ) → i < j → mark_minute params (mark_at i) <ℤ mark_minute params (mark_at j)
marks_rise params i j l = omega (arith, ints)

-- The marks are those of the days that lose too much in q and not yet in p, in order.
pub record AreLater (params : Params) (day : ℕ → ℕ) (p q : List Activity) (marks : List Mark) : Type 0 where
  pub says : (m : Mark) → Contains marks m → IsNewlyLost day p q m
  pub told : (j : ℕ) → CA_LOST_LIMIT < lost day q j → lost day p j ≤ CA_LOST_LIMIT → Contains marks (mark_at j)
  pub in_order : AreInOrder params marks

newly_after : (day : ℕ → ℕ) (p v q : List Activity) (m : Mark) → ((j : ℕ) → lost day p j ≤ lost day v j) → IsNewlyLost day v q m → IsNewlyLost day p q m
newly_after day p v q m a h = record { number = h.number; is = h.is; more = h.more; less = (let b = a h.number in let c = h.less in omega arith) }

newly_before : (day : ℕ → ℕ) (p v q : List Activity) (m : Mark) → ((j : ℕ) → lost day v j ≤ lost day q j) → IsNewlyLost day p v m → IsNewlyLost day p q m
newly_before day p v q m a h = record { number = h.number; is = h.is; more = (let b = a h.number in let c = h.more in omega arith); less = h.less }

-- the days of one mark stand before those of later ones
IsFence : (ℕ → ℕ) → List Activity → List Activity → List Activity → Type 0
IsFence day p v q = (j k : ℕ) → CA_LOST_LIMIT < lost day v j → lost day p j ≤ CA_LOST_LIMIT → CA_LOST_LIMIT < lost day q k → lost day v k ≤ CA_LOST_LIMIT → j < k

newly_rise : (params : Params) (day : ℕ → ℕ) (p v q : List Activity) (m n : Mark) → IsFence day p v q → IsNewlyLost day p v m → IsNewlyLost day v q n → mark_minute params m <ℤ mark_minute params n
unfolding IsFence
newly_rise params day p v q m n fence h g =
    subst (λ z. mark_minute params z <ℤ mark_minute params n) (sym h.is) (subst (λ z. mark_minute params (mark_at h.number) <ℤ mark_minute params z) (sym g.is) (
    marks_rise params h.number g.number (fence h.number g.number h.more h.less g.more g.less)))

later_join : (params : Params) (day : ℕ → ℕ) (p v q : List Activity) (o : Option Mark) (later : List Mark) → IsMarkOf day p v o → AreLater params day v q later →
    ((j : ℕ) → lost day p j ≤ lost day v j) → ((j : ℕ) → lost day v j ≤ lost day q j) → IsFence day p v q → AreLater params day p q (option_to_list o ++ later)
later_join params day p v q None later mk h a b fence = record {
  says = λ m c. newly_after day p v q m a (h.says m c);
  told = λ j e f. elim (cases_lt CA_LOST_LIMIT (lost day v j)) [
    | inl lt ↦ absurd (let z : None ≡ Some (mark_at j) = mk.told j lt f in cc)
    | inr le ↦ h.told j e le
  ];
  in_order = h.in_order;
}
later_join params day p v q (Some m) later mk h a b fence = record {
  says = λ n c. elim (contains_cases m later n c) [
    | inl e ↦ subst (IsNewlyLost day p q) e (newly_before day p v q m b (mk.says m refl))
    | inr l ↦ newly_after day p v q n a (h.says n l)
  ];
  told = λ j e f. elim (cases_lt CA_LOST_LIMIT (lost day v j)) [
    | inl lt ↦ (let z : m ≡ mark_at j = (let y : Some m ≡ Some (mark_at j) = mk.told j lt f in cc) in subst (Contains (m ∷ later)) z (contains_head m later))
    | inr le ↦ contains_after m later (mark_at j) (h.told j e le)
  ];
  in_order = AllPairs-cons (λ x y. mark_minute params x <ℤ mark_minute params y) m later
      (λ k d l. newly_rise params day p v q m (get_or later k d) fence (mk.says m refl) (h.says (get_or later k d) (Contains-get_or later k d l))) h.in_order;
}

-- the mark of a minute stands before the later ones
fence_at : (day : ℕ → ℕ) → AreDays day → (p : List Activity) (x : Activity) (xs : List Activity) (r : ℕ) → IsOpenRun p r → ((k : ℕ) → k < length (p ++ x ∷ []) → day k ≤ day (length p)) →
    AreApart day ((p ++ x ∷ []) ++ xs) → IsFence day p (p ++ x ∷ []) ((p ++ x ∷ []) ++ xs)
unfolding IsFence
fence_at day days p x xs r run up g j k e0 e1 a b =
    let v = p ++ x ∷ [] in
    let n = length_more p x in
    let upn = days.on (length p) in
    let z : day (length v) ≡ day (length p + 1) = ap day (let z : length v ≡ length p + 1 = omega arith in z) in
    elim (cases_lt j k) [
      | inl lt ↦ lt
      | inr le ↦ absurd (elim (cases_eq j k) [
        | inl s ↦ (let y : lost day v j ≡ lost day v k = ap (lost day v) s in omega arith)
        | inr s ↦ elim (cases_lt (day (length p)) j) [
          | inl lt ↦ (let y = lost_later day v (day (length p)) j up lt in omega arith)
          | inr near ↦ elim (cases_eq j (k + 1)) [
            | inl t ↦ (let f = lost_front day v xs j in let y : lost day (v ++ xs) j ≡ lost day (v ++ xs) (k + 1) = ap (lost day (v ++ xs)) t in g k a (omega arith))
            | inr t ↦ elim (cases_Bool (rests x)) [
              | inl r1 ↦ (let y = lost_settled day days xs v (rest_on r) k (run_at_rest p x r r1 run) (omega arith) in omega arith)
              | inr r1 ↦ (let y = lost_settled day days xs v 0 k (run_at_duty p x r1) (omega arith) in omega arith)
            ]
          ]
        ]
      ])
    ]

-- # Paths

-- where a path leads, and its marks
pub record Leads (params : Params) (day : ℕ → ℕ) (way : RestWay) (p q : List Activity) (marks : List Mark) (t : CanadaDays) : Type 0 where
  pub stands : Stands day q t
  pub same_way : t.way ≡ way
  pub lawful : KeepsWay way day q
  pub marks_later : AreLater params day p q marks

some_same : {A : Type 0} (a b : A) (o : Option A) → o ≡ Some a → o ≡ Some b → a ≡ b
some_same a b o h k = cc

none_some : {A : Type 0} (a : A) (o : Option A) → o ≡ None → o ≡ Some a → ⊥
none_some a o h k = cc

-- what one minute of a path says
record Took (day : ℕ → ℕ) (p : List Activity) (x : Activity) (way : RestWay) (u : CanadaDays) (m : Option Mark) : Type 0 where
  stands : Stands day (p ++ x ∷ []) u
  same_way : u.way ≡ way
  lawful : KeepsWay way day (p ++ x ∷ [])
  marks : IsMarkOf day p (p ++ x ∷ []) m

took : (day : ℕ → ℕ) (p : List Activity) (x : Activity) (way : RestWay) (got : Option (CanadaDays × Option Mark)) (u : CanadaDays) (m : Option Mark) → got ≡ Some (u, m) → (g : GoesOn day p x way got) → Took day p x way u m
took day p x way got u m is g =
    let q : (g.days, g.mark) ≡ (u, m) = some_same (g.days, g.mark) (u, m) got g.is is in
    let a : g.days ≡ u = ap (λ (z : CanadaDays × Option Mark). z.0) q in
    let b : g.mark ≡ m = ap (λ (z : CanadaDays × Option Mark). z.1) q in
    record {
      stands = subst (Stands day (p ++ x ∷ [])) a g.stands;
      same_way = subst (λ z. z.way ≡ way) a g.same_way;
      lawful = g.lawful;
      marks = subst (IsMarkOf day p (p ++ x ∷ [])) b g.marks;
    }

pub path_sound : (params : Params) (day : ℕ → ℕ) → AreDays day → (way : RestWay) (xs p : List Activity) (n : ℕ) (s : CanadaDays) (marks : List Mark) (t : CanadaDays) →
    n ≡ length p → Stands day p s → s.way ≡ way → KeepsWay way day p → TakesDays day s n xs marks t → Leads params day way p (p ++ xs) marks t
path_sound params day days way [] p n s marks t e h w k r = record {
  stands = subst (Stands day (p ++ [])) r.1 (subst (λ q. Stands day q s) (sym (append-nil p)) h);
  same_way = subst (λ z. z.way ≡ way) r.1 w;
  lawful = subst (KeepsWay way day) (sym (append-nil p)) k;
  marks_later = record {
    says = λ m c. absurd (no_member m (subst (λ l. Contains l m) r.0 c));
    told = λ j a b. absurd (let z : lost day (p ++ []) j ≡ lost day p j = ap (λ l. lost day l j) (append-nil p) in omega arith);
    in_order = subst (AreInOrder params) (sym r.0) (λ i j d l m. absurd (omega arith));
  };
}
path_sound params day days way (x ∷ xs) p n s marks t e h w k r =
    let v = p ++ x ∷ [] in
    let u : CanadaDays = r.0 in
    let m : Option Mark = r.1 in
    let is : days_at day (length p) s x ≡ Some (u, m) = ap (λ i. days_at day i s x) (sym e) ∙ r.3 in
    elim (days_step day days p x s h (subst (λ z. KeepsWay z day p) (sym w) k)) [
      | inl g ↦ (
          let o = took day p x s.way (days_at day (length p) s x) u m is g in
          let y = path_sound params day days way xs v (n + 1) u r.2 t (let z = length_more p x in omega arith) o.stands (o.same_way ∙ w) (subst (λ z. KeepsWay z day v) w o.lawful) r.5 in
          let j = later_join params day p v (v ++ xs) m r.2 o.marks y.marks_later (lost_less day p x) (lost_front day v xs)
          (fence_at day days p x xs s.rest h.knows.tracks.run
          (λ i l. let up = o.stands.knows.tracks.upto i l in let z : day (length v - 1) ≡ day (length p) = ap day (let z = length_more p x in let y : length v - 1 ≡ length p = omega arith in y) in omega arith)
          (way_apart way day (v ++ xs) y.lawful)) in
          subst (λ q. Leads params day way p q marks t) (append_assoc p (x ∷ []) xs) (record {
            stands = y.stands;
            same_way = y.same_way;
            lawful = y.lawful;
            marks_later = subst (AreLater params day p (v ++ xs)) (sym r.4) j;
          }))
      | inr g ↦ absurd (none_some (u, m) (days_at day (length p) s x) g.0 is)
    ]

pub path_complete : (day : ℕ → ℕ) → AreDays day → (way : RestWay) (xs p : List Activity) (n : ℕ) (s : CanadaDays) → n ≡ length p → Stands day p s → s.way ≡ way → KeepsWay way day (p ++ xs) →
    (t : CanadaDays) × (marks : List Mark) × TakesDays day s n xs marks t
path_complete day days way [] p n s e h w k = (s, [], (refl, refl))
path_complete day days way (x ∷ xs) p n s e h w k =
    let v = p ++ x ∷ [] in
    let kv : KeepsWay way day (v ++ xs) = subst (KeepsWay way day) (sym (append_assoc p (x ∷ []) xs)) k in
    elim (days_step day days p x s h (subst (λ z. KeepsWay z day p) (sym w) (way_before way day p (x ∷ xs) k))) [
      | inl g ↦ (
          let q = path_complete day days way xs v (n + 1) g.days (let z = length_more p x in omega arith) g.stands (g.same_way ∙ w) kv in
          (q.0, option_to_list g.mark ++ q.1, (g.days, g.mark, q.1, ap (λ i. days_at day i s x) e ∙ g.is, refl, q.2)))
      | inr g ↦ absurd (g.1 (subst (λ z. KeepsWay z day v) (sym w) (way_before way day v xs kv)))
    ]
