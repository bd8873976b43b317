-- The idle activities that a search needs to try.
use Rattle.std.proofs.Common.{◌≡◌, ℕ, ◌+◌, ◌*◌, Bool, true, false, cond, [], ◌∷◌, refl, sym, subst, ◌⊎◌, inl, inr}
use Rattle.std.specs.Prelude.{None, Some}
use Rattle.std.specs.Option.{option_to_list}
use Rattle.std.proofs.lemmas.Bool.{cases_Bool}
use Rattle.duty_core.specs.declared.activity.Activity.{Activity}
use Rattle.duty_core.specs.declared.activity.Activity.TheVariants.{Drive, Serve, Wait, Off, Berth}
use Rattle.duty_core.specs.declared.params.RestWay.{RestWay}
use Rattle.duty_core.specs.declared.params.Params.TheVariants.{Canada}
use Rattle.duty_core.specs.Activity.{idles}
use Rattle.duty_core.specs.Params.{allows}
use Rattle.rule_core.specs.declared.nexts.Next.{Next}
use Rattle.rule_core.specs.Reach.{idle_list, IsOneOf, IsAnswered}
use Rattle.rule_core.specs.Book.{IsLasting, IsAheadLaw}
use Rattle.rule_core.specs.Laws.RestLaws.{rest_answers}
use Rattle.sleeper_split.specs.Covers.{own_rest}
use Rattle.canada_rules.specs.declared.state.CanadaState.{CanadaState}
use Rattle.canada_rules.specs.Machine.{ca_may, ca_advances}
use Rattle.canada_rules.specs.BookStates.{IsStateOf}
use Rattle.canada_rules.specs.Laws.BookStates.{next_is_state_of}
use Rattle.canada_rules.specs.Laws.Exact.{is_may}
use Rattle.canada_rules.specs.Laws.Advance.{ca_advances_reach, ca_advances_all}
use Rattle.canada_rules.specs.Covers.{covers_state}
use Rattle.canada_rules.specs.Laws.Covers.{ca_covers_itself, ca_covers_on, ca_simulation}
use Rattle.canada_rules.specs.Ahead.{ca_ahead}
use Rattle.canada_rules.specs.Laws.Ahead.{ca_ahead_stays, ca_ahead_rests}
use Rattle.canada_rules.specs.Book.{ca_idles, ca_book}

pub ca_ahead_law : (berth : Bool) (way : RestWay) (cycle start : ℕ) → IsAheadLaw (Canada berth way cycle start) (ca_book berth way cycle start)
ca_ahead_law berth way cycle start = record {
  ahead_stays = λ a at i h. ca_ahead_stays berth way start a at i.counts h;
  ahead_rests = λ a at x n i h w o. ca_ahead_rests berth way cycle start a at x n i.counts h w o;
}

pub ca_lasting : (berth : Bool) (way : RestWay) (cycle start : ℕ) → IsLasting (Canada berth way cycle start) (ca_book berth way cycle start)
ca_lasting berth way cycle start = record {
  next_is_state = λ s at x n i o. next_is_state_of berth way cycle start s at x n i o;
  covers_on = λ a b c at i j k h l. ca_covers_on (ca_may berth way) way start a b c at i.counts h l;
  simulation = λ a b at x n i j h w o. ca_simulation berth way cycle start a b at x n i.counts h w o;
}

idles_listed : (berth : Bool) (way : RestWay) (s : CanadaState) (y : Activity) → IsOneOf (idle_list (ca_idles berth way s)) y → (y ≡ own_rest berth) ⊎ (y ≡ Wait)
idles_listed berth way s y h = elim h [
  | inl e ↦ inl (sym e)
  | inr t ↦ inr (elim (cases_Bool (ca_ahead (ca_may berth way) s)) [
    | inl a ↦ absurd (subst (λ b. IsOneOf (option_to_list (cond b None (Some Wait))) y) a t)
    | inr a ↦ (let o : IsOneOf (Wait ∷ []) y = subst (λ b. IsOneOf (option_to_list (cond b None (Some Wait))) y) a t in elim o [ inl e ↦ sym e | inr z ↦ absurd z ])
  ])
]

rest_idles : (berth : Bool) (way : RestWay) (cycle start : ℕ) → (idles (own_rest berth) ≡ true) × (allows (Canada berth way cycle start) (own_rest berth) ≡ true)
rest_idles true way cycle start = (refl, refl)
rest_idles false way cycle start = (refl, refl)

pub ca_idles_allowed : (berth : Bool) (way : RestWay) (cycle start : ℕ) (s : CanadaState) (y : Activity) → IsOneOf (idle_list (ca_idles berth way s)) y → (idles y ≡ true) × (allows (Canada berth way cycle start) y ≡ true)
ca_idles_allowed berth way cycle start s y h = elim (idles_listed berth way s y h) [
  | inl e ↦ subst (λ x. (idles x ≡ true) × (allows (Canada berth way cycle start) x ≡ true)) (sym e) (rest_idles berth way cycle start)
  | inr e ↦ subst (λ x. (idles x ≡ true) × (allows (Canada berth way cycle start) x ≡ true)) (sym e) (refl, refl)
]

-- the idle activities that a schedule may hold
idles_are : (berth : Bool) (way : RestWay) (cycle start : ℕ) (x : Activity) → idles x ≡ true → allows (Canada berth way cycle start) x ≡ true → (x ≡ own_rest berth) ⊎ (x ≡ Wait)
idles_are berth way cycle start Drive i a = absurd (let z : false ≡ true = i in cc)
idles_are berth way cycle start Serve i a = absurd (let z : false ≡ true = i in cc)
idles_are berth way cycle start Wait i a = inr refl
idles_are true way cycle start Off i a = absurd (let z : false ≡ true = a in cc)
idles_are false way cycle start Off i a = inl refl
idles_are true way cycle start Berth i a = inl refl
idles_are false way cycle start Berth i a = absurd (let z : false ≡ true = a in cc)

-- where resting is not safe, all of them are tried
idles_tried : (berth : Bool) (way : RestWay) (s : CanadaState) (x : Activity) → ca_ahead (ca_may berth way) s ≡ false → (x ≡ own_rest berth) ⊎ (x ≡ Wait) → IsOneOf (idle_list (ca_idles berth way s)) x
idles_tried berth way s x a h = elim h [
  | inl e ↦ inl (sym e)
  | inr e ↦ inr (subst (λ b. IsOneOf (option_to_list (cond b None (Some Wait))) x) (sym a) (inl (sym e)))
]

pub ca_idles_cover : (berth : Bool) (way : RestWay) (cycle start : ℕ) (s : CanadaState) (at : ℕ) (x : Activity) (n : ℕ) (t : Next CanadaState) → IsStateOf berth way cycle start s at →
    idles x ≡ true → allows (Canada berth way cycle start) x ≡ true → IsOneOf (ca_advances (ca_may berth way) start s at x n) t →
    (y : Activity) × IsOneOf (idle_list (ca_idles berth way s)) y × IsAnswered (ca_advances (ca_may berth way) start s at y n) (λ u. covers_state (ca_may berth way) start u t.state (at + 1 * n))
ca_idles_cover berth way cycle start s at x n t i idle w o =
    let may : Bool = ca_may berth way in
    elim (cases_Bool (ca_ahead may s)) [
      | inr a ↦ (x, idles_tried berth way s x a (idles_are berth way cycle start x idle w), (t, o, ca_covers_itself may start t.state (at + 1 * n)))
      | inl a ↦
          let q = rest_answers (Canada berth way cycle start) (ca_book berth way cycle start)
          (ca_lasting berth way cycle start) (ca_ahead_law berth way cycle start) n s s at x (option_to_list t.mark) t.state i i a w (ca_covers_itself may start s at)
          (ca_advances_reach may way start n s at x t (is_may berth way) i.counts o) in
          let r = ca_advances_all may way start n s at (own_rest berth) q.marks q.state (is_may berth way) i.counts q.reached in
          (own_rest berth, inl refl, (r.0, r.1, subst (λ u. covers_state may start u t.state (at + 1 * n) ≡ true) (sym r.2) q.covers_it))
    ]
