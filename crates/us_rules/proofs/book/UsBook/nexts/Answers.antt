use Rattle.std.proofs.Common.{◌≡◌, ◌-◌, ◌⊎◌, inl, inr, Bool, true, false, cond, refl, sym, ◌∙◌, ap}
use Rattle.std.specs.Prelude.{sum, nat_le, ◌&&◌}
use Rattle.duty_core.specs.Activity.{drives}
use Rattle.duty_core.specs.UsRules.{us_week_limit}
use Rattle.us_rules.specs.declared.state.WeekCount.{WeekCount}
use Rattle.us_rules.specs.Spans.{break_span_ok}
use Rattle.us_rules.specs.Laws.Spans.{week_span_ok, span_found, span_none}
use Rattle.us_rules.proofs.book.UsBook.nexts.Goals as goal
use Rattle.us_rules.proofs.book.UsBook.nexts.Goals.{then-not-allows-via-then-not-allows, then-not-allows-via-else-not-allows+then-not-week_allows}

pub returns : goal.returns
returns c =
    let s = c.args.state.now in
    let book = c.args.self.now in
    let x = c.args.act in
    span_found book.berth book.days book.day_start s c.args.at x c.args.n c.after-rest_break.result c.week_after-week.result c.saturating_sub.result c.ends_of-ends.result
    c.next_by.result c.next_by-2.result c.next_by-3.result c.requires.some c.requires.one_day
    (sym c.allows.ensures ∙ c.if-not-allows.false)
    (ap (λ w. cond (drives x) (nat_le (sum w.sums) (us_week_limit book.days)) true) (sym c.week_after-week.ensures) ∙ (sym c.week_allows.ensures ∙ c.if-not-week_allows.false))
    c.after-rest_break.ensures c.week_after-week.ensures
    (c.saturating_sub.ensures ∙ ap (λ r. c.args.at - r.long) c.run.ensures)
    c.ends_of-ends.ensures c.next_by.ensures c.next_by-2.ensures c.next_by-3.ensures

either_false : (a b : Bool) → (a ≡ false) ⊎ (b ≡ false) → (a && b) ≡ false
either_false true b h = elim h [ inl e ↦ absurd (let z : true ≡ false = e in cc) | inr e ↦ e ]
either_false false b h = refl

-- a rule forbids one of the units
pub returns-then-not-allows : goal.returns-then-not-allows
returns-then-not-allows c =
    let s = c.args.state.now in
    let book = c.args.self.now in
    let x = c.args.act in
    span_none book.berth book.days book.day_start s c.args.at x c.args.n c.requires.some c.requires.one_day
    (either_false (break_span_ok s.rest_break x c.args.n) (week_span_ok book.days book.day_start s.week c.args.at x c.args.n) (elim c.then-not-allows.branch [
      | then-not-allows-via-then-not-allows w ↦ inl (sym c.allows.ensures ∙ w.if-not-allows.true)
      | then-not-allows-via-else-not-allows+then-not-week_allows w ↦
          inr (ap (λ (v : WeekCount). cond (drives x) (nat_le (sum v.sums) (us_week_limit book.days)) true) (sym c.week_after-week.ensures) ∙ (sym w.week_allows.ensures ∙ w.if-not-week_allows.true))
    ]))
