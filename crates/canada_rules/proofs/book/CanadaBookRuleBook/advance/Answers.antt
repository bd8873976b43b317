use Rattle.std.proofs.Common.{◌≡◌, ℕ, ◌+◌, ◌-◌, Some, suc, ◌∙◌, ap, subst, arith}
use Rattle.std.specs.Prelude.{flat_map}
use Rattle.std.specs.Option.{option_to_list}
use Rattle.rule_core.specs.declared.nexts.Next.{Next}
use Rattle.rule_core.specs.Reach.{nexts_made, listed, IsOneOf}
use Rattle.rule_core.specs.Laws.RefusalLaws.{given_refused}
use Rattle.canada_rules.specs.declared.state.CanadaState.{CanadaState}
use Rattle.canada_rules.specs.Machine.{ca_may, goes_on, ca_advances}
use Rattle.canada_rules.specs.Stretch.{IsGoing}
use Rattle.canada_rules.specs.Laws.Stretch.{next_goes}
use Rattle.rule_core.specs.Laws.ListedLaws.{is_listed}
use Rattle.canada_rules.specs.Laws.Ends.{advances_are}
use Rattle.canada_rules.specs.Laws.Single.{ca_refuses_units}
use Rattle.canada_rules.proofs.book.CanadaBookRuleBook.advance.Goals as goal

pub onward-requires-clause-going : goal.onward-requires-clause-going
onward-requires-clause-going c =
    let book = c.args.self.now in
    let may = ca_may book.berth book.way in
    (is_listed (λ t. IsGoing may book.way book.day_start t (c.args.at + 1) c.args.act) c.nexts-a.result (λ t o.
    next_goes may book.way book.day_start c.args.state.now c.args.at c.args.act t c.requires.state.counts (subst (λ ns. IsOneOf ns t) c.nexts-a.ensures o))).0

pub onward-requires-2-clause-going : goal.onward-requires-2-clause-going
onward-requires-2-clause-going c =
    let book = c.args.self.now in
    let may = ca_may book.berth book.way in
    (is_listed (λ t. IsGoing may book.way book.day_start t (c.args.at + 1) c.args.act) c.nexts-a.result (λ t o.
    next_goes may book.way book.day_start c.args.state.now c.args.at c.args.act t c.requires.state.counts (subst (λ ns. IsOneOf ns t) c.nexts-a.ensures o))).1

pub onward-requires-3-clause-going : goal.onward-requires-3-clause-going
onward-requires-3-clause-going c =
    let book = c.args.self.now in
    let may = ca_may book.berth book.way in
    (is_listed (λ t. IsGoing may book.way book.day_start t (c.args.at + 1) c.args.act) c.nexts-a.result (λ t o.
    next_goes may book.way book.day_start c.args.state.now c.args.at c.args.act t c.requires.state.counts (subst (λ ns. IsOneOf ns t) c.nexts-a.ensures o))).2

-- the first unit, and the later ones
pub returns-clause-nexts : goal.returns-clause-nexts
returns-clause-nexts c =
    let book = c.args.self.now in
    let may = ca_may book.berth book.way in
    let x = c.args.act in
    let n : ℕ = c.args.n - 1 in
    let at : ℕ = c.args.at + 1 in
    let e : suc n ≡ c.args.n = omega arith in
    let f = λ (t : Next CanadaState). option_to_list (goes_on may book.day_start (Some t) at x n) in
    let a = goes_on may book.day_start c.nexts-a.result.a at x n in
    let b = goes_on may book.day_start c.nexts-a.result.b at x n in
    ap (λ o. listed (nexts_made o c.onward-2.result c.onward-3.result)) c.onward.ensures
    ∙ (ap (λ o. listed (nexts_made a o c.onward-3.result)) c.onward-2.ensures
    ∙ (ap (λ o. listed (nexts_made a b o)) c.onward-3.ensures
    ∙ (advances_are may book.day_start c.nexts-a.result at x n
    ∙ (ap (flat_map f) c.nexts-a.ensures
    ∙ ap (ca_advances may book.day_start c.args.state.now c.args.at x) e))))

pub returns-clause-refused : goal.returns-clause-refused
returns-clause-refused c = λ first h marks timed e r.
    let book = c.args.self.now in
    given_refused _ (λ at. ca_advances (ca_may book.berth book.way) book.day_start c.args.state.now at c.args.act c.args.n) c.args.at _ _ (returns-clause-nexts c) e
    (ca_refuses_units book.berth book.way book.cycle book.day_start first h marks c.args.state.now c.args.act c.args.n book.begins timed r)
