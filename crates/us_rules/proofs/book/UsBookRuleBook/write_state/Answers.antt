use Rattle.std.proofs.Common.{◌≡◌, ◌++◌, ◌∙◌, ap, subst, append_assoc}
use Rattle.std.specs.Prelude.{OnOk}
use Rattle.sleeper_split.specs.Numbers.{split_numbers}
use Rattle.us_rules.specs.Numbers.{us_numbers}
use Rattle.us_rules.proofs.book.UsBookRuleBook.write_state.Goals as goal

-- the three parts are the numbers of the state
pub returns-clause-ok : goal.returns-clause-ok
returns-clause-ok c =
    let s = c.args.state.now in
    let parts : c.numbers.result ++ c.counts.result ++ c.sums.result.now ≡ us_numbers s =
    ap (λ xs. xs ++ c.counts.result ++ c.sums.result.now) c.numbers.ensures ∙ (ap (λ xs. split_numbers s.split ++ c.counts.result ++ xs) c.sums.ensures.sums ∙ c.counts.ensures) in
    let whole : c.args.out.now ++ c.numbers.result ++ c.counts.result ++ c.sums.result.now ≡ c.args.out.now ++ (c.numbers.result ++ c.counts.result ++ c.sums.result.now) = simp append_assoc in
    subst (λ ns. OnOk c.extend_parts.result (c.extend_parts.new.self ≡ ns)) (whole ∙ ap (λ ns. c.args.out.now ++ ns) parts) c.extend_parts.ensures.ok
