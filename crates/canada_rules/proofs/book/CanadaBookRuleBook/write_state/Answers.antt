use Rattle.std.proofs.Common.{◌≡◌, ◌++◌, ◌∙◌, ap, subst, append_assoc}
use Rattle.std.specs.Prelude.{OnOk}
use Rattle.sleeper_split.specs.Numbers.{split_numbers}
use Rattle.canada_rules.specs.Numbers.{ca_numbers}
use Rattle.canada_rules.proofs.book.CanadaBookRuleBook.write_state.Goals as goal

-- the three parts are the numbers of the state
pub returns-clause-ok : goal.returns-clause-ok
returns-clause-ok c =
    let s = c.args.state.now in
    let parts : c.numbers.result ++ c.counts.result ++ c.sums-2.result.now ≡ ca_numbers s =
    ap (λ xs. xs ++ c.counts.result ++ c.sums-2.result.now) c.numbers.ensures ∙ (ap (λ xs. split_numbers s.split ++ c.counts.result ++ xs) (c.sums-2.ensures.sums ∙ c.sums.ensures) ∙ c.counts.ensures) in
    let whole : c.args.out.now ++ c.numbers.result ++ c.counts.result ++ c.sums-2.result.now ≡ c.args.out.now ++ (c.numbers.result ++ c.counts.result ++ c.sums-2.result.now) = simp append_assoc in
    subst (λ ns. OnOk c.extend_parts.result (c.extend_parts.new.self ≡ ns)) (whole ∙ ap (λ ns. c.args.out.now ++ ns) parts) c.extend_parts.ensures.ok
