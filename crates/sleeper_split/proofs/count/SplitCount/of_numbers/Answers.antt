use Rattle.std.proofs.Common.{◌≡◌, Bool, true, false, None, Some, refl, sym, ◌∙◌, subst, inl, inr}
use Rattle.std.specs.Prelude.{if◌then◌else◌, slice_index_or}
use Rattle.std.proofs.lemmas.Bool.{cases_Bool}
use Rattle.sleeper_split.specs.declared.rule.SplitRule.{SplitRule}
use Rattle.sleeper_split.specs.declared.count.SplitCount.{SplitCount}
use Rattle.sleeper_split.specs.Machine.{IsSplitCount, made}
use Rattle.sleeper_split.specs.Numbers.{split_of, is_count}
use Rattle.sleeper_split.specs.Laws.NumberLaws.{count_decides}
use Rattle.sleeper_split.proofs.count.SplitCount.of_numbers.Goals as goal

-- where the parts make no counts, the test fails
no_split : (rule : SplitRule) (may : Bool) (s : SplitCount) → (IsSplitCount s → ⊥) → None ≡ (if is_count rule may s then Some s else None)
no_split rule may s h = elim (cases_Bool (is_count rule may s)) [
  | inl e ↦ absurd (h ((count_decides rule may s).0 e).is_count)
  | inr e ↦ rw e refl
]

-- no counts have these numbers
pub returns-in_err-split : goal.returns-in_err-split
returns-in_err-split c =
    let ns = c.args.numbers.now in
    let e : made (record { long = slice_index_or ns 0 0; stretch = slice_index_or ns 1 0; longest = slice_index_or ns 2 0 }) c.used_at-base.result c.used_at-last.result c.waiting_by-waiting.result ≡ split_of ns = cc in
    c.from_residual.ensures ∙ no_split c.args.rule c.args.may (split_of ns) (λ s. let z : false ≡ true = c.in_err-split.ensures.some.1 (subst IsSplitCount (sym e) s) in cc)
