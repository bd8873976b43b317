use Rattle.std.proofs.Common.{◌≡◌, ℕ, ◌+◌, ◌-◌, List, ◌++◌, length, take, drop, rules, sym, ap, ◌∙◌, subst}
use Rattle.std.proofs.Math.Seq.{take-add}
use Rattle.std.proofs.lemmas.List.{take_rest}
use Rattle.std.specs.Io.KnownBytes.{Appends}
use Rattle.std.proofs.KnownBytes.{Appends-trans}
use Rattle.outside.proofs.stdout.write_whole.Goals as goal

-- a first part, and then some of what is left
take_more : (xs : List ℕ) (at n : ℕ) → take (at + n) xs ≡ take at xs ++ take n (take (length xs - at) (drop at xs))
take_more xs at n = take-add at n xs ∙ ap (λ rest. take at xs ++ take n rest) (sym (take_rest xs at))

pub loop-at-preserved : goal.loop-at-preserved
loop-at-preserved g c = record {
  within = search rules;
  appended = subst (Appends _ _) (sym (take_more c.args.bytes.now c.loop-at.at c.in-Ok.count)) (Appends-trans _ _ _ _ _ c.loop-at.invariant.appended c.in-Ok.ensures.bytes);
}
