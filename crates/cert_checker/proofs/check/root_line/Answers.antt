use Rattle.std.proofs.Common.{◌≡◌, ◌==◌, ℕ, ◌+◌, ◌<◌, Bool, true, false, List, [], ◌∷◌, length, refl, sym, ◌∙◌, ap, subst, arith}
use Rattle.std.proofs.lemmas.Bool.Decides.{nat_tests}
use Rattle.cert_text.specs.declared.cert.Cert.{Cert}
use Rattle.cert_text.specs.declared.cert.CertLabel.{CertLabel}
use Rattle.cert_checker.specs.Verdicts.{layers_line, root_line}
use Rattle.cert_checker.proofs.check.root_line.Goals as goal

none_of : (n : ℕ) (b : Bool) → b ≡ (n == 0) → b ≡ true → n ≡ 0
none_of n b e t = grind (arith, nat_tests)

some_of : (n : ℕ) (b : Bool) → b ≡ (n == 0) → b ≡ false → 0 < n
some_of n b e f = grind (arith, nat_tests)

where_none : (cert : Cert) (ls : List (List CertLabel)) → length ls ≡ 0 → layers_line cert ≡ root_line cert ls
where_none cert [] e = refl
where_none cert (l ∷ ls) e = absurd (omega arith)

where_some : (cert : Cert) (ls : List (List CertLabel)) → 0 < length ls → layers_line cert + 1 ≡ root_line cert ls
where_some cert [] e = absurd (omega arith)
where_some cert (l ∷ ls) e = refl

pub returns-then-is_empty : goal.returns-then-is_empty
returns-then-is_empty c =
    c.layers_line-line.ensures ∙ where_none c.args.cert.now c.args.cert.now.layers (ap length (sym c.items.ensures) ∙ none_of (length c.items.result.now) c.is_empty.result c.is_empty.ensures c.if-is_empty.true)

pub returns-else-is_empty : goal.returns-else-is_empty
returns-else-is_empty c =
    ap (λ n. n + 1) c.layers_line-line.ensures ∙ where_some c.args.cert.now c.args.cert.now.layers (subst (λ ls. 0 < length ls) c.items.ensures (some_of (length c.items.result.now) c.is_empty.result c.is_empty.ensures c.if-is_empty.false))
