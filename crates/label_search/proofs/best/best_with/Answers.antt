use Rattle.std.proofs.Common.{◌≡◌, rules, ap}
use Rattle.std.specs.Prelude.{Some}
use Rattle.label_search.specs.declared.best.Best.{Best}
use Rattle.cert_text.specs.CoverLists.Cover.{taken}
use Rattle.label_search.proofs.BestLaws.{best_above, best_new}
use Rattle.label_search.proofs.best.best_with.Goals as goal

pub returns-then-not-is_below : goal.returns-then-not-is_below
returns-then-not-is_below g c = best_above c.args.goal c.args.label.now c.args.place c.args.best (search rules)

pub returns : goal.returns
returns g c =
    let e : c.saturating_sub-takes.result ≡ taken c.args.place.layer c.args.label.now = (search rules) in
    let b : Best = record { limit = Some c.saturating_sub-takes.result; place = Some c.args.place } in
    best_new c.args.goal c.args.label.now c.args.place c.args.best b (search rules) (search rules) (ap (λ t. record { limit = Some t; place = Some c.args.place }) e)
