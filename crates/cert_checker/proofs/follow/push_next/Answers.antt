use Rattle.std.proofs.Common.{◌≡◌, ◌+◌, get_or, sym, subst, rules, refl}
use Rattle.std.specs.Option.{option_to_list}
use Rattle.cert_checker.specs.declared.follow.Held.{Held}
use Rattle.cert_checker.specs.Followed.{AddsNexts}
use Rattle.cert_checker.proofs.FollowLaws.{adds_unmarked, adds_marked}
use Rattle.cert_checker.proofs.follow.push_next.Goals as goal

pub returns-in_default-mark : goal.returns-in_default-mark
returns-in_default-mark g c =
    let old = c.args.held.now.items in
    let d : Held g.row.S.Denot = record { state = c.in-Some.field-0.state; used = c.args.used } in
    record {
      ok = subst (λ o. AddsNexts c.args.marks.now c.args.used (option_to_list o) old c.push.new.self.items) (sym c.in-Some.is)
          (adds_unmarked c.args.marks.now c.args.used c.in-Some.field-0 d old c.push.new.self.items c.requires c.in_default-mark.is refl refl c.in_ok-push.ensures.items);
    }

pub returns-in_ok-push-2 : goal.returns-in_ok-push-2
returns-in_ok-push-2 g c =
    let old = c.args.held.now.items in
    let m = c.in-Some-mark.mark in
    let d : Held g.row.S.Denot = record { state = c.in-Some.field-0.state; used = c.args.used + 1 } in
    let same : get_or c.args.marks.now c.args.used m ≡ m = search rules in
    record {
      ok = subst (λ o. AddsNexts c.args.marks.now c.args.used (option_to_list o) old c.push-then-eq.new.self.items) (sym c.in-Some.is)
          (adds_marked c.args.marks.now c.args.used c.in-Some.field-0 m d old c.push-then-eq.new.self.items c.if-used-marks.true same c.in-Some-mark.is refl refl c.in_ok-push-2.ensures.items);
    }
