use Rattle.std.proofs.Common.{◌++◌}
use Rattle.std.specs.Prelude.{Result, Ok, Err, OnOk}
use Rattle.std.specs.Option.{option_to_list}
use Rattle.cert_checker.proofs.FollowLaws.{adds_append}
use Rattle.cert_checker.proofs.follow.push_nexts.Goals as goal

on_ok_also : {T E P Q : Type 0} (r : Result T E) → (P → Q) → OnOk r P → OnOk r Q
on_ok_also (Ok v) f h = f h
on_ok_also (Err e) f h = tt

pub returns : goal.returns
returns g c =
    let a = option_to_list c.args.nexts.a in
    let b = option_to_list c.args.nexts.b in
    let d = option_to_list c.args.nexts.c in
    record {
      ok = on_ok_also c.push_next-3.result
          (λ h. adds_append c.args.marks.now c.args.used a (b ++ d) c.args.held.now.items c.push_next.new.held.items c.push_next-3.new.held.items c.in_ok-push_next.ensures.ok
          (adds_append c.args.marks.now c.args.used b d c.push_next.new.held.items c.push_next-2.new.held.items c.push_next-3.new.held.items c.in_ok-push_next-2.ensures.ok h))
          c.push_next-3.ensures.ok;
    }
