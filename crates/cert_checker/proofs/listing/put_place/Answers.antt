use Rattle.std.proofs.Common.{arith}
use Rattle.cert_checker.proofs.PlaceLaws.{placed_in}
use Rattle.cert_checker.proofs.listing.put_place.Goals as goal

pub returns : goal.returns
returns c = record {
  ok = placed_in c.args.lists.now.items c.args.progress c.len.result c.index_mut.result.now c.push.new.self c.args.place (let e = c.len.ensures in omega arith) c.requires c.index_mut.ensures.value c.in_ok-push.ensures.items;
}
