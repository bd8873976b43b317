use Rattle.std.proofs.Common.{◌≡◌, length, map, string_bytes, sym, ap, ◌∙◌}
use Rattle.std.proofs.lemmas.Iterator.Adapters.{YieldsList-from_vec, YieldsList-from_skip}
use Rattle.std.proofs.lemmas.Iterator.Consumers.{YieldsList-end}
use Rattle.std.specs.Iterator.Adapters.{skip_source, skip_count}
use Rattle.std.specs.Vec.Iter.{into_iter_items, into_iter_len}
use Rattle.std.proofs.lemmas.List.{map-id}
use Rattle.driver_cli.proofs.program.words_of.Goals as goal

-- where no argument is left, the words are those of all after the first
pub returns-in-None : goal.returns-in-None
returns-in-None c =
    let after = c.into_iter-argument-iterator.result in
    let all = into_iter_items c.in-Ok.arguments in
    let items : into_iter_items (skip_source after) ≡ all = cc in
    let len : into_iter_len (skip_source after) ≡ length all = cc in
    let first : skip_count after ≡ 1 = cc in
    let ended = YieldsList-end (YieldsList-from_skip {s = after} 1 (YieldsList-from_vec all items len) first) c.loop-argument.yielded c.loop-argument.argument-iterator c.loop-argument.yielded_by c.next.result c.next.new.self c.in-None.is c.next.ensures.steps in
    rw c.in-Ok.is (c.loop-argument.invariant ∙ ap (map string_bytes) (sym (map-id _) ∙ ended.0))
