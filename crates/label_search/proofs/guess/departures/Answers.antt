use Rattle.label_search.proofs.Places.{one_of_permuted}
use Rattle.label_search.proofs.guess.departures.Goals as goal

pub returns : goal.returns
returns g c d o = c.loop-depart.invariant.list d (one_of_permuted c.loop-depart.list.items c.sort_by_key.new.self.items c.in_ok-sort_by_key.ensures.permutation d o)
