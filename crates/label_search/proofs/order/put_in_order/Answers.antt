use Rattle.std.proofs.Common.{rules}
use Rattle.std.proofs.lemmas.List.Sorted.{answers_always, ties_still_rise, IsPermutation-trans, IsNonDecreasingBy-from_sort_by_key}
use Rattle.label_search.specs.Searching.{depart_rank, progress_rank}
use Rattle.label_search.proofs.OrderLaws.{put_ordered}
use Rattle.label_search.proofs.order.put_in_order.Goals as goal

pub returns-clause-same : goal.returns-clause-same
returns-clause-same g c = IsPermutation-trans _ _ _ c.in_ok-sort_by_cached_key.ensures.permutation
    (IsPermutation-trans _ _ _ c.in_ok-sort_by_key.ensures.permutation c.in_ok-sort_by_key-2.ensures.permutation)

pub returns-clause-ordered : goal.returns-clause-ordered
returns-clause-ordered g c =
    put_ordered c.args.list.now.items _ c.requires.small
    (IsPermutation-trans _ _ _ c.in_ok-sort_by_cached_key.ensures.permutation (IsPermutation-trans _ _ _ c.in_ok-sort_by_key.ensures.permutation c.in_ok-sort_by_key-2.ensures.permutation))
    (IsNonDecreasingBy-from_sort_by_key depart_rank _ c.in_ok-sort_by_key-2.ensures.sorted (λ a r q k. search rules))
    (ties_still_rise progress_rank depart_rank _ _ (c.in_ok-sort_by_key.ensures.sorted progress_rank (answers_always _ _ _ (λ f a r g h. search rules)))
    (c.sort_by_key-2.ensures.stable depart_rank (answers_always _ _ _ (λ f a r g h. search rules))))

-- where the last sort finds no memory, the first two have moved the labels
pub returns-in_err-sort_by_key-2-clause-same : goal.returns-in_err-sort_by_key-2-clause-same
returns-in_err-sort_by_key-2-clause-same g c = IsPermutation-trans _ _ _ c.in_ok-sort_by_cached_key.ensures.permutation
    (IsPermutation-trans _ _ _ c.in_ok-sort_by_key.ensures.permutation c.sort_by_key-2.ensures.permutation)
