use Rattle.std.proofs.Common.{◌≡◌, ◌&&◌, ◌||◌, not, true, take}
use Rattle.std.specs.List.{list_all}
use Rattle.hvnl_rules.specs.Nights.{is_dated, lies_in}
use Rattle.hvnl_rules.proofs.nights.are_counted.Given as goal

abbrev pub invariant-loop-night : goal.invariant-loop-night
invariant-loop-night l = list_all (λ d. not (lies_in d l.other) || (lies_in d l.start && is_dated l.dates d)) (take l.night-index l.nights) ≡ true
