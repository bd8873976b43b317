-- The ways of resting of Canada, as the counts of split rests see them.
use Rattle.std.proofs.Common.{Bool, true, false}
use Rattle.duty_core.specs.declared.params.RestWay.{RestWay}
use Rattle.duty_core.specs.declared.params.RestWay.TheVariants.{Split, Defer}

-- whether a Canadian tour splits its rests
abbrev pub is_split_way : RestWay → Bool
is_split_way Split = true
is_split_way Defer = false
