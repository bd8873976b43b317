use Rattle.duty_core.proofs.RestIsBetter.{us_rest_is_better, ca_rest_is_better}
use Rattle.duty_core.proofs.laws.rest_in_the_berth_is_plainly_better.Goals as goal

pub returns : goal.returns
returns c = record { united_states = us_rest_is_better; canada = ca_rest_is_better }
