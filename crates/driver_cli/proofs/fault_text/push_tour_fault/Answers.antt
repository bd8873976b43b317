use Rattle.std.proofs.Common.{◌≡◌, ◌++◌, ◌∙◌, ap, append_assoc, codes}
use Rattle.driver_cli.proofs.fault_text.push_tour_fault.Goals as goal

pub returns-in_ok-push_bytes-in-DuplicateStop : goal.returns-in_ok-push_bytes-in-DuplicateStop
returns-in_ok-push_bytes-in-DuplicateStop c =
    let first : c.push_str-in-DuplicateStop.new.self ≡ c.args.text.now ++ codes "DuplicateStop " = c.in_ok-push_str-in-DuplicateStop.ensures in
    let second : c.push_bytes.new.self ≡ c.push_str-in-DuplicateStop.new.self ++ c.items-in-DuplicateStop.result.now = c.in_ok-push_bytes-in-DuplicateStop.ensures in
    rw c.in-DuplicateStop.is (rw (← c.items-in-DuplicateStop.ensures) (second ∙ ap (λ t. t ++ c.items-in-DuplicateStop.result.now) first ∙ append_assoc c.args.text.now (codes "DuplicateStop ") c.items-in-DuplicateStop.result.now))

pub returns-in_ok-push_numbered-in-BeyondHorizon : goal.returns-in_ok-push_numbered-in-BeyondHorizon
returns-in_ok-push_numbered-in-BeyondHorizon c = rw c.in-BeyondHorizon.is c.in_ok-push_numbered-in-BeyondHorizon.ensures
