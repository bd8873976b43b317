use Rattle.std.proofs.Common.{◌≡◌, ◌++◌, length, take, codes}
use Rattle.std.specs.List.{flat_map}
use Rattle.cert_text.specs.Text.Spelling.{number_line, run_line}
use Rattle.cert_text.proofs.text.write.put_schedule.Given as goal

abbrev pub invariant-loop-run : goal.invariant-loop-run
invariant-loop-run l = l.out.items ≡ l.fn.out.items ++ (number_line (codes "schedule ") (length l.runs) ++ flat_map run_line (take l.run-index l.runs))
