use Rattle.std.proofs.Common.{arith}
use Rattle.cert_text.specs.CoverLists.Laws.ProblemOf.{word_few}
use Rattle.label_extend.proofs.extend.push_by.Goals as goal

pub push_nexts-requires : goal.push_nexts-requires
push_nexts-requires g c = let few = word_few c.args.tour.now c.requires.tour in let within = c.requires.progress in omega arith
