use Rattle.std.proofs.Common.{◌+◌, sym, subst}
use Rattle.label_search.specs.Terms.{IsDepartureBy, AreDeparturesBy}
use Rattle.label_search.proofs.GuessLaws.{each_push}
use Rattle.label_search.proofs.guess.add_departure.Goals as goal

pub returns-in_ok-push : goal.returns-in_ok-push
returns-in_ok-push g c =
    let terms = c.args.terms.now in
    let m = g.B.RuleBook.machine terms.book.now in
    record {
      ok = subst (AreDeparturesBy terms m) (sym c.in_ok-push.ensures.items)
          (each_push (IsDepartureBy terms m) c.args.list.now.items (record { takes = c.saturating_sub-takes.result; step = c.args.depart + 1; beam = c.in_ok-beam.beam }) c.requires.list
          (record { within = c.requires.depart; beam = c.in_ok-beam.ensures }));
    }
