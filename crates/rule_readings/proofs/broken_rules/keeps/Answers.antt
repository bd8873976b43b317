use Rattle.duty_core.specs.declared.rule.Rule.TheVariants.{CaOff10, CaDefer, Au14dNights}
use Rattle.rule_readings.proofs.Books.{askable, askable_as}
use Rattle.rule_readings.proofs.RuleLaws.{asked_at_places}
use Rattle.rule_readings.proofs.broken_rules.keeps.Goals as goal

pub keeps_off10-requires-clause-minutes : goal.keeps_off10-requires-clause-minutes
keeps_off10-requires-clause-minutes c = askable_as c.args.history.now.scope.params c.args.history.now.scope.first c.args.rule CaOff10 c.requires.good c.requires.begins c.requires.early c.requires.of_book c.in-CaOff10.is

pub keeps_defer-requires-clause-minutes : goal.keeps_defer-requires-clause-minutes
keeps_defer-requires-clause-minutes c = askable_as c.args.history.now.scope.params c.args.history.now.scope.first c.args.rule CaDefer c.requires.good c.requires.begins c.requires.early c.requires.of_book c.in-CaDefer.is

pub keeps_nights-requires : goal.keeps_nights-requires
keeps_nights-requires c = record { begins = askable_as c.args.history.now.scope.params c.args.history.now.scope.first c.args.rule Au14dNights c.requires.good c.requires.begins c.requires.early c.requires.of_book c.in-Au14dNights.is }

pub keeps_at_places-requires-clause-askable : goal.keeps_at_places-requires-clause-askable
keeps_at_places-requires-clause-askable c = askable c.args.history.now.scope.params c.args.history.now.scope.first c.args.rule c.requires.good c.requires.begins c.requires.early c.requires.of_book

pub keeps_at_places-requires-clause-places : goal.keeps_at_places-requires-clause-places
keeps_at_places-requires-clause-places c = asked_at_places c.args.rule c.in_default.not-UsPair c.in_default.not-CaOff10 c.in_default.not-CaDefer c.in_default.not-CaPair c.in_default.not-Au14dNights
