use Rattle.clap.specs.Words.{app_of, is_simple, built}
use Rattle.clap.specs.Faults.{is_free_app}
use Rattle.command_words.proofs.Known.{both}
use Rattle.command_words.proofs.matched.parse.Goals as goal

pub returns-in-Ok-clause-matches : goal.returns-in-Ok-clause-matches
returns-in-Ok-clause-matches c =
    let app = app_of c.args.call in
    (c.in-Ok.ensures.matches (both (is_simple app) (is_free_app (built app)) c.requires).0).0
