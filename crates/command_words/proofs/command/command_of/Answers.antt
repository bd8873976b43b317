use Rattle.std.proofs.Common.{◌∙◌, ap, subst, map, List, ℕ}
use Rattle.std.specs.Prelude.{IfOk, MatchOption}
use Rattle.std.specs.Borrow.{Bor}
use Rattle.outside.specs.Outside.{Bytes}
use Rattle.command_words.specs.Command.{IsCommandLine, AreRefused}
use Rattle.command_words.proofs.CommandLines.{read_of, refused_of}
use Rattle.command_words.proofs.command.command_of.Goals as goal

pub returns-clause-read : goal.returns-clause-read
returns-clause-read c =
    let same = ap (map (λ (w : Bor (List ℕ)). w.now)) c.as_slice.ensures.value ∙ c.in_ok-texts.ensures in
    read_of c.args.words.now c.read_texts.result
    (subst (λ (words : List Bytes). IfOk c.read_texts.result (λ read. MatchOption read (AreRefused words) (IsCommandLine words))) same c.read_texts.ensures)

pub returns-clause-refused : goal.returns-clause-refused
returns-clause-refused c =
    let same = ap (map (λ (w : Bor (List ℕ)). w.now)) c.as_slice.ensures.value ∙ c.in_ok-texts.ensures in
    refused_of c.args.words.now c.read_texts.result
    (subst (λ (words : List Bytes). IfOk c.read_texts.result (λ read. MatchOption read (AreRefused words) (IsCommandLine words))) same c.read_texts.ensures)
