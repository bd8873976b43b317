-- A lawful history.
use Rattle.std.specs.Prelude.{ℕ, List}
use Rattle.duty_core.specs.declared.activity.Activity.{Activity}
use Rattle.duty_core.specs.declared.mark.Mark.{Mark}
use Rattle.duty_core.specs.declared.params.Params.{Params}
use Rattle.duty_core.specs.RuleBooks.{KeepsAll, IsLawfulByBook}

-- The history, which begins at this minute, breaks no rule of the book with these marks, and they are marks of the book.
abbrev pub IsLawfulWith : Params → ℕ → List Activity → List Mark → Type 0
IsLawfulWith params first h marks = KeepsAll params first h marks

-- It does so with some marks.
abbrev pub IsLawful : Params → ℕ → List Activity → Type 0
IsLawful params first h = IsLawfulByBook params first h
