-- The words of a log: its header, and what each book calls what a driver does.
use Rattle.std.specs.Prelude.{List, [], ◌∷◌, ℕ, codes, Option}
use Rattle.std.specs.Map.{lookup}
use Rattle.std.specs.Str.{bytes_eq}
use Rattle.duty_core.specs.declared.activity.Activity.{Activity}
use Rattle.duty_core.specs.declared.activity.Activity.TheVariants.{Drive, Serve, Off, Berth}
use Rattle.duty_core.specs.declared.params.Params.{Params}
use Rattle.duty_core.specs.declared.params.Params.TheVariants.{UsProperty, Canada, Hvnl}

-- the first record of a log
abbrev pub header : List (List ℕ)
header = codes "from" ∷ codes "to" ∷ codes "status" ∷ []

-- the statuses of the United States and Canada, and what each stands for
abbrev pub north_american_words : List (List ℕ × Activity)
north_american_words = (codes "OFF", Off) ∷ (codes "SB", Berth) ∷ (codes "D", Drive) ∷ (codes "ON", Serve) ∷ []

-- the statuses of Australia
abbrev pub australian_words : List (List ℕ × Activity)
australian_words = (codes "REST", Off) ∷ (codes "WORK", Serve) ∷ []

-- the statuses of a book
abbrev pub words : Params → List (List ℕ × Activity)
words (UsProperty berth days day_start) = north_american_words
words (Canada berth way cycle day_start) = north_american_words
words Hvnl = australian_words

-- what a status stands for, if it is a word of the book
abbrev pub activity_of : Params → List ℕ → Option Activity
activity_of params status = lookup (bytes_eq status) (words params)
