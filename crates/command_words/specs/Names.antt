-- Names of files among the words.
use Rattle.std.specs.Prelude.{◌≡◌, ◌≢◌, ◌⊎◌, codes, slice_index}
use Rattle.outside.specs.Outside.{Bytes}

-- The name does not begin with a hyphen, or is one: it may stand before a word `--`.
abbrev pub IsPlainName : Bytes → Type 0
IsPlainName name = (slice_index name 0 ≢ 45) ⊎ (name ≡ codes "-")
