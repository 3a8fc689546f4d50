-- How long the tables of the listing are.
--   room            == the most slots of a sheet
use Rattle.std.specs.Prelude.{ℕ, ◌+◌, ◌*◌}
use Rattle.sheet_size.specs.Size.{widest, tallest}

abbrev pub room : ℕ
room = 4 * ((widest + 1) * (tallest + 1))
