-- Which text an answer speaks of.
use Rattle.std.specs.Prelude.{ℕ}

-- The script.
abbrev pub script_text : ℕ
script_text = 0

-- The response.
abbrev pub response_text : ℕ
response_text = 1

-- The list of points.
abbrev pub points_text : ℕ
points_text = 2

-- None, or the area.
abbrev pub no_text : ℕ
no_text = 3
