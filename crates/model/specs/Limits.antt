-- The numbers that the papers set as limits.
use Rattle.std.specs.Prelude.{ℕ}

abbrev pub max_places : ℕ
max_places = 4096

abbrev pub max_arcs : ℕ
max_arcs = 16384

abbrev pub max_cost : ℕ
max_cost = 65535

abbrev pub max_estimate : ℕ
max_estimate = 268435455

abbrev pub max_goals : ℕ
max_goals = 64

-- document 02, paper 1: "Length is 1 to 4,095", "classes 0 to 7"
abbrev pub max_length : ℕ
max_length = 4095

abbrev pub max_class : ℕ
max_class = 7

-- document 02, paper 7: "Each must be 1 to 16"
abbrev pub max_factor : ℕ
max_factor = 16
