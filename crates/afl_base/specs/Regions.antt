-- Regions: 128 bytes of a file each, numbered from 0.
use Rattle.std.specs.Prelude.{ℕ, ◌+◌, ◌-◌, ◌/◌, min}

-- how many regions the n bytes from a place on touch
abbrev pub regions : ℕ → ℕ → ℕ
regions at n = min n ((at + n + 127) / 128 - at / 128)
