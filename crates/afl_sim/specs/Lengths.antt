-- Which lengths an image of a flash may have.
use Rattle.std.specs.Prelude.{◌≡◌, ℕ, ◌/◌, ◌%◌, ◌≤◌}

-- whole sectors of 4,096 bytes, from 4 to 4,095 of them
abbrev pub IsImageLength : ℕ → Type 0
IsImageLength n = (n % 4096 ≡ 0) × (4 ≤ n / 4096) × (n / 4096 ≤ 4095)
