-- What a terminal is shown in place of each byte of an input.
use Rattle.std.specs.Prelude.{◌≡◌, ◌⊎◌, ◌≤◌, ◌==◌, ◌||◌, ◌&&◌, nat_lt, if◌then◌else◌, ℕ}

-- LF, or printable ASCII
abbrev pub IsShown : ℕ → Type 0
IsShown byte = (byte ≡ 10) ⊎ ((32 ≤ byte) × (byte ≤ 126))

-- such a byte itself, a blank for a tab, and `?` for another
abbrev pub shown_for : ℕ → ℕ
shown_for byte =
    if (byte == 10) || (nat_lt 31 byte && nat_lt byte 127) then byte
    else (if byte == 9 then 32 else 63)
