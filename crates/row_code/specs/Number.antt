-- Numbers in a file: the lowest byte comes first, and a negative number is in two's complement, like Java's `int`.
use Rattle.std.specs.Prelude.{ℕ, ℤ, List}
use Rattle.std.specs.Int.{w16, w32, to_le_bytes, from_le_bytes, cast_unsigned, cast_signed}

-- the two bytes of a number to 65535
abbrev pub u16_bytes : ℕ → List ℕ
u16_bytes n = to_le_bytes w16 n

-- the four bytes of an `int`
abbrev pub i32_bytes : ℤ → List ℕ
i32_bytes z = to_le_bytes w32 (cast_unsigned w32 z)

-- the number in two bytes
abbrev pub u16_of : List ℕ → ℕ
u16_of bytes = from_le_bytes w16 bytes

-- the `int` in four bytes
abbrev pub i32_of : List ℕ → ℤ
i32_of bytes = cast_signed w32 (from_le_bytes w32 bytes)
