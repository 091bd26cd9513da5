-- What a call writes into the two buffers of its caller.
use Rattle.std.specs.Prelude.{◌≡◌, ◌⊎◌, ◌<◌, ℕ, List, [], ◌++◌, length, take, drop, min, codes}
use Rattle.byte_ports.specs.Counting.{most_counted}

-- a buffer begins with as many of these bytes as it has room for, after them it is as before, and their count is reported
abbrev pub Holds : (before after : List ℕ) (count : ℕ) → (bytes : List ℕ) → Type 0
Holds before after count bytes =
    (after ≡ take (length before) bytes ++ drop (length bytes) before) × (count ≡ min (length bytes) most_counted)

-- there are bytes, and a buffer has room for some of them: only then can it be that memory was refused for them
abbrev pub NeedsRoom : (before bytes : List ℕ) → Type 0
NeedsRoom before bytes = 0 < min (length bytes) (length before)

-- this output and this line are in two buffers, with their status; or there was no memory for as much of them as there is room for
abbrev pub HandsOver : (status : ℕ) (output line : List ℕ) → (answer : ℕ)
    (output_before output_after : List ℕ) (output_count : ℕ) (line_before line_after : List ℕ) (line_count : ℕ) → Type 0
HandsOver status output line answer output_before output_after output_count line_before line_after line_count =
    ((answer ≡ status) × Holds output_before output_after output_count output × Holds line_before line_after line_count line)
    ⊎ ((answer ≡ 4) × Holds output_before output_after output_count [] × Holds line_before line_after line_count (codes "memory\n")
    × (NeedsRoom output_before output ⊎ NeedsRoom line_before line))

-- a call comes to this status, output and line, which it hands over
abbrev pub Shows : (Comes : (status : ℕ) (output line : List ℕ) → Type 0) → (answer : ℕ)
    (output_before output_after : List ℕ) (output_count : ℕ) (line_before line_after : List ℕ) (line_count : ℕ) → Type 0
Shows Comes answer output_before output_after output_count line_before line_after line_count =
    (status : ℕ) × ((output : List ℕ) × ((line : List ℕ) × (Comes status output line
    × HandsOver status output line answer output_before output_after output_count line_before line_after line_count)))
