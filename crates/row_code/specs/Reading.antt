-- The image that bytes encode, or the first fault in the order of the checks.
use Rattle.std.specs.Prelude.{ℕ, zero, suc, ◌+◌, ◌*◌, ◌==◌, ◌||◌, ◌&&◌, not, nat_lt, ℤ, pos, negsuc, Bool, true, false, List, [], ◌∷◌, length, take, drop, slice_index, bytes_eq, Option, Some, None, Result, Ok, Err, if◌then◌else◌}
use Rattle.instruction_table.specs.{declared.row.Row.Row, Row.is_timed_row}
use Rattle.row_code.specs.declared.{barriers.DeclaredBarrier.DeclaredBarrier, image.Counts.Counts, image.Image.Image}
use Rattle.row_code.specs.declared.{image_fault.ImageFault.ImageFault, phasers.DeclaredPhaser.DeclaredPhaser}
use Rattle.row_code.specs.declared.{phasers.DeclaredPolicy.DeclaredPolicy, threads.DeclaredThread.DeclaredThread}
use Rattle.row_code.specs.declared.phasers.DeclaredPolicy.TheVariants.{Default, Never, Until, Routine}
use Rattle.row_code.specs.{Number.u16_of, Number.i32_of, RowOperands.row_in, Image.magic, Rows.has_timed_row, Answers.◌>>=◌}
use Rattle.row_code.specs.declared.image_fault.ImageFault.TheVariants as fault

-- whether a fault is out of memory, which any call may return instead of its result
abbrev pub is_memory : ImageFault → Bool
is_memory fault.Memory = true
is_memory _ = false

-- the number in the two bytes, or the `int` in the four bytes, from a place on
abbrev pub u16_at : List ℕ → ℕ → ℕ
u16_at bytes i = u16_of (slice_index bytes i ∷ slice_index bytes (i + 1) ∷ [])

abbrev pub i32_at : List ℕ → ℕ → ℤ
i32_at bytes i =
    i32_of (slice_index bytes i ∷ slice_index bytes (i + 1) ∷
    slice_index bytes (i + 2) ∷ slice_index bytes (i + 3) ∷ [])

-- a row's number in a field that begins at this place of the file
abbrev pub target_at : ℕ → ℤ → Result ℕ ImageFault
target_at at (pos n) = if nat_lt n 65536 then Ok n else Err (fault.Field at)
target_at at (negsuc n) = Err (fault.Field at)

-- a phase's number
abbrev pub phase_at : ℕ → ℤ → Result ℤ ImageFault
phase_at at (pos n) = Ok (pos n)
phase_at at (negsuc n) = Err (fault.Field at)

-- nothing: 0
abbrev pub zero_at : ℕ → ℤ → Result ℤ ImageFault
zero_at at (pos n) = if n == 0 then Ok (pos 0) else Err (fault.Field at)
zero_at at (negsuc n) = Err (fault.Field at)

-- the parent's number, or none
abbrev pub parent_at : ℕ → ℕ → Result (Option ℕ) ImageFault
parent_at at byte =
    if byte == 255 then Ok None else (if nat_lt byte 64 then Ok (Some byte) else Err (fault.Field at))

-- the kind of a policy
abbrev pub kind_at : ℕ → ℕ → Result ℕ ImageFault
kind_at at byte = if nat_lt byte 4 then Ok byte else Err (fault.Field at)

-- the argument, by the policy's kind
unfoldable pub policy_at : ℕ → ℕ → ℤ → Result DeclaredPolicy ImageFault
policy_at at kind value =
    if kind == 0 then zero_at at value >>= (λ _. Ok Default)
    else (if kind == 1 then zero_at at value >>= (λ _. Ok Never)
    else (if kind == 2 then phase_at at value >>= (λ phase. Ok (Until phase))
    else target_at at value >>= (λ row. Ok (Routine row))))

-- the phaser in 12 bytes that begin at this place
unfoldable pub phaser_at : ℕ → List ℕ → Result DeclaredPhaser ImageFault
phaser_at at bytes = do
  parent ← parent_at at (slice_index bytes 0)
  kind ← kind_at (at + 1) (slice_index bytes 1)
  first_phase ← phase_at (at + 4) (i32_at bytes 4)
  policy ← policy_at (at + 8) kind (i32_at bytes 8)
  Ok (record { parent = parent; policy = policy; parties = u16_at bytes 2; first_phase = first_phase })

-- the action, by the flag
unfoldable pub action_at : ℕ → ℕ → ℤ → Result (Option ℕ) ImageFault
action_at at flag value =
    if flag == 0 then zero_at (at + 2) value >>= (λ _. Ok None)
    else (if flag == 1 then target_at (at + 2) value >>= (λ row. Ok (Some row))
    else Err (fault.Field at))

-- the barrier in 8 bytes
unfoldable pub barrier_at : ℕ → List ℕ → Result DeclaredBarrier ImageFault
barrier_at at bytes = do
  action ← action_at (at + 2) (u16_at bytes 2) (i32_at bytes 4)
  Ok (record { parties = u16_at bytes 0; action = action })

-- the thread in 4 bytes
unfoldable pub thread_at : ℕ → List ℕ → Result DeclaredThread ImageFault
thread_at at bytes = do
  row ← target_at at (i32_at bytes 0)
  Ok (record { first_row = row })

-- the row that was found, if the image may have it, and otherwise the fault of the row with this number; timed says whether the
-- image may have a row with a timeout
abbrev pub row_or : Bool → ℕ → Option Row → Result Row ImageFault
row_or timed n (Some row) = if timed || not (is_timed_row row) then Ok row else Err (fault.Row n)
row_or timed n None = Err (fault.Row n)

-- the row with this number in 8 bytes
unfoldable pub row_at : Bool → ℕ → List ℕ → Result Row ImageFault
row_at timed n bytes = row_or timed n (row_in bytes)

-- as many entries of a size as there are, numbered from k, one after the other
unfoldable pub entries : {E : Type 0} → ℕ → (ℕ → List ℕ → Result E ImageFault) →
    ℕ → ℕ → List ℕ → Result (List E) ImageFault
entries size read k zero bytes = Ok []
entries size read k (suc n) bytes = do
  first ← read k (take size bytes)
  others ← entries size read (k + 1) n (drop size bytes)
  Ok (first ∷ others)

-- where the lists begin, and where the file ends
abbrev pub barriers_start : Counts → ℕ
barriers_start c = 12 + 12 * c.phasers

abbrev pub threads_start : Counts → ℕ
threads_start c = barriers_start c + 8 * c.barriers

abbrev pub rows_start : Counts → ℕ
rows_start c = threads_start c + 4 * c.threads

abbrev pub file_end : Counts → ℕ
file_end c = rows_start c + 8 * c.rows

-- whether the file begins with a magic, and whether it is that of an image with timed rows
abbrev pub is_magic : List ℕ → Bool
is_magic four = bytes_eq four (magic false) || bytes_eq four (magic true)

abbrev pub says_timed : List ℕ → Bool
says_timed bytes = bytes_eq (take 4 bytes) (magic true)

-- the four counts after the first four bytes
abbrev pub counts_in : List ℕ → Counts
counts_in bytes = record {
  phasers = u16_at bytes 4;
  barriers = u16_at bytes 6;
  threads = u16_at bytes 8;
  rows = u16_at bytes 10;
}

-- a count is above its limit
abbrev pub is_too_many : Counts → Bool
is_too_many c = nat_lt 64 c.phasers || nat_lt 64 c.barriers || nat_lt 64 c.threads

-- the counts of a file of the length that they ask for
unfoldable pub counts_at : List ℕ → Result Counts ImageFault
counts_at bytes =
    if nat_lt (length bytes) 12 then Err fault.Short
    else (if not (is_magic (take 4 bytes)) then Err fault.Magic
    else (if is_too_many (counts_in bytes) then Err fault.Count
    else (if nat_lt (length bytes) (file_end (counts_in bytes)) then Err fault.Short
    else (if nat_lt (file_end (counts_in bytes)) (length bytes) then Err fault.Extra
    else Ok (counts_in bytes)))))

-- the entry with this number of a list that begins at a place of the file
abbrev pub phaser_entry : ℕ → ℕ → List ℕ → Result DeclaredPhaser ImageFault
phaser_entry start k bytes = phaser_at (start + 12 * k) bytes

abbrev pub barrier_entry : ℕ → ℕ → List ℕ → Result DeclaredBarrier ImageFault
barrier_entry start k bytes = barrier_at (start + 8 * k) bytes

abbrev pub thread_entry : ℕ → ℕ → List ℕ → Result DeclaredThread ImageFault
thread_entry start k bytes = thread_at (start + 4 * k) bytes

-- the rows of an image that says whether one of them has a timeout; if it says so, one has
abbrev pub version_at : Bool → List Row → Result (List Row) ImageFault
version_at timed rows = if timed && not (has_timed_row rows) then Err fault.Version else Ok rows

-- the rows, as many as there are
unfoldable pub rows_at : Bool → ℕ → List ℕ → Result (List Row) ImageFault
rows_at timed count bytes = entries 8 (row_at timed) 0 count bytes >>= version_at timed

-- the lists after the counts
unfoldable pub lists_at : Counts → List ℕ → Result Image ImageFault
lists_at c bytes = do
  phasers ← entries 12 (phaser_entry 12) 0 c.phasers (drop 12 bytes)
  barriers ← entries 8 (barrier_entry (barriers_start c)) 0 c.barriers (drop (barriers_start c) bytes)
  threads ← entries 4 (thread_entry (threads_start c)) 0 c.threads (drop (threads_start c) bytes)
  rows ← rows_at (says_timed bytes) c.rows (drop (rows_start c) bytes)
  Ok (record { phasers = phasers; barriers = barriers; threads = threads; rows = rows })

-- all of the bytes
unfoldable pub image_of : List ℕ → Result Image ImageFault
image_of bytes = counts_at bytes >>= (λ c. lists_at c bytes)
