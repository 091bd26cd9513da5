-- Names by the numbers of their threads.
use Rattle.std.proofs.Common.{◌≡◌, ℕ, List, map, option_map, slice_get}
use Rattle.std.proofs.lemmas.Option.{slice_get-map}
use Rattle.std.specs.Borrow.{Bor}
use Rattle.line_reader.specs.Seen.{name_seen}

-- the name of a thread, by the bytes that it borrows
pub name_at : (names : List (Bor (List ℕ))) (thread : ℕ)
    → slice_get (map name_seen names) thread ≡ option_map name_seen (slice_get names thread)
name_at names thread = slice_get-map name_seen names thread
