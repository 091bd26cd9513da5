-- The room that a session makes for a reply before it carries out the command.
use Rattle.std.specs.Prelude.{◌≡◌, ◌<◌, ℕ, Bool, true, false, List, length}

-- a reply of so many bytes is never lost
abbrev pub reply_room : ℕ
reply_room = 192

-- all bytes that came were kept; or not, and they are more than there is room for
abbrev pub HasKept : (is_whole : Bool) (kept came : List ℕ) → Type 0
HasKept true kept came = kept ≡ came
HasKept false kept came = reply_room < length came
