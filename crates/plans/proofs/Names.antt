-- The place of a name.
use Rattle.std.proofs.Common.{◌≡◌, ◌+◌, ℕ, List, [], ◌∷◌, length, map, ap, refl, bytes_eq, arith, not, cond, position}
use Rattle.std.specs.List.{position_or_len}
use Rattle.line_reader.specs.Seen.{Borrowed, name_seen}

same_place : (name : List ℕ) (names : List Borrowed)
    → position_or_len (λ (one : Borrowed). bytes_eq one.now name) names ≡ position_or_len (λ one. bytes_eq one name) (map name_seen names)
same_place name [] = refl
same_place name (one ∷ names) = ap (λ n. cond (not (bytes_eq one.now name)) (1 + n) 0) (same_place name names)

same_length : (names : List Borrowed) → length names ≡ length (map name_seen names)
same_length [] = refl
same_length (one ∷ names) = cc (same_length names)

-- a borrowed name stands where its bytes stand
pub same_position : (name : List ℕ) (names : List Borrowed)
    → position (λ (one : Borrowed). bytes_eq one.now name) names ≡ position (λ one. bytes_eq one name) (map name_seen names)
same_position name names = grind (arith, same_place, same_length)
