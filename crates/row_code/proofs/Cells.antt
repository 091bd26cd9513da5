-- Numbers in bytes, and lists of so many bytes.
use Rattle.std.proofs.Common.{◌≡◌, ℕ, ◌+◌, ◌<◌, List, [], ◌∷◌, length, All, get_or, take, drop, refl, arith, get_or-drop, get_or-take, length-take}
use Rattle.std.proofs.lemmas.{Nat.from_le_bytes-to_le_bytes_2, List.get_or_past, Bool.cases_lt}
use Rattle.row_code.specs.Number.{u16_bytes, u16_of, i32_bytes, i32_of}

abbrev pub IsBytes : List ℕ → Type 0
IsBytes bytes = (i : ℕ) → get_or bytes i 0 < 256

pub IsBytes-from_All : (bytes : List ℕ) → All (λ byte. byte < 256) bytes → IsBytes bytes
IsBytes-from_All bytes each i = grind (arith, cases_lt, get_or_past)

pub IsBytes-drop : (n : ℕ) (bytes : List ℕ) → IsBytes bytes → IsBytes (drop n bytes)
IsBytes-drop n bytes h i = rw get_or-drop (h (n + i))

pub IsBytes-take : (n : ℕ) (bytes : List ℕ) → IsBytes bytes → IsBytes (take n bytes)
IsBytes-take n bytes h i = grind (arith, cases_lt, get_or-take, get_or_past, length-take)

-- two bytes are those of their number
pub u16_back : (n : ℕ) → n < 65536 → u16_of (u16_bytes n) ≡ n
u16_back n lt = from_le_bytes-to_le_bytes_2 n lt

-- four bytes are those of their `int`
pub i32_cells : (a b c d : ℕ) → a < 256 → b < 256 → c < 256 → d < 256 → i32_bytes (i32_of (a ∷ b ∷ c ∷ d ∷ [])) ≡ a ∷ b ∷ c ∷ d ∷ []
i32_cells a b c d fa fb fc fd = grind arith

-- four bytes, one by one
pub of_four : (bytes : List ℕ) → length bytes ≡ 4 →
    bytes ≡ get_or bytes 0 0 ∷ get_or bytes 1 0 ∷ get_or bytes 2 0 ∷ get_or bytes 3 0 ∷ []
of_four (_ ∷ _ ∷ _ ∷ _ ∷ []) e = refl
of_four _ e = absurd (cc)

-- eight bytes, one by one
pub of_eight : (bytes : List ℕ) → length bytes ≡ 8 →
    bytes ≡ get_or bytes 0 0 ∷ get_or bytes 1 0 ∷ get_or bytes 2 0 ∷ get_or bytes 3 0 ∷ get_or bytes 4 0 ∷ get_or bytes 5 0 ∷ get_or bytes 6 0 ∷ get_or bytes 7 0 ∷ []
of_eight (_ ∷ _ ∷ _ ∷ _ ∷ _ ∷ _ ∷ _ ∷ _ ∷ []) e = refl
of_eight _ e = absurd (cc)

-- twelve bytes, one by one
pub of_twelve : (bytes : List ℕ) → length bytes ≡ 12 →
    bytes ≡ get_or bytes 0 0 ∷ get_or bytes 1 0 ∷ get_or bytes 2 0 ∷ get_or bytes 3 0 ∷ get_or bytes 4 0 ∷ get_or bytes 5 0 ∷ get_or bytes 6 0 ∷ get_or bytes 7 0 ∷ get_or bytes 8 0 ∷ get_or bytes 9 0 ∷ get_or bytes 10 0 ∷ get_or bytes 11 0 ∷ []
of_twelve (_ ∷ _ ∷ _ ∷ _ ∷ _ ∷ _ ∷ _ ∷ _ ∷ _ ∷ _ ∷ _ ∷ _ ∷ []) e = refl
of_twelve _ e = absurd (cc)
