-- What is held of a source's lines, and a line of it.
use Rattle.std.proofs.Common.{◌≡◌, ◌∙◌, ◌+◌, ◌<◌, ◌≤◌, ℕ, false, List, [], ◌∷◌, ◌++◌, length, take, drop, get_or, ap, refl, sym, subst, append_assoc, take-append-drop, arith, Option, ne_eqb, take_all, take-take}
use Rattle.std.proofs.{KnownBytes.prepend_known-read, Math.Seq.take-add, lemmas.List.take-append-le, lemmas.List.drop_more}
use Rattle.std.proofs.lemmas.List.Elements.{All-push, All-take}
use Rattle.std.specs.Io.KnownBytes.{Consumes, Keeps, prepend_known}
use Rattle.byte_ports.specs.SourceLines.{EndsInAPiece, IsOneLine, is_lf}

-- a byte more of one line
pub one-more : (bytes : List ℕ) (n m : ℕ) → m ≡ n + 1 → IsOneLine (take n bytes) → n < length bytes → (get_or bytes n 0 ≡ 10 → ⊥)
    → IsOneLine (take m bytes)
one-more bytes n m is one there other =
    subst IsOneLine (sym (ap (λ k. take k bytes) is ∙ take-add n 1 bytes ∙ ap (λ l. take n bytes ++ l) (ap (take 1) (drop_more bytes n 0 there))))
    (All-push (λ b. is_lf b ≡ false) (take n bytes) (get_or bytes n 0) one (ne_eqb (get_or bytes n 0) 10 other))

-- three bytes more
pub three-more : (bytes : List ℕ) (n : ℕ) → IsOneLine (take n bytes) → n + 2 < length bytes → (get_or bytes n 0 ≡ 10 → ⊥)
    → (get_or bytes (n + 1) 0 ≡ 10 → ⊥) → (get_or bytes (n + 2) 0 ≡ 10 → ⊥)
    → IsOneLine (take (n + 3) bytes)
three-more bytes n one there first second third =
    one-more bytes (n + 2) (n + 3) (omega arith)
    (one-more bytes (n + 1) (n + 2) (omega arith)
    (one-more bytes n (n + 1) refl one (omega (arith, there)) first) (omega (arith, there)) second)
    there third

-- the beginning of it
pub less-line : (m n : ℕ) (bytes : List ℕ) → m ≤ n → IsOneLine (take n bytes) → IsOneLine (take m bytes)
less-line m n bytes few one =
    subst IsOneLine (take-take m n bytes few) (All-take (λ b. is_lf b ≡ false) m (take n bytes) one)

-- more bytes are held
pub more-held : (a b : Option (List ℕ)) (held got new : List ℕ) → Consumes a b got → new ≡ held ++ got
    → Keeps (prepend_known held a) (prepend_known new b)
more-held a b held got new given is = grind (arith, append_assoc)

-- some of them are taken
pub taken-held : (a b : Option (List ℕ)) (first held line rest : List ℕ) → Keeps (prepend_known first a) (prepend_known held b)
    → held ≡ line ++ rest → Consumes (prepend_known first a) (prepend_known rest b) line
taken-held a b first held line rest same is =
    (prepend_known-read (prepend_known first a) b held rest line ⊥ same is (λ no. absurd no)).0

pub front-held : (held line rest : List ℕ) (n : ℕ) → line ≡ take n held → rest ≡ drop n held → held ≡ line ++ rest
front-held held line rest n front behind = grind (arith, take-append-drop)

-- a line and its LF
pub line-held : (bytes held line rest : List ℕ) (n : ℕ) → bytes ≡ held → n < length bytes → get_or bytes n 0 ≡ 10
    → line ≡ take n held → rest ≡ drop (n + 1) held → held ≡ (line ++ 10 ∷ []) ++ rest
line-held bytes held line rest n same there is front behind = grind (arith, take-append-drop, drop_more, append_assoc)

-- a piece more, behind bytes of one line
pub one-still : (held bytes got new : List ℕ) (n : ℕ) → bytes ≡ held → n ≤ length bytes → length bytes ≤ n → new ≡ held ++ got
    → IsOneLine (take n bytes) → IsOneLine (take n new)
one-still held bytes got new n same within all is one = grind (arith, take-append-le)

pub piece-behind : (held bytes got new : List ℕ) (n : ℕ) → bytes ≡ held → length bytes ≤ n → new ≡ held ++ got
    → IsOneLine (take n bytes) → length got ≤ 16384 → EndsInAPiece new
piece-behind held bytes got new n same all is one few = grind (arith, take_all)
