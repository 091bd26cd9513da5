-- Lists of entries: what is read is spelled so, and what is spelled so is read.
use Rattle.std.proofs.Common.{◌≡◌, ℕ, zero, suc, ◌+◌, ◌*◌, ◌≤◌, List, [], ◌∷◌, ◌++◌, length, take, drop, All, Result, Ok, refl, sym, ap, subst, ◌∙◌, append_assoc, arith, take_at, drop_at, take-append-drop, drop-drop, length-take, length-drop, length-append}
use Rattle.std.proofs.lemmas.List.Elements.{recursion_from_All}
use Rattle.std.specs.List.{flat_map, AllByRecursion}
use Rattle.row_code.specs.{declared.image_fault.ImageFault.ImageFault, Answers.◌>>=◌, Reading.entries}
use Rattle.row_code.proofs.{Cells.IsBytes, Cells.IsBytes-drop, Cells.IsBytes-take, EntryLaws.bind_ok, EntryLaws.ok_is}

-- entries of one size, each spelled in one way
pub record IsFormat {E : Type 0} (size : ℕ) (spell : E → List ℕ) (Fits : E → Type 0) (read : ℕ → List ℕ → Result E ImageFault) : Type 0 where
  pub len : (e : E) → length (spell e) ≡ size
  pub takes : (k : ℕ) (bytes : List ℕ) (e : E) → IsBytes bytes → length bytes ≡ size → read k bytes ≡ Ok e → bytes ≡ spell e
  pub again : (k : ℕ) (e : E) → Fits e → read k (spell e) ≡ Ok e

pub entries_take : {E : Type 0} (size : ℕ) (spell : E → List ℕ) (Fits : E → Type 0) (read : ℕ → List ℕ → Result E ImageFault) → IsFormat size spell Fits read →
    (k n : ℕ) (bytes : List ℕ) (es : List E) → IsBytes bytes → size * n ≤ length bytes → entries size read k n bytes ≡ Ok es →
    (bytes ≡ flat_map spell es ++ drop (size * n) bytes) × (length es ≡ n)
unfolding entries
entries_take {E} size spell Fits read format k zero bytes es fits long e = grind (arith, ok_is)
entries_take {E} size spell Fits read format k (suc n) bytes es fits long e =
    let a = bind_ok (read k (take size bytes)) (λ first. entries size read (k + 1) n (drop size bytes) >>= λ others. Ok (first ∷ others)) es e in
    let b = bind_ok (entries size read (k + 1) n (drop size bytes)) (λ others. Ok (a.0 ∷ others)) es a.2 in
    let more : size * suc n ≡ size + size * n = omega arith in
    let first : take size bytes ≡ spell a.0 =
    format.takes k (take size bytes) a.0 (IsBytes-take size bytes fits) (omega (arith, length-take size bytes, more)) a.1 in
    let others = entries_take size spell Fits read format (k + 1) n (drop size bytes) b.0 (IsBytes-drop size bytes fits) (omega (arith, length-drop size bytes, more)) b.1 in
    let rest : drop (size * n) (drop size bytes) ≡ drop (size * suc n) bytes = drop-drop (size * n) size bytes ∙ ap (λ (m : ℕ). drop m bytes) (sym more) in
    let back : drop size bytes ≡ flat_map spell b.0 ++ drop (size * suc n) bytes = others.0 ∙ ap (λ (r : List ℕ). flat_map spell b.0 ++ r) rest in
    let whole : bytes ≡ flat_map spell (a.0 ∷ b.0) ++ drop (size * suc n) bytes =
    sym (take-append-drop size bytes) ∙ ap (λ (r : List ℕ). r ++ drop size bytes) first ∙ ap (λ (r : List ℕ). spell a.0 ++ r) back
    ∙ sym (append_assoc (spell a.0) (flat_map spell b.0) (drop (size * suc n) bytes)) in
    subst (λ (all : List E). (bytes ≡ flat_map spell all ++ drop (size * suc n) bytes) × (length all ≡ suc n)) (ok_is (a.0 ∷ b.0) es b.2) (whole, ap suc others.1)

-- what each entry that is read has, all that are read have
pub entries_have : {E : Type 0} (size : ℕ) (Has : E → Type 0) (read : ℕ → List ℕ → Result E ImageFault) → ((k : ℕ) (bytes : List ℕ) (e : E) → read k bytes ≡ Ok e → Has e) →
    (k n : ℕ) (bytes : List ℕ) (es : List E) → entries size read k n bytes ≡ Ok es → AllByRecursion Has es
unfolding entries
entries_have {E} size Has read each k zero bytes es e =
    let nil : List E = [] in
    subst (AllByRecursion Has) (ok_is nil es e) tt
entries_have size Has read each k (suc n) bytes es e =
    let a = bind_ok (read k (take size bytes)) (λ first. entries size read (k + 1) n (drop size bytes) >>= λ others. Ok (first ∷ others)) es e in
    let b = bind_ok (entries size read (k + 1) n (drop size bytes)) (λ others. Ok (a.0 ∷ others)) es a.2 in
    subst (AllByRecursion Has) (ok_is (a.0 ∷ b.0) es b.2)
    (each k (take size bytes) a.0 a.1, entries_have size Has read each (k + 1) n (drop size bytes) b.0 b.1)

again_by : {E : Type 0} (size : ℕ) (spell : E → List ℕ) (Fits : E → Type 0) (read : ℕ → List ℕ → Result E ImageFault) → IsFormat size spell Fits read →
    (k : ℕ) (es : List E) (rest : List ℕ) → AllByRecursion Fits es → entries size read k (length es) (flat_map spell es ++ rest) ≡ Ok es
unfolding entries
again_by size spell Fits read format k [] rest fits = refl
again_by size spell Fits read format k (e ∷ es) rest fits =
    grind (arith, append_assoc, take_at, drop_at, again_by size spell Fits read format (k + 1) es rest fits.1)

pub entries_again : {E : Type 0} (size : ℕ) (spell : E → List ℕ) (Fits : E → Type 0) (read : ℕ → List ℕ → Result E ImageFault) → IsFormat size spell Fits read →
    (k : ℕ) (es : List E) (rest : List ℕ) → All Fits es → entries size read k (length es) (flat_map spell es ++ rest) ≡ Ok es
entries_again size spell Fits read format k es rest fits = again_by size spell Fits read format k es rest (recursion_from_All Fits es fits)

-- so many entries of one size
pub length-entries : {E : Type 0} (size : ℕ) (spell : E → List ℕ) → ((e : E) → length (spell e) ≡ size) → (es : List E) → length (flat_map spell es) ≡ size * length es
length-entries size spell len [] = omega arith
length-entries size spell len (e ∷ es) = omega (arith, length-append (spell e) (flat_map spell es), len e, length-entries size spell len es)
