-- Reading entries one after the other, as a loop does.
use Rattle.std.proofs.Common.{◌≡◌, Bool, ℕ, suc, ◌-◌, ◌+◌, ◌*◌, ◌≤◌, ◌<◌, List, [], ◌∷◌, ◌++◌, take, drop, Result, Ok, Err, append_assoc, arith, append-nil}
use Rattle.row_code.specs.{declared.image_fault.ImageFault.ImageFault, Answers.◌>>=◌, Answers.FailsAs, Reading.entries}

-- what was read before, and what is still read
abbrev pub with_front : {E : Type 0} → List E → Result (List E) ImageFault → Result (List E) ImageFault
with_front front read = read >>= λ es. Ok (front ++ es)

-- one entry more was read
pub goes_on : {E : Type 0} (size : ℕ) (read : ℕ → List ℕ → Result E ImageFault) (front : List E) (count i : ℕ) (bytes : List ℕ) (e : E)
    (total : Result (List E) ImageFault) → i < count → read i (take size bytes) ≡ Ok e →
    with_front front (entries size read i (count - i) bytes) ≡ total →
    with_front (front ++ e ∷ []) (entries size read (i + 1) (count - (i + 1)) (drop size bytes)) ≡ total
unfolding entries
goes_on size read front count i bytes e total lt h so_far =
    let k : count - i ≡ suc (count - (i + 1)) = omega arith in
    grind (arith, append_assoc)

-- an entry that is none is the first fault
pub ends : {E : Type 0} (size : ℕ) (read : ℕ → List ℕ → Result E ImageFault) (front : List E) (count i : ℕ) (bytes : List ℕ) (f : ImageFault)
    (total : Result (List E) ImageFault) → i < count → read i (take size bytes) ≡ Err f →
    with_front front (entries size read i (count - i) bytes) ≡ total → total ≡ Err f
unfolding entries
ends size read front count i bytes f total lt h so_far = grind arith

-- no entry is left
pub is_done : {E : Type 0} (size : ℕ) (read : ℕ → List ℕ → Result E ImageFault) (front : List E) (count i : ℕ) (bytes : List ℕ)
    (total : Result (List E) ImageFault) → count ≤ i → with_front front (entries size read i (count - i) bytes) ≡ total → total ≡ Ok front
unfolding entries
is_done size read front count i bytes total le so_far = grind (arith, append-nil)

-- the bytes behind an entry suffice for the others
pub fewer_left : (size count i long behind : ℕ) → i < count → behind + size ≡ long → size * (count - i) ≤ long → size * (count - (i + 1)) ≤ behind
fewer_left size count i long behind lt split fits = grind arith

-- what is read fails as the fault that was found
pub fails : {Y E : Type 0} (is_memory : E → Bool) (f : E) (read : Result Y E) → read ≡ Err f → FailsAs is_memory f read
fails is_memory f read e = grind arith
