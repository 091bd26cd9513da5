-- An image that is read is spelled by its file, and what an image's file says is that image.
use Rattle.std.proofs.Common.{◌≡◌, ℕ, ◌+◌, ◌*◌, ◌<◌, ◌≤◌, Bool, true, false, cond, not, ◌&&◌, All, List, [], ◌∷◌, ◌++◌, length, get_or, take, drop, Result, Ok, Err, IfOk, refl, sym, ap, subst, ◌∙◌, arith, append-nil, drop_at, drop-drop, take-append-drop, length-drop, length-append}
use Rattle.std.proofs.lemmas.List.{Folds.list_any_at, drop_all}
use Rattle.std.specs.List.{flat_map, AllByRecursion}
use Rattle.instruction_table.specs.{declared.row.Row.Row, Row.is_timed_row}
use Rattle.row_code.specs.declared.{image.Counts.Counts, image.Image.Image, image_fault.ImageFault.ImageFault}
use Rattle.row_code.specs.{RowFields.IsRow, RowBytes.bytes_of, Phasers.IsPhaser, Phasers.phaser_bytes, Rows.has_timed_row}
use Rattle.row_code.specs.{Barriers.IsBarrier, Barriers.barrier_bytes, Threads.IsThread, Threads.thread_bytes, Answers.Answers}
use Rattle.row_code.specs.Image.{IsImage, magic, counts_of, count_bytes, image_bytes}
use Rattle.row_code.specs.Reading.{is_memory, is_magic, says_timed, row_at, version_at, rows_at, phaser_entry, barrier_entry, thread_entry, entries, counts_in, is_too_many, counts_at, barriers_start, threads_start, rows_start, file_end, lists_at, image_of}
use Rattle.row_code.specs.declared.image_fault.ImageFault.TheVariants as fault
use Rattle.row_code.proofs.Cells.{IsBytes, IsBytes-drop, u16_back}
use Rattle.row_code.proofs.EntryLaws.{bind_ok, ok_is, phaser_again, phaser_takes, barrier_again, barrier_takes, thread_again, thread_takes, MayStand, row_again, row_takes, row_may_stand}
use Rattle.row_code.proofs.ListLaws.{IsFormat, entries_take, entries_have, entries_again, length-entries}

-- a test that did not end the reading
passed : {A : Type 0} (b : Bool) (f : ImageFault) (read : Result A ImageFault) (x : A) → cond b (Err f) read ≡ Ok x → (b ≡ false) × (read ≡ Ok x)
passed true f read x e = absurd (cc)
passed false f read x e = (refl, e)

not_false : (b : Bool) → not b ≡ false → b ≡ true
not_false true e = refl
not_false false e = absurd (cc)

phaser_format : (start : ℕ) → IsFormat 12 phaser_bytes IsPhaser (phaser_entry start)
phaser_format start = grind (arith, phaser_takes, phaser_again)

barrier_format : (start : ℕ) → IsFormat 8 barrier_bytes IsBarrier (barrier_entry start)
barrier_format start = grind (arith, barrier_takes, barrier_again)

thread_format : (start : ℕ) → IsFormat 4 thread_bytes IsThread (thread_entry start)
thread_format start = grind (arith, thread_takes, thread_again)

row_format : (timed : Bool) → IsFormat 8 bytes_of (λ row. IsRow row × MayStand timed row) (row_at timed)
row_format timed = record { len = λ row. refl; takes = row_takes timed; again = row_again timed }

-- ---- the rows and the magic

none_timed : (row : Row) → MayStand false row → is_timed_row row ≡ false
none_timed row may = grind arith

none_in : (rs : List Row) → AllByRecursion (MayStand false) rs → has_timed_row rs ≡ false
none_in [] all = refl
none_in (r ∷ rs) all = rw (none_timed r all.0) (none_in rs all.1)

version_is : (t : Bool) (rs : List Row) → AllByRecursion (MayStand t) rs → (t && not (has_timed_row rs)) ≡ false → has_timed_row rs ≡ t
version_is true rs all e = not_false (has_timed_row rs) e
version_is false rs all e = none_in rs all

-- the rows that are read are those that the magic speaks of
rows_take : (timed : Bool) (count : ℕ) (bytes : List ℕ) (rows : List Row) → rows_at timed count bytes ≡ Ok rows →
    (entries 8 (row_at timed) 0 count bytes ≡ Ok rows) × (has_timed_row rows ≡ timed)
unfolding rows_at
rows_take timed count bytes rows e =
    let a = bind_ok (entries 8 (row_at timed) 0 count bytes) (version_at timed) rows e in
    let b = passed (timed && not (has_timed_row a.0)) fault.Version (Ok a.0) rows a.2 in
    let is : a.0 ≡ rows = ok_is a.0 rows b.1 in
    let all : AllByRecursion (MayStand timed) a.0 = entries_have 8 (MayStand timed) (row_at timed) (row_may_stand timed) 0 count bytes a.0 a.1 in
    subst (λ (rs : List Row). (entries 8 (row_at timed) 0 count bytes ≡ Ok rs) × (has_timed_row rs ≡ timed)) is (a.1, version_is timed a.0 all b.0)

-- and back
may_stand : (rows : List Row) (k : ℕ) (d : Row) → k < length rows → MayStand (has_timed_row rows) (get_or rows k d)
may_stand rows k d within = grind (arith, list_any_at)

rows_again : (rows : List Row) → All IsRow rows → rows_at (has_timed_row rows) (length rows) (flat_map bytes_of rows) ≡ Ok rows
unfolding rows_at
rows_again rows fits =
    let timed = has_timed_row rows in
    let all : All (λ row. IsRow row × MayStand timed row) rows = λ k d within. (fits k d within, may_stand rows k d within) in
    let read : entries 8 (row_at timed) 0 (length rows) (flat_map bytes_of rows ++ []) ≡ Ok rows =
    entries_again 8 bytes_of (λ row. IsRow row × MayStand timed row) (row_at timed) (row_format timed) 0 rows [] all in
    grind (arith, append-nil)

-- ---- the head

pub record IsHead (bytes : List ℕ) (c : Counts) : Type 0 where
  pub long : 12 ≤ length bytes
  pub magic_is : take 4 bytes ≡ magic (says_timed bytes)
  pub counts : counts_in bytes ≡ c
  pub size : length bytes ≡ file_end c

-- the first four bytes are the magic that says what they say
head_takes : (bytes : List ℕ) (c : Counts) → counts_at bytes ≡ Ok c → IsHead bytes c
unfolding counts_at
head_takes bytes c e = grind arith

-- the first twelve bytes are the magic and the counts
head_spelled : (bytes : List ℕ) (c : Counts) → IsBytes bytes → IsHead bytes c → take 12 bytes ≡ magic (says_timed bytes) ++ count_bytes c
head_spelled bytes c fits h = grind arith

-- a list, the list behind it, and what is behind both
list_takes : {E : Type 0} (size : ℕ) (spell : E → List ℕ) (Fits : E → Type 0) (read : ℕ → List ℕ → Result E ImageFault) → IsFormat size spell Fits read →
    (n start : ℕ) (bytes : List ℕ) (es : List E) → IsBytes bytes → start + size * n ≤ length bytes → entries size read 0 n (drop start bytes) ≡ Ok es →
    (drop start bytes ≡ flat_map spell es ++ drop (start + size * n) bytes) × (length es ≡ n)
list_takes size spell Fits read format n start bytes es fits long e =
    let taken = entries_take size spell Fits read format 0 n (drop start bytes) es (IsBytes-drop start bytes fits) (omega (arith, length-drop start bytes, long)) e in
    (taken.0 ∙ ap (λ (r : List ℕ). flat_map spell es ++ r) (drop-drop (size * n) start bytes), taken.1)

pub image_takes : (bytes : List ℕ) (i : Image) → IsBytes bytes → image_of bytes ≡ Ok i → bytes ≡ image_bytes i
unfolding image_of lists_at
image_takes bytes i fits e =
    let a = bind_ok (counts_at bytes) _ i e in
    let c = a.0 in
    let head = head_takes bytes c a.1 in
    let p = bind_ok (entries 12 (phaser_entry 12) 0 c.phasers (drop 12 bytes)) _ i a.2 in
    let b = bind_ok (entries 8 (barrier_entry (barriers_start c)) 0 c.barriers (drop (barriers_start c) bytes)) _ i p.2 in
    let t = bind_ok (entries 4 (thread_entry (threads_start c)) 0 c.threads (drop (threads_start c) bytes)) _ i b.2 in
    let timed = says_timed bytes in
    let r = bind_ok (rows_at timed c.rows (drop (rows_start c) bytes)) _ i t.2 in
    let version = rows_take timed c.rows (drop (rows_start c) bytes) r.0 r.1 in
    let phasers = list_takes 12 phaser_bytes IsPhaser (phaser_entry 12) (phaser_format 12) c.phasers 12 bytes p.0 fits (omega (arith, head.size)) p.1 in
    let barriers = list_takes 8 barrier_bytes IsBarrier (barrier_entry (barriers_start c)) (barrier_format (barriers_start c)) c.barriers (barriers_start c) bytes b.0 fits (omega (arith, head.size)) b.1 in
    let threads = list_takes 4 thread_bytes IsThread (thread_entry (threads_start c)) (thread_format (threads_start c)) c.threads (threads_start c) bytes t.0 fits (omega (arith, head.size)) t.1 in
    let rows = list_takes 8 bytes_of (λ row. IsRow row × MayStand timed row) (row_at timed) (row_format timed) c.rows (rows_start c) bytes r.0 fits (omega (arith, head.size)) version.0 in
    let end : drop (file_end c) bytes ≡ [] = drop_all (file_end c) bytes (omega (arith, head.size)) in
    let counts : c ≡ record { phasers = length p.0; barriers = length b.0; threads = length t.0; rows = length r.0 } =
    (λ k. record { phasers = sym phasers.1 k; barriers = sym barriers.1 k; threads = sym threads.1 k; rows = sym rows.1 k }) in
    let made : Image = record { phasers = p.0; barriers = b.0; threads = t.0; rows = r.0 } in
    let whole : bytes ≡ image_bytes made =
    sym (take-append-drop 12 bytes)
    ∙ ap (λ (x : List ℕ). x ++ drop 12 bytes) (head_spelled bytes c fits head ∙ (λ k. magic (sym version.1 k) ++ count_bytes (counts k)))
    ∙ ap (λ (x : List ℕ). (magic (has_timed_row r.0) ++ count_bytes (counts_of made)) ++ x)
    (phasers.0 ∙ ap (λ (x : List ℕ). flat_map phaser_bytes p.0 ++ x)
    (barriers.0 ∙ ap (λ (x : List ℕ). flat_map barrier_bytes b.0 ++ x)
    (threads.0 ∙ ap (λ (x : List ℕ). flat_map thread_bytes t.0 ++ x)
    (rows.0 ∙ ap (λ (x : List ℕ). flat_map bytes_of r.0 ++ x) end ∙ append-nil (flat_map bytes_of r.0))))) in
    subst (λ (j : Image). bytes ≡ image_bytes j) (ok_is made i r.2) whole

-- ---- and back

head_again : (bytes : List ℕ) (c : Counts) → 12 ≤ length bytes → is_magic (take 4 bytes) ≡ true → counts_in bytes ≡ c →
    is_too_many c ≡ false → length bytes ≡ file_end c → counts_at bytes ≡ Ok c
unfolding counts_at
head_again bytes c long begins counts few size = grind arith

parts_again : (bytes : List ℕ) (i : Image) (c : Counts) → counts_at bytes ≡ Ok c →
    entries 12 (phaser_entry 12) 0 c.phasers (drop 12 bytes) ≡ Ok i.phasers →
    entries 8 (barrier_entry (barriers_start c)) 0 c.barriers (drop (barriers_start c) bytes) ≡ Ok i.barriers →
    entries 4 (thread_entry (threads_start c)) 0 c.threads (drop (threads_start c) bytes) ≡ Ok i.threads →
    rows_at (says_timed bytes) c.rows (drop (rows_start c) bytes) ≡ Ok i.rows → image_of bytes ≡ Ok i
unfolding image_of lists_at
parts_again bytes i c e0 e1 e2 e3 e4 = rw (e0, e1, e2, e3, e4) refl

few_enough : (c : Counts) → c.phasers ≤ 64 → c.barriers ≤ 64 → c.threads ≤ 64 → is_too_many c ≡ false
few_enough c p b t = grind arith

-- what is behind a list
behind : {E : Type 0} (size : ℕ) (spell : E → List ℕ) → ((e : E) → length (spell e) ≡ size) → (start : ℕ) (bytes : List ℕ) (es : List E) (rest : List ℕ) →
    drop start bytes ≡ flat_map spell es ++ rest → drop (start + size * length es) bytes ≡ rest
behind size spell len start bytes es rest e =
    sym (drop-drop (size * length es) start bytes) ∙ ap (drop (size * length es)) e
    ∙ drop_at (flat_map spell es) rest (size * length es) (length-entries size spell len es)

-- counts of two bytes each
record AreSmall (c : Counts) : Type 0 where
  phasers : c.phasers < 65536
  barriers : c.barriers < 65536
  threads : c.threads < 65536
  rows : c.rows < 65536

-- what bytes begin with, read again
record IsHeadOf (timed : Bool) (c : Counts) (bytes : List ℕ) (rest : List ℕ) : Type 0 where
  begins : is_magic (take 4 bytes) ≡ true
  said : says_timed bytes ≡ timed
  counts : counts_in bytes ≡ c
  lists : drop 12 bytes ≡ rest

length-head : (timed : Bool) (c : Counts) → length (magic timed ++ count_bytes c) ≡ 12
length-head true c = refl
length-head false c = refl

head_back : (timed : Bool) (c : Counts) (rest : List ℕ) → AreSmall c → IsHeadOf timed c ((magic timed ++ count_bytes c) ++ rest) rest
head_back true c rest small = grind (arith, u16_back)
head_back false c rest small = grind (arith, u16_back)

pub image_again : (i : Image) → IsImage i → image_of (image_bytes i) ≡ Ok i
image_again i h =
    let bytes = image_bytes i in
    let c = counts_of i in
    let timed = has_timed_row i.rows in
    let ps = flat_map phaser_bytes i.phasers in
    let bs = flat_map barrier_bytes i.barriers in
    let ts = flat_map thread_bytes i.threads in
    let rs = flat_map bytes_of i.rows in
    let size : length bytes ≡ file_end c =
    omega (
      arith,
      length-append (magic timed ++ count_bytes c) (ps ++ (bs ++ (ts ++ rs))),
      length-head timed c,
      length-append ps (bs ++ (ts ++ rs)),
      length-append bs (ts ++ rs),
      length-append ts rs,
      length-entries 12 phaser_bytes (λ p. refl) i.phasers,
      length-entries 8 barrier_bytes (λ b. refl) i.barriers,
      length-entries 4 thread_bytes (λ t. refl) i.threads,
      length-entries 8 bytes_of (λ r. refl) i.rows,
    ) in
    let small : AreSmall c = record {
      phasers = omega (arith, h.phasers.0);
      barriers = omega (arith, h.barriers.0);
      threads = omega (arith, h.threads.0);
      rows = omega (arith, h.rows.0);
    } in
    let head : IsHeadOf timed c bytes (ps ++ (bs ++ (ts ++ rs))) = head_back timed c (ps ++ (bs ++ (ts ++ rs))) small in
    let said : says_timed bytes ≡ timed = head.said in
    let e0 = head_again bytes c (omega (arith, size)) head.begins head.counts (few_enough c h.phasers.0 h.barriers.0 h.threads.0) size in
    let d1 : drop 12 bytes ≡ ps ++ (bs ++ (ts ++ rs)) = head.lists in
    let d2 = behind 12 phaser_bytes (λ p. refl) 12 bytes i.phasers (bs ++ (ts ++ rs)) d1 in
    let d3 = behind 8 barrier_bytes (λ b. refl) (barriers_start c) bytes i.barriers (ts ++ rs) d2 in
    let d4 = behind 4 thread_bytes (λ t. refl) (threads_start c) bytes i.threads rs d3 in
    let e1 = entries_again 12 phaser_bytes IsPhaser (phaser_entry 12) (phaser_format 12) 0 i.phasers (bs ++ (ts ++ rs)) h.phasers.1 in
    let e2 = entries_again 8 barrier_bytes IsBarrier (barrier_entry (barriers_start c)) (barrier_format (barriers_start c)) 0 i.barriers (ts ++ rs) h.barriers.1 in
    let e3 = entries_again 4 thread_bytes IsThread (thread_entry (threads_start c)) (thread_format (threads_start c)) 0 i.threads rs h.threads.1 in
    let e4 : rows_at (says_timed bytes) c.rows rs ≡ Ok i.rows = ap (λ (t : Bool). rows_at t c.rows rs) said ∙ rows_again i.rows h.rows.1 in
    parts_again bytes i c e0 (ap (entries 12 (phaser_entry 12) 0 c.phasers) d1 ∙ e1)
    (ap (entries 8 (barrier_entry (barriers_start c)) 0 c.barriers) d2 ∙ e2)
    (ap (entries 4 (thread_entry (threads_start c)) 0 c.threads) d3 ∙ e3)
    (ap (rows_at (says_timed bytes) c.rows) d4 ∙ e4)

-- an image that was answered is the one that the bytes spell
pub is_found : (bytes : List ℕ) (r : Result Image ImageFault) → IsBytes bytes → IfOk r (λ i. IsImage i) → Answers is_memory (λ read. read) r (image_of bytes) →
    IfOk r (λ i. IsImage i × (bytes ≡ image_bytes i))
is_found bytes r fits within given = grind (arith, image_takes)

-- what was answered of an image's bytes is that image
pub is_only : (bytes : List ℕ) (r : Result Image ImageFault) → Answers is_memory (λ read. read) r (image_of bytes) →
    (i : Image) → IsImage i → bytes ≡ image_bytes i → Answers is_memory (λ read. read) r (Ok i)
is_only bytes r given i fits spelled = grind (arith, image_again)
