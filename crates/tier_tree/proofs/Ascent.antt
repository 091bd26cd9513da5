-- A climb along a line.
use Rattle.std.proofs.Common.{inl, inr, ◌≡◌, ◌≢◌, ◌∙◌, ℕ, zero, suc, ◌+◌, ◌<◌, ◌≤◌, drop, ◌==◌, Bool, false, List, [], ◌∷◌, length, get_or, ap, refl, sym, subst, arith, rules, All, take, slice_set, get_or-set_same}
use Rattle.std.proofs.{lemmas.List.get_or_read, lemmas.List.drop_all, Math.Seq.drop-cons}
use Rattle.std.proofs.lemmas.List.Elements.{All-cons, All-nil, All-take, All-set}
use Rattle.packed_phaser.specs.Flat.{Flat, Arrival, Counts, Turns, ComesLate, IsUnregistered, arrive, view_of}
use Rattle.packed_phaser.specs.Word.{record_of}
use Rattle.tier_tree.specs.{declared.climb.Climb.Climb, Sound.IsForest, Ascent.IsOfPhase, Ascent.written}
use Rattle.tier_tree.specs.Forest.{PhaserState, phaser_at, flat_at, root_at, with_flat}
use Rattle.tier_tree.specs.Stored.{Stored, no_stored, stored_at, IsStored, ChangedOnly, phasers_of}
use Rattle.tier_tree.specs.Arrival.{Climbed, is_top, passed_on, climbed_by, climbed, arrival_by, arrival}
use Rattle.tier_tree.specs.declared.climb.Climb.TheVariants as climb
use Rattle.tier_tree.specs.declared.arrived.Arrived.TheVariants as arrived
use Rattle.tier_tree.proofs.{Changed.there_shown, Safe.linked, Safe.line_own, Safe.rest_of, Safe.root-parent}
use Rattle.tier_tree.proofs.Shown.{top_at, shown_at, flat_shown, root_shown, present-phase, present-ended}
use Rattle.tier_tree.proofs.Times.{IsAsLate, found, with_flat-late, passed_on-late}

-- all phasers of a line are in one tree
pub line_tree : (phasers : List PhaserState) → IsForest phasers → (line : List ℕ) (id : ℕ) → id < length phasers → (phaser_at phasers id).line ≡ line
    → All (λ (n : ℕ). root_at phasers n ≡ root_at phasers id) line
line_tree phasers sound [] id there is = let own = line_own phasers id sound there in absurd (cc (is, own.1))
line_tree phasers sound (first ∷ above) id there is =
    elim (linked phasers id sound there) as (λ _. All (λ (n : ℕ). root_at phasers n ≡ root_at phasers id) (first ∷ above)) [
      | inl top ↦
          subst (λ (l : List ℕ). All (λ (n : ℕ). root_at phasers n ≡ root_at phasers id) l) (sym top ∙ is)
          (All-cons (λ (n : ℕ). root_at phasers n ≡ root_at phasers id) id [] refl (All-nil (λ (n : ℕ). root_at phasers n ≡ root_at phasers id)))
      | inr child ↦
          let parent = child.0 in
          let below : parent < id = child.1 in
          let within : parent < length phasers = omega (arith, below, there) in
          let rest : (phaser_at phasers parent).line ≡ above = ap rest_of (sym child.2 ∙ is) in
          let same : root_at phasers id ≡ root_at phasers parent = root-parent phasers id parent sound within child.2 in
          let up = line_tree phasers sound above parent within rest in
          subst (λ (l : List ℕ). All (λ (n : ℕ). root_at phasers n ≡ root_at phasers id) l) (sym (ap (λ (l : List ℕ). id ∷ l) rest) ∙ sym child.2 ∙ is)
          (All-cons (λ (n : ℕ). root_at phasers n ≡ root_at phasers id) id above refl
          (subst (λ (r : ℕ). All (λ (n : ℕ). root_at phasers n ≡ r) above) (sym same) up))
    ]

-- the line that is read is in one tree
pub tree_read : (forest : List Stored) (id : ℕ) (s : Stored) (line : List ℕ) → line ≡ s.line → s ≡ get_or forest id s → IsStored forest
    → id < length forest → All (λ (n : ℕ). root_at (phasers_of forest) n ≡ root_at (phasers_of forest) id) line
tree_read forest id s line is read stored there =
    let same : line ≡ (phaser_at (phasers_of forest) id).line =
    is ∙ ap (λ (x : Stored). x.line) (get_or_read forest id s there read no_stored) ∙ sym (ap (λ (p : PhaserState). p.line) (shown_at forest id there)) in
    line_tree (phasers_of forest) stored.places line id (there_shown forest id there) (sym same)

-- and begins with the phaser
pub own_read : (forest : List Stored) (id : ℕ) (s : Stored) (line : List ℕ) → line ≡ s.line → s ≡ get_or forest id s → IsStored forest
    → id < length forest → get_or line 0 0 ≡ id
own_read forest id s line is read stored there =
    let same : line ≡ (phaser_at (phasers_of forest) id).line =
    is ∙ ap (λ (x : Stored). x.line) (get_or_read forest id s there read no_stored) ∙ sym (ap (λ (p : PhaserState). p.line) (shown_at forest id there)) in
    let own = line_own (phasers_of forest) id stored.places (there_shown forest id there) in
    ap (λ (l : List ℕ). get_or l 0 0) (same ∙ own.1)

-- the line of a phaser begins with it
pub own_line : (forest : List Stored) (i : ℕ) → IsStored forest → i < length forest
    → (above : List ℕ) × ((stored_at forest i).line ≡ i ∷ above) × ((phaser_at (phasers_of forest) i).line ≡ i ∷ above)
own_line forest i stored there =
    let own = line_own (phasers_of forest) i stored.places (there_shown forest i there) in
    (own.0, ap (λ (p : PhaserState). p.line) (sym (shown_at forest i there)) ∙ own.1, own.1)

-- the phasers of one tree have one word above them
pub one_top : (forest : List Stored) (i top : ℕ) (line : List ℕ) → top ≡ (stored_at forest (root_at (phasers_of forest) i)).word
    → All (λ (n : ℕ). root_at (phasers_of forest) n ≡ root_at (phasers_of forest) i) line
    → All (λ (n : ℕ). top ≡ (stored_at forest (root_at (phasers_of forest) n)).word) line
one_top forest i top line is tree k d there = is ∙ ap (λ (n : ℕ). (stored_at forest n).word) (sym (tree k d there))

-- 1. what an arrival at one phaser makes of the whole one

-- a climb, told as an arrival
pub arrives : (id : ℕ) (leave : Bool) (phasers after : List PhaserState) (c : Climb) → (flat_at phasers id).ended ≡ false
    → record { phasers = after; climb = c } ≡ climbed (phaser_at phasers id).line leave phasers
    → arrival_by c id after phasers ≡ arrival id leave phasers
arrives id leave phasers after c live is = grind arith

-- the climb from a phaser of this line, by what the arrival comes to there
first_climbed : (leave : Bool) (line above : List ℕ) (id : ℕ) (phasers : List PhaserState) (a : Arrival) → line ≡ id ∷ above
    → a ≡ arrive leave (flat_at phasers id)
    → climbed_by a id (is_top above) (λ leaves. climbed above leaves phasers) phasers ≡ climbed line leave phasers
first_climbed leave line above id phasers a is arrives = grind arith

-- the view of a word after an arrival that was counted
pub counted_here : (i : ℕ) (leave : Bool) (above : List ℕ) (phasers after : List PhaserState) (g : Flat) → (phaser_at phasers i).line ≡ i ∷ above
    → Counts g ≡ arrive leave (flat_at phasers i) → after ≡ with_flat phasers i g
    → record { phasers = after; answer = arrived.At (view_of g) } ≡ arrival i leave phasers
counted_here i leave above phasers after g line is set = grind (arith, found, arrives, first_climbed)

pub turned_here : (i root : ℕ) (leave : Bool) (phasers after : List PhaserState) (g : Flat) → (phaser_at phasers i).line ≡ i ∷ [] → i < length phasers
    → root ≡ root_at phasers i → root ≡ i → Turns g ≡ arrive leave (flat_at phasers i) → after ≡ with_flat phasers i g
    → record { phasers = after; answer = arrived.Turning (record { 0 = root }) (view_of g) g.parties } ≡ arrival i leave phasers
turned_here i root leave phasers after g line there root_is top is set = grind (arith, found, get_or-set_same, arrives, first_climbed)

pub none_here : (i : ℕ) (leave : Bool) (above : List ℕ) (phasers : List PhaserState) → (phaser_at phasers i).line ≡ i ∷ above
    → IsUnregistered ≡ arrive leave (flat_at phasers i)
    → record { phasers = phasers; answer = arrived.NotThere } ≡ arrival i leave phasers
none_here i leave above phasers line is = grind (arith, arrives, found, first_climbed)

-- 2. a look, phaser after phaser

-- all phasers of a tree that isn't terminated are of its root's phase
pub in_phase : (forest : List Stored) (id top : ℕ) → IsStored forest → id < length forest
    → top ≡ (stored_at forest (root_at (phasers_of forest) id)).word → (record_of top).ended ≡ false
    → ((flat_at (phasers_of forest) id).phase ≡ (record_of top).phase) × ((flat_at (phasers_of forest) id).ended ≡ false)
in_phase forest id top stored there is live = grind (arith, top_at, root_shown, flat_shown, present-phase, present-ended)

-- a word of its root's phase is of each phaser's
pub live_line : (forest : List Stored) (line : List ℕ) (k top : ℕ) → IsStored forest → All (λ (id : ℕ). id < length forest) line
    → All (λ (id : ℕ). top ≡ (stored_at forest (root_at (phasers_of forest) id)).word) line → (record_of top).ended ≡ false
    → All (λ (id : ℕ). (flat_at (phasers_of forest) id).ended ≡ false) (take k line)
live_line forest line k top stored there tops live =
    All-take (λ (id : ℕ). (flat_at (phasers_of forest) id).ended ≡ false) k line
    (λ m d here. (in_phase forest (get_or line m d) top stored (there m d here) (tops m d here) live).1)

pub of_phase_line : (forest : List Stored) (line words : List ℕ) (k top : ℕ) → IsStored forest → All (λ (id : ℕ). id < length forest) line
    → All (λ (id : ℕ). top ≡ (stored_at forest (root_at (phasers_of forest) id)).word) line → (record_of top).ended ≡ false
    → All (IsOfPhase (record_of top)) words
    → All (λ (id : ℕ). All (IsOfPhase (flat_at (phasers_of forest) id)) words) (take k line)
of_phase_line forest line words k top stored there tops live all =
    All-take (λ (id : ℕ). All (IsOfPhase (flat_at (phasers_of forest) id)) words) k line
    (λ m d here.
    let id = in_phase forest (get_or line m d) top stored (there m d here) (tops m d here) live in
    λ n e within. let word = all n e within in (word.0 ∙ sym id.0, word.1))

-- a phaser's new word, where those above have theirs
abbrev pub passes : ℕ → ℕ → Climb → List PhaserState → Climbed
passes id word climb.Counted above = record { phasers = with_flat above id (record_of word); climb = climb.Counted }
passes id word climb.Turned above = record { phasers = with_flat above id (record_of word); climb = climb.Turned }
passes id word climb.Refused above = record { phasers = above; climb = climb.Refused }

-- the climb from the first phasers of a line, by the climb from those above
abbrev pub from_below : ℕ → List ℕ → List ℕ → Climbed → Climbed
from_below zero line words rest = rest
from_below (suc k) [] words rest = rest
from_below (suc k) (id ∷ line) [] rest = rest
from_below (suc k) (id ∷ line) (word ∷ words) rest =
    let above = from_below k line words rest in passes id word above.climb above.phasers

one_higher : (k : ℕ) (line words : List ℕ) (word : ℕ) (rest : Climbed) → k < length line → k < length words
    → from_below k line words (passes (get_or line k 0) word rest.climb rest.phasers) ≡ from_below (suc k) line (slice_set words k word) rest
one_higher k [] words word rest here room = absurd (omega (arith, here))
one_higher k (id ∷ line) [] word rest here room = absurd (omega (arith, room))
one_higher zero (id ∷ line) (first ∷ words) word rest here room = refl
one_higher (suc k) (id ∷ line) (first ∷ words) word rest here room =
    ap (λ (r : Climbed). passes id first r.climb r.phasers) (one_higher k line words word rest (omega (arith, here)) (omega (arith, room)))

from_refused : (k : ℕ) (line words : List ℕ) (phasers : List PhaserState)
    → from_below k line words (record { phasers = phasers; climb = climb.Refused }) ≡ record { phasers = phasers; climb = climb.Refused }
from_refused (suc k) (id ∷ line) (word ∷ words) phasers = grind (arith, from_refused k line words phasers)
from_refused _ _ _ phasers = refl

written_by : (id word : ℕ) (c : Climb) (above : List PhaserState) → c ≢ climb.Refused
    → passes id word c above ≡ record { phasers = with_flat above id (record_of word); climb = c }
written_by id word c above not = grind arith

from_written : (k : ℕ) (line words : List ℕ) (phasers : List PhaserState) (c : Climb) → c ≢ climb.Refused
    → from_below k line words (record { phasers = phasers; climb = c }) ≡ record { phasers = written (take k line) words phasers; climb = c }
from_written (suc k) (id ∷ line) (word ∷ words) phasers c not = grind (arith, written_by, from_written k line words phasers c not)
from_written _ _ _ phasers c not = refl

-- the phaser waits for nobody, or is terminated
abbrev pub IsRefusal : Arrival → Type 0
IsRefusal (Counts flat) = ⊥
IsRefusal (Turns flat) = ⊥
IsRefusal (ComesLate view) = Unit {0}
IsRefusal IsUnregistered = Unit {0}

-- so far all phasers of the line have turned, and their words are found
pub record IsFound (line words : List ℕ) (k : ℕ) (leave leaves : Bool) (top : ℕ) (phasers : List PhaserState) : Type 0 where
  pub climbs : climbed line leave phasers ≡ from_below k line words (climbed (drop k line) leaves phasers)
  pub phase : All (IsOfPhase (record_of top)) words

from_here : (line : List ℕ) (k : ℕ) → k < length line → drop k line ≡ get_or line k 0 ∷ drop (k + 1) line
from_here line k here =
    let next : suc k ≡ k + 1 = omega arith in drop-cons line k 0 here ∙ ap (λ (n : ℕ). get_or line k 0 ∷ drop n line) next

one_more : (line words : List ℕ) (k word : ℕ) (leave leaves : Bool) (phasers : List PhaserState) (rest : Climbed) → k < length line → k < length words
    → climbed line leave phasers ≡ from_below k line words (climbed (drop k line) leaves phasers)
    → climbed (drop k line) leaves phasers ≡ passes (get_or line k 0) word rest.climb rest.phasers
    → climbed line leave phasers ≡ from_below (k + 1) line (slice_set words k word) rest
one_more line words k word leave leaves phasers rest here room climbs is = grind (arith, one_higher)

-- it ends at this one
ends_here : (line words : List ℕ) (k word : ℕ) (leave leaves : Bool) (phasers : List PhaserState) (c : Climb) → c ≢ climb.Refused
    → k < length line → k < length words
    → climbed line leave phasers ≡ from_below k line words (climbed (drop k line) leaves phasers)
    → climbed (drop k line) leaves phasers ≡ passes (get_or line k 0) word c phasers
    → record { phasers = written (take (k + 1) line) (slice_set words k word) phasers; climb = c } ≡ climbed line leave phasers
ends_here line words k word leave leaves phasers c not here room climbs is =
    sym (one_more line words k word leave leaves phasers (record { phasers = phasers; climb = c }) here room climbs is
    ∙ from_written (k + 1) line (slice_set words k word) phasers c not)

pub counted_there : (line words : List ℕ) (k word : ℕ) (leave leaves : Bool) (top : ℕ) (phasers : List PhaserState) → k < length line → k < length words
    → IsFound line words k leave leaves top phasers → Counts (record_of word) ≡ arrive leaves (flat_at phasers (get_or line k 0))
    → record { phasers = written (take (k + 1) line) (slice_set words k word) phasers; climb = climb.Counted } ≡ climbed line leave phasers
counted_there line words k word leave leaves top phasers here room so_far is =
    ends_here line words k word leave leaves phasers climb.Counted (λ no. absurd (cc no)) here room so_far.climbs
    (sym (first_climbed leaves (drop k line) (drop (k + 1) line) (get_or line k 0) phasers (Counts (record_of word)) (from_here line k here) is))

pub turned_there : (line words : List ℕ) (k word : ℕ) (leave leaves : Bool) (top : ℕ) (phasers : List PhaserState) → k < length line → k < length words
    → k + 1 ≡ length line → IsFound line words k leave leaves top phasers → Turns (record_of word) ≡ arrive leaves (flat_at phasers (get_or line k 0))
    → record { phasers = written (take (k + 1) line) (slice_set words k word) phasers; climb = climb.Turned } ≡ climbed line leave phasers
turned_there line words k word leave leaves top phasers here room last so_far is =
    let alone : drop k line ≡ get_or line k 0 ∷ [] =
    from_here line k here ∙ ap (λ (l : List ℕ). get_or line k 0 ∷ l) (drop_all (k + 1) line (omega (arith, last))) in
    ends_here line words k word leave leaves phasers climb.Turned (λ no. absurd (cc no)) here room so_far.climbs
    (sym (first_climbed leaves (drop k line) [] (get_or line k 0) phasers (Turns (record_of word)) alone is))

-- a party that stays leaves no phaser without parties
pub stays : (f g : Flat) (leave : Bool) → Turns g ≡ arrive leave f → leave ≡ false → (g.parties == 0) ≡ false
stays f g leave is not = grind arith

-- it goes on above
pub goes_on : (line words : List ℕ) (k word : ℕ) (g : Flat) (leave leaves next : Bool) (top : ℕ) (phasers : List PhaserState) → k < length line
    → k < length words → k + 1 ≢ length line → IsFound line words k leave leaves top phasers
    → Turns g ≡ arrive leaves (flat_at phasers (get_or line k 0)) → next ≡ (g.parties == 0) → record_of word ≡ passed_on g
    → climbed line leave phasers ≡ from_below (k + 1) line (slice_set words k word) (climbed (drop (k + 1) line) next phasers)
goes_on line words k word g leave leaves next top phasers here room more so_far is leaves_is passed = grind (arith, from_here, one_more, first_climbed)

-- it is refused there
pub refused_there : (line words : List ℕ) (k : ℕ) (leave leaves : Bool) (top : ℕ) (phasers : List PhaserState) (a : Arrival) → k < length line
    → IsFound line words k leave leaves top phasers → a ≡ arrive leaves (flat_at phasers (get_or line k 0)) → IsRefusal a
    → record { phasers = phasers; climb = climb.Refused } ≡ climbed line leave phasers
refused_there line words k leave leaves top phasers a here so_far is refuses = grind (arith, first_climbed, from_here, from_refused)

pub refused_past : (line words : List ℕ) (k : ℕ) (leave leaves : Bool) (top : ℕ) (phasers : List PhaserState) → length line ≤ k
    → IsFound line words k leave leaves top phasers → record { phasers = phasers; climb = climb.Refused } ≡ climbed line leave phasers
refused_past line words k leave leaves top phasers past so_far = grind (arith, drop_all, from_refused)

-- a new word is of the root's phase
pub new_word : (forest : List Stored) (line words : List ℕ) (top k word : ℕ) → IsStored forest → All (λ (id : ℕ). id < length forest) line
    → All (λ (id : ℕ). top ≡ (stored_at forest (root_at (phasers_of forest) id)).word) line → (record_of top).ended ≡ false → k < length line
    → IsAsLate (record_of word) (flat_at (phasers_of forest) (get_or line k 0)) → All (IsOfPhase (record_of top)) words
    → All (IsOfPhase (record_of top)) (slice_set words k word)
new_word forest line words top k word stored there tops live here late all = search (rules, in_phase, All-set)

pub passed_late : (g f : Flat) (word : ℕ) → record_of word ≡ passed_on g → IsAsLate g f → IsAsLate (record_of word) f
passed_late g f word is late = grind (arith, passed_on-late)

-- 3. the words are written, from the highest one down

pub record IsWritten (line words : List ℕ) (low : ℕ) (before after : List Stored) : Type 0 where
  pub with_words : phasers_of after ≡ written (drop low line) (drop low words) (phasers_of before)
  pub late : (id : ℕ) → IsAsLate (flat_at (phasers_of after) id) (flat_at (phasers_of before) id)
  pub stored : IsStored after
  pub only : ChangedOnly line before after

pub one_lower : (line words : List ℕ) (high low word : ℕ) (before mid after : List Stored) → suc low ≡ high → low < length line → low < length words
    → word ≡ get_or words low word
    → All (λ (id : ℕ). (flat_at (phasers_of before) id).ended ≡ false) line
    → All (λ (id : ℕ). All (IsOfPhase (flat_at (phasers_of before) id)) words) line → IsWritten line words high before mid
    → phasers_of after ≡ with_flat (phasers_of mid) (get_or line low 0) (record_of word) → IsStored after
    → ChangedOnly (get_or line low 0 ∷ []) mid after → IsWritten line words low before after
one_lower line words high low word before mid after next here room read live phase above set stored only =
    let id = get_or line low 0 in
    let fits = subst (IsOfPhase (flat_at (phasers_of before) id)) (sym read) (phase low 0 here low word room) in
    let was = above.late id in
    record {
      with_words = set
          ∙ ap (λ (ps : List PhaserState). with_flat ps id (record_of word))
          (above.with_words ∙ ap (λ (n : ℕ). written (drop n line) (drop n words) (phasers_of before)) (sym next))
          ∙ ap (λ (l : List ℕ). written l (word ∷ drop (suc low) words) (phasers_of before)) (sym (drop-cons line low 0 here))
          ∙ ap (λ (ws : List ℕ). written (drop low line) ws (phasers_of before))
          (ap (λ (w : ℕ). w ∷ drop (suc low) words) read ∙ sym (drop-cons words low word room));
      late = λ n.
          let now = with_flat-late (phasers_of mid) id n (record_of word) (fits.0 ∙ sym was.0, fits.1 ∙ sym (was.1 ∙ live low 0 here)) in
          let first : IsAsLate (flat_at (phasers_of after) n) (flat_at (phasers_of mid) n) =
          subst (λ (ps : List PhaserState). IsAsLate (flat_at ps n) (flat_at (phasers_of mid) n)) (sym set) now in
          (first.0 ∙ (above.late n).0, first.1 ∙ (above.late n).1);
      stored = stored;
      only = record {
        many = only.many ∙ above.only.many;
        places = λ n. only.places n ∙ above.only.places n;
        others = λ n away.
            only.others n (All-cons (λ (m : ℕ). n ≢ m) id [] (away low 0 here) (All-nil (λ (m : ℕ). n ≢ m))) ∙ above.only.others n away;
      };
    }

-- what changed some phasers of a line changed the line at most
pub only_take : (line : List ℕ) (k : ℕ) (before after : List Stored) → ChangedOnly (take k line) before after → ChangedOnly line before after
only_take line k before after only = record {
  many = only.many;
  places = only.places;
  others = λ n away. only.others n (All-take (λ (m : ℕ). n ≢ m) k line away);
}
