-- How a forest is stored: the word of a child may be that of an earlier phase.
use Rattle.std.specs.Prelude.{◌≡◌, ◌≢◌, ℕ, ◌+◌, ◌-◌, ◌<◌, ◌≤◌, ◌==◌, nat_le, false, if◌then◌else◌, List, [], length, map, slice_index_or, All}
use Rattle.packed_phaser.specs.{declared.policy.Policy.Policy, Flat.Flat, Flat.renew, Flat.force, Word.record_of}
use Rattle.packed_phaser.specs.declared.policy.Policy.TheVariants as policy
use Rattle.tier_tree.specs.{Forest.PhaserState, Sound.Place, Sound.IsForest}

-- one phaser: its line and its policy; its word, as its last change left it; and, of a root, how
-- many phases of its tree have ended
pub record Stored : Type 0 where
  pub line : List ℕ
  pub policy : Policy
  pub word : ℕ
  pub ends : ℕ

-- a phaser that no forest has
abbrev pub no_stored : Stored
no_stored = record { line = []; policy = policy.Default; word = 0; ends = 0 }

-- the phaser of this number
abbrev pub stored_at : List Stored → ℕ → Stored
stored_at forest id = slice_index_or forest id no_stored

-- what only its word says
abbrev pub kept_flat : Stored → Flat
kept_flat stored = record_of stored.word

-- the number of its root
abbrev pub top_of : Stored → ℕ
top_of stored = slice_index_or stored.line (length stored.line - 1) 0

-- what a word says at present, given that of its root: it is terminated with the root; in the root's phase it counts as it is;
-- and in any other phase all its parties are to arrive again
abbrev pub present : Flat → Flat → Flat
present top own =
    if top.ended then force (renew top.phase own)
    else (if own.phase == top.phase then own else renew top.phase own)

-- the phaser at present
abbrev pub shown : List Stored → Stored → PhaserState
shown forest stored = record {
  line = stored.line;
  policy = stored.policy;
  flat = present (kept_flat (stored_at forest (top_of stored))) (kept_flat stored);
  ends = stored.ends;
}

-- the phasers at present: each call's result, and what it changes, is about them
abbrev pub phasers_of : List Stored → List PhaserState
phasers_of forest = map (shown forest) forest

-- what no call changes of a phaser
abbrev pub place_in : Stored → Place
place_in stored = record { line = stored.line; policy = stored.policy }

-- the forests differ at most in the words and the counts of the phasers of this line
pub record ChangedOnly (line : List ℕ) (before : List Stored) (after : List Stored) : Type 0 where
  pub many : length after ≡ length before
  pub places : (id : ℕ) → place_in (stored_at after id) ≡ place_in (stored_at before id)
  pub others : (id : ℕ) → All (λ (n : ℕ). id ≢ n) line → stored_at after id ≡ stored_at before id

-- they differ at most in those from this phaser up to its root
abbrev pub ChangedAt : ℕ → List Stored → List Stored → Type 0
ChangedAt id before after = ChangedOnly (stored_at before id).line before after

-- how many phase ends lead from the one phase to the other, less whole turns of 2147483648
abbrev pub behind : ℕ → ℕ → ℕ
behind own top = if nat_le own top then top - own else (top + 2147483648) - own

-- no word is further behind than its tree has ended phases: so a word with the root's phase number is one of this phase, and
-- not of the phase with the same number before
abbrev pub IsNear : List Stored → Type 0
IsNear forest =
    (id : ℕ) → id < length forest
    → behind (kept_flat (stored_at forest id)).phase
    (kept_flat (stored_at forest (top_of (stored_at forest id)))).phase
    ≤ (stored_at forest (top_of (stored_at forest id))).ends

-- no word of a tree is terminated before that of its root is
abbrev pub IsLive : List Stored → Type 0
IsLive forest =
    (id : ℕ) → id < length forest
    → (kept_flat (stored_at forest (top_of (stored_at forest id)))).ended ≡ false
    → (kept_flat (stored_at forest id)).ended ≡ false

-- what stays true of a forest; nobody has to believe it
pub record IsStored (forest : List Stored) : Type 0 where
  pub places : IsForest (phasers_of forest)
  pub near : IsNear forest
  pub live : IsLive forest
