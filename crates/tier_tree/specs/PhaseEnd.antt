-- The end of a tree's phase, and its termination.
use Rattle.std.specs.Prelude.{ℕ, ◌+◌, ◌==◌, Bool, if◌then◌else◌, List, map, slice_set}
use Rattle.packed_phaser.specs.Flat.{Flat, advance, renew, force}
use Rattle.tier_tree.specs.Forest.{PhaserState, phaser_at, root_of, root_at}

-- its parties in the root's phase: all are still to arrive, or they are terminated with the root
abbrev pub follow : ℕ → Bool → Flat → Flat
follow phase ended flat = if ended then force (renew phase flat) else renew phase flat

-- a phaser of the tree follows its root into this phase, or into termination
abbrev pub in_step : ℕ → ℕ → Bool → PhaserState → PhaserState
in_step root phase ended phaser =
    if root_of phaser == root then record phaser { flat = follow phase ended phaser.flat } else phaser

-- how many phases of a tree can end: after one more, a word that lags could be all 2147483648 phase numbers behind
abbrev pub most_ends : ℕ
most_ends = 2147483647

-- the root's pending phase has ended, the tree is terminated if the flag says so, and all phasers of the tree follow
abbrev pub after_phase_end : ℕ → Bool → List PhaserState → List PhaserState
after_phase_end root terminates phasers =
    let before = phaser_at phasers root in
    let flat = advance terminates before.flat in
    slice_set (map (in_step root flat.phase flat.ended) phasers) root (record before { flat = flat; ends = before.ends + 1 })

-- a phaser of the tree is terminated
abbrev pub terminated : ℕ → PhaserState → PhaserState
terminated root phaser = if root_of phaser == root then record phaser { flat = force phaser.flat } else phaser

-- all phasers of the tree are terminated
abbrev pub after_force : ℕ → List PhaserState → List PhaserState
after_force id phasers = map (terminated (root_at phasers id)) phasers
