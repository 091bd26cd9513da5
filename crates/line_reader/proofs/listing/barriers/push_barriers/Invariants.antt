use Rattle.std.proofs.Common.{ℕ, ◌<◌, slice_index_or, ◌≡◌, ◌++◌, drop}
use Rattle.std.specs.List.{flat_map}
use Rattle.row_code.specs.{declared.barriers.DeclaredBarrier.DeclaredBarrier, Barriers.IsBarrier}
use Rattle.line_reader.specs.Listing.{line_text, numbered, barrier_words}
use Rattle.line_reader.proofs.listing.barriers.push_barriers.Given as goal

abbrev pub invariant-loop-n : goal.invariant-loop-n
invariant-loop-n l = record {
  text : l.text.items ++ flat_map line_text (numbered barrier_words l.n (drop l.n l.barriers))
      ≡ l.initial.text.items ++ flat_map line_text (numbered barrier_words 0 l.barriers);
  fits : (k : ℕ) → (d : DeclaredBarrier) → k < l.n → IsBarrier (slice_index_or l.barriers k d);
}
