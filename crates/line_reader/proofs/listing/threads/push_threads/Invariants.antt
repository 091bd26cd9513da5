use Rattle.std.proofs.Common.{ℕ, ◌<◌, slice_index_or, ◌≡◌, ◌++◌, drop}
use Rattle.std.specs.List.{flat_map}
use Rattle.row_code.specs.{declared.threads.DeclaredThread.DeclaredThread, Threads.IsThread}
use Rattle.line_reader.specs.Listing.{line_text, numbered, thread_words}
use Rattle.line_reader.proofs.listing.threads.push_threads.Given as goal

abbrev pub invariant-loop-n : goal.invariant-loop-n
invariant-loop-n l = record {
  text : l.text.items ++ flat_map line_text (numbered thread_words l.n (drop l.n l.threads))
      ≡ l.initial.text.items ++ flat_map line_text (numbered thread_words 0 l.threads);
  fits : (k : ℕ) → (d : DeclaredThread) → k < l.n → IsThread (slice_index_or l.threads k d);
}
