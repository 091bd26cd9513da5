use Rattle.std.proofs.Common.{◌≡◌, ◌≤◌, map}
use Rattle.line_reader.specs.Seen.{name_seen}
use Rattle.commands.specs.Planning.{thread_names}
use Rattle.commands.proofs.plan.thread_names.Given as goal

-- the threads before this one have their names
abbrev pub invariant-loop-thread : goal.invariant-loop-thread
invariant-loop-thread l = record {
  names : map name_seen l.names.items ≡ thread_names l.symbols l.thread;
  within : l.thread ≤ l.count;
}
