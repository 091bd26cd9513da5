use Rattle.std.proofs.Common.{◌≡◌, ◌+◌, ◌*◌, ◌≤◌, length, false}
use Rattle.trace_text.specs.Reading.{HasNoLongLine}
use Rattle.trace_compare.specs.Comparing.{HasComeTo}
use Rattle.trace_compare.proofs.comparison.compare_lines.Given as goal

-- each turn takes no more lines than are held, and one that is read
abbrev pub invariant-loop : goal.invariant-loop
invariant-loop g l = record {
  come : HasComeTo l.fn.now l.now l.lines l.counter (g.S.Source.left l.fn.trace) (g.S.Source.left l.trace);
  number : l.now.number ≤ 1 + 81921 * l.counter;
  at : l.now.at ≤ length l.now.text.items;
  short : HasNoLongLine l.now.text.items;
  reads : g.S.Source.reads l.trace ≤ g.S.Source.reads l.fn.trace + l.lines.reads;
  within : l.lines.reads ≤ 1000000000;
  sound : g.S.Source.has_failed l.fn.trace ≡ false → g.S.Source.has_failed l.trace ≡ false;
}
