use Rattle.cyclic_barrier.specs.{declared.barrier.Barrier.TheInside.Inside, Barrier.BarrierState}

-- the barrier that the fields are
abbrev pub state_of_fields : Inside → BarrierState
state_of_fields b = record {
  parties = b.parties;
  action = b.action;
  broken = b.broken;
  runner = b.runner;
  waits = b.waits;
}
