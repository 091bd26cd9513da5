-- How far some choices were played, without their number. Only proofs use this: no promise depends on it, and `Stops` says the
-- same with the number.
use Rattle.std.specs.Prelude.{List}
use Rattle.thread_machine.specs.declared.choice.Choice.{Choice}
use Rattle.debugger.specs.{declared.session.go.Went.Went, Session.Session, Go.Ends, Go.Breaks, Go.Faults}
use Rattle.debugger.specs.declared.session.go.Went.TheVariants as went

abbrev pub Goes : Session → List Choice → Went → Session → Type 0
Goes session choices went.On after = Ends session choices after
Goes session choices went.Break after = Breaks session choices after
Goes session choices (went.Fault why) after = Faults session choices why after
