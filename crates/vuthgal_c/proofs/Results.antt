-- What follows for each result.
use Rattle.std.proofs.Common.{Result, Ok, Err, IfErr, OnOk}

pub right_by : {A E P Q : Type 0} (answer : Result A E) → (P → Q) → OnOk answer P → OnOk answer Q
right_by (Ok done) so is = so is
right_by (Err why) so is = tt

pub wrong_by : {A E : Type 0} {P Q : E → Type 0} (answer : Result A E) → ((why : E) → P why → Q why) → IfErr answer P → IfErr answer Q
wrong_by (Ok done) so is = tt
wrong_by (Err why) so is = so why is
