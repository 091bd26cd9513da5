-- The state of a phaser that has no parent and no children, as plain values, and what each call does to it.
use Rattle.std.specs.Prelude.{◌≡◌, ℕ, ℤ, pos, ◌+◌, ◌-◌, ◌^◌, ◌<◌, ◌≤◌, ◌==◌, nat_lt, if◌then◌else◌, Bool, true, false}
use Rattle.phase_number.specs.Phase.{next_phase, phase_view}

-- the number of the phase, whether the phaser is terminated, its registered parties, how many of
-- them have arrived, and whether it is turned: all needed parties have arrived, or the last one has
-- left, and the phase hasn't ended yet
pub record Flat : Type 0 where
  pub phase : ℕ
  pub ended : Bool
  pub parties : ℕ
  pub arrived : ℕ
  pub turned : Bool

-- the records that are phasers
pub record IsFlat (f : Flat) : Type 0 where
  pub phase_in_range : f.phase < 2 ^ 31
  pub parties_in_range : f.parties ≤ 65535
  pub arrived_in_range : f.arrived ≤ f.parties
  pub turned_by_all : f.turned ≡ true → (f.ended ≡ false) × (f.arrived ≡ f.parties)
  pub all_turn_it : f.ended ≡ false → 0 < f.parties → f.arrived ≡ f.parties → f.turned ≡ true
  pub ended_has_all : f.ended ≡ true → f.arrived ≡ f.parties

-- no arrival yet in this phase
abbrev pub fresh : ℕ → ℕ → Flat
fresh phase parties = record {
  phase = phase;
  ended = false;
  parties = parties;
  arrived = 0;
  turned = false;
}

-- what the phaser shows as its phase
abbrev pub view_of : Flat → ℤ
view_of f = phase_view f.phase f.ended

-- the parties still to arrive
abbrev pub unarrived_of : Flat → ℕ
unarrived_of f = f.parties - f.arrived

-- no party is registered, and no phase end is pending
abbrev pub is_empty : Flat → Bool
is_empty f = if f.ended then false else (if f.turned then false else f.parties == 0)

-- the results of a registration: the parties are registered in the phase of this number; the phaser is terminated and has this
-- view; the registration has to wait for the end of the phase; or there would be more than 65535 parties
pub data Registration : Type 0 where
  Joins : Flat → ℤ → Registration
  JoinsLate : ℤ → Registration
  MustWait : Registration
  Overfull : Registration

-- k parties register; the first case that holds is the result
abbrev pub register : ℕ → Flat → Registration
register k f =
    if f.ended then JoinsLate (view_of f)
    else (if k == 0 then Joins f (pos f.phase)
    else (if nat_lt 65535 (f.parties + k) then Overfull
    else (if f.turned then MustWait
    else Joins (record f { parties = f.parties + k }) (pos f.phase))))

-- the results of an arrival: it is counted, and others are still to come; it is the last, and turns the phaser; the phaser is
-- terminated and has this view; or no party is left that could arrive
pub data Arrival : Type 0 where
  Counts : Flat → Arrival
  Turns : Flat → Arrival
  ComesLate : ℤ → Arrival
  IsUnregistered : Arrival

-- the phaser after an arrival that there was a party for
abbrev pub settled : Flat → Arrival
settled f = if f.arrived == f.parties then Turns (record f { turned = true }) else Counts f

-- a party arrives, and also leaves if the flag says so
abbrev pub arrive : Bool → Flat → Arrival
arrive leave f =
    if f.ended then ComesLate (view_of f)
    else (if f.arrived == f.parties then IsUnregistered
    else (if leave then settled (record f { parties = f.parties - 1 })
    else settled (record f { arrived = f.arrived + 1 })))

-- the phase of a turned phaser ends, and the phaser is terminated if the flag says so
abbrev pub advance : Bool → Flat → Flat
advance ends f = record {
  phase = next_phase f.phase;
  ended = ends;
  parties = f.parties;
  arrived = if ends then f.parties else 0;
  turned = false;
}

-- a turned phaser without parties isn't turned any more
abbrev pub vacate : Flat → Flat
vacate f = record f { turned = false }

-- its parties at the start of another phase
abbrev pub renew : ℕ → Flat → Flat
renew phase f = fresh phase f.parties

-- termination at once: the phase and the parties stay
abbrev pub force : Flat → Flat
force f = record {
  phase = f.phase;
  ended = true;
  parties = f.parties;
  arrived = f.parties;
  turned = false;
}
