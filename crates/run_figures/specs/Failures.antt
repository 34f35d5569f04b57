-- Failures by their numbers.
use Rattle.std.specs.Prelude.{ℕ, List, [], ◌∷◌, ◌==◌, if◌then◌else◌}
use Rattle.run_figures.specs.declared.failure.Failure.{Failure}
use Rattle.run_figures.specs.declared.failure.Failure.TheVariants.{ConnectionRefused, ConnectionReset}
use Rattle.run_figures.specs.declared.failure.Failure.TheVariants.{ConnectionAborted, BrokenPipe, NotConnected}
use Rattle.run_figures.specs.declared.failure.Failure.TheVariants.{NoAnswer, HostUnreachable, NetworkUnreachable}
use Rattle.run_figures.specs.declared.failure.Failure.TheVariants.{NetworkDown, NoSuchHost, NoAddress, AddressInUse}
use Rattle.run_figures.specs.declared.failure.Failure.TheVariants.{ForeignAddress, PermissionDenied, Memory, Other}

-- the failures that have a number, each with it
abbrev pub numbered : List (ℕ × Failure)
numbered =
    (1, ConnectionRefused) ∷ (2, ConnectionReset) ∷ (3, ConnectionAborted) ∷ (4, BrokenPipe) ∷ (5, NotConnected)
    ∷ (6, NoAnswer) ∷ (7, HostUnreachable) ∷ (8, NetworkUnreachable) ∷ (9, NetworkDown) ∷ (10, NoSuchHost)
    ∷ (11, NoAddress) ∷ (12, AddressInUse) ∷ (13, ForeignAddress) ∷ (14, PermissionDenied) ∷ (15, Memory) ∷ []

-- the failure of a number among these
abbrev pub failure_in : List (ℕ × Failure) → ℕ → Failure
failure_in [] code = Other
failure_in (row ∷ rows) code = if code == row.0 then row.1 else failure_in rows code

-- the failure of a number
abbrev pub failure_at : ℕ → Failure
failure_at code = failure_in numbered code
