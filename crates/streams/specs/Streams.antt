-- What the contracts of the crate cite. Assumes nothing.
use Rattle.std.specs.Prelude.{ℕ, ◌≤◌, Result, Ok, Err}
use Rattle.streams.specs.declared.Stopped.{Stopped}

-- What a reading into n bytes may answer: that it can't be read, or how many bytes came, at most n.
abbrev pub Moved : ℕ → Result ℕ Stopped → Type 0
Moved n (Ok k) = k ≤ n
Moved n (Err e) = Unit {0}
