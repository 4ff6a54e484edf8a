-- What an opening makes of a mode.
use Rattle.std.specs.Prelude.{◌≡◌, true, false, ℕ, Some, None}
use Rattle.characters.specs.Answers.{pick}
use Rattle.groups.specs.Modes.{is_mode}
use Rattle.line.specs.State.{state_of, opening_of}
use Rattle.line.specs.declared.rules.Phase.TheVariants.{Outside}

-- an opening in a known mode gives a line that is outside
pub opening_known : (mode : ℕ) → is_mode mode ≡ true → opening_of mode ≡ Some (state_of mode 0 Outside 0)
unfolding opening_of pick
opening_known mode e = rw e

-- and with any other number it is refused
pub opening_unknown : (mode : ℕ) → is_mode mode ≡ false → opening_of mode ≡ None
unfolding opening_of pick
opening_unknown mode e = rw e
