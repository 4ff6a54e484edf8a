-- What differs between the modes (document 01, "One group").
use Rattle.std.specs.Prelude.{Bool, true, false, ℕ, eqb, Result, Ok, Err}
use Rattle.std.proofs.Math.Option.{Option, none, some}
use Rattle.characters.specs.Answers.{pick}
use Rattle.characters.specs.Wire.{HT, SP}
use Rattle.groups.specs.declared.Mode.{Mode}
use Rattle.groups.specs.declared.Mode.TheVariants.{Historic, Standard, Business}
use Rattle.groups.specs.declared.Refusal.{Refusal}
use Rattle.groups.specs.declared.Refusal.TheVariants.{ModeUnknown}

-- "Mode 0 is historic .. Mode 1 is standard"; mode 2 is the older business meter (M-100); any other number is no mode
unfoldable pub mode_of : ℕ → Option Mode
mode_of number = pick (eqb number 0) (some Historic) (pick (eqb number 1) (some Standard) (pick (eqb number 2) (some Business) none))

-- whether a number is that of a mode
abbrev pub is_known : Option Mode → Bool
is_known none = false
is_known (some m) = true

abbrev pub is_mode : ℕ → Bool
is_mode number = is_known (mode_of number)

-- a mode, or 19, "a mode not 0 to 2"
abbrev pub known_mode : Option Mode → Result Mode Refusal
known_mode none = Err ModeUnknown
known_mode (some m) = Ok m

-- "historic, separator SP .. standard, separator HT"; document 003, 2.9.1: SP
abbrev pub separator : Mode → ℕ
separator Historic = SP
separator Standard = HT
separator Business = SP

-- what the final separator adds to the sum: "Historic: .. the final separator is not counted. Standard: it is counted too";
-- document 003, 2.9.1: "mode de calcul n°1", where it is not counted
abbrev pub counted_at_end : Mode → ℕ
counted_at_end Historic = 0
counted_at_end Standard = HT
counted_at_end Business = 0
