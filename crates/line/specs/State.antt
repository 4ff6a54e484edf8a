-- The numbers that a line keeps, and the line that they stand for. Every value stands for one: a phase that is neither
-- 1 nor 2 is outside, a mark is set when it is not 0, a length above 128 is 128, and of a frame number counts the remainder
-- of 65,536, which is all that 16 bits hold.
use Rattle.std.specs.Prelude.{◌≡◌, Bool, not, List, ℕ, ◌%◌, eqb, take, min, Option, Some, None}
use mir.Val.{bool_byte}
use Rattle.characters.specs.Answers.{pick}
use Rattle.groups.specs.Modes.{is_mode}
use Rattle.line.specs.Lines.{State, held_by}
use Rattle.line.specs.declared.LineState.{LineState}
use Rattle.line.specs.declared.state.Line.{Line}
use Rattle.line.specs.declared.rules.Phase.{Phase}
use Rattle.line.specs.declared.rules.Phase.TheVariants.{Outside, Frame, Group}

abbrev pub is_set : ℕ → Bool
is_set n = not (eqb n 0)

unfoldable pub phase_of : LineState → Phase
phase_of l =
    pick (eqb l.phase 1) (Frame (is_set l.flaw))
    (pick (eqb l.phase 2) (Group (is_set l.flaw) (is_set l.damaged) (is_set l.overlong)) Outside)

unfoldable pub held_in : LineState → ℕ
held_in l = min l.length 128

-- the line that the numbers and the lent bytes stand for
unfoldable pub line_of : LineState → List ℕ → State
line_of l content = record { phase = phase_of l; content = held_by (phase_of l) (take (held_in l) content) }

-- and the number of its frame
abbrev pub frame_of : LineState → ℕ
frame_of l = l.frame % 65536

-- the numbers of a line of a mode and with a frame number, in a phase, with so many characters of content
abbrev pub state_of : ℕ → ℕ → Phase → ℕ → LineState
state_of mode frame Outside n =
    record { mode = mode; phase = 0; flaw = 0; damaged = 0; overlong = 0; length = 0; frame = frame }
state_of mode frame (Frame flaw) n =
    record { mode = mode; phase = 1; flaw = bool_byte flaw; damaged = 0; overlong = 0; length = 0; frame = frame }
state_of mode frame (Group flaw damaged overlong) n =
    record {
      mode = mode;
      phase = 2;
      flaw = bool_byte flaw;
      damaged = bool_byte damaged;
      overlong = bool_byte overlong;
      length = n;
      frame = frame;
    }

-- a line of a mode and with a frame number, in a phase, with so many characters of content
pub record IsLine (mode frame : ℕ) (p : Phase) (n : ℕ) (l : Line) : Type 0 where
  pub mode_is : l.mode ≡ mode
  pub frame_is : l.frame ≡ frame
  pub phase_is : l.phase ≡ p
  pub held_is : l.held ≡ n

-- as the numbers are read
abbrev pub IsRead : LineState → Line → Type 0
IsRead s l = IsLine s.mode s.frame (phase_of s) (held_in s) l

-- and written
abbrev pub written : Line → LineState
written l = state_of l.mode l.frame l.phase l.held

-- "19: a mode not 0 to 2"; the frame number is "0 when opened"
unfoldable pub opening_of : ℕ → Option LineState
opening_of mode = pick (is_mode mode) (Some (state_of mode 0 Outside 0)) None
