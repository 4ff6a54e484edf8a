-- What the contracts of the listing's functions cite.
use Rattle.std.specs.Prelude.{◌≡◌, List, ℕ, length, take}
use Rattle.arrayvec.specs.ArrayVec.{ArrayVec}
use Rattle.line.specs.Lines.{State, after, answers, listed, until_answer}
use Rattle.line.specs.State.{line_of}
use Rattle.line.specs.Steps.{heard_answer}
use Rattle.listing.specs.declared.Ear.{Ear}
use Rattle.line.specs.declared.Heard.{Heard}
use Rattle.listing.specs.Listing.{lines_for}

-- the line that an ear hears
abbrev pub heard_by : Ear → State
heard_by ear = line_of ear.line ear.content

-- the lines of what was heard: one, or none
unfoldable pub lines_heard : Heard → List ℕ → List ℕ
lines_heard heard content = lines_for (listed (heard_answer heard content))

-- bytes up to one that gives an answer, on the line of an ear: how many they are, the line after them, and the text of
-- their lines
pub record Lists (before : Ear) (bytes : List ℕ) (count : ℕ) (later : Ear) (text : ArrayVec ℕ) : Type 0 where
  pub long : length later.content ≡ 128
  pub same_mode : later.line.mode ≡ before.line.mode
  pub count_is : count ≡ until_answer before.line.mode (heard_by before) bytes
  pub line_is : heard_by later ≡ after before.line.mode (heard_by before) (take count bytes)
  pub text_is : text.items ≡ lines_for (answers before.line.mode (heard_by before) (take count bytes))

-- all of the bytes: the line is in its mode, where they lead
pub record Goes (before : Ear) (bytes : List ℕ) (later : Ear) : Type 0 where
  pub same_mode : later.line.mode ≡ before.line.mode
  pub leads : heard_by later ≡ after before.line.mode (heard_by before) bytes
