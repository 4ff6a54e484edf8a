-- Document 01's numbers ("Numbers") for what a line tells.
use Rattle.std.proofs.Math.Option.{Option, none, some}
use Rattle.std.specs.Prelude.{ℕ, Option as Maybe, Some, None}
use Rattle.characters.specs.Answers.{refused, given}
use Rattle.groups.specs.Numbers.{number_of_refusal}
use Rattle.line.specs.Lines.{LineAnswer}
use Rattle.line.specs.Entries.{Entry, accepted, refused_at, Framed, framed}
use Rattle.line.specs.declared.Notice.{Notice}
use Rattle.line.specs.declared.Notice.TheVariants.{
  FrameSound,
  FrameFlawed,
  FrameInterrupted,
  FrameRestarted,
  GroupRestarted,
  GroupDamaged,
  GroupRefused,
}
use Rattle.line.specs.declared.LineState.{LineState}
use Rattle.line.specs.declared.Heard.{Heard}
use Rattle.line.specs.declared.Heard.TheVariants.{Nothing, Accepted, Told}

abbrev pub number_of_notice : Notice → ℕ
number_of_notice FrameSound = 2
number_of_notice FrameFlawed = 3
number_of_notice FrameInterrupted = 4
number_of_notice FrameRestarted = 5
number_of_notice GroupRestarted = 6
number_of_notice GroupDamaged = 7
number_of_notice (GroupRefused refusal place) = number_of_refusal refusal

-- "for a refusal the fourth byte holds this place": only a group that was refused has one
abbrev pub place_of_notice : Notice → ℕ
place_of_notice FrameSound = 0
place_of_notice FrameFlawed = 0
place_of_notice FrameInterrupted = 0
place_of_notice FrameRestarted = 0
place_of_notice GroupRestarted = 0
place_of_notice GroupDamaged = 0
place_of_notice (GroupRefused refusal place) = place

-- "1: group accepted"
abbrev pub number_of_answer : LineAnswer → ℕ
number_of_answer (given g) = 1
number_of_answer (refused notice) = number_of_notice notice

-- an answer with its number and its place, as a sheet shows it
abbrev pub shown : LineAnswer → Entry
shown (given g) = accepted g
shown (refused notice) = refused_at (number_of_notice notice) (place_of_notice notice)

abbrev pub shown_if : Option LineAnswer → Option Entry
shown_if none = none
shown_if (some a) = some (shown a)

-- with the number of its frame
abbrev pub shown_framed : Framed LineAnswer → Framed Entry
shown_framed a = framed a.frame (shown a.what)

-- what the code heard; 0 stands for no answer, which document 01 gives no number (its 0 is for calls)
abbrev pub number_of : Heard → ℕ
number_of Nothing = 0
number_of (Accepted fields) = 1
number_of (Told notice) = number_of_notice notice

abbrev pub place_of : Heard → ℕ
place_of Nothing = 0
place_of (Accepted fields) = 0
place_of (Told notice) = place_of_notice notice

-- "0: an opening .. that is not refused"; "19: a mode not 0 to 2"
abbrev pub number_of_opening : Maybe LineState → ℕ
number_of_opening (Some l) = 0
number_of_opening None = 19
