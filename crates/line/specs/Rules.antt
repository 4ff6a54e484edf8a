-- The frame rules (document 01, "One line"), bullet by bullet: where a line is, a symbol, and what it does.
use Rattle.std.specs.Prelude.{Bool, true, false}
use Rattle.line.specs.declared.Notice.{Notice}
use Rattle.line.specs.declared.Notice.TheVariants.{
  FrameSound,
  FrameFlawed,
  FrameInterrupted,
  FrameRestarted,
  GroupRestarted,
}
use Rattle.line.specs.declared.rules.Symbol.{Symbol}
use Rattle.line.specs.declared.rules.Symbol.TheVariants.{Stx, Etx, Eot, Lf, Cr, Damaged, Text}
use Rattle.line.specs.declared.rules.Phase.{Phase}
use Rattle.line.specs.declared.rules.Phase.TheVariants.{Outside, Frame, Group}
use Rattle.line.specs.declared.rules.Move.{Move}
use Rattle.line.specs.declared.rules.Move.TheVariants.{Quiet, Opens, Says, Adds, Judges}

-- "2 if no flaw, else 3"
abbrev pub frame_end : Bool → Notice
frame_end false = FrameSound
frame_end true = FrameFlawed

abbrev pub move : Phase → Symbol → Move
-- "STX: in a frame, flaw mark cleared. If it was in a frame or group: answer 5."
move Outside Stx = Quiet (Frame false)
move (Frame flaw) Stx = Says (Frame false) FrameRestarted
move (Group flaw damaged overlong) Stx = Says (Frame false) FrameRestarted
-- "ETX: outside. From a frame: 2 if no flaw, else 3. From a group: 3. From outside: nothing."
move Outside Etx = Quiet Outside
move (Frame flaw) Etx = Says Outside (frame_end flaw)
move (Group flaw damaged overlong) Etx = Says Outside FrameFlawed
-- "EOT: outside. From a frame or group: 4. From outside: nothing."
move Outside Eot = Quiet Outside
move (Frame flaw) Eot = Says Outside FrameInterrupted
move (Group flaw damaged overlong) Eot = Says Outside FrameInterrupted
-- "LF: in a frame, opens an empty group. In a group: answer 6, flaw, a new empty group opens. Outside: nothing."
move Outside Lf = Quiet Outside
move (Frame flaw) Lf = Opens flaw
move (Group flaw damaged overlong) Lf = Says (Group true false false) GroupRestarted
-- "CR in a group: the group is judged"; "Any other byte in a frame, CR included, sets the flaw; outside it does nothing."
move Outside Cr = Quiet Outside
move (Frame flaw) Cr = Quiet (Frame true)
move (Group flaw damaged overlong) Cr = Judges flaw damaged overlong
-- "Any other sound character in a group is content"
move Outside (Text c) = Quiet Outside
move (Frame flaw) (Text c) = Quiet (Frame true)
move (Group flaw damaged overlong) (Text c) = Adds flaw damaged overlong c
-- "An unsound byte .. In a group it marks the group damaged and adds no content. In a frame it sets the flaw. Outside it
-- does nothing."
move Outside Damaged = Quiet Outside
move (Frame flaw) Damaged = Quiet (Frame true)
move (Group flaw damaged overlong) Damaged = Quiet (Group flaw true overlong)
