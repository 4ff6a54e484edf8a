-- What the digits of a number are worth, and worked lines of refused groups.
use Rattle.std.specs.Prelude.{List, [], ◌∷◌, ℕ, ◌+◌, ◌-◌, ◌*◌}
use Prim.Native.String.{String}
use Rattle.characters.specs.Answers.{refused}
use Rattle.groups.specs.declared.Refusal.TheVariants.{TooLong, Misshapen, CheckWrong, LabelUnknown, StampWrong, WidthWrong, KindWrong}
use Rattle.line.specs.Lines.{LineAnswer}
use Rattle.line.specs.declared.Notice.TheVariants.{FrameSound, FrameFlawed, FrameInterrupted, FrameRestarted, GroupRestarted, GroupDamaged, GroupRefused}

-- the number that decimal digits make behind those of another
abbrev pub value_from : ℕ → List ℕ → ℕ
value_from n [] = n
value_from n (digit ∷ more) = value_from (10 * n + (digit - 0x30)) more

-- answers, and their lines: a place of one digit, of two, of three; and answers that have none
abbrev pub placed_answers : List LineAnswer
placed_answers =
    refused (GroupRefused StampWrong 5)
    ∷ refused (GroupRefused KindWrong 8)
    ∷ refused (GroupRefused KindWrong 10)
    ∷ refused (GroupRefused KindWrong 106)
    ∷ refused (GroupRefused WidthWrong 0)
    ∷ refused (GroupRefused LabelUnknown 0)
    ∷ refused (GroupRefused CheckWrong 0)
    ∷ refused (GroupRefused Misshapen 0)
    ∷ refused (GroupRefused TooLong 0)
    ∷ refused GroupDamaged
    ∷ refused GroupRestarted
    ∷ refused FrameRestarted
    ∷ refused FrameInterrupted
    ∷ refused FrameFlawed
    ∷ refused FrameSound
    ∷ []

abbrev pub placed_lines : List String
placed_lines = "12 5\n" ∷ "14 8\n" ∷ "14 10\n" ∷ "14 106\n" ∷ "13\n" ∷ "11\n" ∷ "10\n" ∷ "9\n" ∷ "8\n" ∷ "7\n" ∷ "6\n" ∷ "5\n" ∷ "4\n" ∷ "3\n" ∷ "2\n" ∷ []
