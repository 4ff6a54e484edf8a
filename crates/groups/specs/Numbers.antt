-- Document 01's numbers ("Numbers") for each case of the answers.
use Rattle.std.specs.Prelude.{ℕ, Result, Ok, Err}
use Rattle.characters.specs.Answers.{Answer, refused, given}
use Rattle.groups.specs.declared.Refusal.{Refusal}
use Rattle.groups.specs.declared.Refusal.TheVariants.{
  TooLong,
  Misshapen,
  CheckWrong,
  LabelUnknown,
  StampWrong,
  WidthWrong,
  KindWrong,
  NoRoom,
  ModeUnknown,
}
use Rattle.groups.specs.declared.Fields.{Fields}
use Rattle.groups.specs.declared.Fault.{Fault}

abbrev pub number_of_refusal : Refusal → ℕ
number_of_refusal TooLong = 8
number_of_refusal Misshapen = 9
number_of_refusal CheckWrong = 10
number_of_refusal LabelUnknown = 11
number_of_refusal StampWrong = 12
number_of_refusal WidthWrong = 13
number_of_refusal KindWrong = 14
number_of_refusal NoRoom = 15
number_of_refusal ModeUnknown = 19

-- "1: group accepted"
abbrev pub number_of : Result Fields Fault → ℕ
number_of (Ok fields) = 1
number_of (Err fault) = number_of_refusal fault.refusal

-- "0: .. writing .. that is not refused"
abbrev pub number_of_writing : Result ℕ Refusal → ℕ
number_of_writing (Ok count) = 0
number_of_writing (Err refusal) = number_of_refusal refusal

-- of an answer, where n is the number of any value
abbrev pub number_as : {A : Type 0} → ℕ → Answer Refusal A → ℕ
number_as n (refused refusal) = number_of_refusal refusal
number_as n (given a) = n
