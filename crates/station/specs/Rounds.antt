-- A round (document 01, "The station"): each line's turn, the counts, and the lent sheet afterwards.
use Rattle.std.specs.Prelude.{◌≡◌, List, map, ℕ, leb, length, replicate, Result, Ok, Err}
use Rattle.std.specs.Result.{result_unwrap_or}
use Rattle.characters.specs.Answers.{Answer, refused, given, need}
use Rattle.line.specs.Entries.{framed_if}
use Rattle.line.specs.State.{frame_of}
use Rattle.line.specs.Steps.{heard_answer}
use Rattle.line.specs.Numbers.{shown_if}
use Rattle.station.specs.Lines.{over, turning}
use Rattle.station.specs.Sheets.{Told, smallest_sheet, sheet_of}
use Rattle.station.specs.Records.{Station, Rounded, Turned}
use Rattle.station.specs.declared.Refusal.{Refusal}
use Rattle.station.specs.declared.Refusal.TheVariants.{SheetShort}

-- "A round goes through lines 0 to 7." "18: sheet under 1,096 bytes"
unfoldable pub turns : Station → List ℕ → Answer Refusal (List Turned)
turns s sheet = need (leb smallest_sheet (length sheet)) SheetShort (given (map turning s.lines))

-- "The round tells how many bytes each line's turn took", and its answer, with the number that the line's frame has then
abbrev pub tells : Turned → Told
tells t =
    record {
      count = t.count;
      entry = framed_if (frame_of t.line.state) (shown_if (heard_answer t.heard t.line.content));
    }

-- what the eight turns of a round tell
abbrev pub told_of : Station → List Told
told_of s = map tells (map turning s.lines)

-- what a round hands back, and the lent sheet afterwards
pub record RoundDone : Type 0 where
  pub result : Rounded
  pub sheet : List ℕ

-- "Bytes after the last entry are unchanged."
abbrev pub after_turns : List Turned → List ℕ → RoundDone
after_turns ts sheet =
    record {
      result = record {
        station = record { lines = map (λ (t : Turned). t.line) ts };
        told = Ok (map (λ (t : Turned). t.count) ts);
      };
      sheet = over (sheet_of (map tells ts)) sheet;
    }

-- where the round is refused, nothing is changed
abbrev pub round_by : Station → List ℕ → Answer Refusal (List Turned) → RoundDone
round_by s sheet (given ts) = after_turns ts sheet
round_by s sheet (refused refusal) =
    record { result = record { station = s; told = Err refusal }; sheet = sheet }

abbrev pub round : Station → List ℕ → RoundDone
round s sheet = round_by s sheet (turns s sheet)

-- the counts that a caller has of a round: "A refused round gives eight zero counts"
abbrev pub counts_of : Result (List ℕ) Refusal → List ℕ
counts_of told = result_unwrap_or told (replicate 8 0)

-- a result and a sheet are those of a round
pub record Round (a : RoundDone) (result : Rounded) (sheet : List ℕ) : Type 0 where
  pub results : result ≡ a.result
  pub leaves : sheet ≡ a.sheet
