-- What a byte, and a stretch of bytes, does to the numbers and the lent bytes of a line: the exact contract of the code,
-- on every value. `Views.antt` says that it is what document 01's line does.
use Rattle.std.specs.Prelude.{◌≡◌, Bool, true, false, List, [], ◌∷◌, ℕ, ◌+◌, ltb, take, set, Result, Ok, Err}
use Rattle.std.proofs.Math.Option.{Option, none, some}
use Rattle.characters.specs.Answers.{refused, given, pick}
use Rattle.groups.specs.Groups.{group_of}
use Rattle.groups.specs.Judging.{part_of}
use Rattle.groups.specs.Place.{judgement}
use Rattle.groups.specs.declared.Fields.{Fields}
use Rattle.groups.specs.declared.Fault.{Fault}
use Rattle.groups.specs.declared.Refusal.TheVariants.{TooLong}
use Rattle.line.specs.Symbols.{symbol_of}
use Rattle.line.specs.Rules.{move}
use Rattle.line.specs.Lines.{LineAnswer}
use Rattle.line.specs.FrameNumbers.{frame_at}
use Rattle.line.specs.State.{phase_of, held_in, state_of, written}
use Rattle.line.specs.declared.LineState.{LineState}
use Rattle.line.specs.declared.Notice.TheVariants.{GroupDamaged, GroupRefused}
use Rattle.line.specs.declared.Heard.{Heard}
use Rattle.line.specs.declared.Heard.TheVariants.{Nothing, Accepted, Told}
use Rattle.line.specs.declared.Taken.{Taken}
use Rattle.line.specs.declared.state.Line.{Line}
use Rattle.line.specs.declared.rules.Phase.{Phase}
use Rattle.line.specs.declared.rules.Phase.TheVariants.{Frame, Group}
use Rattle.line.specs.declared.rules.Move.{Move}
use Rattle.line.specs.declared.rules.Move.TheVariants.{Quiet, Opens, Says, Adds, Judges}
use Rattle.line.specs.declared.step.Reaction.{Reaction}

-- what was heard, by the lent bytes that its stretches lie in
unfoldable pub heard_answer : Heard → List ℕ → Option LineAnswer
heard_answer Nothing content = none
heard_answer (Accepted fields) content =
    some (given (group_of (part_of fields.label content) (part_of fields.stamp content)
    (part_of fields.«data» content)))
heard_answer (Told notice) content = some (refused notice)

-- what judging tells, as the line hears it
abbrev pub heard_from : Result Fields Fault → Heard
heard_from (Ok fields) = Accepted fields
heard_from (Err fault) = Told (GroupRefused fault.refusal fault.place)

-- a group that is complete
unfoldable pub heard_of : ℕ → Bool → Bool → List ℕ → Heard
heard_of mode damaged overlong content =
    pick damaged (Told GroupDamaged)
    (pick overlong (Told (GroupRefused TooLong 0)) (heard_from (judgement mode content)))

-- what a byte does: the numbers of the line afterwards, what was heard, and the lent bytes
pub record After : Type 0 where
  pub line : LineState
  pub heard : Heard
  pub content : List ℕ

abbrev pub quiet_of : ℕ → ℕ → Phase → ℕ → List ℕ → After
quiet_of mode frame p n content = record { line = state_of mode frame p n; heard = Nothing; content = content }

-- a group was judged: the frame goes on, flawed where it was not accepted
abbrev pub ended_of : ℕ → ℕ → Bool → Heard → List ℕ → After
ended_of mode frame flaw (Accepted fields) content =
    record { line = state_of mode frame (Frame flaw) 0; heard = Accepted fields; content = content }
ended_of mode frame flaw (Told notice) content =
    record { line = state_of mode frame (Frame true) 0; heard = Told notice; content = content }
ended_of mode frame flaw Nothing content =
    record { line = state_of mode frame (Frame true) 0; heard = Nothing; content = content }

-- on a line of a mode, whose frame has this number after the byte, with so many characters of content
abbrev pub acted : ℕ → ℕ → ℕ → List ℕ → Move → After
acted mode frame n content (Quiet p) = quiet_of mode frame p n content
acted mode frame n content (Opens flaw) = quiet_of mode frame (Group flaw false false) 0 content
acted mode frame n content (Says p notice) =
    record { line = state_of mode frame p 0; heard = Told notice; content = content }
acted mode frame n content (Adds flaw damaged overlong c) =
    pick (ltb n 128)
    (quiet_of mode frame (Group flaw damaged overlong) (n + 1) (set content n c))
    (quiet_of mode frame (Group flaw damaged true) n content)
acted mode frame n content (Judges flaw damaged overlong) =
    ended_of mode frame flaw (heard_of mode damaged overlong (take n content)) content

-- on a line as its numbers are read
abbrev pub reacted : Line → List ℕ → ℕ → After
reacted l content byte =
    acted l.mode (frame_at l.frame (symbol_of byte)) l.held content (move l.phase (symbol_of byte))

unfoldable pub stepped : LineState → List ℕ → ℕ → After
stepped l content byte =
    acted l.mode (frame_at l.frame (symbol_of byte)) (held_in l) content (move (phase_of l) (symbol_of byte))

-- the code's reaction, and the lent bytes after it
pub record Stepped (a : After) (result : Reaction) (content : List ℕ) : Type 0 where
  pub line_is : written result.line ≡ a.line
  pub heard_is : result.heard ≡ a.heard
  pub leaves : content ≡ a.content

-- ---- A stretch of bytes, up to one that gives an answer; n were taken before

pub record FedTo : Type 0 where
  pub result : Taken
  pub content : List ℕ

abbrev pub fed_on : Heard → LineState → ℕ → List ℕ → FedTo → FedTo
fed_on Nothing l n content more = more
fed_on (Accepted fields) l n content more =
    record { result = record { line = l; count = n; heard = Accepted fields }; content = content }
fed_on (Told notice) l n content more =
    record { result = record { line = l; count = n; heard = Told notice }; content = content }

unfoldable pub fed : ℕ → LineState → List ℕ → List ℕ → FedTo
fed n l content [] = record { result = record { line = l; count = n; heard = Nothing }; content = content }
fed n l content (b ∷ bs) =
    fed_on (stepped l content b).heard (stepped l content b).line (n + 1) (stepped l content b).content
    (fed (n + 1) (stepped l content b).line (stepped l content b).content bs)

pub record Fed (a : FedTo) (result : Taken) (content : List ℕ) : Type 0 where
  pub results : result ≡ a.result
  pub leaves : content ≡ a.content
