-- One line: what each byte does, and what bytes do one after the other (document 01, "One line").
use Rattle.std.specs.Prelude.{Bool, true, false, ◌||◌, List, [], ◌∷◌, ◌++◌, ℕ, suc, ltb, length}
use Rattle.std.proofs.Math.Option.{Option, none, some}
use Rattle.characters.specs.Answers.{Answer, refused, given, pick}
use Rattle.groups.specs.Groups.{Group}
use Rattle.groups.specs.Judging.{judging}
use Rattle.groups.specs.Place.{place_of}
use Rattle.groups.specs.declared.Refusal.{Refusal}
use Rattle.groups.specs.declared.Refusal.TheVariants.{TooLong}
use Rattle.line.specs.Symbols.{symbol_of}
use Rattle.line.specs.Rules.{move}
use Rattle.line.specs.declared.Notice.{Notice}
use Rattle.line.specs.declared.Notice.TheVariants.{GroupDamaged, GroupRefused}
use Rattle.line.specs.declared.rules.Phase.{Phase}
use Rattle.line.specs.declared.rules.Phase.TheVariants as phase
use Rattle.line.specs.declared.rules.Move.{Move}
use Rattle.line.specs.declared.rules.Move.TheVariants.{Quiet, Opens, Says, Adds, Judges}

-- an answer of a line: an accepted group, or a notice
abbrev pub LineAnswer : Type 0
LineAnswer = Answer Notice Group

-- where a line is, and the content of its group so far
pub record State : Type 0 where
  pub phase : Phase
  pub content : List ℕ

-- what a byte does: the line afterwards, and "at most one answer"
pub record Step : Type 0 where
  pub state : State
  pub answer : Option LineAnswer

-- only a group has content
abbrev pub held_by : Phase → List ℕ → List ℕ
held_by phase.Outside c = []
held_by (phase.Frame flaw) c = []
held_by (phase.Group flaw damaged overlong) c = c

-- "content, up to 128; from the 129th on the group is too long"
unfoldable pub added : Bool → Bool → Bool → List ℕ → ℕ → State
added flaw damaged overlong content c =
    pick (ltb (length content) 128)
    (record { phase = phase.Group flaw damaged overlong; content = content ++ c ∷ [] })
    (record { phase = phase.Group flaw damaged true; content = content })

-- what the groups' reader says, with the place that it tells, as an answer of the line
abbrev pub of_group : Answer Refusal Group → ℕ → LineAnswer
of_group (given g) place = given g
of_group (refused refusal) place = refused (GroupRefused refusal place)

-- "Order: 7 to 14 as numbered": a damaged byte in the group, content over 128, and then the reader's word
unfoldable pub verdict : ℕ → Bool → Bool → List ℕ → LineAnswer
verdict mode damaged overlong content =
    pick damaged (refused GroupDamaged)
    (pick overlong (refused (GroupRefused TooLong 0)) (of_group (judging mode content) (place_of mode content)))

abbrev pub is_refused : LineAnswer → Bool
is_refused (refused notice) = true
is_refused (given g) = false

-- "the group is judged, answer 1 or a refusal (which sets the flaw); then in the frame"
abbrev pub ended : Bool → LineAnswer → Step
ended flaw a = record { state = record { phase = phase.Frame (flaw || is_refused a); content = [] }; answer = some a }

abbrev pub does : ℕ → List ℕ → Move → Step
does mode content (Quiet p) = record { state = record { phase = p; content = held_by p content }; answer = none }
does mode content (Opens flaw) =
    record { state = record { phase = phase.Group flaw false false; content = [] }; answer = none }
does mode content (Says p notice) =
    record { state = record { phase = p; content = [] }; answer = some (refused notice) }
does mode content (Adds flaw damaged overlong c) =
    record { state = added flaw damaged overlong content c; answer = none }
does mode content (Judges flaw damaged overlong) = ended flaw (verdict mode damaged overlong content)

-- one byte on a line of the mode with this number
unfoldable pub step : ℕ → State → ℕ → Step
step mode s byte = does mode s.content (move s.phase (symbol_of byte))

-- ---- Bytes one after the other

unfoldable pub after : ℕ → State → List ℕ → State
after mode s [] = s
after mode s (b ∷ bs) = after mode (step mode s b).state bs

module _ {A : Type 0} where
  abbrev pub and_then : Option A → List A → List A
  and_then none more = more
  and_then (some a) more = a ∷ more

-- at most one answer, as a list
abbrev pub listed : Option LineAnswer → List LineAnswer
listed none = []
listed (some a) = a ∷ []

unfoldable pub answers : ℕ → State → List ℕ → List LineAnswer
answers mode s [] = []
answers mode s (b ∷ bs) = and_then (step mode s b).answer (answers mode (step mode s b).state bs)

-- a line that was just opened
abbrev pub outside : State
outside = record { phase = phase.Outside; content = [] }

-- a frame, flawed or not, with no group open
abbrev pub in_frame : Bool → State
in_frame flaw = record { phase = phase.Frame flaw; content = [] }

-- how many bytes there are up to and including the first that gives an answer; all of them where none does
abbrev pub onward : Option LineAnswer → ℕ → ℕ
onward none n = suc n
onward (some a) n = 1

unfoldable pub until_answer : ℕ → State → List ℕ → ℕ
until_answer mode s [] = 0
until_answer mode s (b ∷ bs) = onward (step mode s b).answer (until_answer mode (step mode s b).state bs)
