-- What a call is owed, from what its callers know: the number that document 01 gives it, what a refusal leaves, and what an
-- accepted round tells of a line.
use Rattle.std.specs.Prelude.{Bool, false, ◌||◌, List, [], ◌∷◌, ℕ, ◌+◌, eqb, leb, ltb, length, take, replicate}
use Rattle.std.proofs.Math.Option.{Option, none, some}
use Rattle.characters.specs.Answers.{pick}
use Rattle.groups.specs.Modes.{is_known}
use Rattle.groups.specs.declared.Mode.{Mode}
use Rattle.line.specs.Entries.{first_entry}
use Rattle.line.specs.ByBytes.{answers_due, up_to_answer}
use Rattle.station.specs.Sheets.{Told, idle}
use Rattle.station.specs.History.{
  Call,
  opens,
  delivers,
  serves,
  Account,
  account_of,
  bytes_taken,
  bytes_waiting,
}

-- the numbers that a call of each kind can have
abbrev pub numbers_of : Call → List ℕ
numbers_of (opens i mode) = 0 ∷ 16 ∷ 19 ∷ []
numbers_of (delivers i bytes) = 0 ∷ 15 ∷ 16 ∷ 17 ∷ []
numbers_of (serves sheet) = 0 ∷ 18 ∷ []

abbrev pub is_among : ℕ → List ℕ → Bool
is_among n [] = false
is_among n (m ∷ ms) = eqb n m || is_among n ms

-- the number of a delivery to a line, by its account
abbrev pub delivery_due : Account → List ℕ → ℕ
delivery_due a bytes = pick (is_known a.mode) (pick (leb (length (bytes_waiting a) + length bytes) 256) 0 15) 17

-- the number of a call that follows others: "Opening: 16, 19. Delivery: 16, 17, 15. Round: 18."
abbrev pub number_due : List Call → Call → ℕ
number_due before (opens i mode) = pick (leb 8 i) 16 (pick (ltb mode 3) 0 19)
number_due before (delivers i bytes) = pick (leb 8 i) 16 (delivery_due (account_of i before) bytes)
number_due before (serves sheet) = pick (leb 1096 (length sheet)) 0 18

-- the bytes that a call lends
abbrev pub lent_by : Call → List ℕ
lent_by (opens i mode) = []
lent_by (delivers i bytes) = bytes
lent_by (serves sheet) = sheet

-- the counts of a refused call: "A refused round gives eight zero counts."
abbrev pub no_counts : Call → List ℕ
no_counts (opens i mode) = []
no_counts (delivers i bytes) = []
no_counts (serves sheet) = replicate 8 0

-- "Each open line's turn takes its oldest bytes, at most" so many, "and ends early after a byte that gives an answer": what
-- is told of a turn behind the bytes taken before it
abbrev pub turn_behind : Mode → List ℕ → List ℕ → Told
turn_behind m before oldest = record { count = up_to_answer m before oldest; entry = first_entry (answers_due m before oldest) }

-- a closed line's turn is idle
abbrev pub turn_in : ℕ → Option Mode → Account → Told
turn_in most none a = idle
turn_in most (some m) a = turn_behind m (bytes_taken a) (take most (bytes_waiting a))

abbrev pub turn_due : ℕ → Account → Told
turn_due most a = turn_in most a.mode a
