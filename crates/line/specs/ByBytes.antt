-- Document 01's line by its bytes alone: no state, and none of the rules of `Rules.antt`. `before` are the bytes since the
-- opening, b is the next one, and its answer is found by looking back. `answers_by_bytes` in `Promises.antt` says that the
-- line of `Lines.antt` gives the same answers.
use Rattle.std.specs.Prelude.{◌≡◌, Bool, true, false, not, ◌&&◌, ◌||◌, List, [], ◌∷◌, ◌++◌, map, ℕ, suc, ◌%◌, T, eqb}
use Rattle.std.proofs.Math.Option.{Option, none, some}
use Rattle.characters.specs.Answers.{every, pick, first_of}
use Rattle.characters.specs.Wire.{is_sound, character_of, STX, ETX, EOT, LF, CR}
use Rattle.groups.specs.Groups.{Group}
use Rattle.groups.specs.Conditions.{conditions, fields_at}
use Rattle.groups.specs.Place.{place_by}
use Rattle.groups.specs.Right.{RightGroup}
use Rattle.groups.specs.declared.Mode.{Mode}
use Rattle.line.specs.Entries.{Entry, accepted, refused_at, only, Framed, framed_if, entry_list}

-- a sound byte of this character: "An unsound byte is never a control character."
unfoldable pub is : ℕ → ℕ → Bool
is character b = is_sound b && eqb (character_of b) character

-- ---- Looking back

-- the bytes behind the last that begins something, if none of them ends it
unfoldable pub open_since : (ℕ → Bool) → (ℕ → Bool) → List ℕ → Option (List ℕ)
open_since begins ends [] = none
open_since begins ends (b ∷ bs) =
    pick (begins b && every (λ x. not (begins x || ends x)) bs) (some bs) (open_since begins ends bs)

-- a frame is open when no ETX and no EOT came since the last STX: the bytes since then
abbrev pub open_frame : List ℕ → Option (List ℕ)
open_frame before = open_since (is STX) (λ b. is ETX b || is EOT b) before

-- a group is open in it when no CR came since the last LF in it: the bytes since then
abbrev pub open_group : List ℕ → Option (List ℕ)
open_group since = open_since (is LF) (is CR) since

-- ---- A group

-- an answer by its number: the group's fields belong to 1 alone, and a refusal has a place
abbrev pub numbered : ℕ → Group → ℕ → Entry
numbered n g place = pick (eqb n 1) (accepted g) (refused_at n place)

-- the answer to a content whose number is n
abbrev pub due_by : Mode → List ℕ → ℕ → Entry
due_by m c n = numbered n (fields_at m c) (place_by m c n)

-- "Order: 7 to 14 as numbered": 7, "a damaged byte in the group", and then what document 01 says of the characters
unfoldable pub group_due : Mode → List ℕ → Entry
group_due m bs =
    due_by m (map character_of bs) (first_of 1 ((7, not (every is_sound bs)) ∷ conditions m (map character_of bs)))

-- ---- The flaw

-- no group open: "Any other byte in a frame", than LF, "CR included, sets the flaw". A group open: LF ("answer 6, flaw"),
-- and CR where the group gets "a refusal (which sets the flaw)".
abbrev pub flaws : Mode → Option (List ℕ) → ℕ → Bool
flaws m none b = not (is LF b)
flaws m (some inner) b = is LF b || is CR b && not (eqb (group_due m inner).number 1)

-- one of the bytes of a frame, behind those in front of it, set the flaw
unfoldable pub flawed_behind : Mode → List ℕ → List ℕ → Bool
flawed_behind m front [] = false
flawed_behind m front (b ∷ bs) = flaws m (open_group front) b || flawed_behind m (front ++ b ∷ []) bs

abbrev pub is_flawed : Mode → List ℕ → Bool
is_flawed m since = flawed_behind m [] since

-- ---- The answer due to the next byte

-- ETX "From a frame: 2 if no flaw, else 3. From a group: 3."
abbrev pub at_end : Mode → List ℕ → Option (List ℕ) → Entry
at_end m since none = pick (is_flawed m since) (only 3) (only 2)
at_end m since (some inner) = only 3

-- "6: LF inside a group"; "CR in a group: the group is judged"; nothing else in a frame has an answer
abbrev pub due_in_group : Mode → Option (List ℕ) → ℕ → Option Entry
due_in_group m none b = none
due_in_group m (some inner) b = pick (is LF b) (some (only 6)) (pick (is CR b) (some (group_due m inner)) none)

-- "5: STX before the frame ended"; "2, 3: frame ended, unflawed or flawed"; "4: frame interrupted by EOT"; with no frame
-- open, nothing
abbrev pub due_in_frame : Mode → Option (List ℕ) → ℕ → Option Entry
due_in_frame m none b = none
due_in_frame m (some since) b =
    pick (is STX b) (some (only 5))
    (pick (is ETX b) (some (at_end m since (open_group since)))
    (pick (is EOT b) (some (only 4))
    (due_in_group m (open_group since) b)))

unfoldable pub answer_due : Mode → List ℕ → ℕ → Option Entry
answer_due m before b = due_in_frame m (open_frame before) b

-- ---- The number of its frame

module _ {A : Type 0} where
  -- how many of some are so
  abbrev pub count_of : (A → Bool) → List A → ℕ
  count_of f [] = 0
  count_of f (x ∷ xs) = pick (f x) (suc (count_of f xs)) (count_of f xs)

-- document 02, M-108: "0 when opened, one more at every STX, 65,535 followed by 0"; how many STX there are since the opening
unfoldable pub frame_number : List ℕ → ℕ
frame_number bytes = count_of (is STX) bytes % 65536

-- the answer due to the next byte with its number, in which this byte counts: "an answer 5 carries the new number"
abbrev pub entry_due : Mode → List ℕ → ℕ → Option (Framed Entry)
entry_due m before b = framed_if (frame_number (before ++ b ∷ [])) (answer_due m before b)

-- those due to bytes one after the other, behind those before them
unfoldable pub answers_due : Mode → List ℕ → List ℕ → List (Framed Entry)
answers_due m before [] = []
answers_due m before (b ∷ bs) = entry_list (entry_due m before b) ++ answers_due m (before ++ b ∷ []) bs

abbrev pub is_answered : Option Entry → Bool
is_answered none = false
is_answered (some e) = true

-- how many bytes there are up to and including the first that gives an answer; all of them where none does
unfoldable pub up_to_answer : Mode → List ℕ → List ℕ → ℕ
up_to_answer m before [] = 0
up_to_answer m before (b ∷ bs) =
    pick (is_answered (answer_due m before b)) 1 (suc (up_to_answer m (before ++ b ∷ []) bs))

-- ---- What is said of a line in other words

-- the bytes end in an LF in a frame that is open, and then in the sound bytes of a right group with these fields
pub record EndsInRightGroup (m : Mode) (before : List ℕ) (g : Group) : Type 0 where
  pub front : List ℕ
  pub since : List ℕ
  pub lf : ℕ
  pub inner : List ℕ
  pub whole : before ≡ front ++ lf ∷ inner
  pub frame_is_open : open_frame front ≡ some since
  pub begins : T (is LF lf)
  pub all_sound : T (every is_sound inner)
  pub right : RightGroup m (map character_of inner) g

-- the bytes since an STX are right groups, all of sound bytes, one behind the other
pub data RightFrame (m : Mode) : List ℕ → Type 0 where
  empty : RightFrame m []
  group : (lf cr : ℕ) (inner more : List ℕ) (g : Group) → T (is LF lf) → T (every is_sound inner)
      → RightGroup m (map character_of inner) g → T (is CR cr) → RightFrame m more
      → RightFrame m (lf ∷ (inner ++ cr ∷ more))
