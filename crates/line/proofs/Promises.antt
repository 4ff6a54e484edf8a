-- What the crate promises of one line: only the statements need to be read.
use Rattle.std.specs.Prelude.{◌≡◌, ◌↔◌, Some, Bool, true, false, not, ◌||◌, List, [], ◌∷◌, ◌++◌, map, ℕ, suc, ◌+◌, ◌%◌, ◌≤◌, ◌<◌, T, eqb, length, take}
use Rattle.std.proofs.Math.Option.{none, some}
use Rattle.characters.specs.Answers.{given, refused, every, pick}
use Rattle.characters.specs.Wire.{is_sound, character_of, STX, CR, ETX}
use Rattle.groups.specs.Kinds.{within}
use Rattle.groups.specs.Modes.{mode_of, is_mode, separator}
use Rattle.groups.specs.Groups.{Group}
use Rattle.groups.specs.Conditions.{label_of}
use Rattle.groups.specs.FirstWrong.{WrongDataAt}
use Rattle.groups.specs.Writing.{writing}
use Rattle.groups.proofs.Laws.Table.{distinct}
use Rattle.groups.specs.declared.Mode.{Mode}
use Rattle.line.specs.Symbols.{symbol_of}
use Rattle.line.specs.Lines.{LineAnswer, State, is_refused, step, after, answers, outside, in_frame, until_answer}
use Rattle.line.specs.Between.{no_control, no_stx, group_answer, SoundFrame}
use Rattle.line.specs.Entries.{Entry, accepted, only, Framed, framed, unframed, number_in, place_in}
use Rattle.line.specs.FrameNumbers.{begun, framed_after, framed_answers}
use Rattle.line.specs.ByBytes.{
  is,
  open_frame,
  open_group,
  group_due,
  answer_due,
  count_of,
  frame_number,
  entry_due,
  answers_due,
  up_to_answer,
  EndsInRightGroup,
  RightFrame,
}
use Rattle.line.specs.Longest.{rows_in, longest_frame}
use Rattle.line.specs.Numbers.{number_of_answer, shown, shown_if, shown_framed, number_of, place_of, number_of_opening}
use Rattle.line.specs.State.{line_of, opening_of}
use Rattle.line.specs.Steps.{heard_answer, fed}
use Rattle.line.proofs.Views.{FedView, fed_view}
use Rattle.line.proofs.Laws.Bytes.{after_append, answers_append, unsound_damaged}
use Rattle.line.proofs.Laws.Groups.{group_answered, group_ends}
use Rattle.line.proofs.Laws.Written.{written_sent}
use Rattle.line.proofs.Laws.Frames.{stx_restarts, frame_sound}
use Rattle.line.proofs.Laws.ByBytes as by_bytes
use Rattle.line.proofs.Laws.FrameNumbers as frames
use Rattle.line.proofs.Laws.GroupsByBytes as group_laws
use Rattle.line.proofs.Laws.PlacesByBytes as places
use Rattle.line.proofs.Laws.AcceptedByBytes as accepted_laws
use Rattle.line.proofs.Laws.SoundByBytes as sound_laws
use Rattle.line.proofs.Laws.FromStx as from_stx
use Rattle.line.proofs.Laws.Longest as lengths
use Rattle.line.proofs.Laws.Numbers as numbers
use Rattle.line.specs.declared.LineState.{LineState}
use Rattle.line.specs.declared.Heard.{Heard}
use Rattle.line.specs.declared.Notice.TheVariants.{FrameSound}
use Rattle.line.specs.declared.rules.Symbol.TheVariants.{Stx, Etx, Lf, Cr, Damaged}

-- Where bytes are cut makes no difference: two stretches, one after the other, have the answers of the whole and leave
-- the line where the whole leaves it.
pub cut_independent : (mode : ℕ) (s : State) (a b : List ℕ)
    → (answers mode s (a ++ b) ≡ answers mode s a ++ answers mode (after mode s a) b)
    × (after mode s (a ++ b) ≡ after mode (after mode s a) b)
cut_independent mode s a b = (answers_append mode s a b, after_append mode s a b)

-- In a frame an LF, bytes that are no sound control characters, and a CR have one answer, that of a group of these
-- bytes. The line is then in the frame, which has a flaw if it had one before or if the group was refused.
pub group_in_frame : (mode : ℕ) (flaw : Bool) (lf cr : ℕ) (bs : List ℕ) → symbol_of lf ≡ Lf → symbol_of cr ≡ Cr
    → T (no_control bs)
    → (answers mode (in_frame flaw) (lf ∷ (bs ++ cr ∷ [])) ≡ group_answer mode bs ∷ [])
    × (after mode (in_frame flaw) (lf ∷ (bs ++ cr ∷ [])) ≡ in_frame (flaw || is_refused (group_answer mode bs)))
group_in_frame mode flaw lf cr bs l r i =
    (group_answered mode flaw lf cr bs l r i, group_ends mode flaw lf cr bs l r i)

-- What the writer makes of a group, sent in a frame of the same mode, is answered by exactly this group, and the frame
-- has no flaw that it had not before.
pub written_in_frame : (mode : ℕ) (flaw : Bool) (g : Group) (room : ℕ) (w : List ℕ) → writing mode g room ≡ given w
    → (answers mode (in_frame flaw) w ≡ given g ∷ []) × (after mode (in_frame flaw) w ≡ in_frame flaw)
written_in_frame = written_sent

-- An opening is 0 exactly for a known mode, and 19 for every other number.
pub opening_number : (mode : ℕ) → number_of_opening (opening_of mode) ≡ pick (is_mode mode) 0 19
opening_number = numbers.opening_numbered

-- A line that is opened is outside, in the mode that was asked for, and its frame number is 0.
pub opened_outside : (mode : ℕ) (l : LineState) (content : List ℕ) → opening_of mode ≡ Some l
    → (line_of l content ≡ outside) × (l.mode ≡ mode) × (l.frame ≡ 0)
opened_outside = numbers.opened_outside

-- An answer has one number: alone, with its fields as a sheet shows it, and as the code heard it, 0 where it heard none.
pub answer_number : (a : LineAnswer) → number_of_answer a ≡ (shown a).number
answer_number = numbers.answer_shown

pub heard_number : (h : Heard) (content : List ℕ) → number_of h ≡ number_in (shown_if (heard_answer h content))
heard_number = numbers.heard_number

-- So with its place (document 02, M-104), 0 where it has none.
pub heard_place : (h : Heard) (content : List ℕ) → place_of h ≡ place_in (shown_if (heard_answer h content))
heard_place = numbers.heard_place

-- On a line of a known mode, wherever it is and whatever bytes come, every answer has a number of 1 to 14.
pub answer_numbers : (mode : ℕ) → is_mode mode ≡ true → (s : State) (bs : List ℕ)
    → T (every (λ a. within 1 14 (number_of_answer a)) (answers mode s bs))
answer_numbers = numbers.all_numbered

-- In a frame that has just begun, after bytes without STX, an ETX is answered by "frame sound" exactly when these bytes
-- are accepted groups, one behind the other.
pub frame_sound_exactly : (mode : ℕ) (bs : List ℕ) (etx : ℕ) → T (no_stx bs) → symbol_of etx ≡ Etx
    → ((step mode (after mode (in_frame false) bs) etx).answer ≡ some (refused FrameSound)) ↔ SoundFrame mode bs
frame_sound_exactly = frame_sound

-- In every mode, after any bytes since the opening, the next byte's answer, with its number, is the one that is due by the
-- bytes alone (`ByBytes.antt`).
pub answer_by_bytes : (mode : ℕ) (m : Mode) → mode_of mode ≡ some m → (before : List ℕ) (b : ℕ)
    → shown_if (step mode (after mode outside before) b).answer ≡ answer_due m before b
answer_by_bytes = by_bytes.answer_by_bytes

-- So are all answers to bytes that follow, one after the other, with the numbers of their frames (document 02, M-108).
pub answers_by_bytes : (mode : ℕ) (m : Mode) → mode_of mode ≡ some m → (before bs : List ℕ)
    → map shown_framed (framed_answers mode (framed_after mode begun before) bs) ≡ answers_due m before bs
answers_by_bytes = by_bytes.answers_behind_lem

-- From the opening on too.
pub opened_by_bytes : (mode : ℕ) (m : Mode) → mode_of mode ≡ some m → (bs : List ℕ)
    → map shown_framed (framed_answers mode begun bs) ≡ answers_due m [] bs
opened_by_bytes = by_bytes.all_by_bytes

-- Without its number an answer is the line's, which knows of none.
pub answers_bare : (mode : ℕ) (s : Framed State) (bs : List ℕ)
    → map (λ (a : Framed LineAnswer). a.what) (framed_answers mode s bs) ≡ answers mode s.what bs
answers_bare = frames.answers_bare

-- The number of a frame, by the bytes alone: with an answer it is the count of the sound STX since the opening, its own byte
-- among them, by remainder of 65,536.
pub number_counted : (m : Mode) (before : List ℕ) (b : ℕ) (e : Framed Entry) → entry_due m before b ≡ some e
    → (e.frame ≡ count_of (is STX) (before ++ b ∷ []) % 65536) × (answer_due m before b ≡ some e.what)
number_counted = frames.number_counted

-- The same in document 02's words: "0 when opened, one more at every STX, 65,535 followed by 0".
pub number_opened : frame_number [] ≡ 0
number_opened = frames.number_opened

pub number_next : (before : List ℕ) (b : ℕ)
    → frame_number (before ++ b ∷ [])
    ≡ pick (is STX b) (pick (eqb (frame_number before) 65535) 0 (suc (frame_number before))) (frame_number before)
number_next = frames.number_next

-- So it tells "which groups came together": of two bytes with fewer than 65,536 STX between them it is the same exactly where
-- there is none between them.
pub number_same : (before bs : List ℕ) → count_of (is STX) bs < 65536
    → (frame_number (before ++ bs) ≡ frame_number before) ↔ (count_of (is STX) bs ≡ 0)
number_same = frames.number_same

-- And so is the count of bytes up to and including the first that gives an answer.
pub count_by_bytes : (mode : ℕ) (m : Mode) → mode_of mode ≡ some m → (before bs : List ℕ)
    → until_answer mode (after mode outside before) bs ≡ up_to_answer m before bs
count_by_bytes = by_bytes.until_by_bytes

-- The answer is an accepted group exactly at a sound CR that ends a group of an open frame whose bytes are all sound and whose
-- characters are a right group with these fields.
pub accepted_by_bytes : (m : Mode) (before : List ℕ) (b : ℕ) (g : Group)
    → (answer_due m before b ≡ some (accepted g)) ↔ (T (is CR b) × EndsInRightGroup m before g)
accepted_by_bytes = accepted_laws.accepted_by_bytes

-- Document 02, M-104. A group that is answered by 14 comes with the place of its first wrong data character, one that is answered by
-- 12 with that of the first character after the label's separator, and any other with 0.
pub data_placed : (m : Mode) (bs : List ℕ) → (group_due m bs).number ≡ 14
    → WrongDataAt m (map character_of bs) (group_due m bs).place
data_placed = places.data_placed

pub stamp_placed : (m : Mode) (bs : List ℕ) → (group_due m bs).number ≡ 12
    → take (group_due m bs).place (map character_of bs) ≡ label_of m (map character_of bs) ++ separator m ∷ []
stamp_placed = places.stamp_placed

pub others_unplaced : (m : Mode) (bs : List ℕ)
    → T (not (eqb (group_due m bs).number 12)) → T (not (eqb (group_due m bs).number 14)) → (group_due m bs).place ≡ 0
others_unplaced = places.others_unplaced

-- A group is answered by 7 exactly when one of its bytes is unsound, and by 8 exactly when none is and more than 128 came.
pub damaged_exactly : (m : Mode) (bs : List ℕ) → ((group_due m bs).number ≡ 7) ↔ T (not (every is_sound bs))
damaged_exactly = group_laws.damaged_exactly

pub too_long_exactly : (m : Mode) (bs : List ℕ)
    → ((group_due m bs).number ≡ 8) ↔ (T (every is_sound bs) × (128 < length bs))
too_long_exactly = group_laws.too_long_exactly

-- In an open frame an ETX is answered by 2 exactly when the bytes since the STX are right groups, all of sound bytes, one
-- behind the other.
pub sound_by_bytes : (m : Mode) (before since : List ℕ) (etx : ℕ) → open_frame before ≡ some since → T (is ETX etx)
    → (answer_due m before etx ≡ some (only 2)) ↔ RightFrame m since
sound_by_bytes = sound_laws.sound_by_bytes

-- What the writer makes of a group, sent in an open frame with no group open, is answered by exactly this group, with the
-- number of this frame.
pub written_by_bytes : (mode : ℕ) (m : Mode) → mode_of mode ≡ some m → (g : Group) (room : ℕ) (w : List ℕ)
    → writing mode g room ≡ given w → (before since : List ℕ) → open_frame before ≡ some since
    → open_group since ≡ none → answers_due m before w ≡ framed (frame_number before) (accepted g) ∷ []
written_by_bytes = by_bytes.written_by_bytes

-- Wherever a line is, an STX puts it into a frame without a flaw.
pub stx_restarts_any : (mode : ℕ) (s : State) (b : ℕ) → symbol_of b ≡ Stx → (step mode s b).state ≡ in_frame false
stx_restarts_any = stx_restarts

-- Document 02, M-113: "After any bytes at all on an open line, the first sound STX puts it right." Wherever a line is, and
-- whatever number its frame has: behind a sound STX "every answer is the one a freshly opened line of the same mode gives when
-- fed from the same STX", the numbers of the frames apart, and the line is where that one is. (`fed_as_the_line`, below, says
-- that every value of the code's numbers and bytes is such a line.)
pub back_on_its_feet : (mode : ℕ) (s : Framed State) (stx : ℕ) → T (is STX stx) → (bs : List ℕ)
    → (unframed (framed_answers mode (framed_after mode s (stx ∷ [])) bs)
    ≡ unframed (framed_answers mode (framed_after mode begun (stx ∷ [])) bs))
    × ((framed_after mode s (stx ∷ bs)).what ≡ (framed_after mode begun (stx ∷ bs)).what)
back_on_its_feet mode s stx h bs = (from_stx.same_answers mode s begun stx h bs, from_stx.same_line mode s begun stx h bs)

-- The same by the bytes alone: each answer "from the byte after that STX" is the one that is due with nothing before the STX.
pub restarted_by_bytes : (m : Mode) (before since : List ℕ) (stx b : ℕ) → T (is STX stx)
    → answer_due m (before ++ stx ∷ since) b ≡ answer_due m (stx ∷ since) b
restarted_by_bytes = from_stx.answer_from

-- "The answer at the STX itself may differ, being 5 or none": 5 where a frame was open, and none where none was.
pub stx_in_frame : (m : Mode) (before since : List ℕ) (stx : ℕ) → T (is STX stx) → open_frame before ≡ some since
    → answer_due m before stx ≡ some (only 5)
stx_in_frame = from_stx.at_stx_open

pub stx_outside : (m : Mode) (before : List ℕ) (stx : ℕ) → open_frame before ≡ none → answer_due m before stx ≡ none
stx_outside = from_stx.at_stx_none

-- "and so may frame numbers": what went before puts them forward by its own count of STX, by remainder.
pub number_forward : (before bytes : List ℕ)
    → frame_number (before ++ bytes) ≡ (frame_number before + frame_number bytes) % 65536
number_forward = from_stx.number_forward

-- So they are not to be compared: an empty frame is answered by 2 behind another one and alone, with another number.
pub numbers_differ : (m : Mode) (stx etx : ℕ) → T (is STX stx) → T (is ETX etx)
    → (answers_due m (stx ∷ etx ∷ stx ∷ []) (etx ∷ []) ≡ framed 2 (only 2) ∷ [])
    × (answers_due m (stx ∷ []) (etx ∷ []) ≡ framed 1 (only 2) ∷ [])
numbers_differ = from_stx.empty_frames

-- How far that STX can be: a frame of right groups, in which no label comes twice, has at most so many bytes with its STX and ETX:
-- 536 in historic mode, 1,727 in standard mode, 1,693 in that of the business meter.
pub longest_frame_lem : (m : Mode) (since : List ℕ) (f : RightFrame m since) → T (distinct (rows_in since f))
    → length since + 2 ≤ longest_frame m
longest_frame_lem = lengths.frame_most

-- An unsound byte is never a control character.
pub unsound_never_control : (b : ℕ) → is_sound b ≡ false → symbol_of b ≡ Damaged
unsound_never_control = unsound_damaged

-- What the code does to its numbers and the lent bytes, on every value, is what the line does: as many bytes as there
-- are up to the first answer, the line and its frame number after them, their answer, and its fields inside the lent bytes.
pub fed_as_the_line : (l : LineState) (content bs : List ℕ) → length content ≡ 128
    → FedView l.mode l.frame 0 (fed 0 l content bs) (line_of l content) bs
fed_as_the_line = fed_view 0
