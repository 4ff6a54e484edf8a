-- The three demands, and nothing but their statements, in terms of bytes, right groups and what the callers saw. `next` and
-- `gets` are what a call does and what its caller gets: the contracts of the code cite them, so nothing of what they say has
-- to be believed. `History.antt` has what the callers know of a line (its account, read off the numbers and the bytes of the
-- lent sheets), `Due.antt` what a call is owed by it. Every statement is of any list of calls, refused ones among them, from
-- the station with all lines closed, or of any station at all.
use Rattle.std.specs.Prelude.{◌≡◌, ◌≢◌, ◌↔◌, not, List, [], ◌∷◌, ◌++◌, map, ℕ, suc, ◌+◌, ◌/◌, ◌%◌, ◌≤◌, ◌<◌, T, eqb, length, take, drop}
use Rattle.std.proofs.Math.Option.{none, some}
use Rattle.characters.specs.Answers.{given, every, pick, first_of}
use Rattle.characters.specs.Wire.{is_sound, character_of, STX, ETX, CR}
use Rattle.groups.specs.Modes.{mode_of, separator}
use Rattle.groups.specs.Groups.{Group}
use Rattle.groups.specs.Judging.{judging}
use Rattle.groups.specs.Writing.{on_the_wire, off_the_wire, writing, told}
use Rattle.groups.specs.Conditions.{label_of, given_when}
use Rattle.groups.specs.Place.{place_of, judgement}
use Rattle.groups.specs.FirstWrong.{WrongDataAt}
use Rattle.groups.specs.WriterConditions.{written_when}
use Rattle.groups.specs.Numbers.{number_of, number_of_writing}
use Rattle.groups.specs.Right.{RightGroup}
use Rattle.groups.proofs.Promises as groups
use Rattle.groups.specs.declared.Mode.{Mode}
use Rattle.line.specs.Entries.{Entry, accepted, only, Framed, framed, unframed}
use Rattle.line.specs.ByBytes.{
  is,
  open_frame,
  open_group,
  group_due,
  answer_due,
  count_of,
  frame_number,
  entry_due,
  answers_due,
  EndsInRightGroup,
  RightFrame,
}
use Rattle.line.proofs.Promises as line
use Rattle.station.specs.Stations.{all_closed}
use Rattle.station.specs.Sheets.{sheet_of}
use Rattle.station.specs.Reading.{read_turn, turns_read}
use Rattle.station.specs.History.{
  Call,
  opens,
  serves,
  next,
  gets,
  run,
  events,
  seen,
  never,
  afresh,
  account_of,
  bytes_taken,
  bytes_waiting,
  answers_behind,
  turns_among,
  stays_open,
  taken_in,
}
use Rattle.station.specs.Due.{numbers_of, is_among, number_due, lent_by, no_counts, turn_due}
use Rattle.station.proofs.Laws.Numbers as numbers
use Rattle.station.proofs.Laws.Accounts as accounts
use Rattle.station.proofs.Laws.Behind as behind
use Rattle.station.proofs.Laws.Rounds as rounds
use Rattle.station.specs.Records.{Station}

-- ---- Demand 1: a definite answer to every call, and a refused call changes nothing

-- On every station, whatever is asked, the number is one of those of the call's kind.
pub numbers_definite : (s : Station) (c : Call) → T (is_among (gets s c).number (numbers_of c))
numbers_definite = numbers.numbers_definite

-- After any calls, the number of the next is the one that document 01 gives it: each refusal exactly when it says, in
-- its order, and 0 otherwise.
pub numbers_due : (cs : List Call) (c : Call) → (gets (run all_closed cs) c).number ≡ number_due cs c
numbers_due = numbers.numbers_due

-- On every station, a refused call leaves it as it was, and every lent byte; a refused round has eight zero counts.
pub refused_changes_nothing : (s : Station) (c : Call) → (gets s c).number ≢ 0
    → (next s c ≡ s) × ((gets s c).lent ≡ lent_by c) × ((gets s c).counts ≡ no_counts c)
refused_changes_nothing = numbers.refused_changes_nothing

-- So leaving it out changes nothing that comes later.
pub refused_left_out : (s : Station) (cs ds : List Call) (c : Call) → (gets (run s cs) c).number ≢ 0
    → run s (cs ++ c ∷ ds) ≡ run s (cs ++ ds)
refused_left_out = numbers.refused_left_out

-- ---- Demand 2: accepted exactly when it fits its mode, and the writer makes exactly those groups

-- On a line, after any bytes since its opening, the next byte is answered by an accepted group exactly when it is a sound
-- CR that ends a group of an open frame whose bytes are all sound and whose characters are a right group with these fields.
-- (`answers_right` below says that the line's answers are those of `answer_due`.)
pub accepted_on_a_line : (m : Mode) (before : List ℕ) (b : ℕ) (g : Group)
    → (answer_due m before b ≡ some (accepted g)) ↔ (T (is CR b) × EndsInRightGroup m before g)
accepted_on_a_line = line.accepted_by_bytes

-- A group on a line is answered by 7 exactly when one of its bytes is unsound, and by 8 exactly when none is and more than
-- 128 came.
pub damaged_exactly : (m : Mode) (bs : List ℕ) → ((group_due m bs).number ≡ 7) ↔ T (not (every is_sound bs))
damaged_exactly = line.damaged_exactly

pub too_long_exactly : (m : Mode) (bs : List ℕ)
    → ((group_due m bs).number ≡ 8) ↔ (T (every is_sound bs) × (128 < length bs))
too_long_exactly = line.too_long_exactly

-- In an open frame ETX is answered by 2 exactly when the bytes since the STX are right groups, all of sound bytes, one
-- behind the other.
pub frame_sound_exactly : (m : Mode) (before since : List ℕ) (etx : ℕ) → open_frame before ≡ some since → T (is ETX etx)
    → (answer_due m before etx ≡ some (only 2)) ↔ RightFrame m since
frame_sound_exactly = line.sound_by_bytes

-- A group given alone is accepted with these fields exactly when the number is that of a mode, and the content is that of a
-- right group of this mode with these fields.
pub accepted_exactly : (mode : ℕ) (c : List ℕ) (g : Group)
    → (judging mode c ≡ given g) ↔ ((m : Mode) × (mode_of mode ≡ some m) × RightGroup m c g)
accepted_exactly = groups.accepted_exactly

-- Its number is that of the first of document 01's conditions that holds, in their order, and 1 where none does.
pub refused_exactly : (mode : ℕ) (c : List ℕ) → number_of (judgement mode c) ≡ first_of 1 (given_when mode c)
refused_exactly = groups.refused_exactly

-- Document 02, M-104, of a group on a line (`answers_right` says that the line's answers, their places too, are those due): with 14
-- comes the place of its first wrong data character, with 12 that of the first character after the label's separator, and
-- with any other answer 0.
pub data_placed : (m : Mode) (bs : List ℕ) → (group_due m bs).number ≡ 14
    → WrongDataAt m (map character_of bs) (group_due m bs).place
data_placed = line.data_placed

pub stamp_placed : (m : Mode) (bs : List ℕ) → (group_due m bs).number ≡ 12
    → take (group_due m bs).place (map character_of bs) ≡ label_of m (map character_of bs) ++ separator m ∷ []
stamp_placed = line.stamp_placed

pub others_unplaced : (m : Mode) (bs : List ℕ)
    → T (not (eqb (group_due m bs).number 12)) → T (not (eqb (group_due m bs).number 14)) → (group_due m bs).place ≡ 0
others_unplaced = line.others_unplaced

-- The same of a group given alone.
pub data_place : (mode : ℕ) (m : Mode) → mode_of mode ≡ some m → (c : List ℕ)
    → number_of (judgement mode c) ≡ 14 → WrongDataAt m c (place_of mode c)
data_place = groups.data_place

pub stamp_place : (mode : ℕ) (m : Mode) → mode_of mode ≡ some m → (c : List ℕ)
    → number_of (judgement mode c) ≡ 12 → take (place_of mode c) c ≡ label_of m c ++ separator m ∷ []
stamp_place = groups.stamp_place

pub other_place : (mode : ℕ) (c : List ℕ)
    → T (not (eqb (number_of (judgement mode c)) 12))
    → T (not (eqb (number_of (judgement mode c)) 14))
    → place_of mode c ≡ 0
other_place = groups.other_place

-- What is written is sound bytes: LF, a content and CR; this content is accepted as the group that was to be written.
pub written_reads_back : (mode : ℕ) (g : Group) (room : ℕ) (w : List ℕ) → writing mode g room ≡ given w
    → (judging mode (off_the_wire w) ≡ given g) × (w ≡ on_the_wire (off_the_wire w)) × T (every is_sound w)
written_reads_back = groups.written_reads_back

-- What is accepted is what writing its fields makes, where there is room for it, LF and CR.
pub accepted_is_written : (mode : ℕ) (c : List ℕ) (g : Group) (room : ℕ) → judging mode c ≡ given g
    → length c + 2 ≤ room → writing mode g room ≡ given (on_the_wire c)
accepted_is_written = groups.accepted_is_written

-- What is written is accepted on a line of the mode, in an open frame with no group open: its only answer is the group, with the
-- number of this frame.
pub written_on_a_line : (mode : ℕ) (m : Mode) → mode_of mode ≡ some m → (g : Group) (room : ℕ) (w : List ℕ)
    → writing mode g room ≡ given w → (before since : List ℕ) → open_frame before ≡ some since
    → open_group since ≡ none → answers_due m before w ≡ framed (frame_number before) (accepted g) ∷ []
written_on_a_line = line.written_by_bytes

-- A writing's number is that of the first of document 01's conditions that holds, in their order, and 0 where none does.
pub writer_refused_exactly : (mode : ℕ) (g : Group) (room : ℕ)
    → number_of_writing (told (writing mode g room)) ≡ first_of 0 (written_when mode g room)
writer_refused_exactly = groups.writer_refused_exactly

-- ---- Demand 3: bytes in order, none lost or twice; answers by the line's own bytes; in time

-- A line that was not opened has accepted, taken and answered nothing.
pub not_opened : (i : ℕ) (cs : List Call) → i < 8 → (account_of i cs).mode ≡ none → account_of i cs ≡ never
not_opened = accounts.not_opened

-- A line since its last opening: no more bytes are taken than were accepted.
pub none_twice : (i : ℕ) (cs : List Call) → i < 8 → (account_of i cs).taken ≤ length (account_of i cs).accepted
none_twice = accounts.none_twice

-- The answers read off the sheets are, in order, exactly those due to the first so many bytes accepted, as many as were
-- taken, from the opening on, each with the number of its frame. So how they were cut into deliveries makes no difference.
pub answers_right : (i : ℕ) (cs : List Call) (m : Mode) → i < 8 → (account_of i cs).mode ≡ some m
    → (account_of i cs).answered ≡ answers_due m [] (bytes_taken (account_of i cs))
answers_right = accounts.answers_right

-- So it is from any byte on: the answers that the sheets show to the bytes behind the first k are those due to these bytes.
pub answers_behind_lem : (i k : ℕ) (cs : List Call) (m : Mode) → i < 8 → (account_of i cs).mode ≡ some m
    → let bytes = bytes_taken (account_of i cs) in
    answers_behind k i cs ≡ answers_due m (take k bytes) (drop k bytes)
answers_behind_lem = behind.answers_behind_lem

-- Document 02, M-113. "After any bytes at all on an open line, the first sound STX puts it right. From the byte after that STX,
-- every answer is the one a freshly opened line of the same mode gives when fed from the same STX, whatever went before." Line i
-- has taken any bytes since its opening, then a sound STX, then more. The other was opened in the same mode, on this station or
-- another, after any calls, and has taken the same bytes from the STX on. Then the answers of line i behind the STX, in order
-- and without frame numbers, are all the answers of the other. Neither how the bytes were cut into deliveries and rounds nor
-- what other lines did makes a difference.
pub back_on_its_feet : (i j : ℕ) (cs ds : List Call) (m : Mode) (before bytes : List ℕ) (stx : ℕ) → i < 8 → j < 8
    → (account_of i cs).mode ≡ some m → (account_of j ds).mode ≡ some m → T (is STX stx)
    → bytes_taken (account_of i cs) ≡ before ++ stx ∷ bytes
    → bytes_taken (account_of j ds) ≡ stx ∷ bytes
    → unframed (answers_behind (length before + 1) i cs) ≡ unframed (account_of j ds).answered
back_on_its_feet = behind.as_opened

-- Where one has taken fewer bytes, its answers are a beginning of the other's, and what the other has beside them is due to the
-- bytes that it has taken beside. Each may have taken anything before the STX, and a freshly opened line has taken nothing: so
-- either may be the one that went through the noise, and both may be.
pub as_far_as_taken : (i j : ℕ) (cs ds : List Call) (m : Mode) (before past bytes more : List ℕ) (stx : ℕ) → i < 8 → j < 8
    → (account_of i cs).mode ≡ some m → (account_of j ds).mode ≡ some m → T (is STX stx)
    → bytes_taken (account_of i cs) ≡ before ++ stx ∷ bytes
    → bytes_taken (account_of j ds) ≡ past ++ stx ∷ (bytes ++ more)
    → unframed (answers_behind (length past + 1) j ds)
    ≡ unframed (answers_behind (length before + 1) i cs) ++ unframed (answers_due m (stx ∷ bytes) more)
as_far_as_taken = behind.as_far

-- So by the bytes alone: each answer that is due behind an STX is the one that is due with nothing before the STX.
pub restarted_by_bytes : (m : Mode) (before since : List ℕ) (stx b : ℕ) → T (is STX stx)
    → answer_due m (before ++ stx ∷ since) b ≡ answer_due m (stx ∷ since) b
restarted_by_bytes = line.restarted_by_bytes

-- Document 02, M-108. The number that a round's sheet has with a line's answer is the count of the sound STX among the bytes of
-- the line that were taken since its opening, this turn's included, by remainder of 65,536. A turn's last byte is the answer's.
pub frames_read : (i : ℕ) (cs : List Call) (sheet : List ℕ) (e : Framed Entry) → i < 8 → 1096 ≤ length sheet
    → (read_turn (gets (run all_closed cs) (serves sheet)).lent i).entry ≡ some e
    → e.frame ≡ count_of (is STX) (bytes_taken (account_of i (cs ++ serves sheet ∷ []))) % 65536
frames_read = rounds.frames_read

-- So by the bytes alone: the number that is due with an answer counts the sound STX among the bytes since the opening, the
-- answer's own byte included; and without it the answer is the one that document 01 has due.
pub frames_counted : (m : Mode) (before : List ℕ) (b : ℕ) (e : Framed Entry) → entry_due m before b ≡ some e
    → (e.frame ≡ count_of (is STX) (before ++ b ∷ []) % 65536) × (answer_due m before b ≡ some e.what)
frames_counted = line.number_counted

-- The same in its own words: "0 when opened, one more at every STX, 65,535 followed by 0".
pub frame_opened : frame_number [] ≡ 0
frame_opened = line.number_opened

pub frame_next : (before : List ℕ) (b : ℕ)
    → frame_number (before ++ b ∷ [])
    ≡ pick (is STX b) (pick (eqb (frame_number before) 65535) 0 (suc (frame_number before))) (frame_number before)
frame_next = line.number_next

-- So it tells "which groups came together": with fewer than 65,536 STX between them, two answers of a line have one number
-- exactly where there is no STX between them.
pub came_together : (before bs : List ℕ) → count_of (is STX) bs < 65536
    → (frame_number (before ++ bs) ≡ frame_number before) ↔ (count_of (is STX) bs ≡ 0)
came_together = line.number_same

-- Each turn takes, of the bytes accepted and not yet taken, exactly those up to and including the first of the oldest 64
-- that gives an answer, and all 64, or all that wait, where none does; and it tells that answer. A closed line's takes none.
pub counts_right : (i : ℕ) (cs : List Call) (sheet : List ℕ) → i < 8 → 1096 ≤ length sheet
    → read_turn (gets (run all_closed cs) (serves sheet)).lent i ≡ turn_due 64 (account_of i cs)
counts_right = rounds.turns_right

-- An opening drops what waits, and the line begins anew.
pub opening_drops : (i : ℕ) (cs : List Call) (mode : ℕ) (m : Mode) → i < 8 → mode_of mode ≡ some m
    → account_of i (cs ++ opens i mode ∷ []) ≡ afresh (some m)
opening_drops = accounts.opening_drops

-- Lines are apart: two histories with the same openings of a line, the same deliveries to it, and the same accepted
-- rounds between them, show the same of it: the numbers of its calls, the counts and the answers of its turns.
pub lines_apart : (i : ℕ) (cs ds : List Call) → i < 8 → events i cs ≡ events i ds
    → seen i all_closed cs ≡ seen i all_closed ds
lines_apart = accounts.lines_apart

-- The bound. p is what waits up to and including a byte, and more comes behind it. Within ⌈n/64⌉ + k accepted rounds,
-- n bytes being p and k the answers that they complete, all of p is taken, unless the line is opened first. Deliveries in
-- between and refused calls make no difference.
pub taken_in_time : (i : ℕ) (cs ds : List Call) (m : Mode) (p more : List ℕ) → i < 8
    → (account_of i cs).mode ≡ some m
    → bytes_waiting (account_of i cs) ≡ p ++ more
    → T (stays_open (events i ds))
    → (length p + 63) / 64 + length (answers_due m (bytes_taken (account_of i cs)) p) ≤ turns_among (events i ds)
    → length p ≤ taken_in (seen i (run all_closed cs) ds)
taken_in_time = accounts.taken_in_time

-- The sheet of any round is the one that document 01 lays out for the eight turns that are read off it; it fits 1,096 bytes
-- and is laid over the front of the lent one, the rest of which is unchanged; the counts of the result are its first eight.
pub sheet_right : (cs : List Call) (sheet : List ℕ) → 1096 ≤ length sheet
    → let got = gets (run all_closed cs) (serves sheet) in
    let laid = sheet_of (turns_read got.lent) in
    (length laid ≤ 1096) × (got.lent ≡ laid ++ drop (length laid) sheet) × (got.counts ≡ take 8 got.lent)
sheet_right = rounds.sheet_right
