-- What the crate promises of judging and writing groups: only the statements need to be read.
use Rattle.std.proofs.Common.{◌≡◌, refl, ◌↔◌, not, ◌||◌, ℕ, ◌+◌, ◌^◌, ◌≤◌, ◌<◌, T, eqb, ltb, length, take, get_or, Ok, Err, List, [], ◌∷◌, ◌++◌, map}
use Rattle.std.proofs.Math.Option.{none, some}
use mathlib.Core.List.{Memᴰ}
use Rattle.characters.specs.Answers.{given, every, first_of}
use Rattle.characters.specs.Wire.{is_sound, wire_byte_of, HT}
use Rattle.groups.specs.Modes.{mode_of, is_mode, separator}
use Rattle.groups.specs.Kinds.{of_kind}
use Rattle.groups.specs.Forms.{some_fits}
use Rattle.groups.specs.Formats.{Rule, Field, forms}
use Rattle.groups.specs.Table.{Entry, rows, plain, lookup}
use Rattle.groups.specs.Order.{before, Before, in_order, halving}
use Rattle.groups.specs.Packed.{key_of}
use Rattle.groups.specs.Stamps.{is_stamped, stamp_right}
use Rattle.groups.specs.Groups.{Group, group_of}
use Rattle.groups.specs.Numbers.{number_of_refusal, number_of, number_of_writing}
use Rattle.groups.specs.Judging.{judging, places_of, stretches_of, part_of, part_start, Shows}
use Rattle.groups.specs.Writing.{on_the_wire, off_the_wire, composing, writing, told, count_of, left}
use Rattle.groups.specs.Conditions.{label_of, given_when}
use Rattle.groups.specs.Place.{first_wrong, place_of, judgement, place_told}
use Rattle.groups.specs.FirstWrong.{Begun, FirstWrong, WrongDataAt}
use Rattle.groups.specs.WriterConditions.{written_when, count_due, Leaves, bytes_of}
use Rattle.groups.specs.Stretches.{six_numbers, stretches_due}
use Rattle.groups.specs.Spelled.{among, spelled}
use Rattle.groups.specs.RightStamps.{RightStamp}
use Rattle.groups.specs.Right.{RightGroup}
use Rattle.groups.specs.Made.{some_made}
use Rattle.groups.specs.Listed.{OnPage, as_on_page, page}
use Rattle.groups.specs.Seasons.{Season, letter_of, degraded, is_peak, closed}
use Rattle.groups.specs.Longest.{longest_content, longest_groups}
use Rattle.groups.proofs.Laws.Listed.{rows_as_listed}
use Rattle.groups.proofs.Laws.Order.{
  rows_ordered,
  order_by_place,
  halving_is_lookup,
  halved_seven_times,
  before_extension,
  high_bytes_behind,
  empty_is_missing,
  longer_is_missing,
}
use Rattle.groups.proofs.Laws.Packed.{key_order}
use Rattle.groups.proofs.Laws.Right.{found_listed}
use Rattle.groups.proofs.Laws.Stamps.{kinds_agree, stamps_agree}
use Rattle.groups.proofs.Laws.Unknown.{known_below}
use Rattle.groups.proofs.Laws.Shown.{shows, part_fits, part_unfit}
use Rattle.groups.proofs.Laws.ByNumber.{
  judged_composed,
  judged_right,
  judged_first,
  written_back,
  accepted_written,
}
use Rattle.groups.proofs.Laws.Stretches.{judged_stretches}
use Rattle.groups.proofs.Laws.OnTheWire.{on_bytes}
use Rattle.groups.proofs.Laws.Writer.{written_first}
use Rattle.groups.proofs.Laws.Written.{written_counted, written_left}
use Rattle.groups.proofs.Laws.Business.{row_made, row_lengths, plain_made, never_twelve, stamp_refused}
use Rattle.groups.proofs.Laws.Seasons.{degraded_told, degraded_judged, peak_told, peak_judged}
use Rattle.groups.proofs.Laws.Longest.{content_most, lists_long}
use Rattle.groups.proofs.Laws.FirstWrong.{row_wrong, before_begun, length_unknown, kind_wrong}
use Rattle.groups.proofs.Laws.Place.{stamp_told, data_told, data_once, others_told, inside_told, placed_small, faults_placed}
use Rattle.groups.specs.declared.Mode.{Mode}
use Rattle.groups.specs.declared.Mode.TheVariants.{Historic, Standard, Business}
use Rattle.groups.specs.declared.Refusal.{Refusal}
use Rattle.groups.specs.declared.Stretch.{Stretch}
use Rattle.groups.specs.declared.table.Kind.{Kind}
use Rattle.groups.specs.declared.table.Mark.{Mark}

-- The numbers of modes are 0, 1 and 2.
pub modes_exactly : (number : ℕ) → is_mode number ≡ ltb number 3
modes_exactly = known_below

-- Demand 2: a content is accepted as a group exactly when writing that group makes that content.
pub read_exactly_when_written : (number : ℕ) (c : List ℕ) (g : Group)
    → (judging number c ≡ given g) ↔ (composing number g ≡ given c)
read_exactly_when_written = judged_composed

-- A content is accepted with these fields exactly when the number is that of a mode, and in this mode the content is
-- that of a right group with these fields.
pub accepted_exactly : (number : ℕ) (c : List ℕ) (g : Group)
    → (judging number c ≡ given g) ↔ ((m : Mode) × (mode_of number ≡ some m) × RightGroup m c g)
accepted_exactly = judged_right

-- The table of a mode has a label with a stamp, lengths and forms exactly when its page, document 01's or document 003's,
-- lists it so.
pub table_exactly : (m : Mode) (line : OnPage) → Memᴰ line (map as_on_page (rows m)) ↔ Memᴰ line (page m)
table_exactly = rows_as_listed

-- Document 02, M-100: data are taken by a form of a row exactly when they are made of the fields of one of its formats.
pub formats_exactly : (m : Mode) (label : List ℕ) (rule : Rule) → Memᴰ (record { label = label; rule = rule }) (rows m)
    → (d : List ℕ) → some_fits (forms rule.formats) d ≡ some_made rule.formats d
formats_exactly = row_made

-- Such data have a length from the smallest to the largest of the row: "13 is a length outside these".
pub lengths_right : (m : Mode) (label : List ℕ) (rule : Rule) → Memᴰ (record { label = label; rule = rule }) (rows m)
    → (d : List ℕ) → T (some_made rule.formats d) → (rule.smallest ≤ length d) × (length d ≤ rule.largest)
lengths_right = row_lengths

-- The rows of modes 0 and 1 are the case of one field: data of its width, with each character of its kind.
pub one_field_exactly : (kind : Kind) (width : ℕ) (d : List ℕ)
    → T (some_made (plain kind width) d) ↔ ((length d ≡ width) × T (every (among (spelled kind)) d))
one_field_exactly = plain_made

-- "No row of mode 2 is stamped": the reader never answers 12 there, and the writer answers 12 to any stamp.
pub unstamped_read : (c : List ℕ) → T (not (eqb (number_of (judgement 2 c)) 12))
unstamped_read = never_twelve

pub unstamped_written : (label : List ℕ) (rule : Rule) → Memᴰ (record { label = label; rule = rule }) (rows Business)
    → (x : ℕ) (rest d : List ℕ) (room : ℕ)
    → number_of_writing (told (writing 2 (group_of label (x ∷ rest) d) room)) ≡ 12
unstamped_written = stamp_refused

-- Document 02, M-107: "Keep it sorted by bytes": each label of a mode stands before all that follow it. One text stands before
-- another exactly when they are the same up to some place, and there the first one ends or has the lower byte.
pub labels_in_order : (m : Mode) → T (in_order (rows m))
labels_in_order = rows_ordered

pub order_exactly : (a b : List ℕ) → T (before a b) ↔ Before a b
order_exactly = order_by_place

-- "halve the range instead": in any list of rows that is in order, for any sequence of bytes, halving finds what the search from
-- the top finds, where it is done so often that one row is left; in the lists of the modes, seven times.
pub halving_finds : (n : ℕ) (list : List Entry) → length list ≤ 2 ^ n → T (in_order list) → (label : List ℕ)
    → halving n label list ≡ lookup label list
halving_finds = halving_is_lookup

pub seven_halvings : (m : Mode) (label : List ℕ) → halving 7 label (rows m) ≡ lookup label (rows m)
seven_halvings = halved_seven_times

-- The code compares labels by the number that their first eight bytes make, the first on top: a lower number is that of a text
-- that stands before.
pub keys_as_bytes : (a b : List ℕ) → ((i : ℕ) → get_or a i 0 < 256) → ((i : ℕ) → get_or b i 0 < 256) → key_of a < key_of b → T (before a b)
keys_as_bytes = key_order 8

-- A text stands before its own extensions, and one that begins with a byte of 128 or more behind all rows; the empty label and one
-- of more than nine bytes are in no list.
pub extension_behind : (label : List ℕ) (x : ℕ) (rest : List ℕ) → T (before label (label ++ x ∷ rest))
extension_behind = before_extension

pub high_byte_behind : (m : Mode) (x : ℕ) (rest : List ℕ) → 128 ≤ x → T (every (λ e. before e.label (x ∷ rest)) (rows m))
high_byte_behind = high_bytes_behind

pub empty_missing : (m : Mode) → lookup [] (rows m) ≡ none
empty_missing = empty_is_missing

pub longer_missing : (m : Mode) (label : List ℕ) → 9 < length label → lookup label (rows m) ≡ none
longer_missing = longer_is_missing

-- A character passes the test of a kind exactly when it is one of those that are spelled out for the kind.
pub kind_exactly : (kind : Kind) (c : ℕ) → T (of_kind kind c) ↔ T (among (spelled kind) c)
kind_exactly = kinds_agree

-- A stamp passes the tests of a mark exactly when it is written as a right stamp of that mark is.
pub stamp_exactly : (mark : Mark) (s : List ℕ) → T (stamp_right mark s) ↔ RightStamp mark s
stamp_exactly = stamps_agree

-- Document 02, M-101: h and e are right wherever H and E are right. In the writer: in whatever mode, with whatever label,
-- further digits, data and room, writing tells of the small letter what it tells of the capital.
pub degraded_written : (number : ℕ) (season : Season) (label rest d : List ℕ) (room : ℕ)
    → number_of_writing (told (writing number (group_of label (degraded season ∷ rest) d) room))
    ≡ number_of_writing (told (writing number (group_of label (letter_of season ∷ rest) d) room))
degraded_written number season label rest d room = degraded_told season label rest d room number

-- In the reader: so does judging, of a stamped label, whatever stands behind the letter.
pub degraded_read : (season : Season) (label rest : List ℕ) (rule : Rule)
    → Memᴰ (record { label = label; rule = rule }) (rows Standard) → T (is_stamped rule.mark)
    → number_of (judgement 1 (closed (label ++ HT ∷ degraded season ∷ rest)))
    ≡ number_of (judgement 1 (closed (label ++ HT ∷ letter_of season ∷ rest)))
degraded_read season label rest rule listed = degraded_judged label rule (found_listed Standard label rule listed) season rest

-- And they stay wrong for DPM and FPM, as all but a space is: 12, in the writer and in the reader.
pub peaks_written : (label : List ℕ) (x : ℕ) (rest d : List ℕ) (room : ℕ) → T (is_peak label) → T (not (eqb x 0x20))
    → number_of_writing (told (writing 1 (group_of label (x ∷ rest) d) room)) ≡ 12
peaks_written = peak_told

pub peaks_read : (label : List ℕ) (x : ℕ) (rest : List ℕ) → T (is_peak label) → T (not (eqb x 0x20))
    → length (closed (label ++ HT ∷ x ∷ rest)) ≤ 128
    → number_of (judgement 1 (closed (label ++ HT ∷ x ∷ rest))) ≡ 12
peaks_read = peak_judged

-- The number that judging tells is that of the first condition that holds, in document 01's order, and 1 where none does.
pub refused_exactly : (number : ℕ) (c : List ℕ)
    → number_of (judgement number c) ≡ first_of 1 (given_when number c)
refused_exactly = judged_first

-- The number that writing tells is that of the first condition that holds, in the writer's order, and 0 where none does.
pub writer_refused_exactly : (number : ℕ) (g : Group) (room : ℕ)
    → number_of_writing (told (writing number g room)) ≡ first_of 0 (written_when number g room)
writer_refused_exactly = written_first

-- A refusal has one number, whether judging or writing tells it.
pub numbers_exactly : (refusal : Refusal)
    → ((place : ℕ) → number_of (Err (record { refusal = refusal; place = place })) ≡ number_of_refusal refusal)
    × (number_of_writing (Err refusal) ≡ number_of_refusal refusal)
numbers_exactly refusal = (λ place. refl, refl)

-- Document 02, M-104: "Let judging a group also tell a place in the content, counted from 0". For 12 it is "the first character
-- after the label's separator": what stands before it is the label and its separator.
pub stamp_place : (number : ℕ) (m : Mode) → mode_of number ≡ some m → (c : List ℕ)
    → number_of (judgement number c) ≡ 12 → take (place_of number c) c ≡ label_of m c ++ separator m ∷ []
stamp_place = stamp_told

-- "for 14 the first wrong data character (mode 2: the first that no fitting data of that length have there after the same
-- beginning)": one sentence for all modes, since a row of modes 0 and 1 is the case of one field.
pub data_place : (number : ℕ) (m : Mode) → mode_of number ≡ some m → (c : List ℕ)
    → number_of (judgement number c) ≡ 14 → WrongDataAt m c (place_of number c)
data_place = data_told

-- A content has one such place.
pub one_place : (m : Mode) (c : List ℕ) (i j : ℕ) → WrongDataAt m c i → WrongDataAt m c j → i ≡ j
one_place = data_once

-- "for all others 0"
pub other_place : (number : ℕ) (c : List ℕ)
    → T (not (eqb (number_of (judgement number c)) 12))
    → T (not (eqb (number_of (judgement number c)) 14))
    → place_of number c ≡ 0
other_place = others_told

-- The place of 12 and of 14 lies inside the content, in front of the check character; and it fits a byte.
pub place_inside : (number : ℕ) (m : Mode) → mode_of number ≡ some m → (c : List ℕ)
    → T (eqb (number_of (judgement number c)) 12 || eqb (number_of (judgement number c)) 14)
    → place_of number c + 2 ≤ length c
place_inside = inside_told

pub place_small : (number : ℕ) (c : List ℕ) → place_of number c < 128
place_small = placed_small

-- It stands in a refused judgement beside the refusal; an accepted one tells none, which counts as 0.
pub place_exactly : (number : ℕ) (c : List ℕ) → place_told (judgement number c) ≡ place_of number c
place_exactly = faults_placed

-- In data that are long enough for a row and don't fit it, the definition finds the first wrong character, and no other.
pub first_wrong_exactly : (m : Mode) (label : List ℕ) (rule : Rule) → Memᴰ (record { label = label; rule = rule }) (rows m)
    → (d : List ℕ) → rule.smallest ≤ length d → T (not (some_made rule.formats d))
    → (i : ℕ) → (first_wrong rule d ≡ i) ↔ FirstWrong rule.formats d i
first_wrong_exactly = row_wrong

-- Where a row has one kind and one width: each data character before it is of the kind, and the one there is not.
pub wrong_kind_exactly : (kind : Kind) (width : ℕ) (d : List ℕ) → length d ≡ width → (i : ℕ)
    → FirstWrong (plain kind width) d i
    ↔ ((i < length d)
    × ((k : ℕ) → k < i → T (among (spelled kind) (get_or d k 0)))
    × T (not (among (spelled kind) (get_or d i 0))))
wrong_kind_exactly = kind_wrong

-- Where fitting data have this length, some begin with all that stands before it; where none have, it is the first character.
pub beginning_fits : (formats : List (List Field)) (d : List ℕ) (i : ℕ) → FirstWrong formats d i
    → (other : List ℕ) → length other ≡ length d → T (some_made formats other) → Begun formats d i
beginning_fits = before_begun

pub no_such_length : (formats : List (List Field)) (d : List ℕ) (i : ℕ) → FirstWrong formats d i
    → ((other : List ℕ) → length other ≡ length d → T (not (some_made formats other))) → i ≡ 0
no_such_length = length_unknown

-- The stretches that judging shows of an accepted content are its label, its stamp and its data.
pub fields_shown : (number : ℕ) (c : List ℕ) (g : Group) → judging number c ≡ given g
    → (judgement number c ≡ Ok (places_of g)) × Shows c (places_of g) g
fields_shown = shows

-- They stand where the places of the content say; of a refused content there are three empty ones.
pub stretches_exactly : (number : ℕ) (c : List ℕ) → six_numbers (stretches_of (judgement number c)) ≡ stretches_due number c
stretches_exactly = judged_stretches

-- The part that a stretch names begins where the stretch begins and has its bytes; where it does not fit, it is the empty
-- part at the start.
pub part_exactly : (s : Stretch) (c : List ℕ) → s.start + s.length ≤ length c
    → (length (part_of s c) ≡ s.length) × (part_start s c ≡ s.start)
    × ((i : ℕ) → i < s.length → get_or (part_of s c) i 0 ≡ get_or c (s.start + i) 0)
part_exactly = part_fits

pub empty_part_exactly : (s : Stretch) (c : List ℕ) → length c < s.start + s.length
    → (part_of s c ≡ []) × (part_start s c ≡ 0)
empty_part_exactly = part_unfit

-- The bytes that are written are sound, and they are LF, a content and CR on the wire; this content is accepted as the
-- group that was to be written.
pub written_reads_back : (number : ℕ) (g : Group) (room : ℕ) (w : List ℕ) → writing number g room ≡ given w
    → (judging number (off_the_wire w) ≡ given g) × (w ≡ on_the_wire (off_the_wire w)) × T (every is_sound w)
written_reads_back = written_back

-- The count that writing tells is that of the bytes for which room was asked, and 0 where it refuses.
pub count_exactly : (number : ℕ) (g : Group) (room : ℕ) → count_of (told (writing number g room)) ≡ count_due number g room
count_exactly = written_counted

-- A buffer begins with the bytes that are written, and the rest is unchanged; where writing refuses, all of it is.
pub buffer_exactly : (number : ℕ) (g : Group) (buffer : List ℕ)
    → Leaves (bytes_of (writing number g (length buffer))) buffer (left (writing number g (length buffer)) buffer)
buffer_exactly = written_left

-- What goes on the wire begins with the wire byte of LF and ends with that of CR.
pub wire_exactly : (c : List ℕ) → on_the_wire c ≡ 0x0A ∷ (map wire_byte_of c ++ 0x8D ∷ [])
wire_exactly = on_bytes

-- A content that is accepted is what writing its fields puts on the wire, where there is room for it, LF and CR.
pub accepted_is_written : (number : ℕ) (c : List ℕ) (g : Group) (room : ℕ) → judging number c ≡ given g
    → length c + 2 ≤ room → writing number g room ≡ given (on_the_wire c)
accepted_is_written = accepted_written

-- Document 02, M-113, how long a group is: a content of a right group has at most as many characters as the row of its label
-- allows; and one group of each label of a list, as long as they can be, have so many bytes with LF and CR.
pub group_length : (m : Mode) (c : List ℕ) (g : Group) (r : RightGroup m c g)
    → length c ≤ longest_content (record { label = g.label; rule = r.rule })
group_length = content_most

pub list_lengths :
    (longest_groups (rows Historic) ≡ 534) × (longest_groups (rows Standard) ≡ 1725) × (longest_groups (rows Business) ≡ 1691)
list_lengths = lists_long
