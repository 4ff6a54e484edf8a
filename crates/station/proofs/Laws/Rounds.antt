-- An accepted round: what it tells of each turn, and its sheet.
use Rattle.std.specs.Prelude.{◌≡◌, refl, List, [], ◌∷◌, ◌++◌, map, ℕ, ◌%◌, ◌≤◌, ◌<◌, length, take, drop, get_or}
use Rattle.std.proofs.Common.{sym, ◌∙◌, arith, le-leb}
use Rattle.std.proofs.Math.Option.{some}
use Rattle.std.proofs.lemmas.Simd.{map-map}
use Rattle.std.proofs.lemmas.List.{length-map}
use Rattle.characters.specs.Answers.{need, pick}
use Rattle.characters.specs.Wire.{STX}
use Rattle.line.specs.Entries.{Entry, Framed}
use Rattle.line.specs.ByBytes.{is, count_of}
use Rattle.line.proofs.Laws.FrameNumbers.{number_is}
use Rattle.station.specs.Lines.{turning}
use Rattle.station.specs.Stations.{zero_line, all_closed, line_at}
use Rattle.station.specs.Sheets.{Told, idle, sheet_of}
use Rattle.station.specs.Rounds.{turns, tells, told_of, after_turns, round, counts_of}
use Rattle.station.specs.Reading.{read_turn, turns_read}
use Rattle.station.specs.History.{Call, serves, gets, run, took, seen_of, entered, account_of, bytes_taken}
use Rattle.station.specs.Due.{turn_due}
use Rattle.station.proofs.Laws.Sheets.{sheet_fits, counts_first, reads_back}
use Rattle.station.proofs.Laws.Views.{turn_view}
use Rattle.station.proofs.Laws.Calls.{Made, long_at, turn_at, turns_short, turns_plain, made_closed, made_run}
use Rattle.station.proofs.Laws.Accounts.{turn_right, account_more, turn_number}
use Rattle.station.specs.Records.{Station}

-- an accepted round is that of all turns
round_accepted : (s : Station) (sheet : List ℕ) → 1096 ≤ length sheet
    → round s sheet ≡ after_turns (map turning s.lines) sheet
unfolding turns need
round_accepted s sheet t = rw (le-leb 1096 (length sheet) t)

-- it tells of eight turns
told_eight : (s : Station) → Made s → length (told_of s) ≡ 8
told_eight s m = length-map (map turning s.lines) tells ∙ length-map s.lines turning ∙ m.eight

-- the sheet of an accepted round
round_sheet : (s : Station) (sheet : List ℕ) → Made s → 1096 ≤ length sheet
    → let left = (round s sheet).sheet in
    let told = sheet_of (told_of s) in
    (length told ≤ 1096)
    × (left ≡ told ++ drop (length told) sheet)
    × (take 8 left ≡ counts_of (round s sheet).result.told)
    × ((i : ℕ) → i < 8 → read_turn left i ≡ get_or (told_of s) i idle)
round_sheet s sheet m t =
    let rest = drop (length (sheet_of (told_of s))) sheet in
    let eight = told_eight s m in
    let short = turns_short s.lines m.longs in
    let same = map-map (λ (t : Told). t.count) tells (map turning s.lines) in
    rw (round_accepted s sheet t) (
      sheet_fits (told_of s) eight short,
      refl,
      counts_first (told_of s) rest eight ∙ same,
      reads_back (told_of s) eight short (turns_plain s.lines m.longs) rest,
    )

-- eight turns are the turns of lines 0 to 7
eight_turns : (left : List ℕ) (ts : List Told) → length ts ≡ 8 → ((i : ℕ) → i < 8 → read_turn left i ≡ get_or ts i idle)
    → turns_read left ≡ ts
eight_turns left [] n r = absurd (omega arith)
eight_turns left (a ∷ []) n r = absurd (omega arith)
eight_turns left (a ∷ b ∷ []) n r = absurd (omega arith)
eight_turns left (a ∷ b ∷ c ∷ []) n r = absurd (omega arith)
eight_turns left (a ∷ b ∷ c ∷ d ∷ []) n r = absurd (omega arith)
eight_turns left (a ∷ b ∷ c ∷ d ∷ e ∷ []) n r = absurd (omega arith)
eight_turns left (a ∷ b ∷ c ∷ d ∷ e ∷ f ∷ []) n r = absurd (omega arith)
eight_turns left (a ∷ b ∷ c ∷ d ∷ e ∷ f ∷ g ∷ []) n r = absurd (omega arith)
eight_turns left (a ∷ b ∷ c ∷ d ∷ e ∷ f ∷ g ∷ h ∷ x ∷ more) n r = absurd (omega arith)
eight_turns left (a ∷ b ∷ c ∷ d ∷ e ∷ f ∷ g ∷ h ∷ []) n r =
    rw (
      r 0 (omega arith),
      r 1 (omega arith),
      r 2 (omega arith),
      r 3 (omega arith),
      r 4 (omega arith),
      r 5 (omega arith),
      r 6 (omega arith),
      r 7 (omega arith),
    )

-- what a round tells of a line's turn is what is due to it
pub turns_right : (i : ℕ) (cs : List Call) (sheet : List ℕ) → i < 8 → 1096 ≤ length sheet
    → read_turn (gets (run all_closed cs) (serves sheet)).lent i ≡ turn_due 64 (account_of i cs)
unfolding gets
turns_right i cs sheet h t =
    let s = run all_closed cs in
    let m = made_run all_closed cs made_closed in
    let k : i < length s.lines = omega (arith, m.eight) in
    let none = zero_line [] [] in
    (round_sheet s sheet m t).3 i h ∙ turn_at tells s.lines i none idle k
    ∙ (turn_view (line_at s i) (long_at s.lines i none m.longs k)).told_is
    ∙ turn_right i cs h

-- the sheet of any round is that of the turns that it tells, and fits 1,096 bytes; its first eight bytes are the counts
pub sheet_right : (cs : List Call) (sheet : List ℕ) → 1096 ≤ length sheet
    → let got = gets (run all_closed cs) (serves sheet) in
    let told = sheet_of (turns_read got.lent) in
    (length told ≤ 1096) × (got.lent ≡ told ++ drop (length told) sheet) × (got.counts ≡ take 8 got.lent)
unfolding gets
sheet_right cs sheet t =
    let s = run all_closed cs in
    let m = made_run all_closed cs made_closed in
    let (fits, laid, first, read) = round_sheet s sheet m t in
    rw (eight_turns (round s sheet).sheet (told_of s) (told_eight s m) read) (fits, laid, sym first)

-- an accepted round is 0
round_number : (s : Station) (sheet : List ℕ) → 1096 ≤ length sheet → (gets s (serves sheet)).number ≡ 0
unfolding gets
round_number s sheet t = rw (round_accepted s sheet t)

-- the number that is read with an answer is the count of the STX among the bytes that the line has taken then
pub frames_read : (i : ℕ) (cs : List Call) (sheet : List ℕ) (e : Framed Entry) → i < 8 → 1096 ≤ length sheet
    → (read_turn (gets (run all_closed cs) (serves sheet)).lent i).entry ≡ some e
    → e.frame ≡ count_of (is STX) (bytes_taken (account_of i (cs ++ serves sheet ∷ []))) % 65536
unfolding seen_of pick
frames_read i cs sheet e h t q =
    let same = turns_right i cs sheet h t in
    let told = read_turn (gets (run all_closed cs) (serves sheet)).lent i in
    let after : account_of i (cs ++ serves sheet ∷ []) ≡ entered (account_of i cs) (took told) =
    account_more i cs (serves sheet) ∙ rw (round_number (run all_closed cs) sheet t) in
    turn_number 64 (account_of i cs) told e same q ∙ number_is _ ∙ rw after
