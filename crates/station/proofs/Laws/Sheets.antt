-- The sheet of a round: it has at most 1,096 bytes, and it gives back what each line's turn was.
use Rattle.std.specs.Prelude.{◌≡◌, refl, Bool, true, false, ◌&&◌, List, [], ◌∷◌, ◌++◌, T, eqb, leb, ltb, take, drop, get_or}
use Rattle.std.proofs.Common.{sym, ap, ◌∙◌, subst, append_assoc, add-zero, add_assoc, eqb→eq, leb→le, ltb→lt, lit≤, length-append, take_at, drop_at, get_or-append-add, ne_eqb, eqb-true}
use Rattle.std.proofs.Math.Option.{Option, none, some}
use Prim.Native.Nat.{ℕ, zero, suc, ◌+◌, ◌*◌, ◌/◌, ◌%◌, ◌≤◌, ◌<◌}
use native.Mathlib.Omega.{arith}
use Rattle.std.proofs.Math.ListN.{length, length-map, get_or-map, get_or-append}
use Rattle.std.proofs.Math.Seq.{take-append_seam, drop-append_seam}
use Rattle.std.proofs.Math.Facts.{and_yes}
use Rattle.characters.specs.Answers.{pick, every, every_at}
use Rattle.line.specs.Entries.{Entry, Framed, framed}
use Rattle.station.specs.Sheets.{idle, Told, fourth_byte, text_of, entry_bytes, entry_of, two_bytes, offset_of, offsets, joined, counts, entries, sheet_of}
use Rattle.station.specs.Reading.{entry_by, read_entry, entry_at, read_turn}

-- an entry takes at most 134 bytes
abbrev pub is_short : Told → Bool
is_short t = leb (length (entry_of t.entry)) 134

-- a place or a text, and not both: 1 has no place, and all others have no text
abbrev place_or_text : Entry → Bool
place_or_text e =
    pick (eqb e.number 1) (eqb e.place 0) (eqb (length e.label) 0 && eqb (length e.stamp) 0 && eqb (length e.«data») 0)

-- it is one that a round tells, and its frame number one of 16 bits
abbrev pub is_plain : Option (Framed Entry) → Bool
is_plain none = true
is_plain (some e) = ltb e.frame 65536 && place_or_text e.what

-- ---- Its length

-- the offsets take two bytes each
pub offsets_length : (at : ℕ) (ts : List Told) → length (joined two_bytes (offsets at ts)) ≡ 2 * length ts
unfolding two_bytes
offsets_length at [] = refl
offsets_length at (t ∷ ts) = omega (arith, offsets_length (at + length (entry_of t.entry)) ts)

-- short entries take at most 134 bytes each
entries_length : (ts : List Told) → T (every is_short ts) → length (entries ts) ≤ 134 * length ts
entries_length [] t = lit≤ tt
entries_length (x ∷ ts) t =
    let (short, more) = and_yes (is_short x) (every is_short ts) t in
    simp length-append (omega (arith, leb→le (length (entry_of x.entry)) 134 short, entries_length ts more))

-- a sheet of eight turns has at most 1,096 bytes
pub sheet_fits : (ts : List Told) → length ts ≡ 8 → T (every is_short ts) → length (sheet_of ts) ≤ 1096
unfolding sheet_of
sheet_fits ts n t = simp (length-append, length-map) (omega (arith, offsets_length 24 ts, entries_length ts t))

-- ---- Its parts

-- the first eight bytes are the counts
pub counts_first : (ts : List Told) (rest : List ℕ) → length ts ≡ 8 → take 8 (sheet_of ts ++ rest) ≡ counts ts
unfolding sheet_of
counts_first ts rest n =
    let offset = joined two_bytes (offsets 24 ts) in
    rw (append_assoc (counts ts) (offset ++ entries ts) rest)
    (take_at (counts ts) (offset ++ entries ts ++ rest) 8 (length-map ts (λ (t : Told). t.count) ∙ n))

-- the entries are those of the lines before line i, its own, and those of the lines after it
entries_at : (ts : List Told) (i : ℕ) → i < length ts
    → entries ts ≡ entries (take i ts) ++ (entry_of (get_or ts i idle).entry ++ entries (drop (suc i) ts))
entries_at [] i h = absurd (omega arith)
entries_at (t ∷ ts) zero h = refl
entries_at (t ∷ ts) (suc i) h = rw (entries_at ts i (omega arith)) (sym (append_assoc (entry_of t.entry) _ _))

-- what stands behind three stretches of bytes
behind : (c o p q r x : List ℕ) (n : ℕ) → length c + length o + length p ≡ n
    → drop n (c ++ (o ++ (p ++ (q ++ r))) ++ x) ≡ q ++ (r ++ x)
behind c o p q r x n e =
    let g : c ++ (o ++ (p ++ (q ++ r))) ++ x ≡ c ++ o ++ p ++ (q ++ (r ++ x)) = simp append_assoc in
    rw g (drop_at (c ++ o ++ p) (q ++ (r ++ x)) n (simp length-append e))

-- behind 24 bytes and the entries of the lines before it stands line i's entry
pub entry_place : (ts : List Told) → length ts ≡ 8 → (rest : List ℕ) (i : ℕ) → i < 8
    → drop (24 + length (entries (take i ts))) (sheet_of ts ++ rest)
    ≡ entry_of (get_or ts i idle).entry ++ (entries (drop (suc i) ts) ++ rest)
unfolding sheet_of
entry_place ts n rest i h =
    let before = entries (take i ts) in
    let counted = length-map ts (λ (t : Told). t.count) in
    rw (entries_at ts i (omega arith))
    (behind (counts ts) (joined two_bytes (offsets 24 ts)) before (entry_of (get_or ts i idle).entry)
    (entries (drop (suc i) ts)) rest (24 + length before) (omega (arith, counted, offsets_length 24 ts)))

-- ---- Its offsets

-- there is one for each turn
offsets_count : (at : ℕ) (ts : List Told) → length (offsets at ts) ≡ length ts
offsets_count at [] = refl
offsets_count at (t ∷ ts) = ap suc (offsets_count (at + length (entry_of t.entry)) ts)

-- line i's is 0, or the place behind the entries of the lines before it
pub offset_at : (at : ℕ) (ts : List Told) (i : ℕ)
    → get_or (offsets at ts) i 0 ≡ offset_of (get_or ts i idle).entry (at + length (entries (take i ts)))
offset_at at [] i = refl
offset_at at (t ∷ ts) zero = rw add-zero
offset_at at (t ∷ ts) (suc i) =
    let own = entry_of t.entry in
    let before = entries (take i ts) in
    rw (length-append own before, ← (add_assoc at (length own) (length before))) (offset_at (at + length own) ts i)

-- an offset is no further on than the place of the entry
offset_most : (e : Option (Framed Entry)) (at : ℕ) → offset_of e at ≤ at
offset_most none at = omega arith
offset_most (some e) at = omega arith

-- no offset is past the places that short entries can take
offset_small : (at : ℕ) (ts : List Told) (i : ℕ) → T (every is_short ts)
    → get_or (offsets at ts) i 0 ≤ at + 134 * length ts
offset_small at [] i t = omega arith
offset_small at (x ∷ ts) zero t = omega (arith, offset_most x.entry at)
offset_small at (x ∷ ts) (suc i) t =
    let (short, more) = and_yes (is_short x) (every is_short ts) t in
    let own = length (entry_of x.entry) in
    omega (arith, leb→le own 134 short, offset_small (at + own) ts i more)

-- a number of 16 bits is given back by its two bytes
two_bytes_lem : (ns : List ℕ) (i : ℕ) → i < length ns → get_or ns i 0 < 65536
    → get_or (joined two_bytes ns) (2 * i) 0 + 256 * get_or (joined two_bytes ns) (1 + 2 * i) 0 ≡ get_or ns i 0
unfolding two_bytes
two_bytes_lem [] i h b = absurd (omega arith)
two_bytes_lem (n ∷ ns) zero h b = omega arith
two_bytes_lem (n ∷ ns) (suc i) h b =
    let e : 2 * suc i ≡ suc (suc (2 * i)) = omega arith in
    let f : 1 + 2 * suc i ≡ suc (suc (1 + 2 * i)) = omega arith in
    rw (f, e) (two_bytes_lem ns i (omega arith) b)

-- ---- Reading it

no_text : (d : List ℕ) → T (eqb (length d) 0) → d ≡ []
no_text [] t = refl
no_text (x ∷ d) t = let e = eqb→eq (suc (length d)) 0 t in absurd (omega arith)

-- such an entry reads back, whatever follows
read_entry_lem : (f : Framed Entry) (rest : List ℕ) → T (is_plain (some f)) → read_entry (entry_bytes f ++ rest) ≡ some f
unfolding read_entry entry_bytes two_bytes pick
read_entry_lem f rest t = rw number (go (eqb e.number 1) refl)
  where
    e : Entry
    e = f.what

    either : T (place_or_text e)
    either = (and_yes (ltb f.frame 65536) (place_or_text e) t).1

    number : f.frame % 256 + 256 * (f.frame / 256 % 256) ≡ f.frame
    number = omega (arith, ltb→lt f.frame 65536 (and_yes (ltb f.frame 65536) (place_or_text e) t).0)

    read : List ℕ → Entry
    read text = entry_by e.number (length e.label) (length e.stamp) (fourth_byte e) text

    go : (one : Bool) → eqb e.number 1 ≡ one → some (framed f.frame (read (text_of e ++ rest))) ≡ some f
    go true q =
        let u : T (eqb e.place 0) = rw q at either in
        let n = eqb-true e.number 1 q in
        let p = eqb→eq e.place 0 u in
        rw (q, n, p) (simp (append_assoc, take-append_seam, drop-append_seam))
    go false q =
        let u : T (eqb (length e.label) 0 && eqb (length e.stamp) 0 && eqb (length e.«data») 0) = rw q at either in
        let (v, d) = and_yes (eqb (length e.label) 0 && eqb (length e.stamp) 0) (eqb (length e.«data») 0) u in
        let (l, s) = and_yes (eqb (length e.label) 0) (eqb (length e.stamp) 0) v in
        rw (q, no_text e.label l, no_text e.stamp s, no_text e.«data» d)

-- a byte of the second stretch, behind the eight of the first
middle : (c o e x : List ℕ) (j : ℕ) → length c ≡ 8 → j < length o → get_or (c ++ (o ++ e) ++ x) (8 + j) 0 ≡ get_or o j 0
middle c o e x j n h =
    rw (append_assoc c (o ++ e) x, append_assoc o e x)
    (subst (λ (k : ℕ). get_or (c ++ (o ++ (e ++ x))) (k + j) 0 ≡ get_or o j 0) n
    (get_or-append-add c (o ++ (e ++ x)) j 0 ∙ get_or-append o (e ++ x) 0 j h))

module _ (ts : List Told) (n : length ts ≡ 8) (rest : List ℕ) (i : ℕ) (h : i < 8) where
  -- byte i is the count of line i
  count_read : get_or (sheet_of ts ++ rest) i 0 ≡ (get_or ts i idle).count
  unfolding sheet_of
  count_read =
      let offset = joined two_bytes (offsets 24 ts) in
      let counted = length-map ts (λ (t : Told). t.count) in
      rw (append_assoc (counts ts) (offset ++ entries ts) rest)
      (get_or-append (counts ts) (offset ++ entries ts ++ rest) 0 i (omega arith)
      ∙ get_or-map (λ (t : Told). t.count) ts i idle)

  -- bytes 8 + 2i and 9 + 2i are the offset of line i
  offset_read : T (every is_short ts)
      → get_or (sheet_of ts ++ rest) (8 + 2 * i) 0 + 256 * get_or (sheet_of ts ++ rest) (9 + 2 * i) 0
      ≡ get_or (offsets 24 ts) i 0
  unfolding sheet_of
  offset_read t =
      let offset = joined two_bytes (offsets 24 ts) in
      let counted = length-map ts (λ (t : Told). t.count) in
      let long = offsets_length 24 ts in
      let f : 9 + 2 * i ≡ 8 + (1 + 2 * i) = omega arith in
      rw (
        f,
        middle (counts ts) offset (entries ts) rest (2 * i) (omega arith) (omega arith),
        middle (counts ts) offset (entries ts) rest (1 + 2 * i) (omega arith) (omega arith),
      )
      (two_bytes_lem (offsets 24 ts) i (omega (arith, offsets_count 24 ts)) (omega (arith, offset_small 24 ts i t)))

  -- at the offset of line i stands its entry, if it has one
  entry_read : T (is_plain (get_or ts i idle).entry) → entry_at (sheet_of ts ++ rest) (get_or (offsets 24 ts) i 0) ≡ (get_or ts i idle).entry
  unfolding entry_at pick
  entry_read plain = rw (offset_at 24 ts i) (go (get_or ts i idle).entry refl)
    where
      place : ℕ
      place = 24 + length (entries (take i ts))

      go : (e : Option (Framed Entry)) → (get_or ts i idle).entry ≡ e → entry_at (sheet_of ts ++ rest) (offset_of e place) ≡ e
      go none q = refl
      go (some e) q =
          rw (ne_eqb place 0 (λ z. omega arith), entry_place ts n rest i h, q)
          (read_entry_lem e (entries (drop (suc i) ts) ++ rest) (subst (λ (o : Option (Framed Entry)). T (is_plain o)) q plain))

-- a sheet gives back what each line's turn was, whatever bytes follow it
pub reads_back : (ts : List Told) → length ts ≡ 8 → T (every is_short ts) → T (every (λ (x : Told). is_plain x.entry) ts)
    → (rest : List ℕ) (i : ℕ) → i < 8 → read_turn (sheet_of ts ++ rest) i ≡ get_or ts i idle
unfolding read_turn
reads_back ts n t plain rest i h =
    let own = every_at (λ (x : Told). is_plain x.entry) ts idle plain i (omega arith) in
    rw (count_read ts n rest i h, offset_read ts n rest i h t, entry_read ts n rest i h own)
